-- Whether two faults, or two tested ends, are one.
use Rattle.std.specs.Prelude.{ℕ, Bool, true, false, not, ◌==◌, ◌&&◌, Option, Some, None}
use Rattle.mq_rules.specs.declared.role.Role.{Role}
use Rattle.mq_rules.specs.declared.role.Role.TheVariants.{Client, Server}
use Rattle.mq_rules.specs.declared.role.Further.{Further}
use Rattle.mq_rules.specs.declared.role.Tested.{Tested}
use Rattle.mq_rules.specs.declared.fault.Fault.{Fault}
use Rattle.mq_rules.specs.declared.faults.FaultKey.{FaultKey}
use Rattle.mq_rules.specs.Rules.{same_rule}

-- one position and one statement
abbrev pub same_key : FaultKey → FaultKey → Bool
same_key k l = (k.position == l.position) && same_rule k.rule l.rule

-- one offset, or none in both
abbrev pub same_offset : Option ℕ → Option ℕ → Bool
same_offset None None = true
same_offset None (Some b) = false
same_offset (Some a) None = false
same_offset (Some a) (Some b) = a == b

-- decided at one position, in one record, at one offset
abbrev pub same_fault : Fault → Fault → Bool
same_fault f g = (f.decided == g.decided) && ((f.record_no == g.record_no) && same_offset f.offset g.offset)

-- one role
abbrev pub same_role : Role → Role → Bool
same_role Client Client = true
same_role Client Server = false
same_role Server Client = false
same_role Server Server = true

-- both or neither
abbrev pub same_flag : Bool → Bool → Bool
same_flag true b = b
same_flag false b = not b

-- the same further statements are judged
abbrev pub same_further : Further → Further → Bool
same_further a b = same_flag a.on_request b.on_request && same_flag a.with_times b.with_times

-- one role, both record releases or neither, and the same further statements are judged
abbrev pub same_end : Tested → Tested → Bool
same_end a b = same_role a.role b.role && (same_flag a.releases b.releases && same_further a.further b.further)
