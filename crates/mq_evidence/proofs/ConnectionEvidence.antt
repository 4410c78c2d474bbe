-- The evidence of the statements that are judged by the past of a connection looks at no fate, and at no REST.
use Rattle.std.proofs.Common.{◌≡◌, ℕ, true, cond, List, Option, Some, None, refl, ap, ◌∙◌}
use Rattle.std.specs.Prelude.{unwrap_or, option_map}
use Rattle.std.specs.Option.{option_and_then}
use Rattle.mq_rules.specs.declared.role.Role.{Role}
use Rattle.mq_rules.specs.declared.role.Role.TheVariants.{Client, Server}
use Rattle.mq_rules.specs.declared.role.Tested.{Tested}
use Rattle.mq_rules.specs.declared.fate.Fate.{Fate}
use Rattle.mq_rules.specs.declared.rule.Rule.{Rule}
use Rattle.mq_rules.specs.declared.rule.Rule.TheVariants.{C03, C06, C07, C08, C10, C11, C12, C13, C14, C15, C16, C17, C20, C21, C22, C23, F01, F02, F03, F04, F05, F06, A01, A02, A03, K01, K02}
use Rattle.mq_rules.specs.declared.note.Seen.{Seen}
use Rattle.mq_rules.specs.Moments.{Moment, moment}
use Rattle.mq_rules.specs.Connections.{number, fate}
use Rattle.mq_rules.specs.Statements.{fails}
use Rattle.mq_rules.specs.Faults.{decided}
use Rattle.mq_rules.specs.Evidence.{nothing}
use Rattle.mq_evidence.specs.Evidence.{found, reason, evidence}
use Rattle.mq_evidence.specs.ConnectionTrails.{is_of_client, is_of_server, is_on_connection, connection_evidence}

client-past : (r : Rule) → is_of_client r ≡ true → (f : Option Fate) (t : Option Moment) (k : Moment) → found (reason Client r) f t k ≡ found (reason Client r) None None k
client-past C03 h f t k = refl
client-past C11 h f t k = refl
client-past C13 h f t k = refl
client-past C14 h f t k = refl
client-past C15 h f t k = refl
client-past C16 h f t k = refl
client-past C17 h f t k = refl
client-past C20 h f t k = refl
client-past C23 h f t k = refl
client-past F01 h f t k = refl
client-past F02 h f t k = refl
client-past F03 h f t k = refl
client-past F04 h f t k = refl
client-past A01 h f t k = refl
client-past A02 h f t k = refl
client-past A03 h f t k = refl
client-past K01 h f t k = refl
client-past _ h f t k = absurd (cc)

server-past : (r : Rule) → is_of_server r ≡ true → (f : Option Fate) (t : Option Moment) (k : Moment) → found (reason Server r) f t k ≡ found (reason Server r) None None k
server-past C06 h f t k = refl
server-past C07 h f t k = refl
server-past C08 h f t k = refl
server-past C10 h f t k = refl
server-past C11 h f t k = refl
server-past C12 h f t k = refl
server-past C14 h f t k = refl
server-past C15 h f t k = refl
server-past C16 h f t k = refl
server-past C21 h f t k = refl
server-past C22 h f t k = refl
server-past C23 h f t k = refl
server-past F05 h f t k = refl
server-past F06 h f t k = refl
server-past A02 h f t k = refl
server-past A03 h f t k = refl
server-past K02 h f t k = refl
server-past _ h f t k = absurd (cc)

past-alone : (role : Role) (r : Rule) → is_on_connection role r ≡ true → (f : Option Fate) (t : Option Moment) (k : Moment) → found (reason role r) f t k ≡ found (reason role r) None None k
past-alone Client r h f t k = client-past r h f t k
past-alone Server r h f t k = server-past r h f t k

-- So what is found by the past of a connection is the evidence of the whole log.
pub evidence-on-connection : (tested : Tested) (log : List Seen) (k : ℕ) (r : Rule) → is_on_connection tested.role r ≡ true → fails tested log k r ≡ true
    → evidence tested log k r ≡ connection_evidence tested log k r
unfolding evidence
evidence-on-connection tested log k r finds fails_there =
    ap (λ b. cond b (unwrap_or (option_map (λ m. found (reason tested.role r) (fate tested.role (number m) log) shown m) (moment log k)) nothing) nothing) fails_there
    ∙ go (moment log k)
  where
    shown : Option Moment
    shown = option_and_then (moment log) (decided tested log k r)

    go : (o : Option Moment) → unwrap_or (option_map (λ m. found (reason tested.role r) (fate tested.role (number m) log) shown m) o) nothing
        ≡ unwrap_or (option_map (λ m. found (reason tested.role r) None None m) o) nothing
    go None = refl
    go (Some m) = past-alone tested.role r finds (fate tested.role (number m) log) shown m
