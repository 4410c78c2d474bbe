-- Bare packets.
use Rattle.std.proofs.Common.{◌≡◌, ℕ, false, None, refl}
use Rattle.mq_log.specs.declared.kind.Direction.{Direction}
use Rattle.mq_log.specs.declared.kind.Direction.TheVariants.{Sent, Recv}
use Rattle.mq_rules.specs.declared.bare.Bare.{Bare}
use Rattle.mq_rules.specs.declared.bare.BareFields.{BareFields}
use Rattle.mq_rules.specs.declared.bare.BareFields.TheVariants as bares
use Rattle.mq_rules.specs.Notes.{bare_note, bare_fields, note_of_bare, is_rest}
use Rattle.mq_fates.specs.Taking.{ends_by, announced}
use Rattle.mq_rules.specs.declared.role.Role.{Role}
use Rattle.mq_rules.specs.declared.role.Role.TheVariants.{Client, Server}

awake-note : (direction : Direction) (size : ℕ) (fields : BareFields) → is_rest (bare_note direction size (bare_fields direction fields)) ≡ false
awake-note Sent size fields = refl
awake-note Recv size fields = refl

-- one is no REST
pub bare-awake : (b : Bare) → is_rest (note_of_bare b) ≡ false
unfolding note_of_bare
bare-awake b = awake-note b.direction b.size b.fields

unended-note : (direction : Direction) (size : ℕ) (fields : BareFields) → ends_by (bare_note direction size (bare_fields direction fields)) ≡ false
unended-note Sent size (bares.Publish identifier qos duplicate topic) = refl
unended-note Sent size (bares.Puback identifier code) = refl
unended-note Sent size (bares.Pubrec identifier code) = refl
unended-note Sent size (bares.Pubrel identifier code) = refl
unended-note Sent size (bares.Pubcomp identifier code) = refl
unended-note Sent size bares.Pingreq = refl
unended-note Sent size bares.Pingresp = refl
unended-note Recv size (bares.Publish identifier qos duplicate topic) = refl
unended-note Recv size (bares.Puback identifier code) = refl
unended-note Recv size (bares.Pubrec identifier code) = refl
unended-note Recv size (bares.Pubrel identifier code) = refl
unended-note Recv size (bares.Pubcomp identifier code) = refl
unended-note Recv size bares.Pingreq = refl
unended-note Recv size bares.Pingresp = refl

-- after one a REST may bind
pub bare-unended : (b : Bare) → ends_by (note_of_bare b) ≡ false
unfolding note_of_bare
bare-unended b = unended-note b.direction b.size b.fields

announces-nothing-note : (role : Role) (direction : Direction) (size : ℕ) (fields : BareFields) → announced role (bare_note direction size (bare_fields direction fields)) ≡ None
announces-nothing-note Client Sent size (bares.Publish identifier qos duplicate topic) = refl
announces-nothing-note Client Sent size (bares.Puback identifier code) = refl
announces-nothing-note Client Sent size (bares.Pubrec identifier code) = refl
announces-nothing-note Client Sent size (bares.Pubrel identifier code) = refl
announces-nothing-note Client Sent size (bares.Pubcomp identifier code) = refl
announces-nothing-note Client Sent size bares.Pingreq = refl
announces-nothing-note Client Sent size bares.Pingresp = refl
announces-nothing-note Client Recv size (bares.Publish identifier qos duplicate topic) = refl
announces-nothing-note Client Recv size (bares.Puback identifier code) = refl
announces-nothing-note Client Recv size (bares.Pubrec identifier code) = refl
announces-nothing-note Client Recv size (bares.Pubrel identifier code) = refl
announces-nothing-note Client Recv size (bares.Pubcomp identifier code) = refl
announces-nothing-note Client Recv size bares.Pingreq = refl
announces-nothing-note Client Recv size bares.Pingresp = refl
announces-nothing-note Server Sent size (bares.Publish identifier qos duplicate topic) = refl
announces-nothing-note Server Sent size (bares.Puback identifier code) = refl
announces-nothing-note Server Sent size (bares.Pubrec identifier code) = refl
announces-nothing-note Server Sent size (bares.Pubrel identifier code) = refl
announces-nothing-note Server Sent size (bares.Pubcomp identifier code) = refl
announces-nothing-note Server Sent size bares.Pingreq = refl
announces-nothing-note Server Sent size bares.Pingresp = refl
announces-nothing-note Server Recv size (bares.Publish identifier qos duplicate topic) = refl
announces-nothing-note Server Recv size (bares.Puback identifier code) = refl
announces-nothing-note Server Recv size (bares.Pubrec identifier code) = refl
announces-nothing-note Server Recv size (bares.Pubrel identifier code) = refl
announces-nothing-note Server Recv size (bares.Pubcomp identifier code) = refl
announces-nothing-note Server Recv size bares.Pingreq = refl
announces-nothing-note Server Recv size bares.Pingresp = refl

-- none announces a Receive Maximum
pub announces-nothing : (role : Role) (b : Bare) → announced role (note_of_bare b) ≡ None
unfolding note_of_bare
announces-nothing role b = announces-nothing-note role b.direction b.size b.fields
