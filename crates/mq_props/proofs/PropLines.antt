-- Each property has a line in the table, whose type is that of its value.
use Rattle.std.proofs.Common.{◌≡◌, Some, refl}
use Rattle.mq_props.specs.declared.prop.Prop.{Prop}
use Rattle.mq_props.specs.declared.prop.Prop.TheVariants as props
use Rattle.mq_props.specs.Table.{Line, row_of, rows}
use Rattle.mq_props.specs.Values.{value_type}
use Rattle.mq_props.specs.Props.{prop_view}

-- a line of the property
pub record HasLine (p : Prop) : Type 0 where
  pub line : Line
  pub known : row_of (prop_view p).id ≡ Some line
  pub typed : value_type (prop_view p).value ≡ line.kind

pub prop_line : (p : Prop) → HasLine p
unfolding row_of rows
prop_line (props.PayloadFormatIndicator x) = record { line = _; known = refl; typed = refl }
prop_line (props.MessageExpiryInterval x) = record { line = _; known = refl; typed = refl }
prop_line (props.ContentType x) = record { line = _; known = refl; typed = refl }
prop_line (props.ResponseTopic x) = record { line = _; known = refl; typed = refl }
prop_line (props.CorrelationData x) = record { line = _; known = refl; typed = refl }
prop_line (props.SubscriptionIdentifier x) = record { line = _; known = refl; typed = refl }
prop_line (props.SessionExpiryInterval x) = record { line = _; known = refl; typed = refl }
prop_line (props.AssignedClientIdentifier x) = record { line = _; known = refl; typed = refl }
prop_line (props.ServerKeepAlive x) = record { line = _; known = refl; typed = refl }
prop_line (props.AuthenticationMethod x) = record { line = _; known = refl; typed = refl }
prop_line (props.AuthenticationData x) = record { line = _; known = refl; typed = refl }
prop_line (props.RequestProblemInformation x) = record { line = _; known = refl; typed = refl }
prop_line (props.WillDelayInterval x) = record { line = _; known = refl; typed = refl }
prop_line (props.RequestResponseInformation x) = record { line = _; known = refl; typed = refl }
prop_line (props.ResponseInformation x) = record { line = _; known = refl; typed = refl }
prop_line (props.ServerReference x) = record { line = _; known = refl; typed = refl }
prop_line (props.ReasonString x) = record { line = _; known = refl; typed = refl }
prop_line (props.ReceiveMaximum x) = record { line = _; known = refl; typed = refl }
prop_line (props.TopicAliasMaximum x) = record { line = _; known = refl; typed = refl }
prop_line (props.TopicAlias x) = record { line = _; known = refl; typed = refl }
prop_line (props.MaximumQos x) = record { line = _; known = refl; typed = refl }
prop_line (props.RetainAvailable x) = record { line = _; known = refl; typed = refl }
prop_line (props.UserProperty name value) = record { line = _; known = refl; typed = refl }
prop_line (props.MaximumPacketSize x) = record { line = _; known = refl; typed = refl }
prop_line (props.WildcardSubscriptionAvailable x) = record { line = _; known = refl; typed = refl }
prop_line (props.SubscriptionIdentifierAvailable x) = record { line = _; known = refl; typed = refl }
prop_line (props.SharedSubscriptionAvailable x) = record { line = _; known = refl; typed = refl }
