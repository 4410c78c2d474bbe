use Rattle.std.proofs.Common.{List, ℕ, sym, ap, subst, ◌∙◌}
use Rattle.std.specs.List.{flat_map}
use Rattle.mq_props.specs.Props.{prop_view}
use Rattle.mq_props.specs.Values.{Property}
use Rattle.mq_display.specs.Details.{property_after}
use Rattle.mq_display.specs.Detailing.{shown_words}
use Rattle.mq_display.specs.ItemText.{with_spaces}
use Rattle.mq_display.specs.Outgoing.{Puts}
use Rattle.mq_display.proofs.DetailLaws.{PutsSome, puts_some_begin, puts_some_end, puts_first, named_so}
use Rattle.mq_display.proofs.display.details.property.put_properties.Goals as goal

pub loop-prop-init : goal.loop-prop-init
loop-prop-init g c =
    let all = with_spaces (flat_map (property_after c.args.prefix.now) c.args.properties.now.items) in
    subst (λ (l : List Property). PutsSome g.W.Write.contents c.args.out.now all (with_spaces (flat_map (property_after c.args.prefix.now) l)) c.args.out.now)
    (sym (c.into_iter-prop-iterator.ensures.into_iter_gives ∙ c.iter-prop-items.ensures)) (puts_some_begin g.W.Write.contents c.args.out.now all)

pub loop-prop-preserved : goal.loop-prop-preserved
loop-prop-preserved g c =
    puts_first g.W.Write.contents _ c.loop-prop.out _ (property_after c.args.prefix.now) _ (prop_view c.in-Some.prop) _ c.next.new.self c.in-Some.ensures.steps
    c.loop-prop.invariant
    (subst (λ (l : List (List ℕ)). Puts g.W.Write.contents c.loop-prop.out (with_spaces l) c.put_detail.new.out)
    (named_so c.args.prefix.now c.missing_prefix.result.now c.property_detail-detail.result.name.now (shown_words c.property_detail-detail.result.value)
    (prop_view c.in-Some.prop) c.missing_prefix.ensures c.property_detail-detail.ensures.name c.property_detail-detail.ensures.value) c.put_detail.ensures)

pub returns : goal.returns
returns g c =
    puts_some_end g.W.Write.contents _ _ _ _ c.loop-prop.invariant (ap (λ (l : List Property). with_spaces (flat_map (property_after c.args.prefix.now) l)) c.in-None.ensures.steps.0)
