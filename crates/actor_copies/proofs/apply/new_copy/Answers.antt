use Rattle.std.proofs.Common.{List, map, refl, sym, ap, ◌∙◌, subst}
use Rattle.protocol_model.specs.Value.{Class}
use Rattle.value_codec.specs.declared.pair.Pair.{Pair}
use Rattle.actor_copies.specs.Kept.{IsNumbered, set_all}
use Rattle.actor_copies.specs.Copies.{initial_values}
use Rattle.actor_copies.proofs.ValueSteps.{set_numbered}
use Rattle.actor_copies.proofs.apply.new_copy.Goals as goal

pub returns : goal.returns
returns c =
    let set = c.set_list.ensures
    ∙ ap (λ (pairs : List Pair). map (set_all pairs) c.in_ok-values.values) c.as_slice.ensures in
    record {
      named = refl;
      class = refl;
      channel = refl;
      begun = c.in_ok-values.values;
      begins = c.in_ok-values.ensures.values c.args.classes.now.segments
          ∙ ap (λ (class : Class). initial_values class) c.class_at.ensures.class;
      values = set;
      numbered = subst (IsNumbered 1) (sym set)
          (set_numbered 1 c.in_ok-values.values (set_all c.args.read.values) (λ q. refl)
          c.in_ok-values.ensures.numbered);
    }
