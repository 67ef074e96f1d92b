use Rattle.std.proofs.Common.{◌≡◌, ◌∙◌, ap, sym, subst, map, length, List}
use Rattle.change_model.specs.Changes.{changes_since}
use Rattle.value_codec.specs.declared.pair.Pair.{Pair}
use Rattle.shadow_changes.specs.Samples.{change_value, samples_of}
use Rattle.protocol_model.specs.Value as Model
use Rattle.protocol_model.specs.Value.{value_among}
use Rattle.sender_records.specs.Handles.{AreApart, IsSampled, AllBelow, is_updatable_in, pairs_of}
use Rattle.sender_turns.specs.Turning.{AreSampled}
use Rattle.sender_turns.proofs.Comparing.{in_turn, sampled, due_marked}
use Rattle.sender_turns.proofs.turns.compare.Goals as goal

pub returns-clause-keeps : goal.returns-clause-keeps
returns-clause-keeps c = λ past samples k ticks s h.
    let told : map change_value c.as_slice-2.result.now ≡ changes_since
    (samples_of samples c.args.seen.now.actor) c.args.handles.now.compared =
    ap (map change_value) c.as_slice-2.ensures ∙ c.in_ok-changed.ensures.changes samples k
    ∙ ap (changes_since (samples_of samples c.args.seen.now.actor)) c.compared.ensures in
    c.in_ok-compares.ensures.keeps past c.args.seen.now.actor (samples_of samples c.args.seen.now.actor) h ticks
    (sampled (samples_of samples c.args.seen.now.actor) c.args.handles.now.compared c.as_slice.result.now
    c.as_slice-2.result.now
    (subst (AreSampled (samples_of samples c.args.seen.now.actor)) (sym c.as_slice.ensures) s) told)
    (in_turn (samples_of samples c.args.seen.now.actor) ((k.each c.args.seen.now.actor).rising))

pub returns-clause-compared : goal.returns-clause-compared
returns-clause-compared c = λ layout past samples class k earlier s h.
    let told : map change_value c.as_slice-2.result.now ≡ changes_since
    (samples_of samples c.args.seen.now.actor) c.args.handles.now.compared =
    ap (map change_value) c.as_slice-2.ensures ∙ c.in_ok-changed.ensures.changes samples k
    ∙ ap (changes_since (samples_of samples c.args.seen.now.actor)) c.compared.ensures in
    let is_sampled : IsSampled (samples_of samples c.args.seen.now.actor) c.args.handles.now.compared
    c.as_slice.result.now c.as_slice-2.result.now =
    sampled (samples_of samples c.args.seen.now.actor) c.args.handles.now.compared c.as_slice.result.now
    c.as_slice-2.result.now
    (subst (AreSampled (samples_of samples c.args.seen.now.actor)) (sym c.as_slice.ensures) s) told in
    record {
      due = due_marked layout past c.args.seen.now c.compares.new.self s.0 (λ n v among up.
          c.in_ok-compares.ensures.due past c.args.seen.now.actor
          (samples_of samples c.args.seen.now.actor) layout.segments n v h is_sampled
          (ap (λ (vs : List Pair). value_among (pairs_of vs) n) c.as_slice.ensures ∙ among)
          (ap (λ (m : Model.Class). is_updatable_in m c.args.seen.now.owns n) (sym class) ∙ up));
      room = subst (AllBelow (length c.compares.new.self.handles)) c.as_slice.ensures c.in_ok-compares.ensures.room;
      current = c.in_ok-compares.ensures.current (samples_of samples c.args.seen.now.actor)
          (in_turn (samples_of samples c.args.seen.now.actor) ((k.each c.args.seen.now.actor).rising)) told;
    }

pub returns-clause-packets : goal.returns-clause-packets
returns-clause-packets c = λ apart h.
    c.in_ok-compares.ensures.packets (subst (λ (vs : List Pair). AreApart (pairs_of vs))
    (sym c.as_slice.ensures) apart) h
