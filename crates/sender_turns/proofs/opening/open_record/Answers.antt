use Rattle.std.proofs.Common.{◌≡◌, ◌++◌, [], ℕ, List, refl, sym, subst}
use Rattle.std.proofs.lemmas.Bool.{eq-eqb}
use Rattle.protocol_model.specs.Payload.{Opens}
use Rattle.protocol_model.specs.World.{no_class}
use Rattle.change_model.specs.Changes.{Sample}
use Rattle.connection_model.specs.Bunches.{after_making}
use Rattle.value_codec.specs.declared.pair.Pair.{Pair as PairValue}
use Rattle.shadow_changes.specs.Samples.{samples_of}
use Rattle.sender_records.specs.Handles.{KeepsHandles, AreNewest, pairs_of}
use Rattle.sender_turns.proofs.Unsent.{none_unsent}
use Rattle.sender_turns.proofs.opening.open_record.Goals as goal

pub returns-clause-keeps : goal.returns-clause-keeps
returns-clause-keeps c = λ sent past samples exports shown k some may.
    let a : ℕ = c.args.seen.now.actor in
    let own : List Sample = samples_of samples a in
    let is : c.as_slice-values.result.now ≡ c.args.seen.now.values = c.as_slice-values.ensures in
    record {
      life = c.opens-2.ensures.keeps sent past exports a shown (pairs_of c.args.seen.now.values) k.life may.sends
          may.made may.clear;
      service = c.serves.ensures.opened sent past c.args.index a
          (Opens exports a shown (pairs_of c.args.seen.now.values)) k.service may.sends may.unsent
          (eq-eqb a a refl) may.now some;
      handles = λ o. subst (λ (vs : List PairValue). KeepsHandles (sent ++ after_making past c.args.index
          (Opens exports a shown (pairs_of vs))) own a c.opens.new.self) is
          (c.in_ok-opens.ensures.keeps sent past c.args.index a exports shown own may.sends may.unsent may.now
          (subst (λ (vs : List PairValue). AreNewest own c.args.sampled vs) (sym is) may.sampled) may.turn);
    }

pub returns-clause-unsent : goal.returns-clause-unsent
returns-clause-unsent c = λ past samples now sampled turn h.
    let a : ℕ = c.args.seen.now.actor in
    let is : c.as_slice-values.result.now ≡ c.args.seen.now.values = c.as_slice-values.ensures in
    none_unsent c.opens.new.self samples a c.args.tick c.args.index no_class (pairs_of c.args.seen.now.values)
    (λ p e. subst (λ (vs : List PairValue). KeepsHandles (after_making p c.args.index
    (Opens [] a no_class (pairs_of vs))) samples a c.opens.new.self) is
    (c.in_ok-opens.ensures.keeps [] p c.args.index a [] no_class samples refl refl e
    (subst (λ (vs : List PairValue). AreNewest samples c.args.sampled vs) (sym is) sampled) turn))
    past now h
