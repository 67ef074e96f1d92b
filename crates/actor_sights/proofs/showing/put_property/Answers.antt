use Rattle.std.proofs.Common.{◌+◌, List, length, refl, sym, subst, ◌∙◌, arith}
use Rattle.std.specs.Prelude.{IsTrue}
use Rattle.value_codec.specs.declared.pair.Pair.{Pair}
use Rattle.payload_writing.specs.Values.{pairs_fit}
use Rattle.std.proofs.lemmas.Option.{slice_get_read}
use Rattle.class_layout.specs.Tables.{table_in}
use Rattle.actor_sights.proofs.Fits.{fit_more, own_fits}
use Rattle.actor_sights.proofs.Property.{pushed, has_value}
use Rattle.actor_sights.proofs.showing.put_property.Goals as goal

pub returns-in_ok-push-clause-pairs : goal.returns-in_ok-push-clause-pairs
returns-in_ok-push-clause-pairs c = λ edits player p stands own at cond values.
    pushed (table_in c.args.world.now.layout) edits player c.args.actor c.args.i p c.args.cond c.args.owns
    c.switched.result c.args.pairs.now c.push.new.self
    c.args.values.now c.in-Some.value.now own at cond (c.switched.ensures edits stands) (sym c.visible.ensures
    ∙ c.if-not-visible.false) values
    (slice_get_read c.args.values.now (length c.args.values.now) (c.args.i + 2) c.in-Some.value.now refl
    c.in-Some.ensures.lookup.3.0 c.in-Some.ensures.lookup.1) c.in_ok-push.ensures.ok

pub returns-in_default-clause-pairs : goal.returns-in_default-clause-pairs
returns-in_default-clause-pairs c = λ edits player p stands own at cond values.
    let h = has_value (table_in c.args.world.now.layout) edits c.args.actor c.args.i p c.args.values.now values at in
    absurd (let p = c.in_default.ensures.lookup.3 in omega (h, p, arith))

pub returns-in_ok-push-clause-fit : goal.returns-in_ok-push-clause-fit
returns-in_ok-push-clause-fit c = λ k p at values fit.
    subst (λ (ps : List Pair). IsTrue (pairs_fit k ps)) (sym c.in_ok-push.ensures.ok)
    (fit_more k c.args.pairs.now _ fit
    (own_fits k c.args.i p c.args.values.now c.in-Some.value.now at values
    (slice_get_read c.args.values.now (length c.args.values.now) (c.args.i + 2) c.in-Some.value.now refl
    c.in-Some.ensures.lookup.3.0 c.in-Some.ensures.lookup.1)))
