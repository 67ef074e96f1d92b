use Rattle.std.proofs.Common.{◌≡◌, ℕ, suc, ◌-◌, ◌<◌, List, [], ◌∷◌, map, length, drop, drop-cons, refl, sym, ap, ◌∙◌, subst, arith}
use Rattle.value_codec.specs.declared.pair.Pair.{Pair}
use Rattle.actor_copies.specs.Kept.{IsNumbered, set_one, set_all}
use Rattle.actor_copies.proofs.ValueSteps.{SetSoFar, set_none, set_more, set_numbered, one_keeps}
use Rattle.actor_copies.proofs.values.set_values.Goals as goal

none_left : (pairs : List Pair) → drop (length pairs) pairs ≡ []
none_left [] = refl
none_left (p ∷ pairs) = none_left pairs

pub loop-rest-init : goal.loop-rest-init
loop-rest-init c = record {
  set = sym (ap (λ (ps : List Pair). map (set_all ps) c.args.values.now) (none_left c.args.pairs.now)
      ∙ set_none c.args.values.now);
  numbered = c.requires;
  within = omega arith;
}

step : (values now next pairs : List Pair) (rest : ℕ) (p : Pair) → SetSoFar values now pairs rest → 0 < rest
    → drop (rest - 1) pairs ≡ p ∷ drop rest pairs → next ≡ map (set_one p) now → SetSoFar values next pairs (rest - 1)
step values now next pairs rest p s l d e = record {
  set = e ∙ ap (map (set_one p)) s.set ∙ set_more p (drop rest pairs) values
      ∙ ap (λ (ps : List Pair). map (set_all ps) values) (sym d);
  numbered = subst (IsNumbered 1) (sym e) (set_numbered 1 now (set_one p) (one_keeps p) s.numbered);
  within = let w = s.within in omega (arith, w);
}

pub loop-rest-preserved : goal.loop-rest-preserved
loop-rest-preserved c =
    let within = c.loop-rest.invariant.within in
    let next : suc (c.loop-rest.rest - 1) ≡ c.loop-rest.rest = omega arith in
    step c.args.values.now c.loop-rest.values c.set_value.new.values c.args.pairs.now c.loop-rest.rest
    c.index-pairs-rest.result c.loop-rest.invariant (omega arith)
    (drop-cons c.args.pairs.now (c.loop-rest.rest - 1) c.index-pairs-rest.result (omega arith)
    ∙ ap (λ (p : Pair). p ∷ drop (suc (c.loop-rest.rest - 1)) c.args.pairs.now) (sym c.index-pairs-rest.is)
    ∙ ap (λ (n : ℕ). c.index-pairs-rest.result ∷ drop n c.args.pairs.now) next)
    c.set_value.ensures
