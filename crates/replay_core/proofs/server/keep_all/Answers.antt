use Rattle.std.proofs.Common.{◌≡◌, ℕ, ◌<◌, List, [], ◌∷◌, length, refl, ap, sym, ◌∙◌, arith, length-set}
use Rattle.std.specs.Vec.Iter.{into_iter_items}
use Rattle.std.proofs.lemmas.Option.{slice_get_read}
use Rattle.net_driver.specs.declared.report.PlayerTick.{PlayerTick}
use Rattle.replay_core.proofs.Ticks.{kept_one, kept_left, kept_all}
use Rattle.replay_core.proofs.server.keep_all.Goals as goal

nothing_left : (l : List PlayerTick) → length l ≡ 0 → l ≡ []
nothing_left [] h = refl
nothing_left (x ∷ xs) h = absurd (omega arith)

below : (i n m : ℕ) → i < n → n ≡ m → i < m
below i n m h e = omega arith

pub returns-in_default : goal.returns-in_default
returns-in_default c = λ layout edits players a t.
    let at = c.loop-i.invariant in
    let empty : into_iter_items c.loop-i.left ≡ [] = nothing_left _ (sym at.short ∙ c.in_default.ensures.cases.0) in
    absurd (kept_left layout edits players c.loop-i.places.items c.loop-i.i _ _
    (rw empty at at.kept layout edits players a t)
    (below _ _ _ c.loop-i-test.true at.whole))

pub loop-i-preserved : goal.loop-i-preserved
loop-i-preserved c =
    let at = c.loop-i.invariant in
    let steps : into_iter_items c.loop-i.left ≡ c.in-Some.ticked ∷ into_iter_items c.next.new.self =
    c.in-Some.ensures.cases.0 in
    let items = c.loop-i.places.items in
    let within : c.loop-i.i < length items = below _ _ _ c.loop-i-test.true at.whole in
    record {
      whole = at.whole ∙ sym (length-set items c.loop-i.i c.keep_sent.new.self);
      short = (let was = at.short in let gone = c.in-Some.ensures.len in let shorter = ap length steps in omega arith);
      kept = λ layout edits players a t. kept_one layout edits players items c.in-Some.ticked _ c.loop-i.i _ _ _
          c.index_mut.result.now c.keep_sent.new.self (rw steps at at.kept layout edits players a t) within
          (slice_get_read items (length items) c.loop-i.i c.index_mut.result.now refl within c.index_mut.ensures.value)
          (λ p of stands. c.in_ok-keep_sent.ensures layout edits p of stands);
    }

pub returns : goal.returns
returns c = λ layout edits players a t.
    let at = c.loop-i.invariant in
    let whole = at.whole in
    kept_all layout edits players c.loop-i.places.items _ c.loop-i.i _ _ (at.kept layout edits players a t)
    (omega arith)
