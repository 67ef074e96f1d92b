use Rattle.std.proofs.Common.{◌≡◌, ◌≢◌, ◌∙◌, ℕ, ◌<◌, ◌≤◌, List, Some, length, ap, sym, subst}
use Rattle.std.specs.List.{slice_get}
use Rattle.connection_laws.specs.Run.{Ascends}
use Rattle.protocol_model.specs.Search.{is_among}
use Rattle.sender_turns.proofs.Inserting.{ascends_insert, among_insert, among_there, above_place}
use Rattle.sender_turns.proofs.opening.insert_live.Goals as goal

pub returns-clause-ascends : goal.returns-clause-ascends
returns-clause-ascends c = λ some h.
    let xs : List ℕ = c.args.live.now.items in
    let at : ℕ = c.place_of-at.result in
    let a : ℕ = c.args.actor in
    subst (Ascends 0) (sym c.in_ok-insert.ensures.items)
    (ascends_insert xs at a some h
    (subst (λ (ys : List ℕ). at ≤ length ys) c.as_slice.ensures.value c.place_of-at.ensures.most)
    (subst (λ (ys : List ℕ). (i b : ℕ) → slice_get ys i ≡ Some b → i < at → b < a) c.as_slice.ensures.value
    c.place_of-at.ensures.before)
    (above_place xs at a
    (subst (λ (ys : List ℕ). (b : ℕ) → slice_get ys at ≡ Some b → a ≤ b) c.as_slice.ensures.value
    c.place_of-at.ensures.there)
    (subst (λ (ys : List ℕ). slice_get ys at ≢ Some a) c.as_slice-2.ensures.value
    (c.is_at.ensures.other c.if-is_at.false))))

pub returns-clause-among : goal.returns-clause-among
returns-clause-among c = λ b.
    ap (is_among b) c.in_ok-insert.ensures.items
    ∙ among_insert c.args.live.now.items c.place_of-at.result c.args.actor b

pub returns-then-is_at-clause-among : goal.returns-then-is_at-clause-among
returns-then-is_at-clause-among c = λ b.
    among_there c.args.live.now.items c.place_of-at.result c.args.actor b
    (subst (λ (ys : List ℕ). slice_get ys c.place_of-at.result ≡ Some c.args.actor) c.as_slice-2.ensures.value
    (c.is_at.ensures.there c.if-is_at.true))
