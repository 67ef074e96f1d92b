-- Each message was made where it has its place.
use Rattle.std.proofs.Common.{◌≡◌, inl, inr, ℕ, zero, suc, ◌+◌, ◌≤◌, [], ◌∷◌, ◌++◌, Bool, true, false, ◌==◌, ◌&&◌, refl, sym, ap, ◌∙◌, subst, arith}
use Rattle.std.specs.List.{cons_option}
use Rattle.std.specs.Bool.{then_some}
use Rattle.std.proofs.lemmas.Bool.{and_parts, eqb-true}
use Rattle.protocol_model.specs.Payload.{Message, parts_of}
use Rattle.connection_model.specs.Feed.{End, Past, Deed, Ticked, Made, Waits, Sent, Took, Ended, has_ended}
use Rattle.connection_model.specs.Bunches.{made_count, after_making}
use Rattle.connection_laws.specs.Run.{Move, Ticks, Makes, Defers, Sends, Takes, Hears, Hands, Ends, after_move, May, MayMake, HasPlace, IsRun}
use Rattle.connection_laws.specs.Deeds.{EachDeed}
use Rattle.connection_laws.specs.Delivered.{on_index, Numbered}
use Rattle.connection_laws.proofs.Moves.{making_keeps, told_keeps, handed_keeps}
use Rattle.connection_laws.proofs.Deeds.{always}
use Rattle.connection_laws.proofs.Spans.{some_parts}
use Rattle.connection_laws.proofs.PacketsSay.{IsIn}

-- the deed makes a message in its place
abbrev pub DeedPlaced : End → Past → Deed → Type 0
DeedPlaced end past (Made ch n m i) = i ≡ 0 → HasPlace end past ch m
DeedPlaced end past (Ticked t s) = Unit {0}
DeedPlaced end past (Waits m) = Unit {0}
DeedPlaced end past (Sent n t items) = Unit {0}
DeedPlaced end past (Took n es ds) = Unit {0}
DeedPlaced end past (Ended g) = Unit {0}

-- so does each
abbrev pub EachPlaced : End → Past → Type 0
EachPlaced end past = EachDeed (DeedPlaced end) past

-- the first parts of a message were made in their place
abbrev PlacedUpTo : End → Past → ℕ → Past → Type 0
PlacedUpTo end past zero before = (before ≡ past) × EachPlaced end before
PlacedUpTo end past (suc i) before = EachPlaced end before

-- all of them were
placed_end : (end : End) (past : Past) (i : ℕ) (before : Past) → 1 ≤ i → PlacedUpTo end past i before → EachPlaced end before
placed_end end past zero before lo h = absurd (omega (arith, lo))
placed_end end past (suc i) before lo h = h

-- so is one more
placed_step : (end : End) (past : Past) (c : ℕ) (m : Message) → HasPlace end past c m → (i : ℕ) (before : Past) → PlacedUpTo end past i before → PlacedUpTo end past (suc i) (Made c (made_count past c + 1 + i) m i ∷ before)
placed_step end past c m place zero before h = ((λ z. subst (λ (p : Past). HasPlace end p c m) (sym h.0) place), h.1)
placed_step end past c m place (suc i) before h = ((λ z. absurd (let never : suc i ≡ 0 = z in omega (arith, never))), h)

-- so is the whole making
making_placed : (end : End) (past : Past) (c : ℕ) (m : Message) → MayMake end past c m → EachPlaced end past → EachPlaced end (after_making past c m)
making_placed end past c m may h =
    placed_end end past (parts_of m) (after_making past c m) (some_parts m)
    (making_keeps (PlacedUpTo end past) past c m (refl, h) (λ i before lt p. placed_step end past c m may.place i before p))

-- each deed of a run does
pub each_placed : (end : End) (past : Past) → IsRun end past → EachPlaced end past
each_placed end past run = always end (EachPlaced end) tt step past run
  where
    step : (past : Past) (move : Move) → IsRun end past → has_ended past ≡ false → May end past move → EachPlaced end past → EachPlaced end (after_move past move)
    step past (Ticks sight) run alive may h = (tt, h)
    step past (Makes c m) run alive may h = making_placed end past c m may h
    step past (Defers m) run alive may h = (tt, h)
    step past (Sends items) run alive may h = (tt, h)
    step past (Takes n) run alive may h = (tt, h)
    step past (Hears entry) run alive may h = told_keeps (EachPlaced end) entry past h (λ n es ds before f. (tt, f.1))
    step past (Hands d) run alive may h = handed_keeps (EachPlaced end) d past h (λ n es ds before f. (tt, f.1))
    step past (Ends g) run alive may h = (tt, h)

-- where a message was made
pub record MadeIn (past : Past) (ch : ℕ) (made : Numbered) : Type 0 where
  pub newer : Past
  pub older : Past
  pub split : past ≡ newer ++ Made ch made.0 made.1 0 ∷ older

-- what was made below a deed was made
made_behind : (past : Past) (ch : ℕ) (made : Numbered) (deed : Deed) → MadeIn past ch made → MadeIn (deed ∷ past) ch made
made_behind past ch made deed m = record { newer = deed ∷ m.newer; older = m.older; split = ap (λ (l : Past). deed ∷ l) m.split }

-- a message among those of an index was made, and here
pub made_in : (past : Past) (ch : ℕ) (made : Numbered) → IsIn made (on_index ch past) → MadeIn past ch made
made_in [] ch made h = absurd h
made_in (Ticked t s ∷ past) ch made h = made_behind past ch made (Ticked t s) (made_in past ch made h)
made_in (Waits m ∷ past) ch made h = made_behind past ch made (Waits m) (made_in past ch made h)
made_in (Sent n t items ∷ past) ch made h = made_behind past ch made (Sent n t items) (made_in past ch made h)
made_in (Took n es ds ∷ past) ch made h = made_behind past ch made (Took n es ds) (made_in past ch made h)
made_in (Ended g ∷ past) ch made h = made_behind past ch made (Ended g) (made_in past ch made h)
made_in (Made c n m i ∷ past) ch made h = by ((c == ch) && (i == 0)) refl h (λ q. made_in past ch made q)
  where
    by : (t : Bool) → ((c == ch) && (i == 0)) ≡ t → IsIn made (cons_option (then_some t (let x : Numbered = (n, m) in x)) (on_index ch past)) → (IsIn made (on_index ch past) → MadeIn past ch made) → MadeIn (Made c n m i ∷ past) ch made
    by false t h ih = made_behind past ch made (Made c n m i) (ih h)
    by true t (inr h) ih = made_behind past ch made (Made c n m i) (ih h)
    by true t (inl e) ih =
        let p = and_parts (c == ch) (i == 0) t in
        record {
          newer = [];
          older = past;
          split = ap (λ (x : ℕ). Made x n m i ∷ past) (eqb-true c ch p.0) ∙ ap (λ (x : ℕ). Made ch n m x ∷ past) (eqb-true i 0 p.1) ∙ ap (λ (x : Numbered). Made ch x.0 x.1 0 ∷ past) e;
        }
