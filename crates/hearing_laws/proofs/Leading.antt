-- Single moves lead from a past to each past in which several numbers moved.
use Rattle.std.proofs.Common.{◌≡◌, ℕ, ◌+◌, ◌<◌, ◌%◌, List, [], ◌∷◌, ◌++◌, reverse, true, false, refl, sym, ap, ◌∙◌, subst, arith, append_assoc}
use Rattle.std.specs.Prelude.{nat_lt, pos}
use Rattle.std.specs.List.{filter_map}
use Rattle.std.proofs.lemmas.Bool.Decides.{nat_tests}
use Rattle.std.proofs.lemmas.List.{reverse-append, reverse-reverse}
use Rattle.protocol_model.specs.Search.{greatest_of}
use Rattle.connection_model.specs.Feed.{Past, Took, Entry, Acked, Told, Heard, Delivered}
use Rattle.connection_model.specs.Fates.{high_of, moved_of, named_by, number_above}
use Rattle.connection_model.specs.Verdict.{with_told}
use Rattle.link_end.specs.News.{moves_from, news_in}
use Rattle.channel_laws.specs.Moves.{is_heard, but_fates}
use Rattle.connection_laws.proofs.NearNumber.{near_number}
use Rattle.hearing_laws.specs.Chains.{Chain, AreNear, moved_in}
use Rattle.hearing_laws.specs.Chains.Chain.{same, moves}
use Rattle.protocol_laws.proofs.Greatest.{greatest_of-cons}

is_above : (high m : ℕ) → high < m → filter_map (number_above high) (pos m ∷ []) ≡ m ∷ []
is_above high m h = rw (yes high m h) refl
  where
    yes : (x y : ℕ) → x < y → nat_lt x y ≡ true
    yes x y h = grind (arith, nat_tests)

-- one acknowledgement moves one number
one_moved : (n m : ℕ) (es : List Entry) (hs : List Delivered) (before : Past) → high_of (Took n es hs ∷ before) < m
    → m < high_of (Took n es hs ∷ before) + 8192
    → moved_of (Took n (Acked (m % 16384) ∷ es) hs ∷ before) ≡ m ∷ moved_of (Took n es hs ∷ before)
one_moved n m es hs before lo hi =
    let high : ℕ = high_of (Took n es hs ∷ before) in
    ap (λ z. filter_map (number_above high) (z ∷ []) ++ moved_of (Took n es hs ∷ before))
    (near_number m high (omega arith) (omega arith))
    ∙ ap (λ (ms : List ℕ). ms ++ moved_of (Took n es hs ∷ before)) (is_above high m lo)

pub lead : (n : ℕ) (es : List Entry) (hs : List Delivered) (before : Past) (ns : List ℕ) (later : Past)
    → AreNear (high_of (Took n es hs ∷ before)) ns
    → moved_of later ≡ reverse ns ++ moved_of (Took n es hs ∷ before)
    → but_fates later ≡ but_fates (Took n es hs ∷ before)
    → Chain (moves_from (high_of (Took n es hs ∷ before)) ns) (Took n es hs ∷ before) later
lead n es hs before [] later near moved rest = same (record { moved = moved; rest = rest })
lead n es hs before (m ∷ ns) later near moved rest =
    let past : Past = Took n es hs ∷ before in
    let mid : Past = Took n (Acked (m % 16384) ∷ es) hs ∷ before in
    let step : moved_of mid ≡ m ∷ moved_of past = one_moved n m es hs before near.0 near.1 in
    let high : high_of mid ≡ m = ap greatest_of step ∙ (let c = greatest_of-cons m (moved_of past) in
    omega (arith, c, near.0)) in
    moves (high_of past) m (record { high = refl; above = near.0; moved = step; rest = refl })
    (subst (λ (h : ℕ). Chain (moves_from h ns) mid later) high
    (lead n (Acked (m % 16384) ∷ es) hs before ns later (subst (λ (h : ℕ). AreNear h ns) (sym high) near.2)
    (moved ∙ ap (λ (ms : List ℕ). ms ++ moved_of past) (reverse-append (m ∷ []) ns)
    ∙ append_assoc (reverse ns) (m ∷ []) (moved_of past)
    ∙ ap (λ (ms : List ℕ). reverse ns ++ ms) (sym step))
    rest))

-- the moves of one acknowledgement, or of one head, lead to the past that was told it
pub entry_leads : (n : ℕ) (es : List Entry) (hs : List Delivered) (before : Past) (entry : Entry)
    → is_heard entry ≡ false
    → AreNear (high_of (Took n es hs ∷ before)) (moved_in (Took n es hs ∷ before) entry)
    → Chain (news_in (high_of (Took n es hs ∷ before)) entry) (Took n es hs ∷ before)
    (with_told entry (Took n es hs ∷ before))
entry_leads n es hs before (Heard b) e near = absurd (cc)
entry_leads n es hs before (Acked k) e near =
    lead n es hs before (moved_in (Took n es hs ∷ before) (Acked k)) (Took n (Acked k ∷ es) hs ∷ before) near
    (ap (λ (ms : List ℕ). ms ++ moved_of (Took n es hs ∷ before))
    (sym (reverse-reverse (filter_map (number_above (high_of (Took n es hs ∷ before)))
    (named_by (Acked k) (high_of (Took n es hs ∷ before)))))))
    refl
entry_leads n es hs before (Told head) e near =
    lead n es hs before (moved_in (Took n es hs ∷ before) (Told head)) (Took n (Told head ∷ es) hs ∷ before) near
    (ap (λ (ms : List ℕ). ms ++ moved_of (Took n es hs ∷ before))
    (sym (reverse-reverse (filter_map (number_above (high_of (Took n es hs ∷ before)))
    (named_by (Told head) (high_of (Took n es hs ∷ before)))))))
    refl
