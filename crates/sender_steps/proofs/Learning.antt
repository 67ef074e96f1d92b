-- Opens that have arrived whole: what they made known before is known by the places that they leave.
use Rattle.std.proofs.Common.{◌≡◌, ◌∙◌, inl, inr, ℕ, zero, suc, ◌+◌, ◌-◌, ◌<◌, ◌≤◌, nat_lt, List, [], ◌∷◌, length, Bool, true, false, not, cond, ◌&&◌, ◌||◌, ap, sym, refl, subst, arith, Option, Some, None, is_some, slice_index_or}
use Rattle.std.specs.List.{list_any, filter, slice_get}
use Rattle.std.proofs.lemmas.Bool.{cases_Bool, cases_lt, false≢true}
use Rattle.std.proofs.lemmas.Bool.Decides.{nat_tests}
use Rattle.std.proofs.lemmas.List.{get_or_past}
use Rattle.std.proofs.lemmas.Option.{slice_get_cases}
use Rattle.protocol_model.specs.Packet.{Bunch}
use Rattle.protocol_model.specs.Side.{AtServer}
use Rattle.protocol_model.specs.Search.{newest_of, is_among}
use Rattle.connection_model.specs.Feed.{Past}
use Rattle.connection_model.specs.Bunches.{has_arrived, have_arrived, made_count, least_unarrived}
use Rattle.connection_model.specs.Items.{made_as}
use Rattle.connection_laws.proofs.ActorMarks.{Grows}
use Rattle.connection_laws.proofs.Searches.{least_end}
use Rattle.sender_laws.proofs.Arriving.{each_has, have_each, have_stays}
use Rattle.outgoing_channels.proofs.Bunches.{early_arrived, least_most}
use Rattle.outgoing_channels.specs.Keeps.{KeepsOut}
use Rattle.outgoing_channels.specs.Made.{out_at}
use Rattle.channel_table.specs.Channels.{Channels}
use Rattle.channel_table.specs.Keeps.{Keeps}
use Rattle.sender_steps.specs.declared.sent.OpenSent.{OpenSent}
use Rattle.sender_steps.specs.Stands.{is_open_gone, has_known, makes_known, is_known_by, IsOpenMade, AreOpensMade}

-- ---- one open

within : (a b : ℕ) → a < b → nat_lt a b ≡ true
within a b h = grind (arith, nat_tests)

beyond : (a b : ℕ) → b ≤ a → nat_lt a b ≡ false
beyond a b h = grind (arith, nat_tests)

-- a bunch that was made and isn't below the least that hasn't arrived is kept
still_kept : (t : Channels) (past : Past) (ch n : ℕ) → Keeps t AtServer past → least_unarrived past ch ≤ n
    → n ≤ made_count past ch
    → is_some (newest_of (made_as ch n) past) ≡ true
still_kept t past ch n k low most =
    let out : KeepsOut past ch (out_at t.made.out ch) = k.made.out ch in
    let place : least_unarrived past ch + (n - least_unarrived past ch) ≡ n = omega (arith, low) in
    subst (λ (i : ℕ). is_some (newest_of (made_as ch i) past) ≡ true) place
    (elim (slice_get_cases (out_at t.made.out ch).kept (n - least_unarrived past ch)).1 [
      | inl q ↦ ap (λ (o : Option Bunch). is_some o) (out.each (n - least_unarrived past ch) q.0 q.2).bunch
      | inr q ↦ absurd (omega (arith, out.count, low, most, (least_most past ch).1, q.0))
    ])

-- an open that is kept no more has arrived
gone_arrived : (t : Channels) (past : Past) (known : List Bool) (o : OpenSent) → Keeps t AtServer past
    → IsOpenMade past known o
    → is_open_gone past o ≡ true → have_arrived past o.channel 1 o.last ≡ true
gone_arrived t past known o k made gone = elim (cases_lt o.last (least_unarrived past o.channel)) [
  | inl lt ↦ have_each past o.channel 1 o.last (λ i lo hi. early_arrived past o.channel i lo (omega (arith, hi, lt)))
  | inr le ↦ absurd (false≢true (
      sym (ap not (still_kept t past o.channel o.last k le made.made))
      ∙ sym (ap (λ (b : Bool). not (is_some (cond b None (newest_of (made_as o.channel o.last) past))))
      (beyond o.last (least_unarrived past o.channel) le))
      ∙ gone))
]

-- ---- all of them

-- what is known of the rest of them
step : (gone among arrived any_gone any_kept all : Bool) → (gone ≡ true → arrived ≡ true) → (any_gone || any_kept) ≡ all
    → ((gone && among) || any_gone || cond gone any_kept ((among && arrived) || any_kept)) ≡ ((among && arrived) || all)
step true true arrived any_gone any_kept all h e = ap (λ (b : Bool). b || all) (sym (h refl))
step true false arrived any_gone any_kept all h e = e
step false true true true any_kept all h e = refl
step false true true false any_kept all h e = refl
step false true false any_gone any_kept all h e = e
step false false arrived any_gone any_kept all h e = e

module _ (past later : Past) (g : ℕ) where
  abbrev pub kept : OpenSent → Bool
  kept o = not (is_open_gone past o)

  pub parted : (opens : List OpenSent)
      → ((i : ℕ) (o : OpenSent) → slice_get opens i ≡ Some o → is_open_gone past o ≡ true
      → have_arrived later o.channel 1 o.last ≡ true)
      → (list_any (has_known past g) opens || list_any (makes_known later g) (filter kept opens)) ≡ list_any
      (makes_known later g) opens
  parted [] h = refl
  parted (o ∷ opens) h =
      sorted (is_open_gone past o) refl
      ∙ step (is_open_gone past o) (is_among g o.guids) (have_arrived later o.channel 1 o.last)
      (list_any (has_known past g) opens)
      (list_any (makes_known later g) (filter kept opens)) (list_any (makes_known later g) opens) (h zero o refl)
      (parted opens (λ i x at. h (suc i) x at))
    where
      again : (a b c : Bool) → ((a || b) || c) ≡ (a || b || c)
      again true b c = refl
      again false b c = refl

      sorted : (gone : Bool) → is_open_gone past o ≡ gone
          → ((has_known past g o || list_any (has_known past g) opens) || list_any (makes_known later g)
          (cond (kept o) (o ∷ filter kept opens) (filter kept opens)))
          ≡ ((has_known past g o) || list_any (has_known past g) opens
          || cond (is_open_gone past o) (list_any (makes_known later g) (filter kept opens))
          (makes_known later g o || list_any (makes_known later g) (filter kept opens)))
      sorted true e = rw e (again (true && is_among g o.guids) (list_any (has_known past g) opens)
          (list_any (makes_known later g) (filter kept opens)))
      sorted false e = rw e (again (false && is_among g o.guids) (list_any (has_known past g) opens)
          (makes_known later g o || list_any (makes_known later g) (filter kept opens)))

-- one that is left was there before
pub left_is : {X : Type 0} (p : X → Bool) (xs : List X) (i : ℕ) (x : X) → slice_get (filter p xs) i ≡ Some x
    → (j : ℕ) × (slice_get xs j ≡ Some x)
left_is {X = X} p [] i x e = absurd (let no : (let o : Option X = None in o) ≡ Some x = e in cc)
left_is {X = X} p (y ∷ xs) i x e = by (p y) i e (left_is p xs)
  where
    by : (b : Bool) (i : ℕ) → slice_get (cond b (y ∷ filter p xs) (filter p xs)) i ≡ Some x
        → ((k : ℕ) (z : X) → slice_get (filter p xs) k ≡ Some z → (j : ℕ) × (slice_get xs j ≡ Some z))
        → (j : ℕ) × (slice_get (y ∷ xs) j ≡ Some x)
    by true zero e more = (zero, e)
    by true (suc i) e more = (let r = more i x e in (suc r.0, r.1))
    by false i e more = (let r = more i x e in (suc r.0, r.1))

-- ---- known segments

module _ (t : Channels) (past : Past) (known left : List Bool) (opens : List OpenSent) (k : Keeps t AtServer past)
    (made : AreOpensMade past known opens)
    (len : length left ≡ length known)
    (places : (g : ℕ) → g < length known → slice_index_or left g false ≡
    (list_any (has_known past g) opens || slice_index_or known g false)) where
  -- those that are left were made
  pub left_made : AreOpensMade past left (filter (λ (o : OpenSent). not (is_open_gone past o)) opens)
  left_made i o at =
      let there = left_is (λ (o : OpenSent). not (is_open_gone past o)) opens i o at in
      let m : IsOpenMade past known o = made there.0 o there.1 in
      record { made = m.made; places = λ g e. omega (arith, len, m.places g e) }

  turned : (a b c d : Bool) → (a || c) ≡ d → ((a || b) || c) ≡ (b || d)
  turned true true c d e = refl
  turned true false c d e = e
  turned false true c d e = refl
  turned false false c d e = e

  unplaced : (later : Past) (g : ℕ) → length known ≤ g → (opens : List OpenSent) → AreOpensMade past known opens
      → list_any (makes_known later g) opens ≡ false
  unplaced later g le [] m = refl
  unplaced later g le (o ∷ opens) m = by (is_among g o.guids) refl
      (unplaced later g le opens (λ i x at. m (suc i) x at))
    where
      by : (b : Bool) → is_among g o.guids ≡ b → list_any (makes_known later g) opens ≡ false
          → list_any (makes_known later g) (o ∷ opens) ≡ false
      by true e more = absurd (omega (arith, le, (m zero o refl).places g e))
      by false e more = rw e more

  pub learnt : (later : Past) → Grows past later → (g : ℕ)
      → is_known_by later left (filter (λ (o : OpenSent). not (is_open_gone past o)) opens) g
      ≡ is_known_by later known opens g
  learnt later grows g = elim (cases_lt g (length known)) [
    | inl lt ↦ ap (λ (b : Bool). b || list_any (makes_known later g)
        (filter (λ (o : OpenSent). not (is_open_gone past o)) opens)) (places g lt)
        ∙ turned (list_any (has_known past g) opens) (slice_index_or known g false)
        (list_any (makes_known later g) (filter (λ (o : OpenSent). not (is_open_gone past o)) opens))
        (list_any (makes_known later g) opens)
        (parted past later g opens (λ i o at gone. have_stays past later grows o.channel 1 o.last
        (gone_arrived t past known o k (made i o at) gone)))
    | inr le ↦ (
        let none : list_any (makes_known later g) (filter (λ (o : OpenSent). not (is_open_gone past o)) opens) ≡ false =
        unplaced later g le (filter (λ (o : OpenSent). not (is_open_gone past o)) opens)
        (λ i o at. (let there = left_is (λ (o : OpenSent). not (is_open_gone past o)) opens i o at in
        made there.0 o there.1)) in
        ap (λ (b : Bool). b || list_any (makes_known later g)
        (filter (λ (o : OpenSent). not (is_open_gone past o)) opens))
        (get_or_past left g false (omega (arith, len, le)))
        ∙ none ∙ sym (unplaced later g le opens made)
        ∙ ap (λ (b : Bool). b || list_any (makes_known later g) opens) (sym (get_or_past known g false le)))
  ]

-- ---- those that are left

-- an open that was made and has arrived whole is kept no more
arrived_gone : (past : Past) (o : OpenSent) → o.last ≤ made_count past o.channel
    → have_arrived past o.channel 1 o.last ≡ true
    → is_open_gone past o ≡ true
arrived_gone past o most all = elim (cases_lt o.last (least_unarrived past o.channel)) [
  | inl lt ↦ ap (λ (b : Bool). not (is_some (cond b None (newest_of (made_as o.channel o.last) past))))
      (within o.last (least_unarrived past o.channel) lt)
  | inr le ↦ absurd (elim (least_end (λ n. not (has_arrived past o.channel n)) (made_count past o.channel) 1) [
    | inl q ↦ false≢true (ap not (sym (each_has past o.channel 1 o.last all (least_unarrived past o.channel)
        (least_most past o.channel).0 (omega (arith, le)))) ∙ q)
    | inr q ↦ omega (arith, q, le, most)
  ])
]

-- none of them makes a segment known
pub none_left : (past : Past) (g : ℕ) (known : List Bool) (opens : List OpenSent) → AreOpensMade past known opens
    → list_any (makes_known past g) (filter (λ (o : OpenSent). not (is_open_gone past o)) opens) ≡ false
none_left past g known [] made = refl
none_left past g known (o ∷ opens) made =
    by (is_open_gone past o) refl (none_left past g known opens (λ i x at. made (suc i) x at))
  where
    rest : List OpenSent
    rest = filter (λ (o : OpenSent). not (is_open_gone past o)) opens

    not_yet : is_open_gone past o ≡ false → have_arrived past o.channel 1 o.last ≡ false
    not_yet e = elim (cases_Bool (have_arrived past o.channel 1 o.last)) [
      | inl q ↦ absurd (false≢true (sym e ∙ arrived_gone past o (made zero o refl).made q))
      | inr q ↦ q
    ]

    both : (x y z : Bool) → y ≡ false → z ≡ false → ((x && y) || z) ≡ false
    both true y z e h = rw (e, h) refl
    both false y z e h = h

    by : (b : Bool) → is_open_gone past o ≡ b → list_any (makes_known past g) rest ≡ false
        → list_any (makes_known past g) (cond (not (is_open_gone past o)) (o ∷ rest) rest) ≡ false
    by true e h = rw e h
    by false e h = rw e (both (is_among g o.guids) (have_arrived past o.channel 1 o.last)
        (list_any (makes_known past g) rest) (not_yet e) h)
