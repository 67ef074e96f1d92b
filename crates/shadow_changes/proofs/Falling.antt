-- Lists whose ticks fall.
use Rattle.std.proofs.Common.{◌≡◌, ℕ, zero, suc, ◌+◌, ◌-◌, ◌<◌, ◌≤◌, List, [], ◌∷◌, ◌++◌, Bool, true, false, ◌==◌, if◌then◌else◌, Option, Some, None, refl, sym, ap, ◌∙◌, subst, arith, take, drop, length, append_assoc, length-append}
use Rattle.std.specs.Prelude.{slice_get}
use Rattle.std.specs.Bool.{then_some}
use Rattle.std.specs.Option.{IsSome}
use Rattle.std.proofs.lemmas.Bool.{le-ltb}
use Rattle.std.proofs.lemmas.List.{length-take-le, drop_more}
use Rattle.std.proofs.lemmas.Option.{get_or_from_slice_get}
use Rattle.protocol_model.specs.Search.{or_else}
use Rattle.shadow_changes.specs.declared.change.Change.{Change}
use Rattle.shadow_changes.specs.declared.noted.Noted.{Noted}
use Rattle.shadow_changes.specs.Lists.{tick_of, newest_in, above, AreListed, AreFalling}
use Rattle.shadow_changes.specs.Puts.{IsEnd}
use Rattle.shadow_changes.proofs.Ascending.{listed_more}
use Rattle.shadow_changes.proofs.Putting.{or_else_assoc, or_else_none, get_low}

-- ---- bounds

pub falling_more : (ns : List Noted) (count more newest later : ℕ) → AreFalling count newest ns → count ≤ more
    → newest ≤ later → AreFalling more later ns
falling_more [] count more newest later falls e f = tt
falling_more (n ∷ ns) count more newest later falls e f =
    let here : n.tick ≤ later = omega (arith, falls.0) in
    let same : n.tick ≤ n.tick = omega arith in
    (here, listed_more n.changes count more n.tick n.tick 0 falls.1 e same, falling_more ns count more n.tick n.tick falls.2 e same)

-- a list that is there ascends, and none of its ticks is above the newest
pub falling_at : (ns : List Noted) (count newest i : ℕ) (n : Noted) → AreFalling count newest ns
    → slice_get ns i ≡ Some n
    → AreListed count newest 0 n.changes
falling_at [] count newest i n falls e = cc
falling_at (x ∷ ns) count newest zero n falls e =
    let same : x ≡ n = cc in
    let all : count ≤ count = omega arith in
    subst (λ (y : Noted). AreListed count newest 0 y.changes) same
    (listed_more x.changes count count x.tick newest 0 falls.1 all falls.0)
falling_at (x ∷ ns) count newest (suc i) n falls e =
    let all : count ≤ count = omega arith in
    falling_at ns count newest i n (falling_more ns count count x.tick newest falls.2 all falls.0) e

-- ---- lists that aren't above a tick

pub above_low : (tick t : ℕ) → t ≤ tick → above tick (Some t) ≡ None
above_low tick t h = ap (λ (b : Bool). then_some b t) (le-ltb tick t h)

above_if : (b : Bool) (tick t : ℕ) (o : Option ℕ) → t ≤ tick → above tick o ≡ None
    → above tick (if b then Some t else o) ≡ None
above_if true tick t o low e = above_low tick t low
above_if false tick t o low e = e

above_or : (tick : ℕ) (a b c : Option ℕ) → above tick b ≡ above tick c
    → above tick (or_else a b) ≡ above tick (or_else a c)
above_or tick None b c e = e
above_or tick (Some t) b c e = refl

above_none : (tick : ℕ) (a b : Option ℕ) → above tick a ≡ None → above tick b ≡ None → above tick (or_else a b) ≡ None
above_none tick None b e f = f
above_none tick (Some t) b e f = e

low_changes : (cs : List Change) (count newest least tick h : ℕ) → AreListed count newest least cs → newest ≤ tick
    → above tick (tick_of cs h) ≡ None
low_changes [] count newest least tick h low under = refl
low_changes (c ∷ cs) count newest least tick h low under =
    let here : c.tick ≤ tick = omega (arith, low.1) in
    above_if (c.prop == h) tick c.tick (tick_of cs h) here (low_changes cs count newest
    (c.prop + 1) tick h low.3 under)

low_lists : (ns : List Noted) (count newest tick h : ℕ) → AreFalling count newest ns → newest ≤ tick
    → above tick (newest_in ns h) ≡ None
low_lists [] count newest tick h falls under = refl
low_lists (n ∷ ns) count newest tick h falls under =
    let here : n.tick ≤ tick = omega (arith, falls.0) in
    above_none tick (tick_of n.changes h) (newest_in ns h) (low_changes n.changes count n.tick 0 tick h falls.1 here)
    (low_lists ns count n.tick tick h falls.2 here)

-- lists from the end of those above a tick on say nothing of ticks above
pub ended : (ns : List Noted) (count newest tick i h : ℕ) → AreFalling count newest ns → IsEnd tick ns i
    → above tick (newest_in (take i ns) h) ≡ above tick (newest_in ns h)
ended [] count newest tick zero h falls end = refl
ended [] count newest tick (suc i) h falls end = refl
ended (n ∷ ns) count newest tick zero h falls end =
    let same : n.tick ≤ n.tick = omega arith in
    sym (low_lists (n ∷ ns) count n.tick tick h (same, falls.1, falls.2) (end n refl))
ended (n ∷ ns) count newest tick (suc i) h falls end =
    above_or tick (tick_of n.changes h) (newest_in (take i ns) h) (newest_in ns h)
    (ended ns count n.tick tick i h falls.2 (λ m e. end m e))

-- ---- the lists from a place on

pub get_take : {X : Type 0} (xs : List X) (i k : ℕ) → i < k → slice_get (take k xs) i ≡ slice_get xs i
get_take [] i zero low = refl
get_take [] i (suc k) low = refl
get_take (x ∷ xs) i zero low = absurd (omega arith)
get_take (x ∷ xs) zero (suc k) low = refl
get_take (x ∷ xs) (suc i) (suc k) low = get_take xs i k (omega arith)

newest_from : (ns : List Noted) (i : ℕ) (n : Noted) (h : ℕ) → slice_get ns i ≡ Some n
    → newest_in (drop i ns) h ≡ or_else (tick_of n.changes h) (newest_in (drop (i + 1) ns) h)
newest_from ns i n h e =
    ap (λ ms. newest_in ms h) (drop_more ns i n (get_low ns i n e))
    ∙ ap (λ (m : Noted). or_else (tick_of m.changes h) (newest_in (drop (i + 1) ns) h))
    (get_or_from_slice_get ns i n n e)

-- what some lists from a place on say is what one more list put over it says
pub put_more : (ns : List Noted) (end i : ℕ) (n : Noted) (h : ℕ) (told : Option ℕ) → end ≤ length ns → i < end
    → slice_get ns (end - 1 - i) ≡ Some n
    → told ≡ or_else (tick_of n.changes h) (newest_in (drop (end - i) (take end ns)) h)
    → told ≡ newest_in (drop (end - (i + 1)) (take end ns)) h
put_more ns end i n h told few low get e =
    let at : end - 1 - i ≡ end - (i + 1) = omega arith in
    let next : end - (i + 1) + 1 ≡ end - i = omega arith in
    let there : slice_get (take end ns) (end - (i + 1)) ≡ Some n = get_take ns (end - (i + 1)) end (omega arith)
    ∙ ap (slice_get ns) (sym at) ∙ get in
    e ∙ ap (λ (k : ℕ). or_else (tick_of n.changes h) (newest_in (drop k (take end ns)) h)) (sym next)
    ∙ sym (newest_from (take end ns) (end - (i + 1)) n h there)

pub there : {X : Type 0} (xs : List X) (i : ℕ) → i < length xs → IsSome (slice_get xs i)
there [] i h = absurd (omega arith)
there (x ∷ xs) zero h = refl
there (x ∷ xs) (suc i) h = there xs i (omega arith)

-- one more list put over those before it
pub put_listed : (ns : List Noted) (end i count newest : ℕ) (n : Noted) (old over now : List Change)
    → AreFalling count newest ns
    → end ≤ length ns → i < end → slice_get ns (end - 1 - i) ≡ Some n → over ≡ n.changes
    → ((count newest : ℕ) → AreListed count newest 0 old → AreListed count newest 0 over
    → AreListed count newest 0 now × ((h : ℕ) → tick_of now h ≡ or_else (tick_of over h) (tick_of old h)))
    → AreListed count newest 0 old → ((h : ℕ) → tick_of old h ≡ newest_in (drop (end - i) (take end ns)) h)
    → AreListed count newest 0 now × ((h : ℕ) → tick_of now h ≡ newest_in (drop (end - (i + 1)) (take end ns)) h)
put_listed ns end i count newest n old over now falls few low get e put listed says =
    let new = put count newest listed (subst (AreListed count newest 0) (sym e) (falling_at ns count newest
    (end - 1 - i) n falls get)) in (
      new.0,
      λ h.
          put_more ns end i n h (tick_of now h) few low get
          (new.1 h ∙ ap (λ cs. or_else (tick_of cs h) (tick_of old h)) e
          ∙ ap (or_else (tick_of n.changes h)) (says h)),
    )

pub no_list : (o : Option Noted) → IsSome o → o ≡ None → ⊥
no_list None some e = cc
no_list (Some n) some e = cc

-- ---- the two oldest lists merged

newest_in-append : (xs ys : List Noted) (h : ℕ) → newest_in (xs ++ ys) h ≡ or_else (newest_in xs h) (newest_in ys h)
newest_in-append [] ys h = refl
newest_in-append (n ∷ xs) ys h =
    ap (or_else (tick_of n.changes h)) (newest_in-append xs ys h)
    ∙ sym (or_else_assoc (tick_of n.changes h) (newest_in xs h) (newest_in ys h))

-- other lists at the end that fall wherever these do
falling_end : (xs ys zs : List Noted) (count newest : ℕ) → ((k : ℕ) → AreFalling count k ys → AreFalling count k zs)
    → AreFalling count newest (xs ++ ys) → AreFalling count newest (xs ++ zs)
falling_end [] ys zs count newest other falls = other newest falls
falling_end (n ∷ xs) ys zs count newest other falls =
    (falls.0, falls.1, falling_end xs ys zs count n.tick other falls.2)

-- the lists at the end fall by themselves
end_falls : (xs ys : List Noted) (count newest : ℕ) → AreFalling count newest (xs ++ ys) → AreFalling count newest ys
end_falls [] ys count newest falls = falls
end_falls (n ∷ xs) ys count newest falls =
    let all : count ≤ count = omega arith in
    end_falls xs ys count newest (falling_more (xs ++ ys) count count n.tick newest falls.2 all falls.0)

-- the last item stands behind the others
last_split : {X : Type 0} (xs : List X) (n : ℕ) (x : X) → length xs ≡ suc n → slice_get xs n ≡ Some x
    → xs ≡ take n xs ++ x ∷ []
last_split [] n x len e = cc
last_split (y ∷ []) zero x len e = let same : y ≡ x = cc in ap (λ z. z ∷ []) same
last_split (y ∷ z ∷ xs) zero x len e = absurd (omega arith)
last_split (y ∷ xs) (suc n) x len e = ap (λ zs. y ∷ zs) (last_split xs n x (omega arith) e)

-- lists that aren't empty have a last one
pub some_last : (xs : List Noted) (o : Option Noted) → 0 < length xs → o ≡ slice_get xs (length xs - 1) → IsSome o
some_last xs o some e = subst IsSome (sym e) (there xs (length xs - 1) (omega arith))

-- one list of two says what they said
pub record MergesTo (count : ℕ) (newer older : Noted) (both : List Change) : Type 0 where
  pub listed : AreListed count newer.tick 0 both
  pub says : (h : ℕ) → or_else (tick_of both h) None ≡ or_else (tick_of newer.changes h) (or_else
      (tick_of older.changes h) None)

pub merges_to : (newer older : Noted) (old over now both : List Change) (count newest : ℕ) → old ≡ older.changes
    → over ≡ newer.changes → both ≡ now
    → ((count newest : ℕ) → AreListed count newest 0 old → AreListed count newest 0 over
    → AreListed count newest 0 now × ((h : ℕ) → tick_of now h ≡ or_else (tick_of over h) (tick_of old h)))
    → AreFalling count newest (newer ∷ older ∷ []) → MergesTo count newer older both
merges_to newer older old over now both count newest e f g put falls =
    let all : count ≤ count = omega arith in
    let under = listed_more older.changes count count older.tick newer.tick 0 falls.2.1 all falls.2.0 in
    let put = put count newer.tick (subst (AreListed count newer.tick 0) (sym e) under) (subst
    (AreListed count newer.tick 0) (sym f) falls.1) in
    record {
      listed = subst (AreListed count newer.tick 0) (sym g) put.0;
      says = λ h.
          or_else_none (tick_of both h) ∙ ap (λ cs. tick_of cs h) g ∙ put.1 h
          ∙ ap (λ cs. or_else (tick_of cs h) (tick_of old h)) f
          ∙ ap (λ cs. or_else (tick_of newer.changes h) (tick_of cs h)) e
          ∙ ap (or_else (tick_of newer.changes h)) (sym (or_else_none (tick_of older.changes h)));
    }

-- of 64 lists the two last are taken out, and another goes to the end
pub record Merged (xs ws : List Noted) (newer older both : Noted) : Type 0 where
  pub front : List Noted
  pub before : xs ≡ front ++ newer ∷ older ∷ []
  pub after : ws ≡ front ++ both ∷ []
  pub len : length ws ≡ 63

pub merged_last : (xs ys zs ws : List Noted) (newer older both : Noted) (o p : Option Noted) (cap : ℕ)
    → length xs ≡ 64
    → o ≡ slice_get xs (length xs - 1) → ys ≡ take (length xs - 1) xs → o ≡ Some older
    → p ≡ slice_get ys (length ys - 1) → zs ≡ take (length ys - 1) ys → p ≡ Some newer
    → cap ≡ 64 → ws ≡ drop (length (zs ++ both ∷ []) - cap) (zs ++ both ∷ []) → Merged xs ws newer older both
merged_last xs ys zs ws newer older both o p cap len last ys_is older_is before zs_is newer_is cap_is ws_is =
    let one : length xs - 1 ≡ 63 = omega arith in
    let ys_63 : ys ≡ take 63 xs = ys_is ∙ ap (λ (k : ℕ). take k xs) one in
    let ys_len : length ys ≡ 63 = ap length ys_63 ∙ length-take-le 63 xs (omega arith) in
    let two : length ys - 1 ≡ 62 = omega arith in
    let zs_62 : zs ≡ take 62 ys = zs_is ∙ ap (λ (k : ℕ). take k ys) two in
    let zs_len : length zs ≡ 62 = ap length zs_62 ∙ length-take-le 62 ys (omega arith) in
    let whole : xs ≡ ys ++ older ∷ [] =
    last_split xs 63 older len (ap (slice_get xs) (sym one) ∙ sym last ∙ older_is)
    ∙ ap (λ (ks : List Noted). ks ++ older ∷ []) (sym ys_63) in
    let most : ys ≡ zs ++ newer ∷ [] =
    last_split ys 62 newer ys_len (ap (slice_get ys) (sym two) ∙ sym before ∙ newer_is)
    ∙ ap (λ (ks : List Noted). ks ++ newer ∷ []) (sym zs_62) in
    let none : length (zs ++ both ∷ []) - cap ≡ 0 = omega (arith, length-append zs (both ∷ [])) in
    let now : ws ≡ zs ++ both ∷ [] = ws_is ∙ ap (λ (k : ℕ). drop k (zs ++ both ∷ [])) none in
    record {
      front = zs;
      before = whole ∙ ap (λ (ks : List Noted). ks ++ older ∷ []) most ∙ append_assoc zs (newer ∷ []) (older ∷ []);
      after = now;
      len = ap length now ∙ length-append zs (both ∷ []) ∙ ap (λ (k : ℕ). k + 1) zs_len;
    }

pub last_noted : (xs ws : List Noted) (newer older both : Noted) (count newest h : ℕ) → Merged xs ws newer older both
    → AreFalling count newest xs
    → (AreFalling count newest (newer ∷ older ∷ []) → newest_in (both ∷ []) h ≡ newest_in (newer ∷ older ∷ []) h)
    → newest_in ws h ≡ newest_in xs h
last_noted xs ws newer older both count newest h m falls e =
    ap (λ (zs : List Noted). newest_in zs h) m.after
    ∙ newest_in-append m.front (both ∷ []) h
    ∙ ap (or_else (newest_in m.front h)) (e (end_falls m.front (newer ∷ older ∷ []) count newest (subst
    (AreFalling count newest) m.before falls)))
    ∙ sym (newest_in-append m.front (newer ∷ older ∷ []) h) ∙ ap (λ (zs : List Noted). newest_in zs h) (sym m.before)

pub last_falling : (xs ws : List Noted) (newer older both : Noted) (count newest : ℕ) → Merged xs ws newer older both
    → ((k : ℕ) → AreFalling count k (newer ∷ older ∷ []) → AreFalling count k (both ∷ []))
    → AreFalling count newest xs → AreFalling count newest ws
last_falling xs ws newer older both count newest m other falls =
    subst (AreFalling count newest) (sym m.after)
    (falling_end m.front (newer ∷ older ∷ []) (both ∷ []) count newest other (subst
    (AreFalling count newest) m.before falls))
