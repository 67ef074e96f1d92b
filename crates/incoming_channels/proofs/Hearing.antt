-- A bunch that is heard on its channel.
use Rattle.std.proofs.Common.{◌≡◌, inl, inr, ℕ, ◌+◌, ◌-◌, ◌*◌, ◌/◌, ◌%◌, ◌<◌, ◌≤◌, ◌||◌, List, [], ◌∷◌, ◌++◌, Bool, true, false, Option, Some, None, nat_lt, nat_le, if◌then◌else◌, cond, refl, sym, ap, ◌∙◌, subst, arith, ℤ, pos, negsuc}
use Rattle.std.specs.Prelude.{◌+ℤ◌, ◌-ℤ◌}
use Rattle.std.specs.Int.{int_rem_euclid}
use Rattle.std.specs.List.{AllByRecursion}
use Rattle.std.specs.Bool.{then_some}
use Rattle.std.proofs.lemmas.Int.{ints, int_rem_euclid_is}
use Rattle.std.proofs.lemmas.Bool.{cases_eq, false≢true, eq-eqb, ne_eqb}
use Rattle.std.proofs.lemmas.Bool.Decides.{nat_tests}
use Rattle.protocol_model.specs.Bits.{near}
use Rattle.protocol_model.specs.Side.{Side}
use Rattle.protocol_model.specs.Packet.{Bunch}
use Rattle.protocol_model.specs.declared.Cause.{Cause}
use Rattle.protocol_model.specs.declared.Cause.TheVariants.{Overrun}
use Rattle.connection_model.specs.Windows.{Received, next_of, number_as, as_number, Offer, Repeat, Ready, Held, offer_of, with_offer, with_bunch, run_of, applied_of, kept_of, ready_bunches, ends_payload}
use Rattle.connection_laws.proofs.Receiving.{has, next_new}
use Rattle.connection_laws.proofs.Searches.{newest_hit}
use Rattle.connection_laws.proofs.Applied.{kept_after, kept_is, applied_ready, applied_held, run_on, kept_on}
use Rattle.reliable_window.specs.In.{Window, Stands, is_repeat}
use Rattle.incoming_channels.specs.Channels.{Parts, Incoming}
use Rattle.incoming_channels.specs.Keeps.{Joining, KeepsBunches}
use Rattle.receiving_laws.specs.Receiving.{Raws, raws_of}
use Rattle.incoming_channels.specs.Messages.{AreRaws}
use Rattle.incoming_channels.specs.Steps.{IsOn, AreRawsOn, held_of, kept_through, Course, Goes, Ends, run_left, offered_raws, raws_on, with_heard, Before, IsHeard}
use Rattle.receiving_laws.specs.Receiving.{copied_through}
use Rattle.incoming_channels.specs.declared.message.Message.{Message}
use Rattle.incoming_channels.specs.declared.slot.Heard.{Heard}
use Rattle.incoming_channels.proofs.Going.{run_next}
use Rattle.incoming_channels.proofs.Counting.{count_ready, count_held, next_later}

-- ---- numbers

-- a sequence is read by what it is modulo 1,024
pub near_mod : (v k : ℕ) → near (v % 1024) (pos k) 1024 ≡ near v (pos k) 1024
near_mod v k =
    let one : ((pos (v % 1024) -ℤ pos k) +ℤ pos 512) +ℤ pos ((k + v / 1024) * 1024) ≡ pos (v + 512 + k * 1023)
    = omega (arith, ints) in
    let two : ((pos v -ℤ pos k) +ℤ pos 512) +ℤ pos (k * 1024) ≡ pos (v + 512 + k * 1023) = omega (arith, ints)
    in
    let a : int_rem_euclid ((pos (v % 1024) -ℤ pos k) +ℤ pos 512) (pos 1024) ≡ pos
    ((v + 512 + k * 1023) % 1024) = int_rem_euclid_is _ _ 1024 (k + v / 1024) _ (omega arith) refl one in
    let b : int_rem_euclid ((pos v -ℤ pos k) +ℤ pos 512) (pos 1024) ≡ pos ((v + 512 + k * 1023) % 1024) =
    int_rem_euclid_is _ _ 1024 k _ (omega arith) refl two in
    rw (a, b) refl

-- ---- what becomes of it

pub offer_repeat : (got : List Received) (z : ℤ) → is_repeat got z ≡ true → offer_of got z ≡ Repeat
offer_repeat got (negsuc n) e = refl
offer_repeat got (pos n) e = elim (cases_eq n (next_of got)) [
  | inl q ↦ absurd (false≢true (sym (never q) ∙ e))
  | inr q ↦ rw (ne_eqb n (next_of got) q)
      (ap (λ (t : Bool). let o : Offer = if t then Repeat else Held n in o) e)
]
  where
    never : n ≡ next_of got → (nat_lt n (next_of got) || has got n) ≡ false
    never q =
        neither (nat_lt n (next_of got)) (has got n) (not_less n (next_of got) q)
        (ap (has got) q ∙ next_new got)
      where
        not_less : (a b : ℕ) → a ≡ b → nat_lt a b ≡ false
        not_less a b h = grind (arith, nat_tests)

        neither : (a b : Bool) → a ≡ false → b ≡ false → (a || b) ≡ false
        neither a b p q = rw (p, q) refl

pub offer_next : (got : List Received) (z : ℤ) → z ≡ pos (next_of got) → offer_of got z ≡ Ready
offer_next got z e = rw (e, eq-eqb (next_of got) (next_of got) refl) refl

pub offer_ahead : (got : List Received) (z : ℤ) (n : ℕ) → z ≡ pos n → next_of got < n
    → is_repeat got z ≡ false → offer_of got z ≡ Held n
offer_ahead got z n e up fresh =
    let apart : n ≡ next_of got → ⊥ = (λ q. absurd (omega (arith, q, up))) in
    let here : is_repeat got (pos n) ≡ false = subst (λ (y : ℤ). is_repeat got y ≡ false) e fresh in
    ap (offer_of got) e ∙ ap (λ (t : Bool). let o : Offer = if t then Ready else if
    (nat_lt n (next_of got) || has got n) then Repeat else Held n in o) (ne_eqb n (next_of got) apart)
    ∙ ap (λ (t : Bool). let o : Offer = if t then Repeat else Held n in o) here

-- a number ahead wasn't received
pub ahead_new : (got : List Received) (z : ℤ) (n : ℕ) → z ≡ pos n → is_repeat got z ≡ false
    → has got n ≡ false
ahead_new got z n e fresh =
    second (nat_lt n (next_of got)) (has got n) (subst (λ (y : ℤ). is_repeat got y ≡ false) e fresh)
  where
    second : (a b : Bool) → (a || b) ≡ false → b ≡ false
    second true b h = cc
    second false b h = h

-- ---- the answer

-- what holds after it, where these are its payloads and what was received
abbrev AfterBy : (got with : List Received) (raws : Raws) (held : ℕ) (b : Bunch) (old new : Incoming)
    (now : ℕ)
    → Type 0
AfterBy got with raws held b old new now =
    KeepsBunches with new × (new.parts.copied ≡ copied_through old.parts.copied raws.whole) × AreRawsOn
    b.channel raws.whole
    × (now + held_of got ≡ held + held_of with) × (now ≤ 512)

heard_by : (side : Side) (got with : List Received) (raws : Raws) (held : ℕ) (b : Bunch) (old new : Incoming)
    (heard : Heard)
    → raws_on side old.parts.copied held got b ≡ raws → with_heard got b ≡ with
    → AreRaws raws.whole heard.whole → raws.cause ≡ heard.cause
    → (heard.cause ≡ None → AfterBy got with raws held b old new heard.held)
    → IsHeard side got held b old new heard
heard_by side got with raws held b old new heard is also told cause after = record {
  told = subst (λ (r : Raws). AreRaws r.whole heard.whole) (sym is) told;
  cause = ap (λ (r : Raws). r.cause) is ∙ cause;
  after = λ none. (let a = after none in record {
    bunches = subst (λ (l : List Received). KeepsBunches l new) (sym also) a.0;
    copied = a.1 ∙ ap (λ (r : Raws). copied_through old.parts.copied r.whole) (sym is);
    begun = subst (λ (r : Raws). AreRawsOn b.channel r.whole) (sym is) a.2;
    count = a.3 ∙ ap (λ (l : List Received). held + held_of l) (sym also);
    few = a.4;
  });
}

-- a reliable bunch, by what becomes of it
raws_offered : (side : Side) (copied : Bool) (held : ℕ) (got : List Received) (b : Bunch) (o : Offer)
    → b.reliable ≡ true → offer_of got (number_as got b) ≡ o
    → raws_on side copied held got b ≡ offered_raws side copied held got b o
raws_offered side copied held got b o reliable e =
    ap (λ (t : Bool). let r : Raws = if t then offered_raws side copied held got b
    (offer_of got (number_as got b)) else raws_of side copied (kept_of (applied_of got)) (b ∷ []) in r)
    reliable
    ∙ ap (offered_raws side copied held got b) e

with_offered : (got : List Received) (b : Bunch) (o : Offer) → b.reliable ≡ true
    → offer_of got (number_as got b) ≡ o → with_heard got b ≡ with_offer got b o
with_offered got b o reliable e =
    ap (λ (t : Bool). let r : List Received = if t then with_bunch got b else got in r) reliable
    ∙ ap (with_offer got b) e

-- one that came before
pub heard_repeat : (side : Side) (server : Bool) (got : List Received) (held : ℕ) (b : Bunch) (i : Incoming)
    → Before side server got held b i → b.reliable ≡ true
    → is_repeat got (number_as got b) ≡ true
    → IsHeard side got held b i i (record { whole = []; cause = None; held = held })
heard_repeat side server got held b i h reliable e =
    let offer : offer_of got (number_as got b) ≡ Repeat = offer_repeat got (number_as got b) e in
    heard_by side got got (record { whole = []; cause = None }) held b i i
    (record { whole = []; cause = None; held = held })
    (raws_offered side i.parts.copied held got b Repeat reliable offer)
    (with_offered got b Repeat reliable offer) tt refl (λ none. (h.bunches, refl, tt, refl, h.few))

-- one ahead, where too many are held
pub heard_over : (side : Side) (server : Bool) (got : List Received) (held : ℕ) (b : Bunch) (i : Incoming)
    (n : ℕ)
    → Before side server got held b i → b.reliable ≡ true
    → number_as got b ≡ pos n → next_of got < n → is_repeat got (number_as got b) ≡ false → 512 ≤ held
    → IsHeard side got held b i i (record { whole = []; cause = Some (Overrun b.channel); held = held })
heard_over side server got held b i n h reliable e up fresh many =
    let offer : offer_of got (number_as got b) ≡ Held n = offer_ahead got (number_as got b) n e up fresh in
    heard_by side got ((n, b) ∷ got) (record { whole = []; cause = Some (Overrun b.channel) }) held b i i
    (record { whole = []; cause = Some (Overrun b.channel); held = held })
    (raws_offered side i.parts.copied held got b (Held n) reliable offer ∙ ap
    (λ (t : Bool). let r : Raws = record { whole = []; cause = then_some t (Overrun b.channel) } in r)
    (at_least 512 held many))
    (with_offered got b (Held n) reliable offer) tt refl (λ none. absurd (never none))
  where
    at_least : (a k : ℕ) → a ≤ k → nat_le a k ≡ true
    at_least a k le = grind (arith, nat_tests)

    never : (let o : Option Cause = Some (Overrun b.channel) in o) ≡ None → ⊥
    never q = cc

-- one ahead that is held
pub heard_ahead : (side : Side) (server : Bool) (got : List Received) (held : ℕ) (b : Bunch) (i : Incoming)
    (w : Window Bunch) (n : ℕ)
    → Before side server got held b i → b.reliable ≡ true
    → number_as got b ≡ pos n → next_of got < n → is_repeat got (number_as got b) ≡ false → held < 512
    → Stands w ((n, b) ∷ got)
    → IsHeard side got held b i (record { window = w; parts = i.parts })
    (record { whole = []; cause = None; held = held + 1 })
heard_ahead side server got held b i w n h reliable e up fresh few stands =
    let offer : offer_of got (number_as got b) ≡ Held n = offer_ahead got (number_as got b) n e up fresh in
    let new : has got n ≡ false = ahead_new got (number_as got b) n e fresh in
    heard_by side got ((n, b) ∷ got) (record { whole = []; cause = None }) held b i
    (record { window = w; parts = i.parts }) (record { whole = []; cause = None; held = held + 1 })
    (raws_offered side i.parts.copied held got b (Held n) reliable offer ∙ ap
    (λ (t : Bool). let r : Raws = record { whole = []; cause = then_some t (Overrun b.channel) } in r)
    (below 512 held few))
    (with_offered got b (Held n) reliable offer) tt refl
    (λ none. (
      record {
        window = stands;
        joins = subst (λ (l : List Bunch). Joining i.parts (kept_of l))
            (sym (applied_held got b n up new)) h.bunches.joins;
      },
      refl,
      tt,
      omega (arith, count_held got b n up new),
      omega arith,
    ))
  where
    below : (a k : ℕ) → k < a → nat_le a k ≡ false
    below a k lt = grind (arith, nat_tests)

-- ---- the next one

-- the parts kept after a run are those of the law's definition
through_is : (xs kept : List Bunch) → kept_through kept xs ≡ kept_after kept xs
through_is [] kept = refl
through_is (x ∷ xs) kept = by (ends_payload x) (through_is xs []) (through_is xs (x ∷ kept))
  where
    by : (t : Bool) → kept_through [] xs ≡ kept_after [] xs
        → kept_through (x ∷ kept) xs ≡ kept_after (x ∷ kept) xs
        → cond t (kept_through [] xs) (kept_through (x ∷ kept) xs) ≡ cond t (kept_after [] xs)
        (kept_after (x ∷ kept) xs)
    by true h g = h
    by false h g = g

after_split : (xs ys kept : List Bunch) → kept_after kept (xs ++ ys) ≡ kept_after (kept_after kept xs) ys
after_split [] ys kept = refl
after_split (x ∷ xs) ys kept = by (ends_payload x) (after_split xs ys []) (after_split xs ys (x ∷ kept))
  where
    by : (t : Bool) → kept_after [] (xs ++ ys) ≡ kept_after (kept_after [] xs) ys
        → kept_after (x ∷ kept) (xs ++ ys) ≡ kept_after (kept_after (x ∷ kept) xs) ys
        → cond t (kept_after [] (xs ++ ys)) (kept_after (x ∷ kept) (xs ++ ys)) ≡ kept_after
        (cond t (kept_after [] xs) (kept_after (x ∷ kept) xs)) ys
    by true h g = h
    by false h g = g

-- what is kept after the bunches that are ready
kept_ready : (got : List Received) (b : Bunch)
    → kept_through (kept_of (applied_of got)) (run_left ((next_of got, b) ∷ got) (next_of got)) ≡ kept_of
    (applied_of ((next_of got, b) ∷ got))
kept_ready got b =
    let run : List Bunch = run_left ((next_of got, b) ∷ got) (next_of got) in
    through_is run (kept_of (applied_of got))
    ∙ ap (λ (l : List Bunch). kept_after l run) (kept_is (applied_of got))
    ∙ sym (after_split (applied_of got) run [])
    ∙ ap (kept_after []) (sym (applied_ready got b)) ∙ sym (kept_is (applied_of ((next_of got, b) ∷ got)))

-- the course of the bunches that are ready
abbrev pub course_of : Side → List Received → Bunch → Incoming → Course
course_of side got b i = record {
  side = side;
  channel = b.channel;
  copied = i.parts.copied;
  all =
      raws_of side i.parts.copied (kept_of (applied_of got))
      (run_left ((next_of got, b) ∷ got) (next_of got));
  last = kept_of (applied_of ((next_of got, b) ∷ got));
}

-- it begins with the bunch
pub next_begins : (side : Side) (server : Bool) (got : List Received) (held : ℕ) (b : Bunch) (i : Incoming)
    (from : ℕ)
    → Before side server got held b i → from ≡ i.window.next + 1
    → Goes (course_of side got b i) (b ∷ run_left ((next_of got, b) ∷ got) from) i.parts []
next_begins side server got held b i from h e = record {
  kept = kept_of (applied_of got);
  done = [];
  joins = h.bunches.joins;
  on =
      subst (AllByRecursion (IsOn b.channel)) (sym (kept_is (applied_of got))) (kept_on (IsOn b.channel)
      (applied_of got) [] tt (run_on (IsOn b.channel) got 1 (next_of got - 1) h.on));
  told = tt;
  begun = tt;
  copied = refl;
  left = ap (raws_of side i.parts.copied (kept_of (applied_of got))) run;
  last = sym (kept_ready got b) ∙ ap (kept_through (kept_of (applied_of got))) run;
}
  where
    run : run_left ((next_of got, b) ∷ got) (next_of got) ≡ b ∷ run_left ((next_of got, b) ∷ got) from
    run =
        let at : next_of got + 1 ≡ from = omega (arith, e, h.bunches.window.next) in
        run_next ((next_of got, b) ∷ got) (next_of got) b (omega (arith, next_later got b))
        (newest_hit (as_number (next_of got)) (next_of got, b) got b
        (ap (λ (t : Bool). then_some t b) (eq-eqb (next_of got) (next_of got) refl)))
        ∙ ap (λ (n : ℕ). b ∷ run_left ((next_of got, b) ∷ got) n) at

-- it ends with what was heard
pub next_heard : (side : Side) (server : Bool) (got : List Received) (held : ℕ) (b : Bunch) (i : Incoming)
    (w : Window Bunch) (p : Parts) (from : ℕ) (whole : List Message) (cause : Option Cause)
    → Before side server got held b i → b.reliable ≡ true → number_as got b ≡ pos (next_of got)
    → from ≡ i.window.next + 1
    → Ends (course_of side got b i) ((next_of got, b) ∷ got) w p whole cause
    → IsHeard side got held b i (record { window = w; parts = p })
    (record { whole = whole; cause = cause; held = held - (w.next - from) })
next_heard side server got held b i w p from whole cause h reliable at e ends =
    heard_by side got ((next_of got, b) ∷ got) (course_of side got b i).all held b i
    (record { window = w; parts = p })
    (record { whole = whole; cause = cause; held = held - (w.next - from) })
    (raws_offered side i.parts.copied held got b Ready reliable offer ∙ ap
    (raws_of side i.parts.copied (kept_of (applied_of got))) ready)
    (with_offered got b Ready reliable offer) (told cause ends) (caused cause ends)
    (λ none. after cause none ends)
  where
    offer : offer_of got (number_as got b) ≡ Ready
    offer = offer_next got (number_as got b) at

    ready : ready_bunches got b ≡ run_left ((next_of got, b) ∷ got) (next_of got)
    ready =
        ap (λ (l : List Received). run_of l (next_of got) (next_of l - next_of got))
        (ap (with_offer got b) offer)

    told : (o : Option Cause) → Ends (course_of side got b i) ((next_of got, b) ∷ got) w p whole o
        → AreRaws (course_of side got b i).all.whole whole
    told None h = h.0
    told (Some k) h = h.0

    caused : (o : Option Cause) → Ends (course_of side got b i) ((next_of got, b) ∷ got) w p whole o
        → (course_of side got b i).all.cause ≡ o
    caused None h = h.1
    caused (Some k) h = h.1

    after : (o : Option Cause) → o ≡ None → Ends (course_of side got b i) ((next_of got, b) ∷ got) w p whole o
        → AfterBy got ((next_of got, b) ∷ got) (course_of side got b i).all held b i
        (record { window = w; parts = p }) (held - (w.next - from))
    after (Some k) q z = absurd (let never : (let s : Option Cause = Some k in s) ≡ None = q in cc)
    after None q z = (
      record { window = z.2; joins = z.3.joins },
      z.3.copied,
      z.3.begun,
      omega
          (arith, count_ready got b h.distinct, h.among, e, h.bunches.window.next, z.2.next, next_later got b),
      omega (arith, h.few),
    )
