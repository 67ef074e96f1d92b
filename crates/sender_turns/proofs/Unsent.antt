-- A record of handles that is right in every past of one tick tells of no packet that isn't known of.
use Rattle.std.proofs.Common.{◌≡◌, ◌∙◌, ℕ, zero, suc, ◌+◌, ◌-◌, ◌<◌, ◌≤◌, ◌%◌, ◌==◌, ◌&&◌, ◌||◌, List, [], ◌∷◌, ◌++◌, Bool, true, false, not, nat_lt, if◌then◌else◌, refl, ap, sym, subst, arith, ℤ}
use Rattle.std.specs.List.{filter_map, cons_option}
use Rattle.std.specs.Bool.{then_some}
use Rattle.std.proofs.lemmas.Bool.{eq-eqb, ne_eqb, false≢true}
use Rattle.std.proofs.lemmas.Bool.Decides.{nat_tests}
use Rattle.protocol_model.specs.Payload.{Opens}
use Rattle.protocol_model.specs.Value.{Class, Pair}
use Rattle.protocol_model.specs.Search.{is_among, greatest_of}
use Rattle.protocol_model.specs.declared.Fate.TheVariants.{Open, Arrived, Lost}
use Rattle.protocol_laws.proofs.Greatest.{greatest_of-cons}
use Rattle.change_model.specs.Changes.{Sample}
use Rattle.connection_model.specs.Feed.{Past, Took, Acked, tick_count}
use Rattle.connection_model.specs.Fates.{high_of, moved_of, fate_of, is_arrived, number_above}
use Rattle.connection_model.specs.Bunches.{after_making}
use Rattle.connection_laws.proofs.NearNumber.{near_number}
use Rattle.sender_laws.proofs.Makes.{moved_under}
use Rattle.sender_records.specs.Handles.{HandlesKept, KeepsHandles, handle_in, is_arrived_packet}

-- so many packets more have arrived, one by one
abbrev arriving : Past → ℕ → Past
arriving past zero = past
arriving past (suc k) = Took 0 (Acked ((high_of past + suc k) % 16384) ∷ []) [] ∷ arriving past k

moved_next : (past : Past) (n : ℕ) → n ≡ high_of past + 1
    → moved_of (Took 0 (Acked (n % 16384) ∷ []) [] ∷ past) ≡ n ∷ moved_of past
moved_next past n is =
    ap (λ (z : ℤ). filter_map (number_above (high_of past)) (z ∷ []) ++ moved_of past)
    (near_number n (high_of past) (omega (arith, is)) (omega (arith, is)))
    ∙ ap (λ (b : Bool). cons_option (then_some b n) [] ++ moved_of past) above
  where
    above : nat_lt (high_of past) n ≡ true
    above = grind (arith, nat_tests, is)

high_next : (past : Past) (n : ℕ) → n ≡ high_of past + 1 → high_of (Took 0 (Acked (n % 16384) ∷ []) [] ∷ past) ≡ n
high_next past n is =
    omega (arith, ap greatest_of (moved_next past n is), greatest_of-cons n (moved_of past), is)

high_arriving : (past : Past) (k : ℕ) → high_of (arriving past k) ≡ high_of past + k
high_arriving past zero = omega arith
high_arriving past (suc k) =
    high_next (arriving past k) (high_of past + suc k) (omega (arith, high_arriving past k))

among_arriving : (past : Past) (k : ℕ) → is_among (high_of past + suc k) (moved_of (arriving past (suc k))) ≡ true
among_arriving past k =
    let n : ℕ = high_of past + suc k in
    ap (is_among n) (moved_next (arriving past k) n (omega (arith, high_arriving past k)))
    ∙ ap (λ (b : Bool). b || is_among n (moved_of (arriving past k))) (eq-eqb n n refl)

ticks_arriving : (past : Past) (k : ℕ) → tick_count (arriving past k) ≡ tick_count past
ticks_arriving past zero = refl
ticks_arriving past (suc k) = ticks_arriving past k

-- a packet that was named last has arrived; nothing is known of one above
has_arrived_now : (past : Past) (n : ℕ) → 1 ≤ n → high_of past ≡ n → is_among n (moved_of past) ≡ true
    → is_arrived_packet past n ≡ true
has_arrived_now past n some high among =
    ap (λ (b : Bool). not b && is_arrived (fate_of past n)) zero_not
    ∙ ap (λ (b : Bool). is_arrived (if b then Open else if is_among n (moved_of past) then Arrived else Lost)) not_above
    ∙ ap (λ (b : Bool). is_arrived (if b then Arrived else Lost)) among
  where
    zero_not : (n == 0) ≡ false
    zero_not = ne_eqb n 0 (λ e. absurd (omega (arith, e, some)))

    not_above : nat_lt (high_of past) n ≡ false
    not_above = grind (arith, nat_tests, high)

not_arrived_yet : (past : Past) (n : ℕ) → nat_lt (high_of past) n ≡ true → is_arrived_packet past n ≡ false
not_arrived_yet past n above =
    ap (λ (b : Bool). not (n == 0) && is_arrived (if b then Open else if is_among n
    (moved_of past) then Arrived else Lost)) above
    ∙ never (not (n == 0))
  where
    never : (b : Bool) → (b && false) ≡ false
    never true = refl
    never false = refl

pub none_unsent : (t : HandlesKept) (samples : List Sample) (a tick ch : ℕ) (shown : Class) (values : List Pair)
    → ((past : Past) → tick ≡ tick_count past
    → KeepsHandles (after_making past ch (Opens [] a shown values)) samples a t)
    → (past : Past) → tick ≡ tick_count past → (h : ℕ) → (handle_in t.handles h).packet ≤ high_of past
none_unsent t samples a tick ch shown values keeps past now h = by (nat_lt (high_of past) n) refl
  where
    n : ℕ
    n = (handle_in t.handles h).packet

    made : Past → Past
    made past = after_making past ch (Opens [] a shown values)

    same : (p : Past) → moved_of (made p) ≡ moved_of p
    same p = moved_under [] p ch (Opens [] a shown values)

    by : (b : Bool) → nat_lt (high_of past) n ≡ b → n ≤ high_of past
    by false e = grind (arith, nat_tests, e)
    by true e =
        let above : high_of past < n = grind (arith, nat_tests, e) in
        let k : ℕ = n - high_of past - 1 in
        let is : high_of past + suc k ≡ n = omega (arith, above) in
        let later : Past = arriving past (suc k) in
        let unknown : is_arrived_packet (made past) n ≡ false =
        not_arrived_yet (made past) n (ap (λ (ms : List ℕ). nat_lt (greatest_of ms) n) (same past) ∙ e) in
        let known : is_arrived_packet (made later) n ≡ true =
        has_arrived_now (made later) n (omega (arith, above))
        (ap greatest_of (same later) ∙ high_arriving past (suc k) ∙ is)
        (ap (is_among n) (same later)
        ∙ subst (λ (x : ℕ). is_among x (moved_of later) ≡ true) is (among_arriving past k)) in
        absurd (false≢true (sym unknown ∙ sym ((keeps past now).each h).arrived
        ∙ ((keeps later (now ∙ sym (ticks_arriving past (suc k)))).each h).arrived ∙ known))
