-- How what a book keeps goes along with what the end does.
use Rattle.std.proofs.Common.{◌≡◌, ℕ, ◌+◌, ◌-◌, ◌%◌, ◌<◌, ◌≤◌, List, [], ◌∷◌, ◌++◌, Bool, true, false, ◌==◌, nat_lt, if◌then◌else◌, refl, sym, ap, ◌∙◌, subst, arith, slice_index_or, slice_set, length, reverse, take, drop, replicate, Option, ◌/◌, pos, ◌≤ℤ◌}
use Rattle.protocol_model.specs.declared.Version.{Version}
use Rattle.protocol_model.specs.declared.Version.TheVariants.{One, Two}
use Rattle.protocol_model.specs.Search.{is_among, greatest_of}
use Rattle.protocol_model.specs.Sight.{Seen}
use Rattle.connection_model.specs.Feed.{Past, Sent, Took, Ticked, Item, Entry, Acked, Delivered, deeds_since_tick}
use Rattle.connection_model.specs.Fates.{taken_of, top_of, owed_of, moved_of, high_of, last_sent, top_when, sent_in}
use Rattle.protocol_model.specs.Bits.{near}
use Rattle.std.specs.Int.{bit_at}
use Rattle.std.specs.List.{filter_map, cons_option}
use Rattle.std.proofs.lemmas.List.{get_or-replicate}
use Rattle.std.proofs.lemmas.Nat.{mod_below}
use Rattle.std.proofs.lemmas.Nat.Bits.{bit_at-zero}
use Rattle.ack_book.specs.Book.{Book, Room, fates_kept}
use Rattle.ack_book.specs.History.{bit_in}
use Rattle.ack_book.specs.Keeps.{Keeps}
use Rattle.protocol_model.specs.Limits.{unresolved_limit}
use Rattle.protocol_laws.proofs.Greatest.{greatest_of-cons, among_above}
use Rattle.ack_book.proofs.Steps.{if_other, told_at, bit_taken, owed_more, at_place, moves_one, none_above}

-- what a book keeps doesn't depend on the memory that it holds
pub held_keeps : (book : Book) (v : Version) (past : Past) (room : Room) → Keeps book v past → Keeps (record book { room = room }) v past
held_keeps book v past room h =
    record {
      version = h.version;
      sent = h.sent;
      high = h.high;
      top = h.top;
      base = h.base;
      owed = h.owed;
      history = h.history;
      fates = h.fates;
      told = h.told;
    }

-- in version One what is owed depends on what was taken since the last tick alone
pub owed_like : (v : Version) (past later : Past) → taken_of (deeds_since_tick past) ≡ taken_of (deeds_since_tick later)
    → owed_of v past ≡ owed_of v later
owed_like One past later e = ap (λ ns. reverse (take 512 ns)) e
owed_like Two past later e = refl

-- a packet is sent
pub sent_keeps : (book : Book) (v : Version) (past : Past) (told : List ℕ) (t : ℕ) (items : List Item) → Keeps book v past
    → length book.told ≡ unresolved_limit → book.last_sent < book.high + unresolved_limit → book.high ≤ book.last_sent
    → told ≡ slice_set book.told ((book.last_sent + 1) % unresolved_limit) book.top
    → Keeps (record book { last_sent = book.last_sent + 1; told = told }) v (Sent (book.last_sent + 1) t items ∷ past)
sent_keeps book v past told t items h len room order is =
    let s : ℕ = book.last_sent + 1 in
    let last : s ≡ last_sent (Sent s t items ∷ past) = omega (arith, greatest_of-cons s (filter_map sent_in past), h.sent) in
    record {
      version = h.version;
      sent = last;
      high = h.high;
      top = h.top;
      base = if_other s (high_of past) (top_of past) (top_when past (high_of past)) book.base (omega (arith, h.high)) h.base;
      owed = h.owed ∙ owed_like v past (Sent s t items ∷ past) refl;
      history = h.history;
      fates = h.fates;
      told = λ n above low.
          let low' : n ≤ s = subst (λ (k : ℕ). n ≤ k) (sym last) low in
          rw is (told_at book.told s n book.top (top_when past n) len low' (omega (arith, h.high))
          (λ under. h.told n above (omega (arith, h.sent)))
          ∙ ap (λ (k : ℕ). if s == n then k else top_when past n) h.top);
    }

-- what is owed once a packet was taken
owed_taken : (v : Version) (past : Past) (number : ℕ) (owed before : List ℕ) → before ≡ owed_of v past
    → (v ≡ One → owed ≡ drop (length (before ++ number ∷ []) - 512) (before ++ number ∷ []))
    → (v ≡ Two → owed ≡ before)
    → owed ≡ owed_of v (Took number [] [] ∷ past)
owed_taken One past number owed before e one two =
    let ns : List ℕ = taken_of (deeds_since_tick past) in
    one refl ∙ ap (λ (xs : List ℕ). drop (length (xs ++ number ∷ []) - 512) (xs ++ number ∷ [])) e ∙ owed_more ns number
owed_taken Two past number owed before e one two = two refl ∙ e

-- a packet is taken
pub taken_keeps : (book : Book) (v : Version) (past : Past) (number : ℕ) (owed history : List ℕ) → Keeps book v past
    → book.top < number
    → (book.version ≡ One → owed ≡ drop (length (book.owed ++ number ∷ []) - 512) (book.owed ++ number ∷ []))
    → (book.version ≡ Two → owed ≡ book.owed)
    → (book.version ≡ Two → (i : ℕ) → i < 256 → bit_in history i ≡ (if i == 0 then 1 else (if nat_lt i (number - book.top) then 0 else bit_in book.history (i - (number - book.top)))))
    → Keeps (record book { top = number; owed = owed; history = history }) v (Took number [] [] ∷ past)
taken_keeps book v past number owed history h above one two bits =
    let top : number ≡ greatest_of (number ∷ taken_of past) = omega (arith, greatest_of-cons number (taken_of past), h.top) in
    record {
      version = h.version;
      sent = h.sent;
      high = h.high;
      top = top;
      base = h.base;
      owed = owed_taken v past number owed book.owed h.owed (λ e. one (h.version ∙ e)) (λ e. two (h.version ∙ e));
      history = λ e i in_range.
          subst (λ (k : ℕ). bit_in history i ≡ (if is_among (k - i) (number ∷ taken_of past) then 1 else 0)) top
          (bit_taken number book.top i (bit_in history i) (taken_of past) (bit_in book.history) (sym h.top) above in_range
          (λ j low. h.history e j low ∙ ap (λ (k : ℕ). if is_among (k - j) (taken_of past) then 1 else 0) (sym h.top))
          (bits (h.version ∙ e) i in_range));
      fates = h.fates;
      told = h.told;
    }

-- a tick begins
pub ticked_keeps : (book : Book) (v : Version) (past : Past) (t : ℕ) (sight : List Seen) → Keeps book v past
    → Keeps (record book { owed = [] }) v (Ticked t sight ∷ past)
ticked_keeps book v past t sight h =
    record {
      version = h.version;
      sent = h.sent;
      high = h.high;
      top = h.top;
      base = h.base;
      owed = owed_none v;
      history = h.history;
      fates = h.fates;
      told = h.told;
    }
  where
    owed_none : (w : Version) → [] ≡ owed_of w (Ticked t sight ∷ past)
    owed_none One = refl
    owed_none Two = refl

-- another entry of the packet that was taken last moves numbers up to `to`
pub moved_keeps : (book : Book) (v : Version) (past : Past) (m : ℕ) (entry : Entry) (entries : List Entry) (handed : List Delivered) (to base : ℕ) (ring : List Bool)
    → Keeps book v (Took m entries handed ∷ past) → book.high < to → to ≤ book.last_sent
    → to ≡ high_of (Took m (entry ∷ entries) handed ∷ past)
    → base ≡ slice_index_or book.told (to % unresolved_limit) 0
    → ((n : ℕ) → n ≤ to → to < n + fates_kept → slice_index_or ring (n % fates_kept) false ≡ is_among n (moved_of (Took m (entry ∷ entries) handed ∷ past)))
    → Keeps (record book { high = to; base = base; arrived = ring }) v (Took m (entry ∷ entries) handed ∷ past)
moved_keeps book v past m entry entries handed to base ring h above within high is marks =
    let later : Past = Took m (entry ∷ entries) handed ∷ past in
    let before : Past = Took m entries handed ∷ past in
    record {
      version = h.version;
      sent = h.sent;
      high = high;
      top = h.top;
      base = is ∙ h.told to (omega (arith, h.high)) (omega (arith, h.sent)) ∙ ap (top_when past) high;
      owed = h.owed ∙ owed_like v before later refl;
      history = h.history;
      fates = λ n low near. marks n (subst (λ (k : ℕ). n ≤ k) (sym high) low) (subst (λ (k : ℕ). k < n + fates_kept) (sym high) near);
      told = λ n over low. let over' : to < n = subst (λ (k : ℕ). k < n) (sym high) over in h.told n (omega (arith, h.high)) low;
    }

-- another entry of the packet that was taken last moves nothing
pub still_keeps : (book : Book) (v : Version) (past : Past) (m : ℕ) (entry : Entry) (entries : List Entry) (handed : List Delivered)
    → Keeps book v (Took m entries handed ∷ past)
    → moved_of (Took m (entry ∷ entries) handed ∷ past) ≡ moved_of (Took m entries handed ∷ past)
    → Keeps book v (Took m (entry ∷ entries) handed ∷ past)
still_keeps book v past m entry entries handed h e =
    let later : Past = Took m (entry ∷ entries) handed ∷ past in
    let before : Past = Took m entries handed ∷ past in
    let high : high_of before ≡ high_of later = ap greatest_of (sym e) in
    record {
      version = h.version;
      sent = h.sent;
      high = h.high ∙ high;
      top = h.top;
      base = h.base ∙ ap (top_when past) high;
      owed = h.owed ∙ owed_like v before later refl;
      history = h.history;
      fates = λ n low near. h.fates n (subst (λ (k : ℕ). n ≤ k) (sym high) low) (subst (λ (k : ℕ). k < n + fates_kept) (sym high) near) ∙ ap (is_among n) (sym e);
      told = λ n over low. h.told n (subst (λ (k : ℕ). k < n) (sym high) over) low;
    }

-- the packet that was taken last acknowledges packet `to`, which is above the greatest moved
pub acked_keeps : (book : Book) (v : Version) (past : Past) (m : ℕ) (entries : List Entry) (handed : List Delivered) (n to base : ℕ) (ring : List Bool)
    → Keeps book v (Took m entries handed ∷ past) → book.high < to → to ≤ book.last_sent
    → near n (pos book.high) 16384 ≡ pos to
    → base ≡ slice_index_or book.told (to % unresolved_limit) 0
    → slice_index_or ring (to % fates_kept) false ≡ true
    → ((k : ℕ) → book.high < k → k < to → to < k + fates_kept → slice_index_or ring (k % fates_kept) false ≡ false)
    → ((k : ℕ) → k ≤ book.high → to < k + fates_kept → slice_index_or ring (k % fates_kept) false ≡ slice_index_or book.arrived (k % fates_kept) false)
    → Keeps (record book { high = to; base = base; arrived = ring }) v (Took m (Acked n ∷ entries) handed ∷ past)
acked_keeps book v past m entries handed n to base ring h above within acked is arrived lost kept =
    let before : Past = Took m entries handed ∷ past in
    let later : Past = Took m (Acked n ∷ entries) handed ∷ past in
    let near_high : near n (pos (high_of before)) 16384 ≡ pos to = ap (λ (k : ℕ). near n (pos k) 16384) (sym h.high) ∙ acked in
    let moved : moved_of later ≡ to ∷ moved_of before = moves_one (moved_of before) (high_of before) to _ near_high (omega (arith, h.high)) in
    let high : to ≡ high_of later = omega (arith, greatest_of-cons to (moved_of before), h.high) ∙ ap greatest_of (sym moved) in
    moved_keeps book v past m (Acked n) entries handed to base ring h above within high is
    (λ k low near.
    at_place (high_of before) to k (slice_index_or ring (k % fates_kept) false) (is_among k (moved_of before)) low
    (λ e. rw e arrived)
    (λ p q. lost k (omega (arith, h.high)) q near)
    (λ p. kept k (omega (arith, h.high)) near ∙ h.fates k p (omega (arith, h.high)))
    (among_above k (moved_of before))
    ∙ ap (is_among k) (sym moved))

-- it acknowledges one that isn't above the greatest moved
pub ignored_keeps : (book : Book) (v : Version) (past : Past) (m : ℕ) (entries : List Entry) (handed : List Delivered) (n : ℕ)
    → Keeps book v (Took m entries handed ∷ past)
    → near n (pos book.high) 16384 ≤ℤ pos book.high
    → Keeps book v (Took m (Acked n ∷ entries) handed ∷ past)
ignored_keeps book v past m entries handed n h low =
    let before : Past = Took m entries handed ∷ past in
    let low' : near n (pos (high_of before)) 16384 ≤ℤ pos (high_of before) = subst (λ (k : ℕ). near n (pos k) 16384 ≤ℤ pos k) h.high low in
    still_keeps book v past m (Acked n) entries handed h
    (ap (λ (o : Option ℕ). cons_option o [] ++ moved_of before) (none_above (high_of before) _ low'))

-- nothing was done yet
pub new_keeps : (v : Version) (owed : List ℕ) (arrived : List Bool) (told : List ℕ) (room : Room) → owed ≡ [] → arrived ≡ replicate fates_kept false
    → Keeps (record { version = v; last_sent = 0; high = 0; top = 0; base = 0; owed = owed; history = replicate 8 0; arrived = arrived; told = told; room = room }) v []
new_keeps v owed arrived told room none all_false =
    record {
      version = refl;
      sent = refl;
      high = refl;
      top = refl;
      base = refl;
      owed = none ∙ owed_none v;
      history = λ e i in_range. zero_bit i in_range;
      fates = λ n low near. rw all_false (get_or-replicate fates_kept (n % fates_kept) false false (mod_below n fates_kept (omega arith)));
      told = λ n above low. absurd (omega arith);
    }
  where
    owed_none : (w : Version) → [] ≡ owed_of w []
    owed_none One = refl
    owed_none Two = refl

    zero_bit : (i : ℕ) → i < 256 → bit_in (replicate 8 0) i ≡ 0
    zero_bit i h = ap (λ (x : ℕ). bit_at x (i % 32)) (get_or-replicate 8 (i / 32) 0 0 (omega arith)) ∙ bit_at-zero (i % 32)

-- ---- what a book doesn't see

pub like_keeps : (book : Book) (v : Version) (past later : Past) → Keeps book v past
    → last_sent past ≡ last_sent later → taken_of past ≡ taken_of later → moved_of past ≡ moved_of later
    → taken_of (deeds_since_tick past) ≡ taken_of (deeds_since_tick later) → ((n : ℕ) → top_when past n ≡ top_when later n)
    → Keeps book v later
like_keeps book v past later h sent taken moved recent told =
    let top : top_of past ≡ top_of later = ap greatest_of taken in
    let high : high_of past ≡ high_of later = ap greatest_of moved in
    record {
      version = h.version;
      sent = h.sent ∙ sent;
      high = h.high ∙ high;
      top = h.top ∙ top;
      base = h.base ∙ ap (top_when past) high ∙ told (high_of later);
      owed = h.owed ∙ owed_like v past later recent;
      history = λ e i within.
          h.history e i within ∙ ap (λ (ns : List ℕ). if is_among (greatest_of ns - i) ns then 1 else 0) taken;
      fates = λ n low near.
          h.fates n (subst (λ (k : ℕ). n ≤ k) (sym high) low) (subst (λ (k : ℕ). k < n + fates_kept) (sym high) near) ∙ ap (is_among n) moved;
      told = λ n over low.
          h.told n (subst (λ (k : ℕ). k < n) (sym high) over) (subst (λ (k : ℕ). n ≤ k) (sym sent) low) ∙ told n;
    }
