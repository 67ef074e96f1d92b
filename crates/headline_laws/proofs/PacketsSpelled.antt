-- Every packet that an end sends can be spelled, and so is read back.
use Rattle.std.proofs.Common.{◌≡◌, ℕ, zero, suc, ◌+◌, ◌-◌, ◌*◌, ◌^◌, ◌%◌, ◌<◌, ◌≤◌, ◌==◌, List, [], ◌∷◌, ◌++◌, map, replicate, Bool, true, false, cond, ◌&&◌, nat_lt, nat_le, length, length-append, refl, sym, ap, ◌∙◌, subst, arith, Option, Some, None, Ok}
use Rattle.std.specs.List.{flat_map, list_all, range_with_len, AllByRecursion}
use Rattle.std.proofs.lemmas.List.{length-replicate}
use Rattle.std.proofs.lemmas.Nat.{mod_below}
use Rattle.protocol_model.specs.declared.Version.{Version}
use Rattle.protocol_model.specs.declared.Version.TheVariants.{One, Two}
use Rattle.protocol_model.specs.Bits.{bytes_of, number_of}
use Rattle.protocol_model.specs.Packet.{Packet, Spells, is_rec, is_head, rec_bits, start_bits, spelling_of}
use Rattle.protocol_model.specs.PacketReading as Reading
use Rattle.connection_model.specs.Feed.{End, Past, Ticked, Made, Waits, Sent, Took, Ended, Item, Event, Tick, Got, Call}
use Rattle.connection_model.specs.Fates.{head_of, top_of, word_count, history_word, taken_of, top_when, high_of}
use Rattle.connection_model.specs.Pack.{rec_of, packet_carrying}
use Rattle.connection_model.specs.Past.{past_of}
use Rattle.protocol_model.specs.Search.{is_among}
use Rattle.std.specs.Bool.{then_some}
use Rattle.std.specs.List.{filter_map, cons_option, slice_get}
use Rattle.protocol_model.specs.Value.{Class, Table}
use Rattle.connection_model.specs.Names.{class_named}
use Rattle.payload_laws.specs.Spelling.{KnowsLimits}
use Rattle.payload_laws.proofs.TableFacts.{named_limits}
use Rattle.protocol_model.specs.Payload.{Opens, Closes, Updates, Calls, Gone}
use Rattle.protocol_model.specs.Side.{Side, AtServer, AtClient}
use Rattle.connection_model.specs.State.{open_class_in, opened_class}
use Rattle.table_model.specs.Facts.{IsTable}
use Rattle.table_model.specs.Rules.{Entry}
use Rattle.table_model.specs.Grammar.{table_of}
use Rattle.payload_laws.specs.Limits.{HasLimits}
use Rattle.payload_laws.proofs.ClientLimits.{client_limits}
use Rattle.protocol_laws.proofs.BytesLaws.{bits_of-bytes_of}
use Rattle.protocol_laws.proofs.Lengths.{length-bits_of}
use Rattle.protocol_laws.proofs.Reading.{number_of_below}
use Rattle.protocol_laws.proofs.Booleans.{both}
use Rattle.protocol_laws.proofs.PacketLaws.{packet_back}
use Rattle.connection_laws.specs.Talk.{packet_at}
use Rattle.connection_laws.proofs.Searches.{least_low, least_high}
use Rattle.connection_laws.proofs.Feeds.{feed_done}
use Rattle.headline_laws.specs.Fits.{ItemFits, PacketFits, EventFits, PastFits, items_length, start_length}
use Rattle.headline_laws.proofs.Lengths.{start_same, count_of}
use Rattle.headline_laws.proofs.Ticks.{CallsKnow, tick_fits, event_call_fits}
use Rattle.headline_laws.proofs.Datagrams.{got_fits}
use Rattle.std.proofs.lemmas.Bool.{lt-ltb, le-leb}

-- ---- the head

word_low : (past : Past) (from : ℕ) → history_word past from < 2 ^ 32
word_low past from =
    let bits : List Bool = map (λ i. is_among (from - i) (taken_of past)) (range_with_len 0 32) in
    subst (λ (n : ℕ). number_of bits < 2 ^ n) (count_of (λ i. is_among (from - i) (taken_of past)) 32 0) (number_of_below bits)

words_low : (past : Past) (count from : ℕ) → list_all (λ word. nat_lt word (2 ^ 32)) (map (λ w. history_word past (top_of past - 32 * w)) (range_with_len from count)) ≡ true
words_low past zero from = refl
words_low past (suc count) from =
    both (nat_lt (history_word past (top_of past - 32 * from)) (2 ^ 32)) (list_all (λ word. nat_lt word (2 ^ 32)) (map (λ w. history_word past (top_of past - 32 * w)) (range_with_len (from + 1) count)))
    (lt-ltb (history_word past (top_of past - 32 * from)) (2 ^ 32) (word_low past (top_of past - 32 * from))) (words_low past count (from + 1))

head_fits : (v : Version) (past : Past) → is_head v (head_of v past) ≡ true
head_fits One past = refl
head_fits Two past =
    let test : ℕ → Bool = λ w. nat_le (top_of past - top_when past (high_of past)) (32 * w) in
    let low : 1 ≤ word_count past = least_low (λ w. nat_le (top_of past - top_when past (high_of past)) (32 * w)) 7 1 in
    let high : word_count past ≤ 1 + 7 = least_high (λ w. nat_le (top_of past - top_when past (high_of past)) (32 * w)) 7 1 in
    let count : length (head_of Two past).words ≡ word_count past = count_of (λ w. history_word past (top_of past - 32 * w)) (word_count past) 0 in
    let a : nat_lt (top_of past % 16384) 16384 ≡ true = lt-ltb (top_of past % 16384) 16384 (mod_below (top_of past) 16384 (omega arith)) in
    let b : nat_le 1 (length (head_of Two past).words) ≡ true = le-leb 1 (length (head_of Two past).words) (omega (arith, low, count)) in
    let c : nat_le (length (head_of Two past).words) 8 ≡ true = le-leb (length (head_of Two past).words) 8 (omega (arith, high, count)) in
    both (nat_lt (top_of past % 16384) 16384 && nat_le 1 (length (head_of Two past).words) && nat_le (length (head_of Two past).words) 8)
    (list_all (λ word. nat_lt word (2 ^ 32)) (head_of Two past).words)
    (both (nat_lt (top_of past % 16384) 16384 && nat_le 1 (length (head_of Two past).words)) (nat_le (length (head_of Two past).words) 8)
    (both (nat_lt (top_of past % 16384) 16384) (nat_le 1 (length (head_of Two past).words)) a b) c)
    (words_low past (word_count past) 0)

-- ---- a packet

recs_fit : (v : Version) (items : List Item) → AllByRecursion (ItemFits v) items → list_all (λ rec. is_rec v rec) (map rec_of items) ≡ true
recs_fit v [] h = refl
recs_fit v (item ∷ items) h = both (is_rec v (rec_of item)) (list_all (λ rec. is_rec v rec) (map rec_of items)) h.0.0 (recs_fit v items h.1)

-- records take the bits of their items
recs_length : (v : Version) (items : List Item) → length (flat_map (λ rec. rec_bits v rec) (map rec_of items)) ≡ items_length v items
recs_length v [] = refl
recs_length v (item ∷ items) =
    omega (
      arith,
      recs_length v items,
      length-append (rec_bits v (rec_of item)) (flat_map (λ rec. rec_bits v rec) (map rec_of items)),
      length-append (rec_bits v (rec_of item)) (flat_map (λ i. rec_bits v (rec_of i)) items),
    )

-- so many bits make so many bytes
bytes_few : (bits : List Bool) → length bits ≤ 8192 → length (bytes_of bits) ≤ 1024
bytes_few bits h =
    let held = bits_of-bytes_of bits in
    let under = held.1 in
    let its : 8 * length (bytes_of bits) ≡ length bits + held.0 = sym (length-bits_of (bytes_of bits)) ∙ ap length held.2 ∙ length-append bits (replicate held.0 false) ∙ ap (λ (n : ℕ). length bits + n) (length-replicate held.0 false) in
    omega (arith, its, under, h)

-- a packet that fits has a spelling
packet_spells : (end : End) (past : Past) (number : ℕ) (items : List Item) → PacketFits end.version (start_length end past) items
    → Spells end.version (packet_carrying end past number items) (spelling_of end.version (packet_carrying end past number items))
packet_spells end past number items f =
    let v : Version = end.version in
    let start : List Bool = start_bits v (number % 16384) (head_of v past) in
    let recs : List Bool = flat_map (λ rec. rec_bits v rec) (map rec_of items) in
    record {
      number = lt-ltb (number % 16384) 16384 (mod_below number 16384 (omega arith));
      head = head_fits v past;
      recs = recs_fit v items f.0;
      spelling = refl;
      size = bytes_few ((start ++ recs) ++ true ∷ []) (omega (arith, length-append (start ++ recs) (true ∷ []), length-append start recs, start_same v (number % 16384) past, recs_length v items, f.1));
    }

-- each packet that was sent has its spelling
pub packets_spell : (end : End) (past : Past) (k : ℕ) (p : Packet) → PastFits end past → packet_at end past k ≡ Some p → Spells end.version p (spelling_of end.version p)
packets_spell end [] k p f e = absurd (let never : (let o : Option Packet = None in o) ≡ Some p = e in cc)
packets_spell end (Ticked t s ∷ past) k p f e = packets_spell end past k p f.1 e
packets_spell end (Made c n m i ∷ past) k p f e = packets_spell end past k p f.1 e
packets_spell end (Waits m ∷ past) k p f e = packets_spell end past k p f.1 e
packets_spell end (Took n es ds ∷ past) k p f e = packets_spell end past k p f.1 e
packets_spell end (Ended g ∷ past) k p f e = packets_spell end past k p f.1 e
packets_spell end (Sent number t items ∷ past) k p f e = by (number == k) e (λ q. packets_spell end past k p f.1 q)
  where
    same : (x y : Packet) → (let o : Option Packet = Some x in o) ≡ Some y → x ≡ y
    same x y q = cc

    by : (b : Bool) → cond b (Some (packet_carrying end past number items)) (packet_at end past k) ≡ Some p → (packet_at end past k ≡ Some p → Spells end.version p (spelling_of end.version p)) → Spells end.version p (spelling_of end.version p)
    by true q ih = subst (λ (x : Packet). Spells end.version x (spelling_of end.version x)) (same (packet_carrying end past number items) p q) (packet_spells end past number items f.0)
    by false q ih = ih q

-- each packet is read back from its bytes
pub packets_read : (end : End) (past : Past) (k : ℕ) (p : Packet) → PastFits end past → packet_at end past k ≡ Some p → Reading.packet_of end.version (spelling_of end.version p) ≡ Ok p
packets_read end past k p f e = packet_back end.version p (spelling_of end.version p) (packets_spell end past k p f e)

-- ---- whatever an end hears

module _ (end : End) (know : (feed : List Event) → PastFits end (past_of end feed) → CallsKnow end.side (past_of end feed)) where
  pub feed_fits : (feed : List Event) → AllByRecursion EventFits feed → PastFits end (past_of end feed)
  feed_fits [] e = tt
  feed_fits (Tick sight ∷ feed) e = tick_fits end (past_of end feed) sight (feed_done end feed) e.0 (feed_fits feed e.1)
  feed_fits (Got bytes ∷ feed) e = got_fits end (past_of end feed) bytes (feed_fits feed e.1)
  feed_fits (Call a n args ∷ feed) e = event_call_fits end (past_of end feed) a n args (feed_fits feed e.1) (know feed (feed_fits feed e.1))

-- ---- the classes by which calls are made

-- the class of an opened actor has limits
opened_limits : (end : End) (past : Past) (a : ℕ) (class : Class) → PastFits end past → opened_class past a ≡ Some class → HasLimits class
opened_limits end [] a class f e = absurd (let no : (let o : Option Class = None in o) ≡ Some class = e in cc)
opened_limits end (Ticked t s ∷ past) a class f e = opened_limits end past a class f.1 e
opened_limits end (Made c n (Opens exports actor k values) i ∷ past) a class f e = by (actor == a) e (λ q. opened_limits end past a class f.1 q)
  where
    by : (b : Bool) → slice_get (cons_option (then_some b k) (filter_map (open_class_in a) past)) 0 ≡ Some class → (opened_class past a ≡ Some class → HasLimits class) → HasLimits class
    by true q ih = subst HasLimits (same k class q) f.0.1.1
      where
        same : (x y : Class) → (let o : Option Class = Some x in o) ≡ Some y → x ≡ y
        same x y q = cc
    by false q ih = ih q
opened_limits end (Made c n (Closes actor sleeps) i ∷ past) a class f e = opened_limits end past a class f.1 e
opened_limits end (Made c n (Updates actor k values) i ∷ past) a class f e = opened_limits end past a class f.1 e
opened_limits end (Made c n (Calls actor k call args) i ∷ past) a class f e = opened_limits end past a class f.1 e
opened_limits end (Made c n (Gone actor) i ∷ past) a class f e = opened_limits end past a class f.1 e
opened_limits end (Waits m ∷ past) a class f e = opened_limits end past a class f.1 e
opened_limits end (Sent n t items ∷ past) a class f e = opened_limits end past a class f.1 e
opened_limits end (Took n es ds ∷ past) a class f e = opened_limits end past a class f.1 e
opened_limits end (Ended g ∷ past) a class f e = opened_limits end past a class f.1 e

-- an end knows the calls of its classes
know_by : (end : End) (side : Side) (entries : List Entry) → IsTable entries → end.table ≡ table_of entries → end.side ≡ side → (feed : List Event) → PastFits end (past_of end feed) → CallsKnow side (past_of end feed)
know_by end AtServer entries is t s feed f a class e = opened_limits end (past_of end feed) a class f e
know_by end AtClient entries is t s feed f a class e = (client_limits entries end feed is t s).known a class e

-- whatever an end hears, where its sights are of a table's classes
pub end_fits : (end : End) (entries : List Entry) → IsTable entries → end.table ≡ table_of entries → (feed : List Event) → AllByRecursion EventFits feed → PastFits end (past_of end feed)
end_fits end entries is t feed e = feed_fits end (know_by end end.side entries is t refl) feed e

-- each class by which such an end may read has limits
pub end_knows : (end : End) (entries : List Entry) → IsTable entries → end.table ≡ table_of entries → (feed : List Event) → AllByRecursion EventFits feed → KnowsLimits end.side end.table (past_of end feed)
end_knows end entries is t feed e = record {
  named = λ names guid class h. named_limits entries names guid class is (ap (λ (table : Table). class_named table names guid) (sym t) ∙ h);
  known = λ a class h. know_by end end.side entries is t refl feed (end_fits end entries is t feed e) a class h;
}
