-- A link after a packet that it took.
use Rattle.std.proofs.Common.{◌≡◌, ℕ, ◌<◌, ◌≤◌, List, [], ◌∷◌, ◌++◌, map, reverse, length, Bool, true, false, Option, None, Result, Ok, IsTrue, refl, sym, ap, ◌∙◌, subst, arith, ℤ, pos, negsuc, ◌≤ℤ◌, ◌^◌, suc, to_z, of_z, w64}
use Rattle.std.specs.Prelude.{All, unsigned_abs, int_lt}
use Rattle.std.proofs.lemmas.Int.{ints}
use Rattle.protocol_model.specs.Bits.{near}
use Rattle.std.specs.List.{list_all}
use Rattle.std.proofs.lemmas.Bool.{false≢true, ltb-true, lt-ltb, and_parts, and_from}
use Rattle.std.proofs.lemmas.List.{append-nil}
use Rattle.protocol_model.specs.declared.Version.{Version}
use Rattle.protocol_model.specs.declared.Version.TheVariants.{One, Two}
use Rattle.protocol_model.specs.declared.Why.{Why}
use Rattle.protocol_model.specs.Packet.{Packet, Spells, is_head, is_rec}
use Rattle.protocol_model.specs.PacketReading.{packet_of}
use Rattle.connection_model.specs.Feed.{End, Past, Took, Entry, Delivered, deeds_since_tick}
use Rattle.connection_model.specs.Fates.{is_new, number_near, top_of, taken_of, high_of, last_sent}
use Rattle.connection_model.specs.Pack.{owes_head}
use Rattle.connection_model.specs.Verdict.{entries_in}
use Rattle.bit_io.specs.HeadOf.{head_of}
use Rattle.packet_codec.specs.Values.{rec_of, packet_value, are_recs}
use Rattle.packet_codec.specs.declared.packet.Packet.{Packet as PacketValue}
use Rattle.packet_codec.specs.declared.packet.Rec.{Rec as RecValue}
use Rattle.protocol_laws.proofs.BytesSpelled.{packet_spelled}
use Rattle.ack_book.specs.Book.{Book}
use Rattle.ack_book.specs.Keeps.{Keeps}
use Rattle.ack_book.specs.declared.answer.BadAck.{BadAck as BadAckValue}
use Rattle.ack_book.proofs.KeepsSteps.{like_keeps}
use Rattle.ack_book.proofs.Names.{near_low}
use Rattle.link_end.specs.Link.{Link}
use Rattle.link_end.specs.Rests.{Rests}
use Rattle.link_end.specs.News.{News, news_of, bad_of}
use Rattle.link_end.specs.Heard.{Hears, is_answered}
use Rattle.link_end.specs.Answers.{IsArrival, news_value}
use Rattle.link_end.specs.declared.arrival.Arrival.{Arrival}

-- ---- what was decoded has a spelling

recs_all : (v : Version) (recs : List RecValue) → list_all (λ rec. is_rec v rec) (map rec_of recs) ≡ true
    → are_recs v recs ≡ true
recs_all v [] h = h
recs_all v (rec ∷ recs) h =
    let both = and_parts (is_rec v (rec_of rec)) (list_all (λ rec. is_rec v rec) (map rec_of recs)) h in
    and_from (is_rec v (rec_of rec)) (are_recs v recs) both.0 (recs_all v recs both.1)

-- the rules that the packet keeps
pub record IsSpelled (v : Version) (p : PacketValue) : Type 0 where
  pub number : p.number < 16384
  pub head : IsTrue (is_head v (head_of p.head))
  pub recs : IsTrue (are_recs v p.recs)

pub decoded : (v w : Version) (p : PacketValue) (bytes : List ℕ) → All (λ byte. byte < 256) bytes
    → packet_of w bytes ≡ Ok (packet_value p) → w ≡ v → IsSpelled v p
decoded v w p bytes small e same =
    let spells : Spells v (packet_value p) bytes =
    packet_spelled v (packet_value p) bytes small (ap (λ (w : Version). packet_of w bytes) (sym same) ∙ e) in
    record {
      number = ltb-true p.number 16384 spells.number;
      head = spells.head;
      recs = recs_all v p.recs spells.recs;
    }

-- ---- and the link

owes_taken : (v : Version) (past : Past) (n : ℕ) (entries : List Entry) (handed : List Delivered)
    → is_answered v ≡ owes_head v (Took n entries handed ∷ past)
owes_taken One past n entries handed = refl
owes_taken Two past n entries handed = sym (lt-ltb 0 (suc (length (taken_of (deeds_since_tick past)))) (omega arith))

-- a book doesn't see what is handed on
keeps_handed : (book : Book) (v : Version) (past : Past) (n : ℕ) (entries : List Entry)
    (before after : List Delivered) → Keeps book v (Took n entries before ∷ past)
    → Keeps book v (Took n entries after ∷ past)
keeps_handed book v past n entries before after h =
    like_keeps book v (Took n entries before ∷ past) (Took n entries after ∷ past) h refl refl refl refl (λ k. refl)

-- what arrived is the packet
pub arrival_is : (book taken : Book) (end : End) (past : Past) (p : PacketValue) (a : Arrival) (number : ℕ)
    → Keeps taken end.version (Took number [] [] ∷ past)
    → pos number ≡ number_near past p.number → a.number ≡ number
    → Hears book [] (map news_value a.entries) end.version past number [] [] (entries_in end.version (packet_value p))
    a.bad
    → IsArrival past end (packet_value p) a
arrival_is book taken end past p a number keeps near same h =
    let told : number ≡ unsigned_abs (number_near past p.number) = ap unsigned_abs near in
    let es : List Entry = entries_in end.version (packet_value p) in
    record {
      number = ap pos same ∙ near;
      entries = h.news ∙ ap (λ (n : ℕ). news_of (Took n [] [] ∷ past) es) told;
      bad = h.cause ∙ ap (λ (n : ℕ). bad_of (Took n [] [] ∷ past) es) told;
    }

ok_is : (p q : Packet) → (let r : Result Packet (ℕ × Why) = Ok p in r) ≡ Ok q → p ≡ q
ok_is p q e = cc

-- and the link stands for the past with it
pub rests_taken : (l : Link) (book taken : Book) (end : End) (past : Past) (p : PacketValue) (q : Packet)
    (bytes : List ℕ) (number told : ℕ) (handed : List Delivered) (heard : Bool)
    (after : List News) (bad : Option BadAckValue)
    → Rests l end past → packet_of end.version bytes ≡ Ok (packet_value p) → packet_of end.version bytes ≡ Ok q
    → Keeps taken end.version (Took number [] [] ∷ past)
    → (Keeps taken end.version (Took number [] handed ∷ past)
    → Hears book [] after end.version past number [] handed (entries_in end.version (packet_value p)) bad)
    → bad ≡ None → told ≡ number → heard ≡ is_answered end.version → book.high ≤ book.last_sent
    → Rests (record l { book = book; heard = heard }) end
    (Took told (reverse (entries_in end.version q)) handed ∷ past)
rests_taken l book taken end past p q bytes number told handed heard after bad h e f keeps hears none same answered
    order =
    let es : List Entry = entries_in end.version (packet_value p) in
    let stands : Keeps book end.version (Took number (reverse es ++ []) handed ∷ past) =
    (hears (keeps_handed taken end.version past number [] [] handed keeps)).stands none in
    let is : packet_value p ≡ q = ok_is (packet_value p) q (sym e ∙ f) in
    let later : Past = Took told (reverse (entries_in end.version q)) handed ∷ past in
    let final : Keeps book end.version later =
    subst (λ (n : ℕ). Keeps book end.version (Took n (reverse (entries_in end.version q)) handed ∷ past)) (sym same)
    (subst (λ (r : Packet). Keeps book end.version (Took number (reverse (entries_in end.version r)) handed ∷ past))
    is
    (subst (λ (l : List Entry). Keeps book end.version (Took number l handed ∷ past)) (append-nil (reverse es))
    stands)) in
    let high : book.high ≡ high_of later = final.high in
    let sent : book.last_sent ≡ last_sent later = final.sent in
    record {
      book = final;
      budget = h.budget;
      silent = h.silent;
      last = h.last;
      count = h.count;
      high = omega (arith, high, sent, order);
      heard = answered ∙ owes_taken end.version past told (reverse (entries_in end.version q)) handed;
      idle = h.idle;
      kept = h.kept;
    }

-- ---- a number that isn't new

pub is_old : (b : Bool) → (b ≡ true → (let x : Bool = false in x) ≡ true) → b ≡ false
is_old true h = absurd (false≢true (h refl))
is_old false h = refl

-- it fits into 64 bits
pub old_fits : (past : Past) (n : ℕ) (z : ℤ) → z ≡ number_near past n → is_new past n ≡ false → top_of past < 2 ^ 61
    → to_z w64 (of_z w64 z) ≡ number_near past n
old_fits past n z e old small =
    let low : negsuc 8191 ≤ℤ near n (pos (top_of past)) 16384 = near_low n (top_of past) in
    let most : number_near past n ≤ℤ pos (top_of past) = not_above (top_of past) (number_near past n) old in
    let low' : negsuc 8191 ≤ℤ z = subst (λ (y : ℤ). negsuc 8191 ≤ℤ y) (sym e) low in
    let most' : z ≤ℤ pos (top_of past) = subst (λ (y : ℤ). y ≤ℤ pos (top_of past)) (sym e) most in
    fits z (top_of past) low' most' small ∙ e
  where
    not_above : (last : ℕ) (z : ℤ) → int_lt (pos last) z ≡ false → z ≤ℤ pos last
    not_above last z e = grind (arith, ints)

    fits : (z : ℤ) (top : ℕ) → negsuc 8191 ≤ℤ z → z ≤ℤ pos top → top < 2 ^ 61 → to_z w64 (of_z w64 z) ≡ z
    fits z top lo hi small = omega (arith, ints)
