-- A packet's content is read as it was spelled.
use Rattle.std.proofs.Common.{◌≡◌, ℕ, zero, suc, ◌<◌, ◌≤◌, ◌+◌, ◌-◌, ◌^◌, ◌==◌, List, [], ◌∷◌, ◌++◌, Bool, true, false, ◌&&◌, nat_lt, nat_le, Ok, refl, ap, ◌∙◌, arith, length, length-append, append_assoc}
use Rattle.std.proofs.lemmas.Bool.Decides.{nat_tests}
use Rattle.std.specs.List.{flat_map, list_all}
use Rattle.std.proofs.lemmas.Bool.{leb-true, ltb-true}
use Rattle.protocol_model.specs.Bits.{int_bits, fixed_bits}
use Rattle.protocol_model.specs.Reading.{Reading, ◌>>=◌, give, left}
use Rattle.protocol_model.specs.Packet.{Head, Rec, Ack, Sends, Packet, rec_bits, is_rec, is_head, start_bits}
use Rattle.protocol_model.specs.PacketReading.{rec_at, recs_at, words_at, head_at, packet_at, ack_at, sends_at}
use Rattle.protocol_model.specs.declared.Version.{Version}
use Rattle.protocol_model.specs.declared.Version.TheVariants.{One, Two}
use Rattle.protocol_model.specs.declared.Why.{Why}
use Rattle.protocol_laws.specs.Parts.{words_bits}
use Rattle.protocol_laws.proofs.FieldsBack.{int_read, fixed_read}
use Rattle.protocol_laws.proofs.Booleans.{left_of, right_of}
use Rattle.protocol_laws.proofs.Bounds.{not_zero}
use Rattle.protocol_laws.proofs.BunchBack.{bunch_read}

-- an entry is read as it was spelled, whatever follows
pub rec_read : (version : Version) (rec : Rec) (rest : List Bool) → is_rec version rec ≡ true → rec_at version (rec_bits version rec ++ rest) ≡ Ok (rec, rest)
rec_read One (Ack number) rest h = rw (int_read 16384 number rest (ltb-true _ _ h) (omega arith), rec_at, ack_at, ◌>>=◌) refl
rec_read Two (Ack number) rest h = cc
rec_read One (Sends bunch) rest h = rw (bunch_read One bunch rest h, rec_at, sends_at, ◌>>=◌) refl
rec_read Two (Sends bunch) rest h = rw (bunch_read Two bunch rest h, rec_at, sends_at, ◌>>=◌) refl

-- an entry takes at least a bit
pub rec_bits-some : (version : Version) (rec : Rec) → is_rec version rec ≡ true → 1 ≤ length (rec_bits version rec)
rec_bits-some One (Ack number) h = omega arith
rec_bits-some Two (Ack number) h = cc
rec_bits-some One (Sends bunch) h = omega arith
rec_bits-some Two (Sends bunch) h = omega arith

-- entries are read as they were spelled, up to the end
pub recs_read : (version : Version) (recs : List Rec) (most : ℕ) → list_all (λ rec. is_rec version rec) recs ≡ true → length (flat_map (λ rec. rec_bits version rec) recs) ≤ most
    → recs_at version most (flat_map (λ rec. rec_bits version rec) recs) ≡ Ok (recs, [])
recs_read version [] zero h l = refl
recs_read version [] (suc most) h l = refl
recs_read version (rec ∷ recs) zero h l =
    let here : is_rec version rec ≡ true = left_of _ _ h in
    let some = rec_bits-some version rec here in
    let more : List Bool = flat_map (λ rec. rec_bits version rec) recs in
    absurd (omega (arith, length-append (rec_bits version rec) more, some))
recs_read version (rec ∷ recs) (suc most) h l =
    let here : is_rec version rec ≡ true = left_of _ _ h in
    let some = rec_bits-some version rec here in
    let more : List Bool = flat_map (λ rec. rec_bits version rec) recs in
    let sum = length-append (rec_bits version rec) more in
    let bits_left : (length (rec_bits version rec ++ more) == 0) ≡ false = not_zero _ (omega (arith, sum, some)) in
    let rest = recs_read version recs most (right_of _ _ h) (omega (arith, sum, some)) in
    rw (recs_at, ◌>>=◌, left, bits_left, rec_read version rec more here, rest) refl

-- words of history are read as they were spelled
pub words_read : (words : List ℕ) (rest : List Bool) → list_all (λ word. nat_lt word (2 ^ 32)) words ≡ true → words_at (length words) (words_bits words ++ rest) ≡ Ok (words, rest)
words_read [] rest h = refl
words_read (word ∷ words) rest h =
    let here : word < 2 ^ 32 = ltb-true _ _ (left_of (nat_lt word (2 ^ 32)) (list_all (λ word. nat_lt word (2 ^ 32)) words) h) in
    let others : list_all (λ word. nat_lt word (2 ^ 32)) words ≡ true = right_of (nat_lt word (2 ^ 32)) (list_all (λ word. nat_lt word (2 ^ 32)) words) h in
    let regroup : words_bits (word ∷ words) ++ rest ≡ fixed_bits 32 word ++ (words_bits words ++ rest) = append_assoc (fixed_bits 32 word) (words_bits words) rest in
    rw (regroup, words_at, ◌>>=◌, fixed_read 32 word (words_bits words ++ rest) here, words_read words rest others) refl

-- a packet from its entries on
abbrev after_head : Version → ℕ → Head → Reading Why Packet
after_head version number head = do
  bits ← left
  recs ← recs_at version bits
  give (record { number = number; head = head; recs = recs })

is_zero : (n : ℕ) → (n == 0) ≡ true → n ≡ 0
is_zero n h = grind (arith, nat_tests)

no_words : (words : List ℕ) → (length words == 0) ≡ true → words ≡ []
no_words [] h = refl
no_words (word ∷ words) h = let none : suc (length words) ≡ 0 = is_zero _ h in absurd (omega (arith, none))

same_head : (top : ℕ) (words : List ℕ) → top ≡ 0 → words ≡ [] → ◌≡◌ {A = Head} (record { top = 0; words = [] }) (record { top = top; words = words })
same_head top words t w = rw (t, w) refl

-- the number and the head are read as they were spelled, whatever follows
head_read : (version : Version) (number : ℕ) (head : Head) (rest : List Bool) → number < 16384 → is_head version head ≡ true
    → packet_at version (start_bits version number head ++ rest) ≡ after_head version number head rest
head_read One number head rest h k =
    let top : head.top ≡ 0 = is_zero _ (left_of _ _ k) in
    let words : head.words ≡ [] = no_words _ (right_of _ _ k) in
    rw (packet_at, ◌>>=◌, int_read 16384 number rest h (omega arith)) (ap (λ (it : Head). after_head One number it rest) (same_head head.top head.words top words))
head_read Two number head rest h k =
    let all : list_all (λ word. nat_lt word (2 ^ 32)) head.words ≡ true = right_of _ _ k in
    let upto : (nat_lt head.top 16384 && nat_le 1 (length head.words) && nat_le (length head.words) 8) ≡ true = left_of _ _ k in
    let most : length head.words ≤ 8 = leb-true _ _ (right_of _ _ upto) in
    let least_and : (nat_lt head.top 16384 && nat_le 1 (length head.words)) ≡ true = left_of _ _ upto in
    let least : 1 ≤ length head.words = leb-true _ _ (right_of _ _ least_and) in
    let top : head.top < 16384 = ltb-true _ _ (left_of _ _ least_and) in
    let count : length head.words - 1 + 1 ≡ length head.words = omega (arith, least) in
    let words : List Bool = words_bits head.words ++ rest in
    let regroup : start_bits Two number head ++ rest ≡ int_bits 16384 number ++ (int_bits 16384 head.top ++ (int_bits 8 (length head.words - 1) ++ words)) = four (int_bits 16384 number) (int_bits 16384 head.top) (int_bits 8 (length head.words - 1)) (words_bits head.words) rest in
    rw (
      regroup,
      packet_at,
      ◌>>=◌,
      int_read 16384 number (int_bits 16384 head.top ++ (int_bits 8 (length head.words - 1) ++ words)) h (omega arith),
      head_at,
      int_read 16384 head.top (int_bits 8 (length head.words - 1) ++ words) top (omega arith),
      int_read 8 (length head.words - 1) words (omega (arith, least, most)) (omega arith),
      count,
      words_read head.words rest all,
    ) refl
  where
    four : (a b c d rest : List Bool) → a ++ b ++ c ++ d ++ rest ≡ a ++ (b ++ (c ++ (d ++ rest)))
    four a b c d rest = simp append_assoc

-- a packet's content is read as it was spelled
pub packet_read : (version : Version) (p : Packet) → p.number < 16384 → is_head version p.head ≡ true → list_all (λ rec. is_rec version rec) p.recs ≡ true
    → packet_at version (start_bits version p.number p.head ++ flat_map (λ rec. rec_bits version rec) p.recs) ≡ Ok (p, [])
packet_read version p h k l =
    let more : List Bool = flat_map (λ rec. rec_bits version rec) p.recs in
    head_read version p.number p.head more h k ∙ rw (after_head, ◌>>=◌, left, recs_read version p.recs (length more) l (omega arith)) refl
