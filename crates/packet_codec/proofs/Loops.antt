-- Reading a list turn by turn.
use Rattle.std.proofs.Common.{◌≡◌, ℕ, zero, suc, ◌<◌, ◌≤◌, ◌+◌, ◌-◌, List, [], ◌∷◌, ◌++◌, Bool, Result, Ok, Err, refl, sym, ap, ◌∙◌, arith, length, append_assoc, append-nil, length-append, length-drop, map, take, drop, replicate, set, get_or, drop-cons, subst}
use Rattle.std.proofs.lemmas.List.{take_more_set, drop-set-lt, map-append, length-replicate}
use Rattle.std.proofs.lemmas.List.Elements.{All-append}
use Rattle.std.specs.Borrow.{Bor}
use Rattle.std.specs.Prelude.{All}
use Rattle.protocol_model.specs.Reading.{Fault, ◌>>=◌, left, fixed_at}
use Rattle.protocol_model.specs.Packet.{Rec}
use Rattle.protocol_model.specs.PacketReading.{words_at, recs_at, rec_at}
use Rattle.protocol_model.specs.declared.Version.{Version}
use Rattle.protocol_model.specs.declared.Why.{Why}
use Rattle.bit_io.specs.declared.lent.BitReader.{BitReader}
use Rattle.bit_io.specs.Lent.{bits_left}
use Rattle.bit_io.proofs.Places.{length-between}
use Rattle.protocol_laws.proofs.Bounds.{not_zero}
use Rattle.packet_codec.specs.Reads.{GoesOn}
use Rattle.packet_codec.specs.Lent.{IsLentFrom}
use Rattle.packet_codec.specs.Values.{rec_of}
use Rattle.packet_codec.specs.declared.packet.Rec.{Rec as RecValue}

-- how many bits a reader has left
pub left_length : (r : BitReader) → length (bits_left r) ≡ r.to - r.place
left_length r = length-between r.bytes.now r.place r.to r.ordered r.within

-- what was read before stands before what is read
abbrev pub behind : {A : Type 0} → List A → Result (List A × List Bool) (Fault Why) → Result (List A × List Bool) (Fault Why)
behind front (Ok got) = Ok (front ++ got.0, got.1)
behind front (Err fault) = Err fault

behind_one : {A : Type 0} (front : List A) (item : A) (r : Result (List A × List Bool) (Fault Why)) → behind front (elim r [ Ok got ↦ Ok (item ∷ got.0, got.1) | Err fault ↦ Err fault ]) ≡ behind (front ++ item ∷ []) r
behind_one front item (Ok got) = rw (append_assoc front (item ∷ []) got.0) refl
behind_one front item (Err fault) = refl

-- one more word
pub words_more : (count : ℕ) (front : List ℕ) (word : ℕ) (bits rest : List Bool) → fixed_at {Why = Why} 32 bits ≡ Ok (word, rest) → behind front (words_at (suc count) bits) ≡ behind (front ++ word ∷ []) (words_at count rest)
words_more count front word bits rest e = rw (words_at, ◌>>=◌, e) (behind_one front word (words_at count rest))

pub words_fault : (count : ℕ) (front : List ℕ) (bits : List Bool) (fault : Fault Why) → fixed_at {Why = Why} 32 bits ≡ Err fault → behind front (words_at (suc count) bits) ≡ Err fault
words_fault count front bits fault e = rw (words_at, ◌>>=◌, e) refl

-- one more entry
pub recs_more : (version : Version) (most : ℕ) (front : List Rec) (rec : Rec) (bits rest : List Bool) → 1 ≤ length bits → rec_at version bits ≡ Ok (rec, rest) → behind front (recs_at version (suc most) bits) ≡ behind (front ++ rec ∷ []) (recs_at version most rest)
recs_more version most front rec bits rest h e = rw (recs_at, ◌>>=◌, left, not_zero (length bits) h, e) (behind_one front rec (recs_at version most rest))

pub recs_fault : (version : Version) (most : ℕ) (front : List Rec) (bits : List Bool) (fault : Fault Why) → 1 ≤ length bits → rec_at version bits ≡ Err fault → behind front (recs_at version (suc most) bits) ≡ Err fault
recs_fault version most front bits fault h e = rw (recs_at, ◌>>=◌, left, not_zero (length bits) h, e) refl

-- no more entries
pub recs_end : (version : Version) (most : ℕ) (front : List Rec) (bits : List Bool) → length bits ≡ 0 → behind front (recs_at version most bits) ≡ Ok (front, bits)
recs_end version zero front bits h = rw (append-nil front) refl
recs_end version (suc most) front bits h = rw (recs_at, ◌>>=◌, left, h, append-nil front) refl

-- the first i of so many words are read, and those past them are 0
pub record WordsSoFar (old new : BitReader) (words : List ℕ) (count i : ℕ) : Type 0 where
  pub so_far : behind (take i words) (words_at (count - i) (bits_left new)) ≡ words_at count (bits_left old)
  pub past : drop i words ≡ replicate (8 - i) 0
  pub on : GoesOn old new

-- these entries are read, each lent from the bytes, and a turn is left for each bit left
pub record RecsSoFar (version : Version) (old new : BitReader) (recs : List RecValue) : Type 0 where
  pub so_far : behind (map rec_of recs) (recs_at version (length (bits_left old) - length recs) (bits_left new)) ≡ recs_at version (length (bits_left old)) (bits_left old)
  pub turns : length (bits_left new) + length recs ≤ length (bits_left old)
  pub lent : All (IsLentFrom old.bytes) recs
  pub bytes : new.bytes ≡ old.bytes

-- a turn for one word
pub words_step : (old new next : BitReader) (words : List ℕ) (count i word : ℕ) → WordsSoFar old new words count i → i < count → count ≤ 8 → fixed_at {Why = Why} 32 (bits_left new) ≡ Ok (word, bits_left next) → GoesOn new next → WordsSoFar old next (set words i word) count (i + 1)
words_step old new next words count i word h l most e on =
    let long : length words ≡ 8 = omega (arith, ap length h.past, length-drop i words, length-replicate {A = ℕ} (8 - i) 0) in
    let turn : count - i ≡ suc (count - (i + 1)) = omega arith in
    let front : take (i + 1) (set words i word) ≡ take i words ++ word ∷ [] = take_more_set words i word (omega (arith, long)) in
    let left : 8 - i ≡ suc (8 - (i + 1)) = omega arith in
    let cut : get_or words i 0 ∷ drop (suc i) words ≡ 0 ∷ replicate (8 - (i + 1)) 0 = sym (drop-cons words i 0 (omega (arith, long))) ∙ h.past ∙ ap (λ (n : ℕ). replicate n 0) left in
    let next_is : i + 1 ≡ suc i = omega arith in
    let after : drop (suc i) words ≡ replicate (8 - (i + 1)) 0 = cc in
    record {
      so_far =
          ap (λ (words : List ℕ). behind words (words_at (count - (i + 1)) (bits_left next))) front
          ∙ sym (words_more (count - (i + 1)) (take i words) word (bits_left new) (bits_left next) e)
          ∙ ap (λ (n : ℕ). behind (take i words) (words_at n (bits_left new))) (sym turn)
          ∙ h.so_far;
      past = drop-set-lt (i + 1) words i word (omega arith) ∙ ap (λ (n : ℕ). drop n words) next_is ∙ after;
      on = let o = h.on in record { bytes = on.bytes ∙ o.bytes; to = on.to ∙ o.to; place = let a = o.place in let b = on.place in omega (arith, a, b) };
    }

-- a word that isn't whole
pub words_stop : (old new : BitReader) (words : List ℕ) (count i : ℕ) (fault : Fault Why) → WordsSoFar old new words count i → i < count → fixed_at {Why = Why} 32 (bits_left new) ≡ Err fault → words_at count (bits_left old) ≡ Err fault
words_stop old new words count i fault h l e =
    let turn : count - i ≡ suc (count - (i + 1)) = omega arith in
    sym h.so_far ∙ ap (λ (n : ℕ). behind (take i words) (words_at n (bits_left new))) turn ∙ words_fault (count - (i + 1)) (take i words) (bits_left new) fault e

All-one : {X : Type 0} (P : X → Type 0) (x : X) → P x → All P (x ∷ [])
All-one P x h zero d l = h
All-one P x h (suc k) d l = absurd (omega arith)

-- a turn for one entry
pub recs_step : (version : Version) (old new next : BitReader) (recs : List RecValue) (rec : RecValue) → RecsSoFar version old new recs → 1 ≤ length (bits_left new) → rec_at version (bits_left new) ≡ Ok (rec_of rec, bits_left next) → GoesOn new next → new.place < next.place → IsLentFrom new.bytes rec → RecsSoFar version old next (recs ++ rec ∷ [])
recs_step version old new next recs rec h some e on onward lent =
    let turns = h.turns in
    let to = on.to in
    let longer : length (recs ++ rec ∷ []) ≡ length recs + 1 = length-append recs (rec ∷ []) in
    let shorter : length (bits_left next) < length (bits_left new) = omega (arith, left_length next, left_length new, to, onward, some) in
    let turn : length (bits_left old) - length recs ≡ suc (length (bits_left old) - length (recs ++ rec ∷ [])) = omega (arith, turns, some, longer) in
    let same : (bytes : Bor (List ℕ)) → new.bytes ≡ bytes → IsLentFrom bytes rec = λ bytes is. subst (λ (bytes : Bor (List ℕ)). IsLentFrom bytes rec) is lent in
    record {
      so_far =
          ap (λ (front : List Rec). behind front (recs_at version (length (bits_left old) - length (recs ++ rec ∷ [])) (bits_left next))) (map-append rec_of recs (rec ∷ []))
          ∙ sym (recs_more version (length (bits_left old) - length (recs ++ rec ∷ [])) (map rec_of recs) (rec_of rec) (bits_left new) (bits_left next) some e)
          ∙ ap (λ (n : ℕ). behind (map rec_of recs) (recs_at version n (bits_left new))) (sym turn)
          ∙ h.so_far;
      turns = omega (arith, turns, shorter, longer);
      lent = All-append (IsLentFrom old.bytes) recs (rec ∷ []) h.lent (All-one (IsLentFrom old.bytes) rec (same old.bytes h.bytes));
      bytes = on.bytes ∙ h.bytes;
    }

-- an entry that is at fault
pub recs_stop : (version : Version) (old new : BitReader) (recs : List RecValue) (fault : Fault Why) → RecsSoFar version old new recs → 1 ≤ length (bits_left new) → rec_at version (bits_left new) ≡ Err fault → recs_at version (length (bits_left old)) (bits_left old) ≡ Err fault
recs_stop version old new recs fault h some e =
    let turns = h.turns in
    let turn : length (bits_left old) - length recs ≡ suc (length (bits_left old) - length recs - 1) = omega (arith, turns, some) in
    sym h.so_far ∙ ap (λ (n : ℕ). behind (map rec_of recs) (recs_at version n (bits_left new))) turn ∙ recs_fault version (length (bits_left old) - length recs - 1) (map rec_of recs) (bits_left new) fault some e

-- the bits are used up
pub recs_done : (version : Version) (old new : BitReader) (recs : List RecValue) → RecsSoFar version old new recs → length (bits_left new) ≡ 0 → recs_at version (length (bits_left old)) (bits_left old) ≡ Ok (map rec_of recs, bits_left new)
recs_done version old new recs h none = sym h.so_far ∙ recs_end version (length (bits_left old) - length recs) (map rec_of recs) (bits_left new) none
