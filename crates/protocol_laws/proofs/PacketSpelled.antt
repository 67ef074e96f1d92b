-- Only a packet that was spelled is read.
use Rattle.std.proofs.Common.{◌≡◌, ℕ, zero, suc, ◌<◌, ◌≤◌, ◌+◌, ◌-◌, ◌^◌, ◌==◌, List, [], ◌∷◌, ◌++◌, Bool, true, false, nat_lt, Ok, refl, sym, ap, ◌∙◌, subst, arith, length, length-append, append_assoc}
use Rattle.std.specs.List.{flat_map, list_all}
use Rattle.std.proofs.lemmas.Bool.Decides.{nat_tests}
use Rattle.std.proofs.lemmas.Bool.{le-leb, lt-ltb}
use Rattle.protocol_model.specs.Bits.{int_bits, fixed_bits}
use Rattle.protocol_model.specs.Reading.{Reading, ◌>>=◌, give, left, int_at, fixed_at}
use Rattle.protocol_model.specs.Packet.{Head, Rec, Ack, Sends, Packet, rec_bits, is_rec, is_head, start_bits}
use Rattle.protocol_model.specs.PacketReading.{rec_at, recs_at, words_at, head_at, packet_at, ack_at, sends_at, bunch_at}
use Rattle.protocol_model.specs.declared.Version.{Version}
use Rattle.protocol_model.specs.declared.Version.TheVariants.{One, Two}
use Rattle.protocol_model.specs.declared.Why.{Why}
use Rattle.protocol_laws.specs.Parts.{words_bits}
use Rattle.protocol_laws.proofs.Booleans.{both}
use Rattle.protocol_laws.proofs.FieldsSpelled.{Reads, then_of, ok_same, ok_parts, int_spelled, fixed_spelled}
use Rattle.protocol_laws.proofs.BunchSpelled.{bunch_spelled}
use Rattle.protocol_laws.proofs.PacketBack.{rec_bits-some}

-- the bits begin with the spelling of the entry that is read
record RecSpelled (version : Version) (bits : List Bool) (got : Rec × List Bool) : Type 0 where
  pub rules : is_rec version got.0 ≡ true
  pub bits_are : bits ≡ rec_bits version got.0 ++ got.1

sends_one : (bits : List Bool) (got : Rec × List Bool) → sends_at One bits ≡ Ok got → RecSpelled One (false ∷ bits) got
sends_one bits got h =
    let a = then_of (bunch_at One) (λ bunch. give (Sends bunch)) bits got h in
    let s = bunch_spelled One bits (a.value, a.rest) a.first in
    let here : RecSpelled One (false ∷ bits) (Sends a.value, a.rest) = record { rules = s.rules; bits_are = ap (λ (more : List Bool). false ∷ more) s.bits_are } in
    subst (λ (got : Rec × List Bool). RecSpelled One (false ∷ bits) got) (ok_same (Sends a.value, a.rest) got a.second) here

ack_one : (bits : List Bool) (got : Rec × List Bool) → ack_at bits ≡ Ok got → RecSpelled One (true ∷ bits) got
ack_one bits got h =
    let a = then_of (int_at 16384) (λ number. give (Ack number)) bits got h in
    let s = int_spelled 16384 a.value bits a.rest (omega arith) (omega arith) a.first in
    let here : RecSpelled One (true ∷ bits) (Ack a.value, a.rest) = record { rules = lt-ltb _ _ s.0; bits_are = ap (λ (more : List Bool). true ∷ more) s.1 } in
    subst (λ (got : Rec × List Bool). RecSpelled One (true ∷ bits) got) (ok_same (Ack a.value, a.rest) got a.second) here

rec_spelled : (version : Version) (bits : List Bool) (got : Rec × List Bool) → rec_at version bits ≡ Ok got → RecSpelled version bits got
rec_spelled One [] got h = absurd (cc)
rec_spelled One (true ∷ bits) got h = ack_one bits got h
rec_spelled One (false ∷ bits) got h = sends_one bits got h
rec_spelled Two bits got h =
    let a = then_of (bunch_at Two) (λ bunch. give (Sends bunch)) bits got h in
    let s = bunch_spelled Two bits (a.value, a.rest) a.first in
    let here : RecSpelled Two bits (Sends a.value, a.rest) = record { rules = s.rules; bits_are = s.bits_are } in
    subst (λ (got : Rec × List Bool). RecSpelled Two bits got) (ok_same (Sends a.value, a.rest) got a.second) here

-- the bits are the spellings of the entries that are read
record RecsSpelled (version : Version) (bits : List Bool) (got : List Rec × List Bool) : Type 0 where
  pub rules : list_all (λ rec. is_rec version rec) got.0 ≡ true
  pub bits_are : bits ≡ flat_map (λ rec. rec_bits version rec) got.0
  pub rest : got.1 ≡ []

no_bits : (bits : List Bool) → length bits ≤ 0 → bits ≡ []
no_bits [] h = refl
no_bits (bit ∷ bits) h = absurd (omega arith)

recs_none : (version : Version) (bits : List Bool) (got : List Rec × List Bool) → length bits ≤ 0 → ◌≡◌ {A = Reads (List Rec)} (Ok ([], bits)) (Ok got) → RecsSpelled version bits got
recs_none version bits got h e =
    let none : bits ≡ [] = no_bits bits h in
    let here : RecsSpelled version bits ([], bits) = record { rules = refl; bits_are = none; rest = none } in
    subst (λ (got : List Rec × List Bool). RecsSpelled version bits got) (ok_same ([], bits) got e) here

-- the entries from the first on
abbrev recs_on : Version → ℕ → Reading Why (List Rec)
recs_on version most = do
  rec ← rec_at version
  recs ← recs_at version most
  give (rec ∷ recs)

recs_where : (version : Version) (most : ℕ) (bits : List Bool) (got : List Rec × List Bool) (b : Bool) → (length bits == 0) ≡ b → length bits ≤ suc most → recs_at version (suc most) bits ≡ Ok got
    → ((bits : List Bool) (got : List Rec × List Bool) → length bits ≤ most → recs_at version most bits ≡ Ok got → RecsSpelled version bits got) → RecsSpelled version bits got
recs_where version most bits got true t h e later = recs_none version bits got (grind (arith, nat_tests)) (rw t at e)
recs_where version most bits got false t h e later =
    let on : recs_on version most bits ≡ Ok got = rw t at e in
    let a = then_of (rec_at version) (λ rec. (recs_at version most >>= (λ recs. give (rec ∷ recs)))) bits got on in
    let s = rec_spelled version bits (a.value, a.rest) a.first in
    let some = rec_bits-some version a.value s.rules in
    let b = then_of (recs_at version most) (λ recs. give (a.value ∷ recs)) a.rest got a.second in
    let sum = length-append (rec_bits version a.value) a.rest in
    let whole : length bits ≡ length (rec_bits version a.value ++ a.rest) = ap length s.bits_are in
    let more = later a.rest (b.value, b.rest) (omega (arith, sum, whole, some, h)) b.first in
    let here : RecsSpelled version bits (a.value ∷ b.value, b.rest) = record { rules = both _ _ s.rules more.rules; bits_are = s.bits_are ∙ ap (λ (rest : List Bool). rec_bits version a.value ++ rest) more.bits_are; rest = more.rest } in
    subst (λ (got : List Rec × List Bool). RecsSpelled version bits got) (ok_same (a.value ∷ b.value, b.rest) got b.second) here

recs_spelled : (version : Version) (most : ℕ) (bits : List Bool) (got : List Rec × List Bool) → length bits ≤ most → recs_at version most bits ≡ Ok got → RecsSpelled version bits got
recs_spelled version zero bits got h e = recs_none version bits got h e
recs_spelled version (suc most) bits got h e = recs_where version most bits got (length bits == 0) refl h e (λ bits got. recs_spelled version most bits got)

-- the bits begin with the spelling of the words that are read
record WordsSpelled (count : ℕ) (bits : List Bool) (got : List ℕ × List Bool) : Type 0 where
  pub rules : list_all (λ word. nat_lt word (2 ^ 32)) got.0 ≡ true
  pub count_is : length got.0 ≡ count
  pub bits_are : bits ≡ words_bits got.0 ++ got.1

words_spelled : (count : ℕ) (bits : List Bool) (got : List ℕ × List Bool) → words_at count bits ≡ Ok got → WordsSpelled count bits got
words_spelled zero bits got h =
    let here : WordsSpelled zero bits ([], bits) = record { rules = refl; count_is = refl; bits_are = refl } in
    subst (λ (got : List ℕ × List Bool). WordsSpelled zero bits got) (ok_same ([], bits) got h) here
words_spelled (suc count) bits got h =
    let a = then_of (fixed_at 32) (λ word. (words_at count >>= (λ words. give (word ∷ words)))) bits got h in
    let s = fixed_spelled 32 a.value bits a.rest a.first in
    let b = then_of (words_at count) (λ words. give (a.value ∷ words)) a.rest got a.second in
    let more = words_spelled count a.rest (b.value, b.rest) b.first in
    let here : WordsSpelled (suc count) bits (a.value ∷ b.value, b.rest) = record {
      rules = both _ _ (lt-ltb _ _ s.0) more.rules;
      count_is = ap suc more.count_is;
      bits_are = s.1 ∙ ap (λ (rest : List Bool). fixed_bits 32 a.value ++ rest) more.bits_are ∙ sym (append_assoc (fixed_bits 32 a.value) (words_bits b.value) b.rest);
    } in
    subst (λ (got : List ℕ × List Bool). WordsSpelled (suc count) bits got) (ok_same (a.value ∷ b.value, b.rest) got b.second) here

-- the spelling of the head
abbrev head_bits : Version → Head → List Bool
head_bits One head = []
head_bits Two head = int_bits 16384 head.top ++ (int_bits 8 (length head.words - 1) ++ words_bits head.words)

-- the bits begin with the spelling of the head that is read
record HeadSpelled (version : Version) (bits : List Bool) (got : Head × List Bool) : Type 0 where
  pub rules : is_head version got.0 ≡ true
  pub bits_are : bits ≡ head_bits version got.0 ++ got.1

head_spelled : (version : Version) (bits : List Bool) (got : Head × List Bool) → head_at version bits ≡ Ok got → HeadSpelled version bits got
head_spelled One bits got h =
    let none : Head = record { top = 0; words = [] } in
    let here : HeadSpelled One bits (none, bits) = record { rules = refl; bits_are = refl } in
    subst (λ (got : Head × List Bool). HeadSpelled One bits got) (ok_same (none, bits) got h) here
head_spelled Two bits got h =
    let with_words : ℕ → List ℕ → Reading Why Head = λ (top : ℕ) (words : List ℕ). give (record { top = top; words = words }) in
    let a = then_of (int_at 16384) (λ top. (int_at 8 >>= (λ count. (words_at (count + 1) >>= with_words top)))) bits got h in
    let top = int_spelled 16384 a.value bits a.rest (omega arith) (omega arith) a.first in
    let b = then_of (int_at 8) (λ count. (words_at (count + 1) >>= with_words a.value)) a.rest got a.second in
    let count = int_spelled 8 b.value a.rest b.rest (omega arith) (omega arith) b.first in
    let w = then_of (words_at (b.value + 1)) (with_words a.value) b.rest got b.second in
    let words = words_spelled (b.value + 1) b.rest (w.value, w.rest) w.first in
    let long = words.count_is in
    let below = count.0 in
    let less : b.value ≡ length w.value - 1 = omega (arith, long) in
    let it : Head = record { top = a.value; words = w.value } in
    let here : HeadSpelled Two bits (it, w.rest) = record {
      rules = both _ _ (both _ _ (both _ _ (lt-ltb _ _ top.0) (le-leb _ _ (omega (arith, long)))) (le-leb _ _ (omega (arith, long, below)))) words.rules;
      bits_are = top.1 ∙ ap (λ (more : List Bool). int_bits 16384 a.value ++ more)
          (count.1 ∙ ap (λ (n : ℕ). int_bits 8 n ++ b.rest) less ∙ ap (λ (more : List Bool). int_bits 8 (length w.value - 1) ++ more) words.bits_are)
          ∙ sym (three (int_bits 16384 a.value) (int_bits 8 (length w.value - 1)) (words_bits w.value) w.rest);
    } in
    subst (λ (got : Head × List Bool). HeadSpelled Two bits got) (ok_same (it, w.rest) got w.second) here
  where
    three : (a b c rest : List Bool) → a ++ (b ++ c) ++ rest ≡ a ++ (b ++ (c ++ rest))
    three a b c rest = simp append_assoc

start_is : (version : Version) (number : ℕ) (head : Head) (more : List Bool) → int_bits 16384 number ++ (head_bits version head ++ more) ≡ start_bits version number head ++ more
start_is One number head more = refl
start_is Two number head more = simp append_assoc

-- the bits are the spelling of the packet that is read
pub record ContentSpelled (version : Version) (bits : List Bool) (p : Packet) : Type 0 where
  pub number : p.number < 16384
  pub head : is_head version p.head ≡ true
  pub recs : list_all (λ rec. is_rec version rec) p.recs ≡ true
  pub bits_are : bits ≡ start_bits version p.number p.head ++ flat_map (λ rec. rec_bits version rec) p.recs

pub content_spelled : (version : Version) (bits : List Bool) (p : Packet) (rest : List Bool) → packet_at version bits ≡ Ok (p, rest) → ContentSpelled version bits p
content_spelled version bits p rest h =
    let with_recs : ℕ → Head → List Rec → Reading Why Packet = λ (number : ℕ) (head : Head) (recs : List Rec). give (record { number = number; head = head; recs = recs }) in
    let with_head : ℕ → Head → Reading Why Packet = λ (number : ℕ) (head : Head). (left >>= (λ n. (recs_at version n >>= with_recs number head))) in
    let a = then_of (int_at 16384) (λ number. (head_at version >>= with_head number)) bits (p, rest) h in
    let number = int_spelled 16384 a.value bits a.rest (omega arith) (omega arith) a.first in
    let b = then_of (head_at version) (with_head a.value) a.rest (p, rest) a.second in
    let head = head_spelled version a.rest (b.value, b.rest) b.first in
    let r = then_of (recs_at version (length b.rest)) (with_recs a.value b.value) b.rest (p, rest) b.second in
    let recs = recs_spelled version (length b.rest) b.rest (r.value, r.rest) (omega arith) r.first in
    let it : Packet = record { number = a.value; head = b.value; recs = r.value } in
    let here : ContentSpelled version bits it = record {
      number = number.0;
      head = head.rules;
      recs = recs.rules;
      bits_are = number.1 ∙ ap (λ (more : List Bool). int_bits 16384 a.value ++ more) (head.bits_are ∙ ap (λ (more : List Bool). head_bits version b.value ++ more) recs.bits_are)
          ∙ start_is version a.value b.value (flat_map (λ rec. rec_bits version rec) r.value);
    } in
    let same = ok_parts it p r.rest rest r.second in
    subst (λ (p : Packet). ContentSpelled version bits p) same.0 here
