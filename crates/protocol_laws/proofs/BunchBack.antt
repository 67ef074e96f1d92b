-- A bunch is read as it was spelled, field by field.
use Rattle.std.proofs.Common.{◌≡◌, ℕ, ◌<◌, ◌^◌, ◌==◌, List, [], ◌∷◌, ◌++◌, Bool, true, false, not, ◌&&◌, ◌||◌, cond, nat_lt, Some, Ok, refl, ap, ◌∙◌, arith, length, length-append, append_assoc}
use Rattle.std.proofs.lemmas.Bool.Decides.{nat_tests}
use Rattle.std.proofs.lemmas.List.{take_at, drop_at}
use Rattle.std.proofs.lemmas.Bool.{ltb-true, lt-ltb, le-ltb}
use Rattle.protocol_model.specs.Bits.{int_bits}
use Rattle.protocol_model.specs.Numbers.{leading_bits}
use Rattle.protocol_model.specs.Reading.{Reading, ◌>>=◌, give, bits_at, int_at}
use Rattle.protocol_model.specs.Packet.{Bunch, implies, is_partial, is_initial, is_final, field_if, flag, channel_bits, channel_limit, bunch_bits, is_bunch}
use Rattle.protocol_model.specs.PacketReading.{read_if, bunch_at, channel_at}
use Rattle.protocol_model.specs.declared.Version.{Version}
use Rattle.protocol_model.specs.declared.Version.TheVariants.{One, Two}
use Rattle.protocol_model.specs.declared.Part.{Part}
use Rattle.protocol_model.specs.declared.Part.TheVariants.{Whole, First, Middle, Last, Lone}
use Rattle.protocol_model.specs.declared.Why.{Why}
use Rattle.protocol_model.specs.declared.Why.TheVariants.{Padded}
use Rattle.protocol_laws.specs.Fields.{Opening, Standing, on_channel_at, numbered_at, kind_at, exports_at, reserved_at, partial_at}
use Rattle.protocol_laws.specs.Parts.{control_bits, standing_bits, numbered_bits}
use Rattle.protocol_laws.proofs.Booleans.{left_of, right_of}
use Rattle.protocol_laws.proofs.FieldsBack.{or_short_some, int_read, packed_read}

-- the flags before the channel are read
pub control_read : (version : Version) (o c s r : Bool) (rest : List Bool) → not (o && c) ≡ true → implies s c ≡ true → implies (o || c) r ≡ true → bunch_at version (control_bits o c s r ++ rest) ≡ on_channel_at version (record { opens = o; closes = c; sleeps = s; reliable = r }) rest
control_read version true true s r rest p q h = cc
control_read version true false true r rest p q h = cc
control_read version true false false true rest p q h = refl
control_read version true false false false rest p q h = cc
control_read version false true s true rest p q h = refl
control_read version false true s false rest p q h = cc
control_read version false false true r rest p q h = cc
control_read version false false false r rest p q h = refl

-- the channel is read
pub channel_read : (version : Version) (channel : ℕ) (rest : List Bool) → channel < channel_limit version → channel_at version (channel_bits version channel ++ rest) ≡ Ok (channel, rest)
channel_read One channel rest h = int_read 10240 channel rest h (omega arith)
channel_read Two channel rest h = rw (packed_read Padded channel rest (omega arith), ◌>>=◌, lt-ltb channel (2 ^ 15) h) refl

-- a bunch from its flag of exports on
abbrev pub after_channel : Opening → ℕ → Reading Why Bunch
after_channel opening channel = do
  exports ← exports_at opening.opens
  _ ← reserved_at
  partial ← partial_at opening.reliable
  numbered_at opening (record { channel = channel; exports = exports; partial = partial })

standing_flags : (o c s r e p : Bool) (channel : ℕ) (rest : List Bool) → implies e o ≡ true → implies p r ≡ true → after_channel (record { opens = o; closes = c; sleeps = s; reliable = r }) channel (e ∷ false ∷ p ∷ rest) ≡ numbered_at (record { opens = o; closes = c; sleeps = s; reliable = r }) (record { channel = channel; exports = e; partial = p }) rest
standing_flags o c s r false false channel rest h k = refl
standing_flags o c s true false true channel rest h k = refl
standing_flags o c s false false true channel rest h k = cc
standing_flags true c s r true false channel rest h k = refl
standing_flags true c s true true true channel rest h k = refl
standing_flags true c s false true true channel rest h k = cc
standing_flags false c s r true p channel rest h k = cc

-- the channel and the flags after it are read
pub on_channel_read : (version : Version) (o c s r e : Bool) (part : Part) (channel : ℕ) (rest : List Bool) → channel < channel_limit version → implies e o ≡ true → implies (is_partial part) r ≡ true
    → on_channel_at version (record { opens = o; closes = c; sleeps = s; reliable = r }) (channel_bits version channel ++ (standing_bits e part ++ rest)) ≡ numbered_at (record { opens = o; closes = c; sleeps = s; reliable = r }) (record { channel = channel; exports = e; partial = is_partial part }) rest
on_channel_read version o c s r e part channel rest b h k = rw (channel_read version channel (standing_bits e part ++ rest) b, ◌>>=◌) (standing_flags o c s r e (is_partial part) channel rest h k)

-- the sequence number is read where it stands
seq_read : (r : Bool) (seq : ℕ) (rest : List Bool) → cond r (nat_lt seq 1024) (seq == 0) ≡ true → read_if r (int_at 1024) 0 (field_if r (int_bits 1024 seq) ++ rest) ≡ Ok (seq, rest)
seq_read true seq rest h = int_read 1024 seq rest (grind (arith, nat_tests)) (omega arith)
seq_read false seq rest h = let e : seq ≡ 0 = grind (arith, nat_tests) in rw e refl

-- the kind is read where it stands
kind_read : (r : Bool) (kind : ℕ) (rest : List Bool) → cond r (kind == 1 || kind == 2) (kind == 0) ≡ true → kind_at r (field_if r (int_bits 8 kind) ++ rest) ≡ Ok (kind, rest)
kind_read true kind rest h = let k : kind < 8 = grind (arith, nat_tests) in rw (int_read 8 kind rest k (omega arith), ◌>>=◌, h) refl
kind_read false kind rest h = let e : kind ≡ 0 = grind (arith, nat_tests) in rw e refl

-- a payload is lent as it stands
pub bits_read : (bits rest : List Bool) → bits_at {Why = Why} (length bits) (bits ++ rest) ≡ Ok (bits, rest)
bits_read bits rest =
    let long : nat_lt (length (bits ++ rest)) (length bits) ≡ false = le-ltb _ _ (omega (arith, length-append bits rest)) in
    let lent : leading_bits (length bits) (bits ++ rest) ≡ Some (bits, rest) = rw (long, take_at bits rest (length bits) refl, drop_at bits rest (length bits) refl) refl in
    or_short_some (leading_bits (length bits)) (bits ++ rest) (bits, rest) lent

-- a bunch from its kind on
abbrev pub from_kind : Opening → Standing → ℕ → Part → Reading Why Bunch
from_kind opening standing seq part = do
  kind ← kind_at opening.reliable
  size ← int_at 8192
  payload ← bits_at size
  give (record {
    opens = opening.opens;
    closes = opening.closes;
    sleeps = opening.sleeps;
    reliable = opening.reliable;
    channel = standing.channel;
    exports = standing.exports;
    part = part;
    seq = seq;
    kind = kind;
    payload = payload;
  })

from_kind_read : (b : Bunch) (partial : Bool) (rest : List Bool) → cond b.reliable (b.kind == 1 || b.kind == 2) (b.kind == 0) ≡ true → length b.payload < 8192
    → from_kind (record { opens = b.opens; closes = b.closes; sleeps = b.sleeps; reliable = b.reliable }) (record { channel = b.channel; exports = b.exports; partial = partial }) b.seq b.part (field_if b.reliable (int_bits 8 b.kind) ++ (int_bits 8192 (length b.payload) ++ (b.payload ++ rest))) ≡ Ok (b, rest)
from_kind_read b partial rest h k =
    rw (kind_read b.reliable b.kind (int_bits 8192 (length b.payload) ++ (b.payload ++ rest)) h, int_read 8192 (length b.payload) (b.payload ++ rest) k (omega arith), bits_read b.payload rest, ◌>>=◌) refl

pub regroup : (s f k z : List Bool) → s ++ f ++ k ++ z ≡ s ++ (f ++ (k ++ z))
regroup s f k z = simp append_assoc

-- a bunch is read from its sequence number on
pub numbered_read : (o c s r e : Bool) (channel : ℕ) (part : Part) (seq kind : ℕ) (payload rest : List Bool) → cond r (nat_lt seq 1024) (seq == 0) ≡ true → cond r (kind == 1 || kind == 2) (kind == 0) ≡ true → length payload < 8192
    → numbered_at (record { opens = o; closes = c; sleeps = s; reliable = r }) (record { channel = channel; exports = e; partial = is_partial part }) (numbered_bits r seq part kind ++ (int_bits 8192 (length payload) ++ (payload ++ rest)))
    ≡ Ok (record { opens = o; closes = c; sleeps = s; reliable = r; channel = channel; exports = e; part = part; seq = seq; kind = kind; payload = payload }, rest)
numbered_read o c s r e channel Whole seq kind payload rest h k l =
    let z : List Bool = int_bits 8192 (length payload) ++ (payload ++ rest) in
    let b : Bunch = record { opens = o; closes = c; sleeps = s; reliable = r; channel = channel; exports = e; part = Whole; seq = seq; kind = kind; payload = payload } in
    rw (regroup (field_if r (int_bits 1024 seq)) [] (field_if r (int_bits 8 kind)) z, seq_read r seq (field_if r (int_bits 8 kind) ++ z) h, numbered_at, ◌>>=◌) (from_kind_read b false rest k l)
numbered_read o c s r e channel First seq kind payload rest h k l =
    let z : List Bool = int_bits 8192 (length payload) ++ (payload ++ rest) in
    let b : Bunch = record { opens = o; closes = c; sleeps = s; reliable = r; channel = channel; exports = e; part = First; seq = seq; kind = kind; payload = payload } in
    rw (regroup (field_if r (int_bits 1024 seq)) (true ∷ false ∷ []) (field_if r (int_bits 8 kind)) z, seq_read r seq (true ∷ false ∷ (field_if r (int_bits 8 kind) ++ z)) h, numbered_at, ◌>>=◌) (from_kind_read b true rest k l)
numbered_read o c s r e channel Middle seq kind payload rest h k l =
    let z : List Bool = int_bits 8192 (length payload) ++ (payload ++ rest) in
    let b : Bunch = record { opens = o; closes = c; sleeps = s; reliable = r; channel = channel; exports = e; part = Middle; seq = seq; kind = kind; payload = payload } in
    rw (regroup (field_if r (int_bits 1024 seq)) (false ∷ false ∷ []) (field_if r (int_bits 8 kind)) z, seq_read r seq (false ∷ false ∷ (field_if r (int_bits 8 kind) ++ z)) h, numbered_at, ◌>>=◌) (from_kind_read b true rest k l)
numbered_read o c s r e channel Last seq kind payload rest h k l =
    let z : List Bool = int_bits 8192 (length payload) ++ (payload ++ rest) in
    let b : Bunch = record { opens = o; closes = c; sleeps = s; reliable = r; channel = channel; exports = e; part = Last; seq = seq; kind = kind; payload = payload } in
    rw (regroup (field_if r (int_bits 1024 seq)) (false ∷ true ∷ []) (field_if r (int_bits 8 kind)) z, seq_read r seq (false ∷ true ∷ (field_if r (int_bits 8 kind) ++ z)) h, numbered_at, ◌>>=◌) (from_kind_read b true rest k l)
numbered_read o c s r e channel Lone seq kind payload rest h k l =
    let z : List Bool = int_bits 8192 (length payload) ++ (payload ++ rest) in
    let b : Bunch = record { opens = o; closes = c; sleeps = s; reliable = r; channel = channel; exports = e; part = Lone; seq = seq; kind = kind; payload = payload } in
    rw (regroup (field_if r (int_bits 1024 seq)) (true ∷ true ∷ []) (field_if r (int_bits 8 kind)) z, seq_read r seq (true ∷ true ∷ (field_if r (int_bits 8 kind) ++ z)) h, numbered_at, ◌>>=◌) (from_kind_read b true rest k l)

-- the bits of a bunch, part by part
pub bunch_bits-parts : (version : Version) (b : Bunch) → bunch_bits version b
    ≡ control_bits b.opens b.closes b.sleeps b.reliable ++ (channel_bits version b.channel ++ (standing_bits b.exports b.part ++ (numbered_bits b.reliable b.seq b.part b.kind ++ (int_bits 8192 (length b.payload) ++ b.payload))))
bunch_bits-parts version b =
    regrouped (flag (b.opens || b.closes)) (field_if (b.opens || b.closes) (flag b.opens ++ flag b.closes)) (field_if b.closes (flag b.sleeps)) (flag false) (flag b.reliable) (channel_bits version b.channel) (flag b.exports) (flag (is_partial b.part))
    (field_if b.reliable (int_bits 1024 b.seq)) (field_if (is_partial b.part) (flag (is_initial b.part) ++ flag (is_final b.part))) (field_if b.reliable (int_bits 8 b.kind)) (int_bits 8192 (length b.payload)) b.payload
  where
    regrouped : (f1 f2 f3 f4 f5 f6 f7 f8 f9 f10 f11 f12 f13 : List Bool) → f1 ++ f2 ++ f3 ++ f4 ++ f5 ++ f6 ++ f7 ++ f4 ++ f8 ++ f9 ++ f10 ++ f11 ++ f12 ++ f13
        ≡ (f1 ++ f2 ++ f3 ++ f4 ++ f5) ++ (f6 ++ ((f7 ++ f4 ++ f8) ++ ((f9 ++ f10 ++ f11) ++ (f12 ++ f13))))
    regrouped f1 f2 f3 f4 f5 f6 f7 f8 f9 f10 f11 f12 f13 = simp append_assoc

-- the same, with what follows
pub bunch_bits-then : (version : Version) (b : Bunch) (rest : List Bool) → bunch_bits version b ++ rest
    ≡ control_bits b.opens b.closes b.sleeps b.reliable ++ (channel_bits version b.channel ++ (standing_bits b.exports b.part ++ (numbered_bits b.reliable b.seq b.part b.kind ++ (int_bits 8192 (length b.payload) ++ (b.payload ++ rest)))))
bunch_bits-then version b rest =
    ap (λ (bits : List Bool). bits ++ rest) (bunch_bits-parts version b)
    ∙ six (control_bits b.opens b.closes b.sleeps b.reliable) (channel_bits version b.channel) (standing_bits b.exports b.part) (numbered_bits b.reliable b.seq b.part b.kind) (int_bits 8192 (length b.payload)) b.payload rest
  where
    six : (a b c d e f rest : List Bool) → a ++ (b ++ (c ++ (d ++ (e ++ f)))) ++ rest ≡ a ++ (b ++ (c ++ (d ++ (e ++ (f ++ rest)))))
    six a b c d e f rest = simp append_assoc

-- the rules of a bunch's header, one by one
pub record Rules (version : Version) (b : Bunch) : Type 0 where
  pub control : not (b.opens && b.closes) ≡ true
  pub dormant : implies b.sleeps b.closes ≡ true
  pub reliable : implies (b.opens || b.closes) b.reliable ≡ true
  pub channel : b.channel < channel_limit version
  pub exports : implies b.exports b.opens ≡ true
  pub partial : implies (is_partial b.part) b.reliable ≡ true
  pub seq : cond b.reliable (nat_lt b.seq 1024) (b.seq == 0) ≡ true
  pub kind : cond b.reliable (b.kind == 1 || b.kind == 2) (b.kind == 0) ≡ true
  pub size : length b.payload < 8192

first_of_two : (r a b c d : Bool) → cond r (a && b) (c && d) ≡ true → cond r a c ≡ true
first_of_two true a b c d h = left_of a b h
first_of_two false a b c d h = left_of c d h

second_of_two : (r a b c d : Bool) → cond r (a && b) (c && d) ≡ true → cond r b d ≡ true
second_of_two true a b c d h = right_of a b h
second_of_two false a b c d h = right_of c d h

pub rules_of : (version : Version) (b : Bunch) → is_bunch version b ≡ true → Rules version b
rules_of version b h =
    let a = not (b.opens && b.closes) in
    let d = implies b.sleeps b.closes in
    let r = implies (b.opens || b.closes) b.reliable in
    let c = nat_lt b.channel (channel_limit version) in
    let e = implies b.exports b.opens in
    let p = implies (is_partial b.part) b.reliable in
    let n = cond b.reliable (nat_lt b.seq 1024 && (b.kind == 1 || b.kind == 2)) (b.seq == 0 && b.kind == 0) in
    let z = nat_lt (length b.payload) 8192 in
    let to_n : (a && d && r && c && e && p && n) ≡ true = left_of (a && d && r && c && e && p && n) z h in
    let to_p : (a && d && r && c && e && p) ≡ true = left_of (a && d && r && c && e && p) n to_n in
    let to_e : (a && d && r && c && e) ≡ true = left_of (a && d && r && c && e) p to_p in
    let to_c : (a && d && r && c) ≡ true = left_of (a && d && r && c) e to_e in
    let to_r : (a && d && r) ≡ true = left_of (a && d && r) c to_c in
    let to_d : (a && d) ≡ true = left_of (a && d) r to_r in
    let here : n ≡ true = right_of (a && d && r && c && e && p) n to_n in
    record {
      control = left_of a d to_d;
      dormant = right_of a d to_d;
      reliable = right_of (a && d) r to_r;
      channel = ltb-true _ _ (right_of (a && d && r) c to_c);
      exports = right_of (a && d && r && c) e to_e;
      partial = right_of (a && d && r && c && e) p to_p;
      seq = first_of_two b.reliable (nat_lt b.seq 1024) (b.kind == 1 || b.kind == 2) (b.seq == 0) (b.kind == 0) here;
      kind = second_of_two b.reliable (nat_lt b.seq 1024) (b.kind == 1 || b.kind == 2) (b.seq == 0) (b.kind == 0) here;
      size = ltb-true _ _ (right_of (a && d && r && c && e && p && n) z h);
    }

-- a bunch is read as it was spelled, whatever follows
pub bunch_read : (version : Version) (b : Bunch) (rest : List Bool) → is_bunch version b ≡ true → bunch_at version (bunch_bits version b ++ rest) ≡ Ok (b, rest)
bunch_read version b rest h =
    let rules = rules_of version b h in
    let end : List Bool = int_bits 8192 (length b.payload) ++ (b.payload ++ rest) in
    let last : List Bool = numbered_bits b.reliable b.seq b.part b.kind ++ end in
    let later : List Bool = channel_bits version b.channel ++ (standing_bits b.exports b.part ++ last) in
    ap (λ (bits : List Bool). bunch_at version bits) (bunch_bits-then version b rest)
    ∙ control_read version b.opens b.closes b.sleeps b.reliable later rules.control rules.dormant rules.reliable
    ∙ on_channel_read version b.opens b.closes b.sleeps b.reliable b.exports b.part b.channel last rules.channel rules.exports rules.partial
    ∙ numbered_read b.opens b.closes b.sleeps b.reliable b.exports b.channel b.part b.seq b.kind b.payload rest rules.seq rules.kind rules.size
