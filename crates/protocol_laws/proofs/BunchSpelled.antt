-- Only a bunch that was spelled is read.
use Rattle.std.proofs.Common.{◌≡◌, ℕ, ◌<◌, ◌==◌, List, [], ◌∷◌, ◌++◌, Bool, true, false, not, ◌&&◌, ◌||◌, cond, nat_lt, Ok, refl, sym, ap, ◌∙◌, subst, arith, length}
use Rattle.std.proofs.lemmas.Bool.{lt-ltb}
use Rattle.protocol_model.specs.Bits.{int_bits}
use Rattle.protocol_model.specs.Reading.{Reading, ◌>>=◌, give, bit_at, bits_at, int_at}
use Rattle.protocol_model.specs.Packet.{Bunch, implies, is_partial, is_initial, is_final, flag, field_if, channel_bits, bunch_bits, is_bunch}
use Rattle.protocol_model.specs.PacketReading.{read_if, bunch_at, channel_at, part_of}
use Rattle.protocol_model.specs.declared.Version.{Version}
use Rattle.protocol_model.specs.declared.Part.{Part}
use Rattle.protocol_model.specs.declared.Part.TheVariants.{Whole, First, Middle, Last, Lone}
use Rattle.protocol_model.specs.declared.Why.{Why}
use Rattle.protocol_laws.specs.Fields.{Opening, Standing as StandingValue, on_channel_at, numbered_at, kind_at}
use Rattle.protocol_laws.specs.Parts.{control_bits, standing_bits, numbered_bits}
use Rattle.protocol_laws.proofs.Booleans.{both}
use Rattle.protocol_laws.proofs.BunchBack.{Rules, after_channel, from_kind, bunch_bits-then, regroup}
use Rattle.protocol_laws.proofs.FieldsSpelled.{Reads, then_of, ok_same, channel_spelled, seq_spelled, kind_spelled, int_spelled, bits_spelled}

-- the flags before the channel were spelled
record Controlled (version : Version) (bits : List Bool) (r : Bunch × List Bool) : Type 0 where
  pub opens : Bool
  pub closes : Bool
  pub sleeps : Bool
  pub reliable : Bool
  pub rest : List Bool
  pub control : not (opens && closes) ≡ true
  pub dormant : implies sleeps closes ≡ true
  pub needs : implies (opens || closes) reliable ≡ true
  pub bits_are : bits ≡ control_bits opens closes sleeps reliable ++ rest
  pub next : on_channel_at version (record { opens = opens; closes = closes; sleeps = sleeps; reliable = reliable }) rest ≡ Ok r

control_spelled : (version : Version) (bits : List Bool) (r : Bunch × List Bool) → bunch_at version bits ≡ Ok r → Controlled version bits r
control_spelled version [] r h = absurd (cc)
control_spelled version (false ∷ []) r h = absurd (cc)
control_spelled version (false ∷ true ∷ bits) r h = absurd (cc)
control_spelled version (false ∷ false ∷ []) r h = absurd (cc)
control_spelled version (false ∷ false ∷ reliable ∷ bits) r h = record { opens = false; closes = false; sleeps = false; reliable = reliable; rest = bits; control = refl; dormant = refl; needs = refl; bits_are = refl; next = h }
control_spelled version (true ∷ []) r h = absurd (cc)
control_spelled version (true ∷ opens ∷ []) r h = absurd (cc)
control_spelled version (true ∷ true ∷ true ∷ bits) r h = absurd (cc)
control_spelled version (true ∷ false ∷ false ∷ bits) r h = absurd (cc)
control_spelled version (true ∷ true ∷ false ∷ []) r h = absurd (cc)
control_spelled version (true ∷ true ∷ false ∷ true ∷ bits) r h = absurd (cc)
control_spelled version (true ∷ true ∷ false ∷ false ∷ []) r h = absurd (cc)
control_spelled version (true ∷ true ∷ false ∷ false ∷ false ∷ bits) r h = absurd (cc)
control_spelled version (true ∷ true ∷ false ∷ false ∷ true ∷ bits) r h = record { opens = true; closes = false; sleeps = false; reliable = true; rest = bits; control = refl; dormant = refl; needs = refl; bits_are = refl; next = h }
control_spelled version (true ∷ false ∷ true ∷ []) r h = absurd (cc)
control_spelled version (true ∷ false ∷ true ∷ sleeps ∷ []) r h = absurd (cc)
control_spelled version (true ∷ false ∷ true ∷ sleeps ∷ true ∷ bits) r h = absurd (cc)
control_spelled version (true ∷ false ∷ true ∷ sleeps ∷ false ∷ []) r h = absurd (cc)
control_spelled version (true ∷ false ∷ true ∷ sleeps ∷ false ∷ false ∷ bits) r h = absurd (cc)
control_spelled version (true ∷ false ∷ true ∷ sleeps ∷ false ∷ true ∷ bits) r h = record { opens = false; closes = true; sleeps = sleeps; reliable = true; rest = bits; control = refl; dormant = closes_alone sleeps; needs = refl; bits_are = refl; next = h }
  where
    closes_alone : (sleeps : Bool) → implies sleeps true ≡ true
    closes_alone true = refl
    closes_alone false = refl

-- the flags after the channel were spelled
record Standing (o c s r : Bool) (channel : ℕ) (bits : List Bool) (got : Bunch × List Bool) : Type 0 where
  pub exports : Bool
  pub partial : Bool
  pub rest : List Bool
  pub opened : implies exports o ≡ true
  pub sure : implies partial r ≡ true
  pub bits_are : bits ≡ exports ∷ false ∷ partial ∷ rest
  pub next : numbered_at (record { opens = o; closes = c; sleeps = s; reliable = r }) (record { channel = channel; exports = exports; partial = partial }) rest ≡ Ok got

standing_spelled : (o c s r : Bool) (channel : ℕ) (bits : List Bool) (got : Bunch × List Bool) → after_channel (record { opens = o; closes = c; sleeps = s; reliable = r }) channel bits ≡ Ok got → Standing o c s r channel bits got
standing_spelled o c s r channel [] got h = absurd (cc)
standing_spelled false c s r channel (true ∷ bits) got h = absurd (cc)
standing_spelled o c s r channel (false ∷ []) got h = absurd (cc)
standing_spelled o c s r channel (false ∷ true ∷ bits) got h = absurd (cc)
standing_spelled o c s r channel (false ∷ false ∷ []) got h = absurd (cc)
standing_spelled o c s r channel (false ∷ false ∷ false ∷ bits) got h = record { exports = false; partial = false; rest = bits; opened = refl; sure = refl; bits_are = refl; next = h }
standing_spelled o c s true channel (false ∷ false ∷ true ∷ bits) got h = record { exports = false; partial = true; rest = bits; opened = refl; sure = refl; bits_are = refl; next = h }
standing_spelled o c s false channel (false ∷ false ∷ true ∷ bits) got h = absurd (cc)
standing_spelled true c s r channel (true ∷ []) got h = absurd (cc)
standing_spelled true c s r channel (true ∷ true ∷ bits) got h = absurd (cc)
standing_spelled true c s r channel (true ∷ false ∷ []) got h = absurd (cc)
standing_spelled true c s r channel (true ∷ false ∷ false ∷ bits) got h = record { exports = true; partial = false; rest = bits; opened = refl; sure = refl; bits_are = refl; next = h }
standing_spelled true c s true channel (true ∷ false ∷ true ∷ bits) got h = record { exports = true; partial = true; rest = bits; opened = refl; sure = refl; bits_are = refl; next = h }
standing_spelled true c s false channel (true ∷ false ∷ true ∷ bits) got h = absurd (cc)

-- the flags of a part were spelled
record Flagged (opening : Opening) (standing : StandingValue) (seq : ℕ) (bits : List Bool) (got : Bunch × List Bool) : Type 0 where
  pub part : Part
  pub rest : List Bool
  pub part_is : is_partial part ≡ standing.partial
  pub bits_are : bits ≡ field_if (is_partial part) (flag (is_initial part) ++ flag (is_final part)) ++ rest
  pub next : from_kind opening standing seq part rest ≡ Ok got

-- a bunch from the flags of a part on
abbrev flags_on : Opening → StandingValue → ℕ → Reading Why Bunch
flags_on opening standing seq = do
  initial ← read_if standing.partial bit_at false
  final ← read_if standing.partial bit_at false
  from_kind opening standing seq (part_of standing.partial initial final)

flags_spelled : (opening : Opening) (channel : ℕ) (exports partial : Bool) (seq : ℕ) (bits : List Bool) (got : Bunch × List Bool) → flags_on opening (record { channel = channel; exports = exports; partial = partial }) seq bits ≡ Ok got
    → Flagged opening (record { channel = channel; exports = exports; partial = partial }) seq bits got
flags_spelled opening channel exports false seq bits got h = record { part = Whole; rest = bits; part_is = refl; bits_are = refl; next = h }
flags_spelled opening channel exports true seq [] got h = absurd (cc)
flags_spelled opening channel exports true seq (initial ∷ []) got h = absurd (cc)
flags_spelled opening channel exports true seq (true ∷ true ∷ bits) got h = record { part = Lone; rest = bits; part_is = refl; bits_are = refl; next = h }
flags_spelled opening channel exports true seq (true ∷ false ∷ bits) got h = record { part = First; rest = bits; part_is = refl; bits_are = refl; next = h }
flags_spelled opening channel exports true seq (false ∷ true ∷ bits) got h = record { part = Last; rest = bits; part_is = refl; bits_are = refl; next = h }
flags_spelled opening channel exports true seq (false ∷ false ∷ bits) got h = record { part = Middle; rest = bits; part_is = refl; bits_are = refl; next = h }

-- a bunch of these flags and numbers
abbrev made : Opening → StandingValue → ℕ → Part → ℕ → List Bool → Bunch
made opening standing seq part kind payload = record {
  opens = opening.opens;
  closes = opening.closes;
  sleeps = opening.sleeps;
  reliable = opening.reliable;
  channel = standing.channel;
  exports = standing.exports;
  part = part;
  seq = seq;
  kind = kind;
  payload = payload;
}

-- the kind and the payload were spelled
record Kinded (opening : Opening) (standing : StandingValue) (seq : ℕ) (part : Part) (bits : List Bool) (got : Bunch × List Bool) : Type 0 where
  pub kind : ℕ
  pub payload : List Bool
  pub rest : List Bool
  pub kind_ok : cond opening.reliable (kind == 1 || kind == 2) (kind == 0) ≡ true
  pub size : length payload < 8192
  pub bits_are : bits ≡ field_if opening.reliable (int_bits 8 kind) ++ (int_bits 8192 (length payload) ++ (payload ++ rest))
  pub is : ◌≡◌ {A = Reads Bunch} (Ok (made opening standing seq part kind payload, rest)) (Ok got)

kinded : (opening : Opening) (standing : StandingValue) (seq : ℕ) (part : Part) (bits : List Bool) (got : Bunch × List Bool) → from_kind opening standing seq part bits ≡ Ok got → Kinded opening standing seq part bits got
kinded opening standing seq part bits got h =
    let with_payload : ℕ → List Bool → Reading Why Bunch = λ (kind : ℕ) (payload : List Bool). give (made opening standing seq part kind payload) in
    let with_size : ℕ → ℕ → Reading Why Bunch = λ (kind size : ℕ). (bits_at size >>= with_payload kind) in
    let a = then_of (kind_at opening.reliable) (λ kind. (int_at 8192 >>= with_size kind)) bits got h in
    let k = kind_spelled opening.reliable a.value bits a.rest a.first in
    let b = then_of (int_at 8192) (with_size a.value) a.rest got a.second in
    let z = int_spelled 8192 b.value a.rest b.rest (omega arith) (omega arith) b.first in
    let p = then_of (bits_at b.value) (with_payload a.value) b.rest got b.second in
    let l = bits_spelled b.value b.rest p.value p.rest p.first in
    record {
      kind = a.value;
      payload = p.value;
      rest = p.rest;
      kind_ok = k.0;
      size = let below = z.0 in let long = l.0 in omega (arith, below, long);
      bits_are = k.1 ∙ ap (λ (more : List Bool). field_if opening.reliable (int_bits 8 a.value) ++ more)
          (z.1 ∙ ap (λ (more : List Bool). int_bits 8192 b.value ++ more) l.1 ∙ ap (λ (size : ℕ). int_bits 8192 size ++ (p.value ++ p.rest)) (sym l.0));
      is = p.second;
    }

-- the numbers and the payload were spelled
record Numbered (opening : Opening) (standing : StandingValue) (bits : List Bool) (got : Bunch × List Bool) : Type 0 where
  pub seq : ℕ
  pub part : Part
  pub kind : ℕ
  pub payload : List Bool
  pub rest : List Bool
  pub part_is : is_partial part ≡ standing.partial
  pub seq_ok : cond opening.reliable (nat_lt seq 1024) (seq == 0) ≡ true
  pub kind_ok : cond opening.reliable (kind == 1 || kind == 2) (kind == 0) ≡ true
  pub size : length payload < 8192
  pub bits_are : bits ≡ numbered_bits opening.reliable seq part kind ++ (int_bits 8192 (length payload) ++ (payload ++ rest))
  pub is : ◌≡◌ {A = Reads Bunch} (Ok (made opening standing seq part kind payload, rest)) (Ok got)

numbered_spelled : (opening : Opening) (channel : ℕ) (exports partial : Bool) (bits : List Bool) (got : Bunch × List Bool) → numbered_at opening (record { channel = channel; exports = exports; partial = partial }) bits ≡ Ok got
    → Numbered opening (record { channel = channel; exports = exports; partial = partial }) bits got
numbered_spelled opening channel exports partial bits got h =
    let standing : StandingValue = record { channel = channel; exports = exports; partial = partial } in
    let a = then_of (read_if opening.reliable (int_at 1024) 0) (flags_on opening standing) bits got h in
    let s = seq_spelled opening.reliable a.value bits a.rest a.first in
    let f = flags_spelled opening channel exports partial a.value a.rest got a.second in
    let k = kinded opening standing a.value f.part f.rest got f.next in
    let end : List Bool = int_bits 8192 (length k.payload) ++ (k.payload ++ k.rest) in
    let flags : List Bool = field_if (is_partial f.part) (flag (is_initial f.part) ++ flag (is_final f.part)) in
    record {
      seq = a.value;
      part = f.part;
      kind = k.kind;
      payload = k.payload;
      rest = k.rest;
      part_is = f.part_is;
      seq_ok = s.0;
      kind_ok = k.kind_ok;
      size = k.size;
      bits_are = s.1 ∙ ap (λ (more : List Bool). field_if opening.reliable (int_bits 1024 a.value) ++ more) (f.bits_are ∙ ap (λ (more : List Bool). flags ++ more) k.bits_are)
          ∙ sym (regroup (field_if opening.reliable (int_bits 1024 a.value)) flags (field_if opening.reliable (int_bits 8 k.kind)) end);
      is = k.is;
    }

both_where : (r a b c d : Bool) → cond r a c ≡ true → cond r b d ≡ true → cond r (a && b) (c && d) ≡ true
both_where true a b c d h k = both a b h k
both_where false a b c d h k = both c d h k

-- the rules together
ruled : (version : Version) (b : Bunch) → Rules version b → is_bunch version b ≡ true
ruled version b rules =
    both _ _ (both _ _ (both _ _ (both _ _ (both _ _ (both _ _ (both _ _ rules.control rules.dormant) rules.reliable) (lt-ltb _ _ rules.channel)) rules.exports) rules.partial)
    (both_where b.reliable (nat_lt b.seq 1024) (b.kind == 1 || b.kind == 2) (b.seq == 0) (b.kind == 0) rules.seq rules.kind)) (lt-ltb _ _ rules.size)

-- the bits begin with the spelling of the bunch that is read
pub record IsSpelled (version : Version) (bits : List Bool) (got : Bunch × List Bool) : Type 0 where
  pub rules : is_bunch version got.0 ≡ true
  pub bits_are : bits ≡ bunch_bits version got.0 ++ got.1

pub bunch_spelled : (version : Version) (bits : List Bool) (got : Bunch × List Bool) → bunch_at version bits ≡ Ok got → IsSpelled version bits got
bunch_spelled version bits got h =
    let k = control_spelled version bits got h in
    let opening : Opening = record { opens = k.opens; closes = k.closes; sleeps = k.sleeps; reliable = k.reliable } in
    let a = then_of (channel_at version) (after_channel opening) k.rest got k.next in
    let c = channel_spelled version a.value k.rest a.rest a.first in
    let s = standing_spelled k.opens k.closes k.sleeps k.reliable a.value a.rest got a.second in
    let n = numbered_spelled opening a.value s.exports s.partial s.rest got s.next in
    let standing : StandingValue = record { channel = a.value; exports = s.exports; partial = s.partial } in
    let b : Bunch = made opening standing n.seq n.part n.kind n.payload in
    let flags : s.exports ∷ false ∷ s.partial ∷ s.rest ≡ standing_bits s.exports n.part ++ s.rest = ap (λ (p : Bool). s.exports ∷ false ∷ p ∷ s.rest) (sym n.part_is) in
    let spelled : bits ≡ bunch_bits version b ++ n.rest =
    k.bits_are ∙ ap (λ (more : List Bool). control_bits k.opens k.closes k.sleeps k.reliable ++ more)
    (c.1 ∙ ap (λ (more : List Bool). channel_bits version a.value ++ more)
    (s.bits_are ∙ flags ∙ ap (λ (more : List Bool). standing_bits s.exports n.part ++ more) n.bits_are))
    ∙ sym (bunch_bits-then version b n.rest) in
    let sure : implies (is_partial n.part) k.reliable ≡ true = ap (λ (p : Bool). implies p k.reliable) n.part_is ∙ s.sure in
    let rules : Rules version b = record { control = k.control; dormant = k.dormant; reliable = k.needs; channel = c.0; exports = s.opened; partial = sure; seq = n.seq_ok; kind = n.kind_ok; size = n.size } in
    let here : IsSpelled version bits (b, n.rest) = record { rules = ruled version b rules; bits_are = spelled } in
    subst (λ (got : Bunch × List Bool). IsSpelled version bits got) (ok_same (b, n.rest) got n.is) here
