-- The acknowledgements with which a tick begins, put one by one.
use Rattle.std.proofs.Common.{◌≡◌, inl, inr, ℕ, ◌+◌, ◌*◌, ◌%◌, ◌<◌, ◌≤◌, List, [], ◌∷◌, ◌++◌, take, length, Bool, true, Option, Some, None, option_map, refl, sym, ap, ◌∙◌, arith, append_assoc, slice_get}
use Rattle.std.proofs.lemmas.Bool.{le-leb}
use Rattle.std.proofs.lemmas.List.{length-append, length-take, append-nil, take_more, take_all}
use Rattle.std.proofs.lemmas.List.Concat.{flat_map-append}
use Rattle.std.proofs.lemmas.Option.{slice_get_within, slice_get_cases, get_or_from_slice_get}
use Rattle.protocol_model.specs.Bits.{int_bits}
use Rattle.protocol_model.specs.declared.Version.{Version}
use Rattle.protocol_model.specs.declared.Version.TheVariants.{One}
use Rattle.protocol_model.specs.Packet.{Ack, rec_bits}
use Rattle.protocol_laws.proofs.FieldLengths.{power_width}
use Rattle.link_end.specs.Link.{Begun}
use Rattle.link_end.specs.Begun.{fits_after, with_bits, acks_bits}

pub get_none_within : {A : Type 0} (xs : List A) (i : ℕ) → slice_get xs i ≡ None → length xs ≤ i
get_none_within {A = A} xs i e =
    elim (slice_get_cases xs i).1 [ inl h ↦ absurd (none_some h.0 (sym e ∙ h.2)) | inr h ↦ h.0 ]
  where
    none_some : (x : A) → (let o : Option A = None in o) ≡ Some x → ⊥
    none_some x q = cc

acks_length : (ns : List ℕ) → length (acks_bits One ns) ≡ 15 * length ns
acks_length [] = refl
acks_length (n ∷ ns) =
    omega (
      arith,
      length-append (int_bits 16384 (n % 16384)) (acks_bits One ns),
      power_width 14 (n % 16384)
          (omega arith),
      acks_length ns,
    )

acks_take : (v : Version) (ns : List ℕ) (i n : ℕ) → slice_get ns i ≡ Some n
    → acks_bits v (take (i + 1) ns) ≡ acks_bits v (take i ns) ++ rec_bits v (Ack (n % 16384))
acks_take v ns i n e =
    ap (acks_bits v) (take_more ns i n (slice_get_within ns i n e))
    ∙ ap (λ (m : ℕ). acks_bits v (take i ns ++ m ∷ [])) (get_or_from_slice_get ns i n n e)
    ∙ flat_map-append (λ n. rec_bits v (Ack (n % 16384))) (take i ns) (n ∷ [])
    ∙ ap (λ (l : List Bool). acks_bits v (take i ns) ++ l) (append-nil (rec_bits v (Ack (n % 16384))))

pub with_bits_twice : (a b : List Bool) (p : Begun) → with_bits b (with_bits a p) ≡ with_bits (a ++ b) p
with_bits_twice a b p = ap (λ (o : Option (List Bool)). record p { current = o }) (by p.current)
  where
    by : (o : Option (List Bool))
        → option_map (λ bits. bits ++ b) (option_map (λ bits. bits ++ a) o) ≡ option_map (λ bits. bits ++ (a ++ b)) o
    by None = refl
    by (Some bits) = ap (λ (l : List Bool). Some l) (append_assoc bits a b)

-- one more fits
pub acks_fit : (v : Version) (packets old : Begun) (owed : List ℕ) (i n : ℕ) (bits : List Bool) → v ≡ One
    → packets ≡ with_bits (acks_bits One (take i owed)) old
    → old.current ≡ Some bits → length bits ≤ 256 → i < length owed → length owed ≤ 512
    → fits_after packets.current (length (rec_bits v (Ack (n % 16384)))) ≡ true
acks_fit v packets old owed i n bits one is current small within few =
    let acks : List Bool = acks_bits One (take i owed) in
    let now : packets.current ≡ Some (bits ++ acks) =
    ap (λ (p : Begun). p.current) is ∙ ap (option_map (λ bits. bits ++ acks)) current in
    let more : length (rec_bits v (Ack (n % 16384))) ≡ 15 =
    ap (λ (w : Version). length (rec_bits w (Ack (n % 16384)))) one
    ∙ omega (arith, power_width 14 (n % 16384) (omega arith)) in
    ap (λ (o : Option (List Bool)). fits_after o (length (rec_bits v (Ack (n % 16384))))) now
    ∙ le-leb (length (bits ++ acks) + length (rec_bits v (Ack (n % 16384))) + 1) 8192
    (omega (arith, more, length-append bits acks, acks_length (take i owed), length-take i owed))

-- and then one more is put
pub acks_more : (v : Version) (packets after old : Begun) (owed : List ℕ) (i n : ℕ) → v ≡ One
    → packets ≡ with_bits (acks_bits One (take i owed)) old
    → slice_get owed i ≡ Some n → after ≡ with_bits (rec_bits v (Ack (n % 16384))) packets
    → after ≡ with_bits (acks_bits One (take (i + 1) owed)) old
acks_more v packets after old owed i n one is get put =
    put
    ∙ ap (λ (w : Version). with_bits (rec_bits w (Ack (n % 16384))) packets) one
    ∙ ap (with_bits (rec_bits One (Ack (n % 16384)))) is
    ∙ with_bits_twice (acks_bits One (take i owed)) (rec_bits One (Ack (n % 16384))) old
    ∙ ap (λ (l : List Bool). with_bits l old) (sym (acks_take One owed i n get))

-- at the end all are
pub acks_all : (packets old : Begun) (owed : List ℕ) (i : ℕ) → packets ≡ with_bits (acks_bits One (take i owed)) old
    → slice_get owed i ≡ None
    → packets ≡ with_bits (acks_bits One owed) old
acks_all packets old owed i is none =
    is ∙ ap (λ (l : List ℕ). with_bits (acks_bits One l) old) (take_all i owed (get_none_within owed i none))
