-- The first part of an open, as the link is asked about it before it is made.
use Rattle.std.proofs.Common.{◌≡◌, ℕ, ◌+◌, ◌<◌, ◌≤◌, ◌==◌, List, Bool, true, false, ◌&&◌, ◌-◌, ◌*◌, min, length, Some, refl, sym, ap, ◌∙◌, subst, arith, if◌then◌else◌}
use Rattle.std.proofs.lemmas.Bool.{false≢true, ne_eqb}
use Rattle.protocol_model.specs.Numbers.{leading_bits}
use Rattle.protocol_model.specs.declared.Version.{Version}
use Rattle.protocol_model.specs.declared.Part.{Part}
use Rattle.protocol_model.specs.Packet.{Bunch, Sends, channel_limit}
use Rattle.protocol_model.specs.Payload.{Message, Opens, Closes, Updates, Calls, Gone, message_bits, part_at, part_count, piece_at}
use Rattle.connection_model.specs.Feed.{End, Carries}
use Rattle.connection_model.specs.Bunches.{made_bunch, has_exports}
use Rattle.connection_model.specs.Pack.{Packing, has_room, part_item}
use Rattle.outgoing_channels.proofs.Pieces.{piece_taken}
use Rattle.link_end.specs.Begun.{IsPackable}
use Rattle.link_end.proofs.Numbers.{same_packable, same_room}
use Rattle.bunch_packing.specs.Opens.{IsOpenOf}
use Rattle.bunch_packing.proofs.Packable.{made_packable}

-- the first part, with the number 0
abbrev pub first_with : (channel : ℕ) → (exports : Bool) → Part → (payload : List Bool) → Bunch
first_with ch exports part payload = record {
  opens = true;
  closes = false;
  sleeps = false;
  reliable = true;
  channel = ch;
  exports = exports;
  part = part;
  seq = 0;
  kind = 2;
  payload = payload;
}

and_true : (b : Bool) → (b && true) ≡ b
and_true true = refl
and_true false = refl

-- it is the first part as it will be made, but for its number
pub first_is : (m : Message) (ch : ℕ) (exports : Bool) (payload bits : List Bool) (part : Part) (n : ℕ) → 1 ≤ ch
    → IsOpenOf m exports payload → part ≡ part_at (part_count (length payload)) 0 → bits ≡ piece_at payload 0
    → first_with ch exports part bits ≡ record (made_bunch ch n m 0) { seq = 0 }
first_is (Opens segments a class values) ch exports payload bits part n some o p b =
    let m : Message = Opens segments a class values in
    let names : exports ≡ (has_exports m && true) = sym (and_true (has_exports m) ∙ o.names) in
    let parted : part ≡ part_at (part_count (length (message_bits m))) 0 =
    p ∙ ap (λ bits. part_at (part_count (length bits)) 0) (sym o.bits) in
    let kind : 2 ≡ (if ch == 0 then 1 else 2) =
    sym (ap (λ (b : Bool). if b then 1 else 2) (ne_eqb ch 0 (λ e. absurd (omega (arith, e, some))))) in
    let cut : bits ≡ piece_at (message_bits m) 0 = b ∙ ap (λ bits. piece_at bits 0) (sym o.bits) in
    same exports (has_exports m && true) part (part_at (part_count (length (message_bits m))) 0) 2
    (if ch == 0 then 1 else 2) bits (piece_at (message_bits m) 0) names parted kind cut
  where
    with_all : Bool → Part → ℕ → List Bool → Bunch
    with_all e p k bits = record (first_with ch e p bits) { kind = k }

    same : (e f : Bool) (p q : Part) (k l : ℕ) (x y : List Bool) → e ≡ f → p ≡ q → k ≡ l → x ≡ y
        → with_all e p k x ≡ with_all f q l y
    same e f p q k l x y a b c d =
        ap (λ (e : Bool). with_all e p k x) a ∙ ap (λ (p : Part). with_all f p k x) b
        ∙ ap (λ (k : ℕ). with_all f q k x) c ∙ ap (with_all f q l) d
first_is (Closes a sleeps) ch exports payload bits part n some o p b = absurd (false≢true o.opens)
first_is (Updates a class values) ch exports payload bits part n some o p b = absurd (false≢true o.opens)
first_is (Calls a number call args) ch exports payload bits part n some o p b = absurd (false≢true o.opens)
first_is (Gone a) ch exports payload bits part n some o p b = absurd (false≢true o.opens)

pub first_packable : (v : Version) (m : Message) (ch : ℕ) (b : Bunch) → ch < channel_limit v
    → b ≡ record (made_bunch ch 0 m 0) { seq = 0 } → IsPackable v (Sends b)
first_packable v m ch b low e =
    subst (λ (b : Bunch). IsPackable v (Sends b)) (sym e)
    (same_packable v (made_bunch ch 0 m 0) 0 refl (omega arith) (made_packable v ch 0 m 0 low))

-- whether there is room for it is whether there is room for the part that is made
pub first_room : (end : End) (p : Packing) (m : Message) (ch n : ℕ) (b : Bunch)
    → b ≡ record (made_bunch ch (n + 0) m 0) { seq = 0 }
    → has_room end p (part_item ch n m 0) ≡ has_room end p (Carries ch n b)
first_room end p m ch n b e =
    same_room end p (part_item ch n m 0) (Carries ch n b) (made_bunch ch (n + 0) m 0) 0 refl (ap Sends e)

-- the bits that are cut out of the payload are its first piece
pub first_cut : (payload left s more : List Bool) (len end : ℕ) → left ≡ payload → len ≡ length payload
    → end ≡ min len (7000 * 0 + 7000) → leading_bits end left ≡ Some (s, more) → s ≡ piece_at payload 0
first_cut payload left s more len end l e cut read =
    let count : end ≡ min (length payload) (7000 * 0 + 7000) - 7000 * 0 =
    cut ∙ ap (λ (k : ℕ). min k (7000 * 0 + 7000)) e ∙ whole (length payload) in
    piece_taken payload left s more 0 l
    (subst (λ (k : ℕ). leading_bits k left ≡ Some (s, more)) count read)
  where
    whole : (n : ℕ) → min n (7000 * 0 + 7000) ≡ min n (7000 * 0 + 7000) - 7000 * 0
    whole n = omega arith
