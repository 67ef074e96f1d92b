-- The whole payloads that bunches make, one after another.
use Rattle.std.proofs.Common.{◌≡◌, ℕ, List, [], ◌∷◌, Bool, true, false, Option, Some, None, refl, sym, subst}
use Rattle.std.specs.List.{AllByRecursion}
use Rattle.protocol_model.specs.Packet.{Bunch}
use Rattle.protocol_model.specs.declared.PartWhy.{PartWhy}
use Rattle.protocol_model.specs.declared.Cause.{Cause}
use Rattle.protocol_model.specs.declared.Cause.TheVariants.{BadChannel, BadPart}
use Rattle.protocol_model.specs.Side.{AtClient}
use Rattle.connection_model.specs.Windows.{part_fault, ends_payload, first_of, joined_bits}
use Rattle.receiving_laws.specs.Receiving.{Raw, Raws, with_raw, is_astray, copied_after, raws_of}
use Rattle.connection_laws.proofs.Applied.{kept_after}
use Rattle.client_laws.specs.Holding.{Begun, MayCome, ComeInTurn}
use Rattle.receiving_laws.specs.Receiving.{copied_through}
use Rattle.client_laws.proofs.Parts.{IsOf, joining, may_come, none_begun, more_begun, goes_on_open}

-- ---- one bunch

pub raws_astray : (copied : Bool) (kept : List Bunch) (b : Bunch) (more : List Bunch)
    → is_astray AtClient copied kept b ≡ true
    → raws_of AtClient copied kept (b ∷ more) ≡ record { whole = []; cause = Some (BadChannel b.channel) }
raws_astray copied kept b more e = rw (e, raws_of) refl

pub raws_faulty : (copied : Bool) (kept : List Bunch) (b : Bunch) (more : List Bunch) (why : PartWhy)
    → is_astray AtClient copied kept b ≡ false → part_fault kept b b.part ≡ Some why
    → raws_of AtClient copied kept (b ∷ more) ≡ record { whole = []; cause = Some (BadPart b.channel why) }
raws_faulty copied kept b more why e f = rw (raws_of, e, f) refl

pub raws_more : (copied : Bool) (kept : List Bunch) (b : Bunch) (more : List Bunch)
    → is_astray AtClient copied kept b ≡ false → part_fault kept b b.part ≡ None → ends_payload b ≡ false
    → raws_of AtClient copied kept (b ∷ more) ≡ raws_of AtClient copied (b ∷ kept) more
raws_more copied kept b more e f g = rw (raws_of, e, f, g) refl

pub raws_last : (copied : Bool) (kept : List Bunch) (b : Bunch) (more : List Bunch)
    → is_astray AtClient copied kept b ≡ false → part_fault kept b b.part ≡ None → ends_payload b ≡ true
    → raws_of AtClient copied kept (b ∷ more) ≡ with_raw
    (first_of (joining kept b) b, joined_bits (joining kept b) b)
    (raws_of AtClient (copied_after copied (first_of (joining kept b) b)) [] more)
raws_last copied kept b more e f g = rw (raws_of, e, f, g) refl

-- ---- all of them

-- these payloads come in turn, and where no rule is broken the parts that are kept then may go on
pub record Come (ch : ℕ) (copied : Bool) (kept bunches : List Bunch) (raws : Raws) : Type 0 where
  pub turns : ComeInTurn ch copied raws.whole
  pub begun : raws.cause ≡ None → Begun (copied_through copied raws.whole) (kept_after kept bunches)

never : {B : Type 0} (cause : Cause) → Some cause ≡ None → B
never cause e = absurd (cc)

come_last : (ch : ℕ) (copied : Bool) (kept : List Bunch) (b : Bunch) (more : List Bunch) (raw : Raw)
    (raws : Raws)
    → ends_payload b ≡ true → MayCome ch copied raw.0 → Come ch (copied_after copied raw.0) [] more raws
    → Come ch copied kept (b ∷ more) (with_raw raw raws)
come_last ch copied kept b more raw raws e may later = record {
  turns = (may, later.turns);
  begun = λ c. rw e (later.begun c);
}

come_more : (ch : ℕ) (copied : Bool) (kept : List Bunch) (b : Bunch) (more : List Bunch) (raws : Raws)
    → ends_payload b ≡ false → Come ch copied (b ∷ kept) more raws
    → Come ch copied kept (b ∷ more) raws
come_more ch copied kept b more raws e later = record { turns = later.turns; begun = λ c. rw e (later.begun c) }

pub come : (ch : ℕ) (copied : Bool) (kept bunches : List Bunch) → AllByRecursion (IsOf ch) kept
    → AllByRecursion (IsOf ch) bunches → Begun copied kept
    → Come ch copied kept bunches (raws_of AtClient copied kept bunches)
come ch copied kept [] k h begun = record { turns = tt; begun = λ c. begun }
come ch copied kept (b ∷ more) k h begun =
    by_astray (is_astray AtClient copied kept b) refl
    (λ a. come ch (copied_after copied (first_of (joining kept b) b)) [] more tt h.1 (none_begun _))
    (λ a g. come ch copied (b ∷ kept) more (h.0, k) h.1 g)
  where
    Rest : Type 0
    Rest =
        Come ch (copied_after copied (first_of (joining kept b) b)) [] more
        (raws_of AtClient (copied_after copied (first_of (joining kept b) b)) [] more)

    by_end : (e : Bool) → ends_payload b ≡ e → is_astray AtClient copied kept b ≡ false
        → part_fault kept b b.part ≡ None
        → Rest
        → (Begun copied (b ∷ kept) → Come ch copied (b ∷ kept) more (raws_of AtClient copied (b ∷ kept) more))
        → Come ch copied kept (b ∷ more) (raws_of AtClient copied kept (b ∷ more))
    by_end true e a f last on =
        subst (Come ch copied kept (b ∷ more)) (sym (raws_last copied kept b more a f e))
        (come_last ch copied kept b more _ _ e (may_come ch copied kept b k h.0 begun a) last)
    by_end false e a f last on =
        subst (Come ch copied kept (b ∷ more)) (sym (raws_more copied kept b more a f e)) (come_more ch copied
        kept b more _ e (on (more_begun copied kept b h.0.sound begun a (goes_on_open kept b f e))))

    by_fault : (o : Option PartWhy) → part_fault kept b b.part ≡ o → is_astray AtClient copied kept b ≡ false
        → Rest
        → (Begun copied (b ∷ kept) → Come ch copied (b ∷ kept) more (raws_of AtClient copied (b ∷ kept) more))
        → Come ch copied kept (b ∷ more) (raws_of AtClient copied kept (b ∷ more))
    by_fault (Some why) f a last on =
        subst (Come ch copied kept (b ∷ more)) (sym (raws_faulty copied kept b more why a f))
        (record { turns = tt; begun = λ c. never _ c })
    by_fault None f a last on = by_end (ends_payload b) refl a f last on

    by_astray : (t : Bool) → is_astray AtClient copied kept b ≡ t → (t ≡ false → Rest)
        → (t ≡ false → Begun copied (b ∷ kept) → Come ch copied (b ∷ kept) more
        (raws_of AtClient copied (b ∷ kept) more))
        → Come ch copied kept (b ∷ more) (raws_of AtClient copied kept (b ∷ more))
    by_astray true a last on =
        subst (Come ch copied kept (b ∷ more)) (sym (raws_astray copied kept b more a))
        (record { turns = tt; begun = λ c. never _ c })
    by_astray false a last on = by_fault (part_fault kept b b.part) refl a (last refl) (on refl)
