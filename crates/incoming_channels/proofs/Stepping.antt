-- A bunch in its turn.
use Rattle.std.proofs.Common.{◌≡◌, List, [], ◌∷◌, Bool, true, false, Option, Some, None, if◌then◌else◌, refl, sym, ap, ◌∙◌, subst, append-nil}
use Rattle.protocol_model.specs.Side.{Side}
use Rattle.protocol_model.specs.Packet.{Bunch}
use Rattle.connection_model.specs.Windows.{part_fault, ends_payload, first_of, joined_bits}
use Rattle.connection_laws.proofs.Applied.{first_on}
use Rattle.partial_bunches.specs.Joins.{joins_to, kept_after, Joins}
use Rattle.incoming_channels.specs.Channels.{Flags, Parts}
use Rattle.incoming_channels.specs.Keeps.{flags_of, first_flags, Joining}
use Rattle.receiving_laws.specs.Receiving.{Raws, with_raw, raws_of, is_astray, copied_after}
use Rattle.incoming_channels.specs.Steps.{IsOn, AreOn, IsStep, IsLooseStep}
use Rattle.incoming_channels.specs.declared.message.Message.{Message}
use Rattle.incoming_channels.specs.declared.parts.Step.TheVariants as step

-- a payload with these flags and bits that ends with the bunch
abbrev pub told_as : Bunch → Flags → List Bool → Message
told_as b f bits = record {
  channel = b.channel;
  opens = f.opens;
  closes = f.closes;
  sleeps = f.sleeps;
  exports = f.exports;
  reliable = b.reliable;
  bits = bits;
}

-- the flags that are kept are those of the bunch with which the payload began
pub first_kept : (kept : List Bunch) (b : Bunch) (o : Option Flags) (f : Flags) → o ≡ first_flags kept
    → o ≡ Some f → f ≡ flags_of (first_of kept b)
first_kept [] b o f e is = absurd (let never : (let n : Option Flags = None in n) ≡ Some f = sym e ∙ is in cc)
first_kept (x ∷ kept) b o f e is =
    (let same : (let n : Option Flags = Some (flags_of (first_of kept x)) in n) ≡ Some f = sym e ∙ is in cc)

pub first_own : (kept : List Bunch) (b : Bunch) (o : Option Flags) → o ≡ first_flags kept → o ≡ None
    → flags_of b ≡ flags_of (first_of kept b)
first_own [] b o e is = refl
first_own (x ∷ kept) b o e is =
    absurd
    (let never : (let n : Option Flags = None in n) ≡ Some (flags_of (first_of kept x)) = sym is ∙ e in cc)

-- the end of a payload, where these parts were kept before it
pub raws_whole : (side : Side) (copied : Bool) (kept : List Bunch) (b : Bunch) (more : List Bunch)
    → is_astray side copied kept b ≡ false → part_fault kept b b.part ≡ None
    → ends_payload b ≡ true → b.reliable ≡ true
    → raws_of side copied kept (b ∷ more) ≡ with_raw (first_of kept b, joined_bits kept b)
    (raws_of side (copied_after copied (first_of kept b)) [] more)
raws_whole side copied kept b more astray fault ends reliable =
    rw (astray, fault, ends) (by b.reliable reliable)
  where
    by : (r : Bool) → r ≡ true
        → with_raw (first_of (if r then kept else []) b, joined_bits (if r then kept else []) b)
        (raws_of side (copied_after copied (first_of (if r then kept else []) b)) [] more)
        ≡ with_raw (first_of kept b, joined_bits kept b)
        (raws_of side (copied_after copied (first_of kept b)) [] more)
    by true e = refl
    by false e = cc

-- an unreliable bunch by itself
pub raws_loose : (side : Side) (copied : Bool) (kept : List Bunch) (b : Bunch)
    → is_astray side copied kept b ≡ false → part_fault kept b b.part ≡ None
    → ends_payload b ≡ true → b.reliable ≡ false
    → raws_of side copied kept (b ∷ []) ≡ record { whole = (b, b.payload) ∷ []; cause = None }
raws_loose side copied kept b astray fault ends reliable = rw (astray, fault, ends) (by b.reliable reliable)
  where
    by : (r : Bool) → r ≡ false
        → with_raw (first_of (if r then kept else []) b, joined_bits (if r then kept else []) b)
        (raws_of side (copied_after copied (first_of (if r then kept else []) b)) [] [])
        ≡ record { whole = (b, b.payload) ∷ []; cause = None }
    by true e = cc
    by false e =
        ap (λ (bits : List Bool). let r : Raws = record { whole = (b, bits) ∷ []; cause = None } in r)
        (append-nil b.payload)

-- the bits joined by a reliable bunch, and the parts kept after it
pub joins_reliable : (kept : List Bunch) (b : Bunch) → b.reliable ≡ true → joins_to kept b ≡ kept
joins_reliable kept b e = ap (λ (r : Bool). let l : List Bunch = if r then kept else [] in l) e

none_kept : (kept : List Bunch) (b : Bunch) → ends_payload b ≡ true → b.reliable ≡ true
    → kept_after kept b ≡ []
none_kept kept b ends e =
    ap (λ (t : Bool). let l : List Bunch = if t then (if b.reliable then [] else kept) else b ∷ kept in l)
    ends ∙ ap (λ (r : Bool). let l : List Bunch = if r then [] else kept in l) e

-- the end of a payload is told
pub whole_step : (side : Side) (old new : Parts) (kept more : List Bunch) (b : Bunch) (f : Flags)
    (bits : List Bool) (m : Message)
    → is_astray side old.copied kept b ≡ false → part_fault kept b b.part ≡ None → ends_payload b ≡ true
    → b.reliable ≡ true
    → f ≡ flags_of (first_of kept b) → AreOn b.channel kept → bits ≡ joined_bits (joins_to kept b) b
    → m ≡ told_as b f bits
    → Joins new.joined (kept_after kept b) → new.first ≡ None
    → new.copied ≡ (if f.opens then true else if f.closes then false else old.copied)
    → IsStep side kept b more old new (step.Whole m)
whole_step side old new kept more b f bits m astray fault ends reliable flags on joined told joins first
    copied =
    let begun : IsOn b.channel (first_of kept b) = first_on (IsOn b.channel) kept b on
    (record { channel = refl; reliable = reliable }) in
    let after : new.copied ≡ copied_after old.copied (first_of kept b) =
    copied ∙ ap
    (λ (g : Flags). let r : Bool = if g.opens then true else if g.closes then false else old.copied in r)
    flags in (
      (first_of kept b, joined_bits kept b),
      record {
        channel = ap (λ (x : Message). x.channel) told ∙ sym begun.channel;
        opens = ap (λ (x : Message). x.opens) told ∙ ap (λ (x : Flags). x.opens) flags;
        closes = ap (λ (x : Message). x.closes) told ∙ ap (λ (x : Flags). x.closes) flags;
        sleeps = ap (λ (x : Message). x.sleeps) told ∙ ap (λ (x : Flags). x.sleeps) flags;
        exports = ap (λ (x : Message). x.exports) told ∙ ap (λ (x : Flags). x.exports) flags;
        reliable = ap (λ (x : Message). x.reliable) told ∙ reliable ∙ sym begun.reliable;
        bits =
            ap (λ (x : Message). x.bits) told ∙ joined
            ∙ ap (λ (l : List Bunch). joined_bits l b) (joins_reliable kept b reliable);
      },
      begun.channel,
      raws_whole side old.copied kept b more astray fault ends reliable
          ∙ ap (λ (c : Bool). with_raw (first_of kept b, joined_bits kept b) (raws_of side c [] more))
          (sym after),
      record { joined = subst (Joins new.joined) (none_kept kept b ends reliable) joins; first = first },
      after,
      ends,
    )

-- so is an unreliable bunch
pub loose_step : (side : Side) (old new : Parts) (kept : List Bunch) (b : Bunch) (f : Flags)
    (bits : List Bool) (m : Message)
    → is_astray side old.copied kept b ≡ false → part_fault kept b b.part ≡ None → ends_payload b ≡ true
    → b.reliable ≡ false
    → f ≡ flags_of b → bits ≡ b.payload → m ≡ told_as b f bits → Joining new kept
    → new.copied ≡ (if f.opens then true else if f.closes then false else old.copied)
    → IsLooseStep side kept b old new (step.Whole m)
loose_step side old new kept b f bits m astray fault ends reliable flags same told joins copied = (
  (b, b.payload),
  record {
    channel = ap (λ (x : Message). x.channel) told;
    opens = ap (λ (x : Message). x.opens) told ∙ ap (λ (x : Flags). x.opens) flags;
    closes = ap (λ (x : Message). x.closes) told ∙ ap (λ (x : Flags). x.closes) flags;
    sleeps = ap (λ (x : Message). x.sleeps) told ∙ ap (λ (x : Flags). x.sleeps) flags;
    exports = ap (λ (x : Message). x.exports) told ∙ ap (λ (x : Flags). x.exports) flags;
    reliable = ap (λ (x : Message). x.reliable) told;
    bits = ap (λ (x : Message). x.bits) told ∙ same;
  },
  refl,
  raws_loose side old.copied kept b astray fault ends reliable,
  joins,
  copied ∙ ap
      (λ (g : Flags). let r : Bool = if g.opens then true else if g.closes then false else old.copied in r)
      flags,
)
