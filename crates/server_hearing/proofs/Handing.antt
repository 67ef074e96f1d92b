-- Payloads of a bunch, one after another.
use Rattle.std.proofs.Common.{◌≡◌, ℕ, zero, suc, ◌+◌, ◌<◌, ◌≤◌, List, [], ◌∷◌, ◌++◌, length, map, drop, reverse, Option, Some, None, Ok, Err, refl, sym, ap, ◌∙◌, subst, arith, append_assoc}
use Rattle.std.specs.List.{AllByRecursion, filter_map, slice_get}
use Rattle.std.proofs.lemmas.List.{reverse-append}
use Rattle.std.proofs.lemmas.List.Elements.{filter_map-append}
use Rattle.std.proofs.lemmas.Option.{none-some, same_Some}
use Rattle.protocol_model.specs.World.{Edits}
use Rattle.protocol_model.specs.Search.{or_else}
use Rattle.protocol_model.specs.declared.Cause.{Cause}
use Rattle.connection_model.specs.Feed.{Entry, Delivered}
use Rattle.connection_model.specs.Verdict.{Progress, payload_result, with_handed}
use Rattle.class_layout.specs.Tables.{Layout}
use Rattle.handovers.specs.Handovers.{Handover, handovers}
use Rattle.value_codec.specs.declared.handed.Handed.{Handed}
use Rattle.receiving_laws.specs.Receiving.{Raw, read_from}
use Rattle.receiving_laws.specs.Readings.{IsReadAs, AreRead}
use Rattle.incoming_channels.specs.Messages.{IsRaw, AreRaws}
use Rattle.incoming_channels.specs.declared.message.Message.{Message as MessageValue}
use Rattle.hearing_laws.specs.Courses.{Taking, during}
use Rattle.hearing_laws.specs.Plain.{IsPlain, BeginPlain}
use Rattle.server_hearing.specs.Payloads.{handed_values, calls_of, IsPayload, AreHeard}

-- ---- what is left

-- the next payload that is left, and those behind it
pub record IsNext (raws : List Raw) (i : ℕ) (m : MessageValue) : Type 0 where
  pub raw : Raw
  pub left : drop i raws ≡ raw ∷ drop (i + 1) raws
  pub is : IsRaw raw m
  pub plain : IsPlain raw.0

pub next_is : (raws : List Raw) (messages : List MessageValue) (i : ℕ) (m : MessageValue) → AreRaws raws messages
    → BeginPlain raws → slice_get messages i ≡ Some m → IsNext raws i m
next_is [] [] i m are plain e = absurd (none-some m e)
next_is [] (x ∷ messages) i m are plain e = absurd are
next_is (raw ∷ raws) [] i m are plain e = absurd are
next_is (raw ∷ raws) (x ∷ messages) zero m are plain e = record {
  raw = raw;
  left = refl;
  is = subst (IsRaw raw) (same_Some x m e) are.0;
  plain = plain.0;
}
next_is (raw ∷ raws) (x ∷ messages) (suc i) m are plain e =
    let n = next_is raws messages i m are.1 plain.1 e in
    record {
      raw = n.raw;
      left =
          n.left ∙ ap (λ (j : ℕ). n.raw ∷ drop j (raw ∷ raws)) (let s : suc (i + 1) ≡ suc i + 1 = omega arith in s);
      is = n.is;
      plain = n.plain;
    }

pub none_left : (raws : List Raw) (messages : List MessageValue) (i : ℕ) → AreRaws raws messages
    → length messages ≤ i → drop i raws ≡ []
none_left [] [] i are le = empty i
  where
    empty : (i : ℕ) → drop i (let xs : List Raw = [] in xs) ≡ []
    empty zero = refl
    empty (suc i) = refl
none_left [] (x ∷ messages) i are le = absurd are
none_left (raw ∷ raws) [] i are le = absurd are
none_left (raw ∷ raws) (x ∷ messages) zero are le = absurd (omega (arith, le))
none_left (raw ∷ raws) (x ∷ messages) (suc i) are le = none_left raws messages i are.1 (omega (arith, le))

-- ---- how far they were read

pub record Read (k : Taking) (layout : Layout) (edits : Edits) (player : ℕ) (entries : List Entry)
    (handed : List Delivered) (raws : List Raw) (i : ℕ) (old now : List Handed) : Type 0 where
  pub more : List Delivered
  pub read : (cause : Option Cause) → read_from k.end (during k entries handed) raws cause
      ≡ read_from k.end (during k entries (more ++ handed)) (drop i raws) cause
  pub calls : handed_values layout now ≡ handed_values layout old ++ calls_of edits player (reverse more)
  pub whole : (after : List Delivered) → AreRead (drop i raws) (more ++ handed) after → AreRead raws handed after

append_none : {A : Type 0} (xs : List A) → xs ≡ xs ++ []
append_none [] = refl
append_none (x ∷ xs) = ap (λ zs. x ∷ zs) (append_none xs)

pub none_read : (k : Taking) (layout : Layout) (edits : Edits) (player : ℕ) (entries : List Entry)
    (handed : List Delivered) (raws : List Raw) (old : List Handed)
    → Read k layout edits player entries handed raws 0 old old
none_read k layout edits player entries handed raws old = record {
  more = [];
  read = λ cause. refl;
  calls = append_none (handed_values layout old);
  whole = λ after h. h;
}

-- calls behind calls
pub calls_more : (edits : Edits) (player : ℕ) (more : List Delivered) (d : Delivered)
    → calls_of edits player (reverse (d ∷ more)) ≡ calls_of edits player (reverse more) ++ calls_of edits player (d ∷ [])
calls_more edits player more d =
    ap (calls_of edits player) (reverse-append (d ∷ []) more)
    ∙ filter_map-append _ (reverse more) (d ∷ [])

pub read_more : (k : Taking) (layout : Layout) (edits : Edits) (player : ℕ) (entries : List Entry)
    (handed : List Delivered) (raws : List Raw) (i : ℕ) (m : MessageValue) (old now new : List Handed)
    (r : Read k layout edits player entries handed raws i old now) (n : IsNext raws i m)
    → IsPayload k.end layout edits player (during k entries (r.more ++ handed)) n.raw now new None
    → Read k layout edits player entries handed raws (i + 1) old new
read_more k layout edits player entries handed raws i m old now new r n (d, result, reads, calls) = record {
  more = d ∷ r.more;
  read =
      λ cause. r.read cause ∙ ap (λ (raws : List Raw). read_from k.end (during k entries (r.more ++ handed)) raws cause) n.left
      ∙ rw (read_from, result) refl;
  calls =
      calls ∙ ap (λ (hs : List Handover). hs ++ calls_of edits player (d ∷ [])) r.calls
      ∙ append_assoc (handed_values layout old) (calls_of edits player (reverse r.more)) (calls_of edits player (d ∷ []))
      ∙ ap (λ (hs : List Handover). handed_values layout old ++ hs) (sym (calls_more edits player r.more d));
  whole =
      λ after h. r.whole after (subst (λ (raws : List Raw). AreRead raws (r.more ++ handed) after) (sym n.left) (d, reads, h));
}

pub read_broken : (k : Taking) (layout : Layout) (edits : Edits) (player : ℕ) (entries : List Entry)
    (handed : List Delivered) (raws : List Raw) (i : ℕ) (m : MessageValue) (old now new : List Handed) (cause : Cause)
    (r : Read k layout edits player entries handed raws i old now) (n : IsNext raws i m)
    → IsPayload k.end layout edits player (during k entries (r.more ++ handed)) n.raw now new (Some cause)
    → AreHeard k layout edits player entries handed raws old new (Some cause)
read_broken k layout edits player entries handed raws i m old now new cause r n (result, same) = record {
  more = r.more;
  read =
      λ other. r.read other ∙ ap (λ (raws : List Raw). read_from k.end (during k entries (r.more ++ handed)) raws other) n.left
      ∙ rw (read_from, result) refl;
  calls = ap (handed_values layout) same ∙ r.calls;
  whole = λ e. absurd (none-some cause (sym e));
}

pub read_all : (k : Taking) (layout : Layout) (edits : Edits) (player : ℕ) (entries : List Entry)
    (handed : List Delivered) (raws : List Raw) (i : ℕ) (old now : List Handed)
    → Read k layout edits player entries handed raws i old now → drop i raws ≡ []
    → AreHeard k layout edits player entries handed raws old now None
read_all k layout edits player entries handed raws i old now r left = record {
  more = r.more;
  read =
      λ cause. r.read cause ∙ ap (λ (raws : List Raw). read_from k.end (during k entries (r.more ++ handed)) raws cause) left;
  calls = r.calls;
  whole = λ e. r.whole (r.more ++ handed) (subst (λ (raws : List Raw). AreRead raws (r.more ++ handed) (r.more ++ handed)) (sym left) refl);
}
