-- Reading exports segment by segment.
use Rattle.std.proofs.Common.{◌≡◌, ℕ, zero, suc, ◌+◌, ◌-◌, ◌<◌, ◌≤◌, List, [], ◌∷◌, ◌++◌, length, Bool, Option, Some, None, Result, Ok, Err, append_assoc, append-nil, refl, sym, ap, ◌∙◌, subst, arith}
use Rattle.std.specs.List.{fold}
use Rattle.protocol_model.specs.declared.Cause.{Cause}
use Rattle.protocol_model.specs.Value.{Segment}
use Rattle.protocol_model.specs.Reading.{Fault, Broken, ◌>>=◌, left}
use Rattle.connection_model.specs.PayloadReading.{PayloadReading, segment_at, segments_at}
use Rattle.connection_model.specs.Names.{learn_fault, names_with}
use Rattle.bit_io.specs.declared.lent.BitReader.{BitReader}
use Rattle.bit_io.specs.Lent.{bits_left}
use Rattle.netguid_map.specs.Names.{Stands}
use Rattle.std.specs.Prelude.{IsErrAnd}
use Rattle.payload_reading.specs.Reads.{Follows, behind}
use Rattle.payload_reading.specs.declared.stop.Stop.{Stop}
use Rattle.payload_reading.proofs.Loops.{Answer, behind_fault}
use Rattle.payload_reading.proofs.Stops.{StopsAs}
use Rattle.client_payloads.specs.Learning.{Kept, Learns, IsLearning}

behind_one : {A : Type 0} (front : List A) (item : A) (r : Answer (List A))
    → behind front (elim r [ Ok got ↦ Ok (item ∷ got.0, got.1) | Err fault ↦ Err fault ]) ≡ behind
    (front ++ item ∷ []) r
behind_one front item (Ok got) = rw (append_assoc front (item ∷ []) got.0) refl
behind_one front item (Err fault) = refl

segments_more : (known front : List Segment) (s : Segment) (count : ℕ) (bits rest : List Bool)
    → segment_at bits ≡ Ok (s, rest) → learn_fault known s ≡ None
    → behind front (segments_at known (suc count) bits) ≡ behind (front ++ s ∷ [])
    (segments_at (names_with known s) count rest)
segments_more known front s count bits rest e f =
    rw (segments_at, ◌>>=◌, e, f) (behind_one front s (segments_at (names_with known s) count rest))

segments_fault : (known : List Segment) (count : ℕ) (bits : List Bool) (fault : Fault (Option Cause))
    → segment_at bits ≡ Err fault → segments_at known (suc count) bits ≡ Err fault
segments_fault known count bits fault e = rw (segments_at, ◌>>=◌, e) refl

segments_refused : (known : List Segment) (s : Segment) (count : ℕ) (bits rest : List Bool) (cause : Cause)
    → segment_at bits ≡ Ok (s, rest) → learn_fault known s ≡ Some cause
    → segments_at known (suc count) bits ≡ Err (Broken (length rest) (Some cause))
segments_refused known s count bits rest cause e f = rw (segments_at, ◌>>=◌, e, f) refl

fold_more : (known front : List Segment) (s : Segment)
    → fold names_with known (front ++ s ∷ []) ≡ names_with (fold names_with known front) s
fold_more known [] s = refl
fold_more known (x ∷ front) s = fold_more (names_with known x) front s

-- so many turns learnt these segments
pub record SoFar (known : List Segment) (old new : BitReader) (after : Kept) (count turns : ℕ) : Type 0 where
  pub front : List Segment
  pub read : behind front (segments_at (fold names_with known front) (count - turns) (bits_left new)) ≡ segments_at
      known count (bits_left old)
  pub stands : Stands after (fold names_with known front)

pub record LearntSoFar (old new : BitReader) (before after : Kept) (count turns : ℕ) : Type 0 where
  pub so_far : (known : List Segment) → Stands before known → SoFar known old new after count turns

behind_none : {A : Type 0} (r : Answer (List A)) → behind [] r ≡ r
behind_none (Ok got) = refl
behind_none (Err fault) = refl

pub first_turn : (old : BitReader) (before : Kept) (count : ℕ) → LearntSoFar old old before before count 0
first_turn old before count = record {
  so_far = λ known s. record {
    front = [];
    read = let all : count - 0 ≡ count = omega arith in
        behind_none _ ∙ ap (λ (n : ℕ). segments_at known n (bits_left old)) all;
    stands = s;
  };
}

pub next_turn : {A : Type 0} (old new mid : BitReader) (before after later : Kept) (count turns : ℕ) (s : Segment)
    (from : ℕ) (done : A) → LearntSoFar old new before after count turns → turns < count
    → segment_at (bits_left new) ≡ Ok (s, bits_left mid)
    → ((known : List Segment) → Stands after known → IsLearning {A = A} known s from later (Ok done))
    → LearntSoFar old mid before later count (turns + 1)
next_turn old new mid before after later count turns s from done so l e learns =
    record { so_far = λ known st. step known (so.so_far known st) }
  where
    turn : count - turns ≡ suc (count - (turns + 1))
    turn = omega (arith, l)

    step : (known : List Segment) → SoFar known old new after count turns
        → SoFar known old mid later count (turns + 1)
    step known f =
        let learnt = learns (fold names_with known f.front) f.stands in
        record {
          front = f.front ++ s ∷ [];
          read =
              ap (λ (k : List Segment). behind (f.front ++ s ∷ [])
              (segments_at k (count - (turns + 1)) (bits_left mid))) (fold_more known f.front s)
              ∙ sym (segments_more (fold names_with known f.front) f.front s (count - (turns + 1)) (bits_left new)
              (bits_left mid) e learnt.0)
              ∙ ap (λ (n : ℕ). behind f.front (segments_at (fold names_with known f.front) n (bits_left new)))
              (sym turn)
              ∙ f.read;
          stands = subst (Stands later) (sym (fold_more known f.front s)) learnt.1;
        }

-- a segment that is at fault
pub turn_stops : (known : List Segment) (old new : BitReader) (after : Kept) (count turns : ℕ)
    → SoFar known old new after count turns → turns < count
    → StopsAs segment_at (bits_left new) (segments_at known count) (bits_left old)
turn_stops known old new after count turns f l fault e =
    let turn : count - turns ≡ suc (count - (turns + 1)) = omega (arith, l) in
    sym f.read ∙ ap (λ (n : ℕ). behind f.front (segments_at (fold names_with known f.front) n (bits_left new))) turn
    ∙ behind_fault f.front _ fault (segments_fault (fold names_with known f.front) (count - (turns + 1))
    (bits_left new) fault e)

-- one that is refused, or for which there is no memory
pub turn_refused : (known : List Segment) (old new mid : BitReader) (after later : Kept) (count turns : ℕ)
    (s : Segment) (from : ℕ) (stop : Stop) → SoFar known old new after count turns → turns < count
    → segment_at (bits_left new) ≡ Ok (s, bits_left mid)
    → ((known : List Segment) → Stands after known → IsLearning {A = Unit} known s from later (Err stop))
    → from ≡ length (bits_left mid) → Learns {A = Unit} (λ known. segments_at known count) known old mid later
    (Err stop)
turn_refused known old new mid after later count turns s from Stop.Short f l e learns is =
    absurd (learns (fold names_with known f.front) f.stands)
turn_refused known old new mid after later count turns s from (Stop.Broken at None) f l e learns is =
    absurd (learns (fold names_with known f.front) f.stands)
turn_refused known old new mid after later count turns s from (Stop.Broken at (Some cause)) f l e learns is =
    let turn : count - turns ≡ suc (count - (turns + 1)) = omega (arith, l) in
    let refused = learns (fold names_with known f.front) f.stands in
    sym f.read ∙ ap (λ (n : ℕ). behind f.front (segments_at (fold names_with known f.front) n (bits_left new))) turn
    ∙ behind_fault f.front _ _ (segments_refused (fold names_with known f.front) s (count - (turns + 1))
    (bits_left new) (bits_left mid) cause e refused.0)
    ∙ ap (λ (n : ℕ). Err (Broken n (Some cause))) (sym (refused.1 ∙ is))
turn_refused known old new mid after later count turns s from Stop.Memory f l e learns is = tt

-- all turns are done
pub all_turns : {A : Type 0} (known : List Segment) (old new : BitReader) (after : Kept) (count turns : ℕ)
    (done : A) → SoFar known old new after count turns → count ≤ turns
    → Learns (λ known. segments_at known count) known old new after (Ok done)
all_turns known old new after count turns done f l =
    let turn : count - turns ≡ zero = omega (arith, l) in (
      f.front,
      sym f.read ∙ ap (λ (n : ℕ). behind f.front
          (segments_at (fold names_with known f.front) n (bits_left new))) turn
          ∙ ap (λ (l : List Segment). Ok (l, bits_left new)) (append-nil f.front),
      f.stands,
    )

-- ---- what a stop tells

pub learns_is : {B C : Type 0} (m : B → C) (part : PayloadReading C) (o n : BitReader)
    (whole : List Segment → PayloadReading (List Segment)) (known : List Segment) (old new : BitReader)
    (after : Kept) (stop : Stop)
    → Follows m part o n (Err stop) → StopsAs part (bits_left o) (whole known) (bits_left old)
    → Learns {A = Unit} whole known old new after (Err stop)
learns_is m part o n whole known old new after Stop.Short h same = same Fault.Short h
learns_is m part o n whole known old new after (Stop.Broken left cause) h same = same (Broken left cause) h
learns_is m part o n whole known old new after Stop.Memory h same = tt

pub learns_stops : {B C : Type 0} (m : B → C) (part : PayloadReading C) (o n : BitReader)
    (whole : List Segment → PayloadReading (List Segment)) (known : List Segment) (old new : BitReader)
    (after : Kept) (result : Result Unit Stop) (stop : Stop)
    → IsErrAnd result (λ e. e ≡ stop) → Follows m part o n (Err stop)
    → StopsAs part (bits_left o) (whole known) (bits_left old) → Learns whole known old new after result
learns_stops m part o n whole known old new after (Ok value) stop is h same = absurd is
learns_stops m part o n whole known old new after (Err it) stop is h same =
    subst (λ (s : Stop). Learns {A = Unit} whole known old new after (Err s)) (sym is)
    (learns_is m part o n whole known old new after stop h same)
