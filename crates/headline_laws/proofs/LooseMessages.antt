-- An unreliable message is handed on by itself.
use Rattle.std.proofs.Common.{◌≡◌, ℕ, ◌≤◌, List, [], ◌∷◌, ◌++◌, false, length, refl, subst, append-nil, Some, None, Ok}
use Rattle.std.specs.List.{filter_map, AllByRecursion}
use Rattle.protocol_model.specs.Packet.{Bunch}
use Rattle.protocol_model.specs.Payload.{Message, message_bits}
use Rattle.protocol_model.specs.declared.Part.TheVariants.{Whole}
use Rattle.connection_model.specs.Feed.{End, Past, Deed, Ticked, Made, Waits, Sent, Took, Ended}
use Rattle.connection_model.specs.CallAnswers.{waits_in}
use Rattle.connection_model.specs.Items.{loose_bunch}
use Rattle.connection_model.specs.PayloadReading.{payload_at}
use Rattle.connection_model.specs.Verdict.{lacks_copy, delivery_of, payload_result, bunch_result, bunches_result, with_handed}
use Rattle.connection_model.specs.Windows.{part_fault, joined_bits}
use Rattle.connection_laws.specs.Deeds.{EachDeed}
use Rattle.payload_laws.proofs.Handing.{then_ends}
use Rattle.std.proofs.lemmas.Bool.{le-ltb as not_below_is}
use Rattle.headline_laws.specs.Fits.{DeedFits, PastFits}

-- no rule of joining is broken by one part
loose_fault : (kept : List Bunch) (ch : ℕ) (m : Message) → length (message_bits m) ≤ 7000 → part_fault kept (loose_bunch ch m) Whole ≡ None
loose_fault kept ch m h = rw (not_below_is 7000 (length (message_bits m)) h) refl

-- its bits are the message
loose_joined : (ch : ℕ) (m : Message) → joined_bits [] (loose_bunch ch m) ≡ message_bits m
loose_joined ch m = append-nil (message_bits m)

-- so what it says is the message
loose_one : (end : End) (past : Past) (kept : List Bunch) (ch : ℕ) (m : Message) → lacks_copy end.side past kept (loose_bunch ch m) ≡ false → part_fault kept (loose_bunch ch m) Whole ≡ None → joined_bits [] (loose_bunch ch m) ≡ message_bits m
    → payload_at end past (loose_bunch ch m) (message_bits m) ≡ Ok (m, []) → bunch_result end past kept (loose_bunch ch m) ≡ Ok (Some (delivery_of end past (loose_bunch ch m) m))
loose_one end past kept ch m l f j p = rw (l, f, j) (rw (p, payload_result) refl)

-- whatever parts of reliable messages are kept
pub loose_handed : (end : End) (past : Past) (kept : List Bunch) (ch : ℕ) (m : Message) → lacks_copy end.side past kept (loose_bunch ch m) ≡ false → length (message_bits m) ≤ 7000
    → payload_at end past (loose_bunch ch m) (message_bits m) ≡ Ok (m, []) → bunches_result end past kept (loose_bunch ch m ∷ []) ≡ record { past = with_handed (delivery_of end past (loose_bunch ch m) m) past; cause = None }
loose_handed end past kept ch m l short p =
    then_ends end past kept (loose_bunch ch m) [] (delivery_of end past (loose_bunch ch m) m) (loose_one end past kept ch m l (loose_fault kept ch m short) (loose_joined ch m) p)

-- ---- what waited is short

-- what holds of each deed did before
each_back : (P : Past → Deed → Type 0) (later past : List Deed) → EachDeed P (later ++ past) → EachDeed P past
each_back P [] past h = h
each_back P (x ∷ later) past h = each_back P later past h.1

-- a past that fits did before
pub fits_back : (end : End) (later past : Past) → PastFits end (later ++ past) → PastFits end past
fits_back end later past f = each_back (DeedFits end) later past f

-- a message that was left waiting has one part
pub waited_short : (end : End) (past : Past) (m : Message) → PastFits end past → (newer older : List Message) → filter_map waits_in past ≡ newer ++ m ∷ older → length (message_bits m) ≤ 7000
waited_short end past m f newer older e = at newer (subst (AllByRecursion (λ (x : Message). length (message_bits x) ≤ 7000)) e (all past f))
  where
    at : (newer : List Message) → AllByRecursion (λ (x : Message). length (message_bits x) ≤ 7000) (newer ++ m ∷ older) → length (message_bits m) ≤ 7000
    at [] h = h.0
    at (x ∷ newer) h = at newer h.1

    all : (past : Past) → PastFits end past → AllByRecursion (λ (x : Message). length (message_bits x) ≤ 7000) (filter_map waits_in past)
    all [] f = tt
    all (Ticked n s ∷ past) f = all past f.1
    all (Made c n w i ∷ past) f = all past f.1
    all (Waits w ∷ past) f = (f.0, all past f.1)
    all (Sent n s items ∷ past) f = all past f.1
    all (Took n es ds ∷ past) f = all past f.1
    all (Ended g ∷ past) f = all past f.1
