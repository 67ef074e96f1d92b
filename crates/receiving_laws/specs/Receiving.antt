-- Whole payloads out of bunches, before they are read: the windows, the parts, and who holds a channel.
use Rattle.std.specs.Prelude.{◌==◌, List, [], ◌∷◌, length, Bool, true, false, not, ◌&&◌, nat_lt, Option, Some, None, Ok, Err, if◌then◌else◌}
use Rattle.protocol_model.specs.Side.{Side, AtServer, AtClient}
use Rattle.protocol_model.specs.Packet.{Bunch}
use Rattle.protocol_model.specs.declared.Cause.{Cause}
use Rattle.protocol_model.specs.declared.Cause.TheVariants.{BadChannel, BadPart}
use Rattle.connection_model.specs.Feed.{End, Past}
use Rattle.connection_model.specs.Windows.{Received, received_on, Offer, Repeat, Ready, Held, offer_of, number_as, ready_bunches, applied_of, kept_of, part_fault, ends_payload, first_of, joined_bits}
use Rattle.connection_model.specs.Verdict.{is_misplaced, overrun_cause, payload_result, with_handed, Progress}
use Rattle.receiving_laws.specs.Holders.{is_copied_on}

-- a whole payload that wasn't read yet: the bunch with which it began, and its bits
abbrev pub Raw : Type 0
Raw = Bunch × List Bool

-- the payloads of an entry, up to the first rule broken
pub record Raws : Type 0 where
  pub whole : List Raw
  pub cause : Option Cause

-- one more payload before these
abbrev pub with_raw : Raw → Raws → Raws
with_raw raw raws = record raws { whole = raw ∷ raws.whole }

-- the channel isn't held by a copy where it must be, or is where it mustn't
abbrev pub is_astray : Side → (copied : Bool) → (kept : List Bunch) → Bunch → Bool
is_astray AtServer copied kept b = false
is_astray AtClient copied kept b =
    not (b.channel == 0)
    && (if b.opens then copied else not copied && not (b.reliable && nat_lt 0 (length kept)))

-- whether a copy holds the channel after a payload
abbrev pub copied_after : (copied : Bool) → Bunch → Bool
copied_after copied first = if first.opens then true else if first.closes then false else copied

-- whether a copy holds the channel after these payloads
abbrev pub copied_through : (copied : Bool) → List Raw → Bool
copied_through copied [] = copied
copied_through copied (raw ∷ raws) = copied_through (copied_after copied raw.0) raws

-- bunches one after another, where these parts are kept
abbrev pub raws_of : Side → (copied : Bool) → (kept : List Bunch) → List Bunch → Raws
raws_of side copied kept [] = record { whole = []; cause = None }
raws_of side copied kept (b ∷ more) =
    let before = if b.reliable then kept else [] in
    if is_astray side copied kept b then record { whole = []; cause = Some (BadChannel b.channel) }
    else elim (part_fault kept b b.part) [
      | Some why ↦ record { whole = []; cause = Some (BadPart b.channel why) }
      | None ↦ if ends_payload b
          then with_raw (first_of before b, joined_bits before b)
          (raws_of side (copied_after copied (first_of before b)) [] more)
          else raws_of side copied (b ∷ kept) more
    ]

-- a reliable bunch goes with the held ones that follow it
abbrev pub reliable_raws : Side → Past → Bunch → List Received → Offer → Raws
reliable_raws side past b got Repeat = record { whole = []; cause = None }
reliable_raws side past b got (Held n) = record { whole = []; cause = overrun_cause past b.channel }
reliable_raws side past b got Ready =
    raws_of side (is_copied_on past b.channel) (kept_of (applied_of got)) (ready_bunches got b)

-- what a bunch hands on
abbrev pub raws_heard : Side → Past → Bunch → Raws
raws_heard side past b =
    let got = received_on past b.channel in
    if is_misplaced side b then record { whole = []; cause = Some (BadChannel b.channel) }
    else if b.reliable then reliable_raws side past b got (offer_of got (number_as got b))
    else raws_of side (is_copied_on past b.channel) (kept_of (applied_of got)) (b ∷ [])

-- ---- and then they are read

-- payloads one after another, up to the first that is bad, and then the cause of the entry itself
abbrev pub read_from : End → Past → List Raw → Option Cause → Progress
read_from end past [] cause = record { past = past; cause = cause }
read_from end past (raw ∷ more) cause = elim (payload_result end past raw.0 raw.1) [
  | Err bad ↦ record { past = past; cause = Some bad }
  | Ok None ↦ read_from end past more cause
  | Ok (Some d) ↦ read_from end (with_handed d past) more cause
]

abbrev pub read_raws : End → Past → Raws → Progress
read_raws end past raws = read_from end past raws.whole raws.cause
