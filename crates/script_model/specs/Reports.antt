-- What the lines of a script tell, and how each report is written in a transcript.
use Rattle.std.specs.Prelude.{ℕ, ◌+◌, ◌/◌, ◌%◌, List, [], ◌∷◌, ◌++◌, map, Bool, nat_lt, Option, Some, None, if◌then◌else◌, ℤ, codes, decimal}
use Rattle.std.specs.Fmt.{signed_decimal}
use Rattle.std.specs.List.{flat_map, join_with_byte}
use Rattle.protocol_model.specs.Value.{Arg, Scalar, Octets}
use Rattle.protocol_model.specs.declared.Cause.{Cause}
use Rattle.protocol_model.specs.declared.Cause.TheVariants.{BadAck, BadChannel, BadPart, BadPayload, UnknownGuid, Clash, Overrun, NamesFull, ActorsFull}
use Rattle.protocol_model.specs.declared.PartWhy.{PartWhy}
use Rattle.protocol_model.specs.declared.PartWhy.TheVariants.{Oversize, Lone, Flags, Restart, Inside, NoFirst, FewBits, TooMany}
use Rattle.protocol_model.specs.declared.Why.{Why}
use Rattle.protocol_model.specs.declared.Why.TheVariants.{Empty, TooLong, NoEnd, Control, Reserved, OpenUnreliable, CloseUnreliable, ExportsUnopened, PartialUnreliable, BadKind, Short, Padded, Wide}
use Rattle.protocol_model.specs.declared.Verdict.{Verdict}
use Rattle.protocol_model.specs.declared.Verdict.TheVariants.{Taken, Malformed, Old, Closed}
use Rattle.protocol_model.specs.declared.CallAnswer.{CallAnswer}
use Rattle.protocol_model.specs.declared.CallAnswer.TheVariants.{Queued, NotOpen, WindowFull}
use Rattle.protocol_model.specs.declared.CallVerdict.{CallVerdict}
use Rattle.protocol_model.specs.declared.CallVerdict.TheVariants.{Run, Stale}
use Rattle.protocol_model.specs.Side.{Side, AtServer, AtClient}
use Rattle.script_model.specs.Lines.{Text}

-- the answer to a delivery
pub data Answer : Type 0 where
  Says : (verdict : Verdict) → Answer
  Absent : Answer
  Late : Answer

-- what a line tells; a side is the one that sends, hears or is asked
pub data Report : Type 0 where
  Joined : (player : ℕ) → Report
  Actor : (actor : ℕ) → Report
  Sent : (by : Side) (player number : ℕ) (bytes : List ℕ) → Report
  Stalled : (side : Side) (player : ℕ) → Report
  Handed : (to : Side) (player actor : ℕ) (name : List ℕ) (verdict : CallVerdict) (args : List Arg) → Report
  Answered : (to : Side) (player number : ℕ) (answer : Answer) → Report
  Forged : (to : Side) (player : ℕ) (verdict : Verdict) → Report
  Called : (from : Side) (player : ℕ) (answer : CallAnswer) → Report
  Copies : (player count : ℕ) → Report
  Copy : (player actor : ℕ) (class : List ℕ) (channel : Option ℕ) (values : List (List ℕ × ℤ)) → Report
  Settled : (player actor : ℕ) (holds : Bool) → Report

-- words with one space between
abbrev pub words : List Text → Text
words ws = join_with_byte 32 ws

-- a hex digit in lower case
abbrev pub hex_digit : ℕ → ℕ
hex_digit n = if nat_lt n 10 then 48 + n else 87 + n

-- lower case, `-` for none
abbrev pub hex_of : List ℕ → Text
hex_of [] = codes "-"
hex_of (b ∷ bytes) = flat_map (λ n. hex_digit (n / 16) ∷ hex_digit (n % 16) ∷ []) (b ∷ bytes)

-- the name of the reason
abbrev pub part_word : PartWhy → Text
part_word Oversize = codes "Oversize"
part_word Lone = codes "Lone"
part_word Flags = codes "Flags"
part_word Restart = codes "Restart"
part_word Inside = codes "Inside"
part_word NoFirst = codes "NoFirst"
part_word PartWhy.Opens = codes "Opens"
part_word FewBits = codes "FewBits"
part_word TooMany = codes "TooMany"

-- the name of the reason
abbrev pub why_word : Why → Text
why_word Empty = codes "Empty"
why_word TooLong = codes "TooLong"
why_word NoEnd = codes "NoEnd"
why_word Control = codes "Control"
why_word Reserved = codes "Reserved"
why_word OpenUnreliable = codes "OpenUnreliable"
why_word CloseUnreliable = codes "CloseUnreliable"
why_word ExportsUnopened = codes "ExportsUnopened"
why_word PartialUnreliable = codes "PartialUnreliable"
why_word BadKind = codes "BadKind"
why_word Short = codes "Short"
why_word Padded = codes "Padded"
why_word Wide = codes "Wide"

-- the name of the cause, then its fields in order
abbrev pub cause_words : Cause → List Text
cause_words (BadAck acked sent) = codes "BadAck" ∷ signed_decimal acked ∷ decimal sent ∷ []
cause_words (BadChannel channel) = codes "BadChannel" ∷ decimal channel ∷ []
cause_words (BadPart channel why) = codes "BadPart" ∷ decimal channel ∷ part_word why ∷ []
cause_words (BadPayload channel at) = codes "BadPayload" ∷ decimal channel ∷ decimal at ∷ []
cause_words (UnknownGuid guid) = codes "UnknownGuid" ∷ decimal guid ∷ []
cause_words (Clash guid) = codes "Clash" ∷ decimal guid ∷ []
cause_words (Overrun channel) = codes "Overrun" ∷ decimal channel ∷ []
cause_words NamesFull = codes "NamesFull" ∷ []
cause_words ActorsFull = codes "ActorsFull" ∷ []

-- a verdict, with its place and reason or its cause
abbrev pub verdict_words : Verdict → List Text
verdict_words (Taken number) = codes "taken" ∷ []
verdict_words (Malformed at why) = codes "malformed" ∷ decimal at ∷ why_word why ∷ []
verdict_words (Old number last) = codes "old" ∷ []
verdict_words (Closed cause) = codes "closed" ∷ cause_words cause
verdict_words Verdict.Dead = codes "dead" ∷ []

-- the answer to a delivery
abbrev pub answer_words : Answer → List Text
answer_words (Says verdict) = verdict_words verdict
answer_words Absent = codes "absent" ∷ []
answer_words Late = codes "late" ∷ []

-- the answer to a call
abbrev pub call_word : CallAnswer → Text
call_word Queued = codes "queued"
call_word CallAnswer.Dead = codes "dead"
call_word NotOpen = codes "notopen"
call_word CallAnswer.NotOwner = codes "notowner"
call_word WindowFull = codes "windowfull"

-- the verdict on a call
abbrev pub handed_word : CallVerdict → Text
handed_word Run = codes "run"
handed_word CallVerdict.NotOwner = codes "notowner"
handed_word Stale = codes "stale"

-- a value in decimal, bytes in hex
abbrev pub arg_text : Arg → Text
arg_text (Scalar value) = signed_decimal value
arg_text (Octets bytes) = hex_of bytes

-- the word at the server's side, and the one at the client's
abbrev pub by_side : Side → (server client : Text) → Text
by_side AtServer server client = server
by_side AtClient server client = client

-- actors are named by their spawn's number
abbrev pub actor_text : ℕ → Text
actor_text a = decimal (a / 2)

-- a copy with a channel is open
abbrev pub state_word : Option ℕ → Text
state_word None = codes "asleep"
state_word (Some channel) = codes "open"

-- the words of a line
abbrev pub report_words : Report → List Text
report_words (Joined player) = codes "joined" ∷ decimal player ∷ []
report_words (Actor actor) = codes "actor" ∷ actor_text actor ∷ []
report_words (Sent side player number bytes) =
    by_side side (codes "sent") (codes "csent") ∷ decimal player ∷ decimal number ∷ hex_of bytes ∷ []
report_words (Stalled side player) = by_side side (codes "stalled") (codes "cstalled") ∷ decimal player ∷ []
report_words (Handed side player actor name verdict args) =
    by_side side (codes "handed")
    (codes "chanded") ∷ decimal player ∷ actor_text actor ∷ name ∷ handed_word verdict ∷ map arg_text args
report_words (Answered side player number answer) =
    by_side side (codes "up") (codes "down") ∷ decimal player ∷ decimal number ∷ answer_words answer
report_words (Forged side player verdict) =
    by_side side (codes "forge") (codes "cforge") ∷ decimal player ∷ verdict_words verdict
report_words (Called side player answer) =
    by_side side (codes "call") (codes "ccall") ∷ decimal player ∷ call_word answer ∷ []
report_words (Copies player count) = codes "copies" ∷ decimal player ∷ decimal count ∷ []
report_words (Copy player actor class channel values) =
    codes "copy" ∷ decimal player ∷ actor_text actor ∷ class ∷ state_word channel ∷ map
    (λ (v : Text × ℤ). v.0 ++ 61 ∷ signed_decimal v.1) values
report_words (Settled player actor holds) =
    codes "settled" ∷ decimal player ∷ actor_text actor ∷ (if holds then codes "yes" else codes "no") ∷ []

-- one line
abbrev pub report_text : Report → Text
report_text report = words (report_words report) ++ 10 ∷ []
