-- How each deed of a past fits those before it.
use Rattle.std.specs.Prelude.{◌≡◌, ℕ, zero, suc, ◌+◌, ◌-◌, ◌<◌, [], ◌∷◌}
use Rattle.protocol_model.specs.Payload.{Message, parts_of}
use Rattle.connection_model.specs.Feed.{End, Past, Deed, Ticked, Made, Waits, Sent, Took, Ended, tick_count}
use Rattle.connection_model.specs.Fates.{top_of, last_sent}
use Rattle.connection_model.specs.Bunches.{made_count}
use Rattle.connection_laws.specs.Run.{MaySendAll, IsLooseCall}

-- this holds of each deed and the past before it
abbrev pub EachDeed : (Past → Deed → Type 0) → Past → Type 0
EachDeed P [] = Unit {0}
EachDeed P (deed ∷ past) = P past deed × EachDeed P past

-- part i of a message, from 0, was made right after the part before it
abbrev pub FollowsPart : Past → (channel number : ℕ) → Message → (i : ℕ) → Type 0
FollowsPart past ch n message zero = Unit {0}
FollowsPart past ch n message (suc i) = (before : Past) × (past ≡ Made ch (n - 1) message i ∷ before)

-- ticks, packets sent and the bunches of each index are numbered 1, 2, 3 and on, and the numbers taken ascend;
-- what was left waiting is an unreliable call, and what was sent might be sent
abbrev pub FitsBefore : End → Past → Deed → Type 0
FitsBefore end past (Ticked t sight) = t ≡ tick_count past + 1
FitsBefore end past (Made ch n message i) =
    (n ≡ made_count past ch + 1) × (i < parts_of message) × FollowsPart past ch n message i
FitsBefore end past (Waits message) = IsLooseCall end past message
FitsBefore end past (Sent n t items) = (n ≡ last_sent past + 1) × (t ≡ tick_count past) × MaySendAll end past items
FitsBefore end past (Took n entries handed) = top_of past < n
FitsBefore end past (Ended ending) = Unit {0}

-- each deed of the past fits those before it
abbrev pub DeedsFit : End → Past → Type 0
DeedsFit end past = EachDeed (FitsBefore end) past
