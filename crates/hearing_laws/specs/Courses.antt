-- A packet that is taken, news after news, as an end sees it whose parts hear of them in turn.
use Rattle.std.specs.Prelude.{◌≡◌, ℕ, ◌-◌, List, [], ◌∷◌, length, take, reverse, Option, Some, None}
use Rattle.protocol_model.specs.Packet.{Bunch}
use Rattle.protocol_model.specs.declared.Cause.{Cause}
use Rattle.connection_model.specs.Feed.{End, Past, Took, Ended, ByCause, Entry, Heard, Delivered}
use Rattle.connection_model.specs.Copies.{delivered_of}
use Rattle.connection_model.specs.Verdict.{Progress, with_told, bunch_heard}
use Rattle.channel_laws.specs.Moves.{IsMove, SameNews}
use Rattle.link_end.specs.News.{News, Moves, Hears}

-- a packet that an end takes: its number, what was done before it, and all its entries, the newest
-- first
pub record Taking : Type 0 where
  pub end : End
  pub number : ℕ
  pub before : Past
  pub told : List Entry

-- the past while it is under way: these entries were told, and these payloads handed on
abbrev pub during : Taking → List Entry → List Delivered → Past
during k entries handed = Took k.number entries handed ∷ k.before

-- what comes of a bunch then
abbrev pub heard_then : Taking → List Entry → List Delivered → Bunch → Progress
heard_then k entries handed b = bunch_heard k.end (during k entries handed) b

-- what holds where a rule was broken, or where none was
abbrev pub Onward : Option Cause → (next : Type 0) → (ended : Cause → Type 0) → Type 0
Onward None next ended = next
Onward (Some cause) next ended = ended cause

-- each news in its turn, and then the bad acknowledgement, if there is one, lead from the one past
-- to the past after the packet
abbrev pub Leads : Taking → List News → Option Cause → (past final : Past) → Type 0
Leads k [] None past final =
    (handed : List Delivered) × (final ≡ during k k.told handed) × SameNews past final
Leads k [] (Some cause) past final =
    (entries : List Entry) × (handed : List Delivered)
    × (final ≡ Ended (ByCause cause) ∷ during k entries handed)
    × SameNews past (during k entries handed)
Leads k (Moves from to ∷ news) bad past final =
    (mid : Past) × IsMove from to past mid × Leads k news bad mid final
Leads k (Hears b ∷ news) bad past final =
    (entries : List Entry) × (handed : List Delivered) × SameNews past (during k entries handed)
    × Onward (heard_then k entries handed b).cause
    (Leads k news bad (with_told (Heard b) (heard_then k entries handed b).past) final)
    (λ cause. final ≡ Ended (ByCause cause) ∷ (heard_then k entries handed b).past)

-- the payloads handed on from the one past to the other, in order
abbrev pub handed_since : (before after : Past) → List Delivered
handed_since before after =
    reverse (take (length (delivered_of after) - length (delivered_of before)) (delivered_of after))
