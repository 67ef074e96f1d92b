-- Entries of a packet, in order.
use Rattle.std.specs.Prelude.{◌≡◌, ℕ, List, ◌∷◌, Option, Some, None}
use Rattle.protocol_model.specs.World.{Edits}
use Rattle.protocol_model.specs.declared.Cause.{Cause}
use Rattle.connection_model.specs.Feed.{Past, Ended, ByCause, Entry, Delivered}
use Rattle.class_layout.specs.Tables.{Layout}
use Rattle.world_table.specs.Kept.{Kept}
use Rattle.value_codec.specs.declared.handed.Handed.{Handed}
use Rattle.link_end.specs.News.{News}
use Rattle.hearing_laws.specs.Courses.{Taking, during, Leads, handed_since}
use Rattle.channel_table.specs.Channels.{Channels}
use Rattle.shadow_changes.specs.Samples.{Samples}
use Rattle.sender_steps.specs.Sender.{Sender}
use Rattle.server_hearing.specs.Payloads.{IsHearing, handed_values, calls_of}

-- the calls of the packet so far were handed over
abbrev pub HandsOver : Layout → Edits → (player : ℕ) → Taking → Past → List Handed → Type 0
HandsOver layout edits player k past handed =
    handed_values layout handed ≡ calls_of edits player (handed_since k.before past)

-- the news that are left lead on from a past for which all stands; or a rule was broken, and the
-- packet ends there
abbrev pub GoesOn : Kept → Sender → Channels → Taking → Edits → (player : ℕ) → Samples → List Handed
    → List News → (bad : Option Cause) → (final : Past) → (broken : Option Cause) → Type 0
GoesOn w s t k edits player samples handed news bad final None =
    (past : Past) × IsHearing w s t k edits past samples
    × HandsOver w.layout edits player k past handed × Leads k news bad past final
GoesOn w s t k edits player samples handed news bad final (Some cause) =
    (entries : List Entry) × (payloads : List Delivered)
    × (final ≡ Ended (ByCause cause) ∷ during k entries payloads)
    × HandsOver w.layout edits player k (during k entries payloads) handed
