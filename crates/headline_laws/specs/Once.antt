-- Unreliable calls: those that were queued at an end, those that it sent, those handed over to it.
use Rattle.std.specs.Prelude.{◌≤◌, Bool, List, [], ◌∷◌, ◌++◌, reverse, true, false, Option, None, filter_map}
use Rattle.std.specs.List.{flat_map, count_by}
use Rattle.protocol_model.specs.Side.{Side}
use Rattle.protocol_model.specs.Value.{Table}
use Rattle.replication_model.specs.Story.{Player, past_at, other_side}
use Rattle.connection_model.specs.Feed.{Past, Deed, Waits, Sent, Item, Loose, Delivered}
use Rattle.connection_model.specs.Copies.{delivered_of}
use Rattle.connection_model.specs.Handed.{Asked, asked_in}

-- the unreliable call that a deed left waiting
abbrev pub loosely_queued_in : Deed → Option Asked
loosely_queued_in (Waits message) = asked_in message
loosely_queued_in deed = None

-- the unreliable calls that were queued at an end
abbrev pub loosely_queued : Past → List Asked
loosely_queued past = reverse (filter_map loosely_queued_in past)

-- the unreliable call that an item is
abbrev pub loosely_sent_by : Item → Option Asked
loosely_sent_by (Loose message bunch) = asked_in message
loosely_sent_by item = None

-- the unreliable calls that a deed sent
abbrev pub loosely_sent_in : Deed → List Asked
loosely_sent_in (Sent number t items) = filter_map loosely_sent_by items
loosely_sent_in deed = []

-- the unreliable calls that an end sent, those of the newest packet first
abbrev pub loosely_sent : Past → List Asked
loosely_sent past = flat_map loosely_sent_in past

-- the unreliable call that a payload is
abbrev pub loosely_handed_in : Delivered → Option Asked
loosely_handed_in d = elim d.reliable [ true ↦ None | false ↦ asked_in d.message ]

-- the unreliable calls that were handed over at an end
abbrev pub loosely_handed : Past → List Asked
loosely_handed past = reverse (filter_map loosely_handed_in (delivered_of past))

-- of the unreliable calls that pass any test, no more are handed over than were queued at the other
-- end, in both directions
abbrev pub HandsOverAtMost : Table → Player → Type 0
HandsOverAtMost table p =
    (side : Side) (test : Asked → Bool) → count_by test (loosely_handed (past_at table side p))
    ≤ count_by test (loosely_queued (past_at table (other_side side) p))

-- the items are among the others, as often as they stand there at most
pub data AreAmong {A : Type 0} : List A → List A → Type 0 where
  none : {others : List A} → AreAmong [] others
  one_more : (before after : List A) {x : A} {items : List A} → AreAmong items (before ++ after)
      → AreAmong (x ∷ items) (before ++ x ∷ after)

-- each unreliable call that is handed over was queued at the other end, and is handed over once
abbrev pub HandsOverOnce : Table → Player → Type 0
HandsOverOnce table p =
    (side : Side)
    → AreAmong (loosely_handed (past_at table side p))
    (loosely_queued (past_at table (other_side side) p))
