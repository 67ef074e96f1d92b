-- The marks of an actor: the opens, closes and Gones that a server made of it.
use Rattle.std.specs.Prelude.{◌≡◌, ℕ, ◌<◌, ◌+◌, List, [], ◌∷◌, true, false, filter_map}
use Rattle.std.specs.List.{AllByRecursion}
use Rattle.connection_model.specs.Feed.{Past}
use Rattle.protocol_model.specs.Payload.{Message, Opens, Closes, Updates, Calls, Gone, actor_of}
use Rattle.connection_model.specs.Bunches.{is_closing, is_opening, is_sleeping}
use Rattle.connection_model.specs.State.{Mark, mark_in}
use Rattle.headline_laws.specs.Whole.{ArrivedBelow, IsReceived}

-- the actor's marks, the newest first
abbrev pub marks_of : Past → (actor : ℕ) → List Mark
marks_of past a = filter_map (mark_in a) past

-- the marks before the newest
abbrev pub without_newest : List Mark → List Mark
without_newest [] = []
without_newest (mark ∷ marks) = marks

-- if the mark is a close, it has arrived, with all before it on its index
abbrev pub CloseArrived : Past → Mark → Type 0
CloseArrived past mark = is_closing mark.message ≡ true
    → ArrivedBelow past mark.channel (mark.number + 1)

-- each close of the actor that another mark followed has arrived
abbrev pub ClosesArrived : Past → (actor : ℕ) → Type 0
ClosesArrived past a = AllByRecursion (CloseArrived past) (without_newest (marks_of past a))

-- and each was received whole
abbrev pub ClosesReceived : (from to : Past) → (actor : ℕ) → Type 0
ClosesReceived from to a =
    AllByRecursion
    (λ mark. is_closing mark.message ≡ true
    → IsReceived from to mark.channel (mark.number, mark.message))
    (without_newest (marks_of from a))

-- a mark fits those before it: a close comes right after an open on its index, and an open after no
-- open
abbrev pub MarkFits : Mark → (before : List Mark) → Type 0
MarkFits mark [] = is_closing mark.message ≡ false
MarkFits mark (last ∷ before) =
    (is_closing mark.message ≡ true
    → (is_opening last.message ≡ true) × (last.channel ≡ mark.channel))
    × (is_opening mark.message ≡ true → is_opening last.message ≡ false)

-- each mark fits those before it
abbrev pub MarksFit : List Mark → Type 0
MarksFit [] = Unit {0}
MarksFit (mark ∷ before) = MarkFits mark before × MarksFit before

-- a mark with this message comes in turn: an open first or after a close, a close after an open on its
-- index, a Gone after a close that lets the actor sleep; so nothing comes after a Gone
abbrev pub MarkComes : Mark → Message → (before : List Mark) → Type 0
MarkComes mark (Opens exports actor class values) [] = Unit {0}
MarkComes mark (Opens exports actor class values) (last ∷ before) = is_closing last.message ≡ true
MarkComes mark (Closes actor sleeps) [] = ⊥
MarkComes mark (Closes actor sleeps) (last ∷ before) =
    (is_opening last.message ≡ true) × (last.channel ≡ mark.channel) × (last.number < mark.number)
MarkComes mark (Gone actor) [] = ⊥
MarkComes mark (Gone actor) (last ∷ before) = is_sleeping last.message ≡ true
MarkComes mark (Updates actor class values) before = ⊥
MarkComes mark (Calls actor number call args) before = ⊥

-- each mark comes in turn, and is the actor's
abbrev pub MarksCome : (actor : ℕ) → List Mark → Type 0
MarksCome a [] = Unit {0}
MarksCome a (mark ∷ before) = MarkComes mark mark.message before × (actor_of mark.message ≡ a)
    × MarksCome a before
