-- The channel of an actor as it is kept, and how that follows from what the end did.
use Rattle.std.specs.Prelude.{◌≡◌, ℕ, ◌-◌, ◌≤◌, ◌==◌, Bool, true, false, Some, None}
use Rattle.connection_model.specs.Feed.{Past}
use Rattle.connection_model.specs.Bunches.{has_arrived, have_arrived, span, is_opening, is_closing, is_sleeping}
use Rattle.connection_model.specs.State as model
use Rattle.connection_model.specs.State.{Mark, state_of, index_of, last_mark, was_opened}
use Rattle.connection_model.specs.Items.{kept_flush}
use Rattle.sender_laws.specs.Acts.{acts}
use Rattle.sender_laws.specs.States.{is_pending, IsLast}
use Rattle.sender_records.specs.declared.state.ActorState.{ActorState}
use Rattle.sender_records.specs.declared.state.ActorState.TheVariants as state
use Rattle.sender_records.specs.declared.life.Life.{Life}

-- the state
abbrev pub state_value : ActorState → model.ActorState
state_value state.None = model.Closed
state_value state.Opening = model.Opening
state_value state.Opened = model.Opened
state_value state.Closing = model.Closing
state_value state.Asleep = model.Asleep

-- the message under way is the open or the close of the state; all before an open has arrived
abbrev pub PendsAs : Past → Mark → ActorState → (sleeps : Bool) → Type 0
PendsAs past mark state.Opening sleeps =
    (is_opening mark.message ≡ true) × (1 ≤ mark.number)
    × (have_arrived past mark.channel 1 (mark.number - 1) ≡ true)
PendsAs past mark state.Closing sleeps = (is_closing mark.message ≡ true) × (is_sleeping mark.message ≡ sleeps)
PendsAs past mark state.None sleeps = Unit {0}
PendsAs past mark state.Opened sleeps = Unit {0}
PendsAs past mark state.Asleep sleeps = Unit {0}

-- an open or a close that is under way is the last message on its index
pub record Pends (past : Past) (actor : ℕ) (l : Life) : Type 0 where
  pub mark : Mark
  pub is : last_mark past actor ≡ Some mark
  pub kind : PendsAs past mark l.state l.sleeps
  pub last : IsLast past mark

-- what is kept of the channel is right
pub record KeepsLife (past : Past) (actor : ℕ) (l : Life) : Type 0 where
  pub state : state_value l.state ≡ state_of past actor
  pub index : l.index ≡ index_of past actor
  pub opened : l.opened ≡ was_opened past actor
  pub flush : l.flush ≡ kept_flush past actor
  pub pends : is_pending (state_value l.state) ≡ true → Pends past actor l

-- more has arrived, and nothing else was done; `clear` says whether all has arrived on the actor's index
pub record Arrives (past later : Past) (actor : ℕ) (clear : Bool) : Type 0 where
  pub done : acts later ≡ acts past
  pub grows : (ch n : ℕ) → has_arrived past ch n ≡ true → has_arrived later ch n ≡ true
  pub all : (ch : ℕ) → index_of past actor ≡ Some ch → (span later ch == 0) ≡ clear

-- ---- what becomes of it

-- nothing was made of the actor
abbrev pub fresh_life : Life
fresh_life = record { state = state.None; index = None; sleeps = false; opened = false; flush = None }

-- a close has ended
abbrev pub closed_life : (sleeps : Bool) → Life → Life
closed_life true l = record l { state = state.Asleep; index = None }
closed_life false l = record l { state = state.None; index = None }

-- all has arrived on the index, in this state
abbrev pub cleared_as : ActorState → Life → Life
cleared_as state.Opening l = record l { state = state.Opened }
cleared_as state.Closing l = closed_life l.sleeps l
cleared_as state.None l = l
cleared_as state.Opened l = l
cleared_as state.Asleep l = l

-- all has arrived on the index
abbrev pub life_cleared : Life → Life
life_cleared l = cleared_as l.state l
