-- Pasts, and feeds, that differ by what sights leave out.
use Rattle.std.specs.Prelude.{◌≡◌, ℕ, List, [], ◌∷◌, map, Bool}
use Rattle.protocol_model.specs.Value.{Arg}
use Rattle.protocol_model.specs.Sight.{Seen}
use Rattle.connection_model.specs.Feed.{End, Event, Tick, Got, Call, Past, Deed, Ticked, ticks_of, is_relevant_in}
use Rattle.connection_model.specs.Past.{past_of}
use Rattle.connection_model.specs.Items.{kept_flush}
use Rattle.connection_model.specs.CallAnswers.{is_seen_owned}
use Rattle.sight_laws.specs.Sights.{Shows, IsSight}

-- the deed without the sight that it had
abbrev pub without_sight : Deed → Deed
without_sight (Ticked t sight) = Ticked t []
without_sight deed = deed

-- all that was done, but for the sights
abbrev pub but_sights : Past → Past
but_sights past = map without_sight past

-- a tick's number, and whether its sight has the actor as relevant
abbrev pub relevance_in : ℕ → ℕ × List Seen → ℕ × Bool
relevance_in a tick = (tick.0, is_relevant_in tick.1 a)

-- each tick so, the newest first
abbrev pub relevances : Past → ℕ → List (ℕ × Bool)
relevances past a = map (relevance_in a) (ticks_of past)

-- two pasts that differ by their sights alone, and whose sights told all that an end asks of them
pub record SameButSights (past other : Past) : Type 0 where
  pub done : but_sights other ≡ but_sights past
  pub relevance : (a : ℕ) → relevances other a ≡ relevances past a
  pub flush : (a : ℕ) → kept_flush other a ≡ kept_flush past a
  pub owned : (a : ℕ) → is_seen_owned other a ≡ is_seen_owned past a

-- two feeds of an end: in the second some ticks were handed a sight that leaves out what it may
pub data HandsLess (end : End) : List Event → List Event → Type 0 where
  none : HandsLess end [] []
  ticks : {feed other : List Event} {sight given : List Seen} → HandsLess end feed other
      → IsSight sight → Shows (past_of end feed) sight given
      → HandsLess end (Tick sight ∷ feed) (Tick given ∷ other)
  gets : {feed other : List Event} {bytes : List ℕ} → HandsLess end feed other
      → HandsLess end (Got bytes ∷ feed) (Got bytes ∷ other)
  calls : {feed other : List Event} {actor number : ℕ} {args : List Arg} → HandsLess end feed other
      → HandsLess end (Call actor number args ∷ feed) (Call actor number args ∷ other)
