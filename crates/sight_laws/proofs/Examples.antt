-- A Pawn that sleeps, and sights of it: what may be left out, and what may not.
use Rattle.std.specs.Prelude.{◌≡◌, refl, ℕ, List, [], ◌∷◌, map, length, true, false, pos}
use Rattle.protocol_model.specs.Numbers.{leading_groups}
use Rattle.protocol_model.specs.Bits.{int_width, digits, packed_in, bytes_in}
use Rattle.protocol_model.specs.BuiltIn.{built_in_table, pawn, flag, purse}
use Rattle.protocol_model.specs.Side.{AtServer}
use Rattle.protocol_model.specs.Payload.{Opens, Closes}
use Rattle.protocol_model.specs.Sight.{Seen}
use Rattle.protocol_model.specs.declared.Version.TheVariants.{One}
use Rattle.connection_model.specs.Feed.{End, Past, Ticked, Made, Sent, Took, Acked, Carries}
use Rattle.connection_model.specs.Bunches.{made_bunch}
use Rattle.connection_model.specs.State.{state_of, Asleep}
use Rattle.connection_model.specs.Items.{is_quiet}
use Rattle.connection_model.specs.CallAnswers.{is_seen_owned}
use Rattle.connection_model.specs.Pack.{after_tick}
use Rattle.connection_model.specs.Past.{sent_bytes}
use Rattle.sight_laws.specs.Sights.{is_done, unvalued}

server : End
server = record { side = AtServer; version = One; budget = 8000; table = built_in_table }

-- Pawn 2 is relevant, and has one value
awake : Seen
awake = record {
  actor = 2;
  class = pawn;
  owns = false;
  relevant = true;
  destroyed = false;
  dormant = false;
  flush = 0;
  values = record { handle = 4; value = pos 7 } ∷ [];
}

-- it is dormant, and was flushed so often
sleeping : (flush : ℕ) → Seen
sleeping n = record awake { dormant = true; flush = n }

-- it is gone
destroyed : Seen
destroyed = record awake { relevant = false; destroyed = true; values = [] }

-- it was opened and closed as dormant, and both have arrived
slept : Past
slept =
    Took 2 (Acked 2 ∷ []) [] ∷ Sent 2 2 (Carries 1 2 (made_bunch 1 2 (Closes 2 true) 0) ∷ [])
    ∷ Made 1 2 (Closes 2 true) 0 ∷ Ticked 2 (sleeping 0 ∷ []) ∷ Took 1 (Acked 1 ∷ []) []
    ∷ Sent 1 1 (Carries 1 1 (made_bunch 1 1 (Opens [] 2 pawn awake.values) 0) ∷ [])
    ∷ Made 1 1 (Opens [] 2 pawn awake.values) 0 ∷ Ticked 1 (awake ∷ []) ∷ []

-- the sizes of all packets after one more tick
sizes_after : List Seen → List ℕ
sizes_after sight = map length (sent_bytes server (after_tick server slept sight))

it_sleeps : state_of slept 2 ≡ Asleep
unfolding slept awake sleeping pawn
it_sleeps = refl

-- ---- values of a quiet actor

unflushed_is_quiet : is_quiet slept (sleeping 0) ≡ true
unfolding slept awake sleeping pawn
unflushed_is_quiet = refl

flushed_is_not : is_quiet slept (sleeping 1) ≡ false
unfolding slept awake sleeping pawn
flushed_is_not = refl

-- with its values and without them no packet is sent
nothing_is_sent : sizes_after (sleeping 0 ∷ []) ≡ sizes_after (unvalued (sleeping 0) ∷ [])
unfolding slept awake sleeping sizes_after server pawn flag purse digits packed_in bytes_in int_width leading_groups
nothing_is_sent = refl

-- once it was flushed it is opened again, and its value goes in the open
opens_with_values : sizes_after (sleeping 1 ∷ []) ≡ 13 ∷ 9 ∷ 30 ∷ []
unfolding slept awake sleeping sizes_after server pawn flag purse digits packed_in bytes_in int_width leading_groups
opens_with_values = refl

without_values_it_is_shorter : sizes_after (unvalued (sleeping 1) ∷ []) ≡ 13 ∷ 9 ∷ 28 ∷ []
unfolding slept awake sleeping sizes_after server pawn flag purse digits packed_in bytes_in int_width leading_groups
without_values_it_is_shorter = refl

-- ---- entries of destroyed actors

-- a Gone is still to be made of a sleeping one
sleeping_is_not_done : is_done slept destroyed ≡ false
unfolding slept awake sleeping destroyed pawn
sleeping_is_not_done = refl

gone_is_sent : sizes_after (destroyed ∷ []) ≡ 13 ∷ 9 ∷ 12 ∷ []
unfolding slept awake sleeping destroyed sizes_after server pawn flag purse digits packed_in bytes_in int_width
    leading_groups
gone_is_sent = refl

-- where it was never opened there is nothing to close
unopened_is_done : is_done [] destroyed ≡ true
unfolding awake destroyed pawn
unopened_is_done = refl

-- ---- an actor that stands twice

-- of two entries the first tells who owns the actor, so leaving it out would tell something else
first_entry_tells : is_seen_owned (Ticked 1 (destroyed ∷ record awake { owns = true } ∷ []) ∷ []) 2 ≡ false
unfolding awake destroyed pawn
first_entry_tells = refl

other_entry_tells : is_seen_owned (Ticked 1 (record awake { owns = true } ∷ []) ∷ []) 2 ≡ true
unfolding awake pawn
other_entry_tells = refl
