-- The premises of the laws hold of a Pawn: worked examples that the checker computes.
use Rattle.std.proofs.Common.{◌≡◌, pos, negsuc, List, [], ◌∷◌, true, Some, refl, arith, codes}
use Rattle.protocol_model.specs.declared.Way.TheVariants.{Client}
use Rattle.protocol_model.specs.declared.Kind.TheVariants.{U8}
use Rattle.protocol_model.specs.Bits.{int_width}
use Rattle.protocol_model.specs.BuiltIn.{pawn, built_in_table}
use Rattle.protocol_model.specs.Side.{AtClient}
use Rattle.protocol_model.specs.Value.{Scalar, Pair}
use Rattle.protocol_model.specs.Payload.{Message, Opens, Closes}
use Rattle.connection_model.specs.Feed.{Past, Took}
use Rattle.connection_model.specs.Copies.{copy_on}
use Rattle.connection_model.specs.PayloadReading.{is_sleeping_copy}
use Rattle.payload_laws.specs.Limits.{HasLimits, IsActor, AreValues}
use Rattle.payload_laws.specs.Passing.{AreLearnt, OpenPasses, UpdatePasses, CallPasses}
use Rattle.payload_laws.specs.Sizes.{message_size}

pawn_limits : HasLimits pawn
unfolding pawn int_width
pawn_limits = record { props = refl; calls = refl; handles = omega arith; call_count = omega arith }

-- a Pawn at (10, -3) with health 75, as a player sees it who doesn't own it
values : List Pair
values =
    record { handle = 1; value = pos 10 }
    ∷ record { handle = 2; value = negsuc 2 }
    ∷ record { handle = 3; value = pos 0 }
    ∷ record { handle = 4; value = pos 75 }
    ∷ record { handle = 6; value = pos 0 }
    ∷ record { handle = 7; value = pos 0 }
    ∷ []

values_fit : AreValues pawn 0 values
unfolding pawn values
values_fit = (omega arith, omega arith, refl, (omega arith, omega arith, refl, (omega arith, omega arith, refl, (omega arith, omega arith, refl, (omega arith, omega arith, refl, (omega arith, omega arith, refl, tt))))))

first_open : Message
unfolding pawn values
first_open = Opens pawn.path 2 pawn values

-- its open has 295 bits
open_size : message_size first_open ≡ 295
unfolding pawn values first_open int_width
open_size = refl

actor : IsActor 2
actor = record { even = refl; least = omega arith; below = omega arith }

segments : AreLearnt [] pawn.path
unfolding pawn
segments = (
  record { odd = refl; least = omega arith; guid = omega arith; outer = omega arith; name = refl; short = omega arith },
  refl,
  (
    record { odd = refl; least = omega arith; guid = omega arith; outer = omega arith; name = refl; short = omega arith },
    refl,
    tt,
  ),
)

-- it goes through at a client that took nothing yet
open_goes : OpenPasses built_in_table [] 1 pawn.path 2 5 pawn values
unfolding pawn
open_goes = record { few = omega arith; learnt = segments; is_actor = actor; here = refl; room = refl; same = refl; guid_below = omega arith; named = refl; limits = pawn_limits; all_fit = values_fit }

-- the client's past after it
opened : Past
unfolding pawn values first_open
opened = Took 1 [] (record { channel = 1; reliable = true; held = true; message = first_open } ∷ []) ∷ []

-- then an update of its health goes through
update_goes : UpdatePasses opened 1 2 pawn (record { handle = 4; value = pos 74 } ∷ [])
unfolding pawn values first_open opened
update_goes = record { holds = refl; known = refl; limits = pawn_limits; some = omega arith; all_fit = (omega arith, omega arith, refl, tt) }

-- and a call
call_goes : CallPasses AtClient opened 2 2 (record { name = codes "hurt"; way = Client; reliable = true; args = U8 ∷ [] }) (Scalar (pos 5) ∷ [])
unfolding pawn values first_open opened
call_goes = record { class = pawn; known = refl; limits = pawn_limits; is_actor = actor; found = refl; way = refl; all_fit = refl }

-- and a close, and behind a dormant one a Gone
close_goes : copy_on opened 1 ≡ Some 2
unfolding pawn values first_open opened
close_goes = refl

gone_goes : is_sleeping_copy (Took 2 [] (record { channel = 1; reliable = true; held = true; message = Closes 2 true } ∷ []) ∷ opened) 2 ≡ true
unfolding pawn values first_open opened
gone_goes = refl
