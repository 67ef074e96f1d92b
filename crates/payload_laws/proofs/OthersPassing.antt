-- Updates and calls that are made go through at the other end.
use Rattle.std.proofs.Common.{◌≡◌, ℕ, ◌<◌, List, Bool, true, false, ◌&&◌, Option, Some, None, option_and_then, refl, length}
use Rattle.std.specs.Bool.{then_some}
use Rattle.std.proofs.lemmas.Bool.{and_parts}
use Rattle.protocol_model.specs.declared.Way.{Way}
use Rattle.protocol_model.specs.Side.{Side, AtServer, AtClient}
use Rattle.protocol_model.specs.Value.{Class, Call, Arg, args_fit, call_at}
use Rattle.protocol_model.specs.Sight.{Seen}
use Rattle.connection_model.specs.Feed.{Past}
use Rattle.connection_model.specs.Carry.{due_pairs}
use Rattle.connection_model.specs.CallAnswers.{call_class, goes_from, fitting_call}
use Rattle.connection_model.specs.Items.{update_pairs}
use Rattle.connection_model.specs.Copies.{copy_class, copy_on}
use Rattle.payload_laws.specs.Limits.{HasLimits, IsActor, AreValues}
use Rattle.payload_laws.specs.Passing.{UpdatePasses, CallPasses, comes_to, reading_side}
use Rattle.payload_laws.proofs.Updates.{update_some, update_fits}
use Rattle.payload_laws.proofs.SightSpelling.{due_fit}

-- an update of due handles goes through where the copy holds the channel
pub update_passes : (seen : Seen) (made past : Past) (ch : ℕ) → HasLimits seen.class → AreValues seen.class 0 seen.values → 0 < length (due_pairs made seen) → copy_on past ch ≡ Some seen.actor → copy_class past seen.actor ≡ Some seen.class
    → UpdatePasses past ch seen.actor seen.class (update_pairs seen (due_pairs made seen))
update_passes seen made past ch limits v some holds known =
    let due = due_fit made seen v in
    record { holds = holds; known = known; limits = limits; some = update_some seen (due_pairs made seen) limits due some; all_fit = update_fits seen (due_pairs made seen) due }

-- what a fitting call is
record Fitting (side : Side) (number : ℕ) (args : List Arg) (class : Class) (call : Call) : Type 0 where
  pub found : call_at class number ≡ Some call
  pub way : goes_from side call.way ≡ true
  pub fit : args_fit call.args args ≡ true

fitting_by : (side : Side) (number : ℕ) (args : List Arg) (class : Class) (call it : Call) (b : Bool) → call_at class number ≡ Some it → (goes_from side it.way && args_fit it.args args) ≡ b → then_some b it ≡ Some call → Fitting side number args class call
fitting_by side number args class call it true e t h =
    let same : it ≡ call = cc in
    rw (← same) (record { found = e; way = (and_parts _ _ t).0; fit = (and_parts (goes_from side it.way) (args_fit it.args args) t).1 })
fitting_by side number args class call it false e t h = absurd (cc)

-- a call that fits is one of the class, goes from this side, and has arguments that fit
fitting_of : (side : Side) (number : ℕ) (args : List Arg) (class : Class) (call : Call) (o : Option Call) → call_at class number ≡ o → option_and_then (λ (call : Call). then_some (goes_from side call.way && args_fit call.args args) call) o ≡ Some call → Fitting side number args class call
fitting_of side number args class call None e h = absurd (cc)
fitting_of side number args class call (Some it) e h = fitting_by side number args class call it (goes_from side it.way && args_fit it.args args) e refl h

-- a call that goes from one side comes to the other
goes_over : (side : Side) (way : Way) → goes_from side way ≡ true → comes_to (reading_side side) way ≡ true
goes_over AtServer way h = h
goes_over AtClient way h = h

-- a call that fits goes through where the reader knows the actor by its class
pub call_passes : (side : Side) (past : Past) (actor number : ℕ) (call : Call) (args : List Arg) (class : Class) → HasLimits class → IsActor actor → fitting_call side number args class ≡ Some call → call_class (reading_side side) past actor ≡ Some class
    → CallPasses (reading_side side) past actor number call args
call_passes side past actor number call args class limits is fits known =
    let f = fitting_of side number args class call (call_at class number) refl fits in
    record { class = class; known = known; limits = limits; is_actor = is; found = f.found; way = goes_over side call.way f.way; all_fit = f.fit }
