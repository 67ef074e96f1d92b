-- Only a message that was spelled is read.
use Rattle.std.proofs.Common.{◌≡◌, ℕ, suc, ◌<◌, ◌%◌, ◌^◌, ◌==◌, List, [], ◌∷◌, ◌++◌, Bool, true, false, not, ◌&&◌, ◌||◌, cond, nat_lt, nat_le, Option, Some, None, unwrap_or, option_and_then, Ok, refl, sym, ap, ◌∙◌, subst, arith, append_assoc, append-nil, length}
use Rattle.std.specs.List.{fold}
use Rattle.std.specs.Bool.{beq}
use Rattle.std.proofs.lemmas.Bool.{and_parts, and_from, leb-true, eqb-true, not-true}
use Rattle.protocol_model.specs.declared.Way.{Way}
use Rattle.protocol_model.specs.declared.Cause.{Cause}
use Rattle.protocol_model.specs.declared.Cause.TheVariants.{BadChannel, UnknownGuid, Clash, ActorsFull}
use Rattle.protocol_model.specs.Side.{Side, AtServer, AtClient}
use Rattle.protocol_model.specs.Bits.{packed_bits}
use Rattle.protocol_model.specs.Reading.{◌>>=◌, give, left, bit_at}
use Rattle.protocol_model.specs.Value.{Segment, Class, Call, Arg, Pair, Table, handle_count, call_at, args_fit, goes_up, goes_down}
use Rattle.protocol_model.specs.Packet.{Bunch}
use Rattle.protocol_model.specs.Payload.{Message, Opens, Closes, Updates, Calls, Gone, exports_bits, list_bits, args_bits}
use Rattle.connection_model.specs.Feed.{End, Past}
use Rattle.connection_model.specs.State.{opened_class}
use Rattle.connection_model.specs.Bunches.{is_opening, is_closing}
use Rattle.connection_model.specs.CallAnswers.{call_class}
use Rattle.connection_model.specs.Names.{names_with, names_of, class_named}
use Rattle.connection_model.specs.Copies.{copy_class, copy_channel, copy_on, copied_actors, has_copy}
use Rattle.connection_model.specs.PayloadReading.{PayloadReading, field, unless, number_at, values_at, some_values_at, args_at, actor_at, end_at, exports_at, class_or, is_elsewhere, is_other_class, open_at, is_call_of, no_call, call_at_end, client_call_at, update_at, plain_at, is_sleeping_copy, gone_at, close_at, server_call_at, payload_at}
use Rattle.payload_laws.specs.Limits.{HasLimits, IsActor, AreValues}
use Rattle.payload_laws.specs.Passing.{is_gone, comes_to}
use Rattle.payload_laws.specs.Spelling.{KnowsLimits, Spells}
use Rattle.payload_laws.proofs.Messages.{ended, call_is, call_types}
use Rattle.payload_laws.proofs.ReadBack.{some_exports}
use Rattle.payload_laws.proofs.Spelled.{then_of, ok_same, ok_parts, must_of, need_of, packed_spelled}
use Rattle.payload_laws.proofs.ListsSpelled.{pairs_spelled, some_pairs_spelled, args_spelled, ExportsSpelled, exports_spelled}

-- ---- parts of messages

-- nothing is left behind the value
ended_of : {A : Type 0} (value : A) (bits : List Bool) (got : A × List Bool) → ended value bits ≡ Ok got → (bits ≡ []) × ((value, []) ≡ got)
ended_of value bits got read =
    let a = then_of end_at (λ _. give value) bits got read in
    let kept = must_of left (λ n. n == 0) None bits a.value a.rest a.first in
    let same = ok_parts (length bits) a.value bits a.rest kept.1 in
    let none : bits ≡ [] = no_bits bits (rw (← same.0) at kept.0) in
    (none, ap (λ (xs : List Bool). (value, xs)) (sym none ∙ same.1) ∙ ok_same (value, a.rest) got a.second)
  where
    no_bits : (bits : List Bool) → (length bits == 0) ≡ true → bits ≡ []
    no_bits [] h = refl
    no_bits (b ∷ bits) h = let none : suc (length bits) ≡ 0 = eqb-true _ 0 h in absurd (omega (arith, none))

record ActorSpelled (bits : List Bool) (actor : ℕ) (rest : List Bool) : Type 0 where
  pub is : IsActor actor
  pub bits_are : bits ≡ packed_bits actor ++ rest

actor_spelled : (bits : List Bool) (actor : ℕ) (rest : List Bool) → actor_at bits ≡ Ok (actor, rest) → ActorSpelled bits actor rest
actor_spelled bits actor rest read =
    let kept = must_of number_at (λ g. g % 2 == 0 && nat_le 2 g) None bits actor rest read in
    let s = packed_spelled None actor bits rest kept.1 in
    record { is = record { even = eqb-true (actor % 2) 0 (and_parts _ _ kept.0).0; least = leb-true 2 actor (and_parts _ _ kept.0).1; below = s.0 }; bits_are = s.1 }

class_of : (cause : Cause) (o : Option Class) (bits : List Bool) (class : Class) (rest : List Bool) → class_or cause o bits ≡ Ok (class, rest) → (o ≡ Some class) × (bits ≡ rest)
class_of cause (Some c) bits class rest read = let same = ok_parts c class bits rest read in (ap (λ (c : Class). Some c) same.0, same.1)
class_of cause None bits class rest read = absurd (cc)

unless_of : (rule : Bool) (cause : Cause) (bits : List Bool) (n : ℕ) (rest : List Bool) → unless rule cause bits ≡ Ok (n, rest) → (rule ≡ true) × (bits ≡ rest)
unless_of rule cause bits n rest read = need_of rule (Some cause) bits n rest read

-- what an end read, and that nothing was left
abbrev Got : (Message → Bool) → Side → Table → Past → Bunch → List Bool → Message × List Bool → Type 0
Got test side table past first bits got = (got.1 ≡ []) × Spells side table past first bits got.0 × (test got.0 ≡ true)

got_is : (test : Message → Bool) (side : Side) (table : Table) (past : Past) (first : Bunch) (bits : List Bool) (message : Message) (got : Message × List Bool) → (message, []) ≡ got → test message ≡ true → Spells side table past first bits message → Got test side table past first bits got
got_is test side table past first bits message got e t s = subst (λ (got : Message × List Bool). Got test side table past first bits got) e (refl, s, t)

-- neither an open nor a close nor a Gone
abbrev is_plain : Message → Bool
is_plain (Opens exports actor class values) = false
is_plain (Closes actor sleeps) = false
is_plain (Updates actor class values) = true
is_plain (Calls actor number call args) = true
is_plain (Gone actor) = false

-- which message a client reads, by the channel and two flags
abbrev shape : (gone closes opens : Bool) → Message → Bool
shape gone closes opens message = cond gone (is_gone message) (cond closes (is_closing message) (cond opens (is_opening message) (is_plain message)))

-- and which message either end does
abbrev pub told : Side → Bunch → Message → Bool
told AtServer first message = not (first.channel == 0) && is_plain message
told AtClient first message = shape (first.channel == 0) first.closes first.opens message

-- ---- an open, from its end on

-- from the test of the copy's class on
abbrev on_same : Past → List Segment → ℕ → Class → PayloadReading Message
on_same past exports actor class = do
  _ ← unless (not (is_other_class class (copy_class past actor))) (Clash actor)
  values ← values_at class
  ended (Opens exports actor class values)

record SameSpelled (past : Past) (exports : List Segment) (actor : ℕ) (class : Class) (bits : List Bool) (got : Message × List Bool) : Type 0 where
  pub values : List Pair
  pub same : is_other_class class (copy_class past actor) ≡ false
  pub all_fit : AreValues class 0 values
  pub bits_are : bits ≡ list_bits class values
  pub is : (Opens exports actor class values, []) ≡ got

same_spelled : (past : Past) (exports : List Segment) (actor : ℕ) (class : Class) (bits : List Bool) (got : Message × List Bool) → HasLimits class → on_same past exports actor class bits ≡ Ok got → SameSpelled past exports actor class bits got
same_spelled past exports actor class bits got limits read =
    let a = then_of (unless (not (is_other_class class (copy_class past actor))) (Clash actor)) (λ _. (values_at class >>= (λ values. ended (Opens exports actor class values)))) bits got read in
    let same = unless_of (not (is_other_class class (copy_class past actor))) (Clash actor) bits a.value a.rest a.first in
    let b = then_of (values_at class) (λ values. ended (Opens exports actor class values)) a.rest got a.second in
    let values = pairs_spelled class (handle_count class) 0 a.rest (b.value, b.rest) limits b.first in
    let end = ended_of (Opens exports actor class b.value) b.rest got b.second in
    record {
      values = b.value;
      same = not-true _ same.0;
      all_fit = values.values;
      bits_are = same.1 ∙ values.bits_are ∙ ap (λ (xs : List Bool). list_bits class b.value ++ xs) end.0 ∙ append-nil (list_bits class b.value);
      is = end.1;
    }

-- from the class's guid on
abbrev on_guid : Table → Past → List Segment → ℕ → PayloadReading Message
on_guid table past exports actor = do
  guid ← number_at
  class ← class_or (UnknownGuid guid) (class_named table (fold names_with (names_of past) exports) guid)
  on_same past exports actor class

record GuidSpelled (table : Table) (past : Past) (exports : List Segment) (actor : ℕ) (bits : List Bool) (got : Message × List Bool) : Type 0 where
  pub guid : ℕ
  pub class : Class
  pub rest : List Bool
  pub below : guid < 2 ^ 32
  pub named : class_named table (fold names_with (names_of past) exports) guid ≡ Some class
  pub limits : HasLimits class
  pub bits_are : bits ≡ packed_bits guid ++ rest
  pub same : SameSpelled past exports actor class rest got

guid_spelled : (side : Side) (table : Table) (past : Past) (exports : List Segment) (actor : ℕ) (bits : List Bool) (got : Message × List Bool) → KnowsLimits side table past → on_guid table past exports actor bits ≡ Ok got → GuidSpelled table past exports actor bits got
guid_spelled side table past exports actor bits got limits read =
    let names : List Segment = fold names_with (names_of past) exports in
    let with_class : ℕ → PayloadReading Message = λ (guid : ℕ). (class_or (UnknownGuid guid) (class_named table names guid) >>= on_same past exports actor) in
    let a = then_of number_at with_class bits got read in
    let guid = packed_spelled None a.value bits a.rest a.first in
    let b = then_of (class_or (UnknownGuid a.value) (class_named table names a.value)) (on_same past exports actor) a.rest got a.second in
    let class = class_of (UnknownGuid a.value) (class_named table names a.value) a.rest b.value b.rest b.first in
    let of_class : HasLimits b.value = limits.named names a.value b.value class.0 in
    record {
      guid = a.value;
      class = b.value;
      rest = b.rest;
      below = guid.0;
      named = class.0;
      limits = of_class;
      bits_are = guid.1 ∙ ap (λ (xs : List Bool). packed_bits a.value ++ xs) class.1;
      same = same_spelled past exports actor b.value b.rest got of_class b.second;
    }

-- from the actor on
abbrev on_actor : Table → Past → ℕ → List Segment → PayloadReading Message
on_actor table past ch exports = do
  actor ← actor_at
  _ ← unless (not (is_elsewhere ch (copy_channel past actor))) (Clash actor)
  _ ← unless (has_copy past actor || nat_lt (length (copied_actors past)) 8192) ActorsFull
  on_guid table past exports actor

record OpenedSpelled (table : Table) (past : Past) (ch : ℕ) (exports : List Segment) (bits : List Bool) (got : Message × List Bool) : Type 0 where
  pub actor : ℕ
  pub rest : List Bool
  pub is : IsActor actor
  pub here : is_elsewhere ch (copy_channel past actor) ≡ false
  pub room : (has_copy past actor || nat_lt (length (copied_actors past)) 8192) ≡ true
  pub bits_are : bits ≡ packed_bits actor ++ rest
  pub guid : GuidSpelled table past exports actor rest got

opened_spelled : (side : Side) (table : Table) (past : Past) (ch : ℕ) (exports : List Segment) (bits : List Bool) (got : Message × List Bool) → KnowsLimits side table past → on_actor table past ch exports bits ≡ Ok got → OpenedSpelled table past ch exports bits got
opened_spelled side table past ch exports bits got limits read =
    let with_room : ℕ → PayloadReading Message = λ (actor : ℕ). (unless (has_copy past actor || nat_lt (length (copied_actors past)) 8192) ActorsFull >>= (λ _. on_guid table past exports actor)) in
    let with_here : ℕ → PayloadReading Message = λ (actor : ℕ). (unless (not (is_elsewhere ch (copy_channel past actor))) (Clash actor) >>= (λ _. with_room actor)) in
    let a = then_of actor_at with_here bits got read in
    let actor = actor_spelled bits a.value a.rest a.first in
    let b = then_of (unless (not (is_elsewhere ch (copy_channel past a.value))) (Clash a.value)) (λ _. with_room a.value) a.rest got a.second in
    let here = unless_of (not (is_elsewhere ch (copy_channel past a.value))) (Clash a.value) a.rest b.value b.rest b.first in
    let c = then_of (unless (has_copy past a.value || nat_lt (length (copied_actors past)) 8192) ActorsFull) (λ _. on_guid table past exports a.value) b.rest got b.second in
    let room = unless_of (has_copy past a.value || nat_lt (length (copied_actors past)) 8192) ActorsFull b.rest c.value c.rest c.first in
    record {
      actor = a.value;
      rest = c.rest;
      is = actor.is;
      here = not-true _ here.0;
      room = room.0;
      bits_are = actor.bits_are ∙ ap (λ (xs : List Bool). packed_bits a.value ++ xs) (here.1 ∙ room.1);
      guid = guid_spelled side table past exports a.value c.rest got limits c.second;
    }

-- the spelling of an open, from its parts
open_is : (e a g v x y z bits : List Bool) → bits ≡ e ++ x → x ≡ a ++ y → y ≡ g ++ z → z ≡ v → bits ≡ e ++ a ++ g ++ v
open_is e a g v x y z bits p q r s = rw (p, q, r, s) (simp append_assoc)

open_got : (side : Side) (table : Table) (past : Past) (first : Bunch) (exports : List Segment) (bits rest : List Bool) (got : Message × List Bool) → ExportsSpelled first.exports (names_of past) bits (exports, rest) → OpenedSpelled table past first.channel exports rest got → Got is_opening side table past first bits got
open_got side table past first exports bits rest got e o =
    let g = o.guid in
    let s = g.same in
    got_is is_opening side table past first bits (Opens exports o.actor g.class s.values) got s.is refl (
      e.some ∙ sym (some_exports exports o.actor g.class s.values),
      (
        g.guid,
        open_is (exports_bits exports) (packed_bits o.actor) (packed_bits g.guid) (list_bits g.class s.values) rest o.rest g.rest bits e.bits_are o.bits_are g.bits_are s.bits_are,
        record { few = e.few; learnt = e.learnt; is_actor = o.is; here = o.here; room = o.room; same = s.same; guid_below = g.below; named = g.named; limits = g.limits; all_fit = s.all_fit },
      ),
    )

open_spelled : (side : Side) (table : Table) (past : Past) (first : Bunch) (bits : List Bool) (got : Message × List Bool) → KnowsLimits side table past → open_at table past first bits ≡ Ok got → Got is_opening side table past first bits got
open_spelled side table past first bits got limits read =
    let a = then_of (exports_at first.exports (names_of past)) (on_actor table past first.channel) bits got read in
    open_got side table past first a.value bits a.rest got (exports_spelled first.exports (names_of past) bits (a.value, a.rest) a.first) (opened_spelled side table past first.channel a.value a.rest got limits a.second)

-- ---- a call

-- the call that a number names
record CallFound (class : Class) (way_ok : Way → Bool) (reliable : Bool) (number : ℕ) : Type 0 where
  pub call : Call
  pub found : call_at class number ≡ Some call
  pub way : way_ok call.way ≡ true
  pub as_reliable : call.reliable ≡ reliable

same_flag_of : (a b : Bool) → beq a b ≡ true → a ≡ b
same_flag_of true true h = refl
same_flag_of false false h = refl
same_flag_of true false h = cc
same_flag_of false true h = cc

found_where : (class : Class) (way_ok : Way → Bool) (reliable : Bool) (number : ℕ) (o : Option Call) → call_at class number ≡ o → is_call_of class way_ok reliable number ≡ true → CallFound class way_ok reliable number
found_where class way_ok reliable number None e h = let none : false ≡ true = rw (is_call_of, e) at h in absurd (cc)
found_where class way_ok reliable number (Some call) e h =
    let some : (way_ok call.way && beq call.reliable reliable) ≡ true = rw (is_call_of, e) at h in
    record { call = call; found = e; way = (and_parts _ _ some).0; as_reliable = same_flag_of call.reliable reliable (and_parts (way_ok call.way) (beq call.reliable reliable) some).1 }

found_of : (class : Class) (way_ok : Way → Bool) (reliable : Bool) (number : ℕ) → is_call_of class way_ok reliable number ≡ true → CallFound class way_ok reliable number
found_of class way_ok reliable number h = found_where class way_ok reliable number (call_at class number) refl h

-- what is read from a call's number on
record EndSpelled (class : Class) (actor : ℕ) (way_ok : Way → Bool) (reliable : Bool) (bits : List Bool) (got : Message × List Bool) : Type 0 where
  pub number : ℕ
  pub call : Call
  pub args : List Arg
  pub found : call_at class number ≡ Some call
  pub way : way_ok call.way ≡ true
  pub as_reliable : call.reliable ≡ reliable
  pub fit : args_fit call.args args ≡ true
  pub bits_are : bits ≡ packed_bits number ++ args_bits call.args args
  pub is : (Calls actor number call args, []) ≡ got

end_spelled : (class : Class) (actor : ℕ) (way_ok : Way → Bool) (reliable : Bool) (bits : List Bool) (got : Message × List Bool) → HasLimits class → call_at_end class actor way_ok reliable bits ≡ Ok got → EndSpelled class actor way_ok reliable bits got
end_spelled class actor way_ok reliable bits got limits read =
    let with_args : ℕ → List Arg → PayloadReading Message = λ (n : ℕ) (args : List Arg). ended (Calls actor n (unwrap_or (call_at class n) no_call) args) in
    let a = then_of (field number_at (is_call_of class way_ok reliable)) (λ n. (args_at (unwrap_or (call_at class n) no_call).args >>= with_args n)) bits got read in
    let n = must_of number_at (is_call_of class way_ok reliable) None bits a.value a.rest a.first in
    let number = packed_spelled None a.value bits a.rest n.1 in
    let f = found_of class way_ok reliable a.value n.0 in
    let rest : (args_at f.call.args >>= (λ args. ended (Calls actor a.value f.call args))) a.rest ≡ Ok got = rw f.found at a.second in
    let b = then_of (args_at f.call.args) (λ args. ended (Calls actor a.value f.call args)) a.rest got rest in
    let args = args_spelled f.call.args a.rest (b.value, b.rest) (call_types f.call (call_is class a.value f.call limits f.found)) b.first in
    let end = ended_of (Calls actor a.value f.call b.value) b.rest got b.second in
    record {
      number = a.value;
      call = f.call;
      args = b.value;
      found = f.found;
      way = f.way;
      as_reliable = f.as_reliable;
      fit = args.fit;
      bits_are = number.1 ∙ ap (λ (xs : List Bool). packed_bits a.value ++ xs) (args.bits_are ∙ ap (λ (xs : List Bool). args_bits f.call.args b.value ++ xs) end.0 ∙ append-nil (args_bits f.call.args b.value));
      is = end.1;
    }

call_regroup : (a b c : List Bool) → a ++ (b ++ c) ≡ a ++ b ++ c
call_regroup a b c = simp append_assoc

-- a call by the class that the reader knows
call_spelled : (side : Side) (table : Table) (past : Past) (first : Bunch) (way_ok : Way → Bool) (bits : List Bool) (got : Message × List Bool) → KnowsLimits side table past → ((way : Way) → way_ok way ≡ comes_to side way)
    → (actor_at >>= (λ actor. (class_or (UnknownGuid actor) (call_class side past actor) >>= (λ class. call_at_end class actor way_ok first.reliable)))) bits ≡ Ok got → Got is_plain side table past first (true ∷ bits) got
call_spelled side table past first way_ok bits got limits ways read =
    let with_class : ℕ → Class → PayloadReading Message = λ (actor : ℕ) (class : Class). call_at_end class actor way_ok first.reliable in
    let a = then_of actor_at (λ actor. (class_or (UnknownGuid actor) (call_class side past actor) >>= with_class actor)) bits got read in
    let actor = actor_spelled bits a.value a.rest a.first in
    let b = then_of (class_or (UnknownGuid a.value) (call_class side past a.value)) (with_class a.value) a.rest got a.second in
    let class = class_of (UnknownGuid a.value) (call_class side past a.value) a.rest b.value b.rest b.first in
    let of_class : HasLimits b.value = limits.known a.value b.value class.0 in
    let end = end_spelled b.value a.value way_ok first.reliable b.rest got of_class b.second in
    got_is is_plain side table past first (true ∷ bits) (Calls a.value end.number end.call end.args) got end.is refl (
      ap (λ (xs : List Bool). true ∷ xs) (actor.bits_are ∙ ap (λ (xs : List Bool). packed_bits a.value ++ xs) (class.1 ∙ end.bits_are) ∙ call_regroup (packed_bits a.value) (packed_bits end.number) (args_bits end.call.args end.args)),
      sym end.as_reliable,
      record { class = b.value; known = class.0; limits = of_class; is_actor = actor.is; found = end.found; way = sym (ways end.call.way) ∙ end.way; all_fit = end.fit },
    )

-- ---- an update

record UpdateKnown (past : Past) (channel : ℕ) (class : Class) : Type 0 where
  pub actor : ℕ
  pub holds : copy_on past channel ≡ Some actor
  pub known : copy_class past actor ≡ Some class

known_where : (past : Past) (channel : ℕ) (class : Class) (o : Option ℕ) → copy_on past channel ≡ o → option_and_then (copy_class past) o ≡ Some class → UpdateKnown past channel class
known_where past channel class (Some actor) e h = record { actor = actor; holds = e; known = h }
known_where past channel class None e h = absurd (cc)

actor_is : (o : Option ℕ) (actor : ℕ) → o ≡ Some actor → unwrap_or o 0 ≡ actor
actor_is o actor e = rw e refl

update_spelled : (table : Table) (past : Past) (first : Bunch) (bits : List Bool) (got : Message × List Bool) → KnowsLimits AtClient table past → first.reliable ≡ false → update_at past first bits ≡ Ok got → Got is_plain AtClient table past first (false ∷ bits) got
update_spelled table past first bits got limits loose read =
    let with_values : Class → List Pair → PayloadReading Message = λ (class : Class) (values : List Pair). ended (Updates (unwrap_or (copy_on past first.channel) 0) class values) in
    let a = then_of (class_or (BadChannel first.channel) (option_and_then (copy_class past) (copy_on past first.channel))) (λ class. (some_values_at class >>= with_values class)) bits got read in
    let class = class_of (BadChannel first.channel) (option_and_then (copy_class past) (copy_on past first.channel)) bits a.value a.rest a.first in
    let known = known_where past first.channel a.value (copy_on past first.channel) refl class.0 in
    let of_class : HasLimits a.value = limits.known known.actor a.value known.known in
    let b = then_of (some_values_at a.value) (with_values a.value) a.rest got a.second in
    let values = some_pairs_spelled a.value a.rest (b.value, b.rest) of_class b.first in
    let end = ended_of (Updates (unwrap_or (copy_on past first.channel) 0) a.value b.value) b.rest got b.second in
    let actor = actor_is (copy_on past first.channel) known.actor known.holds in
    got_is is_plain AtClient table past first (false ∷ bits) (Updates known.actor a.value b.value) got (ap (λ (n : ℕ). (Updates n a.value b.value, [])) (sym actor) ∙ end.1) refl (
      ap (λ (xs : List Bool). false ∷ xs) (class.1 ∙ values.0.bits_are ∙ ap (λ (xs : List Bool). list_bits a.value b.value ++ xs) end.0 ∙ append-nil (list_bits a.value b.value)),
      loose,
      record { holds = known.holds; known = known.known; limits = of_class; some = values.1; all_fit = values.0.values },
    )

-- a call or an update, by the first bit
plain_spelled : (table : Table) (past : Past) (first : Bunch) (bits : List Bool) (got : Message × List Bool) → KnowsLimits AtClient table past → plain_at past first bits ≡ Ok got → Got is_plain AtClient table past first bits got
plain_spelled table past first [] got limits read = absurd (cc)
plain_spelled table past first (true ∷ bits) got limits read = call_spelled AtClient table past first goes_down bits got limits (λ way. refl) read
plain_spelled table past first (false ∷ bits) got limits read = by_flag first.reliable refl
  where
    by_flag : (b : Bool) → first.reliable ≡ b → Got is_plain AtClient table past first (false ∷ bits) got
    by_flag false e = update_spelled table past first bits got limits e (read_on e)
      where
        read_on : first.reliable ≡ false → update_at past first bits ≡ Ok got
        read_on e =
            let a = then_of (field bit_at (λ is_call. is_call || not first.reliable)) (λ is_call. cond is_call (client_call_at past first) (update_at past first)) (false ∷ bits) got read in
            let kept = must_of bit_at (λ is_call. is_call || not first.reliable) None (false ∷ bits) a.value a.rest a.first in
            let same = ok_parts false a.value bits a.rest kept.1 in
            rw (← same.0, ← same.1) at a.second
    by_flag true e =
        let a = then_of (field bit_at (λ is_call. is_call || not first.reliable)) (λ is_call. cond is_call (client_call_at past first) (update_at past first)) (false ∷ bits) got read in
        let kept = must_of bit_at (λ is_call. is_call || not first.reliable) None (false ∷ bits) a.value a.rest a.first in
        let same = ok_parts false a.value bits a.rest kept.1 in
        let flag : (false || not true) ≡ true = rw (← same.0, e) at kept.0 in
        absurd (cc)

-- ---- a Gone, a close

gone_spelled : (table : Table) (past : Past) (first : Bunch) (bits : List Bool) (got : Message × List Bool) → gone_at past bits ≡ Ok got → Got is_gone AtClient table past first bits got
gone_spelled table past first bits got read =
    let with_sleeping : ℕ → ℕ → PayloadReading Message = λ (actor n : ℕ). ended (Gone actor) in
    let with_actor : ℕ → PayloadReading Message = λ (actor : ℕ). (unless (is_sleeping_copy past actor) (UnknownGuid actor) >>= with_sleeping actor) in
    let a = then_of (field number_at (λ n. n == 1)) (λ _. (actor_at >>= with_actor)) bits got read in
    let n = must_of number_at (λ n. n == 1) None bits a.value a.rest a.first in
    let one = packed_spelled None a.value bits a.rest n.1 in
    let b = then_of actor_at with_actor a.rest got a.second in
    let actor = actor_spelled a.rest b.value b.rest b.first in
    let c = then_of (unless (is_sleeping_copy past b.value) (UnknownGuid b.value)) (with_sleeping b.value) b.rest got b.second in
    let asleep = unless_of (is_sleeping_copy past b.value) (UnknownGuid b.value) b.rest c.value c.rest c.first in
    let end = ended_of (Gone b.value) c.rest got c.second in
    got_is is_gone AtClient table past first bits (Gone b.value) got end.1 refl (
      one.1 ∙ ap (λ (n : ℕ). packed_bits n ++ a.rest) (eqb-true a.value 1 n.0) ∙ ap (λ (xs : List Bool). packed_bits 1 ++ xs) (actor.bits_are ∙ ap (λ (xs : List Bool). packed_bits b.value ++ xs) (asleep.1 ∙ end.0) ∙ append-nil (packed_bits b.value)),
      actor.is,
      asleep.0,
    )

close_spelled : (table : Table) (past : Past) (first : Bunch) (bits : List Bool) (got : Message × List Bool) → close_at past first bits ≡ Ok got → Got is_closing AtClient table past first bits got
close_spelled table past first bits got read =
    let end = ended_of (Closes (unwrap_or (copy_on past first.channel) 0) first.sleeps) bits got read in
    got_is is_closing AtClient table past first bits (Closes (unwrap_or (copy_on past first.channel) 0) first.sleeps) got end.1 refl (end.0, refl, refl)

-- ---- at either end

server_spelled : (table : Table) (past : Past) (first : Bunch) (bits : List Bool) (got : Message × List Bool) → KnowsLimits AtServer table past → server_call_at past first bits ≡ Ok got → Got (told AtServer first) AtServer table past first bits got
server_spelled table past first bits got limits read =
    let rule : Bool → Bool = λ (is_call : Bool). (is_call && not (first.channel == 0)) in
    let after : PayloadReading Message = (actor_at >>= (λ actor. (class_or (UnknownGuid actor) (opened_class past actor) >>= (λ class. call_at_end class actor goes_up first.reliable)))) in
    let a = then_of (field bit_at rule) (λ is_call. after) bits got read in
    let kept = must_of bit_at rule None bits a.value a.rest a.first in
    let is_call : a.value ≡ true = (and_parts a.value (not (first.channel == 0)) kept.0).0 in
    let first_bit : bits ≡ true ∷ a.rest = bit_of bits a.value a.rest kept.1 ∙ ap (λ (b : Bool). b ∷ a.rest) is_call in
    let read_call = subst (λ (xs : List Bool). Got is_plain AtServer table past first xs got) (sym first_bit) (call_spelled AtServer table past first goes_up a.rest got limits (λ way. refl) a.second) in
    (read_call.0, read_call.1, and_from (not (first.channel == 0)) (is_plain got.0) (and_parts a.value (not (first.channel == 0)) kept.0).1 read_call.2)
  where
    bit_of : (bits : List Bool) (b : Bool) (rest : List Bool) → bit_at {Why = Option Cause} bits ≡ Ok (b, rest) → bits ≡ b ∷ rest
    bit_of [] b rest h = absurd (cc)
    bit_of (x ∷ xs) b rest h = let same = ok_parts {Why = Option Cause} x b xs rest h in ap (λ (y : Bool). y ∷ xs) same.0 ∙ ap (λ (ys : List Bool). b ∷ ys) same.1

client_by : (gone closes opens : Bool) (table : Table) (past : Past) (first : Bunch) (bits : List Bool) (got : Message × List Bool) → KnowsLimits AtClient table past
    → cond gone (gone_at past) (cond closes (close_at past first) (cond opens (open_at table past first) (plain_at past first))) bits ≡ Ok got → Got (shape gone closes opens) AtClient table past first bits got
client_by true closes opens table past first bits got limits read = gone_spelled table past first bits got read
client_by false true opens table past first bits got limits read = close_spelled table past first bits got read
client_by false false true table past first bits got limits read = open_spelled AtClient table past first bits got limits read
client_by false false false table past first bits got limits read = plain_spelled table past first bits got limits read

by_side : (side : Side) (end : End) (past : Past) (first : Bunch) (bits : List Bool) (got : Message × List Bool) → end.side ≡ side → KnowsLimits side end.table past → payload_at end past first bits ≡ Ok got → Got (told side first) side end.table past first bits got
by_side AtServer end past first bits got e limits read = server_spelled end.table past first bits got limits (rw e at read)
by_side AtClient end past first bits got e limits read = client_by (first.channel == 0) first.closes first.opens end.table past first bits got limits (rw e at read)

-- only a message that was spelled is read, and nothing is left behind it
pub payload_spelled : (end : End) (past : Past) (first : Bunch) (bits rest : List Bool) (message : Message) → KnowsLimits end.side end.table past → payload_at end past first bits ≡ Ok (message, rest) → (rest ≡ []) × Spells end.side end.table past first bits message
payload_spelled end past first bits rest message limits read = let got = by_side end.side end past first bits (message, rest) refl limits read in (got.0, got.1)

-- and it is of the kind that the channel and the flags say
pub payload_told : (end : End) (past : Past) (first : Bunch) (bits rest : List Bool) (message : Message) → KnowsLimits end.side end.table past → payload_at end past first bits ≡ Ok (message, rest) → told end.side first message ≡ true
payload_told end past first bits rest message limits read = (by_side end.side end past first bits (message, rest) refl limits read).2
