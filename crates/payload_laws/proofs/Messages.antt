-- Each message is read as it was spelled, where the rules let it through.
use Rattle.std.proofs.Common.{◌≡◌, ℕ, zero, suc, ◌≤◌, ◌%◌, ◌==◌, List, [], ◌∷◌, ◌++◌, Bool, true, false, not, ◌&&◌, ◌||◌, nat_lt, nat_le, Option, Some, unwrap_or, option_and_then, Ok, refl, sym, ap, ◌∙◌, arith, append_assoc, append-nil, length, slice_get}
use Rattle.std.specs.List.{fold, list_all}
use Rattle.std.specs.Bool.{beq}
use Rattle.std.proofs.lemmas.Option.{slice_get_within}
use Rattle.std.proofs.lemmas.Bool.{and_parts, and_from, le-leb, eq-eqb}
use Rattle.protocol_model.specs.declared.Way.{Way}
use Rattle.protocol_model.specs.declared.Cause.{Cause}
use Rattle.protocol_model.specs.declared.Cause.TheVariants.{BadChannel, UnknownGuid, Clash, ActorsFull}
use Rattle.protocol_model.specs.Side.{AtServer, AtClient}
use Rattle.protocol_model.specs.Bits.{packed_bits}
use Rattle.protocol_model.specs.Reading.{◌>>=◌, give, bit_at}
use Rattle.protocol_model.specs.Value.{Segment, Class, Call, Arg, Pair, Table, class_guid, call_at, args_fit, goes_up, goes_down}
use Rattle.protocol_model.specs.Packet.{Bunch}
use Rattle.protocol_model.specs.Payload.{Message, Opens, Updates, Calls, Gone, exports_bits, list_bits, args_bits, message_bits}
use Rattle.connection_model.specs.Feed.{Past}
use Rattle.connection_model.specs.State.{opened_class}
use Rattle.connection_model.specs.Names.{names_with, names_of, class_named}
use Rattle.connection_model.specs.Copies.{copy_class, copy_channel, copy_on, copied_actors, has_copy}
use Rattle.connection_model.specs.PayloadReading.{PayloadReading, field, unless, number_at, values_at, some_values_at, args_at, actor_at, end_at, exports_at, class_or, is_elsewhere, is_other_class, open_at, is_call_of, no_call, call_at_end, client_call_at, update_at, is_sleeping_copy, gone_at, server_call_at}
use Rattle.table_model.specs.Facts.{is_type, is_call}
use Rattle.payload_laws.specs.Limits.{HasLimits, IsActor}
use Rattle.payload_laws.specs.Passing.{OpenPasses, UpdatePasses, CallPasses}
use Rattle.payload_laws.proofs.Fields.{Answer, then_read, packed_read, must_read, need_read}
use Rattle.payload_laws.proofs.Pairs.{values_read, some_values_read}
use Rattle.payload_laws.proofs.Args.{args_read}
use Rattle.payload_laws.proofs.Segments.{are_some, exports_read}

-- an actor's guid
actor_read : (actor : ℕ) (rest : List Bool) → IsActor actor → actor_at (packed_bits actor ++ rest) ≡ Ok (actor, rest)
actor_read actor rest is =
    must_read number_at (λ g. g % 2 == 0 && nat_le 2 g) _ (packed_bits actor ++ rest) actor rest (packed_read _ actor rest is.below)
    (and_from (actor % 2 == 0) (nat_le 2 actor) (eq-eqb (actor % 2) 0 is.even) (le-leb 2 actor is.least))

-- nothing is left
abbrev pub ended : {A : Type 0} → A → PayloadReading A
ended value = do
  _ ← end_at
  give value

-- the class is there
class_read : (cause : Cause) (o : Option Class) (class : Class) (bits : List Bool) → o ≡ Some class → class_or cause o bits ≡ Ok (class, bits)
class_read cause o class bits e = rw e refl

-- a condition that holds
unless_read : (rule : Bool) (cause : Cause) (bits : List Bool) → rule ≡ true → unless rule cause bits ≡ Ok (length bits, bits)
unless_read rule cause bits h = need_read rule (Some cause) bits h

is_not : (b : Bool) → b ≡ false → not b ≡ true
is_not b e = rw e refl

-- ---- an open

-- an open is read as it was spelled
pub open_read : (table : Table) (past : Past) (first : Bunch) (exports : List Segment) (actor : ℕ) (class : Class) (values : List Pair) → first.exports ≡ are_some exports → OpenPasses table past first.channel exports actor (class_guid class) class values
    → open_at table past first (message_bits (Opens exports actor class values)) ≡ Ok (Opens exports actor class values, [])
open_read table past first exports actor class values flag h =
    let message : Message = Opens exports actor class values in
    let r : Answer (Option Cause) Message = Ok (message, []) in
    let at_values : List Bool = list_bits class values ++ [] in
    let at_guid : List Bool = packed_bits (class_guid class) ++ at_values in
    let at_actor : List Bool = packed_bits actor ++ at_guid in
    let with_values : List Segment → ℕ → Class → List Pair → PayloadReading Message = λ (exports : List Segment) (actor : ℕ) (class : Class) (values : List Pair). ended (Opens exports actor class values) in
    let with_same : List Segment → ℕ → Class → ℕ → PayloadReading Message = λ (exports : List Segment) (actor : ℕ) (class : Class) (n : ℕ). (values_at class >>= with_values exports actor class) in
    let with_class : List Segment → ℕ → Class → PayloadReading Message = λ (exports : List Segment) (actor : ℕ) (class : Class). (unless (not (is_other_class class (copy_class past actor))) (Clash actor) >>= with_same exports actor class) in
    let with_guid : List Segment → ℕ → ℕ → PayloadReading Message = λ (exports : List Segment) (actor guid : ℕ). (class_or (UnknownGuid guid) (class_named table (fold names_with (names_of past) exports) guid) >>= with_class exports actor) in
    let with_room : List Segment → ℕ → ℕ → PayloadReading Message = λ (exports : List Segment) (actor n : ℕ). (number_at >>= with_guid exports actor) in
    let with_here : List Segment → ℕ → ℕ → PayloadReading Message = λ (exports : List Segment) (actor n : ℕ). (unless (has_copy past actor || nat_lt (length (copied_actors past)) 8192) ActorsFull >>= with_room exports actor) in
    let with_actor : List Segment → ℕ → PayloadReading Message = λ (exports : List Segment) (actor : ℕ). (unless (not (is_elsewhere first.channel (copy_channel past actor))) (Clash actor) >>= with_here exports actor) in
    let with_exports : List Segment → PayloadReading Message = λ (exports : List Segment). (actor_at >>= with_actor exports) in
    ap (open_at table past first) (sym (append-nil (message_bits message)) ∙ four (exports_bits exports) (packed_bits actor) (packed_bits (class_guid class)) (list_bits class values) [])
    ∙ then_read (exports_at first.exports (names_of past)) with_exports (exports_bits exports ++ at_actor) exports at_actor r (rw flag (exports_read (names_of past) exports at_actor h.few h.learnt))
    (then_read actor_at (with_actor exports) at_actor actor at_guid r (actor_read actor at_guid h.is_actor)
    (then_read (unless (not (is_elsewhere first.channel (copy_channel past actor))) (Clash actor)) (with_here exports actor) at_guid (length at_guid) at_guid r (unless_read _ _ at_guid (is_not _ h.here))
    (then_read (unless (has_copy past actor || nat_lt (length (copied_actors past)) 8192) ActorsFull) (with_room exports actor) at_guid (length at_guid) at_guid r (unless_read _ _ at_guid h.room)
    (then_read number_at (with_guid exports actor) at_guid (class_guid class) at_values r (packed_read _ (class_guid class) at_values h.guid_below)
    (then_read (class_or (UnknownGuid (class_guid class)) (class_named table (fold names_with (names_of past) exports) (class_guid class))) (with_class exports actor) at_values class at_values r (class_read _ _ class at_values h.named)
    (then_read (unless (not (is_other_class class (copy_class past actor))) (Clash actor)) (with_same exports actor class) at_values (length at_values) at_values r (unless_read _ _ at_values (is_not _ h.same))
    (then_read (values_at class) (with_values exports actor class) at_values values [] r (values_read class values [] h.limits h.all_fit) refl)))))))
  where
    four : (a b c d r : List Bool) → (a ++ b ++ c ++ d) ++ r ≡ a ++ (b ++ (c ++ (d ++ r)))
    four a b c d r = simp append_assoc

-- ---- a call

same_flag : (b : Bool) → beq b b ≡ true
same_flag true = refl
same_flag false = refl

is_call_there : (class : Class) (way_ok : Way → Bool) (reliable : Bool) (number : ℕ) (call : Call) → call_at class number ≡ Some call → way_ok call.way ≡ true → call.reliable ≡ reliable → is_call_of class way_ok reliable number ≡ true
is_call_there class way_ok reliable number call e w r = rw (e, w, r) (same_flag reliable)

calls_kinds : (calls : List Call) (n : ℕ) (call : Call) → list_all is_call calls ≡ true → slice_get calls n ≡ Some call → is_call call ≡ true
calls_kinds [] n call h e = absurd (cc)
calls_kinds (c ∷ calls) zero call h e = let same : c ≡ call = cc in rw (← same) (and_parts _ _ h).0
calls_kinds (c ∷ calls) (suc n) call h e = calls_kinds calls n call (and_parts _ _ h).1 e

-- a call of the class is one that a table may have
pub call_is : (class : Class) (number : ℕ) (call : Call) → HasLimits class → call_at class number ≡ Some call → is_call call ≡ true
call_is class zero call limits e = absurd (cc)
call_is class (suc n) call limits e = calls_kinds class.calls n call limits.calls e

-- its number is at most 64
pub number_is : (class : Class) (number : ℕ) (call : Call) → HasLimits class → call_at class number ≡ Some call → number ≤ 64
number_is class zero call limits e = omega arith
number_is class (suc n) call limits e = let within = slice_get_within class.calls n call e in let few = limits.call_count in omega (arith, within, few)

-- a call's kinds may stand among arguments
pub call_types : (call : Call) → is_call call ≡ true → list_all (is_type true) call.args ≡ true
call_types call h = (and_parts _ _ (and_parts _ _ (and_parts _ _ h).0).0).1

call_end_read : (class : Class) (actor : ℕ) (way_ok : Way → Bool) (reliable : Bool) (number : ℕ) (call : Call) (args : List Arg) → HasLimits class → call_at class number ≡ Some call → way_ok call.way ≡ true → call.reliable ≡ reliable → args_fit call.args args ≡ true
    → call_at_end class actor way_ok reliable (packed_bits number ++ (args_bits call.args args ++ [])) ≡ Ok (Calls actor number call args, [])
call_end_read class actor way_ok reliable number call args limits e w r f =
    let answer : Answer (Option Cause) Message = Ok (Calls actor number call args, []) in
    let at_args : List Bool = args_bits call.args args ++ [] in
    let with_args : ℕ → List Arg → PayloadReading Message = λ (n : ℕ) (args : List Arg). ended (Calls actor n (unwrap_or (call_at class n) no_call) args) in
    let small = number_is class number call limits e in
    then_read (field number_at (is_call_of class way_ok reliable)) (λ n. (args_at (unwrap_or (call_at class n) no_call).args >>= with_args n)) (packed_bits number ++ at_args) number at_args answer
    (must_read number_at (is_call_of class way_ok reliable) _ (packed_bits number ++ at_args) number at_args (packed_read _ number at_args (omega (arith, small))) (is_call_there class way_ok reliable number call e w r))
    (rw e (then_read (args_at call.args) (λ args. ended (Calls actor number call args)) at_args args [] answer (args_read call.args args [] (call_types call (call_is class number call limits e)) f) refl))

call_bits_is : (actor number : ℕ) (call : Call) (args : List Arg) → packed_bits actor ++ packed_bits number ++ args_bits call.args args ≡ packed_bits actor ++ (packed_bits number ++ (args_bits call.args args ++ []))
call_bits_is actor number call args = regroup (packed_bits actor) (packed_bits number) (args_bits call.args args)
  where
    regroup : (a b c : List Bool) → a ++ b ++ c ≡ a ++ (b ++ (c ++ []))
    regroup a b c = simp (append_assoc, append-nil)

-- a call at the client
pub client_call_read : (past : Past) (first : Bunch) (actor number : ℕ) (call : Call) (args : List Arg) → first.reliable ≡ call.reliable → CallPasses AtClient past actor number call args
    → client_call_at past first (packed_bits actor ++ packed_bits number ++ args_bits call.args args) ≡ Ok (Calls actor number call args, [])
client_call_read past first actor number call args r h =
    let answer : Answer (Option Cause) Message = Ok (Calls actor number call args, []) in
    let at_number : List Bool = packed_bits number ++ (args_bits call.args args ++ []) in
    let with_class : ℕ → Class → PayloadReading Message = λ (actor : ℕ) (class : Class). call_at_end class actor goes_down first.reliable in
    ap (client_call_at past first) (call_bits_is actor number call args)
    ∙ then_read actor_at (λ actor. (class_or (UnknownGuid actor) (copy_class past actor) >>= with_class actor)) (packed_bits actor ++ at_number) actor at_number answer (actor_read actor at_number h.is_actor)
    (then_read (class_or (UnknownGuid actor) (copy_class past actor)) (with_class actor) at_number h.class at_number answer (class_read _ _ h.class at_number h.known)
    (call_end_read h.class actor goes_down first.reliable number call args h.limits h.found h.way (sym r) h.all_fit))

-- a call at the server
pub server_call_read : (past : Past) (first : Bunch) (actor number : ℕ) (call : Call) (args : List Arg) → (first.channel == 0) ≡ false → first.reliable ≡ call.reliable → CallPasses AtServer past actor number call args
    → server_call_at past first (message_bits (Calls actor number call args)) ≡ Ok (Calls actor number call args, [])
server_call_read past first actor number call args c r h =
    let answer : Answer (Option Cause) Message = Ok (Calls actor number call args, []) in
    let at_number : List Bool = packed_bits number ++ (args_bits call.args args ++ []) in
    let with_class : ℕ → Class → PayloadReading Message = λ (actor : ℕ) (class : Class). call_at_end class actor goes_up first.reliable in
    let with_actor : ℕ → PayloadReading Message = λ (actor : ℕ). (class_or (UnknownGuid actor) (opened_class past actor) >>= with_class actor) in
    let rule : Bool → Bool = λ (is_call : Bool). (is_call && not (first.channel == 0)) in
    ap (λ (bits : List Bool). server_call_at past first (true ∷ bits)) (call_bits_is actor number call args)
    ∙ then_read (field bit_at rule) (λ is_call. (actor_at >>= with_actor)) (true ∷ (packed_bits actor ++ at_number)) true (packed_bits actor ++ at_number) answer
    (must_read bit_at rule _ (true ∷ (packed_bits actor ++ at_number)) true (packed_bits actor ++ at_number) refl (rw c refl))
    (then_read actor_at with_actor (packed_bits actor ++ at_number) actor at_number answer (actor_read actor at_number h.is_actor)
    (then_read (class_or (UnknownGuid actor) (opened_class past actor)) (with_class actor) at_number h.class at_number answer (class_read _ _ h.class at_number h.known)
    (call_end_read h.class actor goes_up first.reliable number call args h.limits h.found h.way (sym r) h.all_fit)))

-- ---- an update

-- an update is read as it was spelled
pub update_read : (past : Past) (first : Bunch) (actor : ℕ) (class : Class) (values : List Pair) → UpdatePasses past first.channel actor class values → update_at past first (list_bits class values) ≡ Ok (Updates actor class values, [])
update_read past first actor class values h =
    let answer : Answer (Option Cause) Message = Ok (Updates actor class values, []) in
    let bits : List Bool = list_bits class values ++ [] in
    let with_values : Class → List Pair → PayloadReading Message = λ (class : Class) (values : List Pair). ended (Updates (unwrap_or (copy_on past first.channel) 0) class values) in
    let known : option_and_then (copy_class past) (copy_on past first.channel) ≡ Some class = rw h.holds h.known in
    ap (update_at past first) (sym (append-nil (list_bits class values)))
    ∙ then_read (class_or (BadChannel first.channel) (option_and_then (copy_class past) (copy_on past first.channel))) (λ class. (some_values_at class >>= with_values class)) bits class bits answer (class_read _ _ class bits known)
    (then_read (some_values_at class) (with_values class) bits values [] answer (some_values_read class values [] h.limits h.some h.all_fit) (rw h.holds refl))

-- ---- a Gone

-- a Gone is read as it was spelled
pub gone_read : (past : Past) (actor : ℕ) → IsActor actor → is_sleeping_copy past actor ≡ true → gone_at past (message_bits (Gone actor)) ≡ Ok (Gone actor, [])
gone_read past actor is asleep =
    let answer : Answer (Option Cause) Message = Ok (Gone actor, []) in
    let with_sleeping : ℕ → ℕ → PayloadReading Message = λ (actor n : ℕ). ended (Gone actor) in
    let with_actor : ℕ → PayloadReading Message = λ (actor : ℕ). (unless (is_sleeping_copy past actor) (UnknownGuid actor) >>= with_sleeping actor) in
    let at_actor : List Bool = packed_bits actor ++ [] in
    ap (λ (bits : List Bool). gone_at past (packed_bits 1 ++ bits)) (sym (append-nil (packed_bits actor)))
    ∙ then_read (field number_at (λ n. n == 1)) (λ _. (actor_at >>= with_actor)) (packed_bits 1 ++ at_actor) 1 at_actor answer
    (must_read number_at (λ n. n == 1) _ (packed_bits 1 ++ at_actor) 1 at_actor (packed_read _ 1 at_actor (omega arith)) refl)
    (then_read actor_at with_actor at_actor actor [] answer (actor_read actor [] is)
    (then_read (unless (is_sleeping_copy past actor) (UnknownGuid actor)) (with_sleeping actor) [] 0 [] answer (unless_read _ _ [] asleep) refl))
