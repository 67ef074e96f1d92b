-- What a payload that was read tells of the copies.
use Rattle.std.proofs.Common.{◌≡◌, ℕ, ◌==◌, List, Bool, true, false, cond, not, ◌&&◌, ◌||◌, nat_lt, length, Option, Some, None, is_some, is_none, option_and_then, unwrap_or, Ok, refl, sym, ap, ◌∙◌}
use Rattle.std.specs.List.{fold}
use Rattle.protocol_model.specs.Limits.{copy_limit}
use Rattle.protocol_model.specs.Value.{Table, Class, goes_down}
use Rattle.protocol_model.specs.declared.Cause.{Cause}
use Rattle.protocol_model.specs.declared.Cause.TheVariants.{Clash, ActorsFull, UnknownGuid, BadChannel}
use Rattle.protocol_model.specs.declared.Way.{Way}
use Rattle.protocol_model.specs.Packet.{Bunch}
use Rattle.protocol_model.specs.Payload.{Message, Opens, Closes, Updates, Calls, Gone}
use Rattle.protocol_model.specs.Reading.{bit_at}
use Rattle.connection_model.specs.Feed.{Past}
use Rattle.connection_model.specs.Names.{names_of, names_with, class_named}
use Rattle.connection_model.specs.Copies.{copy_channel, copy_class, copy_on, copied_actors, has_copy}
use Rattle.connection_model.specs.PayloadReading.{PayloadReading, field, unless, is_elsewhere, is_other_class, is_sleeping_copy, open_at, close_at, update_at, client_call_at, plain_at, gone_at, client_payload_at, call_at_end, exports_at, actor_at, number_at, class_or, values_at, some_values_at, end_at, is_call_of, args_at}
use Rattle.client_laws.proofs.Given.{Gives, gives_give, gives_fault, gives_any, gives_next, gives_need}
use Rattle.protocol_model.specs.Reading.{left, fault, Broken}

-- an open is of an actor whose copy, if it has one, is on no other channel and of no other class; an
-- update is of a channel that a copy holds; a Gone is of a copy without a channel
abbrev pub Tells : Past → Bunch → Message → Type 0
Tells past first (Opens exports actor class values) =
    (is_elsewhere first.channel (copy_channel past actor) ≡ false)
    × (is_other_class class (copy_class past actor) ≡ false)
Tells past first (Updates actor class values) = is_some (copy_on past first.channel) ≡ true
Tells past first (Gone actor) = is_sleeping_copy past actor ≡ true
Tells past first (Closes actor sleeps) = Unit {0}
Tells past first (Calls actor number call args) = Unit {0}

negated : (b : Bool) → not b ≡ true → b ≡ false
negated true h = absurd (cc)
negated false h = refl

-- a class that is there
gives_class : (cause : Cause) (o : Option Class) → Gives (class_or cause o) (λ c. is_some o ≡ true)
gives_class cause (Some class) = gives_give (λ c. true ≡ true) class refl
gives_class cause None =
    gives_any left (λ from. fault (Broken from (Some cause))) (λ c. false ≡ true)
    (λ from. gives_fault (λ c. false ≡ true) (Broken from (Some cause)))

first_there : (f : ℕ → Option Class) (o : Option ℕ) → is_some (option_and_then f o) ≡ true
    → is_some o ≡ true
first_there f None h = h
first_there f (Some a) h = refl

open_tells : (table : Table) (past : Past) (first : Bunch)
    → Gives (open_at table past first) (Tells past first)
open_tells table past first =
    gives_any (exports_at first.exports (names_of past)) _ _ (λ exports.
    gives_any actor_at _ _ (λ actor.
    gives_next (unless (not (is_elsewhere first.channel (copy_channel past actor))) (Clash actor)) _
    (λ n. not (is_elsewhere first.channel (copy_channel past actor)) ≡ true) _ (gives_need _ _) (λ n here.
    gives_any (unless (has_copy past actor || nat_lt (length (copied_actors past)) copy_limit) ActorsFull) _ _
    (λ n.
    gives_any number_at _ _ (λ guid.
    gives_any (class_or (UnknownGuid guid) (class_named table (fold names_with (names_of past) exports) guid))
    _ _ (λ class.
    gives_next (unless (not (is_other_class class (copy_class past actor))) (Clash actor)) _
    (λ n. not (is_other_class class (copy_class past actor)) ≡ true) _ (gives_need _ _) (λ n same.
    gives_any (values_at class) _ _ (λ values.
    gives_any end_at _ _ (λ n.
    gives_give (Tells past first) (Opens exports actor class values) (negated _ here, negated _ same))))))))))

gone_tells : (past : Past) (first : Bunch) → Gives (gone_at past) (Tells past first)
gone_tells past first =
    gives_any (field number_at (λ n. n == 1)) _ _ (λ n.
    gives_any actor_at _ _ (λ actor.
    gives_next (unless (is_sleeping_copy past actor) (UnknownGuid actor)) _
    (λ n. is_sleeping_copy past actor ≡ true) _ (gives_need _ _) (λ n asleep.
    gives_any end_at _ _ (λ n.
    gives_give (Tells past first) (Gone actor) asleep))))

close_tells : (past : Past) (first : Bunch) → Gives (close_at past first) (Tells past first)
close_tells past first = gives_any end_at _ _ (λ n. gives_give (Tells past first) _ tt)

call_tells : (past : Past) (first : Bunch) (class : Class) (actor : ℕ) (way : Way → Bool) (reliable : Bool)
    → Gives (call_at_end class actor way reliable) (Tells past first)
call_tells past first class actor way reliable =
    gives_any (field number_at (is_call_of class way reliable)) _ _ (λ n.
    gives_any (args_at _) _ _ (λ args.
    gives_any end_at _ _ (λ e.
    gives_give (Tells past first) _ tt)))

peer_tells : (past : Past) (first : Bunch) → Gives (client_call_at past first) (Tells past first)
peer_tells past first =
    gives_any actor_at _ _ (λ actor. gives_any (class_or (UnknownGuid actor) (copy_class past actor)) _ _
    (λ class. call_tells past first class actor goes_down first.reliable))

update_tells : (past : Past) (first : Bunch) → Gives (update_at past first) (Tells past first)
update_tells past first =
    gives_next (class_or (BadChannel first.channel) (option_and_then (copy_class past) (copy_on past first.channel)))
    _ (λ c. is_some (option_and_then (copy_class past) (copy_on past first.channel)) ≡ true) _
    (gives_class _ _) (λ class there. gives_any (some_values_at class) _ _
    (λ values. gives_any end_at _ _ (λ n.
    gives_give (Tells past first) _ (first_there (copy_class past) (copy_on past first.channel) there))))

plain_tells : (past : Past) (first : Bunch) → Gives (plain_at past first) (Tells past first)
plain_tells past first = gives_any (field bit_at _) _ _ (λ is_call. by is_call)
  where
    by : (b : Bool) → Gives (cond b (client_call_at past first) (update_at past first)) (Tells past first)
    by true = peer_tells past first
    by false = update_tells past first

pub payload_tells : (table : Table) (past : Past) (first : Bunch)
    → Gives (client_payload_at table past first) (Tells past first)
payload_tells table past first = by_control (first.channel == 0)
  where
    by_opens : (b : Bool) → Gives (cond b (open_at table past first) (plain_at past first)) (Tells past first)
    by_opens true = open_tells table past first
    by_opens false = plain_tells past first

    by_closes : (b : Bool)
        → Gives (cond b (close_at past first) (cond first.opens (open_at table past first) (plain_at past first)))
        (Tells past first)
    by_closes true = close_tells past first
    by_closes false = by_opens first.opens

    by_control : (b : Bool)
        → Gives (cond b (gone_at past) (cond first.closes (close_at past first)
        (cond first.opens (open_at table past first) (plain_at past first)))) (Tells past first)
    by_control true = gone_tells past first
    by_control false = by_closes first.closes
