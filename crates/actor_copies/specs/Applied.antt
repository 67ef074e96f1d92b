-- Payloads that are applied to the copies.
use Rattle.std.specs.Prelude.{◌≡◌, ℕ, List, false, map, Some}
use Rattle.protocol_model.specs.World.{class_at}
use Rattle.protocol_model.specs.Value.{Segment}
use Rattle.protocol_model.specs.Payload.{Message, Opens, Updates}
use Rattle.connection_model.specs.Feed.{Past, Delivered}
use Rattle.connection_model.specs.Copies.{copy_class}
use Rattle.connection_model.specs.PayloadReading.{is_other_class}
use Rattle.class_layout.specs.Tables.{Layout, table_in}
use Rattle.value_codec.specs.declared.pair.Pair.{Pair}
use Rattle.payload_laws.specs.Applied.{Applied}
use Rattle.payload_reading.specs.Values.{pair_values}
use Rattle.actor_copies.specs.declared.copy.ActorCopy.{ActorCopy}
use Rattle.actor_copies.specs.declared.copy.ReadOpen.{ReadOpen}
use Rattle.actor_copies.specs.Copies.{initial_values}
use Rattle.actor_copies.specs.Kept.{IsNumbered, set_all}
use Rattle.actor_copies.specs.Stands.{Stands}

-- a copy begins with the initial values of its class, and those of the open over them
pub record IsNew (layout : Layout) (on : ℕ) (o : ReadOpen) (c : ActorCopy) : Type 0 where
  pub named : c.actor ≡ o.actor
  pub class : c.class ≡ o.class
  pub channel : c.channel ≡ Some on
  pub begun : List Pair
  pub begins : pair_values begun ≡ initial_values (class_at (table_in layout) o.class)
  pub values : c.values ≡ map (set_all o.values) begun
  pub numbered : IsNumbered 1 c.values

-- an open that exported these segments
abbrev pub open_message : Layout → (exports : List Segment) → ReadOpen → Message
open_message layout exports o =
    Opens exports o.actor (class_at (table_in layout) o.class) (pair_values o.values)

-- values for the copy, by its class
abbrev pub update_message : Layout → ActorCopy → List Pair → Message
update_message layout c pairs =
    Updates c.actor (class_at (table_in layout) c.class) (pair_values pairs)

-- the open was handed on from the channel; its class is that of the actor's copy, if there is one
pub record WasOpened (layout : Layout) (on : ℕ) (o : ReadOpen) (past later : Past) : Type 0 where
  pub exports : List Segment
  pub handed : Delivered
  pub applied : Applied past later handed
  pub message : handed.message ≡ open_message layout exports o
  pub channel : handed.channel ≡ on
  pub same : is_other_class (class_at (table_in layout) o.class) (copy_class past o.actor) ≡ false

-- the message was handed on
pub record WasHanded (m : Message) (past later : Past) : Type 0 where
  pub handed : Delivered
  pub applied : Applied past later handed
  pub message : handed.message ≡ m

-- whatever past the copies stood for, they stand for it with what was handed on
abbrev pub Follow : Layout → (old new : List ActorCopy) → (Past → Past → Type 0) → Type 0
Follow layout old new was =
    (past later : Past) → Stands layout old past → was past later → Stands layout new later
