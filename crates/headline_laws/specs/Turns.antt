-- A client that was handed on a prefix of a channel's messages, each as it was made.
use Rattle.protocol_model.specs.Payload.{Message, actor_of}
use Rattle.connection_model.specs.Bunches.{is_opening}
use Rattle.connection_model.specs.Copies.{copy_channel}
use Rattle.payload_laws.specs.Passing.{is_gone}
use Rattle.std.specs.Prelude.{◌≡◌, ℕ, List, ◌∷◌, ◌++◌, map, true, None}
use Rattle.connection_model.specs.Feed.{Past, Delivered}
use Rattle.replication_model.specs.Headline.{IsPrefix}
use Rattle.connection_laws.specs.Delivered.{Numbered, messages_on, handed_reliably}

-- of the messages made on the channel these were handed on, the oldest first, and this one comes next
pub record ComesNext (server client : Past) (channel : ℕ) (done : List Numbered)
    (made : Numbered) : Type 0 where
  pub later : List Numbered
  pub split : messages_on server channel ≡ done ++ made ∷ later
  pub same : map (λ (d : Delivered). d.message) (handed_reliably client channel)
      ≡ map (λ (x : Numbered). x.1) done

-- on each channel, the messages that were handed on are a prefix of those made there
abbrev pub HandsSame : (from to : Past) → Type 0
HandsSame from to =
    (ch : ℕ) → IsPrefix (map (λ (d : Delivered). d.message) (handed_reliably to ch))
    (map (λ (x : Numbered). x.1) (messages_on from ch))

-- an open or a Gone finds its actor without a channel
pub record FindsNoChannel (client : Past) (message : Message) : Type 0 where
  pub opens : is_opening message ≡ true → copy_channel client (actor_of message) ≡ None
  pub gone : is_gone message ≡ true → copy_channel client (actor_of message) ≡ None
