-- What is kept of an open.
use Rattle.std.specs.Prelude.{◌≡◌, ◌≢◌, ◌≤◌, ◌<◌, ◌+◌, true, ℕ, List, [], ◌∷◌, ◌++◌, Bool, Some, false, not, slice_index_or}
use Rattle.protocol_model.specs.Limits.{channels_one}
use Rattle.protocol_model.specs.Payload.{Message, parts_of}
use Rattle.protocol_model.specs.Search.{is_among}
use Rattle.connection_model.specs.Feed.{Past, tick_count}
use Rattle.connection_model.specs.Bunches.{made_count, span}
use Rattle.connection_model.specs.Exports.{exports_segment}
use Rattle.connection_model.specs.State.{index_of}
use Rattle.channel_table.specs.Holders.{Bound, channel_bound, IsPaired}
use Rattle.value_codec.specs.declared.pair.Pair.{Pair as PairValue}
use Rattle.shadow_changes.specs.Samples.{Samples, samples_of}
use Rattle.sender_laws.specs.Acts.{are_sent, ArrivesMade}
use Rattle.sender_laws.specs.Items.{has_update}
use Rattle.sender_laws.specs.Values.{AreInTurn}
use Rattle.sender_records.specs.Handles.{AreNewest}
use Rattle.sender_steps.specs.Sender.{Sender, record_in}
use Rattle.sender_steps.specs.Stands.{Keeps}
use Rattle.sender_steps.specs.declared.sent.OpenSent.{OpenSent}

-- the segment wasn't taken for known
abbrev pub is_unknown : List Bool → (guid : ℕ) → Bool
is_unknown known g = not (slice_index_or known g false)

-- the opens with one more, if it exports segments
abbrev pub with_open : List OpenSent → OpenSent → List OpenSent
with_open opens o = with_if o.guids
  where
    with_if : List ℕ → List OpenSent
    with_if [] = opens
    with_if (g ∷ guids) = opens ++ o ∷ []

-- an open of the actor with these values, sampled at a tick, may be made in this tick on the index,
-- which is clear and held by none, below packets of the tick that have no update of it
pub record MayOpen (sent past : Past) (samples : Samples) (actor index tick : ℕ)
    (values : List PairValue) (newest : ℕ) : Type 0 where
  pub sends : are_sent sent ≡ true
  pub unsent : has_update actor sent ≡ false
  pub made : ArrivesMade (sent ++ past)
  pub clear : span (sent ++ past) index ≡ 0
  pub free : (a : ℕ) → index_of (sent ++ past) a ≢ Some index
  pub now : tick ≡ tick_count past
  pub sampled : AreNewest (samples_of samples actor) newest values
  pub turn : AreInTurn (samples_of samples actor)

-- the message opens an actor that was shown as relevant, and what is told of it is right: its index
-- is one that actors hold, the number is that of its last part, and the guids are its segments
pub record IsOpenTold (s : Sender) (sent past : Past) (samples : Samples) (actor : ℕ)
    (message : Message) (o : OpenSent) : Type 0 where
  pub sender : Keeps s (sent ++ past) samples
  pub actor_is : 1 ≤ actor
  pub relevant : 1 ≤ (record_in s.records actor).service.relevant_at
  pub some : 1 ≤ o.channel
  pub low : o.channel < channels_one
  pub last : o.last ≡ made_count past o.channel + parts_of message
  pub guids : (g : ℕ) → exports_segment g message ≡ is_among g o.guids

-- each actor is bound to the index that it holds, and each index to its holder
pub record AreBound (bound : Bound) (past : Past) : Type 0 where
  pub index : (a : ℕ) → channel_bound bound a ≡ index_of past a
  pub paired : IsPaired bound
