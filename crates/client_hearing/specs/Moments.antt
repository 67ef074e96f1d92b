-- The middle of a packet that a client takes.
use Rattle.std.specs.Prelude.{◌≡◌, ℕ, ◌<◌, List, ◌∷◌, ◌++◌, length, map, reverse, Bool, Some}
use Rattle.protocol_model.specs.Packet.{Bunch, channel_limit}
use Rattle.protocol_model.specs.declared.Version.{Version}
use Rattle.connection_model.specs.Feed.{Past, Entry, Delivered}
use Rattle.connection_model.specs.Copies.{copy_channel, delivered_of}
use Rattle.connection_model.specs.Names.{names_of}
use Rattle.connection_model.specs.Handed.{client_verdict}
use Rattle.class_layout.specs.Tables.{Layout}
use Rattle.value_codec.specs.declared.handed.Handed.{Handed}
use Rattle.handovers.specs.Handovers.{handovers, handover_of}
use Rattle.receiving_laws.specs.Holders.{is_copied_on}
use Rattle.receiving_laws.specs.Receiving.{Raw}
use Rattle.client_laws.specs.Holding.{Agrees, MayCome, ComeInTurn, IsProper}
use Rattle.hearing_laws.specs.Courses.{Taking, during}
use Rattle.incoming_channels.specs.Messages.{IsRaw, AreRaws}
use Rattle.incoming_channels.specs.declared.message.Message.{Message}
use Rattle.netguid_map.specs.declared.names.Learnt.{Learnt}
use Rattle.netguid_map.specs.Names.{Stands as StandNames}
use Rattle.actor_copies.specs.declared.copy.ActorCopy.{ActorCopy}
use Rattle.actor_copies.specs.Kept.{ArePlaced}
use Rattle.actor_copies.specs.Stands.{Stands as StandCopies}
use Rattle.channel_table.specs.Channels.{Channels}
use Rattle.channel_table.specs.Holders.{Bound, channel_bound, IsPaired}
use Rattle.client_hearing.specs.Keeping.{Keeps, AreLow, end_as}

-- a moment of a packet: the entries told and the payloads handed on by now, the newest first
pub record Moment : Type 0 where
  pub taking : Taking
  pub entries : List Entry
  pub handed : List Delivered

-- the past at a moment
abbrev pub past_at : Moment → Past
past_at w = during w.taking w.entries w.handed

-- one more payload was handed on
abbrev pub handing : Delivered → Moment → Moment
handing d w = record w { handed = d ∷ w.handed }

-- the calls that are handed over are those among the payloads handed on, the newest of which stands
-- first
abbrev pub AreHanded : Layout → List Handed → List Delivered → Type 0
AreHanded layout handed payloads =
    map (handover_of layout) handed
    ≡ handovers (λ actor held. client_verdict held) (reverse payloads)

-- between two payloads of a bunch: each channel is bound to the actor of the copy that holds it, and
-- names, copies and calls stand for the moment
pub record Reads (layout : Layout) (version : Version) (bound : Bound) (names : List (ℕ × Learnt))
    (copies : List ActorCopy) (calls : List Handed) (w : Moment) : Type 0 where
  pub held : (a : ℕ) → channel_bound bound a ≡ copy_channel (past_at w) a
  pub paired : IsPaired bound
  pub learnt : StandNames names (names_of (past_at w))
  pub copied : StandCopies layout copies (past_at w)
  pub placed : ArePlaced (length layout.classes) copies
  pub agrees : Agrees (past_at w)
  pub low : AreLow version (past_at w)
  pub told : AreHanded layout calls w.handed

-- and a payload may come: it opens where no copy holds its channel, and closes where one does
pub record IsComing (layout : Layout) (version : Version) (bound : Bound) (names : List (ℕ × Learnt))
    (copies : List ActorCopy) (calls : List Handed) (w : Moment) (m : Message) (raw : Raw)
    (held : Bool) : Type 0 where
  pub reads : Reads layout version bound names copies calls w
  pub is_raw : IsRaw raw m
  pub may : MayCome m.channel held raw.0
  pub same : is_copied_on (past_at w) m.channel ≡ held
  pub fits : m.channel < channel_limit version

-- so do payloads of a channel, one after another
pub record AreComing (layout : Layout) (version : Version) (bound : Bound) (names : List (ℕ × Learnt))
    (copies : List ActorCopy) (calls : List Handed) (w : Moment) (ch : ℕ) (held : Bool)
    (raws : List Raw) (messages : List Message) : Type 0 where
  pub reads : Reads layout version bound names copies calls w
  pub are_raws : AreRaws raws messages
  pub turns : ComeInTurn ch held raws
  pub same : is_copied_on (past_at w) ch ≡ held
  pub fits : ch < channel_limit version

-- between two entries: all that is kept stands for the past, in which these payloads were handed on
-- since the packet came
pub record Hears (layout : Layout) (version : Version) (table : Channels) (names : List (ℕ × Learnt))
    (copies : List ActorCopy) (calls : List Handed) (k : Taking) (payloads : List Delivered)
    (past : Past) : Type 0 where
  pub end : k.end ≡ end_as layout version
  pub keeps : Keeps layout version table names copies past
  pub more : delivered_of past ≡ payloads ++ delivered_of k.before
  pub told : AreHanded layout calls payloads

-- a bunch of a packet that was decoded
pub record IsFit (version : Version) (b : Bunch) : Type 0 where
  pub proper : IsProper b
  pub low : b.channel < channel_limit version
