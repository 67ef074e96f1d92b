-- How what is kept of a player of a replay follows from the player's story.
use Rattle.std.specs.Prelude.{◌≡◌, ℕ}
use Rattle.protocol_model.specs.Side.{AtServer, AtClient}
use Rattle.replication_model.specs.Story.{Player, past_at, out_at}
use Rattle.class_layout.specs.Tables.{Layout, table_in}
use Rattle.client_world.specs.Played.{Play, Plays}
use Rattle.replay_places.specs.declared.place.Place.{Place}

-- the client stands for what the player's client did
pub record IsClient (layout : Layout) (c : Play) (player : ℕ) (p : Player) : Type 0 where
  pub number : player ≡ p.number
  pub classes : c.layout ≡ layout
  pub version : c.version ≡ p.version
  pub plays : Plays c (past_at (table_in layout) AtClient p)

-- the client stands for what the player's client did, the packets are those that the two ends sent,
-- and as many are told to have been delivered as new ones as the story says
pub record IsPlace (layout : Layout) (k : Place) (p : Player) : Type 0 where
  pub number : k.player ≡ p.number
  pub classes : k.client.layout ≡ layout
  pub version : k.client.version ≡ p.version
  pub plays : Plays k.client (past_at (table_in layout) AtClient p)
  pub down : k.down ≡ out_at (table_in layout) AtServer p
  pub up : k.up ≡ out_at (table_in layout) AtClient p
  pub told_down : k.told_down ≡ p.told_client
  pub told_up : k.told_up ≡ p.told_server

-- the client of a place
abbrev pub client_at : {layout : Layout} → {k : Place} → {p : Player} → IsPlace layout k p
    → IsClient layout k.client k.player p
client_at i = record { number = i.number; classes = i.classes; version = i.version; plays = i.plays }
