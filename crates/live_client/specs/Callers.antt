-- How what a live client keeps follows from the client of the definitions, and what a call does to it.
use Rattle.std.specs.Prelude.{◌≡◌, ℕ, List, [], ◌∷◌, Bool, Option, unwrap_or, if◌then◌else◌}
use Rattle.protocol_model.specs.Value.{Table}
use Rattle.protocol_model.specs.declared.Version.{Version}
use Rattle.class_layout.specs.Tables.{Layout, table_in}
use Rattle.client_world.specs.Played.{Play}
use Rattle.replay_places.specs.Places.{IsClient}
use Rattle.live_model.specs.Outside.{Peer, Act, Writes, Datagram}
use Rattle.live_model.specs.Caller.{Caller, Called, after_heard}
use Rattle.live_model.specs.Runs.{copies_acts, refused_text}
use Rattle.live_acts.specs.declared.act.Act.{Act as ActCode}
use Rattle.live_acts.specs.Acts.{AddsActs}

-- the classes, the end of the connection, the player, the version, the server, the link's end, the digest of the
-- classes, whether it was welcomed, and the code with which it was refused
pub record Calling : Type 0 where
  pub layout : Layout
  pub client : Play
  pub player : ℕ
  pub version : Version
  pub server : Peer
  pub end : ℕ
  pub digest : List ℕ
  pub welcomed : Bool
  pub refused : Option ℕ

-- what is kept, over classes of the digest d, is the client of the definitions, whatever that has still to hear
pub record IsCaller (layout : Layout) (d : List ℕ) (k : Calling) (c : Caller) : Type 0 where
  pub classes : k.layout ≡ layout
  pub client : IsClient layout k.client k.player c.player
  pub version : k.version ≡ c.player.version
  pub server : k.server ≡ c.server
  pub end : k.end ≡ c.end
  pub digest : k.digest ≡ d
  pub welcomed : k.welcomed ≡ c.welcomed
  pub refused : k.refused ≡ c.refused

-- it is some client of the definitions
abbrev pub Stands : Calling → Type 0
Stands k = (layout : Layout) × (digest : List ℕ) × (c : Caller) × IsCaller layout digest k c

-- it is the client after something, and what was done was added
pub record HasCalled (layout : Layout) (digest : List ℕ) (k : Calling) (before after : List ActCode) (called : Called)
    : Type 0 where
  pub stands : IsCaller layout digest k called.0
  pub adds : AddsActs before after called.1

-- the same is done of each client that it was
abbrev pub Does : (Table → Caller → Called) → (old new : Calling) → (before after : List ActCode) → Type 0
Does does old new before after =
    (layout : Layout) (digest : List ℕ) (c : Caller) → IsCaller layout digest old c
    → HasCalled layout digest new before after (does (table_in layout) c)

-- it hears a datagram
abbrev pub hears : (from : Peer) (bytes : List ℕ) → Table → Caller → Called
hears from bytes table c = after_heard table c (Datagram from bytes)

-- its last lines
abbrev pub last_acts : Table → Caller → List Act
last_acts table c =
    if c.welcomed then copies_acts table c else Writes (refused_text (unwrap_or c.refused 0)) ∷ []
