use Rattle.std.proofs.Common.{List, map, drop}
use Rattle.protocol_model.specs.Side.{AtServer}
use Rattle.protocol_model.specs.World.{Edits}
use Rattle.replication_model.specs.Story.{Player, after_call_of}
use Rattle.class_layout.specs.Tables.{Layout, table_in}
use Rattle.value_codec.specs.Values.{arg_of}
use Rattle.replay_core.specs.Stands.{Serving, Ascend, ArePlaces}
use Rattle.replay_core.proofs.Ticks.{CalledSoFar}
use Rattle.replay_core.proofs.server.call_each.Given as goal

abbrev pub invariant-loop-place : goal.invariant-loop-place
invariant-loop-place l = (layout : Layout) (edits : Edits) (players : List Player)
    → Serving layout l.fn.driver edits players → Ascend 0 players
    → ArePlaces layout l.places players
    → CalledSoFar layout l.driver edits (after_call_of (table_in layout) AtServer l.actor l.number (map arg_of l.args))
    players
    (drop l.place-index l.places) l.fn.events l.events
