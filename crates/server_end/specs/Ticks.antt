-- What an end's tick leaves and answers.
use Rattle.std.specs.Prelude.{◌≡◌, ◌+◌, ◌≤◌, ◌^◌, List, map, nat_le}
use Rattle.protocol_model.specs.Limits.{unresolved_limit}
use Rattle.protocol_model.specs.Sight.{Seen}
use Rattle.connection_model.specs.Fates.{unresolved_count, top_of}
use Rattle.connection_model.specs.Feed.{End, Past}
use Rattle.connection_model.specs.Pack.{after_tick}
use Rattle.class_layout.specs.Tables.{Layout}
use Rattle.link_end.specs.Answers.{new_packets, sent_value}
use Rattle.shadow_changes.specs.Samples.{Samples, Shadows}
use Rattle.sender_steps.specs.declared.sight.Seen.{Seen as SeenValue}
use Rattle.actor_sender.specs.Given.{IsGiven}
use Rattle.server_end.specs.declared.server_end.EndTick.{EndTick}
use Rattle.server_end.specs.declared.server_end.ServerEnd.{ServerEnd}
use Rattle.server_end.specs.Stands.{StandsEnd}

-- an end is given a sight for what is shown
abbrev pub IsGivenEnd : ServerEnd → Layout → Shadows → List SeenValue → End → Past
    → (before samples : Samples) → List Seen → Type 0
IsGivenEnd e layout changes sight end past before samples shown =
    IsGiven e.sender e.link e.table layout changes sight end past before samples shown

-- an end ticked: its parts stand for what it did then, and what it sent is the tick's
pub record HasTicked (old new : ServerEnd) (end : End) (past : Past) (samples : Samples)
    (shown : List Seen) (t : EndTick) : Type 0 where
  pub player : new.player ≡ old.player
  pub stands : StandsEnd new end (after_tick end past shown) samples
  pub count : new.table.made.count ≤ old.table.made.count + 2 ^ 17
  pub sent : map sent_value t.sent ≡ new_packets end past (after_tick end past shown)
  pub stalled : t.stalled
      ≡ nat_le unresolved_limit (unresolved_count (after_tick end past shown))
  pub top : t.top ≡ top_of (after_tick end past shown)
