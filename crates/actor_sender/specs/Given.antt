-- What a tick is given, and what has to be right of it.
use Rattle.std.specs.Prelude.{◌≡◌, ◌<◌, ◌≤◌, ◌^◌, ℕ, List, length, true, false, Some, slice_get, IsTrue}
use Rattle.protocol_model.specs.Limits.{handle_limit, unresolved_limit}
use Rattle.protocol_model.specs.Side.{AtServer}
use Rattle.protocol_model.specs.Sight.{Seen}
use Rattle.protocol_model.specs.World.{class_at}
use Rattle.connection_model.specs.Fates.{unresolved_count}
use Rattle.connection_model.specs.Feed.{End, Past, has_ended}
use Rattle.connection_model.specs.Items.{is_quiet}
use Rattle.connection_laws.specs.Run.{IsRun}
use Rattle.class_layout.specs.Tables.{Layout, table_in}
use Rattle.link_end.specs.Link.{Link}
use Rattle.channel_table.specs.Channels.{Channels}
use Rattle.payload_writing.specs.Values.{pairs_fit}
use Rattle.shadow_changes.specs.Samples.{Shadows, Samples, Keeps as KeepsSamples}
use Rattle.sender_records.specs.Handles.{AreApart, pairs_of}
use Rattle.sight_laws.specs.Sights.{Shows, IsSight}
use Rattle.sender_steps.specs.declared.sight.Seen.{Seen as SeenValue}
use Rattle.sender_steps.specs.Sender.{Sender}
use Rattle.sender_steps.specs.Sights.{seen_value, sight_value}
use Rattle.sender_steps.specs.Stands.{Stands, Extends, Agrees}
use Rattle.sender_turns.specs.Calling.{MayWait}

-- the values of an entry: each handle once, no more than a class has, each of a kind that its
-- handle takes, and those of the actor's newest sample
pub record AreValues (layout : Layout) (samples : Samples) (s : SeenValue) : Type 0 where
  pub apart : AreApart (pairs_of s.values)
  pub few : length s.values ≤ handle_limit
  pub fit : IsTrue (pairs_fit (class_at (table_in layout) s.class) s.values)
  pub agrees : Agrees samples (seen_value layout s)

-- an entry names a class of the table, and has its values if it may be sent: it is relevant, and
-- isn't quiet
pub record IsEntryGiven (layout : Layout) (past : Past) (samples : Samples) (s : SeenValue)
    : Type 0 where
  pub class : s.class < length layout.classes
  pub values : s.relevant ≡ true → is_quiet past (seen_value layout s) ≡ false
      → AreValues layout samples s

-- sender, link and channels stand for the past of a server's end, a run that hasn't ended and in
-- which a fate is free; the change lists stand for the samples, which go on from those that the
-- sender knows; and a sight was given for the one that is shown
pub record IsGiven (s : Sender) (l : Link) (t : Channels) (layout : Layout) (changes : Shadows)
    (sight : List SeenValue) (end : End) (past : Past) (before samples : Samples)
    (shown : List Seen) : Type 0 where
  pub stands : Stands s l t end past before
  pub side : end.side ≡ AtServer
  pub budget : 1 ≤ end.budget
  pub alive : has_ended past ≡ false
  pub run : IsRun end past
  pub few : unresolved_count past < unresolved_limit
  pub noted : KeepsSamples changes samples
  pub extends : Extends before samples
  pub is_sight : IsSight shown
  pub shows : Shows past shown (sight_value layout sight)
  pub entries : (i : ℕ) (s : SeenValue) → slice_get sight i ≡ Some s
      → IsEntryGiven layout past samples s
  pub waiting : MayWait t.waiting
  pub made : t.made.count < 2 ^ 59
