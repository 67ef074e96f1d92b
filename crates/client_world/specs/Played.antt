-- How what a client keeps follows from what it did.
use Rattle.std.specs.Prelude.{◌≡◌, ◌⊎◌, ℕ, ◌≤◌, List, Bool, true, false}
use Rattle.protocol_model.specs.declared.Verdict.{Verdict}
use Rattle.protocol_model.specs.declared.Verdict.TheVariants.{Closed}
use Rattle.protocol_model.specs.declared.Version.{Version}
use Rattle.connection_model.specs.Feed.{End, Past, has_ended}
use Rattle.connection_model.specs.Fates.{top_of}
use Rattle.class_layout.specs.Tables.{Layout}
use Rattle.link_end.specs.Link.{Link}
use Rattle.channel_table.specs.Channels.{Channels}
use Rattle.netguid_map.specs.declared.names.Learnt.{Learnt}
use Rattle.actor_copies.specs.declared.copy.ActorCopy.{ActorCopy}
use Rattle.actor_copies.specs.Stands.{Stands as StandCopies}
use Rattle.handovers.specs.Handovers.{Handover}
use Rattle.client_hearing.specs.Keeping.{end_as}
use Rattle.client_hearing.specs.Hearing as hearing
use Rattle.client_sending.specs.Stands.{MaySend}

-- the classes, the version, the packets, the channels, the names learnt by their guids, the copies
-- ascending by actor, whether the end is dead, and the greatest packet number taken; no more bunches
-- than `most_made` were made, and `lost` says that want of memory ended it
pub record Play : Type 0 where
  pub layout : Layout
  pub version : Version
  pub link : Link
  pub table : Channels
  pub names : List (ℕ × Learnt)
  pub copies : List ActorCopy
  pub dead : Bool
  pub top : ℕ
  pub most_made : ℕ
  pub lost : Bool

-- the client's end
abbrev pub end_of : Play → End
end_of c = end_as c.layout c.version

-- the client stands for the past: its copies and its greatest number always, the rest while it is
-- alive
pub record Plays (c : Play) (past : Past) : Type 0 where
  pub dead : c.dead ≡ has_ended past
  pub top : c.top ≡ top_of past
  pub copies : StandCopies c.layout c.copies past
  pub lives : has_ended past ≡ false
      → hearing.Lives c.layout c.version c.link c.table c.names c.copies past
  pub may : has_ended past ≡ false → MaySend c.version past
  pub count : c.table.made.count ≤ c.most_made
  pub kept : c.lost ≡ false

-- want of memory ended the client: each later call says that it is dead
abbrev pub IsLost : Play → Type 0
IsLost c = c.lost ≡ true

-- it may be asked: it is lost, or stands for some past
abbrev pub IsReady : Play → Type 0
IsReady c = IsLost c ⊎ ((past : Past) × Plays c past)

-- the calls that a datagram hands over, with what is to be done with each
abbrev pub handovers_in : End → Past → List ℕ → List Handover
handovers_in end past bytes = hearing.handovers_in end past bytes

-- the verdict tells that the end died of the datagram
abbrev pub closes : Verdict → Bool
closes (Closed cause) = true
closes verdict = false
