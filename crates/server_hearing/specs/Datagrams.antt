-- Datagrams of a player.
use Rattle.std.specs.Prelude.{◌≡◌, ℕ, List, [], false, Option, Some, None, Result, Ok, IsErr}
use Rattle.protocol_model.specs.World.{Edits}
use Rattle.protocol_model.specs.Side.{AtServer}
use Rattle.protocol_model.specs.declared.Cause.{Cause}
use Rattle.protocol_model.specs.declared.Verdict.{Verdict}
use Rattle.protocol_model.specs.declared.Verdict.TheVariants.{Taken, Malformed, Old, Closed}
use Rattle.bit_io.specs.declared.Memory.{Memory}
use Rattle.connection_model.specs.Feed.{End, Past, has_ended}
use Rattle.class_layout.specs.Tables.{table_in}
use Rattle.value_codec.specs.declared.handed.Handed.{Handed}
use Rattle.world_table.specs.Kept.{Kept}
use Rattle.world_table.specs.Stands.{Stands as StandsWorld}
use Rattle.link_end.specs.Link.{Link}
use Rattle.link_end.specs.declared.arrival.TakeRefusal.{TakeRefusal}
use Rattle.link_end.specs.declared.arrival.TakeRefusal.TheVariants as refusal
use Rattle.hearing_laws.specs.Plain.{IsCalm}
use Rattle.channel_table.specs.Channels.{Channels}
use Rattle.shadow_changes.specs.Samples.{Samples}
use Rattle.sender_steps.specs.Sender.{Sender}
use Rattle.sender_steps.specs.Stands.{Stands}
use Rattle.server_hearing.specs.Calls.{AreSpawned}
use Rattle.server_hearing.specs.declared.datagrams.Heard.{Heard}

-- an end at the server is alive after this past, and all that it hears by is right
pub record MayHear (w : Kept) (s : Sender) (l : Link) (t : Channels) (end : End) (edits : Edits)
    (past : Past) (samples : Samples) : Type 0 where
  pub side : end.side ≡ AtServer
  pub alive : has_ended past ≡ false
  pub world : StandsWorld w edits
  pub opened : AreSpawned (table_in w.layout) edits past
  pub stands : Stands s l t end past samples
  pub calm : IsCalm past

-- a datagram that hands nothing over
abbrev pub unheard : Verdict → Heard
unheard verdict = record { outcome = record { handed = []; verdict = verdict }; closed = None }

-- what is answered of a datagram that isn't taken
abbrev pub IsRefused : TakeRefusal → Result Heard Memory → Type 0
IsRefused (refusal.Malformed at why) result = result ≡ Ok (unheard (Malformed at why))
IsRefused (refusal.Old number last) result = result ≡ Ok (unheard (Old number last))
IsRefused refusal.Memory result = IsErr result

-- what is answered of a packet: the cause closes the end
abbrev pub heard_as : (number : ℕ) → List Handed → Option Cause → Heard
heard_as number handed None =
    record { outcome = record { handed = handed; verdict = Taken number }; closed = None }
heard_as number handed (Some cause) =
    record { outcome = record { handed = handed; verdict = Closed cause }; closed = Some number }
