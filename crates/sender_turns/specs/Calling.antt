-- The unreliable calls that wait for a tick.
use Rattle.std.specs.Prelude.{◌≡◌, ◌≤◌, ℕ, List, length, map, false, Option, Some, None, slice_get, if◌then◌else◌}
use Rattle.protocol_model.specs.Limits.{part_bits, waiting_limit}
use Rattle.protocol_model.specs.Side.{AtServer}
use Rattle.connection_model.specs.CallAnswers.{waiting_of}
use Rattle.connection_model.specs.Feed.{End, Past}
use Rattle.connection_model.specs.Pack.{Packing}
use Rattle.connection_model.specs.State.{is_opened}
use Rattle.link_end.specs.Link.{Link}
use Rattle.link_end.specs.Packs.{sent_now}
use Rattle.channel_table.specs.Channels.{Channels, WaitingCall}
use Rattle.channel_table.specs.Stands.{waiting_call}
use Rattle.bunch_packing.specs.Both.{PacksBoth}
use Rattle.sender_records.specs.declared.actor.ActorRecord.{ActorRecord}
use Rattle.sender_records.specs.declared.life.Life.{Life}
use Rattle.sender_records.specs.Life.{KeepsLife, state_value}
use Rattle.sender_steps.specs.Sender.{record_in}
use Rattle.sender_steps.specs.Stands.{AreLow}

-- the index, where the channel is opened
abbrev pub index_opened : Life → Option ℕ
index_opened l = if is_opened (state_value l.state) then l.index else None

-- the channel of each actor is right
abbrev pub AreLives : Past → List (ℕ × ActorRecord) → Type 0
AreLives past records = (a : ℕ) → KeepsLife past a (record_in records a).life

-- no more calls wait than may, each with a payload that has room in one bunch
pub record MayWait (waiting : List WaitingCall) : Type 0 where
  pub few : length waiting ≤ waiting_limit
  pub short : (i : ℕ) (call : WaitingCall) → slice_get waiting i ≡ Some call
      → length call.bits ≤ part_bits

-- in a tick that began after `before` and in which each item found room: link, channels and records
-- stand for what was done by now, as if the tick were to end now, and the calls wait that waited
-- before it
pub record IsCalling (records : List (ℕ × ActorRecord)) (l : Link) (t : Channels) (end : End)
    (before : Past) (p : Packing) : Type 0 where
  pub both : PacksBoth l t end AtServer before p
  pub is_ready : p.full ≡ false
  pub lives : AreLives (sent_now p) records
  pub low : AreLow (sent_now p)
  pub waiting : t.waiting ≡ map waiting_call (waiting_of before)
  pub may : MayWait t.waiting
