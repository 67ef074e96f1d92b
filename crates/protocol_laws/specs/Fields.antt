-- The fields of a bunch's header by themselves, and a bunch from one of them on.
use Rattle.std.specs.Prelude.{ℕ, ◌==◌, Bool, false, not, ◌&&◌, ◌||◌}
use Rattle.protocol_model.specs.Limits.{bunch_bits_limit, sequence_modulus}
use Rattle.protocol_model.specs.Reading.{Reading, ◌>>=◌, give, must, bit_at, bits_at, int_at}
use Rattle.protocol_model.specs.Packet.{Bunch, implies}
use Rattle.protocol_model.specs.PacketReading.{read_if, flag_at, why_unreliable, channel_at, part_of}
use Rattle.protocol_model.specs.declared.Version.{Version}
use Rattle.protocol_model.specs.declared.Why.{Why}
use Rattle.protocol_model.specs.declared.Why.TheVariants.{Control, Reserved, ExportsUnopened, PartialUnreliable, BadKind}

-- what a bunch's header says before its channel
pub record Opening : Type 0 where
  pub opens : Bool
  pub closes : Bool
  pub sleeps : Bool
  pub reliable : Bool

-- what it says from its channel up to its number
pub record Standing : Type 0 where
  pub channel : ℕ
  pub exports : Bool
  pub partial : Bool

-- closes: exactly one of it and opens, where there is control
abbrev pub closes_at : (control opens : Bool) → Reading Why Bool
closes_at control opens =
    read_if control (flag_at (λ closes. not (closes && opens) && (closes || opens)) Control) false

-- a reserved bit is 0
abbrev pub reserved_at : Reading Why Bool
reserved_at = flag_at not Reserved

-- reliable: 1 where there is control
abbrev pub reliable_at : (control opens : Bool) → Reading Why Bool
reliable_at control opens = flag_at (λ reliable. implies control reliable) (why_unreliable opens)

-- exports: 0 unless it opens
abbrev pub exports_at : Bool → Reading Why Bool
exports_at opens = flag_at (λ exports. implies exports opens) ExportsUnopened

-- partial: 0 unless it is reliable
abbrev pub partial_at : Bool → Reading Why Bool
partial_at reliable = flag_at (λ partial. implies partial reliable) PartialUnreliable

-- kind: 1 or 2, where it is reliable
abbrev pub kind_at : Bool → Reading Why ℕ
kind_at reliable = read_if reliable (must (int_at 8) (λ kind. kind == 1 || kind == 2) BadKind) 0

-- a bunch from its sequence number on
abbrev pub numbered_at : Opening → Standing → Reading Why Bunch
numbered_at opening standing = do
  seq ← read_if opening.reliable (int_at sequence_modulus) 0
  initial ← read_if standing.partial bit_at false
  final ← read_if standing.partial bit_at false
  kind ← kind_at opening.reliable
  size ← int_at bunch_bits_limit
  payload ← bits_at size
  give (record {
    opens = opening.opens;
    closes = opening.closes;
    sleeps = opening.sleeps;
    reliable = opening.reliable;
    channel = standing.channel;
    exports = standing.exports;
    part = part_of standing.partial initial final;
    seq = seq;
    kind = kind;
    payload = payload;
  })

-- a bunch from its channel on
abbrev pub on_channel_at : Version → Opening → Reading Why Bunch
on_channel_at version opening = do
  channel ← channel_at version
  exports ← exports_at opening.opens
  _ ← reserved_at
  partial ← partial_at opening.reliable
  numbered_at opening (record { channel = channel; exports = exports; partial = partial })
