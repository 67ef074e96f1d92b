-- Calls that wait.
use Rattle.bit_io.specs.Lent.{slice_bits}
use Rattle.channel_table.specs.Channels.{WaitingCall}
use Rattle.channel_table.specs.declared.calls.Waiting.{Waiting as WaitingValue}

-- a call as it waits
abbrev pub waiting_value : WaitingValue → WaitingCall
waiting_value w = record { actor = w.actor; call = w.call; bits = slice_bits w.bits }
