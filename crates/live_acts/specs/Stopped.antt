-- What counts of faults say of an end that stopped.
use Rattle.std.specs.Prelude.{◌≡◌, ℕ, Result, Ok, Err}
use Rattle.net_core.specs.Counts.{Rose}
use Rattle.live_acts.specs.declared.performing.Stop.{Stop}
use Rattle.live_acts.specs.declared.performing.Stop.TheVariants as stop

-- the link's count rose exactly where the link failed, and the sink's where the sink failed
abbrev pub StopCause : {T : Type 0} → (link link_now sink sink_now : ℕ) → Result T Stop → Type 0
StopCause link link_now sink sink_now (Ok x) = (link_now ≡ link) × (sink_now ≡ sink)
StopCause link link_now sink sink_now (Err stop.Link) = Rose link link_now × (sink_now ≡ sink)
StopCause link link_now sink sink_now (Err stop.Sink) = (link_now ≡ link) × Rose sink sink_now
StopCause link link_now sink sink_now (Err stop.Memory) = (link_now ≡ link) × (sink_now ≡ sink)
