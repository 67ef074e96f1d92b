-- Why an end stops, by what refused.
use Rattle.live_links.specs.declared.link.LinkRefusal.{LinkRefusal}
use Rattle.live_links.specs.declared.link.LinkRefusal.TheVariants as link
use Rattle.net_core.specs.declared.outside.sink.WriteRefusal.{WriteRefusal}
use Rattle.net_core.specs.declared.outside.sink.WriteRefusal.TheVariants as write
use Rattle.live_acts.specs.declared.performing.Stop.{Stop}
use Rattle.live_acts.specs.declared.performing.Stop.TheVariants as stop

-- a link's refusal
abbrev pub link_stop : LinkRefusal → Stop
link_stop link.Failed = stop.Link
link_stop link.Memory = stop.Memory

-- a sink's refusal
abbrev pub sink_stop : WriteRefusal → Stop
sink_stop write.Failed = stop.Sink
sink_stop write.Memory = stop.Memory
