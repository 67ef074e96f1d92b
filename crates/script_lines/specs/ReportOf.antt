-- Which report of the definitions an event is.
use Rattle.std.specs.Prelude.{ℕ, List, [], map, unwrap_or, option_map, ℤ}
use Rattle.protocol_model.specs.Side.{Side, AtServer, AtClient}
use Rattle.protocol_model.specs.Value.{Table, Class, Prop, Call, prop_at, call_at}
use Rattle.protocol_model.specs.World.{class_at}
use Rattle.script_model.specs.Reports as reports
use Rattle.value_codec.specs.Values.{whole_of, arg_of}
use Rattle.value_codec.specs.declared.handed.Handed.{Handed}
use Rattle.value_codec.specs.declared.pair.Pair.{Pair}
use Rattle.script_lines.specs.declared.event.Delivery.{Delivery}
use Rattle.script_lines.specs.declared.event.Delivery.TheVariants as delivery
use Rattle.script_lines.specs.declared.event.Event.{Event}
use Rattle.script_lines.specs.declared.event.Event.TheVariants as event

-- the answer to a delivery
abbrev pub answer_of : Delivery → reports.Answer
answer_of (delivery.Says verdict) = reports.Says verdict
answer_of delivery.Absent = reports.Absent
answer_of delivery.Late = reports.Late

-- the name of a call; one that isn't there has none
abbrev pub call_name : Class → (number : ℕ) → List ℕ
call_name class n = unwrap_or (option_map (λ (c : Call). c.name) (call_at class n)) []

-- the name of a handle; one that isn't there has none
abbrev pub handle_name : Class → (handle : ℕ) → List ℕ
handle_name class h = unwrap_or (option_map (λ (p : Prop). p.name) (prop_at class h)) []

-- a call that was handed over
abbrev pub handed_report : Table → Side → (player : ℕ) → Handed → reports.Report
handed_report table side player h =
    reports.Handed side player h.actor (call_name (class_at table h.class) h.call) h.verdict (map arg_of h.args)

-- a value by its property's name
abbrev pub named_value : Class → Pair → List ℕ × ℤ
named_value class p = (handle_name class p.prop, whole_of p.value)

-- the event, by the classes that it names
abbrev pub report_of : Table → Event → reports.Report
report_of table (event.Joined player) = reports.Joined player
report_of table (event.Actor actor) = reports.Actor actor
report_of table (event.Sent player packet bytes) = reports.Sent AtServer player packet bytes
report_of table (event.ClientSent player packet bytes) = reports.Sent AtClient player packet bytes
report_of table (event.Stalled player) = reports.Stalled AtServer player
report_of table (event.ClientStalled player) = reports.Stalled AtClient player
report_of table (event.Handed player handed) = handed_report table AtServer player handed
report_of table (event.ClientHanded player handed) = handed_report table AtClient player handed
report_of table (event.Down player packet answer) = reports.Answered AtClient player packet (answer_of answer)
report_of table (event.Up player packet answer) = reports.Answered AtServer player packet (answer_of answer)
report_of table (event.Forged player verdict) = reports.Forged AtServer player verdict
report_of table (event.ClientForged player verdict) = reports.Forged AtClient player verdict
report_of table (event.Called player answer) = reports.Called AtServer player answer
report_of table (event.ClientCalled player answer) = reports.Called AtClient player answer
report_of table (event.Copies player count) = reports.Copies player count
report_of table (event.Copied player actor class channel values) =
    reports.Copy player actor (class_at table class).name channel (map (named_value (class_at table class)) values)
report_of table (event.Settled player actor holds) = reports.Settled player actor holds
