-- Calls that are handed over, as ends tell them and as the story reports them.
use Rattle.std.proofs.Common.{◌≡◌, ℕ, List, [], ◌∷◌, ◌++◌, map, filter_map, length, Bool, Option, Some, None, option_map, unwrap_or, refl, ap, sym, ◌∙◌, subst, append_assoc, append-nil, arith}
use Rattle.std.proofs.lemmas.List.{map-append}
use Rattle.std.specs.List.{cons_option}
use Rattle.protocol_model.specs.Side.{Side, AtServer, AtClient}
use Rattle.protocol_model.specs.Value.{Table, Call, call_at}
use Rattle.protocol_model.specs.World.{Edits, class_at}
use Rattle.protocol_model.specs.Payload.{Message, Opens, Closes, Updates, Calls, Gone}
use Rattle.connection_model.specs.Feed.{Delivered}
use Rattle.connection_model.specs.PayloadReading.{no_call}
use Rattle.connection_model.specs.Handed.{server_verdict, client_verdict}
use Rattle.replication_model.specs.Story.{call_report}
use Rattle.script_model.specs.Reports.{Report}
use Rattle.class_layout.specs.Tables.{Layout, table_in}
use Rattle.value_codec.specs.declared.handed.Handed.{Handed}
use Rattle.handovers.specs.Handovers.{Handover, handover_in, handovers, handover_of}
use Rattle.script_lines.specs.declared.event.Event.{Event}
use Rattle.script_lines.specs.declared.event.Event.TheVariants as event
use Rattle.script_lines.specs.ReportOf.{report_of, handed_report}
use Rattle.replay_places.specs.Doing.{Adds, handover_report, handover_reports}

-- ---- a payload's report is that of the call that it hands over

server_payload : (edits : Edits) (player channel : ℕ) (reliable held : Bool) (m : Message)
    → call_report edits AtServer player (record { channel = channel; reliable = reliable; held = held; message = m })
    ≡ option_map (handover_report AtServer player)
    (handover_in (server_verdict edits player)
    (record { channel = channel; reliable = reliable; held = held; message = m }))
server_payload edits player channel reliable held (Opens exports actor class values) = refl
server_payload edits player channel reliable held (Closes actor sleeps) = refl
server_payload edits player channel reliable held (Updates actor class values) = refl
server_payload edits player channel reliable held (Calls actor number call args) = refl
server_payload edits player channel reliable held (Gone actor) = refl

client_payload : (edits : Edits) (player channel : ℕ) (reliable held : Bool) (m : Message)
    → call_report edits AtClient player (record { channel = channel; reliable = reliable; held = held; message = m })
    ≡ option_map (handover_report AtClient player)
    (handover_in (λ actor held. client_verdict held)
    (record { channel = channel; reliable = reliable; held = held; message = m }))
client_payload edits player channel reliable held (Opens exports actor class values) = refl
client_payload edits player channel reliable held (Closes actor sleeps) = refl
client_payload edits player channel reliable held (Updates actor class values) = refl
client_payload edits player channel reliable held (Calls actor number call args) = refl
client_payload edits player channel reliable held (Gone actor) = refl

one_more : (side : Side) (player : ℕ) (h : Option Handover) (r : Option Report) (rs : List Report) (hs : List Handover)
    → r ≡ option_map (handover_report side player) h → rs ≡ handover_reports side player hs
    → cons_option r rs ≡ handover_reports side player (cons_option h hs)
one_more side player None r rs hs e es = rw (e, es) refl
one_more side player (Some h) r rs hs e es = rw (e, es) refl

-- at the server, by the world as it is
pub server_reports : (edits : Edits) (player : ℕ) (ds : List Delivered)
    → handover_reports AtServer player (handovers (server_verdict edits player) ds)
    ≡ filter_map (call_report edits AtServer player) ds
server_reports edits player [] = refl
server_reports edits player (d ∷ ds) =
    sym (one_more AtServer player (handover_in (server_verdict edits player) d) _ _ _
    (server_payload edits player d.channel d.reliable d.held d.message) (sym (server_reports edits player ds)))

-- at a client
pub client_reports : (edits : Edits) (player : ℕ) (ds : List Delivered)
    → handover_reports AtClient player (handovers (λ actor held. client_verdict held) ds)
    ≡ filter_map (call_report edits AtClient player) ds
client_reports edits player [] = refl
client_reports edits player (d ∷ ds) =
    sym (one_more AtClient player (handover_in (λ actor held. client_verdict held) d) _ _ _
    (client_payload edits player d.channel d.reliable d.held d.message) (sym (client_reports edits player ds)))

-- ---- the program's calls

-- one that isn't there has no name
named : (c : Option Call) → unwrap_or (option_map (λ (c : Call). c.name) c) [] ≡ (unwrap_or c no_call).name
named None = refl
named (Some c) = refl

-- a call that is told is the one that is handed over
pub told_call : (layout : Layout) (side : Side) (player : ℕ) (h : Handed)
    → handed_report (table_in layout) side player h ≡ handover_report side player (handover_of layout h)
told_call layout side player h = rw (named (call_at (class_at (table_in layout) h.class) h.call)) refl

-- one event more
pub adds_one : (table : Table) (before mid after : List Event) (reports : List Report) (e : Event)
    → Adds table before mid reports
    → after ≡ mid ++ e ∷ [] → Adds table before after (reports ++ report_of table e ∷ [])
adds_one table before mid after reports e told pushed =
    ap (map (report_of table)) pushed ∙ map-append (report_of table) mid (e ∷ [])
    ∙ ap (λ (rs : List Report). rs ++ report_of table e ∷ []) told
    ∙ append_assoc (map (report_of table) before) reports (report_of table e ∷ [])

more : (layout : Layout) (side : Side) (player : ℕ) (hs : List Handed) (h : Handed) (before mid after : List Event)
    (e : Event)
    → report_of (table_in layout) e ≡ handover_report side player (handover_of layout h)
    → Adds (table_in layout) before mid (handover_reports side player (map (handover_of layout) hs))
    → after ≡ mid ++ e ∷ []
    → Adds (table_in layout) before after (handover_reports side player (map (handover_of layout) (hs ++ h ∷ [])))
more layout side player hs h before mid after e is told pushed =
    subst (Adds (table_in layout) before after)
    (ap (λ (r : Report). handover_reports side player (map (handover_of layout) hs) ++ r ∷ []) is
    ∙ sym (map-append (handover_report side player) (map (handover_of layout) hs) (handover_of layout h ∷ []))
    ∙ ap (handover_reports side player) (sym (map-append (handover_of layout) hs (h ∷ []))))
    (adds_one (table_in layout) before mid after _ e told pushed)

-- one call more
pub client_more : (layout : Layout) (player : ℕ) (hs : List Handed) (h : Handed) (before mid after : List Event)
    → Adds (table_in layout) before mid (handover_reports AtClient player (map (handover_of layout) hs))
    → after ≡ mid ++ event.ClientHanded player h ∷ []
    → Adds (table_in layout) before after (handover_reports AtClient player (map (handover_of layout) (hs ++ h ∷ [])))
client_more layout player hs h before mid after told pushed =
    more layout AtClient player hs h before mid after (event.ClientHanded player h) (told_call layout AtClient player h)
    told pushed

pub server_more : (layout : Layout) (player : ℕ) (hs : List Handed) (h : Handed) (before mid after : List Event)
    → Adds (table_in layout) before mid (handover_reports AtServer player (map (handover_of layout) hs))
    → after ≡ mid ++ event.Handed player h ∷ []
    → Adds (table_in layout) before after (handover_reports AtServer player (map (handover_of layout) (hs ++ h ∷ [])))
server_more layout player hs h before mid after told pushed =
    more layout AtServer player hs h before mid after (event.Handed player h) (told_call layout AtServer player h) told
    pushed

-- where none is left, all were told
pub all_told : (told left calls : List Handed) → length left ≡ 0 → told ++ left ≡ calls → told ≡ calls
all_told told [] calls none all = sym (append-nil told) ∙ all
all_told told (x ∷ left) calls none all = absurd (omega arith)
