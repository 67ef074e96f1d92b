-- The kinds of lines.
use Rattle.std.proofs.Common.{◌≡◌, ℕ, List, [], true, false, None, refl, sym}
use Rattle.std.proofs.lemmas.Option.{none-some}
use Rattle.protocol_model.specs.declared.Version.{Version}
use Rattle.protocol_model.specs.Value.{Table}
use Rattle.protocol_model.specs.World.{Edits}
use Rattle.replication_model.specs.Story.{Player}
use Rattle.value_codec.specs.declared.args.Arg.{Arg}
use Rattle.world_table.specs.declared.edit.Edit.{Edit}
use Rattle.script_lines.specs.LineOf.{line_of}
use Rattle.script_lines.specs.declared.line.Line.{Line}
use Rattle.script_lines.specs.declared.line.Line.TheVariants as said
use Rattle.replay_core.specs.Lines.{line_player, line_side, line_does, is_client_side}

-- a line of the client is one of these
pub client_only : (line : Line) → is_client_side (line_side (line_of line)) ≡ true
    → ((player : ℕ) → line ≡ said.ClientTick player → ⊥)
    → ((player packet : ℕ) → line ≡ said.Down player packet → ⊥)
    → ((player every : ℕ) → line ≡ said.DownNew player every → ⊥)
    → ((player actor call : ℕ) (args : List Arg) → line ≡ said.ClientCall player actor call args → ⊥)
    → ((player : ℕ) → line ≡ said.Dump player → ⊥)
    → ((player : ℕ) (bytes : List ℕ) → line ≡ said.ClientForge player bytes → ⊥)
    → ⊥
client_only (said.Join player budget version) e no_client_tick no_down no_down_new no_client_call no_dump
    no_client_forge = cc
client_only (said.Edit edit) e no_client_tick no_down no_down_new no_client_call no_dump no_client_forge = cc
client_only said.Tick e no_client_tick no_down no_down_new no_client_call no_dump no_client_forge = cc
client_only (said.ClientTick player) e no_client_tick no_down no_down_new no_client_call no_dump no_client_forge =
    no_client_tick player refl
client_only (said.Down player packet) e no_client_tick no_down no_down_new no_client_call no_dump no_client_forge =
    no_down player packet refl
client_only (said.Up player packet) e no_client_tick no_down no_down_new no_client_call no_dump no_client_forge = cc
client_only (said.DownNew player every) e no_client_tick no_down no_down_new no_client_call no_dump no_client_forge =
    no_down_new player every refl
client_only (said.UpNew player every) e no_client_tick no_down no_down_new no_client_call no_dump no_client_forge = cc
client_only (said.Call player actor call args) e no_client_tick no_down no_down_new no_client_call no_dump
    no_client_forge = cc
client_only (said.Multi actor call args) e no_client_tick no_down no_down_new no_client_call no_dump no_client_forge =
    cc
client_only (said.ClientCall player actor call args) e no_client_tick no_down no_down_new no_client_call no_dump
    no_client_forge = no_client_call player actor call args refl
client_only (said.Dump player) e no_client_tick no_down no_down_new no_client_call no_dump no_client_forge =
    no_dump player refl
client_only (said.Settled player actor) e no_client_tick no_down no_down_new no_client_call no_dump no_client_forge = cc
client_only (said.Forge player bytes) e no_client_tick no_down no_down_new no_client_call no_dump no_client_forge = cc
client_only (said.ClientForge player bytes) e no_client_tick no_down no_down_new no_client_call no_dump
    no_client_forge = no_client_forge player bytes refl

-- any other does nothing, unless the server does it
pub rest_is_still : (table : Table) (line : Line) (edits : Edits) (p : Player)
    → is_client_side (line_side (line_of line)) ≡ false
    → ((player packet : ℕ) → line ≡ said.Up player packet → ⊥)
    → ((player every : ℕ) → line ≡ said.UpNew player every → ⊥)
    → ((player actor call : ℕ) (args : List Arg) → line ≡ said.Call player actor call args → ⊥)
    → ((player actor : ℕ) → line ≡ said.Settled player actor → ⊥)
    → ((player : ℕ) (bytes : List ℕ) → line ≡ said.Forge player bytes → ⊥)
    → line_does table (line_of line) edits p ≡ (p, [])
rest_is_still table (said.Join player budget version) edits p e no_up no_up_new no_call no_settled no_forge = refl
rest_is_still table (said.Edit edit) edits p e no_up no_up_new no_call no_settled no_forge = refl
rest_is_still table said.Tick edits p e no_up no_up_new no_call no_settled no_forge = refl
rest_is_still table (said.ClientTick player) edits p e no_up no_up_new no_call no_settled no_forge = absurd (cc)
rest_is_still table (said.Down player packet) edits p e no_up no_up_new no_call no_settled no_forge = absurd (cc)
rest_is_still table (said.Up player packet) edits p e no_up no_up_new no_call no_settled no_forge =
    absurd (no_up player packet refl)
rest_is_still table (said.DownNew player every) edits p e no_up no_up_new no_call no_settled no_forge = absurd (cc)
rest_is_still table (said.UpNew player every) edits p e no_up no_up_new no_call no_settled no_forge =
    absurd (no_up_new player every refl)
rest_is_still table (said.Call player actor call args) edits p e no_up no_up_new no_call no_settled no_forge =
    absurd (no_call player actor call args refl)
rest_is_still table (said.Multi actor call args) edits p e no_up no_up_new no_call no_settled no_forge = refl
rest_is_still table (said.ClientCall player actor call args) edits p e no_up no_up_new no_call no_settled no_forge =
    absurd (cc)
rest_is_still table (said.Dump player) edits p e no_up no_up_new no_call no_settled no_forge = absurd (cc)
rest_is_still table (said.Settled player actor) edits p e no_up no_up_new no_call no_settled no_forge =
    absurd (no_settled player actor refl)
rest_is_still table (said.Forge player bytes) edits p e no_up no_up_new no_call no_settled no_forge =
    absurd (no_forge player bytes refl)
rest_is_still table (said.ClientForge player bytes) edits p e no_up no_up_new no_call no_settled no_forge = absurd (cc)

-- a line that is nobody's is a tick, if it is none of these
pub tick_only : (line : Line) → line_player (line_of line) ≡ None
    → ((player budget : ℕ) (version : Version) → line ≡ said.Join player budget version → ⊥)
    → ((edit : Edit) → line ≡ said.Edit edit → ⊥)
    → ((actor call : ℕ) (args : List Arg) → line ≡ said.Multi actor call args → ⊥)
    → line ≡ said.Tick
tick_only (said.Join player budget version) e no_join no_edit no_multi = absurd (no_join player budget version refl)
tick_only (said.Edit edit) e no_join no_edit no_multi = absurd (no_edit edit refl)
tick_only said.Tick e no_join no_edit no_multi = refl
tick_only (said.ClientTick player) e no_join no_edit no_multi = absurd (none-some player (sym e))
tick_only (said.Down player packet) e no_join no_edit no_multi = absurd (none-some player (sym e))
tick_only (said.Up player packet) e no_join no_edit no_multi = absurd (none-some player (sym e))
tick_only (said.DownNew player every) e no_join no_edit no_multi = absurd (none-some player (sym e))
tick_only (said.UpNew player every) e no_join no_edit no_multi = absurd (none-some player (sym e))
tick_only (said.Call player actor call args) e no_join no_edit no_multi = absurd (none-some player (sym e))
tick_only (said.Multi actor call args) e no_join no_edit no_multi = absurd (no_multi actor call args refl)
tick_only (said.ClientCall player actor call args) e no_join no_edit no_multi = absurd (none-some player (sym e))
tick_only (said.Dump player) e no_join no_edit no_multi = absurd (none-some player (sym e))
tick_only (said.Settled player actor) e no_join no_edit no_multi = absurd (none-some player (sym e))
tick_only (said.Forge player bytes) e no_join no_edit no_multi = absurd (none-some player (sym e))
tick_only (said.ClientForge player bytes) e no_join no_edit no_multi = absurd (none-some player (sym e))
