-- Lines that may follow one another in the definitions may be replayed, if they are told right.
use Rattle.std.proofs.Common.{◌≡◌, ℕ, suc, ◌+◌, ◌^◌, ◌<◌, ◌≤◌, List, [], ◌∷◌, map, length, Bool, true, false, not, Option, Some, None, option_map, unwrap_or, refl, ap, sym, ◌∙◌, arith}
use Rattle.std.specs.Bool.{then_some}
use Rattle.protocol_laws.proofs.Booleans.{left_of, right_of, both}
use Rattle.protocol_model.specs.Search.{or_else}
use Rattle.protocol_model.specs.Value.{Table, Call}
use Rattle.protocol_model.specs.World.{Edits, refusal_of, class_of}
use Rattle.protocol_model.specs.World as world
use Rattle.script_model.specs.ScriptRules.{Reads}
use Rattle.replication_model.specs.Story.{Story, first_story, after_line}
use Rattle.class_layout.specs.Tables.{Layout, table_in}
use Rattle.value_codec.specs.Values.{arg_of, args_are_of}
use Rattle.value_codec.specs.declared.args.Arg.{Arg}
use Rattle.world_table.specs.Answers.{edit_of, refusal_in}
use Rattle.world_table.specs.declared.edit.Edit.{Edit}
use Rattle.world_table.specs.Answers as table
use Rattle.net_driver.specs.Calls.{IsMade}
use Rattle.following_laws.specs.Following.{MayCall, Follows, FollowAll}
use Rattle.following_laws.proofs.ReadFollowing.{read_following}
use Rattle.script_lines.specs.declared.line.Line.{Line}
use Rattle.script_lines.specs.declared.line.Line.TheVariants as said
use Rattle.script_lines.specs.LineOf.{line_of}
use Rattle.script_lines.specs.ToldRight.{kinds_of, has_tags, is_told_right, edits_with, are_told_right}
use Rattle.replay_core.specs.May.{May, MayAll}

-- an edit that the definitions take and that is told right is taken
edit_taken : (t : Table) (edits : Edits) (e : Edit) → refusal_of t edits (edit_of e) ≡ None
    → table.is_told_right t edits e ≡ true
    → refusal_in t edits e ≡ None
edit_taken t edits e h told =
    by (refusal_of t edits (edit_of e)) (table.is_told_right t edits e) h told
  where
    by : (o : Option world.EditRefusal) (b : Bool) → o ≡ None → b ≡ true
        → or_else o (then_some (not b) world.OutOfRange) ≡ None
    by None true h k = refl
    by None false h k = absurd (cc)
    by (Some why) b h k = h

-- a call that the definitions may make and whose arguments have their kinds' tags is made
call_made : (t : Table) (edits : Edits) (actor number : ℕ) (args : List Arg)
    → MayCall t edits actor number (map arg_of args)
    → has_tags t edits actor number args ≡ true → IsMade t edits actor number args
call_made t edits actor number args may tags =
    let kinds : kinds_of (class_of t edits actor) number ≡ may.call.args =
    ap (λ (o : Option Call). unwrap_or (option_map (λ (c : Call). c.args) o) []) may.there in
    let tagged : args_are_of may.call.args args ≡ true = ap (λ ks. args_are_of ks args) (sym kinds) ∙ tags in
    record {
      spawned = may.spawned;
      call = may.call;
      there = may.there;
      way = may.way;
      fit = both _ _ tagged may.fit;
    }

-- a line that may follow in the definitions, and is told right, may be replayed
pub may_one : (layout : Layout) (story : Story) (line : Line) → Follows (table_in layout) story (line_of line)
    → is_told_right (table_in layout) story.edits line ≡ true → length story.edits < 2 ^ 61 → May layout story line
may_one layout story (said.Join player budget version) h told few = h
may_one layout story (said.Edit edit) h told few = (edit_taken (table_in layout) story.edits edit h told, few)
may_one layout story said.Tick h told few = tt
may_one layout story (said.ClientTick player) h told few = h
may_one layout story (said.Down player packet) h told few = h
may_one layout story (said.Up player packet) h told few = h
may_one layout story (said.DownNew player every) h told few = h
may_one layout story (said.UpNew player every) h told few = h
may_one layout story (said.Call player actor call args) h told few =
    (h.0, call_made (table_in layout) story.edits actor call args h.1 told)
may_one layout story (said.Multi actor call args) h told few =
    call_made (table_in layout) story.edits actor call args h told
may_one layout story (said.ClientCall player actor call args) h told few = h
may_one layout story (said.Dump player) h told few = h
may_one layout story (said.Settled player actor) h told few = h
may_one layout story (said.Forge player bytes) h told few = h
may_one layout story (said.ClientForge player bytes) h told few = h

-- the edits after a line, and one more at most
edits_after : (layout : Layout) (story : Story) (line : Line)
    → (edits_with story.edits line ≡ (after_line (table_in layout) story (line_of line)).0.edits)
    × (length (after_line (table_in layout) story (line_of line)).0.edits ≤ length story.edits + 1)
edits_after layout story (said.Join player budget version) = (refl, omega arith)
edits_after layout story (said.Edit edit) = (refl, omega arith)
edits_after layout story said.Tick = (refl, omega arith)
edits_after layout story (said.ClientTick player) = (refl, omega arith)
edits_after layout story (said.Down player packet) = (refl, omega arith)
edits_after layout story (said.Up player packet) = (refl, omega arith)
edits_after layout story (said.DownNew player every) = (refl, omega arith)
edits_after layout story (said.UpNew player every) = (refl, omega arith)
edits_after layout story (said.Call player actor call args) = (refl, omega arith)
edits_after layout story (said.Multi actor call args) = (refl, omega arith)
edits_after layout story (said.ClientCall player actor call args) = (refl, omega arith)
edits_after layout story (said.Dump player) = (refl, omega arith)
edits_after layout story (said.Settled player actor) = (refl, omega arith)
edits_after layout story (said.Forge player bytes) = (refl, omega arith)
edits_after layout story (said.ClientForge player bytes) = (refl, omega arith)

-- and all of them
may_from : (layout : Layout) (story : Story) (lines : List Line) → FollowAll (table_in layout) story (map line_of lines)
    → are_told_right (table_in layout) story.edits lines ≡ true → length story.edits + length lines < 2 ^ 61
    → MayAll layout story lines
may_from layout story [] h told few = tt
may_from layout story (line ∷ lines) h told few =
    let t = table_in layout in
    let after = edits_after layout story line in
    let first = left_of (is_told_right t story.edits line) (are_told_right t (edits_with story.edits line) lines)
    told in
    let rest = right_of (is_told_right t story.edits line) (are_told_right t (edits_with story.edits line) lines)
    told in
    let now : length story.edits < 2 ^ 61 = less (length story.edits) (length lines) few in
    let most = after.1 in (
      may_one layout story line h.0 first now,
      may_from layout (after_line t story (line_of line)).0 lines h.1
          (ap (λ (edits : Edits). are_told_right t edits lines) (sym after.0) ∙ rest)
          (later (length story.edits) (length (after_line t story (line_of line)).0.edits) (length lines) most few),
    )
  where
    less : (m n : ℕ) → m + suc n < 2 ^ 61 → m < 2 ^ 61
    less m n h = omega arith

    later : (m k n : ℕ) → k ≤ m + 1 → m + suc n < 2 ^ 61 → k + n < 2 ^ 61
    later m k n h f = omega arith

none_yet : (n : ℕ) → n < 2 ^ 61 → 0 + n < 2 ^ 61
none_yet n h = omega arith

-- the lines that a script reads
pub lines_may : (layout : Layout) (script : List ℕ) (lines : List Line)
    → Reads (table_in layout) false script (map line_of lines)
    → are_told_right (table_in layout) [] lines ≡ true → length lines < 2 ^ 61 → MayAll layout first_story lines
lines_may layout script lines h told few = may_from layout first_story lines
    (read_following (table_in layout) script (map line_of lines) h) told (none_yet (length lines) few)
