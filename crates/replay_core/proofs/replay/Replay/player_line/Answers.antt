use Rattle.std.proofs.Common.{◌≡◌, ◌==◌, List, Some, None, ap, sym, ◌∙◌, subst}
use Rattle.std.specs.Prelude.{slice_get, slice_set}
use Rattle.std.specs.List.{position}
use Rattle.std.proofs.lemmas.Option.{get_or_from_slice_get}
use Rattle.class_layout.specs.Tables.{table_in}
use Rattle.replication_model.specs.Story.{after_line}
use Rattle.script_lines.specs.LineOf.{line_of}
use Rattle.replay_places.specs.declared.place.Place.{Place}
use Rattle.replay_core.specs.Kept.{Kept}
use Rattle.replay_core.specs.Stands.{Stands}
use Rattle.replay_core.proofs.Whole.{is_at, is_none, is_there, line_done}
use Rattle.replay_core.proofs.replay.Replay.player_line.Goals as goal

pub returns-in_default-clause-told : goal.returns-in_default-clause-told
returns-in_default-clause-told c =
    let now = c.args.self.now in
    let s = c.requires.stands in
    let pos : position (λ (k : Place). k.player == c.args.player) now.places ≡ None = sym c.seat.ensures
    ∙ c.in_default.is in
    absurd (is_none now.layout c.args.player now.places s.0.players s.1.places s.2 pos)

pub returns-in_default-clause-stands : goal.returns-in_default-clause-stands
returns-in_default-clause-stands c =
    let now = c.args.self.now in
    let s = c.requires.stands in
    let pos : position (λ (k : Place). k.player == c.args.player) now.places ≡ None = sym c.seat.ensures
    ∙ c.in_default.is in
    absurd (is_none now.layout c.args.player now.places s.0.players s.1.places s.2 pos)

pub do_line-requires : goal.do_line-requires
do_line-requires c =
    let now = c.args.self.now in
    let s = c.requires.stands in
    let pos : position (λ (k : Place). k.player == c.args.player) now.places ≡ Some c.in-Some.i = sym c.seat.ensures
    ∙ c.in-Some.is in
    let at = is_at now.places c.args.player c.in-Some.i pos in
    let same : c.self.inside.places.items ≡ now.places = ap (λ (r : Kept). r.places) c.self.view_is in
    let driver : c.self.inside.driver ≡ now.driver = ap (λ (r : Kept). r.driver) c.self.view_is in
    let there : slice_get c.self.inside.places.items c.in-Some.i ≡ Some at.0 =
    ap (λ (l : List Place). slice_get l c.in-Some.i) same ∙ at.1 in
    let item = c.index_mut.ensures.value ∙ get_or_from_slice_get c.self.inside.places.items c.in-Some.i at.0 _ there in
    let who = is_there now.layout c.args.player c.in-Some.i now.places at.0 s.0.players s.1.places s.1.ascend at.1
    at.2 in
    record {
      there = (
        now.layout,
        s.0.edits,
        s.0.players,
        c.in-Some.i,
        who.0,
        rw driver s.1.serving,
        who.1,
        rw item
            who.2,
        s.3,
      );
    }

pub returns-clause-told : goal.returns-clause-told
returns-clause-told c =
    let now = c.args.self.now in
    let pos : position (λ (k : Place). k.player == c.args.player) now.places ≡ Some c.in-Some.i = sym c.seat.ensures
    ∙ c.in-Some.is in
    let at = is_at now.places c.args.player c.in-Some.i pos in
    let same : c.self.inside.places.items ≡ now.places = ap (λ (r : Kept). r.places) c.self.view_is in
    let driver : c.self.inside.driver ≡ now.driver = ap (λ (r : Kept). r.driver) c.self.view_is in
    let there : slice_get c.self.inside.places.items c.in-Some.i ≡ Some at.0 =
    ap (λ (l : List Place). slice_get l c.in-Some.i) same ∙ at.1 in
    let item = c.index_mut.ensures.value ∙ get_or_from_slice_get c.self.inside.places.items c.in-Some.i at.0 _ there in
    λ story s. (line_done now story (line_of c.args.line.now) c.args.player c.in-Some.i at.0 c.do_line.new.place
    c.do_line.new.driver _ _
    c.requires.whose s at.1 at.2 c.new-events.ensures (rw (driver, item) at c.in_ok-do_line.ensures now.layout)).1

pub returns-clause-stands : goal.returns-clause-stands
returns-clause-stands c =
    let now = c.args.self.now in
    let pos : position (λ (k : Place). k.player == c.args.player) now.places ≡ Some c.in-Some.i = sym c.seat.ensures
    ∙ c.in-Some.is in
    let at = is_at now.places c.args.player c.in-Some.i pos in
    let same : c.self.inside.places.items ≡ now.places = ap (λ (r : Kept). r.places) c.self.view_is in
    let driver : c.self.inside.driver ≡ now.driver = ap (λ (r : Kept). r.driver) c.self.view_is in
    let there : slice_get c.self.inside.places.items c.in-Some.i ≡ Some at.0 =
    ap (λ (l : List Place). slice_get l c.in-Some.i) same ∙ at.1 in
    let item = c.index_mut.ensures.value ∙ get_or_from_slice_get c.self.inside.places.items c.in-Some.i at.0 _ there in
    λ story s. subst (λ (r : Kept). Stands
    (record r { driver = c.do_line.new.driver; places = slice_set r.places c.in-Some.i c.do_line.new.place })
    (after_line (table_in now.layout) story (line_of c.args.line.now)).0) (sym c.self.view_is)
    (line_done now story (line_of c.args.line.now) c.args.player c.in-Some.i at.0 c.do_line.new.place
    c.do_line.new.driver _ _
    c.requires.whose s at.1 at.2 c.new-events.ensures (rw (driver, item) at c.in_ok-do_line.ensures now.layout)).0
