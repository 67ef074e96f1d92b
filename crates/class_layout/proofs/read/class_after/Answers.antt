use Rattle.std.proofs.Common.{◌+◌, ◌*◌, ◌++◌, ◌∙◌, sym, ap, map, Ok}
use Rattle.std.proofs.lemmas.Result.{err_from_is_err_and}
use Rattle.serde_json.specs.View.{view}
use Rattle.table_model.specs.Rules.{segments_of, next_guid, path_under}
use Rattle.class_layout.specs.Tables.{entry_of}
use Rattle.class_members.specs.Members.{prop_of, call_of}
use Rattle.class_layout.specs.Headings.{heading_of}
use Rattle.class_layout.proofs.ClassSteps.{props_refused, calls_refused, sizes_refused, class_taken, sizes_told, short_path}
use Rattle.class_layout.proofs.read.class_after.Goals as goal

pub returns-in_err-props-clause-reads : goal.returns-in_err-props-clause-reads
returns-in_err-props-clause-reads c =
    let p = err_from_is_err_and c.from_residual.result c.from_residual.ensures.1 in
    rw (p.1, p.2)
    (props_refused c.args.class (map (entry_of c.args.segments.now) c.args.classes.now) (view c.args.element.now)
    (heading_of c.in-Ok.heading) c.in_err-props.field-0.0 c.in-Ok.ensures.gives
    (c.in_err-props.ensures.reads c.args.segments.now))

pub returns-in_err-calls-clause-reads : goal.returns-in_err-calls-clause-reads
returns-in_err-calls-clause-reads c =
    let p = err_from_is_err_and c.from_residual-in_err-calls.result c.from_residual-in_err-calls.ensures.1 in
    rw (p.1, p.2)
    (calls_refused c.args.class (map (entry_of c.args.segments.now) c.args.classes.now) (view c.args.element.now)
    (heading_of c.in-Ok.heading) (map prop_of c.in_ok-props.props) c.in_err-calls.field-0.0 c.in-Ok.ensures.gives
    (c.in_ok-props.ensures.reads c.args.segments.now) (c.in_err-calls.ensures c.args.segments.now))

pub add_path-requires-clause-short : goal.add_path-requires-clause-short
add_path-requires-clause-short c =
    rw c.as_slice.ensures
    (short_path (map (entry_of c.args.segments.now) c.args.classes.now) (view c.args.element.now)
    (heading_of c.in-Ok.heading) c.in-Ok.ensures.gives)

pub returns-then-not-sizes_fit-clause-reads : goal.returns-then-not-sizes_fit-clause-reads
returns-then-not-sizes_fit-clause-reads c =
    sizes_refused c.args.class (map (entry_of c.args.segments.now) c.args.classes.now) (view c.args.element.now)
    (heading_of c.in-Ok.heading) (map prop_of c.in_ok-props.props) (map call_of c.in_ok-calls.calls)
    c.in-Ok.ensures.gives (c.in_ok-props.ensures.reads c.args.segments.now) (c.in_ok-calls.ensures c.args.segments.now)
    (sizes_told (map (entry_of c.args.segments.now) c.args.classes.now) (heading_of c.in-Ok.heading) c.in_ok-props.props
    c.in_ok-calls.calls c.len.result c.len-2.result c.len-3.result c.sizes_fit.result c.len.ensures c.len-2.ensures
    (ap (λ ns. next_guid (segments_of (map (entry_of c.args.segments.now) c.args.classes.now)
    ++ path_under (segments_of (map (entry_of c.args.segments.now) c.args.classes.now)) 0 ns)) (sym c.as_slice.ensures)
    ∙ (c.in_ok-path.ensures.are (segments_of (map (entry_of c.args.segments.now) c.args.classes.now))
    c.requires.so_far.are).next
    ∙ ap (λ n. 2 * n + 3) (sym c.len-3.ensures))
    c.sizes_fit.ensures ∙ c.if-not-sizes_fit.true)

pub returns-clause-reads : goal.returns-clause-reads
returns-clause-reads c =
    class_taken c.args.class (map (entry_of c.args.segments.now) c.args.classes.now) (view c.args.element.now)
    (heading_of c.in-Ok.heading) (map prop_of c.in_ok-props.props) (map call_of c.in_ok-calls.calls)
    c.in-Ok.ensures.gives (c.in_ok-props.ensures.reads c.args.segments.now) (c.in_ok-calls.ensures c.args.segments.now)
    (sizes_told (map (entry_of c.args.segments.now) c.args.classes.now) (heading_of c.in-Ok.heading) c.in_ok-props.props
    c.in_ok-calls.calls c.len.result c.len-2.result c.len-3.result c.sizes_fit.result c.len.ensures c.len-2.ensures
    (ap (λ ns. next_guid (segments_of (map (entry_of c.args.segments.now) c.args.classes.now)
    ++ path_under (segments_of (map (entry_of c.args.segments.now) c.args.classes.now)) 0 ns)) (sym c.as_slice.ensures)
    ∙ (c.in_ok-path.ensures.are (segments_of (map (entry_of c.args.segments.now) c.args.classes.now))
    c.requires.so_far.are).next
    ∙ ap (λ n. 2 * n + 3) (sym c.len-3.ensures))
    c.sizes_fit.ensures ∙ c.if-not-sizes_fit.false)
    ∙ ap (λ path. Ok (record {
      parent = c.in-Ok.heading.parent;
      class = record {
        name = c.in-Ok.heading.name;
        path = path;
        reach = c.in-Ok.heading.reach;
        priority = c.in-Ok.heading.priority;
        props = map prop_of c.in_ok-props.props;
        calls = map call_of c.in_ok-calls.calls;
      };
    }))
    (sym ((c.in_ok-path.ensures.path (segments_of (map (entry_of c.args.segments.now) c.args.classes.now))
    c.requires.so_far.are)
    ∙ ap (path_under (segments_of (map (entry_of c.args.segments.now) c.args.classes.now)) 0) c.as_slice.ensures))
