use Rattle.std.proofs.Common.{◌++◌, ◌∙◌, ap, sym, arith, string_bytes, ◌+◌, drop}
use Rattle.std.specs.Option.{option_copied}
use Rattle.table_text.proofs.Lines.{one_line_more, no_line_more, all_lines, lines_of, lines_are}
use Rattle.table_text.proofs.check.put_classes.Goals as goal
use Rattle.table_text.proofs.check.put_classes.Goals.{in-Some+in_ok-put_class, in_default}

pub loop-place-preserved : goal.loop-place-preserved
loop-place-preserved c =
    let classes = c.args.classes.now in
    let place = c.loop-place.place in
    elim c.match-class.branch [
      | in-Some+in_ok-put_class w ↦
          one_line_more classes.segments classes.classes place w.in-Some.class.now
          (string_bytes c.loop-place.text) (string_bytes c.match-class.text) _
          (sym c.class.ensures ∙ ap (λ o. option_copied o) w.in-Some.is)
          (ap (λ t. string_bytes t) w.text-is ∙ w.in_ok-put_class.ensures classes.segments) c.loop-place.invariant
      | in_default w ↦
          ap (λ t. string_bytes t ++ lines_of classes.segments (drop (place + 1) classes.classes)) w.text-is
          ∙ ap (λ ls. string_bytes c.loop-place.text ++ ls)
          (no_line_more classes.segments classes.classes place (sym c.class.ensures ∙ ap (λ o. option_copied o) w.in_default.is))
          ∙ c.loop-place.invariant
    ]

pub returns : goal.returns
returns c =
    let classes = c.args.classes.now in
    all_lines classes.segments classes.classes c.loop-place.place (string_bytes c.loop-place.text) _
    (omega (arith, c.loop-place-test.false, c.count-place-end.ensures)) c.loop-place.invariant
    ∙ ap (λ ls. string_bytes c.args.text.now ++ ls) (lines_are classes.segments classes.classes)
