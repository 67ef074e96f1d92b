use Rattle.std.proofs.Common.{inl, inr, arith}
use Rattle.driver_tests.proofs.More.{after_edit, more}
use Rattle.driver_tests.proofs.playing.takes_edit.Goals as goal

pub edit-requires : goal.edit-requires
edit-requires c = elim c.requires.playing [
  | inl spent ↦ inl spent
  | inr r ↦ inr (r.0, r.1, (let l = r.2 in omega (arith, l, c.requires.few)))
]

pub returns-in-Some : goal.returns-in-Some
returns-in-Some c =
    after_edit _ _ c.args.edits _ c.edit.result c.edit.ensures.serves c.edit.ensures.refused c.edit.ensures.spent
    c.edit.ensures.after c.requires.playing

pub returns-in-None : goal.returns-in-None
returns-in-None c = more _ c.args.edits _ (omega arith) c.requires.playing
