use Rattle.shadow_changes.proofs.Falling.{merges_to}
use Rattle.shadow_changes.proofs.noted.merged.Goals as goal

pub returns-clause-falling : goal.returns-clause-falling
returns-clause-falling c = λ count newest falls. (
  falls.0,
  (merges_to c.args.newer c.args.older c.into_vec-changes.result.items c.as_slice.result.now c.note_all.new.changes.items c.from_vec.result
      count newest c.into_vec-changes.ensures c.as_slice.ensures c.from_vec.ensures c.in_ok-note_all.ensures falls).listed,
  tt,
)

pub returns-clause-noted : goal.returns-clause-noted
returns-clause-noted c = λ count newest falls h.
    (merges_to c.args.newer c.args.older c.into_vec-changes.result.items c.as_slice.result.now c.note_all.new.changes.items c.from_vec.result
    count newest c.into_vec-changes.ensures c.as_slice.ensures c.from_vec.ensures c.in_ok-note_all.ensures falls).says h
