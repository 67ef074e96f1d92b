use Rattle.std.proofs.Common.{inl, inr, is_err, sym, ap, ◌∙◌}
use Rattle.std.proofs.lemmas.Bool.{false≢true}
use Rattle.driver_tests.proofs.More.{serving}
use Rattle.driver_tests.proofs.playing.tick.Goals as goal

pub tick-requires : goal.tick-requires
tick-requires g c = record { stands = serving _ c.requires.playing.0 c.requires.playing.1 }

pub returns : goal.returns
returns g c = λ edits h. elim h [
  | inl spent ↦ absurd (false≢true (sym (ap is_err c.in_ok-told.was) ∙ c.tick.ensures.after spent))
  | inr r ↦ inr (_, c.in_ok-told.ensures.serves r.0 r.1, r.2)
]
