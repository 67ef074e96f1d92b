use Rattle.std.proofs.Common.{Err, ap, ◌∙◌, arith}
use Rattle.std.proofs.lemmas.Bool.{false≢true}
use Rattle.driver_tests.proofs.More.{after_join, is_joined, serving}
use Rattle.driver_tests.proofs.playing.has_joined.Goals as goal

pub join-requires-clause-stands : goal.join-requires-clause-stands
join-requires-clause-stands c = serving _ c.args.edits c.requires.playing

pub returns-in-Err-Joined-clause-playing : goal.returns-in-Err-Joined-clause-playing
returns-in-Err-Joined-clause-playing c =
    after_join _ _ c.args.edits _ c.join.result c.join.ensures.serves c.join.ensures.refused c.join.ensures.spent
    c.join.ensures.after c.requires.playing

pub returns-in-Err-Joined-clause-joined : goal.returns-in-Err-Joined-clause-joined
returns-in-Err-Joined-clause-joined c = λ yes.
    is_joined _ _ c.args.edits c.args.player c.join.result (c.in-Err-Joined.is ∙ ap Err c.in-Err-Joined.field-0-is)
    (λ s h e. (c.join.ensures.joined s h).0 e) c.join.ensures.refused c.requires.playing

pub returns-in-Ok : goal.returns-in-Ok
returns-in-Ok c = record {
  playing = after_join _ _ c.args.edits _ c.join.result c.join.ensures.serves c.join.ensures.refused
      c.join.ensures.spent c.join.ensures.after c.requires.playing;
  joined = λ e. absurd (false≢true e);
}

pub returns-in-Ok-2-clause-playing : goal.returns-in-Ok-2-clause-playing
returns-in-Ok-2-clause-playing c =
    after_join _ _ c.args.edits _ c.join.result c.join.ensures.serves c.join.ensures.refused c.join.ensures.spent
    c.join.ensures.after c.requires.playing

pub returns-in-Ok-2-clause-joined : goal.returns-in-Ok-2-clause-joined
returns-in-Ok-2-clause-joined c = λ e. absurd (false≢true e)
