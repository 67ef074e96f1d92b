use Rattle.std.proofs.Common.{map, string_bytes}
use Rattle.unet.specs.Words.{command_in}
use Rattle.unet.proofs.Answered.{by_outcome}
use Rattle.unet.proofs.Kept.{holds_throughout, serves_throughout}
use Rattle.unet.proofs.Ran.{run_refused, told_end, transcribed}
use Rattle.unet.proofs.run.run.Goals as goal

pub returns-in-Some-clause-outcome : goal.returns-in-Some-clause-outcome
returns-in-Some-clause-outcome g c = λ folder told.
    rw c.status_of.ensures
    (told_end folder _ (command_in c.in-Some.command) (map string_bytes c.args.words.now) c.do_command.result _ _ _ _ told
    c.in-Some.ensures c.do_command.ensures.runs)

pub returns-in-Some-clause-status : goal.returns-in-Some-clause-status
returns-in-Some-clause-status g c = λ folder told.
    rw c.status_of.ensures
    (by_outcome _ _ _ _
    (told_end folder _ (command_in c.in-Some.command) (map string_bytes c.args.words.now) c.do_command.result _ _ _ _ told
    c.in-Some.ensures c.do_command.ensures.runs))

pub returns-in-Some-clause-transcript : goal.returns-in-Some-clause-transcript
returns-in-Some-clause-transcript g c = λ classes script is done folder told.
    transcribed folder (map string_bytes c.args.words.now) classes script _ _ _ is
    (told_end folder _ (command_in c.in-Some.command) (map string_bytes c.args.words.now) c.do_command.result _ _ _ _ told
    c.in-Some.ensures c.do_command.ensures.runs) (rw c.status_of.ensures at done)

pub returns-in-Some-clause-headline : goal.returns-in-Some-clause-headline
returns-in-Some-clause-headline g c = λ classes script is done folder told.
    holds_throughout folder classes script _ _
    (transcribed folder (map string_bytes c.args.words.now) classes script _ _ _ is
    (told_end folder _ (command_in c.in-Some.command) (map string_bytes c.args.words.now) c.do_command.result _ _ _ _ told
    c.in-Some.ensures c.do_command.ensures.runs) (rw c.status_of.ensures at done))

pub returns-in-Some-clause-isolation : goal.returns-in-Some-clause-isolation
returns-in-Some-clause-isolation g c = λ classes script is done folder told.
    serves_throughout folder classes script _ _
    (transcribed folder (map string_bytes c.args.words.now) classes script _ _ _ is
    (told_end folder _ (command_in c.in-Some.command) (map string_bytes c.args.words.now) c.do_command.result _ _ _ _ told
    c.in-Some.ensures c.do_command.ensures.runs) (rw c.status_of.ensures at done))

pub returns-in-None-clause-answered : goal.returns-in-None-clause-answered
returns-in-None-clause-answered g c =
    run_refused _ (map string_bytes c.args.words.now) c.refuse_words.result _ _ _ c.in-None.ensures c.refuse_words.ensures.ended
