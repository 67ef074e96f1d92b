use Rattle.std.proofs.Common.{◌≡◌, ◌-◌, ℕ, length, arith, Option, Some, None, Err, refl, sym, ap, ◌∙◌, subst}
use Rattle.protocol_model.specs.declared.Cause.{Cause}
use Rattle.protocol_model.specs.declared.Cause.TheVariants.{BadPayload}
use Rattle.server_hearing.specs.Calls.{IsJudged}
use Rattle.server_hearing.proofs.Judging.{Breaks, call_handed, call_broken}
use Rattle.payload_reading.specs.declared.stop.Stop.{Stop}
use Rattle.server_hearing.proofs.bunches.hear_payload.Goals as goal

pub returns-in_ok-push-in-Ok : goal.returns-in_ok-push-in-Ok
returns-in_ok-push-in-Ok c = λ end edits past samples raw l is plain.
    call_handed end c.args.world.now.layout edits c.args.player past raw c.args.message.now c.in-Ok.call
    c.args.handed.now c.push.new.self l.side is plain (c.in-Ok.ensures edits past samples l.knows l.bound)
    c.in_ok-push-in-Ok.ensures.ok

pub returns-in-Err-Short : goal.returns-in-Err-Short
returns-in-Err-Short c = λ end edits past samples raw l is plain.
    call_broken end c.args.world.now.layout edits c.args.player past raw c.args.message.now c.in-Err-Short.field-0
    c.bad_payload.result c.args.handed.now l.side is (c.in-Err-Short.ensures edits past samples l.knows l.bound)
    (subst (λ (s : Stop). Breaks c.args.message.now s c.bad_payload.result) (sym c.in-Err-Short.field-0-is)
    (sym (c.bad_payload.ensures ∙ ap (λ (n : ℕ). BadPayload c.args.message.now.channel n)
    (let z : length c.args.message.now.bits - 0 ≡ length c.args.message.now.bits = omega arith in z))))

pub returns-in-Err-Broken-default-None : goal.returns-in-Err-Broken-default-None
returns-in-Err-Broken-default-None c = λ end edits past samples raw l is plain.
    call_broken end c.args.world.now.layout edits c.args.player past raw c.args.message.now
    c.in-Err-Broken-default-None.field-0 c.bad_payload-in-Err-Broken-default-None.result c.args.handed.now l.side is
    (c.in-Err-Broken-default-None.ensures edits past samples l.knows l.bound)
    (subst (λ (s : Stop). Breaks c.args.message.now s c.bad_payload-in-Err-Broken-default-None.result)
    (sym (c.in-Err-Broken-default-None.field-0-is
    ∙ ap (λ (why : Option Cause). Stop.Broken c.in-Err-Broken-default-None.left why)
    c.in-Err-Broken-default-None.field-0-1-is))
    (sym c.bad_payload-in-Err-Broken-default-None.ensures))

pub returns-in-Err-Broken-default-Some : goal.returns-in-Err-Broken-default-Some
returns-in-Err-Broken-default-Some c = λ end edits past samples raw l is plain.
    call_broken end c.args.world.now.layout edits c.args.player past raw c.args.message.now
    c.in-Err-Broken-default-Some.field-0 c.in-Err-Broken-default-Some.cause c.args.handed.now l.side is
    (c.in-Err-Broken-default-Some.ensures edits past samples l.knows l.bound)
    (subst (λ (s : Stop). Breaks c.args.message.now s c.in-Err-Broken-default-Some.cause)
    (sym (c.in-Err-Broken-default-Some.field-0-is
    ∙ ap (λ (why : Option Cause). Stop.Broken c.in-Err-Broken-default-Some.field-0-0 why)
    c.in-Err-Broken-default-Some.field-0-1-is)) refl)
