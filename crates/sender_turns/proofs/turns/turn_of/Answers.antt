use Rattle.std.proofs.Common.{rules, arith, ◌≡◌, ◌∙◌, ap, sym, subst}
use Rattle.std.specs.List.{slice_get}
use Rattle.std.proofs.lemmas.Grind.{common_steps}
use Rattle.sender_records.specs.declared.actor.ActorRecord.{ActorRecord}
use Rattle.sender_records.specs.Handles.{handle_in}
use Rattle.sender_steps.specs.declared.sight.Seen.{Seen}
use Rattle.sender_steps.specs.Sender.{record_in}
use Rattle.sender_turns.specs.Turning.{IsReady, HasTurned}
use Rattle.sender_steps.proofs.Tables.{class_there}
use Rattle.sender_turns.proofs.turns.turn_of.Goals as goal

pub returns-clause-turn : goal.returns-clause-turn
returns-clause-turn c = λ past samples ready.
    let old_is : record_in c.args.records.now.entries c.args.seen.now.actor ≡ c.in-Some-get_mut.record.now =
    first_of (search rules, grind (arith, common_steps)) in
    let new_is : record_in (c.get_mut.follows.lender c.own_turn.new.kept).entries c.args.seen.now.actor
    ≡ c.own_turn.new.kept = first_of (search rules, grind (arith, common_steps)) in
    subst (λ (r : ActorRecord). HasTurned c.args.classes.now past samples c.args.place c.args.seen.now r
    c.in_ok-turn.turn) (sym new_is)
    (c.in_ok-turn.ensures.turn c.args.classes.now past samples
    (class_there c.args.classes.now c.args.seen.now.class c.in-Some.class.now
    (sym (ap (λ (s : Seen). slice_get c.args.classes.now.classes s.class) c.seen.view_is) ∙ sym c.in-Some.ensures))
    (sym (ap (λ (s : Seen). s.relevant) c.seen.view_is) ∙ c.if-not-seen.false)
    (subst (IsReady c.args.classes.now c.args.changes.now past samples c.args.tick c.args.seen.now) old_is ready))

pub returns-clause-packets : goal.returns-clause-packets
returns-clause-packets c = λ past samples ready h.
    let old_is : record_in c.args.records.now.entries c.args.seen.now.actor ≡ c.in-Some-get_mut.record.now =
    first_of (search rules, grind (arith, common_steps)) in
    let new_is : record_in (c.get_mut.follows.lender c.own_turn.new.kept).entries c.args.seen.now.actor
    ≡ c.own_turn.new.kept = first_of (search rules, grind (arith, common_steps)) in
    ap (λ (r : ActorRecord). (handle_in r.handles.handles h).packet) new_is
    ∙ c.in_ok-turn.ensures.packets c.args.classes.now past samples
    (sym (ap (λ (s : Seen). s.relevant) c.seen.view_is) ∙ c.if-not-seen.false)
    (subst (IsReady c.args.classes.now c.args.changes.now past samples c.args.tick c.args.seen.now) old_is ready) h
    ∙ sym (ap (λ (r : ActorRecord). (handle_in r.handles.handles h).packet) old_is)
