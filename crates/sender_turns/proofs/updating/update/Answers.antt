use Rattle.std.proofs.Common.{rules, arith, ◌≡◌, ℕ, List, sym, subst, Some}
use Rattle.std.proofs.lemmas.Grind.{common_steps}
use Rattle.connection_model.specs.Carry.{due_pairs}
use Rattle.connection_model.specs.Pack.{after_update}
use Rattle.link_end.specs.Packs.{sent_now}
use Rattle.sender_records.specs.declared.actor.ActorRecord.{ActorRecord}
use Rattle.sender_records.specs.Actors.{KeepsActor}
use Rattle.sender_steps.specs.declared.sent.UpdateSent.{UpdateSent}
use Rattle.sender_steps.specs.Sender.{record_in}
use Rattle.sender_steps.specs.Sights.{seen_value}
use Rattle.sender_turns.specs.Updating.{IsUpdating, AreNoted, note_of}
use Rattle.sender_turns.proofs.updating.update.Goals as goal

pub returns-clause-room : goal.returns-clause-room
returns-clause-room c = λ t end before now p ch samples h.
    let old_is : record_in c.args.records.now.entries c.args.seen.now.actor ≡ c.in-Some.record.now =
    first_of (search rules, grind (arith, common_steps)) in
    c.in_ok-kept.ensures.room t end before now p ch samples
    (subst (λ (r : ActorRecord). IsUpdating c.args.classes.now c.args.seen.now r c.args.link.now t end before now p
    ch samples c.args.tick) old_is h)

pub returns-clause-packs : goal.returns-clause-packs
returns-clause-packs c = λ t end before now p ch samples h.
    let old_is : record_in c.args.records.now.entries c.args.seen.now.actor ≡ c.in-Some.record.now =
    first_of (search rules, grind (arith, common_steps)) in
    c.in_ok-kept.ensures.packs t end before now p ch samples
    (subst (λ (r : ActorRecord). IsUpdating c.args.classes.now c.args.seen.now r c.args.link.now t end before now p
    ch samples c.args.tick) old_is h)

pub returns-clause-keeps : goal.returns-clause-keeps
returns-clause-keeps c = λ t end before now p ch samples h.
    let old_is : record_in c.args.records.now.entries c.args.seen.now.actor ≡ c.in-Some.record.now =
    first_of (search rules, grind (arith, common_steps)) in
    let new_is : record_in (c.get_mut.follows.lender c.update_one.new.kept).entries c.args.seen.now.actor
    ≡ c.update_one.new.kept = first_of (search rules, grind (arith, common_steps)) in
    subst (λ (r : ActorRecord). KeepsActor (sent_now (after_update end p (seen_value c.args.classes.now
    c.args.seen.now) (Some ch) (due_pairs now (seen_value c.args.classes.now c.args.seen.now)))) samples
    c.args.seen.now.actor r) (sym new_is)
    (c.in_ok-kept.ensures.keeps t end before now p ch samples
    (subst (λ (r : ActorRecord). IsUpdating c.args.classes.now c.args.seen.now r c.args.link.now t end before now p
    ch samples c.args.tick) old_is h))

pub returns-clause-notes : goal.returns-clause-notes
returns-clause-notes c = λ t end before now p ch samples h.
    let old_is : record_in c.args.records.now.entries c.args.seen.now.actor ≡ c.in-Some.record.now =
    first_of (search rules, grind (arith, common_steps)) in
    c.in_ok-kept.ensures.notes t end before now p ch samples
    (subst (λ (r : ActorRecord). IsUpdating c.args.classes.now c.args.seen.now r c.args.link.now t end before now p
    ch samples c.args.tick) old_is h)

pub returns-clause-packets : goal.returns-clause-packets
returns-clause-packets c = λ t end before now p ch samples h.
    let old_is : record_in c.args.records.now.entries c.args.seen.now.actor ≡ c.in-Some.record.now =
    first_of (search rules, grind (arith, common_steps)) in
    let new_is : record_in (c.get_mut.follows.lender c.update_one.new.kept).entries c.args.seen.now.actor
    ≡ c.update_one.new.kept = first_of (search rules, grind (arith, common_steps)) in
    let a : ℕ = c.args.seen.now.actor in
    let notes : List UpdateSent = note_of a (after_update end p (seen_value c.args.classes.now c.args.seen.now)
    (Some ch)
    (due_pairs now (seen_value c.args.classes.now c.args.seen.now))) in
    subst (λ (r : ActorRecord). AreNoted a notes (record_in c.args.records.now.entries c.args.seen.now.actor).handles
    r.handles)
    (sym new_is) (subst (λ (r : ActorRecord). AreNoted a notes r.handles c.update_one.new.kept.handles) (sym old_is)
    (c.in_ok-kept.ensures.packets t end before now p ch samples
    (subst (λ (r : ActorRecord). IsUpdating c.args.classes.now c.args.seen.now r c.args.link.now t end before now p
    ch samples c.args.tick) old_is h)))
