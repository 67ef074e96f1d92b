use Rattle.std.proofs.Common.{sym, ap, ◌∙◌}
use Rattle.actor_copies.specs.Kept.{copy_actor}
use Rattle.actor_copies.proofs.Steps.{put_with_room}
use Rattle.actor_copies.proofs.copies.CopyList.put.Goals as goal

pub invariant_of-self-2 : goal.invariant_of-self-2
invariant_of-self-2 c =
    (put_with_room c.self.inside.copies c.reserve.new.self c.insert_reserved.new.self c.self.inside.by_actor
    c.insert.new.self c.self.inside.by_channel.items c.make_place.new.keys.items c.set_holder.new.keys.items
    c.args.channel _ c.vacant_key-key.result c.insert_reserved.result c.reserve.new.self.capacity c.args.copy
    c.args.self.now c.self.invariant c.self.view_is c.requires.new c.requires.free c.requires.on
    c.requires.numbered (ap copy_actor c.copy.view_is) c.in_ok-make_place.ensures.same
    c.in_ok-reserve.ensures.rest_kept
    c.vacant_key-key.ensures.vacant (c.insert_reserved.ensures.key ∙ sym c.vacant_key-key.ensures.value)
    c.insert_reserved.ensures.updates c.insert.ensures.ordered c.in_ok-insert.ensures.updates.0
    c.set_holder.ensures).0

pub returns-clause-ok : goal.returns-clause-ok
returns-clause-ok c =
    (put_with_room c.self.inside.copies c.reserve.new.self c.insert_reserved.new.self c.self.inside.by_actor
    c.insert.new.self c.self.inside.by_channel.items c.make_place.new.keys.items c.set_holder.new.keys.items
    c.args.channel _ c.vacant_key-key.result c.insert_reserved.result c.reserve.new.self.capacity c.args.copy
    c.args.self.now c.self.invariant c.self.view_is c.requires.new c.requires.free c.requires.on
    c.requires.numbered (ap copy_actor c.copy.view_is) c.in_ok-make_place.ensures.same
    c.in_ok-reserve.ensures.rest_kept
    c.vacant_key-key.ensures.vacant (c.insert_reserved.ensures.key ∙ sym c.vacant_key-key.ensures.value)
    c.insert_reserved.ensures.updates c.insert.ensures.ordered c.in_ok-insert.ensures.updates.0
    c.set_holder.ensures).1
