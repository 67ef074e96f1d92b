use Rattle.std.proofs.Common.{◌≤◌, ℕ, subst}
use Rattle.protocol_model.specs.Limits.{channels_one}
use Rattle.protocol_model.specs.Side.{AtServer}
use Rattle.sender_turns.proofs.FreeIndex.{free_is, unbound_free}
use Rattle.sender_turns.proofs.opening.free_channel.Goals as goal

pub returns-clause-index : goal.returns-clause-index
returns-clause-index c = λ s past samples h.
    free_is s c.args.table.now past samples h c.free_index-channel.result
    (c.free_index-channel.ensures.free AtServer past h.table)
    (λ ch some lt clear. c.free_index-channel.ensures.least AtServer past ch h.table some lt clear)

pub returns-clause-free : goal.returns-clause-free
returns-clause-free c = λ s past samples a h.
    unbound_free s c.args.table.now past samples h c.free_index-channel.result
    (c.free_index-channel.ensures.free AtServer past h.table).1 a

pub returns-clause-clear : goal.returns-clause-clear
returns-clause-clear c = λ side past h.
    let free = c.free_index-channel.ensures.free side past h in (free.0, free.2)

pub returns-then-channel-ge-CHANNELS-clause-err : goal.returns-then-channel-ge-CHANNELS-clause-err
returns-then-channel-ge-CHANNELS-clause-err c = λ s past samples h.
    subst (λ (x : ℕ). channels_one ≤ x)
    (free_is s c.args.table.now past samples h c.free_index-channel.result
    (c.free_index-channel.ensures.free AtServer past h.table)
    (λ ch some lt clear. c.free_index-channel.ensures.least AtServer past ch h.table some lt clear))
    c.if-channel-ge-CHANNELS.true
