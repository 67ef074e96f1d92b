use Rattle.bit_io.specs.Lent.{bits_left}
use Rattle.server_hearing.specs.Calls.{call_payload, opened_call_at, player_call_at}
use Rattle.server_hearing.proofs.Judging.{bit_read, follows_on}
use Rattle.server_hearing.proofs.calls.player_call.Goals as goal

pub returns : goal.returns
returns c = λ edits past samples k.
    follows_on (call_payload c.args.world.now.layout) (opened_call_at past c.args.reliable)
    (player_call_at past c.args.channel c.args.reliable) c.args.reader.now c.first_bit.new.reader
    c.opened_call.new.reader c.opened_call.result
    (bit_read past c.args.channel c.args.reliable (bits_left c.args.reader.now) (bits_left c.first_bit.new.reader)
    c.in_ok-first_bit.field-0 c.in_ok-first_bit.ensures)
    (c.opened_call.ensures edits past samples k)
