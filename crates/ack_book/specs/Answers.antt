-- What a book answers.
use Rattle.std.specs.Prelude.{ℕ, ℤ, pos, List, Bool, Result, Ok, Err, int_lt, unsigned_abs, if◌then◌else◌}
use Rattle.std.specs.List.{list_any}
use Rattle.protocol_model.specs.Limits.{packet_modulus}
use Rattle.protocol_model.specs.Bits.{near}
use Rattle.protocol_model.specs.Packet.{Head}
use Rattle.connection_model.specs.Feed.{Past, Told}
use Rattle.connection_model.specs.Fates.{high_of, last_sent, named_by}
use Rattle.ack_book.specs.declared.answer.Acked.{Acked}
use Rattle.ack_book.specs.declared.answer.Acked.TheVariants.{Ignored, Moved}
use Rattle.ack_book.specs.declared.answer.BadAck.{BadAck}

-- an acknowledgement's number: the one nearest to the greatest moved number
abbrev pub acked_near : Past → ℕ → ℤ
acked_near past n = near n (pos (high_of past)) packet_modulus

-- a number above the last one sent is bad, one that isn't above the greatest moved is ignored,
-- another moves
abbrev pub answer_to : Past → ℕ → Result Acked BadAck
answer_to past n =
    if int_lt (pos (last_sent past)) (acked_near past n)
    then Err (record { acked = acked_near past n; sent = last_sent past })
    else if int_lt (pos (high_of past)) (acked_near past n)
    then Ok (Moved (high_of past) (unsigned_abs (acked_near past n)))
    else Ok Ignored

-- the numbers that a head names, descending
abbrev pub named_in : Past → Head → List ℤ
named_in past head = named_by (Told head) (high_of past)

-- it names a number above the last one sent
abbrev pub names_unsent : Past → Head → Bool
names_unsent past head = list_any (λ n. int_lt (pos (last_sent past)) n) (named_in past head)
