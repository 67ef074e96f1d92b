use Rattle.std.proofs.Common.{◌∙◌, ◌+◌, ◌%◌, ℕ, List, Bool, ap, sym}
use Rattle.protocol_model.specs.Packet.{start_bits}
use Rattle.bit_io.specs.HeadOf.{head_of}
use Rattle.link_end.specs.Link.{Begun}
use Rattle.link_end.proofs.Begins.{start_is, owed_one, owed_few, start_small, first_owed}
use Rattle.link_end.proofs.begin.first_packets.Goals as goal

pub put_owed-requires-clause-few : goal.put_owed-requires-clause-few
put_owed-requires-clause-few c = let r = c.requires in owed_few c.args.book.now r.0 r.1 r.2

pub put_owed-requires-clause-room : goal.put_owed-requires-clause-room
put_owed-requires-clause-room c =
    let r = c.requires in
    let start : List Bool =
    start_bits c.version.result ((c.last_sent-3.result + 1) % 16384) (head_of c.head.result) in (
      start,
      ap (λ (b : Begun). b.current) c.in_ok-begin.ensures,
      start_small c.version.result ((c.last_sent-3.result + 1) % 16384) (head_of c.head.result)
          (c.version.ensures ∙ owed_one c.args.book.now r.0 r.1 c.in-Some.field-0 r.2 (sym c.in-Some.ensures.kept)),
    )

pub returns-clause-begun : goal.returns-clause-begun
returns-clause-begun c = λ v past h.
    first_owed v past c.put_owed.new.packets c.begin.new.self c.new-packets.result c.args.book.now
    c.last_sent-2.result c.in-Some.field-0
    (start_bits c.version.result ((c.last_sent-3.result + 1) % 16384) (head_of c.head.result)) h
    (sym c.in-Some.ensures.kept) (c.last_sent-2.ensures.number v past h)
    c.new-packets.ensures
    (start_is c.version.result v past (c.last_sent-3.result + 1) (head_of c.head.result) (c.version.ensures
    ∙ h.version)
    (ap (λ (n : ℕ). n + 1) (c.last_sent-3.ensures.number v past h)) (c.head.ensures.head v past h))
    c.in_ok-begin.ensures c.put_owed.ensures
