use Rattle.std.proofs.Common.{◌∙◌, ◌∷◌, ◌%◌, ℕ, List, Bool, IsTrue, ap, subst, sym}
use Rattle.connection_model.specs.Feed.{Sent}
use Rattle.ack_book.specs.Keeps.{Keeps}
use Rattle.bit_io.specs.HeadOf.{head_of}
use Rattle.link_end.specs.Begun.{with_packet}
use Rattle.protocol_model.specs.Packet.{is_head}
use Rattle.protocol_model.specs.declared.Version.{Version}
use Rattle.link_end.proofs.Begins.{start_is}
use Rattle.link_end.proofs.PacketSteps.{start_room}
use Rattle.link_end.proofs.begin.begin_packet.Goals as goal

pub returns-clause-bits : goal.returns-clause-bits
returns-clause-bits c = λ v past h.
    c.in_ok-begin.ensures
    ∙ ap (λ (bits : List Bool). with_packet bits c.args.packets.now)
    (start_is c.version-version.result v past c.sent-number.result (head_of c.head-head.result)
    (c.version-version.ensures ∙ h.version)
    (c.sent-number.ensures.number v past h) (c.head-head.ensures.head v past h))

pub returns-clause-book : goal.returns-clause-book
returns-clause-book c = λ v past t items h.
    let P : ℕ → Type 0 = λ n. Keeps c.sent-number.new.self v (Sent n t items ∷ past) in
    subst P (c.sent-number.ensures.number v past h) (c.sent-number.ensures.keeps v past t items h)

pub returns-clause-room : goal.returns-clause-room
returns-clause-room c =
    let P : Version → Type 0 = λ v. IsTrue (is_head v (head_of c.head-head.result)) in
    start_room c.begin.new.self c.args.packets.now c.version-version.result (c.sent-number.result % 16384)
    (head_of c.head-head.result)
    c.in_ok-begin.ensures (subst P (sym c.version-version.ensures) c.head-head.ensures.spelled)
