use Rattle.std.proofs.Common.{◌≡◌, inr, [], true, false, length, refl, ap, ◌∙◌, arith}
use Rattle.std.specs.Prelude.{nat_lt}
use Rattle.protocol_model.specs.Side.{AtClient}
use Rattle.protocol_model.specs.Payload.{Calls, part_count}
use Rattle.connection_model.specs.Feed.{Past}
use Rattle.connection_model.specs.Bunches.{room}
use Rattle.channel_table.specs.Keeps.{Keeps}
use Rattle.client_sending.proofs.Making.{more, no_more, call_made}
use Rattle.client_sending.proofs.room.push_call.Goals as goal

full : (c : goal.After-drop-payload-inside) (past : Past) → Keeps c.args.table.now AtClient past
    → nat_lt (room past c.args.channel) (part_count (length c.args.payload)) ≡ true
full c past h = more _ _ _ _ (c.room.ensures AtClient past h) (c.parts.ensures
    ∙ ap part_count c.len.ensures) c.if-parts-room.true

fits : (c : goal.In_ok-push) (past : Past) → Keeps c.args.table.now AtClient past
    → nat_lt (room past c.args.channel) (part_count (length c.args.payload)) ≡ false
fits c past h = no_more _ _ _ _ (c.room.ensures AtClient past h) (c.parts.ensures
    ∙ ap part_count c.len.ensures) c.if-parts-room.false

pub returns-then-parts-room-clause-answer : goal.returns-then-parts-room-clause-answer
returns-then-parts-room-clause-answer c = λ l end past h. rw (full c past h.table.bunches) refl

pub returns-then-parts-room-clause-stands : goal.returns-then-parts-room-clause-stands
returns-then-parts-room-clause-stands c = λ l end past actor number call args h low bits. rw
    (full c past h.table.bunches) h

pub push-requires-clause-room : goal.push-requires-clause-room
push-requires-clause-room c =
    let past : Past = c.requires.stands.2 in
    let h = c.requires.stands.3 in
    let r = c.room.ensures AtClient past h.table.bunches in
    let p : c.parts.result ≡ part_count (length c.args.payload) = c.parts.ensures ∙ ap part_count c.len.ensures in
    inr (AtClient, past, h.table.bunches, omega (arith, r, p, c.if-parts-room.false))

pub returns-clause-answer : goal.returns-clause-answer
returns-clause-answer c = λ l end past h. rw (fits c past h.table.bunches) refl

pub returns-clause-stands : goal.returns-clause-stands
returns-clause-stands c = λ l end past actor number call args h low bits.
    rw (fits c past h.table.bunches)
    (call_made l c.args.table.now c.push.new.self end past c.args.channel actor number call args h low
    (λ before n i r. c.made_is_unseen.ensures l end before c.args.channel n (Calls actor number call args) i r)
    (c.in_ok-push.ensures.keeps AtClient [] past (Calls actor number call args) h.table.bunches refl bits
    (refl, refl))
    c.in_ok-push.ensures.bound c.in_ok-push.ensures.waiting)
