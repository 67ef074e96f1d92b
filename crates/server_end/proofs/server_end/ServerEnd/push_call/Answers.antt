use Rattle.std.proofs.Common.{◌≡◌, inr, [], true, false, length, refl, ap, ◌∙◌, arith}
use Rattle.std.specs.Prelude.{nat_lt}
use Rattle.protocol_model.specs.Side.{AtServer}
use Rattle.protocol_model.specs.Payload.{Calls, part_count}
use Rattle.connection_model.specs.Feed.{Past}
use Rattle.connection_model.specs.Bunches.{room}
use Rattle.channel_table.specs.Keeps.{Keeps as KeepsTable}
use Rattle.server_end.proofs.CallAnswers.{more, no_more, link_made, table_made, nothing_pends}
use Rattle.server_end.proofs.server_end.ServerEnd.push_call.Goals as goal

full : (c : goal.After-drop-payload-inside) (past : Past) → KeepsTable c.args.self.now.table AtServer past
    → nat_lt (room past c.args.channel) (part_count (length c.args.payload)) ≡ true
full c past h = more _ _ _ _ (c.room.ensures AtServer past h) (c.parts.ensures
    ∙ ap part_count c.len.ensures) c.if-parts-room.true

fits : (c : goal.In_ok-push) (past : Past) → KeepsTable c.args.self.now.table AtServer past
    → nat_lt (room past c.args.channel) (part_count (length c.args.payload)) ≡ false
fits c past h = no_more _ _ _ _ (c.room.ensures AtServer past h) (c.parts.ensures
    ∙ ap part_count c.len.ensures) c.if-parts-room.false

pub returns-then-parts-room-clause-answer : goal.returns-then-parts-room-clause-answer
returns-then-parts-room-clause-answer c = λ end past samples h. rw (full c past h.table.bunches) refl

pub returns-then-parts-room-clause-stands : goal.returns-then-parts-room-clause-stands
returns-then-parts-room-clause-stands c = λ end past samples actor number call args h opened at bits. rw
    (full c past h.table.bunches) h

pub push-requires-clause-room : goal.push-requires-clause-room
push-requires-clause-room c =
    let past : Past = c.requires.stands.1 in
    let h = c.requires.stands.3 in
    let r = c.room.ensures AtServer past h.table.bunches in
    let p : c.parts.result ≡ part_count (length c.args.payload) = c.parts.ensures ∙ ap part_count c.len.ensures in
    inr (AtServer, past, h.table.bunches, omega (arith, r, p, c.if-parts-room.false))

pub returns-clause-answer : goal.returns-clause-answer
returns-clause-answer c = λ end past samples h. rw (fits c past h.table.bunches) refl

pub returns-clause-stands : goal.returns-clause-stands
returns-clause-stands c = λ end past samples actor number call args h opened at bits.
    rw (fits c past h.table.bunches) (record {
      sender = c.call_is_unseen.ensures _ past samples c.args.channel actor number call args at
          (nothing_pends c.args.self.now.table past c.args.channel actor h.table opened at) h.sender;
      link = link_made _ end past c.args.channel (Calls actor number call args)
          (λ before n i r. c.made_is_unseen.ensures _ end before c.args.channel n
          (Calls actor number call args) i r) h.link;
      table = table_made _ _ past c.args.channel actor number call args h.table
          (c.in_ok-push.ensures.keeps AtServer [] past (Calls actor number call args) h.table.bunches refl bits
          (refl, refl))
          c.in_ok-push.ensures.bound c.in_ok-push.ensures.waiting;
    })
