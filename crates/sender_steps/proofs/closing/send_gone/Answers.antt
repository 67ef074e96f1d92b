use Rattle.std.proofs.Common.{◌≡◌, ◌∙◌, ◌⊎◌, inl, inr, ℕ, ◌<◌, ◌≤◌, [], length, ap, sym, refl, subst, arith, Some, List, Bool}
use Rattle.protocol_model.specs.Side.{AtServer}
use Rattle.protocol_model.specs.Payload.{Gone, part_count}
use Rattle.connection_model.specs.Feed.{Past}
use Rattle.connection_model.specs.Bunches.{room}
use Rattle.channel_table.specs.Keeps.{Keeps}
use Rattle.sender_records.specs.Life.{KeepsLife}
use Rattle.sender_steps.proofs.Rooms.{made_with, made_without, gone_short, short_most, one_part}
use Rattle.sender_steps.proofs.closing.send_gone.Goals as goal

pub returns-then-room-eq0-clause-life : goal.returns-then-room-eq0-clause-life
returns-then-room-eq0-clause-life c = λ past k t.
    subst (λ (p : Past). KeepsLife p c.args.actor c.args.life.now)
    (sym (made_without past (Some 0) 0 (Gone c.args.actor) refl (sym (c.room.ensures AtServer past t)
    ∙ c.if-room-eq0.true))) k

pub returns-then-room-eq0-clause-table : goal.returns-then-room-eq0-clause-table
returns-then-room-eq0-clause-table c = λ past t.
    subst (Keeps c.args.table.now AtServer) (sym (made_without past (Some 0) 0 (Gone c.args.actor) refl
    (sym (c.room.ensures AtServer past t) ∙ c.if-room-eq0.true))) t

pub push-requires-clause-most : goal.push-requires-clause-most
push-requires-clause-most c = short_most (length c.in_ok-payload.payload)
    (subst (λ (bits : List Bool). length bits ≤ 80) (sym c.in_ok-payload.ensures) (gone_short c.args.actor))

pub push-requires-clause-room : goal.push-requires-clause-room
push-requires-clause-room c =
    let past : Past = c.requires.stands.0 in
    let one : part_count (length c.in_ok-payload.payload) ≡ 1 =
    one_part (length c.in_ok-payload.payload) (subst (λ (bits : List Bool). length bits ≤ 80)
    (sym c.in_ok-payload.ensures) (gone_short c.args.actor)) in
    inr (
      AtServer,
      past,
      c.requires.stands.1,
      omega (
        arith,
        one,
        c.room.ensures AtServer past c.requires.stands.1,
        c.if-room-eq0.false,
      ),
    )

made : (past : Past) (n ch : ℕ) → n ≡ room past ch → (n ≡ 0 → ⊥) → 0 < room past ch
made past n ch e ne = omega (arith, e, ne)

pub returns-clause-life : goal.returns-clause-life
returns-clause-life c = λ past k t.
    subst (λ (p : Past). KeepsLife p c.args.actor c.goes.new.self)
    (sym (made_with past (Some 0) 0 (Gone c.args.actor) refl
    (made past c.room.result 0 (c.room.ensures AtServer past t) c.if-room-eq0.false)))
    (c.goes.ensures.keeps past c.args.actor 0 k)

pub returns-clause-table : goal.returns-clause-table
returns-clause-table c = λ past t.
    subst (Keeps c.push.new.self AtServer)
    (sym (made_with past (Some 0) 0 (Gone c.args.actor) refl
    (made past c.room.result 0 (c.room.ensures AtServer past t) c.if-room-eq0.false)))
    (c.in_ok-push.ensures.keeps AtServer [] past (Gone c.args.actor) t refl (sym c.in_ok-payload.ensures) (refl, refl))

pub returns-clause-count : goal.returns-clause-count
returns-clause-count c =
    let one : part_count (length c.in_ok-payload.payload) ≡ 1 =
    one_part (length c.in_ok-payload.payload) (subst (λ (bits : List Bool). length bits ≤ 80)
    (sym c.in_ok-payload.ensures) (gone_short c.args.actor)) in
    omega (arith, c.in_ok-push.ensures.count, one)
