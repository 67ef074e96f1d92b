use Rattle.std.proofs.Common.{◌≡◌, ◌∙◌, ◌⊎◌, inl, inr, ℕ, ◌<◌, ◌≤◌, [], length, ap, sym, refl, subst, arith, Some, false, List, Bool}
use Rattle.protocol_model.specs.Side.{AtServer}
use Rattle.protocol_model.specs.Payload.{Closes, part_count}
use Rattle.connection_model.specs.Feed.{Past}
use Rattle.connection_model.specs.Bunches.{room}
use Rattle.connection_model.specs.State.{index_of}
use Rattle.channel_table.specs.Keeps.{Keeps}
use Rattle.channel_table.proofs.Unmade.{unmade}
use Rattle.sender_records.specs.Life.{KeepsLife}
use Rattle.sender_steps.proofs.Rooms.{made_with, made_without, one_two}
use Rattle.sender_steps.proofs.closing.close_channel.Goals as goal

pub returns-then-room-eq0-clause-life : goal.returns-then-room-eq0-clause-life
returns-then-room-eq0-clause-life c = λ past k t f.
    subst (λ (p : Past). KeepsLife p c.args.actor c.args.life.now)
    (sym (made_without past (index_of past c.args.actor) c.in-Some.index (Closes c.args.actor c.args.sleeps)
    (sym k.index ∙ c.in-Some.is) (sym (c.room.ensures AtServer past t) ∙ c.if-room-eq0.true))) k

pub returns-then-room-eq0-clause-table : goal.returns-then-room-eq0-clause-table
returns-then-room-eq0-clause-table c = λ past k t.
    subst (Keeps c.args.table.now AtServer)
    (sym (made_without past (index_of past c.args.actor) c.in-Some.index (Closes c.args.actor c.args.sleeps)
    (sym k.index ∙ c.in-Some.is) (sym (c.room.ensures AtServer past t) ∙ c.if-room-eq0.true))) t

pub push-requires-clause-channel : goal.push-requires-clause-channel
push-requires-clause-channel c =
    let held = c.requires.stands.3 c.args.actor c.in-Some.index (sym c.requires.stands.1.index ∙ c.in-Some.is) in
    one_two c.in-Some.index held.1

pub push-requires-clause-most : goal.push-requires-clause-most
push-requires-clause-most c = omega (arith, ap length (c.in_ok-payload.ensures 0 false))

pub push-requires-clause-room : goal.push-requires-clause-room
push-requires-clause-room c =
    let past : Past = c.requires.stands.0 in
    let one : part_count (length c.in_ok-payload.payload) ≡ 1 =
    ap (λ (bits : List Bool). part_count (length bits)) (c.in_ok-payload.ensures 0 false) in
    inr (
      AtServer,
      past,
      c.requires.stands.2,
      omega (
        arith,
        one,
        c.room.ensures AtServer past c.requires.stands.2,
        c.if-room-eq0.false,
      ),
    )

made : (past : Past) (n ch : ℕ) → n ≡ room past ch → (n ≡ 0 → ⊥) → 0 < room past ch
made past n ch e ne = omega (arith, e, ne)

pub returns-clause-life : goal.returns-clause-life
returns-clause-life c = λ past k t f.
    let held : c.args.life.now.index ≡ Some c.in-Some.index = c.in-Some.is in
    subst (λ (p : Past). KeepsLife p c.args.actor c.closes.new.self)
    (sym (made_with past (index_of past c.args.actor) c.in-Some.index (Closes c.args.actor c.args.sleeps) (sym k.index
    ∙ held) (made past c.room.result c.in-Some.index (c.room.ensures AtServer past t) c.if-room-eq0.false)))
    (c.closes.ensures.keeps past c.args.actor c.in-Some.index k held (unmade c.args.table.now AtServer past t) f)

pub returns-clause-table : goal.returns-clause-table
returns-clause-table c = λ past k t.
    subst (Keeps c.push.new.self AtServer)
    (sym (made_with past (index_of past c.args.actor) c.in-Some.index (Closes c.args.actor c.args.sleeps) (sym k.index
    ∙ c.in-Some.is) (made past c.room.result c.in-Some.index (c.room.ensures AtServer past t) c.if-room-eq0.false)))
    (c.in_ok-push.ensures.keeps AtServer [] past (Closes c.args.actor c.args.sleeps) t refl
    (sym (c.in_ok-payload.ensures c.args.actor c.args.sleeps)) (refl, refl))

pub returns-clause-count : goal.returns-clause-count
returns-clause-count c =
    let one : part_count (length c.in_ok-payload.payload) ≡ 1 =
    ap (λ (bits : List Bool). part_count (length bits)) (c.in_ok-payload.ensures 0 false) in
    omega (arith, c.in_ok-push.ensures.count, one)
