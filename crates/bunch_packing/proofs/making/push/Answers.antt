use Rattle.std.proofs.Common.{◌+◌, ℕ, inr, ap, ◌∙◌, arith}
use Rattle.link_end.specs.Packs.{sent_now}
use Rattle.bunch_packing.proofs.Offering.{made_all}
use Rattle.bunch_packing.proofs.Pushing.{pushed, room_now}
use Rattle.bunch_packing.proofs.making.push.Goals as goal

pub push-requires-clause-room : goal.push-requires-clause-room
push-requires-clause-room c =
    let r = c.requires.room in
    inr (
      r.2,
      sent_now r.4,
      r.5.table,
      omega (arith, r.7, room_now r.0 c.args.table.now r.1 r.2 r.3 r.4 c.args.channel r.5),
    )

pub returns-clause-number : goal.returns-clause-number
returns-clause-number c = λ l end side before p h.
    c.in_ok-number.ensures.number side (sent_now p) h.table
    ∙ ap (λ (n : ℕ). n + 1) (made_all p.past p.packets c.args.channel)

pub returns-clause-packs : goal.returns-clause-packs
returns-clause-packs c = λ l end side before p message h below said is.
    pushed l c.args.table.now c.push.new.self end side before p c.args.channel message h below
    (λ sent past keeps sendings. c.in_ok-number.ensures.keeps side sent past message keeps sendings said is)
