use Rattle.std.proofs.Common.{◌≡◌, ◌+◌, inl, inr, ℕ, ◌<◌, List, [], ◌∷◌, zero, suc, Some, None, ap, sym, refl, subst, arith, length}
use Rattle.std.specs.List.{slice_get}
use Rattle.std.proofs.lemmas.Option.{slice_get_read}
use Rattle.sender_steps.specs.declared.sent.UpdateSent.{UpdateSent}
use Rattle.sender_steps.proofs.Telling.{Tells, tells, skips}
use Rattle.sender_steps.proofs.moved.tell_updates.Goals as goal
use Rattle.sender_steps.proofs.moved.tell_updates.Goals.{then-sent-to, else-sent-to}

within : (updates : List UpdateSent) (i : ℕ) (u : UpdateSent) → slice_get updates i ≡ Some u → i < length updates
within [] i u e = absurd (let no : None ≡ Some u = e in cc)
within (x ∷ updates) zero u e = omega arith
within (x ∷ updates) (suc i) u e = omega (arith, within updates i u e)

pub loop-sent-init : goal.loop-sent-init
loop-sent-init c = record {
  life = λ a. refl;
  service = λ a. refl;
  told = λ past later samples a m k. inr (refl, λ i u lt at le. absurd (omega arith));
  packets = λ a h. refl;
}

pub loop-sent-preserved : goal.loop-sent-preserved
loop-sent-preserved c =
    let at : slice_get c.args.updates.now c.loop-sent.sent-index ≡ Some c.sent-item.result =
    slice_get_read c.args.updates.now (length c.args.updates.now) c.loop-sent.sent-index c.sent-item.result refl
    (omega arith) c.sent-item.is in
    elim c.if-sent-to.branch [
      | then-sent-to w ↦ subst (Tells c.args.from c.args.to c.args.updates.now
          (c.loop-sent.sent-index + 1) c.args.records.now.entries) (sym (ap (λ (b : _). b.entries) w.records-is))
          (tells c.args.from c.args.to c.args.updates.now c.loop-sent.sent-index c.sent-item.result
          c.args.records.now.entries c.loop-sent.records.entries w.tell.new.records.entries at
          w.tell.ensures.others w.tell.ensures.life w.tell.ensures.service w.tell.ensures.told w.tell.ensures.again
          w.tell.ensures.packets c.loop-sent.invariant)
      | else-sent-to w ↦ subst (Tells c.args.from c.args.to c.args.updates.now
          (c.loop-sent.sent-index + 1) c.args.records.now.entries) (sym (ap (λ (b : _). b.entries) w.records-is))
          (skips c.args.from c.args.to c.args.updates.now c.loop-sent.sent-index c.sent-item.result
          c.args.records.now.entries c.loop-sent.records.entries at w.if-sent-to.false c.loop-sent.invariant)
    ]

pub returns-clause-told : goal.returns-clause-told
returns-clause-told c = λ past later samples a m k. elim (c.loop-sent.invariant.told past later samples a m k) [
  | inl kept ↦ inl kept
  | inr q ↦ inr (q.0, λ i u at le. q.1 i u (omega (arith, within c.args.updates.now i u at)) at le)
]
