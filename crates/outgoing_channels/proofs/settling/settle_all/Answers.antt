use Rattle.std.proofs.Common.{◌≡◌, ℕ, ◌<◌, ◌≤◌, ◌∙◌, [], length, take, ap, sym, refl, arith, ⊎_elim}
use Rattle.std.specs.List.{sum_by}
use Rattle.std.proofs.lemmas.Bool.{cases_lt, cases_eq}
use Rattle.std.proofs.lemmas.List.{take-set-le, get_or_past}
use Rattle.outgoing_channels.specs.Slots.{outgoing_of, slot_at, kept_of, empty_slot, Marks}
use Rattle.outgoing_channels.proofs.Settled.{sum_step, sum_upto, sum_rest, other_slot, unmarked, marked_within, rests_out, moves_as, fits_as, fits_later, marks_after, bit_zero, bit_same, none_kept, some_kept}
use Rattle.outgoing_channels.proofs.settling.settle_all.Goals as goal
use Rattle.outgoing_channels.proofs.settling.settle_all.Goals.{then-span-eq0, else-span-eq0}

marks : (c : goal.Joined-span-eq0) → Marks c.if-span-eq0.active c.settle_slot-span.new.slots.items
marks c =
    let inv = c.loop-channel.invariant in
    let ch = c.in-Some.channel in
    let found = c.in-Some.ensures.some in
    let step = c.settle_slot-span.ensures in
    elim c.if-span-eq0.branch [
      | then-span-eq0 w ↦ rw w.active-is (marks_after c.loop-channel.active w.put.new.self c.loop-channel.slots.items c.settle_slot-span.new.slots.items ch _ inv.marks step.slots
          (λ k low ne. bit_zero k ch _ _ _ ne (w.put.ensures k))
          (bit_same ch _ _ _ (w.put.ensures ch) ∙ none_kept _ (omega (arith, step.span, w.if-span-eq0.true))))
      | else-span-eq0 w ↦ rw w.active-is (marks_after c.loop-channel.active c.loop-channel.active c.loop-channel.slots.items c.settle_slot-span.new.slots.items ch _ inv.marks step.slots
          (λ k low ne. refl)
          (found.2 ∙ some_kept _ (λ z. omega (arith, step.span, w.if-span-eq0.false))))
    ]

pub loop-channel-preserved : goal.loop-channel-preserved
loop-channel-preserved c =
    let inv = c.loop-channel.invariant in
    let xs = c.loop-channel.slots.items in
    let ys = c.settle_slot-span.new.slots.items in
    let old = c.args.slots.now.items in
    let ch = c.in-Some.channel in
    let at = c.loop-channel.at in
    let step = c.settle_slot-span.ensures in
    let found = c.in-Some.ensures.some in
    let other : (k : ℕ) → (k ≡ ch → ⊥) → slot_at ys k ≡ slot_at xs k = λ k ne. other_slot xs ys ch k _ step.slots ne in
    let quiet : (k : ℕ) → at ≤ k → k < ch → kept_of (slot_at xs k) ≡ [] = λ k lo hi. unmarked c.loop-channel.active xs k inv.marks (omega (arith, found.1)) (found.3 k lo hi) in
    let long : length ys ≡ length xs = step.len in
    let within : ch < length xs = marked_within c.loop-channel.active xs ch inv.marks found.1 found.2 in
    record {
      slots = step.len ∙ inv.slots;
      within = omega (arith, found.1);
      done = λ k low. ⊎_elim
          (λ (h : k < at). moves_as c.args.to (slot_at old k) (slot_at old k) (slot_at ys k) (slot_at xs k) refl (other k (λ e. omega (arith, found.0))) (inv.done k h))
          (λ (h : at ≤ k). ⊎_elim
          (λ (q : k ≡ ch). moves_as c.args.to (slot_at old k) (slot_at xs ch) (slot_at ys k) (slot_at ys ch) (sym (inv.todo k h) ∙ ap (slot_at xs) q) (ap (slot_at ys) q) step.moves)
          (λ (ne : k ≡ ch → ⊥). moves_as c.args.to (slot_at old k) (slot_at xs k) (slot_at ys k) (slot_at xs k) (sym (inv.todo k h)) (other k ne)
          (rests_out c.args.to (outgoing_of (slot_at xs k)) (quiet k h (omega arith))))
          (cases_eq k ch))
          (cases_lt k at);
      fits = λ k low. ⊎_elim
          (λ (h : k < at). fits_as c.args.to (slot_at ys k) (slot_at xs k) (other k (λ e. omega (arith, found.0))) (inv.fits k h))
          (λ (h : at ≤ k). ⊎_elim
          (λ (q : k ≡ ch). fits_as c.args.to (slot_at ys k) (slot_at ys ch) (ap (slot_at ys) q) step.fits)
          (λ (ne : k ≡ ch → ⊥). fits_as c.args.to (slot_at ys k) (slot_at c.args.slots.now.items k) (other k ne ∙ inv.todo k h)
          (fits_later c.requires.fits.0 c.args.to (slot_at old k).next (slot_at old k).window c.requires.fits.2 (c.requires.fits.1 k)))
          (cases_eq k ch))
          (cases_lt k at);
      todo = λ k lo. other k (λ e. omega arith) ∙ inv.todo k (omega (arith, found.0));
      marks = marks c;
      sum = omega (
        arith,
        inv.sum,
        step.span,
        sum_step (λ s. length (kept_of s)) empty_slot ys ch (omega (arith, long, within)),
        sum_upto (λ s. length (kept_of s)) empty_slot xs at ch found.0 (omega (arith, within)) (λ k lo hi. ap length (quiet k lo hi)),
        ap (λ zs. sum_by (λ s. length (kept_of s)) (take ch zs)) step.slots,
        ap (λ zs. sum_by (λ s. length (kept_of s)) zs) (take-set-le ch xs ch (slot_at ys ch) (omega arith)),
      );
      small = omega (arith, inv.small, step.most, found.0);
    }

pub returns-clause-sum : goal.returns-clause-sum
returns-clause-sum c =
    let inv = c.loop-channel.invariant in
    let xs = c.loop-channel.slots.items in
    inv.sum ∙ sum_rest (λ s. length (kept_of s)) empty_slot xs c.loop-channel.at
    (λ i lo. ⊎_elim
    (λ (h : i < 32768). ap length (unmarked c.loop-channel.active xs i inv.marks h (c.in_default.ensures.none i lo)))
    (λ (h : 32768 ≤ i). ap (λ s. length (kept_of s)) (get_or_past xs i empty_slot (omega (arith, inv.slots, c.requires.most))))
    (cases_lt i 32768))
