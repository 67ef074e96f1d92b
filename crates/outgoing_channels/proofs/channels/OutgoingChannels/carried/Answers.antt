use Rattle.std.proofs.Common.{ℕ, ◌<◌, ◌==◌, ◌∙◌, ◌∷◌, length, ap, sym, refl, subst, arith, if◌then◌else◌}
use Rattle.std.proofs.lemmas.List.{length-set}
use Rattle.connection_model.specs.Feed.{Sent}
use Rattle.outgoing_channels.specs.Slots.{outgoing_of, slot_at}
use Rattle.outgoing_channels.proofs.Carried.{due_at, due_back, keeps_carried}
use Rattle.outgoing_channels.proofs.Settled.{marks_after, other_slot}
use Rattle.outgoing_channels.proofs.Views.{shown, as_shown, keeps_slot, due_within, fits_after, shown_other, carries_shown, carries_length}
use Rattle.outgoing_channels.proofs.channels.OutgoingChannels.carried.Goals as goal

pub carried_on-requires-clause-due : goal.carried_on-requires-clause-due
carried_on-requires-clause-due c =
    let d = c.requires.due in
    due_at (Sent c.args.packet d.1 d.2 ∷ d.0) c.args.channel c.args.n (outgoing_of (slot_at c.self.inside.slots.items c.args.channel))
    (keeps_slot c.self.inside.slots.items c.self.inside.span_sum c.self.inside.high c.self.inside.count (Sent c.args.packet d.1 d.2 ∷ d.0) c.args.channel (as_shown _ _ _ c.self.view_is d.3))
    d.4 d.5 d.6

pub carried_on-requires-clause-within : goal.carried_on-requires-clause-within
carried_on-requires-clause-within c =
    due_within c.self.inside.slots.items c.args.channel c.args.n (carried_on-requires-clause-due c)

pub carried_on-requires-clause-fits : goal.carried_on-requires-clause-fits
carried_on-requires-clause-fits c =
    (c.self.inside.high, (c.self.invariant.2 c.args.channel).window, subst (λ (m : _). m.high < c.args.packet) (sym c.self.view_is) c.requires.above)

pub invariant_of-self : goal.invariant_of-self
invariant_of-self c =
    let step = c.carried_on.ensures in
    let q = c.requires.due in
    let due = due_at (Sent c.args.packet q.1 q.2 ∷ q.0) c.args.channel c.args.n (outgoing_of (slot_at c.self.inside.slots.items c.args.channel))
    (keeps_slot c.self.inside.slots.items c.self.inside.span_sum c.self.inside.high c.self.inside.count (Sent c.args.packet q.1 q.2 ∷ q.0) c.args.channel (as_shown _ _ _ c.self.view_is q.3))
    q.4 q.5 q.6 in (
      omega (arith, ap length step.slots, length-set c.self.inside.slots.items c.args.channel (slot_at c.carried_on.new.slots.items c.args.channel), c.self.invariant.0),
      marks_after c.self.inside.active c.self.inside.active c.self.inside.slots.items c.carried_on.new.slots.items c.args.channel _ c.self.invariant.1 step.slots (λ k low ne. refl)
          (c.self.invariant.1 c.args.channel (omega (arith, due_within c.self.inside.slots.items c.args.channel c.args.n due, c.self.invariant.0)) ∙ ap (λ (n : ℕ). if n == 0 then 0 else 1) (sym (carries_length c.args.n c.args.packet _ _ due step.carries))),
      fits_after c.self.inside.high c.self.inside.count c.self.inside.count c.self.inside.slots.items c.carried_on.new.slots.items c.args.channel c.self.invariant.2
          (λ k ne. other_slot c.self.inside.slots.items c.carried_on.new.slots.items c.args.channel k _ step.slots ne) (omega arith)
          (let f = c.self.invariant.2 c.args.channel in record {
            least = omega (arith, step.next, f.least);
            most = omega (arith, step.next, f.most);
            window = step.fits c.self.inside.high f.window;
          }),
    )

pub returns-clause-keeps : goal.returns-clause-keeps
returns-clause-keeps c = λ past t items bunch h.
    let step = c.carried_on.ensures in
    let q = c.requires.due in
    let due = due_at (Sent c.args.packet q.1 q.2 ∷ q.0) c.args.channel c.args.n (outgoing_of (slot_at c.self.inside.slots.items c.args.channel))
    (keeps_slot c.self.inside.slots.items c.self.inside.span_sum c.self.inside.high c.self.inside.count (Sent c.args.packet q.1 q.2 ∷ q.0) c.args.channel (as_shown _ _ _ c.self.view_is q.3))
    q.4 q.5 q.6 in
    let before = Sent c.args.packet t items ∷ past in
    let shows = as_shown (shown c.self.inside.slots.items c.self.inside.span_sum c.self.inside.high c.self.inside.count) _ before c.self.view_is h in
    let d = due_back before c.args.channel c.args.n (outgoing_of (slot_at c.self.inside.slots.items c.args.channel))
    (keeps_slot c.self.inside.slots.items c.self.inside.span_sum c.self.inside.high c.self.inside.count before c.args.channel shows) due in
    keeps_carried c.args.packet t items past c.args.channel c.args.n bunch (omega (arith, h.high, c.requires.above)) d.0
    (shown c.self.inside.slots.items c.self.inside.span_sum c.self.inside.high c.self.inside.count) _ shows d.1 d.2
    (carries_shown c.args.n c.args.packet c.self.inside.slots.items c.carried_on.new.slots.items c.args.channel step.carries)
    (shown_other c.self.inside.slots.items c.carried_on.new.slots.items c.args.channel (λ k ne. other_slot c.self.inside.slots.items c.carried_on.new.slots.items c.args.channel k _ step.slots ne))
    refl refl
