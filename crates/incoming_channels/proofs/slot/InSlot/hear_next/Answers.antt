use Rattle.std.proofs.Common.{◌≡◌, ◌-◌, ◌∷◌, sym, subst, refl, arith, ℕ}
use Rattle.packet_codec.specs.Values.{bunch_of}
use Rattle.connection_model.specs.Windows.{next_of}
use Rattle.incoming_channels.specs.Channels.{Incoming}
use Rattle.incoming_channels.specs.Steps.{Before, IsHeard, Goes, run_left}
use Rattle.incoming_channels.proofs.Hearing.{course_of, next_begins, next_heard}
use Rattle.incoming_channels.proofs.slot.InSlot.hear_next.Goals as goal

pub returns : goal.returns
returns c = λ side got before placed.
    let b = bunch_of c.args.b.now in
    let old : Incoming = record { window = c.self.inside.window; parts = c.self.inside.parts } in
    let new : Incoming = record { window = c.take_run.new.window; parts = c.take_run.new.parts } in
    let h : Before side c.args.server got c.args.held b old = subst
    (Before side c.args.server got c.args.held b) (sym c.self.view_is) before in
    let begins : Goes (course_of side got b old) (b ∷ run_left ((next_of got, b) ∷ got) c.pass.new.self.next)
    old.parts c.new-whole.result =
    subst
    (Goes (course_of side got b old) (b ∷ run_left ((next_of got, b) ∷ got) c.pass.new.self.next) old.parts)
    (sym c.new-whole.ensures)
    (next_begins side c.args.server got c.args.held b old c.pass.new.self.next h c.pass.ensures.next) in
    let ends = c.in_ok-cause.ensures (course_of side got b old) ((next_of got, b) ∷ got) h.end refl
    c.requires.reliable
    (record { channel = refl; reliable = c.requires.reliable }, h.on)
    (c.pass.ensures.stands got b h.bunches.window) begins in
    let held : c.args.held - (c.take_run.new.window.next - c.pass.new.self.next) ≡ c.saturating_sub.result =
    omega (
      arith,
      c.saturating_sub.ensures,
      c.saturating_sub-passed.ensures,
      c.next.ensures.next,
      c.next-first.ensures.next,
    ) in
    subst (λ (i : Incoming). IsHeard side got c.args.held b i new
    (record { whole = c.take_run.new.whole; cause = c.in_ok-cause.cause; held = c.saturating_sub.result }))
    c.self.view_is
    (subst (λ (n : ℕ). IsHeard side got c.args.held b old new
    (record { whole = c.take_run.new.whole; cause = c.in_ok-cause.cause; held = n })) held
    (next_heard side c.args.server got c.args.held b old c.take_run.new.window c.take_run.new.parts
    c.pass.new.self.next c.take_run.new.whole c.in_ok-cause.cause
    h c.requires.reliable placed c.pass.ensures.next ends))
