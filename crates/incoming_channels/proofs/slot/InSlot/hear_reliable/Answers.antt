use Rattle.std.proofs.Common.{◌≡◌, ◌∙◌, sym, subst, ℤ, true, false, Result, Ok, Err}
use Rattle.std.specs.Result.{IfOk}
use Rattle.packet_codec.specs.Values.{bunch_of}
use Rattle.connection_model.specs.Windows.{next_of}
use Rattle.reliable_window.specs.In.{is_repeat, Stands}
use Rattle.incoming_channels.specs.Channels.{Incoming}
use Rattle.incoming_channels.specs.Steps.{Before, IsHeard}
use Rattle.incoming_channels.proofs.Hearing.{near_mod, heard_repeat, heard_over, heard_ahead}
use Rattle.incoming_channels.proofs.slot.InSlot.hear_reliable.Goals as goal

-- what is said of each good value
ok_map : {A E : Type 0} (r : Result A E) (P Q : A → Type 0) → ((x : A) → P x → Q x) → IfOk r P → IfOk r Q
ok_map (Ok x) P Q f h = f x h
ok_map (Err e) P Q f h = h

pub returns-in-Repeat : goal.returns-in-Repeat
returns-in-Repeat c = λ side got before.
    let b = bunch_of c.args.b.now in
    let h : Before side c.args.server got c.args.held b
    (record { window = c.self.inside.window; parts = c.self.inside.parts }) =
    subst (Before side c.args.server got c.args.held b) (sym c.self.view_is) before in
    subst (IsHeard side got c.args.held b c.args.self.now c.args.self.now) (sym c.nothing.ensures)
    (heard_repeat side c.args.server got c.args.held b c.args.self.now before c.requires
    (subst (λ (z : ℤ). is_repeat got z ≡ true) (near_mod b.seq (next_of got))
    (c.in-Repeat.ensures.placed got h.bunches.window)))

pub returns-in-Next : goal.returns-in-Next
returns-in-Next c = ok_map c.hear_next.result _ _ (λ heard told side got before.
    let b = bunch_of c.args.b.now in
    let h : Before side c.args.server got c.args.held b
    (record { window = c.self.inside.window; parts = c.self.inside.parts }) =
    subst (Before side c.args.server got c.args.held b) (sym c.self.view_is) before in
    told side got before (sym (near_mod b.seq (next_of got)) ∙ c.in-Next.ensures.placed got h.bunches.window))
    c.hear_next.ensures

pub returns-then-held-ge-HELD_LIMIT : goal.returns-then-held-ge-HELD_LIMIT
returns-then-held-ge-HELD_LIMIT c = λ side got before.
    let b = bunch_of c.args.b.now in
    let h : Before side c.args.server got c.args.held b
    (record { window = c.self.inside.window; parts = c.self.inside.parts }) =
    subst (Before side c.args.server got c.args.held b) (sym c.self.view_is) before in
    let at = c.in-Ahead.ensures.placed got h.bunches.window in
    subst (IsHeard side got c.args.held b c.args.self.now c.args.self.now)
    (sym c.nothing-then-held-ge-HELD_LIMIT.ensures)
    (heard_over side c.args.server got c.args.held b c.args.self.now c.in-Ahead.number before c.requires
    (sym (near_mod b.seq (next_of got)) ∙ at.0) at.1
    (subst (λ (z : ℤ). is_repeat got z ≡ false) (near_mod b.seq (next_of got)) at.2)
    c.if-held-ge-HELD_LIMIT.true)

pub returns-in_ok-keep-in-Ahead : goal.returns-in_ok-keep-in-Ahead
returns-in_ok-keep-in-Ahead c = λ side got before.
    let b = bunch_of c.args.b.now in
    let old : Incoming = record { window = c.self.inside.window; parts = c.self.inside.parts } in
    let new : Incoming = record { window = c.keep-in-Ahead.new.self; parts = c.self.inside.parts } in
    let h : Before side c.args.server got c.args.held b old = subst
    (Before side c.args.server got c.args.held b) (sym c.self.view_is) before in
    let at = c.in-Ahead.ensures.placed got h.bunches.window in
    let stands : Stands c.keep-in-Ahead.new.self _ = c.in_ok-keep-in-Ahead.ensures.stands got h.bunches.window
    in
    subst (λ (i : Incoming). IsHeard side got c.args.held b i new c.nothing-in-Ahead.result) c.self.view_is
    (subst (IsHeard side got c.args.held b old new) (sym c.nothing-in-Ahead.ensures)
    (heard_ahead side c.args.server got c.args.held b old c.keep-in-Ahead.new.self c.in-Ahead.number h
    c.requires
    (sym (near_mod b.seq (next_of got)) ∙ at.0) at.1
    (subst (λ (z : ℤ). is_repeat got z ≡ false) (near_mod b.seq (next_of got)) at.2)
    c.if-held-ge-HELD_LIMIT.false
    (rw c.in_ok-bunch-in-Ahead.ensures at stands)))
