use Rattle.std.proofs.Common.{sym, subst, Bool, ap, refl, ◌∙◌, ◌≡◌, ◌⊎◌, inl, None}
use Rattle.sender_records.specs.declared.life.Life.{Life}
use Rattle.sender_records.specs.Life.{KeepsLife, Arrives, state_value}
use Rattle.connection_model.specs.State.{is_open}
use Rattle.sender_records.proofs.LifeSteps.{cleared_keeps, uncleared_keeps, cleared_open, cleared_index}
use Rattle.sender_records.proofs.life.Life.hears.Goals as goal

pub returns-then-clear : goal.returns-then-clear
returns-then-clear c = record {
  index =
      subst (λ (l : Life). (l.index ≡ c.args.self.now.index) ⊎ (l.index ≡ None)) (sym c.cleared.ensures)
      (cleared_index c.args.self.now);
  same_open = ap (λ (l : Life). is_open (state_value l.state)) c.cleared.ensures ∙ cleared_open c.args.self.now;
  keeps = λ past later actor h r.
      subst (λ (l : Life). KeepsLife later actor l) (sym c.cleared.ensures)
      (cleared_keeps past later actor c.args.self.now h (subst
      (λ (b : Bool). Arrives past later actor b) c.if-clear.true r));
}

pub returns-else-clear : goal.returns-else-clear
returns-else-clear c = record {
  index = inl refl;
  same_open = refl;
  keeps =
      λ past later actor h r. uncleared_keeps past later actor c.args.self.now h
      (subst (λ (b : Bool). Arrives past later actor b) c.if-clear.false r);
}
