use Rattle.std.proofs.Common.{◌≡◌, ◌∙◌, sym, subst, Ok}
use Rattle.packet_codec.specs.Values.{bunch_of}
use Rattle.connection_model.specs.Windows.{first_of}
use Rattle.partial_bunches.specs.Joins.{IsAdded}
use Rattle.partial_bunches.specs.declared.joiner.Joined.{Joined}
use Rattle.incoming_channels.specs.Channels.{Parts}
use Rattle.incoming_channels.specs.Keeps.{flags_of, Joining}
use Rattle.incoming_channels.specs.Steps.{IsStep}
use Rattle.incoming_channels.specs.declared.parts.Step.TheVariants as step
use Rattle.incoming_channels.proofs.Stepping.{whole_step, first_kept, first_own}
use Rattle.incoming_channels.proofs.parts.Parts.take.Goals as goal
use Rattle.incoming_channels.proofs.parts.Parts.take.Goals.{in-Some, in-None}

pub returns-after-take : goal.returns-after-take
returns-after-take c = λ side kept more server joins on reliable.
    let b = bunch_of c.args.b.now in
    let old : Parts = record
    { joined = c.self.inside.joiner; first = c.self.inside.first; copied = c.self.inside.copied } in
    let new : Parts = record
    { joined = c.add.new.self; first = c.take.new.self; copied = c.copied_after-self-inside.result } in
    let inside : Joining old kept = subst (λ (p : Parts). Joining p kept) (sym c.self.view_is) joins in
    let added : IsAdded kept b (Ok (Joined.Whole c.in-Ok-Whole.bits)) =
    subst (λ (j : Joined). IsAdded kept b (Ok j)) c.in-Ok-Whole.field-0-is
    (c.in-Ok-Whole.ensures.answer kept inside.joined) in
    let flags : c.match-take.first ≡ flags_of (first_of kept b) = elim c.match-take.branch [
      | in-Some w ↦ w.first-is ∙ first_kept kept b c.self.inside.first w.in-Some.first inside.first
          (sym c.take.ensures.value ∙ w.in-Some.is)
      | in-None w ↦ w.first-is ∙ w.of-first.ensures
          ∙ first_own kept b c.self.inside.first inside.first (sym c.take.ensures.value ∙ w.in-None.is)
    ] in
    subst (λ (p : Parts). IsStep side kept b more p new (step.Whole c.message.result)) c.self.view_is
    (whole_step side old new kept more b c.match-take.first c.in-Ok-Whole.bits c.message.result
    (sym (c.is_astray.ensures side kept server (c.waiting.ensures kept inside.joined)) ∙ c.if-is_astray.false)
    added.0 added.1 reliable flags on added.2 c.message.ensures
    (c.in-Ok-Whole.ensures.joins kept inside.joined) c.take.ensures.after c.copied_after-self-inside.ensures)
