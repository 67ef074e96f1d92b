use Rattle.std.proofs.Common.{◌∙◌, sym, subst}
use Rattle.packet_codec.specs.Values.{bunch_of}
use Rattle.incoming_channels.specs.Channels.{Parts}
use Rattle.incoming_channels.specs.Keeps.{Joining}
use Rattle.incoming_channels.specs.Steps.{IsLooseStep}
use Rattle.incoming_channels.specs.declared.parts.Step.TheVariants as step
use Rattle.incoming_channels.proofs.Stepping.{loose_step}
use Rattle.incoming_channels.proofs.parts.Parts.take_loose.Goals as goal

pub returns : goal.returns
returns c = λ side kept server joins reliable.
    let b = bunch_of c.args.b.now in
    let old : Parts = record
    { joined = c.self.inside.joiner; first = c.self.inside.first; copied = c.self.inside.copied } in
    let new : Parts = record {
      joined = c.self.inside.joiner;
      first = c.self.inside.first;
      copied =
          c.copied_after-self-inside.result;
    } in
    let inside : Joining old kept = subst (λ (p : Parts). Joining p kept) (sym c.self.view_is) joins in
    subst (λ (p : Parts). IsLooseStep side kept b p new (step.Whole c.message.result)) c.self.view_is
    (loose_step side old new kept b c.of-first.result c.in_ok-bits.bits c.message.result
    (sym (c.is_astray.ensures side kept server (c.waiting.ensures kept inside.joined)) ∙ c.if-is_astray.false)
    (sym (c.fault.ensures kept inside.joined) ∙ c.in_default.is)
    (sym c.ends_payload.ensures ∙ c.if-not-ends_payload.false) reliable
    c.of-first.ensures c.in_ok-bits.ensures c.message.ensures
    (record { joined = inside.joined; first = inside.first }) c.copied_after-self-inside.ensures)
