use Rattle.std.proofs.Common.{◌∙◌, ap, sym, map, Option, option_map}
use Rattle.bit_io.specs.Written.{Written}
use Rattle.link_end.specs.Begun.{total_size}
use Rattle.link_end.specs.declared.sent.Sent.{Sent}
use Rattle.link_end.proofs.PacketSteps.{size_with}
use Rattle.link_end.proofs.packets.Packets.size.Goals as goal

pub returns-in-Some-clause-total : goal.returns-in-Some-clause-total
returns-in-Some-clause-total c =
    size_with (map (λ (s : Sent). s.bytes) c.self.inside.whole.items) c.in-Some.current.bits c.self.inside.size
    c.len.result c.self.invariant.size c.len.ensures
    ∙ ap (λ (o : Option Written). total_size
    (record {
      first = c.self.inside.first;
      whole = map (λ (s : Sent). s.bytes) c.self.inside.whole.items;
      current = option_map (λ (w : Written). w.bits) o;
      full = c.self.inside.full;
    })) (sym c.in-Some.is)
    ∙ ap total_size c.self.view_is
