use Rattle.std.proofs.Common.{◌≡◌, ◌<◌, ◌∙◌, length, sym, subst, arith}
use Rattle.std.proofs.lemmas.List.{get_or-set_same, get_or_read}
use Rattle.packet_codec.specs.Values.{bunch_of}
use Rattle.incoming_channels.specs.Channels.{Incoming, in_at, unused_in}
use Rattle.incoming_channels.specs.Steps.{Before, IsHeard}
use Rattle.incoming_channels.proofs.channels.hear_on.Goals as goal

pub returns-clause-heard : goal.returns-clause-heard
returns-clause-heard c = λ side got before.
    let b = bunch_of c.args.b.now in
    let slot = c.index_mut-slot.result.now in
    let within : b.channel < length c.grow.new.slots.items = omega (arith, c.in_ok-grow.ensures.least) in
    let is : slot ≡ in_at c.args.slots.now.items b.channel =
    get_or_read c.grow.new.slots.items b.channel slot within c.index_mut-slot.ensures.value unused_in
    ∙ c.in_ok-grow.ensures.same b.channel in
    let heard : IsHeard side got c.args.held b slot c.hear.new.self c.in_ok-heard.heard =
    c.in_ok-heard.ensures side got (subst (Before side c.args.server got c.args.held b) (sym is) before) in
    subst (λ (i : Incoming). IsHeard side got c.args.held b (in_at c.args.slots.now.items b.channel) i
    c.in_ok-heard.heard)
    (sym (get_or-set_same c.grow.new.slots.items b.channel c.hear.new.self unused_in within))
    (subst (λ (i : Incoming). IsHeard side got c.args.held b i c.hear.new.self c.in_ok-heard.heard) is heard)
