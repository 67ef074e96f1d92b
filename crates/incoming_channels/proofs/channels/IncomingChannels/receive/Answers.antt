use Rattle.std.proofs.Common.{◌∷◌, ◌∙◌, sym, ap, subst}
use Rattle.packet_codec.specs.Values.{bunch_of}
use Rattle.connection_model.specs.Feed.{Past, Took}
use Rattle.connection_model.specs.Windows.{received_on}
use Rattle.incoming_channels.specs.Channels.{Got}
use Rattle.incoming_channels.specs.Keeps.{KeepsGot}
use Rattle.receiving_laws.specs.Receiving.{Raws}
use Rattle.incoming_channels.specs.Messages.{AreRaws}
use Rattle.receiving_laws.specs.Readings.{AreRead}
use Rattle.incoming_channels.proofs.Keeping.{heard_raws, before_is, keeps_after}
use Rattle.incoming_channels.proofs.channels.IncomingChannels.receive.Goals as goal

pub returns-in-Ok-clause-whole : goal.returns-in-Ok-clause-whole
returns-in-Ok-clause-whole c = λ side past h.
    let b = bunch_of c.args.b.now in
    let g : Got = record {
      server = c.self.inside.server;
      incoming = c.self.inside.slots.items;
      held =
          c.self.inside.held;
      spent = c.self.inside.spent;
    } in
    let k : KeepsGot g side past = subst (λ (x : Got). KeepsGot x side past) (sym c.self.view_is) h in
    let heard = c.in-Ok.ensures.heard side (received_on past b.channel) (before_is side past g b k) in
    subst (λ (r : Raws). AreRaws r.whole c.in-Ok.heard.whole) (sym
    (heard_raws side past g b k (sym (c.is_misplaced.ensures side k.server) ∙ c.if-is_misplaced.false)))
    heard.told

pub returns-in-Ok-clause-cause : goal.returns-in-Ok-clause-cause
returns-in-Ok-clause-cause c = λ side past h.
    let b = bunch_of c.args.b.now in
    let g : Got = record {
      server = c.self.inside.server;
      incoming = c.self.inside.slots.items;
      held =
          c.self.inside.held;
      spent = c.self.inside.spent;
    } in
    let k : KeepsGot g side past = subst (λ (x : Got). KeepsGot x side past) (sym c.self.view_is) h in
    let heard = c.in-Ok.ensures.heard side (received_on past b.channel) (before_is side past g b k) in
    sym heard.cause ∙ ap (λ (r : Raws). r.cause) (sym
    (heard_raws side past g b k (sym (c.is_misplaced.ensures side k.server) ∙ c.if-is_misplaced.false)))

pub returns-in-Ok-clause-keeps : goal.returns-in-Ok-clause-keeps
returns-in-Ok-clause-keeps c = λ side past m entries handed after h none read.
    let b = bunch_of c.args.b.now in
    let now : Past = Took m entries handed ∷ past in
    let g : Got = record {
      server = c.self.inside.server;
      incoming = c.self.inside.slots.items;
      held =
          c.self.inside.held;
      spent = c.self.inside.spent;
    } in
    let k : KeepsGot g side now = subst (λ (x : Got). KeepsGot x side now) (sym c.self.view_is) h in
    let heard = c.in-Ok.ensures.heard side (received_on now b.channel) (before_is side now g b k) in
    let raws = heard_raws side now g b k
    (sym (c.is_misplaced.ensures side k.server) ∙ c.if-is_misplaced.false) in
    keeps_after side past m entries handed after b g c.hear_on.new.slots.items c.in-Ok.heard.held k
    (heard.after none) c.in-Ok.ensures.others
    (subst (λ (r : Raws). AreRead r.whole handed after) raws read)
