use Rattle.std.proofs.Common.{sym, subst}
use Rattle.packet_codec.specs.Values.{bunch_of}
use Rattle.incoming_channels.specs.Steps.{AreOn, IsStep, Goes}
use Rattle.incoming_channels.specs.declared.parts.Step.{Step}
use Rattle.incoming_channels.proofs.Going.{goes_broken, goes_part, goes_whole}
use Rattle.incoming_channels.proofs.run.take_one.Goals as goal

pub returns-in-Broken : goal.returns-in-Broken
returns-in-Broken c = λ k rest server channel reliable g.
    goes_broken k (bunch_of c.args.b.now) rest c.args.parts.now c.take.new.self c.args.whole.now
    c.in-Broken.cause g
    (subst
    (λ (s : Step). IsStep k.side g.kept (bunch_of c.args.b.now) rest c.args.parts.now c.take.new.self s)
    c.in-Broken.is
    (c.in_ok-cause.ensures k.side g.kept rest server g.joins (subst (λ n. AreOn n g.kept) (sym channel) g.on)
    reliable))

pub returns-in-More : goal.returns-in-More
returns-in-More c = λ k rest server channel reliable g.
    goes_part k (bunch_of c.args.b.now) rest c.args.parts.now c.take.new.self c.args.whole.now
    (record { channel = channel; reliable = reliable }) g
    (subst
    (λ (s : Step). IsStep k.side g.kept (bunch_of c.args.b.now) rest c.args.parts.now c.take.new.self s)
    c.in-More.is
    (c.in_ok-cause.ensures k.side g.kept rest server g.joins (subst (λ n. AreOn n g.kept) (sym channel) g.on)
    reliable))

pub returns-in_ok-push-in-Whole : goal.returns-in_ok-push-in-Whole
returns-in_ok-push-in-Whole c = λ k rest server channel reliable g.
    subst (Goes k rest c.take.new.self) (sym c.in_ok-push-in-Whole.ensures.ok)
    (goes_whole k (bunch_of c.args.b.now) rest c.args.parts.now c.take.new.self c.args.whole.now
    c.in-Whole.message (record { channel = channel; reliable = reliable }) g
    (subst
    (λ (s : Step). IsStep k.side g.kept (bunch_of c.args.b.now) rest c.args.parts.now c.take.new.self s)
    c.in-Whole.is
    (c.in_ok-cause.ensures k.side g.kept rest server g.joins (subst (λ n. AreOn n g.kept) (sym channel) g.on)
    reliable)))
