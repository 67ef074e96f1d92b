use Rattle.std.proofs.Common.{refl}
use Rattle.sender_records.proofs.LifeSteps.{opens_keeps}
use Rattle.sender_records.proofs.life.Life.opens.Goals as goal

pub returns : goal.returns
returns c =
    record {
      state = refl;
      keeps = λ sent past exports actor class values h e made clear. opens_keeps sent past e made
          c.args.index clear exports actor class values c.args.self.now _ h refl;
    }
