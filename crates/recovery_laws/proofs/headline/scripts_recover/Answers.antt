use Rattle.recovery_laws.proofs.Players.{read_sleep}
use Rattle.recovery_laws.proofs.StartedCopies.{read_started}
use Rattle.recovery_laws.proofs.headline.scripts_recover.Goals as goal

pub returns : goal.returns
returns c = λ table lines read p joined honest. record {
  once = c.scripts_hand_over_once.ensures table lines p read (record { joined = joined; honest = honest });
  verdicts = c.scripts_have_fair_verdicts.ensures table lines p read (record { joined = joined; honest = honest });
  started = read_started table lines read p joined honest;
  asleep = read_sleep table lines read p joined honest;
}
