use Rattle.std.proofs.Common.{ap, sym, subst}
use Rattle.protocol_model.specs.Side.{AtServer, AtClient}
use Rattle.channel_table.specs.Holders.{IsPaired}
use Rattle.channel_table.specs.Stands.{channel_bound}
use Rattle.channel_table.proofs.Bound.{none_paired}
use Rattle.channel_table.proofs.table.ChannelTable.new.Goals as goal

pub returns-clause-server : goal.returns-clause-server
returns-clause-server c = λ server. record {
  bunches = record {
    made = c.in_ok-out.ensures.keeps;
    got = c.new-3.ensures AtServer server;
    high = c.in_ok-out.ensures.keeps.high;
  };
  bound = λ a. ap (λ (xs : _). channel_bound xs a) c.in_ok-holders.ensures;
  paired = subst IsPaired (sym c.in_ok-holders.ensures) none_paired;
  waiting = c.new-4.ensures.items;
}

pub returns-clause-client : goal.returns-clause-client
returns-clause-client c = λ server. record {
  bunches = record {
    made = c.in_ok-out.ensures.keeps;
    got = c.new-3.ensures AtClient server;
    high = c.in_ok-out.ensures.keeps.high;
  };
  bound = λ a. ap (λ (xs : _). channel_bound xs a) c.in_ok-holders.ensures;
  paired = subst IsPaired (sym c.in_ok-holders.ensures) none_paired;
  waiting = c.new-4.ensures.items;
}
