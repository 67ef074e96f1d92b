-- What stands before anything was done.
use Rattle.std.proofs.Common.{◌≡◌, ◌≤◌, [], refl, arith}
use Rattle.std.proofs.lemmas.Option.{none-some}
use Rattle.protocol_model.specs.Side.{AtClient}
use Rattle.protocol_model.specs.declared.Version.{Version}
use Rattle.connection_model.specs.Feed.{End}
use Rattle.link_end.specs.Link.{Link}
use Rattle.link_end.specs.Rests.{Rests}
use Rattle.channel_table.specs.Channels.{Channels}
use Rattle.channel_table.specs.Stands.{Stands as StandsTable}
use Rattle.client_sending.specs.Stands.{Stands, MaySend, AreSpelled}

pub may_send_first : (version : Version) → MaySend version []
may_send_first version = record {
  few = omega arith;
  low = λ ch le. refl;
  opens = refl;
  waits = record { few = omega arith; short = λ i call e. absurd (none-some call e) };
}

pub spelled_first : (version : Version) → AreSpelled version []
spelled_first version a ch e = absurd (none-some ch e)

pub stands_first : (l : Link) (t : Channels) (end : End) → end.side ≡ AtClient → 1 ≤ end.budget → Rests l end []
    → StandsTable t AtClient [] → Stands l t end []
stands_first l t end side some link table = record {
  side = side;
  budget = some;
  alive = refl;
  link = link;
  table = table;
  held = spelled_first end.version;
  may = may_send_first end.version;
}
