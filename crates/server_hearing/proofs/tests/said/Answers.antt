use Rattle.std.proofs.Common.{[], refl}
use Rattle.protocol_model.specs.Side.{AtServer}
use Rattle.connection_model.specs.Feed.{End}
use Rattle.class_layout.specs.Tables.{table_in}
use Rattle.server_hearing.proofs.tests.said.Goals as goal

pub take-requires : goal.take-requires
take-requires c =
    let end : End = record {
      side = AtServer;
      version = c.args.version;
      budget = 100000;
      table = table_in c.args.classes.now;
    } in (
      end,
      [],
      [],
      [],
      record {
        side = refl;
        alive = refl;
        world = c.new-world.ensures.stands;
        opened = λ a class e. absurd (cc);
        stands = record {
          sender = c.new-sender.ensures;
          link = c.in_ok-link.ensures end refl refl;
          table = c.in_ok-table.ensures.server refl;
        };
        calm = λ ch. tt;
      },
    )
