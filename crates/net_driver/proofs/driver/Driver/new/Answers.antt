use Rattle.std.proofs.Common.{List, [], refl, sym, subst, arith}
use Rattle.std.proofs.lemmas.Option.{none-some}
use Rattle.driver_sights.specs.declared.graves.Grave.{Grave}
use Rattle.driver_sights.specs.Graves.{AreGraves}
use Rattle.class_layout.specs.Tables.{table_in}
use Rattle.net_driver.specs.declared.chair.Chair.{Chair}
use Rattle.net_driver.specs.Serves.{AreSeated}
use Rattle.net_driver.proofs.driver.Driver.new.Goals as goal

pub returns-clause-serves : goal.returns-clause-serves
returns-clause-serves c = record {
  world = search;
  layout = search;
  graph = c.in_ok-graph.ensures.stands (table_in c.args.classes.now);
  changes = c.new-3.ensures;
  from_one = λ a. tt;
  there = λ a spawned e. absurd (none-some spawned e);
  ticks = search;
  sampled = λ a. record { until = refl; sized = refl; none = λ e. refl };
  graves = subst (λ (gs : List Grave). AreGraves c.args.classes.now [] gs) (sym c.new-4.ensures.items) (record { each = tt; once = tt });
  fits = tt;
  seated = subst (λ (cs : List Chair). AreSeated (table_in c.args.classes.now) [] [] 0 c.new-5.result.slots cs [])
      (sym c.new-6.ensures.items) tt;
  rising = search;
  few = omega arith;
  kept = search;
}
