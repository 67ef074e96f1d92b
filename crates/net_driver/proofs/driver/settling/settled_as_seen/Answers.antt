use Rattle.std.proofs.Common.{◌≡◌, map, Some, sym, ap, ◌∙◌, subst}
use Rattle.std.specs.Prelude.{slice_get}
use Rattle.std.specs.Option.{option_copied}
use Rattle.connection_model.specs.Settled.{is_settled_as}
use Rattle.table_model.specs.Facts.{IsTable}
use Rattle.class_layout.specs.Tables.{Layout, table_in, entries_in}
use Rattle.value_codec.specs.Values.{whole_of}
use Rattle.sender_steps.specs.Sights.{seen_value}
use Rattle.driver_sights.proofs.Classes.{class_there, few_there, look_is}
use Rattle.net_driver.proofs.driver.settling.settled_as_seen.Goals as goal

pub sampled-requires : goal.sampled-requires
sampled-requires g c =
    record {
      most = few_there c.args.world.now.layout c.in-Some.look.class c.in-Some-class.class.now
          (ap (λ (l : Layout). slice_get l.classes c.in-Some.look.class) (sym c.classes-classes.ensures)
          ∙ sym c.class.ensures ∙ ap option_copied c.in-Some-class.is)
          (subst (λ (l : Layout). IsTable (entries_in l)) c.classes-classes.ensures c.keeps_rules.ensures.rules);
    }

pub seen-requires : goal.seen-requires
seen-requires g c =
    record {
      most = few_there c.args.world.now.layout c.in-Some.look.class c.in-Some-class.class.now
          (ap (λ (l : Layout). slice_get l.classes c.in-Some.look.class) (sym c.classes-classes.ensures)
          ∙ sym c.class.ensures ∙ ap option_copied c.in-Some-class.is)
          (subst (λ (l : Layout). IsTable (entries_in l)) c.classes-classes.ensures c.keeps_rules.ensures.rules);
    }

pub returns : goal.returns
returns g c = λ edits past samples w both.
    let found : slice_get c.args.world.now.layout.classes c.in-Some.look.class ≡ Some c.in-Some-class.class.now =
    ap (λ (l : Layout). slice_get l.classes c.in-Some.look.class) (sym c.classes-classes.ensures) ∙ sym c.class.ensures
    ∙ ap option_copied c.in-Some-class.is in
    let look = sym (c.look.ensures.look edits w) ∙ c.in-Some.is in
    let is = look_is (table_in c.args.world.now.layout) edits c.args.actor c.in-Some.look look in
    let class = is.class
    ∙ class_there c.args.world.now.layout c.in-Some.look.class c.in-Some-class.class.now found in
    c.settled-settled.ensures past samples both
    ∙ ap (λ (l : Layout). is_settled_as past (seen_value l c.in_ok-entry.entry)) c.classes-classes.ensures
    ∙ ap (is_settled_as past) (c.in_ok-entry.ensures.entry edits w look class
    (ap (map whole_of) c.as_slice.ensures ∙ c.in_ok-values.ensures.values edits w is.spawned class))
