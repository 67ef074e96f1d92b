use Rattle.std.proofs.Common.{inr, [], ◌∷◌, true, refl, sym, ap, ◌∙◌, subst, arith}
use Rattle.std.proofs.lemmas.Option.{none-some}
use Rattle.std.specs.Prelude.{codes, pos}
use Rattle.protocol_model.specs.BuiltIn.{built_in_table, pawn}
use Rattle.protocol_model.specs.declared.Way.{Way}
use Rattle.protocol_model.specs.declared.Kind.{Kind}
use Rattle.protocol_model.specs.Value.{Table, Call}
use Rattle.protocol_model.specs.World.{Edits, Spawn}
use Rattle.value_codec.specs.declared.args.Arg.{Arg}
use Rattle.value_codec.specs.declared.value.Value.{Value}
use Rattle.class_layout.specs.Tables.{table_in}
use Rattle.net_driver.specs.Served.{first_served}
use Rattle.net_driver.specs.Calls.{IsMade}
use Rattle.driver_tests.proofs.joins.two_players_join_and_a_pawn_is_called.Goals as goal

-- the Pawn's second call
abbrev hurt : Call
hurt = record { name = codes "hurt"; way = Way.Client; reliable = true; args = Kind.U8 ∷ [] }

-- the world once a Pawn was spawned
abbrev spawned : Edits
spawned = Spawn 0 (pos 3) (pos 4) ∷ []

made : IsMade built_in_table spawned 2 2 (Arg.Scalar (Value.U8 5) ∷ [])
unfolding pawn
made = record {
  spawned = λ e. none-some (record { class = 0; x = pos 3; y = pos 4 }) (sym e);
  call = hurt;
  there = refl;
  way = refl;
  fit = refl;
}

pub join-requires-2-clause-stands : goal.join-requires-2-clause-stands
join-requires-2-clause-stands g c = inr (_, c.in_ok-join.ensures.serves first_served c.in_ok-driver.ensures.serves)

pub edit-requires : goal.edit-requires
edit-requires g c =
    inr (
      _,
      c.in_ok-join-2.ensures.serves _
          (c.in_ok-join.ensures.serves first_served c.in_ok-driver.ensures.serves),
      omega arith,
    )

pub call-requires : goal.call-requires
call-requires g c =
    let joined = c.in_ok-join-2.ensures.serves _
    (c.in_ok-join.ensures.serves first_served c.in_ok-driver.ensures.serves) in
    let layout = c.in_ok-spawned.ensures.layout ∙ c.in_ok-join-2.ensures.layout ∙ c.in_ok-join.ensures.layout
    ∙ c.in_ok-driver.ensures.layout in
    record {
      stands = inr (
        _,
        c.in_ok-spawned.ensures.serves _ joined,
        refl,
        subst (λ (t : Table). IsMade t spawned 2 2 (Arg.Scalar (Value.U8 5) ∷ []))
            (sym (ap table_in layout ∙ c.in_ok-classes.ensures.table)) made,
      );
    }
