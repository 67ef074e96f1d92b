use Rattle.std.proofs.Common.{◌≡◌, ◌++◌, ℕ, [], map, length, Bool, ◌∙◌, ap, sym, subst, arith}
use Rattle.protocol_model.specs.Value.{value_among}
use Rattle.protocol_model.specs.Payload.{Opens}
use Rattle.class_layout.specs.Tables.{class_of}
use Rattle.connection_model.specs.Bunches.{after_making}
use Rattle.sender_laws.specs.Values.{IsCurrent}
use Rattle.sender_laws.proofs.Makes.{ticks_sent, ticks_under}
use Rattle.sender_laws.proofs.Samples.{noted_none}
use Rattle.sender_records.specs.declared.handle.HandleRecord.{HandleRecord}
use Rattle.sender_records.specs.Handles.{by_value, pair_value, handle_opened, is_updatable_in, KeepsHandle}
use Rattle.sender_records.proofs.HandleSteps.{opened_keeps}
use Rattle.sender_records.proofs.TableSteps.{agreed_by}
use Rattle.sender_records.proofs.table.HandleTable.opens.Goals as goal

pub returns-clause-keeps : goal.returns-clause-keeps
returns-clause-keeps c = λ sent past channel actor exports shown samples e none now_is sampled turn.
    let updatable : ℕ → Bool = λ (h : ℕ). is_updatable_in (class_of [] c.args.class.now) c.args.owns h in
    let now : IsCurrent samples c.args.sampled =
    λ i lt. noted_none samples c.args.sampled i turn (omega (arith, sampled.tick)) in
    record {
      each = λ h.
          subst (KeepsHandle (sent ++ after_making past channel
          (Opens exports actor shown (map pair_value c.args.values.now))) samples actor c.args.sampled
          c.args.tick h)
          (sym (c.open_all.ensures.each [] h sampled.apart
          ∙ ap (λ (k : HandleRecord). by_value (handle_opened c.args.tick (updatable h)) k
          (value_among (map pair_value c.args.values.now) h))
          (c.forget_all.ensures.each h)))
          (opened_keeps sent past e channel exports actor shown
          (map pair_value c.args.values.now) none samples c.args.sampled c.args.tick h
          (updatable h) c.requires
          (agreed_by samples (map pair_value c.args.values.now) c.args.sampled h sampled.agrees now));
      compared = omega (arith, sampled.tick);
      some = c.requires;
      now =
          omega (
            arith,
            now_is,
            ap length (ticks_under sent past channel (Opens exports actor shown (map pair_value c.args.values.now))
                ∙ ticks_sent sent past e),
          );
    }
