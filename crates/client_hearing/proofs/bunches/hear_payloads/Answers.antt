use Rattle.std.proofs.Common.{◌≡◌, ◌∙◌, ◌+◌, ◌∷◌, ℕ, List, drop, length, Bool, Ok, Err, refl, sym, ap, subst, arith}
use Rattle.std.proofs.lemmas.List.{drop_more, drop_all}
use Rattle.protocol_model.specs.declared.Version.{Version}
use Rattle.receiving_laws.specs.Receiving.{Raw}
use Rattle.incoming_channels.specs.declared.message.Message.{Message}
use Rattle.channel_table.specs.Channels.{Channels}
use Rattle.client_hearing.specs.Moments.{Moment, AreComing}
use Rattle.client_hearing.specs.Hearing.{with_payloads, AreHeard}
use Rattle.client_hearing.proofs.Turns.{Going, Next, going_first, going_on, going_stops, going_done, next_of, carried, carried_table}
use Rattle.client_hearing.proofs.bunches.hear_payloads.Goals as goal

pub loop-m-init : goal.loop-m-init
loop-m-init c =
    let r = c.requires in record {
      own = (
        r.0,
        r.1,
        r.2,
        r.4,
        going_first c.args.classes.now r.0 c.args.table.now.bound c.args.names.now c.args.copies.now
            c.args.calls.now.items r.1 r.2 r.3 r.4 c.args.whole.now r.5,
      );
      going = λ version w ch held raws h.
          going_first c.args.classes.now version c.args.table.now.bound c.args.names.now c.args.copies.now
          c.args.calls.now.items w ch held raws c.args.whole.now h;
      rest = refl;
    }

pub hear_payload-requires : goal.hear_payload-requires
hear_payload-requires c =
    let i = c.loop-m.m-index in
    let split : drop i c.args.whole.now ≡ c.m-item.result ∷ drop (i + 1) c.args.whole.now =
    drop_more c.args.whole.now i c.m-item.result c.loop-m-test.true
    ∙ ap (λ (m : Message). m ∷ drop (i + 1) c.args.whole.now) (sym c.m-item.is) in
    let o = c.loop-m.invariant.own in
    let g = subst (Going c.args.classes.now o.0 c.loop-m.table.bound c.loop-m.names c.loop-m.copies
    c.loop-m.calls.items o.1 o.2 o.3) split o.4 in
    let n = next_of c.args.classes.now o.0 c.loop-m.table.bound c.loop-m.names c.loop-m.copies
    c.loop-m.calls.items (with_payloads g.payloads o.1) o.2 g.held g.rest c.m-item.result
    (drop (i + 1) c.args.whole.now) g.coming in
    (o.0, with_payloads g.payloads o.1, n.raw, g.held, n.coming)

pub returns-in_err-hear_payload-clause-heard : goal.returns-in_err-hear_payload-clause-heard
returns-in_err-hear_payload-clause-heard c = λ version w ch held raws h.
    let i = c.loop-m.m-index in
    let split : drop i c.args.whole.now ≡ c.m-item.result ∷ drop (i + 1) c.args.whole.now =
    drop_more c.args.whole.now i c.m-item.result c.loop-m-test.true
    ∙ ap (λ (m : Message). m ∷ drop (i + 1) c.args.whole.now) (sym c.m-item.is) in
    let g = subst (Going c.args.classes.now version c.loop-m.table.bound c.loop-m.names c.loop-m.copies
    c.loop-m.calls.items w ch raws) split (c.loop-m.invariant.going version w ch held raws h) in
    let n = next_of c.args.classes.now version c.loop-m.table.bound c.loop-m.names c.loop-m.copies
    c.loop-m.calls.items (with_payloads g.payloads w) ch g.held g.rest c.m-item.result
    (drop (i + 1) c.args.whole.now) g.coming in
    carried (AreHeard c.args.classes.now version c.hear_payload.new.table.bound c.hear_payload.new.names
    c.hear_payload.new.copies c.hear_payload.new.calls.items w ch raws) c.from_residual.result
    c.in_err-hear_payload.field-0.0 c.from_residual.ensures.1
    (going_stops c.args.classes.now version c.loop-m.table.bound c.hear_payload.new.table.bound
    c.loop-m.names c.hear_payload.new.names c.loop-m.copies c.hear_payload.new.copies
    c.loop-m.calls.items c.hear_payload.new.calls.items w ch raws c.m-item.result
    (drop (i + 1) c.args.whole.now) c.in_err-hear_payload.field-0.0 g n
    (c.in_err-hear_payload.ensures.heard version (with_payloads g.payloads w) n.raw g.held n.coming))

pub returns-in_err-hear_payload-clause-rest : goal.returns-in_err-hear_payload-clause-rest
returns-in_err-hear_payload-clause-rest c =
    carried_table c.args.table.now c.loop-m.table c.hear_payload.new.table c.loop-m.invariant.rest
    c.in_err-hear_payload.ensures.rest

pub loop-m-preserved : goal.loop-m-preserved
loop-m-preserved c = record {
  own = let o = c.loop-m.invariant.own in (o.0, o.1, o.2, o.3, on o.0 o.1 o.2 o.3 o.4);
  going = λ version w ch held raws h. on version w ch raws (c.loop-m.invariant.going version w ch held raws h);
  rest = carried_table c.args.table.now c.loop-m.table c.hear_payload.new.table c.loop-m.invariant.rest
      c.in_ok-hear_payload.ensures.rest;
}
  where
    on : (version : Version) (w : Moment) (ch : ℕ) (raws : List Raw)
        → Going c.args.classes.now version c.loop-m.table.bound c.loop-m.names c.loop-m.copies
        c.loop-m.calls.items w ch raws (drop c.loop-m.m-index c.args.whole.now)
        → Going c.args.classes.now version c.hear_payload.new.table.bound c.hear_payload.new.names
        c.hear_payload.new.copies c.hear_payload.new.calls.items w ch raws
        (drop (c.loop-m.m-index + 1) c.args.whole.now)
    on version w ch raws going =
        let i = c.loop-m.m-index in
        let split : drop i c.args.whole.now ≡ c.m-item.result ∷ drop (i + 1) c.args.whole.now =
        drop_more c.args.whole.now i c.m-item.result c.loop-m-test.true
        ∙ ap (λ (m : Message). m ∷ drop (i + 1) c.args.whole.now) (sym c.m-item.is) in
        let g = subst (Going c.args.classes.now version c.loop-m.table.bound c.loop-m.names c.loop-m.copies
        c.loop-m.calls.items w ch raws) split going in
        let n = next_of c.args.classes.now version c.loop-m.table.bound c.loop-m.names c.loop-m.copies
        c.loop-m.calls.items (with_payloads g.payloads w) ch g.held g.rest c.m-item.result
        (drop (i + 1) c.args.whole.now) g.coming in
        going_on c.args.classes.now version c.loop-m.table.bound c.hear_payload.new.table.bound
        c.loop-m.names c.hear_payload.new.names c.loop-m.copies c.hear_payload.new.copies
        c.loop-m.calls.items c.hear_payload.new.calls.items w ch raws c.m-item.result
        (drop (i + 1) c.args.whole.now) g n
        (c.in_ok-hear_payload.ensures.heard version (with_payloads g.payloads w) n.raw g.held n.coming)

pub returns-clause-heard : goal.returns-clause-heard
returns-clause-heard c = λ version w ch held raws h.
    going_done c.args.classes.now version c.loop-m.table.bound c.loop-m.names c.loop-m.copies
    c.loop-m.calls.items w ch raws
    (subst (Going c.args.classes.now version c.loop-m.table.bound c.loop-m.names c.loop-m.copies
    c.loop-m.calls.items w ch raws)
    (drop_all c.loop-m.m-index c.args.whole.now (omega (arith, c.loop-m-test.false)))
    (c.loop-m.invariant.going version w ch held raws h))

pub returns-clause-rest : goal.returns-clause-rest
returns-clause-rest c = c.loop-m.invariant.rest
