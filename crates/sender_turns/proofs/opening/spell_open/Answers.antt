use Rattle.std.proofs.Common.{◌≡◌, ◌∙◌, ◌≤◌, ℕ, List, Bool, Some, false, length, map, slice_index_or, ap, sym, subst, rules, arith}
use Rattle.std.specs.List.{slice_get, filter}
use Rattle.std.proofs.lemmas.Grind.{common_steps}
use Rattle.std.proofs.lemmas.List.{length-map}
use Rattle.protocol_model.specs.Limits.{handle_limit, payload_bits}
use Rattle.protocol_model.specs.Payload.{Opens, message_bits}
use Rattle.protocol_model.specs.Value.{Segment as SegmentSpec}
use Rattle.protocol_model.specs.World.{class_at}
use Rattle.connection_model.specs.Feed.{Past}
use Rattle.connection_model.specs.Exports.{is_known, needed_segments, exports_segment}
use Rattle.class_layout.specs.Tables.{table_in, segment_at}
use Rattle.value_codec.specs.declared.pair.Pair.{Pair as PairValue}
use Rattle.sender_records.specs.Handles.{pair_value, pairs_of}
use Rattle.sender_turns.specs.Opening.{is_unknown}
use Rattle.sender_steps.proofs.Tables.{class_there}
use Rattle.sender_turns.proofs.Short.{open_short}
use Rattle.sender_turns.proofs.Unknown.{needed_is, exports_are}
use Rattle.sender_turns.proofs.opening.spell_open.Goals as goal

-- the segments that are needed of its class
needs : (c : goal.In_ok-payload) (past : Past)
    → ((g : ℕ) → is_known past g ≡ slice_index_or c.args.known.now g false)
    → needed_segments past (class_at (table_in c.args.classes.now) c.args.seen.now.class)
    ≡ map (segment_at c.args.classes.now.segments) c.in_ok-guids.guids
needs c past places =
    let there : slice_get c.args.classes.now.classes c.args.seen.now.class ≡ Some c.unwrap-class.result.now =
    first_of (search rules, grind (arith, common_steps)) in
    let path : c.in_ok-guids.guids ≡ filter (is_unknown c.args.known.now) c.unwrap-class.result.now.path =
    first_of (search rules, grind (arith, common_steps)) in
    ap (needed_segments past) (class_there c.args.classes.now c.args.seen.now.class c.unwrap-class.result.now there)
    ∙ sym (needed_is c.args.classes.now.segments past c.args.known.now c.unwrap-class.result.now.path places)
    ∙ ap (map (segment_at c.args.classes.now.segments)) (sym path)

pub returns-clause-payload : goal.returns-clause-payload
returns-clause-payload c = λ past places.
    let guids : c.as_slice-2.result.now ≡ c.in_ok-guids.guids =
    first_of (search rules, grind (arith, common_steps)) in
    let values : c.as_slice-values.result.now ≡ c.args.seen.now.values = c.as_slice-values.ensures in
    ap (λ (segments : List SegmentSpec). message_bits (Opens segments c.args.seen.now.actor
    (class_at (table_in c.args.classes.now) c.args.seen.now.class) (pairs_of c.args.seen.now.values)))
    (needs c past places ∙ ap (map (segment_at c.args.classes.now.segments)) (sym guids))
    ∙ ap (λ (values : List PairValue). message_bits (Opens
    (map (segment_at c.args.classes.now.segments) c.as_slice-2.result.now) c.args.seen.now.actor
    (class_at (table_in c.args.classes.now) c.args.seen.now.class) (pairs_of values))) (sym values)
    ∙ sym c.in_ok-payload.ensures

pub returns-clause-guids : goal.returns-clause-guids
returns-clause-guids c = λ past places g.
    ap (λ (segments : List SegmentSpec). exports_segment g (Opens segments c.args.seen.now.actor
    (class_at (table_in c.args.classes.now) c.args.seen.now.class) (pairs_of c.args.seen.now.values)))
    (needs c past places)
    ∙ exports_are c.args.classes.now.segments c.in_ok-guids.guids g

pub returns-clause-most : goal.returns-clause-most
returns-clause-most c =
    let guids : c.as_slice-2.result.now ≡ c.in_ok-guids.guids =
    first_of (search rules, grind (arith, common_steps)) in
    let few : length c.as_slice-values.result.now ≤ handle_limit =
    subst (λ (values : List PairValue). length values ≤ handle_limit) (sym c.as_slice-values.ensures) c.requires.few in
    subst (λ (bits : List Bool). length bits ≤ payload_bits) (sym c.in_ok-payload.ensures)
    (open_short c.args.classes.now c.as_slice-2.result.now c.args.seen.now.actor
    (class_at (table_in c.args.classes.now) c.args.seen.now.class) (pairs_of c.as_slice-values.result.now)
    c.keeps_rules.ensures.layout (first_of (search rules, grind (arith, common_steps)))
    (omega (arith, few, length-map c.as_slice-values.result.now pair_value)))
