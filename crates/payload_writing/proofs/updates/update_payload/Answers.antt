use Rattle.std.proofs.Common.{◌≡◌, ◌∙◌, ℕ, ◌++◌, List, Bool, take, length, ap, subst, arith}
use Rattle.std.proofs.Math.Seq.{take-append_seam}
use Rattle.protocol_model.specs.Bits.{packed_bits}
use Rattle.protocol_model.specs.Payload.{pair_bits}
use Rattle.protocol_model.specs.Value.{Class}
use Rattle.protocol_model.specs.World.{class_at}
use Rattle.bit_io.specs.Written.{Appends}
use Rattle.class_layout.specs.Tables.{table_in}
use Rattle.payload_reading.specs.Values.{pair_value}
use Rattle.payload_writing.proofs.Longest.{HasRoomFor, begun, one_begun, all_fit, some_fit, longest_pairs, longest_bits}
use Rattle.payload_writing.proofs.Loops.{room_kept}
use Rattle.payload_writing.proofs.updates.update_payload.Goals as goal

pub loop-count-preserved : goal.loop-count-preserved
loop-count-preserved c =
    let pair = c.index-values-count.result in
    let put = c.put_pair.ensures.bits c.args.classes.now.segments in
    record {
      bits = one_begun (class_at (table_in c.args.classes.now) c.args.class) c.args.values.now c.loop-count.count pair
          c.loop-count.w c.put_pair.new.w c.loop-count-test.true c.index-values-count.is c.loop-count.invariant.bits
          (subst (λ (class : Class). Appends c.loop-count.w c.put_pair.new.w (pair_bits class (pair_value pair)))
          c.class_at-class.ensures.class put);
      short = omega (arith, c.len.ensures, c.if-len-gt-UPDATE_BITS.false);
      room = omega (arith, c.loop-count.invariant.room, c.put_pair.ensures.room);
      total = omega (arith, c.loop-count.invariant.total, room_kept put);
    }

-- ---- where a value has no room

some_have_room : (c : goal.In_ok-bits)
    → HasRoomFor (class_at (table_in c.args.classes.now) c.args.class) c.args.values.now c.loop-count.count
some_have_room c =
    let class = class_at (table_in c.args.classes.now) c.args.class in
    let pair = c.index-values-count.result in
    let more = one_begun class c.args.values.now c.loop-count.count pair c.loop-count.w c.put_pair.new.w
    c.loop-count-test.true c.index-values-count.is c.loop-count.invariant.bits
    (subst (λ (class : Class). Appends c.loop-count.w c.put_pair.new.w (pair_bits class (pair_value pair)))
    c.class_at-class.ensures.class (c.put_pair.ensures.bits c.args.classes.now.segments)) in
    some_fit class c.args.values.now c.loop-count.count c.loop-count.w.bits c.put_pair.new.w.bits
    c.loop-count.invariant.bits more c.loop-count-test.true c.loop-count.invariant.short
    (omega (arith, c.len.ensures, c.if-len-gt-UPDATE_BITS.true))

pub returns-then-len-gt-UPDATE_BITS-clause-values : goal.returns-then-len-gt-UPDATE_BITS-clause-values
returns-then-len-gt-UPDATE_BITS-clause-values c =
    let class = class_at (table_in c.args.classes.now) c.args.class in
    longest_pairs class c.args.values.now c.loop-count.count (some_have_room c)

pub returns-then-len-gt-UPDATE_BITS-clause-bits : goal.returns-then-len-gt-UPDATE_BITS-clause-bits
returns-then-len-gt-UPDATE_BITS-clause-bits c = λ seen e.
    (let class = class_at (table_in c.args.classes.now) c.args.class in
    let put = c.put_pair.ensures.bits c.args.classes.now.segments in
    c.in_ok-bits.ensures
    ∙ ap (λ (bits : List Bool). bits ++ packed_bits 0)
    (ap (λ (n : ℕ). take n c.put_pair.new.w.bits) c.len-before.ensures
    ∙ ap (λ (bits : List Bool). take (length c.loop-count.w.bits) bits) put.bits
    ∙ take-append_seam c.loop-count.w.bits _
    ∙ c.loop-count.invariant.bits)
    ∙ longest_bits class c.args.values.now c.loop-count.count (some_have_room c) seen e)

-- ---- where all have room

all_are : (c : goal.After-into_bits) → c.loop-count.w.bits
    ≡ begun (class_at (table_in c.args.classes.now) c.args.class) c.args.values.now (length c.args.values.now)
all_are c =
    let all : c.loop-count.count ≡ length c.args.values.now =
    omega (arith, c.loop-count-test.false, c.loop-count.auto.count-end) in
    c.loop-count.invariant.bits
    ∙ ap (begun (class_at (table_in c.args.classes.now) c.args.class) c.args.values.now) all

all_have_room : (c : goal.After-into_bits)
    → HasRoomFor (class_at (table_in c.args.classes.now) c.args.class) c.args.values.now (length c.args.values.now)
all_have_room c =
    all_fit (class_at (table_in c.args.classes.now) c.args.class) c.args.values.now c.loop-count.w.bits (all_are c)
    c.loop-count.invariant.short

pub returns-clause-values : goal.returns-clause-values
returns-clause-values c =
    let class = class_at (table_in c.args.classes.now) c.args.class in
    longest_pairs class c.args.values.now (length c.args.values.now) (all_have_room c)

pub returns-clause-bits : goal.returns-clause-bits
returns-clause-bits c = λ seen e.
    (let class = class_at (table_in c.args.classes.now) c.args.class in
    c.into_bits.ensures ∙ c.put_packed.ensures.bits
    ∙ ap (λ (bits : List Bool). bits ++ packed_bits 0) (all_are c)
    ∙ longest_bits class c.args.values.now (length c.args.values.now) (all_have_room c) seen e)
