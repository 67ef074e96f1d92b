use Rattle.std.proofs.Common.{◌≡◌, ◌∙◌, inl, inr, ℕ, ◌<◌, List, ◌++◌, length, take, not, refl, sym, ap, subst, arith, append-nil}
use Rattle.std.specs.Bool.{IsTrue}
use Rattle.std.specs.List.{filter}
use Rattle.protocol_model.specs.Packet.{channel_limit}
use Rattle.protocol_model.specs.Payload.{Updates, message_bits}
use Rattle.protocol_model.specs.Side.{AtServer}
use Rattle.protocol_model.specs.Value.{Class, Pair as PairSpec}
use Rattle.protocol_model.specs.World.{class_at}
use Rattle.connection_model.specs.Feed.{Past, Loose}
use Rattle.connection_model.specs.Items.{loose_item, loose_bunch, update_message, update_pairs}
use Rattle.connection_model.specs.Pack.{after_offer}
use Rattle.value_codec.specs.declared.pair.Pair.{Pair}
use Rattle.bit_io.specs.Lent.{slice_bits}
use Rattle.bunch_packing.specs.Both.{PacksBoth, packet_for}
use Rattle.bunch_packing.proofs.Carrying.{had_room, had_none}
use Rattle.class_layout.specs.Tables.{table_in}
use Rattle.link_end.specs.Packs.{sent_now}
use Rattle.payload_writing.specs.Values.{pair_fits, pairs_fit}
use Rattle.sender_laws.specs.Acts.{sent_more}
use Rattle.sender_records.specs.Actors.{KeepsActor}
use Rattle.sender_records.specs.Handles.{handle_in, pairs_of, AreApart, Agrees, AllBelow}
use Rattle.sender_steps.specs.declared.sent.UpdateSent.{UpdateSent}
use Rattle.sender_steps.specs.Sights.{seen_value}
use Rattle.sender_turns.specs.Updating.{is_marked_value}
use Rattle.sender_steps.proofs.Tables.{class_there}
use Rattle.sender_turns.proofs.Serving.{all_filtered}
use Rattle.sender_turns.proofs.Updated.{update_short, due_values, held, after_is, full_then, keeps_full, no_note, ready_then, one_note, noted_in, same_index, no_index, all_there, goes_in, apart_went, agrees_went, below_went}
use Rattle.sender_turns.proofs.updating.update_one.Goals as goal

pub returns-in_default-clause-room : goal.returns-in_default-clause-room
returns-in_default-clause-room c = λ t end before now p ch samples h.
    absurd (no_index ch (sym c.in_default.is ∙ held c.args.classes.now c.args.seen.now c.args.kept.now
    c.args.link.now t end before now p ch samples c.args.tick h))

pub returns-in_default-clause-packs : goal.returns-in_default-clause-packs
returns-in_default-clause-packs c = λ t end before now p ch samples h.
    absurd (no_index ch (sym c.in_default.is ∙ held c.args.classes.now c.args.seen.now c.args.kept.now
    c.args.link.now t end before now p ch samples c.args.tick h))

pub returns-in_default-clause-keeps : goal.returns-in_default-clause-keeps
returns-in_default-clause-keeps c = λ t end before now p ch samples h.
    absurd (no_index ch (sym c.in_default.is ∙ held c.args.classes.now c.args.seen.now c.args.kept.now
    c.args.link.now t end before now p ch samples c.args.tick h))

pub returns-in_default-clause-notes : goal.returns-in_default-clause-notes
returns-in_default-clause-notes c = λ t end before now p ch samples h.
    absurd (no_index ch (sym c.in_default.is ∙ held c.args.classes.now c.args.seen.now c.args.kept.now
    c.args.link.now t end before now p ch samples c.args.tick h))

pub returns-in_default-class-clause-room : goal.returns-in_default-class-clause-room
returns-in_default-class-clause-room c = λ t end before now p ch samples h.
    absurd (all_there c.args.classes.now.classes c.args.seen.now.class
    (sym c.in_default-class.ensures) h.class)

pub returns-in_default-class-clause-packs : goal.returns-in_default-class-clause-packs
returns-in_default-class-clause-packs c = λ t end before now p ch samples h.
    absurd (all_there c.args.classes.now.classes c.args.seen.now.class
    (sym c.in_default-class.ensures) h.class)

pub returns-in_default-class-clause-keeps : goal.returns-in_default-class-clause-keeps
returns-in_default-class-clause-keeps c = λ t end before now p ch samples h.
    absurd (all_there c.args.classes.now.classes c.args.seen.now.class
    (sym c.in_default-class.ensures) h.class)

pub returns-in_default-class-clause-notes : goal.returns-in_default-class-clause-notes
returns-in_default-class-clause-notes c = λ t end before now p ch samples h.
    absurd (all_there c.args.classes.now.classes c.args.seen.now.class
    (sym c.in_default-class.ensures) h.class)

pub update_payload-requires-clause-fit : goal.update_payload-requires-clause-fit
update_payload-requires-clause-fit c =
    let r = c.requires in
    let class = class_there c.args.classes.now c.args.seen.now.class c.in-Some-class.class.now
    (sym c.in-Some-class.ensures) in
    let values : c.as_slice.result.now ≡ due_values c.args.classes.now c.args.seen.now c.args.kept.now
    c.args.link.now r.0 r.1 r.2 r.3 r.4 r.5 r.6 c.args.tick r.7 =
    c.as_slice.ensures.value ∙ c.in_ok-due.ensures c.args.classes.now.segments
    ∙ ap (λ (k : Class). filter (is_marked_value k c.args.seen.now.owns c.args.kept.now.handles)
    c.args.seen.now.values) (sym class) in
    let shown = class_at (table_in c.args.classes.now) c.args.seen.now.class in
    subst (λ (vs : List Pair). IsTrue (pairs_fit shown vs)) (sym values)
    (all_filtered (pair_fits shown) (is_marked_value shown c.args.seen.now.owns c.args.kept.now.handles)
    c.args.seen.now.values r.7.fit)

pub offer_loose-requires-clause-begun : goal.offer_loose-requires-clause-begun
offer_loose-requires-clause-begun c =
    let r = c.requires in
    let index = same_index c.in-Some.index r.5 (sym c.in-Some.is ∙ held c.args.classes.now c.args.seen.now
    c.args.kept.now c.args.link.now r.0 r.1 r.2 r.3 r.4 r.5 r.6 c.args.tick r.7) in
    inr (
      r.0,
      r.1,
      AtServer,
      r.2,
      r.4,
      r.7.both,
      r.7.is_ready,
      subst (λ (n : ℕ). n < channel_limit r.1.version) (sym index) r.7.low,
    )

pub offer_loose-requires-clause-most : goal.offer_loose-requires-clause-most
offer_loose-requires-clause-most c =
    let seen = seen_value c.args.classes.now c.args.seen.now in
    let bits = ap length (c.lend.ensures ∙ c.in_ok-payload.ensures.bits seen refl) in
    omega (arith, bits, update_short seen (pairs_of c.as_slice.result.now))

pub returns-in_default-2-clause-room : goal.returns-in_default-2-clause-room
returns-in_default-2-clause-room c = λ t end before now p ch samples h.
    let class = class_there c.args.classes.now c.args.seen.now.class c.in-Some-class.class.now
    (sym c.in-Some-class.ensures) in
    let values : c.as_slice.result.now ≡ due_values c.args.classes.now c.args.seen.now c.args.kept.now
    c.args.link.now t end before now p ch samples c.args.tick h =
    c.as_slice.ensures.value ∙ c.in_ok-due.ensures c.args.classes.now.segments
    ∙ ap (λ (k : Class). filter (is_marked_value k c.args.seen.now.owns c.args.kept.now.handles)
    c.args.seen.now.values) (sym class) in
    let seen = seen_value c.args.classes.now c.args.seen.now in
    let m = update_message seen (update_pairs seen (pairs_of (due_values c.args.classes.now c.args.seen.now
    c.args.kept.now c.args.link.now t end before now p ch samples c.args.tick h))) in
    let index = same_index c.in-Some.index ch (sym c.in-Some.is ∙ held c.args.classes.now c.args.seen.now
    c.args.kept.now c.args.link.now t end before now p ch samples c.args.tick h) in
    let bits : message_bits m ≡ slice_bits c.lend.result =
    ap (λ (vs : List Pair). message_bits (update_message seen (update_pairs seen (pairs_of vs)))) (sym values)
    ∙ sym (c.in_ok-payload.ensures.bits seen refl) ∙ sym c.lend.ensures in
    let told = c.in_ok-packet.ensures.packet t end AtServer before p m h.both bits
    ∙ ap (λ (n : ℕ). packet_for end p (loose_item m n)) index in
    let none = had_none end p (loose_item m ch) (sym c.in_default-2.is ∙ told) in
    ap not (sym (full_then c.args.classes.now c.args.seen.now c.args.kept.now c.args.link.now t end before now p ch
    samples c.args.tick h none))

pub returns-in_default-2-clause-packs : goal.returns-in_default-2-clause-packs
returns-in_default-2-clause-packs c = λ t end before now p ch samples h.
    let class = class_there c.args.classes.now c.args.seen.now.class c.in-Some-class.class.now
    (sym c.in-Some-class.ensures) in
    let values : c.as_slice.result.now ≡ due_values c.args.classes.now c.args.seen.now c.args.kept.now
    c.args.link.now t end before now p ch samples c.args.tick h =
    c.as_slice.ensures.value ∙ c.in_ok-due.ensures c.args.classes.now.segments
    ∙ ap (λ (k : Class). filter (is_marked_value k c.args.seen.now.owns c.args.kept.now.handles)
    c.args.seen.now.values) (sym class) in
    let seen = seen_value c.args.classes.now c.args.seen.now in
    let m = update_message seen (update_pairs seen (pairs_of (due_values c.args.classes.now c.args.seen.now
    c.args.kept.now c.args.link.now t end before now p ch samples c.args.tick h))) in
    let index = same_index c.in-Some.index ch (sym c.in-Some.is ∙ held c.args.classes.now c.args.seen.now
    c.args.kept.now c.args.link.now t end before now p ch samples c.args.tick h) in
    let bits : message_bits m ≡ slice_bits c.lend.result =
    ap (λ (vs : List Pair). message_bits (update_message seen (update_pairs seen (pairs_of vs)))) (sym values)
    ∙ sym (c.in_ok-payload.ensures.bits seen refl) ∙ sym c.lend.ensures in
    let told = c.in_ok-packet.ensures.packet t end AtServer before p m h.both bits
    ∙ ap (λ (n : ℕ). packet_for end p (loose_item m n)) index in
    let packs = subst (λ (n : ℕ). PacksBoth c.offer_loose.new.link t end AtServer before (after_offer end p
    (loose_item m n))) index (c.in_ok-packet.ensures.packs t end AtServer before p m h.both bits) in
    subst (PacksBoth c.offer_loose.new.link t end AtServer before) (after_is c.args.classes.now c.args.seen.now
    c.args.kept.now c.args.link.now t end before now p ch samples c.args.tick h) packs

pub returns-in_default-2-clause-keeps : goal.returns-in_default-2-clause-keeps
returns-in_default-2-clause-keeps c = λ t end before now p ch samples h.
    let class = class_there c.args.classes.now c.args.seen.now.class c.in-Some-class.class.now
    (sym c.in-Some-class.ensures) in
    let values : c.as_slice.result.now ≡ due_values c.args.classes.now c.args.seen.now c.args.kept.now
    c.args.link.now t end before now p ch samples c.args.tick h =
    c.as_slice.ensures.value ∙ c.in_ok-due.ensures c.args.classes.now.segments
    ∙ ap (λ (k : Class). filter (is_marked_value k c.args.seen.now.owns c.args.kept.now.handles)
    c.args.seen.now.values) (sym class) in
    let seen = seen_value c.args.classes.now c.args.seen.now in
    let m = update_message seen (update_pairs seen (pairs_of (due_values c.args.classes.now c.args.seen.now
    c.args.kept.now c.args.link.now t end before now p ch samples c.args.tick h))) in
    let index = same_index c.in-Some.index ch (sym c.in-Some.is ∙ held c.args.classes.now c.args.seen.now
    c.args.kept.now c.args.link.now t end before now p ch samples c.args.tick h) in
    let bits : message_bits m ≡ slice_bits c.lend.result =
    ap (λ (vs : List Pair). message_bits (update_message seen (update_pairs seen (pairs_of vs)))) (sym values)
    ∙ sym (c.in_ok-payload.ensures.bits seen refl) ∙ sym c.lend.ensures in
    let told = c.in_ok-packet.ensures.packet t end AtServer before p m h.both bits
    ∙ ap (λ (n : ℕ). packet_for end p (loose_item m n)) index in
    let none = had_none end p (loose_item m ch) (sym c.in_default-2.is ∙ told) in
    keeps_full c.args.classes.now c.args.seen.now c.args.kept.now c.args.link.now t end before now p ch samples
    c.args.tick h none

pub returns-in_default-2-clause-notes : goal.returns-in_default-2-clause-notes
returns-in_default-2-clause-notes c = λ t end before now p ch samples h.
    let class = class_there c.args.classes.now c.args.seen.now.class c.in-Some-class.class.now
    (sym c.in-Some-class.ensures) in
    let values : c.as_slice.result.now ≡ due_values c.args.classes.now c.args.seen.now c.args.kept.now
    c.args.link.now t end before now p ch samples c.args.tick h =
    c.as_slice.ensures.value ∙ c.in_ok-due.ensures c.args.classes.now.segments
    ∙ ap (λ (k : Class). filter (is_marked_value k c.args.seen.now.owns c.args.kept.now.handles)
    c.args.seen.now.values) (sym class) in
    let seen = seen_value c.args.classes.now c.args.seen.now in
    let m = update_message seen (update_pairs seen (pairs_of (due_values c.args.classes.now c.args.seen.now
    c.args.kept.now c.args.link.now t end before now p ch samples c.args.tick h))) in
    let index = same_index c.in-Some.index ch (sym c.in-Some.is ∙ held c.args.classes.now c.args.seen.now
    c.args.kept.now c.args.link.now t end before now p ch samples c.args.tick h) in
    let bits : message_bits m ≡ slice_bits c.lend.result =
    ap (λ (vs : List Pair). message_bits (update_message seen (update_pairs seen (pairs_of vs)))) (sym values)
    ∙ sym (c.in_ok-payload.ensures.bits seen refl) ∙ sym c.lend.ensures in
    let told = c.in_ok-packet.ensures.packet t end AtServer before p m h.both bits
    ∙ ap (λ (n : ℕ). packet_for end p (loose_item m n)) index in
    let none = had_none end p (loose_item m ch) (sym c.in_default-2.is ∙ told) in
    sym (ap (λ (ns : List UpdateSent). c.args.updates.now.items ++ ns) (no_note c.args.classes.now c.args.seen.now
    c.args.kept.now c.args.link.now t end before now p ch samples c.args.tick h none) ∙ append-nil
    c.args.updates.now.items)

pub carries-requires : goal.carries-requires
carries-requires c =
    let r = c.requires in
    let class = class_there c.args.classes.now c.args.seen.now.class c.in-Some-class.class.now
    (sym c.in-Some-class.ensures) in
    let values : c.deref.result.now ≡ due_values c.args.classes.now c.args.seen.now c.args.kept.now c.args.link.now
    r.0 r.1 r.2 r.3 r.4 r.5 r.6 c.args.tick r.7 =
    c.deref.ensures.value ∙ c.in_ok-due.ensures c.args.classes.now.segments
    ∙ ap (λ (k : Class). filter (is_marked_value k c.args.seen.now.owns c.args.kept.now.handles)
    c.args.seen.now.values) (sym class) in
    subst (λ (vs : List Pair). AllBelow (length c.args.kept.now.handles.handles)
    (take c.in_ok-payload.payload.count vs)) (sym values) (below_went c.args.classes.now c.args.seen.now
    c.args.kept.now c.args.link.now r.0 r.1 r.2 r.3 r.4 r.5 r.6 c.args.tick r.7 c.in_ok-payload.payload.count)

pub returns-clause-room : goal.returns-clause-room
returns-clause-room c = λ t end before now p ch samples h.
    let class = class_there c.args.classes.now c.args.seen.now.class c.in-Some-class.class.now
    (sym c.in-Some-class.ensures) in
    let values : c.as_slice.result.now ≡ due_values c.args.classes.now c.args.seen.now c.args.kept.now
    c.args.link.now t end before now p ch samples c.args.tick h =
    c.as_slice.ensures.value ∙ c.in_ok-due.ensures c.args.classes.now.segments
    ∙ ap (λ (k : Class). filter (is_marked_value k c.args.seen.now.owns c.args.kept.now.handles)
    c.args.seen.now.values) (sym class) in
    let seen = seen_value c.args.classes.now c.args.seen.now in
    let m = update_message seen (update_pairs seen (pairs_of (due_values c.args.classes.now c.args.seen.now
    c.args.kept.now c.args.link.now t end before now p ch samples c.args.tick h))) in
    let index = same_index c.in-Some.index ch (sym c.in-Some.is ∙ held c.args.classes.now c.args.seen.now
    c.args.kept.now c.args.link.now t end before now p ch samples c.args.tick h) in
    let bits : message_bits m ≡ slice_bits c.lend.result =
    ap (λ (vs : List Pair). message_bits (update_message seen (update_pairs seen (pairs_of vs)))) (sym values)
    ∙ sym (c.in_ok-payload.ensures.bits seen refl) ∙ sym c.lend.ensures in
    let told = c.in_ok-packet.ensures.packet t end AtServer before p m h.both bits
    ∙ ap (λ (n : ℕ). packet_for end p (loose_item m n)) index in
    let some = had_room end p (loose_item m ch) c.in-Some-2.packet (sym c.in-Some-2.is ∙ told) in
    ap not (sym (ready_then c.args.classes.now c.args.seen.now c.args.kept.now c.args.link.now t end before now p ch
    samples c.args.tick h some.0 c.in-Some-2.packet some.1))

pub returns-clause-packs : goal.returns-clause-packs
returns-clause-packs c = λ t end before now p ch samples h.
    let class = class_there c.args.classes.now c.args.seen.now.class c.in-Some-class.class.now
    (sym c.in-Some-class.ensures) in
    let values : c.as_slice.result.now ≡ due_values c.args.classes.now c.args.seen.now c.args.kept.now
    c.args.link.now t end before now p ch samples c.args.tick h =
    c.as_slice.ensures.value ∙ c.in_ok-due.ensures c.args.classes.now.segments
    ∙ ap (λ (k : Class). filter (is_marked_value k c.args.seen.now.owns c.args.kept.now.handles)
    c.args.seen.now.values) (sym class) in
    let seen = seen_value c.args.classes.now c.args.seen.now in
    let m = update_message seen (update_pairs seen (pairs_of (due_values c.args.classes.now c.args.seen.now
    c.args.kept.now c.args.link.now t end before now p ch samples c.args.tick h))) in
    let index = same_index c.in-Some.index ch (sym c.in-Some.is ∙ held c.args.classes.now c.args.seen.now
    c.args.kept.now c.args.link.now t end before now p ch samples c.args.tick h) in
    let bits : message_bits m ≡ slice_bits c.lend.result =
    ap (λ (vs : List Pair). message_bits (update_message seen (update_pairs seen (pairs_of vs)))) (sym values)
    ∙ sym (c.in_ok-payload.ensures.bits seen refl) ∙ sym c.lend.ensures in
    let told = c.in_ok-packet.ensures.packet t end AtServer before p m h.both bits
    ∙ ap (λ (n : ℕ). packet_for end p (loose_item m n)) index in
    let packs = subst (λ (n : ℕ). PacksBoth c.offer_loose.new.link t end AtServer before (after_offer end p
    (loose_item m n))) index (c.in_ok-packet.ensures.packs t end AtServer before p m h.both bits) in
    subst (PacksBoth c.offer_loose.new.link t end AtServer before) (after_is c.args.classes.now c.args.seen.now
    c.args.kept.now c.args.link.now t end before now p ch samples c.args.tick h) packs

pub returns-in_default-clause-packets : goal.returns-in_default-clause-packets
returns-in_default-clause-packets c = λ t end before now p ch samples h n. inr refl

pub returns-in_default-class-clause-packets : goal.returns-in_default-class-clause-packets
returns-in_default-class-clause-packets c = λ t end before now p ch samples h n. inr refl

pub returns-in_default-2-clause-packets : goal.returns-in_default-2-clause-packets
returns-in_default-2-clause-packets c = λ t end before now p ch samples h n. inr refl

pub returns-clause-packets : goal.returns-clause-packets
returns-clause-packets c = λ t end before now p ch samples h n.
    let class = class_there c.args.classes.now c.args.seen.now.class c.in-Some-class.class.now
    (sym c.in-Some-class.ensures) in
    let values : c.as_slice.result.now ≡ due_values c.args.classes.now c.args.seen.now c.args.kept.now
    c.args.link.now t end before now p ch samples c.args.tick h =
    c.as_slice.ensures.value ∙ c.in_ok-due.ensures c.args.classes.now.segments
    ∙ ap (λ (k : Class). filter (is_marked_value k c.args.seen.now.owns c.args.kept.now.handles)
    c.args.seen.now.values) (sym class) in
    let seen = seen_value c.args.classes.now c.args.seen.now in
    let m = update_message seen (update_pairs seen (pairs_of (due_values c.args.classes.now c.args.seen.now
    c.args.kept.now c.args.link.now t end before now p ch samples c.args.tick h))) in
    let index = same_index c.in-Some.index ch (sym c.in-Some.is ∙ held c.args.classes.now c.args.seen.now
    c.args.kept.now c.args.link.now t end before now p ch samples c.args.tick h) in
    let bits : message_bits m ≡ slice_bits c.lend.result =
    ap (λ (vs : List Pair). message_bits (update_message seen (update_pairs seen (pairs_of vs)))) (sym values)
    ∙ sym (c.in_ok-payload.ensures.bits seen refl) ∙ sym c.lend.ensures in
    let told = c.in_ok-packet.ensures.packet t end AtServer before p m h.both bits
    ∙ ap (λ (n : ℕ). packet_for end p (loose_item m n)) index in
    let some = had_room end p (loose_item m ch) c.in-Some-2.packet (sym c.in-Some-2.is ∙ told) in
    let parts : c.deref.result.now ≡ due_values c.args.classes.now c.args.seen.now c.args.kept.now c.args.link.now t
    end before now p ch samples c.args.tick h =
    c.deref.ensures.value ∙ c.in_ok-due.ensures c.args.classes.now.segments
    ∙ ap (λ (k : Class). filter (is_marked_value k c.args.seen.now.owns c.args.kept.now.handles)
    c.args.seen.now.values) (sym class) in
    let count = c.in_ok-payload.payload.count in
    let packet = c.in-Some-2.packet in
    elim (c.carries.ensures.packets (subst (λ (vs : List Pair). AreApart (pairs_of (take count vs))) (sym parts)
    (apart_went c.args.classes.now c.args.seen.now c.args.kept.now c.args.link.now t end before now p ch samples
    c.args.tick h count)) n) [
      | inl e ↦ inl (noted_in c.args.classes.now c.args.seen.now c.args.kept.now c.args.link.now t end before now p ch
          samples c.args.tick h some.0 packet some.1 (handle_in c.carries.new.self.handles.handles n).packet e)
      | inr e ↦ inr e
    ]

pub returns-clause-keeps : goal.returns-clause-keeps
returns-clause-keeps c = λ t end before now p ch samples h.
    let class = class_there c.args.classes.now c.args.seen.now.class c.in-Some-class.class.now
    (sym c.in-Some-class.ensures) in
    let values : c.as_slice.result.now ≡ due_values c.args.classes.now c.args.seen.now c.args.kept.now
    c.args.link.now t end before now p ch samples c.args.tick h =
    c.as_slice.ensures.value ∙ c.in_ok-due.ensures c.args.classes.now.segments
    ∙ ap (λ (k : Class). filter (is_marked_value k c.args.seen.now.owns c.args.kept.now.handles)
    c.args.seen.now.values) (sym class) in
    let seen = seen_value c.args.classes.now c.args.seen.now in
    let m = update_message seen (update_pairs seen (pairs_of (due_values c.args.classes.now c.args.seen.now
    c.args.kept.now c.args.link.now t end before now p ch samples c.args.tick h))) in
    let index = same_index c.in-Some.index ch (sym c.in-Some.is ∙ held c.args.classes.now c.args.seen.now
    c.args.kept.now c.args.link.now t end before now p ch samples c.args.tick h) in
    let bits : message_bits m ≡ slice_bits c.lend.result =
    ap (λ (vs : List Pair). message_bits (update_message seen (update_pairs seen (pairs_of vs)))) (sym values)
    ∙ sym (c.in_ok-payload.ensures.bits seen refl) ∙ sym c.lend.ensures in
    let told = c.in_ok-packet.ensures.packet t end AtServer before p m h.both bits
    ∙ ap (λ (n : ℕ). packet_for end p (loose_item m n)) index in
    let some = had_room end p (loose_item m ch) c.in-Some-2.packet (sym c.in-Some-2.is ∙ told) in
    let parts : c.deref.result.now ≡ due_values c.args.classes.now c.args.seen.now c.args.kept.now c.args.link.now t
    end before now p ch samples c.args.tick h =
    c.deref.ensures.value ∙ c.in_ok-due.ensures c.args.classes.now.segments
    ∙ ap (λ (k : Class). filter (is_marked_value k c.args.seen.now.owns c.args.kept.now.handles)
    c.args.seen.now.values) (sym class) in
    let count = c.in_ok-payload.payload.count in
    let packet = c.in-Some-2.packet in
    let g = goes_in c.args.classes.now c.args.seen.now c.args.kept.now c.args.link.now t end before now p ch samples
    c.args.tick h some.0 packet some.1 in
    let went = c.carries.ensures.keeps g.items seen.class (loose_bunch ch m) g.below samples c.args.seen.now.actor
    g.before g.none g.high h.shown
    (subst (λ (vs : List Pair). AreApart (pairs_of (take count vs))) (sym parts) (apart_went c.args.classes.now
    c.args.seen.now c.args.kept.now c.args.link.now t end before now p ch samples c.args.tick h count))
    (subst (λ (vs : List Pair). Agrees samples (pairs_of (take count vs))) (sym parts) (agrees_went
    c.args.classes.now c.args.seen.now c.args.kept.now c.args.link.now t end before now p ch samples c.args.tick h
    count))
    h.compared.current in
    let pairs : pairs_of (take count c.deref.result.now) ≡ update_pairs seen (pairs_of (due_values c.args.classes.now
    c.args.seen.now c.args.kept.now c.args.link.now t end before now p ch samples c.args.tick h)) =
    ap (λ (vs : List Pair). pairs_of (take count vs)) (parts ∙ sym values)
    ∙ sym (c.in_ok-payload.ensures.values seen refl)
    ∙ ap (λ (vs : List Pair). update_pairs seen (pairs_of vs)) values in
    subst (λ (past : Past). KeepsActor past samples c.args.seen.now.actor c.carries.new.self)
    (ap (λ (ps : List PairSpec). sent_more packet c.args.tick g.items
    (Loose (Updates c.args.seen.now.actor seen.class ps) (loose_bunch ch m)) g.below) pairs
    ∙ sym g.after ∙ ap sent_now (after_is c.args.classes.now c.args.seen.now c.args.kept.now c.args.link.now t end
    before now p ch samples c.args.tick h)) went

pub returns-clause-notes : goal.returns-clause-notes
returns-clause-notes c = λ t end before now p ch samples h.
    let class = class_there c.args.classes.now c.args.seen.now.class c.in-Some-class.class.now
    (sym c.in-Some-class.ensures) in
    let values : c.as_slice.result.now ≡ due_values c.args.classes.now c.args.seen.now c.args.kept.now
    c.args.link.now t end before now p ch samples c.args.tick h =
    c.as_slice.ensures.value ∙ c.in_ok-due.ensures c.args.classes.now.segments
    ∙ ap (λ (k : Class). filter (is_marked_value k c.args.seen.now.owns c.args.kept.now.handles)
    c.args.seen.now.values) (sym class) in
    let seen = seen_value c.args.classes.now c.args.seen.now in
    let m = update_message seen (update_pairs seen (pairs_of (due_values c.args.classes.now c.args.seen.now
    c.args.kept.now c.args.link.now t end before now p ch samples c.args.tick h))) in
    let index = same_index c.in-Some.index ch (sym c.in-Some.is ∙ held c.args.classes.now c.args.seen.now
    c.args.kept.now c.args.link.now t end before now p ch samples c.args.tick h) in
    let bits : message_bits m ≡ slice_bits c.lend.result =
    ap (λ (vs : List Pair). message_bits (update_message seen (update_pairs seen (pairs_of vs)))) (sym values)
    ∙ sym (c.in_ok-payload.ensures.bits seen refl) ∙ sym c.lend.ensures in
    let told = c.in_ok-packet.ensures.packet t end AtServer before p m h.both bits
    ∙ ap (λ (n : ℕ). packet_for end p (loose_item m n)) index in
    let some = had_room end p (loose_item m ch) c.in-Some-2.packet (sym c.in-Some-2.is ∙ told) in
    c.in_ok-push.ensures.items
    ∙ ap (λ (ns : List UpdateSent). c.args.updates.now.items ++ ns)
    (sym (one_note c.args.classes.now c.args.seen.now c.args.kept.now c.args.link.now t end before now p ch samples
    c.args.tick h some.0 c.in-Some-2.packet some.1))
