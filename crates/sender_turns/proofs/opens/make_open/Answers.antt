use Rattle.std.proofs.Common.{◌≡◌, ◌∙◌, ℕ, List, Bool, false, not, length, slice_index_or, sym, ap, subst, arith}
use Rattle.protocol_model.specs.Payload.{Message, part_count}
use Rattle.protocol_model.specs.Side.{AtServer}
use Rattle.connection_model.specs.Exports.{is_known}
use Rattle.connection_model.specs.Feed.{Past}
use Rattle.connection_model.specs.Items.{open_message}
use Rattle.connection_model.specs.Pack.{after_open}
use Rattle.connection_model.specs.State.{free_index}
use Rattle.link_end.specs.Packs.{sent_now}
use Rattle.bunch_packing.specs.Both.{PacksBoth}
use Rattle.bunch_packing.specs.Opens.{IsOpenOf}
use Rattle.sender_steps.specs.Sights.{seen_value}
use Rattle.sender_turns.proofs.Opened.{both_kept, free_now}
use Rattle.sender_turns.proofs.Told.{low_in, few_parts, spelled_is, to_keep}
use Rattle.sender_turns.proofs.opens.make_open.Goals as goal

-- where the places tell what is known, they do by another name
places : (past : Past) (known ks : List Bool) → known ≡ ks
    → ((g : ℕ) → is_known past g ≡ slice_index_or known g false)
    → (g : ℕ) → is_known past g ≡ slice_index_or ks g false
places past known ks e told g = told g ∙ ap (λ (bs : List Bool). slice_index_or bs g false) e

pub offer_open-requires-clause-packing : goal.offer_open-requires-clause-packing
offer_open-requires-clause-packing c =
    let r = c.requires.opening in (
      r.1,
      AtServer,
      r.2,
      r.3,
      r.8.stands.both,
      r.8.is_ready,
      low_in r.1.version c.in_ok-channel.channel c.in_ok-channel.ensures.low,
    )

pub offer_open-requires-clause-open : goal.offer_open-requires-clause-open
offer_open-requires-clause-open c =
    let r = c.requires.opening in
    let told = places r.3.past r.0.known c.args.known.now r.7 r.8.stands.known in (
      open_message r.3.past (seen_value c.args.classes.now c.args.seen.now),
      subst (λ (b : Bool). IsOpenOf (open_message r.3.past (seen_value c.args.classes.now c.args.seen.now)) (not b)
          c.in_ok-spelled.spelled.payload) (sym c.is_empty-exports.ensures)
          (spelled_is c.args.classes.now c.args.seen.now r.3.past c.in_ok-spelled.spelled.guids
          c.in_ok-spelled.spelled.payload (c.in_ok-spelled.ensures.payload r.3.past told)
          (c.in_ok-spelled.ensures.guids r.3.past told)),
    )

pub offer_open-requires-clause-index : goal.offer_open-requires-clause-index
offer_open-requires-clause-index c =
    let r = c.requires.opening in
    (c.in_ok-channel.ensures.clear AtServer (sent_now r.3) r.8.stands.both.table).1

pub returns-clause-ready : goal.returns-clause-ready
returns-clause-ready c = λ s end before p samples changes tick e h.
    let m : Message = open_message p.past (seen_value c.args.classes.now c.args.seen.now) in
    let told = places p.past s.known c.args.known.now e h.stands.known in
    let free : c.in_ok-channel.channel ≡ free_index p.past =
    c.in_ok-channel.ensures.index s (sent_now p) samples
    (both_kept c.args.classes.now changes c.args.seen.now s c.args.link.now c.args.table.now end before p samples tick
    h)
    ∙ free_now c.args.classes.now changes c.args.seen.now s c.args.link.now c.args.table.now end before p samples tick h
    in
    subst (λ (ch : ℕ). c.in_ok-offer.offer.ready ≡ not (after_open end p ch m).full) free
    (c.in_ok-offer.ensures.ready end AtServer before p m h.stands.both
    (low_in end.version c.in_ok-channel.channel c.in_ok-channel.ensures.low)
    (subst (λ (b : Bool). IsOpenOf m (not b) c.in_ok-spelled.spelled.payload) (sym c.is_empty-exports.ensures)
    (spelled_is c.args.classes.now c.args.seen.now p.past c.in_ok-spelled.spelled.guids c.in_ok-spelled.spelled.payload
    (c.in_ok-spelled.ensures.payload p.past told) (c.in_ok-spelled.ensures.guids p.past told))))

pub returns-clause-packs : goal.returns-clause-packs
returns-clause-packs c = λ s end before p samples changes tick e h.
    let m : Message = open_message p.past (seen_value c.args.classes.now c.args.seen.now) in
    let told = places p.past s.known c.args.known.now e h.stands.known in
    let free : c.in_ok-channel.channel ≡ free_index p.past =
    c.in_ok-channel.ensures.index s (sent_now p) samples
    (both_kept c.args.classes.now changes c.args.seen.now s c.args.link.now c.args.table.now end before p samples tick
    h)
    ∙ free_now c.args.classes.now changes c.args.seen.now s c.args.link.now c.args.table.now end before p samples tick h
    in
    subst (λ (ch : ℕ). PacksBoth c.offer_open.new.link c.offer_open.new.table end AtServer before
    (after_open end p ch m))
    free
    (c.in_ok-offer.ensures.packs end AtServer before p m h.stands.both
    (low_in end.version c.in_ok-channel.channel c.in_ok-channel.ensures.low)
    (subst (λ (b : Bool). IsOpenOf m (not b) c.in_ok-spelled.spelled.payload) (sym c.is_empty-exports.ensures)
    (spelled_is c.args.classes.now c.args.seen.now p.past c.in_ok-spelled.spelled.guids c.in_ok-spelled.spelled.payload
    (c.in_ok-spelled.ensures.payload p.past told) (c.in_ok-spelled.ensures.guids p.past told))))

pub returns-clause-made : goal.returns-clause-made
returns-clause-made c = λ s end before p samples changes tick e h.
    let m : Message = open_message p.past (seen_value c.args.classes.now c.args.seen.now) in
    let told = places p.past s.known c.args.known.now e h.stands.known in
    let kept = both_kept c.args.classes.now changes c.args.seen.now s c.args.link.now c.args.table.now end before p
    samples tick h in
    let free : c.in_ok-channel.channel ≡ free_index p.past =
    c.in_ok-channel.ensures.index s (sent_now p) samples kept
    ∙ free_now c.args.classes.now changes c.args.seen.now s c.args.link.now c.args.table.now end before p samples tick h
    in
    let clear = c.in_ok-channel.ensures.clear AtServer (sent_now p) h.stands.both.table in
    let offered : IsOpenOf m (not c.is_empty-exports.result) c.in_ok-spelled.spelled.payload =
    subst (λ (b : Bool). IsOpenOf m (not b) c.in_ok-spelled.spelled.payload) (sym c.is_empty-exports.ensures)
    (spelled_is c.args.classes.now c.args.seen.now p.past c.in_ok-spelled.spelled.guids c.in_ok-spelled.spelled.payload
    (c.in_ok-spelled.ensures.payload p.past told) (c.in_ok-spelled.ensures.guids p.past told)) in
    to_keep end p m c.in_ok-channel.channel c.in_ok-offer.offer.first c.parts-count.result c.in_ok-spelled.spelled.guids
    c.in_ok-last.last free clear.1 c.in_ok-channel.ensures.low clear.0
    (λ a. c.in_ok-channel.ensures.free s (sent_now p) samples a kept)
    (c.in_ok-offer.ensures.first end AtServer before p m h.stands.both offered)
    (c.parts-count.ensures ∙ ap part_count (c.len.ensures ∙ ap length (sym offered.bits)))
    (c.in_ok-spelled.ensures.guids p.past told)
    c.in_ok-last.ensures

pub returns-clause-count : goal.returns-clause-count
returns-clause-count c =
    omega (
      arith,
      c.in_ok-offer.ensures.count,
      few_parts (length c.in_ok-spelled.spelled.payload) c.in_ok-spelled.ensures.most,
    )
