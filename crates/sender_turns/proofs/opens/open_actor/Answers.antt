use Rattle.std.proofs.Common.{◌≡◌, ◌∙◌, ℕ, List, Bool, false, Option, slice_index_or, sym, ap, subst, arith}
use Rattle.protocol_model.specs.Side.{AtServer}
use Rattle.protocol_model.specs.World.{class_at}
use Rattle.connection_model.specs.Exports.{needed_segments}
use Rattle.connection_model.specs.Items.{open_message}
use Rattle.class_layout.specs.Tables.{table_in}
use Rattle.link_end.specs.Packs.{sent_now}
use Rattle.channel_table.specs.Channels.{Channels}
use Rattle.channel_table.specs.Holders.{Bound}
use Rattle.bunch_packing.specs.Both.{PacksBoth}
use Rattle.shadow_changes.specs.Lists.{last_tick}
use Rattle.shadow_changes.specs.Samples.{samples_of}
use Rattle.sender_steps.specs.declared.sent.OpenSent.{OpenSent}
use Rattle.sender_steps.specs.Sights.{seen_value}
use Rattle.sender_turns.specs.Opening.{AreBound}
use Rattle.sender_turns.specs.Ticking.{InTick, IsKept, IsToKeep, after_opening}
use Rattle.sender_turns.proofs.Opened.{same_parts, tick_some, unheld, under, told, may, bound_before, rebound, opened_in_tick, unopened_in_tick}
use Rattle.sender_turns.proofs.opens.open_actor.Goals as goal

pub make_open-requires-clause-opening : goal.make_open-requires-clause-opening
make_open-requires-clause-opening c =
    let r = c.requires.opening in (
      r.0,
      r.1,
      r.2,
      r.3,
      r.4,
      c.args.changes.now,
      c.args.tick,
      r.5.known_are ∙ sym c.as_slice.ensures.value,
      r.6,
    )

pub keep_open-requires-clause-tick : goal.keep_open-requires-clause-tick
keep_open-requires-clause-tick c =
    let r = c.requires.opening in
    tick_some c.args.classes.now c.args.changes.now c.args.seen.now r.0 c.args.link.now c.args.table.now r.1 r.2 r.3 r.4
    c.args.tick r.6

pub keep_open-requires-clause-some : goal.keep_open-requires-clause-some
keep_open-requires-clause-some c =
    let r = c.requires.opening in
    let k : IsKept r.1 r.3 (open_message r.3.past (seen_value c.args.classes.now c.args.seen.now))
    (record {
      channel = c.in_ok-offered.offered.channel;
      last = c.in-Some.last;
      guids = c.in_ok-offered.offered.guids;
    }) =
    subst (λ (o : Option ℕ). IsToKeep r.1 r.3 (open_message r.3.past (seen_value c.args.classes.now c.args.seen.now))
    c.in_ok-offered.offered.channel o c.in_ok-offered.offered.guids) c.in-Some.is
    (c.in_ok-offered.ensures.made r.0 r.1 r.2 r.3 r.4 c.args.changes.now c.args.tick
    (r.5.known_are ∙ sym c.as_slice.ensures.value) r.6) in
    k.some

pub keep_open-requires-clause-low : goal.keep_open-requires-clause-low
keep_open-requires-clause-low c =
    let r = c.requires.opening in
    let k : IsKept r.1 r.3 (open_message r.3.past (seen_value c.args.classes.now c.args.seen.now))
    (record {
      channel = c.in_ok-offered.offered.channel;
      last = c.in-Some.last;
      guids = c.in_ok-offered.offered.guids;
    }) =
    subst (λ (o : Option ℕ). IsToKeep r.1 r.3 (open_message r.3.past (seen_value c.args.classes.now c.args.seen.now))
    c.in_ok-offered.offered.channel o c.in_ok-offered.offered.guids) c.in-Some.is
    (c.in_ok-offered.ensures.made r.0 r.1 r.2 r.3 r.4 c.args.changes.now c.args.tick
    (r.5.known_are ∙ sym c.as_slice.ensures.value) r.6) in
    k.low

pub keep_open-requires-clause-stands : goal.keep_open-requires-clause-stands
keep_open-requires-clause-stands c =
    let r = c.requires.opening in
    let k : IsKept r.1 r.3 (open_message r.3.past (seen_value c.args.classes.now c.args.seen.now))
    (record {
      channel = c.in_ok-offered.offered.channel;
      last = c.in-Some.last;
      guids = c.in_ok-offered.offered.guids;
    }) =
    subst (λ (o : Option ℕ). IsToKeep r.1 r.3 (open_message r.3.past (seen_value c.args.classes.now c.args.seen.now))
    c.in_ok-offered.offered.channel o c.in_ok-offered.offered.guids) c.in-Some.is
    (c.in_ok-offered.ensures.made r.0 r.1 r.2 r.3 r.4 c.args.changes.now c.args.tick
    (r.5.known_are ∙ sym c.as_slice.ensures.value) r.6) in (
      sent_now r.3,
      subst (λ (bound : Bound). AreBound bound (sent_now r.3)) (sym c.in_ok-offered.ensures.bound) r.6.stands.bound,
      k.free,
      unheld c.args.classes.now c.args.changes.now c.args.seen.now r.0 c.args.link.now c.args.table.now r.1 r.2 r.3 r.4
          c.args.tick r.6,
    )

pub returns-clause-ready : goal.returns-clause-ready
returns-clause-ready c = λ s end before p samples parts h.
    c.in_ok-offered.ensures.ready s end before p samples c.args.changes.now c.args.tick
    (parts.known_are ∙ sym c.as_slice.ensures.value) h

pub returns-clause-stands : goal.returns-clause-stands
returns-clause-stands c = λ s end before p samples parts h.
    let layout = c.args.classes.now in
    let changes = c.args.changes.now in
    let seen = c.args.seen.now in
    let l = c.args.link.now in
    let t = c.args.table.now in
    let o : OpenSent = record {
      channel = c.in_ok-offered.offered.channel;
      last = c.in-Some.last;
      guids = c.in_ok-offered.offered.guids;
    } in
    let m = open_message p.past (seen_value layout seen) in
    let k : IsKept end p m o =
    subst (λ (x : Option ℕ). IsToKeep end p m c.in_ok-offered.offered.channel x c.in_ok-offered.offered.guids)
    c.in-Some.is
    (c.in_ok-offered.ensures.made s end before p samples changes c.args.tick
    (parts.known_are ∙ sym c.as_slice.ensures.value) h) in
    let u = under layout changes seen s l t end before p samples c.args.tick h o k in
    let exports = needed_segments p.past (class_at (table_in layout) seen.class) in
    let shown = class_at (table_in layout) seen.class in
    let sampled : c.newest-sampled.result ≡ last_tick (samples_of samples seen.actor) =
    c.newest-sampled.ensures samples h.noted in
    let rest = c.in_ok-keep_open.ensures.rest in
    let packs = c.in_ok-offered.ensures.packs s end before p samples changes c.args.tick
    (parts.known_are ∙ sym c.as_slice.ensures.value) h in
    opened_in_tick layout changes seen s l t end before p samples c.args.tick h o k (record s {
      records = c.keep_open.new.records.entries;
      pending = c.keep_open.new.pending.items;
      live = c.keep_open.new.live.items;
      known = c.keep_open.new.known.items;
      opens = c.keep_open.new.opens.items;
    }) c.make_open.new.link c.keep_open.new.table
    (subst (λ (t' : Channels). PacksBoth c.make_open.new.link t' end AtServer before (after_opening layout end p seen))
    (sym rest)
    (rebound c.make_open.new.link c.make_open.new.table c.keep_open.new.table.bound end before
    (after_opening layout end p seen) packs))
    (c.in_ok-keep_open.ensures.keeps s u.sent p.past samples exports shown
    (told layout changes seen s l t end before p samples c.args.tick h o k)
    (may layout changes seen s l t end before p samples c.args.tick h o k c.newest-sampled.result sampled)
    parts.records_are parts.pending_are parts.live_are parts.known_are parts.opens_are)
    (c.in_ok-keep_open.ensures.bound u.sent p.past exports shown
    (bound_before layout changes seen s l t end before p samples c.args.tick h o k c.make_open.new.table
    c.in_ok-offered.ensures.bound) u.sends)
    (λ g. c.in_ok-keep_open.ensures.places g ∙ ap (λ (ks : List Bool). slice_index_or ks g false) (sym parts.known_are))
    (ap (λ (t' : Channels). t'.waiting) rest ∙ c.in_ok-offered.ensures.waiting)

pub returns-clause-others : goal.returns-clause-others
returns-clause-others c = c.in_ok-keep_open.ensures.others

pub returns-clause-count : goal.returns-clause-count
returns-clause-count c =
    omega (arith, c.in_ok-offered.ensures.count, ap (λ (t' : Channels). t'.made.count) c.in_ok-keep_open.ensures.rest)

pub returns-in_default-clause-ready : goal.returns-in_default-clause-ready
returns-in_default-clause-ready c = λ s end before p samples parts h.
    c.in_ok-offered.ensures.ready s end before p samples c.args.changes.now c.args.tick
    (parts.known_are ∙ sym c.as_slice.ensures.value) h

pub returns-in_default-clause-stands : goal.returns-in_default-clause-stands
returns-in_default-clause-stands c = λ s end before p samples parts h.
    let e = parts.known_are ∙ sym c.as_slice.ensures.value in
    let m = open_message p.past (seen_value c.args.classes.now c.args.seen.now) in
    same_parts s c.args.records.now.entries c.args.pending.now.items c.args.live.now.items c.args.known.now.items
    c.args.opens.now.items parts
    (λ s'. InTick s' c.make_open.new.link c.make_open.new.table end before
    (after_opening c.args.classes.now end p c.args.seen.now) samples)
    (unopened_in_tick c.args.classes.now c.args.changes.now c.args.seen.now s c.args.link.now c.args.table.now end
    before p samples c.args.tick h c.make_open.new.link c.make_open.new.table
    (subst (λ (x : Option ℕ). IsToKeep end p m c.in_ok-offered.offered.channel x c.in_ok-offered.offered.guids)
    c.in_default.is
    (c.in_ok-offered.ensures.made s end before p samples c.args.changes.now c.args.tick e h))
    (c.in_ok-offered.ensures.packs s end before p samples c.args.changes.now c.args.tick e h)
    c.in_ok-offered.ensures.bound c.in_ok-offered.ensures.waiting)

pub returns-in_default-clause-count : goal.returns-in_default-clause-count
returns-in_default-clause-count c = c.in_ok-offered.ensures.count
