-- What a link in a tick doesn't see: bunches made before its packets.
use Rattle.std.proofs.Common.{◌≡◌, ℕ, ◌+◌, ◌==◌, ◌%◌, List, [], ◌∷◌, ◌++◌, map, drop, reverse, length, min, Bool, Some, refl, sym, ap, ◌∙◌, subst, arith, slice_get, if◌then◌else◌}
use Rattle.protocol_model.specs.Payload.{Message}
use Rattle.protocol_model.specs.Packet.{Head, start_bits, rec_bits}
use Rattle.protocol_model.specs.Search.{greatest_of}
use Rattle.connection_model.specs.Feed.{End, Past, Made, Item, tick_count, deeds_since_tick}
use Rattle.connection_model.specs.Fates.{last_sent, high_of, head_of, taken_of, moved_of, top_of, top_when}
use Rattle.connection_model.specs.Bunches.{made_count, after_making}
use Rattle.connection_model.specs.Pack.{Packing, rec_of, after_sending}
use Rattle.connection_model.specs.Past.{sent_bytes}
use Rattle.std.specs.List.{flat_map}
use Rattle.ack_book.proofs.KeepsSteps.{like_keeps}
use Rattle.connection_laws.proofs.Counts.{last_sent_sent}
use Rattle.connection_laws.proofs.Moves.{making_keeps}
use Rattle.packing_laws.specs.Sendings.{sent_all}
use Rattle.packing_laws.proofs.Sendings.{head_same}
use Rattle.packing_laws.proofs.Packings.{sent_all-cons}
use Rattle.link_end.specs.Link.{Begun, Link}
use Rattle.link_end.specs.Begun.{closed_bytes}
use Rattle.link_end.specs.Rests.{last_tick, silence}
use Rattle.link_end.specs.Packs.{bits_begun, begun_of, Packs}

-- ---- pasts that a book can't tell apart

pub record Alike (past later : Past) : Type 0 where
  pub sent : last_sent past ≡ last_sent later
  pub taken : taken_of past ≡ taken_of later
  pub moved : moved_of past ≡ moved_of later
  pub recent : taken_of (deeds_since_tick past) ≡ taken_of (deeds_since_tick later)
  pub told : (n : ℕ) → top_when past n ≡ top_when later n

alike_sent : (past later : Past) (items : List Item) → Alike past later
    → Alike (after_sending past items) (after_sending later items)
alike_sent past later items a = record {
  sent = omega (arith, last_sent_sent past items, last_sent_sent later items, a.sent);
  taken = a.taken;
  moved = a.moved;
  recent = a.recent;
  told = λ n.
      ap (λ (k : ℕ). if k + 1 == n then top_of past else top_when past n) a.sent
      ∙ ap (λ (ns : List ℕ). if last_sent later + 1 == n then greatest_of ns else top_when past n) a.taken
      ∙ ap (λ (k : ℕ). if last_sent later + 1 == n then top_of later else k) (a.told n);
}

alike_all : (past later : Past) (packets : List (List Item)) → Alike past later
    → Alike (sent_all past packets) (sent_all later packets)
alike_all past later [] a = a
alike_all past later (items ∷ packets) a =
    let P : Past → Type 0 = λ l. Alike l (sent_all later (items ∷ packets)) in
    let Q : Past → Type 0 = λ l. Alike (after_sending (sent_all past packets) items) l in
    subst P (sym (sent_all-cons past items packets))
    (subst Q (sym (sent_all-cons later items packets))
    (alike_sent (sent_all past packets) (sent_all later packets) items (alike_all past later packets a)))

-- ---- packets begun before them

bits_alike : (end : End) (past later : Past) (packets : List (List Item)) → last_sent later ≡ last_sent past
    → head_of end.version later ≡ head_of end.version past
    → bits_begun end later packets ≡ bits_begun end past packets
bits_alike end past later [] s h = refl
bits_alike end past later (items ∷ packets) s h =
    ap (λ (n : ℕ). (start_bits end.version ((n + 1 + length packets) % 16384) (head_of end.version later)
    ++ flat_map (λ item. rec_bits end.version (rec_of item)) items) ∷ bits_begun end later packets) s
    ∙ ap (λ (head : Head). (start_bits end.version ((last_sent past + 1 + length packets) % 16384) head
    ++ flat_map (λ item. rec_bits end.version (rec_of item)) items) ∷ bits_begun end later packets) h
    ∙ ap (λ (l : List (List Bool)). (start_bits end.version ((last_sent past + 1 + length packets) % 16384)
    (head_of end.version past) ++ flat_map (λ item. rec_bits end.version (rec_of item)) items) ∷ l)
    (bits_alike end past later packets s h)

begun_alike : (end : End) (p : Packing) (later : Past) → last_sent later ≡ last_sent p.past
    → head_of end.version later ≡ head_of end.version p.past
    → begun_of end (record p { past = later }) ≡ begun_of end p
begun_alike end p later s h =
    ap (λ (n : ℕ). record {
      first = n + 1;
      whole = reverse (map closed_bytes (drop 1 (bits_begun end later p.packets)));
      current = slice_get (bits_begun end later p.packets) 0;
      full = p.full;
    }) s
    ∙ ap (λ (l : List (List Bool)). record {
      first = last_sent p.past + 1;
      whole = reverse (map closed_bytes (drop 1 l));
      current = slice_get l 0;
      full = p.full;
    }) (bits_alike end p.past later p.packets s h)

-- ---- the link

pub packs_alike : (l : Link) (end : End) (before : Past) (p : Packing) (later : Past) → Packs l end before p
    → Alike p.past later
    → tick_count later ≡ tick_count p.past → last_tick later ≡ last_tick p.past
    → sent_bytes end later ≡ sent_bytes end p.past
    → Packs l end before (record p { past = later })
packs_alike l end before p later h a ticks last bytes =
    let all = alike_all p.past later p.packets a in
    let high : high_of p.past ≡ high_of later = ap greatest_of a.moved in
    let head : head_of end.version later ≡ head_of end.version p.past =
    head_same end.version p.past later (sym a.taken) (sym (a.told (high_of later))
    ∙ ap (top_when p.past) (sym high)) in
    record {
      book = like_keeps l.book end.version (sent_all p.past p.packets) (sent_all later p.packets) h.book all.sent
          all.taken all.moved all.recent all.told;
      budget = h.budget;
      silent = h.silent
          ∙ ap (λ (n : ℕ). min 8 n) (let e : silence p.past ≡ silence later = omega (arith, ticks, last) in e);
      last = omega (arith, h.last, ticks, last);
      count = ap length bytes ∙ h.count ∙ a.sent;
      high = omega (arith, h.high, high, a.sent);
      few = omega (arith, h.few, high, a.sent);
      in_tick = sym a.recent ∙ h.in_tick;
      heard = h.heard;
      begun = h.begun ∙ ap (λ (b : Begun). Some b) (sym (begun_alike end p later (sym a.sent) head));
      kept = h.kept;
    }

pub packs_made : (l : Link) (end : End) (before : Past) (p : Packing) (ch n : ℕ) (m : Message) (i : ℕ)
    → Packs l end before p
    → Packs l end before (record p { past = Made ch n m i ∷ p.past })
packs_made l end before p ch n m i h =
    packs_alike l end before p (Made ch n m i ∷ p.past) h
    (record { sent = refl; taken = refl; moved = refl; recent = refl; told = λ k. refl }) refl refl refl

pub packs_making : (l : Link) (end : End) (before : Past) (p : Packing) (ch : ℕ) (m : Message) → Packs l end before p
    → Packs l end before (record p { past = after_making p.past ch m })
packs_making l end before p ch m h =
    making_keeps (λ i past. Packs l end before (record p { past = past })) p.past ch m h
    (λ i past lt q. packs_made l end before (record p { past = past }) ch (made_count p.past ch + 1 + i) m i q)
