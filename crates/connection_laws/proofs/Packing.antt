-- What a tick packs may be sent: each item, in few enough packets, with acknowledgements that ascend.
use Rattle.connection_model.specs.Bunches.{is_opening}
use Rattle.std.proofs.Common.{◌≡◌, ℕ, zero, suc, ◌+◌, ◌<◌, ◌≤◌, List, [], ◌∷◌, ◌++◌, map, Bool, true, false, cond, not, nat_lt, ◌&&◌, ◌||◌, length, refl, sym, ap, ◌∙◌, subst, arith, Option, Some, None, append_assoc, append-nil, fold, ◌*◌, sum_by}
use Rattle.std.specs.List.{range_with_len, AllByRecursion, cons_option}
use Rattle.std.proofs.lemmas.Bool.{false≢true, cond_both, and_parts, ltb-true, ltb-false}
use Rattle.std.proofs.lemmas.List.Elements.{filter_map-append}
use Rattle.protocol_model.specs.Value.{Pair}
use Rattle.protocol_model.specs.Payload.{Message, parts_of}
use Rattle.protocol_model.specs.Sight.{Seen}
use Rattle.protocol_model.specs.Search.{greatest_of}
use Rattle.connection_model.specs.Feed.{End, Past, Item, Owed, has_ended, deeds_since_tick, sight_of}
use Rattle.connection_model.specs.Fates.{taken_of, unresolved_count}
use Rattle.connection_model.specs.Bunches.{made_count, room, after_making}
use Rattle.connection_model.specs.State.{ActorState, Closed, Asleep, Opening, Opened, Closing, state_of, is_closed, is_asleep, holds_index, index_of, index_at, last_mark, free_index, is_opened}
use Rattle.connection_model.specs.Carry.{due_pairs}
use Rattle.connection_model.specs.Items.{loose_item, wants_open, is_quiet, open_message, update_message, update_pairs}
use Rattle.connection_model.specs.Pack.{Packing, fits_current, may_begin, has_room, items_with, after_offer, part_item, after_open, after_update, after_actor, packet_size}
use Rattle.connection_laws.specs.Run.{Makes, MayMake, MaySend, owed_in, owed_by, acknowledged_of, Acknowledges}
use Rattle.connection_laws.proofs.Fates.{carries_made}
use Rattle.connection_laws.proofs.AcksInOrder.{told_made, since_made}
use Rattle.connection_laws.proofs.LiveRuns.{Goes, alive_made, unresolved_made}
use Rattle.connection_laws.proofs.Holding.{free_index_fits}
use Rattle.connection_laws.proofs.Items.{all_weaker, all_append, MayGo, may_send_made, parts_may_go, told_drop, sight_made}
use Rattle.connection_laws.proofs.ActorsShown.{SeenNow, seen_like}

-- the items of packets whose newest stands first, in the order in which they were packed
abbrev pub packed : List (List Item) → List Item
packed [] = []
packed (current ∷ packets) = packed packets ++ current

-- what was packed so far may be sent, and the rest of the acknowledgements after it
pub record Packs (end : End) (R : Past → Type 0) (past : Past) (packets : List (List Item)) (rest : List ℕ) : Type 0 where
  pub run : R past
  pub alive : has_ended past ≡ false
  pub in_tick : taken_of (deeds_since_tick past) ≡ []
  pub open_fates : unresolved_count past < 4096
  pub count : unresolved_count past + length packets ≤ 4096
  pub each : AllByRecursion (MaySend end past) (packed packets)
  pub owed : Acknowledges end.version (greatest_of (acknowledged_of past)) (owed_by (packed packets) ++ rest)

-- what is packed by now, with these numbers still to be acknowledged
abbrev pub PacksOn : End → (Past → Type 0) → Packing → List ℕ → Type 0
PacksOn end R p rest = Packs end R p.past p.packets rest

module _ (end : End) (R : Past → Type 0) (g : Goes end R) where
  -- ---- one more item

  packed_with : (packets : List (List Item)) (b : Bool) (item : Item) → packed (items_with packets b item) ≡ packed packets ++ item ∷ []
  packed_with [] true item = refl
  packed_with [] false item = refl
  packed_with (current ∷ packets) true item = sym (append_assoc (packed packets) current (item ∷ []))
  packed_with (current ∷ packets) false item = refl

  -- an item in the current packet begins none
  count_with : (past : Past) (packets : List (List Item)) (item : Item) (sent : ℕ) → sent + length packets ≤ 4096 → (fits_current end past packets item ≡ false → sent + length packets < 4096)
      → (b : Bool) → fits_current end past packets item ≡ b → sent + length (items_with packets b item) ≤ 4096
  count_with past [] item sent h new true e = absurd (false≢true e)
  count_with past [] item sent h new false e = omega (arith, new e)
  count_with past (current ∷ packets) item sent h new true e = omega arith
  count_with past (current ∷ packets) item sent h new false e = omega (arith, new e)

  begins_few : (p : Packing) → may_begin end p ≡ true → unresolved_count p.past + length p.packets < 4096
  begins_few p e =
      ltb-true (unresolved_count p.past + length p.packets) 4096
      (and_parts (nat_lt (8 * sum_by (packet_size end p.past) p.packets) end.budget) (nat_lt (unresolved_count p.past + length p.packets) 4096) e).1

  pub offer_with : (p : Packing) (item : Item) (rest later : List ℕ) → PacksOn end R p rest → MaySend end p.past item
      → Acknowledges end.version (greatest_of (acknowledged_of p.past)) (owed_by (packed p.packets ++ item ∷ []) ++ later)
      → Acknowledges end.version (greatest_of (acknowledged_of p.past)) (owed_by (packed p.packets) ++ later)
      → PacksOn end R (after_offer end p item) later
  offer_with p item rest later h may with_it without_it =
      cond_both p.full p
      (cond (has_room end p item) (record p { packets = items_with p.packets (fits_current end p.past p.packets item) item }) (record p { full = true }))
      (λ (q : Packing). PacksOn end R q later) (λ e. same)
      (λ e. cond_both (has_room end p item) (record p { packets = items_with p.packets (fits_current end p.past p.packets item) item }) (record p { full = true })
      (λ (q : Packing). PacksOn end R q later) (λ room. more room) (λ none. same))
    where
      same : Packs end R p.past p.packets later
      same = record { run = h.run; alive = h.alive; in_tick = h.in_tick; open_fates = h.open_fates; count = h.count; each = h.each; owed = without_it }

      begins : has_room end p item ≡ true → fits_current end p.past p.packets item ≡ false → unresolved_count p.past + length p.packets < 4096
      begins room e = begins_few p (ap (λ (b : Bool). b || may_begin end p) (sym e) ∙ room)

      more : has_room end p item ≡ true → Packs end R p.past (items_with p.packets (fits_current end p.past p.packets item) item) later
      more room =
          let e : packed (items_with p.packets (fits_current end p.past p.packets item) item) ≡ packed p.packets ++ item ∷ [] =
          packed_with p.packets (fits_current end p.past p.packets item) item in
          record {
            run = h.run;
            alive = h.alive;
            in_tick = h.in_tick;
            open_fates = h.open_fates;
            count = count_with p.past p.packets item (unresolved_count p.past) h.count (begins room) (fits_current end p.past p.packets item) refl;
            each = subst (AllByRecursion (MaySend end p.past)) (sym e) (all_append (MaySend end p.past) (packed p.packets) (item ∷ []) h.each (may, tt));
            owed = subst (λ (items : List Item). Acknowledges end.version (greatest_of (acknowledged_of p.past)) (owed_by items ++ later)) (sym e) with_it;
          }

  -- an acknowledgement
  pub offer_owed : (p : Packing) (n : ℕ) (rest : List ℕ) → PacksOn end R p (n ∷ rest) → MaySend end p.past (Owed n) → PacksOn end R (after_offer end p (Owed n)) rest
  offer_owed p n rest h may =
      offer_with p (Owed n) (n ∷ rest) rest h may
      (subst (Acknowledges end.version (greatest_of (acknowledged_of p.past))) (sym (ap (λ (ns : List ℕ). ns ++ rest) (filter_map-append owed_in (packed p.packets) (Owed n ∷ [])) ∙ append_assoc (owed_by (packed p.packets)) (n ∷ []) rest)) h.owed)
      (told_drop end.version (greatest_of (acknowledged_of p.past)) (owed_by (packed p.packets)) n rest h.owed)

  -- and any other item
  pub offer_other : (p : Packing) (item : Item) (rest : List ℕ) → PacksOn end R p rest → MayGo end p.past item → PacksOn end R (after_offer end p item) rest
  offer_other p item rest h may =
      offer_with p item rest rest h may.0
      (subst (λ (ns : List ℕ). Acknowledges end.version (greatest_of (acknowledged_of p.past)) (ns ++ rest)) (sym (filter_map-append owed_in (packed p.packets) (item ∷ []) ∙ nothing)) h.owed) h.owed
    where
      nothing : owed_by (packed p.packets) ++ owed_by (item ∷ []) ≡ owed_by (packed p.packets)
      nothing = ap (λ (o : Option ℕ). owed_by (packed p.packets) ++ cons_option o []) may.1 ∙ append-nil (owed_by (packed p.packets))

  -- ---- several items

  pub offer_past : (p : Packing) (item : Item) → (after_offer end p item).past ≡ p.past
  offer_past p item =
      cond_both p.full p
      (cond (has_room end p item) (record p { packets = items_with p.packets (fits_current end p.past p.packets item) item }) (record p { full = true }))
      (λ (q : Packing). q.past ≡ p.past) (λ e. refl)
      (λ e. cond_both (has_room end p item) (record p { packets = items_with p.packets (fits_current end p.past p.packets item) item }) (record p { full = true })
      (λ (q : Packing). q.past ≡ p.past) (λ room. refl) (λ none. refl))

  pub offers_past : (p : Packing) (items : List Item) → (fold (after_offer end) p items).past ≡ p.past
  offers_past p [] = refl
  offers_past p (item ∷ items) = offers_past (after_offer end p item) items ∙ offer_past p item

  pub offers_owed : (p : Packing) (ns rest : List ℕ) → PacksOn end R p (ns ++ rest) → AllByRecursion (MaySend end p.past) (map (λ (n : ℕ). Owed n) ns)
      → PacksOn end R (fold (after_offer end) p (map (λ (n : ℕ). Owed n) ns)) rest
  offers_owed p [] rest h all = h
  offers_owed p (n ∷ ns) rest h all =
      offers_owed (after_offer end p (Owed n)) ns rest (offer_owed p n (ns ++ rest) h all.0)
      (subst (λ (past : Past). AllByRecursion (MaySend end past) (map (λ (n : ℕ). Owed n) ns)) (sym (offer_past p (Owed n))) all.1)

  pub offers_other : (p : Packing) (items : List Item) (rest : List ℕ) → PacksOn end R p rest → AllByRecursion (MayGo end p.past) items
      → PacksOn end R (fold (after_offer end) p items) rest
  offers_other p [] rest h all = h
  offers_other p (item ∷ items) rest h all =
      offers_other (after_offer end p item) items rest (offer_other p item rest h all.0)
      (subst (λ (past : Past). AllByRecursion (MayGo end past) items) (sym (offer_past p item)) all.1)

  -- ---- an open

  -- a message is made while packets are packed
  pub packs_made : (past : Past) (packets : List (List Item)) (rest : List ℕ) → Packs end R past packets rest → (ch : ℕ) (m : Message) → MayMake end past ch m → is_opening m ≡ true
      → Packs end R (after_making past ch m) packets rest
  packs_made past packets rest h ch m may opening = record {
    run = g.goes past (Makes ch m) tt h.run h.alive may;
    alive = alive_made past ch m h.alive;
    in_tick = since_made past ch m ∙ h.in_tick;
    open_fates = omega (arith, unresolved_made past ch m, h.open_fates);
    count = omega (arith, unresolved_made past ch m, h.count);
    each = all_weaker (MaySend end past) (MaySend end (after_making past ch m)) (λ item q. may_send_made end past ch m may opening item q) (packed packets) h.each;
    owed = subst (λ (ns : List ℕ). Acknowledges end.version (greatest_of ns) (owed_by (packed packets) ++ rest)) (sym (told_made past ch m)) h.owed;
  }

  parts_range : (past : Past) (run : End) (ch first : ℕ) (m : Message) → ((i : ℕ) → i < parts_of m → MayGo end (after_making past ch m) (part_item ch first m i))
      → (count from : ℕ) → from + count ≤ parts_of m → AllByRecursion (MayGo end (after_making past ch m)) (map (part_item ch first m) (range_with_len from count))
  parts_range past run ch first m h zero from hi = tt
  parts_range past run ch first m h (suc count) from hi = (h from (omega arith), parts_range past run ch first m h count (from + 1) (omega arith))

  -- an actor that wants an open holds no index
  no_index : (state : ActorState) → is_closed state ≡ true → holds_index state ≡ false
  no_index Closed e = refl
  no_index Asleep e = absurd (false≢true e)
  no_index Opening e = absurd (false≢true e)
  no_index Opened e = absurd (false≢true e)
  no_index Closing e = absurd (false≢true e)

  no_index_asleep : (state : ActorState) → is_asleep state ≡ true → holds_index state ≡ false
  no_index_asleep Closed e = refl
  no_index_asleep Asleep e = refl
  no_index_asleep Opening e = absurd (false≢true e)
  no_index_asleep Opened e = absurd (false≢true e)
  no_index_asleep Closing e = absurd (false≢true e)

  pub wants_open_free : (past : Past) (seen : Seen) → wants_open past seen ≡ true → index_of past seen.actor ≡ None
  wants_open_free past seen e = ap (λ (b : Bool). index_at b (last_mark past seen.actor)) (by (is_closed (state_of past seen.actor)) refl e)
    where
      by : (b : Bool) → is_closed (state_of past seen.actor) ≡ b → (b || (is_asleep (state_of past seen.actor) && not (is_quiet past seen))) ≡ true → holds_index (state_of past seen.actor) ≡ false
      by true q e = no_index (state_of past seen.actor) q
      by false q e = no_index_asleep (state_of past seen.actor) (and_parts (is_asleep (state_of past seen.actor)) (not (is_quiet past seen)) e).0

  pub open_packs : (p : Packing) (seen : Seen) (rest : List ℕ) → PacksOn end R p rest → SeenNow p.past seen → wants_open p.past seen ≡ true
      → PacksOn end R (after_open end p (free_index p.past) (open_message p.past seen)) rest
  open_packs p seen rest h now wants =
      cond_both (nat_lt (room p.past ch) (parts_of m)) p
      (cond (not (has_room end p (part_item ch first m 0))) (record p { full = true }) (fold (after_offer end) (record p { past = after_making p.past ch m }) (map (part_item ch first m) (range_with_len 0 (parts_of m)))))
      (λ (q : Packing). PacksOn end R q rest) (λ e. h)
      (λ fits. cond_both (not (has_room end p (part_item ch first m 0))) (record p { full = true })
      (fold (after_offer end) (record p { past = after_making p.past ch m }) (map (part_item ch first m) (range_with_len 0 (parts_of m))))
      (λ (q : Packing). PacksOn end R q rest) (λ e. full_too) (λ e. made (ltb-false (room p.past ch) (parts_of m) fits)))
    where
      ch : ℕ
      ch = free_index p.past

      m : Message
      m = open_message p.past seen

      first : ℕ
      first = made_count p.past ch + 1

      full_too : Packs end R p.past p.packets rest
      full_too = h

      made : parts_of (open_message p.past seen) ≤ room p.past (free_index p.past)
          → PacksOn end R (fold (after_offer end) (record p { past = after_making p.past (free_index p.past) (open_message p.past seen) })
          (map (part_item (free_index p.past) (made_count p.past (free_index p.past) + 1) (open_message p.past seen)) (range_with_len 0 (parts_of (open_message p.past seen))))) rest
      made fits =
          let free = free_index_fits p.past in
          let may : MayMake end p.past (free_index p.past) (open_message p.past seen) =
          record { fits = fits; place = (free.low, free.held, free.clear, wants_open_free p.past seen wants, record { seen = seen; shown = now.0; relevant = now.1; says = refl }) } in
          offers_other (record p { past = after_making p.past (free_index p.past) (open_message p.past seen) })
          (map (part_item (free_index p.past) (made_count p.past (free_index p.past) + 1) (open_message p.past seen)) (range_with_len 0 (parts_of (open_message p.past seen)))) rest
          (packs_made p.past p.packets rest h (free_index p.past) (open_message p.past seen) may refl)
          (parts_range p.past end (free_index p.past) (made_count p.past (free_index p.past) + 1) (open_message p.past seen)
          (λ i lt. parts_may_go end p.past (carries_made end p.past (g.is_run p.past h.run)) (free_index p.past) (open_message p.past seen) i lt) (parts_of (open_message p.past seen)) 0 (omega arith))

  -- ---- an actor's turn

  update_packs : (p : Packing) (seen : Seen) → SeenNow p.past seen → is_opened (state_of p.past seen.actor) ≡ true → (o : Option ℕ) → index_of p.past seen.actor ≡ o → (due : List Pair) → due_pairs p.past seen ≡ due → (rest : List ℕ) → PacksOn end R p rest → PacksOn end R (after_update end p seen o due) rest
  update_packs p seen now opened None e due d rest h = h
  update_packs p seen now opened (Some ch) e [] d rest h = h
  update_packs p seen now opened (Some ch) e (pair ∷ due) d rest h =
      offer_other p (loose_item (update_message seen (update_pairs seen (pair ∷ due))) ch) rest h
      ((ch, refl, (opened, e, record { seen = seen; shown = now.0; relevant = now.1; at = p.past; some = some; says = ap (λ (pairs : List Pair). update_message seen (update_pairs seen pairs)) (sym d) })), refl)
    where
      some : 0 < length (due_pairs p.past seen)
      some = omega (arith, ap length d)

  pub actor_packs : (p : Packing) (seen : Seen) (rest : List ℕ) → SeenNow p.past seen → PacksOn end R p rest → PacksOn end R (after_actor end p seen) rest
  actor_packs p seen rest now h =
      cond_both p.full p
      (cond (wants_open p.past seen) (after_open end p (free_index p.past) (open_message p.past seen))
      (cond (is_opened (state_of p.past seen.actor)) (after_update end p seen (index_of p.past seen.actor) (due_pairs p.past seen)) p))
      (λ (q : Packing). PacksOn end R q rest) (λ e. h)
      (λ e. cond_both (wants_open p.past seen) (after_open end p (free_index p.past) (open_message p.past seen))
      (cond (is_opened (state_of p.past seen.actor)) (after_update end p seen (index_of p.past seen.actor) (due_pairs p.past seen)) p)
      (λ (q : Packing). PacksOn end R q rest) (λ wants. open_packs p seen rest h now wants)
      (λ e. cond_both (is_opened (state_of p.past seen.actor)) (after_update end p seen (index_of p.past seen.actor) (due_pairs p.past seen)) p
      (λ (q : Packing). PacksOn end R q rest) (λ e. update_packs p seen now e (index_of p.past seen.actor) refl (due_pairs p.past seen) refl rest h) (λ e. h)))

  -- the sight stays
  open_sight : (p : Packing) (ch : ℕ) (m : Message) → sight_of (after_open end p ch m).past ≡ sight_of p.past
  open_sight p ch m =
      cond_both (nat_lt (room p.past ch) (parts_of m)) p
      (cond (not (has_room end p (part_item ch (made_count p.past ch + 1) m 0))) (record p { full = true })
      (fold (after_offer end) (record p { past = after_making p.past ch m }) (map (part_item ch (made_count p.past ch + 1) m) (range_with_len 0 (parts_of m)))))
      (λ (q : Packing). sight_of q.past ≡ sight_of p.past) (λ e. refl)
      (λ e. cond_both (not (has_room end p (part_item ch (made_count p.past ch + 1) m 0))) (record p { full = true })
      (fold (after_offer end) (record p { past = after_making p.past ch m }) (map (part_item ch (made_count p.past ch + 1) m) (range_with_len 0 (parts_of m))))
      (λ (q : Packing). sight_of q.past ≡ sight_of p.past) (λ r. refl)
      (λ r. ap sight_of (offers_past (record p { past = after_making p.past ch m }) (map (part_item ch (made_count p.past ch + 1) m) (range_with_len 0 (parts_of m)))) ∙ sight_made p.past ch m))

  update_sight : (p : Packing) (seen : Seen) (o : Option ℕ) (due : List Pair) → sight_of (after_update end p seen o due).past ≡ sight_of p.past
  update_sight p seen None due = refl
  update_sight p seen (Some ch) [] = refl
  update_sight p seen (Some ch) (pair ∷ due) = ap sight_of (offer_past p (loose_item (update_message seen (update_pairs seen (pair ∷ due))) ch))

  pub actor_sight : (p : Packing) (seen : Seen) → sight_of (after_actor end p seen).past ≡ sight_of p.past
  actor_sight p seen =
      cond_both p.full p
      (cond (wants_open p.past seen) (after_open end p (free_index p.past) (open_message p.past seen))
      (cond (is_opened (state_of p.past seen.actor)) (after_update end p seen (index_of p.past seen.actor) (due_pairs p.past seen)) p))
      (λ (q : Packing). sight_of q.past ≡ sight_of p.past) (λ e. refl)
      (λ e. cond_both (wants_open p.past seen) (after_open end p (free_index p.past) (open_message p.past seen))
      (cond (is_opened (state_of p.past seen.actor)) (after_update end p seen (index_of p.past seen.actor) (due_pairs p.past seen)) p)
      (λ (q : Packing). sight_of q.past ≡ sight_of p.past) (λ w. open_sight p (free_index p.past) (open_message p.past seen))
      (λ e. cond_both (is_opened (state_of p.past seen.actor)) (after_update end p seen (index_of p.past seen.actor) (due_pairs p.past seen)) p
      (λ (q : Packing). sight_of q.past ≡ sight_of p.past) (λ o. update_sight p seen (index_of p.past seen.actor) (due_pairs p.past seen)) (λ o. refl)))

  pub actors_pack : (p : Packing) (actors : List Seen) (rest : List ℕ) → AllByRecursion (SeenNow p.past) actors → PacksOn end R p rest → PacksOn end R (fold (after_actor end) p actors) rest
  actors_pack p [] rest now h = h
  actors_pack p (seen ∷ actors) rest now h =
      actors_pack (after_actor end p seen) actors rest
      (all_weaker (SeenNow p.past) (SeenNow (after_actor end p seen).past) (λ s q. seen_like p.past (after_actor end p seen).past (actor_sight p seen) s q) actors now.1)
      (actor_packs p seen rest now.0 h)
