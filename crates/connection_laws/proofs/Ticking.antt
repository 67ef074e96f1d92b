-- A tick goes on with a run, in each of its steps.
use Rattle.connection_laws.proofs.Items.{waiting_loose}
use Rattle.connection_laws.proofs.Deeds.{deeds_fit}
use Rattle.std.proofs.Common.{◌≡◌, inl, inr, ℕ, ◌+◌, ◌/◌, ◌<◌, ◌≤◌, max, List, [], ◌∷◌, ◌++◌, map, reverse, Bool, true, false, cond, nat_lt, nat_le, ◌==◌, ◌&&◌, ◌||◌, length, refl, sym, ap, ◌∙◌, subst, arith, Option, Some, None, append_assoc, append-nil, fold, if◌then◌else◌}
use Rattle.std.specs.List.{filter_map, flat_map, AllByRecursion, list_all}
use Rattle.std.proofs.lemmas.Bool.{cases_Bool, false≢true, cond_both, and_parts, ltb-true, leb-false, eqb-true, le-leb}
use Rattle.std.proofs.lemmas.List.{reverse-append, length-append, length-reverse}
use Rattle.std.proofs.lemmas.List.Concat.{flat_map-append}
use Rattle.std.proofs.lemmas.List.Elements.{filter_map-append}
use Rattle.std.proofs.lemmas.List.Sums.{fold-append}
use Rattle.protocol_model.specs.Bits.{packed_bits}
use Rattle.protocol_model.specs.Payload.{Message, Closes, Gone, message_bits, parts_of}
use Rattle.protocol_model.specs.Sight.{Seen}
use Rattle.protocol_model.specs.Search.{greatest_of, is_among}
use Rattle.connection_model.specs.Feed.{End, Past, Ticked, Ended, ByStall, Item, Owed, has_ended, deeds_since_tick, tick_count, sight_of, seen_in}
use Rattle.connection_model.specs.Fates.{taken_of, unresolved_count, owed_of}
use Rattle.connection_model.specs.Bunches.{room, after_making}
use Rattle.connection_model.specs.State.{state_of, is_open, is_opened, is_asleep, index_of, opened_actors}
use Rattle.connection_model.specs.Carry.{updatable_pairs, is_carried}
use Rattle.connection_model.specs.Settled.{is_settled_as, is_clear}
use Rattle.connection_model.specs.CallAnswers.{waits_in, waiting_of}
use Rattle.connection_laws.proofs.Moves.{made_ignored}
use Rattle.connection_laws.proofs.ActorsShown.{SeenNow, actors_seen_now}
use Rattle.connection_model.specs.Items.{due_items, call_item, first_items, actors_by_score}
use Rattle.connection_model.specs.Pack.{idle_ticks, is_shown, made_if_room, after_close, after_closes, Packing, after_offer, packing_of, is_silent, owes_head, packets_to_send, after_sending, after_stall, after_packing, after_tick}
use Rattle.connection_laws.specs.Run.{Makes, Sends, MayMake, HasPlace, MaySend, owed_by, owed_in, acknowledged_of, Acknowledges}
use Rattle.connection_laws.proofs.Fates.{moves_sent}
use Rattle.connection_laws.proofs.Counts.{last_sent_sent}
use Rattle.connection_laws.proofs.OwedAscend.{owed_ascends, owed_taken_before, owed_may_go}
use Rattle.connection_laws.proofs.AcksInOrder.{told_made, since_made, taken_made}
use Rattle.connection_laws.proofs.Items.{all_weaker, all_append, MayGo, WaitsLoose, waits_like, may_send_sent, due_may_go, calls_may_go, told_first, told_rest, told_none}
use Rattle.connection_laws.proofs.Packing.{packed, Packs, PacksOn, offers_past, offers_owed, offers_other, actors_pack}
use Rattle.connection_laws.proofs.LiveRuns.{Goes, IsDone, ended_done, alive_made, unresolved_made}
use Rattle.protocol_laws.proofs.Greatest.{greatest_of-append}
use Rattle.protocol_laws.proofs.Lengths.{length-packed_in}
use Rattle.connection_laws.proofs.ActorMarks.{opened_is_open}

-- ---- small messages

-- a Gone has one part
gone_is_small : (a : ℕ) → parts_of (Gone a) ≡ 1
gone_is_small a = ap (λ (b : Bool). if b then 1 else (length (message_bits (Gone a)) + 6999) / 7000) (le-leb (length (message_bits (Gone a))) 7000 short)
  where
    short : length (packed_bits 1 ++ packed_bits a) ≤ 7000
    short = omega (arith, length-append (packed_bits 1) (packed_bits a), length-packed_in 5 1, length-packed_in 5 a)

-- a tick before its packets; `before` is the past before the tick
pub record IsTicking (end : End) (R : Past → Type 0) (before past : Past) : Type 0 where
  pub run : R past
  pub alive : has_ended past ≡ false
  pub in_tick : taken_of (deeds_since_tick past) ≡ []
  pub taken : taken_of past ≡ taken_of before
  pub told : acknowledged_of past ≡ acknowledged_of before
  pub unresolved : unresolved_count past ≡ unresolved_count before
  pub waits : filter_map waits_in past ≡ filter_map waits_in before

-- packets that may be sent one after another
pub record Sendable (end : End) (R : Past → Type 0) (past : Past) (packets : List (List Item)) : Type 0 where
  pub run : R past
  pub alive : has_ended past ≡ false
  pub in_tick : taken_of (deeds_since_tick past) ≡ []
  pub count : unresolved_count past + length packets ≤ 4096
  pub each : AllByRecursion (MaySend end past) (flat_map (λ (items : List Item). items) packets)
  pub owed : Acknowledges end.version (greatest_of (acknowledged_of past)) (owed_by (flat_map (λ (items : List Item). items) packets))

module _ (end : End) (R : Past → Type 0) (g : Goes end R) where
  -- ---- closes

  pub ticking_made : (before past : Past) (ch : ℕ) (m : Message) → IsTicking end R before past → MayMake end past ch m → IsTicking end R before (after_making past ch m)
  ticking_made before past ch m h may = record {
    run = g.goes past (Makes ch m) tt h.run h.alive may;
    alive = alive_made past ch m h.alive;
    in_tick = since_made past ch m ∙ h.in_tick;
    taken = taken_made past ch m ∙ h.taken;
    told = told_made past ch m ∙ h.told;
    unresolved = unresolved_made past ch m ∙ h.unresolved;
    waits = made_ignored waits_in (λ c n m i. refl) past ch m ∙ h.waits;
  }

  if_room : (before past : Past) (o : Option ℕ) (m : Message) → parts_of m ≡ 1 → ((ch : ℕ) → o ≡ Some ch → HasPlace end past ch m) → IsTicking end R before past
      → IsTicking end R before (made_if_room past o m)
  if_room before past None m one place h = h
  if_room before past (Some ch) m one place h =
      cond_both (nat_lt 0 (room past ch)) (after_making past ch m) past (IsTicking end R before)
      (λ e. ticking_made before past ch m h (record { fits = fits e; place = place ch refl })) (λ e. h)
    where
      fits : nat_lt 0 (room past ch) ≡ true → parts_of m ≤ room past ch
      fits e = (let lt : 0 < room past ch = ltb-true 0 (room past ch) e in omega (arith, one))

  found_actor : (sight : List Seen) (a : ℕ) (s : Seen) → seen_in sight a ≡ Some s → s.actor ≡ a
  found_actor [] a s e = absurd (let no : (let o : Option Seen = None in o) ≡ Some s = e in cc)
  found_actor (t ∷ sight) a s e = by (t.actor == a) refl e (λ q. found_actor sight a s q)
    where
      same : (x y : Seen) → (let o : Option Seen = Some x in o) ≡ Some y → x ≡ y
      same x y q = cc

      by : (b : Bool) → (t.actor == a) ≡ b → cond b (Some t) (seen_in sight a) ≡ Some s → (seen_in sight a ≡ Some s → s.actor ≡ a) → s.actor ≡ a
      by true q e ih = ap (λ (x : Seen). x.actor) (sym (same t s e)) ∙ eqb-true t.actor a q
      by false q e ih = ih e

  settled_is_open : (past : Past) (a : ℕ) (o : Option Seen) → seen_in (sight_of past) a ≡ o → is_shown (λ s. s.dormant && is_settled_as past s) o ≡ true → is_open (state_of past a) ≡ true
  settled_is_open past a None q e = absurd (false≢true e)
  settled_is_open past a (Some s) q e =
      let settled : is_settled_as past s ≡ true = (and_parts s.dormant (is_settled_as past s) e).1 in
      let opened : is_opened (state_of past s.actor) ≡ true = first settled in
      opened_is_open (state_of past a) (subst (λ (x : ℕ). is_opened (state_of past x) ≡ true) (found_actor (sight_of past) a s q) opened)
    where
      first : is_settled_as past s ≡ true → is_opened (state_of past s.actor) ≡ true
      first e = by (is_opened (state_of past s.actor)) refl e
        where
          by : (b : Bool) → is_opened (state_of past s.actor) ≡ b → (b && s.relevant && is_clear past (index_of past s.actor) && list_all (is_carried past s.actor) (updatable_pairs s)) ≡ true → is_opened (state_of past s.actor) ≡ true
          by true q e = q
          by false q e = absurd (false≢true e)

  pub close_ticks : (before past : Past) (a : ℕ) → IsTicking end R before past → IsTicking end R before (after_close past a)
  close_ticks before past a h =
      let seen : Option Seen = seen_in (sight_of past) a in
      cond_both (is_open (state_of past a) && (is_shown (λ s. s.destroyed) seen || nat_le 5 (idle_ticks past a))) (made_if_room past (index_of past a) (Closes a false))
      (cond (is_shown (λ s. s.dormant && is_settled_as past s) seen) (made_if_room past (index_of past a) (Closes a true))
      (cond (is_asleep (state_of past a) && is_shown (λ s. s.destroyed) seen) (made_if_room past (Some 0) (Gone a)) past))
      (IsTicking end R before)
      (λ e. if_room before past (index_of past a) (Closes a false) refl
      (λ ch q. (q, (and_parts (is_open (state_of past a)) (is_shown (λ s. s.destroyed) (seen_in (sight_of past) a) || nat_le 5 (idle_ticks past a)) e).0, tt)) h)
      (λ e. cond_both (is_shown (λ s. s.dormant && is_settled_as past s) seen) (made_if_room past (index_of past a) (Closes a true))
      (cond (is_asleep (state_of past a) && is_shown (λ s. s.destroyed) seen) (made_if_room past (Some 0) (Gone a)) past) (IsTicking end R before)
      (λ e. if_room before past (index_of past a) (Closes a true) refl (λ ch q. (q, settled_is_open past a (seen_in (sight_of past) a) refl e, e)) h)
      (λ e. cond_both (is_asleep (state_of past a) && is_shown (λ s. s.destroyed) seen) (made_if_room past (Some 0) (Gone a)) past (IsTicking end R before)
      (λ e. if_room before past (Some 0) (Gone a) (gone_is_small a)
      (λ ch q. (let p = and_parts (is_asleep (state_of past a)) (is_shown (λ s. s.destroyed) (seen_in (sight_of past) a)) e in (zero_is ch q, p.0, p.1))) h) (λ e. h)))
    where
      zero_is : (ch : ℕ) → (let o : Option ℕ = Some 0 in o) ≡ Some ch → ch ≡ 0
      zero_is ch q = cc

  pub closes_tick : (before past : Past) (actors : List ℕ) → IsTicking end R before past → IsTicking end R before (fold after_close past actors)
  closes_tick before past [] h = h
  closes_tick before past (a ∷ actors) h = closes_tick before (after_close past a) actors (close_ticks before past a h)

  -- ---- what is packed

  -- the tick's first items
  pub first_packs : (before now : Past) → R before → IsTicking end R before now → unresolved_count before < 4096
      → PacksOn end R (fold (after_offer end) (record { past = now; packets = []; full = false }) (first_items end before now)) []
  first_packs before now run h few =
      subst (λ (q : Packing). PacksOn end R q []) (sym (ap (fold (after_offer end) empty) (append_assoc (map (λ (n : ℕ). Owed n) ns) (due_items now) calls) ∙ fold-append (after_offer end) empty (map (λ (n : ℕ). Owed n) ns) (due_items now ++ calls)))
      (offers_other end R g (fold (after_offer end) empty (map (λ (n : ℕ). Owed n) ns)) (due_items now ++ calls) []
      (offers_owed end R g empty ns [] start owed)
      (subst (λ (past : Past). AllByRecursion (MayGo end past) (due_items now ++ calls)) (sym (offers_past end R g empty (map (λ (n : ℕ). Owed n) ns)))
      (all_append (MayGo end now) (due_items now) calls (due_may_go end now) (calls_may_go end now (waiting_of before) (all_weaker (WaitsLoose before) (WaitsLoose now) (waits_like before now h.waits) (waiting_of before) (waiting_loose end before (deeds_fit end before (g.is_run before run))))))))
    where
      ns : List ℕ
      ns = owed_of end.version before

      calls : List Item
      calls = filter_map (call_item end.side now) (waiting_of before)

      empty : Packing
      empty = record { past = now; packets = []; full = false }

      start : Packs end R now [] (owed_of end.version before ++ [])
      start = record {
        run = h.run;
        alive = h.alive;
        in_tick = h.in_tick;
        open_fates = omega (arith, h.unresolved, few);
        count = omega (arith, h.unresolved, few);
        each = tt;
        owed = subst (Acknowledges end.version (greatest_of (acknowledged_of now))) (sym (append-nil (owed_of end.version before)))
            (subst (λ (ms : List ℕ). Acknowledges end.version (greatest_of ms) (owed_of end.version before)) (sym h.told) (owed_ascends end before (g.is_run before run) end.version));
      }

      owed : AllByRecursion (MaySend end now) (map (λ (n : ℕ). Owed n) (owed_of end.version before))
      owed = owed_may_go end now (owed_of end.version before) (λ n e. ap (is_among n) h.taken ∙ owed_taken_before before end.version n e)

  -- and then the actors'
  pub packing_packs : (before now : Past) → R before → IsTicking end R before now → unresolved_count before < 4096 → PacksOn end R (packing_of end before now) []
  packing_packs before now run h few =
      actors_pack end R g (fold (after_offer end) (record { past = now; packets = []; full = false }) (first_items end before now)) (actors_by_score now) []
      (subst (λ (past : Past). AllByRecursion (SeenNow past) (actors_by_score now)) (sym (offers_past end R g (record { past = now; packets = []; full = false }) (first_items end before now))) (actors_seen_now now))
      (first_packs before now run h few)

  -- ---- packets are sent

  all_left : {A : Type 0} (P : A → Type 0) (xs ys : List A) → AllByRecursion P (xs ++ ys) → AllByRecursion P xs × AllByRecursion P ys
  all_left P [] ys h = (tt, h)
  all_left P (x ∷ xs) ys h = (let r = all_left P xs ys h.1 in ((h.0, r.0), r.1))

  pub one_sent : (past : Past) (items : List Item) (packets : List (List Item)) → Sendable end R past (items ∷ packets) → Sendable end R (after_sending past items) packets
  one_sent past items packets h =
      let later : List Item = flat_map (λ (xs : List Item). xs) packets in
      let parts = all_left (MaySend end past) items later h.each in
      let owed : Acknowledges end.version (greatest_of (acknowledged_of past)) (owed_by items ++ owed_by later) =
      subst (Acknowledges end.version (greatest_of (acknowledged_of past))) (filter_map-append owed_in items later) h.owed in
      let top : max (greatest_of (acknowledged_of past)) (greatest_of (owed_by items)) ≡ greatest_of (owed_by items ++ acknowledged_of past) =
      omega (arith, greatest_of-append (owed_by items) (acknowledged_of past)) in
      record {
        run = g.goes past (Sends items) tt h.run h.alive (record {
          unresolved = omega (arith, h.count);
          in_tick = h.in_tick;
          each = parts.0;
          told = told_first end.version (greatest_of (acknowledged_of past)) (owed_by items) (owed_by later) owed;
        });
        alive = h.alive;
        in_tick = h.in_tick;
        count = omega (arith, h.count, last_sent_sent past items);
        each = all_weaker (MaySend end past) (MaySend end (after_sending past items)) (λ item q. may_send_sent end past items (moves_sent end past (g.is_run past h.run)) parts.0 item q) later parts.1;
        owed = subst (λ (n : ℕ). Acknowledges end.version n (owed_by later)) top (told_rest end.version (greatest_of (acknowledged_of past)) (owed_by items) (owed_by later) owed);
      }

  pub all_sent : (past : Past) (packets : List (List Item)) → Sendable end R past packets → Sendable end R (fold after_sending past packets) []
  all_sent past [] h = h
  all_sent past (items ∷ packets) h = all_sent (after_sending past items) packets (one_sent past items packets h)

  packed_in_order : (packets : List (List Item)) → flat_map (λ (items : List Item). items) (reverse packets) ≡ packed packets
  packed_in_order [] = refl
  packed_in_order (current ∷ packets) =
      ap (flat_map (λ (items : List Item). items)) (reverse-append (current ∷ []) packets)
      ∙ flat_map-append (λ (items : List Item). items) (reverse packets) (current ∷ [])
      ∙ ap (λ (xs : List Item). xs ++ (current ++ [])) (packed_in_order packets)
      ∙ ap (λ (xs : List Item). packed packets ++ xs) (append-nil current)

  pub sendable : (before : Past) (p : Packing) → PacksOn end R p [] → Sendable end R p.past (packets_to_send end before p)
  sendable before p h =
      cond_both (nat_lt 0 (length p.packets)) (reverse p.packets) (cond (owes_head end.version before || is_silent p.past) ([] ∷ []) []) (Sendable end R p.past)
      (λ e. packs)
      (λ e. cond_both (owes_head end.version before || is_silent p.past) ([] ∷ []) [] (Sendable end R p.past) (λ e. empty) (λ e. none))
    where
      packs : Sendable end R p.past (reverse p.packets)
      packs =
          let e : flat_map (λ (items : List Item). items) (reverse p.packets) ≡ packed p.packets = packed_in_order p.packets in
          record {
            run = h.run;
            alive = h.alive;
            in_tick = h.in_tick;
            count = omega (arith, h.count, length-reverse p.packets);
            each = subst (AllByRecursion (MaySend end p.past)) (sym e) h.each;
            owed = subst (λ (items : List Item). Acknowledges end.version (greatest_of (acknowledged_of p.past)) (owed_by items)) (sym e)
                (subst (Acknowledges end.version (greatest_of (acknowledged_of p.past))) (append-nil (owed_by (packed p.packets))) h.owed);
          }

      empty : Sendable end R p.past ([] ∷ [])
      empty = record { run = h.run; alive = h.alive; in_tick = h.in_tick; count = omega (arith, h.open_fates); each = tt; owed = told_none end.version (greatest_of (acknowledged_of p.past)) }

      none : Sendable end R p.past []
      none = record { run = h.run; alive = h.alive; in_tick = h.in_tick; count = omega (arith, h.open_fates); each = tt; owed = told_none end.version (greatest_of (acknowledged_of p.past)) }

  -- ---- the tick

  stall_done : (past : Past) → R past → has_ended past ≡ false → IsDone R (after_stall past)
  stall_done past run alive =
      cond_both (nat_le 4096 (unresolved_count past)) (Ended ByStall ∷ past) past (IsDone R)
      (λ e. ended_done end R g past ByStall run alive)
      (λ e. record { run = run; few = λ q. leb-false 4096 (unresolved_count past) e })

  -- a tick goes on with a run, where its beginning does
  pub tick_runs : (past : Past) (sight : List Seen) → (R past → has_ended past ≡ false → R (Ticked (tick_count past + 1) sight ∷ past)) → IsDone R past → IsDone R (after_tick end past sight)
  tick_runs past sight ticks h = elim (cases_Bool (has_ended past)) [
    | inl e ↦ rw e h
    | inr e ↦ rw e (ticked e)
  ]
    where
      begun : has_ended past ≡ false → IsTicking end R past (Ticked (tick_count past + 1) sight ∷ past)
      begun e = record { run = ticks h.run e; alive = e; in_tick = refl; taken = refl; told = refl; unresolved = refl; waits = refl }

      ticked : has_ended past ≡ false → IsDone R (after_packing end past (packing_of end past (after_closes (Ticked (tick_count past + 1) sight ∷ past))))
      ticked e =
          let begin : Past = Ticked (tick_count past + 1) sight ∷ past in
          let closed : IsTicking end R past (after_closes begin) = closes_tick past begin (opened_actors begin) (begun e) in
          let packing : Packing = packing_of end past (after_closes begin) in
          let sent : Sendable end R (fold after_sending packing.past (packets_to_send end past packing)) [] =
          all_sent packing.past (packets_to_send end past packing) (sendable past packing (packing_packs past (after_closes begin) h.run closed (h.few e))) in
          stall_done (fold after_sending packing.past (packets_to_send end past packing)) sent.run sent.alive
