-- A tick sends the same, whichever of the two sights it was given.
use Rattle.std.proofs.Common.{◌≡◌, ℕ, ◌+◌, List, [], ◌∷◌, ◌++◌, map, length, reverse, Bool, true, false, not, cond, ◌||◌, nat_lt, nat_le, refl, sym, ap, ◌∙◌, subst, fold, Option, Some, None, option_map}
use Rattle.std.specs.List.{AllByRecursion, filter_map, range_with_len}
use Rattle.std.proofs.lemmas.Bool.{false≢true}
use Rattle.protocol_model.specs.Limits.{unresolved_limit}
use Rattle.protocol_model.specs.Value.{Pair}
use Rattle.protocol_model.specs.Side.{Side, AtServer, AtClient}
use Rattle.protocol_model.specs.Payload.{Message, Opens, parts_of, actor_of}
use Rattle.protocol_model.specs.Sight.{Seen}
use Rattle.protocol_model.specs.declared.Version.{Version}
use Rattle.protocol_model.specs.declared.Version.TheVariants.{One, Two}
use Rattle.connection_model.specs.Feed.{End, Past, Sent, Ended, ByStall, Item, has_ended, tick_count, seen_in}
use Rattle.connection_model.specs.Fates.{last_sent, unresolved_count, taken_of, owed_of}
use Rattle.connection_model.specs.Bunches.{made_count, room, after_making}
use Rattle.connection_model.specs.State.{ActorState, state_of, is_opened, index_of, free_index}
use Rattle.connection_model.specs.Carry.{due_pairs}
use Rattle.connection_model.specs.Items.{wants_open, open_message, update_message, update_pairs, loose_item, call_item, due_items, first_items, actors_by_score}
use Rattle.connection_model.specs.CallAnswers.{call_channel, waiting_of}
use Rattle.connection_model.specs.Pack.{Packing, has_room, after_offer, part_item, after_open, after_update, after_actor, packing_of, is_silent, owes_head, packets_to_send, after_sending, after_stall, after_packing, after_closes, after_tick}
use Rattle.packing_laws.specs.Beginning.{ticked}
use Rattle.packing_laws.proofs.Packings.{has_room_same, offer_past, offers_past_after}
use Rattle.channel_laws.proofs.Alike.{same_room}
use Rattle.sight_laws.specs.Sights.{unvalued, Shows, IsSight}
use Rattle.sight_laws.specs.Differing.{but_sights, SameButSights}
use Rattle.sight_laws.proofs.Unsighted.{ended_same, count_same, since_same, owed_same, waiting_same, unresolved_same, sent_same, header_same, delivered_same, alike, due_same, states_same, indexes_same, free_same, due_pairs_same, needed_same, silent_same, filter_map_same}
use Rattle.sight_laws.proofs.Shown.{Told, InTick, shut_unopened, begins_same}
use Rattle.sight_laws.proofs.Shown.Told.{same, empty, missing}
use Rattle.sight_laws.proofs.Closing.{wants_like, makes_same, closes_same}
use Rattle.sight_laws.proofs.Scoring.{IsTurn, relevant_of, actors_alike, actors_entries, SightsFit, sights_fit}

-- ---- packing

-- the same is packed, over pasts of one tick
pub record PacksSame (shown given : List Seen) (p q : Packing) : Type 0 where
  pub other : Past
  pub is : q ≡ record p { past = other }
  pub within : InTick shown given p.past other

-- items are offered
pub offers_same : {shown given : List Seen} (end : End) (p q : Packing) (items : List Item)
    → PacksSame shown given p q
    → PacksSame shown given (fold (after_offer end) p items) (fold (after_offer end) q items)
offers_same {shown} {given} end p q items h = record {
  other = h.other;
  is = ap (λ (q : Packing). fold (after_offer end) q items) h.is
      ∙ offers_past_after end p h.other items (header_same p.past h.other h.within.same.done end.version)
      (unresolved_same p.past h.other h.within.same.done);
  within = subst (λ (l : Past). InTick shown given l h.other) (sym (offers_past end items p)) h.within;
}
  where
    offers_past : (end : End) (items : List Item) (p : Packing) → (fold (after_offer end) p items).past ≡ p.past
    offers_past end [] p = refl
    offers_past end (item ∷ items) p = offers_past end items (after_offer end p item) ∙ offer_past end p item

pub offer_same : {shown given : List Seen} (end : End) (p q : Packing) (item : Item) → PacksSame shown given p q
    → PacksSame shown given (after_offer end p item) (after_offer end q item)
offer_same end p q item h = offers_same end p q (item ∷ []) h

-- an open of an actor of which both sights tell the same
pub open_same : {shown given : List Seen} (end : End) (p : Packing) (other : Past) (seen : Seen)
    → seen_in given seen.actor ≡ seen_in shown seen.actor → InTick shown given p.past other
    → PacksSame shown given (after_open end p (free_index p.past) (open_message p.past seen))
    (after_open end (record p { past = other }) (free_index other) (open_message other seen))
open_same {shown} {given} end p other seen e h =
    subst (λ (ch : ℕ). PacksSame shown given (after_open end p (free_index p.past) (open_message p.past seen))
    (after_open end (record p { past = other }) ch (open_message other seen)))
    (sym (free_same p.past other h.same.done))
    (subst (λ (m : Message). PacksSame shown given (after_open end p (free_index p.past) (open_message p.past seen))
    (after_open end (record p { past = other }) (free_index p.past) m))
    (ap (λ segments. Opens segments seen.actor seen.class seen.values)
    (sym (needed_same p.past other h.same.done seen.class)))
    (opens (free_index p.past) (open_message p.past seen) e))
  where
    opens : (ch : ℕ) (m : Message) → seen_in given (actor_of m) ≡ seen_in shown (actor_of m)
        → PacksSame shown given (after_open end p ch m) (after_open end (record p { past = other }) ch m)
    opens ch m e =
        by (nat_lt (room p.past ch) (parts_of m)) (nat_lt (room other ch) (parts_of m))
        (has_room end p (part_item ch (made_count p.past ch + 1) m 0))
        (has_room end (record p { past = other }) (part_item ch (made_count other ch + 1) m 0))
        (ap (λ (k : ℕ). nat_lt k (parts_of m)) (same_room p.past other (alike p.past other h.same.done) ch))
        (ap (λ (k : ℕ). has_room end (record p { past = other }) (part_item ch (k + 1) m 0))
        ((alike p.past other h.same.done).made.count ch)
        ∙ has_room_same end p other (part_item ch (made_count p.past ch + 1) m 0)
        (header_same p.past other h.same.done end.version) (unresolved_same p.past other h.same.done))
        (subst (λ (k : ℕ). PacksSame shown given (made p.past (made_count p.past ch + 1)) (made other (k + 1)))
        (sym ((alike p.past other h.same.done).made.count ch))
        (offers_same end (record p { past = after_making p.past ch m }) (record p { past = after_making other ch m })
        (map (part_item ch (made_count p.past ch + 1) m) (range_with_len 0 (parts_of m)))
        (record { other = after_making other ch m; is = refl; within = makes_same p.past other ch m e h })))
      where
        made : Past → ℕ → Packing
        made past first =
            fold (after_offer end) (record p { past = after_making past ch m })
            (map (part_item ch first m) (range_with_len 0 (parts_of m)))

        by : (a b c d : Bool) → b ≡ a → d ≡ c
            → PacksSame shown given (made p.past (made_count p.past ch + 1)) (made other (made_count other ch + 1))
            → PacksSame shown given (cond a p
            (cond (not c) (record p { full = true }) (made p.past (made_count p.past ch + 1))))
            (cond b (record p { past = other })
            (cond (not d) (record p { past = other; full = true }) (made other (made_count other ch + 1))))
        by true true c d e f m = record { other = other; is = refl; within = h }
        by false false true true e f m = m
        by false false false false e f m = record { other = other; is = refl; within = h }
        by false false true false e f m = absurd (false≢true f)
        by false false false true e f m = absurd (false≢true (sym f))
        by true false c d e f m = absurd (false≢true e)
        by false true c d e f m = absurd (false≢true (sym e))

-- an update
pub update_same : {shown given : List Seen} (end : End) (p : Packing) (other : Past) (seen : Seen)
    → InTick shown given p.past other
    → PacksSame shown given (after_update end p seen (index_of p.past seen.actor) (due_pairs p.past seen))
    (after_update end (record p { past = other }) seen (index_of other seen.actor) (due_pairs other seen))
update_same {shown} {given} end p other seen h =
    subst (λ (o : Option ℕ). PacksSame shown given
    (after_update end p seen (index_of p.past seen.actor) (due_pairs p.past seen))
    (after_update end (record p { past = other }) seen o (due_pairs other seen)))
    (sym (indexes_same p.past other h.same.done seen.actor))
    (subst (λ (due : List Pair). PacksSame shown given
    (after_update end p seen (index_of p.past seen.actor) (due_pairs p.past seen))
    (after_update end (record p { past = other }) seen (index_of p.past seen.actor) due))
    (sym (due_pairs_same p.past other h.same.done seen))
    (by (index_of p.past seen.actor) (due_pairs p.past seen)))
  where
    start : PacksSame shown given p (record p { past = other })
    start = record { other = other; is = refl; within = h }

    by : (o : Option ℕ) (due : List Pair)
        → PacksSame shown given (after_update end p seen o due)
        (after_update end (record p { past = other }) seen o due)
    by None due = start
    by (Some ch) [] = start
    by (Some ch) (pair ∷ due) =
        offer_same end p (record p { past = other })
        (loose_item (update_message seen (update_pairs seen (pair ∷ due))) ch) start

-- what is done of an actor: nothing after the first that found no room, its open, its update, or nothing
abbrev acted : End → Packing → Seen → (wants opened : Bool) → Packing
acted end p seen wants opened =
    cond p.full p
    (cond wants (after_open end p (free_index p.past) (open_message p.past seen))
    (cond opened (after_update end p seen (index_of p.past seen.actor) (due_pairs p.past seen)) p))

wants_same : (past other : Past) (seen : Seen) → SameButSights past other → wants_open other seen ≡ wants_open past seen
wants_same past other seen h =
    wants_like past other seen (states_same past other h.done seen.actor) (h.flush seen.actor)

pub actor_same : {shown given : List Seen} (end : End) (p : Packing) (other : Past) (seen : Seen)
    → seen_in given seen.actor ≡ seen_in shown seen.actor → InTick shown given p.past other
    → PacksSame shown given (after_actor end p seen) (after_actor end (record p { past = other }) seen)
actor_same {shown} {given} end p other seen e h =
    subst (λ (b : Bool). PacksSame shown given (after_actor end p seen)
    (acted end (record p { past = other }) seen b (is_opened (state_of other seen.actor))))
    (sym (wants_same p.past other seen h.same))
    (subst (λ (b : Bool). PacksSame shown given (after_actor end p seen)
    (acted end (record p { past = other }) seen (wants_open p.past seen) b))
    (ap is_opened (sym (states_same p.past other h.same.done seen.actor)))
    (by p.full (wants_open p.past seen) (is_opened (state_of p.past seen.actor))))
  where
    start : PacksSame shown given p (record p { past = other })
    start = record { other = other; is = refl; within = h }

    by : (full wants opened : Bool)
        → PacksSame shown given
        (cond full p (cond wants (after_open end p (free_index p.past) (open_message p.past seen))
        (cond opened (after_update end p seen (index_of p.past seen.actor) (due_pairs p.past seen)) p)))
        (cond full (record p { past = other })
        (cond wants (after_open end (record p { past = other }) (free_index other) (open_message other seen))
        (cond opened (after_update end (record p { past = other }) seen (index_of other seen.actor)
        (due_pairs other seen)) (record p { past = other }))))
    by true w o = start
    by false true o = open_same end p other seen e h
    by false false true = update_same end p other seen h
    by false false false = start

-- of an idle actor nothing is sent
idle_passed : (end : End) (p : Packing) (seen : Seen) → wants_open p.past seen ≡ false
    → is_opened (state_of p.past seen.actor) ≡ false → after_actor end p seen ≡ p
idle_passed end p seen w o =
    ap (λ (b : Bool). acted end p seen b (is_opened (state_of p.past seen.actor))) w
    ∙ ap (λ (b : Bool). acted end p seen false b) o ∙ by p.full
  where
    by : (full : Bool) → cond full p p ≡ p
    by true = refl
    by false = refl

-- one actor after the other
turn_same : {shown given : List Seen} (end : End) (p : Packing) (other : Past) (seen less : Seen)
    → InTick shown given p.past other → IsTurn shown seen → IsTurn given less → unvalued less ≡ unvalued seen
    → PacksSame shown given (after_actor end p seen) (after_actor end (record p { past = other }) less)
turn_same {shown} {given} end p other seen less h t u e =
    by (h.told seen.actor) t.0 (ap (seen_in given) (sym actor) ∙ u.0)
  where
    actor : less.actor ≡ seen.actor
    actor = ap (λ (s : Seen). s.actor) e

    by : {o q : Option Seen} → Told p.past seen.actor o q → o ≡ Some seen → q ≡ Some less
        → PacksSame shown given (after_actor end p seen) (after_actor end (record p { past = other }) less)
    by (same {o = o}) x y =
        let is : seen ≡ less = (let z : Some seen ≡ Some less = sym x ∙ y in cc) in
        subst (λ (s : Seen). PacksSame shown given (after_actor end p seen)
        (after_actor end (record p { past = other }) s)) is
        (actor_same end p other seen (ap (seen_in given) (sym actor) ∙ u.0 ∙ ap (λ (s : Seen). Some s) (sym is)
        ∙ sym t.0) h)
    by (empty {seen = s} is idle) x y =
        let one : s ≡ seen = (let z : Some s ≡ Some seen = x in cc) in
        let two : unvalued s ≡ less = (let z : Some (unvalued s) ≡ Some less = y in cc) in
        let relevant : s.relevant ≡ true = ap (λ (r : Seen). r.relevant) one ∙ t.1 in
        let silent : wants_open p.past s ≡ false = idle.silent relevant in
        let unopened : is_opened (state_of p.past s.actor)
        ≡ false = shut_unopened (state_of p.past s.actor) idle.shut in
        subst (λ (r : Seen). PacksSame shown given (after_actor end p r)
        (after_actor end (record p { past = other }) less)) one
        (subst (λ (r : Seen). PacksSame shown given (after_actor end p s)
        (after_actor end (record p { past = other }) r)) two
        (subst (λ (q : Packing). PacksSame shown given q (after_actor end (record p { past = other }) (unvalued s)))
        (sym (idle_passed end p s silent unopened))
        (record {
          other = other;
          is = idle_passed end (record p { past = other }) (unvalued s) (wants_same p.past other (unvalued s) h.same
              ∙ silent)
              (ap is_opened (states_same p.past other h.same.done s.actor) ∙ unopened);
          within = h;
        })))
    by (missing {seen = s} is parts closed) x y = absurd (let z : (let o : Option Seen = None in o)
        ≡ Some less = y in cc)

turns_from : {shown given : List Seen} (end : End) (actors others : List Seen) (p q : Packing)
    → map unvalued others ≡ map unvalued actors → AllByRecursion (IsTurn shown) actors
    → AllByRecursion (IsTurn given) others
    → PacksSame shown given p q
    → PacksSame shown given (fold (after_actor end) p actors) (fold (after_actor end) q others)
turns_from end [] [] p q e t u h = h
turns_from {shown} {given} end (seen ∷ actors) (less ∷ others) p q e t u h =
    let heads : unvalued less ≡ unvalued seen = cc in
    let tails : map unvalued others ≡ map unvalued actors = cc in
    turns_from end actors others (after_actor end p seen) (after_actor end q less) tails t.1 u.1
    (subst (λ (r : Packing). PacksSame shown given (after_actor end p seen) (after_actor end r less)) (sym h.is)
    (turn_same end p h.other seen less h.within t.0 u.0 heads))
turns_from end [] (less ∷ others) p q e t u h = absurd (cc)
turns_from end (seen ∷ actors) [] p q e t u h = absurd (cc)

-- ---- the tick

pub channel_same : (side : Side) (past other : Past) → but_sights other ≡ but_sights past → (a : ℕ)
    → call_channel side other a ≡ call_channel side past a
channel_same AtServer past other e a =
    ap (λ (s : ActorState). cond (is_opened s) (index_of other a) None) (states_same past other e a)
    ∙ ap (λ (o : Option ℕ). cond (is_opened (state_of past a)) o None) (indexes_same past other e a)
channel_same AtClient past other e a = rw (delivered_same past other e) refl

-- what comes before the actors
pub firsts_same : (end : End) (before now earlier later : Past) → but_sights earlier ≡ but_sights before
    → but_sights later ≡ but_sights now → first_items end earlier later ≡ first_items end before now
firsts_same end before now earlier later e f =
    ap (λ (ns : List ℕ). map Item.Owed ns ++ due_items later ++ filter_map (call_item end.side later)
    (waiting_of earlier)) (owed_same before earlier e end.version)
    ∙ ap (λ (items : List Item). map Item.Owed (owed_of end.version before) ++ items ++ filter_map
    (call_item end.side later) (waiting_of earlier)) (due_same now later f)
    ∙ ap (λ (items : List Item). map Item.Owed (owed_of end.version before) ++ due_items now ++ items)
    (filter_map_same (call_item end.side later) (call_item end.side now)
    (λ m. ap (λ (o : Option ℕ). option_map (loose_item m) o) (channel_same end.side now later f (actor_of m)))
    (waiting_of earlier)
    ∙ ap (filter_map (call_item end.side now)) (waiting_same before earlier e))

-- all that is packed
packing_same : {shown given : List Seen} (end : End) (before earlier now later : Past)
    → but_sights earlier ≡ but_sights before → SightsFit shown given → InTick shown given now later
    → PacksSame shown given (packing_of end before now) (packing_of end earlier later)
packing_same {shown} {given} end before earlier now later e fit h =
    turns_from end (actors_by_score now) (actors_by_score later)
    (fold (after_offer end) (record { past = now; packets = []; full = false }) (first_items end before now))
    (fold (after_offer end) (record { past = later; packets = []; full = false }) (first_items end earlier later))
    (actors_alike now later h.same (ap (λ l. map unvalued (relevant_of l)) h.gives ∙ fit.relevant
    ∙ sym (ap (λ l. map unvalued (relevant_of l)) h.shows)))
    (actors_entries now shown h.shows fit.once) (actors_entries later given h.gives fit.given_once)
    (subst (λ (items : List Item). PacksSame shown given
    (fold (after_offer end) (record { past = now; packets = []; full = false }) (first_items end before now))
    (fold (after_offer end) (record { past = later; packets = []; full = false }) items))
    (sym (firsts_same end before now earlier later e h.same.done))
    (offers_same end (record { past = now; packets = []; full = false })
    (record { past = later; packets = []; full = false }) (first_items end before now)
    (record { other = later; is = refl; within = h })))

-- the packets that are sent
sending_same : (past other : Past) (items : List Item) → SameButSights past other
    → SameButSights (after_sending past items) (after_sending other items)
sending_same past other items h = record {
  done = ap (λ (n : ℕ). Sent (n + 1) (tick_count other) items ∷ but_sights other) (sent_same past other h.done)
      ∙ ap (λ (t : ℕ). Sent (last_sent past + 1) t items ∷ but_sights other) (count_same past other h.done)
      ∙ ap (λ (l : Past). Sent (last_sent past + 1) (tick_count past) items ∷ l) h.done;
  relevance = h.relevance;
  flush = h.flush;
  owned = h.owned;
}

sendings_same : (packets : List (List Item)) (past other : Past) → SameButSights past other
    → SameButSights (fold after_sending past packets) (fold after_sending other packets)
sendings_same [] past other h = h
sendings_same (items ∷ packets) past other h =
    sendings_same packets (after_sending past items) (after_sending other items) (sending_same past other items h)

pub stall_same : (past other : Past) → SameButSights past other → SameButSights (after_stall past) (after_stall other)
stall_same past other h =
    subst (λ (k : ℕ). SameButSights (after_stall past) (cond (nat_le unresolved_limit k) (Ended ByStall ∷ other) other))
    (sym (unresolved_same past other h.done)) (by (nat_le unresolved_limit (unresolved_count past)))
  where
    by : (b : Bool) → SameButSights (cond b (Ended ByStall ∷ past) past) (cond b (Ended ByStall ∷ other) other)
    by true = record {
      done = ap (λ (l : Past). Ended ByStall ∷ l) h.done;
      relevance = h.relevance;
      flush = h.flush;
      owned = h.owned;
    }
    by false = h

to_send_same : (end : End) (before earlier : Past) (p : Packing) (other : Past) → but_sights earlier ≡ but_sights before
    → but_sights other ≡ but_sights p.past
    → packets_to_send end earlier (record p { past = other }) ≡ packets_to_send end before p
to_send_same end before earlier p other e f =
    ap (λ (b : Bool). cond (nat_lt 0 (length p.packets)) (reverse p.packets) (cond (b || is_silent other) ([] ∷ []) []))
    (owes end.version)
    ∙ ap (λ (b : Bool). cond (nat_lt 0 (length p.packets)) (reverse p.packets)
    (cond (owes_head end.version before || b) ([] ∷ []) []))
    (silent_same p.past other f)
  where
    owes : (v : Version) → owes_head v earlier ≡ owes_head v before
    owes One = refl
    owes Two = ap (λ (ds : Past). nat_lt 0 (length (taken_of ds))) (since_same before earlier e)

after_same : {shown given : List Seen} (end : End) (before earlier : Past) (p q : Packing)
    → but_sights earlier ≡ but_sights before → PacksSame shown given p q
    → SameButSights (after_packing end before p) (after_packing end earlier q)
after_same end before earlier p q e h =
    subst (λ (r : Packing). SameButSights (after_packing end before p) (after_packing end earlier r)) (sym h.is)
    (subst (λ packets. SameButSights (after_packing end before p) (after_stall (fold after_sending h.other packets)))
    (sym (to_send_same end before earlier p h.other e h.within.same.done))
    (stall_same (fold after_sending p.past (packets_to_send end before p))
    (fold after_sending h.other (packets_to_send end before p))
    (sendings_same (packets_to_send end before p) p.past h.other h.within.same)))

-- a tick keeps pasts the same but for their sights
pub tick_same : (end : End) (past other : Past) (shown given : List Seen) → SameButSights past other → IsSight shown
    → Shows past shown given → SameButSights (after_tick end past shown) (after_tick end other given)
tick_same end past other shown given h order s =
    subst (λ (b : Bool). SameButSights (after_tick end past shown) (cond b other (after end other given)))
    (sym (ended_same past other h.done)) (by (has_ended past))
  where
    after : End → Past → List Seen → Past
    after end past sight = after_packing end past (packing_of end past (after_closes (ticked past sight)))

    by : (b : Bool) → SameButSights (cond b past (after end past shown)) (cond b other (after end other given))
    by true = h
    by false =
        after_same end past other (packing_of end past (after_closes (ticked past shown)))
        (packing_of end other (after_closes (ticked other given))) h.done
        (packing_same end past other (after_closes (ticked past shown)) (after_closes (ticked other given)) h.done
        (sights_fit past order s) (closes_same (ticked past shown) (ticked other given)
        (begins_same past other shown given h order s)))
