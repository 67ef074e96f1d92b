-- What a tick keeps: what holds as it begins, and goes on as messages are made and packets are sent.
use Rattle.std.proofs.Common.{◌≡◌, inl, inr, ℕ, ◌+◌, List, [], ◌∷◌, false, cond, fold, refl, sym, ap, ◌∙◌, subst, reverse}
use Rattle.std.specs.Prelude.{nat_le}
use Rattle.std.specs.List.{filter_map}
use Rattle.std.proofs.lemmas.Bool.{cond_both}
use Rattle.protocol_model.specs.Limits.{unresolved_limit}
use Rattle.protocol_model.specs.Payload.{Message}
use Rattle.protocol_model.specs.Sight.{Seen}
use Rattle.connection_model.specs.CallAnswers.{waiting_of, waits_in}
use Rattle.connection_model.specs.Carry.{due_pairs}
use Rattle.connection_model.specs.Feed.{End, Past, Ticked, Ended, ByStall, Item, has_ended, tick_count, deeds_since_tick}
use Rattle.connection_model.specs.Fates.{unresolved_count}
use Rattle.connection_model.specs.Bunches.{after_making}
use Rattle.connection_model.specs.Items.{first_items, actors_by_score, wants_open, open_message}
use Rattle.connection_model.specs.Pack.{Packing, after_closes, after_sending, after_actor, after_open, after_update, after_offer, packets_to_send, packing_of, after_stall, after_packing, after_tick}
use Rattle.connection_model.specs.State.{state_of, is_opened, index_of, free_index}
use Rattle.connection_laws.proofs.Moves.{making_keeps}
use Rattle.turn_laws.proofs.Closed.{closes_keep}
use Rattle.turn_laws.proofs.Untouched.{offers_past, update_past, open_past}

module _ (end : End) (P : Past → Type 0) (making : (past : Past) (ch : ℕ) (m : Message) → P past
    → P (after_making past ch m))
    (sending : (past : Past) (items : List Item) → P past → P (after_sending past items))
    (stalling : (past : Past) → P past → P (Ended ByStall ∷ past)) where
  open_keeps : (p : Packing) (ch : ℕ) (m : Message) → P p.past → P (after_open end p ch m).past
  open_keeps p ch m h = elim (open_past end p ch m) [
    | inl e ↦ subst P (sym e) h
    | inr e ↦ subst P (sym e) (making p.past ch m h)
  ]

  actor_keeps : (p : Packing) (seen : Seen) → P p.past → P (after_actor end p seen).past
  actor_keeps p seen h =
      cond_both p.full p
      (cond (wants_open p.past seen) (after_open end p (free_index p.past) (open_message p.past seen))
      (cond (is_opened (state_of p.past seen.actor))
      (after_update end p seen (index_of p.past seen.actor) (due_pairs p.past seen)) p))
      (λ (q : Packing). P q.past) (λ e. h)
      (λ e. cond_both (wants_open p.past seen) (after_open end p (free_index p.past) (open_message p.past seen))
      (cond (is_opened (state_of p.past seen.actor))
      (after_update end p seen (index_of p.past seen.actor) (due_pairs p.past seen)) p)
      (λ (q : Packing). P q.past) (λ w. open_keeps p (free_index p.past) (open_message p.past seen) h)
      (λ w. cond_both (is_opened (state_of p.past seen.actor))
      (after_update end p seen (index_of p.past seen.actor) (due_pairs p.past seen)) p
      (λ (q : Packing). P q.past)
      (λ o. subst P (sym (update_past end p seen (index_of p.past seen.actor) (due_pairs p.past seen))) h) (λ o. h)))

  actors_keep : (p : Packing) (actors : List Seen) → P p.past → P (fold (after_actor end) p actors).past
  actors_keep p [] h = h
  actors_keep p (s ∷ actors) h = actors_keep (after_actor end p s) actors (actor_keeps p s h)

  sends_keep : (past : Past) (packets : List (List Item)) → P past → P (fold after_sending past packets)
  sends_keep past [] h = h
  sends_keep past (items ∷ packets) h = sends_keep (after_sending past items) packets (sending past items h)

  stall_keeps : (past : Past) → P past → P (after_stall past)
  stall_keeps past h =
      cond_both (nat_le unresolved_limit (unresolved_count past)) (Ended ByStall ∷ past) past P (λ e. stalling past h)
      (λ e. h)

  packing_keeps : (before now : Past) → P now → P (packing_of end before now).past
  packing_keeps before now h =
      actors_keep (fold (after_offer end) (record { past = now; packets = []; full = false })
      (first_items end before now))
      (actors_by_score now)
      (subst P (sym (offers_past end (first_items end before now) (record { past = now; packets = []; full = false })))
      h)

  pub tick_keeps : (past : Past) (sight : List Seen) → has_ended past ≡ false
      → P (Ticked (tick_count past + 1) sight ∷ past) → P (after_tick end past sight)
  tick_keeps past sight alive h = rw alive all
    where
      all : P (after_packing end past (packing_of end past (after_closes (Ticked (tick_count past + 1) sight ∷ past))))
      all =
          let now : Past = after_closes (Ticked (tick_count past + 1) sight ∷ past) in
          let packing : Packing = packing_of end past now in
          stall_keeps (fold after_sending packing.past (packets_to_send end past packing))
          (sends_keep packing.past (packets_to_send end past packing)
          (packing_keeps past now (closes_keep P making (Ticked (tick_count past + 1) sight ∷ past) h)))

-- after a tick nothing waits
pub none_waits : (end : End) (past : Past) (sight : List Seen) → has_ended past ≡ false
    → waiting_of (after_tick end past sight) ≡ []
none_waits end past sight alive =
    tick_keeps end (λ (later : Past). waiting_of later ≡ [])
    (λ later ch m h. ap reverse (making_keeps
    (λ i before. filter_map waits_in (deeds_since_tick before) ≡ filter_map waits_in (deeds_since_tick later)) later ch
    m refl
    (λ i before lt q. q)) ∙ h)
    (λ later items h. h) (λ later h. h) past sight alive refl
