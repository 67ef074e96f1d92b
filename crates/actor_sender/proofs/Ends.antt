-- A tick ends: its packets are sent, and no call waits any more.
use Rattle.std.proofs.Common.{◌≡◌, ◌⊎◌, ◌∙◌, inl, inr, ℕ, ◌+◌, List, [], ◌∷◌, ◌++◌, length, reverse, map, drop, Bool, true, false, cond, ◌||◌, nat_le, nat_lt, ap, sym, refl, subst, arith, Option, if◌then◌else◌}
use Rattle.std.specs.List.{fold, filter_map}
use Rattle.std.proofs.lemmas.Bool.{cond_both, false≢true, lt-ltb}
use Rattle.protocol_model.specs.Limits.{unresolved_limit}
use Rattle.protocol_model.specs.Payload.{Message}
use Rattle.protocol_model.specs.Side.{AtServer}
use Rattle.protocol_model.specs.Sight.{Seen}
use Rattle.connection_model.specs.CallAnswers.{waiting_of}
use Rattle.connection_model.specs.Carry.{due_pairs}
use Rattle.connection_model.specs.Feed.{End, Past, Item, Ended, ByStall, tick_count}
use Rattle.connection_model.specs.Fates.{last_sent, unresolved_count}
use Rattle.connection_model.specs.Bunches.{after_making}
use Rattle.connection_model.specs.Items.{wants_open, open_message, due_items, call_item}
use Rattle.connection_model.specs.Pack.{Packing, owes_head, is_silent, packets_to_send, after_sending, after_stall, after_packing, after_open, after_update}
use Rattle.connection_model.specs.Past.{sent_bytes}
use Rattle.connection_model.specs.State.{index_of, free_index}
use Rattle.connection_laws.proofs.ActorMarks.{index_same}
use Rattle.connection_laws.proofs.Moves.{making_keeps}
use Rattle.packing_laws.specs.Beginning.{ticked, begun}
use Rattle.turn_laws.specs.Turns.{after_turn, after_turns, before_turns, closed_up, turns_of}
use Rattle.turn_laws.proofs.Closed.{closes_keep}
use Rattle.turn_laws.proofs.Untouched.{offers_past, open_past, update_past}
use Rattle.link_end.specs.Answers.{numbered, new_packets}
use Rattle.link_end.specs.Link.{Link}
use Rattle.link_end.specs.Packs.{sent_now}
use Rattle.link_end.specs.Rests.{Rests}
use Rattle.channel_table.specs.Channels.{Channels, WaitingCall}
use Rattle.channel_table.specs.Keeps.{Keeps as KeepsTable}
use Rattle.channel_table.specs.Stands.{waiting_call}
use Rattle.bunch_packing.proofs.Tick.{ends}
use Rattle.shadow_changes.specs.Samples.{Samples}
use Rattle.sender_laws.proofs.Sends.{arrivals_begun}
use Rattle.sender_steps.specs.Sender.{Sender}
use Rattle.sender_steps.specs.Stands.{Keeps, Stands}
use Rattle.sender_turns.specs.Ticking.{InTick}
use Rattle.sender_steps.proofs.Unseen.{alike_keeps}
use Rattle.sender_turns.proofs.Packed.{keeps_begun}
use Rattle.actor_sender.specs.Serving.{after_serving}

-- ---- what holds of the packets begun holds once they are sent

module _ (P : Past → Type 0) (stall : (past : Past) → P past → P (Ended ByStall ∷ past))
    (empty : (past : Past) → P past → P (after_sending past [])) where
  pub ends_keep : (end : End) (before : Past) (p : Packing) → P (sent_now p) → P (after_packing end before p)
  ends_keep end before p h = stalled (fold after_sending p.past (packets_to_send end before p)) (by p.packets h)
    where
      stalled : (past : Past) → P past → P (after_stall past)
      stalled past h =
          cond_both (nat_le unresolved_limit (unresolved_count past)) (Ended ByStall ∷ past) past P
          (λ e. stall past h) (λ e. h)

      by : (packets : List (List Item)) → P (fold after_sending p.past (reverse packets))
          → P (fold after_sending p.past (packets_to_send end before
          (record { past = p.past; packets = packets; full = p.full })))
      by [] h =
          cond_both (owes_head end.version before || is_silent p.past) ([] ∷ []) []
          (λ (packets : List (List Item)). P (fold after_sending p.past packets)) (λ e. empty p.past h) (λ e. h)
      by (items ∷ packets) h =
          cond_both (nat_lt 0 (length (items ∷ packets))) (reverse (items ∷ packets))
          (if owes_head end.version before || is_silent p.past then [] ∷ [] else [])
          (λ (packets : List (List Item)). P (fold after_sending p.past packets))
          (λ e. h) (λ e. absurd (false≢true (sym e ∙ lt-ltb 0 (length (items ∷ packets)) (omega arith))))

pub sender_ends : (s : Sender) (samples : Samples) (end : End) (before : Past) (p : Packing)
    → Keeps s (sent_now p) samples → Keeps s (after_packing end before p) samples
sender_ends s samples end before p k =
    ends_keep (λ (past : Past). Keeps s past samples)
    (λ past h. alike_keeps s past (Ended ByStall ∷ past) samples (record { done = refl; moved = refl }) h)
    (λ past h. keeps_begun s (last_sent past + 1) (tick_count past) past samples h) end before p k

pub index_ends : (end : End) (before : Past) (p : Packing) (a : ℕ)
    → index_of (after_packing end before p) a ≡ index_of (sent_now p) a
index_ends end before p a =
    ends_keep (λ (past : Past). index_of past a ≡ index_of (sent_now p) a) (λ past h. h)
    (λ past h. index_same past (after_sending past [])
    (arrivals_begun (last_sent past + 1) (tick_count past) past) a refl ∙ h) end before p refl

-- ---- what every message leaves

module _ (P : Past → Type 0) (making : (past : Past) (ch : ℕ) (m : Message) → P past → P (after_making past ch m))
  where
    turn_keeps : (end : End) (now : Past) (p : Packing) (seen : Seen) → P p.past → P (after_turn end now p seen).past
    turn_keeps end now p seen h =
        cond_both p.full p (cond (wants_open now seen) opened updated) (λ (q : Packing). P q.past) (λ e. h)
        (λ e. cond_both (wants_open now seen) opened updated (λ (q : Packing). P q.past)
        (λ r. by (open_past end p (free_index p.past) (open_message p.past seen)))
        (λ r. subst P (sym (update_past end p seen (index_of now seen.actor) (due_pairs now seen))) h))
      where
        opened : Packing
        opened = after_open end p (free_index p.past) (open_message p.past seen)

        updated : Packing
        updated = after_update end p seen (index_of now seen.actor) (due_pairs now seen)

        by : (opened.past ≡ p.past) ⊎ (opened.past ≡ after_making p.past (free_index p.past) (open_message p.past seen))
            → P opened.past
        by (inl e) = subst P (sym e) h
        by (inr e) = subst P (sym e) (making p.past (free_index p.past) (open_message p.past seen) h)

    turns_keep : (end : End) (now : Past) (turns : List Seen) (p : Packing) → P p.past
        → P (after_turns end now p turns).past
    turns_keep end now [] p h = h
    turns_keep end now (seen ∷ turns) p h =
        turns_keep end now turns (after_turn end now p seen) (turn_keeps end now p seen h)

    pub serving_keeps : (end : End) (past : Past) (sight : List Seen) → P (ticked past sight)
        → P (after_serving end past sight).past
    serving_keeps end past sight h =
        let now : Past = closed_up past sight in
        turns_keep end now (turns_of now) (before_turns end past sight)
        (subst P (sym (offers_past end (due_items now ++ filter_map (call_item end.side now)
        (waiting_of past)) (record (begun end past sight) { past = now })))
        (closes_keep P making (ticked past sight) h))

-- no call waits
waits_none : (past : Past) (ch : ℕ) (m : Message) → waiting_of past ≡ [] → waiting_of (after_making past ch m) ≡ []
waits_none past ch m h = making_keeps (λ i before. waiting_of before ≡ []) past ch m h (λ i before lt e. e)

sends_none : (end : End) (past : Past) (ch : ℕ) (m : Message)
    → sent_bytes end (after_making past ch m) ≡ sent_bytes end past
sends_none end past ch m =
    making_keeps (λ i before. sent_bytes end before ≡ sent_bytes end past) past ch m refl (λ i before lt e. e)

pub sent_before : (end : End) (past : Past) (sight : List Seen)
    → sent_bytes end (after_serving end past sight).past ≡ sent_bytes end past
sent_before end past sight =
    serving_keeps (λ (x : Past). sent_bytes end x ≡ sent_bytes end past) (λ x ch m h. sends_none end x ch m ∙ h)
    end past sight refl

all_sent_waits : (past : Past) (packets : List (List Item)) → waiting_of past ≡ []
    → waiting_of (fold after_sending past packets) ≡ []
all_sent_waits past [] h = h
all_sent_waits past (items ∷ packets) h = all_sent_waits (after_sending past items) packets h

pub none_waits : (end : End) (past : Past) (sight : List Seen)
    → waiting_of (after_packing end past (after_serving end past sight)) ≡ []
none_waits end past sight =
    let p : Packing = after_serving end past sight in
    ends_keep (λ (x : Past). waiting_of x ≡ []) (λ x h. h) (λ x h. h) end past p
    (all_sent_waits p.past (reverse p.packets)
    (serving_keeps (λ (x : Past). waiting_of x ≡ []) waits_none end past sight refl))

-- ---- all three

pub packets_are : (end : End) (past : Past) (sight : List Seen) (after : Past)
    → new_packets end (after_serving end past sight).past after ≡ new_packets end past after
packets_are end past sight after =
    ap (λ (all : List (List ℕ)). numbered (length all + 1) (drop (length all) (sent_bytes end after)))
    (sent_before end past sight)

pub ended : (s : Sender) (l later : Link) (t told : Channels) (end : End) (past : Past) (sight : List Seen)
    (samples : Samples) → InTick s l t end past (after_serving end past sight) samples
    → Rests later end (after_packing end past (after_serving end past sight)) → told ≡ record t { waiting = [] }
    → Stands s later told end (after_packing end past (after_serving end past sight)) samples
ended s l later t told end past sight samples h rests is =
    let p : Packing = after_serving end past sight in
    let bunches : KeepsTable t AtServer (after_packing end past p) = ends t end AtServer past p h.both.table in
    subst (λ (x : Channels). Stands s later x end (after_packing end past p) samples) (sym is) (record {
      sender = sender_ends s samples end past p h.sender;
      link = rests;
      table = record {
        bunches = record { made = bunches.made; got = bunches.got; high = bunches.high };
        bound = λ a. h.bound.index a ∙ sym (index_ends end past p a);
        paired = h.bound.paired;
        waiting = ap (map waiting_call) (sym (none_waits end past sight));
      };
    })
