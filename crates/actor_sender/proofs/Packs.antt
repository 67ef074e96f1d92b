-- From the first packet to the last turn.
use Rattle.std.proofs.Common.{◌≡◌, ◌≢◌, ◌∙◌, ℕ, ◌+◌, ◌<◌, ◌≤◌, List, [], ◌∷◌, ◌++◌, map, length, Bool, true, false, not, ap, sym, refl, subst, arith}
use Rattle.std.specs.List.{All, AllByRecursion, filter_map}
use Rattle.protocol_model.specs.Side.{AtServer}
use Rattle.protocol_model.specs.Sight.{Seen}
use Rattle.connection_model.specs.CallAnswers.{waiting_of}
use Rattle.connection_model.specs.Feed.{End, Past, sight_of}
use Rattle.connection_model.specs.Items.{due_items, call_item}
use Rattle.connection_model.specs.Pack.{Packing}
use Rattle.connection_laws.proofs.Deeds.{deeds_fit}
use Rattle.connection_laws.proofs.Items.{waiting_loose}
use Rattle.packing_laws.specs.Beginning.{after_offers}
use Rattle.class_layout.specs.Tables.{Layout}
use Rattle.link_end.specs.Link.{Link}
use Rattle.link_end.specs.Packs.{sent_now}
use Rattle.channel_table.specs.Channels.{Channels, WaitingCall}
use Rattle.bunch_packing.specs.Both.{PacksBoth}
use Rattle.bunch_packing.proofs.Going.{all_full}
use Rattle.shadow_changes.specs.Samples.{Shadows, Samples}
use Rattle.sender_records.specs.declared.actor.ActorRecord.{ActorRecord}
use Rattle.sight_laws.specs.Sights.{IsSight}
use Rattle.turn_laws.specs.Turns.{closed_up, before_turns, after_turns, turns_of}
use Rattle.turn_laws.proofs.Stepping.{closed_sight, full_stays}
use Rattle.turn_laws.proofs.Untouched.{offers_past}
use Rattle.sender_steps.specs.declared.sight.Seen.{Seen as SeenValue}
use Rattle.sender_steps.specs.Sender.{Sender, record_in, packet_in}
use Rattle.sender_steps.specs.Sights.{sight_value}
use Rattle.sender_steps.specs.Stands.{AreKept}
use Rattle.sender_turns.specs.declared.turns.Turn.{Turn}
use Rattle.sender_turns.specs.Calling.{IsCalling, MayWait}
use Rattle.sender_turns.specs.Ticking.{InTick, IsUnseen, IsUnserved}
use Rattle.sender_turns.specs.Turning.{turn_entry, IsTurn, AreCompared, BeforeTurns}
use Rattle.sender_turns.proofs.Offered.{unserved_offers}
use Rattle.actor_sender.specs.Serving.{CanSend, InTurns, IsNext, after_serving, first_packing}
use Rattle.actor_sender.proofs.Begins.{first_unserved}
use Rattle.actor_sender.proofs.First.{offered, due_unseen, calls_unseen, others_in, before_is}
use Rattle.actor_sender.proofs.Ready as ready
use Rattle.actor_sender.proofs.Ready.{actors_apart, compared_keeps, few_turns, sent_is, servable, turn_at}

module _ (s : Sender) (l : Link) (t : Channels) (layout : Layout) (changes : Shadows) (sight : List SeenValue)
    (end : End) (past : Past) (samples : Samples)
    (h : CanSend s l t layout changes sight end past samples) where
  abbrev given : List Seen
  given = sight_value layout sight

  abbrev now : Past
  now = closed_up past given

  abbrev pub first : Packing
  first = first_packing end past given

  abbrev pub with_due : Packing
  with_due = after_offers end first (due_items now)

  abbrev pub with_calls : Packing
  with_calls = after_offers end with_due (filter_map (call_item AtServer now) (waiting_of past))

  pub due_past : with_due.past ≡ now
  due_past = offers_past end (due_items now) first

  pub calls_past : with_calls.past ≡ now
  calls_past = offers_past end (filter_map (call_item AtServer now) (waiting_of past)) with_due ∙ due_past

  calls_are : with_calls ≡ before_turns end past given
  calls_are = before_is end past given h.fed.side

  pub calls_full : with_calls.full ≡ true → with_calls ≡ after_serving end past given
  calls_full full =
      sym (full_stays end now with_calls (turns_of now) full)
      ∙ ap (λ (p : Packing). after_turns end now p (turns_of now)) calls_are

  pub due_full : with_due.full ≡ true → with_due ≡ after_serving end past given
  due_full full =
      let same : with_calls ≡ with_due = all_full end with_due (filter_map (call_item AtServer now) (waiting_of past))
      full in
      sym same ∙ calls_full (ap (λ (p : Packing). p.full) same ∙ full)

  module _ (l1 : Link) (t1 : Channels) (bound : t1.bound ≡ t.bound) (waiting : t1.waiting ≡ t.waiting)
      (packs : PacksBoth l1 t1 end AtServer past with_due) where
    pub due_next : InTick s l1 t1 end past with_due samples
    due_next = offered s l l1 t t1 end past first samples (due_items now) h.stands (due_unseen now) packs bound waiting

    pub calling : with_due.full ≡ false → IsCalling s.records l1 t1 end past with_due
    calling room = record {
      both = packs;
      is_ready = room;
      lives = λ a. (due_next.sender.each a).life;
      low = due_next.sender.low;
      waiting = due_next.waiting;
      may = subst MayWait (sym waiting) h.may;
    }

    -- calls are asked for by what was done before the packets
    pub calls_same : after_offers end with_due (filter_map (call_item AtServer with_due.past) (waiting_of past))
        ≡ with_calls
    calls_same = ap (λ (x : Past). after_offers end with_due (filter_map (call_item AtServer x) (waiting_of past)))
        due_past

    module _ (l2 : Link) (packs2 : PacksBoth l2 t1 end AtServer past with_calls) where
      pub calls_next : InTick s l2 t1 end past with_calls samples
      calls_next =
          offered s l1 l2 t1 t1 end past with_due samples (filter_map (call_item AtServer now) (waiting_of past))
          due_next
          (subst (λ (x : Past). AllByRecursion (IsUnseen x)
          (filter_map (call_item AtServer now) (waiting_of past))) (sym due_past)
          (calls_unseen AtServer past now (waiting_of past)
          (waiting_loose end past (deeds_fit end past h.fed.run))))
          packs2 refl refl

      pub none_served : (a : ℕ) → IsUnserved a with_calls.packets
      none_served a =
          unserved_offers end with_due (filter_map (call_item AtServer now) (waiting_of past)) a
          (others_in now (filter_map (call_item AtServer now) (waiting_of past)) a
          (calls_unseen AtServer past now (waiting_of past)
          (waiting_loose end past (deeds_fit end past h.fed.run))))
          (unserved_offers end first (due_items now) a (others_in now (due_items now) a (due_unseen now))
          (first_unserved end past given a))

      abbrev pub sent : Past
      sent = ready.sent layout changes sight end past samples h.fed s l2 t1 with_calls calls_next calls_past h.earlier
          none_served

      pub before : BeforeTurns layout changes sent now samples s.ticks s.records sight
      before = ready.before_turns layout changes sight end past samples h.fed s l2 t1 with_calls calls_next calls_past
          h.earlier none_served

      pub in_turns : (records : List (ℕ × ActorRecord)) (turns : List Turn) → with_calls.full ≡ false
          → ((a : ℕ) → (record_in records a).life ≡ (record_in s.records a).life)
          → ((a : ℕ) → (record_in records a).service ≡ (record_in s.records a).service)
          → ((a n : ℕ) → packet_in records a n ≡ packet_in s.records a n)
          → AreKept (sent ++ now) samples records → AreCompared layout now samples records sight
          → map (turn_entry layout sight) turns ≡ turns_of now → All (IsTurn layout now sight) turns
          → InTurns layout changes sight (record s { records = records }) l2 t1 end past now with_calls samples turns
      in_turns records turns room life service packets kept compared are all = record {
        stands = record {
          sender = compared_keeps s (sent_now with_calls) samples records
              calls_next.sender
              (subst (λ (x : Past). AreKept x samples records) (sym (sent_is layout changes sight end past samples
              h.fed s l2 t1 with_calls calls_next calls_past h.earlier none_served)) kept) life packets;
          both = calls_next.both;
          bound = calls_next.bound;
          known = calls_next.known;
          waiting = calls_next.waiting;
        };
        is_ready = room;
        noted = h.fed.noted;
        next = record {
          each = λ i turn at. (
              let is : IsTurn layout now sight turn = turn_at (IsTurn layout now sight) turns all i turn at in
              record {
                entry = is.entry;
                place = is.place;
                actor = is.actor;
                may = servable layout changes sight end past samples h.fed s l2 t1 with_calls calls_next calls_past
                    h.earlier none_served records service compared turn is;
              });
          apart = actors_apart layout now sight turns
              (subst IsSight (sym (closed_sight past given)) h.fed.is_sight) all are;
        };
      }

      pub few : (turns : List Turn) → map (turn_entry layout sight) turns ≡ turns_of now → length turns ≤ length sight
      few turns are = few_turns layout now sight turns (closed_sight past given) are

      pub all_served : (turns : List Turn) → map (turn_entry layout sight) turns ≡ turns_of now
          → after_turns end now with_calls (map (turn_entry layout sight) turns) ≡ after_serving end past given
      all_served turns are =
          ap (after_turns end now with_calls) are ∙ ap (λ (p : Packing). after_turns end now p (turns_of now)) calls_are
