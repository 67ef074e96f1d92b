-- What a client's tick leaves.
use Rattle.std.proofs.Common.{◌≡◌, ◌∙◌, ℕ, ◌<◌, List, [], ◌∷◌, map, length, Bool, true, false, nat_le, Some, None, slice_get, unwrap_or, refl, sym, ap, subst, fold, arith}
use Rattle.std.specs.List.{filter_map}
use Rattle.std.proofs.lemmas.Bool.{false≢true, cond_both, leb-false}
use Rattle.std.proofs.lemmas.Option.{none-some}
use Rattle.protocol_model.specs.Limits.{unresolved_limit}
use Rattle.protocol_model.specs.Payload.{Message}
use Rattle.protocol_model.specs.Search.{newest_of, items_since}
use Rattle.protocol_model.specs.Side.{Side, AtClient}
use Rattle.connection_model.specs.CallAnswers.{waiting_of}
use Rattle.connection_model.specs.Copies.{delivered_of, copy_channel, removes, channel_said}
use Rattle.connection_model.specs.Fates.{unresolved_count}
use Rattle.connection_model.specs.Feed.{End, Past, Sent, Ended, ByStall, Item, Delivered, has_ended}
use Rattle.connection_model.specs.Pack.{Packing, after_sending, after_stall, packets_to_send, after_packing, after_tick}
use Rattle.connection_model.specs.State.{opened_in}
use Rattle.packing_laws.specs.Beginning.{ticked, beginning}
use Rattle.packing_laws.proofs.Beginnings.{beginning_is}
use Rattle.link_end.specs.Answers.{new_packets}
use Rattle.link_end.specs.Link.{Link}
use Rattle.link_end.specs.Packs.{Packs}
use Rattle.link_end.specs.Rests.{Rests}
use Rattle.channel_table.specs.Channels.{Channels}
use Rattle.channel_table.specs.Keeps.{Keeps}
use Rattle.channel_table.specs.Stands.{channel_bound, waiting_call, IsPaired}
use Rattle.bunch_packing.specs.Both.{PacksBoth}
use Rattle.bunch_packing.proofs.Tick.{begins, ends, ends_made}
use Rattle.client_sending.specs.Stands.{Stands, WaitShort}
use Rattle.client_sending.specs.Ticking.{IsTicking, after_firsts}
use Rattle.client_sending.proofs.TickSteps.{begins_past, firsts_past, client_tick}

-- ---- what packets and a stall leave

-- what packets don't tell
kept_by_packets : {A : Type 0} (F : Past → A) → ((n t : ℕ) (items : List Item) (q : Past)
    → F (Sent n t items ∷ q) ≡ F q)
    → (past : Past) (packets : List (List Item)) → F (fold after_sending past packets) ≡ F past
kept_by_packets F sent past [] = refl
kept_by_packets F sent past (items ∷ packets) =
    kept_by_packets F sent (after_sending past items) packets ∙ sent _ _ items past

-- nor a stall
pub kept_by_packing : {A : Type 0} (F : Past → A) → ((n t : ℕ) (items : List Item) (q : Past)
    → F (Sent n t items ∷ q) ≡ F q)
    → ((q : Past) → F (Ended ByStall ∷ q) ≡ F q)
    → (end : End) (before : Past) (p : Packing) → F (after_packing end before p) ≡ F p.past
kept_by_packing F sent ended end before p =
    cond_both (nat_le unresolved_limit (unresolved_count now)) (Ended ByStall ∷ now) now
    (λ (past : Past). F past ≡ F now) (λ e. ended now) (λ e. refl)
    ∙ kept_by_packets F sent p.past (packets_to_send end before p)
  where
    now : Past
    now = fold after_sending p.past (packets_to_send end before p)

pub packing_waits : (end : End) (before : Past) (p : Packing)
    → waiting_of (after_packing end before p) ≡ waiting_of p.past
packing_waits end before p =
    kept_by_packing waiting_of (λ n t items q. refl) (λ q. refl) end before p

pub packing_opens : (end : End) (before : Past) (p : Packing)
    → filter_map opened_in (after_packing end before p) ≡ filter_map opened_in p.past
packing_opens end before p =
    kept_by_packing (λ (q : Past). filter_map opened_in q) (λ n t items q. refl) (λ q. refl) end before p

pub packing_delivers : (end : End) (before : Past) (p : Packing)
    → delivered_of (after_packing end before p) ≡ delivered_of p.past
packing_delivers end before p =
    kept_by_packing delivered_of (λ n t items q. refl) (λ q. refl) end before p

-- the channel of a copy is told by what was handed on
pub same_channels : (past later : Past) (a : ℕ) → delivered_of later ≡ delivered_of past
    → copy_channel later a ≡ copy_channel past a
same_channels past later a e =
    ap (λ (ds : List Delivered). unwrap_or (newest_of (channel_said a) (items_since (removes a) ds)) None) e

-- ---- the stall

stall_told : (past : Past) → has_ended past ≡ false
    → nat_le unresolved_limit (unresolved_count (after_stall past)) ≡ has_ended (after_stall past)
stall_told past alive = by (nat_le unresolved_limit (unresolved_count past)) refl
  where
    by : (b : Bool) → nat_le unresolved_limit (unresolved_count past) ≡ b
        → nat_le unresolved_limit (unresolved_count (after_stall past)) ≡ has_ended (after_stall past)
    by true e = rw e e
    by false e = rw e (e ∙ sym alive)

stall_few : (past : Past) → has_ended (after_stall past) ≡ false
    → unresolved_count (after_stall past) < unresolved_limit
stall_few past alive = by (nat_le unresolved_limit (unresolved_count past)) refl alive
  where
    by : (b : Bool) → nat_le unresolved_limit (unresolved_count past) ≡ b → has_ended (after_stall past) ≡ false
        → unresolved_count (after_stall past) < unresolved_limit
    by true e alive = absurd (false≢true (sym alive ∙ rw e refl))
    by false e alive = rw e (leb-false unresolved_limit (unresolved_count past) e)

-- ---- a client's tick

-- what is packed in it
abbrev pub packed : End → Past → Packing
packed end past = after_firsts end past (beginning end past [])

pub packed_past : (end : End) (past : Past) → (packed end past).past ≡ ticked past []
packed_past end past = firsts_past end past (beginning end past []) ∙ begins_past end past

pub ticks_as : (l : Link) (t : Channels) (end : End) (past : Past) → Stands l t end past
    → after_tick end past [] ≡ after_packing end past (packed end past)
ticks_as l t end past h = client_tick end past h.side h.alive h.may.opens

-- its packets are counted from before it
pub same_packets : (l : Link) (t : Channels) (end : End) (past : Past) → Stands l t end past
    → new_packets end (packed end past).past (after_packing end past (packed end past))
    ≡ new_packets end past (after_tick end past [])
same_packets l t end past h =
    ap (λ (q : Past). new_packets end q (after_packing end past (packed end past))) (packed_past end past)
    ∙ ap (new_packets end past) (sym (ticks_as l t end past h))

pub stalls_as : (l : Link) (t : Channels) (end : End) (past : Past) → Stands l t end past
    → nat_le unresolved_limit (unresolved_count (after_packing end past (packed end past)))
    ≡ has_ended (after_tick end past [])
stalls_as l t end past h =
    stall_told (fold after_sending (packed end past).past (packets_to_send end past (packed end past)))
    (kept_by_packets has_ended (λ n t items q. refl) (packed end past).past (packets_to_send end past (packed end past))
    ∙ ap has_ended (packed_past end past) ∙ h.alive)
    ∙ ap has_ended (sym (ticks_as l t end past h))

-- ---- what stands in it, and after it

pub ticking_first : (l later : Link) (t : Channels) (end : End) (past : Past) → Stands l t end past
    → Packs later end past (beginning end past []) → IsTicking later t end past (beginning end past [])
ticking_first l later t end past h packs = record {
  both = begins later t end AtClient past [] packs h.table.bunches h.may.low;
  is_ready = ap (λ (p : Packing). p.full) (beginning_is end past [] h.budget h.may.few);
  bound = λ a. h.table.bound a ∙ sym (same_channels past (beginning end past []).past a
      (ap delivered_of (begins_past end past)));
  held = λ a ch e. h.held a ch (sym (same_channels past (beginning end past []).past a
      (ap delivered_of (begins_past end past))) ∙ e);
  waiting = h.table.waiting;
  waits = h.may.waits;
}

no_calls : (t later : Channels) (side : Side) (past : Past)
    → later ≡ record t { waiting = [] } → Keeps t side past → Keeps later side past
no_calls t later side past e h = subst (λ (t : Channels). Keeps t side past) (sym e) (record {
  made = h.made;
  got = h.got;
  high = h.high;
})

none_wait : (past later : Past) → waiting_of later ≡ [] → WaitShort later
none_wait past later e = record {
  few = omega (arith, ap length e);
  short = λ i call at. absurd (none i call (sym (ap (λ (ms : List Message). slice_get ms i) e) ∙ at));
}
  where
    none : (i : ℕ) (call : Message) → slice_get {X = Message} [] i ≡ Some call → ⊥
    none i call at = none-some call at

pub ticked_stands : (l now : Link) (t packed_t later : Channels) (end : End) (past : Past) → Stands l t end past
    → (m : Link) → PacksBoth m packed_t end AtClient past (packed end past)
    → Rests now end (after_packing end past (packed end past)) → packed_t.bound ≡ t.bound
    → later ≡ record packed_t { waiting = [] } → has_ended (after_tick end past []) ≡ false
    → Stands now later end (after_tick end past [])
ticked_stands l now t packed_t later end past h m both rests bound cleared alive =
    subst (Stands now later end) (sym (ticks_as l t end past h)) (record {
      side = h.side;
      budget = h.budget;
      alive = living;
      link = rests;
      table = record {
        bunches = no_calls packed_t later AtClient after cleared
            (ends packed_t end AtClient past (packed end past) both.table);
        bound = λ a. ap (λ (c : Channels). channel_bound c.bound a) cleared
            ∙ ap (λ b. channel_bound b a) bound ∙ h.table.bound a ∙ sym (channels a);
        paired = subst IsPaired (sym (ap (λ (c : Channels). c.bound) cleared ∙ bound)) h.table.paired;
        waiting = ap (λ (c : Channels). c.waiting) cleared
            ∙ ap (map waiting_call) (sym waits);
      };
      held = λ a ch e. h.held a ch (sym (channels a) ∙ e);
      may = record {
        few = stall_few (fold after_sending (packed end past).past (packets_to_send end past (packed end past))) living;
        low = λ ch le. ends_made end past (packed end past) ch ∙ both.low ch le;
        opens = packing_opens end past (packed end past)
            ∙ ap (λ (q : Past). filter_map opened_in q) (packed_past end past) ∙ h.may.opens;
        waits = none_wait past after waits;
      };
    })
  where
    after : Past
    after = after_packing end past (packed end past)

    living : has_ended after ≡ false
    living = ap has_ended (sym (ticks_as l t end past h)) ∙ alive

    channels : (a : ℕ) → copy_channel after a ≡ copy_channel past a
    channels a = same_channels past after a
        (packing_delivers end past (packed end past) ∙ ap delivered_of (packed_past end past))

    waits : waiting_of after ≡ []
    waits = packing_waits end past (packed end past) ∙ ap waiting_of (packed_past end past)
