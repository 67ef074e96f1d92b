-- A tick whose first packet holds the acknowledgements owed.
use Rattle.std.proofs.Common.{◌≡◌, ◌∙◌, ℕ, ◌+◌, ◌<◌, ◌≤◌, List, [], ◌∷◌, ◌++◌, map, Bool, true, false, ◌||◌, ap, sym, refl, subst, arith, append-nil}
use Rattle.std.specs.List.{list_any}
use Rattle.std.proofs.lemmas.Bool.{false≢true}
use Rattle.std.proofs.lemmas.List.{append_assoc}
use Rattle.protocol_model.specs.declared.Version.{Version}
use Rattle.protocol_model.specs.declared.Version.TheVariants.{One, Two}
use Rattle.protocol_model.specs.Limits.{channels_one, unresolved_limit}
use Rattle.protocol_model.specs.Packet.{channel_limit}
use Rattle.protocol_model.specs.Side.{AtServer}
use Rattle.protocol_model.specs.Sight.{Seen}
use Rattle.connection_model.specs.Feed.{End, Past, Sent, Item, Owed, tick_count}
use Rattle.connection_model.specs.Fates.{last_sent, high_of, owed_of, unresolved_count}
use Rattle.connection_model.specs.Bunches.{is_carried_as}
use Rattle.connection_model.specs.Items.{is_update_of}
use Rattle.connection_model.specs.Pack.{Packing}
use Rattle.connection_model.specs.State.{state_of, index_of}
use Rattle.packing_laws.specs.Beginning.{ticked, begun, in_one}
use Rattle.packing_laws.specs.Sendings.{sent_all, CarryUnarrived}
use Rattle.packing_laws.proofs.Beginnings.{beginning_is}
use Rattle.packing_laws.proofs.Sendings.{index_behind, state_behind}
use Rattle.channel_laws.proofs.Alike.{alike_sent}
use Rattle.link_end.specs.Link.{Link}
use Rattle.link_end.specs.Packs.{Packs, sent_now}
use Rattle.link_end.specs.Answers.{beginning}
use Rattle.link_end.proofs.Unseen.{packs_making}
use Rattle.channel_table.specs.Channels.{Channels}
use Rattle.channel_table.specs.Keeps.{Keeps as KeepsTable}
use Rattle.channel_table.proofs.Kept.{keeps_unseen}
use Rattle.bunch_packing.specs.Both.{PacksBoth, NonePacked, is_packed}
use Rattle.bunch_packing.proofs.Pushing.{behind}
use Rattle.shadow_changes.specs.Samples.{Samples}
use Rattle.turn_laws.specs.Turns.{closed_up}
use Rattle.turn_laws.proofs.Closed.{closes_keep}
use Rattle.sender_steps.specs.Sender.{Sender}
use Rattle.sender_steps.specs.Stands.{Keeps}
use Rattle.sender_turns.specs.Ticking.{InTick, IsUnserved}
use Rattle.sender_turns.proofs.Packed.{keeps_begun, keeps_item}
use Rattle.actor_sender.specs.Serving.{IsCounted, first_packing}

-- ---- acknowledgements carry nothing

owed_none : (ns : List ℕ) (ch n : ℕ) → list_any (is_carried_as ch n) (map Owed ns) ≡ false
owed_none [] ch n = refl
owed_none (k ∷ ns) ch n = owed_none ns ch n

none_packed : (ns : List ℕ) (ch n : ℕ) → is_packed (in_one (map Owed ns)) ch n ≡ false
none_packed [] ch n = refl
none_packed (k ∷ ns) ch n = ap (λ (b : Bool). b || false) (owed_none ns ch n)

pub first_none : (end : End) (past : Past) (sight : List Seen) → NonePacked (first_packing end past sight)
first_none end past sight ch n = none_packed (owed_of end.version past) ch n

none_arrived : (now : Past) (ns : List ℕ) → CarryUnarrived now (in_one (map Owed ns))
none_arrived now [] = tt
none_arrived now (k ∷ ns) = (λ ch n e. absurd (false≢true (sym (owed_none ns ch n) ∙ e)), tt)

owed_unserved : (ns : List ℕ) (a : ℕ) → list_any (is_update_of a) (map Owed ns) ≡ false
owed_unserved [] a = refl
owed_unserved (k ∷ ns) a = owed_unserved ns a

packets_unserved : (ns : List ℕ) (a : ℕ) → IsUnserved a (in_one (map Owed ns))
packets_unserved [] a = refl
packets_unserved (k ∷ ns) a = ap (λ (b : Bool). b || false) (owed_unserved ns a)

pub first_unserved : (end : End) (past : Past) (sight : List Seen) (a : ℕ)
    → IsUnserved a (first_packing end past sight).packets
first_unserved end past sight a = packets_unserved (owed_of end.version past) a

-- ---- link, channels and sender

first_link : (l : Link) (end : End) (past : Past) (sight : List Seen) → 1 ≤ end.budget
    → unresolved_count past < unresolved_limit → Packs l end past (beginning end past sight)
    → Packs l end past (first_packing end past sight)
first_link l end past sight some few h =
    closes_keep (λ (x : Past). Packs l end past (record (begun end past sight) { past = x }))
    (λ x ch m k. packs_making l end past (record (begun end past sight) { past = x }) ch m k)
    (ticked past sight) (subst (Packs l end past) (beginning_is end past sight some few) h)

sent_table : (t : Channels) (now : Past) (ns : List ℕ) → KeepsTable t AtServer now
    → KeepsTable t AtServer (sent_all now (in_one (map Owed ns)))
sent_table t now [] h = h
sent_table t now (k ∷ ns) h =
    keeps_unseen t AtServer now (Sent (last_sent now + 1) (tick_count now) (map Owed (k ∷ ns)) ∷ now)
    (alike_sent (last_sent now + 1) (tick_count now) (map Owed (k ∷ ns)) now (λ ch n. owed_none (k ∷ ns) ch n))
    (record { received = λ ch. refl; channels = refl; handed = refl }) h

owed_kept : (s : Sender) (samples : Samples) (now : Past) (n t : ℕ) → high_of now < n → (ns : List ℕ)
    (items : List Item) → Keeps s (Sent n t items ∷ now) samples
    → Keeps s (Sent n t (items ++ map Owed ns) ∷ now) samples
owed_kept s samples now n t high [] items k =
    subst (λ (is : List Item). Keeps s (Sent n t is ∷ now) samples) (sym (append-nil items)) k
owed_kept s samples now n t high (m ∷ ns) items k =
    subst (λ (is : List Item). Keeps s (Sent n t is ∷ now) samples) (append_assoc items (Owed m ∷ []) (map Owed ns))
    (owed_kept s samples now n t high ns (items ++ Owed m ∷ [])
    (keeps_item s n t items (Owed m) now samples high tt (λ a. refl) k))

sent_sender : (s : Sender) (samples : Samples) (now : Past) (ns : List ℕ) → high_of now ≤ last_sent now
    → Keeps s now samples → Keeps s (sent_all now (in_one (map Owed ns))) samples
sent_sender s samples now [] high k = k
sent_sender s samples now (m ∷ ns) high k =
    owed_kept s samples now (last_sent now + 1) (tick_count now) (omega (arith, high)) (m ∷ ns) []
    (keeps_begun s (last_sent now + 1) (tick_count now) now samples k)

pub least_limit : (v : Version) → channels_one ≤ channel_limit v
least_limit One = omega arith
least_limit Two = omega arith

-- ---- what packets leave

pub index_now : (l : Link) (t : Channels) (end : End) (before : Past) (p : Packing)
    → PacksBoth l t end AtServer before p → (a : ℕ) → index_of (sent_now p) a ≡ index_of p.past a
index_now l t end before p h a =
    let s = behind l t end AtServer before p h in
    ap (λ (past : Past). index_of past a) s.is ∙ index_behind p.past s.sent s.sendings a

pub state_now : (l : Link) (t : Channels) (end : End) (before : Past) (p : Packing)
    → PacksBoth l t end AtServer before p → (a : ℕ) → state_of (sent_now p) a ≡ state_of p.past a
state_now l t end before p h a =
    let s = behind l t end AtServer before p h in
    ap (λ (past : Past). state_of past a) s.is ∙ state_behind p.past s.sent s.sendings a

-- ---- all three

pub begins : (s : Sender) (l : Link) (t : Channels) (end : End) (past : Past) (sight : List Seen) (samples : Samples)
    → 1 ≤ end.budget → unresolved_count past < unresolved_limit
    → IsCounted s t past (closed_up past sight) samples → Packs l end past (beginning end past sight)
    → InTick s l t end past (first_packing end past sight) samples
begins s l t end past sight samples some few h link =
    let now : Past = closed_up past sight in
    let p : Packing = first_packing end past sight in
    let packs : Packs l end past p = first_link l end past sight some few link in
    let both : PacksBoth l t end AtServer past p = record {
      link = packs;
      table = sent_table t now (owed_of end.version past) h.both.table;
      unarrived = none_arrived now (owed_of end.version past);
      low = λ ch le. h.both.sender.below ch (omega (arith, le, least_limit end.version));
    } in
    record {
      sender = sent_sender s samples now (owed_of end.version past) packs.high h.both.sender;
      both = both;
      bound = record {
        index = λ a. h.both.bound a ∙ sym (index_now l t end past p both a);
        paired = h.both.paired;
      };
      known = h.known;
      waiting = h.waiting;
    }
