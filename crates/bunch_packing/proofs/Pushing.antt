-- A message is made below the packets of a tick.
use Rattle.std.proofs.Common.{◌≡◌, ℕ, ◌+◌, ◌<◌, List, [], ◌∷◌, ◌++◌, length, true, refl, sym, ap, ◌∙◌, subst, arith}
use Rattle.protocol_model.specs.Packet.{channel_limit}
use Rattle.protocol_model.specs.Payload.{Message}
use Rattle.protocol_model.specs.Side.{Side}
use Rattle.connection_model.specs.Feed.{End, Past, Sent, Item, tick_count}
use Rattle.connection_model.specs.Fates.{last_sent}
use Rattle.connection_model.specs.Bunches.{room, after_making}
use Rattle.connection_model.specs.Pack.{Packing}
use Rattle.connection_laws.proofs.Arrivals.{arrival_made}
use Rattle.connection_laws.proofs.Counts.{made_count_elsewhere}
use Rattle.connection_laws.proofs.Moves.{making_keeps}
use Rattle.packing_laws.specs.Sendings.{sent_all, CarryUnarrived}
use Rattle.packing_laws.proofs.Packings.{SentAll, sent_all-cons, last_sent_all, ticks_all, sent_behind}
use Rattle.packing_laws.proofs.Sendings.{room_behind}
use Rattle.channel_laws.specs.Sendings.{are_sendings}
use Rattle.link_end.specs.Link.{Link}
use Rattle.link_end.specs.Packs.{sent_now}
use Rattle.link_end.proofs.Unseen.{packs_making}
use Rattle.channel_table.specs.Channels.{Channels}
use Rattle.channel_table.specs.Keeps.{Keeps}
use Rattle.bunch_packing.specs.Both.{PacksBoth}

-- the same packets are sent behind two pasts
pub record SentBoth (past later : Past) (packets : List (List Item)) : Type 0 where
  pub sent : Past
  pub is : sent_all past packets ≡ sent ++ past
  pub later_is : sent_all later packets ≡ sent ++ later
  pub sendings : are_sendings sent ≡ true

pub sent_both : (past later : Past) (packets : List (List Item)) → last_sent later ≡ last_sent past
    → tick_count later ≡ tick_count past → SentBoth past later packets
sent_both past later [] sent ticks = record { sent = []; is = refl; later_is = refl; sendings = refl }
sent_both past later (items ∷ packets) sent ticks =
    let rest : SentBoth past later packets = sent_both past later packets sent ticks in
    let number : ℕ = last_sent past + length packets + 1 in
    let with : Past → Past = λ l. Sent number (tick_count past) items ∷ l in
    record {
      sent = with rest.sent;
      is = sent_all-cons past items packets
          ∙ ap (λ (n : ℕ). Sent (n + 1) (tick_count (sent_all past packets)) items ∷ sent_all past packets)
          (last_sent_all past packets)
          ∙ ap (λ (t : ℕ). Sent number t items ∷ sent_all past packets) (ticks_all past packets) ∙ ap with rest.is;
      later_is = sent_all-cons later items packets
          ∙ ap (λ (n : ℕ). Sent (n + 1) (tick_count (sent_all later packets)) items ∷ sent_all later packets)
          (last_sent_all later packets ∙ ap (λ (n : ℕ). n + length packets) sent)
          ∙ ap (λ (t : ℕ). Sent number t items ∷ sent_all later packets) (ticks_all later packets ∙ ticks)
          ∙ ap with rest.later_is;
      sendings = rest.sendings;
    }

-- a message made sends nothing, and no tick begins
pub same_last : (past : Past) (ch : ℕ) (m : Message) → last_sent (after_making past ch m) ≡ last_sent past
same_last past ch m = making_keeps (λ i before. last_sent before ≡ last_sent past) past ch m refl (λ i before lt e. e)

same_ticks : (past : Past) (ch : ℕ) (m : Message) → tick_count (after_making past ch m) ≡ tick_count past
same_ticks past ch m =
    making_keeps (λ i before. tick_count before ≡ tick_count past) past ch m refl (λ i before lt e. e)

pub made_below : (p : Packing) (ch : ℕ) (m : Message) → SentBoth p.past (after_making p.past ch m) p.packets
made_below p ch m =
    sent_both p.past (after_making p.past ch m) p.packets (same_last p.past ch m) (same_ticks p.past ch m)

still_unarrived : (past : Past) (ch : ℕ) (m : Message) (packets : List (List Item)) → CarryUnarrived past packets
    → CarryUnarrived (after_making past ch m) packets
still_unarrived past ch m [] h = tt
still_unarrived past ch m (items ∷ packets) h =
    (λ c n e. arrival_made past ch m c n ∙ h.0 c n e, still_unarrived past ch m packets h.1)

-- what the channels are right about then link and channels pack
pub pushed : (l : Link) (t told : Channels) (end : End) (side : Side) (before : Past) (p : Packing) (ch : ℕ)
    (m : Message)
    → PacksBoth l t end side before p → ch < channel_limit end.version
    → ((sent past : Past) → Keeps t side (sent ++ past) → are_sendings sent ≡ true
    → Keeps told side (sent ++ after_making past ch m))
    → PacksBoth l told end side before (record p { past = after_making p.past ch m })
pushed l t told end side before p ch m h below f =
    let both = made_below p ch m in
    record {
      link = packs_making l end before p ch m h.link;
      table =
          subst (Keeps told side) (sym both.later_is)
          (f both.sent p.past (subst (Keeps t side) both.is h.table) both.sendings);
      unarrived = still_unarrived p.past ch m p.packets h.unarrived;
      low = λ c le. made_count_elsewhere p.past c ch m (λ e. absurd (omega (arith, e, below, le))) ∙ h.low c le;
    }

-- ---- what is asked of either past

pub behind : (l : Link) (t : Channels) (end : End) (side : Side) (before : Past) (p : Packing)
    → PacksBoth l t end side before p → SentAll p.past p.packets
behind l t end side before p h = sent_behind p.past p.packets h.link.high h.unarrived

pub room_now : (l : Link) (t : Channels) (end : End) (side : Side) (before : Past) (p : Packing) (ch : ℕ)
    → PacksBoth l t end side before p → room (sent_now p) ch ≡ room p.past ch
room_now l t end side before p ch h =
    let s = behind l t end side before p h in
    ap (λ (l : Past). room l ch) s.is ∙ room_behind p.past s.sent s.sendings ch
