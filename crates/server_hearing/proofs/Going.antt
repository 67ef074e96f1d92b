-- Entries of a packet: what stands before one stands after it, for the past that it leads to.
use Rattle.std.proofs.Common.{◌≡◌, ℕ, ◌+◌, ◌<◌, List, [], ◌∷◌, ◌++◌, map, drop, reverse, length, Bool, Option, Some, None, refl, sym, ap, ◌∙◌, subst, arith}
use Rattle.std.specs.Prelude.{take, ◌-◌}
use Rattle.std.proofs.lemmas.List.{reverse-append}
use Rattle.std.proofs.lemmas.List.Elements.{filter_map-append}
use Rattle.std.proofs.lemmas.Option.{none-some}
use Rattle.protocol_model.specs.Packet.{Bunch}
use Rattle.protocol_model.specs.Side.{Side, AtServer}
use Rattle.protocol_model.specs.Value.{Class}
use Rattle.protocol_model.specs.World.{Edits}
use Rattle.protocol_model.specs.Search.{or_else}
use Rattle.protocol_model.specs.declared.Cause.{Cause}
use Rattle.connection_model.specs.Feed.{End, Past, Took, Ended, ByCause, Entry, Heard, Delivered}
use Rattle.connection_model.specs.Copies.{delivered_of}
use Rattle.connection_model.specs.CallAnswers.{waiting_of}
use Rattle.connection_model.specs.State.{index_of, opened_class}
use Rattle.connection_model.specs.Verdict.{Progress, with_told, bunch_heard}
use Rattle.class_layout.specs.Tables.{Layout, table_in}
use Rattle.handovers.specs.Handovers.{Handover}
use Rattle.value_codec.specs.declared.handed.Handed.{Handed}
use Rattle.world_table.specs.Kept.{Kept}
use Rattle.receiving_laws.specs.Receiving.{Raw, raws_heard, read_raws, read_from}
use Rattle.receiving_laws.specs.Readings.{AreRead}
use Rattle.receiving_laws.proofs.Reading.{heard_is_read}
use Rattle.connection_laws.proofs.ActorMarks.{index_same}
use Rattle.channel_laws.specs.Moves.{IsMove, SameNews}
use Rattle.sender_laws.specs.Acts.{IsAlike, acts}
use Rattle.sender_laws.proofs.Views.{class_alike, mark_alike, arrivals_alike}
use Rattle.link_end.specs.News.{News, Moves, Hears}
use Rattle.hearing_laws.specs.Courses.{Taking, during, heard_then, Onward, Leads, handed_since}
use Rattle.hearing_laws.specs.Plain.{IsCalm}
use Rattle.channel_table.specs.Channels.{Channels}
use Rattle.channel_table.specs.Keeps.{Keeps as KeepsTable}
use Rattle.channel_table.specs.Stands.{Stands as StandsTable, waiting_call}
use Rattle.channel_table.specs.Holders.{channel_bound, IsPaired}
use Rattle.shadow_changes.specs.Samples.{Samples}
use Rattle.sender_steps.specs.Sender.{Sender}
use Rattle.sender_steps.specs.Stands.{Keeps, StandsBoth}
use Rattle.sender_steps.proofs.Unseen.{alike_keeps}
use Rattle.hearing_laws.proofs.Unseen.{same_acts, news_acts, news_waiting, news_handed, move_handed, handed_is}
use Rattle.hearing_laws.proofs.Calm.{heard_calm, move_calm, news_calm}
use Rattle.server_hearing.specs.Calls.{AreSpawned}
use Rattle.server_hearing.specs.Payloads.{IsHearing, AreHeard, IsBunch, Listens, handed_values, calls_of}
use Rattle.server_hearing.specs.Entries.{HandsOver, GoesOn}

-- ---- pasts with the same acts

pub spawned_alike : (w : Kept) (edits : Edits) (one other : Past) → acts other ≡ acts one
    → AreSpawned (table_in w.layout) edits one → AreSpawned (table_in w.layout) edits other
spawned_alike w edits one other e h a class is = h a class (sym (class_alike one other e a) ∙ is)

pub index_alike : (one other : Past) → IsAlike one other → (a : ℕ) → index_of other a ≡ index_of one a
index_alike one other h a = index_same one other (arrivals_alike one other h) a (mark_alike one other h.done a)

-- what the sender and the table promise of pasts that they don't tell apart
pub record Unseen (s : Sender) (t : Channels) : Type 0 where
  pub sender : (one other : Past) (samples : Samples) → IsAlike one other → Keeps s one samples → Keeps s other samples
  pub table : (one other : Past) → SameNews one other → KeepsTable t AtServer one → KeepsTable t AtServer other

pub both_news : (s : Sender) (t : Channels) (one other : Past) (samples : Samples) → Unseen s t → SameNews one other
    → StandsBoth s t one samples → StandsBoth s t other samples
both_news s t one other samples unseen h both =
    let alike = news_acts one other h in
    record {
      sender = unseen.sender one other samples alike both.sender;
      table = record {
        bunches = unseen.table one other h both.table.bunches;
        bound = λ a. both.table.bound a ∙ sym (index_alike one other alike a);
        paired = both.table.paired;
        waiting = both.table.waiting ∙ ap (map waiting_call) (sym (news_waiting one other h));
      };
    }

pub hearing_news : (w : Kept) (s : Sender) (t : Channels) (k : Taking) (edits : Edits) (one other : Past)
    (samples : Samples) → Unseen s t → SameNews one other → IsHearing w s t k edits one samples
    → IsHearing w s t k edits other samples
hearing_news w s t k edits one other samples unseen h is = record {
  side = is.side;
  world = is.world;
  opened = spawned_alike w edits one other (news_acts one other h).done is.opened;
  both = both_news s t one other samples unseen h is.both;
  calm = news_calm one other h is.calm;
}

pub hands_same : (layout : Layout) (edits : Edits) (player : ℕ) (k : Taking) (one other : Past)
    (handed : List Handed) → delivered_of other ≡ delivered_of one → HandsOver layout edits player k one handed
    → HandsOver layout edits player k other handed
hands_same layout edits player k one other handed e h =
    h ∙ ap (λ (ds : List Delivered). calls_of edits player (reverse
    (take (length ds - length (delivered_of k.before)) ds))) (sym e)

-- ---- a move

moved_acts : (from to : ℕ) (past after : Past) → IsMove from to past after → acts after ≡ acts past
moved_acts from to past after m = same_acts past after m.rest

pub moved_on : (w : Kept) (s new : Sender) (t later : Channels) (k : Taking) (edits : Edits) (player : ℕ)
    (samples : Samples) (handed : List Handed) (from to : ℕ) (news : List News) (bad : Option Cause)
    (past final : Past)
    → ((past after : Past) (samples : Samples) → StandsBoth s t past samples → IsMove from to past after
    → StandsBoth new later after samples)
    → IsHearing w s t k edits past samples → HandsOver w.layout edits player k past handed
    → Leads k (Moves from to ∷ news) bad past final
    → GoesOn w new later k edits player samples handed news bad final None
moved_on w s new t later k edits player samples handed from to news bad past final moves is hands (mid, m, leads) = (
  mid,
  record {
    side = is.side;
    world = is.world;
    opened = spawned_alike w edits past mid (moved_acts from to past mid m) is.opened;
    both = moves past mid samples is.both m;
    calm = move_calm from to past mid m is.calm;
  },
  hands_same w.layout edits player k past mid handed (move_handed from to past mid m) hands,
  leads,
)

-- ---- a bunch

pub hands_more : (layout : Layout) (edits : Edits) (player : ℕ) (k : Taking) (entries told : List Entry)
    (payloads more : List Delivered) (old new : List Handed)
    → HandsOver layout edits player k (during k entries payloads) old
    → handed_values layout new ≡ handed_values layout old ++ calls_of edits player (reverse more)
    → HandsOver layout edits player k (during k told (more ++ payloads)) new
hands_more layout edits player k entries told payloads more old new h calls =
    calls ∙ ap (λ (hs : List Handover). hs ++ calls_of edits player (reverse more))
    (h ∙ ap (calls_of edits player) (handed_is k entries payloads))
    ∙ sym (filter_map-append _ (reverse payloads) (reverse more))
    ∙ ap (calls_of edits player) (sym (reverse-append more payloads))
    ∙ ap (calls_of edits player) (sym (handed_is k told (more ++ payloads)))

pub bunch_on : (w : Kept) (s : Sender) (t later : Channels) (k : Taking) (edits : Edits) (player : ℕ)
    (samples : Samples) (old new : List Handed) (b : Bunch) (news : List News) (bad : Option Cause)
    (past final : Past) (broken : Option Cause) → Unseen s t
    → IsHearing w s t k edits past samples → HandsOver w.layout edits player k past old
    → Leads k (Hears b ∷ news) bad past final
    → ((entries : List Entry) (payloads : List Delivered)
    → IsHearing w s t k edits (during k entries payloads) samples
    → IsBunch w s later k edits player samples entries payloads b old new broken)
    → GoesOn w s later k edits player samples new news bad final broken
bunch_on w s t later k edits player samples old new b news bad past final broken unseen is hands (entries, payloads, same, on) does =
    by broken (does entries payloads (hearing_news w s t k edits past (during k entries payloads) samples unseen same is)) on
  where
    begun : HandsOver w.layout edits player k (during k entries payloads) old
    begun = hands_same w.layout edits player k past (during k entries payloads) old
        (news_handed past (during k entries payloads) same) hands

    by : (broken : Option Cause) → IsBunch w s later k edits player samples entries payloads b old new broken
        → Onward (heard_then k entries payloads b).cause
        (Leads k news bad (with_told (Heard b) (heard_then k entries payloads b).past) final)
        (λ cause. final ≡ Ended (ByCause cause) ∷ (heard_then k entries payloads b).past)
        → GoesOn w s later k edits player samples new news bad final broken
    by None h on = (
      during k (Heard b ∷ entries) (h.more ++ payloads),
      h.stands refl,
      hands_more w.layout edits player k entries (Heard b ∷ entries) payloads h.more old new begun h.calls,
      subst (λ (p : Progress). Onward p.cause (Leads k news bad (with_told (Heard b) p.past) final)
          (λ cause. final ≡ Ended (ByCause cause) ∷ p.past)) h.heard on,
    )
    by (Some cause) h on = (
      entries,
      h.more ++ payloads,
      subst (λ (p : Progress). Onward p.cause (Leads k news bad (with_told (Heard b) p.past) final)
          (λ cause. final ≡ Ended (ByCause cause) ∷ p.past)) h.heard on,
      hands_more w.layout edits player k entries entries payloads h.more old new begun h.calls,
    )

-- ---- what a bunch is heard by

pub listens : (w : Kept) (s : Sender) (t later : Channels) (k : Taking) (edits : Edits) (past : Past)
    (samples : Samples) → IsHearing w s t k edits past samples → later.bound ≡ t.bound
    → Listens w s later k.end edits past samples
listens w s t later k edits past samples h e = record {
  side = h.side;
  knows = record { world = h.world; opened = h.opened; sender = h.both.sender };
  bound = λ a. ap (λ (b : List (ℕ × ℕ)). channel_bound b a) e ∙ h.both.table.bound a;
}

-- what the payload before it was read as changes none of it
pub listens_on : (w : Kept) (s : Sender) (t : Channels) (k : Taking) (edits : Edits) (entries : List Entry)
    (one other : List Delivered) (samples : Samples) → Listens w s t k.end edits (during k entries one) samples
    → Listens w s t k.end edits (during k entries other) samples
listens_on w s t k edits entries one other samples h =
    let alike : IsAlike (during k entries one) (during k entries other) = record { done = refl; moved = refl } in
    record {
      side = h.side;
      knows = record {
        world = h.knows.world;
        opened = h.knows.opened;
        sender = alike_keeps s (during k entries one) (during k entries other) samples alike h.knows.sender;
      };
      bound = λ a. h.bound a ∙ sym (index_alike (during k entries one) (during k entries other) alike a);
    }

pub no_cause : (one two : Option Cause) → or_else one two ≡ None → (one ≡ None) × (two ≡ None)
no_cause None two e = (refl, e)
no_cause (Some cause) two e = absurd (none-some cause (sym e))

-- what a bunch does at the server is what its payloads do
pub read_at : (end : End) (past : Past) (b : Bunch) → end.side ≡ AtServer
    → bunch_heard end past b ≡ read_raws end past (raws_heard AtServer past b)
read_at end past b side =
    ap (λ (s : Side). bunch_heard (record end { side = s }) past b) side
    ∙ heard_is_read end.version end.budget end.table past b
    ∙ ap (λ (s : Side). read_raws (record end { side = s }) past (raws_heard AtServer past b)) (sym side)

-- what the table promises of a bunch that it received
pub record Received (s : Sender) (t later : Channels) (b : Bunch) (cause : Option Cause) : Type 0 where
  pub told : (past : Past) → KeepsTable t AtServer past → cause ≡ (raws_heard AtServer past b).cause
  pub keeps : (past : Past) (m : ℕ) (entries : List Entry) (handed after : List Delivered)
      → KeepsTable t AtServer (Took m entries handed ∷ past) → cause ≡ None
      → AreRead (raws_heard AtServer (Took m entries handed ∷ past) b).whole handed after
      → KeepsTable later AtServer (Took m (Heard b ∷ entries) after ∷ past)
  pub bound : later.bound ≡ t.bound
  pub waiting : later.waiting ≡ t.waiting
  pub read : (end : End) (past : Past) → end.side ≡ AtServer
      → bunch_heard end past b ≡ read_raws end past (raws_heard AtServer past b)
  pub alike : (one other : Past) (samples : Samples) → IsAlike one other → Keeps s one samples → Keeps s other samples

pub bunch_is : (w : Kept) (s : Sender) (t later : Channels) (k : Taking) (edits : Edits) (player : ℕ)
    (samples : Samples) (entries : List Entry) (payloads : List Delivered) (b : Bunch) (old new : List Handed)
    (broken cause : Option Cause) → Received s t later b cause
    → IsHearing w s t k edits (during k entries payloads) samples
    → AreHeard k w.layout edits player entries payloads
    (raws_heard AtServer (during k entries payloads) b).whole old new broken
    → IsBunch w s later k edits player samples entries payloads b old new (or_else broken cause)
bunch_is w s t later k edits player samples entries payloads b old new broken cause got h heard = record {
  more = heard.more;
  heard = is;
  calls = heard.calls;
  stands = λ e. (let none = no_cause broken cause e in stand none.0 none.1 e);
}
  where
    past : Past
    past = during k entries payloads

    told : Past
    told = during k (Heard b ∷ entries) (heard.more ++ payloads)

    is : heard_then k entries payloads b
        ≡ record { past = during k entries (heard.more ++ payloads); cause = or_else broken cause }
    is = got.read k.end past h.side ∙ heard.read (raws_heard AtServer past b).cause
        ∙ ap (λ (c : Option Cause). (let p : Progress = record {
          past = during k entries (heard.more ++ payloads);
          cause = or_else broken c;
        } in p)) (sym (got.told past h.both.table.bunches))

    stand : broken ≡ None → cause ≡ None → or_else broken cause ≡ None → IsHearing w s later k edits told samples
    stand none clear e = record {
      side = h.side;
      world = h.world;
      opened = h.opened;
      both = record {
        sender = got.alike past told samples (record { done = refl; moved = refl }) h.both.sender;
        table = record {
          bunches = got.keeps k.before k.number entries payloads (heard.more ++ payloads) h.both.table.bunches clear (heard.whole none);
          bound = λ a. ap (λ (x : List (ℕ × ℕ)). channel_bound x a) got.bound ∙ h.both.table.bound a
              ∙ sym (index_alike past told (record { done = refl; moved = refl }) a);
          paired = subst IsPaired (sym got.bound) h.both.table.paired;
          waiting = got.waiting ∙ h.both.table.waiting;
        };
      };
      calm = heard_calm k entries payloads (heard.more ++ payloads) b h.side h.calm
          (ap (λ (p : Progress). p.cause) is ∙ e);
    }
