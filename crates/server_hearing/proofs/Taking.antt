-- A packet that is taken, from its number to what the end says of it.
use Rattle.std.proofs.Common.{◌≡◌, ℕ, ◌+◌, ◌<◌, ◌≤◌, List, [], ◌∷◌, ◌++◌, map, drop, reverse, length, Bool, true, false, Option, Some, None, option_map, Result, Ok, Err, refl, sym, ap, ◌∙◌, subst, arith, IsTrue}
use Rattle.std.specs.Prelude.{ℤ, pos, negsuc, unsigned_abs, int_lt, if◌then◌else◌}
use Rattle.std.proofs.lemmas.Bool.{false≢true, ltb-true}
use Rattle.std.proofs.lemmas.Option.{none-some, same_Some}
use Rattle.protocol_model.specs.Packet.{Packet}
use Rattle.protocol_model.specs.PacketReading.{packet_of}
use Rattle.protocol_model.specs.Search.{or_else, greatest_of}
use Rattle.protocol_model.specs.Side.{AtServer}
use Rattle.protocol_model.specs.World.{Edits}
use Rattle.protocol_model.specs.declared.Cause.{Cause}
use Rattle.protocol_model.specs.declared.Verdict.{Verdict}
use Rattle.protocol_model.specs.declared.Verdict.TheVariants.{Taken, Malformed, Old, Closed}
use Rattle.protocol_model.specs.declared.Why.{Why}
use Rattle.protocol_laws.proofs.Greatest.{greatest_of-cons}
use Rattle.connection_model.specs.Feed.{End, Past, Took, Ended, ByCause, Entry, Delivered, has_ended}
use Rattle.connection_model.specs.Fates.{top_of, taken_of, number_near, is_new}
use Rattle.connection_model.specs.Handed.{handed_by}
use Rattle.connection_model.specs.Verdict.{after_entries, after_packet, entries_in, verdict_after, verdict_on, verdict_of, after_reading, after_got}
use Rattle.class_layout.specs.Tables.{Layout}
use Rattle.world_table.specs.Kept.{Kept}
use Rattle.value_codec.specs.declared.handed.Handed.{Handed}
use Rattle.channel_laws.specs.Moves.{SameNews}
use Rattle.sender_laws.specs.Acts.{IsAlike}
use Rattle.link_end.specs.Answers.{news_value, cause_value, IsArrival}
use Rattle.link_end.specs.Link.{Link}
use Rattle.link_end.specs.News.{News, news_of, bad_of, taking}
use Rattle.link_end.specs.Rests.{Rests}
use Rattle.link_end.specs.declared.arrival.Arrival.{Arrival}
use Rattle.hearing_laws.specs.Courses.{Taking, during, Leads, handed_since}
use Rattle.hearing_laws.proofs.Going.{lead_all}
use Rattle.hearing_laws.proofs.Unseen.{handed_is, news_handed}
use Rattle.channel_table.specs.Channels.{Channels}
use Rattle.channel_table.specs.Keeps.{Keeps as KeepsTable}
use Rattle.shadow_changes.specs.Samples.{Samples}
use Rattle.sender_steps.specs.Sender.{Sender}
use Rattle.sender_steps.specs.Stands.{Keeps, Stands, StandsBoth}
use Rattle.server_hearing.specs.Payloads.{IsHearing, handed_values, calls_of}
use Rattle.server_hearing.specs.Entries.{HandsOver, GoesOn}
use Rattle.server_hearing.specs.Datagrams.{MayHear}
use Rattle.server_hearing.proofs.Going.{Unseen, index_alike, both_news, hands_same}

-- ---- the packet that arrived

-- a packet of these bytes that is new arrived, and this is what it is taken as
pub record Arrives (end : End) (past : Past) (bytes : List ℕ) (a : Arrival) : Type 0 where
  pub packet : Packet
  pub read : packet_of end.version bytes ≡ Ok packet
  pub new : is_new past packet.number ≡ true
  pub is : IsArrival past end packet a

abbrev pub taken : End → Past → Arrival → Packet → Taking
taken end past a p = record {
  end = end;
  number = a.number;
  before = past;
  told = reverse (entries_in end.version p);
}

-- the past after it
abbrev pub final_of : End → Past → Arrival → Packet → Past
final_of end past a p = after_entries end (during (taken end past a p) [] []) (entries_in end.version p)

number_is : (n : ℕ) (z : ℤ) → pos n ≡ z → unsigned_abs z ≡ n
number_is n z e = ap unsigned_abs (sym e)

taking_is : (end : End) (past : Past) (a : Arrival) (p : Packet) → IsArrival past end p a
    → taking past p ≡ during (taken end past a p) [] []
taking_is end past a p is =
    ap (λ (n : ℕ). (let later : Past = Took n [] [] ∷ past in later)) (number_is a.number (number_near past p.number) is.number)

pub leads_to : (end : End) (past : Past) (bytes : List ℕ) (a : Arrival) (r : Arrives end past bytes a)
    → Leads (taken end past a r.packet) (map news_value a.entries) (option_map cause_value a.bad)
    (during (taken end past a r.packet) [] []) (final_of end past a r.packet)
leads_to end past bytes a r =
    let k : Taking = taken end past a r.packet in
    let entries : List Entry = entries_in end.version r.packet in
    let same = taking_is end past a r.packet r.is in
    subst (λ (news : List News). Leads k news (option_map cause_value a.bad) (during k [] []) (final_of end past a r.packet))
    (sym (r.is.entries ∙ ap (λ (later : Past). news_of later entries) same))
    (subst (λ (bad : Option Cause). Leads k (news_of (during k [] []) entries) bad (during k [] []) (final_of end past a r.packet))
    (sym (r.is.bad ∙ ap (λ (later : Past). bad_of later entries) same))
    (lead_all k entries refl))

-- ---- what stands as it is taken

pub begins : (w : Kept) (s : Sender) (l : Link) (t : Channels) (end : End) (edits : Edits) (past : Past)
    (samples : Samples) (a : Arrival) (p : Packet) → Unseen s t
    → ((n : ℕ) → KeepsTable t AtServer past → KeepsTable t AtServer (Took n [] [] ∷ past))
    → MayHear w s l t end edits past samples
    → IsHearing w s t (taken end past a p) edits (during (taken end past a p) [] []) samples
begins w s l t end edits past samples a p unseen taken' h =
    let later : Past = Took a.number [] [] ∷ past in
    record {
      side = h.side;
      world = h.world;
      opened = h.opened;
      both = record {
        sender = unseen.sender past later samples (record { done = refl; moved = refl }) h.stands.sender;
        table = record {
          bunches = taken' a.number h.stands.table.bunches;
          bound = λ a. h.stands.table.bound a ∙ sym (index_alike past later (record { done = refl; moved = refl }) a);
          paired = h.stands.table.paired;
          waiting = h.stands.table.waiting;
        };
      };
      calm = h.calm;
    }

pub none_handed : (layout : Layout) (edits : Edits) (player : ℕ) (k : Taking)
    → HandsOver layout edits player k (during k [] []) []
none_handed layout edits player k = ap (calls_of edits player) (sym (handed_is k [] []))

-- ---- the past after it

pub after_is : (end : End) (past : Past) (bytes : List ℕ) (a : Arrival) (r : Arrives end past bytes a)
    → has_ended past ≡ false → after_got end past bytes ≡ final_of end past a r.packet
after_is end past bytes a r alive =
    rw (alive, r.read, r.new) (ap (λ (later : Past). after_entries end later (entries_in end.version r.packet))
    (taking_is end past a r.packet r.is))

pub verdict_is : (end : End) (past : Past) (bytes : List ℕ) (a : Arrival) (r : Arrives end past bytes a)
    → has_ended past ≡ false
    → verdict_of end past bytes ≡ verdict_after (final_of end past a r.packet) a.number
verdict_is end past bytes a r alive =
    rw (alive, r.read, r.new) (ap (λ (later : Past). verdict_after (after_entries end later (entries_in end.version r.packet))
    (unsigned_abs (number_near past r.packet.number))) (taking_is end past a r.packet r.is)
    ∙ ap (verdict_after (final_of end past a r.packet)) (number_is a.number (number_near past r.packet.number) r.is.number))

-- a number that is taken is above those before
above_top : (n top : ℕ) (z : ℤ) → pos n ≡ z → int_lt (pos top) z ≡ true → top < n
above_top n top z e h = ltb-true top n (ap (int_lt (pos top)) e ∙ h)

pub top_taken : (end : End) (past : Past) (bytes : List ℕ) (a : Arrival) (r : Arrives end past bytes a)
    (entries : List Entry) (payloads : List Delivered)
    → a.number ≡ top_of (Took a.number entries payloads ∷ past)
top_taken end past bytes a r entries payloads =
    let above = above_top a.number (top_of past) (number_near past r.packet.number) r.is.number r.new in
    let c = greatest_of-cons a.number (taken_of past) in
    omega (arith, c, above)

-- ---- how it ends

-- where the packet ends: whether a rule closes the end, the past then, and what was handed over
pub record Ends (end : End) (past final : Past) (layout : Layout) (edits : Edits) (player number : ℕ)
    (handed : List Handed) (cause : Option Cause) : Type 0 where
  pub entries : List Entry
  pub payloads : List Delivered
  pub final_is : final ≡ elim cause [
    | None ↦ Took number entries payloads ∷ past
    | Some c ↦ Ended (ByCause c) ∷ Took number entries payloads ∷ past
  ]
  pub calls : handed_values layout handed ≡ calls_of edits player (handed_since past final)

-- and what stands, where none does
pub record StandsOn (w : Kept) (s : Sender) (t : Channels) (k : Taking) (edits : Edits) (final : Past)
    (samples : Samples) : Type 0 where
  pub payloads : List Delivered
  pub final_is : final ≡ during k k.told payloads
  pub both : StandsBoth s t final samples

pub ends_of : (w : Kept) (s : Sender) (t : Channels) (k : Taking) (edits : Edits) (player : ℕ) (samples : Samples)
    (handed : List Handed) (bad broken : Option Cause) (final : Past)
    → GoesOn w s t k edits player samples handed [] bad final broken
    → Ends k.end k.before final w.layout edits player k.number handed (or_else broken bad)
ends_of w s t k edits player samples handed bad (Some cause) final (entries, payloads, is, hands) = record {
  entries = entries;
  payloads = payloads;
  final_is = is;
  calls = hands ∙ ap (λ (p : Past). calls_of edits player (handed_since k.before p)) (sym is);
}
ends_of w s t k edits player samples handed None None final (past, h, hands, (payloads, is, same)) = record {
  entries = k.told;
  payloads = payloads;
  final_is = is;
  calls = hands_same w.layout edits player k past final handed (news_handed past final same) hands;
}
ends_of w s t k edits player samples handed (Some cause) None final (past, h, hands, (entries, payloads, is, same)) =
    record {
      entries = entries;
      payloads = payloads;
      final_is = is;
      calls = hands_same w.layout edits player k past (during k entries payloads) handed
          (news_handed past (during k entries payloads) same) hands
          ∙ ap (λ (p : Past). calls_of edits player (handed_since k.before p)) (sym is);
    }

pub stands_on : (w : Kept) (s : Sender) (t : Channels) (k : Taking) (edits : Edits) (player : ℕ) (samples : Samples)
    (handed : List Handed) (bad broken : Option Cause) (final : Past) → Unseen s t → or_else broken bad ≡ None
    → GoesOn w s t k edits player samples handed [] bad final broken
    → StandsOn w s t k edits final samples
stands_on w s t k edits player samples handed bad (Some cause) final unseen e g = absurd (none-some cause (sym e))
stands_on w s t k edits player samples handed (Some cause) None final unseen e g = absurd (none-some cause (sym e))
stands_on w s t k edits player samples handed None None final unseen e (past, h, hands, (payloads, is, same)) = record {
  payloads = payloads;
  final_is = is;
  both = both_news s t past final samples unseen same h.both;
}

-- ---- what is answered

pub answer_is : (end : End) (past final : Past) (layout : Layout) (edits : Edits) (player number : ℕ)
    (handed : List Handed) (cause : Option Cause) → Ends end past final layout edits player number handed cause
    → verdict_after final number ≡ elim cause [ None ↦ Taken number | Some c ↦ Closed c ]
answer_is end past final layout edits player number handed None e = ap (λ (p : Past). verdict_after p number) e.final_is
answer_is end past final layout edits player number handed (Some c) e = ap (λ (p : Past). verdict_after p number) e.final_is

pub ended_is : (end : End) (past final : Past) (layout : Layout) (edits : Edits) (player number : ℕ)
    (handed : List Handed) (c : Cause) → Ends end past final layout edits player number handed (Some c)
    → has_ended final ≡ true
ended_is end past final layout edits player number handed c e = ap has_ended e.final_is
