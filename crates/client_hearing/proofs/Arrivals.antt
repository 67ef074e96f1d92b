-- A packet that arrived: what its news lead to, and what is said of it.
use Rattle.std.proofs.Common.{◌≡◌, ◌≢◌, ℕ, ◌<◌, List, [], ◌∷◌, ◌++◌, map, max, reverse, Bool, true, false, Option, Some, None, Result, Ok, Err, option_map, pos, int_lt, unsigned_abs, refl, sym, ap, ◌∙◌, subst, arith}
use Rattle.std.proofs.lemmas.Bool.Decides.{nat_tests}
use Rattle.std.specs.List.{AllByRecursion}
use Rattle.protocol_model.specs.Packet.{Packet}
use Rattle.protocol_model.specs.Search.{greatest_of}
use Rattle.protocol_model.specs.Side.{AtClient}
use Rattle.protocol_model.specs.declared.Cause.{Cause}
use Rattle.protocol_model.specs.declared.Verdict.TheVariants.{Taken, Closed}
use Rattle.protocol_model.specs.declared.Version.{Version}
use Rattle.protocol_laws.proofs.Greatest.{greatest_of-cons}
use Rattle.connection_model.specs.Feed.{End, Past, Took, Ended, ByCause, Entry, Delivered, has_ended}
use Rattle.connection_model.specs.Fates.{number_near, top_of, taken_of, is_new}
use Rattle.connection_model.specs.Handed.{client_verdict}
use Rattle.connection_model.specs.Verdict.{after_entries, after_packet, entries_in, verdict_after}
use Rattle.class_layout.specs.Tables.{Layout}
use Rattle.value_codec.specs.declared.handed.Handed.{Handed}
use Rattle.handovers.specs.Handovers.{handovers, handover_of}
use Rattle.channel_laws.specs.Moves.{SameNews}
use Rattle.channel_laws.proofs.Alike.{alike_taken}
use Rattle.hearing_laws.specs.Courses.{Taking, during, Leads, handed_since}
use Rattle.hearing_laws.proofs.Going.{lead_all}
use Rattle.hearing_laws.proofs.Unseen.{handed_is}
use Rattle.link_end.specs.News.{News, news_of, bad_of, taking}
use Rattle.link_end.specs.Answers.{news_value, cause_value}
use Rattle.link_end.specs.declared.arrival.Arrival.{Arrival}
use Rattle.link_end.specs.declared.arrival.Entry.{Entry as EntryValue}
use Rattle.netguid_map.specs.declared.names.Learnt.{Learnt}
use Rattle.actor_copies.specs.declared.copy.ActorCopy.{ActorCopy}
use Rattle.actor_copies.specs.Stands.{Stands as StandCopies}
use Rattle.actor_copies.proofs.Following.{stands_still}
use Rattle.channel_table.specs.Channels.{Channels}
use Rattle.channel_table.specs.Keeps.{Keeps as KeepsBunches}
use Rattle.channel_table.proofs.Kept.{keeps_unseen}
use Rattle.client_hearing.specs.declared.halt.Halt.{Halt}
use Rattle.client_hearing.specs.Keeping.{Keeps, end_as}
use Rattle.client_hearing.specs.Moments.{AreHanded, Hears}
use Rattle.client_hearing.specs.Hearing.{AreEntriesHeard, Arrives, IsTakenIn, IsFitEntry, IsFitNews, after_arrival, handovers_of, verdict_from, EndsBy}
use Rattle.client_hearing.proofs.Entries.{keeps_still, keeps_other, hears_at}
use Rattle.client_hearing.proofs.Fits.{news_are_fit}

-- the packet under way
abbrev pub taken_by : Layout → Version → Past → Packet → (number : ℕ) → Taking
taken_by layout version past p number = record {
  end = end_as layout version;
  number = number;
  before = past;
  told = reverse (entries_in version p);
}

-- ---- as the packet comes

number_is : (past : Past) (p : Packet) (number : ℕ) → pos number ≡ number_near past p.number
    → unsigned_abs (number_near past p.number) ≡ number
number_is past p number e = sym (ap unsigned_abs e)

-- its news lead to the past after it
pub arrival_leads : (layout : Layout) (version : Version) (table : Channels)
    (names : List (ℕ × Learnt)) (copies : List ActorCopy) (past : Past) (p : Packet) (a : Arrival)
    → Arrives layout version table names copies past p a
    → Leads (taken_by layout version past p a.number) (map news_value a.entries)
    (option_map cause_value a.bad) (during (taken_by layout version past p a.number) [] [])
    (after_arrival layout version past p)
arrival_leads layout version table names copies past p a h =
    let k = taken_by layout version past p a.number in
    let number = number_is past p a.number h.arrives.number in
    let start : taking past p ≡ during k [] [] = ap (λ (n : ℕ). Took n [] [] ∷ past) number in
    let news : map news_value a.entries ≡ news_of (during k [] []) (entries_in version p) =
    h.arrives.entries ∙ ap (λ (q : Past). news_of q (entries_in version p)) start in
    let bad : option_map cause_value a.bad ≡ bad_of (during k [] []) (entries_in version p) =
    h.arrives.bad ∙ ap (λ (q : Past). bad_of q (entries_in version p)) start in
    let final : after_arrival layout version past p
    ≡ after_entries k.end (during k [] []) (entries_in version p) =
    ap (λ (n : ℕ). after_entries (end_as layout version) (Took n [] [] ∷ past) (entries_in version p)) number in
    subst (λ (news : List News). Leads k news (option_map cause_value a.bad) (during k [] [])
    (after_arrival layout version past p)) (sym news)
    (subst (λ (bad : Option Cause). Leads k (news_of (during k [] []) (entries_in version p)) bad
    (during k [] []) (after_arrival layout version past p)) (sym bad)
    (subst (λ (q : Past). Leads k (news_of (during k [] []) (entries_in version p))
    (bad_of (during k [] []) (entries_in version p)) (during k [] []) q) (sym final)
    (lead_all k (entries_in version p) refl)))

-- its bunches are fit
pub arrival_fits : (layout : Layout) (version : Version) (table : Channels)
    (names : List (ℕ × Learnt)) (copies : List ActorCopy) (past : Past) (p : Packet) (a : Arrival)
    → Arrives layout version table names copies past p a
    → AllByRecursion (IsFitNews version) (map news_value a.entries)
arrival_fits layout version table names copies past p a h =
    subst (AllByRecursion (IsFitNews version)) (sym h.arrives.entries)
    (news_are_fit version (taking past p) (entries_in version p) h.fits)

-- and all that is kept stands as it begins
pub arrival_hears : (layout : Layout) (version : Version) (table : Channels)
    (names : List (ℕ × Learnt)) (copies : List ActorCopy) (past : Past) (p : Packet) (a : Arrival)
    → Arrives layout version table names copies past p a
    → KeepsBunches table AtClient (during (taken_by layout version past p a.number) [] [])
    → Hears layout version table names copies [] (taken_by layout version past p a.number) []
    (during (taken_by layout version past p a.number) [] [])
arrival_hears layout version table names copies past p a h bunches = record {
  end = refl;
  keeps = keeps_still layout version table table names copies past
      (during (taken_by layout version past p a.number) [] []) h.keeps bunches refl refl
      (record { received = λ ch. refl; channels = refl; handed = refl }) refl;
  more = refl;
  told = refl;
}

-- ---- as its entries were heard

-- the past, if it ended by this cause
abbrev pub ending : Option Cause → Past → Past
ending None past = past
ending (Some cause) past = Ended (ByCause cause) ∷ past

-- what came of the packet
pub record CameTo (layout : Layout) (version : Version) (table : Channels)
    (names : List (ℕ × Learnt)) (copies : List ActorCopy) (calls : List Handed) (k : Taking)
    (bad : Option Cause) (final : Past) (ended : Option Cause) : Type 0 where
  pub entries : List Entry
  pub payloads : List Delivered
  pub is : final ≡ ending ended (during k entries payloads)
  pub copied : StandCopies layout copies (during k entries payloads)
  pub told : AreHanded layout calls payloads
  pub taken : ended ≡ None
      → (bad ≡ None) × (entries ≡ k.told) × Keeps layout version table names copies final

pub entries_done : (layout : Layout) (version : Version) (table : Channels)
    (names : List (ℕ × Learnt)) (copies : List ActorCopy) (calls : List Handed) (k : Taking)
    (bad : Option Cause) (final : Past)
    → AreEntriesHeard layout version table names copies calls k [] bad final (Ok tt)
    → CameTo layout version table names copies calls k bad final bad
entries_done layout version table names copies calls k None final heard =
    let leads = heard.3 in
    let h = hears_at layout version table names copies calls k heard.1 leads.0 k.told heard.0 heard.2
    (subst (SameNews heard.0) leads.1 leads.2) in
    record {
      entries = k.told;
      payloads = leads.0;
      is = leads.1;
      copied = h.keeps.copied;
      told = h.told;
      taken = λ e. (
        refl,
        refl,
        subst (λ (q : Past). Keeps layout version table names copies q) (sym leads.1) h.keeps,
      );
    }
entries_done layout version table names copies calls k (Some cause) final heard =
    let leads = heard.3 in
    let h = hears_at layout version table names copies calls k heard.1 leads.1 leads.0 heard.0 heard.2
    leads.3 in
    record {
      entries = leads.0;
      payloads = leads.1;
      is = leads.2;
      copied = h.keeps.copied;
      told = h.told;
      taken = λ e. absurd (cc);
    }

pub entries_halt : (layout : Layout) (version : Version) (table : Channels)
    (names : List (ℕ × Learnt)) (copies : List ActorCopy) (calls : List Handed) (k : Taking)
    (bad : Option Cause) (final : Past) (cause : Cause)
    → AreEntriesHeard layout version table names copies calls k [] bad final (Err (Halt.Broken cause))
    → CameTo layout version table names copies calls k bad final (Some cause)
entries_halt layout version table names copies calls k bad final cause heard = record {
  entries = heard.0;
  payloads = heard.1;
  is = heard.2;
  copied = heard.3;
  told = heard.4;
  taken = λ e. absurd (cc);
}

-- ---- what is said of it

pub came_verdict : (layout : Layout) (version : Version) (table : Channels)
    (names : List (ℕ × Learnt)) (copies : List ActorCopy) (calls : List Handed) (k : Taking)
    (bad : Option Cause) (final : Past) (ended : Option Cause)
    → CameTo layout version table names copies calls k bad final ended
    → verdict_from ended k.number ≡ verdict_after final k.number
came_verdict layout version table names copies calls k bad final None c =
    sym (ap (λ (q : Past). verdict_after q k.number) c.is)
came_verdict layout version table names copies calls k bad final (Some cause) c =
    sym (ap (λ (q : Past). verdict_after q k.number) c.is)

since_ended : (ended : Option Cause) (before past : Past)
    → handed_since before (ending ended past) ≡ handed_since before past
since_ended None before past = refl
since_ended (Some cause) before past = refl

pub came_calls : (layout : Layout) (version : Version) (table : Channels)
    (names : List (ℕ × Learnt)) (copies : List ActorCopy) (calls : List Handed) (k : Taking)
    (bad : Option Cause) (final : Past) (ended : Option Cause)
    → CameTo layout version table names copies calls k bad final ended
    → map (handover_of layout) calls
    ≡ handovers (λ actor held. client_verdict held) (handed_since k.before final)
came_calls layout version table names copies calls k bad final ended c =
    c.told
    ∙ ap (λ (ds : List Delivered). handovers (λ actor held. client_verdict held) ds)
    (sym (ap (handed_since k.before) c.is
    ∙ since_ended ended k.before (during k c.entries c.payloads)
    ∙ handed_is k c.entries c.payloads))

copied_ended : (layout : Layout) (copies : List ActorCopy) (ended : Option Cause) (past : Past)
    → StandCopies layout copies past → StandCopies layout copies (ending ended past)
copied_ended layout copies None past h = h
copied_ended layout copies (Some cause) past h =
    stands_still layout copies past (Ended (ByCause cause) ∷ past) refl h

pub came_copied : (layout : Layout) (version : Version) (table : Channels)
    (names : List (ℕ × Learnt)) (copies : List ActorCopy) (calls : List Handed) (k : Taking)
    (bad : Option Cause) (final : Past) (ended : Option Cause)
    → CameTo layout version table names copies calls k bad final ended
    → StandCopies layout copies final
came_copied layout version table names copies calls k bad final ended c =
    subst (StandCopies layout copies) (sym c.is)
    (copied_ended layout copies ended (during k c.entries c.payloads) c.copied)

-- a packet that ended the end leaves it dead
not_ended : (ended : Option Cause) (past final : Past) → final ≡ ending ended past
    → has_ended final ≡ false → ended ≡ None
not_ended None past final is alive = refl
not_ended (Some cause) past final is alive =
    let no : true ≡ false = sym (ap has_ended is) ∙ alive in absurd (cc)

pub came_taken : (layout : Layout) (version : Version) (table : Channels)
    (names : List (ℕ × Learnt)) (copies : List ActorCopy) (calls : List Handed) (past : Past)
    (p : Packet) (a : Arrival) (ended : Option Cause)
    → CameTo layout version table names copies calls (taken_by layout version past p a.number)
    (option_map cause_value a.bad) (after_arrival layout version past p) ended
    → has_ended (after_arrival layout version past p) ≡ false
    → IsTakenIn layout version table names copies past p a
came_taken layout version table names copies calls past p a ended c alive =
    let k = taken_by layout version past p a.number in
    let none = not_ended ended (during k c.entries c.payloads) (after_arrival layout version past p) c.is alive in
    let t = c.taken none in
    record {
      none = unmapped cause_value a.bad t.0;
      payloads = c.payloads;
      is = c.is ∙ ap (λ (o : Option Cause). ending o (during k c.entries c.payloads)) none
          ∙ ap (λ (es : List Entry). during k es c.payloads) t.1;
      keeps = t.2;
    }
  where
    unmapped : {A B : Type 0} (f : A → B) (o : Option A) → option_map f o ≡ None → o ≡ None
    unmapped f None e = refl
    unmapped f (Some x) e = absurd (cc)

-- ---- its number

-- the greatest number taken is that of a new packet
pub top_after : (past : Past) (p : Packet) (number : ℕ) → pos number ≡ number_near past p.number
    → is_new past p.number ≡ true → max number (top_of past) ≡ number
top_after past p number e new =
    let less : int_lt (pos (top_of past)) (pos number) ≡ true =
    ap (int_lt (pos (top_of past))) e ∙ new in
    omega (arith, above (top_of past) number less)
  where
    above : (m n : ℕ) → int_lt (pos m) (pos n) ≡ true → m < n
    above m n h = grind (arith, nat_tests)

top_ended : (ended : Option Cause) (past : Past) → top_of (ending ended past) ≡ top_of past
top_ended None past = refl
top_ended (Some cause) past = refl

pub came_top : (layout : Layout) (version : Version) (table : Channels)
    (names : List (ℕ × Learnt)) (copies : List ActorCopy) (calls : List Handed) (k : Taking)
    (bad : Option Cause) (final : Past) (ended : Option Cause)
    → CameTo layout version table names copies calls k bad final ended
    → top_of final ≡ max k.number (top_of k.before)
came_top layout version table names copies calls k bad final ended c =
    ap top_of c.is ∙ top_ended ended (during k c.entries c.payloads)
    ∙ greatest_of-cons k.number (taken_of k.before)

-- as the code tells the cause
pub came_by : (layout : Layout) (version : Version) (table : Channels)
    (names : List (ℕ × Learnt)) (copies : List ActorCopy) (calls : List Handed) (k : Taking)
    (bad : Option Cause) (final : Past) (r : Result Unit Halt) (ended : Option Cause)
    → AreEntriesHeard layout version table names copies calls k [] bad final r → EndsBy r bad ended
    → CameTo layout version table names copies calls k bad final ended
came_by layout version table names copies calls k bad final (Ok done) ended heard e =
    subst (CameTo layout version table names copies calls k bad final) (sym e)
    (entries_done layout version table names copies calls k bad final heard)
came_by layout version table names copies calls k bad final (Err (Halt.Broken cause)) ended heard e =
    subst (CameTo layout version table names copies calls k bad final) (sym e)
    (entries_halt layout version table names copies calls k bad final cause heard)
came_by layout version table names copies calls k bad final (Err Halt.Memory) ended heard e = absurd e

-- ---- the whole of it

-- all that is kept stands as the entries begin
pub starts : (layout : Layout) (version : Version) (table : Channels) (names : List (ℕ × Learnt))
    (copies : List ActorCopy) (calls : List Handed) (past : Past) (p : Packet) (a : Arrival)
    → Arrives layout version table names copies past p a → calls ≡ []
    → Hears layout version table names copies calls (taken_by layout version past p a.number) []
    (during (taken_by layout version past p a.number) [] [])
starts layout version table names copies calls past p a h none =
    subst (λ (calls : List Handed). Hears layout version table names copies calls
    (taken_by layout version past p a.number) []
    (during (taken_by layout version past p a.number) [] [])) (sym none)
    (arrival_hears layout version table names copies past p a h
    (keeps_unseen table AtClient past (Took a.number [] [] ∷ past) (alike_taken a.number [] past)
    (record { received = λ ch. refl; channels = refl; handed = refl }) h.keeps.channels.bunches))

pub arrival_came : (layout : Layout) (version : Version) (table new : Channels)
    (names after : List (ℕ × Learnt)) (copies now : List ActorCopy) (calls more : List Handed)
    (past : Past) (p : Packet) (a : Arrival) (entries : List EntryValue) (r : Result Unit Halt)
    (ended : Option Cause) → Arrives layout version table names copies past p a → calls ≡ []
    → entries ≡ a.entries
    → ((version : Version) (k : Taking) (bad : Option Cause) (past final : Past) (payloads : List Delivered)
    → Hears layout version table names copies calls k payloads past
    → AllByRecursion (IsFitNews version) (map news_value entries)
    → Leads k (map news_value entries) bad past final
    → AreEntriesHeard layout version new after now more k [] bad final r)
    → EndsBy r (option_map cause_value a.bad) ended
    → CameTo layout version new after now more (taken_by layout version past p a.number)
    (option_map cause_value a.bad) (after_arrival layout version past p) ended
arrival_came layout version table new names after copies now calls more past p a entries r ended h none same
    heard e =
    let k = taken_by layout version past p a.number in
    came_by layout version new after now more k (option_map cause_value a.bad)
    (after_arrival layout version past p) r ended
    (heard version k (option_map cause_value a.bad) (during k [] []) (after_arrival layout version past p) []
    (starts layout version table names copies calls past p a h none)
    (subst (λ (es : List EntryValue). AllByRecursion (IsFitNews version) (map news_value es)) (sym same)
    (arrival_fits layout version table names copies past p a h))
    (subst (λ (es : List EntryValue). Leads k (map news_value es) (option_map cause_value a.bad)
    (during k [] []) (after_arrival layout version past p)) (sym same)
    (arrival_leads layout version table names copies past p a h))) e
