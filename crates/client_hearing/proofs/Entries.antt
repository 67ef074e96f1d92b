-- Entries that are heard, from past to past.
use Rattle.std.proofs.Common.{◌≡◌, ℕ, List, [], ◌∷◌, ◌++◌, map, reverse, flat_map, fold, Option, None, unwrap_or, Ok, Err, refl, sym, ap, ◌∙◌, subst}
use Rattle.std.proofs.lemmas.List.{append_cancel_right}
use Rattle.std.specs.Prelude.{Result}
use Rattle.std.specs.List.{AllByRecursion}
use Rattle.protocol_model.specs.Packet.{Bunch}
use Rattle.protocol_model.specs.Search.{newest_of, items_since}
use Rattle.protocol_model.specs.Side.{AtClient}
use Rattle.protocol_model.specs.declared.Cause.{Cause}
use Rattle.protocol_model.specs.declared.Version.{Version}
use Rattle.connection_model.specs.Feed.{Past, Entry, Heard, Delivered, Ended, ByCause}
use Rattle.connection_model.specs.Copies.{delivered_of, removes, channel_said, copy_channel}
use Rattle.connection_model.specs.CallAnswers.{waiting_of}
use Rattle.connection_model.specs.Names.{names_of, names_in, names_with}
use Rattle.connection_model.specs.Verdict.{Progress, with_told}
use Rattle.class_layout.specs.Tables.{Layout}
use Rattle.value_codec.specs.declared.handed.Handed.{Handed}
use Rattle.channel_laws.specs.Alike.{SameHeard}
use Rattle.channel_laws.specs.Moves.{IsMove, SameNews}
use Rattle.channel_laws.proofs.Hearing.{heard_fates}
use Rattle.client_laws.proofs.Still.{holds_still}
use Rattle.hearing_laws.specs.Courses.{Taking, during, Leads, Onward}
use Rattle.hearing_laws.proofs.Unseen.{news_waiting, move_waiting}
use Rattle.link_end.specs.News.{News, Moves, Hears as HearsBunch}
use Rattle.link_end.specs.Answers.{news_value}
use Rattle.link_end.specs.declared.arrival.Entry.{Entry as EntryValue}
use Rattle.netguid_map.specs.declared.names.Learnt.{Learnt}
use Rattle.netguid_map.specs.Names.{Stands as StandNames}
use Rattle.actor_copies.specs.declared.copy.ActorCopy.{ActorCopy}
use Rattle.actor_copies.proofs.Following.{stands_still}
use Rattle.channel_table.specs.Channels.{Channels}
use Rattle.channel_table.specs.Holders.{Bound, channel_bound, IsPaired}
use Rattle.channel_table.specs.Keeps.{Keeps as KeepsBunches}
use Rattle.channel_table.specs.Stands.{waiting_call}
use Rattle.channel_table.proofs.Kept.{keeps_news}
use Rattle.client_hearing.specs.declared.halt.Halt.{Halt}
use Rattle.client_hearing.specs.Keeping.{Keeps}
use Rattle.client_hearing.specs.Moments.{Moment, AreHanded, Hears}
use Rattle.client_hearing.specs.Hearing.{IsBunchHeard, IsFitNews, AreEntriesHeard}

-- ---- what moves leave

-- channels by what was handed on
channel_same : (past later : Past) (a : ℕ) → delivered_of later ≡ delivered_of past
    → copy_channel later a ≡ copy_channel past a
channel_same past later a e =
    ap (λ (ds : List Delivered). unwrap_or (newest_of (channel_said a) (items_since (removes a) ds)) None) e

names_same : (past later : Past) → delivered_of later ≡ delivered_of past
    → names_of later ≡ names_of past
names_same past later e =
    ap (λ (ds : List Delivered). fold names_with [] (flat_map names_in (reverse ds))) e

-- all that is kept stands for each later past in which nothing more was heard, if the channels'
-- bunches do
pub keeps_still : (layout : Layout) (version : Version) (old new : Channels)
    (names : List (ℕ × Learnt)) (copies : List ActorCopy) (past later : Past)
    → Keeps layout version old names copies past → KeepsBunches new AtClient later
    → new.bound ≡ old.bound → new.waiting ≡ old.waiting → SameHeard past later
    → waiting_of later ≡ waiting_of past
    → Keeps layout version new names copies later
keeps_still layout version old new names copies past later k bunches bound waits same waiting = record {
  channels = record {
    bunches = bunches;
    bound = λ a. ap (λ (b : Bound). channel_bound b a) bound ∙ k.channels.bound a
        ∙ sym (channel_same past later a same.handed);
    paired = subst IsPaired (sym bound) k.channels.paired;
    waiting = waits ∙ k.channels.waiting ∙ ap (map waiting_call) (sym waiting);
  };
  learnt = subst (StandNames names) (sym (names_same past later same.handed)) k.learnt;
  copied = stands_still layout copies past later same.handed k.copied;
  placed = k.placed;
  holds = holds_still past later same.handed same.received k.holds;
  low = λ a ch on. k.low a ch (sym (channel_same past later a same.handed) ∙ on);
}

-- where acknowledgements were spelled otherwise
pub keeps_other : (layout : Layout) (version : Version) (table : Channels) (names : List (ℕ × Learnt))
    (copies : List ActorCopy) (past later : Past) → SameNews past later
    → Keeps layout version table names copies past
    → Keeps layout version table names copies later
keeps_other layout version table names copies past later n k =
    keeps_still layout version table table names copies past later k
    (keeps_news table AtClient past later n k.channels.bunches) refl refl
    (heard_fates past later n.rest) (news_waiting past later n)

-- a move is heard
pub moved_on : (layout : Layout) (version : Version) (old new : Channels) (names : List (ℕ × Learnt))
    (copies : List ActorCopy) (calls : List Handed) (k : Taking) (payloads : List Delivered)
    (news : List News) (bad : Option Cause) (past final : Past) (from to : ℕ)
    → Hears layout version old names copies calls k payloads past
    → Leads k (Moves from to ∷ news) bad past final
    → ((after : Past) → KeepsBunches old AtClient past → IsMove from to past after
    → KeepsBunches new AtClient after)
    → new.bound ≡ old.bound → new.waiting ≡ old.waiting
    → AreEntriesHeard layout version new names copies calls k news bad final (Ok tt)
moved_on layout version old new names copies calls k payloads news bad past final from to h leads keeps
    bound waits =
    let mid = leads.0 in
    let move = leads.1 in
    let same = heard_fates past mid move.rest in (
      mid,
      payloads,
      record {
        end = h.end;
        keeps = keeps_still layout version old new names copies past mid h.keeps
            (keeps mid h.keeps.channels.bunches move) bound waits same (move_waiting from to past mid move);
        more = same.handed ∙ h.more;
        told = h.told;
      },
      leads.2,
    )

-- ---- bunches

-- what was handed on since the packet came is what its deed has
same_payloads : (k : Taking) (entries : List Entry) (handed payloads : List Delivered) (past : Past)
    → SameNews past (during k entries handed)
    → delivered_of past ≡ payloads ++ delivered_of k.before → payloads ≡ handed
same_payloads k entries handed payloads past n e =
    append_cancel_right payloads handed (delivered_of k.before)
    (sym e ∙ sym (heard_fates past (during k entries handed) n.rest).handed)

-- the end hears the bunch at a moment of the packet
pub hears_at : (layout : Layout) (version : Version) (table : Channels) (names : List (ℕ × Learnt))
    (copies : List ActorCopy) (calls : List Handed) (k : Taking) (payloads handed : List Delivered)
    (entries : List Entry) (past : Past)
    → Hears layout version table names copies calls k payloads past
    → SameNews past (during k entries handed)
    → Hears layout version table names copies calls k handed (during k entries handed)
hears_at layout version table names copies calls k payloads handed entries past h n = record {
  end = h.end;
  keeps = keeps_other layout version table names copies past (during k entries handed) n h.keeps;
  more = refl;
  told = subst (AreHanded layout calls) (same_payloads k entries handed payloads past n h.more) h.told;
}

-- the moment at which a bunch is heard
abbrev pub moment_of : Taking → List Entry → List Delivered → Moment
moment_of k entries handed = record { taking = k; entries = entries; handed = handed }

pub bunch_on : (layout : Layout) (version : Version) (new : Channels) (after : List (ℕ × Learnt))
    (now : List ActorCopy) (more : List Handed) (k : Taking) (news : List News) (bad : Option Cause)
    (past final : Past) (b : Bunch) (leads : Leads k (HearsBunch b ∷ news) bad past final)
    → IsBunchHeard layout version new after now more (moment_of k leads.0 leads.1) b (Ok tt)
    → AreEntriesHeard layout version new after now more k news bad final (Ok tt)
bunch_on layout version new after now more k news bad past final b leads heard = (
  during k (Heard b ∷ leads.0) heard.0,
  heard.0,
  heard.2,
  subst (λ (p : Progress). Onward p.cause (Leads k news bad (with_told (Heard b) p.past) final)
      (λ cause. final ≡ Ended (ByCause cause) ∷ p.past)) heard.1 leads.3,
)

pub bunch_halts : (layout : Layout) (version : Version) (new : Channels) (after : List (ℕ × Learnt))
    (now : List ActorCopy) (more : List Handed) (k : Taking) (news : List News) (bad : Option Cause)
    (past final : Past) (b : Bunch) (halt : Halt) (leads : Leads k (HearsBunch b ∷ news) bad past final)
    → IsBunchHeard layout version new after now more (moment_of k leads.0 leads.1) b (Err halt)
    → AreEntriesHeard layout version new after now more k news bad final (Err halt)
bunch_halts layout version new after now more k news bad past final b (Halt.Broken cause) leads heard = (
  leads.0,
  heard.0,
  subst (λ (p : Progress). Onward p.cause (Leads k news bad (with_told (Heard b) p.past) final)
      (λ cause. final ≡ Ended (ByCause cause) ∷ p.past)) heard.1 leads.3,
  heard.2,
  heard.3,
)
bunch_halts layout version new after now more k news bad past final b Halt.Memory leads heard = tt

-- as the code answers
pub bunch_answer : (layout : Layout) (version : Version) (new : Channels) (after : List (ℕ × Learnt))
    (now : List ActorCopy) (more : List Handed) (k : Taking) (news : List News) (bad : Option Cause)
    (past final : Past) (b : Bunch) (r : Result Unit Halt)
    (leads : Leads k (HearsBunch b ∷ news) bad past final)
    → IsBunchHeard layout version new after now more (moment_of k leads.0 leads.1) b r
    → AreEntriesHeard layout version new after now more k news bad final r
bunch_answer layout version new after now more k news bad past final b (Ok done) leads heard =
    bunch_on layout version new after now more k news bad past final b leads heard
bunch_answer layout version new after now more k news bad past final b (Err halt) leads heard =
    bunch_halts layout version new after now more k news bad past final b halt leads heard

-- ---- entries that are left

-- all that is kept stands for a past from which the entries that are left lead on
pub record Left (layout : Layout) (version : Version) (table : Channels) (names : List (ℕ × Learnt))
    (copies : List ActorCopy) (calls : List Handed) (k : Taking) (bad : Option Cause) (final : Past)
    (left : List EntryValue) : Type 0 where
  pub past : Past
  pub payloads : List Delivered
  pub hears : Hears layout version table names copies calls k payloads past
  pub fits : AllByRecursion (IsFitNews version) (map news_value left)
  pub leads : Leads k (map news_value left) bad past final

pub left_on : (layout : Layout) (version : Version) (old new : Channels)
    (names after : List (ℕ × Learnt)) (copies now : List ActorCopy) (calls more : List Handed)
    (k : Taking) (bad : Option Cause) (final : Past) (entry : EntryValue) (left : List EntryValue)
    → Left layout version old names copies calls k bad final (entry ∷ left)
    → AreEntriesHeard layout version new after now more k (map news_value left) bad final (Ok tt)
    → Left layout version new after now more k bad final left
left_on layout version old new names after copies now calls more k bad final entry left l heard = record {
  past = heard.0;
  payloads = heard.1;
  hears = heard.2;
  fits = l.fits.1;
  leads = heard.3;
}

-- a rule that one of them breaks ends them all
pub left_halts : (layout : Layout) (version : Version) (new : Channels) (after : List (ℕ × Learnt))
    (now : List ActorCopy) (more : List Handed) (k : Taking) (news : List News) (bad : Option Cause)
    (final : Past) (halt : Halt)
    → AreEntriesHeard layout version new after now more k news bad final (Err halt)
    → AreEntriesHeard layout version new after now more k [] bad final (Err halt)
left_halts layout version new after now more k news bad final (Halt.Broken cause) heard = heard
left_halts layout version new after now more k news bad final Halt.Memory heard = tt
