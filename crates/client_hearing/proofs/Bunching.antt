-- A bunch that is heard, by the payloads that it hands on.
use Rattle.std.proofs.Common.{◌≡◌, ℕ, List, ◌∷◌, Option, Some, None, Ok, Err, refl, sym, ap, ◌∙◌, subst}
use Rattle.protocol_model.specs.Limits.{budget_limit}
use Rattle.protocol_model.specs.Packet.{Bunch}
use Rattle.protocol_model.specs.Side.{AtClient}
use Rattle.protocol_model.specs.declared.Cause.{Cause}
use Rattle.protocol_model.specs.declared.Version.{Version}
use Rattle.connection_model.specs.Feed.{End, Past, Heard, Delivered}
use Rattle.connection_model.specs.Verdict.{bunch_heard}
use Rattle.class_layout.specs.Tables.{Layout, table_in}
use Rattle.value_codec.specs.declared.handed.Handed.{Handed}
use Rattle.receiving_laws.specs.Holders.{is_copied_on}
use Rattle.receiving_laws.specs.Receiving.{raws_heard, read_from}
use Rattle.receiving_laws.specs.Readings.{AreRead}
use Rattle.client_laws.proofs.Heard.{heard_at_client, heard_in_turn}
use Rattle.client_laws.proofs.After.{holds_after}
use Rattle.hearing_laws.specs.Courses.{during, heard_then}
use Rattle.incoming_channels.specs.Messages.{AreRaws}
use Rattle.incoming_channels.specs.declared.message.Message.{Message}
use Rattle.netguid_map.specs.declared.names.Learnt.{Learnt}
use Rattle.actor_copies.specs.declared.copy.ActorCopy.{ActorCopy}
use Rattle.actor_copies.proofs.Following.{stands_still}
use Rattle.channel_table.specs.Channels.{Channels}
use Rattle.outgoing_channels.specs.Made.{Made}
use Rattle.channel_table.specs.Holders.{Bound}
use Rattle.channel_table.specs.Keeps.{Keeps as KeepsBunches}
use Rattle.client_hearing.specs.declared.halt.Halt.{Halt}
use Rattle.client_hearing.specs.Keeping.{end_as}
use Rattle.client_hearing.specs.Moments.{Moment, past_at, Reads, AreComing, Hears, IsFit}
use Rattle.client_hearing.specs.Hearing.{with_payloads, AreHeard, IsBunchHeard}

-- between two entries is between two payloads
reads_of : (layout : Layout) (version : Version) (table : Channels) (bound : Bound)
    (names : List (ℕ × Learnt)) (copies : List ActorCopy) (calls : List Handed) (w : Moment)
    → bound ≡ table.bound
    → Hears layout version table names copies calls w.taking w.handed (past_at w)
    → Reads layout version bound names copies calls w
reads_of layout version table bound names copies calls w e h =
    subst (λ (b : Bound). Reads layout version b names copies calls w) (sym e) (record {
      held = h.keeps.channels.bound;
      paired = h.keeps.channels.paired;
      learnt = h.keeps.learnt;
      copied = h.keeps.copied;
      placed = h.keeps.placed;
      agrees = h.keeps.holds.agrees;
      low = h.keeps.low;
      told = h.told;
    })

-- the payloads that a bunch hands on may come in turn
pub bunch_comes : (layout : Layout) (version : Version) (table : Channels) (bound : Bound)
    (names : List (ℕ × Learnt)) (copies : List ActorCopy) (calls : List Handed) (w : Moment)
    (b : Bunch) (messages : List Message) → bound ≡ table.bound
    → Hears layout version table names copies calls w.taking w.handed (past_at w) → IsFit version b
    → AreRaws (raws_heard AtClient (past_at w) b).whole messages
    → AreComing layout version bound names copies calls w b.channel (is_copied_on (past_at w) b.channel)
    (raws_heard AtClient (past_at w) b).whole messages
bunch_comes layout version table bound names copies calls w b messages e h fit raws = record {
  reads = reads_of layout version table bound names copies calls w e h;
  are_raws = raws;
  turns = heard_in_turn w.taking.number w.entries w.handed w.taking.before b h.keeps.holds fit.proper;
  same = refl;
  fits = fit.low;
}

-- what a bunch does is what its payloads do
heard_is : (layout : Layout) (version : Version) (table : Channels) (names : List (ℕ × Learnt))
    (copies : List ActorCopy) (calls : List Handed) (w : Moment) (b : Bunch)
    → Hears layout version table names copies calls w.taking w.handed (past_at w) → IsFit version b
    → heard_then w.taking w.entries w.handed b
    ≡ read_from (end_as layout version) (past_at w) (raws_heard AtClient (past_at w) b).whole
    (raws_heard AtClient (past_at w) b).cause
heard_is layout version table names copies calls w b h fit =
    ap (λ (end : End). bunch_heard end (past_at w) b) h.end
    ∙ heard_at_client version budget_limit (table_in layout) w.taking.number w.entries w.handed
    w.taking.before b h.keeps.holds fit.proper

-- it breaks no rule
pub bunch_ok : (layout : Layout) (version : Version) (old mid new : Channels)
    (names after : List (ℕ × Learnt)) (copies now : List ActorCopy) (calls more : List Handed)
    (w : Moment) (b : Bunch) → Hears layout version old names copies calls w.taking w.handed (past_at w)
    → IsFit version b → (raws_heard AtClient (past_at w) b).cause ≡ None
    → AreHeard layout version new.bound after now more w b.channel
    (raws_heard AtClient (past_at w) b).whole (Ok tt)
    → mid.waiting ≡ old.waiting → new ≡ record mid { bound = new.bound }
    → ((payloads : List Delivered)
    → AreRead (raws_heard AtClient (past_at w) b).whole w.handed payloads
    → KeepsBunches mid AtClient (during w.taking (Heard b ∷ w.entries) payloads))
    → IsBunchHeard layout version new after now more w b (Ok tt)
bunch_ok layout version old mid new names after copies now calls more w b h fit none all waits rest keeps = (
  payloads,
  heard_is layout version old names copies calls w b h fit
      ∙ ap (λ (c : Option Cause). read_from (end_as layout version) (past_at w)
      (raws_heard AtClient (past_at w) b).whole c) none
      ∙ all.1 None,
  record {
    end = h.end;
    keeps = record {
      channels = record {
        bunches = subst (λ (t : Channels). KeepsBunches t AtClient later) (sym rest)
            (bare mid new.bound later (keeps payloads all.3));
        bound = all.2.held;
        paired = all.2.paired;
        waiting = ap (λ (t : Channels). t.waiting) rest ∙ waits ∙ h.keeps.channels.waiting;
      };
      learnt = all.2.learnt;
      copied = stands_still layout now (past_at (with_payloads payloads w)) later refl all.2.copied;
      placed = all.2.placed;
      holds = holds_after w.taking.number w.entries w.handed payloads w.taking.before b h.keeps.holds
          fit.proper none all.4;
      low = all.2.low;
    };
    more = refl;
    told = all.2.told;
  },
)
  where
    payloads : List Delivered
    payloads = all.0

    later : Past
    later = during w.taking (Heard b ∷ w.entries) payloads

    bare : (t : Channels) (bound : Bound) (past : Past) → KeepsBunches t AtClient past
        → KeepsBunches (record t { bound = bound }) AtClient past
    bare t bound past k = record { made = k.made; got = k.got; high = k.high }

-- it breaks one after its payloads
pub bunch_ends : (layout : Layout) (version : Version) (old new : Channels)
    (names after : List (ℕ × Learnt)) (copies now : List ActorCopy) (calls more : List Handed)
    (w : Moment) (b : Bunch) (cause : Cause)
    → Hears layout version old names copies calls w.taking w.handed (past_at w) → IsFit version b
    → (raws_heard AtClient (past_at w) b).cause ≡ Some cause
    → AreHeard layout version new.bound after now more w b.channel
    (raws_heard AtClient (past_at w) b).whole (Ok tt)
    → IsBunchHeard layout version new after now more w b (Err (Halt.Broken cause))
bunch_ends layout version old new names after copies now calls more w b cause h fit some all = (
  all.0,
  heard_is layout version old names copies calls w b h fit
      ∙ ap (λ (c : Option Cause). read_from (end_as layout version) (past_at w)
      (raws_heard AtClient (past_at w) b).whole c) some
      ∙ all.1 (Some cause),
  all.2.copied,
  all.2.told,
)

-- one of its payloads breaks one
pub bunch_stops : (layout : Layout) (version : Version) (old new : Channels)
    (names after : List (ℕ × Learnt)) (copies now : List ActorCopy) (calls more : List Handed)
    (w : Moment) (b : Bunch) (halt : Halt)
    → Hears layout version old names copies calls w.taking w.handed (past_at w) → IsFit version b
    → AreHeard layout version new.bound after now more w b.channel
    (raws_heard AtClient (past_at w) b).whole (Err halt)
    → IsBunchHeard layout version new after now more w b (Err halt)
bunch_stops layout version old new names after copies now calls more w b (Halt.Broken cause) h fit all = (
  all.0,
  heard_is layout version old names copies calls w b h fit
      ∙ all.1 (raws_heard AtClient (past_at w) b).cause,
  all.2,
  all.3,
)
bunch_stops layout version old new names after copies now calls more w b Halt.Memory h fit all = tt

-- no bunch is made
pub count_stays : (old mid new : Channels) → mid.made ≡ old.made → new ≡ record mid { bound = new.bound }
    → new.made.count ≡ old.made.count
count_stays old mid new e f =
    ap (λ (t : Channels). t.made.count) f ∙ ap (λ (m : Made). m.count) e
