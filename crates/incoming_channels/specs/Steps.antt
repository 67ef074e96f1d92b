-- What a bunch in its turn makes of the parts under way, and a run of them of the payloads.
use Rattle.std.specs.Prelude.{◌≡◌, ℕ, ◌+◌, ◌-◌, ◌≤◌, List, [], ◌∷◌, length, Bool, true, false, Option, Some, None, filter, nat_lt, nat_le, if◌then◌else◌, pos}
use Rattle.std.specs.List.{AllByRecursion}
use Rattle.std.specs.Bool.{then_some}
use Rattle.protocol_model.specs.Limits.{held_limit}
use Rattle.protocol_model.specs.Side.{Side}
use Rattle.protocol_model.specs.Packet.{Bunch}
use Rattle.protocol_model.specs.declared.Cause.{Cause}
use Rattle.protocol_model.specs.declared.Cause.TheVariants.{Overrun}
use Rattle.protocol_model.specs.Search.{is_among}
use Rattle.connection_model.specs.Windows.{Received, numbers_of, next_of, number_as, Offer, Repeat, Ready, Held, offer_of, with_bunch, run_of, applied_of, ready_bunches, kept_of, ends_payload}
use Rattle.reliable_window.specs.In.{Window, Stands}
use Rattle.incoming_channels.specs.Channels.{Parts, Incoming}
use Rattle.incoming_channels.specs.Keeps.{Joining, KeepsBunches, is_server}
use Rattle.receiving_laws.specs.Receiving.{Raw, Raws, with_raw, raws_of, copied_after, copied_through}
use Rattle.incoming_channels.specs.Messages.{IsRaw, AreRaws}
use Rattle.incoming_channels.specs.declared.message.Message.{Message as MessageValue}
use Rattle.incoming_channels.specs.declared.parts.Step.{Step}
use Rattle.incoming_channels.specs.declared.parts.Step.TheVariants as step
use Rattle.incoming_channels.specs.declared.slot.Heard.{Heard}

-- ---- what is on a channel

-- the bunch is a reliable one of the channel
pub record IsOn (ch : ℕ) (b : Bunch) : Type 0 where
  pub channel : b.channel ≡ ch
  pub reliable : b.reliable ≡ true

-- so are these
abbrev pub AreOn : (channel : ℕ) → List Bunch → Type 0
AreOn ch kept = AllByRecursion (IsOn ch) kept

-- so is all that was received
abbrev pub AreReceivedOn : (channel : ℕ) → List Received → Type 0
AreReceivedOn ch got = AllByRecursion (λ (r : Received). IsOn ch r.1) got

-- each of the payloads began on the channel
abbrev pub AreRawsOn : (channel : ℕ) → List Raw → Type 0
AreRawsOn ch raws = AllByRecursion (λ (raw : Raw). raw.0.channel ≡ ch) raws

-- no number was received twice
abbrev pub AreDistinct : List ℕ → Type 0
AreDistinct [] = Unit {0}
AreDistinct (n ∷ ns) = (is_among n ns ≡ false) × AreDistinct ns

-- how many are held past a gap
abbrev pub held_of : List Received → ℕ
held_of got = length (filter (λ (r : Received). nat_lt (next_of got) r.0) got)

-- ---- one bunch

-- these payloads before the others
abbrev pub with_raws : List Raw → Raws → Raws
with_raws [] raws = raws
with_raws (raw ∷ more) raws = with_raw raw (with_raws more raws)

-- a reliable bunch breaks a rule, is a part of a payload or the end of one, where others come after it
abbrev pub IsStep : Side → (kept : List Bunch) → Bunch → (more : List Bunch) → (old new : Parts) → Step
    → Type 0
IsStep side kept b more old new (step.Broken cause) =
    raws_of side old.copied kept (b ∷ more) ≡ record { whole = []; cause = Some cause }
IsStep side kept b more old new step.More =
    (raws_of side old.copied kept (b ∷ more) ≡ raws_of side new.copied (b ∷ kept) more)
    × Joining new (b ∷ kept) × (new.copied ≡ old.copied) × (ends_payload b ≡ false)
IsStep side kept b more old new (step.Whole m) =
    (raw : Raw) × IsRaw raw m × (raw.0.channel ≡ b.channel)
    × (raws_of side old.copied kept (b ∷ more) ≡ with_raw raw (raws_of side new.copied [] more))
    × Joining new [] × (new.copied ≡ copied_after old.copied raw.0) × (ends_payload b ≡ true)

-- an unreliable one does so by itself, and leaves the parts alone
abbrev pub IsLooseStep : Side → (kept : List Bunch) → Bunch → (old new : Parts) → Step → Type 0
IsLooseStep side kept b old new (step.Broken cause) =
    raws_of side old.copied kept (b ∷ []) ≡ record { whole = []; cause = Some cause }
IsLooseStep side kept b old new step.More =
    (raws_of side old.copied kept (b ∷ []) ≡ record { whole = []; cause = None })
    × Joining new kept × (new.copied ≡ old.copied)
IsLooseStep side kept b old new (step.Whole m) =
    (raw : Raw) × IsRaw raw m × (raw.0.channel ≡ b.channel)
    × (raws_of side old.copied kept (b ∷ []) ≡ record { whole = raw ∷ []; cause = None })
    × Joining new kept × (new.copied ≡ copied_after old.copied raw.0)

-- ---- a run of bunches

-- the parts kept after a run
abbrev pub kept_through : (kept : List Bunch) → List Bunch → List Bunch
kept_through kept [] = kept
kept_through kept (b ∷ run) =
    if ends_payload b then kept_through [] run else kept_through (b ∷ kept) run

-- what is settled of a run before it begins: its payloads, the parts kept after it, and the channel
pub record Course : Type 0 where
  pub side : Side
  pub channel : ℕ
  pub copied : Bool
  pub all : Raws
  pub last : List Bunch

-- in the middle of a run: these bunches are left of it
pub record Goes (c : Course) (rest : List Bunch) (p : Parts) (whole : List MessageValue) : Type 0 where
  pub kept : List Bunch
  pub done : List Raw
  pub joins : Joining p kept
  pub on : AreOn c.channel kept
  pub told : AreRaws done whole
  pub begun : AreRawsOn c.channel done
  pub copied : p.copied ≡ copied_through c.copied done
  pub left : c.all ≡ with_raws done (raws_of c.side p.copied kept rest)
  pub last : c.last ≡ kept_through kept rest

-- after one bunch of it
abbrev pub GoesOn : Course → (rest : List Bunch) → Parts → List MessageValue → Option Cause → Type 0
GoesOn c rest p whole None = Goes c rest p whole
GoesOn c rest p whole (Some cause) = AreRaws c.all.whole whole × (c.all.cause ≡ Some cause)

-- the bunches from this number up to the next
abbrev pub run_left : List Received → (from : ℕ) → List Bunch
run_left got from = run_of got from (next_of got - from)

-- at its end
pub record Ended (c : Course) (p : Parts) : Type 0 where
  pub joins : Joining p c.last
  pub begun : AreRawsOn c.channel c.all.whole
  pub copied : p.copied ≡ copied_through c.copied c.all.whole

-- after all of it, or the bunch of it that broke a rule
abbrev pub Ends : Course → List Received → Window Bunch → Parts → List MessageValue → Option Cause → Type 0
Ends c got w p whole None = AreRaws c.all.whole whole × (c.all.cause ≡ None) × Stands w got × Ended c p
Ends c got w p whole (Some cause) = AreRaws c.all.whole whole × (c.all.cause ≡ Some cause)

-- ---- a bunch that is heard on its channel

-- the payloads that it hands on, where so many are held on all channels
abbrev pub offered_raws : Side → (copied : Bool) → (held : ℕ) → List Received → Bunch → Offer → Raws
offered_raws side copied held got b Repeat = record { whole = []; cause = None }
offered_raws side copied held got b (Held n) =
    record { whole = []; cause = then_some (nat_le held_limit held) (Overrun b.channel) }
offered_raws side copied held got b Ready =
    raws_of side copied (kept_of (applied_of got)) (ready_bunches got b)

abbrev pub raws_on : Side → (copied : Bool) → (held : ℕ) → List Received → Bunch → Raws
raws_on side copied held got b =
    if b.reliable then offered_raws side copied held got b (offer_of got (number_as got b))
    else raws_of side copied (kept_of (applied_of got)) (b ∷ [])

-- what was received with it
abbrev pub with_heard : List Received → Bunch → List Received
with_heard got b = if b.reliable then with_bunch got b else got

-- its number is the next
abbrev pub IsPlacedNext : List Received → Bunch → Type 0
IsPlacedNext got b = number_as got b ≡ pos (next_of got)

-- what was received before it, and the premises
pub record Before (side : Side) (server : Bool) (got : List Received) (held : ℕ) (b : Bunch) (i : Incoming) :
    Type 0 where
  pub end : server ≡ is_server side
  pub bunches : KeepsBunches got i
  pub on : AreReceivedOn b.channel got
  pub distinct : AreDistinct (numbers_of got)
  pub among : held_of got ≤ held
  pub few : held ≤ held_limit

-- after a bunch that broke no rule
pub record After (side : Side) (got : List Received) (held : ℕ) (b : Bunch) (old new : Incoming) (now : ℕ) :
    Type 0 where
  pub bunches : KeepsBunches (with_heard got b) new
  pub copied : new.parts.copied ≡ copied_through old.parts.copied
      (raws_on side old.parts.copied held got b).whole
  pub begun : AreRawsOn b.channel (raws_on side old.parts.copied held got b).whole
  pub count : now + held_of got ≡ held + held_of (with_heard got b)
  pub few : now ≤ held_limit

-- what came of it
pub record IsHeard (side : Side) (got : List Received) (held : ℕ) (b : Bunch) (old new : Incoming)
    (heard : Heard) : Type 0 where
  pub told : AreRaws (raws_on side old.parts.copied held got b).whole heard.whole
  pub cause : (raws_on side old.parts.copied held got b).cause ≡ heard.cause
  pub after : heard.cause ≡ None → After side got held b old new heard.held
