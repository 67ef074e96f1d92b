-- An open that was read may begin its copy.
use Rattle.std.proofs.Common.{◌≡◌, ℕ, ◌==◌, ◌<◌, ◌≤◌, List, Bool, true, false, Option, Some, None, Result, Ok, Err, refl, sym, ap, ◌∙◌, subst, arith}
use Rattle.std.specs.Prelude.{IsErrAnd}
use Rattle.std.proofs.lemmas.Bool.{eqb-true}
use Rattle.std.proofs.lemmas.Bool.Decides.{nat_tests}
use Rattle.protocol_model.specs.Limits.{channels_two}
use Rattle.protocol_model.specs.Packet.{Bunch, channel_limit}
use Rattle.protocol_model.specs.declared.Version.{Version}
use Rattle.protocol_model.specs.declared.Version.TheVariants.{One, Two}
use Rattle.connection_model.specs.Feed.{Past}
use Rattle.connection_model.specs.Names.{names_of}
use Rattle.class_layout.specs.Tables.{Layout}
use Rattle.value_codec.specs.declared.handed.Handed.{Handed}
use Rattle.receiving_laws.specs.Receiving.{Raw}
use Rattle.client_laws.specs.Holding.{MayCome}
use Rattle.incoming_channels.specs.Messages.{IsRaw}
use Rattle.incoming_channels.specs.declared.message.Message.{Message}
use Rattle.netguid_map.specs.declared.names.Learnt.{Learnt}
use Rattle.netguid_map.specs.Names.{Stands as StandNames}
use Rattle.actor_copies.specs.declared.copy.ActorCopy.{ActorCopy}
use Rattle.actor_copies.specs.declared.copy.ReadOpen.{ReadOpen}
use Rattle.actor_copies.specs.Kept.{kept_on}
use Rattle.actor_copies.specs.Stands.{Stands as StandCopies}
use Rattle.channel_table.specs.Channels.{Channels}
use Rattle.channel_table.specs.Holders.{Bound, channel_bound, actor_bound}
use Rattle.client_hearing.specs.declared.halt.Halt.{Halt}
use Rattle.client_hearing.specs.Moments.{Moment, past_at, AreHanded, IsComing}
use Rattle.client_hearing.specs.Hearing.{IsOpenHeard, IsUnopenedHeard, IsHeard, result_of}
use Rattle.client_hearing.proofs.Leaving.{open_is_free, actor_is_free, channel_is_free, open_is_here}

-- channel 0 has no opens
pub off_control : (ch : ℕ) (held : Bool) (first : Bunch) → MayCome ch held first → first.opens ≡ true
    → (first.channel == 0) ≡ false
off_control ch held first may o = by (first.channel == 0) refl
  where
    by : (b : Bool) → (first.channel == 0) ≡ b → b ≡ false
    by false e = refl
    by true e = let clash : true ≡ false = sym o ∙ (may.sound.control e).0 in absurd (cc)

low_two : (version : Version) (n : ℕ) → n < channel_limit version → n < channels_two
low_two One n h = omega (arith, h)
low_two Two n h = h

not_zero : (n : ℕ) → (n == 0) ≡ false → 1 ≤ n
not_zero n h = grind (arith, nat_tests)

-- the copy may begin: its channel and its actor are free
pub record MayBegin (bound : Bound) (copies : List ActorCopy) (ch actor : ℕ) : Type 0 where
  pub index : 1 ≤ ch
  pub most : ch < channels_two
  pub free : actor_bound bound ch ≡ None
  pub unbound : channel_bound bound actor ≡ None
  pub empty : kept_on copies ch ≡ None

pub may_begin : (layout : Layout) (version : Version) (bound : Bound) (names after : List (ℕ × Learnt))
    (copies : List ActorCopy) (calls : List Handed) (w : Moment) (m : Message) (raw : Raw) (held : Bool)
    (o : ReadOpen) → IsComing layout version bound names copies calls w m raw held
    → raw.0.opens ≡ true → IsOpenHeard layout version (past_at w) raw after (Ok o)
    → MayBegin bound copies m.channel o.actor
may_begin layout version bound names after copies calls w m raw held o h opens heard =
    let free = open_is_free layout version bound names copies calls w m raw held h opens in
    record {
      index = not_zero m.channel
          (ap (λ (n : ℕ). n == 0) (sym h.may.channel) ∙ off_control m.channel held raw.0 h.may opens);
      most = low_two version m.channel h.fits;
      free = channel_is_free (past_at w) bound m.channel h.reads.agrees h.reads.paired h.reads.held free.0;
      unbound = h.reads.held o.actor
          ∙ actor_is_free (past_at w) m.channel o.actor h.reads.agrees free.0
          (open_is_here layout version bound names copies calls w m raw held heard.0 o h heard.1);
      empty = free.1;
    }

-- ---- as the code answers

-- an open that isn't read breaks a rule
pub open_halts : (layout : Layout) (version : Version) (bound after_bound : Bound)
    (names after : List (ℕ × Learnt)) (copies : List ActorCopy) (calls : List Handed) (w : Moment)
    (m : Message) (raw : Raw) (held : Bool) (halt : Halt)
    → IsComing layout version bound names copies calls w m raw held
    → IsOpenHeard layout version (past_at w) raw after (Err halt)
    → IsHeard layout version after_bound after copies calls w raw (Err halt)
open_halts layout version bound after_bound names after copies calls w m raw held (Halt.Broken cause) h heard =
    (heard, h.reads.copied, h.reads.told)
open_halts layout version bound after_bound names after copies calls w m raw held Halt.Memory h heard = tt

pub unopened_halts : (layout : Layout) (version : Version) (bound : Bound) (names : List (ℕ × Learnt))
    (copies : List ActorCopy) (calls : List Handed) (w : Moment) (m : Message) (raw : Raw)
    (held : Bool) (halt : Halt) → IsComing layout version bound names copies calls w m raw held
    → IsUnopenedHeard layout version copies (past_at w) raw m.channel m.sleeps (Err halt)
    → IsHeard layout version bound names copies calls w raw (Err halt)
unopened_halts layout version bound names copies calls w m raw held (Halt.Broken cause) h heard =
    (heard, h.reads.copied, h.reads.told)
unopened_halts layout version bound names copies calls w m raw held Halt.Memory h heard = tt

-- a table that stays as it was
pub same_table : (old new : Channels) → new ≡ old → new ≡ record old { bound = new.bound }
same_table old new e = subst (λ (t : Channels). t ≡ record old { bound = t.bound }) (sym e) refl

-- what is read of the open that comes
pub open_told : (layout : Layout) (version : Version) (bound : Bound) (names after : List (ℕ × Learnt))
    (copies : List ActorCopy) (calls : List Handed) (w : Moment) (m : Message) (raw : Raw) (held : Bool)
    (r : Result ReadOpen Halt)
    → ((version : Version) (past : Past) (raw : Raw)
    → StandNames names (names_of past) → StandCopies layout copies past → IsRaw raw m
    → (raw.0.channel == 0) ≡ false → raw.0.closes ≡ false → raw.0.opens ≡ true
    → IsOpenHeard layout version past raw after r)
    → IsComing layout version bound names copies calls w m raw held → raw.0.opens ≡ true
    → IsOpenHeard layout version (past_at w) raw after r
open_told layout version bound names after copies calls w m raw held r says h opens =
    says version (past_at w) raw h.reads.learnt h.reads.copied h.is_raw
    (off_control m.channel held raw.0 h.may opens) (h.may.sound.one opens) opens
