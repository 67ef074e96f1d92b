-- What the channels keep follows from the whole past.
use Rattle.std.proofs.Common.{◌≡◌, inl, inr, ℕ, ◌+◌, ◌==◌, ◌&&◌, List, [], ◌∷◌, ◌++◌, Bool, true, false, Option, Some, None, unwrap_or, if◌then◌else◌, cond, refl, sym, ap, ◌∙◌, subst, arith}
use Rattle.std.specs.List.{AllByRecursion}
use Rattle.std.specs.Bool.{then_some}
use Rattle.std.proofs.lemmas.Bool.{cases_eq, eq-eqb, ne_eqb}
use Rattle.protocol_model.specs.Side.{Side}
use Rattle.protocol_model.specs.Packet.{Bunch}
use Rattle.protocol_model.specs.Payload.{Message, Opens, Closes, Updates, Calls, Gone}
use Rattle.protocol_model.specs.Search.{newest_of}
use Rattle.protocol_model.specs.declared.Cause.TheVariants.{BadChannel}
use Rattle.connection_model.specs.Feed.{Past, Took, Entry, Heard, Delivered}
use Rattle.connection_model.specs.Fates.{entries_of}
use Rattle.connection_model.specs.Bunches.{is_opening, is_closing}
use Rattle.connection_model.specs.Copies.{delivered_of}
use Rattle.connection_model.specs.Windows.{Received, number_as, Offer, Repeat, Ready, Held, offer_of, with_bunch, received_on, applied_of, kept_of, held_on, held_count}
use Rattle.connection_model.specs.Verdict.{is_misplaced}
use Rattle.connection_laws.proofs.Searches.{newest_hit, newest_miss}
use Rattle.connection_laws.proofs.Applied.{received_are_on, IsOn as IsOnLaw}
use Rattle.incoming_channels.specs.Channels.{Incoming, Got, in_at}
use Rattle.incoming_channels.specs.Keeps.{KeepsBunches, KeepsIn, KeepsGot}
use Rattle.receiving_laws.specs.Holders.{holder_said, is_copied_on}
use Rattle.receiving_laws.specs.Receiving.{Raw, Raws, raws_of, raws_heard, reliable_raws, copied_after}
use Rattle.receiving_laws.specs.Readings.{AreRead}
use Rattle.incoming_channels.specs.Steps.{AreReceivedOn, AreRawsOn, held_of, offered_raws, raws_on, with_heard, Before, After}
use Rattle.receiving_laws.specs.Receiving.{copied_through}
use Rattle.incoming_channels.proofs.Counting.{received_distinct, count_moves, count_least}

-- ---- the payloads of a bunch

offered_is : (side : Side) (past : Past) (b : Bunch) (o : Offer)
    → reliable_raws side past b (received_on past b.channel) o
    ≡ offered_raws side (is_copied_on past b.channel) (held_count past) (received_on past b.channel) b o
offered_is side past b Repeat = refl
offered_is side past b Ready = refl
offered_is side past b (Held n) = refl

-- those of a bunch in its place
pub heard_is : (side : Side) (past : Past) (b : Bunch) → is_misplaced side b ≡ false
    → raws_heard side past b ≡ raws_on side (is_copied_on past b.channel) (held_count past)
    (received_on past b.channel) b
heard_is side past b e =
    ap (λ (t : Bool). let r : Raws = if t then record { whole = []; cause = Some (BadChannel b.channel) } else
    if b.reliable then reliable_raws side past b (received_on past b.channel)
    (offer_of (received_on past b.channel) (number_as (received_on past b.channel) b)) else raws_of side
    (is_copied_on past b.channel) (kept_of (applied_of (received_on past b.channel))) (b ∷ []) in r) e
    ∙ by _ b.reliable (offered_is side past b
    (offer_of (received_on past b.channel) (number_as (received_on past b.channel) b)))
  where
    by : {x y : Raws} (z : Raws) (t : Bool) → x ≡ y → ◌≡◌ {A = Raws} (if t then x else z) (if t then y else z)
    by z true h = h
    by z false h = refl

pub misplaced_is : (side : Side) (past : Past) (b : Bunch) → is_misplaced side b ≡ true
    → raws_heard side past b ≡ record { whole = []; cause = Some (BadChannel b.channel) }
misplaced_is side past b e =
    ap (λ (t : Bool). let r : Raws = if t then record { whole = []; cause = Some (BadChannel b.channel) } else
    if b.reliable then reliable_raws side past b (received_on past b.channel)
    (offer_of (received_on past b.channel) (number_as (received_on past b.channel) b)) else raws_of side
    (is_copied_on past b.channel) (kept_of (applied_of (received_on past b.channel))) (b ∷ []) in r) e

-- ---- before the bunch

-- a law's words for what is on a channel
on_as : (ch : ℕ) (got : List Received) → AllByRecursion (λ (r : Received). IsOnLaw ch r.1) got
    → AreReceivedOn ch got
on_as ch [] h = tt
on_as ch (r ∷ got) h = (record { channel = h.0.channel; reliable = h.0.reliable }, on_as ch got h.1)

pub before_is : (side : Side) (past : Past) (g : Got) (b : Bunch) → KeepsGot g side past
    → Before side g.server (received_on past b.channel) g.held b (in_at g.incoming b.channel)
before_is side past g b h = record {
  end = h.server;
  bunches = (h.received b.channel).bunches;
  on = on_as b.channel (received_on past b.channel) (received_are_on past b.channel);
  distinct = received_distinct (entries_of past) b.channel;
  among = omega (arith, h.held, count_least past b.channel);
  few = h.few_held;
}

-- by what is kept
pub heard_raws : (side : Side) (past : Past) (g : Got) (b : Bunch) → KeepsGot g side past
    → is_misplaced side b ≡ false
    → raws_heard side past b ≡ raws_on side (in_at g.incoming b.channel).parts.copied g.held
    (received_on past b.channel) b
heard_raws side past g b h e =
    heard_is side past b e
    ∙ ap (λ (k : Bool). raws_on side k (held_count past) (received_on past b.channel) b)
    (sym (h.received b.channel).copied)
    ∙ ap (λ (n : ℕ). raws_on side (in_at g.incoming b.channel).parts.copied n (received_on past b.channel) b)
    (sym h.held)

-- ---- who holds a channel

-- a payload of another channel says nothing
said_elsewhere : (ch : ℕ) (d : Delivered) → (d.channel ≡ ch → ⊥) → holder_said ch d ≡ None
said_elsewhere ch d ne = by d.message (ne_eqb d.channel ch ne)
  where
    by : (m : Message) → (d.channel == ch) ≡ false → holder_said ch (record d { message = m }) ≡ None
    by (Opens exports actor class values) e = ap (λ (t : Bool). then_some t true) e
    by (Closes actor sleeps) e = ap (λ (t : Bool). then_some t false) e
    by (Updates actor class values) e = refl
    by (Calls actor number call args) e = refl
    by (Gone actor) e = refl

-- what it says of its own
said_here : (ch : ℕ) (d : Delivered) (b : Bunch) (rest : List Delivered) → d.channel ≡ ch
    → is_opening d.message ≡ b.opens → is_closing d.message ≡ b.closes
    → unwrap_or (newest_of (holder_said ch) (d ∷ rest)) false ≡ copied_after
    (unwrap_or (newest_of (holder_said ch) rest) false) b
said_here ch d b rest at opens closes = by d.message (eq-eqb d.channel ch at) opens closes
  where
    after : Bool → Bool → Bool
    after o k = if o then true else if k then false else unwrap_or (newest_of (holder_said ch) rest) false

    found : (m : Message) (o k : Bool)
        → unwrap_or (newest_of (holder_said ch) (record d { message = m } ∷ rest)) false ≡
        (if o then true else if k then false else unwrap_or (newest_of (holder_said ch) rest) false)
        → o ≡ b.opens → k ≡ b.closes
        → unwrap_or (newest_of (holder_said ch) (record d { message = m } ∷ rest)) false ≡ copied_after
        (unwrap_or (newest_of (holder_said ch) rest) false) b
    found m o k h p q =
        h ∙ ap (λ (t : Bool). let r : Bool = if t then true else if k then false else unwrap_or
        (newest_of (holder_said ch) rest) false in r) p
        ∙ ap (λ (t : Bool). let r : Bool = if b.opens then true else if t then false else unwrap_or
        (newest_of (holder_said ch) rest) false in r) q

    hit : (m : Message) (v : Bool) → holder_said ch (record d { message = m }) ≡ Some v
        → unwrap_or (newest_of (holder_said ch) (record d { message = m } ∷ rest)) false ≡ v
    hit m v e =
        ap (λ (o : Option Bool). unwrap_or o false)
        (newest_hit (holder_said ch) (record d { message = m }) rest v e)

    miss : (m : Message) → holder_said ch (record d { message = m }) ≡ None
        → unwrap_or (newest_of (holder_said ch) (record d { message = m } ∷ rest)) false ≡ unwrap_or
        (newest_of (holder_said ch) rest) false
    miss m e =
        ap (λ (o : Option Bool). unwrap_or o false)
        (newest_miss (holder_said ch) (record d { message = m }) rest e)

    by : (m : Message) → (d.channel == ch) ≡ true → is_opening m ≡ b.opens → is_closing m ≡ b.closes
        → unwrap_or (newest_of (holder_said ch) (record d { message = m } ∷ rest)) false ≡ copied_after
        (unwrap_or (newest_of (holder_said ch) rest) false) b
    by (Opens exports actor class values) e p q =
        found (Opens exports actor class values) true false
        (hit (Opens exports actor class values) true (ap (λ (t : Bool). then_some t true) e)) p q
    by (Closes actor sleeps) e p q =
        found (Closes actor sleeps) false true
        (hit (Closes actor sleeps) false (ap (λ (t : Bool). then_some t false) e)) p q
    by (Updates actor class values) e p q =
        found (Updates actor class values) false false (miss (Updates actor class values) refl) p q
    by (Calls actor number call args) e p q =
        found (Calls actor number call args) false false (miss (Calls actor number call args) refl) p q
    by (Gone actor) e p q = found (Gone actor) false false (miss (Gone actor) refl) p q

-- the payloads of a bunch, on its channel
copied_here : (ch : ℕ) (raws : List Raw) (before after rest : List Delivered) → AreRawsOn ch raws
    → AreRead raws before after
    → unwrap_or (newest_of (holder_said ch) (after ++ rest)) false ≡ copied_through
    (unwrap_or (newest_of (holder_said ch) (before ++ rest)) false) raws
copied_here ch [] before after rest on read =
    ap (λ (l : List Delivered). unwrap_or (newest_of (holder_said ch) (l ++ rest)) false) read
copied_here ch (raw ∷ raws) before after rest on read =
    copied_here ch raws (read.0 ∷ before) after rest on.1 read.2
    ∙ ap (λ (t : Bool). copied_through t raws)
    (said_here ch read.0 raw.0 (before ++ rest) (read.1.channel ∙ on.0) read.1.opens read.1.closes)

-- and on another
copied_there : (ch c : ℕ) (raws : List Raw) (before after rest : List Delivered) → (ch ≡ c → ⊥)
    → AreRawsOn ch raws → AreRead raws before after
    → newest_of (holder_said c) (after ++ rest) ≡ newest_of (holder_said c) (before ++ rest)
copied_there ch c [] before after rest ne on read =
    ap (λ (l : List Delivered). newest_of (holder_said c) (l ++ rest)) read
copied_there ch c (raw ∷ raws) before after rest ne on read =
    copied_there ch c raws (read.0 ∷ before) after rest ne on.1 read.2
    ∙ newest_miss (holder_said c) read.0 (before ++ rest)
    (said_elsewhere c read.0 (λ e. ne (sym on.0 ∙ sym read.1.channel ∙ e)))

-- ---- after the bunch

module _ (side : Side) (past : Past) (m : ℕ) (entries : List Entry) (handed after : List Delivered)
    (b : Bunch) where
  abbrev now : Past
  now = Took m entries handed ∷ past

  abbrev later : Past
  later = Took m (Heard b ∷ entries) after ∷ past

  -- what was received on its channel
  received_here : received_on later b.channel ≡ with_heard (received_on now b.channel) b
  received_here = by b.reliable (eq-eqb b.channel b.channel refl)
    where
      by : (r : Bool) → (b.channel == b.channel) ≡ true
          → cond (r && b.channel == b.channel) (with_bunch (received_on now b.channel) b)
          (received_on now b.channel)
          ≡ cond r (with_bunch (received_on now b.channel) b) (received_on now b.channel)
      by true e =
          ap (λ (t : Bool). cond t (with_bunch (received_on now b.channel) b) (received_on now b.channel)) e
      by false e = refl

  -- and on another
  received_there : (c : ℕ) → (b.channel ≡ c → ⊥) → received_on later c ≡ received_on now c
  received_there c ne = by b.reliable (ne_eqb b.channel c ne)
    where
      by : (r : Bool) → (b.channel == c) ≡ false
          → cond (r && b.channel == c) (with_bunch (received_on now c) b) (received_on now c) ≡ received_on
          now c
      by true e = ap (λ (t : Bool). cond t (with_bunch (received_on now c) b) (received_on now c)) e
      by false e = refl

  -- the channels are right about it
  pub keeps_after : (g : Got) (incoming : List Incoming) (held : ℕ) → KeepsGot g side now
      → After side (received_on now b.channel) g.held b (in_at g.incoming b.channel)
      (in_at incoming b.channel) held
      → ((c : ℕ) → (c ≡ b.channel → ⊥) → in_at incoming c ≡ in_at g.incoming c)
      → AreRead
      (raws_on side (in_at g.incoming b.channel).parts.copied g.held (received_on now b.channel) b).whole
      handed after
      → KeepsGot (record g { incoming = incoming; held = held }) side later
  keeps_after g incoming held h a others read = record {
    server = h.server;
    received = λ c. elim (cases_eq b.channel c) [
      | inl e ↦ subst (λ (n : ℕ). KeepsIn later n (in_at incoming n)) e here
      | inr ne ↦ subst (KeepsIn later c) (sym (others c (λ e. ne (sym e)))) (there c ne)
    ];
    held = count;
    few_held = a.few;
    kept = h.kept;
  }
    where
      here : KeepsIn later b.channel (in_at incoming b.channel)
      here = record {
        bunches =
            subst (λ (l : List Received). KeepsBunches l (in_at incoming b.channel)) (sym received_here)
            a.bunches;
        copied =
            a.copied ∙ ap (λ (t : Bool). copied_through t (raws_on side
            (in_at g.incoming b.channel).parts.copied g.held (received_on now b.channel) b).whole)
            (h.received b.channel).copied
            ∙ sym (copied_here b.channel (raws_on side (in_at g.incoming b.channel).parts.copied g.held
            (received_on now b.channel) b).whole handed after (delivered_of past) a.begun read);
      }

      there : (c : ℕ) → (b.channel ≡ c → ⊥) → KeepsIn later c (in_at g.incoming c)
      there c ne = record {
        bunches =
            subst (λ (l : List Received). KeepsBunches l (in_at g.incoming c)) (sym (received_there c ne))
            (h.received c).bunches;
        copied = (h.received c).copied ∙ ap (λ (o : Option Bool). unwrap_or o false)
            (sym (copied_there b.channel c (raws_on side (in_at g.incoming b.channel).parts.copied g.held
            (received_on now b.channel) b).whole handed after (delivered_of past) ne a.begun read));
      }

      moved : held_on later b.channel + g.held ≡ held_on now b.channel + held
      moved = omega (arith, a.count, ap held_of received_here)

      count : held ≡ held_count later
      count = omega (
        arith,
        h.held,
        count_moves now later b.channel g.held held refl moved (λ c ne. ap held_of (received_there c ne)),
      )
