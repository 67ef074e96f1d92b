-- What the close that is called for of an actor leaves of all others.
use Rattle.std.proofs.Common.{◌≡◌, ◌≢◌, ◌∙◌, ℕ, ◌+◌, ◌<◌, ◌≤◌, ◌==◌, List, [], ◌∷◌, Bool, true, false, cond, ◌&&◌, ◌||◌, nat_lt, nat_le, ap, sym, refl, subst, arith, Option, Some, None}
use Rattle.std.proofs.lemmas.Bool.{and_parts, cases_Bool, eq-eqb, ne_eqb, false≢true}
use Rattle.protocol_model.specs.Limits.{channels_one}
use Rattle.protocol_model.specs.Payload.{Message, Closes, Gone}
use Rattle.protocol_model.specs.Sight.{Seen}
use Rattle.protocol_model.specs.Side.{AtServer}
use Rattle.connection_model.specs.Feed.{Past, sight_of, seen_in}
use Rattle.connection_model.specs.Bunches.{after_making, made_count, have_arrived, has_arrived, room}
use Rattle.connection_model.specs.State.{ActorState, Closed, Opening, Opened, Closing, Asleep, Mark, state_of, state_at, index_of, index_at, holds_index, last_mark, is_open, is_asleep, closed_as}
use Rattle.connection_model.specs.Settled.{is_settled_as}
use Rattle.connection_model.specs.Pack.{after_close, idle_ticks, is_shown, made_if_room}
use Rattle.connection_laws.proofs.ActorMarks.{mark_made}
use Rattle.channel_table.specs.Channels.{Channels}
use Rattle.channel_table.proofs.Unmade.{unmade}
use Rattle.shadow_changes.specs.Samples.{Samples}
use Rattle.sender_laws.proofs.Arriving.{each_has}
use Rattle.sender_laws.proofs.Makes.{arrivals_under}
use Rattle.sender_steps.specs.declared.closing.Close.{Close}
use Rattle.sender_steps.specs.declared.closing.Close.TheVariants as close
use Rattle.sender_steps.specs.Closing.{close_called, after_called, is_destroyed}
use Rattle.sender_steps.specs.Sender.{Sender}
use Rattle.sender_steps.specs.Stands.{KeepsBoth}
use Rattle.sender_steps.proofs.Ends.{GoesOn, IsEnding, stays, goes_on}
use Rattle.sender_steps.proofs.Folds.{called_is}

-- a Gone is called for of a sleeping actor alone
gone_sleeps : (b1 b2 x d : Bool) → cond b1 (Some close.Plain)
    (cond b2 (Some close.Dormant) (cond (x && d) (Some close.Gone) None)) ≡ Some close.Gone → x ≡ true
gone_sleeps true b2 x d e = absurd (let no : (let o : Option Close = Some close.Plain in o) ≡ Some close.Gone = e in cc)
gone_sleeps false true x d e = absurd (let no : (let o : Option Close = Some close.Dormant in o) ≡ Some close.Gone =
    e in cc)
gone_sleeps false false true d e = refl
gone_sleeps false false false d e = absurd (let no : (let o : Option Close = None in o) ≡ Some close.Gone = e in cc)

-- an actor on whose channel a close was made holds it still
closed_holds : (past : Past) (a ch : ℕ) (sleeps : Bool) → has_arrived past ch (made_count past ch + 1) ≡ false
    → index_of (after_making past ch (Closes a sleeps)) a ≡ Some ch
closed_holds past a ch sleeps none =
    let later : Past = after_making past ch (Closes a sleeps) in
    let mark : Mark = record { channel = ch; number = made_count past ch + 1; message = Closes a sleeps } in
    let is : last_mark later a ≡ Some mark = mark_made past ch (Closes a sleeps) a
    ∙ ap (λ (b : Bool). cond (b && true) (Some mark) (last_mark past a)) (eq-eqb a a refl) in
    let late : have_arrived later ch 1 (made_count past ch + 1) ≡ false =
    unarrived (have_arrived later ch 1 (made_count past ch + 1)) refl in
    ap (λ (o : Option Mark). index_at (holds_index (state_at later o)) o) is
    ∙ ap (λ (b : Bool). index_at (holds_index (closed_as b sleeps)) (Some mark)) late
  where
    unarrived : (b : Bool) → have_arrived (after_making past ch (Closes a sleeps)) ch 1 (made_count past ch + 1) ≡ b
        → b ≡ false
    unarrived false e = refl
    unarrived true e = absurd (false≢true (sym (arrivals_under [] past ch (Closes a sleeps) ch (made_count past ch + 1)
        ∙ none)
        ∙ each_has (after_making past ch (Closes a sleeps)) ch 1 (made_count past ch + 1) e (made_count past ch + 1)
        (omega arith) (omega arith)))

-- one that was told as gone holds none, as before
gone_holds : (past : Past) (a : ℕ) → is_asleep (state_of past a) ≡ true
    → index_of (after_making past 0 (Gone a)) a ≡ index_of past a
gone_holds past a asleep =
    let mark : Mark = record { channel = 0; number = made_count past 0 + 1; message = Gone a } in
    let is : last_mark (after_making past 0 (Gone a)) a ≡ Some mark = mark_made past 0 (Gone a) a
    ∙ ap (λ (b : Bool). cond (b && true) (Some mark) (last_mark past a)) (eq-eqb a a refl) in
    ap (λ (o : Option Mark). index_at (holds_index (state_at (after_making past 0 (Gone a)) o)) o) is
    ∙ sym (ap (λ (b : Bool). index_at b (last_mark past a)) (unheld (state_of past a) asleep))
  where
    unheld : (x : ActorState) → is_asleep x ≡ true → holds_index x ≡ false
    unheld Asleep e = refl
    unheld Closed e = absurd (false≢true e)
    unheld Opening e = absurd (false≢true e)
    unheld Opened e = absurd (false≢true e)
    unheld Closing e = absurd (false≢true e)

module _ (s : Sender) (t : Channels) (past : Past) (samples : Samples) (both : KeepsBoth s t past samples) (a : ℕ) where
  by_room : (ch : ℕ) (m : Message) → IsEnding past a ch m → (b : Bool)
      → GoesOn past (cond b (after_making past ch m) past) a
  by_room ch m h true = goes_on past a ch m h
  by_room ch m h false = stays past a

  closes_on : (o : Option ℕ) (sleeps : Bool) → index_of past a ≡ o
      → GoesOn past (made_if_room past o (Closes a sleeps)) a
  closes_on None sleeps e = stays past a
  closes_on (Some ch) sleeps e = by_room ch (Closes a sleeps) (record {
    unopened = λ b. refl;
    unknown = λ g. refl;
    unmarked = λ b ne. ap (λ (x : Bool). x && true) (ne_eqb a b ne);
    apart = λ b ne q. ne (same b (sym (both.paired.forth a ch (both.bound a ∙ e))
        ∙ both.paired.forth b ch (both.bound b ∙ q)));
    low = (both.sender.low a ch e).1;
    index = closed_holds past a ch sleeps (unmade t AtServer past both.table ch (made_count past ch + 1) (omega arith))
        ∙ sym e;
  }) (nat_lt 0 (room past ch))
    where
      same : (b : ℕ) → (let x : Option ℕ = Some a in x) ≡ Some b → a ≡ b
      same b e = cc

  gone_on : is_asleep (state_of past a) ≡ true → GoesOn past (made_if_room past (Some 0) (Gone a)) a
  gone_on asleep = by_room 0 (Gone a) (record {
    unopened = λ b. refl;
    unknown = λ g. refl;
    unmarked = λ b ne. ap (λ (x : Bool). x && true) (ne_eqb a b ne);
    apart = λ b ne q. absurd (omega (arith, (both.sender.low b 0 q).0));
    low = omega arith;
    index = gone_holds past a asleep;
  }) (nat_lt 0 (room past 0))

  called_on : (c : Option Close) → (c ≡ Some close.Gone → is_asleep (state_of past a) ≡ true)
      → GoesOn past (after_called past a c) a
  called_on None h = stays past a
  called_on (Some close.Plain) h = closes_on (index_of past a) false refl
  called_on (Some close.Dormant) h = closes_on (index_of past a) true refl
  called_on (Some close.Gone) h = gone_on (h refl)

  pub close_goes_on : GoesOn past (after_close past a) a
  close_goes_on = subst (λ (p : Past). GoesOn past p a) (sym (called_is past a))
      (called_on (close_called past a (seen_in (sight_of past) a))
      (gone_sleeps (is_open (state_of past a) && (is_destroyed (seen_in (sight_of past) a) || nat_le 5
      (idle_ticks past a)))
      (is_shown (λ s. s.dormant && is_settled_as past s) (seen_in (sight_of past) a)) (is_asleep (state_of past a))
      (is_destroyed (seen_in (sight_of past) a))))
