-- What is read by the copies that are kept is what is read after the past for which they stand.
use Rattle.std.proofs.Common.{◌≡◌, ℕ, ◌==◌, List, length, Bool, true, false, cond, not, ◌&&◌, ◌||◌, nat_lt, Option, Some, None, is_some, is_none, option_map, option_and_then, unwrap_or, Result, Ok, Err, refl, sym, ap, ◌∙◌}
use Rattle.std.specs.List.{fold}
use Rattle.protocol_model.specs.Limits.{copy_limit}
use Rattle.protocol_model.specs.declared.Cause.{Cause}
use Rattle.protocol_model.specs.declared.Cause.TheVariants.{UnknownGuid, BadChannel, Clash, ActorsFull}
use Rattle.protocol_model.specs.Reading.{Fault, ◌>>=◌, give, bit_at}
use Rattle.protocol_model.specs.Value.{Class, Pair, Segment, goes_down}
use Rattle.protocol_model.specs.Packet.{Bunch}
use Rattle.protocol_model.specs.Payload.{Message, Updates, Gone, Opens, Closes}
use Rattle.connection_model.specs.Feed.{Past}
use Rattle.connection_model.specs.Copies.{copy_class as class_known_of, copy_channel as channel_known_of, copy_on, has_copy, copied_actors}
use Rattle.connection_model.specs.Names.{names_with, names_of, class_named}
use Rattle.connection_model.specs.PayloadReading.{PayloadReading, field, unless, number_at, actor_at, end_at, class_or, call_at_end, some_values_at, values_at, is_elsewhere, is_other_class, is_sleeping_copy, gone_at, client_call_at, update_at, open_at, close_at, plain_at, client_payload_at, exports_at}
use Rattle.class_layout.specs.Tables.{Layout, table_in}
use Rattle.actor_copies.specs.declared.copy.ActorCopy.{ActorCopy}
use Rattle.actor_copies.specs.Kept.{copy_actor, kept_of, kept_on}
use Rattle.actor_copies.specs.Stands.{Shows}
use Rattle.actor_copies.proofs.CopyLists.{count_known, holder_known}
use Rattle.actor_copies.proofs.Following.{holding}
use Rattle.actor_copies.proofs.Knowing.{class_known, copy_known, channel_known}
use Rattle.client_payloads.specs.Readings.{copy_class, copy_channel, class_kept, channel_kept, holder_kept, is_asleep, gone_in, call_in, update_in, opened_in, opened_class_in, open_in, close_in, plain_in, unopened_in}

-- ---- copies

asleep_as : (o : Option ActorCopy)
    → is_asleep o ≡ (is_some o && is_none (option_and_then copy_channel o))
asleep_as None = refl
asleep_as (Some c) = refl

sleep_known : (layout : Layout) (copies : List ActorCopy) (past : Past) (a : ℕ) → Shows layout copies past
    → is_asleep (kept_of copies a) ≡ is_sleeping_copy past a
sleep_known layout copies past a m =
    asleep_as (kept_of copies a)
    ∙ both _ _ _ _ (copy_known layout copies past a m)
    (ap (λ (o : Option ℕ). is_none o) (channel_known layout copies past a m))
  where
    both : (a b c d : Bool) → a ≡ c → b ≡ d → (a && b) ≡ (c && d)
    both a b c d e f = rw (e, f) refl

-- the class of the copy that holds a channel
held_known : (layout : Layout) (copies : List ActorCopy) (past : Past) (ch : ℕ) → Shows layout copies past
    → option_map (copy_class layout) (kept_on copies ch) ≡ option_and_then (class_known_of past) (copy_on past ch)
held_known layout copies past ch m =
    by (kept_on copies ch) refl
    ∙ ap (option_and_then (class_known_of past)) (holder_known layout copies past ch m)
  where
    by : (o : Option ActorCopy) → kept_on copies ch ≡ o
        → option_map (copy_class layout) o ≡ option_and_then (class_known_of past) (option_map copy_actor o)
    by None e = refl
    by (Some x) e =
        sym (ap (option_map (copy_class layout)) (holding layout copies past ch x m e).0)
        ∙ class_known layout copies past x.actor m

-- ---- readings

-- the same follows whatever is read
then_same : {A B : Type 0} (read : PayloadReading A) (next other : A → PayloadReading B) (bits : List Bool)
    → ((a : A) (rest : List Bool) → next a rest ≡ other a rest) → (read >>= next) bits ≡ (read >>= other) bits
then_same {A = A} {B = B} read next other bits same = by (read bits)
  where
    by : (r : Result (A × List Bool) (Fault (Option Cause)))
        → ◌≡◌ {A = Result (B × List Bool) (Fault (Option Cause))}
        (elim r [ Ok got ↦ next got.0 got.1 | Err why ↦ Err why ])
        (elim r [ Ok got ↦ other got.0 got.1 | Err why ↦ Err why ])
    by (Ok got) = same got.0 got.1
    by (Err why) = refl

gone_known : (layout : Layout) (copies : List ActorCopy) (past : Past) (bits : List Bool) → Shows layout copies past
    → gone_in copies bits ≡ gone_at past bits
gone_known layout copies past bits m =
    then_same (field number_at (λ n. n == 1)) _ _ bits (λ n rest.
    then_same actor_at _ _ rest (λ actor rest.
    ap (λ (b : Bool). (unless b (UnknownGuid actor) >>= (λ (n : ℕ). end_at >>= (λ (n : ℕ). give (Gone actor))))
    rest) (sleep_known layout copies past actor m)))

call_known : (layout : Layout) (copies : List ActorCopy) (past : Past) (first : Bunch) (bits : List Bool)
    → Shows layout copies past → call_in layout copies first.reliable bits ≡ client_call_at past first bits
call_known layout copies past first bits m =
    then_same actor_at _ _ bits (λ actor rest.
    ap (λ (o : Option Class). (class_or (UnknownGuid actor) o >>=
    (λ (class : Class). call_at_end class actor goes_down first.reliable)) rest)
    (class_known layout copies past actor m))

update_known : (layout : Layout) (copies : List ActorCopy) (past : Past) (first : Bunch) (bits : List Bool)
    → Shows layout copies past → update_in layout copies first.channel bits ≡ update_at past first bits
update_known layout copies past first bits m =
    ap (λ (o : Option Class). (class_or (BadChannel first.channel) o >>= (λ (class : Class). some_values_at class
    >>= (λ (values : List Pair). end_at
    >>= (λ (n : ℕ). give (Updates (holder_kept copies first.channel) class values))))) bits)
    (held_known layout copies past first.channel m)
    ∙ ap (λ (h : Option ℕ). (class_or (BadChannel first.channel)
    (option_and_then (class_known_of past) (copy_on past first.channel))
    >>= (λ (class : Class). some_values_at class >>= (λ (values : List Pair). end_at
    >>= (λ (n : ℕ). give (Updates (unwrap_or h 0) class values))))) bits)
    (holder_known layout copies past first.channel m)

close_known : (layout : Layout) (copies : List ActorCopy) (past : Past) (first : Bunch) (bits : List Bool)
    → Shows layout copies past → close_in copies first.channel first.sleeps bits ≡ close_at past first bits
close_known layout copies past first bits m =
    ap (λ (h : Option ℕ). (end_at >>= (λ (n : ℕ). give (Closes (unwrap_or h 0) first.sleeps))) bits)
    (holder_known layout copies past first.channel m)

-- what follows the exports of an open, after the past
abbrev pub opened_at : Layout → Past → Bunch → (names exports : List Segment) → PayloadReading Message
opened_at layout past first names exports = do
  actor ← actor_at
  _ ← unless (not (is_elsewhere first.channel (channel_known_of past actor))) (Clash actor)
  _ ← unless (has_copy past actor || nat_lt (length (copied_actors past)) copy_limit) ActorsFull
  guid ← number_at
  class ← class_or (UnknownGuid guid) (class_named (table_in layout) (fold names_with names exports) guid)
  _ ← unless (not (is_other_class class (class_known_of past actor))) (Clash actor)
  values ← values_at class
  _ ← end_at
  give (Opens exports actor class values)

-- the same by what is known of the actor
abbrev body : Layout → (channel : ℕ) → (names exports : List Segment) → (actor : ℕ) → (channel : Option ℕ)
    → (there : Bool) → (count : ℕ) → Option Class → PayloadReading Message
body layout ch names exports actor channel there count known = do
  _ ← unless (not (is_elsewhere ch channel)) (Clash actor)
  _ ← unless (there || nat_lt count copy_limit) ActorsFull
  guid ← number_at
  class ← class_or (UnknownGuid guid) (class_named (table_in layout) names guid)
  _ ← unless (not (is_other_class class known)) (Clash actor)
  values ← values_at class
  _ ← end_at
  give (Opens exports actor class values)

body_same : (layout : Layout) (ch : ℕ) (names exports : List Segment) (actor : ℕ) (rest : List Bool)
    (o p : Option ℕ) (b c : Bool) (k l : ℕ) (q r : Option Class) → o ≡ p → b ≡ c → k ≡ l → q ≡ r
    → body layout ch names exports actor o b k q rest ≡ body layout ch names exports actor p c l r rest
body_same layout ch names exports actor rest o p b c k l q r e f g h =
    ap (λ (x : Option ℕ). body layout ch names exports actor x b k q rest) e
    ∙ ap (λ (x : Bool). body layout ch names exports actor p x k q rest) f
    ∙ ap (λ (x : ℕ). body layout ch names exports actor p c x q rest) g
    ∙ ap (λ (x : Option Class). body layout ch names exports actor p c l x rest) h

-- readings one after another, however they are put together
abbrev then_last : {B C : Type 0} → Result (B × List Bool) (Fault (Option Cause)) → (B → PayloadReading C)
    → Result (C × List Bool) (Fault (Option Cause))
then_last r last = elim r [ Ok got ↦ last got.0 got.1 | Err why ↦ Err why ]

grouped : {A B C : Type 0} (read : PayloadReading A) (next : A → PayloadReading B) (last : B → PayloadReading C)
    (bits : List Bool) → ((read >>= next) >>= last) bits ≡ (read >>= (λ (a : A). next a >>= last)) bits
grouped {A = A} {B = B} {C = C} read next last bits = by (read bits)
  where
    by : (r : Result (A × List Bool) (Fault (Option Cause)))
        → ◌≡◌ {A = Result (C × List Bool) (Fault (Option Cause))} (then_last (then_last r next) last)
        (elim r [ Ok got ↦ then_last (next got.0 got.1) last | Err why ↦ Err why ])
    by (Ok got) = refl
    by (Err why) = refl

abbrev ended : (exports : List Segment) → (actor : ℕ) → Class → PayloadReading Message
ended exports actor class = values_at class >>=
    (λ (values : List Pair). end_at >>= (λ (n : ℕ). give (Opens exports actor class values)))

abbrev room : List ActorCopy → (actor : ℕ) → PayloadReading ℕ
room copies actor = unless (is_some (kept_of copies actor) || nat_lt (length copies) copy_limit) ActorsFull >>=
    (λ (n : ℕ). give actor)

abbrev checked : List ActorCopy → (ch : ℕ) → (actor : ℕ) → PayloadReading ℕ
checked copies ch actor = unless (not (is_elsewhere ch (channel_kept copies actor))) (Clash actor) >>=
    (λ (n : ℕ). room copies actor)

abbrev same_class : Layout → List ActorCopy → (actor : ℕ) → Class → PayloadReading Class
same_class layout copies actor class = unless (not (is_other_class class (class_kept layout copies actor)))
    (Clash actor) >>= (λ (n : ℕ). give class)

abbrev named : Layout → List ActorCopy → (names : List Segment) → (actor guid : ℕ) → PayloadReading Class
named layout copies names actor guid = class_or (UnknownGuid guid)
    (class_named (table_in layout) names guid) >>= same_class layout copies actor

flat : (layout : Layout) (copies : List ActorCopy) (ch : ℕ) (names exports : List Segment) (actor : ℕ)
    (bits : List Bool)
    → (checked copies ch actor >>= (λ (a : ℕ). opened_class_in layout copies names a >>= ended exports a)) bits
    ≡ body layout ch names exports actor (channel_kept copies actor) (is_some (kept_of copies actor))
    (length copies) (class_kept layout copies actor) bits
flat layout copies ch names exports actor bits =
    grouped (unless (not (is_elsewhere ch (channel_kept copies actor))) (Clash actor))
    (λ (n : ℕ). room copies actor) (λ (a : ℕ). opened_class_in layout copies names a >>= ended exports a) bits
    ∙ then_same (unless (not (is_elsewhere ch (channel_kept copies actor))) (Clash actor)) _ _ bits (λ n rest.
    grouped (unless (is_some (kept_of copies actor) || nat_lt (length copies) copy_limit) ActorsFull)
    (λ (n : ℕ). give actor) (λ (a : ℕ). opened_class_in layout copies names a >>= ended exports a) rest
    ∙ then_same (unless (is_some (kept_of copies actor) || nat_lt (length copies) copy_limit) ActorsFull) _ _ rest
    (λ n rest.
    grouped number_at (named layout copies names actor) (ended exports actor) rest
    ∙ then_same number_at _ _ rest (λ guid rest.
    grouped (class_or (UnknownGuid guid) (class_named (table_in layout) names guid))
    (same_class layout copies actor) (ended exports actor) rest
    ∙ then_same (class_or (UnknownGuid guid) (class_named (table_in layout) names guid)) _ _ rest (λ class rest.
    grouped (unless (not (is_other_class class (class_kept layout copies actor))) (Clash actor))
    (λ (n : ℕ). give class) (ended exports actor) rest))))

opened_known : (layout : Layout) (copies : List ActorCopy) (past : Past) (first : Bunch)
    (names exports : List Segment) (bits : List Bool) → Shows layout copies past
    → opened_in layout copies first.channel (fold names_with names exports) exports bits ≡ opened_at layout past
    first names exports bits
opened_known layout copies past first names exports bits m =
    let known : List Segment = fold names_with names exports in
    grouped actor_at (checked copies first.channel)
    (λ (a : ℕ). opened_class_in layout copies known a >>= ended exports a) bits
    ∙ then_same actor_at _ (λ (actor : ℕ). body layout first.channel known exports actor
    (channel_known_of past actor) (has_copy past actor) (length (copied_actors past))
    (class_known_of past actor)) bits (λ actor rest.
    flat layout copies first.channel known exports actor rest
    ∙ body_same layout first.channel known exports actor rest _ _ _ _ _ _ _ _
    (channel_known layout copies past actor m) (copy_known layout copies past actor m)
    (count_known layout copies past m) (class_known layout copies past actor m))

open_known : (layout : Layout) (copies : List ActorCopy) (past : Past) (first : Bunch) (bits : List Bool)
    → Shows layout copies past
    → open_in layout copies first.channel first.exports (names_of past) bits ≡ open_at
    (table_in layout) past first bits
open_known layout copies past first bits m =
    then_same (exports_at first.exports (names_of past)) _
    (λ (exports : List Segment). opened_at layout past first (names_of past) exports) bits
    (λ exports rest. opened_known layout copies past first (names_of past) exports rest m)

plain_known : (layout : Layout) (copies : List ActorCopy) (past : Past) (first : Bunch) (bits : List Bool)
    → Shows layout copies past → plain_in layout copies first.channel first.reliable bits ≡ plain_at past first bits
plain_known layout copies past first bits m =
    then_same (field bit_at (λ is_call. is_call || not first.reliable)) _
    (λ (is_call : Bool). cond is_call (client_call_at past first) (update_at past first)) bits
    (λ is_call rest. by is_call rest)
  where
    by : (b : Bool) (rest : List Bool) → cond b (call_in layout copies first.reliable)
        (update_in layout copies first.channel) rest ≡ cond b (client_call_at past first) (update_at past first) rest
    by true rest = call_known layout copies past first rest m
    by false rest = update_known layout copies past first rest m

-- a payload that doesn't open is read as the definitions read it
pub unopened_known : (layout : Layout) (copies : List ActorCopy) (past : Past) (first : Bunch) (bits : List Bool)
    → Shows layout copies past → ((first.channel == 0) ≡ false → first.closes ≡ false → first.opens ≡ false)
    → unopened_in layout copies first.channel first.closes first.sleeps first.reliable bits ≡ client_payload_at
    (table_in layout) past first bits
unopened_known layout copies past first bits m plain = by_control (first.channel == 0) refl
  where
    by_opens : (b : Bool) → first.opens ≡ b → b ≡ false
        → plain_in layout copies first.channel first.reliable bits ≡ cond b (open_at (table_in layout) past first)
        (plain_at past first) bits
    by_opens true e n = absurd (cc)
    by_opens false e n = plain_known layout copies past first bits m

    by_closes : (b : Bool) → first.closes ≡ b → (first.channel == 0) ≡ false
        → cond b (close_in copies first.channel first.sleeps)
        (plain_in layout copies first.channel first.reliable) bits
        ≡ cond b (close_at past first) (cond first.opens (open_at (table_in layout) past first)
        (plain_at past first)) bits
    by_closes true e z = close_known layout copies past first bits m
    by_closes false e z = by_opens first.opens refl (plain z e)

    by_control : (b : Bool) → (first.channel == 0) ≡ b
        → cond b (gone_in copies) (cond first.closes (close_in copies first.channel first.sleeps)
        (plain_in layout copies first.channel first.reliable)) bits
        ≡ cond b (gone_at past) (cond first.closes (close_at past first)
        (cond first.opens (open_at (table_in layout) past first) (plain_at past first))) bits
    by_control true e = gone_known layout copies past bits m
    by_control false e = by_closes first.closes refl e

-- and an open is
pub opens_known : (layout : Layout) (copies : List ActorCopy) (past : Past) (first : Bunch) (bits : List Bool)
    → Shows layout copies past → (first.channel == 0) ≡ false → first.closes ≡ false → first.opens ≡ true
    → open_in layout copies first.channel first.exports (names_of past) bits ≡ client_payload_at
    (table_in layout) past first bits
opens_known layout copies past first bits m z c o =
    open_known layout copies past first bits m ∙ sym (by (first.channel == 0) first.closes first.opens z c o)
  where
    by : (z c o : Bool) → z ≡ false → c ≡ false → o ≡ true
        → cond z (gone_at past) (cond c (close_at past first)
        (cond o (open_at (table_in layout) past first) (plain_at past first))) bits ≡ open_at
        (table_in layout) past first bits
    by true c o z d e = absurd (cc)
    by false true o z d e = absurd (cc)
    by false false true z d e = refl
    by false false false z d e = absurd (cc)
