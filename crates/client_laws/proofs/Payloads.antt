-- A payload that is read at the client: what it was read as, and what it leaves.
use Rattle.std.proofs.Common.{◌≡◌, ℕ, ◌==◌, List, ◌∷◌, Bool, true, false, cond, not, ◌&&◌, ◌||◌, nat_lt, length, Option, Some, None, is_some, is_none, unwrap_or, Ok, refl, sym, ap, ◌∙◌, subst}
use Rattle.std.specs.Bool.{⊤}
use Rattle.std.specs.List.{fold}
use Rattle.protocol_model.specs.Side.{AtClient}
use Rattle.protocol_model.specs.Value.{Table, Class, goes_down}
use Rattle.protocol_model.specs.declared.Version.{Version}
use Rattle.protocol_model.specs.declared.Way.{Way}
use Rattle.protocol_model.specs.declared.Cause.TheVariants.{Clash, ActorsFull, UnknownGuid, BadChannel}
use Rattle.protocol_model.specs.Packet.{Bunch}
use Rattle.protocol_model.specs.Payload.{Message, Opens, Closes, Updates, Calls, Gone}
use Rattle.protocol_model.specs.Reading.{bit_at}
use Rattle.connection_model.specs.Feed.{End, Past, Took, Entry, Delivered}
use Rattle.connection_model.specs.Bunches.{is_opening, is_closing}
use Rattle.connection_model.specs.Names.{names_of, names_with, class_named}
use Rattle.connection_model.specs.Copies.{copy_channel, copy_class, copy_on, copied_actors, has_copy}
use Rattle.connection_model.specs.PayloadReading.{field, unless, is_elsewhere, is_other_class, is_sleeping_copy, open_at, close_at, update_at, client_call_at, plain_at, gone_at, client_payload_at, call_at_end, exports_at, actor_at, number_at, class_or, values_at, some_values_at, end_at, is_call_of, args_at}
use Rattle.connection_model.specs.Verdict.{delivery_of, with_handed}
use Rattle.receiving_laws.specs.Holders.{is_copied_on}
use Rattle.receiving_laws.specs.Receiving.{copied_after}
use Rattle.payload_laws.specs.Applied.{Applied}
use Rattle.client_laws.specs.Holding.{Agrees, MayCome}
use Rattle.client_laws.proofs.Given.{Gives, gives_give, gives_any, gives_next, gives_need}
use Rattle.client_laws.proofs.Steps.{Leaves, opens_leaves, closes_leaves, gone_leaves, updates_leaves, calls_leaves}

-- ---- what a payload was read as

-- a payload is plain: an update or a call
abbrev pub is_plain : Message → Type 0
is_plain (Opens exports actor class values) = ⊥
is_plain (Closes actor sleeps) = ⊥
is_plain (Updates actor class values) = ⊤
is_plain (Calls actor number call args) = ⊤
is_plain (Gone actor) = ⊥

-- an open, whose actor has no copy elsewhere
abbrev pub IsOpen : Past → Bunch → Message → Type 0
IsOpen past first (Opens exports actor class values) =
    is_elsewhere first.channel (copy_channel past actor) ≡ false
IsOpen past first (Closes actor sleeps) = ⊥
IsOpen past first (Updates actor class values) = ⊥
IsOpen past first (Calls actor number call args) = ⊥
IsOpen past first (Gone actor) = ⊥

-- a Gone of a sleeping copy
abbrev pub IsGone : Past → Message → Type 0
IsGone past (Gone actor) = is_sleeping_copy past actor ≡ true
IsGone past (Opens exports actor class values) = ⊥
IsGone past (Closes actor sleeps) = ⊥
IsGone past (Updates actor class values) = ⊥
IsGone past (Calls actor number call args) = ⊥

negated : (b : Bool) → not b ≡ true → b ≡ false
negated true h = absurd (cc)
negated false h = refl

open_gives : (table : Table) (past : Past) (first : Bunch)
    → Gives (open_at table past first) (IsOpen past first)
open_gives table past first =
    gives_any (exports_at first.exports (names_of past)) _ _ (λ exports.
    gives_any actor_at _ _ (λ actor.
    gives_next (unless (not (is_elsewhere first.channel (copy_channel past actor))) (Clash actor)) _
    (λ n. not (is_elsewhere first.channel (copy_channel past actor)) ≡ true) _ (gives_need _ _) (λ n here.
    gives_any (unless (has_copy past actor || nat_lt (length (copied_actors past)) 8192) ActorsFull) _ _ (λ n.
    gives_any number_at _ _ (λ guid.
    gives_any (class_or (UnknownGuid guid) (class_named table (fold names_with (names_of past) exports) guid))
    _ _ (λ class.
    gives_any (unless (not (is_other_class class (copy_class past actor))) (Clash actor)) _ _ (λ n.
    gives_any (values_at class) _ _ (λ values.
    gives_any end_at _ _ (λ n.
    gives_give (IsOpen past first) (Opens exports actor class values) (negated _ here))))))))))

gone_gives : (past : Past) → Gives (gone_at past) (IsGone past)
gone_gives past =
    gives_any (field number_at (λ n. n == 1)) _ _ (λ n.
    gives_any actor_at _ _ (λ actor.
    gives_next (unless (is_sleeping_copy past actor) (UnknownGuid actor)) _
    (λ n. is_sleeping_copy past actor ≡ true) _ (gives_need _ _) (λ n asleep.
    gives_any end_at _ _ (λ n.
    gives_give (IsGone past) (Gone actor) asleep))))

close_gives : (past : Past) (first : Bunch)
    → Gives (close_at past first) (λ m. m ≡ Closes (unwrap_or (copy_on past first.channel) 0) first.sleeps)
close_gives past first =
    gives_any end_at _ _
    (λ n. gives_give (λ m. m ≡ Closes (unwrap_or (copy_on past first.channel) 0) first.sleeps) _ refl)

call_gives : (class : Class) (actor : ℕ) (way : Way → Bool) (reliable : Bool)
    → Gives (call_at_end class actor way reliable) is_plain
call_gives class actor way reliable =
    gives_any (field number_at (is_call_of class way reliable)) _ _ (λ n.
    gives_any (args_at _) _ _ (λ args.
    gives_any end_at _ _ (λ e.
    gives_give is_plain _ tt)))

client_call_gives : (past : Past) (first : Bunch) → Gives (client_call_at past first) is_plain
client_call_gives past first =
    gives_any actor_at _ _ (λ actor. gives_any (class_or (UnknownGuid actor) (copy_class past actor)) _ _
    (λ class. call_gives class actor goes_down first.reliable))

update_gives : (past : Past) (first : Bunch) → Gives (update_at past first) is_plain
update_gives past first =
    gives_any (class_or (BadChannel first.channel) _) _ _ (λ class. gives_any (some_values_at class) _ _
    (λ values. gives_any end_at _ _ (λ n. gives_give is_plain _ tt)))

plain_gives : (past : Past) (first : Bunch) → Gives (plain_at past first) is_plain
plain_gives past first = gives_any (field bit_at _) _ _ (λ is_call. by is_call)
  where
    by : (b : Bool) → Gives (cond b (client_call_at past first) (update_at past first)) is_plain
    by true = client_call_gives past first
    by false = update_gives past first

-- ---- what it leaves

-- the past with a packet under way
abbrev pub taking : ℕ → List Entry → List Delivered → Past → Past
taking m entries handed past = Took m entries handed ∷ past

-- the client's end
abbrev pub client : Version → (budget : ℕ) → Table → End
client version budget table = record { side = AtClient; version = version; budget = budget; table = table }

-- what a payload left, and how it was read
pub record Came (past later : Past) (first : Bunch) (copied : Bool) (d : Delivered) : Type 0 where
  pub leaves : Leaves past later first.channel (copied_after copied first)
  pub channel : d.channel ≡ first.channel
  pub opens : is_opening d.message ≡ first.opens
  pub closes : is_closing d.message ≡ first.closes

neither : (copied : Bool) (first : Bunch) → first.opens ≡ false → first.closes ≡ false
    → copied_after copied first ≡ copied
neither copied first o c = rw (o, c) refl

plain_came : (past later : Past) (first : Bunch) (copied : Bool) (d : Delivered) (m : Message) → is_plain m
    → d.message ≡ m → d.channel ≡ first.channel → Agrees past → Applied past later d
    → is_copied_on past first.channel ≡ copied
    → first.opens ≡ false → first.closes ≡ false → Came past later first copied d
plain_came past later first copied d (Opens exports actor class values) p m ch agrees e same o c = absurd p
plain_came past later first copied d (Closes actor sleeps) p m ch agrees e same o c = absurd p
plain_came past later first copied d (Updates actor class values) p m ch agrees e same o c = record {
  leaves =
      rw (neither copied first o c)
      (rw (← same) (updates_leaves past later d first.channel actor class values agrees e m));
  channel = ch;
  opens = rw m (sym o);
  closes = rw m (sym c);
}
plain_came past later first copied d (Calls actor number call args) p m ch agrees e same o c = record {
  leaves =
      rw (neither copied first o c)
      (rw (← same) (calls_leaves past later d first.channel actor number call args agrees e m));
  channel = ch;
  opens = rw m (sym o);
  closes = rw m (sym c);
}
plain_came past later first copied d (Gone actor) p m ch agrees e same o c = absurd p

right_of : (a b : Bool) → (a && b) ≡ true → b ≡ true
right_of true b h = h
right_of false b h = absurd (cc)

no_channel : (o : Option ℕ) → is_none o ≡ true → o ≡ None
no_channel None h = refl
no_channel (Some n) h = absurd (cc)

gone_came : (past later : Past) (first : Bunch) (copied : Bool) (d : Delivered) (m : Message) → IsGone past m
    → d.message ≡ m → d.channel ≡ first.channel → Agrees past → Applied past later d
    → is_copied_on past first.channel ≡ copied
    → first.opens ≡ false → first.closes ≡ false → Came past later first copied d
gone_came past later first copied d (Opens exports actor class values) p m ch agrees e same o c = absurd p
gone_came past later first copied d (Closes actor sleeps) p m ch agrees e same o c = absurd p
gone_came past later first copied d (Updates actor class values) p m ch agrees e same o c = absurd p
gone_came past later first copied d (Calls actor number call args) p m ch agrees e same o c = absurd p
gone_came past later first copied d (Gone actor) p m ch agrees e same o c = record {
  leaves =
      rw (neither copied first o c) (rw (← same) (gone_leaves past later d first.channel actor agrees e m
      (no_channel _ (right_of (has_copy past actor) _ p))));
  channel = ch;
  opens = rw m (sym o);
  closes = rw m (sym c);
}

open_came : (past later : Past) (first : Bunch) (copied : Bool) (d : Delivered) (m : Message)
    → IsOpen past first m → d.message ≡ m → d.channel ≡ first.channel → Agrees past → Applied past later d
    → is_copied_on past first.channel ≡ copied
    → MayCome first.channel copied first → first.opens ≡ true → Came past later first copied d
open_came past later first copied d (Opens exports actor class values) p m ch agrees e same may o = record {
  leaves = subst (λ (c : ℕ). Leaves past later c (copied_after copied first)) ch
      (rw o (opens_leaves past later d exports actor class values agrees e m
      (ap (is_copied_on past) ch ∙ same ∙ may.opens o)
      (ap (λ (c : ℕ). is_elsewhere c (copy_channel past actor)) ch ∙ p)));
  channel = ch;
  opens = rw m (sym o);
  closes = rw m (sym (may.sound.one o));
}
open_came past later first copied d (Closes actor sleeps) p m ch agrees e same may o = absurd p
open_came past later first copied d (Updates actor class values) p m ch agrees e same may o = absurd p
open_came past later first copied d (Calls actor number call args) p m ch agrees e same may o = absurd p
open_came past later first copied d (Gone actor) p m ch agrees e same may o = absurd p

close_came : (past later : Past) (first : Bunch) (copied : Bool) (d : Delivered) (held : Option ℕ)
    → copy_on past first.channel ≡ held → d.message ≡ Closes (unwrap_or held 0) first.sleeps
    → d.channel ≡ first.channel → Agrees past → Applied past later d
    → is_copied_on past first.channel ≡ copied → MayCome first.channel copied first → first.opens ≡ false
    → first.closes ≡ true → Came past later first copied d
close_came past later first copied d (Some actor) h m ch agrees e same may o c = record {
  leaves = subst (λ (n : ℕ). Leaves past later n (copied_after copied first)) ch
      (rw (o, c) (closes_leaves past later d actor first.sleeps agrees e m (ap (copy_on past) ch ∙ h)));
  channel = ch;
  opens = rw m (sym o);
  closes = rw m (sym c);
}
close_came past later first copied d None h m ch agrees e same may o c =
    let no : false ≡ true = sym (ap is_some h) ∙ agrees.holder first.channel ∙ same ∙ may.closes c in
    absurd (cc)

not_both : (b : Bool) → b ≡ true → (b ≡ true → b ≡ false) → b ≡ false
not_both b h f = f h

-- a payload that may come and is read leaves all in agreement
pub came : (version : Version) (budget : ℕ) (table : Table) (m : ℕ) (entries : List Entry)
    (handed : List Delivered) (before : Past) (first : Bunch) (copied : Bool) (bits : List Bool)
    (message : Message) (rest : List Bool)
    → Agrees (taking m entries handed before)
    → is_copied_on (taking m entries handed before) first.channel ≡ copied
    → MayCome first.channel copied first
    → client_payload_at table (taking m entries handed before) first bits ≡ Ok (message, rest)
    → Came (taking m entries handed before) (with_handed
    (delivery_of (client version budget table) (taking m entries handed before) first message)
    (taking m entries handed before)) first copied (delivery_of (client version budget table)
    (taking m entries handed before) first message)
came version budget table m entries handed before first copied bits message rest agrees same may e =
    by_control (first.channel == 0) refl e
  where
    past : Past
    past = taking m entries handed before

    d : Delivered
    d = delivery_of (client version budget table) past first message

    later : Past
    later = with_handed d past

    by_opens : (b : Bool) → first.opens ≡ b → first.closes ≡ false
        → cond b (open_at table past first) (plain_at past first) bits ≡ Ok (message, rest)
        → Came past later first copied d
    by_opens true o c e =
        open_came past later first copied d message (open_gives table past first bits message rest e) refl
        refl agrees refl same may o
    by_opens false o c e =
        plain_came past later first copied d message (plain_gives past first bits message rest e) refl refl
        agrees refl same o c

    not_opens : (b : Bool) → first.opens ≡ b → first.closes ≡ true → b ≡ false
    not_opens false o c = refl
    not_opens true o c = let no : true ≡ false = sym c ∙ may.sound.one o in absurd (cc)

    by_closes : (b : Bool) → first.closes ≡ b
        → cond b (close_at past first) (cond first.opens (open_at table past first) (plain_at past first))
        bits ≡ Ok (message, rest)
        → Came past later first copied d
    by_closes true c e =
        close_came past later first copied d (copy_on past first.channel) refl
        (close_gives past first bits message rest e) refl agrees refl same may
        (not_opens first.opens refl c) c
    by_closes false c e = by_opens first.opens refl c e

    by_control : (b : Bool) → (first.channel == 0) ≡ b
        → cond b (gone_at past) (cond first.closes (close_at past first)
        (cond first.opens (open_at table past first) (plain_at past first))) bits ≡ Ok (message, rest)
        → Came past later first copied d
    by_control true z e =
        let none = may.sound.control z in gone_came past later first copied d message
        (gone_gives past bits message rest e) refl refl agrees refl same none.0 none.1
    by_control false z e = by_closes first.closes refl e
