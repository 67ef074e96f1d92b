-- Who holds which channel after one more payload, and how what is bound goes along.
use Rattle.std.proofs.Common.{◌≡◌, ◌≢◌, ℕ, ◌==◌, ◌<◌, List, ◌∷◌, Bool, true, false, cond, ◌&&◌, Option, Some, None, is_some, is_none, option_map, unwrap_or, refl, sym, ap, ◌∙◌, subst}
use Rattle.std.proofs.lemmas.Bool.{eqb-true, eq-eqb}
use Rattle.std.proofs.lemmas.Option.{same_Some}
use Rattle.protocol_model.specs.Value.{Segment, Class, Pair, Call, Arg}
use Rattle.protocol_model.specs.Payload.{Message, Opens, Closes, Updates, Calls, Gone, actor_of}
use Rattle.protocol_model.specs.declared.Version.{Version}
use Rattle.protocol_model.specs.Packet.{channel_limit}
use Rattle.connection_model.specs.Feed.{Past, Delivered}
use Rattle.connection_model.specs.Copies.{copy_channel, has_copy, removes}
use Rattle.connection_model.specs.PayloadReading.{is_sleeping_copy}
use Rattle.payload_laws.specs.Applied.{Applied}
use Rattle.payload_laws.proofs.CopiesAfter.{open_channel, update_channel, sleep_channel, others_stay, calls_stay, gone_removes, closes_removes, channel_none}
use Rattle.channel_table.specs.Holders.{other_than}
use Rattle.client_hearing.specs.Keeping.{AreLow}

-- whose number it is
by_actor : {B : Type 0} (x y : ℕ) → ((x == y) ≡ true → B) → ((x == y) ≡ false → B) → B
by_actor {B = B} x y f g = by (x == y) refl
  where
    by : (b : Bool) → (x == y) ≡ b → B
    by true e = f e
    by false e = g e

-- ---- opens

pub opened_channels : (past later : Past) (d : Delivered) (exports : List Segment) (actor : ℕ)
    (class : Class) (values : List Pair) (a : ℕ) → Applied past later d
    → d.message ≡ Opens exports actor class values
    → copy_channel later a ≡ cond (a == actor) (Some d.channel) (copy_channel past a)
opened_channels past later d exports actor class values a e m =
    by_actor a actor
    (λ t. ap (copy_channel later) (eqb-true a actor t)
    ∙ open_channel past later d exports actor class values e m
    ∙ sym (ap (λ (b : Bool). cond b (Some d.channel) (copy_channel past a)) t))
    (λ t. (others_stay past later d a e (ap (λ (x : Message). actor_of x == a) m ∙ turned a actor t)).channel
    ∙ sym (ap (λ (b : Bool). cond b (Some d.channel) (copy_channel past a)) t))
  where
    turned : (x y : ℕ) → (x == y) ≡ false → (y == x) ≡ false
    turned x y t = by (y == x) refl
      where
        by : (b : Bool) → (y == x) ≡ b → b ≡ false
        by false e = refl
        by true e =
            let no : true ≡ false = sym (eq-eqb x y (sym (eqb-true y x e))) ∙ t in absurd (cc)

-- ---- closes

closed_here : (past later : Past) (d : Delivered) (actor : ℕ) (sleeps : Bool) → Applied past later d
    → d.message ≡ Closes actor sleeps → copy_channel later actor ≡ None
closed_here past later d actor true e m = sleep_channel past later d actor e m
closed_here past later d actor false e m =
    channel_none past later d actor e (closes_removes d actor m)

other_is : (ch : ℕ) (o : Option ℕ) → (o ≡ Some ch → ⊥) → other_than ch o ≡ o
other_is ch None never = refl
other_is ch (Some held) never = by (held == ch) refl
  where
    by : (b : Bool) → (held == ch) ≡ b → cond b None (Some held) ≡ Some held
    by true e = absurd (never (ap (λ (n : ℕ). Some n) (eqb-true held ch e)))
    by false e = refl

itself : (ch : ℕ) → other_than ch (Some ch) ≡ None
itself ch = rw (eq-eqb ch ch refl) refl

-- the copy that held the channel holds none, and no other did
pub closed_channels : (past later : Past) (d : Delivered) (actor ch : ℕ) (sleeps : Bool) (a : ℕ)
    → Applied past later d → d.message ≡ Closes actor sleeps → copy_channel past actor ≡ Some ch
    → ((x y : ℕ) → copy_channel past x ≡ Some ch → copy_channel past y ≡ Some ch → x ≡ y)
    → copy_channel later a ≡ other_than ch (copy_channel past a)
closed_channels past later d actor ch sleeps a e m on apart =
    by_actor actor a
    (λ t. let same = eqb-true actor a t in
    sym (ap (copy_channel later) same) ∙ closed_here past later d actor sleeps e m
    ∙ sym (ap (other_than ch) (sym (ap (copy_channel past) same) ∙ on) ∙ itself ch))
    (λ t. (others_stay past later d a e (ap (λ (x : Message). actor_of x == a) m ∙ t)).channel
    ∙ sym (other_is ch (copy_channel past a) (λ held. never t (apart actor a on held))))
  where
    never : (actor == a) ≡ false → actor ≡ a → ⊥
    never t same = let no : false ≡ true = sym t ∙ eq-eqb actor a same in absurd (cc)

-- ---- payloads that say nothing of channels

pub updated_channels : (past later : Past) (d : Delivered) (actor : ℕ) (class : Class)
    (values : List Pair) (a : ℕ) → Applied past later d → d.message ≡ Updates actor class values
    → copy_channel later a ≡ copy_channel past a
updated_channels past later d actor class values a e m =
    by_actor actor a
    (λ t. let same = eqb-true actor a t in
    sym (ap (copy_channel later) same) ∙ update_channel past later d actor class values e m
    ∙ ap (copy_channel past) same)
    (λ t. (others_stay past later d a e (ap (λ (x : Message). actor_of x == a) m ∙ t)).channel)

pub called_channels : (past later : Past) (d : Delivered) (actor number : ℕ) (call : Call)
    (args : List Arg) (a : ℕ) → Applied past later d → d.message ≡ Calls actor number call args
    → copy_channel later a ≡ copy_channel past a
called_channels past later d actor number call args a e m =
    (calls_stay past later d actor number call args a e m).channel

right_of : (a b : Bool) → (a && b) ≡ true → b ≡ true
right_of true b h = h
right_of false b h = absurd (cc)

pub no_channel : (o : Option ℕ) → is_none o ≡ true → o ≡ None
no_channel None h = refl
no_channel (Some n) h = absurd (cc)

-- a copy that sleeps has no channel
pub asleep_channel : (past : Past) (actor : ℕ) → is_sleeping_copy past actor ≡ true
    → copy_channel past actor ≡ None
asleep_channel past actor h =
    no_channel (copy_channel past actor) (right_of (has_copy past actor) _ h)

pub gone_channels : (past later : Past) (d : Delivered) (actor a : ℕ) → Applied past later d
    → d.message ≡ Gone actor → copy_channel past actor ≡ None
    → copy_channel later a ≡ copy_channel past a
gone_channels past later d actor a e m none =
    by_actor actor a
    (λ t. let same = eqb-true actor a t in
    sym (ap (copy_channel later) same) ∙ channel_none past later d actor e (gone_removes d actor m)
    ∙ sym none ∙ ap (copy_channel past) same)
    (λ t. (others_stay past later d a e (ap (λ (x : Message). actor_of x == a) m ∙ t)).channel)

-- ---- channels that have a spelling

pub low_same : (version : Version) (past later : Past)
    → ((a : ℕ) → copy_channel later a ≡ copy_channel past a) → AreLow version past
    → AreLow version later
low_same version past later same low = λ a ch on. low a ch (sym (same a) ∙ on)

pub low_opened : (version : Version) (past later : Past) (actor on : ℕ)
    → ((a : ℕ) → copy_channel later a ≡ cond (a == actor) (Some on) (copy_channel past a))
    → on < channel_limit version → AreLow version past → AreLow version later
low_opened version past later actor on after fits low = λ a ch held. by (a == actor) a ch (sym (after a) ∙ held)
  where
    by : (b : Bool) (a ch : ℕ) → cond b (Some on) (copy_channel past a) ≡ Some ch
        → ch < channel_limit version
    by true a ch e = subst (λ (n : ℕ). n < channel_limit version) (same_Some on ch e) fits
    by false a ch e = low a ch e

pub low_closed : (version : Version) (past later : Past) (ch : ℕ)
    → ((a : ℕ) → copy_channel later a ≡ other_than ch (copy_channel past a)) → AreLow version past
    → AreLow version later
low_closed version past later ch after low = λ a n held.
    low a n (was (copy_channel past a) n (sym (after a) ∙ held))
  where
    was : (o : Option ℕ) (n : ℕ) → other_than ch o ≡ Some n → o ≡ Some n
    was None n e = e
    was (Some held) n e = by (held == ch) e
      where
        by : (b : Bool) → cond b None (Some held) ≡ Some n → Some held ≡ Some n
        by true e = absurd (cc)
        by false e = e
