-- What one more payload does to who holds a channel.
use Rattle.std.proofs.Common.{◌≡◌, ℕ, ◌==◌, List, Bool, true, false, not, Option, Some, None, is_some, unwrap_or, refl, sym, ap, ◌∙◌}
use Rattle.std.proofs.lemmas.Bool.{eqb-true, eq-eqb}
use Rattle.protocol_model.specs.Search.{newest_of, items_since}
use Rattle.protocol_model.specs.Value.{Segment, Class, Call, Arg, Pair}
use Rattle.protocol_model.specs.Payload.{Message, Opens, Closes, Updates, Calls, Gone, actor_of}
use Rattle.connection_model.specs.Feed.{Past, Delivered}
use Rattle.connection_model.specs.Copies.{delivered_of, removes, channel_said, copy_channel, copy_on}
use Rattle.connection_model.specs.PayloadReading.{is_elsewhere}
use Rattle.receiving_laws.specs.Holders.{holder_said, is_copied_on}
use Rattle.connection_laws.proofs.Searches.{newest_hit, newest_miss}
use Rattle.payload_laws.specs.Applied.{Applied}
use Rattle.payload_laws.proofs.CopiesAfter.{open_channel, update_channel, sleep_channel, others_stay, calls_stay, gone_removes, closes_removes}
use Rattle.client_laws.specs.Holding.{Agrees}
use Rattle.client_laws.proofs.Channels.{Apart, holds_on, holder_on, none_on, holder_same}

-- ---- what was said of a channel

said_there : (past later : Past) (d : Delivered) (ch : ℕ) (b : Bool) → Applied past later d
    → holder_said ch d ≡ Some b → is_copied_on later ch ≡ b
said_there past later d ch b e h =
    ap (λ (ds : List Delivered). unwrap_or (newest_of (holder_said ch) ds) false) e
    ∙ ap (λ (o : Option Bool). unwrap_or o false) (newest_hit (holder_said ch) d (delivered_of past) b h)

said_before : (past later : Past) (d : Delivered) (ch : ℕ) → Applied past later d → holder_said ch d ≡ None
    → is_copied_on later ch ≡ is_copied_on past ch
said_before past later d ch e h =
    ap (λ (ds : List Delivered). unwrap_or (newest_of (holder_said ch) ds) false) e
    ∙ ap (λ (o : Option Bool). unwrap_or o false) (newest_miss (holder_said ch) d (delivered_of past) h)

-- a removed copy has no channel
removed_channel : (past later : Past) (d : Delivered) (a : ℕ) → Applied past later d → removes a d ≡ true
    → copy_channel later a ≡ None
removed_channel past later d a e h =
    ap (λ (ds : List Delivered). unwrap_or (newest_of (channel_said a) (items_since (removes a) ds)) None) e
    ∙ rw h refl

one_actor : (x y : ℕ) → (let o : Option ℕ = Some x in o) ≡ Some y → x ≡ y
one_actor x y e = cc

not_none : {B : Type 0} (x : ℕ) → (let o : Option ℕ = None in o) ≡ Some x → B
not_none x e = absurd (cc)

differ : {B : Type 0} → true ≡ false → B
differ e = absurd (cc)

-- what a payload leaves: its channel held as it says, and all in agreement
pub record Leaves (past later : Past) (ch : ℕ) (copied : Bool) : Type 0 where
  pub agrees : Agrees later
  pub here : is_copied_on later ch ≡ copied
  pub others : (c : ℕ) → (ch == c) ≡ false → is_copied_on later c ≡ is_copied_on past c

-- ---- nothing said of channels

pub silent_leaves : (past later : Past) (d : Delivered) (ch : ℕ) → Agrees past → Applied past later d
    → ((a : ℕ) → copy_channel later a ≡ copy_channel past a) → ((c : ℕ) → holder_said c d ≡ None)
    → Leaves past later ch (is_copied_on past ch)
silent_leaves past later d ch agrees e same none = record {
  agrees = record {
    holder =
        λ c. ap is_some
        (holder_same past later c apart (λ a h. same a ∙ h) (λ a h. sym (same a) ∙ h) agrees.apart) ∙
        agrees.holder c ∙ sym (said_before past later d c e (none c));
    apart = apart;
  };
  here = said_before past later d ch e (none ch);
  others = λ c o. said_before past later d c e (none c);
}
  where
    apart : Apart later
    apart c a b h k = agrees.apart c a b (sym (same a) ∙ h) (sym (same b) ∙ k)

-- ---- an open

asleep : (past : Past) (ch actor : ℕ) (o : Option ℕ) → Apart past → copy_channel past actor ≡ o
    → copy_on past ch ≡ None → is_elsewhere ch o ≡ false → o ≡ None
asleep past ch actor None apart e free here = refl
asleep past ch actor (Some c) apart e free here =
    not_none actor (sym free ∙ holds_on past ch actor apart
    (e ∙ ap (λ (n : ℕ). Some n) (eqb-true c ch (back (c == ch) here))))
  where
    back : (b : Bool) → not b ≡ false → b ≡ true
    back true h = refl
    back false h = differ h

-- the actor's channel changes, and no other's
record Moves (past later : Past) (actor : ℕ) (to : Option ℕ) : Type 0 where
  here : copy_channel later actor ≡ to
  others : (a : ℕ) → (actor == a) ≡ false → copy_channel later a ≡ copy_channel past a

opened_apart : (past later : Past) (ch actor : ℕ) → Agrees past → Moves past later actor (Some ch)
    → copy_on past ch ≡ None → Apart later
opened_apart past later ch actor agrees m free c a b h k = by (actor == a) refl (actor == b) refl
  where
    clash : {B : Type 0} (x y : ℕ) → actor ≡ x → copy_channel later x ≡ Some c → (actor == y) ≡ false
        → copy_channel later y ≡ Some c → B
    clash x y is h o k =
        let at : ch ≡ c = one_actor ch c (sym m.here ∙ ap (copy_channel later) is ∙ h) in
        not_none y (sym free ∙ holds_on past ch y agrees.apart
        (sym (m.others y o) ∙ k ∙ ap (λ (n : ℕ). Some n) (sym at)))

    by : (s : Bool) → (actor == a) ≡ s → (t : Bool) → (actor == b) ≡ t → a ≡ b
    by true e true f = sym (eqb-true actor a e) ∙ eqb-true actor b f
    by true e false f = clash a b (eqb-true actor a e) h f k
    by false e true f = clash b a (eqb-true actor b f) k e h
    by false e false f = agrees.apart c a b (sym (m.others a e) ∙ h) (sym (m.others b f) ∙ k)

opened_same : (past later : Past) (ch actor c : ℕ) → Agrees past → Moves past later actor (Some ch)
    → copy_channel past actor ≡ None → copy_on past ch ≡ None → (ch == c) ≡ false
    → copy_on later c ≡ copy_on past c
opened_same past later ch actor c agrees m none free other =
    holder_same past later c (opened_apart past later ch actor agrees m free)
    (λ a h. on a h (actor == a) refl) (λ a h. off a h (actor == a) refl) agrees.apart
  where
    on : (a : ℕ) → copy_channel past a ≡ Some c → (t : Bool) → (actor == a) ≡ t
        → copy_channel later a ≡ Some c
    on a h true e = not_none c (sym none ∙ ap (copy_channel past) (eqb-true actor a e) ∙ h)
    on a h false e = m.others a e ∙ h

    off : (a : ℕ) → copy_channel later a ≡ Some c → (t : Bool) → (actor == a) ≡ t
        → copy_channel past a ≡ Some c
    off a h true e =
        let at : ch ≡ c = one_actor ch c (sym m.here ∙ ap (copy_channel later) (eqb-true actor a e) ∙ h) in
        differ (sym (eq-eqb ch c at) ∙ other)
    off a h false e = sym (m.others a e) ∙ h

pub opens_leaves : (past later : Past) (d : Delivered) (exports : List Segment) (actor : ℕ) (class : Class)
    (values : List Pair)
    → Agrees past → Applied past later d
    → d.message ≡ Opens exports actor class values → is_copied_on past d.channel ≡ false
    → is_elsewhere d.channel (copy_channel past actor) ≡ false
    → Leaves past later d.channel true
opens_leaves past later d exports actor class values agrees e m free here = record {
  agrees = record { holder = λ c. holder c (ch == c) refl; apart = apart };
  here = said_there past later d ch true e (said ch (eq-eqb ch ch refl));
  others = λ c o. said_before past later d c e (rw (m, o) refl);
}
  where
    ch : ℕ
    ch = d.channel

    moves : Moves past later actor (Some ch)
    moves = record {
      here = open_channel past later d exports actor class values e m;
      others = λ a o. (others_stay past later d a e (ap (λ (m : Message). actor_of m == a) m ∙ o)).channel;
    }

    vacant : copy_on past ch ≡ None
    vacant = empty (copy_on past ch) (agrees.holder ch ∙ free)
      where
        empty : (o : Option ℕ) → is_some o ≡ false → o ≡ None
        empty None h = refl
        empty (Some a) h = differ h

    none : copy_channel past actor ≡ None
    none = asleep past ch actor (copy_channel past actor) agrees.apart refl vacant here

    apart : Apart later
    apart = opened_apart past later ch actor agrees moves vacant

    said : (c : ℕ) → (ch == c) ≡ true → holder_said c d ≡ Some true
    said c o = rw (m, o) refl

    holder : (c : ℕ) → (t : Bool) → (ch == c) ≡ t → is_some (copy_on later c) ≡ is_copied_on later c
    holder c true o =
        let at : copy_channel later actor ≡ Some c = moves.here ∙ ap (λ (n : ℕ). Some n) (eqb-true ch c o) in
        ap is_some (holds_on later c actor apart at) ∙ sym (said_there past later d c true e (said c o))
    holder c false o =
        ap is_some (opened_same past later ch actor c agrees moves none vacant o) ∙ agrees.holder c
        ∙ sym (said_before past later d c e (rw (m, o) refl))

-- ---- a close

pub closes_leaves : (past later : Past) (d : Delivered) (actor : ℕ) (sleeps : Bool) → Agrees past
    → Applied past later d
    → d.message ≡ Closes actor sleeps → copy_on past d.channel ≡ Some actor
    → Leaves past later d.channel false
closes_leaves past later d actor sleeps agrees e m held = record {
  agrees = record { holder = λ c. holder c (ch == c) refl; apart = apart };
  here = said_there past later d ch false e (said ch (eq-eqb ch ch refl));
  others = λ c o. said_before past later d c e (rw (m, o) refl);
}
  where
    ch : ℕ
    ch = d.channel

    said : (c : ℕ) → (ch == c) ≡ true → holder_said c d ≡ Some false
    said c o = rw (m, o) refl

    gone : (sleeps : Bool) → d.message ≡ Closes actor sleeps → copy_channel later actor ≡ None
    gone true m = sleep_channel past later d actor e m
    gone false m = removed_channel past later d actor e (closes_removes d actor m)

    others : (a : ℕ) → (actor == a) ≡ false → copy_channel later a ≡ copy_channel past a
    others a o = (others_stay past later d a e (ap (λ (m : Message). actor_of m == a) m ∙ o)).channel

    -- whatever has a channel had it
    had : (a c : ℕ) → copy_channel later a ≡ Some c → (t : Bool) → (actor == a) ≡ t
        → (copy_channel past a ≡ Some c) × ((actor == a) ≡ false)
    had a c h true o = not_none c (sym (gone sleeps m) ∙ ap (copy_channel later) (eqb-true actor a o) ∙ h)
    had a c h false o = (sym (others a o) ∙ h, o)

    apart : Apart later
    apart c a b h k = agrees.apart c a b (had a c h (actor == a) refl).0 (had b c k (actor == b) refl).0

    none : (c : ℕ) → ch ≡ c → copy_on later c ≡ None
    none c at = none_on later c (λ a h.
        (let w = had a c h (actor == a) refl in
        let is : actor ≡ a = one_actor actor a
        (sym held ∙ holds_on past ch a agrees.apart (w.0 ∙ ap (λ (n : ℕ). Some n) (sym at))) in
        differ (sym (eq-eqb actor a is) ∙ w.1)))

    on : (c a : ℕ) → (ch == c) ≡ false → copy_channel past a ≡ Some c → (t : Bool) → (actor == a) ≡ t
        → copy_channel later a ≡ Some c
    on c a o h true q =
        let at : ch ≡ c = one_actor ch c
        (sym (holder_on past ch actor held) ∙ ap (copy_channel past) (eqb-true actor a q) ∙ h) in
        differ (sym (eq-eqb ch c at) ∙ o)
    on c a o h false q = others a q ∙ h

    holder : (c : ℕ) → (t : Bool) → (ch == c) ≡ t → is_some (copy_on later c) ≡ is_copied_on later c
    holder c true o =
        ap is_some (none c (eqb-true ch c o)) ∙ sym (said_there past later d c false e (said c o))
    holder c false o =
        ap is_some (holder_same past later c apart (λ a h. on c a o h (actor == a) refl)
        (λ a h. (had a c h (actor == a) refl).0) agrees.apart) ∙ agrees.holder c
        ∙ sym (said_before past later d c e (rw (m, o) refl))

-- ---- the rest

pub gone_leaves : (past later : Past) (d : Delivered) (ch actor : ℕ) → Agrees past → Applied past later d
    → d.message ≡ Gone actor → copy_channel past actor ≡ None
    → Leaves past later ch (is_copied_on past ch)
gone_leaves past later d ch actor agrees e m none =
    silent_leaves past later d ch agrees e (λ a. same a (actor == a) refl) (λ c. rw m refl)
  where
    same : (a : ℕ) → (t : Bool) → (actor == a) ≡ t → copy_channel later a ≡ copy_channel past a
    same a true o =
        let is : actor ≡ a = eqb-true actor a o in ap (copy_channel later) (sym is)
        ∙ removed_channel past later d actor e (gone_removes d actor m) ∙ sym none
        ∙ ap (copy_channel past) is
    same a false o = (others_stay past later d a e (ap (λ (m : Message). actor_of m == a) m ∙ o)).channel

pub updates_leaves : (past later : Past) (d : Delivered) (ch actor : ℕ) (class : Class) (values : List Pair)
    → Agrees past → Applied past later d → d.message ≡ Updates actor class values
    → Leaves past later ch (is_copied_on past ch)
updates_leaves past later d ch actor class values agrees e m =
    silent_leaves past later d ch agrees e (λ a. same a (actor == a) refl) (λ c. rw m refl)
  where
    same : (a : ℕ) → (t : Bool) → (actor == a) ≡ t → copy_channel later a ≡ copy_channel past a
    same a true o =
        let is : actor ≡ a = eqb-true actor a o in ap (copy_channel later) (sym is)
        ∙ update_channel past later d actor class values e m ∙ ap (copy_channel past) is
    same a false o = (others_stay past later d a e (ap (λ (m : Message). actor_of m == a) m ∙ o)).channel

pub calls_leaves : (past later : Past) (d : Delivered) (ch actor number : ℕ) (call : Call) (args : List Arg)
    → Agrees past → Applied past later d → d.message ≡ Calls actor number call args
    → Leaves past later ch (is_copied_on past ch)
calls_leaves past later d ch actor number call args agrees e m =
    silent_leaves past later d ch agrees e
    (λ a. (calls_stay past later d actor number call args a e m).channel) (λ c. rw m refl)
