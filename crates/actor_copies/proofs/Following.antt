-- Whatever was handed on, the copies to which it is applied stand for the past with it.
use Rattle.std.proofs.Common.{◌≡◌, ℕ, pos, ◌<◌, ◌==◌, List, [], length, Bool, true, false, Option, Some, None, is_some, unwrap_or, option_map, refl, sym, ap, ◌∙◌, subst}
use Rattle.std.proofs.lemmas.Bool.{eqb-true}
use Rattle.std.proofs.lemmas.Option.{same_Some}
use Rattle.protocol_model.specs.Value as Model
use Rattle.protocol_model.specs.World.{class_at}
use Rattle.protocol_model.specs.Payload.{Message, Closes, Calls, Gone, actor_of}
use Rattle.table_model.specs.Facts.{IsTable}
use Rattle.connection_model.specs.Feed.{Past, Delivered}
use Rattle.protocol_model.specs.Search.{newest_of, items_since}
use Rattle.connection_model.specs.Copies.{delivered_of, removes, class_opened, channel_said, value_applied, is_on}
use Rattle.class_layout.specs.Tables.{Layout, entries_in, table_in}
use Rattle.value_codec.specs.declared.pair.Pair.{Pair}
use Rattle.payload_laws.specs.Applied.{Stays}
use Rattle.payload_laws.proofs.CopiesAfter.{calls_stay}
use Rattle.actor_copies.specs.declared.copy.ActorCopy.{ActorCopy}
use Rattle.actor_copies.specs.declared.copy.ReadOpen.{ReadOpen}
use Rattle.actor_copies.specs.Applied.{IsNew, WasOpened, WasHanded, Follow, update_message}
use Rattle.actor_copies.specs.Copies.{copy_of, copy_value_of}
use Rattle.actor_copies.specs.Kept.{copy_actor, kept_of, kept_on, ArePlaced, changed, Becomes}
use Rattle.actor_copies.specs.Keyed.{Put}
use Rattle.actor_copies.specs.Stands.{actor_key, Shows, Stands}
use Rattle.actor_copies.proofs.Cleaning.{HasCopies, clean_after, clean_first, clean_still}
use Rattle.actor_copies.proofs.CopySteps.{no_copy, stays_same, others_same, gone}
use Rattle.actor_copies.proofs.Indexes.{on_is}
use Rattle.actor_copies.proofs.Keyed.{all_at, all_found, put_all, key_of, first_passes, mapped_back}
use Rattle.actor_copies.proofs.Knowing.{class_kept, class_known}
use Rattle.actor_copies.proofs.Mirroring.{is_kept, update_shows, sleep_shows, close_shows, gone_shows}
use Rattle.actor_copies.proofs.Opening.{reopen_by, open_by}

-- ---- opens

pub reopen_follows : (layout : Layout) (old new : List ActorCopy) (o : ReadOpen) (ch : ℕ) (x : ActorCopy)
    → IsTable (entries_in layout) → ArePlaced (length layout.classes) old → o.class < length layout.classes
    → kept_of old o.actor ≡ Some x → Put copy_actor o.actor (Some (changed x (Some ch) o.values)) old new
    → Follow layout old new (WasOpened layout ch o)
reopen_follows layout old new o ch x table placed l e put = λ past later stands was. record {
  shows = reopen_by layout old new o ch x table placed l e put past later was.handed was.exports stands.shows
      was.applied was.message was.channel was.same;
  clean = clean_after past later was.handed stands.clean was.applied
      (subst (HasCopies past) (sym was.message) tt);
}

pub open_follows : (layout : Layout) (old new : List ActorCopy) (o : ReadOpen) (ch : ℕ) (c : ActorCopy)
    → IsNew layout ch o c → kept_of old o.actor ≡ None → Put copy_actor c.actor (Some c) old new
    → Follow layout old new (WasOpened layout ch o)
open_follows layout old new o ch c n none put = λ past later stands was. record {
  shows = open_by layout old new o ch c n none put past later was.handed was.exports stands.shows stands.clean
      was.applied was.message was.channel;
  clean = clean_after past later was.handed stands.clean was.applied
      (subst (HasCopies past) (sym was.message) tt);
}

-- ---- the copy that holds a channel

-- it is that of its actor, and has the channel
pub holding : (layout : Layout) (copies : List ActorCopy) (past : Past) (ch : ℕ) (x : ActorCopy)
    → Shows layout copies past → kept_on copies ch ≡ Some x
    → (kept_of copies x.actor ≡ Some x) × (Some ch ≡ x.channel)
holding layout copies past ch x shows e =
    let first = first_passes copy_actor (λ c. is_on ch c.channel) 0 copies x
    (mapped_back (copy_value_of layout) copy_actor actor_key (λ c. refl) 0 copies shows.ascends) e in
    (first.2, sym (on_is ch x.channel first.0))

pub update_follows : (layout : Layout) (old new : List ActorCopy) (ch : ℕ) (x : ActorCopy) (pairs : List Pair)
    → kept_on old ch ≡ Some x → Put copy_actor x.actor (Some (changed x (Some ch) pairs)) old new
    → Follow layout old new (WasHanded (update_message layout x pairs))
update_follows layout old new ch x pairs e put = λ past later stands was.
    (let held = holding layout old past ch x stands.shows e in record {
      shows = update_shows layout old new past later was.handed x.actor x pairs stands.shows held.0 was.applied
          was.message
          (subst (λ (on : Option ℕ). Put copy_actor x.actor (Some (changed x on pairs)) old new) held.1 put);
      clean = clean_after past later was.handed stands.clean was.applied
          (subst (HasCopies past) (sym was.message)
          (class_at (table_in layout) x.class, (is_kept layout old past x.actor x stands.shows held.0).class));
    })

pub sleep_follows : (layout : Layout) (old new : List ActorCopy) (ch : ℕ) (x : ActorCopy)
    → kept_on old ch ≡ Some x → Put copy_actor x.actor (Some (changed x None [])) old new
    → Follow layout old new (WasHanded (Closes x.actor true))
sleep_follows layout old new ch x e put = λ past later stands was. record {
  shows = sleep_shows layout old new past later was.handed x.actor x stands.shows
      (holding layout old past ch x stands.shows e).0 was.applied was.message put;
  clean = clean_after past later was.handed stands.clean was.applied
      (subst (HasCopies past) (sym was.message) tt);
}

pub close_follows : (layout : Layout) (old new : List ActorCopy) (x : ActorCopy)
    → Put copy_actor x.actor None old new → Follow layout old new (WasHanded (Closes x.actor false))
close_follows layout old new x put = λ past later stands was. record {
  shows = close_shows layout old new past later was.handed x.actor stands.shows was.applied was.message put;
  clean = clean_after past later was.handed stands.clean was.applied
      (subst (HasCopies past) (sym was.message) tt);
}

-- where a copy was, it became this
pub becomes_put : (old new : List ActorCopy) (o : Option ActorCopy) (item : ActorCopy → Option ActorCopy)
    (x : ActorCopy) → Becomes old new o item → o ≡ Some x → Put copy_actor x.actor (item x) old new
becomes_put old new o item x b e = subst (λ (o : Option ActorCopy). Becomes old new o item) e b

-- ---- Gones and calls

gone_there : (layout : Layout) (old new : List ActorCopy) (actor : ℕ) → Put copy_actor actor None old new
    → Follow layout old new (WasHanded (Gone actor))
gone_there layout old new actor put = λ past later stands was. record {
  shows = gone_shows layout old new past later was.handed actor stands.shows was.applied was.message put;
  clean = clean_after past later was.handed stands.clean was.applied
      (subst (HasCopies past) (sym was.message) tt);
}

all_same : (layout : Layout) (copies : List ActorCopy) (past later : Past) → Shows layout copies past
    → ((a : ℕ) → copy_of later a ≡ copy_of past a) → Shows layout copies later
all_same layout copies past later shows same =
    record { ascends = shows.ascends; each = λ a. shows.each a ∙ sym (same a) }

-- a Gone of an actor without a copy changes nothing
gone_missing : (layout : Layout) (copies : List ActorCopy) (actor : ℕ) → kept_of copies actor ≡ None
    → Follow layout copies copies (WasHanded (Gone actor))
gone_missing layout copies actor none = λ past later stands was. record {
  shows = all_same layout copies past later stands.shows
      (λ a. missing past later stands.shows was a (actor == a) refl);
  clean = clean_after past later was.handed stands.clean was.applied
      (subst (HasCopies past) (sym was.message) tt);
}
  where
    before : (past : Past) → Shows layout copies past → copy_of past actor ≡ None
    before past shows =
        no_copy past actor
        (sym (class_known layout copies past actor shows) ∙ ap (option_map (class_kept layout)) none)

    missing : (past later : Past) → Shows layout copies past → WasHanded (Gone actor) past later
        → (a : ℕ) (t : Bool) → (actor == a) ≡ t → copy_of later a ≡ copy_of past a
    missing past later shows was a true e =
        let is = eqb-true actor a e in
        ap (copy_of later) (sym is) ∙ gone past later was.handed actor was.applied was.message
        ∙ sym (before past shows) ∙ ap (copy_of past) is
    missing past later shows was a false e =
        others_same past later was.handed a was.applied
        (ap (λ (m : Message). actor_of m == a) was.message ∙ e)

pub gone_follows : (layout : Layout) (old new : List ActorCopy) (actor : ℕ)
    → Becomes old new (kept_of old actor) (λ x. None) → Follow layout old new (WasHanded (Gone actor))
gone_follows layout old new actor b = by (kept_of old actor) refl b
  where
    by : (o : Option ActorCopy) → kept_of old actor ≡ o → Becomes old new o (λ x. None)
        → Follow layout old new (WasHanded (Gone actor))
    by None e same =
        subst (λ (copies : List ActorCopy). Follow layout old copies (WasHanded (Gone actor))) (sym same)
        (gone_missing layout old actor e)
    by (Some x) e put =
        gone_there layout old new actor
        (subst (λ (a : ℕ). Put copy_actor a None old new) (key_of copy_actor old actor x e) put)

-- a call changes nothing
pub call_follows : (layout : Layout) (copies : List ActorCopy) (actor number : ℕ) (call : Model.Call)
    (args : List Model.Arg) → Follow layout copies copies (WasHanded (Calls actor number call args))
call_follows layout copies actor number call args = λ past later stands was. record {
  shows = all_same layout copies past later stands.shows
      (λ a. stays_same past later a
      (calls_stay past later was.handed actor number call args a was.applied was.message));
  clean = clean_after past later was.handed stands.clean was.applied
      (subst (HasCopies past) (sym was.message) tt);
}

-- ---- where nothing was handed on

stays : (past later : Past) (a : ℕ) → delivered_of later ≡ delivered_of past → Stays past later a
stays past later a e = record {
  class = ap (λ (ds : List Delivered). newest_of (class_opened a) (items_since (removes a) ds)) e;
  channel =
      ap (λ (ds : List Delivered). unwrap_or (newest_of (channel_said a) (items_since (removes a) ds)) None) e;
  value = λ h. ap (λ (ds : List Delivered). unwrap_or (newest_of (value_applied a h) (items_since (removes a) ds))
      (unwrap_or (option_map (λ (class : Model.Class). Model.initial_value class h)
      (newest_of (class_opened a) (items_since (removes a) ds))) (pos 0))) e;
}

pub stands_first : (layout : Layout) → Stands layout [] []
stands_first layout =
    record { shows = record { ascends = tt; each = λ a. refl }; clean = clean_first }

pub stands_still : (layout : Layout) (copies : List ActorCopy) (past later : Past)
    → delivered_of later ≡ delivered_of past → Stands layout copies past → Stands layout copies later
stands_still layout copies past later e stands = record {
  shows = all_same layout copies past later stands.shows (λ a. stays_same past later a (stays past later a e));
  clean = clean_still past later e stands.clean;
}

-- ---- the classes of the copies are those of the table

pub placed_new : (count : ℕ) (old new : List ActorCopy) (actor : ℕ) (c : ActorCopy) → ArePlaced count old
    → c.class < count → Put copy_actor actor (Some c) old new → ArePlaced count new
placed_new count old new actor c placed l put =
    put_all (λ (c : ActorCopy). c.class < count) copy_actor actor (Some c) old new placed put
    (λ y h. subst (λ (c : ActorCopy). c.class < count) (same_Some c y h) l)

-- a copy that became another goes on with its class
pub placed_after : (count : ℕ) (old new : List ActorCopy) (o : Option ActorCopy)
    (item : ActorCopy → Option ActorCopy) → ((x c : ActorCopy) → item x ≡ Some c → c.class ≡ x.class)
    → ArePlaced count old → ((x : ActorCopy) → o ≡ Some x → x.class < count) → Becomes old new o item
    → ArePlaced count new
placed_after count old new None item same placed within b = subst (ArePlaced count) (sym b) placed
placed_after count old new (Some x) item same placed within b = by (item x) refl b
  where
    by : (o : Option ActorCopy) → item x ≡ o → Put copy_actor x.actor o old new → ArePlaced count new
    by None e put =
        put_all (λ (c : ActorCopy). c.class < count) copy_actor x.actor None old new placed put
        (λ y h. absurd (cc))
    by (Some c) e put =
        placed_new count old new x.actor c placed
        (subst (λ (n : ℕ). n < count) (sym (same x c e)) (within x refl)) put

pub class_on : (count : ℕ) (copies : List ActorCopy) (ch : ℕ) (x : ActorCopy) → ArePlaced count copies
    → kept_on copies ch ≡ Some x → x.class < count
class_on count copies ch x placed e =
    all_found (λ (c : ActorCopy). c.class < count) (λ c. is_on ch c.channel) copies x placed e

pub class_of_actor : (count : ℕ) (copies : List ActorCopy) (a : ℕ) (x : ActorCopy) → ArePlaced count copies
    → kept_of copies a ≡ Some x → x.class < count
class_of_actor count copies a x placed e =
    all_at (λ (c : ActorCopy). c.class < count) copy_actor copies a x placed e

pub no_copy_on : (x c : ActorCopy) → ◌≡◌ {A = Option ActorCopy} None (Some c) → c.class ≡ x.class
no_copy_on x c e = absurd (cc)

pub changed_class : (on : Option ℕ) (pairs : List Pair) (x c : ActorCopy) → Some (changed x on pairs) ≡ Some c
    → c.class ≡ x.class
changed_class on pairs x c e = ap (λ (c : ActorCopy). c.class) (sym (same_Some (changed x on pairs) c e))

-- ---- an open, as the code does it

there : (o : Option ActorCopy) → is_some o ≡ true → (x : ActorCopy) × (o ≡ Some x)
there None h = absurd (cc)
there (Some x) h = (x, refl)

lacking : (o : Option ActorCopy) → is_some o ≡ false → o ≡ None
lacking None h = refl
lacking (Some x) h = absurd (cc)

-- the actor's copy wakes
pub woken_follows : (layout : Layout) (old new : List ActorCopy) (o : ReadOpen) (ch : ℕ) (pairs : List Pair)
    → IsTable (entries_in layout) → ArePlaced (length layout.classes) old → o.class < length layout.classes
    → pairs ≡ o.values → is_some (kept_of old o.actor) ≡ true
    → Becomes old new (kept_of old o.actor) (λ x. Some (changed x (Some ch) pairs))
    → Follow layout old new (WasOpened layout ch o) × ArePlaced (length layout.classes) new
woken_follows layout old new o ch pairs table placed l is some b = (
  reopen_follows layout old new o ch x.0 table placed l x.1 put,
  placed_after (length layout.classes) old new (kept_of old o.actor) (λ x. Some (changed x (Some ch) pairs))
      (changed_class (Some ch) pairs) placed
      (λ x e. class_of_actor (length layout.classes) old o.actor x placed e) b,
)
  where
    x : (x : ActorCopy) × (kept_of old o.actor ≡ Some x)
    x = there (kept_of old o.actor) some

    put : Put copy_actor o.actor (Some (changed x.0 (Some ch) o.values)) old new
    put =
        subst (λ (a : ℕ). Put copy_actor a (Some (changed x.0 (Some ch) o.values)) old new)
        (key_of copy_actor old o.actor x.0 x.1)
        (subst (λ (pairs : List Pair). Put copy_actor x.0.actor (Some (changed x.0 (Some ch) pairs)) old new) is
        (becomes_put old new (kept_of old o.actor) (λ x. Some (changed x (Some ch) pairs)) x.0 b x.1))

-- the actor has a new copy
pub new_follows : (layout : Layout) (old new : List ActorCopy) (o : ReadOpen) (ch : ℕ) (c : ActorCopy)
    → IsNew layout ch o c → ArePlaced (length layout.classes) old → o.class < length layout.classes
    → is_some (kept_of old o.actor) ≡ false → Put copy_actor c.actor (Some c) old new
    → Follow layout old new (WasOpened layout ch o) × ArePlaced (length layout.classes) new
new_follows layout old new o ch c n placed l some put = (
  open_follows layout old new o ch c n (lacking (kept_of old o.actor) some) put,
  placed_new (length layout.classes) old new c.actor c placed
      (subst (λ (k : ℕ). k < length layout.classes) (sym n.class) l) put,
)
