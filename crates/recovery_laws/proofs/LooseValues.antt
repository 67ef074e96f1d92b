-- The unreliable payloads of a packet against the items that it was sent with.
use Rattle.std.proofs.Common.{◌≡◌, ◌⊎◌, inl, inr, ℕ, List, [], ◌∷◌, ◌++◌, reverse, Bool, true, false, cond, not, ◌==◌, refl, sym, ap, ◌∙◌, subst, Option, Some, None, ℤ}
use Rattle.std.specs.List.{filter_map, cons_option, AllByRecursion}
use Rattle.std.specs.Bool.{then_some}
use Rattle.std.proofs.lemmas.Bool.{false≢true}
use Rattle.std.proofs.lemmas.List.{reverse-append}
use Rattle.protocol_model.specs.Payload.{Message, Opens, Closes, Updates, Calls, Gone}
use Rattle.protocol_model.specs.Packet.{Bunch}
use Rattle.connection_model.specs.Feed.{End, Past, Ticked, Made, Waits, Sent, Took, Ended, Item, Owed, Carries, Loose, Delivered}
use Rattle.connection_model.specs.Carry.{value_in_update}
use Rattle.connection_model.specs.Copies.{value_for}
use Rattle.connection_laws.specs.Run.{MaySend}
use Rattle.connection_laws.specs.Deeds.{DeedsFit}
use Rattle.connection_laws.proofs.Items.{all_reverse}
use Rattle.connection_laws.proofs.PacketsSay.{IsIn, in_left, in_right}
use Rattle.recovery_laws.specs.Faithful.{items_of, loose_in, handed_loosely}

-- ---- what a message says of a handle

-- the value that a message sets at the actor's handle
abbrev pub value_said : (actor handle : ℕ) → Message → Option ℤ
value_said a h m = elim m [
  | Opens exports actor class values ↦ value_for a h actor values
  | Updates actor class values ↦ value_for a h actor values
  | _ ↦ None
]

-- nothing, or this value
abbrev pub IsOneOf : (v : ℤ) → Option ℤ → Type 0
IsOneOf v o = (o ≡ None) ⊎ (o ≡ Some v)

-- ---- lists

-- a list turned round twice
pub reversed_twice : {A : Type 0} (xs : List A) → reverse (reverse xs) ≡ xs
reversed_twice [] = refl
reversed_twice {A} (x ∷ xs) = ap (λ (l : List A). reverse l) (reverse-append (x ∷ []) xs) ∙ reverse-append (reverse xs) (x ∷ []) ∙ ap (λ (l : List A). x ∷ l) (reversed_twice xs)

-- what is in a list is in it turned round
among_reverse : {A : Type 0} (x : A) (xs : List A) → IsIn x xs → IsIn x (reverse xs)
among_reverse x [] h = absurd h
among_reverse {A} x (y ∷ xs) (inl e) = subst (IsIn x) (sym (reverse-append (y ∷ []) xs)) (in_right x (reverse xs) (y ∷ []) (inl e))
among_reverse {A} x (y ∷ xs) (inr h) = subst (IsIn x) (sym (reverse-append (y ∷ []) xs)) (in_left x (reverse xs) (y ∷ []) (among_reverse x xs h))

-- ---- an unreliable item is an update or a call

-- an unreliable message neither opens nor closes
abbrev pub IsPlain : Message → Type 0
IsPlain (Opens exports actor class values) = ⊥
IsPlain (Closes actor sleeps) = ⊥
IsPlain (Gone actor) = ⊥
IsPlain (Updates actor class values) = Unit {0}
IsPlain (Calls actor number call args) = Unit {0}

-- so is that of an item
abbrev pub PlainItem : Item → Type 0
PlainItem (Owed number) = Unit {0}
PlainItem (Carries channel number bunch) = Unit {0}
PlainItem (Loose message bunch) = IsPlain message

-- an unreliable item is plain
plain_item : (end : End) (past : Past) (item : Item) → MaySend end past item → PlainItem item
plain_item end past (Owed number) h = tt
plain_item end past (Carries channel number bunch) h = tt
plain_item end past (Loose (Opens exports actor class values) bunch) h = absurd h.2
plain_item end past (Loose (Closes actor sleeps) bunch) h = absurd h.2
plain_item end past (Loose (Gone actor) bunch) h = absurd h.2
plain_item end past (Loose (Updates actor class values) bunch) h = tt
plain_item end past (Loose (Calls actor number call args) bunch) h = tt

-- so is each of a packet
plain_each : (end : End) (past : Past) (items : List Item) → AllByRecursion (MaySend end past) items → AllByRecursion PlainItem items
plain_each end past [] h = tt
plain_each end past (item ∷ items) h = (plain_item end past item h.0, plain_each end past items h.1)

-- so are those of each packet
pub items_plain : (end : End) (past : Past) → DeedsFit end past → (k : ℕ) → AllByRecursion PlainItem (items_of past k)
items_plain end [] fit k = tt
items_plain end (Ticked t s ∷ past) fit k = items_plain end past fit.1 k
items_plain end (Made c n m i ∷ past) fit k = items_plain end past fit.1 k
items_plain end (Waits m ∷ past) fit k = items_plain end past fit.1 k
items_plain end (Took n es ds ∷ past) fit k = items_plain end past fit.1 k
items_plain end (Ended g ∷ past) fit k = items_plain end past fit.1 k
items_plain end (Sent n t items ∷ past) fit k = by (n == k) (items_plain end past fit.1 k)
  where
    by : (b : Bool) → AllByRecursion PlainItem (items_of past k) → AllByRecursion PlainItem (cond b items (items_of past k))
    by true h = plain_each end past items fit.0.2.each
    by false h = h

-- the messages of plain items
pub loose_plain : (items : List Item) → AllByRecursion PlainItem items → AllByRecursion IsPlain (filter_map loose_in items)
loose_plain [] h = tt
loose_plain (Owed number ∷ items) h = loose_plain items h.1
loose_plain (Carries channel number bunch ∷ items) h = loose_plain items h.1
loose_plain (Loose message bunch ∷ items) h = (h.0, loose_plain items h.1)

-- say of a handle what the updates say
said_one : (a h : ℕ) (m : Message) (bunch : Bunch) → IsPlain m → value_said a h m ≡ value_in_update a h (Loose m bunch)
said_one a h (Opens exports actor class values) bunch p = absurd p
said_one a h (Closes actor sleeps) bunch p = absurd p
said_one a h (Gone actor) bunch p = absurd p
said_one a h (Updates actor class values) bunch p = refl
said_one a h (Calls actor number call args) bunch p = refl

-- what holds of an item's value holds of its message's
pub loose_say : (P : Option ℤ → Type 0) (a h : ℕ) (items : List Item) → AllByRecursion PlainItem items → AllByRecursion (λ (item : Item). P (value_in_update a h item)) items
    → AllByRecursion (λ (m : Message). P (value_said a h m)) (filter_map loose_in items)
loose_say P a h [] plain all = tt
loose_say P a h (Owed number ∷ items) plain all = loose_say P a h items plain.1 all.1
loose_say P a h (Carries channel number bunch ∷ items) plain all = loose_say P a h items plain.1 all.1
loose_say P a h (Loose message bunch ∷ items) plain all = (subst P (sym (said_one a h message bunch plain.0)) all.0, loose_say P a h items plain.1 all.1)

-- and one of them says what an item does
pub record SaysOne (a h : ℕ) (v : ℤ) (ms : List Message) : Type 0 where
  pub message : Message
  pub among : IsIn message ms
  pub says : value_said a h message ≡ Some v

-- where one item sets the handle, one message does
pub loose_one : (a h : ℕ) (v : ℤ) (before : List Item) (item : Item) (after : List Item) → AllByRecursion PlainItem (before ++ item ∷ after) → value_in_update a h item ≡ Some v → SaysOne a h v (filter_map loose_in (before ++ item ∷ after))
loose_one a h v [] (Owed number) after plain e = absurd (let no : (let o : Option ℤ = None in o) ≡ Some v = e in cc)
loose_one a h v [] (Carries channel number bunch) after plain e = absurd (let no : (let o : Option ℤ = None in o) ≡ Some v = e in cc)
loose_one a h v [] (Loose message bunch) after plain e = record { message = message; among = inl refl; says = said_one a h message bunch plain.0 ∙ e }
loose_one a h v (Owed number ∷ before) item after plain e = loose_one a h v before item after plain.1 e
loose_one a h v (Carries channel number bunch ∷ before) item after plain e = loose_one a h v before item after plain.1 e
loose_one a h v (Loose message bunch ∷ before) item after plain e = (let r = loose_one a h v before item after plain.1 e in record { message = r.message; among = inr r.among; says = r.says })

-- ---- what was handed on

-- what holds of the unreliable messages holds of the payloads
handed_if : (Q : Message → Type 0) (ds : List Delivered) → AllByRecursion Q (filter_map handed_loosely ds) → AllByRecursion (λ (d : Delivered). d.reliable ≡ false → Q d.message) ds
handed_if Q [] h = tt
handed_if Q (d ∷ ds) h = by d.reliable refl h (λ q. handed_if Q ds q)
  where
    by : (b : Bool) → d.reliable ≡ b → AllByRecursion Q (cons_option (then_some (not b) d.message) (filter_map handed_loosely ds))
        → (AllByRecursion Q (filter_map handed_loosely ds) → AllByRecursion (λ (d : Delivered). d.reliable ≡ false → Q d.message) ds) → AllByRecursion (λ (d : Delivered). d.reliable ≡ false → Q d.message) (d ∷ ds)
    by true e h ih = ((λ q. absurd (false≢true (sym q ∙ e))), ih h)
    by false e h ih = ((λ q. h.0), ih h.1)

-- what holds of the messages sent holds of those handed on
pub handed_all : (Q : Message → Type 0) (ds : List Delivered) (ms : List Message) → reverse (filter_map handed_loosely ds) ≡ ms → AllByRecursion Q ms → AllByRecursion (λ (d : Delivered). d.reliable ≡ false → Q d.message) ds
handed_all Q ds ms e h = handed_if Q ds (subst (AllByRecursion Q) (ap (λ (l : List Message). reverse l) (sym e) ∙ reversed_twice (filter_map handed_loosely ds)) (all_reverse Q ms h))

-- the message was handed on, and here it stands
pub record HandedOn (m : Message) (ds : List Delivered) : Type 0 where
  pub delivered : Delivered
  pub among : IsIn delivered ds
  pub unreliable : delivered.reliable ≡ false
  pub is : delivered.message ≡ m

-- each of them was handed on
handed_there : (m : Message) (ds : List Delivered) → IsIn m (filter_map handed_loosely ds) → HandedOn m ds
handed_there m [] h = absurd h
handed_there m (d ∷ ds) h = by d.reliable refl h (λ q. handed_there m ds q)
  where
    later : HandedOn m ds → HandedOn m (d ∷ ds)
    later r = record { delivered = r.delivered; among = inr r.among; unreliable = r.unreliable; is = r.is }

    here : d.reliable ≡ false → IsIn m (d.message ∷ filter_map handed_loosely ds) → (IsIn m (filter_map handed_loosely ds) → HandedOn m ds) → HandedOn m (d ∷ ds)
    here e (inl q) ih = record { delivered = d; among = inl refl; unreliable = e; is = q }
    here e (inr q) ih = later (ih q)

    by : (b : Bool) → d.reliable ≡ b → IsIn m (cons_option (then_some (not b) d.message) (filter_map handed_loosely ds)) → (IsIn m (filter_map handed_loosely ds) → HandedOn m ds) → HandedOn m (d ∷ ds)
    by true e h ih = later (ih h)
    by false e h ih = here e h ih

-- each message sent was handed on
pub handed_each : (ds : List Delivered) (ms : List Message) → reverse (filter_map handed_loosely ds) ≡ ms → (m : Message) → IsIn m ms → HandedOn m ds
handed_each ds ms e m h = handed_there m ds (subst (IsIn m) (reversed_twice (filter_map handed_loosely ds)) (among_reverse m (reverse (filter_map handed_loosely ds)) (subst (IsIn m) (sym e) h)))
