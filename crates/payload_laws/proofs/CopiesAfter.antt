-- What one more payload does to a client's copies and names.
use Rattle.std.proofs.Common.{◌≡◌, ℕ, ℤ, pos, ◌==◌, List, [], ◌∷◌, ◌++◌, Bool, true, false, ◌&&◌, Option, Some, None, unwrap_or, option_map, reverse, append-nil, refl, sym, ap, ◌∙◌}
use Rattle.std.specs.List.{fold, flat_map}
use Rattle.std.proofs.lemmas.List.{reverse-append}
use Rattle.std.proofs.lemmas.List.Concat.{flat_map-append}
use Rattle.std.proofs.lemmas.Bool.{eq-eqb}
use Rattle.protocol_model.specs.Search.{newest_of, items_since}
use Rattle.protocol_model.specs.Value.{Segment, Class, Call, Arg, Pair, value_among, initial_value}
use Rattle.protocol_model.specs.Payload.{Message, Opens, Closes, Updates, Calls, Gone, actor_of}
use Rattle.connection_model.specs.Feed.{Past, Delivered}
use Rattle.connection_model.specs.Names.{names_in, names_with, names_of}
use Rattle.connection_model.specs.Copies.{delivered_of, removes, since_removed, class_opened, copy_class, channel_said, copy_channel, value_applied, copy_value}
use Rattle.payload_laws.specs.Applied.{Applied, Stays}

-- ---- the newest item

-- the newest answer is the first item's, if it has one
newest_there : {A B : Type 0} (f : A → Option B) (x : A) (xs : List A) (y : B) → f x ≡ Some y → newest_of f (x ∷ xs) ≡ Some y
newest_there f x xs y e = rw e refl

-- else that of the others
newest_later : {A B : Type 0} (f : A → Option B) (x : A) (xs : List A) → f x ≡ None → newest_of f (x ∷ xs) ≡ newest_of f xs
newest_later f x xs e = rw e refl

-- ---- what was applied since

-- a payload that removes no copy is one more since the last removal
since_more : (past later : Past) (d : Delivered) (a : ℕ) → Applied past later d → removes a d ≡ false → since_removed later a ≡ d ∷ since_removed past a
since_more past later d a e r = ap (items_since (removes a)) e ∙ rw r refl

-- one that does leaves none
since_none : (past later : Past) (d : Delivered) (a : ℕ) → Applied past later d → removes a d ≡ true → since_removed later a ≡ []
since_none past later d a e r = ap (items_since (removes a)) e ∙ rw r refl

-- ---- a copy by what the payload says of it

-- a payload that opens sets the class
class_there : (past later : Past) (d : Delivered) (a : ℕ) (class : Class) → Applied past later d → removes a d ≡ false → class_opened a d ≡ Some class → copy_class later a ≡ Some class
class_there past later d a class e r c = ap (newest_of (class_opened a)) (since_more past later d a e r) ∙ newest_there (class_opened a) d (since_removed past a) class c

-- one that neither opens nor removes leaves it
class_same : (past later : Past) (d : Delivered) (a : ℕ) → Applied past later d → removes a d ≡ false → class_opened a d ≡ None → copy_class later a ≡ copy_class past a
class_same past later d a e r c = ap (newest_of (class_opened a)) (since_more past later d a e r) ∙ newest_later (class_opened a) d (since_removed past a) c

-- one that removes leaves none
class_none : (past later : Past) (d : Delivered) (a : ℕ) → Applied past later d → removes a d ≡ true → copy_class later a ≡ None
class_none past later d a e r = ap (newest_of (class_opened a)) (since_none past later d a e r)

-- a payload that says a channel sets it
channel_there : (past later : Past) (d : Delivered) (a : ℕ) (o : Option ℕ) → Applied past later d → removes a d ≡ false → channel_said a d ≡ Some o → copy_channel later a ≡ o
channel_there past later d a o e r c = ap (λ (x : Option (Option ℕ)). unwrap_or x None) (ap (newest_of (channel_said a)) (since_more past later d a e r) ∙ newest_there (channel_said a) d (since_removed past a) o c)

-- any other leaves it
channel_same : (past later : Past) (d : Delivered) (a : ℕ) → Applied past later d → removes a d ≡ false → channel_said a d ≡ None → copy_channel later a ≡ copy_channel past a
channel_same past later d a e r c = ap (λ (x : Option (Option ℕ)). unwrap_or x None) (ap (newest_of (channel_said a)) (since_more past later d a e r) ∙ newest_later (channel_said a) d (since_removed past a) c)

-- a copy that is removed has no channel
pub channel_none : (past later : Past) (d : Delivered) (a : ℕ) → Applied past later d → removes a d ≡ true → copy_channel later a ≡ None
channel_none past later d a e r = ap (λ (x : Option (Option ℕ)). unwrap_or x None) (ap (newest_of (channel_said a)) (since_none past later d a e r))

-- a payload that applies a value sets it
value_there : (past later : Past) (d : Delivered) (a h : ℕ) (v : ℤ) → Applied past later d → removes a d ≡ false → value_applied a h d ≡ Some v → copy_value later a h ≡ v
value_there past later d a h v e r c =
    ap (λ (x : Option ℤ). unwrap_or x (unwrap_or (option_map (λ (class : Class). initial_value class h) (copy_class later a)) (pos 0)))
    (ap (newest_of (value_applied a h)) (since_more past later d a e r) ∙ newest_there (value_applied a h) d (since_removed past a) v c)

-- any other leaves it
value_same : (past later : Past) (d : Delivered) (a h : ℕ) → Applied past later d → removes a d ≡ false → value_applied a h d ≡ None → copy_class later a ≡ copy_class past a → copy_value later a h ≡ copy_value past a h
value_same past later d a h e r c k =
    ap (λ (x : Option ℤ). unwrap_or x (unwrap_or (option_map (λ (class : Class). initial_value class h) (copy_class later a)) (pos 0)))
    (ap (newest_of (value_applied a h)) (since_more past later d a e r) ∙ newest_later (value_applied a h) d (since_removed past a) c)
    ∙ ap (λ (o : Option Class). unwrap_or (newest_of (value_applied a h) (since_removed past a)) (unwrap_or (option_map (λ (class : Class). initial_value class h) o) (pos 0))) k

-- ---- what each message says

-- a number is equal to itself
itself : (a : ℕ) → (a == a) ≡ true
itself a = eq-eqb a a refl

-- an open removes no copy
pub opens_keeps : (d : Delivered) (exports : List Segment) (actor : ℕ) (class : Class) (values : List Pair) (a : ℕ) → d.message ≡ Opens exports actor class values → removes a d ≡ false
opens_keeps d exports actor class values a m = rw m refl

opens_class : (d : Delivered) (exports : List Segment) (actor : ℕ) (class : Class) (values : List Pair) → d.message ≡ Opens exports actor class values → class_opened actor d ≡ Some class
opens_class d exports actor class values m = rw (m, itself actor) refl

opens_channel : (d : Delivered) (exports : List Segment) (actor : ℕ) (class : Class) (values : List Pair) → d.message ≡ Opens exports actor class values → channel_said actor d ≡ Some (Some d.channel)
opens_channel d exports actor class values m = rw (m, itself actor) refl

-- an open applies its own values
pub opens_value : (d : Delivered) (exports : List Segment) (actor : ℕ) (class : Class) (values : List Pair) (h : ℕ) → d.message ≡ Opens exports actor class values → value_applied actor h d ≡ value_among values h
opens_value d exports actor class values h m = rw (m, itself actor) refl

-- an update neither removes nor opens, and says no channel
updates_keeps : (d : Delivered) (actor : ℕ) (class : Class) (values : List Pair) (a : ℕ) → d.message ≡ Updates actor class values → (removes a d ≡ false) × (class_opened a d ≡ None) × (channel_said a d ≡ None)
updates_keeps d actor class values a m = (rw m refl, rw m refl, rw m refl)

-- it applies its own values
updates_value : (d : Delivered) (actor : ℕ) (class : Class) (values : List Pair) (h : ℕ) → d.message ≡ Updates actor class values → value_applied actor h d ≡ value_among values h
updates_value d actor class values h m = rw (m, itself actor) refl

-- a dormant close neither removes nor opens
sleeps_keeps : (d : Delivered) (actor a : ℕ) → d.message ≡ Closes actor true → (removes a d ≡ false) × (class_opened a d ≡ None)
sleeps_keeps d actor a m = (rw m (last (actor == a)), rw m refl)
  where
    last : (b : Bool) → (b && false) ≡ false
    last true = refl
    last false = refl

-- it says that there is no channel
sleeps_channel : (d : Delivered) (actor : ℕ) → d.message ≡ Closes actor true → channel_said actor d ≡ Some None
sleeps_channel d actor m = rw (m, itself actor) refl

-- a plain close removes its actor's copy
pub closes_removes : (d : Delivered) (actor : ℕ) → d.message ≡ Closes actor false → removes actor d ≡ true
closes_removes d actor m = rw (m, itself actor) refl

-- a Gone removes its actor's copy
pub gone_removes : (d : Delivered) (actor : ℕ) → d.message ≡ Gone actor → removes actor d ≡ true
gone_removes d actor m = rw (m, itself actor) refl

-- a payload of another actor, or a call, says nothing
pub record Silent (d : Delivered) (a : ℕ) : Type 0 where
  pub keeps : removes a d ≡ false
  pub class : class_opened a d ≡ None
  pub channel : channel_said a d ≡ None
  pub value : (h : ℕ) → value_applied a h d ≡ None

-- a payload of another actor says nothing of this one
other_by : (d : Delivered) (a : ℕ) (message : Message) → d.message ≡ message → (actor_of message == a) ≡ false → Silent d a
other_by d a (Opens exports actor class values) m o = record { keeps = rw m refl; class = rw (m, o) refl; channel = rw (m, o) refl; value = λ h. rw (m, o) refl }
other_by d a (Closes actor sleeps) m o = record { keeps = rw (m, o) refl; class = rw m refl; channel = rw (m, o) refl; value = λ h. rw m refl }
other_by d a (Updates actor class values) m o = record { keeps = rw m refl; class = rw m refl; channel = rw m refl; value = λ h. rw (m, o) refl }
other_by d a (Calls actor number call args) m o = record { keeps = rw m refl; class = rw m refl; channel = rw m refl; value = λ h. rw m refl }
other_by d a (Gone actor) m o = record { keeps = rw (m, o) refl; class = rw m refl; channel = rw m refl; value = λ h. rw m refl }

-- so it is for each message
other_silent : (d : Delivered) (a : ℕ) → (actor_of d.message == a) ≡ false → Silent d a
other_silent d a o = other_by d a d.message refl o

-- a call says nothing of any copy
call_silent : (d : Delivered) (actor number : ℕ) (call : Call) (args : List Arg) (a : ℕ) → d.message ≡ Calls actor number call args → Silent d a
call_silent d actor number call args a m = record { keeps = rw m refl; class = rw m refl; channel = rw m refl; value = λ h. rw m refl }

-- what says nothing of a copy leaves it
silent_stays : (past later : Past) (d : Delivered) (a : ℕ) → Applied past later d → Silent d a → Stays past later a
silent_stays past later d a e s =
    let class = class_same past later d a e s.keeps s.class in
    record { class = class; channel = channel_same past later d a e s.keeps s.channel; value = λ h. value_same past later d a h e s.keeps (s.value h) class }

-- ---- by the message

-- after an open the copy has its class
pub open_class : (past later : Past) (d : Delivered) (exports : List Segment) (actor : ℕ) (class : Class) (values : List Pair) → Applied past later d → d.message ≡ Opens exports actor class values → copy_class later actor ≡ Some class
open_class past later d exports actor class values e m = class_there past later d actor class e (opens_keeps d exports actor class values actor m) (opens_class d exports actor class values m)

-- after an open the copy is on its channel
pub open_channel : (past later : Past) (d : Delivered) (exports : List Segment) (actor : ℕ) (class : Class) (values : List Pair) → Applied past later d → d.message ≡ Opens exports actor class values → copy_channel later actor ≡ Some d.channel
open_channel past later d exports actor class values e m = channel_there past later d actor (Some d.channel) e (opens_keeps d exports actor class values actor m) (opens_channel d exports actor class values m)

-- after an open the copy has its values
pub open_value : (past later : Past) (d : Delivered) (exports : List Segment) (actor : ℕ) (class : Class) (values : List Pair) (h : ℕ) (v : ℤ) → Applied past later d → d.message ≡ Opens exports actor class values → value_among values h ≡ Some v → copy_value later actor h ≡ v
open_value past later d exports actor class values h v e m k = value_there past later d actor h v e (opens_keeps d exports actor class values actor m) (opens_value d exports actor class values h m ∙ k)

-- what an open leaves out stays in a copy of its class
pub open_kept : (past later : Past) (d : Delivered) (exports : List Segment) (actor : ℕ) (class : Class) (values : List Pair) (h : ℕ) → Applied past later d → d.message ≡ Opens exports actor class values → value_among values h ≡ None → copy_class past actor ≡ Some class → copy_value later actor h ≡ copy_value past actor h
open_kept past later d exports actor class values h e m k c =
    value_same past later d actor h e (opens_keeps d exports actor class values actor m) (opens_value d exports actor class values h m ∙ k) (open_class past later d exports actor class values e m ∙ sym c)

-- an update leaves the copy's class
pub update_class : (past later : Past) (d : Delivered) (actor : ℕ) (class : Class) (values : List Pair) → Applied past later d → d.message ≡ Updates actor class values → copy_class later actor ≡ copy_class past actor
update_class past later d actor class values e m = let k = updates_keeps d actor class values actor m in class_same past later d actor e k.0 k.1

-- an update leaves the copy's channel
pub update_channel : (past later : Past) (d : Delivered) (actor : ℕ) (class : Class) (values : List Pair) → Applied past later d → d.message ≡ Updates actor class values → copy_channel later actor ≡ copy_channel past actor
update_channel past later d actor class values e m = let k = updates_keeps d actor class values actor m in channel_same past later d actor e k.0 k.2

-- after an update the copy has its values
pub update_value : (past later : Past) (d : Delivered) (actor : ℕ) (class : Class) (values : List Pair) (h : ℕ) (v : ℤ) → Applied past later d → d.message ≡ Updates actor class values → value_among values h ≡ Some v → copy_value later actor h ≡ v
update_value past later d actor class values h v e m k = let s = updates_keeps d actor class values actor m in value_there past later d actor h v e s.0 (updates_value d actor class values h m ∙ k)

-- what an update leaves out stays
pub update_kept : (past later : Past) (d : Delivered) (actor : ℕ) (class : Class) (values : List Pair) (h : ℕ) → Applied past later d → d.message ≡ Updates actor class values → value_among values h ≡ None → copy_value later actor h ≡ copy_value past actor h
update_kept past later d actor class values h e m k = let s = updates_keeps d actor class values actor m in value_same past later d actor h e s.0 (updates_value d actor class values h m ∙ k) (update_class past later d actor class values e m)

-- after a plain close there is no copy
pub close_class : (past later : Past) (d : Delivered) (actor : ℕ) → Applied past later d → d.message ≡ Closes actor false → copy_class later actor ≡ None
close_class past later d actor e m = class_none past later d actor e (closes_removes d actor m)

-- after a Gone there is no copy
pub gone_class : (past later : Past) (d : Delivered) (actor : ℕ) → Applied past later d → d.message ≡ Gone actor → copy_class later actor ≡ None
gone_class past later d actor e m = class_none past later d actor e (gone_removes d actor m)

-- a dormant close leaves the copy's class
pub sleep_class : (past later : Past) (d : Delivered) (actor : ℕ) → Applied past later d → d.message ≡ Closes actor true → copy_class later actor ≡ copy_class past actor
sleep_class past later d actor e m = let k = sleeps_keeps d actor actor m in class_same past later d actor e k.0 k.1

-- after a dormant close the copy has no channel
pub sleep_channel : (past later : Past) (d : Delivered) (actor : ℕ) → Applied past later d → d.message ≡ Closes actor true → copy_channel later actor ≡ None
sleep_channel past later d actor e m = let k = sleeps_keeps d actor actor m in channel_there past later d actor None e k.0 (sleeps_channel d actor m)

-- a dormant close leaves each value
pub sleep_value : (past later : Past) (d : Delivered) (actor h : ℕ) → Applied past later d → d.message ≡ Closes actor true → copy_value later actor h ≡ copy_value past actor h
sleep_value past later d actor h e m = let k = sleeps_keeps d actor actor m in value_same past later d actor h e k.0 (rw m refl) (sleep_class past later d actor e m)

-- a payload leaves the copies of other actors
pub others_stay : (past later : Past) (d : Delivered) (a : ℕ) → Applied past later d → (actor_of d.message == a) ≡ false → Stays past later a
others_stay past later d a e o = silent_stays past later d a e (other_silent d a o)

-- a call leaves every copy
pub calls_stay : (past later : Past) (d : Delivered) (actor number : ℕ) (call : Call) (args : List Arg) (a : ℕ) → Applied past later d → d.message ≡ Calls actor number call args → Stays past later a
calls_stay past later d actor number call args a e m = silent_stays past later d a e (call_silent d actor number call args a m)

-- ---- names

-- the names are those before, and then those that the payload exports
pub names_after : (past later : Past) (d : Delivered) → Applied past later d → names_of later ≡ fold names_with (names_of past) (names_in d)
names_after past later d e =
    let before : List Segment = flat_map names_in (reverse (delivered_of past)) in
    let more : flat_map names_in (reverse (delivered_of later)) ≡ before ++ names_in d =
    ap (λ (ds : List Delivered). flat_map names_in (reverse ds)) e ∙ ap (flat_map names_in) (reverse-append (d ∷ []) (delivered_of past)) ∙ flat_map-append names_in (reverse (delivered_of past)) (d ∷ []) ∙ ap (λ (xs : List Segment). before ++ xs) (append-nil (names_in d)) in
    ap (fold names_with []) more ∙ fold_more [] before (names_in d)
  where
    fold_more : (names xs ys : List Segment) → fold names_with names (xs ++ ys) ≡ fold names_with (fold names_with names xs) ys
    fold_more names [] ys = refl
    fold_more names (x ∷ xs) ys = fold_more (names_with names x) xs ys
