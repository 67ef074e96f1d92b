-- The call that is meant, by the world and by what was opened.
use Rattle.std.proofs.Common.{◌≡◌, ℕ, zero, suc, ◌+◌, ◌≤◌, ◌<◌, ◌^◌, ◌==◌, List, [], ◌∷◌, ◌++◌, map, length, Bool, true, false, ◌&&◌, Option, Some, None, refl, sym, ap, ◌∙◌, subst, arith, append_assoc}
use Rattle.std.specs.Prelude.{slice_get, slice_index_or, is_some, nat_le, IsTrue}
use Rattle.std.specs.List.{filter_map, cons_option, list_all}
use Rattle.std.specs.Bool.{then_some}
use Rattle.std.proofs.lemmas.Bool.{false≢true, and_parts, leb-true}
use Rattle.std.proofs.lemmas.Option.{same_Some, none-some}
use Rattle.protocol_model.specs.Limits.{argument_limit, part_bits, payload_bits}
use Rattle.protocol_model.specs.Side.{AtServer}
use Rattle.protocol_model.specs.Value.{Table, Class, Call, Arg, call_at, goes_up, args_fit}
use Rattle.protocol_model.specs.World.{Edits, Spawned, class_of, class_in, no_class, spawn_of}
use Rattle.protocol_model.specs.Payload.{Message, Opens, Closes, Updates, Calls, Gone, message_bits}
use Rattle.table_model.specs.Rules.{Entry, args_limit, largest_args}
use Rattle.table_model.specs.Facts.{IsTable, is_call}
use Rattle.payload_laws.specs.Limits.{HasLimits}
use Rattle.payload_laws.proofs.TableFacts.{limits_in}
use Rattle.payload_laws.proofs.Bounds.{call_most}
use Rattle.connection_model.specs.Feed.{Past, Ticked, Made, Waits, Sent, Took, Ended}
use Rattle.connection_model.specs.Bunches.{have_arrived}
use Rattle.connection_model.specs.State.{Mark, state_of, state_at, state_after, closed_as, is_opened, last_mark, mark_in, opened_class, open_class_in}
use Rattle.connection_model.specs.CallAnswers as answers
use Rattle.class_layout.specs.Tables.{Layout, table_in, entries_in}
use Rattle.class_members.specs.Members.{call_of}
use Rattle.value_codec.specs.Values.{arg_of, args_are_of, arguments_fit}
use Rattle.value_codec.specs.declared.args.Arg.{Arg as ArgValue}
use Rattle.class_members.specs.declared.members.Call.{Call as CallValue}
use Rattle.shadow_changes.specs.Samples.{Samples}
use Rattle.server_end.specs.declared.server_end.ServerEnd.{ServerEnd}
use Rattle.net_driver.specs.Served.{Seat, end_for, past_for, past_as}
use Rattle.net_driver.specs.Serves.{SeatFits}
use Rattle.driver_laws.specs.Feeds.{IsShort, IsOfWorld}
use Rattle.driver_laws.proofs.Shown.{opened_so}
use Rattle.driver_sights.specs.declared.graves.Grave.{Grave}
use Rattle.net_driver.specs.Ends.{IsLiving}
use Rattle.server_end.specs.Calls.{IsCalled, call_size}
use Rattle.net_driver.specs.Calls.{IsMade}

-- ---- an opened actor was opened as some class

is_open_mark : Message → Bool
is_open_mark (Opens exports actor class values) = true
is_open_mark message = false

opened_by_open : (past : Past) (mark : Mark) (m : Message) → is_opened (state_after past mark m) ≡ true
    → is_open_mark m ≡ true
unfolding is_open_mark
opened_by_open past mark (Opens exports actor class values) e = refl
opened_by_open past mark (Closes actor sleeps) e = absurd (go (have_arrived past mark.channel 1 mark.number) sleeps e)
  where
    go : (b s : Bool) → is_opened (closed_as b s) ≡ true → ⊥
    go false s e = false≢true e
    go true true e = false≢true e
    go true false e = false≢true e
opened_by_open past mark (Updates actor class values) e = absurd (false≢true e)
opened_by_open past mark (Calls actor number call args) e = absurd (false≢true e)
opened_by_open past mark (Gone actor) e = absurd (false≢true e)

some_class : (b : Bool) (class : Class) (cs : List Class) → (is_some (slice_get cs 0) ≡ true)
    → is_some (slice_get (cons_option (then_some b class) cs) 0) ≡ true
some_class true class cs h = refl
some_class false class cs h = h

open_found : (a : ℕ) (past : Past) (mark : Mark) → last_mark past a ≡ Some mark → is_open_mark mark.message ≡ true
    → is_some (opened_class past a) ≡ true
unfolding is_open_mark
open_found a [] mark e o = absurd (none-some mark e)
open_found a (Ticked t sight ∷ past) mark e o = open_found a past mark e o
open_found a (Waits m ∷ past) mark e o = open_found a past mark e o
open_found a (Sent n t items ∷ past) mark e o = open_found a past mark e o
open_found a (Took n es ds ∷ past) mark e o = open_found a past mark e o
open_found a (Ended g ∷ past) mark e o = open_found a past mark e o
open_found a (Made ch n (Opens exports b class values) i ∷ past) mark e o = go (b == a) (i == 0) e
    (λ q. open_found a past mark q o)
  where
    go : (x y : Bool)
        → slice_get
        (cons_option
        (then_some (x && true && y) (record { channel = ch; number = n; message = Opens exports b class values }))
        (filter_map (mark_in a) past)) 0 ≡ Some mark
        → (last_mark past a ≡ Some mark → is_some (opened_class past a) ≡ true)
        → is_some (slice_get (cons_option (then_some x class) (filter_map (open_class_in a) past)) 0) ≡ true
    go true y e ih = refl
    go false y e ih = ih e
open_found a (Made ch n (Closes b sleeps) i ∷ past) mark e o = go (b == a) (i == 0) e (λ q. open_found a past mark q o)
  where
    go : (x y : Bool)
        → slice_get
        (cons_option (then_some (x && true && y) (record { channel = ch; number = n; message = Closes b sleeps }))
        (filter_map (mark_in a) past)) 0 ≡ Some mark
        → (last_mark past a ≡ Some mark → is_some (opened_class past a) ≡ true)
        → is_some (opened_class past a) ≡ true
    go true true e ih = absurd (false≢true (ap (λ (m : Mark). is_open_mark m.message) (same_Some _ mark e) ∙ o))
    go true false e ih = ih e
    go false y e ih = ih e
open_found a (Made ch n (Gone b) i ∷ past) mark e o = go (b == a) (i == 0) e (λ q. open_found a past mark q o)
  where
    go : (x y : Bool)
        → slice_get
        (cons_option (then_some (x && true && y) (record { channel = ch; number = n; message = Gone b }))
        (filter_map (mark_in a) past)) 0 ≡ Some mark
        → (last_mark past a ≡ Some mark → is_some (opened_class past a) ≡ true)
        → is_some (opened_class past a) ≡ true
    go true true e ih = absurd (false≢true (ap (λ (m : Mark). is_open_mark m.message) (same_Some _ mark e) ∙ o))
    go true false e ih = ih e
    go false y e ih = ih e
open_found a (Made ch n (Updates b class values) i ∷ past) mark e o = go (b == a) e (λ q. open_found a past mark q o)
  where
    go : (x : Bool)
        → slice_get
        (cons_option
        (then_some (x && false && (i == 0)) (record { channel = ch; number = n; message = Updates b class values }))
        (filter_map (mark_in a) past)) 0 ≡ Some mark
        → (last_mark past a ≡ Some mark → is_some (opened_class past a) ≡ true)
        → is_some (opened_class past a) ≡ true
    go true e ih = ih e
    go false e ih = ih e
open_found a (Made ch n (Calls b number call args) i ∷ past) mark e o = go (b == a) e (λ q. open_found a past mark q o)
  where
    go : (x : Bool)
        → slice_get
        (cons_option
        (then_some (x && false && (i == 0)) (record { channel = ch; number = n; message = Calls b number call args }))
        (filter_map (mark_in a) past)) 0 ≡ Some mark
        → (last_mark past a ≡ Some mark → is_some (opened_class past a) ≡ true)
        → is_some (opened_class past a) ≡ true
    go true e ih = ih e
    go false e ih = ih e

pub opened_has_class : (past : Past) (a : ℕ) → is_opened (state_of past a) ≡ true → (class : Class)
    × (opened_class past a ≡ Some class)
opened_has_class past a e = found (opened_class past a) refl (by (last_mark past a) refl e)
  where
    by : (o : Option Mark) → last_mark past a ≡ o → is_opened (state_at past o) ≡ true
        → is_some (opened_class past a) ≡ true
    by None q e = absurd (false≢true e)
    by (Some mark) q e = open_found a past mark q (opened_by_open past mark mark.message e)

    found : (o : Option Class) → opened_class past a ≡ o → is_some o ≡ true → (class : Class)
        × (opened_class past a ≡ Some class)
    found None q e = absurd (false≢true e)
    found (Some class) q e = (class, q)

-- ---- sizes

no_limits : HasLimits no_class
no_limits = record { props = refl; calls = refl; handles = omega arith; call_count = omega arith }

limits_from : (entries before rest : List Entry) (k : ℕ) → IsTable entries → entries ≡ before ++ rest
    → HasLimits (slice_index_or (map (λ (e : Entry). e.class) rest) k no_class)
limits_from entries before [] k is e = no_limits
limits_from entries before (x ∷ rest) zero is e = limits_in entries before x rest is e
limits_from entries before (x ∷ rest) (suc k) is e =
    limits_from entries (before ++ x ∷ []) rest k is (e ∙ sym (append_assoc before (x ∷ []) rest))

pub world_limits : (layout : Layout) (edits : Edits) (a : ℕ) → IsTable (entries_in layout)
    → HasLimits (class_of (table_in layout) edits a)
world_limits layout edits a is = go (spawn_of edits a)
  where
    go : (o : Option Spawned) → HasLimits (class_in (table_in layout) o)
    go None = no_limits
    go (Some s) = limits_from (entries_in layout) [] (entries_in layout) s.class is refl

-- ---- the call

pub is_meant : (past : Past) (a n : ℕ) (args : List Arg) (class : Class) (call : Call)
    → opened_class past a ≡ Some class → call_at class n ≡ Some call
    → goes_up call.way ≡ false → args_fit call.args args ≡ true → answers.call_of AtServer past a n args ≡ Some call
is_meant past a n args class call opened there down fit = rw (opened, there, down, fit) refl

-- a call of the actor's class that goes to clients, with arguments that fit
pub record IsFitting (table : Table) (edits : Edits) (actor number : ℕ) (args : List ArgValue) : Type 0 where
  pub call : Call
  pub there : call_at (class_of table edits actor) number ≡ Some call
  pub way : goes_up call.way ≡ false
  pub fit : IsTrue (arguments_fit call.args args)

pub made_fits : (table : Table) (edits : Edits) (a n : ℕ) (args : List ArgValue) → IsMade table edits a n args
    → IsFitting table edits a n args
made_fits table edits a n args m = record { call = m.call; there = m.there; way = m.way; fit = m.fit }

-- it fits in each list of edits that leaves the same call
pub fits_too : (table : Table) (edits later : Edits) (a n : ℕ) (args : List ArgValue)
    → call_at (class_of table later a) n ≡ call_at (class_of table edits a) n → IsFitting table edits a n args
    → IsFitting table later a n args
fits_too table edits later a n args e m = record { call = m.call; there = e ∙ m.there; way = m.way; fit = m.fit }

-- a call of a class has few arguments
few_in : (calls : List Call) (k : ℕ) (call : Call) → list_all is_call calls ≡ true → slice_get calls k ≡ Some call
    → length call.args ≤ argument_limit
few_in [] k call h e = absurd (none-some call e)
few_in (c ∷ calls) zero call h e =
    subst (λ (c : Call). length c.args ≤ argument_limit) (same_Some c call e)
    (leb-true (length c.args) argument_limit
    (and_parts _ (nat_le (length c.args) argument_limit)
    (and_parts _ (nat_le (largest_args c.args) (args_limit c.reliable)) (and_parts _ _ h).0).0).1)
few_in (c ∷ calls) (suc k) call h e = few_in calls k call (and_parts _ _ h).1 e

few_args : (class : Class) (n : ℕ) (call : Call) → HasLimits class → call_at class n ≡ Some call
    → length call.args ≤ argument_limit
few_args class zero call limits e = absurd (none-some call e)
few_args class (suc n) call limits e = few_in class.calls n call limits.calls e

pub living_called : (layout : Layout) (edits : Edits) (samples : Samples) (greatest : ℕ) (e : ServerEnd) (t : Seat)
    (a n : ℕ)
    (called : CallValue) (args : List ArgValue) (h : IsLiving (table_in layout) edits samples greatest e t)
    → IsTable (entries_in layout) → IsFitting (table_in layout) edits a n args
    → Some (call_of called) ≡ call_at (class_of (table_in layout) edits a) n → greatest < 2 ^ 61
    → IsCalled e (end_for (table_in layout) t) (past_for (table_in layout) t) h.before a n called args
living_called layout edits samples greatest e t a n called args h is m found few = record {
  stands = h.stands;
  alive = h.alive;
  meant = λ opened.
      let class = opened_has_class (past_for (table_in layout) t) a opened in
      is_meant (past_for (table_in layout) t) a n (map arg_of args) class.0 (call_of called) class.1
      (ap (λ (c : Class). call_at c n) (h.classes a class.0 class.1).1 ∙ sym found)
      (subst (λ (k : Call). goes_up k.way ≡ false) same m.way) fits;
  few = few_args (class_of (table_in layout) edits a) n (call_of called) limits (sym found);
  fit = fit;
  size = short called.reliable bits;
  loose = λ r. loose called.reliable r bits;
  count = omega (arith, h.count, few);
}
  where
    same : m.call ≡ call_of called
    same = same_Some _ _ (sym m.there ∙ sym found)

    fit : arguments_fit called.args args ≡ true
    fit = subst (λ (k : Call). arguments_fit k.args args ≡ true) same m.fit

    fits : args_fit called.args (map arg_of args) ≡ true
    fits = (and_parts (args_are_of called.args args) _ fit).1

    limits : HasLimits (class_of (table_in layout) edits a)
    limits = world_limits layout edits a is

    bits : call_size a n called args ≤ 49 + args_limit called.reliable
    bits = call_most (class_of (table_in layout) edits a) a n (call_of called) (map arg_of args) limits (sym found) fits

    short : (b : Bool) → call_size a n called args ≤ 49 + args_limit b → call_size a n called args ≤ payload_bits
    short true h = omega arith
    short false h = omega arith

    loose : (b : Bool) → b ≡ false → call_size a n called args ≤ 49 + args_limit b
        → call_size a n called args ≤ part_bits
    loose true r h = absurd (false≢true (sym r))
    loose false r h = omega arith

-- an unreliable call that fits its actor's class has room in one bunch
pub short_call : (layout : Layout) (edits : Edits) (graves : List Grave) (t : Seat) (a n : ℕ) (args : List ArgValue)
    → SeatFits (table_in layout) edits graves t → IsTable (entries_in layout)
    → IsFitting (table_in layout) edits a n args
    → IsShort (past_for (table_in layout) t) a n (map arg_of args)
short_call layout edits graves t a n args h is m opened call meant loose =
    let class = opened_has_class (past_for (table_in layout) t) a opened in
    let world = of_world t.lost refl class.0 class.1 in
    let there : call_at class.0 n ≡ Some m.call = ap (λ (c : Class). call_at c n) world.1 ∙ m.there in
    let same : m.call ≡ call =
    same_Some m.call call (sym (is_meant (past_for (table_in layout) t) a n (map arg_of args) class.0 m.call class.1 there
    m.way fits) ∙ meant) in
    subst (λ (k : Call). length (message_bits (Calls a n k (map arg_of args))) ≤ part_bits) same
    (few m.call.reliable (ap (λ (k : Call). k.reliable) same ∙ loose) bits)
  where
    fits : args_fit m.call.args (map arg_of args) ≡ true
    fits = (and_parts (args_are_of m.call.args args) _ m.fit).1

    limits : HasLimits (class_of (table_in layout) edits a)
    limits = world_limits layout edits a is

    bits : length (message_bits (Calls a n m.call (map arg_of args))) ≤ 49 + args_limit m.call.reliable
    bits = call_most (class_of (table_in layout) edits a) a n m.call (map arg_of args) limits m.there fits

    few : (b : Bool) → b ≡ false → length (message_bits (Calls a n m.call (map arg_of args))) ≤ 49 + args_limit b
        → length (message_bits (Calls a n m.call (map arg_of args))) ≤ part_bits
    few true r h = absurd (false≢true (sym r))
    few false r h = omega arith

    of_world : (b : Bool) → t.lost ≡ b → (class : Class) → opened_class (past_for (table_in layout) t) a ≡ Some class
        → IsOfWorld (table_in layout) edits a class
    of_world true q class e = absurd (none-some class (sym (ap (λ (b : Bool). opened_class (past_as b (end_for (table_in layout) t) t.feed) a) q) ∙ e))
    of_world false q class e = opened_so (IsOfWorld (table_in layout) edits) (end_for (table_in layout) t) t.feed h.shown a class
        (sym (ap (λ (b : Bool). opened_class (past_as b (end_for (table_in layout) t) t.feed) a) q) ∙ e)
