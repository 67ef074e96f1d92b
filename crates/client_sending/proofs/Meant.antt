-- What a call of a client that is alive is answered, and what it leaves.
use Rattle.std.proofs.Common.{◌≡◌, ◌≢◌, ◌∙◌, ℕ, zero, suc, ◌+◌, ◌-◌, ◌≤◌, List, [], ◌∷◌, ◌++◌, map, length, Bool, true, false, not, ◌&&◌, Option, Some, None, option_map, option_and_then, refl, sym, ap, subst, arith, append_assoc}
use Rattle.std.specs.Prelude.{nat_lt, nat_le, slice_get, slice_index_or, if◌then◌else◌}
use Rattle.std.specs.Bool.{then_some}
use Rattle.std.specs.List.{list_all}
use Rattle.std.proofs.lemmas.Bool.{false≢true, and_parts, leb-true}
use Rattle.std.proofs.lemmas.Bool.Decides.{nat_tests}
use Rattle.std.proofs.lemmas.Option.{none-some, same_Some}
use Rattle.protocol_model.specs.Limits.{argument_limit, part_bits, payload_bits, waiting_limit}
use Rattle.protocol_model.specs.Side.{AtClient}
use Rattle.protocol_model.specs.Value.{Class, Call, Arg, call_at, goes_up, args_fit}
use Rattle.protocol_model.specs.World.{class_at, no_class}
use Rattle.protocol_model.specs.Payload.{Message, Calls, message_bits, part_count}
use Rattle.protocol_model.specs.declared.CallAnswer.{CallAnswer}
use Rattle.protocol_model.specs.declared.CallAnswer.TheVariants.{Queued, Dead, NotOpen, NotOwner, WindowFull}
use Rattle.table_model.specs.Rules.{Entry, args_limit, largest_args}
use Rattle.table_model.specs.Facts.{IsTable, is_call}
use Rattle.payload_laws.specs.Limits.{HasLimits}
use Rattle.payload_laws.proofs.TableFacts.{limits_in}
use Rattle.payload_laws.proofs.Bounds.{call_most}
use Rattle.connection_model.specs.Bunches.{room, after_making}
use Rattle.connection_model.specs.CallAnswers.{answer_of, after_call, after_answer, call_of, fitting_call, goes_from, is_not_owner, is_full, waiting_of}
use Rattle.connection_model.specs.Copies.{copy_channel}
use Rattle.connection_model.specs.Feed.{Past, Waits, has_ended}
use Rattle.class_layout.specs.Tables.{Layout, class_of, table_in, entries_in}
use Rattle.class_layout.specs.declared.class.Class.{Class as ClassValue}
use Rattle.class_layout.specs.declared.class.Segment.{Segment}
use Rattle.class_members.specs.Members as members
use Rattle.class_members.specs.declared.members.Call.{Call as CallValue}
use Rattle.value_codec.specs.Values.{arg_of}
use Rattle.value_codec.specs.declared.args.Arg.{Arg as ArgValue}
use Rattle.client_sending.specs.Calling.{IsShort, IsMeant, call_size}

-- ---- answers

pub no_channel : (past : Past) (a n : ℕ) (args : List Arg) → has_ended past ≡ false → copy_channel past a ≡ None
    → answer_of AtClient past a n args ≡ NotOpen
no_channel past a n args alive none = rw (alive, none) refl

pub no_call : (past : Past) (a n : ℕ) (args : List Arg) (ch : ℕ) → has_ended past ≡ false
    → copy_channel past a ≡ Some ch → call_of AtClient past a n args ≡ None
    → answer_of AtClient past a n args ≡ NotOpen
no_call past a n args ch alive channel none = rw (alive, channel, none) refl

-- where the channel and the call that are meant are known
answered : (past : Past) (a n : ℕ) (args : List Arg) (ch : ℕ) (call : Call) → has_ended past ≡ false
    → copy_channel past a ≡ Some ch → call_of AtClient past a n args ≡ Some call
    → answer_of AtClient past a n args
    ≡ (if is_not_owner AtClient past a call then NotOwner else if is_full past ch call.reliable
    (Calls a n call args) then WindowFull else Queued)
answered past a n args ch call alive channel meant = rw (alive, channel, meant) refl

pub not_owned : (past : Past) (a n : ℕ) (args : List Arg) (ch : ℕ) (call : Call) → has_ended past ≡ false
    → copy_channel past a ≡ Some ch → call_of AtClient past a n args ≡ Some call
    → is_not_owner AtClient past a call ≡ true → answer_of AtClient past a n args ≡ NotOwner
not_owned past a n args ch call alive channel meant e = answered past a n args ch call alive channel meant ∙ rw e refl

pub after_refused : (past : Past) (a n : ℕ) (args : List Arg) (answer : CallAnswer) → answer ≢ Queued
    → answer_of AtClient past a n args ≡ answer → after_call AtClient past a n args ≡ past
after_refused past a n args answer other e = ap (after_answer AtClient past a n args) e ∙ go answer other
  where
    go : (answer : CallAnswer) → answer ≢ Queued → after_answer AtClient past a n args answer ≡ past
    go Queued other = absurd (other refl)
    go Dead other = refl
    go NotOpen other = refl
    go NotOwner other = refl
    go WindowFull other = refl

pub not_queued : NotOpen ≢ Queued
not_queued e = cc

pub not_kept : NotOwner ≢ Queued
not_kept e = cc

no_queue : WindowFull ≢ Queued
no_queue e = cc

after_queued : (past : Past) (a n : ℕ) (args : List Arg) (ch : ℕ) (call : Call)
    → answer_of AtClient past a n args ≡ Queued
    → copy_channel past a ≡ Some ch → call_of AtClient past a n args ≡ Some call
    → after_call AtClient past a n args
    ≡ (if call.reliable then after_making past ch (Calls a n call args) else Waits (Calls a n call args) ∷ past)
after_queued past a n args ch call e channel meant = ap (after_answer AtClient past a n args) e
    ∙ rw (channel, meant) refl

-- ---- a call that is meant

module _ (past : Past) (a n ch : ℕ) (called : CallValue) (args : List ArgValue) (alive : has_ended past ≡ false)
    (h : IsMeant past a n ch called args) where
  given : List Arg
  given = map arg_of args

  message : Message
  message = Calls a n (members.call_of called) (map arg_of args)

  decided : answer_of AtClient past a n (map arg_of args)
      ≡ (if is_full past ch called.reliable (Calls a n (members.call_of called) (map arg_of args))
      then WindowFull else Queued)
  decided = answered past a n (map arg_of args) ch (members.call_of called) alive h.held h.meant ∙ rw h.owned refl

  -- a reliable one
  pub reliable_answer : (payload : List Bool) → called.reliable ≡ true
      → message_bits (Calls a n (members.call_of called) (map arg_of args)) ≡ payload
      → answer_of AtClient past a n (map arg_of args)
      ≡ (if nat_lt (room past ch) (part_count (length payload)) then WindowFull else Queued)
  reliable_answer payload r bits =
      decided
      ∙ ap (λ (b : Bool). if is_full past ch b (Calls a n (members.call_of called) (map arg_of args))
      then WindowFull else Queued) r
      ∙ ap (λ (p : List Bool). if nat_lt (room past ch) (part_count (length p)) then WindowFull else Queued) bits

  pub reliable_after : (payload : List Bool) → called.reliable ≡ true
      → message_bits (Calls a n (members.call_of called) (map arg_of args)) ≡ payload
      → after_call AtClient past a n (map arg_of args)
      ≡ (if nat_lt (room past ch) (part_count (length payload)) then past
      else after_making past ch (Calls a n (members.call_of called) (map arg_of args)))
  reliable_after payload r bits =
      go (nat_lt (room past ch) (part_count (length payload))) (reliable_answer payload r bits)
    where
      go : (b : Bool) → answer_of AtClient past a n (map arg_of args) ≡ (if b then WindowFull else Queued)
          → after_call AtClient past a n (map arg_of args)
          ≡ (if b then past else after_making past ch (Calls a n (members.call_of called) (map arg_of args)))
      go true q = after_refused past a n (map arg_of args) WindowFull no_queue q
      go false q =
          after_queued past a n (map arg_of args) ch (members.call_of called) q h.held h.meant
          ∙ ap (λ (b : Bool). if b then after_making past ch (Calls a n (members.call_of called) (map arg_of args))
          else Waits (Calls a n (members.call_of called) (map arg_of args)) ∷ past) r

  -- and one that isn't
  pub loose_answer : called.reliable ≡ false
      → answer_of AtClient past a n (map arg_of args)
      ≡ (if nat_lt (length (waiting_of past)) waiting_limit then Queued else WindowFull)
  loose_answer r =
      decided
      ∙ ap (λ (b : Bool). if is_full past ch b (Calls a n (members.call_of called) (map arg_of args))
      then WindowFull else Queued) r
      ∙ turned (length (waiting_of past))
    where
      full_is : (k : ℕ) → nat_le waiting_limit k ≡ not (nat_lt k waiting_limit)
      full_is k = grind (arith, nat_tests)

      flip : (b : Bool) → (if not b then WindowFull else Queued) ≡ (if b then Queued else WindowFull)
      flip true = refl
      flip false = refl

      turned : (k : ℕ) → (if nat_le waiting_limit k then WindowFull else Queued)
          ≡ (if nat_lt k waiting_limit then Queued else WindowFull)
      turned k = ap (λ (b : Bool). if b then WindowFull else Queued) (full_is k) ∙ flip (nat_lt k waiting_limit)

  pub loose_after : called.reliable ≡ false
      → after_call AtClient past a n (map arg_of args)
      ≡ (if nat_lt (length (waiting_of past)) waiting_limit
      then Waits (Calls a n (members.call_of called) (map arg_of args)) ∷ past else past)
  loose_after r = go (nat_lt (length (waiting_of past)) waiting_limit) (loose_answer r)
    where
      go : (b : Bool) → answer_of AtClient past a n (map arg_of args) ≡ (if b then Queued else WindowFull)
          → after_call AtClient past a n (map arg_of args)
          ≡ (if b then Waits (Calls a n (members.call_of called) (map arg_of args)) ∷ past else past)
      go true q =
          after_queued past a n (map arg_of args) ch (members.call_of called) q h.held h.meant
          ∙ ap (λ (b : Bool). if b then after_making past ch (Calls a n (members.call_of called) (map arg_of args))
          else Waits (Calls a n (members.call_of called) (map arg_of args)) ∷ past) r
      go false q = after_refused past a n (map arg_of args) WindowFull no_queue q

-- ---- sizes

no_limits : HasLimits no_class
no_limits = record { props = refl; calls = refl; handles = omega arith; call_count = omega arith }

limits_from : (entries before rest : List Entry) (k : ℕ) → IsTable entries → entries ≡ before ++ rest
    → HasLimits (slice_index_or (map (λ (e : Entry). e.class) rest) k no_class)
limits_from entries before [] k is e = no_limits
limits_from entries before (x ∷ rest) zero is e = limits_in entries before x rest is e
limits_from entries before (x ∷ rest) (suc k) is e =
    limits_from entries (before ++ x ∷ []) rest k is (e ∙ sym (append_assoc before (x ∷ []) rest))

pub class_limits : (layout : Layout) (k : ℕ) → IsTable (entries_in layout) → HasLimits (class_at (table_in layout) k)
class_limits layout k is = limits_from (entries_in layout) [] (entries_in layout) k is refl

few_in : (calls : List Call) (k : ℕ) (call : Call) → list_all is_call calls ≡ true → slice_get calls k ≡ Some call
    → length call.args ≤ argument_limit
few_in [] k call h e = absurd (none-some call e)
few_in (c ∷ calls) zero call h e =
    subst (λ (c : Call). length c.args ≤ argument_limit) (same_Some c call e)
    (leb-true (length c.args) argument_limit
    (and_parts _ (nat_le (length c.args) argument_limit)
    (and_parts _ (nat_le (largest_args c.args) (args_limit c.reliable)) (and_parts _ _ h).0).0).1)
few_in (c ∷ calls) (suc k) call h e = few_in calls k call (and_parts _ _ h).1 e

few_args : (class : Class) (n : ℕ) (call : Call) → HasLimits class → call_at class n ≡ Some call
    → length call.args ≤ argument_limit
few_args class zero call limits e = absurd (none-some call e)
few_args class (suc n) call limits e = few_in class.calls n call limits.calls e

-- the call of a number
called_at : (calls : List CallValue) (k : ℕ) → slice_get (map members.call_of calls) k ≡ option_map members.call_of
    (slice_get calls k)
called_at [] k = refl
called_at (c ∷ calls) zero = refl
called_at (c ∷ calls) (suc k) = called_at calls k

pub numbered_is : (segments : List Segment) (c : ClassValue) (n : ℕ) → 1 ≤ n
    → option_map members.call_of (slice_get c.calls (n - 1)) ≡ call_at (class_of segments c) n
numbered_is segments c zero le = absurd (omega (arith, le))
numbered_is segments c (suc k) le =
    ap (λ (i : ℕ). option_map members.call_of (slice_get c.calls i)) (less k) ∙ sym (called_at c.calls k)
  where
    less : (k : ℕ) → suc k - 1 ≡ k
    less k = omega arith

-- whether it fits
pub fits_none : (class : Class) (n : ℕ) (args : List Arg) → call_at class n ≡ None
    → fitting_call AtClient n args class ≡ None
fits_none class n args e = rw e refl

fits_is : (class : Class) (n : ℕ) (args : List Arg) (call : Call) → call_at class n ≡ Some call
    → fitting_call AtClient n args class ≡ then_some (goes_up call.way && args_fit call.args args) call
fits_is class n args call e = rw e refl

pub goes_down : (class : Class) (n : ℕ) (args : List Arg) (call : Call) → call_at class n ≡ Some call
    → goes_up call.way ≡ false → fitting_call AtClient n args class ≡ None
goes_down class n args call e f =
    fits_is class n args call e ∙ ap (λ (b : Bool). then_some (b && args_fit call.args args) call) f

pub unfit : (class : Class) (n : ℕ) (args : List Arg) (call : Call) → call_at class n ≡ Some call
    → goes_up call.way ≡ true → args_fit call.args args ≡ false → fitting_call AtClient n args class ≡ None
unfit class n args call e f g =
    fits_is class n args call e
    ∙ ap (λ (b : Bool). then_some (b && args_fit call.args args) call) f ∙ ap (λ (b : Bool). then_some b call) g

pub fitting : (class : Class) (n : ℕ) (args : List Arg) (call : Call) → call_at class n ≡ Some call
    → goes_up call.way ≡ true → args_fit call.args args ≡ true → fitting_call AtClient n args class ≡ Some call
fitting class n args call e f g =
    fits_is class n args call e
    ∙ ap (λ (b : Bool). then_some (b && args_fit call.args args) call) f ∙ ap (λ (b : Bool). then_some b call) g

-- what a call that fits is
pub record Fits (class : Class) (n : ℕ) (args : List Arg) (call : Call) : Type 0 where
  pub there : call_at class n ≡ Some call
  pub up : goes_up call.way ≡ true
  pub fit : args_fit call.args args ≡ true

pub fits : (class : Class) (n : ℕ) (args : List Arg) (call : Call)
    → fitting_call AtClient n args class ≡ Some call → Fits class n args call
fits class n args call e = by (call_at class n) refl e
  where
    yes : (x : Call) (b : Bool) → then_some b x ≡ Some call → (b ≡ true) × (x ≡ call)
    yes x true e = (refl, (let same : x ≡ call = cc in same))
    yes x false e = absurd (none-some call e)

    by : (o : Option Call) → call_at class n ≡ o
        → option_and_then (λ (c : Call). then_some (goes_from AtClient c.way && args_fit c.args args) c) o ≡ Some call
        → Fits class n args call
    by None q e = absurd (none-some call e)
    by (Some x) q e =
        let r = yes x (goes_from AtClient x.way && args_fit x.args args) e in
        let parts = and_parts (goes_from AtClient x.way) (args_fit x.args args) r.0 in
        record {
          there = q ∙ ap (λ (c : Call). Some c) r.1;
          up = ap (λ (c : Call). goes_up c.way) (sym r.1) ∙ parts.0;
          fit = ap (λ (c : Call). args_fit c.args args) (sym r.1) ∙ parts.1;
        }

pub short_call : (layout : Layout) (k a n : ℕ) (called : CallValue) (args : List ArgValue) → IsTable (entries_in layout)
    → fitting_call AtClient n (map arg_of args) (class_at (table_in layout) k) ≡ Some (members.call_of called)
    → IsShort a n called args
short_call layout k a n called args is e = record {
  few = few_args (class_at (table_in layout) k) n (members.call_of called) limits f.there;
  fit = f.fit;
  size = short called.reliable bits;
  loose = λ r. loose called.reliable r bits;
}
  where
    f : Fits (class_at (table_in layout) k) n (map arg_of args) (members.call_of called)
    f = fits (class_at (table_in layout) k) n (map arg_of args) (members.call_of called) e

    limits : HasLimits (class_at (table_in layout) k)
    limits = class_limits layout k is

    bits : call_size a n called args ≤ 49 + args_limit called.reliable
    bits = call_most (class_at (table_in layout) k) a n (members.call_of called) (map arg_of args) limits f.there f.fit

    short : (b : Bool) → call_size a n called args ≤ 49 + args_limit b → call_size a n called args ≤ payload_bits
    short true h = omega arith
    short false h = omega arith

    loose : (b : Bool) → b ≡ false → call_size a n called args ≤ 49 + args_limit b
        → call_size a n called args ≤ part_bits
    loose true r h = absurd (false≢true (sym r))
    loose false r h = omega arith
