-- Reading a client's payloads step by step.
use Rattle.std.proofs.Common.{◌≡◌, ℕ, List, Bool, Option, Some, option_map, unwrap_or, Result, Ok, Err, refl, sym, ap, ◌∙◌}
use Rattle.std.specs.List.{fold}
use Rattle.connection_model.specs.Names.{names_with}
use Rattle.bit_io.specs.declared.lent.BitReader.{BitReader}
use Rattle.bit_io.specs.Lent.{bits_left}
use Rattle.netguid_map.specs.Names.{Stands}
use Rattle.payload_reading.specs.Reads.{Follows}
use Rattle.payload_reading.specs.declared.stop.Stop.{Stop}
use Rattle.actor_copies.specs.declared.copy.ReadOpen.{ReadOpen}
use Rattle.client_payloads.specs.Learning.{Kept, Learns}
use Rattle.client_payloads.specs.Messages.{class_held, IsOpenRead}
use Rattle.protocol_model.specs.declared.Cause.{Cause}
use Rattle.protocol_model.specs.declared.Cause.TheVariants.{UnknownGuid, BadChannel}
use Rattle.protocol_model.specs.Reading.{Fault, ◌>>=◌, give}
use Rattle.protocol_model.specs.Value.{Class, Pair, Segment, goes_down}
use Rattle.protocol_model.specs.World.{class_at}
use Rattle.protocol_model.specs.Payload.{Message, Opens, Updates}
use Rattle.connection_model.specs.PayloadReading.{PayloadReading, actor_at, end_at, class_or, call_at_end, some_values_at, values_at, exports_at}
use Rattle.class_layout.specs.Tables.{Layout, table_in}
use Rattle.actor_copies.specs.declared.copy.ActorCopy.{ActorCopy}
use Rattle.actor_copies.specs.Applied.{open_message}
use Rattle.actor_copies.specs.Kept.{kept_of, kept_on}
use Rattle.client_payloads.specs.Readings.{copy_class, holder_kept, call_in, update_in, opening_in, opened_class_in, opened_in, open_in}
use Rattle.payload_reading.proofs.Stops.{StopsAs}

-- ---- readings

-- the next reading goes on where the first ends
then_is : {A B : Type 0} (read : PayloadReading A) (next : A → PayloadReading B) (bits : List Bool) (a : A)
    (rest : List Bool) → read bits ≡ Ok (a, rest) → (read >>= next) bits ≡ next a rest
then_is {A = A} {B = B} read next bits a rest e =
    ap (λ (r : Result (A × List Bool) (Fault (Option Cause))). let s : Result (B × List Bool)
    (Fault (Option Cause)) = elim r [ Ok got ↦ next got.0 got.1 | Err why ↦ Err why ] in s) e

then_stops : {A B : Type 0} (read : PayloadReading A) (next : A → PayloadReading B) (bits : List Bool)
    (fault : Fault (Option Cause)) → read bits ≡ Err fault → (read >>= next) bits ≡ Err fault
then_stops {A = A} {B = B} read next bits fault e =
    ap (λ (r : Result (A × List Bool) (Fault (Option Cause))). let s : Result (B × List Bool)
    (Fault (Option Cause)) = elim r [ Ok got ↦ next got.0 got.1 | Err why ↦ Err why ] in s) e

-- ---- calls

pub call_in_is : (layout : Layout) (copies : List ActorCopy) (reliable : Bool) (bits mid : List Bool) (a : ℕ)
    (x : ActorCopy) → actor_at bits ≡ Ok (a, mid) → Some x ≡ kept_of copies a
    → call_in layout copies reliable bits ≡ call_at_end (copy_class layout x) a goes_down reliable mid
call_in_is layout copies reliable bits mid a x e p =
    rw (◌>>=◌, e) (ap (λ (o : Option ActorCopy). (class_or (UnknownGuid a) (option_map (copy_class layout) o)
    >>= (λ (class : Class). call_at_end class a goes_down reliable)) mid) (sym p))

pub call_in_stop : (layout : Layout) (copies : List ActorCopy) (reliable : Bool) (bits mid : List Bool) (a : ℕ)
    (x : ActorCopy) (class : Class) → actor_at bits ≡ Ok (a, mid) → Some x ≡ kept_of copies a
    → class ≡ copy_class layout x
    → StopsAs (call_at_end class a goes_down reliable) mid (call_in layout copies reliable) bits
call_in_stop layout copies reliable bits mid a x class e p is fault f =
    call_in_is layout copies reliable bits mid a x e p
    ∙ ap (λ (class : Class). call_at_end class a goes_down reliable mid) (sym is) ∙ f

-- ---- updates

-- what follows the class of an update
abbrev pub update_after : (holder : ℕ) → Class → PayloadReading Message
update_after holder class =
    some_values_at class >>= (λ (values : List Pair). end_at
    >>= (λ (n : ℕ). give (Updates holder class values)))

pub update_in_is : (layout : Layout) (copies : List ActorCopy) (ch : ℕ) (bits : List Bool) (x : ActorCopy)
    → Some x ≡ kept_on copies ch
    → update_in layout copies ch bits ≡ update_after (holder_kept copies ch) (copy_class layout x) bits
update_in_is layout copies ch bits x p =
    ap (λ (o : Option ActorCopy). (class_or (BadChannel ch) (option_map (copy_class layout) o)
    >>= update_after (holder_kept copies ch)) bits) (sym p)

after_is : (holder : ℕ) (class other : Class) (bits : List Bool)
    (r : Result (Message × List Bool) (Fault (Option Cause))) → other ≡ class
    → update_after holder other bits ≡ r → update_after holder class bits ≡ r
after_is holder class other bits r is h = ap (λ (class : Class). update_after holder class bits) (sym is) ∙ h

pub update_values_stop : (layout : Layout) (copies : List ActorCopy) (ch : ℕ) (bits : List Bool) (x : ActorCopy)
    (class : Class) → Some x ≡ kept_on copies ch → class ≡ copy_class layout x
    → StopsAs (some_values_at class) bits (update_in layout copies ch) bits
update_values_stop layout copies ch bits x class p is fault f =
    update_in_is layout copies ch bits x p
    ∙ after_is (holder_kept copies ch) (copy_class layout x) class bits (Err fault) is (rw (◌>>=◌, f) refl)

pub update_end_stop : (layout : Layout) (copies : List ActorCopy) (ch : ℕ) (bits mid : List Bool) (x : ActorCopy)
    (class : Class) (values : List Pair) → Some x ≡ kept_on copies ch → class ≡ copy_class layout x
    → some_values_at class bits ≡ Ok (values, mid) → StopsAs end_at mid (update_in layout copies ch) bits
update_end_stop layout copies ch bits mid x class values p is f fault g =
    update_in_is layout copies ch bits x p
    ∙ after_is (holder_kept copies ch) (copy_class layout x) class bits (Err fault) is (rw (◌>>=◌, f, g) refl)

pub update_done : (layout : Layout) (copies : List ActorCopy) (ch : ℕ) (bits mid last : List Bool) (x : ActorCopy)
    (class : Class) (values : List Pair) (k : ℕ) → Some x ≡ kept_on copies ch → class ≡ copy_class layout x
    → some_values_at class bits ≡ Ok (values, mid) → end_at mid ≡ Ok (k, last)
    → update_in layout copies ch bits
    ≡ Ok (Updates (holder_kept copies ch) (class_held layout copies ch) values, last)
update_done layout copies ch bits mid last x class values k p is f g =
    update_in_is layout copies ch bits x p
    ∙ after_is (holder_kept copies ch) (copy_class layout x) class bits
    (Ok (Updates (holder_kept copies ch) class values, last)) is (rw (◌>>=◌, f, g) refl)
    ∙ ap (λ (class : Class). Ok (Updates (holder_kept copies ch) class values, last))
    (is ∙ ap (λ (o : Option ActorCopy). unwrap_or (option_map (copy_class layout) o)
    (class_at (table_in layout) 0)) p)

-- ---- opens

-- what follows the class of an open
abbrev pub open_after : (exports : List Segment) → (actor : ℕ) → Class → PayloadReading Message
open_after exports actor class = values_at class >>=
    (λ (values : List Pair). end_at >>= (λ (n : ℕ). give (Opens exports actor class values)))

opened_in_is : (layout : Layout) (copies : List ActorCopy) (ch : ℕ) (known exports : List Segment)
    (bits mid rest : List Bool) (actor n : ℕ) (class : Class) → opening_in copies ch bits ≡ Ok (actor, mid)
    → opened_class_in layout copies known actor mid ≡ Ok (class_at (table_in layout) n, rest)
    → class ≡ class_at (table_in layout) n
    → opened_in layout copies ch known exports bits ≡ open_after exports actor class rest
opened_in_is layout copies ch known exports bits mid rest actor n class e f is =
    then_is (opening_in copies ch) (λ (actor : ℕ). opened_class_in layout copies known actor >>= open_after exports
    actor) bits actor mid e
    ∙ then_is (opened_class_in layout copies known actor) (open_after exports actor) mid
    (class_at (table_in layout) n) rest f
    ∙ ap (λ (class : Class). open_after exports actor class rest) (sym is)

pub open_values_stop : (layout : Layout) (copies : List ActorCopy) (ch : ℕ) (known exports : List Segment)
    (bits mid rest : List Bool) (actor n : ℕ) (class : Class) → opening_in copies ch bits ≡ Ok (actor, mid)
    → opened_class_in layout copies known actor mid ≡ Ok (class_at (table_in layout) n, rest)
    → class ≡ class_at (table_in layout) n
    → StopsAs (values_at class) rest (opened_in layout copies ch known exports) bits
open_values_stop layout copies ch known exports bits mid rest actor n class e f is fault g =
    opened_in_is layout copies ch known exports bits mid rest actor n class e f is
    ∙ then_stops (values_at class) _ rest fault g

pub open_end_stop : (layout : Layout) (copies : List ActorCopy) (ch : ℕ) (known exports : List Segment)
    (bits mid rest last : List Bool) (actor n : ℕ) (class : Class) (values : List Pair)
    → opening_in copies ch bits ≡ Ok (actor, mid)
    → opened_class_in layout copies known actor mid ≡ Ok (class_at (table_in layout) n, rest)
    → class ≡ class_at (table_in layout) n → values_at class rest ≡ Ok (values, last)
    → StopsAs end_at last (opened_in layout copies ch known exports) bits
open_end_stop layout copies ch known exports bits mid rest last actor n class values e f is g fault h =
    opened_in_is layout copies ch known exports bits mid rest actor n class e f is
    ∙ then_is (values_at class) (λ (values : List Pair). end_at >>=
    (λ (n : ℕ). give (Opens exports actor class values))) rest values last g
    ∙ then_stops end_at _ last fault h

pub open_done : (layout : Layout) (copies : List ActorCopy) (ch : ℕ) (known exports : List Segment)
    (bits mid rest last over : List Bool) (actor n : ℕ) (class : Class) (values : List Pair) (k : ℕ)
    → opening_in copies ch bits ≡ Ok (actor, mid)
    → opened_class_in layout copies known actor mid ≡ Ok (class_at (table_in layout) n, rest)
    → class ≡ class_at (table_in layout) n → values_at class rest ≡ Ok (values, last) → end_at last ≡ Ok (k, over)
    → opened_in layout copies ch known exports bits ≡ Ok
    (Opens exports actor (class_at (table_in layout) n) values, over)
open_done layout copies ch known exports bits mid rest last over actor n class values k e f is g h =
    opened_in_is layout copies ch known exports bits mid rest actor n class e f is
    ∙ then_is (values_at class) (λ (values : List Pair). end_at >>=
    (λ (n : ℕ). give (Opens exports actor class values))) rest values last g
    ∙ then_is end_at (λ (n : ℕ). give (Opens exports actor class values)) last k over h
    ∙ ap (λ (class : Class). Ok (Opens exports actor class values, over)) is

pub open_whole : (layout : Layout) (copies : List ActorCopy) (ch : ℕ) (flag : Bool) (known : List Segment)
    (old new now : BitReader) (after : Kept) (done : Unit {0}) (result : Result ReadOpen Stop)
    → Learns (exports_at flag) known old new after (Ok done)
    → ((names exports : List Segment) → Stands after names
    → Follows (open_message layout exports) (opened_in layout copies ch names exports) new now result)
    → IsOpenRead layout copies ch flag known old now after result
open_whole layout copies ch flag known old new now after done result learnt reads =
    by result (reads (fold names_with known learnt.0) learnt.0 learnt.2)
  where
    onward : open_in layout copies ch flag known (bits_left old) ≡ opened_in layout copies ch
        (fold names_with known learnt.0) learnt.0 (bits_left new)
    onward = then_is (exports_at flag known) (λ (exports : List Segment). opened_in layout copies ch
        (fold names_with known exports) exports) (bits_left old) learnt.0 (bits_left new) learnt.1

    by : (result : Result ReadOpen Stop) → Follows (open_message layout learnt.0)
        (opened_in layout copies ch (fold names_with known learnt.0) learnt.0) new now result
        → IsOpenRead layout copies ch flag known old now after result
    by (Ok o) h = (learnt.0, onward ∙ h, learnt.2)
    by (Err Stop.Short) h = onward ∙ h
    by (Err (Stop.Broken left cause)) h = onward ∙ h
    by (Err Stop.Memory) h = tt
