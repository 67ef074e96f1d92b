-- Reading lists turn by turn.
use Rattle.std.proofs.Common.{◌≡◌, ℕ, ℤ, zero, suc, ◌==◌, ◌||◌, ◌&&◌, nat_lt, nat_le, List, [], ◌∷◌, ◌++◌, Bool, true, false, Option, Result, Ok, Err, refl, ap, append_assoc, append-nil}
use Rattle.protocol_model.specs.declared.Cause.{Cause}
use Rattle.protocol_model.specs.declared.Kind.{Kind}
use Rattle.protocol_model.specs.Reading.{Fault, ◌>>=◌, fixed_at}
use Rattle.protocol_model.specs.Value.{Pair, Class, Arg, handle_count}
use Rattle.protocol_model.specs.Payload.{kind_at}
use Rattle.connection_model.specs.PayloadReading.{field, number_at, value_at, pairs_at, octets_at, arg_at, args_at}
use Rattle.payload_reading.specs.Reads.{behind}

-- what a reading answers
abbrev pub Answer : Type 0 → Type 0
Answer A = Result (A × List Bool) (Fault (Option Cause))

behind_one : {A : Type 0} (front : List A) (item : A) (r : Answer (List A))
    → behind front (elim r [ Ok got ↦ Ok (item ∷ got.0, got.1) | Err fault ↦ Err fault ]) ≡ behind
    (front ++ item ∷ []) r
behind_one front item (Ok got) = rw (append_assoc front (item ∷ []) got.0) refl
behind_one front item (Err fault) = refl

pub behind_none : {A : Type 0} (r : Answer (List A)) → behind [] r ≡ r
behind_none (Ok got) = refl
behind_none (Err fault) = refl

-- what stops behind something stops
pub fault_behind : {A : Type 0} (front : List A) (r : Answer (List A)) (fault : Fault (Option Cause))
    → behind front r ≡ Err fault → r ≡ Err fault
fault_behind front (Ok got) fault e = absurd (cc)
fault_behind front (Err it) fault e = e

pub behind_fault : {A : Type 0} (front : List A) (r : Answer (List A)) (fault : Fault (Option Cause))
    → r ≡ Err fault → behind front r ≡ Err fault
behind_fault front r fault e = rw e refl

-- ---- bytes

pub octets_more : (count : ℕ) (front : List ℕ) (byte : ℕ) (bits rest : List Bool)
    → fixed_at {Why = Option Cause} 8 bits ≡ Ok (byte, rest)
    → behind front (octets_at (suc count) bits) ≡ behind (front ++ byte ∷ []) (octets_at count rest)
octets_more count front byte bits rest e =
    rw (octets_at, ◌>>=◌, e) (behind_one front byte (octets_at count rest))

pub octets_fault : (count : ℕ) (bits : List Bool) (fault : Fault (Option Cause))
    → fixed_at {Why = Option Cause} 8 bits ≡ Err fault → octets_at (suc count) bits ≡ Err fault
octets_fault count bits fault e = rw (octets_at, ◌>>=◌, e) refl

-- ---- arguments

pub args_more : (kind : Kind) (kinds : List Kind) (front : List Arg) (a : Arg) (bits rest : List Bool)
    → arg_at kind bits ≡ Ok (a, rest)
    → behind front (args_at (kind ∷ kinds) bits) ≡ behind (front ++ a ∷ []) (args_at kinds rest)
args_more kind kinds front a bits rest e = rw (args_at, ◌>>=◌, e) (behind_one front a (args_at kinds rest))

pub args_fault : (kind : Kind) (kinds : List Kind) (bits : List Bool) (fault : Fault (Option Cause))
    → arg_at kind bits ≡ Err fault → args_at (kind ∷ kinds) bits ≡ Err fault
args_fault kind kinds bits fault e = rw (args_at, ◌>>=◌, e) refl

-- ---- values by handles

-- the rule of a handle
abbrev pub above : Class → (last : ℕ) → ℕ → Bool
above class last h = h == 0 || (nat_lt last h && nat_le h (handle_count class))

pub pairs_more : (class : Class) (more last h : ℕ) (v : ℤ) (front : List Pair) (bits mid rest : List Bool)
    → field number_at (above class last) bits ≡ Ok (h, mid) → (h == 0) ≡ false
    → value_at (kind_at class h) mid ≡ Ok (v, rest)
    → behind front (pairs_at class (suc more) last bits) ≡ behind
    (front ++ record { handle = h; value = v } ∷ []) (pairs_at class more h rest)
pairs_more class more last h v front bits mid rest e s f =
    rw (pairs_at, ◌>>=◌, e, s, f)
    (behind_one front (record { handle = h; value = v }) (pairs_at class more h rest))

pub pairs_end : (class : Class) (more last h : ℕ) (front : List Pair) (bits rest : List Bool)
    → field number_at (above class last) bits ≡ Ok (h, rest) → (h == 0) ≡ true
    → behind front (pairs_at class (suc more) last bits) ≡ Ok (front, rest)
pairs_end class more last h front bits rest e s =
    rw (pairs_at, ◌>>=◌, e, s) (ap (λ (l : List Pair). Ok (l, rest)) (append-nil front))

pub pairs_fault : (class : Class) (more last : ℕ) (bits : List Bool) (fault : Fault (Option Cause))
    → field number_at (above class last) bits ≡ Err fault → pairs_at class (suc more) last bits ≡ Err fault
pairs_fault class more last bits fault e = rw (pairs_at, ◌>>=◌, e) refl

pub pairs_value_fault : (class : Class) (more last h : ℕ) (bits mid : List Bool)
    (fault : Fault (Option Cause))
    → field number_at (above class last) bits ≡ Ok (h, mid) → (h == 0) ≡ false
    → value_at (kind_at class h) mid ≡ Err fault
    → pairs_at class (suc more) last bits ≡ Err fault
pairs_value_fault class more last h bits mid fault e s f = rw (pairs_at, ◌>>=◌, e, s, f) refl

pub pairs_last : (class : Class) (last n : ℕ) (front : List Pair) (bits rest : List Bool)
    → field number_at (λ h. h == 0) bits ≡ Ok (n, rest)
    → behind front (pairs_at class zero last bits) ≡ Ok (front, rest)
pairs_last class last n front bits rest e =
    rw (pairs_at, ◌>>=◌, e) (ap (λ (l : List Pair). Ok (l, rest)) (append-nil front))

pub pairs_last_fault : (class : Class) (last : ℕ) (bits : List Bool) (fault : Fault (Option Cause))
    → field number_at (λ h. h == 0) bits ≡ Err fault → pairs_at class zero last bits ≡ Err fault
pairs_last_fault class last bits fault e = rw (pairs_at, ◌>>=◌, e) refl
