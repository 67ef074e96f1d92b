-- What has been read of a list by now.
use Rattle.std.proofs.Common.{◌≡◌, ℕ, ℤ, zero, suc, ◌+◌, ◌-◌, ◌<◌, ◌≤◌, ◌==◌, ◌||◌, ◌&&◌, nat_lt, nat_le, List, [], ◌∷◌, ◌++◌, Bool, true, false, Ok, Err, map, refl, sym, ap, ◌∙◌, subst, arith}
use Rattle.std.proofs.lemmas.List.{map-append}
use Rattle.std.proofs.lemmas.Bool.Decides.{nat_tests}
use Rattle.protocol_model.specs.declared.Kind.{Kind}
use Rattle.protocol_model.specs.Value as Model
use Rattle.protocol_model.specs.Payload.{kind_at}
use Rattle.protocol_model.specs.Reading.{◌>>=◌}
use Rattle.connection_model.specs.PayloadReading.{pairs_at, values_at, some_values_at, field, number_at, value_at}
use Rattle.bit_io.specs.declared.lent.BitReader.{BitReader}
use Rattle.bit_io.specs.Lent.{bits_left}
use Rattle.value_codec.specs.Values.{whole_of}
use Rattle.class_layout.specs.Tables.{class_of}
use Rattle.class_layout.specs.declared.class.Class.{Class}
use Rattle.class_layout.specs.declared.class.Segment.{Segment}
use Rattle.value_codec.specs.declared.pair.Pair.{Pair}
use Rattle.value_codec.specs.declared.value.Value.{Value}
use Rattle.payload_reading.specs.Reads.{behind}
use Rattle.payload_reading.specs.Values.{pair_value}
use Rattle.payload_reading.proofs.Stops.{StopsAs}
use Rattle.payload_reading.proofs.Loops.{Answer, behind_none, above, pairs_more, pairs_end, pairs_fault, pairs_value_fault, pairs_last, pairs_last_fault, fault_behind, behind_fault}

-- so many turns put these values behind the first ones
pub record PairsSoFar (class : Class) (old new : BitReader) (before after : List Pair)
    (more first last turns : ℕ) : Type 0 where
  pub so_far : (segments : List Segment)
      → behind (map pair_value after) (pairs_at (class_of segments class) (more - turns) last (bits_left new))
      ≡ behind (map pair_value before) (pairs_at (class_of segments class) more first (bits_left old))

-- the rule of a handle, where there are so many
abbrev pub within : (most last : ℕ) → ℕ → Bool
within most last h = h == 0 || (nat_lt last h && nat_le h most)

no_zero : (h : ℕ) → (h ≡ 0 → ⊥) → (h == 0) ≡ false
no_zero h e = grind (arith, nat_tests)

is_zero : (h : ℕ) → h ≡ 0 → (h == 0) ≡ true
is_zero h e = grind (arith, nat_tests)

-- one more value
pub pairs_step : (class : Class) (old new mid next : BitReader) (before after : List Pair)
    (more first last turns most h : ℕ) (kind : Kind) (v : Value)
    → PairsSoFar class old new before after more first last turns → turns < more
    → ((segments : List Segment) → most ≡ Model.handle_count (class_of segments class))
    → field number_at (within most last) (bits_left new) ≡ Ok (h, bits_left mid) → (h ≡ 0 → ⊥)
    → ((segments : List Segment) → kind ≡ kind_at (class_of segments class) h)
    → value_at kind (bits_left mid) ≡ Ok (whole_of v, bits_left next)
    → PairsSoFar class old next before (after ++ record { prop = h; value = v } ∷ []) more first h (turns + 1)
pairs_step class old new mid next before after more first last turns most h kind v s l most_is e some kind_is f = record { so_far = λ segments. step segments }
  where
    turn : more - turns ≡ suc (more - (turns + 1))
    turn = omega (arith, l)

    step : (segments : List Segment)
        → behind (map pair_value (after ++ record { prop = h; value = v } ∷ []))
        (pairs_at (class_of segments class) (more - (turns + 1)) h (bits_left next))
        ≡ behind (map pair_value before) (pairs_at (class_of segments class) more first (bits_left old))
    step segments =
        let rule : field number_at (above (class_of segments class) last) (bits_left new) ≡ Ok
        (h, bits_left mid) = subst
        (λ (m : ℕ). field number_at (within m last) (bits_left new) ≡ Ok (h, bits_left mid))
        (most_is segments) e in
        let value : value_at (kind_at (class_of segments class) h) (bits_left mid) ≡ Ok
        (whole_of v, bits_left next) = subst
        (λ (k : Kind). value_at k (bits_left mid) ≡ Ok (whole_of v, bits_left next)) (kind_is segments) f in
        ap (λ (front : List Model.Pair). behind front
        (pairs_at (class_of segments class) (more - (turns + 1)) h (bits_left next))) (map-append pair_value
        after (record { prop = h; value = v } ∷ []))
        ∙ sym (pairs_more (class_of segments class) (more - (turns + 1)) last h (whole_of v)
        (map pair_value after) (bits_left new) (bits_left mid) (bits_left next) rule (no_zero h some) value)
        ∙ ap (λ (n : ℕ). behind (map pair_value after)
        (pairs_at (class_of segments class) n last (bits_left new))) (sym turn)
        ∙ s.so_far segments

-- handle 0 ends them
pub pairs_done : (class : Class) (old new mid : BitReader) (before after : List Pair)
    (more first last turns most h : ℕ)
    → PairsSoFar class old new before after more first last turns → turns < more
    → ((segments : List Segment) → most ≡ Model.handle_count (class_of segments class))
    → field number_at (within most last) (bits_left new) ≡ Ok (h, bits_left mid) → h ≡ 0
    → (segments : List Segment)
    → behind (map pair_value before) (pairs_at (class_of segments class) more first (bits_left old)) ≡ Ok
    (map pair_value after, bits_left mid)
pairs_done class old new mid before after more first last turns most h s l most_is e none segments =
    let turn : more - turns ≡ suc (more - (turns + 1)) = omega (arith, l) in
    let rule : field number_at (above (class_of segments class) last) (bits_left new) ≡ Ok (h, bits_left mid)
    = subst (λ (m : ℕ). field number_at (within m last) (bits_left new) ≡ Ok (h, bits_left mid))
    (most_is segments) e in
    sym (s.so_far segments)
    ∙ ap
    (λ (n : ℕ). behind (map pair_value after) (pairs_at (class_of segments class) n last (bits_left new)))
    turn
    ∙ pairs_end (class_of segments class) (more - (turns + 1)) last h (map pair_value after) (bits_left new)
    (bits_left mid) rule (is_zero h none)

-- a handle that is at fault
pub pairs_stop : (class : Class) (old new : BitReader) (before after : List Pair)
    (more first last turns most : ℕ)
    → PairsSoFar class old new before after more first last turns → turns < more
    → ((segments : List Segment) → most ≡ Model.handle_count (class_of segments class))
    → (segments : List Segment)
    → StopsAs (field number_at (within most last)) (bits_left new)
    (pairs_at (class_of segments class) more first) (bits_left old)
pairs_stop class old new before after more first last turns most s l most_is segments fault e =
    let turn : more - turns ≡ suc (more - (turns + 1)) = omega (arith, l) in
    let rule : field number_at (above (class_of segments class) last) (bits_left new) ≡ Err fault = subst
    (λ (m : ℕ). field number_at (within m last) (bits_left new) ≡ Err fault) (most_is segments) e in
    fault_behind (map pair_value before) _ fault
    (sym (s.so_far segments) ∙ ap
    (λ (n : ℕ). behind (map pair_value after) (pairs_at (class_of segments class) n last (bits_left new)))
    turn
    ∙ behind_fault (map pair_value after) _ fault
    (pairs_fault (class_of segments class) (more - (turns + 1)) last (bits_left new) fault rule))

-- a value that is
pub pairs_value_stop : (class : Class) (old new mid : BitReader) (before after : List Pair)
    (more first last turns most h : ℕ) (kind : Kind)
    → PairsSoFar class old new before after more first last turns → turns < more
    → ((segments : List Segment) → most ≡ Model.handle_count (class_of segments class))
    → field number_at (within most last) (bits_left new) ≡ Ok (h, bits_left mid) → (h ≡ 0 → ⊥)
    → ((segments : List Segment) → kind ≡ kind_at (class_of segments class) h)
    → (segments : List Segment)
    → StopsAs (value_at kind) (bits_left mid) (pairs_at (class_of segments class) more first) (bits_left old)
pairs_value_stop class old new mid before after more first last turns most h kind s l most_is e some kind_is
    segments fault f =
    let turn : more - turns ≡ suc (more - (turns + 1)) = omega (arith, l) in
    let rule : field number_at (above (class_of segments class) last) (bits_left new) ≡ Ok (h, bits_left mid)
    = subst (λ (m : ℕ). field number_at (within m last) (bits_left new) ≡ Ok (h, bits_left mid))
    (most_is segments) e in
    let value : value_at (kind_at (class_of segments class) h) (bits_left mid) ≡ Err fault = subst
    (λ (k : Kind). value_at k (bits_left mid) ≡ Err fault) (kind_is segments) f in
    fault_behind (map pair_value before) _ fault
    (sym (s.so_far segments) ∙ ap
    (λ (n : ℕ). behind (map pair_value after) (pairs_at (class_of segments class) n last (bits_left new)))
    turn
    ∙ behind_fault (map pair_value after) _ fault (pairs_value_fault (class_of segments class)
    (more - (turns + 1)) last h (bits_left new) (bits_left mid) fault rule (no_zero h some) value))

-- all turns are done: the last handle is 0
pub pairs_over : (class : Class) (old new next : BitReader) (before after : List Pair)
    (more first last turns n : ℕ)
    → PairsSoFar class old new before after more first last turns → more ≤ turns
    → field number_at (λ h. h == 0) (bits_left new) ≡ Ok (n, bits_left next) → (segments : List Segment)
    → behind (map pair_value before) (pairs_at (class_of segments class) more first (bits_left old)) ≡ Ok
    (map pair_value after, bits_left next)
pairs_over class old new next before after more first last turns n s l e segments =
    let turn : more - turns ≡ zero = omega (arith, l) in
    sym (s.so_far segments)
    ∙ ap
    (λ (k : ℕ). behind (map pair_value after) (pairs_at (class_of segments class) k last (bits_left new)))
    turn
    ∙ pairs_last (class_of segments class) last n (map pair_value after) (bits_left new) (bits_left next) e

pub pairs_over_stop : (class : Class) (old new : BitReader) (before after : List Pair)
    (more first last turns : ℕ)
    → PairsSoFar class old new before after more first last turns → more ≤ turns → (segments : List Segment)
    → StopsAs (field number_at (λ h. h == 0)) (bits_left new) (pairs_at (class_of segments class) more first)
    (bits_left old)
pairs_over_stop class old new before after more first last turns s l segments fault e =
    let turn : more - turns ≡ zero = omega (arith, l) in
    fault_behind (map pair_value before) _ fault
    (sym (s.so_far segments) ∙ ap
    (λ (k : ℕ). behind (map pair_value after) (pairs_at (class_of segments class) k last (bits_left new)))
    turn
    ∙ behind_fault (map pair_value after) _ fault
    (pairs_last_fault (class_of segments class) last (bits_left new) fault e))

-- ---- whole lists

count_same : (class : Model.Class) (count last : ℕ) (bits : List Bool) → count ≡ Model.handle_count class
    → pairs_at class count last bits ≡ pairs_at class (Model.handle_count class) last bits
count_same class count last bits e = ap (λ (n : ℕ). pairs_at class n last bits) e

pub values_done : (class : Model.Class) (front after : List Pair) (count : ℕ) (bits rest : List Bool)
    → front ≡ [] → count ≡ Model.handle_count class
    → behind (map pair_value front) (pairs_at class count 0 bits) ≡ Ok (map pair_value after, rest)
    → values_at class bits ≡ Ok (map pair_value after, rest)
values_done class front after count bits rest none e h =
    sym (count_same class count 0 bits e) ∙ sym (behind_none (pairs_at class count 0 bits))
    ∙ ap (λ (l : List Pair). behind (map pair_value l) (pairs_at class count 0 bits)) (sym none) ∙ h

pub values_stop : (class : Model.Class) (count : ℕ) (bits : List Bool) → count ≡ Model.handle_count class
    → StopsAs (pairs_at class count 0) bits (values_at class) bits
values_stop class count bits e fault h = sym (count_same class count 0 bits e) ∙ h

-- the rule of the first handle, where there are so many
abbrev pub some_within : (most : ℕ) → ℕ → Bool
some_within most h = nat_lt 0 h && nat_le h most

some_rule : (class : Model.Class) (count : ℕ) (bits : List Bool) (r : Answer ℕ)
    → count ≡ Model.handle_count class → field number_at (some_within count) bits ≡ r
    → field number_at (some_within (Model.handle_count class)) bits ≡ r
some_rule class count bits r e h = subst (λ (m : ℕ). field number_at (some_within m) bits ≡ r) e h

pub some_stop : (class : Model.Class) (count : ℕ) (bits : List Bool) → count ≡ Model.handle_count class
    → StopsAs (field number_at (some_within count)) bits (some_values_at class) bits
some_stop class count bits e fault h =
    rw (some_values_at, ◌>>=◌, some_rule class count bits (Err fault) e h) refl

pub some_value_stop : (class : Model.Class) (count h : ℕ) (kind : Kind) (bits mid : List Bool)
    → count ≡ Model.handle_count class → field number_at (some_within count) bits ≡ Ok (h, mid)
    → kind ≡ kind_at class h
    → StopsAs (value_at kind) mid (some_values_at class) bits
some_value_stop class count h kind bits mid e first k fault f =
    let value : value_at (kind_at class h) mid ≡ Err fault = subst (λ (k : Kind). value_at k mid ≡ Err fault)
    k f in
    rw (some_values_at, ◌>>=◌, some_rule class count bits (Ok (h, mid)) e first, value) refl

-- a first value, and then the others
abbrev with_first : (p : Model.Pair) → Answer (List Model.Pair) → Answer (List Model.Pair)
with_first p r = elim r [ Ok got ↦ Ok (p ∷ got.0, got.1) | Err fault ↦ Err fault ]

some_then : (class : Model.Class) (count h : ℕ) (kind : Kind) (v : ℤ) (bits mid rest : List Bool)
    → count ≡ Model.handle_count class → field number_at (some_within count) bits ≡ Ok (h, mid)
    → kind ≡ kind_at class h → value_at kind mid ≡ Ok (v, rest)
    → some_values_at class bits ≡ with_first (record { handle = h; value = v })
    (pairs_at class (count - 1) h rest)
some_then class count h kind v bits mid rest e first k f =
    let value : value_at (kind_at class h) mid ≡ Ok (v, rest) = subst
    (λ (k : Kind). value_at k mid ≡ Ok (v, rest)) k f in
    rw (some_values_at, ◌>>=◌, some_rule class count bits (Ok (h, mid)) e first, value)
    (ap (λ (n : ℕ). with_first (record { handle = h; value = v }) (pairs_at class (n - 1) h rest)) (sym e))

pub some_pairs_stop : (class : Model.Class) (count h : ℕ) (kind : Kind) (v : ℤ) (bits mid rest : List Bool)
    → count ≡ Model.handle_count class → field number_at (some_within count) bits ≡ Ok (h, mid)
    → kind ≡ kind_at class h → value_at kind mid ≡ Ok (v, rest)
    → StopsAs (pairs_at class (count - 1) h) rest (some_values_at class) bits
some_pairs_stop class count h kind v bits mid rest e first k f fault g =
    some_then class count h kind v bits mid rest e first k f
    ∙ ap (with_first (record { handle = h; value = v })) g

first_is : (p : Model.Pair) (r : Answer (List Model.Pair)) → with_first p r ≡ behind (p ∷ []) r
first_is p (Ok got) = refl
first_is p (Err fault) = refl

pub some_done : (class : Model.Class) (count h : ℕ) (kind : Kind) (v : Value) (front after : List Pair)
    (bits mid rest last : List Bool)
    → count ≡ Model.handle_count class → field number_at (some_within count) bits ≡ Ok (h, mid)
    → kind ≡ kind_at class h → value_at kind mid ≡ Ok (whole_of v, rest)
    → front ≡ record { prop = h; value = v } ∷ []
    → behind (map pair_value front) (pairs_at class (count - 1) h rest) ≡ Ok (map pair_value after, last)
    → some_values_at class bits ≡ Ok (map pair_value after, last)
some_done class count h kind v front after bits mid rest last e first k f one g =
    some_then class count h kind (whole_of v) bits mid rest e first k f
    ∙ first_is (record { handle = h; value = whole_of v }) (pairs_at class (count - 1) h rest)
    ∙ ap (λ (l : List Pair). behind (map pair_value l) (pairs_at class (count - 1) h rest)) (sym one) ∙ g
