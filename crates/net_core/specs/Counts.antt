-- What counts of calls say of an answer.
use Rattle.std.specs.Prelude.{◌≡◌, ℕ, ◌+◌, ◌-◌, ◌^◌, min, Result, Ok, Err}
use Rattle.net_core.specs.declared.outside.files.ReadRefusal.{ReadRefusal}
use Rattle.net_core.specs.declared.outside.files.ReadRefusal.TheVariants as read
use Rattle.net_core.specs.declared.outside.sink.WriteRefusal.{WriteRefusal}
use Rattle.net_core.specs.declared.outside.sink.WriteRefusal.TheVariants as write

-- one more, in a count that is kept in a `u64` and stays at its greatest value
abbrev pub one_more : ℕ → ℕ
one_more count = min (count + 1) (2 ^ 64 - 1)

-- a count rose by one
abbrev pub Rose : (before now : ℕ) → Type 0
Rose before now = now ≡ one_more before

-- a read that failed is one fault, and every other answer is none
abbrev pub ReadCause : {T : Type 0} → (before now : ℕ) → Result T ReadRefusal → Type 0
ReadCause before now (Ok x) = now ≡ before
ReadCause before now (Err read.Missing) = now ≡ before
ReadCause before now (Err read.Failed) = Rose before now
ReadCause before now (Err read.Memory) = now ≡ before

-- a write that failed is one fault, and every other answer is none
abbrev pub WriteCause : {T : Type 0} → (before now : ℕ) → Result T WriteRefusal → Type 0
WriteCause before now (Ok x) = now ≡ before
WriteCause before now (Err write.Failed) = Rose before now
WriteCause before now (Err write.Memory) = now ≡ before

-- a write without memory is one shortage, and every other answer is none
abbrev pub WriteShortage : {T : Type 0} → (before now : ℕ) → Result T WriteRefusal → Type 0
WriteShortage before now (Ok x) = now ≡ before
WriteShortage before now (Err write.Failed) = now ≡ before
WriteShortage before now (Err write.Memory) = Rose before now
