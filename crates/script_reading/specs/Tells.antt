-- What an answer tells.
use Rattle.std.specs.Prelude.{◌≡◌, ⊤, ℕ, Result, Ok, Err}
use Rattle.protocol_model.specs.declared.LineWhy.{LineWhy}
use Rattle.script_reading.specs.declared.refusal.ScriptRefusal.{ScriptRefusal}
use Rattle.script_reading.specs.declared.refusal.ScriptRefusal.TheVariants as refusal
use Rattle.script_reading.specs.declared.refusal.Stop.{Stop}
use Rattle.script_reading.specs.declared.refusal.Stop.TheVariants as stop

-- it is what f sees of the answer, or the same reason; memory may want at any time
abbrev pub Tells : {A B : Type 0} → (A → B) → Result B LineWhy → Result A Stop → Type 0
Tells f told (Ok x) = told ≡ Ok (f x)
Tells f told (Err (stop.Why why)) = told ≡ Err why
Tells f told (Err stop.Memory) = ⊤

-- the refusal of a script at the line of this number
abbrev pub refused : (number : ℕ) → Stop → ScriptRefusal
refused n (stop.Why why) = refusal.BadLine n why
refused n stop.Memory = refusal.Memory
