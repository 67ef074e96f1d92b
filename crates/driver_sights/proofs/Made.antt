-- Entries that name a class of the table, and have values of its kinds.
use Rattle.std.proofs.Common.{◌≡◌, ℕ, ◌<◌, List, [], length, refl, sym, ap, ◌∙◌, subst}
use Rattle.std.specs.Prelude.{IsTrue}
use Rattle.protocol_model.specs.Value.{Class}
use Rattle.protocol_model.specs.World.{Edits, class_at, class_of}
use Rattle.class_layout.specs.Tables.{Layout, table_in, class_of as class_value}
use Rattle.class_layout.specs.declared.class.Class.{Class as ClassKept}
use Rattle.value_codec.specs.declared.pair.Pair.{Pair}
use Rattle.value_codec.specs.declared.value.Value.{Value}
use Rattle.payload_writing.specs.Values.{pairs_fit}
use Rattle.world_table.specs.declared.edit.Look.{Look}
use Rattle.sender_steps.specs.declared.sight.Seen.{Seen}
use Rattle.actor_sights.specs.Sampled.{AreOf}
use Rattle.driver_sights.specs.Looking.{IsMade}
use Rattle.driver_sights.proofs.Classes.{FoundIs}

-- one without values
pub made_none : (layout : Layout) (s : Seen) (n : ℕ) → s.class ≡ n → n < length layout.classes → s.values ≡ []
    → IsMade layout s
made_none layout s n is there none = record {
  class = subst (λ (k : ℕ). k < length layout.classes) (sym is) there;
  fit = subst (λ (ps : List Pair). IsTrue (pairs_fit (class_at (table_in layout) s.class) ps)) (sym none) refl;
}

-- one with the values that were sampled
pub made_seen : (layout : Layout) (edits : Edits) (a : ℕ) (look : Look) (c : ClassKept) (s : Seen)
    (values given : List Value) → FoundIs layout edits a look c → s.class ≡ look.class → given ≡ values
    → AreOf (class_of (table_in layout) edits a) values
    → ((k : Class) → k ≡ class_value layout.segments c → AreOf k given → IsTrue (pairs_fit k s.values))
    → IsMade layout s
made_seen layout edits a look c s values given found is same of fit = record {
  class = subst (λ (k : ℕ). k < length layout.classes) (sym is) found.there;
  fit = fit (class_at (table_in layout) s.class)
      (ap (class_at (table_in layout)) is ∙ found.value)
      (subst (λ (k : Class). AreOf k given)
      (found.is.class ∙ sym (ap (class_at (table_in layout)) is))
      (subst (AreOf (class_of (table_in layout) edits a)) (sym same) of));
}
