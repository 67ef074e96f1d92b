-- What is known of an actor's copy is what is kept of it.
use Rattle.std.proofs.Common.{◌≡◌, ℕ, List, Bool, true, false, cond, Option, Some, None, is_some, option_map, option_and_then, refl, sym, ap, ◌∙◌}
use Rattle.protocol_model.specs.Value.{Class}
use Rattle.protocol_model.specs.World.{class_at}
use Rattle.connection_model.specs.Feed.{Past}
use Rattle.connection_model.specs.Copies.{copy_class, copy_channel, has_copy}
use Rattle.class_layout.specs.Tables.{Layout, table_in}
use Rattle.client_laws.proofs.Channels.{channel_copy}
use Rattle.actor_copies.specs.declared.copy.ActorCopy.{ActorCopy}
use Rattle.actor_copies.specs.Copies.{Copy, copy_value_of, values_of}
use Rattle.actor_copies.specs.Index.{channel_number}
use Rattle.actor_copies.specs.Kept.{copy_actor, kept_of}
use Rattle.actor_copies.specs.Stands.{Shows, actor_key}
use Rattle.actor_copies.proofs.Keyed.{mapped_at}

-- the class of a copy
abbrev pub class_kept : Layout → ActorCopy → Class
class_kept layout c = class_at (table_in layout) c.class

-- what the definitions make of a class
abbrev made : Past → (actor : ℕ) → Option Class → Option Copy
made past a o = option_map (λ (class : Class). record {
  actor = a;
  class = class;
  channel = copy_channel past a;
  values = values_of past a class;
}) o

-- what is kept of an actor is its copy
record Same (layout : Layout) (past : Past) (a : ℕ) (o : Option ActorCopy) (class : Option Class) : Type 0 where
  class_is : option_map (class_kept layout) o ≡ class
  channel_is : option_and_then channel_number o ≡ cond (is_some class) (copy_channel past a) None
  some_is : is_some o ≡ is_some class

same_by : (layout : Layout) (past : Past) (a : ℕ) (o : Option ActorCopy) (class : Option Class)
    → option_map (copy_value_of layout) o ≡ made past a class → Same layout past a o class
same_by layout past a None None e = record { class_is = refl; channel_is = refl; some_is = refl }
same_by layout past a None (Some class) e = absurd (cc)
same_by layout past a (Some c) None e = absurd (cc)
same_by layout past a (Some c) (Some class) e =
    let same : ◌≡◌ {A = Copy} (copy_value_of layout c) (record {
      actor = a;
      class = class;
      channel = copy_channel past a;
      values = values_of past a class;
    }) = cc in
    record {
      class_is = ap (λ (c : Copy). Some c.class) same;
      channel_is = ap (λ (c : Copy). c.channel) same;
      some_is = refl;
    }

same_of : (layout : Layout) (copies : List ActorCopy) (past : Past) (a : ℕ) → Shows layout copies past
    → Same layout past a (kept_of copies a) (copy_class past a)
same_of layout copies past a m =
    same_by layout past a (kept_of copies a) (copy_class past a)
    (sym (mapped_at (copy_value_of layout) copy_actor actor_key (λ c. refl) copies a) ∙ m.each a)

pub class_known : (layout : Layout) (copies : List ActorCopy) (past : Past) (a : ℕ) → Shows layout copies past
    → option_map (class_kept layout) (kept_of copies a) ≡ copy_class past a
class_known layout copies past a m = (same_of layout copies past a m).class_is

pub copy_known : (layout : Layout) (copies : List ActorCopy) (past : Past) (a : ℕ) → Shows layout copies past
    → is_some (kept_of copies a) ≡ has_copy past a
copy_known layout copies past a m = (same_of layout copies past a m).some_is

pub channel_known : (layout : Layout) (copies : List ActorCopy) (past : Past) (a : ℕ)
    → Shows layout copies past → option_and_then channel_number (kept_of copies a) ≡ copy_channel past a
channel_known layout copies past a m = (same_of layout copies past a m).channel_is ∙ by (has_copy past a) refl
  where
    none : (o : Option ℕ) → copy_channel past a ≡ o → has_copy past a ≡ false → None ≡ o
    none None e h = refl
    none (Some c) e h = let no : true ≡ false = sym (channel_copy past a c e) ∙ h in absurd (cc)

    by : (b : Bool) → has_copy past a ≡ b → cond b (copy_channel past a) None ≡ copy_channel past a
    by true e = refl
    by false e = none (copy_channel past a) refl e
