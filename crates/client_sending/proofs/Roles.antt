-- What a copy that is kept tells of a call of its actor.
use Rattle.std.proofs.Common.{◌≡◌, ◌∙◌, ℕ, ◌==◌, ℤ, pos, List, [], ◌∷◌, map, Bool, true, false, not, cond, Option, Some, None, option_map, option_and_then, slice_get, refl, sym, ap, subst}
use Rattle.std.specs.List.{AllByRecursion}
use Rattle.std.specs.Ordering.{int_eq}
use Rattle.std.proofs.lemmas.Option.{none-some, same_Some}
use Rattle.protocol_model.specs.Side.{AtClient}
use Rattle.protocol_model.specs.Value.{Call}
use Rattle.protocol_model.specs.World.{class_at}
use Rattle.protocol_model.specs.declared.CallAnswer.TheVariants.{NotOpen, NotOwner}
use Rattle.connection_model.specs.CallAnswers as answers
use Rattle.connection_model.specs.CallAnswers.{answer_of}
use Rattle.protocol_model.specs.Value as Model
use Rattle.connection_model.specs.Copies.{copy_class, copy_channel, copy_value}
use Rattle.connection_model.specs.Feed.{Past, has_ended}
use Rattle.class_layout.specs.Tables.{Layout, table_in}
use Rattle.class_members.specs.Members as members
use Rattle.class_members.specs.declared.members.Call.{Call as CallValue}
use Rattle.value_codec.specs.Values.{arg_of, whole_of}
use Rattle.value_codec.specs.declared.args.Arg.{Arg as ArgValue}
use Rattle.value_codec.specs.declared.pair.Pair.{Pair}
use Rattle.payload_reading.specs.Values.{pair_value, pair_values}
use Rattle.actor_copies.specs.declared.copy.ActorCopy.{ActorCopy}
use Rattle.actor_copies.specs.Copies.{Copy, copy_value_of, values_of}
use Rattle.actor_copies.specs.Kept.{copy_actor, kept_of}
use Rattle.actor_copies.specs.Stands.{Stands, Shows, actor_key}
use Rattle.actor_copies.specs.Index.{channel_number}
use Rattle.actor_copies.proofs.Keyed.{mapped_at}
use Rattle.actor_copies.proofs.Knowing.{class_kept, class_known, channel_known}
use Rattle.client_sending.specs.Calling.{IsMeant}
use Rattle.client_sending.proofs.Meant.{no_channel, no_call, not_owned}

-- the value of handle 3, which is kept in the third place
pub record Role (past : Past) (a : ℕ) (c : ActorCopy) : Type 0 where
  pub role : Pair
  pub at : slice_get c.values 2 ≡ Some role
  pub is : whole_of role.value ≡ copy_value past a 3

third : (pairs : List Pair) (p : Model.Pair) → slice_get (pair_values pairs) 2 ≡ Some p
    → (q : Pair) × (slice_get pairs 2 ≡ Some q) × (pair_value q ≡ p)
third [] p e = absurd (cc)
third (x ∷ []) p e = absurd (cc)
third (x ∷ y ∷ []) p e = absurd (cc)
third (x ∷ y ∷ z ∷ pairs) p e = (z, refl, (let same : pair_value z ≡ p = cc in same))

role_by : (layout : Layout) (past : Past) (a : ℕ) (c : ActorCopy) (class : Option Model.Class)
    → ◌≡◌ {A = Option Copy} (Some (copy_value_of layout c)) (option_map (λ (class : Model.Class). record {
      actor = a;
      class = class;
      channel = copy_channel past a;
      values = values_of past a class;
    }) class) → Role past a c
role_by layout past a c None e = absurd (cc)
role_by layout past a c (Some class) e =
    let same : pair_values c.values ≡ values_of past a class = values_same (copy_value_of layout c) _ e in
    let r = third c.values (record { handle = 3; value = copy_value past a 3 })
    (ap (λ (pairs : List Model.Pair). slice_get pairs 2) same) in
    record { role = r.0; at = r.1; is = ap (λ (p : Model.Pair). p.value) r.2 }
  where
    values_same : (x y : Copy) → ◌≡◌ {A = Option Copy} (Some x) (Some y) → x.values ≡ y.values
    values_same x y e = let same : x ≡ y = cc in ap (λ (c : Copy). c.values) same

pub role_of : (layout : Layout) (copies : List ActorCopy) (past : Past) (a : ℕ) (c : ActorCopy)
    → Shows layout copies past → kept_of copies a ≡ Some c → Role past a c
role_of layout copies past a c m e =
    role_by layout past a c (copy_class past a)
    (ap (option_map (copy_value_of layout)) (sym e)
    ∙ sym (mapped_at (copy_value_of layout) copy_actor actor_key (λ c. refl) copies a) ∙ m.each a)

-- what holds of each copy holds of that of an actor
pub holds_of : (P : ActorCopy → Type 0) (copies : List ActorCopy) (a : ℕ) (c : ActorCopy) → AllByRecursion P copies
    → kept_of copies a ≡ Some c → P c
holds_of P [] a c all e = absurd (none-some c e)
holds_of P (x ∷ copies) a c all e = by (x.actor == a) e (λ q. holds_of P copies a c all.1 q)
  where
    by : (b : Bool) → cond b (Some x) (kept_of copies a) ≡ Some c → (kept_of copies a ≡ Some c → P c) → P c
    by true e rest = subst P (same_Some x c e) all.0
    by false e rest = rest e

-- ---- what a call of the actor is answered, and which one is meant

module _ (layout : Layout) (copies : List ActorCopy) (past : Past) (a n : ℕ) (args : List ArgValue)
    (s : Stands layout copies past) (alive : has_ended past ≡ false) where
  pub no_copy : kept_of copies a ≡ None → answer_of AtClient past a n (map arg_of args) ≡ NotOpen
  no_copy e =
      no_channel past a n (map arg_of args) alive
      (sym (channel_known layout copies past a s.shows) ∙ ap (option_and_then channel_number) e)

  pub on_channel : (c : ActorCopy) → kept_of copies a ≡ Some c → copy_channel past a ≡ c.channel
  on_channel c e = sym (channel_known layout copies past a s.shows) ∙ ap (option_and_then channel_number) e

  pub asleep : (c : ActorCopy) → kept_of copies a ≡ Some c → c.channel ≡ None
      → answer_of AtClient past a n (map arg_of args) ≡ NotOpen
  asleep c e f = no_channel past a n (map arg_of args) alive (on_channel c e ∙ f)

  pub call_is : (c : ActorCopy) → kept_of copies a ≡ Some c
      → answers.call_of AtClient past a n (map arg_of args)
      ≡ answers.fitting_call AtClient n (map arg_of args) (class_at (table_in layout) c.class)
  call_is c e =
      ap (option_and_then (answers.fitting_call AtClient n (map arg_of args)))
      (sym (class_known layout copies past a s.shows) ∙ ap (option_map (class_kept layout)) e)

  pub uncalled : (c : ActorCopy) (ch : ℕ) → kept_of copies a ≡ Some c → c.channel ≡ Some ch
      → answers.fitting_call AtClient n (map arg_of args) (class_at (table_in layout) c.class) ≡ None
      → answer_of AtClient past a n (map arg_of args) ≡ NotOpen
  uncalled c ch e f none =
      no_call past a n (map arg_of args) ch alive (on_channel c e ∙ f) (call_is c e ∙ none)

  -- whether the role is 0
  pub owned_is : (c : ActorCopy) (call : Call) (b : Bool) → kept_of copies a ≡ Some c
      → ((role : Pair) → slice_get c.values 2 ≡ Some role → b ≡ not (int_eq (whole_of role.value) (pos 0)))
      → answers.is_not_owner AtClient past a call ≡ not b
  owned_is c call b e told =
      let r = role_of layout copies past a c s.shows e in
      ap (λ (v : ℤ). int_eq v (pos 0)) (sym r.is)
      ∙ twice (int_eq (whole_of r.role.value) (pos 0)) ∙ ap not (sym (told r.role r.at))
    where
      twice : (b : Bool) → b ≡ not (not b)
      twice true = refl
      twice false = refl

  pub barred : (c : ActorCopy) (ch : ℕ) (call : Call) → kept_of copies a ≡ Some c → c.channel ≡ Some ch
      → answers.fitting_call AtClient n (map arg_of args) (class_at (table_in layout) c.class) ≡ Some call
      → ((role : Pair) → slice_get c.values 2 ≡ Some role → false ≡ not (int_eq (whole_of role.value) (pos 0)))
      → answer_of AtClient past a n (map arg_of args) ≡ NotOwner
  barred c ch call e f fits told =
      not_owned past a n (map arg_of args) ch call alive (on_channel c e ∙ f) (call_is c e ∙ fits)
      (owned_is c call false e told)

  pub is_meant : (c : ActorCopy) (ch : ℕ) (called : CallValue) → kept_of copies a ≡ Some c → c.channel ≡ Some ch
      → answers.fitting_call AtClient n (map arg_of args) (class_at (table_in layout) c.class)
      ≡ Some (members.call_of called)
      → ((role : Pair) → slice_get c.values 2 ≡ Some role → true ≡ not (int_eq (whole_of role.value) (pos 0)))
      → IsMeant past a n ch called args
  is_meant c ch called e f fits told = record {
    held = on_channel c e ∙ f;
    meant = call_is c e ∙ fits;
    owned = owned_is c (members.call_of called) true e told;
  }
