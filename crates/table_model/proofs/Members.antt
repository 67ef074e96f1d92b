-- The properties and calls of a class, each after those before it.
use Rattle.std.proofs.Common.{◌≡◌, ℕ, List, [], ◌∷◌, ◌++◌, length, true, false, not, nat_le, IsTrue, Ok, sym, subst, append-nil}
use Rattle.std.specs.List.{list_all}
use Rattle.std.proofs.lemmas.Bool.{and_from, not-true}
use Rattle.std.proofs.lemmas.List.{map_push}
use Rattle.serde_json.specs.Data.{Data}
use Rattle.protocol_model.specs.Value.{Prop, Call, fits}
use Rattle.table_model.specs.declared.Place.{Place}
use Rattle.table_model.specs.declared.TableWhy.TheVariants.{Shape, Range, Name, Twice, BadType, TooBig}
use Rattle.table_model.specs.Checked.{each_after}
use Rattle.table_model.specs.Objects.{property_object, call_object}
use Rattle.table_model.specs.Words.{meaning_in, is_name, type_of, conditions, ways}
use Rattle.table_model.specs.Rules.{is_there, prop_names, property_after, call_names, call_after, arg_kinds, largest_args, args_limit}
use Rattle.table_model.specs.Facts.{are_distinct, is_type, is_prop, is_call}
use Rattle.table_model.proofs.Lists.{all_push, BeginsWith, begins_push}
use Rattle.table_model.proofs.Checking.{then_ok, must_then, some_then, same_ok, each_keeps}
use Rattle.table_model.proofs.Names.{distinct_push}
use Rattle.table_model.proofs.Types.{type_is, kinds_are}

-- ---- properties

-- properties with names of their own, each of a kind that has its initial value
pub record AreProps (props : List Prop) : Type 0 where
  pub names : IsTrue (are_distinct (prop_names props))
  pub each : IsTrue (list_all is_prop props)

-- one more, of a new name
pub record IsNewProp (before : List Prop) (p : Prop) : Type 0 where
  pub is : IsTrue (is_prop p)
  pub new : is_there (prop_names before) p.name ≡ false

new_prop : (before : List Prop) (p : Prop) → is_name p.name ≡ true → not (is_there (prop_names before) p.name) ≡ true
    → is_type false p.kind ≡ true → fits p.kind p.init ≡ true → IsNewProp before p
new_prop before p name new kind init = record {
  is = and_from _ _ (and_from _ _ name kind) init;
  new = not-true _ new;
}

-- an accepted property is a new one
pub property_is : (before : List Prop) (d : Data) (p : Prop) → property_after before d ≡ Ok p → IsNewProp before p
property_is before d p h =
    let o = some_then (property_object d) Shape _ p h in
    let name = must_then (is_name o.0.name) Name _ p o.2 in
    let new = must_then (not (is_there (prop_names before) o.0.name)) Twice _ p name.1 in
    let kind = then_ok (type_of false o.0.type) _ p new.1 in
    let cond = some_then (meaning_in conditions o.0.cond) BadType _ p kind.2 in
    let init = must_then (fits kind.0 o.0.init) Range _ p cond.2 in
    let is = new_prop before _ name.0 new.0 (type_is false o.0.type kind.0 kind.1) init.0 in
    subst (IsNewProp before) (same_ok _ p init.1) is

-- properties with an accepted one behind them
pub props_push : (before : List Prop) (d : Data) (p : Prop) → AreProps before → property_after before d ≡ Ok p
    → AreProps (before ++ p ∷ [])
props_push before d p kept h =
    let one = property_is before d p h in
    let names = distinct_push (prop_names before) p.name kept.names one.new in
    record {
      names = rw (map_push (λ (q : Prop). q.name) before p) names;
      each = all_push is_prop before p kept.each one.is;
    }

-- accepted properties: the inherited ones first, and all of them keep the rules
pub props_are : (place : ℕ → Place) (inherited : List Prop) (ds : List Data) (all : List Prop) → AreProps inherited
    → each_after property_after place inherited 1 ds ≡ Ok all → AreProps all × BeginsWith inherited all
props_are place inherited ds all kept h =
    each_keeps property_after place (λ props. AreProps props × BeginsWith inherited props)
    (λ before d p k e. (props_push before d p k.0 e, begins_push inherited before p k.1))
    inherited 1 ds all (kept, ([], sym (append-nil inherited))) h

-- ---- calls

-- calls with names of their own, each with arguments that fit their limit
pub record AreCalls (calls : List Call) : Type 0 where
  pub names : IsTrue (are_distinct (call_names calls))
  pub each : IsTrue (list_all is_call calls)

-- one more, of a new name
pub record IsNewCall (before : List Call) (c : Call) : Type 0 where
  pub is : IsTrue (is_call c)
  pub new : is_there (call_names before) c.name ≡ false

new_call : (before : List Call) (c : Call) → is_name c.name ≡ true → not (is_there (call_names before) c.name) ≡ true
    → list_all (is_type true) c.args ≡ true → nat_le (length c.args) 16 ≡ true
    → nat_le (largest_args c.args) (args_limit c.reliable) ≡ true → IsNewCall before c
new_call before c name new kinds count size = record {
  is = and_from _ _ (and_from _ _ (and_from _ _ name kinds) count) size;
  new = not-true _ new;
}

-- an accepted call is a new one
pub call_is : (before : List Call) (d : Data) (c : Call) → call_after before d ≡ Ok c → IsNewCall before c
call_is before d c h =
    let o = some_then (call_object d) Shape _ c h in
    let name = must_then (is_name o.0.name) Name _ c o.2 in
    let new = must_then (not (is_there (call_names before) o.0.name)) Twice _ c name.1 in
    let way = some_then (meaning_in ways o.0.kind) BadType _ c new.1 in
    let kinds = then_ok (arg_kinds o.0.args) _ c way.2 in
    let count = must_then (nat_le (length kinds.0) 16) Range _ c kinds.2 in
    let size = must_then (nat_le (largest_args kinds.0) (args_limit o.0.reliable)) TooBig _ c count.1 in
    let is = new_call before _ name.0 new.0 (kinds_are o.0.args kinds.0 kinds.1) count.0 size.0 in
    subst (IsNewCall before) (same_ok _ c size.1) is

-- calls with an accepted one behind them
pub calls_push : (before : List Call) (d : Data) (c : Call) → AreCalls before → call_after before d ≡ Ok c
    → AreCalls (before ++ c ∷ [])
calls_push before d c kept h =
    let one = call_is before d c h in
    let names = distinct_push (call_names before) c.name kept.names one.new in
    record {
      names = rw (map_push (λ (q : Call). q.name) before c) names;
      each = all_push is_call before c kept.each one.is;
    }

-- accepted calls: the inherited ones first, and all of them keep the rules
pub calls_are : (place : ℕ → Place) (inherited : List Call) (ds : List Data) (all : List Call) → AreCalls inherited
    → each_after call_after place inherited 1 ds ≡ Ok all → AreCalls all × BeginsWith inherited all
calls_are place inherited ds all kept h =
    each_keeps call_after place (λ calls. AreCalls calls × BeginsWith inherited calls)
    (λ before d c k e. (calls_push before d c k.0 e, begins_push inherited before c k.1))
    inherited 1 ds all (kept, ([], sym (append-nil inherited))) h
