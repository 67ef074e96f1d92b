-- Arrays, objects and lists of texts as they are lent.
use Rattle.std.proofs.Common.{◌≡◌, ℕ, List, [], ◌∷◌, map, length, Bool, true, false, ◌&&◌, is_some, Option, Some, None, unwrap_or, refl, ap}
use Rattle.std.specs.Bool.{then_some}
use Rattle.std.specs.List.{list_all}
use Rattle.std.specs.Option.{option_and_then}
use Rattle.serde_json.specs.Events.{members_len}
use Rattle.serde_json.specs.Find.{as_str}
use Rattle.serde_json.specs.View.{view, items_view, members_view}
use Rattle.serde_json.specs.declared.value.Value.{Value}
use Rattle.serde_json.proofs.Views.{Entry, members_len-members_view}
use Rattle.table_model.specs.Objects.{elements_of, texts_of}
use Rattle.table_json.specs.Objects.{is_text, text_in}

-- an array's elements
pub elements_lent : (vs : List Value) → elements_of (items_view vs) ≡ map view vs
elements_lent [] = refl
elements_lent (v ∷ vs) = ap (λ rest. view v ∷ rest) (elements_lent vs)

-- how many members an object has
pub members_lent : (es : List Entry) → members_len (members_view es) ≡ length es
members_lent es = members_len-members_view es

-- one text more
text_more : (o : Option (List ℕ)) (b : Bool) (texts : List (List ℕ))
    → option_and_then (λ text. option_and_then (λ texts. Some (text ∷ texts)) (then_some b texts)) o
    ≡ then_some (is_some o && b) (unwrap_or o [] ∷ texts)
text_more None b texts = refl
text_more (Some text) true texts = refl
text_more (Some text) false texts = refl

-- values are texts exactly where each is one
pub texts_lent : (vs : List Value) → texts_of (map view vs) ≡ then_some (list_all is_text vs) (map text_in vs)
texts_lent [] = refl
texts_lent (v ∷ vs) = rw (texts_lent vs) (text_more (as_str (view v)) (list_all is_text vs) (map text_in vs))
