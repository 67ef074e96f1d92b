-- A client's copies, as they are told and as the story reports them.
use Rattle.std.proofs.Common.{◌≡◌, ℕ, suc, ◌+◌, List, [], ◌∷◌, ◌++◌, map, length, Option, Some, None, option_map, filter_map, unwrap_or, refl, ap, sym, ◌∙◌, subst, arith, ℤ}
use Rattle.std.proofs.lemmas.List.{map-append}
use Rattle.std.specs.Prelude.{slice_get}
use Rattle.std.specs.List.{cons_option}
use Rattle.std.proofs.lemmas.Simd.{map-map}
use Rattle.protocol_model.specs.Side.{AtClient}
use Rattle.protocol_model.specs.Value.{Class, Prop, props_of, numbered_from}
use Rattle.protocol_model.specs.World.{class_at}
use Rattle.connection_model.specs.Feed.{Past}
use Rattle.connection_model.specs.Copies.{copied_actors, copy_class, copy_channel, copy_value}
use Rattle.script_model.specs.Reports.{Report, Copies, Copy as CopyReport}
use Rattle.replication_model.specs.Story.{Player, past_at, copy_report, copy_values, copies_reports}
use Rattle.class_layout.specs.Tables.{Layout, table_in}
use Rattle.value_codec.specs.declared.pair.Pair.{Pair as PairValue}
use Rattle.actor_copies.specs.declared.copy.ActorCopy.{ActorCopy}
use Rattle.actor_copies.specs.Copies.{Copy, copy_of, copies_of, copy_value_of, values_of}
use Rattle.payload_reading.specs.Values.{pair_value}
use Rattle.client_world.specs.Played.{Play, Plays}
use Rattle.script_lines.specs.declared.event.Event.{Event}
use Rattle.script_lines.specs.declared.event.Event.TheVariants as event
use Rattle.script_lines.specs.ReportOf.{report_of, handle_name, named_value}
use Rattle.replay_places.specs.Places.{IsClient}
use Rattle.replay_places.specs.Doing.{Adds, named_pair, copied_report}
use Rattle.replay_places.proofs.Ticked.{adds_both}

-- ---- names of handles

-- the item behind those before it
behind : (xs : List Prop) (p : Prop) (ys : List Prop) → slice_get (xs ++ p ∷ ys) (length xs) ≡ Some p
behind [] p ys = refl
behind (x ∷ xs) p ys = behind xs p ys

-- each handle from a place on has its property's name
names_from : (class : Class) (value : ℕ → ℤ) (h n : ℕ) (before props : List Prop) → before ++ props ≡ props_of class
    → n ≡ length before → h ≡ suc n
    → map (named_pair class) (map (λ (entry : ℕ × Prop). record { handle = entry.0; value = value entry.0 })
    (numbered_from h props))
    ≡ map (λ (entry : ℕ × Prop). (entry.1.name, value entry.0)) (numbered_from h props)
names_from class value h n before [] e k s = refl
names_from class value h n before (p ∷ props) e k s =
    let at : slice_get (props_of class) n ≡ Some p =
    ap (λ (l : List Prop). slice_get l n) (sym e) ∙ ap (λ m. slice_get (before ++ p ∷ props) m) k
    ∙ behind before p props in
    let here : handle_name class h ≡ p.name =
    ap (handle_name class) s ∙ ap (λ (o : Option Prop). unwrap_or (option_map (λ (q : Prop). q.name) o) []) at in
    let next : h + 1 ≡ suc (suc n) = omega arith in
    let rest = names_from class value (h + 1) (suc n) (before ++ p ∷ []) props (shift before p props ∙ e)
    (longer before p n k) next in
    one _ _ _ _ here rest
  where
    shift : (xs : List Prop) (p : Prop) (ys : List Prop) → (xs ++ p ∷ []) ++ ys ≡ xs ++ p ∷ ys
    shift [] p ys = refl
    shift (x ∷ xs) p ys = ap (λ (l : List Prop). x ∷ l) (shift xs p ys)

    grows : (xs : List Prop) (p : Prop) → length (xs ++ p ∷ []) ≡ suc (length xs)
    grows [] p = refl
    grows (x ∷ xs) p = ap suc (grows xs p)

    longer : (xs : List Prop) (p : Prop) (n : ℕ) → n ≡ length xs → suc n ≡ length (xs ++ p ∷ [])
    longer xs p n k = ap suc k ∙ sym (grows xs p)

    one : (a b : List ℕ) (xs ys : List (List ℕ × ℤ)) → a ≡ b → xs ≡ ys → (a, value h) ∷ xs ≡ (b, value h) ∷ ys
    one a b xs ys f g = rw (f, g) refl

-- the values of a copy by their names
values_named : (past : Past) (a : ℕ) (class : Class) → map (named_pair class) (values_of past a class)
    ≡ copy_values past a class
values_named past a class = names_from class (copy_value past a) 1 0 [] (props_of class) refl refl refl

-- ---- copies

-- the copy of this class
abbrev copy_made : Past → (actor : ℕ) → Class → Copy
copy_made past a class = record {
  actor = a;
  class = class;
  channel = copy_channel past a;
  values = values_of past a class;
}

-- a copy that is told is the one that the definitions have
one_copy : (player : ℕ) (past : Past) (a : ℕ)
    → copy_report player past a ≡ option_map (copied_report player) (copy_of past a)
one_copy player past a = same (copy_class past a)
  where
    same : (o : Option Class)
        → option_map (λ (class : Class). CopyReport player a class.name (copy_channel past a)
        (copy_values past a class)) o
        ≡ option_map (copied_report player) (option_map (copy_made past a) o)
    same None = refl
    same (Some class) =
        ap (λ (vs : List (List ℕ × ℤ)). Some (CopyReport player a class.name (copy_channel past a) vs))
        (sym (values_named past a class))

all_copies : (player : ℕ) (past : Past) (actors : List ℕ)
    → map (copied_report player) (filter_map (copy_of past) actors) ≡ filter_map (copy_report player past) actors
all_copies player past [] = refl
all_copies player past (a ∷ actors) =
    more (copy_of past a) (copy_report player past a) _ _ (one_copy player past a) (all_copies player past actors)
  where
    more : (c : Option Copy) (r : Option Report) (cs : List Copy) (rs : List Report)
        → r ≡ option_map (copied_report player) c
        → map (copied_report player) cs ≡ rs → map (copied_report player) (cons_option c cs) ≡ cons_option r rs
    more None r cs rs e es = rw e es
    more (Some c) r cs rs e es = rw e (ap (λ (l : List Report). copied_report player c ∷ l) es)

-- what is told of a client's copies
pub copies_told : (layout : Layout) (p : Player) (player count : ℕ) (copies : List ActorCopy) → player ≡ p.number
    → map (copy_value_of layout) copies ≡ copies_of (past_at (table_in layout) AtClient p)
    → count ≡ length (copied_actors (past_at (table_in layout) AtClient p))
    → Copies player count ∷ map (copied_report player) (map (copy_value_of layout) copies)
    ≡ copies_reports (table_in layout) p
copies_told layout p player count copies who are counted =
    let past = past_at (table_in layout) AtClient p in
    both player p.number count (length (copied_actors past)) (map (copy_value_of layout) copies) (copies_of past) who
    counted are
    ∙ ap (λ (rs : List Report). Copies p.number (length (copied_actors past)) ∷ rs)
    (all_copies p.number past (copied_actors past))
  where
    both : (m n x y : ℕ) (cs ds : List Copy) → m ≡ n → x ≡ y → cs ≡ ds
        → Copies m x ∷ map (copied_report m) cs ≡ Copies n y ∷ map (copied_report n) ds
    both m n x y cs ds e f g = rw (e, f, g) refl

-- the program's values by their names
pub values_told : (class : Class) (pairs : List PairValue) → map (named_value class) pairs
    ≡ map (named_pair class) (map pair_value pairs)
values_told class pairs = sym (map-map (named_pair class) pair_value pairs)

-- one copy is told
pub copy_told : (layout : Layout) (player : ℕ) (c : ActorCopy) (values : List PairValue) (before after : List Event)
    → values ≡ c.values
    → after ≡ before ++ event.Copied player c.actor c.class c.channel values ∷ []
    → Adds (table_in layout) before after (copied_report player (copy_value_of layout c) ∷ [])
copy_told layout player c values before after same pushed =
    let class = class_at (table_in layout) c.class in
    subst (λ (l : List Event). Adds (table_in layout) before l (copied_report player (copy_value_of layout c) ∷ []))
    (sym pushed)
    (map-append (report_of (table_in layout)) before (event.Copied player c.actor c.class c.channel values ∷ [])
    ∙ ap (λ (vs : List (List ℕ × ℤ)). map (report_of (table_in layout)) before
    ++ CopyReport player c.actor class.name c.channel vs ∷ [])
    (ap (map (named_value class)) same ∙ values_told class c.values))

-- copies told one after another
pub copy_more : (layout : Layout) (player : ℕ) (cs : List ActorCopy) (c : ActorCopy) (before mid after : List Event)
    → Adds (table_in layout) before mid (map (copied_report player) (map (copy_value_of layout) cs))
    → Adds (table_in layout) mid after (copied_report player (copy_value_of layout c) ∷ [])
    → Adds (table_in layout) before after (map (copied_report player) (map (copy_value_of layout) (cs ++ c ∷ [])))
copy_more layout player cs c before mid after one two =
    subst (Adds (table_in layout) before after)
    (sym (map-append (copied_report player) (map (copy_value_of layout) cs) (copy_value_of layout c ∷ []))
    ∙ ap (map (copied_report player)) (sym (map-append (copy_value_of layout) cs (c ∷ []))))
    (adds_both (table_in layout) before mid after (map (copied_report player) (map (copy_value_of layout) cs))
    (copied_report player (copy_value_of layout c) ∷ []) one two)

-- all that is told of a client's copies
pub all_told : (layout : Layout) (k : Play) (player : ℕ) (p : Player) (count : ℕ)
    (copies : List ActorCopy) (before first after : List Event) → IsClient layout k player p
    → ((past : Past) → Plays k past → map (copy_value_of k.layout) copies ≡ copies_of past)
    → ((past : Past) → Plays k past → length copies ≡ length (copied_actors past)) → count ≡ length copies
    → first ≡ before ++ event.Copies player count ∷ []
    → Adds (table_in layout) first after (map (copied_report player) (map (copy_value_of layout) copies))
    → Adds (table_in layout) before after (copies_reports (table_in layout) p)
all_told layout k player p count copies before first after i are counted is pushed told =
    let past = past_at (table_in layout) AtClient p in
    let reports = copies_told layout p player count copies i.number
    (subst (λ (l : Layout). map (copy_value_of l) copies ≡ copies_of past) i.classes (are past i.plays))
    (is ∙ counted past i.plays) in
    let begun : Adds (table_in layout) before first (Copies player count ∷ []) =
    ap (map (report_of (table_in layout))) pushed ∙ map-append (report_of (table_in layout)) before
    (event.Copies player count ∷ []) in
    subst (Adds (table_in layout) before after) reports
    (adds_both (table_in layout) before first after (Copies player count ∷ [])
    (map (copied_report player) (map (copy_value_of layout) copies)) begun told)
