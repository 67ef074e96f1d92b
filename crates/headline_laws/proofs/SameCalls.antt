-- Where the same messages are handed on, the same calls are.
use Rattle.std.proofs.Common.{◌≡◌, ℕ, ◌==◌, ◌&&◌, List, [], ◌∷◌, ◌++◌, map, reverse, filter, Bool, true, false, cond, refl, sym, ap, ◌∙◌, Option, Some, None}
use Rattle.std.specs.List.{filter_map, cons_option}
use Rattle.std.specs.Bool.{then_some}
use Rattle.std.proofs.lemmas.List.{reverse-append}
use Rattle.std.proofs.lemmas.List.Elements.{filter_map-append}
use Rattle.connection_model.specs.Feed.{Past, Ticked, Made, Waits, Sent, Took, Ended, Delivered}
use Rattle.connection_model.specs.Copies.{delivered_of}
use Rattle.connection_model.specs.Handed.{Asked, asked_in, queued_in, queued_on, handed_in, handed_on}
use Rattle.replication_model.specs.Headline.{IsPrefix}
use Rattle.connection_laws.specs.Delivered.{Numbered, numbered_in, messages_on, handed_reliably}
use Rattle.headline_laws.specs.Turns.{HandsSame}
use Rattle.headline_laws.proofs.NextInTurn.{map_reverse}

-- finding in a list reversed
found_reverse : {A B : Type 0} (f : A → Option B) (xs : List A) → filter_map f (reverse xs) ≡ reverse (filter_map f xs)
found_reverse f [] = refl
found_reverse {A} {B} f (x ∷ xs) =
    ap (filter_map f) (reverse-append (x ∷ []) xs) ∙ filter_map-append f (reverse xs) (x ∷ []) ∙ ap (λ (l : List B). l ++ filter_map f (x ∷ [])) (found_reverse f xs) ∙ by (f x)
  where
    nothing : {B : Type 0} (ys : List B) → ys ++ [] ≡ ys
    nothing [] = refl
    nothing {B} (y ∷ ys) = ap (λ (l : List B). y ∷ l) (nothing ys)

    by : (o : Option B) → reverse (filter_map f xs) ++ cons_option o [] ≡ reverse (cons_option o (filter_map f xs))
    by None = nothing (reverse (filter_map f xs))
    by (Some y) = sym (reverse-append (y ∷ []) (filter_map f xs))

-- the calls handed on are those of the messages handed on
handed_calls : (ch : ℕ) (ds : List Delivered) → filter_map (handed_in ch) ds ≡ filter_map asked_in (map (λ (d : Delivered). d.message) (filter (λ (d : Delivered). d.channel == ch && d.reliable) ds))
handed_calls ch [] = refl
handed_calls ch (d ∷ ds) = by (d.channel == ch && d.reliable) (handed_calls ch ds)
  where
    by : (b : Bool) → filter_map (handed_in ch) ds ≡ filter_map asked_in (map (λ (d : Delivered). d.message) (filter (λ (d : Delivered). d.channel == ch && d.reliable) ds))
        → cons_option (cond b (asked_in d.message) None) (filter_map (handed_in ch) ds)
        ≡ filter_map asked_in (map (λ (d : Delivered). d.message) (cond b (d ∷ filter (λ (d : Delivered). d.channel == ch && d.reliable) ds) (filter (λ (d : Delivered). d.channel == ch && d.reliable) ds)))
    by true e = ap (cons_option (asked_in d.message)) e
    by false e = e

-- the calls queued are those of the messages made
queued_calls : (ch : ℕ) (past : Past) → filter_map (queued_in ch) past ≡ filter_map asked_in (map (λ (x : Numbered). x.1) (filter_map (numbered_in ch) past))
queued_calls ch [] = refl
queued_calls ch (Made c n m i ∷ past) = by (c == ch && i == 0) (queued_calls ch past)
  where
    by : (b : Bool) → filter_map (queued_in ch) past ≡ filter_map asked_in (map (λ (x : Numbered). x.1) (filter_map (numbered_in ch) past))
        → cons_option (cond b (asked_in m) None) (filter_map (queued_in ch) past)
        ≡ filter_map asked_in (map (λ (x : Numbered). x.1) (cons_option (then_some b (let x : Numbered = (n, m) in x)) (filter_map (numbered_in ch) past)))
    by true e = ap (cons_option (asked_in m)) e
    by false e = e
queued_calls ch (Ticked t s ∷ past) = queued_calls ch past
queued_calls ch (Waits m ∷ past) = queued_calls ch past
queued_calls ch (Sent n t items ∷ past) = queued_calls ch past
queued_calls ch (Took n es ds ∷ past) = queued_calls ch past
queued_calls ch (Ended g ∷ past) = queued_calls ch past

-- so of a past that hands on
handed_is : (past : Past) (ch : ℕ) → handed_on past ch ≡ filter_map asked_in (map (λ (d : Delivered). d.message) (handed_reliably past ch))
handed_is past ch =
    ap reverse (handed_calls ch (delivered_of past))
    ∙ sym (found_reverse asked_in (map (λ (d : Delivered). d.message) (filter (λ (d : Delivered). d.channel == ch && d.reliable) (delivered_of past))))
    ∙ ap (filter_map asked_in) (sym (map_reverse (λ (d : Delivered). d.message) (filter (λ (d : Delivered). d.channel == ch && d.reliable) (delivered_of past))))

-- so of a past that makes
queued_is : (past : Past) (ch : ℕ) → queued_on past ch ≡ filter_map asked_in (map (λ (x : Numbered). x.1) (messages_on past ch))
queued_is past ch =
    ap reverse (queued_calls ch past)
    ∙ sym (found_reverse asked_in (map (λ (x : Numbered). x.1) (filter_map (numbered_in ch) past)))
    ∙ ap (filter_map asked_in) (sym (map_reverse (λ (x : Numbered). x.1) (filter_map (numbered_in ch) past)))

-- the calls handed over are a prefix of those queued
pub calls_begin : (from to : Past) → HandsSame from to → (ch : ℕ) → IsPrefix (handed_on to ch) (queued_on from ch)
calls_begin from to same ch =
    let p = same ch in (
      filter_map asked_in p.0,
      queued_is from ch ∙ ap (filter_map asked_in) p.1 ∙ filter_map-append asked_in (map (λ (d : Delivered). d.message) (handed_reliably to ch)) p.0
          ∙ ap (λ (l : List Asked). l ++ filter_map asked_in p.0) (sym (handed_is to ch)),
    )
