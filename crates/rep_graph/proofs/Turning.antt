-- The pairs that are kept, after an edit that may change them.
use Rattle.std.proofs.Common.{◌≡◌, ◌∙◌, ℕ, ◌∷◌, Bool, true, not, ◌&&◌, ◌==◌, Option, Some, unwrap_or, sym, ap, subst}
use Rattle.std.specs.Prelude.{is_some, IfSome}
use Rattle.std.proofs.lemmas.Option.{same_Some}
use Rattle.protocol_model.specs.Value.{Table}
use Rattle.protocol_model.specs.World as model
use Rattle.protocol_model.specs.World.{Edits, spawn_of, owner_of, is_player}
use Rattle.graph_model.specs.Nodes.{PlayerNode, is_held_in}
use Rattle.graph_nodes.specs.declared.any.AnyNode.{AnyNode}
use Rattle.world_table.specs.Answers.{edit_of, look_of}
use Rattle.world_table.specs.declared.edit.Look.{Look}
use Rattle.world_table.specs.declared.edit.Edit.{Edit}
use Rattle.world_table.specs.Stands.{History}
use Rattle.world_table.proofs.Telling.{own_told}
use Rattle.rep_graph.specs.Standings.{owner_in, owner_is, look_before, subject_of}
use Rattle.rep_graph.specs.Graph.{Holds, IsLawful}
use Rattle.rep_graph.specs.Turns.{PairTest, HasPairs, with_pair, with_owner, without_actor}
use Rattle.rep_graph.proofs.Lawful.{IsAccepted, was_spawned}
use Rattle.rep_graph.proofs.Looks.{owner_seen, owner_player}
use Rattle.rep_graph.proofs.Pairing.{pairs_of, holds_of}
use Rattle.rep_graph.proofs.PairsAfter.{add_pairs, own_pairs, destroy_pairs}

-- ---- a pair that is added

add_at : (old new : AnyNode) (table : Table) (edits : Edits) (actor a p : ℕ) (on : Bool) → Some a ≡ Some actor
    → Holds PlayerNode old table edits
    → (HasPairs old (is_held_in PlayerNode table edits)
    → HasPairs new (with_pair (is_held_in PlayerNode table edits) actor p
    (is_held_in PlayerNode table (model.Add a p on ∷ edits) actor p)))
    → Holds PlayerNode new table (model.Add a p on ∷ edits)
add_at old new table edits actor a p on is holds step =
    holds_of new table (model.Add a p on ∷ edits) _ (step (pairs_of old table edits holds))
    (λ b q. subst (λ (x : ℕ). is_held_in PlayerNode table (model.Add a p on ∷ edits) b q
    ≡ with_pair (is_held_in PlayerNode table edits) x p
    (is_held_in PlayerNode table (model.Add a p on ∷ edits) x p) b q)
    (same_Some a actor is) (add_pairs table edits a p on b q))

pub add_turn : (old new : AnyNode) (table : Table) (edits : Edits) (e : Edit) (actor next a p : ℕ) (on : Bool)
    → e ≡ Edit.Add a p on → subject_of next e ≡ Some actor → IsAccepted table edits (edit_of e)
    → Holds PlayerNode old table edits
    → (is_player p ≡ true → HasPairs old (is_held_in PlayerNode table edits)
    → HasPairs new (with_pair (is_held_in PlayerNode table edits) actor p
    (is_held_in PlayerNode table (edit_of e ∷ edits) actor p)))
    → Holds PlayerNode new table (edit_of e ∷ edits)
add_turn old new table edits e actor next a p on is subject ok holds step =
    subst (λ (x : Edit). subject_of next x ≡ Some actor → IsAccepted table edits (edit_of x)
    → (is_player p ≡ true → HasPairs old (is_held_in PlayerNode table edits)
    → HasPairs new (with_pair (is_held_in PlayerNode table edits) actor p
    (is_held_in PlayerNode table (edit_of x ∷ edits) actor p)))
    → Holds PlayerNode new table (edit_of x ∷ edits)) (sym is)
    (λ named accepted go. add_at old new table edits actor a p on named holds (go accepted.range)) subject ok step

-- ---- an actor's end

destroy_at : (old new : AnyNode) (table : Table) (edits : Edits) (actor a : ℕ) → Some a ≡ Some actor
    → Holds PlayerNode old table edits
    → (HasPairs old (is_held_in PlayerNode table edits)
    → HasPairs new (without_actor (is_held_in PlayerNode table edits) actor))
    → Holds PlayerNode new table (model.Destroy a ∷ edits)
destroy_at old new table edits actor a is holds step =
    holds_of new table (model.Destroy a ∷ edits) _ (step (pairs_of old table edits holds))
    (λ b q. subst (λ (x : ℕ). is_held_in PlayerNode table (model.Destroy a ∷ edits) b q
    ≡ without_actor (is_held_in PlayerNode table edits) x b q)
    (same_Some a actor is) (destroy_pairs table edits a b q))

pub destroy_turn : (old new : AnyNode) (table : Table) (edits : Edits) (e : Edit) (actor next a : ℕ)
    → e ≡ Edit.Destroy a → subject_of next e ≡ Some actor → Holds PlayerNode old table edits
    → (HasPairs old (is_held_in PlayerNode table edits)
    → HasPairs new (without_actor (is_held_in PlayerNode table edits) actor))
    → Holds PlayerNode new table (edit_of e ∷ edits)
destroy_turn old new table edits e actor next a is subject holds step =
    subst (λ (x : Edit). subject_of next x ≡ Some actor → Holds PlayerNode new table (edit_of x ∷ edits)) (sym is)
    (λ named. destroy_at old new table edits actor a named holds step) subject

-- ---- an owner

-- the pairs that are renewed, of the owner before and of the one after
abbrev pub own_renewed : Table → (edits later : Edits) → (actor : ℕ) → (before after : Option Look) → PairTest
own_renewed table edits later actor before after =
    with_owner
    (with_owner (is_held_in PlayerNode table edits) actor (owner_in before) (is_held_in PlayerNode table later))
    actor (owner_in after) (is_held_in PlayerNode table later)

own_at : (old new : AnyNode) (table : Table) (edits : Edits) (actor a p : ℕ) (before after : Option Look)
    → Some a ≡ Some actor → before ≡ look_of table edits a → after ≡ look_of table (model.Own a p ∷ edits) actor
    → is_some (spawn_of edits a) ≡ true → IsLawful edits → IsLawful (model.Own a p ∷ edits)
    → Holds PlayerNode old table edits
    → (HasPairs old (is_held_in PlayerNode table edits)
    → IfSome (owner_in before) (λ q. is_player q ≡ true) → IfSome (owner_in after) (λ q. is_player q ≡ true)
    → HasPairs new (own_renewed table edits (model.Own a p ∷ edits) actor before after))
    → Holds PlayerNode new table (model.Own a p ∷ edits)
own_at old new table edits actor a p before after is seen looks spawned lawful later_lawful holds step =
    let e = same_Some a actor is in
    let looks_at : after ≡ look_of table (model.Own a p ∷ edits) a =
    looks ∙ ap (λ (x : ℕ). look_of table (model.Own a p ∷ edits) x) (sym e) in
    let was : (q : ℕ) → owner_is q (owner_in before) ≡ (owner_of edits a == q && not (q == 0)) =
    λ q. ap (λ (l : Option Look). owner_is q (owner_in l)) seen ∙ owner_seen table edits a q spawned in
    let now : (q : ℕ) → owner_is q (owner_in after) ≡ (p == q && not (q == 0)) =
    λ q. ap (λ (l : Option Look). owner_is q (owner_in l)) looks_at
    ∙ owner_seen table (model.Own a p ∷ edits) a q spawned
    ∙ ap (λ (t : History). t.owner == q && not (q == 0)) (own_told edits a p) in
    let first : IfSome (owner_in before) (λ q. is_player q ≡ true) =
    subst (λ (l : Option Look). IfSome (owner_in l) (λ q. is_player q ≡ true)) (sym seen)
    (owner_player table edits a (lawful.owners a)) in
    let second : IfSome (owner_in after) (λ q. is_player q ≡ true) =
    subst (λ (l : Option Look). IfSome (owner_in l) (λ q. is_player q ≡ true)) (sym looks_at)
    (owner_player table (model.Own a p ∷ edits) a (later_lawful.owners a)) in
    holds_of new table (model.Own a p ∷ edits) _ (step (pairs_of old table edits holds) first second)
    (λ b q. subst (λ (x : ℕ). is_held_in PlayerNode table (model.Own a p ∷ edits) b q
    ≡ own_renewed table edits (model.Own a p ∷ edits) x before after b q) e
    (own_pairs table edits a p (owner_in before) (owner_in after) b q was now))

pub own_turn : (old new : AnyNode) (table : Table) (edits : Edits) (e : Edit) (actor next a : ℕ) (player : Option ℕ)
    (before after : Option Look)
    → e ≡ Edit.Own a player → subject_of next e ≡ Some actor → IsAccepted table edits (edit_of e)
    → before ≡ look_before table edits e → after ≡ look_of table (edit_of e ∷ edits) actor
    → IsLawful edits → IsLawful (edit_of e ∷ edits) → Holds PlayerNode old table edits
    → (HasPairs old (is_held_in PlayerNode table edits)
    → IfSome (owner_in before) (λ q. is_player q ≡ true) → IfSome (owner_in after) (λ q. is_player q ≡ true)
    → HasPairs new (own_renewed table edits (edit_of e ∷ edits) actor before after))
    → Holds PlayerNode new table (edit_of e ∷ edits)
own_turn old new table edits e actor next a player before after is subject ok seen looks lawful later_lawful
    holds step =
    subst (λ (x : Edit). subject_of next x ≡ Some actor → IsAccepted table edits (edit_of x)
    → before ≡ look_before table edits x → after ≡ look_of table (edit_of x ∷ edits) actor
    → IsLawful (edit_of x ∷ edits)
    → (HasPairs old (is_held_in PlayerNode table edits)
    → IfSome (owner_in before) (λ q. is_player q ≡ true) → IfSome (owner_in after) (λ q. is_player q ≡ true)
    → HasPairs new (own_renewed table edits (edit_of x ∷ edits) actor before after))
    → Holds PlayerNode new table (edit_of x ∷ edits)) (sym is)
    (λ named accepted looked look law go.
    own_at old new table edits actor a (unwrap_or player 0) before after named looked look
    (was_spawned edits a accepted.living) lawful law holds go)
    subject ok seen looks later_lawful step
