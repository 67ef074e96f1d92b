use Rattle.std.proofs.Common.{rules, arith, ◌≡◌, ◌≢◌, ◌∙◌, ◌≤◌, ◌<◌, ℕ, length, ap, refl, sym, subst, Some, None, Option, ◌≤◌}
use Rattle.std.specs.List.{slice_get}
use Rattle.std.proofs.lemmas.Option.{slice_get_past, slice_get_read}
use Rattle.std.proofs.lemmas.Grind.{common_steps}
use Rattle.protocol_model.specs.Sight.{Seen as SeenSpec}
use Rattle.connection_model.specs.Feed.{seen_in}
use Rattle.sender_steps.specs.declared.sight.Seen.{Seen}
use Rattle.sender_steps.specs.Sights.{seen_value, sight_value}
use Rattle.sender_steps.proofs.Showing.{entry_seen, between_unseen}
use Rattle.sender_steps.proofs.closes.entry_at.Goals as goal

pub returns-in_default : goal.returns-in_default
returns-in_default c = λ before there ascends layout.
    let none : slice_get c.args.sight.now c.args.at ≡ None =
    slice_get_past c.args.sight.now c.args.at c.in_default.ensures.lookup.3 in
    sym (between_unseen layout c.args.sight.now c.args.at c.args.actor ascends before
    (λ s at. absurd (let no : (let o : Option Seen = None in o) ≡ Some s = sym none ∙ at in cc)))

strictly : (a b : ℕ) → a ≤ b → (b ≡ a → ⊥) → a < b
strictly a b le ne = omega (arith, le, ne)

pub returns-then-seen-actor : goal.returns-then-seen-actor
returns-then-seen-actor c = λ before there ascends layout.
    let at : slice_get c.args.sight.now c.args.at ≡ Some c.in-Some.seen.now =
    slice_get_read c.args.sight.now (length c.args.sight.now) c.args.at c.in-Some.seen.now refl
    c.in-Some.ensures.lookup.3.0 c.in-Some.ensures.lookup.1 in
    let other : c.in-Some.seen.now.actor ≡ c.args.actor → ⊥ = first_of (search rules, grind (arith, common_steps)) in
    sym (between_unseen layout c.args.sight.now c.args.at c.args.actor ascends before
    (λ s e. (let same : c.in-Some.seen.now ≡ s = one (sym at ∙ e) in
    subst (λ (x : Seen). c.args.actor < x.actor) same (strictly c.args.actor c.in-Some.seen.now.actor
    (there c.in-Some.seen.now at) other))))
  where
    one : {x y : Seen} → (let o : Option Seen = Some x in o) ≡ Some y → x ≡ y
    one e = cc

pub returns : goal.returns
returns c = λ before there ascends layout.
    let at : slice_get c.args.sight.now c.args.at ≡ Some c.in-Some.seen.now =
    slice_get_read c.args.sight.now (length c.args.sight.now) c.args.at c.in-Some.seen.now refl
    c.in-Some.ensures.lookup.3.0 c.in-Some.ensures.lookup.1 in
    let same : c.in-Some.seen.now.actor ≡ c.args.actor = first_of (search rules, grind (arith, common_steps)) in
    subst (λ (a : ℕ). Some (seen_value layout c.in-Some.seen.now) ≡ seen_in (sight_value layout c.args.sight.now) a)
    same
    (sym (entry_seen layout c.args.sight.now 0 c.args.at c.in-Some.seen.now ascends at))
