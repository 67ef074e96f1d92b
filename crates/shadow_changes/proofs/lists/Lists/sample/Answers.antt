use Rattle.std.proofs.Common.{sym, ap, ◌∙◌, ◌≡◌, ◌∷◌, List, Some, subst, true}
use Rattle.circular_buffer.specs.Buffer.{Buffer}
use Rattle.shadow_changes.specs.declared.noted.Noted.{Noted}
use Rattle.shadow_changes.specs.contracts.lists.Lists.{the_view}
use Rattle.shadow_changes.specs.Lists.{Lists, KeepsLists}
use Rattle.shadow_changes.specs.Samples.{sample_of}
use Rattle.shadow_changes.proofs.Steps.{sampled_new, sampled_none, empty_is}
use Rattle.shadow_changes.proofs.lists.Lists.sample.Goals as goal

pub returns-in_ok-merge_oldest : goal.returns-in_ok-merge_oldest
returns-in_ok-merge_oldest c = λ samples h may.
    let l = the_view c.self.inside in
    let P : Lists → Type 0 = λ l. KeepsLists l samples in
    let inside : P l = subst P (sym c.self.view_is) h in
    let tick = c.args.tick in
    let last = c.changed.new.last.items in
    let later = sample_of tick c.args.values.now ∷ samples in
    let new : Noted = record { tick = tick; changes = c.in_ok-changes.changes } in
    let room = c.merge_oldest.new.lists.items in
    let items : Buffer Noted → List Noted = λ b. b.items in
    let lists_is : c.push.new.lists.items ≡ new ∷ room = ap items c.push.ensures in
    subst (λ (ls : List Noted). KeepsLists (record { tick = Some tick; last = last; lists = ls }) later)
    (sym lists_is)
    (sampled_new l samples tick c.args.values.now last c.in_ok-changes.changes room inside may c.in_ok-changes.ensures.changes
    c.in_ok-changes.ensures.last c.in_ok-merge_oldest.ensures.noted c.in_ok-merge_oldest.ensures.falling)

pub returns-else-not-is_empty : goal.returns-else-not-is_empty
returns-else-not-is_empty c = λ samples h may.
    let l = the_view c.self.inside in
    let P : Lists → Type 0 = λ l. KeepsLists l samples in
    let inside : P l = subst P (sym c.self.view_is) h in
    let empty : c.is_empty.result ≡ true = cc in
    let none = sym c.in_ok-changes.ensures.changes ∙ empty_is c.in_ok-changes.changes (sym c.is_empty.ensures
    ∙ empty) in
    sampled_none l samples c.args.tick c.args.values.now c.changed.new.last.items inside may none c.in_ok-changes.ensures.last
