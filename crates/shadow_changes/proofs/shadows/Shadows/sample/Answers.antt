use Rattle.std.proofs.Common.{sym, length, subst}
use Rattle.shadow_changes.specs.contracts.shadows.Shadows.{the_view}
use Rattle.shadow_changes.specs.Samples.{Samples, Shadows, Keeps, samples_of, sample_of, lists_in}
use Rattle.shadow_changes.proofs.Actors.{keeps_more, follows_too, kept_half}
use Rattle.shadow_changes.proofs.shadows.Shadows.sample.Goals as goal

pub returns-in-Ok-clause-keeps : goal.returns-in-Ok-clause-keeps
returns-in-Ok-clause-keeps c = λ samples h.
    let old : Shadows = the_view c.self.inside in
    let a = c.args.actor in
    let P : Samples → Shadows → Type 0 = λ known s. Keeps s known in
    let inside : P samples old = subst (P samples) (sym c.self.view_is) h in
    let known = kept_half c.args.self.now samples a c.args.tick (length c.args.values.now) h c.requires.stands in
    let some : Samples = known.0 in
    let first : P some old = subst (P some) (sym c.self.view_is) known.1 in
    let follows = follows_too (lists_in old.lists a) (samples_of some a) (samples_of samples a) c.args.tick
    (length c.args.values.now)
    (first.each a) (inside.each a) known.2 in
    keeps_more old (record { lists = c.note.new.lists.items; spent = old.spent }) samples a
    (sample_of c.args.tick c.args.values.now) inside inside.kept
    (c.in-Ok.ensures.own (samples_of samples a) (inside.each a) follows) c.in-Ok.ensures.others
