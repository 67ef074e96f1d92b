use Rattle.std.proofs.Common.{◌+◌, ◌/◌, ◌∙◌, length, ap, sym, subst, arith, rules}
use Rattle.outgoing_channels.specs.Indexes.{AreFilled}
use Rattle.outgoing_channels.proofs.Sets.{read_as, past_words, found_first, found_later, none_after, is_filled}
use Rattle.outgoing_channels.proofs.index_set.IndexSet.next.Goals as goal

pub returns-then-word-len-clause-none : goal.returns-then-word-len-clause-none
returns-then-word-len-clause-none c = λ j lo.
    let long = ap length (sym c.self.view_is) ∙ c.self.invariant.0 in
    past_words c.args.self.now j (omega (arith, long, c.if-word-len.true))

pub returns-then-rest-ne0-clause-some : goal.returns-then-rest-ne0-clause-some
returns-then-rest-ne0-clause-some c =
    found_first c.args.self.now 512 c.args.from c.index.result.now (omega arith)
    (read_as c.self.inside.words.items c.args.self.now (c.args.from / 64) c.index.result.now c.self.view_is c.self.invariant.0 (omega arith) c.index.ensures)
    (omega arith) (search rules)

pub returns-in_default-clause-none : goal.returns-in_default-clause-none
returns-in_default-clause-none c = λ j lo.
    none_after c.args.self.now c.self.inside.filled c.args.from c.index.result.now (j / 64 + 1) j
    (ap length (sym c.self.view_is) ∙ c.self.invariant.0)
    (subst (λ (xs : _). AreFilled xs c.self.inside.filled) c.self.view_is c.self.invariant.1)
    (read_as c.self.inside.words.items c.args.self.now (c.args.from / 64) c.index.result.now c.self.view_is c.self.invariant.0 (omega arith) c.index.ensures)
    (omega arith) (λ k above under low. c.in_default.ensures.none k above low) lo (omega arith)

pub returns-clause-some : goal.returns-clause-some
returns-clause-some c =
    let now = c.args.self.now in
    let k = c.in-Some.k in
    let found = c.in-Some.ensures.some in
    let are = subst (λ (xs : _). AreFilled xs c.self.inside.filled) c.self.view_is c.self.invariant.1 in
    let long = ap length (sym c.self.view_is) ∙ c.self.invariant.0 in
    let here = read_as c.self.inside.words.items now (c.args.from / 64) c.index.result.now c.self.view_is c.self.invariant.0 (omega arith) c.index.ensures in
    let there = read_as c.self.inside.words.items now k c.index-next.result.now c.self.view_is c.self.invariant.0 found.1 c.index-next.ensures in
    found_later now 512 c.args.from k c.index-next.result.now (omega (arith, found.0)) found.1 there
    (is_filled now c.self.inside.filled k c.index-next.result.now are found.1 found.2 there) (search rules)
    (λ j lo hi. none_after now c.self.inside.filled c.args.from c.index.result.now k j long are here (omega arith)
    (λ i above under low. found.3 i above under) lo hi)
