use Rattle.std.proofs.Common.{subst, arith, rules}
use Rattle.outgoing_channels.specs.Indexes.{HaveGaps}
use Rattle.outgoing_channels.proofs.Sets.{read_as, outside_found, outside_none, full_between}
use Rattle.outgoing_channels.proofs.index_set.IndexSet.least_outside.Goals as goal

pub returns-then-free-ne0 : goal.returns-then-free-ne0
returns-then-free-ne0 c =
    let one = c.args.other.now in
    let other = c.args.self.now in
    let k = c.in-Some.k in
    let found = c.in-Some.ensures.some in
    let have = subst (λ (xs : _). HaveGaps xs c.self.inside.gaps) c.self.view_is c.self.invariant.2 in
    let f = outside_found one other k c.never_free.result c.index.result.now c.index-in-Some.result.now c.never_free.ensures found.1
    (read_as c.other.inside.words.items one k c.index.result.now c.other.view_is c.other.invariant.0 found.1 c.index.ensures)
    (read_as c.self.inside.words.items other k c.index-in-Some.result.now c.self.view_is c.self.invariant.0 found.1 c.index-in-Some.ensures)
    (search rules) (search rules) (omega arith)
    (full_between one other c.self.inside.gaps c.loop-k.at k have (omega (arith, found.1)) c.loop-k.invariant.inside found.3) in
    record { least = f.0; most = omega (arith, f.1); outside = λ low. (f.3, f.2); inside = f.4 }

pub loop-k-preserved : goal.loop-k-preserved
loop-k-preserved c =
    let one = c.args.other.now in
    let other = c.args.self.now in
    let k = c.in-Some.k in
    let found = c.in-Some.ensures.some in
    let have = subst (λ (xs : _). HaveGaps xs c.self.inside.gaps) c.self.view_is c.self.invariant.2 in
    record {
      within = omega (arith, found.1);
      inside =
          outside_none one other k c.never_free.result c.index.result.now c.index-in-Some.result.now c.never_free.ensures
          (read_as c.other.inside.words.items one k c.index.result.now c.other.view_is c.other.invariant.0 found.1 c.index.ensures)
          (read_as c.self.inside.words.items other k c.index-in-Some.result.now c.self.view_is c.self.invariant.0 found.1 c.index-in-Some.ensures)
          (search rules) (search rules) (omega arith)
          (full_between one other c.self.inside.gaps c.loop-k.at k have (omega (arith, found.1)) c.loop-k.invariant.inside found.3);
    }

pub returns-clause-inside : goal.returns-clause-inside
returns-clause-inside c = λ j lo hi.
    let have = subst (λ (xs : _). HaveGaps xs c.self.inside.gaps) c.self.view_is c.self.invariant.2 in
    full_between c.args.other.now c.args.self.now c.self.inside.gaps c.loop-k.at 512 have (omega arith) c.loop-k.invariant.inside (c.in_default.ensures.none) j lo hi
