use Rattle.std.proofs.Common.{◌≡◌, ◌∙◌, ap}
use Rattle.actor_lists.specs.Shared.{all_actors}
use Rattle.actor_lists.proofs.Members.{member_of, member_back}
use Rattle.std.proofs.lemmas.List.Filters.{dedup_is}
use Rattle.std.proofs.lemmas.List.Kept.{Contains-dedup_nat, Contains-from_dedup}
use Rattle.std.proofs.lemmas.List.Sorted.{Contains-permutation, IsPermutation-sym}
use Rattle.std.proofs.lemmas.Map.Keys.{IsStrictlyIncreasing-dedup}
use Rattle.actor_lists.proofs.lists.Lists.actors.Goals as goal

pub returns-clause-ascending : goal.returns-clause-ascending
returns-clause-ascending c =
    let is = dedup_is _ _ _ c.dedup.ensures.filtered in
    rw (c.from_vec.ensures, is) (IsStrictlyIncreasing-dedup _ c.sort_unstable.ensures.sorted)

pub returns-clause-same : goal.returns-clause-same
returns-clause-same c = λ a.
    let is = dedup_is _ _ _ c.dedup.ensures.filtered in
    let moved = c.sort_unstable.ensures.permutation in
    let same = c.in_ok-all-2.ensures in
    let all : c.in_ok-all.all.items ≡ c.args.self.now =
    c.in_ok-all.ensures ∙ ap all_actors c.as_slice.ensures.value ∙ c.self.view_is in (
      λ h. rw all at (member_of _ _ same a
          (Contains-permutation _ _ a (IsPermutation-sym _ _ moved)
          (Contains-from_dedup _ _ a (rw (c.from_vec.ensures, is) at h)))),
      λ h. rw (c.from_vec.ensures, is) (Contains-dedup_nat _ a
          (Contains-permutation _ _ a moved (member_back _ _ same a (rw (← all) at h)))),
    )
