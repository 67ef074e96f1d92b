use Rattle.std.proofs.Common.{◌≡◌, ℕ, ◌+◌, ◌≤◌, ◌||◌, take, length}
use Rattle.std.specs.Prelude.{nat_eq}
use Rattle.std.specs.HashSet.{contains, spare}
use Rattle.netguid_map.specs.Paths.{is_in_path}
use Rattle.netguid_map.proofs.paths.put_all.Given as goal

abbrev pub invariant-loop-guid : goal.invariant-loop-guid
invariant-loop-guid l = record {
  room : length l.path ≤ spare l.known + l.guid-index;
  known : (g : ℕ) → contains nat_eq l.known g
      ≡ (is_in_path g (take l.guid-index l.path) || contains nat_eq l.initial.known g);
}
