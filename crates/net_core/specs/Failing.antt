-- Calls that are counted, and those of them that are to fail, by their numbers: the first is number 1.
use Rattle.std.specs.Prelude.{ℕ, ◌+◌, Bool, List, nat_eq, if◌then◌else◌}
use Rattle.std.specs.List.{list_any}
use Rattle.net_core.specs.Counts.{one_more}

-- how many calls were made and how many of them failed, with the numbers of those that are to fail
pub record Calls : Type 0 where
  pub made : ℕ
  pub faults : ℕ
  pub failing : List ℕ

-- the next call is one that is to fail
abbrev pub next_fails : Calls → Bool
next_fails calls = list_any (λ n. nat_eq n (calls.made + 1)) calls.failing

-- one more call was made, and is a fault if it is one that is to fail
abbrev pub after_call : Calls → Calls
after_call calls =
    record calls {
      made = one_more calls.made;
      faults = if next_fails calls then one_more calls.faults else calls.faults;
    }
