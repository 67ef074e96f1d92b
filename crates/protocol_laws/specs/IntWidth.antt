use Rattle.std.specs.Prelude.{ℕ, ◌<◌, ◌≤◌, ◌+◌, ◌%◌, ◌^◌}

-- k is the least i with (v mod 2 ^ i) + 2 ^ i >= max
pub record IsIntWidth (max v k : ℕ) : Type 0 where
  pub enough : max ≤ v % 2 ^ k + 2 ^ k
  pub least : (i : ℕ) → i < k → v % 2 ^ i + 2 ^ i < max
