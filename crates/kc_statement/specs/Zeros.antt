-- Steps: how many zeros are at the front of digits.
use Rattle.std.specs.Prelude.{ℕ, List, Bool, not, ◌==◌}
use Rattle.std.specs.List.{position_or_len}

abbrev pub is_no_zero : ℕ → Bool
is_no_zero b = not (b == 48)

abbrev pub zeros_len : List ℕ → ℕ
zeros_len = position_or_len is_no_zero
