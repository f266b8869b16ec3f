-- A count that stays at its greatest value: this project's own.
use Rattle.std.specs.Prelude.{ℕ, ◌+◌, ◌-◌, ◌^◌, min}

-- a count of 64 bits raised by a number, as far as it goes
abbrev pub raised : ℕ → ℕ → ℕ
raised count by = count + min by (2 ^ 64 - 1 - count)
