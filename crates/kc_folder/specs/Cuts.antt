-- This project's own: where the bytes of a file are cut that is too long to be read whole.
use Rattle.std.specs.Prelude.{ℕ, ◌+◌, ◌<◌, ◌≤◌, List, length, take, ◌++◌}
use Rattle.std.specs.Str.{IsUtf8}

-- the first n bytes: fewer are left out than a character of four bytes has, and where the bytes begin a text, what is left
-- is a text
pub record IsCut (bytes : List ℕ) (n : ℕ) : Type 0 where
  pub within : n ≤ length bytes
  pub most : length bytes < n + 4
  pub whole : (rest : List ℕ) → IsUtf8 (bytes ++ rest) → IsUtf8 (take n bytes)
