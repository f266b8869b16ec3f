-- Steps: this project's own command stream: what was read and not yet taken.
use Rattle.std.specs.Prelude.{ℕ, ◌+◌, ◌-◌, ◌*◌, ◌^◌, List}

-- the most reads that are made from one stream
abbrev pub read_limit : ℕ
read_limit = 2 ^ 63

-- the most bytes that one read gives
abbrev pub chunk_length : ℕ
chunk_length = 4096

-- The bytes of the chunk that are not yet taken, a number that no step raises and each byte that is taken lowers, and how
-- many reads were made.
pub record Unread : Type 0 where
  pub bytes : List ℕ
  pub budget : ℕ
  pub reads : ℕ

-- a read costs more than all the bytes that it gives
abbrev pub budget_of : ℕ → ℕ → ℕ
budget_of reads unread = (read_limit - reads) * (chunk_length + 1) + unread
