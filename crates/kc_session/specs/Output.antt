-- This project's own command stream: what a writer took of a reply.
use Rattle.std.specs.Prelude.{◌≡◌, ℕ, List, ◌++◌, Option}
use Rattle.std.specs.Io.KnownBytes.{Appends}

-- the writer took the part of the bytes that stands before the rest, and nothing else
pub record WritesBefore (old new : Option (List ℕ)) (bytes rest : List ℕ) : Type 0 where
  pub part : List ℕ
  pub split : bytes ≡ part ++ rest
  pub appends : Appends old new part

-- the writer took a beginning of the bytes, and nothing else
pub record WritesPart (old new : Option (List ℕ)) (bytes : List ℕ) : Type 0 where
  pub rest : List ℕ
  pub writes : WritesBefore old new bytes rest
