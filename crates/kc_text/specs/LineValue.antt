-- A logical line as contracts see it: this project's own record of what the reader of a line is told.
use Rattle.std.specs.Prelude.{ℕ, List, Option}
use Rattle.kc_text.specs.declared.line.LineKind.{LineKind}
use Rattle.kc_text.specs.declared.line.Token.{Token}

-- the file's path as it was spelt, the line's number from 1, the run of its file (0 for the top file),
-- what it stands for, its tokens (none at the end of a file), and the help text after a `help` line
pub record LineValue : Type 0 where
  pub path : List ℕ
  pub number : ℕ
  pub run : ℕ
  pub kind : LineKind
  pub tokens : List Token
  pub help : Option (List ℕ)
