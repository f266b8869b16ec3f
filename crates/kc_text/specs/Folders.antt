-- What a folder answers where the file of a path is asked for: this project's own.
use Rattle.std.specs.Prelude.{ℕ, List, Option, Some, None, Result, Ok, Err}
use denote.Ref.{Bor}

pub data FolderAnswer : Type 0 where
  -- the text of the file
  has : List ℕ → FolderAnswer
  -- that there is no such file
  lacks : FolderAnswer
  -- that the text cannot be given
  refuses : FolderAnswer

abbrev pub answer_of : {E : Type 0} → Result (Option (Bor (List ℕ))) E → FolderAnswer
answer_of (Ok (Some text)) = has text.now
answer_of (Ok None) = lacks
answer_of (Err fault) = refuses
