-- The parts of a variable's text are those that are written so, and no others: kconfig-macro-language.rst, "Variables".
use Rattle.std.specs.Prelude.{ℕ, ◌≡◌, List}
use Rattle.kc_text.specs.References.{Piece, value_pieces}
use Rattle.kc_text.specs.Shown.{AreValueParts}

pub record ValueLaw : Type 0 where
  pub parts : (text : List ℕ) → AreValueParts (value_pieces text) text
  pub only : (ps : List Piece) (text : List ℕ) → AreValueParts ps text → ps ≡ value_pieces text
