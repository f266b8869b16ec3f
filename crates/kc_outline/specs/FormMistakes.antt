-- Whether a line has its form, by itself: this project's own.
use Rattle.std.specs.Prelude.{List, [], Option, Some, None}
use Rattle.kc_text.specs.LineValue.{LineValue}
use Rattle.kc_statement.specs.declared.mistake.Mistake.{Mistake}
use Rattle.kc_statement.specs.declared.statement.Statement.{Statement}
use Rattle.kc_statement.specs.LineParts.{SaysOnly}
use Rattle.kc_statement.specs.Statements.{HasNoForm}

-- a line with a mistake says nothing, and one without says one statement, where no name is defined
abbrev pub IsMistaken : LineValue → Option Mistake → Type 0
IsMistaken l (Some mistake) = HasNoForm [] l
IsMistaken l None = (s : Statement) × SaysOnly [] l s
