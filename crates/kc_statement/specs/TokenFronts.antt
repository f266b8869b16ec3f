-- Steps: what is at a position of the tokens that are read: this project's own.
use Rattle.std.specs.Prelude.{ℕ, List}
use Rattle.kc_statement.specs.declared.expression.ExprParser.{ExprParser}
use Rattle.kc_statement.specs.Grammar.{Symbol, Formula, Level}
use Rattle.kc_statement.specs.Fronts.{symbols_from, Begins}

-- the symbols from a position on
abbrev pub symbols_at : ExprParser → ℕ → List Symbol
symbols_at parser position = symbols_from parser.names.now parser.tokens.now position

-- an expression of that level begins at a position and ends before another one
abbrev pub IsReadAt : ExprParser → Level → ℕ → Formula × ℕ → Type 0
IsReadAt parser l start p = Begins parser.kind l (symbols_at parser start) p.0 (symbols_at parser p.1)
