-- The number that is printed for each problem of lines, as 5 in K05: this project's own list.
use Rattle.std.specs.Prelude.{ℕ, Option, Some, None}
use Rattle.kc_outline.specs.declared.fault.LineProblem.TheVariants as line
use Rattle.kc_tree.specs.declared.problem.SymbolProblem.TheVariants as symbol
use Rattle.kc_tree.specs.declared.problem.Problem.{Problem}
use Rattle.kc_tree.specs.declared.problem.Problem.TheVariants as of
use Rattle.kc_tree.specs.declared.fault.TreeFault.{TreeFault}
use Rattle.kc_tree.specs.declared.fault.TreeFault.TheVariants.{Line, Symbol, Choice, Loop, NoMemory}

abbrev pub problem_number : Problem → ℕ
problem_number (of.Line line.Limit) = 1
problem_number (of.Line line.UnknownStatement) = 4
problem_number (of.Line line.Malformed) = 5
problem_number (of.Line line.StrayAttribute) = 6
problem_number (of.Line line.UnbalancedBlock) = 7
problem_number (of.Line line.Unsupported) = 20
problem_number (of.Symbol symbol.NoType) = 12
problem_number (of.Symbol symbol.TypeConflict) = 13
problem_number (of.Symbol symbol.SecondPrompt) = 14
problem_number (of.Symbol symbol.UnfitDefault) = 15
problem_number (of.Symbol symbol.UnfitSelect) = 16
problem_number (of.Symbol symbol.BadModules) = 18
problem_number (of.Choice p) = 17
problem_number of.Loop = 19

-- the problem that a fault is of; out of memory is none
abbrev pub problem_of : TreeFault → Option Problem
problem_of (Line problem path line) = Some (of.Line problem)
problem_of (Symbol problem name) = Some (of.Symbol problem)
problem_of (Choice problem path line) = Some (of.Choice problem)
problem_of (Loop nodes) = Some of.Loop
problem_of NoMemory = None
