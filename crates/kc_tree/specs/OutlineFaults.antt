-- What is wrong with what lines define, in the order in which it is reported: this project's own.
use Rattle.std.specs.Prelude.{◌<◌, ℕ, List, ◌++◌, Option, Some, None, if◌then◌else◌, option_map, length, filter_map, slice_get}
use Rattle.std.specs.List.{range_with_len}
use Rattle.kc_text.specs.LineValue.{LineValue}
use Rattle.kc_outline.specs.TreeValue.{TreeValue}
use Rattle.kc_tree.specs.declared.problem.SymbolProblem.{SymbolProblem}
use Rattle.kc_tree.specs.declared.problem.SymbolProblem.TheVariants.{NoType, TypeConflict, SecondPrompt, UnfitDefault, UnfitSelect, BadModules}
use Rattle.kc_tree.specs.declared.outline_faults.OutlineFault.{OutlineFault}
use Rattle.kc_tree.specs.declared.outline_faults.OutlineFault.TheVariants.{Symbol, Choice}
use Rattle.kc_tree.specs.ChoiceFaults.{problem_at}
use Rattle.kc_tree.specs.SymbolFaults.{has_problem}

-- the symbol of a number, if it has the problem
abbrev pub symbol_fault_at : TreeValue → SymbolProblem → ℕ → Option OutlineFault
symbol_fault_at t problem k = if has_problem t problem k then Some (Symbol problem (record { 0 = k })) else None

-- each symbol that has the problem, in the order of first definitions
abbrev pub symbol_faults : TreeValue → SymbolProblem → List OutlineFault
symbol_faults t problem = filter_map (symbol_fault_at t problem) (range_with_len 0 (length t.symbols))

-- the choice of a number with its problem, if it has one
abbrev pub choice_fault_at : TreeValue → ℕ → Option OutlineFault
choice_fault_at t k = option_map (λ problem. Choice problem (record { 0 = k })) (problem_at t k)

-- each choice that has a problem, in the order of their lines
abbrev pub choice_faults : TreeValue → List OutlineFault
choice_faults t = filter_map (choice_fault_at t) (range_with_len 0 (length t.choices))

-- all, kind by kind
abbrev pub outline_faults : TreeValue → List OutlineFault
outline_faults t =
    symbol_faults t NoType
    ++ (symbol_faults t TypeConflict
    ++ (symbol_faults t SecondPrompt
    ++ (symbol_faults t UnfitDefault
    ++ (symbol_faults t UnfitSelect
    ++ (choice_faults t
    ++ symbol_faults t BadModules)))))

-- the first of them
abbrev pub outline_fault : TreeValue → Option OutlineFault
outline_fault t = slice_get (outline_faults t) 0

-- a choice at fault is one of those that these lines begin
abbrev pub IsInside : List LineValue → OutlineFault → Type 0
IsInside choices (Symbol problem s) = Unit {0}
IsInside choices (Choice problem c) = c.0 < length choices
