-- The numbers of the faults of lines and trees, as docs/ERRORS.md has them: this project's own.
use Rattle.std.specs.Prelude.{ℕ, Option, option_map}
use Rattle.kc_tree.specs.declared.fault.TreeFault.{TreeFault}
use Rattle.kc_tree.specs.Problems.{problem_number, problem_of}

-- out of memory has no number
abbrev pub fault_number : TreeFault → Option ℕ
fault_number fault = option_map problem_number (problem_of fault)
