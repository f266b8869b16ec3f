use Rattle.std.proofs.Common.{◌≡◌, ℕ, ◌<◌, false}
use Rattle.kc_tree.specs.SymbolFaults.{has_any_problem}
use Rattle.kc_tree.proofs.symbol_faults.are_symbols_faultless.Given as goal

-- none so far
abbrev pub invariant-loop-number : goal.invariant-loop-number
invariant-loop-number l = (k : ℕ) → k < l.number → has_any_problem l.outline k ≡ false
