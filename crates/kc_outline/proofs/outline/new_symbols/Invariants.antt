use Rattle.std.proofs.Common.{◌≡◌, []}
use Rattle.kc_outline.specs.TreeOf.{symbols_in}
use Rattle.kc_outline.proofs.outline.new_symbols.Given as goal

abbrev pub invariant-loop-number : goal.invariant-loop-number
invariant-loop-number l = l.symbols.items ≡ symbols_in l._number []
