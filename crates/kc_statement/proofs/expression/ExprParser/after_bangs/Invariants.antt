use Rattle.std.proofs.Common.{◌≡◌, ◌++◌, ◌-◌, ◌≤◌, length, replicate}
use Rattle.kc_statement.specs.Grammar.{bang}
use Rattle.kc_statement.specs.TokenFronts.{symbols_at}
use Rattle.kc_statement.proofs.expression.ExprParser.after_bangs.Given as goal

abbrev pub invariant-loop-next : goal.invariant-loop-next
invariant-loop-next l = record {
  from : l.start ≤ l.position;
  run : symbols_at l.self l.start ≡ replicate (l.position - l.start) bang ++ symbols_at l.self l.position;
}

abbrev pub decreases-loop-next : goal.decreases-loop-next
decreases-loop-next l = length l.self.tokens.now - l.position
