use Rattle.std.proofs.Common.{◌≡◌, ◌≤◌, false, drop}
use Rattle.kc_statement.specs.Nesting.{is_too_deep}
use Rattle.kc_statement.proofs.NestingLaws.{passes_deep, start}
use Rattle.kc_statement.proofs.nesting.nests_too_deep.Given as goal

abbrev pub invariant-loop-token : goal.invariant-loop-token
invariant-loop-token l = record {
  passes : passes_deep l.depth (drop l.token-index l.tokens) ≡ passes_deep start l.tokens;
  shallow : is_too_deep l.depth ≡ false;
  opened : l.depth.opened ≤ l.token-index;
  closed : l.depth.closed ≤ l.token-index;
  nots : l.depth.nots ≤ l.token-index;
}
