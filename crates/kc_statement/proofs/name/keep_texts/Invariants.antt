use Rattle.std.proofs.Common.{◌≡◌}
use Rattle.kc_statement.proofs.name.keep_texts.Given as goal

abbrev pub invariant-loop-token : goal.invariant-loop-token
invariant-loop-token l = l.names ≡ l.initial.names
