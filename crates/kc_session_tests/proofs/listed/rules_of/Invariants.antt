use Rattle.std.proofs.Common.{◌≡◌, length}
use Rattle.kc_session_tests.specs.Listed.{AreValuesByPlace}
use Rattle.kc_session_tests.proofs.listed.rules_of.Given as goal

-- the values so far are those of the nodes of their places
abbrev pub invariant-loop-number : goal.invariant-loop-number
invariant-loop-number l = record {
  all : length l.values.items ≡ l.number;
  right : AreValuesByPlace l.known.tree l.user l.values.items;
}
