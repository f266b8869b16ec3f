use Rattle.std.proofs.Common.{map, length, ap, arith}
use Rattle.std.specs.String.{string_bytes}
use Rattle.kc_statement.proofs.NamesLemmas.{none_distinct}
use Rattle.kc_statement.proofs.names.Names.with_capacity.Goals as goal

pub invariant_of-result : goal.invariant_of-result
invariant_of-result c = (
  rw (ap (map string_bytes) c.in_ok-with_capacity_and_hasher.ensures.empty) none_distinct,
  omega (arith, ap length c.in_ok-with_capacity_and_hasher.ensures.empty),
)
