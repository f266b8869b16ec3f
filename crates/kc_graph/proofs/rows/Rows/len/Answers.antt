use Rattle.std.proofs.Common.{ap, length, arith}
use Rattle.kc_graph.specs.Rows.{number_count}
use Rattle.kc_graph.proofs.RowLaws.{length-rows_from, number_count-all}
use Rattle.kc_graph.proofs.rows.Rows.len.Goals as goal

pub returns-clause-len : goal.returns-clause-len
returns-clause-len c =
    let numbers = c.self.inside.numbers.items in
    let ends = c.self.inside.ends in
    omega (arith, c.len.ensures, ends.ok.0, length-rows_from numbers 0 ends.items, ap length c.self.view_is)

pub returns-clause-few : goal.returns-clause-few
returns-clause-few c =
    let ends = c.self.inside.ends in
    omega (arith, c.len.ensures, ends.ok.1, ends.small)

pub returns-clause-few_numbers : goal.returns-clause-few_numbers
returns-clause-few_numbers c =
    let numbers = c.self.inside.numbers in
    omega (arith, number_count-all numbers.items c.self.inside.ends.items c.self.invariant, ap number_count c.self.view_is, numbers.ok.0, numbers.ok.1, numbers.small)
