use Rattle.std.proofs.Common.{◌≡◌, ◌++◌, drop, map}
use Rattle.std.specs.Prelude.{All}
use Rattle.kc_value.specs.Assignment.{assignment_of}
use Rattle.kc_facts.specs.declared.listed_reverses.ReverseLine.{ReverseLine}
use Rattle.kc_facts.specs.WhyRows.{IsReverseLine}
use Rattle.kc_facts.proofs.listed_reverses.lines_of.Given as goal

-- the rows so far are those of the lines before
abbrev pub invariant-loop-reverse : goal.invariant-loop-reverse
invariant-loop-reverse l = record {
  all : map (λ (r : ReverseLine). r.reverse.now) l.rows.items ++ drop l.reverse-index l.reverses ≡ l.reverses;
  each : All (IsReverseLine l.view.tree (assignment_of l.view.tree l.view.values) l.index l.fn.kind) l.rows.items;
  lines : l.lines ≡ l.index;
}
