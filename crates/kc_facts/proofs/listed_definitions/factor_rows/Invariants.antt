use Rattle.std.proofs.Common.{◌≡◌, ◌++◌, drop, map}
use Rattle.std.specs.Prelude.{All}
use Rattle.kc_value.specs.declared.factors.Factor.{Factor}
use Rattle.kc_value.specs.Assignment.{assignment_of}
use Rattle.kc_value.specs.Factors.{judged}
use Rattle.kc_facts.specs.declared.listed_definitions.FactorRow.{FactorRow}
use Rattle.kc_facts.specs.WhyRows.{IsFactorRow}
use Rattle.kc_facts.proofs.listed_definitions.factor_rows.Given as goal

-- the rows so far are those of the factors before
abbrev pub invariant-loop-factor : goal.invariant-loop-factor
invariant-loop-factor l = record {
  judged : map (λ (r : FactorRow). judged r.own.factor) l.rows.items ++ map judged (drop l.factor-index l.factors) ≡ map judged l.factors;
  origins : map (λ (r : FactorRow). r.own.factor.origin) l.rows.items ++ map (λ (f : Factor). f.origin) (drop l.factor-index l.factors)
      ≡ map (λ (f : Factor). f.origin) l.factors;
  each : All (IsFactorRow l.view.tree (assignment_of l.view.tree l.view.values) l.index l.fn.number) l.rows.items;
  lines : l.lines ≡ l.index;
}
