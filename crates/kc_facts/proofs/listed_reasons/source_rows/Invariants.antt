use Rattle.std.proofs.Common.{◌≡◌, ◌++◌, drop, map}
use Rattle.std.specs.Prelude.{All}
use Rattle.kc_facts.specs.declared.listed_reasons.ReasonRow.{ReasonRow}
use Rattle.kc_facts.specs.WhyRows.{IsReasonRow}
use Rattle.kc_facts.proofs.listed_reasons.source_rows.Given as goal

-- the rows so far are those of what was gone through
abbrev pub invariant-loop-source : goal.invariant-loop-source
invariant-loop-source l = record {
  sources : map (λ (r : ReasonRow). r.source) l.rows.items ++ drop l.source-index l.sources ≡ l.sources;
  each : All (IsReasonRow l.tree l.index l.fn.symbol) l.rows.items;
}
