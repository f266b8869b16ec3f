use Rattle.std.proofs.Common.{◌≡◌, ◌≤◌, length, sym, ap, ◌∙◌, inl, inr, arith}
use Rattle.std.proofs.lemmas.Bool.{cases_lt}
use Rattle.kc_tree.specs.SymbolFaults.{has_any_problem}
use Rattle.kc_tree.proofs.symbol_faults.are_symbols_faultless.Goals as goal

pub loop-number-preserved : goal.loop-number-preserved
loop-number-preserved c = λ k h. elim (cases_lt k c.loop-number.number) [
  | inl below ↦ c.loop-number.invariant k below
  | inr past ↦ let e : k ≡ c.loop-number.number = omega arith in ap (has_any_problem c.args.outline.now) e ∙ sym c.has_any_problem.ensures ∙ c.if-has_any_problem.false
]

pub returns : goal.returns
returns c =
    let t = c.args.outline.now in
    let all : length t.symbols ≤ c.loop-number.number = omega (arith, c.loop-number-test.false, ap length c.symbols-count.ensures) in
    λ _ k h. c.loop-number.invariant k (omega arith)
