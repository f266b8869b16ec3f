use Rattle.std.proofs.Common.{rules, ◌≡◌, ◌∷◌, List, length, refl, ap, ◌∙◌}
use Rattle.kc_text.specs.declared.line.Token.{Token}
use Rattle.kc_statement.proofs.MistakeLaws.{placed_on, placed_at}
use Rattle.kc_statement.proofs.PlacedLaws.{range_anew, range_after, range_behind}
use Rattle.kc_statement.proofs.parser.Parser.range.Goals as goal

pub returns-in_default-clause-place : goal.returns-in_default-clause-place
returns-in_default-clause-place c =
    let none : 0 ≡ length c.args.tokens.now = (search rules) in
    placed_at _ _ _ c.wants.ensures (range_anew _ _ _ none)

pub returns-in_default-2-clause-place : goal.returns-in_default-2-clause-place
returns-in_default-2-clause-place c = placed_at _ _ _ c.wants-in_default-2.ensures (range_anew _ _ _ refl)

pub returns-in_default-split_first-clause-place : goal.returns-in_default-split_first-clause-place
returns-in_default-split_first-clause-place c =
    let none : 0 ≡ length c.in-Some.after_first.now = (search rules) in
    let low = rw c.in-Some-2.is at c.in_ok-low.ensures in
    placed_at _ _ _ c.wants-in_default-split_first.ensures (range_after c.args.self.now.names.now c.args.tokens.now _ _ _ _ c.in-Some.ensures.cases.0 low none)

pub returns-in_default-3-clause-place : goal.returns-in_default-3-clause-place
returns-in_default-3-clause-place c =
    let low = rw c.in-Some-2.is at c.in_ok-low.ensures in
    placed_at _ _ _ c.wants-in_default-3.ensures (range_after c.args.self.now.names.now c.args.tokens.now _ _ _ _ c.in-Some.ensures.cases.0 low refl)

pub returns-in_err-condition-clause-place : goal.returns-in_err-condition-clause-place
returns-in_err-condition-clause-place c =
    let low = rw c.in-Some-2.is at c.in_ok-low.ensures in
    let high = rw c.in-Some-3.is at c.in_ok-high.ensures in
    let same = c.in-Some.ensures.cases.0 ∙ ap (λ (ts : List Token). c.in-Some.first.now ∷ ts) c.in-Some-split_first.ensures.cases.0 in
    placed_on _ _ c.from_residual-in_err-condition.ensures.1 (range_behind c.args.self.now.names.now c.args.tokens.now _ _ _ _ _ same low high) c.in_err-condition.ensures.place
