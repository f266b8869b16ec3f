use Rattle.std.proofs.Common.{◌≡◌, ◌+◌, ◌<◌, ◌∙◌, ℕ, List, IfOk, ap, arith, drop, length, subst, sym}
use Rattle.std.specs.List.{take_while}
use Rattle.kc_text.specs.LineValue.{LineValue}
use Rattle.kc_statement.specs.Keywords.{is_attribute}
use Rattle.kc_lines.specs.Attributes.{says}
use Rattle.kc_lines.specs.LineIndex.{begins, numbers_from}
use Rattle.kc_lines.proofs.StartLaws.{numbers_within, saying_nowhere, saying_there}
use Rattle.kc_lines.proofs.line_index.LineIndex.numbers_saying.Goals as goal

pub numbers_after-requires : goal.numbers_after-requires
numbers_after-requires c =
    let lines = c.args.self.now in
    let start = c.in-Some.start in
    let below : start < 0 + length lines = numbers_within (begins c.args.family) 0 lines c.args.number start (sym c.start.ensures ∙ c.in-Some.is) in
    let there : start < length lines = omega (arith, below) in
    subst (λ (ls : List LineValue). start < length ls) (sym c.lines.ensures) there

pub returns-in-Some : goal.returns-in-Some
returns-in-Some c =
    let start = c.in-Some.start in
    let a = c.args.attribute in
    subst (λ (ns : List ℕ). IfOk c.numbers_after.result (λ r. r.items ≡ ns))
    (ap (λ (ls : List LineValue). numbers_from (says a) (start + 1) (take_while is_attribute (drop 1 (drop start ls)))) c.lines.ensures
    ∙ saying_there c.args.family a c.args.self.now c.args.number start (sym c.start.ensures ∙ c.in-Some.is))
    c.numbers_after.ensures

pub returns-in-None : goal.returns-in-None
returns-in-None c =
    c.new.ensures.items ∙ saying_nowhere c.args.family c.args.attribute c.args.self.now c.args.number (sym c.start.ensures ∙ c.in-None.is)
