use Rattle.std.proofs.Common.{◌<◌, ◌≤◌, length, sym, ◌∙◌, rules, tests, arith}
use Rattle.std.proofs.lemmas.Bool.Decides.{nat_tests}
use Rattle.std.proofs.lemmas.Iterator.{YieldsList-from_slice}
use Rattle.std.proofs.lemmas.Iterator.Search.{any_from_yields_List}
use Rattle.kc_text.specs.Vars.{is_forbidden}
use Rattle.kc_text.proofs.variables.text_problem.Goals as goal

pub returns-then-bytes-gt-MAX_TEXT_BYTES : goal.returns-then-bytes-gt-MAX_TEXT_BYTES
returns-then-bytes-gt-MAX_TEXT_BYTES c =
    let text = c.args.text.now in
    let none = any_from_yields_List is_forbidden _ _ c.any.result c.any.ensures.ran (YieldsList-from_slice text cc) (λ x b q k. search (rules, tests)) in
    let long : 65536 < length text = search rules in
    rw (sym none ∙ c.if-any.false) (grind (arith, nat_tests))

pub returns : goal.returns
returns c =
    let text = c.args.text.now in
    let none = any_from_yields_List is_forbidden _ _ c.any.result c.any.ensures.ran (YieldsList-from_slice text cc) (λ x b q k. search (rules, tests)) in
    let short : length text ≤ 65536 = search rules in
    rw (sym none ∙ c.if-any.false) (grind (arith, nat_tests))
