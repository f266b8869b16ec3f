use Rattle.std.proofs.Common.{◌≡◌, ◌∙◌, length, ◌<◌, true, ap, sym, arith, rules, tests}
use Rattle.std.specs.Str.Lines.{lines}
use Rattle.kc_text.specs.Help.{is_inside}
use Rattle.kc_text.proofs.FirstLines.{first_of-lines, none_pass}
use Rattle.kc_text.proofs.PhysicalLines.{behind_line, passes_over}
use Rattle.kc_text.proofs.help.skip_inside.Goals as goal

pub loop-rest-preserved : goal.loop-rest-preserved
loop-rest-preserved c =
    let test = (is_inside c.args.column) in
    let all = lines c.args.text.now in
    let now = lines c.loop-rest.rest.now in
    let line = c.first_line.result.0.now in
    let left = lines c.first_line.result.1.now in
    let passes : test line ≡ true = ap test (sym (first_of-lines c.loop-rest.rest.now line left c.first_line.ensures.lines)) ∙ sym c.is_inside.ensures ∙ c.if-not-is_inside.false in
    record {
      utf8 = search rules;
      passed = passes_over test all now left c.loop-rest.count line c.loop-rest.invariant.passed c.loop-rest.invariant.behind c.first_line.ensures.lines passes;
      behind = behind_line test all now left c.loop-rest.count line c.loop-rest.invariant.passed c.loop-rest.invariant.behind c.first_line.ensures.lines;
      within = omega (arith, c.loop-rest.invariant.within, c.first_line.ensures.shorter);
    }

pub returns-then-not-is_inside-clause-count : goal.returns-then-not-is_inside-clause-count
returns-then-not-is_inside-clause-count c =
    let test = (is_inside c.args.column) in
    let rest = c.loop-rest.rest.now in
    let some : 0 < length rest = search (rules, tests) in
    let none = none_pass test rest some (sym c.is_inside.ensures ∙ c.if-not-is_inside.true) in
    search (rules, none)
