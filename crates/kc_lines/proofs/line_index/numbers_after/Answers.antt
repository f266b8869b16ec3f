use Rattle.std.proofs.Common.{◌+◌, ap, drop, sym, ◌∙◌}
use Rattle.std.specs.List.{take_while}
use Rattle.kc_statement.specs.Keywords.{is_attribute}
use Rattle.kc_lines.specs.Attributes.{says}
use Rattle.kc_lines.specs.LineIndex.{numbers_from}
use Rattle.kc_lines.proofs.StartLaws.{numbers_all, numbers_end, numbers_past, numbers_step}
use Rattle.kc_lines.proofs.line_index.numbers_after.Goals as goal
use Rattle.kc_lines.proofs.line_index.numbers_after.Goals.{else-loop-number-test, then-loop-number-test+then-not-is_attribute}

pub loop-number-preserved : goal.loop-number-preserved
loop-number-preserved c =
    let lines = c.args.lines.now in
    let test = says c.args.attribute in
    numbers_step test lines c.loop-number.number c.index-lines-number.result c.loop-number.numbers.items c.note.new.numbers.items
    (numbers_from test (c.args.start + 1) (take_while is_attribute (drop (c.args.start + 1) lines))) c.says.result
    c.loop-number-test.true c.index-lines-number.is (sym c.is_attribute.ensures ∙ c.if-not-is_attribute.false) c.says.ensures c.loop-number.invariant
    c.in_ok-note.ensures

pub returns : goal.returns
returns c =
    let lines = c.args.lines.now in
    let test = says c.args.attribute in
    let i = c.loop-number.number in
    let all = numbers_all test lines c.args.start c.loop-number.numbers.items (numbers_from test i (take_while is_attribute (drop i lines))) in
    elim c.loop-number-test.branch [
      | else-loop-number-test w ↦ all (numbers_past test lines i w.loop-number-test.false) c.loop-number.invariant
      | then-loop-number-test+then-not-is_attribute w ↦
          all (numbers_end test lines i w.index-lines-number.result w.loop-number-test.true
          (sym (ap is_attribute w.index-lines-number.is) ∙ (sym w.is_attribute.ensures ∙ w.if-not-is_attribute.true)))
          c.loop-number.invariant
    ]
