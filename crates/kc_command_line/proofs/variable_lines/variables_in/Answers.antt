use Rattle.std.proofs.Common.{◌∙◌, ap}
use Rattle.std.specs.List.{filter_map}
use Rattle.std.proofs.lemmas.Iterator.Splits.{YieldsList-from_lines}
use Rattle.std.proofs.lemmas.Iterator.Consumers.{YieldsList-end}
use Rattle.kc_command_line.specs.VariableLines.{line_variable}
use Rattle.kc_command_line.proofs.FilteredPairs.{kept, passed}
use Rattle.kc_command_line.proofs.variable_lines.variables_in.Goals as goal

pub loop-line-preserved-in-Continue-1 : goal.loop-line-preserved-in-Continue-1
loop-line-preserved-in-Continue-1 c =
    kept line_variable (λ line. line.now) c.loop-line.yielded c.in-Some.line (λ v. (v.0.now, v.1.now)) _ _ _ c.loop-line.invariant c.in_ok-push.ensures.items c.in-Some-line_variable.ensures

pub loop-line-preserved : goal.loop-line-preserved
loop-line-preserved c =
    passed line_variable (λ line. line.now) c.loop-line.yielded c.in-Some.line (λ v. (v.0.now, v.1.now)) _ c.loop-line.invariant c.in_default.ensures

pub returns : goal.returns
returns c =
    let end = YieldsList-end (YieldsList-from_lines c.args.text.now cc) c.loop-line.yielded _ c.loop-line.yielded_by _ _ c.in-None.is c.next.ensures.steps in
    c.loop-line.invariant ∙ ap (filter_map line_variable) end.0
