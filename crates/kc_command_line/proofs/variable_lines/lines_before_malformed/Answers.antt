use Rattle.std.proofs.Common.{rules, tests}
use Rattle.std.proofs.lemmas.Iterator.Splits.{YieldsList-from_lines}
use Rattle.std.proofs.lemmas.Iterator.Search.{position_from_yields_List}
use Rattle.kc_command_line.specs.VariableLines.{is_malformed}
use Rattle.kc_command_line.proofs.variable_lines.lines_before_malformed.Goals as goal

pub returns : goal.returns
returns c =
    position_from_yields_List is_malformed _ _ _ c.position.ensures.ran (YieldsList-from_lines c.args.text.now cc) (λ x b q k. search (rules, tests))
