use Rattle.std.proofs.Common.{ap, ◌∙◌}
use Rattle.kc_text.specs.Help.{begins_with_end}
use Rattle.kc_text.proofs.FirstLines.{first_of-blank_line}
use Rattle.kc_text.proofs.help.begins_blank_line.Goals as goal

pub returns : goal.returns
returns c = c.begins_with_end.ensures ∙ ap begins_with_end c.behind_blanks.ensures.value ∙ first_of-blank_line c.args.text.now
