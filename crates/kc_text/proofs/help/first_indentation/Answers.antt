use Rattle.std.proofs.Common.{◌∙◌}
use Rattle.kc_text.proofs.FirstLines.{indentation-lines}
use Rattle.kc_text.proofs.help.first_indentation.Goals as goal

pub returns : goal.returns
returns c = c.indentation.ensures ∙ indentation-lines c.args.text.now
