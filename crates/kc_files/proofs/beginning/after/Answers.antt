use Rattle.kc_files.proofs.AfterLaws.{stripped}
use Rattle.kc_files.proofs.beginning.after.Goals as goal

pub returns : goal.returns
returns c = stripped c.args.start.now c.args.text.now c.strip_prefix.result c.strip_prefix.ensures.cases
