use Rattle.kc_files.proofs.FormSteps.{split}
use Rattle.kc_files.proofs.line_form.parted.Goals as goal

pub returns : goal.returns
returns c = split c.args.sign c.args.text.now c.split_once.result c.split_once.ensures.cases c.requires.ascii
