use Rattle.std.proofs.Common.{arith}
use Rattle.kc_folder.proofs.CutLaws.{cut_of_no_text}
use Rattle.kc_folder.proofs.folder.whole_characters.Goals as goal

pub returns-else-bytes-whole-lt-MOST_OF_CHARACTER :
    goal.returns-else-bytes-whole-lt-MOST_OF_CHARACTER
returns-else-bytes-whole-lt-MOST_OF_CHARACTER c =
    cut_of_no_text _ _ c.in-Err.ensures.cases.1 (omega (arith, c.if-bytes-whole-lt-MOST_OF_CHARACTER.false, c.valid_up_to-whole.ensures))
