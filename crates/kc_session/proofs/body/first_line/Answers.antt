use Rattle.std.proofs.Common.{arith}
use Rattle.kc_session.proofs.BodyLines.{first_cut, only_line}
use Rattle.kc_session.proofs.body.first_line.Goals as goal

pub returns-then-len-text-clause-lines : goal.returns-then-len-text-clause-lines
returns-then-len-text-clause-lines c =
    first_cut c.args.text.now c.split_at.result.0.now c.split_at.result.1.now c.line_len-len.result c.line_len-len.ensures.len (omega arith) c.split_at.ensures.front c.split_at.ensures.back

pub returns-clause-lines : goal.returns-clause-lines
returns-clause-lines c =
    only_line c.args.text.now c.line_len-len.result c.requires.some c.line_len-len.ensures.len (omega arith)
