use Rattle.std.proofs.Common.{◌-◌, length, take, drop, arith}
use Rattle.kc_files.proofs.LineCuts.{first_cut, last_line, with_rest}
use Rattle.kc_files.proofs.config_lines.first_line.Goals as goal

pub returns-in-empty-clause-lines : goal.returns-in-empty-clause-lines
returns-in-empty-clause-lines c =
    last_line c.args.text.now c.split_at.result.0.now c.split_at.result.1.now c.line_len.result c.requires.some c.line_len.ensures.len c.split_at.ensures.front c.split_at.ensures.back (omega (arith, c.in-empty.len_below))

pub returns-in-len1-up-clause-lines : goal.returns-in-len1-up-clause-lines
returns-in-len1-up-clause-lines c =
    let end = c.split_at.result.1.now in
    let rest = with_rest end c.in-len1-up.len_at_least in
    first_cut c.args.text.now c.split_at.result.0.now end (take (length end - 1) (drop 1 end)) c.line_len.result rest.0 c.line_len.ensures.len c.split_at.ensures.front c.split_at.ensures.back rest.1
