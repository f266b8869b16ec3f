use Rattle.std.proofs.Common.{◌∙◌}
use Rattle.kc_files.proofs.NumberedLaws.{only_lines}
use Rattle.kc_files.proofs.numbered_lines.read_config_lines.Goals as goal

pub returns-clause-only : goal.returns-clause-only
returns-clause-only c = λ others h.
    only_lines c.args.tree.now c.args.prefix.now c.args.bytes.now c.into_lines.result.items (c.into_lines.ensures ∙ c.in_ok-lines.ensures.lines) c.as_str.ensures.valid others h
