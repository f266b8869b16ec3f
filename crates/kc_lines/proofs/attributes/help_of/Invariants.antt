use Rattle.std.specs.Option.{option_copied, option_or}
use Rattle.std.proofs.Common.{◌≡◌, drop}
use Rattle.kc_lines.specs.Attributes.{last_help}
use Rattle.kc_lines.proofs.attributes.help_of.Given as goal

-- the last of the lines that are left, else that of the lines before
abbrev pub invariant-loop-line : goal.invariant-loop-line
invariant-loop-line l = option_or (last_help (drop l.line-index l.attributes)) (option_copied l.last) ≡ last_help l.attributes
