use Rattle.std.proofs.Common.{◌≡◌, string_bytes, take, flat_map}
use Rattle.kc_text.specs.Help.{help_line}
use Rattle.kc_text.specs.Scanning.{texts_of}
use Rattle.kc_text.proofs.help.HelpText.to_text.Given as goal

abbrev pub invariant-loop-line : goal.invariant-loop-line
invariant-loop-line l = string_bytes l.out ≡ flat_map (help_line l.column) (texts_of (take l.line-index l.lines))
