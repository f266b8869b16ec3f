use Rattle.std.proofs.Common.{◌≡◌, ◌+◌, ◌≤◌, drop, length}
use denote.Text.{Utf8}
use denote.Shadow.{shadow}
use Rattle.std.specs.Str.Lines.{lines}
use Rattle.kc_text.specs.Help.{passed_lines}
use Rattle.kc_text.proofs.help.skip_blank_lines.Given as goal

-- so many lines of blanks stand before the rest
abbrev pub invariant-loop-rest : goal.invariant-loop-rest
invariant-loop-rest l = record {
  utf8 : shadow (Utf8 l.rest);
  passed : passed_lines (lines l.text) ≡ l.count + passed_lines (lines l.rest);
  behind : drop l.count (lines l.text) ≡ lines l.rest;
  within : l.count + length l.rest ≤ length l.text;
}

abbrev pub decreases-loop-rest : goal.decreases-loop-rest
decreases-loop-rest l = length l.rest
