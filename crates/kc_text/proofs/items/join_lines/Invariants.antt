use Rattle.std.proofs.Common.{◌≡◌, ◌+◌, ◌<◌, ◌++◌, ◌∷◌, string_bytes, drop, length}
use denote.Text.{Utf8}
use denote.Shadow.{shadow}
use Rattle.std.specs.Str.Lines.{lines}
use Rattle.kc_text.specs.Items.{joined, joined_more}
use Rattle.kc_text.proofs.items.join_lines.Given as goal

-- so many lines, each with a backslash at its end, stand before this one and the rest
abbrev pub invariant-loop-out : goal.invariant-loop-out
invariant-loop-out l = record {
  utf8 : shadow (Utf8 l.line) × shadow (Utf8 l.rest);
  text : joined (lines l.file) ≡ string_bytes l.out ++ joined (l.line ∷ lines l.rest);
  joins : joined_more (lines l.file) ≡ l.more + joined_more (l.line ∷ lines l.rest);
  behind : drop l.more (lines l.file) ≡ l.line ∷ lines l.rest;
  within : l.more + length l.rest < length l.file;
}

abbrev pub decreases-loop-out : goal.decreases-loop-out
decreases-loop-out l = length l.rest
