use Rattle.std.proofs.Common.{◌≡◌, ◌++◌, length}
use denote.Text.{Utf8}
use denote.Shadow.{shadow}
use Rattle.kc_text.specs.Lexing.{raw_tokens}
use Rattle.kc_text.specs.LineReferences.{lent_names, names_shown}
use Rattle.kc_text.proofs.line_references.references_in.Given as goal

-- the names so far are before those of the rest
abbrev pub invariant-loop-names : goal.invariant-loop-names
invariant-loop-names l = record {
  utf8 : shadow (Utf8 l.rest);
  found : lent_names l.names.items ++ names_shown (raw_tokens l.rest) ≡ names_shown (raw_tokens l.line);
}

abbrev pub decreases-loop-names : goal.decreases-loop-names
decreases-loop-names l = length l.rest
