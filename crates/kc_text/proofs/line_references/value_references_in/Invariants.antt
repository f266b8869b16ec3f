use Rattle.std.proofs.Common.{◌≡◌, ◌++◌, length}
use denote.Text.{Utf8}
use denote.Shadow.{shadow}
use Rattle.kc_text.specs.LineReferences.{value_references}
use Rattle.kc_text.specs.LineReferences.{lent_names}
use Rattle.kc_text.proofs.line_references.value_references_in.Given as goal

-- the names so far are before those of the rest
abbrev pub invariant-loop-piece : goal.invariant-loop-piece
invariant-loop-piece l = record {
  utf8 : shadow (Utf8 l.rest);
  found : lent_names l.names.items ++ value_references l.rest ≡ value_references l.value;
}

abbrev pub decreases-loop-piece : goal.decreases-loop-piece
decreases-loop-piece l = length l.rest
