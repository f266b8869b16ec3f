use Rattle.std.proofs.Common.{◌≡◌, ◌++◌, length, string_bytes}
use Rattle.kc_files.specs.WrittenAssigns.{assigns_text}
use Rattle.kc_files.proofs.written_assigns.lines_of.Given as goal

abbrev pub decreases-loop-assign : goal.decreases-loop-assign
decreases-loop-assign l = length l.rest

-- the text so far with that of the assignments that are left is the whole
abbrev pub invariant-loop-assign : goal.invariant-loop-assign
invariant-loop-assign l = string_bytes l.text ++ assigns_text l.tree l.prefix l.rest ≡ assigns_text l.tree l.prefix l.assigns
