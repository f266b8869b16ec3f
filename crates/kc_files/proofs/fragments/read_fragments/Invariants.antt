use Rattle.std.proofs.Common.{◌≡◌, take}
use Rattle.std.specs.Prelude.{All}
use Rattle.kc_files.specs.Outcomes.{fragment_lines, IsPlacedFor}
use Rattle.kc_files.proofs.fragments.read_fragments.Given as goal

-- the lines of the fragments so far
abbrev pub invariant-loop-index : goal.invariant-loop-index
invariant-loop-index l = record {
  read : l.lines.items ≡ fragment_lines l.tree l.prefix (take l.index l.fragments);
  fitting : All (IsPlacedFor l.tree) l.lines.items;
}
