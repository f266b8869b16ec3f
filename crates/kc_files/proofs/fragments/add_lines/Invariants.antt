use Rattle.std.proofs.Common.{◌≡◌, ◌++◌}
use Rattle.std.specs.Vec.Iter.{into_iter_items}
use Rattle.kc_files.specs.Outcomes.{placed}
use Rattle.kc_files.proofs.fragments.add_lines.Given as goal

-- the lines so far, and those that are left
abbrev pub invariant-loop-line : goal.invariant-loop-line
invariant-loop-line l =
    l.lines.items ++ placed l.fn.fragment (into_iter_items l.line-iterator) ≡ l.initial.lines.items ++ placed l.fn.fragment l.fn.read.items
