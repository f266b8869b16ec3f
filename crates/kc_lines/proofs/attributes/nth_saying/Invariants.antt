use Rattle.std.proofs.Common.{◌≡◌, drop, filter, slice_get}
use Rattle.kc_lines.specs.Attributes.{says}
use Rattle.kc_lines.proofs.attributes.nth_saying.Given as goal

-- the line of the number is the one of the count that is left among the lines that are left
abbrev pub invariant-loop-line : goal.invariant-loop-line
invariant-loop-line l =
    slice_get (filter (says l.attribute) (drop l.line-index l.attributes)) l.left ≡ slice_get (filter (says l.attribute) l.attributes) l.number
