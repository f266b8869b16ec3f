use Rattle.std.proofs.Common.{◌≡◌, ◌++◌, drop, filter, map}
use Rattle.kc_lines.specs.Attributes.{says}
use Rattle.kc_facts.proofs.factor_lines.lines_saying.Given as goal

-- the lines so far are those of the lines before
abbrev pub invariant-loop-line : goal.invariant-loop-line
invariant-loop-line l =
    map (λ x. x.now) l.lines.items ++ filter (says l.attribute) (drop l.line-index l.attributes) ≡ filter (says l.attribute) l.attributes
