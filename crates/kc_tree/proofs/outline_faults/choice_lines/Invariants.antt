use Rattle.std.proofs.Common.{◌≡◌, ◌++◌, drop, filter, map}
use Rattle.kc_statement.specs.Keywords.{is_choice}
use Rattle.kc_tree.proofs.outline_faults.choice_lines.Given as goal

-- the lines so far are those of the lines before
abbrev pub invariant-loop-line : goal.invariant-loop-line
invariant-loop-line l = map (λ x. x.now) l.choices.items ++ filter is_choice (drop l.line-index l.lines) ≡ filter is_choice l.lines
