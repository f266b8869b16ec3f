use Rattle.std.proofs.Common.{◌≡◌, ◌+◌, ◌++◌, drop}
use Rattle.std.specs.List.{take_while}
use Rattle.kc_statement.specs.Keywords.{is_attribute}
use Rattle.kc_lines.specs.Attributes.{says}
use Rattle.kc_lines.specs.LineIndex.{numbers_from}
use Rattle.kc_lines.proofs.line_index.numbers_after.Given as goal

-- with those of the attributes from here on they are all
abbrev pub invariant-loop-number : goal.invariant-loop-number
invariant-loop-number l =
    l.numbers.items ++ numbers_from (says l.attribute) l.number (take_while is_attribute (drop l.number l.lines))
    ≡ numbers_from (says l.attribute) (l.start + 1) (take_while is_attribute (drop (l.start + 1) l.lines))
