use Rattle.std.proofs.Common.{◌≡◌, ◌++◌, drop}
use Rattle.kc_text.specs.LineReferences.{lent_names}
use Rattle.kc_line_facts.proofs.earlier_faults.push_all.Given as goal

-- with those that are left they are all
abbrev pub invariant-loop-name : goal.invariant-loop-name
invariant-loop-name l = lent_names l.names.items ++ lent_names (drop l.name-index l.more) ≡ lent_names l.initial.names.items ++ lent_names l.more
