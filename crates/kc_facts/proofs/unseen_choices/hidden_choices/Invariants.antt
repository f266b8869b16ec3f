use Rattle.std.proofs.Common.{◌≡◌}
use Rattle.std.specs.List.{filter, range_with_len}
use Rattle.kc_facts.specs.HiddenChoices.{is_hidden_number}
use Rattle.kc_facts.proofs.unseen_choices.hidden_choices.Given as goal

-- those of the choices so far
abbrev pub invariant-loop-number : goal.invariant-loop-number
invariant-loop-number l = l.hidden.items ≡ filter (is_hidden_number l.view.tree) (range_with_len 0 l.number)
