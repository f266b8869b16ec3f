use Rattle.std.proofs.Common.{rules, tests, ◌++◌, sym, ap, ◌∙◌}
use Rattle.kc_tree.specs.OutlineFaults.{choice_faults}
use Rattle.kc_tree.specs.SymbolFaults.{AreSymbolsFaultless}
use Rattle.kc_tree.proofs.AllFaultLaws.{faultless_symbols}
use Rattle.kc_tree.proofs.outline_faults.outline_faults.Goals as goal

pub returns-then-are_symbols_faultless : goal.returns-then-are_symbols_faultless
returns-then-are_symbols_faultless c =
    let t = c.args.outline.now in
    let faultless : AreSymbolsFaultless t = search (rules, tests) in
    c.in_ok-add_choice_faults.ensures ∙ ap (λ fs. fs ++ choice_faults t) c.new-faults.ensures.items ∙ sym (faultless_symbols t faultless)
