use Rattle.std.proofs.Common.{rules, ◌≡◌, ◌++◌, None, Some, option_map, option_to_list, sym, ap, ◌∙◌, append-nil}
use Rattle.std.specs.List.{slice_get}
use Rattle.std.proofs.Common.{Option}
use Rattle.std.proofs.lemmas.Option.{slice_get_past, slice_get-get_or}
use Rattle.kc_text.specs.LineValue.{LineValue}
use Rattle.kc_tree.specs.declared.fault.TreeFault.TheVariants.{Line}
use Rattle.kc_tree.proofs.every_fault.add_line_fault.Goals as goal

pub returns-in_default : goal.returns-in_default
returns-in_default c =
    let lines = c.args.lines.now in
    let place = c.args.faulty.place in
    let lookup = rw c.in_default.is at c.get.ensures.lookup in
    let none : slice_get lines place ≡ None = slice_get_past lines place lookup.3 in
    sym (ap (λ (o : Option LineValue). c.args.faults.now.items ++ option_to_list (option_map (λ (l : LineValue). Line c.args.faulty.problem l.path l.number) o)) none ∙ append-nil c.args.faults.now.items)

pub returns : goal.returns
returns c =
    let lines = c.args.lines.now in
    let place = c.args.faulty.place in
    let line = c.in-Some.line.now in
    let found = c.in-Some.ensures.lookup.3 in
    let there : slice_get lines place ≡ Some line = slice_get-get_or lines place line found.0 ∙ ap Some (sym (found.1 line)) in
    rw there (search rules)
