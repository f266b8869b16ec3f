use Rattle.std.proofs.Common.{◌≡◌, Bor, List, Some, filter, map, sym, ap, subst, ◌∙◌}
use Rattle.std.specs.List.{slice_get}
use Rattle.kc_text.specs.LineValue.{LineValue}
use Rattle.kc_statement.specs.Keywords.{is_choice}
use Rattle.kc_tree.specs.declared.outline_faults.OutlineFault.{OutlineFault}
use Rattle.kc_tree.specs.OutlineFaults.{outline_fault, IsInside}
use Rattle.kc_tree.proofs.AllFaultLaws.{first_inside}
use Rattle.kc_tree.proofs.link.check_outline.Goals as goal

pub reported-requires : goal.reported-requires
reported-requires c =
    let lines = c.args.lines.now in
    let t = c.args.outline.now in
    let fault = c.in-Some.first.now in
    let first : outline_fault t ≡ Some fault = ap (λ (fs : List OutlineFault). slice_get fs 0) (sym (c.as_slice.ensures.value ∙ c.in_ok-faults.ensures)) ∙ sym c.in-Some.ensures.value in
    let choices : map (λ (l : Bor LineValue). l.now) c.as_slice-2.result.now ≡ filter is_choice lines = ap (map (λ (l : Bor LineValue). l.now)) c.as_slice-2.ensures.value ∙ c.in_ok-choices.ensures in
    subst (λ (ls : List LineValue). IsInside ls fault) (sym choices) (first_inside lines t fault c.requires.choices first)
