use Rattle.std.proofs.Common.{◌∙◌, ◌++◌, ap, map, not, ◌&&◌}
use Rattle.kc_text.specs.LineReferences.{lent_names}
use Rattle.kc_value.specs.Assignment.{assignment_of}
use Rattle.kc_check.specs.CheckReport.{exchanged_if, has_symbols, is_all, unused_if}
use Rattle.kc_check.specs.UnusedVariables.{about}
use Rattle.kc_check.proofs.ReportLaws.{check_report}
use Rattle.kc_check.proofs.kconfig_findings.kconfig_findings.Goals as goal

pub returns : goal.returns
returns c =
    let view = c.args.view.now in
    let files = c.in_ok-variables.variables.files.items in
    check_report c.args.inputs.now.sources.now c.args.index.now view.tree (assignment_of view.tree view.values) (lent_names c.args.inputs.now.given.now) c.args.inputs.now.prefix.now c.args.extent files
    c.new-findings.result.items c.add_exchanged_if.new.found.items c.append.new.self.items c.add_unused_if.new.found.items c.add_unused.new.found.items
    c.in_ok-report.report.findings.items c.in_ok-variables.ensures c.in_ok-report.ensures c.new-findings.ensures.items
    (c.in_ok-add_exchanged_if.ensures
    ∙ ap (λ b. map about c.new-findings.result.items ++ exchanged_if b files)
    (c.has_no_symbols.ensures ∙ ap (λ t. not (has_symbols t)) c.tree-tree.ensures.tree))
    c.in_ok-append.ensures.items
    (c.in_ok-add_unused_if.ensures
    ∙ ap (λ b. map about c.append.new.self.items ++ unused_if b files)
    (c.are_all_sought.ensures ∙ ap (λ t. has_symbols t && is_all c.args.extent) c.tree-tree.ensures.tree))
    c.in_ok-add_unused.ensures
