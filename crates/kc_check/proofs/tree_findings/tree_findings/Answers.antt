use Rattle.std.proofs.Common.{◌∙◌, ap, subst}
use Rattle.kc_text.specs.LineReferences.{lent_names}
use Rattle.kc_value.specs.Assignment.{assignment_of}
use Rattle.kc_line_facts.specs.ListedNames.{IsListing}
use Rattle.kc_check.specs.TreeReport.{IsTreeReport, befores}
use Rattle.kc_check.proofs.ReportLaws.{tree_report}
use Rattle.kc_check.proofs.tree_findings.tree_findings.Goals as goal

pub returns : goal.returns
returns c =
    let view = c.args.view.now in
    let names = c.in_ok-names.names in
    record {
      names = names;
      are_listed = subst (λ ls. IsListing ls view.tree c.args.inputs.now.prefix.now c.args.extent names) c.lines-read.ensures
          (subst (λ t. IsListing c.lines-read.result.now t c.args.inputs.now.prefix.now c.args.extent names) c.tree-tree.ensures.tree
          (subst (λ p. IsListing c.lines-read.result.now c.tree-tree.result.now p c.args.extent names) c.as_str.ensures.text c.in_ok-names.ensures));
      is_report = subst (λ ns. IsTreeReport c.args.index.now view.tree (assignment_of view.tree view.values) c.args.variables.now.files.items (lent_names c.args.inputs.now.given.now) c.args.extent ns c.in_ok-findings.findings.items)
          c.as_slice-3.ensures.value
          (tree_report c.lines-read.result.now c.args.index.now c.tree-tree.result.now view.tree (assignment_of view.tree view.values) c.files-files.result.now c.args.variables.now.files.items
          (lent_names c.args.inputs.now.given.now) c.args.extent c.as_slice-3.result.now c.as_slice-2.result.now c.in_ok-earlier.earlier.items c.as_slice-4.result.now
          c.in_ok-facts.facts.items c.as_slice-6.result.now c.in_ok-said.said.items c.in_ok-findings.findings.items
          c.lines-read.ensures c.tree-tree.ensures.tree c.files-files.ensures c.in_ok-earlier.ensures
          (c.as_slice-2.ensures.value ∙ c.in_ok-befores.ensures ∙ ap befores c.as_slice.ensures.value)
          c.in_ok-facts.ensures c.as_slice-4.ensures.value c.as_slice-6.ensures.value c.in_ok-said.ensures c.in_ok-findings.ensures);
    }
