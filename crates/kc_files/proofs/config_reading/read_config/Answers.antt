use Rattle.std.proofs.Common.{List, filter_map, sym, subst, ◌∙◌}
use Rattle.std.proofs.lemmas.List.Elements.{All-same}
use Rattle.kc_files.specs.declared.assign.Assign.{Assign}
use Rattle.kc_files.specs.declared.warning.Warning.{Warning}
use Rattle.kc_files.specs.ConfigReading.{counting, IsConfigReading}
use Rattle.kc_files.specs.LineReading.{IsAssignFor}
use Rattle.kc_files.specs.NumberedLines.{assign_of}
use Rattle.kc_files.proofs.CountingLaws.{All-counting}
use Rattle.kc_files.proofs.NumberedLaws.{assigns_fit, text_counted}
use Rattle.kc_files.proofs.UnfedReading.{config_unfed}
use Rattle.kc_files.proofs.config_reading.read_config.Goals as goal

pub returns-clause-read : goal.returns-clause-read
returns-clause-read c = (
  c.in_ok-reading.ensures.assigns ∙ text_counted c.args.tree.now c.args.prefix.now c.args.bytes.now c.in_ok-lines.lines.lines c.in_ok-lines.ensures.lines,
  c.in_ok-reading.ensures.warnings ∙ c.in_ok-lines.ensures.warnings,
)

pub returns-clause-reading : goal.returns-clause-reading
returns-clause-reading c =
    let read = returns-clause-read c in
    subst (λ (p : List Assign × List Warning). IsConfigReading c.args.tree.now c.args.prefix.now c.args.bytes.now p.0 p.1)
    (λ i. (sym read.0 i, sym read.1 i)) (c.as_str.ensures.readings c.args.tree.now c.args.bytes.now).reading

pub returns-clause-only : goal.returns-clause-only
returns-clause-only c = λ assigns warnings h.
    let read = returns-clause-read c in
    let other = (c.as_str.ensures.readings c.args.tree.now c.args.bytes.now).only assigns warnings h in
    (other.0 ∙ sym read.0, other.1 ∙ sym read.1)

pub returns-clause-fitting : goal.returns-clause-fitting
returns-clause-fitting c =
    let t = c.args.tree.now in
    let lines = c.in_ok-lines.lines.lines in
    All-same (IsAssignFor t) c.in_ok-reading.reading.0.items (counting (filter_map assign_of lines)) c.in_ok-reading.ensures.assigns
    (All-counting (IsAssignFor t) (filter_map assign_of lines) (assigns_fit t lines c.in_ok-lines.ensures.fitting))

pub returns-clause-unfed : goal.returns-clause-unfed
returns-clause-unfed c =
    config_unfed c.args.tree.now c.args.prefix.now c.args.bytes.now c.in_ok-reading.reading.0.items c.in_ok-reading.reading.1.items (returns-clause-reading c)
