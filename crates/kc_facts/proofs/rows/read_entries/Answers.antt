use Rattle.std.proofs.Common.{◌++◌, List, map, ap, ◌∙◌}
use Rattle.std.specs.List.{filter}
use Rattle.kc_statement.specs.declared.id.SymId.{SymId}
use Rattle.kc_outline.specs.declared.entry.Entry.{Entry}
use Rattle.kc_outline.specs.declared.entry.Entry.TheVariants.{Symbol}
use Rattle.kc_facts.specs.declared.row.Row.{Row}
use Rattle.kc_facts.specs.MenuTree.{has_row}
use Rattle.kc_facts.proofs.RowLemmas.{rest_step}
use Rattle.kc_facts.proofs.rows.read_entries.Goals as goal

abbrev any : Entry
any = let s : SymId = record { 0 = 0 } in Symbol s

pub loop-entry-init : goal.loop-entry-init
loop-entry-init c =
    (c.requires, ap (λ (es : List Entry). map (λ (r : Row). r.entry) c.args.read.now.rows.items ++ filter has_row es) c.entries-entry-items.ensures.entries)

pub loop-entry-preserved : goal.loop-entry-preserved
loop-entry-preserved c = (
  c.in_ok-add_if.ensures.right,
  rest_step c.entries-entry-items.result.now c.loop-entry.entry-index any _ _ c.loop-entry-test.true c.in_ok-add_if.ensures.entries ∙ c.loop-entry.invariant.1,
)
