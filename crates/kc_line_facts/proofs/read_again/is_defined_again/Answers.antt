use Rattle.std.proofs.Common.{◌∙◌, false, ap}
use Rattle.std.specs.List.{filter}
use Rattle.std.specs.Option.{option_map_or}
use Rattle.kc_line_facts.specs.UnusedDefaults.{ends_before, is_end, is_read_again}
use Rattle.kc_line_facts.proofs.UnusedLaws.{any_of_lent}
use Rattle.kc_line_facts.proofs.read_again.is_defined_again.Goals as goal

pub returns-in-Some : goal.returns-in-Some
returns-in-Some c =
    let lines = c.args.index.now in
    c.is_read_again.ensures
    ∙ any_of_lent (ends_before c.in-Some.line.now) c.args.ends.now (filter is_end lines) c.requires
    ∙ ap (λ o. option_map_or (is_read_again lines) o false) c.in-Some.ensures
