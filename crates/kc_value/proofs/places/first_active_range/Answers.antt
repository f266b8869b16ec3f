use Rattle.std.proofs.Common.{Bool, rules}
use Rattle.std.proofs.lemmas.Iterator.{YieldsList-from_slice}
use Rattle.kc_statement.specs.declared.attribute.Range.{Range}
use Rattle.kc_value.specs.Known.{given}
use Rattle.kc_value.specs.TextRule.{is_range_active}
use Rattle.kc_value.proofs.FirstLemmas.{first_from_run, place_from_run}
use Rattle.kc_value.proofs.places.first_active_range.Goals as goal

pub returns-clause-range : goal.returns-clause-range
returns-clause-range c =
    let r = c.find_position.ensures.runs in
    let slice = YieldsList-from_slice {s = c.iter.result} c.args.definition.now.ranges (search rules) in
    let active : Range → Bool = is_range_active c.args.known.now.tree (given c.args.known.now) c.args.definition.now in
    let b = r.2 (λ d. active d.now) (search rules) in
    first_from_run active slice r.0 r.1 c.find_position.result b.0 b.1

pub returns-clause-place : goal.returns-clause-place
returns-clause-place c =
    let r = c.find_position.ensures.runs in
    let slice = YieldsList-from_slice {s = c.iter.result} c.args.definition.now.ranges (search rules) in
    let active : Range → Bool = is_range_active c.args.known.now.tree (given c.args.known.now) c.args.definition.now in
    let b = r.2 (λ d. active d.now) (search rules) in
    place_from_run active slice r.0 r.1 c.find_position.result b.0 b.1
