use Rattle.std.proofs.Common.{◌≡◌, drop, filter_map, slice_get}
use Rattle.kc_value.specs.Known.{given}
use Rattle.kc_value.specs.ChoiceRule.{default_member}
use Rattle.kc_value.proofs.choice_value.first_default_member.Given as goal

abbrev pub invariant-loop-default : goal.invariant-loop-default
invariant-loop-default l =
    let member = default_member l.known.tree (given l.known) in
    slice_get (filter_map member (drop l.default-index l.defaults)) 0 ≡ slice_get (filter_map member l.defaults) 0
