use Rattle.std.proofs.Common.{◌≡◌, rules, subst, sym}
use Rattle.std.specs.Option.{option_copied}
use Rattle.kc_names.specs.MeantNames.{IsNearOrEnding}
use Rattle.kc_names.specs.NameEnds.{IsEnding, IsOnly}
use Rattle.kc_names.proofs.meant_names.MeantNames.near_or_ending.Goals as goal

pub returns-in-None : goal.returns-in-None
returns-in-None c =
    let names = c.args.self.now in
    let name = c.args.name.now in
    let found = option_copied c.ending_in.result in
    let same : c.self.inside.ends ≡ names = search rules in
    subst (λ near. IsNearOrEnding names name (option_copied near) found) (sym c.in-None.is)
    (subst (λ others. IsOnly (IsEnding others name) found) same c.ending_in.ensures)
