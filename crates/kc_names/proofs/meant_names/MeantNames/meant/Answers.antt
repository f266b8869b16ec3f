use Rattle.std.proofs.Common.{◌≡◌, None, rules, subst}
use Rattle.std.specs.Option.{option_copied}
use Rattle.kc_names.specs.MeantNames.{IsNearOrEnding}
use Rattle.kc_names.specs.NearName.{IsNearest}
use Rattle.kc_names.proofs.meant_names.MeantNames.meant.Goals as goal

pub returns : goal.returns
returns c =
    let names = c.args.self.now in
    let near = option_copied c.nearest-near.result in
    let same : c.self.inside.near ≡ names = search rules in (
      near,
      subst (λ bare. IsNearest names None bare near) c.bare_name-bare.ensures
          (subst (λ others. IsNearest others None c.bare_name-bare.result.now near) same c.nearest-near.ensures),
      subst (λ bare. IsNearOrEnding names bare near (option_copied c.near_or_ending.result)) c.bare_name-bare.ensures c.near_or_ending.ensures,
    )
