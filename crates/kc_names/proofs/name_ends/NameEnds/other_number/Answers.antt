use Rattle.std.proofs.Common.{◌≡◌, rules, subst}
use Rattle.std.specs.Option.{option_copied}
use Rattle.kc_text.specs.LineReferences.{lent_names}
use Rattle.kc_names.specs.NameEnds.{IsOtherNumber}
use Rattle.kc_names.proofs.name_ends.NameEnds.other_number.Goals as goal

pub returns : goal.returns
returns c =
    let same : lent_names c.as_slice.result.now ≡ c.args.self.now = search rules in
    subst (λ names. IsOtherNumber names (option_copied c.args.excepted) c.args.name.now c.other_among.result) same c.other_among.ensures
