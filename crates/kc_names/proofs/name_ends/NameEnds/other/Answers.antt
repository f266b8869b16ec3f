use Rattle.std.proofs.Common.{◌≡◌, ap, subst, Some}
use Rattle.std.specs.Option.{IfSome, option_copied}
use Rattle.kc_names.specs.NameEnds.{IsOtherAt}
use Rattle.kc_names.proofs.EndLaws.{other_named}
use Rattle.kc_names.proofs.name_ends.NameEnds.other.Goals as goal

pub returns : goal.returns
returns c =
    other_named c.args.self.now (option_copied c.args.excepted) c.args.name.now c.in-Some.number (option_copied c.name.result)
    (subst (λ o. IfSome o (IsOtherAt c.args.self.now (option_copied c.args.excepted) c.args.name.now)) c.in-Some.is c.other_number.ensures.holds) c.name.ensures
