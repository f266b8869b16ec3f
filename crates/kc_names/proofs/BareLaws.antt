-- What comes after a prefix, if there is one.
use Rattle.std.proofs.Common.{◌≡◌, ◌∙◌, ℕ, Bool, true, false, List, Option, None, Some, Bor, ap, cond, drop, length, nat_eq, refl, sym}
use Rattle.std.specs.List.{starts_with}
use Rattle.std.specs.Option.{MatchOption, option_copied}
use Rattle.std.specs.Str.Pattern.{FindsTextPrefix, StripsPrefix}
use Rattle.std.proofs.lemmas.Bool.Decides.{Decides-eqb}
use Rattle.std.proofs.lemmas.Slice.Eq.{starts_is}
use Rattle.kc_names.specs.BareNames.{without_prefix}

false_from : (b : Bool) → (b ≡ true → ⊥) → b ≡ false
false_from true none = absurd (none refl)
false_from false none = refl

pub stripped : (prefix name : List ℕ) (r : Option (Bor (List ℕ)))
    → MatchOption r (FindsTextPrefix prefix name None) (λ x. StripsPrefix (FindsTextPrefix prefix) name x.now)
    → option_copied r ≡ without_prefix prefix name
stripped prefix name None lacks =
    let starts = starts_is Decides-eqb name prefix (starts_with nat_eq name prefix) refl in
    ap (λ (b : Bool). cond b (Some (drop (length prefix) name)) None) (sym (false_from (starts_with nat_eq name prefix) (λ e. lacks _ (starts.0 e))))
stripped prefix name (Some x) (n, (is, split, boundary), at, whole) =
    let starts = starts_is Decides-eqb name prefix (starts_with nat_eq name prefix) refl in
    ap Some (at ∙ ap (λ k. drop k name) is)
    ∙ ap (λ (b : Bool). cond b (Some (drop (length prefix) name)) None) (sym (starts.1 (drop n name) split))
