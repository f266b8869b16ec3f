-- One part more.
use Rattle.std.proofs.Common.{◌≡◌, true, List, [], ◌∷◌, ◌++◌, refl}
use Rattle.std.specs.List.{list_all}
use Rattle.std.proofs.lemmas.List.Folds.{list_all-append}
use Rattle.kc_statement.specs.Grammar.{Level, Formula}
use Rattle.kc_statement.specs.Fronts.{stands_at}

pub kept_push : (l : Level) (es : List Formula) (e : Formula) → list_all (stands_at l) es ≡ true → stands_at l e ≡ true
    → list_all (stands_at l) (es ++ e ∷ []) ≡ true
kept_push l es e before last = rw (list_all-append (stands_at l) es (e ∷ []), before, last) refl
