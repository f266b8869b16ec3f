-- What MODULES is worth, and that it is n or it is not.
use Rattle.std.proofs.Common.{◌≡◌, ◌<◌, ◌⊎◌, Some, sym, subst, refl, ap, ◌∙◌, length, ⊎_elim, inl, inr, arith}
use Rattle.std.proofs.lemmas.Option.{slice_get_cases}
use Rattle.std.specs.Option.{option_map_or}
use Rattle.kc_statement.specs.declared.id.SymId.{SymId}
use Rattle.kc_statement.specs.declared.tri.Tri.{Tri}
use Rattle.kc_statement.specs.declared.tri.Tri.TheVariants.{No, Module, Yes}
use Rattle.kc_outline.specs.TreeValue.{TreeValue, modules_symbol}
use Rattle.kc_tree.specs.declared.node.Node.TheVariants.{Val}
use Rattle.kc_value.specs.Assignment.{Assignment, as_tri}
use Rattle.kc_value.specs.ExprValue.{modules_value, symbol_tri}
use Rattle.kc_value.specs.Solution.{solution}
use Rattle.kc_value.specs.UserValues.{IsUserFor, UserValues}
use Rattle.kc_bounds.specs.Bounds.{AreBoth, IsScoped, ScopedValue, with_modules, without_modules}
use Rattle.kc_bounds.specs.TriSets.{IsIn}

same_symbol : (r s : SymId) → r.0 ≡ s.0 → r ≡ s
same_symbol r s e = ap (λ n. record { 0 = n }) e

pub modules_is : (t : TreeValue) (a : Assignment) (r : SymId) → modules_symbol t ≡ Some r → modules_value t a ≡ symbol_tri t a r
modules_is t a r is = ap (λ o. option_map_or (symbol_tri t a) o No) is

pub value_of_modules : (t : TreeValue) (a : Assignment) (r s : SymId) → modules_symbol t ≡ Some r → r.0 ≡ s.0 → s.0 < length t.symbols
    → modules_value t a ≡ as_tri (a (Val s))
value_of_modules t a r s is same inside =
    modules_is t a r is ∙ ap (symbol_tri t a) (same_symbol r s same)
    ∙ ⊎_elim (λ there. ap (λ o. option_map_or (λ x. as_tri (a (Val s))) o No) there.2) (λ past. absurd (omega (arith, inside, past.0))) (slice_get_cases t.symbols s.0).1

-- MODULES is n, or it is m or y
scope_of : (v : Tri) → IsIn without_modules v ⊎ IsIn with_modules v
scope_of No = inl (record { there = refl })
scope_of Module = inr (record { there = refl })
scope_of Yes = inr (record { there = refl })

pub either : (t : TreeValue) (w : UserValues) → IsUserFor t w → IsScoped t without_modules w ⊎ IsScoped t with_modules w
either t w user =
    ⊎_elim (λ off. inl (record { user = user; within = off })) (λ on. inr (record { user = user; within = on })) (scope_of (modules_value t (solution t w)))

-- what holds in both scopes holds for all user values
pub in_both : (off on : ScopedValue) → AreBoth off on → (Q : TreeValue → UserValues → Type 0)
    → ((w : UserValues) → IsScoped off.tree off.modules w → Q off.tree w) → ((w : UserValues) → IsScoped on.tree on.modules w → Q on.tree w)
    → (w : UserValues) → IsUserFor off.tree w → Q off.tree w
in_both off on are Q first second w user =
    ⊎_elim
    (λ o. first w (subst (λ m. IsScoped off.tree m w) (sym are.without) o))
    (λ o.
    let there = subst (λ t. IsScoped t with_modules w) (sym are.same) o in
    subst (λ t. Q t w) are.same (second w (subst (λ m. IsScoped on.tree m w) (sym are.with_them) there)))
    (either off.tree w user)
