-- Bounds at first, and once a set was put in place of another.
use Rattle.std.proofs.Common.{◌≡◌, ℕ, ◌<◌, length, get_or, set, replicate, refl, sym, ap, ◌∙◌, subst, ⊎_elim, arith, get_or-set_other}
use Rattle.std.proofs.lemmas.Bool.Decides.{eqb_tells}
use Rattle.std.proofs.lemmas.Grind.{get_or-set_at}
use Rattle.std.proofs.lemmas.List.{get_or-replicate, length-replicate, length-set}
use Rattle.kc_statement.specs.declared.tri.Tri.{Tri}
use Rattle.kc_statement.specs.declared.tri.Tri.TheVariants.{No, Module, Yes}
use Rattle.kc_outline.specs.TreeValue.{TreeValue}
use Rattle.kc_tree.specs.Cells.{cell_at, cell_count, cell_number}
use Rattle.kc_tree.specs.CellLaws.{CellLaws}
use Rattle.kc_tree.specs.declared.cell.Cell.{Cell}
use Rattle.kc_value.specs.Assignment.{as_tri}
use Rattle.kc_value.specs.Kept.{cell_worth}
use Rattle.kc_value.specs.Solution.{IsOnlySolution, solution}
use Rattle.kc_value.specs.UserValues.{UserValues}
use Rattle.kc_bounds.specs.declared.tri_set.TriSet.{TriSet}
use Rattle.kc_bounds.specs.TriSets.{IsIn, any_tri}
use Rattle.kc_bounds.specs.Bounds.{AreScopedBounds, CoversIn, ScopedValue}

any_in : (v : Tri) → IsIn any_tri v
any_in No = record { there = refl }
any_in Module = record { there = refl }
any_in Yes = record { there = refl }

-- all values for each cell
pub at_first : (t : TreeValue) (m : TriSet) → CellLaws t → ((w : UserValues) → IsOnlySolution t w (solution t w))
    → AreScopedBounds (record { tree = t; modules = m; sets = replicate (cell_count t) any_tri })
at_first t m laws only = record {
  whole = length-replicate (cell_count t) any_tri;
  covers = λ c inside w u.
      subst (λ s. IsIn s (as_tri (cell_worth t (solution t w) c))) (sym (get_or-replicate (cell_count t) (cell_number t c) any_tri any_tri (laws.below c inside)))
      (any_in (as_tri (cell_worth t (solution t w) c)));
  solved = only;
}

-- a set in place of another
pub with_set : (b : ScopedValue) (number : ℕ) (s : TriSet) → AreScopedBounds b → CellLaws b.tree → number < cell_count b.tree
    → CoversIn b.tree b.modules s (λ a. as_tri (cell_worth b.tree a (cell_at b.tree number))) → AreScopedBounds (record { tree = b.tree; modules = b.modules; sets = set b.sets number s })
with_set b number s are laws inside covers = record {
  whole = length-set b.sets number s ∙ are.whole;
  covers = λ c within w u.
      let worth = λ (e : Cell). as_tri (cell_worth b.tree (solution b.tree w) e) in
      let room : number < length b.sets = omega (arith, inside, are.whole) in
      ⊎_elim
      (λ here.
      let is : cell_at b.tree number ≡ c = ap (cell_at b.tree) (sym here.1) ∙ laws.same c within in
      let new = get_or-set_at b.sets number (cell_number b.tree c) s any_tri here.1 room in
      subst (λ e. IsIn (get_or (set b.sets number s) (cell_number b.tree c) any_tri) (worth e)) is (subst (λ x. IsIn x (worth (cell_at b.tree number))) (sym new) (covers w u)))
      (λ there.
      subst (λ x. IsIn x (worth c)) (sym (get_or-set_other b.sets number (cell_number b.tree c) s any_tri there.1)) (are.covers c within w u))
      (eqb_tells (cell_number b.tree c) number);
  solved = are.solved;
}
