-- What the parts of an expression read, and what comes after `!`.
use Rattle.std.proofs.Common.{◌≡◌, ◌∙◌, ℕ, zero, suc, List, refl, ap, sym}
use Rattle.std.specs.List.{flat_map}
use Rattle.kc_statement.specs.Formula.{Formula, all_joined, any_joined, negations}
use Rattle.kc_outline.specs.TreeValue.{TreeValue}
use Rattle.kc_tree.specs.Uses.{formula_nodes}
use Rattle.kc_tree.proofs.RowLaws.{joined_both, joined_either}

-- ---- runs of `!`
nodes_negations : (t : TreeValue) (n : ℕ) (f : Formula) → formula_nodes t (negations n f) ≡ formula_nodes t f
nodes_negations t zero f = refl
nodes_negations t (suc n) f = nodes_negations t n f

pub value_negated : (t : TreeValue) (n : ℕ) (f g : Formula) → negations n f ≡ g → formula_nodes t f ≡ formula_nodes t g
value_negated t n f g is = sym (nodes_negations t n f) ∙ ap (formula_nodes t) is

-- ---- parts
-- the nodes of the parts, however they are joined
pub all_parts : (t : TreeValue) (fs : List Formula) (f : Formula) → all_joined fs ≡ f → flat_map (formula_nodes t) fs ≡ formula_nodes t f
all_parts t fs f is = sym (joined_both t fs) ∙ ap (formula_nodes t) is

pub any_parts : (t : TreeValue) (fs : List Formula) (f : Formula) → any_joined fs ≡ f → flat_map (formula_nodes t) fs ≡ formula_nodes t f
any_parts t fs f is = sym (joined_either t fs) ∙ ap (formula_nodes t) is
