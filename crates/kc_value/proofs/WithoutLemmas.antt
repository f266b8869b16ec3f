-- The value without a user value or a chosen member is the rule without it.
use Rattle.std.proofs.Common.{◌≡◌, true, false, Some, None, if◌then◌else◌, sym, ap, ◌∙◌}
use Rattle.std.specs.List.{slice_get}
use Rattle.std.specs.Option.{option_map_or}
use Rattle.kc_statement.specs.declared.id.SymId.{SymId}
use Rattle.kc_outline.specs.declared.id.ChoiceId.{ChoiceId}
use Rattle.kc_tree.specs.declared.node.Node.{Node}
use Rattle.kc_tree.specs.declared.node.Node.TheVariants.{Vis, Val, Sel}
use Rattle.kc_statement.specs.declared.tri.Tri.TheVariants.{No}
use Rattle.kc_outline.specs.TreeValue.{TreeValue, SymbolValue, ChoiceValue}
use Rattle.kc_tree.specs.Uses.{Uses}
use Rattle.kc_value.specs.declared.value.Value.{Value}
use Rattle.kc_value.specs.declared.value.Value.TheVariants.{Tri as Level, Member}
use Rattle.kc_value.specs.Assignment.{Assignment, as_tri}
use Rattle.kc_value.specs.ChoiceRule.{selection}
use Rattle.kc_value.specs.Rule.{rule, symbol_rule}
use Rattle.kc_value.specs.Solution.{solution}
use Rattle.kc_value.specs.UserValues.{UserValues, user_value, chosen_in, with_value, with_chosen}
use Rattle.kc_value.specs.Without.{user_without, selects_none, value_without}
use Rattle.kc_value.proofs.Agreement.{rule_agrees}
use Rattle.kc_value.proofs.SlotLemmas.{none_set}

-- a symbol of the tree
pub without_found : (t : TreeValue) (u : UserValues) (a : Assignment) (s : SymId) (x : SymbolValue)
    → slice_get t.symbols s.0 ≡ Some x → symbol_rule t a s x (as_tri (a (Vis s))) None ≡ rule t (with_value u s None) a (Val s)
unfolding rule
without_found t u a s x found =
    sym (ap (λ o. option_map_or (λ y. symbol_rule t a s y (as_tri (a (Vis s))) (user_value (with_value u s None) s)) o (Level No)) found
    ∙ ap (λ w. symbol_rule t a s x (as_tri (a (Vis s))) w) (none_set u.values s.0))

-- a number that the tree doesn't have
pub without_none : (t : TreeValue) (u : UserValues) (a : Assignment) (s : SymId) → slice_get t.symbols s.0 ≡ None → Level No ≡ rule t (with_value u s None) a (Val s)
unfolding rule
without_none t u a s past =
    sym (ap (λ o. option_map_or (λ y. symbol_rule t a s y (as_tri (a (Vis s))) (user_value (with_value u s None) s)) o (Level No)) past)

-- a choice of the tree
pub alone_found : (t : TreeValue) (u : UserValues) (a : Assignment) (c : ChoiceId) (x : ChoiceValue)
    → slice_get t.choices c.0 ≡ Some x → Member (selection t a c x None) ≡ rule t (with_chosen u c None) a (Sel c)
unfolding rule
alone_found t u a c x found =
    sym (ap (λ o. option_map_or (λ y. Member (selection t a c y (chosen_in (with_chosen u c None) c))) o (Level No)) found
    ∙ ap (λ m. Member (selection t a c x m)) (none_set u.chosen c.0))

-- a number that the tree doesn't have
pub alone_none : (t : TreeValue) (u : UserValues) (a : Assignment) (c : ChoiceId) → slice_get t.choices c.0 ≡ None → Level No ≡ rule t (with_chosen u c None) a (Sel c)
unfolding rule
alone_none t u a c past =
    sym (ap (λ o. option_map_or (λ y. Member (selection t a c y (chosen_in (with_chosen u c None) c))) o (Level No)) past)

-- a selection of an optional choice
pub without_member : (t : TreeValue) (u : UserValues) (n : Node) → selects_none t n ≡ true → Member None ≡ value_without t u n
unfolding value_without
without_member t u n none = sym (ap (λ b. if b then Member None else rule t (user_without u n) (solution t u) n) none)

-- over values that are right of the nodes that it uses it is the rule over the solution
pub without_solution : (t : TreeValue) (u : UserValues) (a : Assignment) (n : Node) (v : Value) → selects_none t n ≡ false
    → ((m : Node) → Uses t n m → a m ≡ solution t u m) → v ≡ rule t (user_without u n) a n → v ≡ value_without t u n
unfolding value_without
without_solution t u a n v some right is =
    is
    ∙ rule_agrees t (user_without u n) a (solution t u) n right
    ∙ sym (ap (λ b. if b then Member None else rule t (user_without u n) (solution t u) n) some)
