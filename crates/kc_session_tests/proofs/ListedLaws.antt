-- A list that has the value of each node in the place of its number.
use Rattle.std.proofs.Common.{◌≡◌, ℕ, ◌<◌, List, [], ◌∷◌, ◌++◌, length, get_or, sym, ap, ◌∙◌, ⊎_elim, arith}
use Rattle.std.proofs.lemmas.Bool.{cases_eq}
use Rattle.std.proofs.lemmas.List.{get_or_append_left, get_or_push, length-append}
use Rattle.kc_outline.specs.TreeValue.{TreeValue}
use Rattle.kc_tree.specs.declared.node.Node.{Node}
use Rattle.kc_tree.specs.Accepted.{IsAccepted}
use Rattle.kc_tree.specs.Nodes.{AreNumbered, IsNodeOf, node_at, node_count, number_of}
use Rattle.kc_tree.specs.Uses.{Uses}
use Rattle.kc_value.specs.declared.value.Value.{Value}
use Rattle.kc_value.specs.Assignment.{Assignment}
use Rattle.kc_value.specs.Rule.{rule}
use Rattle.kc_value.specs.Solution.{solution, IsOnlySolution}
use Rattle.kc_value.specs.UserValues.{UserValues}
use Rattle.kc_session_tests.specs.Listed.{AreValuesByPlace, IsListed}

-- where all nodes have the solution's values, the rule of a node gives its own
pub rule_solved : (t : TreeValue) (u : UserValues) (a : Assignment) (n : Node) → IsAccepted t → IsOnlySolution t u (solution t u)
    → ((m : Node) → IsNodeOf t m → a m ≡ solution t u m)
    → ((x y : Assignment) → ((m : Node) → Uses t n m → x m ≡ y m) → rule t u x n ≡ rule t u y n)
    → IsNodeOf t n → rule t u a n ≡ solution t u n
rule_solved t u a n accepted one solved agrees inside =
    agrees a (solution t u) (λ m uses. solved m (accepted.within n m inside uses)) ∙ sym (one.solves n inside)

-- one more value
pub one_more : (t : TreeValue) (u : UserValues) (values : List Value) (k : ℕ) (v : Value) → length values ≡ k → v ≡ solution t u (node_at t k)
    → AreValuesByPlace t u values → AreValuesByPlace t u (values ++ v ∷ [])
one_more t u values k v long is right j d below =
    ⊎_elim
    (λ (same : j ≡ k). get_or_push values v d j (long ∙ sym same) ∙ is ∙ ap (λ i. solution t u (node_at t i)) (sym same))
    (λ other.
    let before : j < length values = omega (arith, below, length-append values (v ∷ []), long, other) in
    get_or_append_left values (v ∷ []) d j before ∙ right j d before)
    (cases_eq j k)

-- the value of a node is in the place of its number
pub placed : (t : TreeValue) (u : UserValues) (values : List Value) (n : Node) (d : Value) → AreNumbered t → IsListed t u values → IsNodeOf t n
    → get_or values (number_of t n) d ≡ solution t u n
placed t u values n d numbered are inside =
    let k = number_of t n in
    let below : k < node_count t = numbered.below n inside in
    let same : node_at t k ≡ n = numbered.alone (node_at t k) n (numbered.inside k below) inside (numbered.at k below) in
    are.right k d (omega (arith, below, are.all)) ∙ ap (solution t u) same
