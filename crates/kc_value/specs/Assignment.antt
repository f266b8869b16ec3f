-- What gives every node a value: this project's own.
use Rattle.std.specs.Prelude.{ℕ, Bool, false, List, [], Option, None, slice_index_or, unwrap_or}
use Rattle.kc_statement.specs.declared.id.SymId.{SymId}
use Rattle.kc_statement.specs.declared.tri.Tri.{Tri}
use Rattle.kc_statement.specs.declared.tri.Tri.TheVariants.{No}
use Rattle.kc_statement.specs.Tristate.{letter}
use Rattle.kc_tree.specs.declared.user_value.UserVal.TheVariants.{Tri as TriVal, Text}
use Rattle.kc_tree.specs.declared.node.Node.{Node}
use Rattle.kc_outline.specs.TreeValue.{TreeValue}
use Rattle.kc_tree.specs.Nodes.{number_of}
use Rattle.kc_value.specs.declared.value.Value.{Value}
use Rattle.kc_value.specs.declared.value.Value.TheVariants.{Tri as Level, Shown, Member}

abbrev pub Assignment : Type 0
Assignment = Node → Value

-- n for what is no tristate value
abbrev pub as_tri : Value → Tri
as_tri (Level v) = v
as_tri (Shown (TriVal v) w) = v
as_tri (Shown (Text x) w) = No
as_tri (Member m) = No

abbrev pub tri_letter : Tri → List ℕ
tri_letter v = letter v

-- the text of a value: the letter of a tristate value, nothing for the member that is selected
abbrev pub as_text : Value → List ℕ
as_text (Level v) = tri_letter v
as_text (Shown (TriVal v) w) = tri_letter v
as_text (Shown (Text x) w) = x
as_text (Member m) = []

-- the member that is selected, none for other values
abbrev pub as_member : Value → Option SymId
as_member (Level v) = None
as_member (Shown u w) = None
as_member (Member m) = m

abbrev pub is_written : Value → Bool
is_written (Level v) = false
is_written (Shown u w) = w
is_written (Member m) = false

-- what a list by number has for a node of the tree
abbrev pub value_at : TreeValue → List (Option Value) → Node → Option Value
value_at t env n = slice_index_or env (number_of t n) None

-- the assignment that a list by number stands for, n where it has nothing
abbrev pub assignment_of : TreeValue → List (Option Value) → Assignment
assignment_of t env n = unwrap_or (value_at t env n) (Level No)
