-- How many evaluations commands need: this project's own command stream.
use Rattle.std.specs.Prelude.{ℕ, ◌+◌, ◌-◌, ◌≤◌, Bool, List, [], ◌∷◌, length, sum_by, Contains}
use Rattle.kc_outline.specs.TreeValue.{TreeValue}
use Rattle.kc_tree.specs.declared.node.Node.{Node}
use Rattle.kc_tree.specs.Nodes.{IsNodeOf, node_count}
use Rattle.kc_value.specs.Dirty.{IsDirty}
use Rattle.kc_value.specs.Kept.{kept_count}
use Rattle.kc_value.specs.UserValues.{UserValues}
use Rattle.kc_session.specs.Replies.{session_after}
use Rattle.kc_session.specs.Session.{SessionState, SessionValue}
use Rattle.kc_session.specs.StreamCommands.{StreamCommand}

-- how many nodes are not kept
abbrev pub missing_count : SessionState → ℕ
missing_count s = node_count s.session.tree - kept_count s.session.tree s.kept.values

-- A list that has all nodes whose values can change where user values become others. The least such list has as many
-- nodes as can change; where the user values stay the empty list will do.
abbrev pub HasDirty : TreeValue → UserValues → UserValues → List Node → Type 0
HasDirty t u w dirty = (n : Node) → IsNodeOf t n → IsDirty t u w n → Contains dirty n

-- Over one command the evaluations and the nodes that are not kept, taken together, become more by the dirty nodes at
-- the most. So a node is evaluated only where it was not kept, or where an edit changed it.
abbrev pub IsBounded : SessionState → SessionState → Type 0
IsBounded old new =
    (dirty : List Node) → HasDirty old.session.tree old.session.user new.session.user dirty
    → new.kept.evals + missing_count new ≤ old.kept.evals + missing_count old + length dirty

-- such a list for each of some commands, done in turn
unfoldable pub HaveDirty : SessionValue → List StreamCommand → List Bool → List (List Node) → Type 0
HaveDirty s [] [] [] = Unit {0}
HaveDirty s [] [] (dirty ∷ later) = ⊥
HaveDirty s [] (f ∷ fs) ds = ⊥
HaveDirty s (c ∷ cs) [] ds = ⊥
HaveDirty s (c ∷ cs) (f ∷ fs) [] = ⊥
HaveDirty s (c ∷ cs) (f ∷ fs) (dirty ∷ later) =
    HasDirty s.tree s.user (session_after s c f).user dirty × HaveDirty (session_after s c f) cs fs later

-- Over all of them it is the sum of the dirty nodes of each: the evaluations rise by that and by the nodes that were not
-- kept at the start, at the most.
abbrev pub AreBounded : List StreamCommand → List Bool → SessionState → SessionState → Type 0
AreBounded commands starved old new =
    (all : List (List Node)) → HaveDirty old.session commands starved all
    → new.kept.evals + missing_count new ≤ old.kept.evals + missing_count old + sum_by length all
