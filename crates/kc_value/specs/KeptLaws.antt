-- What holds of what is kept of a tree, whatever is kept: laws that the layers above may use. This project's own.
use Rattle.std.specs.Prelude.{◌≡◌, ◌+◌, ◌≤◌, List, Option, length, Contains}
use Rattle.kc_statement.specs.declared.id.SymId.{SymId}
use Rattle.kc_outline.specs.declared.id.ChoiceId.{ChoiceId}
use Rattle.kc_outline.specs.TreeValue.{TreeValue}
use Rattle.kc_tree.specs.declared.node.Node.{Node}
use Rattle.kc_tree.specs.declared.node.Node.TheVariants.{Vis, Val, Mode, Sel}
use Rattle.kc_tree.specs.Nodes.{AreNumbered, IsNodeOf, node_count}
use Rattle.kc_tree.specs.Uses.{Uses}
use Rattle.kc_value.specs.declared.value.Value.{Value}
use Rattle.kc_value.specs.Assignment.{assignment_of}
use Rattle.kc_value.specs.Dirty.{ChangesEachOnce, Edits, IsDirty}
use Rattle.kc_value.specs.FillLaws.{FillLaws}
use Rattle.kc_value.specs.Kept.{AreKept, IsClosed, IsKept, KeptValue, kept_count}
use Rattle.kc_value.specs.Known.{AreRight}
use Rattle.kc_value.specs.Solution.{solution}
use Rattle.kc_value.specs.UserValues.{UserValues}

pub record KeptLaws (t : TreeValue) : Type 0 where
  -- the numbers of the nodes, by which values are kept, are one to one
  pub numbered : AreNumbered t
  -- the value of a symbol is computed from its visibility, and the selection of a choice from its mode
  pub visibility_used : (s : SymId) → IsNodeOf t (Val s) → Uses t (Val s) (Vis s)
  pub mode_used : (c : ChoiceId) → IsNodeOf t (Sel c) → Uses t (Sel c) (Mode c)
  -- so that the one is kept with the other
  pub visibility_kept : (kept : List (Option Value)) (s : SymId) → IsClosed t kept → IsNodeOf t (Val s) → IsKept t kept (Val s) → IsKept t kept (Vis s)
  pub mode_kept : (kept : List (Option Value)) (c : ChoiceId) → IsClosed t kept → IsNodeOf t (Sel c) → IsKept t kept (Sel c) → IsKept t kept (Mode c)
  -- the value of a node that is kept is the solution's, and so is that of each node that it is computed from
  pub right : (u : UserValues) (kept : List (Option Value)) → AreKept t u kept → (n : Node) → IsNodeOf t n → IsKept t kept n
      → assignment_of t kept n ≡ solution t u n
  pub used_right : (u : UserValues) (kept : List (Option Value)) → AreKept t u kept → (n : Node) → IsNodeOf t n → IsKept t kept n
      → (m : Node) → Uses t n m → assignment_of t kept m ≡ solution t u m
  -- and each condition that is kept is what the nodes give it
  pub conditions_right : (u : UserValues) (kept : List (Option Value)) → AreKept t u kept → AreRight t kept
  -- what a node that is kept is computed from is kept
  pub used_kept : (kept : List (Option Value)) → IsClosed t kept → (n m : Node) → IsNodeOf t n → IsKept t kept n → Uses t n m → IsKept t kept m
  -- asking nodes adds what it adds, whatever was asked before
  pub fills : FillLaws t
  -- an edit that leaves the user values as they are leaves what is kept
  pub edits_nothing : (u : UserValues) (k : KeptValue) → Edits t u u k k
  -- and two edits that change each place at most once are one
  pub edits_once : (u v w : UserValues) → ChangesEachOnce u v w → (a b c : KeptValue) → Edits t u v a b → Edits t v w b c → Edits t u w a c
  -- no more values are kept than there are nodes
  pub count_within : (kept : List (Option Value)) → IsClosed t kept → kept_count t kept ≤ node_count t
  -- an edit drops no more values than there are nodes in a list that has each dirty one
  pub count_dropped : (u w : UserValues) (old new : KeptValue) (dirty : List Node) → IsClosed t old.values → IsClosed t new.values
      → ((n : Node) → IsNodeOf t n → IsDirty t u w n → Contains dirty n) → Edits t u w old new
      → kept_count t old.values ≤ kept_count t new.values + length dirty
