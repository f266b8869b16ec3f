-- What a session keeps: this project's own.
use Rattle.std.specs.Prelude.{◌≡◌, ℕ, ◌*◌, Bool, true, false, List, [], ◌∷◌, length, Contains, map}
use Rattle.std.specs.List.{range_with_len}
use Rattle.std.specs.Option.{option_map_or}
use Rattle.kc_outline.specs.TreeValue.{TreeValue, symbol_named}
use Rattle.kc_tree.specs.declared.node.Node.{Node}
use Rattle.kc_tree.specs.declared.node.Node.TheVariants.{Vis, Val}
use Rattle.kc_tree.specs.Nodes.{all_nodes, node_at, IsNodeOf}
use Rattle.kc_tree.specs.Uses.{Uses}
use Rattle.kc_value.specs.Dirty.{Edits}
use Rattle.kc_value.specs.FillLaws.{FillLaws}
use Rattle.kc_value.specs.Kept.{AreKept, Fills, IsKept}
use Rattle.kc_session.specs.declared.command.Command.{Command}
use Rattle.kc_session.specs.declared.command.Command.TheVariants.{Set, Unset, Reset, Load, Merge, AllNo, AllYes, Show, List as ListAll, Choices, Config, Header, Defconfig, New}
use Rattle.kc_session.specs.declared.command.Reply.{Reply}
use Rattle.kc_session.specs.declared.command.Reply.TheVariants.{Done, Refused}
use Rattle.kc_session.specs.Session.{SessionState}

-- ---- what is kept is right: each value is the solution's, and what a kept node is computed from is kept
abbrev pub KeepsRight : SessionState → Type 0
KeepsRight s = AreKept s.session.tree s.session.user s.kept.values

-- each node that a kept node is computed from is kept
abbrev pub KeepsUsed : SessionState → Type 0
KeepsUsed s = (n m : Node) → IsNodeOf s.session.tree n → IsKept s.session.tree s.kept.values n → Uses s.session.tree n m
    → IsKept s.session.tree s.kept.values m

-- the value of each node is kept
abbrev pub KeepsAll : SessionState → Type 0
KeepsAll s = (n : Node) → IsNodeOf s.session.tree n → IsKept s.session.tree s.kept.values n

-- the values of some nodes are
abbrev pub AreAllKept : List Node → SessionState → Type 0
AreAllKept nodes s = (n : Node) → Contains nodes n → IsKept s.session.tree s.kept.values n

-- ---- which nodes a query asks
abbrev pub symbol_nodes : TreeValue → List Node
symbol_nodes t = map (node_at t) (range_with_len 0 (2 * length t.symbols))

abbrev pub choice_nodes : TreeValue → List Node
choice_nodes t = map (node_at t) (range_with_len (2 * length t.symbols) (2 * length t.choices))

abbrev pub shown_nodes : TreeValue → List ℕ → List Node
shown_nodes t name = option_map_or (λ s. Vis s ∷ Val s ∷ []) (symbol_named t name) []

-- ---- what becomes of what is kept
abbrev pub is_done : Reply → Bool
is_done (Done text) = true
is_done (Refused r) = false

-- a query adds only nodes that are reached from those it asks, counts each, and has all that it asks when it is done
pub record Asks (nodes : List Node) (old : SessionState) (reply : Reply) (new : SessionState) : Type 0 where
  pub fills : Fills old.session.tree nodes old.kept new.kept
  pub all : is_done reply ≡ true → (n : Node) → Contains nodes n → IsKept old.session.tree new.kept.values n

-- an edit drops exactly what it can change: nothing where it is refused
abbrev pub EditsKept : SessionState → SessionState → Type 0
EditsKept old new = Edits old.session.tree old.session.user new.session.user old.kept new.kept

unfoldable pub Keeps : SessionState → Command → Reply → SessionState → Type 0
Keeps old (Set name value) reply new = EditsKept old new
Keeps old (Unset name) reply new = EditsKept old new
Keeps old Reset reply new = EditsKept old new
Keeps old (Load body) reply new = EditsKept old new
Keeps old (Merge body) reply new = EditsKept old new
Keeps old AllNo reply new = EditsKept old new
Keeps old AllYes reply new = EditsKept old new
Keeps old (Show name) reply new = Asks (shown_nodes old.session.tree name) old reply new
Keeps old ListAll reply new = Asks (symbol_nodes old.session.tree) old reply new
Keeps old Choices reply new = Asks (choice_nodes old.session.tree) old reply new
Keeps old Config reply new = Asks (all_nodes old.session.tree) old reply new
Keeps old Header reply new = Asks (all_nodes old.session.tree) old reply new
Keeps old Defconfig reply new = Asks (all_nodes old.session.tree) old reply new
Keeps old New reply new = Asks (all_nodes old.session.tree) old reply new

-- asked for some nodes, a session keeps more: those that it evaluated
pub record Grew (nodes : List Node) (old new : SessionState) : Type 0 where
  pub session : new.session ≡ old.session
  pub fills : Fills old.session.tree nodes old.kept new.kept

-- The same of a session as a resolver: what was kept stays; and by the laws of what is kept, which hold of each tree
-- (KeptLaws), only nodes that are reached from those asked were added, and each was counted once.
pub record GrewByLaws (nodes : List Node) (old new : SessionState) : Type 0 where
  pub session : new.session ≡ old.session
  pub stays : (n : Node) → IsNodeOf old.session.tree n → IsKept old.session.tree old.kept.values n → IsKept old.session.tree new.kept.values n
  pub fills : FillLaws old.session.tree → Fills old.session.tree nodes old.kept new.kept
