-- From an order or a loop of numbers to what the tree says of its nodes.
use Rattle.std.proofs.Common.{subst, None, ◌^◌, ◌∷◌, ◌≡◌, ℕ, ◌<◌, ◌≤◌, List, [], length, map, filter, refl, sym, ap}
use Rattle.std.specs.List.{All}
use Rattle.std.proofs.lemmas.List.Elements.{All-map}
use Rattle.kc_tree.specs.declared.fault.NamedNode.{NamedNode}
use Rattle.kc_tree.specs.Accepted.{IsAccepted}
use Rattle.kc_tree.specs.declared.node.Node.{Node}
use Rattle.kc_outline.specs.TreeValue.{modules_symbol, TreeValue}
use Rattle.kc_tree.specs.Nodes.{node_at, node_count, number_of}
use Rattle.kc_tree.specs.Cells.{cell_count}
use Rattle.kc_tree.specs.CellRows.{AreRowsTo}
use Rattle.kc_tree.specs.WholeRows.{is_node, whole_rows}
use Rattle.kc_outline.specs.Nested.{AreNested}
use Rattle.kc_tree.specs.Order.{IsOrder, IsLoop}
use Rattle.kc_tree.specs.declared.tree.Tree.TheInside.{Inside}
use Rattle.kc_tree.specs.Inside.{IsWellMade}
use Rattle.kc_outline.specs.Entries.{AreMenusClosed, IsEntryOf, first_symbols, symbol_ids}
use Rattle.kc_outline.specs.Members.{AreMembersListed}
use Rattle.kc_outline.specs.NameList.{AreNames}
use Rattle.kc_text.specs.LineValue.{LineValue}
use Rattle.kc_tree.specs.declared.fault.TreeFault.{TreeFault}
use Rattle.kc_tree.specs.declared.fault.TreeFault.TheVariants.{Line, Symbol, Choice, Loop, NoMemory}
use Rattle.kc_tree.specs.OutlineFaults.{outline_fault}
use Rattle.kc_tree.specs.Faults.{IsNamed, IsNamedLoop, IsLoopless, IsTreeProblem}
use Rattle.kc_tree.specs.Linked.{named_node, IsLinkFault}
use Rattle.kc_graph.specs.Graph as graph
use Rattle.kc_tree.specs.NodeGraph.{IsGraphOf}
use Rattle.kc_tree.proofs.GroupLaws.{grouped}
use Rattle.kc_tree.proofs.WithinLaws.{used_within}
use Rattle.kc_tree.proofs.NodeGraphLaws.{loop_of_nodes, loop_of_numbers, order_of_nodes}
use Rattle.kc_tree.proofs.CellTables.{chains, few_nodes, graph_of_rows}
use Rattle.kc_tree.proofs.WholeLoops.{IsLoop-whole_rows}
use Rattle.kc_tree.proofs.WholeOrder.{HasNoLoop-whole_rows, IsOrder-whole_rows}

nodes_named : (t : TreeValue) (numbers : List ℕ) → map (λ x. x.node) (map (named_node t) numbers) ≡ map (node_at t) numbers
nodes_named t [] = refl
nodes_named t (k ∷ ks) = ap (λ ns. node_at t k ∷ ns) (nodes_named t ks)

-- a loop of numbers, as nodes with names
pub named_loop : (t : TreeValue) (g : List (List ℕ)) (numbers : List ℕ) (nodes : List NamedNode) → graph.IsLoop g numbers → nodes ≡ map (named_node t) numbers → IsGraphOf t g → IsNamedLoop t nodes
named_loop t g numbers nodes l e h =
    let P : List NamedNode → Type 0 = λ xs. IsNamedLoop t xs in
    let Q : List Node → Type 0 = λ ns. IsLoop t ns in
    let with_names : IsNamedLoop t (map (named_node t) numbers) = record {
      loop = subst Q (sym (nodes_named t numbers)) (loop_of_nodes t g h numbers l);
      named = All-map (IsNamed t) (named_node t) numbers (λ k d i. refl);
    } in
    subst P (sym e) with_names

pub loopless_nodes : (t : TreeValue) (g : List (List ℕ)) → graph.HasNoLoop g → IsGraphOf t g → IsLoopless t
loopless_nodes t g none h nodes l = none (map (number_of t) nodes) (loop_of_numbers t g h nodes l)

-- what stops the linking is what stops the making of the tree
pub link_problem : (lines : List LineValue) (t : TreeValue) → outline_fault t ≡ None → (fault : TreeFault) → IsLinkFault t fault → IsTreeProblem lines t fault
link_problem lines t none (Line problem path number) h = h
link_problem lines t none (Symbol problem name) h = absurd h
link_problem lines t none (Choice problem path number) h = absurd h
link_problem lines t none (Loop nodes) h = (none, h)
link_problem lines t none NoMemory h = h

-- what the lines define, without faults
pub record IsSoundOutline (t : TreeValue) : Type 0 where
  pub few : length t.symbols ≤ 65535
  pub few_choices : length t.choices ≤ 2 ^ 30
  pub named : length t.names ≡ length t.symbols
  pub names : AreNames t.names
  pub entries : All (IsEntryOf t) t.entries
  pub firsts : first_symbols t.entries ≡ symbol_ids t
  pub menus : AreMenusClosed t
  pub members : AreMembersListed t
  pub faultless : outline_fault t ≡ None
  pub nested : AreNested t

pub accepted : (t : TreeValue) (order : List Node) → IsSoundOutline t → IsOrder t order → IsAccepted t
accepted t order sound in_order = record {
  few = sound.few;
  few_choices = sound.few_choices;
  named = sound.named;
  names = sound.names;
  grouped = grouped t sound.faultless sound.members;
  within = used_within t;
  ordered = (order, in_order);
  entries = sound.entries;
  firsts = sound.firsts;
  menus = sound.menus;
  nested = sound.nested;
}

-- ---- from the rows of cells
module _ (t : TreeValue) (g : List (List ℕ)) (rows : AreRowsTo t (cell_count t) g) (nested : AreNested t) where
  abbrev whole : List (List ℕ)
  whole = whole_rows (node_count t) g

  -- the nodes of an order of cells are in order
  pub nodes_ordered : (order : List ℕ) → graph.IsOrder g order → IsOrder t (map (node_at t) (filter (is_node (node_count t)) order))
  nodes_ordered order is_order =
      order_of_nodes t whole (used_within t) (graph_of_rows t g rows nested) (filter (is_node (node_count t)) order)
      (IsOrder-whole_rows (node_count t) g order is_order (chains t g rows nested) (few_nodes t g rows))

  -- those of a loop of cells form a loop
  pub nodes_looped : (numbers : List ℕ) (nodes : List NamedNode) → graph.IsLoop g numbers → nodes ≡ map (named_node t) (filter (is_node (node_count t)) numbers) → IsNamedLoop t nodes
  nodes_looped numbers nodes loop is =
      named_loop t whole (filter (is_node (node_count t)) numbers) nodes (IsLoop-whole_rows (node_count t) g numbers loop (chains t g rows nested)) is (graph_of_rows t g rows nested)

  pub nodes_loopless : (order : List ℕ) → graph.IsOrder g order → IsLoopless t
  nodes_loopless order is_order =
      loopless_nodes t whole (HasNoLoop-whole_rows (node_count t) g order is_order (chains t g rows nested) (few_nodes t g rows)) (graph_of_rows t g rows nested)

-- the fields of a tree
pub well_made : (a : Inside) → IsSoundOutline a.outline → a.modules ≡ modules_symbol a.outline → cell_count a.outline < 2 ^ 32
    → AreRowsTo a.outline (cell_count a.outline) a.uses → graph.IsOrder a.uses a.order.items → graph.IsConverse a.uses a.used_by → IsWellMade a
well_made a sound modules few rows order converse = record {
  accepted = accepted a.outline _ sound (nodes_ordered a.outline a.uses rows sound.nested a.order.items order);
  modules = modules;
  few = few;
  uses = rows;
  order = order;
  used_by = converse;
}
