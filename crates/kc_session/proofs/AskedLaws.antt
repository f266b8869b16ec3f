-- What is kept once the nodes of symbols or of choices were asked, one after the other.
use Rattle.std.proofs.Common.{◌≡◌, ℕ, zero, suc, ◌+◌, ◌-◌, ◌*◌, ◌<◌, ◌≤◌, List, [], ◌∷◌, Option, Result, Ok, Err, OnOk, is_some, map, length, get_or, refl, sym, ap, ◌∙◌, subst, ⊎_elim, arith}
use Rattle.std.specs.List.{Contains, range_with_len}
use Rattle.std.proofs.lemmas.Bool.{false≢true}
use Rattle.std.proofs.lemmas.List.FromFn.{get_or-map-range_with_len, length-map-range_with_len}
use Rattle.kc_statement.specs.declared.id.SymId.{SymId}
use Rattle.kc_outline.specs.declared.id.ChoiceId.{ChoiceId}
use Rattle.kc_outline.specs.TreeValue.{TreeValue}
use Rattle.kc_tree.specs.declared.node.Node.{Node}
use Rattle.kc_tree.specs.declared.node.Node.TheVariants.{Vis, Val, Mode, Sel}
use Rattle.kc_tree.specs.Nodes.{AreNumbered, IsNodeOf, all_nodes, node_at, node_count, number_of}
use Rattle.kc_value.specs.declared.value.Value.{Value}
use Rattle.kc_value.specs.Assignment.{assignment_of}
use Rattle.kc_value.specs.Kept.{IsKept}
use Rattle.kc_value.specs.Known.{KnownValue}
use Rattle.kc_value.specs.Solution.{AreSolved, solution}
use Rattle.kc_value.specs.Solved.{SolvedValue}
use Rattle.kc_value.specs.FillLaws.{FillLaws}
use Rattle.kc_files.specs.DraftValue.{Agrees}
use Rattle.kc_session.specs.declared.command.Refusal.{Refusal}
use Rattle.kc_session.specs.declared.command.Reply.{Reply}
use Rattle.kc_session.specs.declared.command.Reply.TheVariants.{Refused}
use Rattle.kc_session.specs.Keeping.{choice_nodes, symbol_nodes, AreAllKept, Asks, Grew, GrewByLaws, KeepsAll, KeepsUsed}
use Rattle.kc_session.specs.Session.{IsSound, SessionState, SessionValue}

-- what a session lends as solved
abbrev pub solved_of : SessionState → SolvedValue
solved_of s = record { tree = s.session.tree; user = s.session.user; values = s.kept.values }

-- ---- what a kept node is computed from
pub used_kept : (s : SessionState) → IsSound s → KeepsUsed s
used_kept s sound n m inside kept uses = sound.laws.used_kept s.kept.values sound.kept.closed n m inside kept uses

-- ---- nodes by number
abbrev numbered : TreeValue → ℕ → ℕ → List Node
numbered t low count = map (node_at t) (range_with_len low count)

at_number : (t : TreeValue) → AreNumbered t → (n : Node) → IsNodeOf t n → node_at t (number_of t n) ≡ n
at_number t is n inside =
    let below : number_of t n < node_count t = is.below n inside in
    is.alone (node_at t (number_of t n)) n (is.inside (number_of t n) below) inside (is.at (number_of t n) below)

in_numbered : (t : TreeValue) → AreNumbered t → (low count : ℕ) (n : Node) → IsNodeOf t n → low ≤ number_of t n → number_of t n < low + count
    → Contains (numbered t low count) n
in_numbered t is low count n inside from below =
    let at : number_of t n - low < count = omega (arith, from, below) in
    (number_of t n - low, omega (arith, at, length-map-range_with_len (node_at t) low count), get_or-map-range_with_len (node_at t) low count (number_of t n - low) (number_of t n) n at (omega (arith, from)) ∙ at_number t is n inside)

from_numbered : (t : TreeValue) → AreNumbered t → (low count : ℕ) (n : Node) → low + count ≤ node_count t → Contains (numbered t low count) n → IsNodeOf t n
from_numbered t is low count n few h =
    let within : h.0 < count = omega (arith, h.1, length-map-range_with_len (node_at t) low count) in
    let same : node_at t (low + h.0) ≡ n = sym (get_or-map-range_with_len (node_at t) low count h.0 (low + h.0) n within refl) ∙ h.2 in
    subst (IsNodeOf t) same (is.inside (low + h.0) (omega (arith, within, few)))

-- ---- symbols
symbol_in : (t : TreeValue) → AreNumbered t → (s : SymId) → s.0 < length t.symbols → Contains (symbol_nodes t) (Val s)
symbol_in t is s inside = in_numbered t is 0 (2 * length t.symbols) (Val s) inside (omega arith) (omega (arith, inside))

visibility_in : (t : TreeValue) → AreNumbered t → (s : SymId) → s.0 < length t.symbols → Contains (symbol_nodes t) (Vis s)
visibility_in t is s inside = in_numbered t is 0 (2 * length t.symbols) (Vis s) inside (omega arith) (omega (arith, inside))

-- ---- choices
choice_in : (t : TreeValue) → AreNumbered t → (c : ChoiceId) → c.0 < length t.choices → Contains (choice_nodes t) (Sel c)
choice_in t is c inside = in_numbered t is (2 * length t.symbols) (2 * length t.choices) (Sel c) inside (omega arith) (omega (arith, inside))

mode_in : (t : TreeValue) → AreNumbered t → (c : ChoiceId) → c.0 < length t.choices → Contains (choice_nodes t) (Mode c)
mode_in t is c inside = in_numbered t is (2 * length t.symbols) (2 * length t.choices) (Mode c) inside (omega arith) (omega (arith, inside))

-- ---- all nodes
pub all_here : (t : TreeValue) → AreNumbered t → (n : Node) → IsNodeOf t n → Contains (all_nodes t) n
all_here t is n inside = in_numbered t is 0 (node_count t) n inside (omega arith) (omega (arith, is.below n inside))

pub all_kept : (t : TreeValue) (kept : List (Option Value)) → AreNumbered t → ((n : Node) → IsNodeOf t n → IsKept t kept n) → (n : Node) → Contains (all_nodes t) n → IsKept t kept n
all_kept t kept is all n c = all n (from_numbered t is 0 (node_count t) n (omega arith) c)

-- the nodes of some numbers, by another equal tree
pub numbers_kept : (s : TreeValue) (kept : List (Option Value)) (first count : ℕ) (nodes : List Node) → nodes ≡ numbered s first count
    → ((n : Node) → Contains (numbered s first count) n → IsKept s kept n) → (n : Node) → Contains nodes n → IsKept s kept n
numbers_kept s kept first count nodes same all n c = all n (subst (λ xs. Contains xs n) same c)

-- ---- where a call is done
pub on_ok : {A E P Q : Type 0} (r : Result A E) → (P → Q) → OnOk r P → OnOk r Q
on_ok (Ok a) f p = f p
on_ok (Err e) f p = tt

-- ---- what a query asked
-- its text is there, or memory was refused for it
pub asks_these : (nodes : List Node) (old new : SessionState) (reply : Reply) → Grew nodes old new → AreAllKept nodes new → Asks nodes old reply new
asks_these nodes old new reply grew all = record {
  fills = grew.fills;
  all = λ done n c. subst (λ (s : SessionValue). IsKept s.tree new.kept.values n) grew.session (all n c);
}

pub asks_all : (old new : SessionState) (reply : Reply) → IsSound new → Grew (all_nodes old.session.tree) old new → KeepsAll new → Asks (all_nodes old.session.tree) old reply new
asks_all old new reply sound grew all =
    asks_these (all_nodes old.session.tree) old new reply grew
    (λ n c. all_kept new.session.tree new.kept.values sound.laws.numbered all n (subst (λ (s : SessionValue). Contains (all_nodes s.tree) n) (sym grew.session) c))

-- memory was refused before there was a text
pub asks_refused : (nodes : List Node) (old new : SessionState) (r : Refusal) → Grew nodes old new → Asks nodes old (Refused r) new
asks_refused nodes old new r grew = record { fills = grew.fills; all = λ done. absurd (false≢true done) }

-- ---- what a text is made from is kept
module _ (nodes : List Node) (new : SessionState) (s : SolvedValue) (is : s ≡ solved_of new) (all : AreAllKept nodes new) where
  there : (n : Node) → Contains nodes n → IsKept s.tree s.values n
  there n c = subst (λ (x : SolvedValue). IsKept x.tree x.values n) (sym is) (all n c)

module _ (old new : SessionState) (s : SolvedValue) (sound : IsSound new) (is : s ≡ solved_of new) where
  tree_is : s.tree ≡ new.session.tree
  tree_is = ap (λ (x : SolvedValue). x.tree) is

  pub values_there : Grew (symbol_nodes old.session.tree) old new → AreAllKept (symbol_nodes old.session.tree) new → (x : SymId) → IsNodeOf s.tree (Val x) → IsKept s.tree s.values (Val x)
  values_there f all x inside =
      there (symbol_nodes old.session.tree) new s is all (Val x)
      (subst (λ (y : SessionValue). Contains (symbol_nodes y.tree) (Val x)) f.session (symbol_in new.session.tree sound.laws.numbered x (subst (λ (t : TreeValue). x.0 < length t.symbols) tree_is inside)))

  pub visibilities_there : Grew (symbol_nodes old.session.tree) old new → AreAllKept (symbol_nodes old.session.tree) new → (x : SymId) → IsNodeOf s.tree (Vis x) → IsKept s.tree s.values (Vis x)
  visibilities_there f all x inside =
      there (symbol_nodes old.session.tree) new s is all (Vis x)
      (subst (λ (y : SessionValue). Contains (symbol_nodes y.tree) (Vis x)) f.session (visibility_in new.session.tree sound.laws.numbered x (subst (λ (t : TreeValue). x.0 < length t.symbols) tree_is inside)))

  pub selections_there : Grew (choice_nodes old.session.tree) old new → AreAllKept (choice_nodes old.session.tree) new → (x : ChoiceId) → IsNodeOf s.tree (Sel x) → IsKept s.tree s.values (Sel x)
  selections_there f all x inside =
      there (choice_nodes old.session.tree) new s is all (Sel x)
      (subst (λ (y : SessionValue). Contains (choice_nodes y.tree) (Sel x)) f.session (choice_in new.session.tree sound.laws.numbered x (subst (λ (t : TreeValue). x.0 < length t.choices) tree_is inside)))

  pub modes_there : Grew (choice_nodes old.session.tree) old new → AreAllKept (choice_nodes old.session.tree) new → (x : ChoiceId) → IsNodeOf s.tree (Mode x) → IsKept s.tree s.values (Mode x)
  modes_there f all x inside =
      there (choice_nodes old.session.tree) new s is all (Mode x)
      (subst (λ (y : SessionValue). Contains (choice_nodes y.tree) (Mode x)) f.session (mode_in new.session.tree sound.laws.numbered x (subst (λ (t : TreeValue). x.0 < length t.choices) tree_is inside)))

-- ---- what a resolver says of what it was asked
pub grew_by_laws : (nodes : List Node) (old new : SessionState) → Grew nodes old new → GrewByLaws nodes old new
grew_by_laws nodes old new f = record {
  session = f.session;
  stays = λ n inside kept. ⊎_elim (λ same. ap is_some same ∙ kept) (λ h. h.1) (f.fills.adds.each n inside);
  fills = λ laws. f.fills;
}

-- ---- a symbol that is shown
only_one : (p : List Node) (m : Node) → Contains p m → (n : Node) → Contains (m ∷ []) n → Contains p n
only_one p m c n h = go h.0 h.1 h.2
  where
    go : (k : ℕ) → k < 1 → get_or (m ∷ []) k n ≡ n → Contains p n
    go zero within is = subst (λ x. Contains p x) is c
    go (suc k) within is = absurd (omega (arith, within))

-- the visibility of a symbol is asked with its value
pub shown_grew : (s : SymId) (old new : SessionState) → IsSound new → Grew (Val s ∷ []) old new → Grew (Vis s ∷ Val s ∷ []) old new
shown_grew s old new sound f =
    let nodes = Vis s ∷ Val s ∷ [] in
    let laws : FillLaws old.session.tree = subst (λ (x : SessionValue). FillLaws x.tree) f.session sound.laws.fills in
    record {
      session = f.session;
      fills = laws.again nodes (Val s ∷ []) old.kept old.kept new.kept (only_one nodes (Val s) (1, omega arith, refl))
          (laws.wider [] nodes old.kept old.kept (λ n h. absurd (omega (arith, h.1.1))) (laws.nothing old.kept)) f.fills;
    }

pub shown_kept : (s : SymId) (old new : SessionState) → s.0 < length old.session.tree.symbols → Grew (Val s ∷ []) old new → IsKept old.session.tree new.kept.values (Val s) → IsSound new
    → AreAllKept (Vis s ∷ Val s ∷ []) new
shown_kept s old new inside f own sound n h = go h.0 h.1 h.2
  where
    value : IsKept new.session.tree new.kept.values (Val s)
    value = subst (λ (x : SessionValue). IsKept x.tree new.kept.values (Val s)) (sym f.session) own

    go : (k : ℕ) → k < 2 → get_or (Vis s ∷ Val s ∷ []) k n ≡ n → IsKept new.session.tree new.kept.values n
    go zero within is =
        subst (λ x. IsKept new.session.tree new.kept.values x) is (sound.laws.visibility_kept new.kept.values s sound.kept.closed (subst (λ (x : SessionValue). s.0 < length x.tree.symbols) (sym f.session) inside) value)
    go (suc zero) within is = subst (λ x. IsKept new.session.tree new.kept.values x) is value
    go (suc (suc k)) within is = absurd (omega (arith, within))

pub shown_there : (x : SymId) (old new : SessionState) (s : SolvedValue) → s ≡ solved_of new → x.0 < length old.session.tree.symbols → Grew (Val x ∷ []) old new
    → IsKept old.session.tree new.kept.values (Val x) → IsSound new → IsKept s.tree s.values (Val x) × IsKept s.tree s.values (Vis x)
shown_there x old new s is inside f own sound =
    let nodes = Vis x ∷ Val x ∷ [] in
    let all : AreAllKept nodes new = shown_kept x old new inside f own sound in
    (there nodes new s is all (Val x) (1, omega arith, refl), there nodes new s is all (Vis x) (0, omega arith, refl))

-- ---- all values are those of the solution
pub kept_solved : (s : SessionState) → IsSound s → KeepsAll s → AreSolved s.session.tree s.session.user s.kept.values
kept_solved s sound all n inside = sound.laws.right s.session.user s.kept.values sound.kept n inside (all n inside)

pub known_agrees : (new : SessionState) (s : SolvedValue) (k : KnownValue) → s ≡ solved_of new → k.tree ≡ s.tree → k.values ≡ s.values
    → AreSolved new.session.tree new.session.user new.kept.values → Agrees k.tree k.values (solution new.session.tree new.session.user)
known_agrees new s k is tree values solved n inside =
    let trees : k.tree ≡ new.session.tree = tree ∙ ap (λ (x : SolvedValue). x.tree) is in
    (λ i. assignment_of (tree i) (values i) n)
    ∙ ap (λ (x : SolvedValue). assignment_of x.tree x.values n) is
    ∙ solved n (subst (λ x. IsNodeOf x n) trees inside)
