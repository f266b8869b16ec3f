-- What expressions read, part by part, and the blocks around, one by one.
use Rattle.std.proofs.Common.{◌≡◌, ℕ, zero, suc, Bool, true, false, ◌||◌, List, [], ◌∷◌, ◌++◌, Option, Some, None, slice_get, refl, sym, ap, ◌∙◌}
use Rattle.std.specs.List.{list_any}
use Rattle.kc_statement.specs.Formula.{Formula, all_joined, any_joined, negations}
use Rattle.kc_outline.specs.declared.id.BlockId.{BlockId}
use Rattle.kc_outline.specs.TreeValue.{TreeValue, BlockValue}
use Rattle.kc_tree.specs.declared.node.Node.{Node}
use Rattle.kc_tree.specs.Uses.{formula_nodes}
use Rattle.kc_lines.specs.LoopSteps.{first_among, has, same_node}
use Rattle.kc_lines.specs.BlocksOutwards.{blocks_outwards}

-- ---- expressions
or_assoc : (a b c : Bool) → ((a || b) || c) ≡ (a || (b || c))
or_assoc true b c = refl
or_assoc false b c = refl

or_none : (a : Bool) → (a || false) ≡ a
or_none true = refl
or_none false = refl

pub has_append : (q : Node) (xs ys : List Node) → has q (xs ++ ys) ≡ (has q xs || has q ys)
has_append q [] ys = refl
has_append q (x ∷ xs) ys = ap (λ b. same_node q x || b) (has_append q xs ys) ∙ sym (or_assoc (same_node q x) (has q xs) (has q ys))

nodes_negations : (t : TreeValue) (n : ℕ) (f : Formula) → formula_nodes t (negations n f) ≡ formula_nodes t f
nodes_negations t zero f = refl
nodes_negations t (suc n) f = nodes_negations t n f

pub read_negated : (t : TreeValue) (q : Node) (n : ℕ) (f g : Formula) → negations n f ≡ g → has q (formula_nodes t f) ≡ has q (formula_nodes t g)
read_negated t q n f g is = ap (has q) (sym (nodes_negations t n f) ∙ ap (formula_nodes t) is)

some_both : (t : TreeValue) (q : Node) (fs : List Formula) → list_any (λ f. has q (formula_nodes t f)) fs ≡ has q (formula_nodes t (all_joined fs))
some_both t q [] = refl
some_both t q (f ∷ []) = or_none (has q (formula_nodes t f))
some_both t q (f ∷ g ∷ fs) =
    ap (λ b. has q (formula_nodes t f) || b) (some_both t q (g ∷ fs))
    ∙ sym (has_append q (formula_nodes t f) (formula_nodes t (all_joined (g ∷ fs))))

some_either : (t : TreeValue) (q : Node) (fs : List Formula) → list_any (λ f. has q (formula_nodes t f)) fs ≡ has q (formula_nodes t (any_joined fs))
some_either t q [] = refl
some_either t q (f ∷ []) = or_none (has q (formula_nodes t f))
some_either t q (f ∷ g ∷ fs) =
    ap (λ b. has q (formula_nodes t f) || b) (some_either t q (g ∷ fs))
    ∙ sym (has_append q (formula_nodes t f) (formula_nodes t (any_joined (g ∷ fs))))

pub read_by_all : (t : TreeValue) (q : Node) (fs : List Formula) (g : Formula) → all_joined fs ≡ g
    → list_any (λ f. has q (formula_nodes t f)) fs ≡ has q (formula_nodes t g)
read_by_all t q fs g is = some_both t q fs ∙ ap (λ f. has q (formula_nodes t f)) is

pub read_by_any : (t : TreeValue) (q : Node) (fs : List Formula) (g : Formula) → any_joined fs ≡ g
    → list_any (λ f. has q (formula_nodes t f)) fs ≡ has q (formula_nodes t g)
read_by_any t q fs g is = some_either t q fs ∙ ap (λ f. has q (formula_nodes t f)) is

-- ---- the blocks around
module _ {X : Type 0} (f : BlockId → Option X) (blocks : List BlockValue) where
  -- what is found from a place on
  abbrev found_from : ℕ → Option BlockId → Option X
  found_from n next = first_among f (blocks_outwards blocks n next)

  outwards_end : (n : ℕ) → found_from n None ≡ None
  outwards_end zero = refl
  outwards_end (suc n) = refl

  outwards_missing : (n : ℕ) (id : BlockId) → slice_get blocks id.0 ≡ None → found_from n (Some id) ≡ None
  outwards_missing zero id none = refl
  outwards_missing (suc n) id none = rw none

  outwards_found : (n m : ℕ) (id : BlockId) (b : BlockValue) (x : X) → n ≡ suc m → slice_get blocks id.0 ≡ Some b → f id ≡ Some x
      → found_from n (Some id) ≡ Some x
  outwards_found n m id b x more there is = rw (more, there, is)

  outwards_later : (n m : ℕ) (id : BlockId) (b : BlockValue) → n ≡ suc m → slice_get blocks id.0 ≡ Some b → f id ≡ None
      → found_from n (Some id) ≡ found_from m b.parent
  outwards_later n m id b more there none = rw (more, there, none)

  pub around_end : (n : ℕ) (next : Option BlockId) (want : Option X) → next ≡ None → found_from n next ≡ want → None ≡ want
  around_end n next want is e = sym (ap (found_from n) is ∙ outwards_end n) ∙ e

  -- the last place is past the outermost block
  pub around_last : (n : ℕ) (next : Option BlockId) (want : Option X) → n ≡ 0 → found_from n next ≡ want → None ≡ want
  around_last n next want is e = sym (ap (λ (k : ℕ). found_from k next) is) ∙ e

  pub around_missing : (n : ℕ) (next : Option BlockId) (id : BlockId) (want : Option X) → next ≡ Some id → slice_get blocks id.0 ≡ None
      → found_from n next ≡ want → None ≡ want
  around_missing n next id want is none e = sym (ap (found_from n) is ∙ outwards_missing n id none) ∙ e

  pub around_found : (n m : ℕ) (next : Option BlockId) (id : BlockId) (b : BlockValue) (x : X) (want : Option X) → n ≡ suc m → next ≡ Some id
      → slice_get blocks id.0 ≡ Some b → f id ≡ Some x → found_from n next ≡ want → Some x ≡ want
  around_found n m next id b x want more is there found e = sym (ap (found_from n) is ∙ outwards_found n m id b x more there found) ∙ e

  pub around_later : (n m : ℕ) (next : Option BlockId) (id : BlockId) (b : BlockValue) (want : Option X) → n ≡ suc m → next ≡ Some id
      → slice_get blocks id.0 ≡ Some b → f id ≡ None → found_from n next ≡ want → found_from m b.parent ≡ want
  around_later n m next id b want more is there none e = sym (ap (found_from n) is ∙ outwards_later n m id b more there none) ∙ e
