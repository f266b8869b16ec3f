-- What holds of what is kept once nodes were asked, whatever is kept: laws that the layers above may use. This project's
-- own.
use Rattle.std.specs.Prelude.{List, [], ◌++◌, Contains}
use Rattle.kc_outline.specs.TreeValue.{TreeValue}
use Rattle.kc_tree.specs.declared.node.Node.{Node}
use Rattle.kc_tree.specs.Nodes.{IsNodeOf}
use Rattle.kc_tree.specs.Reached.{Reached}
use Rattle.kc_value.specs.Kept.{Fills, IsKept, KeptValue}

pub record FillLaws (t : TreeValue) : Type 0 where
  -- where nothing was asked, what is kept is as it was
  pub nothing : (k : KeptValue) → Fills t [] k k
  -- asking some nodes and then others is asking all of them
  pub both : (p q : List Node) (r s u : KeptValue) → Fills t p r s → Fills t q s u → Fills t (p ++ q) r u
  -- asking some of the nodes once more is asking them once
  pub again : (p q : List Node) (r s u : KeptValue) → ((n : Node) → Contains q n → Contains p n) → Fills t p r s → Fills t q s u → Fills t p r u
  -- asking nodes is a case of asking others from which at least as many are reached
  pub wider : (p q : List Node) (r s : KeptValue) → ((n : Node) → Reached t p n → Reached t q n) → Fills t p r s → Fills t q r s
  -- what is kept stays so
  pub stays : (p : List Node) (r s : KeptValue) (n : Node) → IsNodeOf t n → IsKept t r.values n → Fills t p r s → IsKept t s.values n
