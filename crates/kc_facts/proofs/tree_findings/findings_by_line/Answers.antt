use Rattle.std.proofs.Common.{◌≡◌, ℕ, List, rules, subst}
use Rattle.std.specs.List.Sorted.{IsPermutation, IsStableByKey}
use Rattle.std.specs.Ordering.{nat_cmp}
use Rattle.std.proofs.lemmas.Fn.{always_returns_same}
use Rattle.kc_facts.specs.TreeFindings.{line_in}
use Rattle.kc_facts.specs.declared.tree_findings.FoundInTree.{FoundInTree}
use Rattle.kc_facts.proofs.tree_findings.findings_by_line.Goals as goal

pub returns : goal.returns
returns c =
    let new : List FoundInTree = c.sort_by_key.new.self.items in
    let gives = always_returns_same _ (λ a r. r ≡ line_in a.0.now) _ (λ a r q k. search rules) in
    record {
      permuted = subst (λ (all : List FoundInTree). IsPermutation all new) c.in_ok-found.ensures c.in_ok-sort_by_key.ensures.permutation;
      sorted = c.in_ok-sort_by_key.ensures.sorted line_in gives;
      stable = subst (λ (all : List FoundInTree). IsStableByKey line_in nat_cmp all new) c.in_ok-found.ensures (c.in_ok-sort_by_key.ensures.stable line_in gives);
    }
