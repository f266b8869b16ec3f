use Rattle.std.proofs.Common.{◌≡◌, ℕ, List, rules, subst}
use Rattle.std.specs.List.Sorted.{IsPermutation, IsStableByKey}
use Rattle.std.specs.Ordering.{nat_cmp}
use Rattle.std.proofs.lemmas.Fn.{always_returns_same}
use Rattle.kc_files.specs.ConfigFindings.{before_in}
use Rattle.kc_files.specs.declared.config_findings.FoundInConfig.{FoundInConfig}
use Rattle.kc_files.proofs.config_findings.findings_of_config.Goals as goal

pub returns : goal.returns
returns c =
    let new : List FoundInConfig = c.sort_by_key.new.self.items in
    let gives = always_returns_same _ (λ a r. r ≡ before_in a.0.now) _ (λ a r q k. search rules) in
    record {
      permuted = subst (λ (all : List FoundInConfig). IsPermutation all new) c.in_ok-found.ensures c.in_ok-sort_by_key.ensures.permutation;
      sorted = c.in_ok-sort_by_key.ensures.sorted before_in gives;
      stable = subst (λ (all : List FoundInConfig). IsStableByKey before_in nat_cmp all new) c.in_ok-found.ensures (c.in_ok-sort_by_key.ensures.stable before_in gives);
    }
