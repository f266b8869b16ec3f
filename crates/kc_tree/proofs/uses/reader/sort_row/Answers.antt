use Rattle.std.proofs.lemmas.List.Filters.{dedup_is}
use Rattle.std.proofs.lemmas.List.Kept.{Contains-dedup_nat, Contains-from_dedup}
use Rattle.std.proofs.lemmas.List.Sorted.{Contains-permutation, IsPermutation-sym}
use Rattle.kc_tree.proofs.RowLaws.{same_from_contains}
use Rattle.kc_tree.proofs.uses.reader.sort_row.Goals as goal

pub returns : goal.returns
returns c =
    let is = dedup_is _ _ _ c.dedup.ensures.filtered in
    let moved = c.sort_unstable.ensures.permutation in
    same_from_contains c.dedup.new.self.items c.args.row.now.items
    (λ k h. Contains-permutation _ _ k (IsPermutation-sym _ _ moved) (Contains-from_dedup _ _ k (rw is at h)))
    (λ k h. rw is (Contains-dedup_nat _ k (Contains-permutation _ _ k moved h)))
