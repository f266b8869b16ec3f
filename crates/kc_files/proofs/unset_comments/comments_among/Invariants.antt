use Rattle.std.proofs.Common.{◌≡◌, ℕ, List}
use Rattle.std.specs.Borrow.{Bor}
use Rattle.std.specs.Prelude.{map}
use Rattle.std.specs.List.{filter_map, range_with_len}
use Rattle.kc_files.specs.MeantComments.{comment_at}
use Rattle.kc_files.proofs.unset_comments.comments_among.Given as goal

-- those of the lines so far
abbrev pub invariant-loop-index : goal.invariant-loop-index
invariant-loop-index l =
    l.found.items ≡ filter_map (comment_at l.tree l.prefix (map (λ (line : Bor (List ℕ)). line.now) l.lines)) (range_with_len 0 l.index)
