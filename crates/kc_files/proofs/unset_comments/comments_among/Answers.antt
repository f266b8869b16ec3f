use Rattle.std.proofs.Common.{◌≡◌, ◌∙◌, ◌++◌, ℕ, List, ap, arith, length}
use Rattle.std.specs.Borrow.{Bor}
use Rattle.std.specs.Prelude.{map, option_map}
use Rattle.std.specs.List.{filter_map, range_with_len}
use Rattle.std.specs.Option.{option_to_list}
use Rattle.std.proofs.lemmas.List.{length-map}
use Rattle.kc_files.specs.MeantComments.{comment_at, comment_in}
use Rattle.kc_files.proofs.RangeLaws.{filter_map_next}
use Rattle.kc_files.proofs.unset_comments.comments_among.Goals as goal

pub loop-index-preserved : goal.loop-index-preserved
loop-index-preserved c =
    let texts : List (List ℕ) = map (λ (l : Bor (List ℕ)). l.now) c.args.lines.now in
    let i = c.loop-index.index in
    let now = c.loop-index.found.items in
    filter_map_next (comment_at c.args.tree.now c.args.prefix.now texts) i now c.add_comment.new.found.items c.loop-index.invariant
    (c.in_ok-add_comment.ensures ∙ ap (λ o. now ++ option_to_list (option_map (comment_in i) o)) c.in_ok-symbol.ensures)

pub returns : goal.returns
returns c =
    let texts : List (List ℕ) = map (λ (l : Bor (List ℕ)). l.now) c.args.lines.now in
    let last : c.loop-index.index ≡ length texts = omega (arith, length-map c.args.lines.now (λ (l : Bor (List ℕ)). l.now)) in
    c.loop-index.invariant ∙ ap (λ (n : ℕ). filter_map (comment_at c.args.tree.now c.args.prefix.now texts) (range_with_len 0 n)) last
