use Rattle.std.proofs.Common.{rules, ◌≡◌, ◌+◌, ◌-◌, ◌++◌, List, [], ◌∷◌, map, sym, ap, ◌∙◌, arith}
use Rattle.std.proofs.lemmas.List.{append_assoc, append-nil}
use Rattle.kc_outline.specs.TreeValue.{BlockValue, blocks_from}
use Rattle.kc_outline.specs.declared.limits.TheConstants.{MOST_OPEN_BLOCKS}
use Rattle.kc_tree.specs.ConditionTable.{own_lines}
use Rattle.kc_value.specs.declared.factors.Factor.{Factor}
use Rattle.kc_value.specs.declared.factors.Lines.TheVariants.{Block}
use Rattle.kc_value.specs.declared.factors.Origin.{Origin}
use Rattle.kc_value.specs.Known.{given}
use Rattle.kc_value.specs.Factors.{Judged, judged, judged_factors, lines_of, of_blocks, lines_at, ids_from, blocks_at}
use Rattle.kc_value.proofs.BlockLemmas.{blocks_from-next, blocks_from-none}
use Rattle.kc_value.proofs.FactorLists.{judged_blocks, judged_no_blocks}
use Rattle.kc_value.proofs.OriginLists.{blocks_at-next, ids_from-none}
use Rattle.kc_value.proofs.factors.add_around.Goals as goal

pub returns-in_default-clause-judged : goal.returns-in_default-clause-judged
returns-in_default-clause-judged c =
    let t = c.args.known.now.tree in
    let all : List BlockValue → List Judged = λ blocks. judged_factors t (given c.args.known.now) (of_blocks c.args.lines blocks) in
    let none : blocks_from t.blocks (MOST_OPEN_BLOCKS - c.loop.counter) c.loop.next ≡ [] = blocks_from-none t.blocks (MOST_OPEN_BLOCKS - c.loop.counter) c.loop.next (search rules) in
    sym (append-nil (map judged c.loop.factors.items)) ∙ ap (λ js. map judged c.loop.factors.items ++ js) (sym (judged_no_blocks t (given c.args.known.now) c.args.lines)) ∙ ap (λ bs. map judged c.loop.factors.items ++ all bs) (sym none) ∙ c.loop.invariant.judged

pub returns-in_default-block_at-clause-judged : goal.returns-in_default-block_at-clause-judged
returns-in_default-block_at-clause-judged c =
    let t = c.args.known.now.tree in
    let all : List BlockValue → List Judged = λ blocks. judged_factors t (given c.args.known.now) (of_blocks c.args.lines blocks) in
    let none : blocks_from t.blocks (MOST_OPEN_BLOCKS - c.loop.counter) c.loop.next ≡ [] = blocks_from-none t.blocks (MOST_OPEN_BLOCKS - c.loop.counter) c.loop.next (search rules) in
    sym (append-nil (map judged c.loop.factors.items)) ∙ ap (λ js. map judged c.loop.factors.items ++ js) (sym (judged_no_blocks t (given c.args.known.now) c.args.lines)) ∙ ap (λ bs. map judged c.loop.factors.items ++ all bs) (sym none) ∙ c.loop.invariant.judged

pub loop-preserved : goal.loop-preserved
loop-preserved c =
    let t = c.args.known.now.tree in
    let a = given c.args.known.now in
    let all : List BlockValue → List Judged = λ blocks. judged_factors t a (of_blocks c.args.lines blocks) in
    let left = MOST_OPEN_BLOCKS - (c.loop.counter + 1) in
    let block = c.in-Some-block_at.block.now in
    let next : blocks_from t.blocks (MOST_OPEN_BLOCKS - c.loop.counter) c.loop.next ≡ block ∷ blocks_from t.blocks left block.parent =
    blocks_from-next t.blocks (MOST_OPEN_BLOCKS - c.loop.counter) left c.loop.next block (omega arith) (search rules) in
    let rest = blocks_from t.blocks left block.parent in
    let old : List Judged = map judged c.loop.factors.items in
    let ids = ids_from t.blocks left block.parent in
    let was : List Origin = map (λ (f : Factor). f.origin) c.loop.factors.items in
    let above : blocks_at t.blocks c.args.lines (ids_from t.blocks (MOST_OPEN_BLOCKS - c.loop.counter) c.loop.next)
    ≡ lines_at (Block c.in-Some.id c.args.lines) (lines_of c.args.lines block) ++ blocks_at t.blocks c.args.lines ids =
    blocks_at-next t.blocks c.args.lines (MOST_OPEN_BLOCKS - c.loop.counter) left c.loop.next c.in-Some.id block (omega arith) c.in-Some.is (search rules) in
    record {
      judged = ap (λ n. map judged c.add_lines.new.factors.items ++ all (blocks_from t.blocks left n)) c.parent-next.ensures
          ∙ ap (λ js. js ++ all rest) (c.in_ok-add_lines.ensures.judged ∙ ap (λ es. old ++ judged_factors t a (own_lines es)) c.of.ensures)
          ∙ append_assoc old (judged_factors t a (own_lines (lines_of c.args.lines block))) (all rest)
          ∙ ap (λ js. old ++ js) (sym (judged_blocks t a c.args.lines block rest))
          ∙ ap (λ bs. old ++ all bs) (sym next)
          ∙ c.loop.invariant.judged;
      origins = ap (λ n. map (λ (f : Factor). f.origin) c.add_lines.new.factors.items ++ blocks_at t.blocks c.args.lines (ids_from t.blocks left n)) c.parent-next.ensures
          ∙ ap (λ os. os ++ blocks_at t.blocks c.args.lines ids) (c.in_ok-add_lines.ensures.origins ∙ ap (λ es. was ++ lines_at (Block c.in-Some.id c.args.lines) es) c.of.ensures)
          ∙ append_assoc was (lines_at (Block c.in-Some.id c.args.lines) (lines_of c.args.lines block)) (blocks_at t.blocks c.args.lines ids)
          ∙ ap (λ os. was ++ os) (sym above)
          ∙ c.loop.invariant.origins;
    }

pub returns-clause-judged : goal.returns-clause-judged
returns-clause-judged c =
    let t = c.args.known.now.tree in
    let all : List BlockValue → List Judged = λ blocks. judged_factors t (given c.args.known.now) (of_blocks c.args.lines blocks) in
    let end : MOST_OPEN_BLOCKS - c.loop.counter ≡ 0 = search rules in
    sym (append-nil (map judged c.loop.factors.items)) ∙ ap (λ js. map judged c.loop.factors.items ++ js) (sym (judged_no_blocks t (given c.args.known.now) c.args.lines)) ∙ ap (λ n. map judged c.loop.factors.items ++ all (blocks_from t.blocks n c.loop.next)) (sym end) ∙ c.loop.invariant.judged

pub returns-in_default-clause-origins : goal.returns-in_default-clause-origins
returns-in_default-clause-origins c =
    let t = c.args.known.now.tree in
    let was : List Origin = map (λ (f : Factor). f.origin) c.loop.factors.items in
    let none : ids_from t.blocks (MOST_OPEN_BLOCKS - c.loop.counter) c.loop.next ≡ [] = ids_from-none t.blocks (MOST_OPEN_BLOCKS - c.loop.counter) c.loop.next (search rules) in
    sym (append-nil was) ∙ ap (λ ids. was ++ blocks_at t.blocks c.args.lines ids) (sym none) ∙ c.loop.invariant.origins

pub returns-in_default-block_at-clause-origins : goal.returns-in_default-block_at-clause-origins
returns-in_default-block_at-clause-origins c =
    let t = c.args.known.now.tree in
    let was : List Origin = map (λ (f : Factor). f.origin) c.loop.factors.items in
    let none : ids_from t.blocks (MOST_OPEN_BLOCKS - c.loop.counter) c.loop.next ≡ [] = ids_from-none t.blocks (MOST_OPEN_BLOCKS - c.loop.counter) c.loop.next (search rules) in
    sym (append-nil was) ∙ ap (λ ids. was ++ blocks_at t.blocks c.args.lines ids) (sym none) ∙ c.loop.invariant.origins

pub returns-clause-origins : goal.returns-clause-origins
returns-clause-origins c =
    let t = c.args.known.now.tree in
    let was : List Origin = map (λ (f : Factor). f.origin) c.loop.factors.items in
    let end : MOST_OPEN_BLOCKS - c.loop.counter ≡ 0 = search rules in
    sym (append-nil was) ∙ ap (λ n. was ++ blocks_at t.blocks c.args.lines (ids_from t.blocks n c.loop.next)) (sym end) ∙ c.loop.invariant.origins
