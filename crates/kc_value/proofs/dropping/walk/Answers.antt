use Rattle.std.proofs.Common.{◌≡◌, ◌<◌, [], ◌∷◌, ◌++◌, length, sym, ap, ◌∙◌, subst, ⊎_elim, arith, length-append}
use Rattle.std.specs.List.{Contains}
use Rattle.std.proofs.lemmas.List.Elements.{Contains-append_left}
use Rattle.kc_graph.specs.Graph.{row}
use Rattle.kc_tree.specs.Cells.{cell_count}
use Rattle.kc_value.specs.DropWalk.{DropsAll, IsDropping}
use Rattle.kc_value.proofs.DropSteps.{walk_ended, walk_next}
use Rattle.kc_value.proofs.dropping.walk.Goals as goal

pub drop_row-requires-clause-inside : goal.drop_row-requires-clause-inside
drop_row-requires-clause-inside c =
    let table = c.user_table-table.ensures.table in
    λ k listed.
    let below : k < cell_count c.args.tree.now = table.within c.in-Some.next k (subst (λ ks. Contains ks k) c.row.ensures.row listed) in
    omega (arith, below, c.loop-next.invariant.whole, c.requires.whole)

pub loop-next-preserved : goal.loop-next-preserved
loop-next-preserved c =
    let t = c.args.tree.now in
    let g = c.user_table-table.result.now in
    let table = c.user_table-table.ensures.table in
    let kept = c.loop-next.invariant in
    let k = c.in-Some.next in
    let front = c.pop.new.self.items in
    let was : c.loop-next.list.items ≡ front ++ k ∷ [] = c.in-Some.ensures.items in
    let now = c.loop-next.values in
    let new = c.drop_row.new.values in
    let list = c.drop_row.new.list.items in
    let drops : DropsAll (Contains (row g k)) now new front list = subst (λ ks. DropsAll (Contains ks) now new front list) c.row.ensures.row c.drop_row.ensures.drops in
    record {
      inside = λ j d. ⊎_elim
          (λ before. kept.inside j (subst (λ xs. Contains xs j) (sym was) (Contains-append_left front (k ∷ []) j before)))
          (λ reader. table.within k j reader)
          (drops.listed j d);
      whole = drops.whole ∙ kept.whole;
      room = omega (
        arith,
        drops.room,
        kept.room,
        c.drop_row.ensures.capacity,
        c.in-Some.ensures.capacity,
        ap length was,
        length-append front (k ∷ []),
      );
      walk = λ u w first closed begun.
          walk_next t c.user_table-table.ensures.laws u w first closed g table now new front list k
          (subst (λ xs. IsDropping t u w first now xs) was (kept.walk u w first closed begun)) drops;
      capacity = omega (arith, kept.capacity, c.drop_row.ensures.capacity, c.in-Some.ensures.capacity);
    }

pub returns-clause-drops : goal.returns-clause-drops
returns-clause-drops c =
    let t = c.args.tree.now in
    let empty : length c.loop-next.list.items ≡ 0 = omega (arith, c.in_default.ensures.cases.0, c.loop-next.list.ok.0) in
    λ u w first was begun.
    walk_ended t c.user_table-table.ensures.laws u w first was c.loop-next.values c.loop-next.list.items empty (c.loop-next.invariant.walk u w first was begun) c.user_table-table.ensures.accepted.within
