use Rattle.std.proofs.Common.{◌≡◌, ◌<◌, length, slice_index, sym, ◌∙◌, arith}
use Rattle.std.proofs.lemmas.List.{get_or_read}
use Rattle.std.proofs.lemmas.Option.{slice_get_within, get_or_from_slice_get}
use Rattle.kc_graph.specs.Graph.{row, Uses}
use Rattle.kc_graph.specs.Search.{mark_of}
use Rattle.kc_graph.specs.declared.graph.search.Mark.TheVariants.{New, Open}
use Rattle.kc_graph.proofs.ListLaws.{past_end}
use Rattle.kc_graph.proofs.MarkLaws.{open-within}
use Rattle.kc_graph.proofs.SearchSteps.{IsLoop-from_path, IsSound-enter, IsSound-finish, IsSound-pass, mark_read, steps_left-enter, steps_left-finish, steps_left-pass, top_open}
use Rattle.kc_graph.proofs.graph.search.Search.step.Goals as goal
use Rattle.kc_graph.proofs.graph.search.Search.step.Goals.{In-Open, In-Some, in-New+in_ok-enter-in-New, in-Done}

-- the last of the path has a place in the marks
inside : (c : In-Open) → c.args.top < length c.args.self.now.marks.items
inside c =
    let s = c.args.self.now in
    let top = top_open c.args.graph.now s.marks.items s.path.items s.order.items c.args.top c.requires.sound c.requires.some c.requires.last in
    open-within s.marks.items c.args.top _ top.0 top.1

-- the last of the path is open, as its mark was read
opened : (c : In-Open) → mark_of c.args.self.now.marks.items c.args.top ≡ Open c.in-Open.position c.in-Open.next
opened c =
    mark_read c.args.self.now.marks.items c.args.top c.index.result.now _ (inside c) c.index.ensures c.in-Open.is

-- there is a use that was not passed
more : (c : In-Some) → c.in-Open.next < length (row c.args.graph.now c.args.top)
more c = slice_get_within (row c.args.graph.now c.args.top) c.in-Open.next c.in-Some.used (sym c.in-Some.ensures.used)

use_at : (c : In-Some) → slice_index (row c.args.graph.now c.args.top) c.in-Open.next ≡ c.in-Some.used
use_at c =
    get_or_from_slice_get (row c.args.graph.now c.args.top) c.in-Open.next c.in-Some.used 0 (sym c.in-Some.ensures.used)

uses : (c : In-Some) → Uses c.args.graph.now c.args.top c.in-Some.used
uses c =
    let uses = row c.args.graph.now c.args.top in
    (c.in-Open.next, more c, get_or_from_slice_get uses c.in-Open.next c.in-Some.used c.in-Some.used (sym c.in-Some.ensures.used))

used_within : (c : In-Some) → c.in-Some.used < length c.args.graph.now
used_within c = c.in-Some.ensures.within

pub index-requires : goal.index-requires
index-requires c =
    let s = c.args.self.now in
    let top = top_open c.args.graph.now s.marks.items s.path.items s.order.items c.args.top c.requires.sound c.requires.some c.requires.last in
    omega (arith, open-within s.marks.items c.args.top _ top.0 top.1, s.marks.ok.0)

pub unreachable-requires : goal.unreachable-requires
unreachable-requires c =
    let s = c.args.self.now in
    let top = top_open c.args.graph.now s.marks.items s.path.items s.order.items c.args.top c.requires.sound c.requires.some c.requires.last in
    let inside = open-within s.marks.items c.args.top _ top.0 top.1 in
    c.in_default.not-Open _ _ (get_or_read s.marks.items c.args.top c.index.result.now inside c.index.ensures New ∙ top.1)

pub use_at-requires : goal.use_at-requires
use_at-requires c = omega (arith, inside (goal.at.use_at-requires c).In-Open, c.requires.sound.sized)

pub finish-requires-clause-inside : goal.finish-requires-clause-inside
finish-requires-clause-inside c = inside (goal.at.finish-requires-clause-inside c).In-Open

pub returns-in_default-use_at-clause-sound : goal.returns-in_default-use_at-clause-sound
returns-in_default-use_at-clause-sound c =
    let s = c.args.self.now in
    let h = (goal.at.returns-in_default-use_at-clause-sound c).In-Open in
    let none = past_end (row c.args.graph.now c.args.top) c.in-Open.next c.in_default-use_at.ensures.used in
    rw (c.in_ok-finish.ensures.marks, c.in_ok-finish.ensures.path, c.in_ok-finish.ensures.order) (IsSound-finish c.args.graph.now s.marks.items s.path.items s.order.items c.args.top _ _ c.requires.sound c.requires.some c.requires.last (opened h) none)

pub returns-in_default-use_at-clause-nearer : goal.returns-in_default-use_at-clause-nearer
returns-in_default-use_at-clause-nearer c =
    let s = c.args.self.now in
    let h = (goal.at.returns-in_default-use_at-clause-nearer c).In-Open in
    rw c.in_ok-finish.ensures.marks (steps_left-finish c.args.graph.now s.marks.items c.args.top _ _ _ (omega (arith, inside h, c.requires.sound.sized)) (inside h) (opened h))

pub path_from-requires : goal.path_from-requires
path_from-requires c =
    let s = c.args.self.now in
    let h = (goal.at.path_from-requires c).In-Some in
    let m = mark_read s.marks.items c.in-Some.used c.index-2.result.now _ (omega (arith, used_within h, c.requires.sound.sized)) c.index-2.ensures c.in-Open-index.is in
    omega (arith, (c.requires.sound.on_path c.in-Some.used _ _ m).0)

pub returns-in-Open-index-clause-err : goal.returns-in-Open-index-clause-err
returns-in-Open-index-clause-err c =
    let s = c.args.self.now in
    let h = (goal.at.returns-in-Open-index-clause-err c).In-Some in
    let m = mark_read s.marks.items c.in-Some.used c.index-2.result.now _ (omega (arith, used_within h, c.requires.sound.sized)) c.index-2.ensures c.in-Open-index.is in
    rw c.in_ok-path_from-in-Open-index.ensures (IsLoop-from_path c.args.graph.now s.marks.items s.path.items s.order.items c.args.top c.in-Some.used _ _ c.requires.sound c.requires.some c.requires.last (uses h) m)

pub returns-clause-sound : goal.returns-clause-sound
returns-clause-sound c =
    let s = c.args.self.now in
    let g = c.args.graph.now in
    let h = (goal.at.returns-clause-sound c).In-Some in
    let o = (goal.at.returns-clause-sound c).In-Open in
    let used = c.in-Some.used in
    let used_inside : used < length s.marks.items = omega (arith, used_within h, c.requires.sound.sized) in
    elim c.match-index-2.branch [
      | in-New+in_ok-enter-in-New w ↦
          let new = mark_read s.marks.items used c.index-2.result.now New used_inside c.index-2.ensures w.in-New.is in
          rw (w.self-is, w.in_ok-enter-in-New.ensures.marks, w.in_ok-enter-in-New.ensures.path, w.in_ok-enter-in-New.ensures.order) (IsSound-enter g s.marks.items s.path.items s.order.items used c.requires.sound (used_within h) new (λ _. rw c.requires.last (uses h)))
      | in-Done w ↦
          let done = mark_read s.marks.items used c.index-2.result.now _ used_inside c.index-2.ensures w.in-Done.is in
          rw w.self-is (IsSound-pass g s.marks.items s.path.items s.order.items c.args.top _ _ w.in-Done.position c.requires.sound (opened o) (more h) (rw (use_at h) done))
    ]

pub returns-clause-nearer : goal.returns-clause-nearer
returns-clause-nearer c =
    let s = c.args.self.now in
    let g = c.args.graph.now in
    let h = (goal.at.returns-clause-nearer c).In-Some in
    let o = (goal.at.returns-clause-nearer c).In-Open in
    let used = c.in-Some.used in
    let used_inside : used < length s.marks.items = omega (arith, used_within h, c.requires.sound.sized) in
    elim c.match-index-2.branch [
      | in-New+in_ok-enter-in-New w ↦
          let new = mark_read s.marks.items used c.index-2.result.now New used_inside c.index-2.ensures w.in-New.is in
          rw (w.self-is, w.in_ok-enter-in-New.ensures.marks) (steps_left-enter g s.marks.items used _ (used_within h) used_inside new)
      | in-Done w ↦
          rw w.self-is (steps_left-pass g s.marks.items c.args.top _ _ (omega (arith, inside o, c.requires.sound.sized)) (inside o) (opened o) (more h))
    ]
