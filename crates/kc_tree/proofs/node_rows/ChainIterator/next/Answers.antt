use Rattle.std.proofs.Common.{length, sym, ap, ◌∙◌, arith}
use Rattle.kc_tree.proofs.ChainLaws.{node_first, condition_first}
use Rattle.kc_tree.proofs.node_rows.ChainIterator.next.Goals as goal

pub invariant_of-self : goal.invariant_of-self
invariant_of-self c =
    let s = c.loop-first.self-inside in
    let known = c.loop-first.invariant in
    let step = node_first s.nodes s.rows.now s.left.now c.in-Some.first.now c.in-Some.left.now known.chains known.chain known.inside c.in-Some.ensures.cases c.if-first-self.true in
    (known.chains, step.chain, step.inside)

pub returns-then-first-self-clause-steps : goal.returns-then-first-self-clause-steps
returns-then-first-self-clause-steps c =
    let s = c.loop-first.self-inside in
    let known = c.loop-first.invariant in
    let step = node_first s.nodes s.rows.now s.left.now c.in-Some.first.now c.in-Some.left.now known.chains known.chain known.inside c.in-Some.ensures.cases c.if-first-self.true in
    sym known.same ∙ step.whole

pub returns-then-first-self-clause-goes : goal.returns-then-first-self-clause-goes
returns-then-first-self-clause-goes c =
    let s = c.loop-first.self-inside in
    let known = c.loop-first.invariant in
    let step = node_first s.nodes s.rows.now s.left.now c.in-Some.first.now c.in-Some.left.now known.chains known.chain known.inside c.in-Some.ensures.cases c.if-first-self.true in
    let shorter = ap length (sym known.same ∙ step.whole) in
    grind arith

pub loop-first-smaller : goal.loop-first-smaller
loop-first-smaller c =
    let s = c.loop-first.self-inside in
    let known = c.loop-first.invariant in
    (condition_first s.nodes s.rows.now s.left.now c.in-Some.first.now c.in-Some.left.now known.chains known.chain known.inside c.in-Some.ensures.cases c.if-first-self.false c.row-self-inside.result.now c.row-self-inside.ensures.row).fewer

pub loop-first-preserved : goal.loop-first-preserved
loop-first-preserved c =
    let s = c.loop-first.self-inside in
    let known = c.loop-first.invariant in
    let step = condition_first s.nodes s.rows.now s.left.now c.in-Some.first.now c.in-Some.left.now known.chains known.chain known.inside c.in-Some.ensures.cases c.if-first-self.false c.row-self-inside.result.now c.row-self-inside.ensures.row in
    record { same = sym step.whole ∙ known.same; chains = known.chains; chain = step.chain; inside = step.inside }
