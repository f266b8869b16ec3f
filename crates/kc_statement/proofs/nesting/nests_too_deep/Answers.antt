use Rattle.std.proofs.Common.{◌≡◌, ◌≤◌, ℕ, ◌+◌, Bool, true, false, cond, sym, ap, ◌∙◌, drop, arith}
use Rattle.kc_statement.specs.declared.nesting.Depth.{Depth}
use Rattle.kc_statement.specs.NestingDepth.{is_opening, is_closing, is_not}
use Rattle.kc_statement.specs.Nesting.{is_too_deep}
use Rattle.kc_statement.proofs.NestingLaws.{passes_deep, passes_deep-here, passes_deep-nil, passes_deep-at, nests_too_deep_is, few_nest_little}
use Rattle.std.proofs.lemmas.List.{at_drop_all}
use Rattle.kc_statement.proofs.nesting.nests_too_deep.Goals as goal

one_more : (b : Bool) (k n : ℕ) → k ≤ n → cond b (k + 1) k ≤ n + 1
one_more true k n h = omega arith
one_more false k n h = omega arith

one_more_row : (b : Bool) (k n : ℕ) → k ≤ n → cond b (k + 1) 0 ≤ n + 1
one_more_row true k n h = omega arith
one_more_row false k n h = omega arith

pub returns-then-tokens-le-MOST_NESTED : goal.returns-then-tokens-le-MOST_NESTED
returns-then-tokens-le-MOST_NESTED c = sym (few_nest_little c.args.tokens.now c.if-tokens-le-MOST_NESTED.true)

pub returns-then-is_too_deep : goal.returns-then-is_too_deep
returns-then-is_too_deep c =
    let ts = c.args.tokens.now in
    let i = c.loop-token.token-index in
    let deep : is_too_deep c.count_token.new.self ≡ true = sym c.is_too_deep.ensures ∙ c.if-is_too_deep.true in
    sym (passes_deep-here c.count_token.new.self (drop (i + 1) ts) deep)
    ∙ ap (λ (d : Depth). passes_deep d (drop (i + 1) ts)) c.count_token.ensures
    ∙ sym (passes_deep-at c.loop-token.depth ts i c.token-item.result c.loop-token-test.true c.token-item.is c.loop-token.invariant.shallow)
    ∙ c.loop-token.invariant.passes
    ∙ nests_too_deep_is ts

pub loop-token-preserved : goal.loop-token-preserved
loop-token-preserved c =
    let ts = c.args.tokens.now in
    let i = c.loop-token.token-index in
    let d = c.loop-token.depth in
    let t = c.token-item.result in
    let known = c.loop-token.invariant in
    record {
      passes =
          ap (λ (x : Depth). passes_deep x (drop (i + 1) ts)) c.count_token.ensures
          ∙ sym (passes_deep-at d ts i t c.loop-token-test.true c.token-item.is known.shallow)
          ∙ known.passes;
      shallow = sym c.is_too_deep.ensures ∙ c.if-is_too_deep.false;
      opened = rw c.count_token.ensures (one_more (is_opening t) d.opened i known.opened);
      closed = rw c.count_token.ensures (one_more (is_closing t) d.closed i known.closed);
      nots = rw c.count_token.ensures (one_more_row (is_not t) d.nots i known.nots);
    }

pub returns : goal.returns
returns c =
    let ts = c.args.tokens.now in
    let d = c.loop-token.depth in
    sym c.loop-token.invariant.shallow
    ∙ sym (passes_deep-nil d)
    ∙ sym (at_drop_all (passes_deep d) ts c.loop-token.token-index (omega arith))
    ∙ c.loop-token.invariant.passes
    ∙ nests_too_deep_is ts
