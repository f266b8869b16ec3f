use Rattle.std.proofs.Common.{◌≡◌, Bool, true, false, ◌&&◌, ◌||◌, List, ◌∷◌, Some, sym, ap, ◌∙◌}
use Rattle.kc_text.specs.LineValue.{LineValue}
use Rattle.kc_statement.specs.declared.keyword.Keyword.{Keyword}
use Rattle.kc_outline.specs.declared.context.OpenBlock.{OpenBlock}
use Rattle.kc_statement.specs.Keywords.{keyword_of}
use Rattle.kc_outline.specs.LineFaults.{block_problem, closes_wrongly, stays_open}
use Rattle.kc_outline.specs.Enclosing.{block_opened, open_blocks}
use Rattle.kc_outline.specs.ContextAfter.{blocks_after}
use Rattle.kc_outline.proofs.ContextLaws.{open_blocks-cons}
use Rattle.kc_outline.proofs.line_faults.block_problem.Goals as goal

at_last : (earlier : List LineValue) (is_last : Bool) (k : Keyword) (l : LineValue) (open_before : List OpenBlock) (found : Bool) → keyword_of l ≡ Some k → open_before ≡ open_blocks earlier → closes_wrongly open_before k l.run ≡ false → is_last ≡ true → found ≡ stays_open (blocks_after k (block_opened l earlier) open_before) → found ≡ block_problem earlier is_last k l
at_last earlier is_last k l open_before found is same closes last found_is =
    found_is
    ∙ ap (λ bs. stays_open (blocks_after k (block_opened l earlier) bs)) same
    ∙ ap stays_open (sym (open_blocks-cons l earlier k is))
    ∙ sym (
    ap (λ bs. closes_wrongly bs k l.run || (is_last && stays_open (open_blocks (l ∷ earlier)))) (sym same)
    ∙ ap (λ b. b || (is_last && stays_open (open_blocks (l ∷ earlier)))) closes
    ∙ ap (λ b. b && stays_open (open_blocks (l ∷ earlier))) last)

pub returns-then-is_last : goal.returns-then-is_last
returns-then-is_last c = λ earlier stack.
    let k = c.args.keyword in
    let line = c.args.line.now in
    let open_now = c.open_blocks-blocks.result.now in
    at_last earlier c.args.is_last k line open_now c.stays_open.result c.requires (c.open_blocks-blocks.ensures ∙ stack)
    (ap (closes_wrongly open_now k) (sym c.run.ensures) ∙ sym c.closes_wrongly.ensures ∙ c.if-closes_wrongly.false)
    c.if-is_last.true (c.stays_open.ensures (block_opened line earlier))
