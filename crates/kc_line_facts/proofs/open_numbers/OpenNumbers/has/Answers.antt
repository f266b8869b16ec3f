use Rattle.std.proofs.Common.{ℕ, ◌==◌, ◌∙◌, ap, reverse}
use Rattle.std.specs.List.{list_any}
use Rattle.std.proofs.lemmas.List.Sorted.{list_any-IsPermutation, IsPermutation-reverse}
use Rattle.kc_line_facts.proofs.open_numbers.OpenNumbers.has.Goals as goal

pub returns : goal.returns
returns c =
    let numbers = c.self.inside.numbers.items in
    let is = λ (k : ℕ). k == c.args.number in
    c.is_among.ensures ∙ ap (list_any is) c.as_slice.ensures.value
    ∙ list_any-IsPermutation is numbers (reverse numbers) (IsPermutation-reverse numbers)
    ∙ ap (list_any is) c.self.view_is
