use Rattle.std.proofs.Common.{◌<◌, [], ◌∷◌, length, slice_index, refl, rules}
use Rattle.std.proofs.lemmas.Str.{IsCharBoundary-after_ascii}
use Rattle.kc_text.proofs.StopLaws.{ends_behind, ends_past}
use Rattle.kc_text.proofs.quotes.escaped.Goals as goal

pub split_at-requires : goal.split_at-requires
split_at-requires c =
    let text = c.args.text.now in
    let some : 0 < length text = search rules in
    let ascii : slice_index text 0 < 128 = search rules in
    IsCharBoundary-after_ascii text 0 c.utf8.text some ascii

pub returns-in-len1-up-clause-leaves : goal.returns-in-len1-up-clause-leaves
returns-in-len1-up-clause-leaves c =
    let back = c.split_at.result.1.now in
    ends_past 92 c.args.text.now back (ends_behind 1 c.args.text.now back c.split_at.ensures.back)

pub returns-in_default-clause-leaves : goal.returns-in_default-clause-leaves
returns-in_default-clause-leaves c = (92 ∷ [], refl)
