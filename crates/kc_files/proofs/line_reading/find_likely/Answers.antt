use Rattle.std.proofs.Common.{◌≡◌, ◌<◌, ◌∙◌, length, sym, ap, arith}
use Rattle.std.proofs.lemmas.Slice.Eq.{bytes_eq-Decides}
use Rattle.kc_outline.specs.TreeValue.{name_of}
use Rattle.kc_files.proofs.SymbolNames.{named_so}
use Rattle.kc_files.proofs.line_reading.find_likely.Goals as goal

pub returns-then-eq-clause-symbol : goal.returns-then-eq-clause-symbol
returns-then-eq-clause-symbol c =
    let t = c.args.tree.now in
    let inside : c.args.likely.0 < length t.symbols = omega (arith, c.if-likely-symbols.true, ap length c.symbols.ensures.symbols) in
    let same : name_of t c.args.likely ≡ c.args.name.now = sym c.name.ensures ∙ (bytes_eq-Decides c.name.result.now c.args.name.now).0 (sym c.if-eq.ensures) in
    sym (named_so t c.symbols.ensures.accepted c.args.likely c.args.name.now inside same)
