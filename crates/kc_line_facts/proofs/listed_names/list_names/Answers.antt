use Rattle.std.proofs.Common.{◌≡◌, ◌∙◌, ap, map, subst}
use Rattle.kc_line_facts.specs.DoubtfulNames.{doubtful_names}
use Rattle.kc_line_facts.specs.ListedNames.{is_unlisted, line_of, listed_among}
use Rattle.kc_line_facts.specs.MeantSymbols.{AreMeant}
use Rattle.kc_line_facts.specs.SymbolNames.{symbol_names}
use Rattle.kc_line_facts.proofs.listed_names.list_names.Goals as goal

pub returns : goal.returns
returns c =
    let lines = c.args.lines.now in
    let t = c.args.tree.now in
    let prefix = c.args.prefix.now in
    let extent = c.args.extent in
    let meant = c.in_ok-meant.meant.items in
    let found = c.as_slice-doubtful.result.now in
    let all : c.as_slice-doubtful.result.now ≡ doubtful_names lines t = c.as_slice-doubtful.ensures.value ∙ c.in_ok-doubtful.ensures in
    record {
      meant = meant;
      are_meant = subst (λ ds. AreMeant (symbol_names t) lines t prefix ds meant) all c.in_ok-meant.ensures;
      names =
          c.in_ok-names.ensures
          ∙ ap (λ ms. listed_among lines prefix extent found ms) c.as_slice.ensures.value
          ∙ ap (λ ds. listed_among lines prefix extent ds meant) all;
      lines_are = c.in_ok-lines.ensures ∙ ap (map line_of) c.as_slice-3.ensures.value;
      unlisted = λ f.
          c.in_ok-unlisted.ensures f
          ∙ ap (λ ds. is_unlisted lines ds c.as_slice-2.result.now f) all
          ∙ ap (λ listed. is_unlisted lines (doubtful_names lines t) listed f) c.as_slice-2.ensures.value;
    }
