use Rattle.std.proofs.Common.{◌≡◌, ◌∙◌, ◌&&◌, ◌==◌, None, ap, false, get_or, not, sym, take}
use Rattle.std.specs.BTreeSet.{contains}
use Rattle.std.specs.Ordering.{nat_cmp}
use Rattle.std.proofs.lemmas.List.Folds.{list_any_more}
use Rattle.kc_line_facts.specs.ListedNames.{is_listed_first}
use Rattle.kc_line_facts.specs.declared.listed_names.ListedName.{ListedName}
use Rattle.kc_line_facts.specs.declared.name_readings.NameReading.TheVariants as reading
use Rattle.kc_line_facts.proofs.ListedLaws.{and_neither}
use Rattle.kc_line_facts.proofs.unlisted_names.drop_listed.Goals as goal

abbrev no_name : ListedName
no_name = record {
  doubtful = record { used = record { line = 0; owner = None; token = 0; reading = reading.No }; first = 0; is_in_one_line = false };
  meant = None;
}

pub loop-place-preserved : goal.loop-place-preserved
loop-place-preserved c = λ f.
    let listed = c.args.listed.now in
    let i = c.loop-place.place in
    let first = (get_or listed i no_name).doubtful.first in
    let there = contains nat_cmp c.args.firsts.now f in
    c.drop_first.ensures f
    ∙ ap (λ b. b && not (first == f)) (c.loop-place.invariant f)
    ∙ and_neither there (is_listed_first (take i listed) f) (first == f)
    ∙ ap (λ b. there && not b) (sym (list_any_more (λ l. l.doubtful.first == f) listed i no_name c.loop-place-test.true))
