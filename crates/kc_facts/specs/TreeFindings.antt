-- What is found in the lines of a tree, in their order: this project's own, by docs/ERRORS.md, "Findings of `check`".
use Rattle.std.specs.Prelude.{ℕ, List, [], Option, flat_map, length, option_map, option_to_list, slice_get, ◌++◌, map}
use Rattle.std.specs.List.{range_with_len}
use Rattle.std.specs.List.Sorted.{IsPermutation, IsSortedByKey, IsStableByKey}
use Rattle.std.specs.Option.{option_map_or}
use Rattle.std.specs.Ordering.{nat_cmp}
use Rattle.kc_text.specs.LineValue.{LineValue}
use Rattle.kc_outline.specs.TreeValue.{TreeValue}
use Rattle.kc_value.specs.Assignment.{Assignment}
use Rattle.kc_value.specs.declared.places.RangePlace.{RangePlace}
use Rattle.kc_line_facts.specs.FaultyDefaults.{faulty_defaults}
use Rattle.kc_facts.specs.Forced.{forced_symbols}
use Rattle.kc_facts.specs.HiddenChoices.{hidden_choices}
use Rattle.kc_lines.specs.LineIndex.{attribute_number, number_of, numbers_saying}
use Rattle.kc_facts.specs.NeverModules.{never_modules}
use Rattle.kc_facts.specs.ExchangedRanges.{exchanged_ranges}
use Rattle.kc_line_facts.specs.SelectedMembers.{selected_members}
use Rattle.kc_facts.specs.Unset.{unset_definitions}
use Rattle.kc_line_facts.specs.UnusedDefaults.{unused_defaults}
use Rattle.kc_line_facts.specs.declared.default_faults.FaultyDefault.{FaultyDefault}
use Rattle.kc_line_facts.specs.declared.defaults_after.UnusedDefault.{UnusedDefault}
use Rattle.kc_facts.specs.declared.forced_definitions.Forced.{Forced}
use Rattle.kc_line_facts.specs.declared.listed_names.Extent.{Extent}
use Rattle.kc_line_facts.specs.declared.listed_names.Extent.TheVariants.{All, Near}
use Rattle.kc_line_facts.specs.declared.member_selections.AttributePlace.{AttributePlace}
use Rattle.kc_lines.specs.declared.parts.Attribute.TheVariants as attribute
use Rattle.kc_lines.specs.declared.parts.Family.TheVariants as family
use Rattle.kc_lines.specs.declared.parts.Part.TheVariants.{Owner, Said}
use Rattle.kc_facts.specs.declared.tree_findings.FoundInTree.{FoundInTree}
use Rattle.kc_facts.specs.declared.tree_findings.TreeFinding.{TreeFinding}
use Rattle.kc_facts.specs.declared.tree_findings.TreeFinding.TheVariants as found

-- something in the line of a number, if there is one
abbrev pub found_at : Option ℕ → TreeFinding → List FoundInTree
found_at line f = option_to_list (option_map (λ n. record { line = n; finding = f }) line)

-- the same in each line of these numbers
abbrev pub found_in : List ℕ → TreeFinding → List FoundInTree
found_in numbers f = map (λ n. record { line = n; finding = f }) numbers

-- ---- where each kind is
-- in the line that defines a symbol
abbrev pub forced_found : List LineValue → Forced → List FoundInTree
forced_found lines f = found_at (number_of lines (Owner family.Definition f.definition)) (found.Forced f)

abbrev pub unset_found : List LineValue → ℕ → List FoundInTree
unset_found lines n = found_at (number_of lines (Owner family.Definition n)) (found.Unset n)

-- in the line of a default
abbrev pub faulty_found : List LineValue → FaultyDefault → List FoundInTree
faulty_found lines f = found_at (number_of lines (Said family.Definition f.definition attribute.Default f.place)) (found.FaultyDefault f)

abbrev pub unused_found : List LineValue → UnusedDefault → List FoundInTree
unused_found lines u = found_at (number_of lines (Said family.Definition u.definition attribute.Default u.place)) (found.UnusedDefault u)

-- in each line of a default of a choice
abbrev pub hidden_found : List LineValue → ℕ → List FoundInTree
hidden_found lines c = found_in (numbers_saying lines family.Choice c attribute.Default) found.HiddenDefault

-- in the line of a type; of several definitions the first is enough
abbrev pub never_at : List LineValue → ℕ → List FoundInTree
never_at lines n = found_at (number_of lines (Said family.Definition n attribute.Type 0)) (found.NeverModules n)

abbrev pub never_found : List LineValue → List ℕ → List FoundInTree
never_found lines numbers = option_map_or (never_at lines) (slice_get numbers 0) []

-- in the line of a range
abbrev pub range_found : List LineValue → RangePlace → List FoundInTree
range_found lines r = found_at (number_of lines (Said family.Definition r.definition attribute.Range r.range)) (found.ExchangedRange r)

-- in a `select` or an `imply` line
abbrev pub member_found : List LineValue → AttributePlace → List FoundInTree
member_found lines p = found_at (attribute_number lines family.Definition p.definition p.attribute) (found.SelectedMember p.definition)

-- before a line: those of a list, by their numbers in it, which gives the line of each
abbrev pub earlier_found : List ℕ → ℕ → List FoundInTree
earlier_found earlier k = found_at (slice_get earlier k) (found.Earlier k)

-- the names of a list, by their numbers in it, which gives the line of each
abbrev pub name_found : List ℕ → ℕ → List FoundInTree
name_found names k = found_at (slice_get names k) (found.Name k)

-- ---- all
-- what is only looked for where all is listed
abbrev pub if_all : {X : Type 0} → Extent → List X → List X
if_all All xs = xs
if_all Near xs = []

-- kind after kind, in the order that what is found in one line has
abbrev pub found_by_kind : List ℕ → List ℕ → Extent → List LineValue → TreeValue → Assignment → List FoundInTree
found_by_kind earlier names extent lines t a =
    flat_map (earlier_found earlier) (range_with_len 0 (length earlier))
    ++ flat_map (forced_found lines) (forced_symbols t a)
    ++ flat_map (unset_found lines) (if_all extent (unset_definitions t))
    ++ flat_map (faulty_found lines) (faulty_defaults t)
    ++ never_found lines (never_modules lines t)
    ++ flat_map (unused_found lines) (unused_defaults lines t)
    ++ flat_map (range_found lines) (exchanged_ranges t)
    ++ flat_map (member_found lines) (selected_members lines t)
    ++ flat_map (hidden_found lines) (if_all extent (hidden_choices t))
    ++ flat_map (name_found names) (range_with_len 0 (length names))

abbrev pub line_in : FoundInTree → ℕ
line_in f = f.line

-- a list has what another one has, line by line, and what is in one line in the order of the other
pub record AreByLine (all ordered : List FoundInTree) : Type 0 where
  pub permuted : IsPermutation all ordered
  pub sorted : IsSortedByKey line_in nat_cmp ordered
  pub stable : IsStableByKey line_in nat_cmp all ordered
