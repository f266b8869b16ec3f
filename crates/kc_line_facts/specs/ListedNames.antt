-- Which names that are likely mistakes are listed: this project's own, by docs/ERRORS.md, "Findings of `check`".
use Rattle.std.specs.Prelude.{◌≡◌, ℕ, Bool, true, false, not, ◌&&◌, ◌||◌, ◌==◌, List, [], ◌∷◌, Option, None, if◌then◌else◌, flat_map, is_some, length, map, nat_eq, slice_get, slice_index_or}
use Rattle.std.specs.BTreeSet.{contains}
use Rattle.std.specs.List.{list_any, range_with_len, starts_with}
use Rattle.std.specs.Option.{option_map_or}
use Rattle.std.specs.Ordering.{nat_cmp}
use Rattle.kc_text.specs.LineValue.{LineValue}
use Rattle.kc_statement.specs.Names.{is_name}
use Rattle.kc_statement.specs.declared.id.SymId.{SymId}
use Rattle.kc_outline.specs.TreeValue.{TreeValue}
use Rattle.kc_line_facts.specs.declared.listed_names.Extent.{Extent}
use Rattle.kc_line_facts.specs.declared.listed_names.Extent.TheVariants.{All, Near}
use Rattle.kc_line_facts.specs.declared.name_readings.NameReading.{NameReading}
use Rattle.kc_line_facts.specs.declared.name_readings.NameReading.TheVariants as reading
use Rattle.kc_line_facts.specs.declared.undefined_names.DoubtfulName.{DoubtfulName}
use Rattle.kc_line_facts.specs.declared.listed_names.ListedName.{ListedName}
use Rattle.kc_line_facts.specs.declared.listed_names.ListedNames.{ListedNames}
use Rattle.kc_line_facts.specs.DoubtfulNames.{doubtful_names, name_of}
use Rattle.kc_line_facts.specs.MeantSymbols.{AreMeant, is_undefined}
use Rattle.kc_line_facts.specs.SymbolNames.{symbol_names}

-- what is a mistake whatever the name is: a condition of a string, an int or a hex, and a text that a symbol is given
abbrev pub is_always_listed : NameReading → Bool
is_always_listed (reading.Condition kind) = true
is_always_listed reading.Default = true
is_always_listed reading.No = false
is_always_listed reading.Text = false
is_always_listed reading.Select = false
is_always_listed reading.Imply = false

abbrev pub is_all : Extent → Bool
is_all All = true
is_all Near = false

-- a name with the prefix that names have in a `.config`, if that is not empty
abbrev pub has_prefix : List ℕ → List ℕ → Bool
has_prefix prefix name = not (length prefix == 0) && starts_with nat_eq name prefix

-- else a name is listed that has the prefix or a proposal, and where all are listed each that a symbol can have
abbrev pub is_listed : List LineValue → List ℕ → Extent → Bool → DoubtfulName → Bool
is_listed lines prefix extent proposed d =
    is_always_listed d.used.reading
    || ((is_all extent && is_name (name_of lines d.used)) || (proposed || has_prefix prefix (name_of lines d.used)))

-- ---- the names that are listed
-- a name with the symbol that it is meant as
abbrev pub listed_if : Bool → DoubtfulName → Option SymId → List ListedName
listed_if is d m = if is then record { doubtful = d; meant = m } ∷ [] else []

abbrev pub listed_with : List LineValue → List ℕ → Extent → DoubtfulName → Option SymId → List ListedName
listed_with lines prefix extent d m = listed_if (is_listed lines prefix extent (is_some m) d) d m

-- of a name of many, with the symbols that they are meant as
abbrev pub listed_at : List LineValue → List ℕ → Extent → List DoubtfulName → List (Option SymId) → ℕ → List ListedName
listed_at lines prefix extent ds ms k = option_map_or (λ d. listed_with lines prefix extent d (slice_index_or ms k None)) (slice_get ds k) []

-- in their order
abbrev pub listed_among : List LineValue → List ℕ → Extent → List DoubtfulName → List (Option SymId) → List ListedName
listed_among lines prefix extent ds ms = flat_map (listed_at lines prefix extent ds ms) (range_with_len 0 (length ds))

abbrev pub line_of : ListedName → ℕ
line_of l = l.doubtful.used.line

-- ---- the names that are not
-- a name that a symbol can have, and that no line defines
abbrev pub is_unknown : List LineValue → DoubtfulName → Bool
is_unknown lines d = is_undefined d.used.reading && is_name (name_of lines d.used)

-- names are told apart by the number that all uses of one have: one of them has this number and is unknown
abbrev pub is_unknown_first : List LineValue → List DoubtfulName → ℕ → Bool
is_unknown_first lines ds f = list_any (λ d. (d.first == f) && is_unknown lines d) ds

abbrev pub is_listed_first : List ListedName → ℕ → Bool
is_listed_first listed f = list_any (λ l. l.doubtful.first == f) listed

-- and it is listed in no line
abbrev pub is_unlisted : List LineValue → List DoubtfulName → List ListedName → ℕ → Bool
is_unlisted lines ds listed f = is_unknown_first lines ds f && not (is_listed_first listed f)

-- ---- all
-- which names of a tree are listed, where names have a prefix
pub record IsListing (lines : List LineValue) (t : TreeValue) (prefix : List ℕ) (extent : Extent) (r : ListedNames) : Type 0 where
  -- what each name that is likely a mistake is meant as
  pub meant : List (Option SymId)
  pub are_meant : AreMeant (symbol_names t) lines t prefix (doubtful_names lines t) meant
  pub names : r.names.items ≡ listed_among lines prefix extent (doubtful_names lines t) meant
  pub lines_are : r.lines.items ≡ map line_of r.names.items
  pub unlisted : (f : ℕ) → contains nat_cmp r.unlisted f ≡ is_unlisted lines (doubtful_names lines t) r.names.items f
