-- Names that are likely mistakes, each once a line, and which of them are in one line of a file only, as a typing error
-- is: this project's own, by docs/ERRORS.md, "Findings of `check`".
use Rattle.std.specs.Prelude.{ℕ, Bool, false, not, ◌&&◌, ◌==◌, List, [], ◌∷◌, Option, if◌then◌else◌, flat_map, length, option_and_then, option_map, option_to_list, slice_get, unwrap_or}
use Rattle.std.specs.List.{list_any, range_with_len}
use Rattle.std.specs.Option.{option_map_or}
use Rattle.std.specs.Str.{bytes_eq}
use Rattle.kc_text.specs.LineValue.{LineValue}
use Rattle.kc_statement.specs.Names.{token_word}
use Rattle.kc_outline.specs.TreeValue.{TreeValue}
use Rattle.kc_line_facts.specs.DoubtfulUses.{doubtful_uses}
use Rattle.kc_line_facts.specs.Numbers.{first_below, last_below}
use Rattle.kc_line_facts.specs.declared.doubtful_uses.DoubtfulUse.{DoubtfulUse}
use Rattle.kc_line_facts.specs.declared.named_uses.NamedUse.{NamedUse}
use Rattle.kc_line_facts.specs.declared.named_uses.Passed.{Passed}
use Rattle.kc_line_facts.specs.declared.undefined_names.DoubtfulName.{DoubtfulName}

-- ---- uses of one name
-- the word of a token of the line of an index
abbrev pub word_at : List LineValue → ℕ → ℕ → Option (List ℕ)
word_at lines i p = option_and_then token_word (option_and_then (λ line. slice_get line.tokens p) (slice_get lines i))

abbrev pub name_of : List LineValue → DoubtfulUse → List ℕ
name_of lines u = unwrap_or (word_at lines u.line u.token) []

-- the use at a place, among all, is one of a name
abbrev pub is_named : List LineValue → List DoubtfulUse → List ℕ → ℕ → Bool
is_named lines us w k = option_map_or (λ u. bytes_eq (name_of lines u) w) (slice_get us k) false

-- a use at a place, with the first one and the last one before it of the same name
abbrev pub named_by : List LineValue → List DoubtfulUse → ℕ → DoubtfulUse → NamedUse
named_by lines us k u = record {
  used = u;
  first = unwrap_or (first_below (is_named lines us (name_of lines u)) k) k;
  before = last_below (is_named lines us (name_of lines u)) k;
}

abbrev pub named_at : List LineValue → List DoubtfulUse → ℕ → List NamedUse
named_at lines us k = option_to_list (option_map (named_by lines us k) (slice_get us k))

abbrev pub named_uses : List LineValue → List DoubtfulUse → List NamedUse
named_uses lines us = flat_map (named_at lines us) (range_with_len 0 (length us))

-- ---- lines of files
-- two lines are one line of a file, which may be included twice
abbrev pub is_same_line : LineValue → LineValue → Bool
is_same_line x y = (x.number == y.number) && bytes_eq x.path y.path

-- and so are the lines of two indices
abbrev pub are_same_line : List LineValue → ℕ → ℕ → Bool
are_same_line lines i k = option_map_or (λ x. option_map_or (is_same_line x) (slice_get lines k) false) (slice_get lines i) false

-- a use is in another line of a file than the first one of its name
abbrev pub is_elsewhere : List LineValue → List NamedUse → NamedUse → Bool
is_elsewhere lines ns n = option_map_or (λ f. not (are_same_line lines f.used.line n.used.line)) (slice_get ns n.first) false

-- the uses of a name, by the first one, are in several lines of files
abbrev pub is_in_several : List LineValue → List NamedUse → ℕ → Bool
is_in_several lines ns f = list_any (λ n. (n.first == f) && is_elsewhere lines ns n) ns

-- ---- each name once a line
-- the use before it of the same name is in its line
abbrev pub is_again : List NamedUse → NamedUse → Bool
is_again ns n = option_map_or (λ b. b.used.line == n.used.line) (option_and_then (slice_get ns) n.before) false

abbrev pub found_name : Bool → Bool → NamedUse → List DoubtfulName
found_name again several n = if again then [] else record { used = n.used; first = n.first; is_in_one_line = not several } ∷ []

abbrev pub name_found : List LineValue → List NamedUse → NamedUse → List DoubtfulName
name_found lines ns n = found_name (is_again ns n) (is_in_several lines ns n.first) n

abbrev pub names_found : List LineValue → List NamedUse → List DoubtfulName
names_found lines ns = flat_map (name_found lines ns) ns

abbrev pub doubtful_names : List LineValue → TreeValue → List DoubtfulName
doubtful_names lines t = names_found lines (named_uses lines (doubtful_uses lines t))

-- ---- names that were passed
-- what is known of a name after one more use of it, by what was known before
abbrev pub passed_after : Option Passed → ℕ → Passed
passed_after earlier k = record { first = unwrap_or (option_map (λ p. p.first) earlier) k; last = k }
