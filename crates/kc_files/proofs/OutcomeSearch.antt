-- A walk over lines from the last one back finds what becomes of each.
use Rattle.std.proofs.Common.{◌≡◌, ℕ, ◌+◌, ◌-◌, ◌<◌, ◌≤◌, ◌==◌, Bool, true, false, not, ◌&&◌, if◌then◌else◌, List, [], ◌∷◌, ◌++◌, Option, Some, None, length, reverse, take, get_or, slice_set, refl, sym, ap, subst, ◌∙◌, append_assoc, append-nil, arith}
use Rattle.std.specs.Prelude.{nat_lt, option_and_then}
use Rattle.std.specs.Option.{option_map_or}
use Rattle.std.proofs.lemmas.Bool.{ltb-true}
use Rattle.std.proofs.lemmas.List.{length-append, length-replicate, length-set, get_or-replicate, reverse-append, reverse-reverse, take_all, take_more}
use Rattle.std.proofs.lemmas.Option.{none-some, same_Some}
use Rattle.kc_outline.specs.declared.id.ChoiceId.{ChoiceId}
use Rattle.kc_outline.specs.TreeValue.{TreeValue, choice_of}
use Rattle.kc_value.specs.Assignment.{Assignment}
use Rattle.kc_files.specs.declared.assign.Assign.{Assign}
use Rattle.kc_files.specs.declared.numbered_lines.LineSays.{LineSays}
use Rattle.kc_files.specs.declared.numbered_lines.LineSays.TheVariants as said
use Rattle.kc_files.specs.Effects.{IsSaidInside}
use Rattle.kc_files.specs.Loading.{is_yes}
use Rattle.kc_files.specs.NumberedLines.{IsSaidFor}
use Rattle.kc_files.specs.declared.fragments.FragmentLine.{FragmentLine}
use Rattle.kc_files.specs.declared.outcomes.Later.{Later}
use Rattle.kc_files.specs.declared.outcomes.Outcome.{Outcome}
use Rattle.kc_files.proofs.LineFactLaws.{slot_set}
use Rattle.kc_files.specs.Outcomes.{chosen_by, chosen_with, is_in, new_search, next_choosing, next_naming, number_in, outcome_by, outcome_of, outcomes, outcomes_from, replacer, replacer_in, searched_said, IsPlacedFor, SearchValue}

-- ---- the choice that an assignment chooses a member of
number_inside : (limit d c : ℕ) (b : Bool) → nat_lt d limit ≡ b → (if b then Some d else None) ≡ Some c → c < limit
number_inside limit d c true is e = subst (λ n. n < limit) (same_Some d c e) (ltb-true d limit is)
number_inside limit d c false is e = absurd (none-some c e)

chosen_inside_by : (t : TreeValue) (c : ℕ) (b : Bool) (o : Option ChoiceId) → (if b then option_and_then (number_in t) o else None) ≡ Some c → c < length t.choices
chosen_inside_by t c true (Some d) e = number_inside (length t.choices) d.0 c (nat_lt d.0 (length t.choices)) refl e
chosen_inside_by t c true None e = absurd (none-some c e)
chosen_inside_by t c false o e = absurd (none-some c e)

chosen_inside : (t : TreeValue) (x : Assign) (c : ℕ) → chosen_by t x ≡ Some c → c < length t.choices
chosen_inside t x c e = chosen_inside_by t c (is_yes x.value) (choice_of t x.symbol) e

-- How many of the lines are still to be read; what became of those after them, the last first; and which of these is the first
-- that names a symbol, or that chooses a member of a choice.
pub record IsSearch (t : TreeValue) (a : Assignment) (all left : List FragmentLine) (s : SearchValue) : Type 0 where
  pub later : List FragmentLine
  pub split : left ++ later ≡ all
  pub found_is : s.found ≡ reverse (outcomes_from t a (length left) later)
  pub symbols : length s.named ≡ length t.symbols
  pub choices : length s.chosen ≡ length t.choices
  pub named_is : (k : ℕ) → k < length t.symbols → get_or s.named k None ≡ next_naming (length left) k later
  pub chosen_is : (k : ℕ) → k < length t.choices → get_or s.chosen k None ≡ next_choosing t (length left) k later

pub search_begins : (t : TreeValue) (a : Assignment) (all : List FragmentLine) → IsSearch t a all all (new_search t)
search_begins t a all = record {
  later = [];
  split = append-nil all;
  found_is = refl;
  symbols = length-replicate (length t.symbols) None;
  choices = length-replicate (length t.choices) None;
  named_is = λ k h. get_or-replicate (length t.symbols) k None None h;
  chosen_is = λ k h. get_or-replicate (length t.choices) k None None h;
}

reverse_first : (o : Outcome) (os : List Outcome) → reverse (o ∷ os) ≡ reverse os ++ o ∷ []
reverse_first o os = reverse-append (o ∷ []) os

module _ (t : TreeValue) (a : Assignment) (all left : List FragmentLine) (s : SearchValue) (h : IsSearch t a all left s) (fewer : List FragmentLine) (line : FragmentLine) (last : left ≡ fewer ++ line ∷ []) where
  abbrev n : ℕ
  n = length fewer

  -- the line with what it says
  abbrev as_said : LineSays → FragmentLine
  as_said what = record { fragment = line.fragment; line = record { number = line.line.number; says = what } }

  split_on : fewer ++ line ∷ h.later ≡ all
  split_on = sym (append_assoc fewer (line ∷ []) h.later) ∙ ap (λ r. r ++ h.later) (sym last) ∙ h.split

  shorter : length left ≡ n + 1
  shorter = ap length last ∙ length-append fewer (line ∷ [])

  found_on : (o : Outcome) → s.found ++ o ∷ [] ≡ reverse (o ∷ outcomes_from t a (n + 1) h.later)
  found_on o =
      ap (λ r. r ++ o ∷ []) (h.found_is ∙ ap (λ m. reverse (outcomes_from t a m h.later)) shorter)
      ∙ sym (reverse_first o (outcomes_from t a (n + 1) h.later))

  named_before : (k : ℕ) → k < length t.symbols → get_or s.named k None ≡ next_naming (n + 1) k h.later
  named_before k l = h.named_is k l ∙ ap (λ m. next_naming m k h.later) shorter

  chosen_before : (k : ℕ) → k < length t.choices → get_or s.chosen k None ≡ next_choosing t (n + 1) k h.later
  chosen_before k l = h.chosen_is k l ∙ ap (λ m. next_choosing t m k h.later) shorter

  module _ (x : Assign) (inside : x.symbol.0 < length t.symbols) where
    abbrev next : Option Later
    next = next_naming (n + 1) x.symbol.0 h.later

    abbrev here : Option Later
    here = Some (record { index = n; fragment = line.fragment })

    next_is : get_or s.named x.symbol.0 None ≡ next
    next_is = named_before x.symbol.0 inside

    -- the line that takes its place
    chosen_next : (o : Option ℕ) → chosen_by t x ≡ o
        → option_map_or (λ c. get_or s.chosen c None) o next ≡ option_map_or (λ c. next_choosing t (n + 1) c h.later) o next
    chosen_next None e = refl
    chosen_next (Some c) e = chosen_before c (chosen_inside t x c e)

    replacer_is : replacer_in t line.fragment x s ≡ replacer t (n + 1) line.fragment x h.later
    replacer_is =
        ap (λ o. if is_in line.fragment o then o else option_map_or (λ c. get_or s.chosen c None) (chosen_by t x) o) next_is
        ∙ ap (λ o. if is_in line.fragment next then next else o) (chosen_next (chosen_by t x) refl)

    -- the table of choices with it
    chosen_size_by : (b : Bool) (o : Option ℕ) → length (if b then s.chosen else option_map_or (λ c. slice_set s.chosen c here) o s.chosen) ≡ length t.choices
    chosen_size_by true o = h.choices
    chosen_size_by false None = h.choices
    chosen_size_by false (Some c) = length-set s.chosen c here ∙ h.choices

    chosen_step : (k : ℕ) → k < length t.choices → (b : Bool) (o : Option ℕ) → chosen_by t x ≡ o
        → get_or (if b then s.chosen else option_map_or (λ c. slice_set s.chosen c here) o s.chosen) k None
        ≡ (if not b && option_map_or (λ d. d == k) o false then here else next_choosing t (n + 1) k h.later)
    chosen_step k l true o e = chosen_before k l
    chosen_step k l false None e = chosen_before k l
    chosen_step k l false (Some c) e =
        slot_set s.chosen c k here (next_choosing t (n + 1) k h.later) (subst (λ m. c < m) (sym h.choices) (chosen_inside t x c e)) (chosen_before k l)

    chosen_on : (k : ℕ) → k < length t.choices
        → get_or (chosen_with t (record { index = n; fragment = line.fragment }) x s) k None ≡ next_choosing t n k (as_said (said.Usable x) ∷ h.later)
    chosen_on k l =
        ap (λ o. get_or (if is_in line.fragment o then s.chosen else option_map_or (λ c. slice_set s.chosen c here) (chosen_by t x) s.chosen) k None) next_is
        ∙ chosen_step k l (is_in line.fragment next) (chosen_by t x) refl

    named_on : (k : ℕ) → k < length t.symbols → get_or (slice_set s.named x.symbol.0 here) k None ≡ next_naming n k (as_said (said.Usable x) ∷ h.later)
    named_on k l =
        slot_set s.named x.symbol.0 k here (next_naming (n + 1) k h.later) (subst (λ m. x.symbol.0 < m) (sym h.symbols) inside) (named_before k l)

  search_by : (what : LineSays) → line.line.says ≡ what → IsSaidInside (length t.symbols) what
      → IsSearch t a all fewer (searched_said t a n line.fragment what s)
  search_by (said.Usable x) is inside = record {
    later = line ∷ h.later;
    split = split_on;
    found_is =
        found_on (outcome_by a (replacer_in t line.fragment x s) x)
        ∙ ap (λ r. reverse (outcome_by a r x ∷ outcomes_from t a (n + 1) h.later)) (replacer_is x inside)
        ∙ (λ i. reverse (outcomes_from t a n (as_said (sym is i) ∷ h.later)));
    symbols = length-set s.named x.symbol.0 (here x inside) ∙ h.symbols;
    choices = chosen_size_by x inside (is_in line.fragment (get_or s.named x.symbol.0 None)) (chosen_by t x);
    named_is = λ k l. named_on x inside k l ∙ (λ i. next_naming n k (as_said (sym is i) ∷ h.later));
    chosen_is = λ k l. chosen_on x inside k l ∙ (λ i. next_choosing t n k (as_said (sym is i) ∷ h.later));
  }
  search_by (said.Warned w) is inside = record {
    later = line ∷ h.later;
    split = split_on;
    found_is =
        found_on (outcome_of t a (n + 1) (as_said (said.Warned w)) h.later)
        ∙ (λ i. reverse (outcomes_from t a n (as_said (sym is i) ∷ h.later)));
    symbols = h.symbols;
    choices = h.choices;
    named_is = λ k l. named_before k l ∙ (λ i. next_naming n k (as_said (sym is i) ∷ h.later));
    chosen_is = λ k l. chosen_before k l ∙ (λ i. next_choosing t n k (as_said (sym is i) ∷ h.later));
  }

  pub search_step : IsSaidInside (length t.symbols) line.line.says → IsSearch t a all fewer (searched_said t a n line.fragment line.line.says s)
  search_step inside = search_by line.line.says refl inside

pub search_ends : (t : TreeValue) (a : Assignment) (all left : List FragmentLine) (s : SearchValue) → IsSearch t a all left s → left ≡ [] → s.found ≡ reverse (outcomes t a all)
search_ends t a all left s h none =
    h.found_is
    ∙ ap (λ m. reverse (outcomes_from t a m h.later)) (ap length none)
    ∙ ap (λ ls. reverse (outcomes t a ls)) (ap (λ l. l ++ h.later) (sym none) ∙ h.split)

-- ---- what a walk may look at
said_inside : (t : TreeValue) (what : LineSays) → IsSaidFor t what → IsSaidInside (length t.symbols) what
said_inside t (said.Usable x) fits = fits.0
said_inside t (said.Warned w) fits = tt

pub line_inside : (t : TreeValue) (line : FragmentLine) (symbols : ℕ) → symbols ≡ length t.symbols → IsPlacedFor t line → IsSaidInside symbols line.line.says
line_inside t line symbols same fits = subst (λ m. IsSaidInside m line.line.says) (sym same) (said_inside t line.line.says fits)

pub last_line : (left : List FragmentLine) (line d : FragmentLine) → 1 ≤ length left → line ≡ get_or left (length left - 1) d → left ≡ take (length left - 1) left ++ line ∷ []
last_line left line d some is =
    sym (take_all (length left - 1 + 1) left (omega (arith, some)))
    ∙ take_more left (length left - 1) d (omega (arith, some))
    ∙ ap (λ x. take (length left - 1) left ++ x ∷ []) (sym is)

-- ---- the outcomes in their order
pub found_in_order : (t : TreeValue) (a : Assignment) (lines : List FragmentLine) (found turned : List Outcome) → found ≡ reverse (outcomes t a lines) → turned ≡ reverse found → turned ≡ outcomes t a lines
found_in_order t a lines found turned is back = back ∙ ap reverse is ∙ reverse-reverse (outcomes t a lines)
