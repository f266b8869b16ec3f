-- What is found in the lines of a `.config` or of fragments, in their order: this project's own, by docs/COMMANDS.md, "check" and "merge".
use Rattle.std.specs.Prelude.{ℕ, zero, suc, Bool, true, false, not, ◌==◌, List, [], ◌++◌, Option, Some, None, if◌then◌else◌, filter, flat_map, length, nat_lt, option_and_then, option_map, option_to_list, slice_get, slice_set}
use Rattle.std.specs.List.{range_with_len}
use Rattle.std.specs.Option.{option_map_or}
use Rattle.kc_value.specs.ChangedValue.{same_user_value}
use Rattle.kc_files.specs.declared.assign.Assign.{Assign}
use Rattle.kc_files.specs.NumberedLines.{assign_of}
use Rattle.kc_files.specs.declared.fragments.FragmentLine.{FragmentLine}
use Rattle.kc_files.specs.declared.line_facts.FoundInLine.{FoundInLine}
use Rattle.kc_files.specs.declared.line_facts.LineFact.{LineFact}
use Rattle.kc_files.specs.declared.line_facts.LineFact.TheVariants as fact
use Rattle.kc_files.specs.declared.outcomes.Outcome.{Outcome}
use Rattle.kc_files.specs.declared.outcomes.Outcome.TheVariants as outcome
use Rattle.kc_files.specs.declared.taken_lines.Common.{Common}
use Rattle.kc_files.specs.declared.taken_lines.Common.TheVariants as common

-- ---- the last line of some
-- the greatest number below another that passes a test
abbrev pub last_below : (ℕ → Bool) → ℕ → Option ℕ
last_below test zero = None
last_below test (suc n) = if test n then Some n else last_below test n

abbrev pub is_number : ℕ → Option ℕ → Bool
is_number k o = option_map_or (λ n. n == k) o false

-- what the line of an index gives, if it can be used
abbrev pub assign_at : List FragmentLine → ℕ → Option Assign
assign_at lines i = option_and_then (λ line. assign_of line.line) (slice_get lines i)

-- both lines can be used, and name one symbol
abbrev pub is_same_symbol : List FragmentLine → ℕ → ℕ → Bool
is_same_symbol lines i k =
    option_map_or (λ x. option_map_or (λ y. x.symbol.0 == y.symbol.0) (assign_at lines k) false) (assign_at lines i) false

-- A line takes the place of one that names the same symbol, or of one that chooses another member of a choice.
abbrev pub have_common : List FragmentLine → Common → ℕ → ℕ → Bool
have_common lines common.Symbol i k = is_same_symbol lines i k
have_common lines common.Choice i k = not (is_same_symbol lines i k)

-- the line that takes the place of that of index i, by what becomes of that
abbrev pub taker_in : List FragmentLine → Common → ℕ → Outcome → Option ℕ
taker_in lines c i outcome.Got = None
taker_in lines c i outcome.Other = None
taker_in lines c i outcome.Unusable = None
taker_in lines c i (outcome.Replaced k) = if have_common lines c i k then Some k else None

-- the line of index k takes the place of that of index i
abbrev pub takes_place : List FragmentLine → List Outcome → Common → ℕ → ℕ → Bool
takes_place lines os c k i = is_number k (option_and_then (taker_in lines c i) (slice_get os i))

-- the last line whose place that of index k takes
abbrev pub taken_by : List FragmentLine → List Outcome → Common → ℕ → Option ℕ
taken_by lines os c k = last_below (takes_place lines os c k) (length os)

-- the symbol, by number, that has the value which the line of index i gives it
abbrev pub got_in : List FragmentLine → ℕ → Outcome → Option ℕ
got_in lines i outcome.Got = option_map (λ x. x.symbol.0) (assign_at lines i)
got_in lines i outcome.Other = None
got_in lines i outcome.Unusable = None
got_in lines i (outcome.Replaced k) = None

abbrev pub gives : List FragmentLine → List Outcome → ℕ → ℕ → Bool
gives lines os s i = is_number s (option_and_then (got_in lines i) (slice_get os i))

-- the last line that gives the symbol of a number the value that it has
abbrev pub giver_of : List FragmentLine → List Outcome → ℕ → Option ℕ
giver_of lines os s = last_below (gives lines os s) (length os)

-- ---- what is found
abbrev pub own_fact : Outcome → Option LineFact
own_fact outcome.Got = None
own_fact outcome.Other = Some fact.WithoutEffect
own_fact outcome.Unusable = Some fact.Unusable
own_fact (outcome.Replaced k) = None

abbrev pub in_line : ℕ → Option LineFact → List FoundInLine
in_line i f = option_to_list (option_map (λ x. record { line = i; fact = x }) f)

-- whose place a line takes, and then what became of the line itself
abbrev pub found_of_line : ℕ → Option ℕ → Option ℕ → Outcome → List FoundInLine
found_of_line i same member o =
    in_line i (option_map fact.ReplacesLine same) ++ (in_line i (option_map fact.ReplacesMember member) ++ in_line i (own_fact o))

abbrev pub found_at : List FragmentLine → List Outcome → ℕ → List FoundInLine
found_at lines os i =
    option_map_or (found_of_line i (taken_by lines os common.Symbol i) (taken_by lines os common.Choice i)) (slice_get os i) []

abbrev pub found_in_lines : List FragmentLine → List Outcome → List FoundInLine
found_in_lines lines os = flat_map (found_at lines os) (range_with_len 0 (length os))

-- ---- what is reported of fragments
-- both lines can be used, and give different values
abbrev pub give_other_values : List FragmentLine → ℕ → ℕ → Bool
give_other_values lines i k =
    option_map_or (λ x. option_map_or (λ y. not (same_user_value x.value y.value)) (assign_at lines k) false) (assign_at lines i) false

-- a line that says again what an earlier one says is not reported
abbrev pub is_new : List FragmentLine → ℕ → LineFact → Bool
is_new lines k (fact.ReplacesLine i) = give_other_values lines i k
is_new lines k (fact.ReplacesMember i) = true
is_new lines k fact.Unusable = true
is_new lines k fact.WithoutEffect = true

abbrev pub is_reported : List FragmentLine → FoundInLine → Bool
is_reported lines f = is_new lines f.line f.fact

abbrev pub reported_of : List FragmentLine → List Outcome → List FoundInLine
reported_of lines os = filter (is_reported lines) (found_in_lines lines os)

-- ---- a walk over lines
-- the last line so far, by a number that it has
abbrev pub noted : List (Option ℕ) → Option ℕ → ℕ → List (Option ℕ)
noted last None i = last
noted last (Some k) i = if nat_lt k (length last) then slice_set last k (Some i) else last
