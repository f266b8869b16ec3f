-- Steps: the logical lines of a top file and all that it sources, read one after another, or the first fault: this
-- project's own rules for the lines of kconfig-language.rst and the sources and variables of kconfig-macro-language.rst.
use Rattle.std.specs.Prelude.{ℕ, zero, suc, ◌+◌, List, [], ◌∷◌, ◌++◌, length, Option, Some, None, Result, Ok, Err, if◌then◌else◌, nat_le, nat_lt}
use Rattle.std.specs.Str.Lines.{lines}
use Rattle.kc_text.specs.declared.line.Token.{Token}
use Rattle.kc_text.specs.declared.fault.TextProblem.{TextProblem}
use Rattle.kc_text.specs.declared.fault.TextProblem.TheVariants.{Limit, MissingSource, RecursiveSource}
use Rattle.kc_text.specs.declared.fault.TextFault.{TextFault}
use Rattle.kc_text.specs.declared.fault.TextFault.TheVariants.{At}
use Rattle.kc_text.specs.FileList.{File}
use Rattle.kc_text.specs.Sources.{text_of}
use Rattle.kc_text.specs.LineValue.{LineValue}
use Rattle.kc_text.specs.Expansion.{Names, Environment, then_on, is_among}
use Rattle.kc_text.specs.Tokens.{line_tokens}
use Rattle.kc_text.specs.Definitions.{definition_of, defined}
use Rattle.kc_text.specs.Items.{ItemValue, first_item}
pub use Rattle.kc_text.specs.Entries.{Place, statement, end_of_file, source_path}

-- what was read so far: the lines, what names stand for, how many `source` lines were followed, and how many bytes they
-- include
pub record ReadState : Type 0 where
  pub lines : List LineValue
  pub names : Names
  pub followed : ℕ
  pub placed : ℕ

abbrev pub nothing_read : ReadState
nothing_read = record { lines = []; names = λ _. None; followed = 0; placed = 0 }

abbrev pub with_lines : List LineValue → ReadState → ReadState
with_lines ls s = record { lines = s.lines ++ ls; names = s.names; followed = s.followed; placed = s.placed }

abbrev pub with_names : Names → ReadState → ReadState
with_names names s = record { lines = s.lines; names = names; followed = s.followed; placed = s.placed }

-- one `source` line more is followed, which includes a text
abbrev pub entered : List ℕ → ReadState → ReadState
entered text s = record { lines = s.lines; names = s.names; followed = s.followed + 1; placed = s.placed + length text }

-- a problem at a place is its fault
abbrev pub fault_at : Place → TextProblem → TextFault
fault_at at problem = At problem at.path at.number

abbrev pub at_place : {A : Type 0} → Place → Result A TextProblem → Result A TextFault
at_place at (Ok x) = Ok x
at_place at (Err problem) = Err (fault_at at problem)

-- how the file of a path is included for a line
abbrev pub Placing : Type 0
Placing = Place → List ℕ → ReadState → Result ReadState TextFault

-- a line of tokens: a file in its place, or itself
abbrev pub tokens_read : Placing → Place → List Token → Option (List ℕ) → ReadState → Result ReadState TextFault
tokens_read place at ts help s = elim (source_path ts) [ Some wanted ↦ place at wanted s | None ↦ Ok (with_lines (statement at ts help) s) ]

-- an item that is no definition
abbrev pub statement_read : Environment → Placing → Place → ItemValue → ReadState → Result ReadState TextFault
statement_read outside place at item s =
    then_on (at_place at (line_tokens s.names outside item.text)) (λ ts. tokens_read place at ts item.help s)

-- an item, whose text has at most 65536 bytes
abbrev pub item_read : Environment → Placing → Place → ItemValue → ReadState → Result ReadState TextFault
item_read outside place at item s =
    if nat_lt 65536 (length item.text) then Err (fault_at at Limit)
    else (elim (definition_of item.text) [
      | Some d ↦ then_on (at_place at (defined outside s.names d)) (λ names. Ok (with_names names s))
      | None ↦ statement_read outside place at item s
    ])

-- the lines of a file from a number on, where so many belong to the item before
abbrev pub items_read : Environment → Placing → List ℕ → ℕ → ℕ → ℕ → List (List ℕ) → ReadState → Result ReadState TextFault
items_read outside place path run n number [] s = Ok s
items_read outside place path run (suc n) number (l ∷ ls) s = items_read outside place path run n (suc number) ls s
items_read outside place path run zero number (l ∷ ls) s =
    then_on (item_read outside place (record { path = path; run = run; number = number }) (first_item (l ∷ ls)) s)
    (λ t. items_read outside place path run (first_item (l ∷ ls)).more (suc number) ls t)

-- the whole file, and its end
abbrev pub file_read : Environment → Placing → List ℕ → ℕ → List ℕ → ReadState → Result ReadState TextFault
file_read outside place path run text s =
    then_on (items_read outside place path run 0 1 (lines text) s)
    (λ t. Ok (with_lines (end_of_file (record { path = path; run = run; number = length (lines text) + 1 }) ∷ []) t))

-- the text of a path that is included for a line, if there is room for it
abbrev pub text_placed : (List ℕ → ReadState → Result ReadState TextFault) → Place → List ℕ → Option (List ℕ) → ReadState → Result ReadState TextFault
text_placed read at wanted None s = Err (fault_at at (MissingSource wanted))
text_placed read at wanted (Some text) s =
    if nat_lt 16777216 (s.placed + length text) then Err (fault_at at Limit) else read text (entered text s)

-- The file of a path that a `source` line includes. The files of the paths `around` are open, and `n` more may
-- be. No file is included within itself, and 4096 `source` lines are followed at most.
abbrev pub placed : List File → Environment → ℕ → List (List ℕ) → Placing
placed files outside zero around at wanted s = if is_among wanted around then Err (fault_at at RecursiveSource) else Err (fault_at at Limit)
placed files outside (suc n) around at wanted s =
    if is_among wanted around then Err (fault_at at RecursiveSource)
    else (if nat_le 4096 s.followed then Err (fault_at at Limit)
    else text_placed (file_read outside (placed files outside n (around ++ wanted ∷ [])) wanted (s.followed + 1)) at wanted (text_of wanted files) s)

-- the top file, whose run is 0; 63 files may be open inside it
abbrev pub top_read : List File → Environment → List ℕ → Result ReadState TextFault
top_read files outside top = elim (text_of top files) [
  | None ↦ Err (At (MissingSource top) top 0)
  | Some text ↦ file_read outside (placed files outside 63 (top ∷ [])) top 0 text nothing_read
]

-- The logical lines of a top file, or the first fault. They are no more than MOST_LINES: each takes at least one byte of
-- the top file, which has 16777216 at most, or of the texts that are included, which have as many at most. The end of
-- a file that is included takes the bytes of its `source` line, and only the end of the top file takes none.
abbrev pub logical_lines_of : List File → Environment → List ℕ → Result (List LineValue) TextFault
logical_lines_of files outside top = then_on (top_read files outside top) (λ s. Ok s.lines)
