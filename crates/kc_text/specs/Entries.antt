-- What is read of the files, as one flat list of entries, and the logical lines or the first fault that it gives: this
-- project's own rules for the lines of kconfig-language.rst and the sources and variables of kconfig-macro-language.rst.
use Rattle.std.specs.Prelude.{◌≡◌, ◌⊎◌, ℕ, ◌+◌, Bool, true, false, List, [], ◌∷◌, ◌++◌, length, map, Option, Some, None, Result, Ok, Err, if◌then◌else◌, nat_le, nat_lt, count_by, sum_by, flat_map, codes}
use Rattle.std.specs.List.{filter_map, list_any}
use Rattle.std.specs.Str.{bytes_eq}
use Rattle.std.specs.Str.Lines.{lines}
use Rattle.kc_text.specs.declared.line.Token.{Token}
use Rattle.kc_text.specs.declared.line.Token.TheVariants.{Word, Expanded, Quoted, Operator}
use Rattle.kc_text.specs.declared.line.LineKind.TheVariants.{Statement, EndOfFile}
use Rattle.kc_text.specs.declared.fault.TextProblem.{TextProblem}
use Rattle.kc_text.specs.declared.fault.TextProblem.TheVariants.{Limit, BadCharacter, UnclosedQuote, MissingSource, RecursiveSource}
use Rattle.kc_text.specs.declared.fault.TextFault.{TextFault}
use Rattle.kc_text.specs.declared.fault.TextFault.TheVariants.{At, NoMemory}
use Rattle.kc_text.specs.declared.variables.Assignment.{Assignment}
use Rattle.kc_text.specs.declared.variables.Assignment.TheVariants.{Later, AtOnce, Append}
use Rattle.kc_text.specs.declared.variables.Definition.{Definition}
use Rattle.kc_text.specs.declared.variables.Value.{Value}
use Rattle.kc_text.specs.declared.variables.Value.TheVariants.{Recursive, Simple}
use Rattle.kc_text.specs.FileList.{File}
use Rattle.kc_text.specs.Sources.{text_of}
use Rattle.kc_text.specs.LineValue.{LineValue}
use Rattle.kc_text.specs.References.{Piece, byte, reference, malformed, value_pieces}
use Rattle.kc_text.specs.Names.{Names, Environment}
use Rattle.kc_text.specs.Steps.{then_on, is_among, puts, text_steps, all_steps, text_by}
use Rattle.kc_text.specs.ItemLists.{ItemLines, ItemValue, lines_in, text_in, AreItems, value_of}
use Rattle.kc_text.specs.Defining.{definition_of}
use Rattle.kc_text.specs.Meanings.{AreMeanings}
use Rattle.kc_text.specs.Shown.{Raw, word, quoted, operator, unclosed, not_allowed, Shows}

-- where a line is: the path of its file, the file's run and the line's number
pub record Place : Type 0 where
  pub path : List ℕ
  pub run : ℕ
  pub number : ℕ

-- the line of the tokens at a place; without tokens there is no line
abbrev pub statement : Place → List Token → Option (List ℕ) → List LineValue
statement at [] help = []
statement at (t ∷ ts) help = record { path = at.path; number = at.number; run = at.run; kind = Statement; tokens = t ∷ ts; help = help } ∷ []

-- the end of a file, at the number after its last line
abbrev pub end_of_file : Place → LineValue
end_of_file at = record { path = at.path; number = at.number; run = at.run; kind = EndOfFile; tokens = []; help = None }

-- what is read of an item, or the end of a file
pub data Entry : Type 0 where
  -- the line that it is, or none
  shows : List LineValue → Entry
  -- a definition
  defines : Definition → Entry
  -- a `source` line that is followed, with the text that it includes
  places : List ℕ → Entry

abbrev pub shown_by : Entry → List LineValue
shown_by (shows ls) = ls
shown_by (defines d) = []
shown_by (places text) = []

abbrev pub defined_by : Entry → Option Definition
defined_by (shows ls) = None
defined_by (defines d) = Some d
defined_by (places text) = None

abbrev pub is_placing : Entry → Bool
is_placing (shows ls) = false
is_placing (defines d) = false
is_placing (places text) = true

-- how many bytes an entry includes
abbrev pub bytes_by : Entry → ℕ
bytes_by (shows ls) = 0
bytes_by (defines d) = 0
bytes_by (places text) = length text

-- the lines of entries
abbrev pub shown_in : List Entry → List LineValue
shown_in es = flat_map shown_by es

-- the definitions among entries
abbrev pub definitions_in : List Entry → List Definition
definitions_in es = filter_map defined_by es

-- how many `source` lines were followed
abbrev pub followed_in : List Entry → ℕ
followed_in es = count_by is_placing es

-- how many bytes these include
abbrev pub placed_in : List Entry → ℕ
placed_in es = sum_by bytes_by es

-- the end of a file, at the number after its last line
abbrev pub file_end : List ℕ → ℕ → List ℕ → Entry
file_end path run text = shows (end_of_file (record { path = path; run = run; number = length (lines text) + 1 }) ∷ [])

-- what an item asks for: an entry, or the file of a path in its place
pub data Answer : Type 0 where
  entry : Entry → Answer
  wants : List ℕ → Answer

-- the problem in a result
abbrev pub problem_in : {A : Type 0} → Result A TextProblem → Option TextProblem
problem_in (Ok x) = None
problem_in (Err problem) = Some problem

-- what is wrong with a value after what a name means: with one that is added to a text as it is, after one space; the
-- others are expanded where they are used
abbrev pub added_problem : Environment → Names → List ℕ → Option Value → Option TextProblem
added_problem outside names value None = None
added_problem outside names value (Some (Recursive text)) = None
added_problem outside names value (Some (Simple text)) = problem_in (all_steps (record { text = text; followed = 0 }) (puts (32 ∷ []) ∷ text_steps names outside (value_pieces value)))

-- what is wrong with a value for a name
abbrev pub value_problem : Environment → Names → Assignment → List ℕ → List ℕ → Option TextProblem
value_problem outside names Later name value = None
value_problem outside names AtOnce name value = problem_in (text_by names outside (value_pieces value))
value_problem outside names Append name value = added_problem outside names value (names name)

-- whether a part of a word is a reference
abbrev pub is_reference : Piece → Bool
is_reference (byte b) = false
is_reference (reference name) = true
is_reference malformed = false

-- a word that holds a reference is never a keyword, whatever its text
abbrev pub word_of : List Piece → List ℕ → Token
word_of ps text = if list_any is_reference ps then Expanded text else Word text

-- the token of what a line shows, or the problem there
abbrev pub token_by : Names → Environment → Raw → Result Token TextProblem
token_by names outside (word ps) = then_on (text_by names outside ps) (λ text. Ok (word_of ps text))
token_by names outside (quoted ps) = then_on (text_by names outside ps) (λ text. Ok (Quoted text))
token_by names outside (operator o) = Ok (Operator o)
token_by names outside (unclosed ps) = then_on (text_by names outside ps) (λ _. Err UnclosedQuote)
token_by names outside not_allowed = Err BadCharacter

-- the values of results, or the first problem from the left
abbrev pub all_ok : {A : Type 0} → List (Result A TextProblem) → Result (List A) TextProblem
all_ok [] = Ok []
all_ok (r ∷ rs) = then_on r (λ x. then_on (all_ok rs) (λ xs. Ok (x ∷ xs)))

-- the path that a `source` line names: the unquoted word, and one quoted text
abbrev pub source_path : List Token → Option (List ℕ)
source_path (Word w ∷ Quoted path ∷ []) = if bytes_eq w (codes "source") then Some path else None
source_path _ = None

-- what tokens at a place ask for: the file of a path, or the line of these tokens
abbrev pub tokens_answer : Place → Option (List ℕ) → List Token → Answer
tokens_answer at help ts = elim (source_path ts) [ Some wanted ↦ wants wanted | None ↦ entry (shows (statement at ts help)) ]

-- what an item at a place asks for, or its problem, where its text shows `rs`; it has at most 65536 bytes
abbrev pub item_answer : Environment → Names → Place → ItemValue → List Raw → Result Answer TextProblem
item_answer outside names at item rs =
    if nat_lt 65536 (length item.text) then Err Limit
    else (elim (definition_of item.text) [
      | Some d ↦ (elim (value_problem outside names d.assignment d.name d.value) [ Some problem ↦ Err problem | None ↦ Ok (entry (defines d)) ])
      | None ↦ then_on (all_ok (map (token_by names outside) rs)) (λ ts. Ok (tokens_answer at item.help ts))
    ])

-- an item at a place asks for this, or has this problem, where names mean `names`
abbrev pub Answers : Environment → Names → Place → ItemLines → Result Answer TextProblem → Type 0
Answers outside names at i a = (rs : List Raw) × Shows (text_in i) rs × (item_answer outside names at (value_of i) rs ≡ a)

-- the text of the file of a path that is included after entries, if there is room for it: 16777216 bytes in all
abbrev pub room_answer : List Entry → List ℕ → Option (List ℕ) → Result (List ℕ) TextProblem
room_answer before wanted None = Err (MissingSource wanted)
room_answer before wanted (Some text) = if nat_lt 16777216 (placed_in before + length text) then Err Limit else Ok text

-- The text that a `source` line includes after entries, or its problem. The files of the paths `around` are open. No
-- file is included within itself, 64 files are open at most, and 4096 `source` lines are followed at most.
abbrev pub source_answer : List File → List Entry → List (List ℕ) → List ℕ → Result (List ℕ) TextProblem
source_answer files before around wanted =
    if is_among wanted around then Err RecursiveSource
    else (if nat_le 64 (length around) then Err Limit
    else (if nat_le 4096 (followed_in before) then Err Limit
    else room_answer before wanted (text_of wanted files)))

-- The items of a file from a line's number on are read, after the entries `before`, as these entries, and then end, or
-- have a fault. The file has this path and run. The files of the paths `around` are open, its own last, and `means` says
-- what names mean after entries.
pub data Reads (files : List File) (outside : Environment) (means : List Entry → Names) : List Entry → List (List ℕ) → List ℕ → ℕ → ℕ → List ItemLines → List Entry → Option TextFault → Type 0 where
  ended : {before : List Entry} {around : List (List ℕ)} {path : List ℕ} {run number : ℕ}
      → Reads files outside means before around path run number [] [] None
  -- an item is an entry
  plain : {before : List Entry} {around : List (List ℕ)} {path : List ℕ} {run number : ℕ} {i : ItemLines} {is : List ItemLines} {e : Entry} {es : List Entry} {f : Option TextFault}
      → Answers outside (means before) (record { path = path; run = run; number = number }) i (Ok (entry e))
      → Reads files outside means (before ++ e ∷ []) around path run (number + length (lines_in i)) is es f
      → Reads files outside means before around path run number (i ∷ is) (e ∷ es) f
  -- an item has a problem
  fails : {before : List Entry} {around : List (List ℕ)} {path : List ℕ} {run number : ℕ} {i : ItemLines} {is : List ItemLines} {problem : TextProblem}
      → Answers outside (means before) (record { path = path; run = run; number = number }) i (Err problem)
      → Reads files outside means before around path run number (i ∷ is) [] (Some (At problem path number))
  -- a `source` line has a problem
  refused : {before : List Entry} {around : List (List ℕ)} {path : List ℕ} {run number : ℕ} {i : ItemLines} {is : List ItemLines} {w : List ℕ} {problem : TextProblem}
      → Answers outside (means before) (record { path = path; run = run; number = number }) i (Ok (wants w))
      → source_answer files before around w ≡ Err problem
      → Reads files outside means before around path run number (i ∷ is) [] (Some (At problem path number))
  -- an included file has a fault
  stopped : {before : List Entry} {around : List (List ℕ)} {path : List ℕ} {run number : ℕ} {i : ItemLines} {is : List ItemLines} {w text : List ℕ} {js : List ItemLines} {inner : List Entry} {fault : TextFault}
      → Answers outside (means before) (record { path = path; run = run; number = number }) i (Ok (wants w))
      → source_answer files before around w ≡ Ok text
      → AreItems (lines text) js
      → Reads files outside means (before ++ places text ∷ []) (around ++ w ∷ []) w (followed_in before + 1) 1 js inner (Some fault)
      → Reads files outside means before around path run number (i ∷ is) (places text ∷ inner) (Some fault)
  -- an included file is read up to its end
  sourced : {before : List Entry} {around : List (List ℕ)} {path : List ℕ} {run number : ℕ} {i : ItemLines} {is : List ItemLines} {w text : List ℕ} {js : List ItemLines} {inner es : List Entry} {f : Option TextFault}
      → Answers outside (means before) (record { path = path; run = run; number = number }) i (Ok (wants w))
      → source_answer files before around w ≡ Ok text
      → AreItems (lines text) js
      → Reads files outside means (before ++ places text ∷ []) (around ++ w ∷ []) w (followed_in before + 1) 1 js inner None
      → Reads files outside means (before ++ places text ∷ (inner ++ file_end w (followed_in before + 1) text ∷ [])) around path run (number + length (lines_in i)) is es f
      → Reads files outside means before around path run number (i ∷ is) (places text ∷ (inner ++ file_end w (followed_in before + 1) text ∷ es)) f

-- The top file, which has this text, is read as these entries, and then ends, or has a fault. What names mean after
-- entries follows from the definitions among them.
pub record TopReads (files : List File) (outside : Environment) (top text : List ℕ) (es : List Entry) (f : Option TextFault) : Type 0 where
  pub is_text : text_of top files ≡ Some text
  pub items : List ItemLines
  pub are : AreItems (lines text) items
  pub at : ℕ → Names
  pub meanings : AreMeanings outside (definitions_in es) at
  pub reads : Reads files outside (λ before. at (length (definitions_in before))) [] (top ∷ []) top 0 1 items es f

-- the logical lines of a top file: those of all that is read, and its end
pub record AreLines (files : List File) (outside : Environment) (top : List ℕ) (ls : List LineValue) : Type 0 where
  pub text : List ℕ
  pub entries : List Entry
  pub reads : TopReads files outside top text entries None
  pub shown : ls ≡ shown_in (entries ++ file_end top 0 text ∷ [])

-- the first fault of a top file and all that it sources
pub data IsFirstTextFault (files : List File) (outside : Environment) (top : List ℕ) : TextFault → Type 0 where
  no_top : text_of top files ≡ None → IsFirstTextFault files outside top (At (MissingSource top) top 0)
  at_line : {text : List ℕ} {es : List Entry} {fault : TextFault} → TopReads files outside top text es (Some fault) → IsFirstTextFault files outside top fault

-- a call ends in a fault: it is the first one of the top file, or there is no memory left
abbrev pub IsTextFault : List File → Environment → List ℕ → TextFault → Type 0
IsTextFault files outside top (At problem path line) = IsFirstTextFault files outside top (At problem path line)
IsTextFault files outside top NoMemory = Unit {0}

-- The files have logical lines or a first fault: one list of lines or one fault, and never both.
pub record HasOneReading (files : List File) (outside : Environment) (top : List ℕ) : Type 0 where
  pub some : ((ls : List LineValue) × AreLines files outside top ls) ⊎ ((f : TextFault) × IsFirstTextFault files outside top f)
  pub one_list : (ls ms : List LineValue) → AreLines files outside top ls → AreLines files outside top ms → ls ≡ ms
  pub one_fault : (f g : TextFault) → IsFirstTextFault files outside top f → IsFirstTextFault files outside top g → f ≡ g
  pub never_both : (ls : List LineValue) (f : TextFault) → AreLines files outside top ls → IsFirstTextFault files outside top f → ⊥
