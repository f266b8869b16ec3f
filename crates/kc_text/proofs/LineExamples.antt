-- Worked examples of the definitions by whole lists. What is wanted comes from kconfig-language.rst and, for variables,
-- from kconfig-macro-language.rst.
use Rattle.std.proofs.Common.{◌≡◌, ℕ, List, [], ◌∷◌, map, take, Some, None, Result, Ok, Err, codes, refl, ap, ◌∙◌, arith}
use Rattle.kc_text.specs.declared.fault.TextProblem.{TextProblem}
use Rattle.kc_text.specs.declared.fault.TextProblem.TheVariants.{UnclosedQuote, BadReference, RecursiveVariable}
use Rattle.kc_text.specs.declared.fault.TextFault.TheVariants.{At}
use Rattle.kc_text.specs.declared.variables.Assignment.{Assignment}
use Rattle.kc_text.specs.declared.variables.Assignment.TheVariants.{Later, AtOnce, Append}
use Rattle.kc_text.specs.declared.variables.Definition.{Definition}
use Rattle.kc_text.specs.declared.line.LineKind.TheVariants.{Statement, EndOfFile}
use Rattle.kc_text.specs.declared.line.Operator.TheVariants.{Not, Equal, NotEqual}
use Rattle.kc_text.specs.declared.line.Token.TheVariants.{Word}
use Rattle.kc_text.specs.declared.variables.Value.TheVariants.{Recursive, Simple}
use Rattle.kc_text.specs.Entries.{AreLines, IsFirstTextFault}
use Rattle.kc_text.specs.FileList.{File}
use Rattle.kc_text.specs.ItemLists.{ItemLines, AreItems, value_of}
use Rattle.kc_text.specs.Meanings.{counting, AreMeanings}
use Rattle.kc_text.specs.Names.{Names, Environment}
use Rattle.kc_text.specs.References.{byte, value_pieces}
use Rattle.kc_text.specs.Shown.{Raw, word, quoted, operator, unclosed, Shows}
use Rattle.kc_text.specs.Steps.{Progress, Step, start, then_on, puts, follows, fails, text_steps, all_steps, text_by}
use Rattle.kc_text.proofs.EntryLaws.{lines_law}
use Rattle.kc_text.proofs.ItemLaws.{items_within-are}
use Rattle.kc_text.proofs.MeaningLaws.{names_after, meanings_law}
use Rattle.kc_text.proofs.ShownLaws.{shown}

-- ---- items
abbrev item : List (List ℕ) → List (List ℕ) → ItemLines
item run help = record { run = run; help = help }

-- a line that ends in a backslash is of the item of the next line; a last one is an item without it
abbrev joined_lines : List (List ℕ)
joined_lines = codes "config \\" ∷ codes "A" ∷ codes "bool" ∷ codes "x\\" ∷ []

pub joined_items : AreItems joined_lines (item (codes "config \\" ∷ codes "A" ∷ []) [] ∷ item (codes "bool" ∷ []) [] ∷ item (codes "x\\" ∷ []) [] ∷ [])
joined_items = items_within-are 4 joined_lines (omega arith)

pub joined_value : value_of (item (codes "config \\" ∷ codes "A" ∷ []) []) ≡ record { text = codes "config A"; help = None; more = 1 }
joined_value = refl

-- a help text ends before the line that is indented less than its first one, and blank lines may be in it
abbrev help_lines : List (List ℕ)
help_lines = codes "help" ∷ codes "  one" ∷ [] ∷ codes "   two" ∷ codes " config A" ∷ []

abbrev help_item : ItemLines
help_item = item (codes "help" ∷ []) (codes "  one" ∷ [] ∷ codes "   two" ∷ [])

pub help_items : AreItems help_lines (help_item ∷ item (codes " config A" ∷ []) [] ∷ [])
help_items = items_within-are 5 help_lines (omega arith)

pub help_value : value_of help_item ≡ record { text = codes "help"; help = Some (codes "one\n\n two\n"); more = 3 }
help_value = refl

-- ---- meanings
abbrev outside : Environment
outside = λ _. None

abbrev sets_A : Assignment → List ℕ → Definition
sets_A kind value = record { name = codes "A"; assignment = kind; value = value }

-- A = x, A += y, A := z, A += w
abbrev four : List Definition
four = sets_A Later (codes "x") ∷ sets_A Append (codes "y") ∷ sets_A AtOnce (codes "z") ∷ sets_A Append (codes "w") ∷ []

pub first_two_count : counting (take 2 four) (codes "A") ≡ (0, sets_A Later (codes "x")) ∷ (1, sets_A Append (codes "y")) ∷ []
first_two_count = refl

pub last_two_count : counting four (codes "A") ≡ (2, sets_A AtOnce (codes "z")) ∷ (3, sets_A Append (codes "w")) ∷ []
last_two_count = refl

-- what was appended before a later `=` does not count
pub appended_before : counting (sets_A Append (codes "y") ∷ sets_A Later (codes "z") ∷ []) (codes "A") ≡ (1, sets_A Later (codes "z")) ∷ []
appended_before = refl

pub none_counts : counting four (codes "B") ≡ []
none_counts = refl

pub after_two : (at : ℕ → Names) → AreMeanings outside four at → at 2 (codes "A") ≡ Some (Recursive (codes "x y"))
after_two at are = are.each 2 (codes "A") (omega arith)

pub after_four : (at : ℕ → Names) → AreMeanings outside four at → at 4 (codes "A") ≡ Some (Simple (codes "z w"))
after_four at are =
    let own = (meanings_law outside).meant four _ refl in
    ap (λ names. names (codes "A")) ((meanings_law outside).only four at own.0 are own.1 4 (omega arith) ∙ own.2)

-- ---- expansions
-- the text that references come to after definitions
abbrev text_after : List Definition → List ℕ → Result (List ℕ) TextProblem
text_after ds text = then_on (names_after outside ds) (λ names. text_by names outside (value_pieces text))

-- A = a$(B), C := a$(B), B = b
abbrev later_B : List Definition
later_B = sets_A Later (codes "a$(B)") ∷ record { name = codes "C"; assignment = AtOnce; value = codes "a$(B)" } ∷ record { name = codes "B"; assignment = Later; value = codes "b" } ∷ []

pub expanded_at_use : text_after later_B (codes "<$(A)>") ≡ Ok (codes "<ab>")
expanded_at_use = refl

pub expanded_at_once : text_after later_B (codes "<$(C)>") ≡ Ok (codes "<a>")
expanded_at_once = refl

-- A = $(A)
abbrev in_itself : Names
in_itself = λ name. Some (Recursive (codes "$(A)"))

abbrev steps_of : List ℕ → List Step
steps_of text = text_steps in_itself outside (value_pieces text)

abbrev problem : TextProblem → Result Progress TextProblem
problem p = Err p

pub steps_in_itself : steps_of (codes "x$(A)") ≡ puts (codes "x") ∷ follows ∷ fails RecursiveVariable ∷ []
steps_in_itself = refl

pub recursive_first : all_steps start (steps_of (codes "$(A)$")) ≡ problem RecursiveVariable
recursive_first = refl

pub bad_dollar_first : all_steps start (steps_of (codes "$A$(A)")) ≡ problem BadReference
bad_dollar_first = refl

-- ---- lines
abbrev bytes : List ℕ → Raw
bytes text = word (map byte text)

pub comment_is_none : Shows (codes "config FOO # c") (bytes (codes "config") ∷ bytes (codes "FOO") ∷ [])
comment_is_none = shown (codes "config FOO # c")

pub escaped_quote : Shows (codes "default \"a\\\"b\" if X != y")
    (bytes (codes "default") ∷ quoted (map byte (codes "a\"b")) ∷ bytes (codes "if") ∷ bytes (codes "X") ∷ operator NotEqual ∷ bytes (codes "y") ∷ [])
escaped_quote = shown (codes "default \"a\\\"b\" if X != y")

pub two_signs : Shows (codes "! =") (operator Not ∷ operator Equal ∷ [])
two_signs = shown (codes "! =")

pub open_quote : Shows (codes "bool 'a") (bytes (codes "bool") ∷ unclosed (map byte (codes "a")) ∷ [])
open_quote = shown (codes "bool 'a")

-- ---- files
abbrev with_text : List ℕ → List File
with_text text = (codes "K", text) ∷ []

pub lines_of_file : AreLines (with_text (codes "config \\\nA # c\n")) outside (codes "K")
    (record { path = codes "K"; number = 1; run = 0; kind = Statement; tokens = Word (codes "config") ∷ Word (codes "A") ∷ []; help = None }
    ∷ record { path = codes "K"; number = 3; run = 0; kind = EndOfFile; tokens = []; help = None } ∷ [])
lines_of_file = (lines_law (with_text (codes "config \\\nA # c\n")) outside (codes "K")).lines _ refl

pub fault_of_file : IsFirstTextFault (with_text (codes "config A\nbool 'a\n")) outside (codes "K") (At UnclosedQuote (codes "K") 2)
fault_of_file = (lines_law (with_text (codes "config A\nbool 'a\n")) outside (codes "K")).fault _ refl
