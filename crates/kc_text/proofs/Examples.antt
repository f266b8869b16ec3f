-- Worked examples, computed from the definitions.
use Rattle.std.proofs.Common.{◌≡◌, ℕ, List, [], ◌∷◌, ◌++◌, Some, None, Result, Ok, Err, codes, refl}
use Rattle.kc_text.specs.declared.line.Token.{Token}
use Rattle.kc_text.specs.declared.line.Token.TheVariants.{Word, Expanded, Quoted, Operator}
use Rattle.kc_text.specs.declared.line.Operator.TheVariants.{And, NotEqual}
use Rattle.kc_text.specs.declared.line.LineKind.TheVariants.{Statement, EndOfFile}
use Rattle.kc_text.specs.declared.fault.TextProblem.TheVariants.{BadCharacter, UnclosedQuote, MissingSource, RecursiveSource, BadReference, RecursiveVariable}
use Rattle.kc_text.specs.declared.fault.TextFault.{TextFault}
use Rattle.kc_text.specs.declared.fault.TextFault.TheVariants.{At}
use Rattle.kc_text.specs.FileList.{File}
use Rattle.kc_text.specs.LineValue.{LineValue}
use Rattle.kc_text.specs.Reading.{logical_lines_of}

-- the lines of a file K among files, with nothing passed in
abbrev read : List File → Result (List LineValue) TextFault
read files = logical_lines_of files (λ _. None) (codes "K")

-- the lines of a file K with this text alone
abbrev lines_of : List ℕ → Result (List LineValue) TextFault
lines_of text = read ((codes "K", text) ∷ [])

-- the text of lines
abbrev text : List (List ℕ) → List ℕ
text [] = []
text (l ∷ []) = l
text (l ∷ k ∷ ls) = l ++ 10 ∷ text (k ∷ ls)

abbrev fault : TextFault → Result (List LineValue) TextFault
fault f = Err f

abbrev line : ℕ → List Token → LineValue
line number tokens = record { path = codes "K"; number = number; run = 0; kind = Statement; tokens = tokens; help = None }

abbrev end : ℕ → LineValue
end number = record { path = codes "K"; number = number; run = 0; kind = EndOfFile; tokens = []; help = None }

pub joined_line : lines_of (text (codes "config \\" ∷ codes "A" ∷ [])) ≡ Ok (line 1 (Word (codes "config") ∷ Word (codes "A") ∷ []) ∷ end 3 ∷ [])
joined_line = refl

pub operators : lines_of (codes "a&&b != c") ≡ Ok (line 1 (Word (codes "a") ∷ Operator And ∷ Word (codes "b") ∷ Operator NotEqual ∷ Word (codes "c") ∷ []) ∷ end 2 ∷ [])
operators = refl

pub unclosed_quote : lines_of (text (codes "A" ∷ codes "bool 'a" ∷ [])) ≡ fault (At UnclosedQuote (codes "K") 2)
unclosed_quote = refl

pub bad_character : lines_of (codes "x @ $X") ≡ fault (At BadCharacter (codes "K") 1)
bad_character = refl

pub help_text : lines_of (text (codes "help" ∷ codes "  one" ∷ [] ∷ codes "   two  " ∷ codes "A" ∷ []))
    ≡ Ok (record { path = codes "K"; number = 1; run = 0; kind = Statement; tokens = Word (codes "help") ∷ []; help = Some (text (codes "one" ∷ [] ∷ codes " two" ∷ [] ∷ [])) } ∷ line 5 (Word (codes "A") ∷ []) ∷ end 6 ∷ [])
help_text = refl

pub later : lines_of (text (codes "A = $(B)" ∷ codes "B = 1" ∷ codes "default $(A)" ∷ [])) ≡ Ok (line 3 (Word (codes "default") ∷ Expanded (codes "1") ∷ []) ∷ end 4 ∷ [])
later = refl

pub at_once : lines_of (text (codes "A := $(B)" ∷ codes "B = 1" ∷ codes "default '$(A)'" ∷ [])) ≡ Ok (line 3 (Word (codes "default") ∷ Quoted [] ∷ []) ∷ end 4 ∷ [])
at_once = refl

pub appended_text : lines_of (text (codes "A = x" ∷ codes "A += y" ∷ codes "default '$(A)'" ∷ [])) ≡ Ok (line 3 (Word (codes "default") ∷ Quoted (codes "x y") ∷ []) ∷ end 4 ∷ [])
appended_text = refl

pub in_itself : lines_of (text (codes "A = $(A)" ∷ codes "default $(A)" ∷ [])) ≡ fault (At RecursiveVariable (codes "K") 2)
in_itself = refl

pub function : lines_of (codes "default $(f,x)") ≡ fault (At BadReference (codes "K") 1)
function = refl

pub missing : lines_of (codes "source 'b'") ≡ fault (At (MissingSource (codes "b")) (codes "K") 1)
missing = refl

pub ring : read ((codes "K", codes "source 'b'") ∷ (codes "b", codes "source 'b'") ∷ []) ≡ fault (At RecursiveSource (codes "b") 1)
ring = refl
