-- Steps: the tokens of a line, one after another: this project's own rules for the lines of kconfig-language.rst.
use Rattle.std.specs.Prelude.{ℕ, List, [], ◌∷◌, Result, Ok, Err}
use Rattle.kc_text.specs.declared.line.Token.{Token}
use Rattle.kc_text.specs.declared.line.Token.TheVariants.{Quoted, Operator}
use Rattle.kc_text.specs.declared.fault.TextProblem.{TextProblem}
use Rattle.kc_text.specs.declared.fault.TextProblem.TheVariants.{BadCharacter, UnclosedQuote}
use Rattle.kc_text.specs.Lexing.{Raw, word, quoted, operator, unclosed, not_allowed, raw_tokens}
use Rattle.kc_text.specs.Expansion.{Names, Environment, then_on, expansion, start}
pub use Rattle.kc_text.specs.Entries.{is_reference, word_of}

-- x before the list of a result
abbrev pub before : {A E : Type 0} → A → Result (List A) E → Result (List A) E
before x (Ok xs) = Ok (x ∷ xs)
before x (Err e) = Err e

-- those that were found before a result
abbrev pub ahead : {A E : Type 0} → List A → Result (List A) E → Result (List A) E
ahead [] r = r
ahead (x ∷ xs) r = before x (ahead xs r)

-- the token of what a line shows, or the fault there
abbrev pub token_of : Names → Environment → Raw → Result Token TextProblem
token_of names outside (word ps) = then_on (expansion names outside ps start) (λ p. Ok (word_of ps p.text))
token_of names outside (quoted ps) = then_on (expansion names outside ps start) (λ p. Ok (Quoted p.text))
token_of names outside (operator o) = Ok (Operator o)
token_of names outside (unclosed ps) = then_on (expansion names outside ps start) (λ _. Err UnclosedQuote)
token_of names outside not_allowed = Err BadCharacter

-- the tokens, or the first fault from the left
abbrev pub tokens_of : Names → Environment → List Raw → Result (List Token) TextProblem
tokens_of names outside [] = Ok []
tokens_of names outside (r ∷ rs) = then_on (token_of names outside r) (λ t. before t (tokens_of names outside rs))

-- the tokens of a line
abbrev pub line_tokens : Names → Environment → List ℕ → Result (List Token) TextProblem
line_tokens names outside line = tokens_of names outside (raw_tokens line)
