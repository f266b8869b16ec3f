-- The forms of statements and attributes: kconfig-language.rst, "Menu entries" and "Menu attributes".
use Rattle.std.specs.Prelude.{◌≡◌, ◌⊎◌, ℕ, List, [], ◌∷◌, ◌++◌, Option, Some, None, codes}
use Rattle.kc_text.specs.LineValue.{LineValue}
use Rattle.kc_text.specs.declared.line.LineKind.{LineKind}
use Rattle.kc_text.specs.declared.line.LineKind.TheVariants.{Statement as StatementLine}
use Rattle.kc_text.specs.declared.line.LineKind.TheVariants.{EndOfFile as EndLine}
use Rattle.kc_text.specs.declared.line.Token.{Token}
use Rattle.kc_text.specs.declared.line.Token.TheVariants.{Word, Quoted}
use Rattle.kc_statement.specs.declared.id.SymId.{SymId}
use Rattle.kc_statement.specs.declared.expr.Expr.{Expr}
use Rattle.kc_statement.specs.declared.expr.ExprKind.TheVariants.{Condition, Value}
use Rattle.kc_statement.specs.declared.expr.Term.{Term}
use Rattle.kc_statement.specs.declared.attribute.Prompt.{Prompt}
use Rattle.kc_statement.specs.declared.attribute.DefaultValue.{DefaultValue}
use Rattle.kc_statement.specs.declared.attribute.Range.{Range}
use Rattle.kc_statement.specs.declared.symbol_type.SymbolType.{SymbolType}
use Rattle.kc_statement.specs.declared.symbol_type.SymbolType.TheVariants as kind
use Rattle.kc_statement.specs.declared.keyword.Keyword.{Keyword}
use Rattle.kc_statement.specs.declared.keyword.Keyword.TheVariants as keyword
use Rattle.kc_statement.specs.declared.statement.Statement.{Statement}
use Rattle.kc_statement.specs.declared.statement.Statement.TheVariants as statement
use Rattle.kc_statement.specs.Keywords.{first_keyword}
use Rattle.kc_statement.specs.Names.{name_word}
use Rattle.kc_statement.specs.Grammar.{Derives, symbol_of, term}
use Rattle.kc_statement.specs.Names.{symbol_among}

-- ---- parts of forms
-- an unquoted word without reference
abbrev pub fixed : List ℕ → Token
fixed w = Word w

-- `if` and its condition, or nothing
abbrev pub IsCondition : List (List ℕ) → List Token → Option Expr → Type 0
IsCondition names tokens None = tokens ≡ []
IsCondition names tokens (Some e) = (rest : List Token) × (tokens ≡ fixed (codes "if") ∷ rest) × Derives Condition names rest e

-- a text in quotes, and perhaps a condition
abbrev pub IsPrompt : List (List ℕ) → List Token → Prompt → Type 0
IsPrompt names tokens p =
    (rest : List Token) × (tokens ≡ Quoted p.text ∷ rest) × IsCondition names rest p.condition

-- a value, and perhaps a condition
abbrev pub IsDefault : List (List ℕ) → List Token → DefaultValue → Type 0
IsDefault names tokens d =
    (value rest : List Token) × (tokens ≡ value ++ rest) × Derives Value names value d.value × IsCondition names rest d.condition

-- a name, and perhaps a condition
abbrev pub IsSelection : List (List ℕ) → List Token → Option SymId → Option Expr → Type 0
IsSelection names tokens symbol condition =
    (t : Token) × (name : List ℕ) × (rest : List Token) × (tokens ≡ t ∷ rest) × (name_word t ≡ Some name)
    × (symbol ≡ symbol_among names name) × IsCondition names rest condition

-- a word and a condition
abbrev pub IsWordAndCondition : List (List ℕ) → List ℕ → List Token → Expr → Type 0
IsWordAndCondition names w tokens e = (rest : List Token) × (tokens ≡ fixed w ∷ rest) × Derives Condition names rest e

abbrev pub IsQuoted : List Token → List ℕ → Type 0
IsQuoted tokens title = tokens ≡ Quoted title ∷ []

-- a token that is a term
abbrev pub IsTerm : List (List ℕ) → Token → Term → Type 0
IsTerm names t x = symbol_of names t ≡ term x

-- two terms, and perhaps a condition
abbrev pub IsRange : List (List ℕ) → List Token → Range → Type 0
IsRange names tokens r =
    (low high : Token) × (rest : List Token) × (tokens ≡ low ∷ high ∷ rest) × IsTerm names low r.low × IsTerm names high r.high
    × IsCondition names rest r.condition

-- the words that name a type alone, or with a default
abbrev pub type_word : SymbolType → Keyword
type_word kind.Bool = keyword.Bool
type_word kind.Tristate = keyword.Tristate
type_word kind.String = keyword.String
type_word kind.Int = keyword.Int
type_word kind.Hex = keyword.Hex

abbrev pub default_word : SymbolType → Option Keyword
default_word kind.Bool = Some keyword.DefBool
default_word kind.Tristate = Some keyword.DefTristate
default_word kind.String = None
default_word kind.Int = None
default_word kind.Hex = None

-- ---- the forms: the keyword, and the tokens after it
abbrev pub HasFormAfter : List (List ℕ) → Keyword → List Token → Statement → Type 0
HasFormAfter names k tokens statement.EndOfFile = ⊥
HasFormAfter names k tokens (statement.Config symbol) =
    (k ≡ keyword.Config) × (t : Token) × (name : List ℕ) × (tokens ≡ t ∷ []) × (name_word t ≡ Some name) × (symbol ≡ symbol_among names name)
HasFormAfter names k tokens (statement.Menu title) = (k ≡ keyword.Menu) × IsQuoted tokens title
HasFormAfter names k tokens statement.EndMenu = (k ≡ keyword.EndMenu) × (tokens ≡ [])
HasFormAfter names k tokens (statement.If e) = (k ≡ keyword.If) × Derives Condition names tokens e
HasFormAfter names k tokens statement.EndIf = (k ≡ keyword.EndIf) × (tokens ≡ [])
HasFormAfter names k tokens statement.Choice = (k ≡ keyword.Choice) × (tokens ≡ [])
HasFormAfter names k tokens statement.EndChoice = (k ≡ keyword.EndChoice) × (tokens ≡ [])
HasFormAfter names k tokens (statement.Comment title) = (k ≡ keyword.Comment) × IsQuoted tokens title
HasFormAfter names k tokens statement.MainMenu = (k ≡ keyword.MainMenu) × (title : List ℕ) × IsQuoted tokens title
HasFormAfter names k tokens (statement.Type kind) = (k ≡ type_word kind) × (tokens ≡ [])
HasFormAfter names k tokens (statement.TypeAndPrompt kind p) = (k ≡ type_word kind) × IsPrompt names tokens p
HasFormAfter names k tokens (statement.TypeAndDefault kind d) = (default_word kind ≡ Some k) × IsDefault names tokens d
HasFormAfter names k tokens (statement.Prompt p) = (k ≡ keyword.Prompt) × IsPrompt names tokens p
HasFormAfter names k tokens (statement.Default d) = (k ≡ keyword.Default) × IsDefault names tokens d
HasFormAfter names k tokens (statement.Range r) = (k ≡ keyword.Range) × IsRange names tokens r
HasFormAfter names k tokens (statement.DependsOn e) = (k ≡ keyword.Depends) × IsWordAndCondition names (codes "on") tokens e
HasFormAfter names k tokens (statement.VisibleIf e) = (k ≡ keyword.Visible) × IsWordAndCondition names (codes "if") tokens e
HasFormAfter names k tokens (statement.Select s c) = (k ≡ keyword.Select) × IsSelection names tokens s c
HasFormAfter names k tokens (statement.Imply s c) = (k ≡ keyword.Imply) × IsSelection names tokens s c
HasFormAfter names k tokens statement.Modules =
    ((k ≡ keyword.Modules) × (tokens ≡ [])) ⊎ ((k ≡ keyword.Option) × (tokens ≡ fixed (codes "modules") ∷ []))
HasFormAfter names k tokens statement.AllNoConfigYes = (k ≡ keyword.Option) × (tokens ≡ fixed (codes "allnoconfig_y") ∷ [])
HasFormAfter names k tokens statement.Optional = (k ≡ keyword.Optional) × (tokens ≡ [])
HasFormAfter names k tokens statement.Help = (k ≡ keyword.Help) × (tokens ≡ [])

-- an end of file says that alone
abbrev pub HasFormOf : List (List ℕ) → LineKind → List Token → Statement → Type 0
HasFormOf names EndLine tokens s = s ≡ statement.EndOfFile
HasFormOf names StatementLine [] s = ⊥
HasFormOf names StatementLine (t ∷ rest) s = (k : Keyword) × (first_keyword (t ∷ rest) ≡ Some k) × HasFormAfter names k rest s

-- a line says this
unfoldable pub HasForm : List (List ℕ) → LineValue → Statement → Type 0
HasForm names l s = HasFormOf names l.kind l.tokens s

-- a line says nothing
abbrev pub HasNoForm : List (List ℕ) → LineValue → Type 0
HasNoForm names l = (s : Statement) → HasForm names l s → ⊥
