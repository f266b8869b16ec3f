-- What variables mean, looked back through the list of definitions: kconfig-macro-language.rst, "Variables".
use Rattle.std.specs.Prelude.{◌≡◌, ℕ, ◌≤◌, Bool, true, false, List, [], ◌∷◌, ◌++◌, length, take, map, Option, Some, None, Result, Ok, if◌then◌else◌}
use Rattle.std.specs.List.{filter, list_any, enumerate_from}
use Rattle.std.specs.Str.{bytes_eq}
use Rattle.kc_text.specs.declared.fault.TextProblem.{TextProblem}
use Rattle.kc_text.specs.declared.variables.Assignment.{Assignment}
use Rattle.kc_text.specs.declared.variables.Assignment.TheVariants.{Later, AtOnce, Append}
use Rattle.kc_text.specs.declared.variables.Definition.{Definition}
use Rattle.kc_text.specs.declared.variables.Value.{Value}
use Rattle.kc_text.specs.declared.variables.Value.TheVariants.{Recursive, Simple}
use Rattle.kc_text.specs.References.{value_pieces}
use Rattle.kc_text.specs.Names.{Names, Environment}
use Rattle.kc_text.specs.Steps.{text_by}

-- a definition with its place in the list of all of them
abbrev pub Placed : Type 0
Placed = ℕ × Definition

-- whether a definition is one of a name
abbrev pub is_of : List ℕ → Placed → Bool
is_of name e = bytes_eq e.1.name name

-- whether a definition gives its name a new text, as `=` and `:=` do
abbrev pub sets : Placed → Bool
sets e = elim (e.1.assignment) [ Append ↦ false | _ ↦ true ]

-- the elements from the last one on that passes a test; all of them where none does
abbrev pub from_last : {X : Type 0} → (X → Bool) → List X → List X
from_last p [] = []
from_last p (x ∷ xs) = if list_any p xs then from_last p xs else x ∷ xs

-- the definitions that make up what a name means: those of the name, from its last `=` or `:=` on; all of them where
-- it has none, since the first `+=` acts as `=` then
abbrev pub counting : List Definition → List ℕ → List Placed
counting ds name = from_last sets (filter (is_of name) (enumerate_from 0 ds))

-- texts in a row, with one space between each two
abbrev pub spaced : List (List ℕ) → List ℕ
spaced [] = []
spaced (t ∷ []) = t
spaced (t ∷ u ∷ ts) = t ++ 32 ∷ spaced (u ∷ ts)

-- the expanded value of a definition, by what names mean at its own place
abbrev pub value_at : Environment → (ℕ → Names) → Placed → Result (List ℕ) TextProblem
value_at outside at e = text_by (at e.0) outside (value_pieces e.1.value)

-- What definitions make their name mean, where the first of them is of this kind. After `:=` the value of each is
-- expanded at its own place; else each use expands their values.
abbrev pub MadeBy : Assignment → Environment → (ℕ → Names) → List Placed → Option Value → Type 0
MadeBy AtOnce outside at es meant = (texts : List (List ℕ)) × (map (value_at outside at) es ≡ map Ok texts) × (meant ≡ Some (Simple (spaced texts)))
MadeBy Later outside at es meant = meant ≡ Some (Recursive (spaced (map (λ e. e.1.value) es)))
MadeBy Append outside at es meant = meant ≡ Some (Recursive (spaced (map (λ e. e.1.value) es)))

-- what a name means by the definitions that make it up
abbrev pub Means : Environment → (ℕ → Names) → List Placed → Option Value → Type 0
Means outside at [] meant = meant ≡ None
Means outside at (e ∷ es) meant = MadeBy e.1.assignment outside at (e ∷ es) meant

-- what names mean at each place of a list of definitions, from before the first to after the last
pub record AreMeanings (outside : Environment) (ds : List Definition) (at : ℕ → Names) : Type 0 where
  pub each : (k : ℕ) (name : List ℕ) → k ≤ length ds → Means outside at (counting (take k ds) name) (at k name)
