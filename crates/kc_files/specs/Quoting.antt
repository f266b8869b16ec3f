-- Texts in quotes, as they stand in a `.config` and a header: `escape` of Kconfiglib and `sym_escape_string_value` of
-- the kernel's scripts/kconfig/symbol.c.
use Rattle.std.specs.Prelude.{ℕ, ◌==◌, Bool, ◌||◌, List, [], ◌∷◌, ◌++◌, if◌then◌else◌}

-- `"` and a backslash
abbrev pub is_special : ℕ → Bool
is_special b = b == 34 || b == 92

-- a backslash before each of these
abbrev pub escaped_byte : ℕ → List ℕ
escaped_byte b = if is_special b then 92 ∷ b ∷ [] else b ∷ []

abbrev pub escaped : List ℕ → List ℕ
escaped [] = []
escaped (b ∷ bs) = escaped_byte b ++ escaped bs

-- between quotes
abbrev pub quoted : List ℕ → List ℕ
quoted bs = 34 ∷ (escaped bs ++ 34 ∷ [])
