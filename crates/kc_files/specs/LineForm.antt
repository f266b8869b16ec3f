-- What a line of a `.config` says, before types are looked at: this project's own, after the lines that
-- the kernel's scripts/kconfig/confdata.c writes.
use Rattle.std.specs.Prelude.{◌≡◌, ◌≢◌, ◌⊎◌, ℕ, ◌==◌, Bool, true, not, ◌&&◌, List, [], ◌++◌, length, codes}
use Rattle.std.specs.List.{list_all}
use Rattle.std.specs.Str.{IsUtf8}
use Rattle.kc_statement.specs.Names.{is_name_byte}
use Rattle.kc_files.specs.declared.line_form.LineForm.{LineForm}
use Rattle.kc_files.specs.declared.line_form.LineForm.TheVariants.{Assigned, Unset, Nothing, Malformed}

-- one or more letters, digits and `_`
abbrev pub is_word : List ℕ → Bool
is_word w = not (length w == 0) && list_all is_name_byte w

-- `CONFIG_NAME=VALUE`, with the prefix in place of `CONFIG_`
abbrev pub IsAssignment : List ℕ → List ℕ → List ℕ → List ℕ → Type 0
IsAssignment prefix line name value = (is_word name ≡ true) × (line ≡ prefix ++ (name ++ (codes "=" ++ value)))

-- exactly `# CONFIG_NAME is not set`
abbrev pub IsUnset : List ℕ → List ℕ → List ℕ → Type 0
IsUnset prefix line name = (is_word name ≡ true) × (line ≡ codes "# " ++ (prefix ++ (name ++ codes " is not set")))

-- the line begins with `#`
abbrev pub IsComment : List ℕ → Type 0
IsComment line = (rest : List ℕ) × (line ≡ codes "#" ++ rest)

-- What a line says whose trailing blanks are dropped: a name with a value, or that a name is not set; nothing, where it
-- is empty or another comment; and any other line is malformed, as is one that isn't UTF-8.
abbrev pub HasForm : List ℕ → List ℕ → LineForm → Type 0
HasForm prefix line (Assigned name value) = IsUtf8 line × IsAssignment prefix line name value
HasForm prefix line (Unset name) = IsUtf8 line × IsUnset prefix line name
HasForm prefix line Nothing =
    IsUtf8 line × ((line ≡ []) ⊎ (IsComment line × ((name : List ℕ) → IsUnset prefix line name → ⊥)))
HasForm prefix line Malformed =
    (IsUtf8 line → ⊥)
    ⊎ ((line ≢ []) × (IsComment line → ⊥) × ((name value : List ℕ) → IsAssignment prefix line name value → ⊥))
