-- Lines that define variables: kconfig-macro-language.rst, "Variables". The lines are this project's own: blanks, a
-- name, blanks, one of = := +=, and the value up to the end of the line.
use Rattle.std.specs.Prelude.{ℕ, List, [], ◌∷◌, Option, Some, None, if◌then◌else◌, ◌==◌, ◌&&◌, drop}
use Rattle.std.specs.List.{prefix_len}
use Rattle.kc_text.specs.declared.variables.Assignment.TheVariants.{Later, AtOnce, Append}
use Rattle.kc_text.specs.declared.variables.Definition.{Definition}
use Rattle.kc_text.specs.Bytes.{is_name, begins_with, behind_blanks, trimmed}
use Rattle.kc_text.specs.References.{leading_name}

-- what the name is given, from the bytes after it and its blanks
abbrev pub assignment_in : List ℕ → List ℕ → Option Definition
assignment_in name [] = None
assignment_in name (b ∷ bs) =
    if b == 61 then Some (record { name = name; assignment = Later; value = trimmed bs })
    else (if b == 58 && begins_with 61 bs then Some (record { name = name; assignment = AtOnce; value = trimmed (drop 1 bs) })
    else (if b == 43 && begins_with 61 bs then Some (record { name = name; assignment = Append; value = trimmed (drop 1 bs) })
    else None))

-- the definition that a line from its first word on makes, if it makes one
abbrev pub definition_after_blanks : List ℕ → Option Definition
definition_after_blanks bs =
    if prefix_len is_name bs == 0 then None
    else assignment_in (leading_name bs) (behind_blanks (drop (prefix_len is_name bs) bs))

-- the definition that a line makes, if it makes one
abbrev pub definition_of : List ℕ → Option Definition
definition_of line = definition_after_blanks (behind_blanks line)
