-- Steps: how the lines of a file are taken together, one after another: this project's own rules.
use Rattle.std.specs.Prelude.{ℕ, suc, ◌+◌, ◌-◌, List, [], ◌∷◌, ◌++◌, length, take, drop, if◌then◌else◌, Some, None}
use Rattle.kc_text.specs.Help.{is_help, help_len, help_text}
pub use Rattle.kc_text.specs.ItemLists.{ItemValue, ends_in_backslash, before_backslash}

-- the first line with those that are joined to it, each without its backslash
abbrev pub joined : List (List ℕ) → List ℕ
joined [] = []
joined (l ∷ ls) = if ends_in_backslash l then take (length l - 1) l ++ joined ls else l

-- how many lines are joined to the first one
abbrev pub joined_more : List (List ℕ) → ℕ
joined_more [] = 0
joined_more (l ∷ []) = 0
joined_more (l ∷ k ∷ ls) = if ends_in_backslash l then suc (joined_more (k ∷ ls)) else 0

-- the lines behind the first one and those that are joined to it
abbrev pub behind_joined : List (List ℕ) → List (List ℕ)
behind_joined lines = drop (joined_more lines + 1) lines

abbrev pub item_with : List ℕ → ℕ → List (List ℕ) → ItemValue
item_with text more behind =
    if is_help text then record { text = text; help = Some (help_text behind); more = more + help_len behind }
    else record { text = text; help = None; more = more }

-- the item that begins with the first line
abbrev pub first_item : List (List ℕ) → ItemValue
first_item lines = item_with (joined lines) (joined_more lines) (behind_joined lines)
