-- Classes of bytes, by the rules that this project takes from the line format of kconfig-language.rst and
-- kconfig-macro-language.rst.
use Rattle.std.specs.Prelude.{ℕ, Bool, false, List, [], ◌∷◌, ◌==◌, ◌||◌, ◌-◌, length, take, drop}
use Rattle.std.specs.List.{prefix_len, suffix_len}
use Rattle.std.specs.Char.{is_ascii_alphanumeric}

-- a space or a tab
abbrev pub is_blank : ℕ → Bool
is_blank b = b == 32 || b == 9

-- the end of a line
abbrev pub is_feed : ℕ → Bool
is_feed b = b == 10

-- an ASCII letter or digit, or one of _ . / -
abbrev pub is_word : ℕ → Bool
is_word b = is_ascii_alphanumeric b || (b == 95 || (b == 46 || (b == 47 || b == 45)))

-- a byte of a variable's name: an ASCII letter or digit, _ or -
abbrev pub is_name : ℕ → Bool
is_name b = is_ascii_alphanumeric b || (b == 95 || b == 45)

abbrev pub begins_with : ℕ → List ℕ → Bool
begins_with c [] = false
begins_with c (b ∷ bs) = b == c

-- the bytes behind the blanks at the beginning
abbrev pub behind_blanks : List ℕ → List ℕ
behind_blanks bs = drop (prefix_len is_blank bs) bs

-- the bytes before the blanks at the end
abbrev pub before_blanks : List ℕ → List ℕ
before_blanks bs = take (length bs - suffix_len is_blank bs) bs

-- the bytes without the blanks at both ends
abbrev pub trimmed : List ℕ → List ℕ
trimmed bs = before_blanks (behind_blanks bs)
