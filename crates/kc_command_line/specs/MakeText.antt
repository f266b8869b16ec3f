-- The values of a `.config` as GNU make reads them: `print_symbol_for_autoconf` of the kernel's scripts/kconfig/confdata.c,
-- and which signs make reads otherwise (the manual of GNU make, "Parsing Makefiles" and "Setting Variables").
use Rattle.std.specs.Prelude.{ℕ, Bool, false, not, List, [], ◌∷◌, ◌++◌, length, ◌&&◌, ◌||◌, ◌==◌, nat_lt, if◌then◌else◌, codes}
use Rattle.std.specs.List.{flat_map, position_or_len, before_first, after_first, slice_index}
use Rattle.std.specs.Str.Lines.{lines}
use Rattle.kc_command_line.specs.Variables.{is_equals}

-- after a backslash that is left out, at which the first argument is true, each byte is one of the text
abbrev pub is_end : Bool → ℕ → Bool
is_end escape b = b == 34 && not escape

abbrev pub is_escape : Bool → ℕ → Bool
is_escape escape b = b == 92 && not escape

-- the text in quotes, up to the closing one
abbrev pub unquoted : Bool → List ℕ → List ℕ
unquoted escape [] = []
unquoted escape (b ∷ bs) =
    if is_end escape b then []
    else (if is_escape escape b then [] else b ∷ []) ++ unquoted (is_escape escape b) bs

-- a backslash or a carriage return: at the end of a line make reads it otherwise, and a backslash also before `#`
abbrev pub is_loose : ℕ → Bool
is_loose b = b == 92 || b == 13

-- a byte, after one of these or after another one: a dollar is doubled, `#` has a backslash, and a reference to the variable
-- without a name, which is empty, keeps it from the backslashes before it
abbrev pub make_byte : Bool → ℕ → List ℕ
make_byte loose b =
    if b == 36 then codes "$$"
    else (if b == 35 then (if loose then codes "$()\\#" else codes "\\#") else b ∷ [])

abbrev pub make_bytes : Bool → List ℕ → List ℕ
make_bytes loose [] = if loose then codes "$()" else []
make_bytes loose (b ∷ bs) = make_byte loose b ++ make_bytes (is_loose b) bs

-- make skips blanks before a value
abbrev pub begins_blank : List ℕ → Bool
begins_blank [] = false
begins_blank (b ∷ bs) = b == 32 || (b == 9 || (b == 11 || (b == 12 || b == 13)))

abbrev pub make_spelling : List ℕ → List ℕ
make_spelling value = (if begins_blank value then codes "$()" else []) ++ make_bytes false value

-- a value of a `.config`: a string is in quotes
abbrev pub make_value : List ℕ → List ℕ
make_value [] = make_spelling []
make_value (b ∷ bs) = if b == 34 then make_spelling (unquoted false bs) else make_spelling (b ∷ bs)

abbrev pub is_comment : List ℕ → Bool
is_comment line = slice_index line 0 == 35

-- the line of a line of a `.config`: none of a comment, and of a line without a value
abbrev pub make_line : List ℕ → List ℕ
make_line line =
    if is_comment line then []
    else (if nat_lt (position_or_len is_equals line) (length line)
    then before_first is_equals line ++ (codes "=" ++ (make_value (after_first is_equals line) ++ codes "\n"))
    else [])

abbrev pub make_text : List ℕ → List ℕ
make_text config = flat_map make_line (lines config)
