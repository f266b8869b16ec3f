-- The files as contracts see them: this project's own.
use Rattle.std.specs.Prelude.{◌≡◌, ◌≤◌, ℕ, List, length, map, String, string_bytes}
use Rattle.std.specs.BTreeMap.{BTreeMap, values, IsOrdered}
use Rattle.std.specs.List.{sum_by}
use Rattle.std.specs.String.{string_cmp}
use Rattle.std.specs.declared.alloc.Global.{Global}

-- a file's path and its text
abbrev pub File : Type 0
File = List ℕ × List ℕ

-- the path and the text of an entry
abbrev pub file_of : String Global × String Global → File
file_of e = (string_bytes e.0, string_bytes e.1)

-- the files of a map, in the order of their paths' bytes
abbrev pub file_list : BTreeMap (String Global) (String Global) → List File
file_list m = map file_of m.entries

-- how many bytes the texts of a map have
abbrev pub bytes_in : BTreeMap (String Global) (String Global) → ℕ
bytes_in m = sum_by (λ text. length (string_bytes text)) (values m)

-- the texts of a map have so many bytes, within the limit of 16777216; and its paths ascend
abbrev pub IsCounted : BTreeMap (String Global) (String Global) → ℕ → Type 0
IsCounted m bytes = (bytes ≡ bytes_in m) × (bytes ≤ 16777216) × IsOrdered string_cmp m
