-- The files that are passed in, by their paths: this project's own rules.
use Rattle.std.specs.Prelude.{ℕ, ◌+◌, List, length, if◌then◌else◌, Bool, ◌&&◌, nat_le, Option, Result, Ok, Err, is_some}
use Rattle.std.specs.List.{sum_by}
use Rattle.std.specs.Str.{bytes_eq}
use Rattle.std.specs.Map.{lookup, remove_entry}
use Rattle.std.specs.BTreeMap.{insert_entry}
use Rattle.std.specs.Cmp.Lexicographic.{slice_cmp}
use Rattle.std.specs.Ordering.{nat_cmp}
use Rattle.kc_text.specs.declared.fault.TextProblem.TheVariants.{Limit}
use Rattle.kc_text.specs.declared.fault.TextFault.{TextFault}
use Rattle.kc_text.specs.declared.fault.TextFault.TheVariants.{At}
use Rattle.kc_text.specs.FileList.{File}

-- the text of the file of a path
abbrev pub text_of : List ℕ → List File → Option (List ℕ)
text_of path files = lookup (bytes_eq path) files

-- the bytes of the texts of all files but that of a path
abbrev pub other_bytes : List ℕ → List File → ℕ
other_bytes path files = sum_by (λ f. if bytes_eq path f.0 then 0 else length f.1) files

-- how many files there are with one of a path
abbrev pub count_with : List ℕ → List File → ℕ
count_with path files = if is_some (text_of path files) then length files else length files + 1

-- the files, in the order of their paths' bytes, with a text for a path in place of the one before
abbrev pub put : List ℕ → List ℕ → List File → List File
put path text files = insert_entry (slice_cmp nat_cmp) files path text

-- whether the files with a text for a path keep their limits: 4096 files, and 16777216 bytes in all texts
abbrev pub keeps_limits : List ℕ → List ℕ → List File → Bool
keeps_limits path text files = nat_le (count_with path files) 4096 && nat_le (other_bytes path files + length text) 16777216

-- the files after a text was added
abbrev pub added : List ℕ → List ℕ → List File → Result (List File) TextFault
added path text files = if keeps_limits path text files then Ok (put path text files) else Err (At Limit path 0)

-- the files but that of a path
abbrev pub without : List ℕ → List File → List File
without path files = remove_entry (bytes_eq path) files
