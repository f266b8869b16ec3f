-- The files that were read as contracts see them: this project's own.
use Rattle.std.specs.Prelude.{◌≡◌, ◌≤◌, ℕ, List, length, map}
use Rattle.std.specs.BTreeMap.{BTreeMap}
use Rattle.std.specs.List.{sum_by}
use denote.Ref.{Bor}
use Rattle.kc_text.specs.FileList.{File}

-- the path and the text of an entry
abbrev pub lent_file : Bor (List ℕ) × Bor (List ℕ) → File
lent_file e = (e.0.now, e.1.now)

-- the files of a map, in the order of their paths' bytes
abbrev pub lent_files : BTreeMap (Bor (List ℕ)) (Bor (List ℕ)) → List File
lent_files m = map lent_file m.entries

-- how many bytes the texts of files have
abbrev pub total_bytes : List File → ℕ
total_bytes files = sum_by (λ f. length f.1) files

-- the texts of a map have so many bytes, within the limit of 16777216
abbrev pub IsLentCounted : BTreeMap (Bor (List ℕ)) (Bor (List ℕ)) → ℕ → Type 0
IsLentCounted m bytes = (bytes ≡ total_bytes (lent_files m)) × (bytes ≤ 16777216)
