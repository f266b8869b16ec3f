-- The files whose texts are known, and what is asked of a folder: this project's own.
use Rattle.std.specs.Prelude.{◌≡◌, ℕ, List, Option, Some, None, Result, Ok, Err}
use denote.Ref.{Bor}
use Rattle.kc_text.specs.declared.fault.FileFault.{FileFault}
use Rattle.kc_text.specs.declared.fault.FileFault.TheVariants.{Files, Folder}
use Rattle.kc_text.specs.declared.files.Texts.{Texts}
use Rattle.kc_text.specs.declared.files.Texts.TheVariants.{Given, Read}
use Rattle.kc_text.specs.Faults.{Fails}
use Rattle.kc_text.specs.FileList.{File}
use Rattle.kc_text.specs.Folders.{FolderAnswer, has, lacks, refuses}
use Rattle.kc_text.specs.Sources.{added}

-- the files whose texts are known
abbrev pub known_files : {F : Type 0} → Texts F → List File
known_files (Given sources) = sources.now
known_files (Read library) = library.files

-- texts that are all given stay as they are
abbrev pub StaysGiven : {F : Type 0} → Texts F → Texts F → Type 0
StaysGiven {F} before after = (sources : Bor (List File)) → before ≡ Given sources → after ≡ Given sources

-- what a folder answers for a path is the answer of files: its text, if there is room for it among them
abbrev pub IsAnswer : {E : Type 0} → FolderAnswer → List ℕ → List File → Result (Option (Bor (List ℕ) × Bor (List ℕ))) (FileFault E) → Type 0
IsAnswer (has text) path files (Ok (Some file)) = file.1.now ≡ text
IsAnswer (has text) path files (Ok None) = ⊥
IsAnswer (has text) path files (Err (Files fault)) = Fails fault (added path text files)
IsAnswer (has text) path files (Err (Folder fault)) = ⊥
IsAnswer lacks path files (Ok None) = Unit {0}
IsAnswer lacks path files (Ok (Some file)) = ⊥
IsAnswer lacks path files (Err fault) = ⊥
IsAnswer refuses path files (Err (Folder fault)) = Unit {0}
IsAnswer refuses path files (Err (Files fault)) = ⊥
IsAnswer refuses path files (Ok file) = ⊥
