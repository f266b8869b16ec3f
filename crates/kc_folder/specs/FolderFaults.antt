-- This project's own: why a file gave no bytes.
use Rattle.std.specs.Prelude.{ℕ, Bool, true, false, List, codes}
use Rattle.std.specs.declared.io.ErrorKind.{ErrorKind}
use Rattle.std.specs.declared.io.ErrorKind.TheVariants.{NotADirectory, NotFound, OutOfMemory, PermissionDenied}
use Rattle.kc_folder.specs.declared.folder.FolderFault.{FolderFault}
use Rattle.kc_folder.specs.declared.folder.FolderFault.TheVariants.{CannotRead, NoMemory}

-- by what the system answers: any other error than out of memory means that the file can't be read
abbrev pub folder_fault : ErrorKind → FolderFault
folder_fault OutOfMemory = NoMemory
folder_fault _ = CannotRead

-- whether nothing is at a path: it is not there, or what is before a `/` in it is no directory
abbrev pub is_missing : ErrorKind → Bool
is_missing NotFound = true
is_missing NotADirectory = true
is_missing _ = false

-- what is said of a file that can't be opened, by what the system answers
abbrev pub reason_of : ErrorKind → List ℕ
reason_of NotFound = codes "no such file"
reason_of PermissionDenied = codes "permission denied"
reason_of _ = codes "the system can't open it"
