-- This project's own: in which order the files of a Kconfig are listed.
use Rattle.std.specs.Prelude.{◌≡◌, ℕ, Bool, true, false, List, [], ◌∷◌, ◌++◌, map, if◌then◌else◌}
use denote.Ref.{Bor}
use Rattle.std.specs.List.{filter, list_any}
use Rattle.std.specs.List.Sorted.{IsPermutation, IsNonDecreasingBy}
use Rattle.std.specs.Str.{bytes_eq}
use Rattle.kc_text.specs.LineValue.{LineValue}
use Rattle.kc_text.specs.declared.line.LineKind.{LineKind}
use Rattle.kc_text.specs.declared.line.LineKind.TheVariants.{Statement, EndOfFile}

abbrev pub is_end_kind : LineKind → Bool
is_end_kind Statement = false
is_end_kind EndOfFile = true

abbrev pub is_end : LineValue → Bool
is_end l = is_end_kind l.kind

-- which putting in place of a file it ends, and the path of that
abbrev pub end_of : LineValue → ℕ × List ℕ
end_of l = (l.run, l.path)

-- the same of a number and a path that is lent
abbrev pub shown : ℕ × Bor (List ℕ) → ℕ × List ℕ
shown e = (e.0, e.1.now)

-- the ends of the files among lines, in the order of their numbers
pub record AreEndsInOrder (lines : List LineValue) (ends : List (ℕ × Bor (List ℕ))) : Type 0 where
  pub read : List (ℕ × Bor (List ℕ))
  pub all : map shown read ≡ map end_of (filter is_end lines)
  pub permuted : IsPermutation read ends
  pub ordered : IsNonDecreasingBy (λ (e : ℕ × Bor (List ℕ)). e.0) ends

abbrev pub has_path : List (Bor (List ℕ)) → List ℕ → Bool
has_path paths path = list_any (λ p. bytes_eq p.now path) paths

-- the paths that are not among those before, each where it is the first time
abbrev pub once : List (Bor (List ℕ)) → List (ℕ × Bor (List ℕ)) → List (Bor (List ℕ))
once before [] = []
once before (e ∷ es) = if has_path before e.1.now then once before es else e.1 ∷ once (before ++ e.1 ∷ []) es

-- the paths of the files, each once, in the order in which the files were first read
pub record AreFirstReads (lines : List LineValue) (paths : List (Bor (List ℕ))) : Type 0 where
  pub ends : List (ℕ × Bor (List ℕ))
  pub in_order : AreEndsInOrder lines ends
  pub listed : paths ≡ once [] ends
