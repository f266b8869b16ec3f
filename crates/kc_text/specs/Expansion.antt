-- Steps: a text while it is expanded, part by part: kconfig-macro-language.rst, "Variables".
use Rattle.std.specs.Prelude.{ℕ, zero, suc, ◌+◌, List, [], ◌∷◌, ◌++◌, length, Result, Ok, Err, if◌then◌else◌, ◌==◌, ◌||◌, nat_le}
use Rattle.kc_text.specs.declared.fault.TextProblem.{TextProblem}
use Rattle.kc_text.specs.declared.fault.TextProblem.TheVariants.{Limit, BadReference, RecursiveVariable}
use Rattle.kc_text.specs.declared.variables.Value.TheVariants.{Recursive, Simple}
use Rattle.kc_text.specs.References.{Piece, byte, reference, malformed, value_pieces}
pub use Rattle.kc_text.specs.Names.{Names, Environment, names_in, texts_in, meaning}
pub use Rattle.kc_text.specs.Steps.{then_on, Progress, is_among, start}

-- the text with bytes after it: at most 65536, though no bytes need no room
abbrev pub put : List ℕ → Progress → Result Progress TextProblem
put bs p = if length bs == 0 || nat_le (length p.text + length bs) 65536 then Ok (record { text = p.text ++ bs; followed = p.followed }) else Err Limit

abbrev pub counted : Progress → Progress
counted p = record { text = p.text; followed = p.followed + 1 }

-- the text with parts after it, from left to right; `follow` adds the text of a name
abbrev pub expanded : (List ℕ → Progress → Result Progress TextProblem) → List Piece → Progress → Result Progress TextProblem
expanded follow [] p = Ok p
expanded follow (byte b ∷ ps) p = then_on (put (b ∷ []) p) (λ q. expanded follow ps q)
expanded follow (reference name ∷ ps) p = then_on (follow name p) (λ q. expanded follow ps q)
expanded follow (malformed ∷ ps) p = Err BadReference

-- The text with that of a name after it. The names `around` are being expanded, and `n` more may be. A name is
-- not to be needed in its own expansion; at most 65536 references are followed for one text.
abbrev pub followed : Names → Environment → ℕ → List (List ℕ) → List ℕ → Progress → Result Progress TextProblem
followed names outside zero around name p = if is_among name around then Err RecursiveVariable else Err Limit
followed names outside (suc n) around name p =
    if is_among name around then Err RecursiveVariable
    else (if nat_le 65536 p.followed then Err Limit
    else (elim (meaning names outside name) [
      | Recursive text ↦ expanded (followed names outside n (around ++ name ∷ [])) (value_pieces text) (counted p)
      | Simple text ↦ put text (counted p)
    ]))

-- the text with parts after it, where no name is being expanded and 64 may be
abbrev pub expansion : Names → Environment → List Piece → Progress → Result Progress TextProblem
expansion names outside ps p = expanded (followed names outside 64 []) ps p
