-- An expansion as one list of steps: kconfig-macro-language.rst, "Variables", with this project's own limits.
use Rattle.std.specs.Prelude.{ℕ, zero, suc, ◌+◌, Bool, true, false, List, [], ◌∷◌, ◌++◌, length, take, Option, Some, None, Result, Ok, Err, if◌then◌else◌, ◌==◌, ◌||◌, nat_le, flat_map, count_by, option_and_then, slice_get}
use Rattle.std.specs.List.{filter_map, list_any, range_with_len}
use Rattle.std.specs.Str.{bytes_eq}
use Rattle.kc_text.specs.declared.fault.TextProblem.{TextProblem}
use Rattle.kc_text.specs.declared.fault.TextProblem.TheVariants.{Limit, BadReference, RecursiveVariable}
use Rattle.kc_text.specs.declared.variables.Value.TheVariants.{Recursive, Simple}
use Rattle.kc_text.specs.References.{Piece, byte, reference, malformed, value_pieces}
use Rattle.kc_text.specs.Names.{Names, Environment, meaning}

-- what follows a part that went well
abbrev pub then_on : {A B E : Type 0} → Result A E → (A → Result B E) → Result B E
then_on (Ok x) f = f x
then_on (Err e) f = Err e

-- a text, and how many references were followed for it
pub record Progress : Type 0 where
  pub text : List ℕ
  pub followed : ℕ

-- nothing yet
abbrev pub start : Progress
start = record { text = []; followed = 0 }

-- whether a name is one of these
abbrev pub is_among : List ℕ → List (List ℕ) → Bool
is_among name names = list_any (bytes_eq name) names

-- what an expansion does: it puts bytes, or follows one reference more, or has a problem
pub data Step : Type 0 where
  puts : List ℕ → Step
  follows : Step
  fails : TextProblem → Step

-- the steps of a text's parts from left to right, where `of_name` gives those of a name; the first bad dollar is the last step
abbrev pub piece_steps : (List ℕ → List Step) → List Piece → List Step
piece_steps of_name [] = []
piece_steps of_name (byte b ∷ ps) = puts (b ∷ []) ∷ piece_steps of_name ps
piece_steps of_name (reference name ∷ ps) = of_name name ++ piece_steps of_name ps
piece_steps of_name (malformed ∷ ps) = fails BadReference ∷ []

-- the steps of a name, where the names `around` are being expanded and `n` more may be
abbrev pub name_steps : Names → Environment → ℕ → List (List ℕ) → List ℕ → List Step
name_steps names outside zero around name = fails (if is_among name around then RecursiveVariable else Limit) ∷ []
name_steps names outside (suc n) around name =
    if is_among name around then fails RecursiveVariable ∷ []
    else follows ∷ (elim (meaning names outside name) [
      | Recursive text ↦ piece_steps (name_steps names outside n (around ++ name ∷ [])) (value_pieces text)
      | Simple text ↦ puts text ∷ []
    ])

-- the steps of a text's parts, where no name is being expanded and 64 may be
abbrev pub text_steps : Names → Environment → List Piece → List Step
text_steps names outside ps = piece_steps (name_steps names outside 64 []) ps

-- the bytes that a step puts
abbrev pub put_bytes : Step → List ℕ
put_bytes (puts bs) = bs
put_bytes follows = []
put_bytes (fails problem) = []

-- whether a step follows a reference
abbrev pub is_follow : Step → Bool
is_follow (puts bs) = false
is_follow follows = true
is_follow (fails problem) = false

-- what is wrong with a step, by how many bytes and how many followed references come before it: a text has at most
-- 65536 bytes, though no bytes need no room, and at most 65536 references are followed for it
abbrev pub step_problem : ℕ → ℕ → Step → Option TextProblem
step_problem bytes followed (puts bs) = if length bs == 0 || nat_le (bytes + length bs) 65536 then None else Some Limit
step_problem bytes followed follows = if nat_le 65536 followed then Some Limit else None
step_problem bytes followed (fails problem) = Some problem

-- what is wrong at place k of steps that go on from a text, by the bytes and the references of the steps before it
abbrev pub problem_at : Progress → List Step → ℕ → Option TextProblem
problem_at p steps k = option_and_then (step_problem (length p.text + length (flat_map put_bytes (take k steps))) (p.followed + count_by is_follow (take k steps))) (slice_get steps k)

-- all that is wrong, from left to right
abbrev pub problems : Progress → List Step → List TextProblem
problems p steps = filter_map (problem_at p steps) (range_with_len 0 (length steps))

-- the first problem that was found; without one, the text and how many references were followed
abbrev pub outcome : List TextProblem → List ℕ → ℕ → Result Progress TextProblem
outcome found text followed = elim (slice_get found 0) [ Some problem ↦ Err problem | None ↦ Ok (record { text = text; followed = followed }) ]

-- what steps that go on from a text come to: their first problem, else the text with the bytes of all steps
abbrev pub all_steps : Progress → List Step → Result Progress TextProblem
all_steps p steps = outcome (problems p steps) (p.text ++ flat_map put_bytes steps) (p.followed + count_by is_follow steps)

-- the text that parts come to
abbrev pub text_by : Names → Environment → List Piece → Result (List ℕ) TextProblem
text_by names outside ps = then_on (all_steps start (text_steps names outside ps)) (λ p. Ok p.text)
