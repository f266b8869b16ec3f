-- This project's own command stream: what the body buffer keeps of a body.
use Rattle.std.specs.Prelude.{◌≡◌, ℕ, Bool, true, false, ◌==◌, ◌&&◌, nat_le, List, length, Option, Some, None, Result, Ok, Err}
use Rattle.std.specs.List.{flat_map, list_all}
use Rattle.kc_session.specs.declared.command.Refusal.{Refusal}
use Rattle.kc_session.specs.declared.command.Refusal.TheVariants.{BadLineCount, TooLong, NoMemory}
use Rattle.kc_session.specs.Bodies.{body_limit}
use Rattle.kc_session.specs.Stream.{fits_line}

-- the bytes that were kept, how many the lines have, and why the body can't be loaded
pub record HeldBody : Type 0 where
  pub bytes : List ℕ
  pub size : ℕ
  pub refusal : Option Refusal

-- the bytes of lines
abbrev pub joined : List (List ℕ) → List ℕ
joined lines = flat_map (λ line. line) lines

-- neither are the lines too many bytes nor is one of them too long
unfoldable pub fit_lines : List (List ℕ) → Bool
fit_lines lines = nat_le (length (joined lines)) body_limit && list_all fits_line lines

-- what is held, or why it is refused
abbrev pub content_of : List ℕ → Option Refusal → Result (List ℕ) Refusal
content_of bytes None = Ok bytes
content_of bytes (Some r) = Err r

abbrev pub body_held : HeldBody → Result (List ℕ) Refusal
body_held held = content_of held.bytes held.refusal

-- these lines were put into the buffer: they are kept, or are too long, or memory was refused for them and they are not
abbrev pub HoldsLinesAs : Option Refusal → List ℕ → ℕ → List (List ℕ) → Type 0
HoldsLinesAs None bytes n lines = (bytes ≡ joined lines) × (n ≡ length (joined lines)) × (fit_lines lines ≡ true)
HoldsLinesAs (Some TooLong) bytes n lines = fit_lines lines ≡ false
HoldsLinesAs (Some NoMemory) bytes n lines = (n ≡ length (joined lines)) × (fit_lines lines ≡ true)
HoldsLinesAs (Some _) bytes n lines = ⊥

unfoldable pub HoldsLines : HeldBody → List (List ℕ) → Type 0
HoldsLines held lines = HoldsLinesAs held.refusal held.bytes held.size lines

-- What is held of the lines of a body that is to have so many. Fewer lines come before too many bytes, and these before
-- memory that was refused.
abbrev pub GivesBody : Result (List ℕ) Refusal → ℕ → List (List ℕ) → Type 0
GivesBody (Ok bytes) k lines = (length lines ≡ k) × (bytes ≡ joined lines) × (fit_lines lines ≡ true)
GivesBody (Err BadLineCount) k lines = (length lines == k) ≡ false
GivesBody (Err TooLong) k lines = (length lines ≡ k) × (fit_lines lines ≡ false)
GivesBody (Err NoMemory) k lines = (length lines ≡ k) × (fit_lines lines ≡ true)
GivesBody (Err _) k lines = ⊥
