-- Streams, and the lines and commands that the definitions give for them.
use Rattle.std.proofs.Common.{◌≡◌, [], ◌∷◌, refl}
use Rattle.std.specs.Prelude.{codes, map, Some}
use Rattle.kc_session.specs.Stream.{lines_of, text_of_line, text_if_fits}

lines_of-mixed : lines_of (codes "set B y\nshow B\r\n\nx") ≡ codes "set B y\n" ∷ codes "show B\r\n" ∷ codes "\n" ∷ codes "x" ∷ []
unfolding lines_of
lines_of-mixed = refl

lines_of-ended : lines_of (codes "a\n") ≡ codes "a\n" ∷ []
unfolding lines_of
lines_of-ended = refl

lines_of-nothing : lines_of [] ≡ []
unfolding lines_of
lines_of-nothing = refl

text_of_line-each : map text_of_line (codes "a\n" ∷ codes "a\r\n" ∷ codes "a\r\r\n" ∷ codes "a\r" ∷ codes "\n" ∷ codes "\r\n" ∷ codes "a\rb\n" ∷ [])
    ≡ codes "a" ∷ codes "a" ∷ codes "a\r" ∷ codes "a\r" ∷ [] ∷ [] ∷ codes "a\rb" ∷ []
unfolding text_of_line
text_of_line-each = refl

text_if_fits-short : text_if_fits (codes "a\r\n") ≡ Some (codes "a")
unfolding text_of_line
text_if_fits-short = refl
