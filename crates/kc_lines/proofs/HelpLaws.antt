-- The help text that counts, line by line.
use Rattle.std.specs.Option.{option_or}
use Rattle.std.proofs.Common.{◌≡◌, ◌<◌, ◌+◌, ℕ, List, Option, Some, None, refl, length, drop, get_or, sym, ap, ◌∙◌}
use Rattle.std.proofs.lemmas.List.{drop_more}
use Rattle.kc_text.specs.LineValue.{LineValue}
use Rattle.kc_lines.specs.Attributes.{last_help}

or_none : {X : Type 0} (o : Option X) → option_or o None ≡ o
or_none None = refl
or_none (Some x) = refl

or_or : {X : Type 0} (o p q : Option X) → option_or o (option_or p q) ≡ option_or (option_or o p) q
or_or None p q = refl
or_or (Some x) p q = refl

-- before the first line
pub help_begun : (lines : List LineValue) → option_or (last_help lines) None ≡ last_help lines
help_begun lines = or_none (last_help lines)

-- after one more line
pub help_after : (lines : List LineValue) (i : ℕ) (last : Option (List ℕ)) (d : LineValue) → i < length lines
    → option_or (last_help (drop (i + 1) lines)) (option_or (get_or lines i d).help last) ≡ option_or (last_help (drop i lines)) last
help_after lines i last d within =
    or_or (last_help (drop (i + 1) lines)) (get_or lines i d).help last
    ∙ sym (ap (λ xs. option_or (last_help xs) last) (drop_more lines i d within))
