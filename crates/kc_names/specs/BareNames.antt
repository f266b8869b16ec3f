-- Names without the prefix that they have in a `.config`: docs/FILES.md.
use Rattle.std.specs.Prelude.{ℕ, ◌==◌, List, Option, Some, None, drop, if◌then◌else◌, length, nat_eq, unwrap_or}
use Rattle.std.specs.List.{starts_with}

-- what comes after a prefix that a name begins with
abbrev pub without_prefix : List ℕ → List ℕ → Option (List ℕ)
without_prefix prefix name = if starts_with nat_eq name prefix then Some (drop (length prefix) name) else None

-- the name itself, where it does not begin with the prefix
abbrev pub bare_name : List ℕ → List ℕ → List ℕ
bare_name prefix name = unwrap_or (without_prefix prefix name) name

-- nothing, where the prefix is empty
abbrev pub bare_word : List ℕ → List ℕ → Option (List ℕ)
bare_word prefix name = if length prefix == 0 then None else without_prefix prefix name
