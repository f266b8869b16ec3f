-- How many bytes the texts of a map have.
use Rattle.std.proofs.Common.{◌≡◌, ℕ, ◌+◌, ◌≤◌, Bool, true, false, cond, List, [], ◌∷◌, map, length, Option, Some, option_map, unwrap_or, String, string_bytes, bytes_eq, refl, ap, sym, ◌∙◌, arith, if◌then◌else◌}
use Rattle.std.specs.BTreeMap.{BTreeMap, IsOrdered, get_by_text, insert_entry}
use Rattle.std.specs.Cmp.Lexicographic.{slice_cmp}
use Rattle.std.specs.List.{sum_by, AllByRecursion}
use Rattle.std.specs.List.Sorted.{IsStrictlySortedBy}
use Rattle.std.specs.Map.{lookup, remove_entry, keys_of, values_of}
use Rattle.std.specs.Ordering.{nat_cmp, is_eq}
use Rattle.std.specs.String.{string_cmp, string_cmp_total}
use Rattle.std.specs.declared.alloc.Global.{Global}
use Rattle.std.specs.declared.cmp.Ordering.TheVariants.{Less}
use Rattle.std.proofs.lemmas.List.Sums.{sum_by-cons}
use Rattle.std.proofs.lemmas.Map.Entries.{sum_by-insert_entry, sum_by-remove_entry}
use Rattle.std.proofs.lemmas.Map.Text.{is_eq-slice_cmp}
use Rattle.std.proofs.lemmas.Slice.Eq.{bytes_eq-Decides}
use Rattle.kc_text.specs.FileList.{file_of, file_list, bytes_in, IsCounted}
use Rattle.kc_text.specs.Sources.{other_bytes}
use Rattle.kc_text.proofs.FileLists.{other_bytes-cons}

abbrev Text : Type 0
Text = String Global

abbrev text_len : Text → ℕ
text_len text = length (string_bytes text)

-- the bytes of a text, if there is one
abbrev pub len_of : Option Text → ℕ
len_of text = unwrap_or (option_map text_len text) 0

abbrev is_at_path : List ℕ → Text → Bool
is_at_path path k = is_eq (slice_cmp nat_cmp path (string_bytes k))

-- no later text is that of a path
others_behind : (path : List ℕ) (k : Text) (es : List (Text × Text)) → path ≡ string_bytes k → AllByRecursion (λ y. string_cmp k y ≡ Less) (keys_of es) → other_bytes path (map file_of es) ≡ sum_by text_len (values_of es)
others_behind path k [] same below = refl
others_behind path k (e ∷ es) same below =
    let differs : bytes_eq path (string_bytes e.0) ≡ false = sym (is_eq-slice_cmp path (string_bytes e.0)) ∙ ap (λ bs. is_eq (slice_cmp nat_cmp bs (string_bytes e.0))) same ∙ ap is_eq below.0 in
    other_bytes-cons path (file_of e) (map file_of es)
    ∙ ap (λ b. (if b then 0 else text_len e.1) + other_bytes path (map file_of es)) differs
    ∙ ap (λ n. text_len e.1 + n) (others_behind path k es same below.1)
    ∙ sym (sum_by-cons text_len e.1 (values_of es))

-- the bytes of all texts are those of the others and of a path's own
all_bytes-split : (path : List ℕ) (es : List (Text × Text)) → IsStrictlySortedBy string_cmp (keys_of es) → other_bytes path (map file_of es) + len_of (lookup (is_at_path path) es) ≡ sum_by text_len (values_of es)
unfolding IsStrictlySortedBy
all_bytes-split path [] ascend = refl
all_bytes-split path (e ∷ es) ascend =
    let rest = map file_of es in
    let all : sum_by text_len (values_of (e ∷ es)) ≡ text_len e.1 + sum_by text_len (values_of es) = sum_by-cons text_len e.1 (values_of es) in
    let others : other_bytes path (map file_of (e ∷ es)) ≡ (if bytes_eq path (string_bytes e.0) then 0 else text_len e.1) + other_bytes path rest = other_bytes-cons path (file_of e) rest in
    elim (is_at_path path e.0) as (λ b. bytes_eq path (string_bytes e.0) ≡ b → other_bytes path (map file_of (e ∷ es)) + len_of (cond b (Some e.1) (lookup (is_at_path path) es)) ≡ sum_by text_len (values_of (e ∷ es))) [
      | true ↦ λ same.
          let here = others ∙ ap (λ b. (if b then 0 else text_len e.1) + other_bytes path rest) same in
          let behind = others_behind path e.0 es ((bytes_eq-Decides path (string_bytes e.0)).0 same) ascend.0 in
          omega (arith, here, behind, all)
      | false ↦ λ differs.
          let here = others ∙ ap (λ b. (if b then 0 else text_len e.1) + other_bytes path rest) differs in
          let behind = all_bytes-split path es ascend.1 in
          omega (arith, here, behind, all)
    ] (sym (is_eq-slice_cmp path (string_bytes e.0)))

-- the same of a map
pub bytes_in-split : (path : List ℕ) (m : BTreeMap Text Text) → IsOrdered string_cmp m → other_bytes path (file_list m) + len_of (get_by_text m path) ≡ bytes_in m
bytes_in-split path m ascend = all_bytes-split path m.entries ascend

-- a map that a text was put in is counted
pub IsCounted-put : (path : List ℕ) (m n : BTreeMap Text Text) (k v : Text) (bytes : ℕ) → IsOrdered string_cmp m → string_bytes k ≡ path → n.entries ≡ insert_entry string_cmp m.entries k v → IsOrdered string_cmp n
    → bytes ≡ other_bytes path (file_list m) + text_len v → bytes ≤ 16777216 → IsCounted n bytes
IsCounted-put path m n k v bytes ascend is_path puts ordered counted within =
    let before = bytes_in-split path m ascend in
    let after = sum_by-insert_entry text_len string_cmp_total m.entries k v ascend in
    let put : bytes_in n ≡ sum_by text_len (values_of (insert_entry string_cmp m.entries k v)) = ap (λ es. sum_by text_len (values_of es)) puts in
    let same : len_of (get_by_text m (string_bytes k)) ≡ len_of (get_by_text m path) = ap (λ bs. len_of (get_by_text m bs)) is_path in
    (omega (arith, before, after, put, same, counted), within, ordered)

-- the bytes of a map that an entry was taken out of
pub bytes_in-without : (path : List ℕ) (m n : BTreeMap Text Text) → n.entries ≡ remove_entry (is_at_path path) m.entries → bytes_in n + len_of (get_by_text m path) ≡ bytes_in m
bytes_in-without path m n removed = ap (λ es. sum_by text_len (values_of es) + len_of (get_by_text m path)) removed ∙ sum_by-remove_entry text_len (is_at_path path) m.entries
