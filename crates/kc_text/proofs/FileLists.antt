-- The list of a map's files.
use Rattle.std.proofs.Common.{◌≡◌, ℕ, ◌+◌, ◌≤◌, le-leb, is_some, Bool, true, false, cond, List, [], ◌∷◌, map, length, Some, None, option_map, Ok, Err, String, string_bytes, bytes_eq, refl, ap, sym, ◌∙◌, if◌then◌else◌}
use Rattle.std.specs.BTreeMap.{BTreeMap, btree_map_len, get_by_text, insert_entry}
use Rattle.std.specs.Cmp.Lexicographic.{slice_cmp}
use Rattle.std.specs.Ordering.{nat_cmp, is_eq, match_ordering}
use Rattle.std.specs.declared.cmp.Ordering.TheVariants.{Less, Equal, Greater}
use Rattle.std.specs.declared.alloc.Global.{Global}
use Rattle.std.specs.Map.{lookup, remove_entry, update}
use Rattle.std.specs.String.{string_cmp}
use Rattle.std.proofs.lemmas.List.{length-map}
use Rattle.std.proofs.lemmas.List.Sums.{sum_by-cons}
use Rattle.std.proofs.lemmas.Map.Text.{is_eq-slice_cmp}
use Rattle.kc_text.specs.FileList.{File, file_of, file_list}
use Rattle.kc_text.specs.Sources.{text_of, count_with, other_bytes, put, keeps_limits, added, without}
use Rattle.kc_text.specs.declared.fault.TextProblem.TheVariants.{Limit}
use Rattle.kc_text.specs.declared.fault.TextFault.TheVariants.{At}

abbrev Entry : Type 0
Entry = String Global × String Global

text_of-entries : (path : List ℕ) (es : List Entry) → text_of path (map file_of es) ≡ option_map string_bytes (lookup (λ k. is_eq (slice_cmp nat_cmp path (string_bytes k))) es)
text_of-entries path [] = refl
text_of-entries path (e ∷ es) =
    rw (sym (is_eq-slice_cmp path (string_bytes e.0))) (
    elim (is_eq (slice_cmp nat_cmp path (string_bytes e.0))) as (λ b. cond b (Some (string_bytes e.1)) (text_of path (map file_of es)) ≡ option_map string_bytes (cond b (Some e.1) (lookup (λ k. is_eq (slice_cmp nat_cmp path (string_bytes k))) es))) [
      | true ↦ refl
      | false ↦ text_of-entries path es
    ])

-- a look-up in the list is one in the map
pub text_of-file_list : (path : List ℕ) (m : BTreeMap (String Global) (String Global)) → text_of path (file_list m) ≡ option_map string_bytes (get_by_text m path)
text_of-file_list path m = text_of-entries path m.entries

-- an entry goes to the place of its file
pub put-entries : (es : List Entry) (k v : String Global) → map file_of (insert_entry string_cmp es k v) ≡ put (string_bytes k) (string_bytes v) (map file_of es)
put-entries [] k v = refl
put-entries (e ∷ es) k v =
    elim (slice_cmp nat_cmp (string_bytes k) (string_bytes e.0)) as (λ o. map file_of (match_ordering o ((k, v) ∷ e ∷ es) ((e.0, v) ∷ es) (e ∷ insert_entry string_cmp es k v))
    ≡ match_ordering o (file_of (k, v) ∷ file_of e ∷ map file_of es) (file_of (e.0, v) ∷ map file_of es) (file_of e ∷ put (string_bytes k) (string_bytes v) (map file_of es))) [
      | Less ↦ refl
      | Equal ↦ refl
      | Greater ↦ ap (λ fs. file_of e ∷ fs) (put-entries es k v)
    ]

-- the bytes of one more file
pub other_bytes-cons : (path : List ℕ) (f : File) (fs : List File) → other_bytes path (f ∷ fs) ≡ (if bytes_eq path f.0 then 0 else length f.1) + other_bytes path fs
other_bytes-cons path f fs = sum_by-cons (λ g. if bytes_eq path g.0 then 0 else length g.1) f fs

-- a look-up after a text was put
pub text_of-updated : (path text : List ℕ) (v : String Global) (m n : BTreeMap (String Global) (String Global)) → string_bytes v ≡ text → (q : List ℕ)
    → get_by_text n q ≡ update bytes_eq (get_by_text m) path (Some v) q → text_of q (file_list n) ≡ (if bytes_eq path q then Some text else text_of q (file_list m))
text_of-updated path text v m n e q h =
    text_of-file_list q n ∙ ap (option_map string_bytes) h
    ∙ elim (bytes_eq path q) as (λ b. option_map string_bytes (cond b (Some v) (get_by_text m q)) ≡ cond b (Some text) (text_of q (file_list m))) [
      | true ↦ ap Some e
      | false ↦ sym (text_of-file_list q m)
    ]

-- whether the list has a path, and how many files it has with one of it
pub has_text-file_list : (path : List ℕ) (m : BTreeMap (String Global) (String Global)) → is_some (text_of path (file_list m)) ≡ is_some (get_by_text m path)
has_text-file_list path m = ap is_some (text_of-file_list path m) ∙ elim (get_by_text m path) as (λ o. is_some (option_map string_bytes o) ≡ is_some o) [ None ↦ refl | Some v ↦ refl ]

pub count_with-file_list : (path : List ℕ) (m : BTreeMap (String Global) (String Global)) (b : Bool) → b ≡ is_some (get_by_text m path) → count_with path (file_list m) ≡ (if b then btree_map_len m else btree_map_len m + 1)
count_with-file_list path m b e =
    ap (λ v. if v then length (file_list m) else length (file_list m) + 1) (has_text-file_list path m ∙ sym e) ∙ ap (λ n. if b then n else n + 1) (length-map m.entries file_of)

-- the files after an entry was put in its place
pub put-file_list : (path text : List ℕ) (k v : String Global) (m n : BTreeMap (String Global) (String Global)) → string_bytes k ≡ path → string_bytes v ≡ text → n.entries ≡ insert_entry string_cmp m.entries k v → file_list n ≡ put path text (file_list m)
put-file_list path text k v m n a b e = ap (map file_of) e ∙ put-entries m.entries k v ∙ (λ i. put (a i) (b i) (file_list m))

-- a text that keeps the limits is put
pub added-ok : (path text : List ℕ) (files after : List File) → count_with path files ≤ 4096 → other_bytes path files + length text ≤ 16777216 → after ≡ put path text files → added path text files ≡ Ok after
added-ok path text files after count bytes e =
    let fits : keeps_limits path text files ≡ true = rw (le-leb (count_with path files) 4096 count, le-leb (other_bytes path files + length text) 16777216 bytes) in
    ap (λ b. if b then Ok (put path text files) else Err (At Limit path 0)) fits ∙ ap Ok (sym e)

-- an entry goes with its file
without-entries : (path : List ℕ) (es : List Entry) → map file_of (remove_entry (λ k. is_eq (slice_cmp nat_cmp path (string_bytes k))) es) ≡ without path (map file_of es)
without-entries path [] = refl
without-entries path (e ∷ es) =
    rw (sym (is_eq-slice_cmp path (string_bytes e.0))) (
    elim (is_eq (slice_cmp nat_cmp path (string_bytes e.0))) as (λ b. map file_of (cond b es (e ∷ remove_entry (λ k. is_eq (slice_cmp nat_cmp path (string_bytes k))) es)) ≡ cond b (map file_of es) (file_of e ∷ without path (map file_of es))) [
      | true ↦ refl
      | false ↦ ap (λ fs. file_of e ∷ fs) (without-entries path es)
    ])

-- the files after an entry was taken out
pub without-file_list : (path : List ℕ) (m n : BTreeMap (String Global) (String Global)) → n.entries ≡ remove_entry (λ k. is_eq (slice_cmp nat_cmp path (string_bytes k))) m.entries → file_list n ≡ without path (file_list m)
without-file_list path m n e = ap (map file_of) e ∙ without-entries path m.entries

-- a look-up after a text was taken out
pub text_of-removed : (path : List ℕ) (m n : BTreeMap (String Global) (String Global)) (q : List ℕ)
    → get_by_text n q ≡ update bytes_eq (get_by_text m) path None q → text_of q (file_list n) ≡ (if bytes_eq path q then None else text_of q (file_list m))
text_of-removed path m n q h =
    text_of-file_list q n ∙ ap (option_map string_bytes) h
    ∙ elim (bytes_eq path q) as (λ b. option_map string_bytes (cond b None (get_by_text m q)) ≡ cond b None (text_of q (file_list m))) [
      | true ↦ refl
      | false ↦ sym (text_of-file_list q m)
    ]
