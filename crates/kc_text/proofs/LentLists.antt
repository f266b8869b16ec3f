-- The list of the files that were read.
use Rattle.std.proofs.Common.{◌≡◌, ℕ, is_some, ◌+◌, ◌<◌, ◌≤◌, Bool, true, false, true≢false, cond, ◌&&◌, List, [], ◌∷◌, map, length, Option, Some, None, option_map, Ok, Err, Bor, bytes_eq, refl, ap, sym, ◌∙◌, arith, if◌then◌else◌, nat_le}
use Rattle.std.specs.BTreeMap.{BTreeMap, btree_map_len, get_by, insert_entry}
use Rattle.std.specs.Cmp.Lexicographic.{slice_cmp}
use Rattle.std.specs.Ordering.{nat_cmp, is_eq, match_ordering}
use Rattle.std.specs.declared.cmp.Ordering.TheVariants.{Less, Equal, Greater}
use Rattle.std.specs.Map.{lookup}
use Rattle.std.proofs.lemmas.Bool.{lt-leb}
use Rattle.std.proofs.lemmas.List.{length-map}
use Rattle.std.proofs.lemmas.List.Sums.{sum_by-cons}
use Rattle.std.proofs.lemmas.Map.Text.{is_eq-slice_cmp}
use Rattle.std.proofs.lemmas.Slice.Eq.{bytes_eq-Decides}
use Rattle.kc_text.specs.FileList.{File}
use Rattle.kc_text.specs.LentFiles.{lent_file, lent_files, total_bytes}
use Rattle.kc_text.specs.MoreFiles.{Extends}
use Rattle.kc_text.specs.Sources.{text_of, count_with, other_bytes, put, added}
use Rattle.kc_text.specs.declared.fault.TextProblem.TheVariants.{Limit}
use Rattle.kc_text.specs.declared.fault.TextFault.TheVariants.{At}
use Rattle.kc_text.proofs.FileLists.{added-ok, other_bytes-cons}

abbrev pub Lent : Type 0
Lent = Bor (List ℕ)

text_of-lent-entries : (path : List ℕ) (es : List (Lent × Lent)) → text_of path (map lent_file es) ≡ option_map (λ v. v.now) (lookup (λ k. is_eq (slice_cmp nat_cmp path k.now)) es)
text_of-lent-entries path [] = refl
text_of-lent-entries path (e ∷ es) =
    rw (sym (is_eq-slice_cmp path e.0.now)) (
    elim (is_eq (slice_cmp nat_cmp path e.0.now)) as (λ b. cond b (Some e.1.now) (text_of path (map lent_file es)) ≡ option_map (λ v. v.now) (cond b (Some e.1) (lookup (λ k. is_eq (slice_cmp nat_cmp path k.now)) es))) [
      | true ↦ refl
      | false ↦ text_of-lent-entries path es
    ])

-- a look-up in the list is one in the map
pub text_of-lent_files : (path : List ℕ) (m : BTreeMap Lent Lent) → text_of path (lent_files m) ≡ option_map (λ v. v.now) (get_by (λ k. slice_cmp nat_cmp path k.now) m)
text_of-lent_files path m = text_of-lent-entries path m.entries

put-lent-entries : (es : List (Lent × Lent)) (k v : Lent) → map lent_file (insert_entry (λ x y. slice_cmp nat_cmp x.now y.now) es k v) ≡ put k.now v.now (map lent_file es)
put-lent-entries [] k v = refl
put-lent-entries (e ∷ es) k v =
    elim (slice_cmp nat_cmp k.now e.0.now) as (λ o. map lent_file (match_ordering o ((k, v) ∷ e ∷ es) ((e.0, v) ∷ es) (e ∷ insert_entry (λ x y. slice_cmp nat_cmp x.now y.now) es k v))
    ≡ match_ordering o (lent_file (k, v) ∷ lent_file e ∷ map lent_file es) (lent_file (e.0, v) ∷ map lent_file es) (lent_file e ∷ put k.now v.now (map lent_file es))) [
      | Less ↦ refl
      | Equal ↦ refl
      | Greater ↦ ap (λ fs. lent_file e ∷ fs) (put-lent-entries es k v)
    ]

-- the files after an entry was put in its place
pub put-lent_files : (path text : List ℕ) (k v : Lent) (m n : BTreeMap Lent Lent) → k.now ≡ path → v.now ≡ text → n.entries ≡ insert_entry (λ x y. slice_cmp nat_cmp x.now y.now) m.entries k v → lent_files n ≡ put path text (lent_files m)
put-lent_files path text k v m n a b e = ap (map lent_file) e ∙ put-lent-entries m.entries k v ∙ (λ i. put (a i) (b i) (lent_files m))

-- files in which there is none of a path: the first is of another, and the others are so too
abbrev at_first : List ℕ → File → List File → Bool → Option (List ℕ)
at_first path f fs b = cond b (Some f.1) (text_of path fs)

module _ (path : List ℕ) (f : File) (fs : List File) (none : text_of path (f ∷ fs) ≡ None) where
  first_differs : bytes_eq path f.0 ≡ false
  first_differs =
      elim (bytes_eq path f.0) as (λ b. at_first path f fs b ≡ None → b ≡ false) [ true ↦ λ e. absurd cc | false ↦ λ e. refl ] none

  others_lack : text_of path fs ≡ None
  others_lack = sym (ap (at_first path f fs) first_differs) ∙ none

  never_equal : slice_cmp nat_cmp path f.0 ≡ Equal → ⊥
  never_equal e = true≢false (sym (sym (is_eq-slice_cmp path f.0) ∙ ap is_eq e) ∙ first_differs)

-- files that are put in any order of their paths have these texts
pub text_of-put : (path text q : List ℕ) (files : List File) → text_of path files ≡ None → text_of q (put path text files) ≡ cond (bytes_eq q path) (Some text) (text_of q files)
text_of-put path text q [] none = refl
text_of-put path text q (f ∷ fs) none =
    elim (slice_cmp nat_cmp path f.0) as (λ o. slice_cmp nat_cmp path f.0 ≡ o → text_of q (match_ordering o ((path, text) ∷ f ∷ fs) ((f.0, text) ∷ fs) (f ∷ put path text fs)) ≡ cond (bytes_eq q path) (Some text) (text_of q (f ∷ fs))) [
      | Less ↦ λ e. refl
      | Equal ↦ λ e. absurd (never_equal path f fs none e)
      | Greater ↦ λ e. ap (λ o. cond (bytes_eq q f.0) (Some f.1) o) (text_of-put path text q fs (others_lack path f fs none)) ∙ swapped
    ] refl where
      swapped : cond (bytes_eq q f.0) (Some f.1) (cond (bytes_eq q path) (Some text) (text_of q fs)) ≡ cond (bytes_eq q path) (Some text) (cond (bytes_eq q f.0) (Some f.1) (text_of q fs))
      swapped =
          elim (bytes_eq q path) as (λ b. bytes_eq q path ≡ b → cond (bytes_eq q f.0) (Some f.1) (cond b (Some text) (text_of q fs)) ≡ cond b (Some text) (cond (bytes_eq q f.0) (Some f.1) (text_of q fs))) [
            | true ↦ λ e. ap (λ b. cond b (Some f.1) (Some text)) (ap (λ p. bytes_eq p f.0) ((bytes_eq-Decides q path).0 e) ∙ first_differs path f fs none)
            | false ↦ λ e. refl
          ] refl

-- the text that was put is found, and all that were there are
pub text_of-put-own : (path text : List ℕ) (files : List File) → text_of path files ≡ None → text_of path (put path text files) ≡ Some text
text_of-put-own path text files none = text_of-put path text path files none ∙ ap (λ b. cond b (Some text) (text_of path files)) ((bytes_eq-Decides path path).1 refl)

pub put-extends : (path text : List ℕ) (files : List File) → text_of path files ≡ None → Extends files (put path text files)
put-extends path text files none q t found =
    text_of-put path text q files none
    ∙ elim (bytes_eq q path) as (λ b. bytes_eq q path ≡ b → cond b (Some text) (text_of q files) ≡ Some t) [
      | true ↦ λ e. let lacks : text_of q files ≡ None = ap (λ p. text_of p files) ((bytes_eq-Decides q path).0 e) ∙ none in absurd cc
      | false ↦ λ e. found
    ] refl

-- how many bytes the texts have
pub other_bytes-all : (path : List ℕ) (files : List File) → text_of path files ≡ None → other_bytes path files ≡ total_bytes files
other_bytes-all path [] none = refl
other_bytes-all path (f ∷ fs) none =
    other_bytes-cons path f fs ∙ ap (λ b. (if b then 0 else length f.1) + other_bytes path fs) (first_differs path f fs none)
    ∙ ap (λ n. length f.1 + n) (other_bytes-all path fs (others_lack path f fs none)) ∙ sym (sum_by-cons {X = File} (λ g. length g.1) f fs)

pub total-put : (path text : List ℕ) (files : List File) → text_of path files ≡ None → total_bytes (put path text files) ≡ total_bytes files + length text
total-put path text [] none = let all = sum_by-cons {X = File} (λ g. length g.1) (path, text) [] in omega (arith, all)
total-put path text (f ∷ fs) none =
    elim (slice_cmp nat_cmp path f.0) as (λ o. slice_cmp nat_cmp path f.0 ≡ o → total_bytes (match_ordering o ((path, text) ∷ f ∷ fs) ((f.0, text) ∷ fs) (f ∷ put path text fs)) ≡ total_bytes (f ∷ fs) + length text) [
      | Less ↦ λ e. let all = sum_by-cons {X = File} (λ g. length g.1) (path, text) (f ∷ fs) in omega (arith, all)
      | Equal ↦ λ e. absurd (never_equal path f fs none e)
      | Greater ↦ λ e.
          let one = sum_by-cons {X = File} (λ g. length g.1) f (put path text fs) in
          let before = sum_by-cons {X = File} (λ g. length g.1) f fs in
          omega (arith, one, before, total-put path text fs (others_lack path f fs none))
    ] refl

pub text-within : (path text : List ℕ) (files : List File) → text_of path files ≡ Some text → length text ≤ total_bytes files
text-within path text [] found = absurd cc
text-within path text (f ∷ fs) found =
    let all = sum_by-cons {X = File} (λ g. length g.1) f fs in
    elim (bytes_eq path f.0) as (λ b. at_first path f fs b ≡ Some text → length text ≤ total_bytes (f ∷ fs)) [
      | true ↦ λ e. let same : f.1 ≡ text = cc in omega (arith, all, ap length same)
      | false ↦ λ e. omega (arith, all, text-within path text fs e)
    ] found

-- the limits, where there is no file of a path
module _ (path text : List ℕ) (files : List File) (none : text_of path files ≡ None) where
  with_one : count_with path files ≡ length files + 1
  with_one = ap (λ o. if is_some o then length files else length files + 1) none

  without_one : other_bytes path files + length text ≡ total_bytes files + length text
  without_one = ap (λ n. n + length text) (other_bytes-all path files none)

  pub added-new : (after : List File) → length files + 1 ≤ 4096 → total_bytes files + length text ≤ 16777216 → after ≡ put path text files → added path text files ≡ Ok after
  added-new after few short e = added-ok path text files after (omega (arith, with_one, few)) (omega (arith, without_one, short)) e

  pub too_many : 4096 < length files + 1 → added path text files ≡ Err (At Limit path 0)
  too_many many = ap (λ b. if b then Ok (put path text files) else Err (At Limit path 0)) (ap (λ b. b && nat_le (other_bytes path files + length text) 16777216) (lt-leb (count_with path files) 4096 (omega (arith, with_one, many))))

  pub too_long : 16777216 < total_bytes files + length text → added path text files ≡ Err (At Limit path 0)
  too_long long =
      ap (λ b. if b then Ok (put path text files) else Err (At Limit path 0))
      (elim (nat_le (count_with path files) 4096) as (λ b. (b && nat_le (other_bytes path files + length text) 16777216) ≡ false) [
        | true ↦ lt-leb (other_bytes path files + length text) 16777216 (omega (arith, without_one, long))
        | false ↦ refl
      ])

-- how many files the list has
pub length-lent_files : (m : BTreeMap Lent Lent) → length (lent_files m) ≡ btree_map_len m
length-lent_files m = length-map m.entries lent_file
