-- Findings that are said once, finding by finding.
use Rattle.std.proofs.Common.{◌≡◌, ℕ, ◌<◌, ◌+◌, Bool, true, false, if◌then◌else◌, List, [], ◌∷◌, ◌++◌, Some, get_or, length, map, slice_get, refl, sym, ap, ◌∙◌, arith}
use Rattle.std.specs.List.{filter, filter_map, range_with_len}
use Rattle.std.proofs.lemmas.List.Elements.{filter_map-append}
use Rattle.std.proofs.lemmas.List.FromFn.{get_or-map-range_with_len}
use Rattle.kc_line_facts.specs.FreshNames.{is_fresh}
use Rattle.kc_line_facts.proofs.RangeLaws.{filter_next}
use Rattle.kc_check.specs.ReportLines.{line_text}
use Rattle.kc_check.specs.declared.finding.Finding.{Finding}

pub seam : {X : Type 0} (xs : List X) (x : X) (ys : List X) → slice_get (xs ++ x ∷ ys) (length xs) ≡ Some x
seam [] x ys = refl
seam (y ∷ xs) x ys = seam xs x ys

kept_one : (all : List Finding) (i : ℕ) (f : Finding) (b : Bool) → slice_get all i ≡ Some f → filter_map (slice_get all) (if b then i ∷ [] else []) ≡ (if b then f ∷ [] else [])
kept_one all i f true is = rw is
kept_one all i f false is = refl

-- one finding more, which is kept or not
pub said_more : (test : ℕ → Bool) (all : List Finding) (i : ℕ) (f : Finding) (now new : List Finding) → slice_get all i ≡ Some f
    → now ≡ filter_map (slice_get all) (filter test (range_with_len 0 i)) → new ≡ now ++ (if test i then f ∷ [] else [])
    → new ≡ filter_map (slice_get all) (filter test (range_with_len 0 (i + 1)))
said_more test all i f now new there is more =
    more
    ∙ ap (λ (r : List Finding). r ++ (if test i then f ∷ [] else [])) is
    ∙ ap (λ (r : List Finding). filter_map (slice_get all) (filter test (range_with_len 0 i)) ++ r) (sym (kept_one all i f (test i) there))
    ∙ sym (filter_map-append (slice_get all) (filter test (range_with_len 0 i)) (if test i then i ∷ [] else []))
    ∙ ap (filter_map (slice_get all)) (filter_next test i _ _ refl refl)

-- whether a finding is kept, by flags
pub flag_at : (findings lent : List Finding) (flags : List Bool) (k : ℕ) → lent ≡ findings
    → flags ≡ map (is_fresh (map line_text lent) []) (range_with_len 0 (length lent)) → k < length findings
    → get_or flags k false ≡ is_fresh (map line_text findings) [] k
flag_at findings lent flags k same is within =
    ap (λ bs. get_or bs k false) (is ∙ ap (λ fs. map (is_fresh (map line_text fs) []) (range_with_len 0 (length fs))) same)
    ∙ get_or-map-range_with_len (is_fresh (map line_text findings) []) 0 (length findings) k k false within (omega arith)
