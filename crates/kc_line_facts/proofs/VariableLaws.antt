-- The variables of a file, lines that are taken together after lines.
use Rattle.std.proofs.Common.{◌≡◌, ℕ, ◌+◌, List, [], ◌++◌, refl, sym, ap, ◌∙◌, subst, append_assoc}
use Rattle.std.proofs.lemmas.List.{append-nil}
use Rattle.kc_text.specs.ItemLists.{ItemValue}
use Rattle.kc_text.specs.LeadingItem.{BeginsWith}
use Rattle.kc_line_facts.specs.FileVariables.{AreUsedIn, HaveVariables, an_item, definitions_in, no_lines, sources_in, uses_at}
use Rattle.kc_line_facts.specs.declared.named_variables.NamedVariable.{NamedVariable}

moved : {n : ℕ} {lines : List (List ℕ)} {us vs ds es : List NamedVariable} {ss ts : List ℕ}
    → us ≡ vs → ds ≡ es → ss ≡ ts → HaveVariables n lines us ds ss → HaveVariables n lines vs es ts
moved {n} {lines} {us} {vs} {ds} {es} {ss} {ts} u d s h =
    subst (λ x. HaveVariables n lines vs es x) s
    (subst (λ x. HaveVariables n lines vs x ss) d (subst (λ x. HaveVariables n lines x ds ss) u h))

-- what lines have, after what is found before the rest of them
abbrev pub Have : ℕ → List (List ℕ) → List (List ℕ) → List NamedVariable → List NamedVariable → List ℕ → Type 0
Have n rest whole us ds ss = (uses definitions : List NamedVariable) (sources : List ℕ) → HaveVariables n rest uses definitions sources
    → HaveVariables 0 whole (us ++ uses) (ds ++ definitions) (ss ++ sources)

pub have_more : (n : ℕ) (rest after whole : List (List ℕ)) (i : ItemValue) (more : ℕ) (names : List (List ℕ)) (us vs ds es : List NamedVariable) (ss ts : List ℕ)
    → BeginsWith rest i after → AreUsedIn i names → more ≡ i.more → vs ≡ us ++ uses_at (n + 1) names → es ≡ ds ++ definitions_in (n + 1) i → ts ≡ ss ++ sources_in (n + 1) i
    → Have n rest whole us ds ss → Have (n + (more + 1)) after whole vs es ts
have_more n rest after whole i more names us vs ds es ss ts b used m u d s have = λ uses definitions sources h.
    moved
    (sym (append_assoc us (uses_at (n + 1) names) uses) ∙ ap (λ l. l ++ uses) (sym u))
    (sym (append_assoc ds (definitions_in (n + 1) i) definitions) ∙ ap (λ l. l ++ definitions) (sym d))
    (sym (append_assoc ss (sources_in (n + 1) i) sources) ∙ ap (λ l. l ++ sources) (sym s))
    (have _ _ _ (an_item names b used (subst (λ k. HaveVariables (n + (k + 1)) after uses definitions sources) m h)))

pub have_all : (n : ℕ) (rest whole : List (List ℕ)) (us ds : List NamedVariable) (ss : List ℕ) → rest ≡ [] → Have n rest whole us ds ss → HaveVariables 0 whole us ds ss
have_all n rest whole us ds ss none have =
    moved (append-nil us) (append-nil ds) (append-nil ss) (have [] [] [] (subst (λ r. HaveVariables n r [] [] []) (sym none) no_lines))
