-- A pass that looks at the entry before finds the menus that have an entry inside.
use Rattle.std.proofs.Common.{◌≡◌, ℕ, Bool, true, false, true≢false, not, ◌&&◌, ◌||◌, List, [], ◌∷◌, ◌++◌, Option, Some, None, filter_map, if◌then◌else◌, refl, sym, ap, ◌∙◌, subst, append_assoc, arith}
use Rattle.std.specs.List.{Contains, list_any, cons_option}
use Rattle.std.proofs.lemmas.Bool.{eq-eqb}
use Rattle.std.proofs.lemmas.List.Elements.{Contains-append_right}
use Rattle.kc_statement.specs.Tristate.{is_no}
use Rattle.kc_outline.specs.declared.id.BlockId.{BlockId}
use Rattle.kc_outline.specs.declared.entry.Entry.{Entry}
use Rattle.kc_outline.specs.declared.entry.Entry.TheVariants.{Symbol, Again, Menu, EndMenu, Choice, Comment}
use Rattle.kc_outline.specs.Entries.{is_of_menu, IsClosedIn, AreMenusClosed}
use Rattle.kc_outline.specs.TreeValue.{TreeValue}
use Rattle.kc_value.specs.Assignment.{Assignment}
use Rattle.kc_value.specs.Conditions.{menu_condition}
use Rattle.kc_files.specs.ConfigText.{begins_menu, ends_menu, behind_begin, before_end, inside_menu, is_empty, piece_if, piece_of, end_of, end_line, menu_title}
use Rattle.kc_files.specs.DraftValue.{opens_menu, piece_after, pieces_after}

-- ---- lists
abbrev last_of : List Entry → Option Entry
last_of [] = None
last_of (e ∷ []) = Some e
last_of (e ∷ f ∷ es) = last_of (f ∷ es)

last_pushed : (es : List Entry) (e : Entry) → last_of (es ++ e ∷ []) ≡ Some e
last_pushed [] e = refl
last_pushed (d ∷ []) e = refl
last_pushed (d ∷ f ∷ es) e = last_pushed (f ∷ es) e

last_behind : (es : List Entry) (e : Entry) (fs : List Entry) → last_of (es ++ e ∷ fs) ≡ last_of (e ∷ fs)
last_behind [] e fs = refl
last_behind (d ∷ []) e fs = refl
last_behind (d ∷ f ∷ es) e fs = last_behind (f ∷ es) e fs

abbrev first_or : Entry → List Entry → Entry
first_or d [] = d
first_or d (e ∷ es) = e

abbrev rest_of : List Entry → List Entry
rest_of [] = []
rest_of (e ∷ es) = es

or_left_false : (x y : Bool) → (x || y) ≡ false → x ≡ false
or_left_false false y h = refl
or_left_false true y h = h

or_right_false : (x y : Bool) → (x || y) ≡ false → y ≡ false
or_right_false false y h = h
or_right_false true y h = absurd (true≢false h)

any_here : (p : Entry → Bool) (xs : List Entry) (x : Entry) (ys : List Entry) → p x ≡ true → list_any p (xs ++ x ∷ ys) ≡ true
any_here p [] x ys h = ap (λ b. b || list_any p ys) h
any_here p (w ∷ xs) x ys h = go (p w) (any_here p xs x ys h)
  where
    go : (b : Bool) → list_any p (xs ++ x ∷ ys) ≡ true → (b || list_any p (xs ++ x ∷ ys)) ≡ true
    go true k = refl
    go false k = k

-- where one element alone passes the test, what stands before it is the same
fronts_same : (p : Entry → Bool) (ws : List Entry) (x : Entry) (bs cs : List Entry) (y : Entry) (ds : List Entry)
    → p x ≡ true → list_any p cs ≡ false → list_any p ds ≡ false → ws ++ x ∷ bs ≡ cs ++ y ∷ ds → ws ≡ cs
fronts_same p [] x bs [] y ds passes front back same = refl
fronts_same p [] x bs (c ∷ cs) y ds passes front back same =
    absurd (true≢false (sym passes ∙ ap (λ l. p (first_or x l)) same ∙ or_left_false (p c) (list_any p cs) front))
fronts_same p (w ∷ ws) x bs [] y ds passes front back same =
    absurd (true≢false (sym (any_here p ws x bs passes) ∙ ap (λ l. list_any p (rest_of l)) same ∙ back))
fronts_same p (w ∷ ws) x bs (c ∷ cs) y ds passes front back same =
    ap (λ e. e ∷ ws) (ap (first_or w) same)
    ∙ ap (λ l. c ∷ l) (fronts_same p ws x bs cs y ds passes (or_right_false (p c) (list_any p cs) front) back (ap rest_of same))

-- ---- what is no end of a menu begins it neither
begins_of : (b : BlockId) (e : Entry) → is_of_menu b e ≡ false → begins_menu b e ≡ false
begins_of b (Symbol s) h = refl
begins_of b (Again s) h = refl
begins_of b (Menu m) h = h
begins_of b (EndMenu m) h = refl
begins_of b (Choice c) h = refl
begins_of b (Comment c) h = refl

ends_of : (b : BlockId) (e : Entry) → is_of_menu b e ≡ false → ends_menu b e ≡ false
ends_of b (Symbol s) h = refl
ends_of b (Again s) h = refl
ends_of b (Menu m) h = refl
ends_of b (EndMenu m) h = h
ends_of b (Choice c) h = refl
ends_of b (Comment c) h = refl

no_ends : (b : BlockId) (es : List Entry) → list_any (is_of_menu b) es ≡ false → list_any (ends_menu b) es ≡ false
no_ends b [] h = refl
no_ends b (e ∷ es) h =
    ap (λ x. x || list_any (ends_menu b) es) (ends_of b e (or_left_false (is_of_menu b e) (list_any (is_of_menu b) es) h))
    ∙ no_ends b es (or_right_false (is_of_menu b e) (list_any (is_of_menu b) es) h)

no_ends_before : (b : BlockId) (front inside : List Entry) → list_any (is_of_menu b) front ≡ false → list_any (is_of_menu b) inside ≡ false
    → list_any (ends_menu b) (front ++ Menu b ∷ inside) ≡ false
no_ends_before b [] inside f i = no_ends b inside i
no_ends_before b (e ∷ es) inside f i =
    ap (λ x. x || list_any (ends_menu b) (es ++ Menu b ∷ inside)) (ends_of b e (or_left_false (is_of_menu b e) (list_any (is_of_menu b) es) f))
    ∙ no_ends_before b es inside (or_right_false (is_of_menu b e) (list_any (is_of_menu b) es) f) i

-- ---- what stands inside
behind_is : (b : BlockId) (front es : List Entry) → list_any (is_of_menu b) front ≡ false → behind_begin b (front ++ Menu b ∷ es) ≡ es
behind_is b [] es h = ap (λ x. if x then es else behind_begin b es) (eq-eqb b.0 b.0 refl)
behind_is b (e ∷ front) es h =
    ap (λ x. if x then front ++ Menu b ∷ es else behind_begin b (front ++ Menu b ∷ es)) (begins_of b e (or_left_false (is_of_menu b e) (list_any (is_of_menu b) front) h))
    ∙ behind_is b front es (or_right_false (is_of_menu b e) (list_any (is_of_menu b) front) h)

before_is : (b : BlockId) (inside back : List Entry) → list_any (is_of_menu b) inside ≡ false → before_end b (inside ++ EndMenu b ∷ back) ≡ inside
before_is b [] back h = ap (λ x. if x then [] else EndMenu b ∷ before_end b back) (eq-eqb b.0 b.0 refl)
before_is b (e ∷ inside) back h =
    ap (λ x. if x then [] else e ∷ before_end b (inside ++ EndMenu b ∷ back)) (ends_of b e (or_left_false (is_of_menu b e) (list_any (is_of_menu b) inside) h))
    ∙ ap (λ l. e ∷ l) (before_is b inside back (or_right_false (is_of_menu b e) (list_any (is_of_menu b) inside) h))

-- the entry before the end of a menu opens it exactly where nothing stands inside
opens_empty : (b : BlockId) (inside : List Entry) → list_any (is_of_menu b) inside ≡ false → opens_menu b (last_of (Menu b ∷ inside)) ≡ is_empty inside
opens_empty b [] h = eq-eqb b.0 b.0 refl
opens_empty b (e ∷ inside) h = go e inside h
  where
    go : (f : Entry) (fs : List Entry) → list_any (is_of_menu b) (f ∷ fs) ≡ false → opens_menu b (last_of (f ∷ fs)) ≡ false
    go f [] k = begins_of b f (or_left_false (is_of_menu b f) false k)
    go f (g ∷ fs) k = go g fs (or_right_false (is_of_menu b f) (list_any (is_of_menu b) (g ∷ fs)) k)

module _ (t : TreeValue) (prefix : List ℕ) (a : Assignment) (menus : AreMenusClosed t) where
  opens_same : (done : List Entry) (b : BlockId) (es : List Entry) → t.entries ≡ done ++ EndMenu b ∷ es
      → opens_menu b (last_of done) ≡ is_empty (inside_menu t.entries b)
  opens_same done b es split =
      let closed : IsClosedIn t.entries b = menus.closed b (subst_contains done b es split) in
      let whole : done ++ EndMenu b ∷ es ≡ (closed.front ++ Menu b ∷ closed.inside) ++ EndMenu b ∷ closed.back =
      sym split ∙ closed.is ∙ sym (append_assoc closed.front (Menu b ∷ closed.inside) (EndMenu b ∷ closed.back))
      in
      let same : done ≡ closed.front ++ Menu b ∷ closed.inside =
      fronts_same (ends_menu b) done (EndMenu b) es (closed.front ++ Menu b ∷ closed.inside) (EndMenu b) closed.back (eq-eqb b.0 b.0 refl)
      (no_ends_before b closed.front closed.inside closed.front_other closed.inside_other) (no_ends b closed.back closed.back_other) whole
      in
      ap (λ l. opens_menu b (last_of l)) same
      ∙ ap (opens_menu b) (last_behind closed.front (Menu b) closed.inside)
      ∙ opens_empty b closed.inside closed.inside_other
      ∙ sym (ap (λ l. is_empty (inside_menu l b)) closed.is
      ∙ ap (λ l. is_empty (before_end b l)) (behind_is b closed.front (closed.inside ++ EndMenu b ∷ closed.back) closed.front_other)
      ∙ ap is_empty (before_is b closed.inside closed.back closed.inside_other))
    where
      subst_contains : (done : List Entry) (b : BlockId) (es : List Entry) → t.entries ≡ done ++ EndMenu b ∷ es → Contains t.entries (EndMenu b)
      subst_contains done b es split = subst (λ l. Contains l (EndMenu b)) (sym split) (Contains-append_right done (EndMenu b ∷ es) (EndMenu b) (0, omega arith, refl))

  piece_same : (done : List Entry) (e : Entry) (es : List Entry) → t.entries ≡ done ++ e ∷ es
      → piece_after t prefix a (last_of done) e ≡ piece_of t prefix a e
  piece_same done (Symbol s) es split = refl
  piece_same done (Again s) es split = refl
  piece_same done (Menu b) es split = refl
  piece_same done (EndMenu b) es split =
      ap (λ x. piece_if (not (is_no (menu_condition t a b)) && not x) (end_of (end_line (menu_title t b)))) (opens_same done b es split)
  piece_same done (Choice c) es split = refl
  piece_same done (Comment c) es split = refl

  pieces_same : (done es : List Entry) → t.entries ≡ done ++ es → pieces_after t prefix a (last_of done) es ≡ filter_map (piece_of t prefix a) es
  pieces_same done [] split = refl
  pieces_same done (e ∷ es) split =
      ap (λ o. cons_option o (pieces_after t prefix a (Some e) es)) (piece_same done e es split)
      ∙ ap (λ l. cons_option (piece_of t prefix a e) l)
      (ap (λ o. pieces_after t prefix a o es) (sym (last_pushed done e))
      ∙ pieces_same (done ++ e ∷ []) es (split ∙ sym (append_assoc done (e ∷ []) es)))

  -- the pieces of the pass are those of the entries
  pub pieces_of_entries : pieces_after t prefix a None t.entries ≡ filter_map (piece_of t prefix a) t.entries
  pieces_of_entries = pieces_same [] t.entries refl
