-- The form of a line is the one that its definition says, and the only one.
use Rattle.std.proofs.Common.{◌≡◌, ◌≢◌, ◌⊎◌, inl, inr, ℕ, zero, suc, ◌<◌, ◌==◌, Bool, true, false, not, List, [], ◌∷◌, ◌++◌, length, get_or, Option, Some, None, if◌then◌else◌, refl, sym, ap, subst, ◌∙◌, arith}
use Rattle.std.specs.Prelude.{codes, nat_le, option_map, option_and_then}
use Rattle.std.specs.List.{list_all}
use Rattle.std.specs.Option.{option_map_or}
use Rattle.std.specs.Str.{IsUtf8, is_utf8, bytes_eq}
use Rattle.std.proofs.lemmas.Bool.{true≢false, eq-eqb, eqb-true, and_parts, false_from_ne_true}
use Rattle.std.proofs.lemmas.Slice.Eq.{bytes_eq-Decides}
use Rattle.std.proofs.lemmas.Option.{none-some, same_Some}
use Rattle.std.proofs.lemmas.Str.{is_utf8-from_IsUtf8, IsUtf8-from_is_utf8}
use Rattle.kc_statement.specs.Names.{is_name_byte}
use Rattle.kc_files.specs.PrefixForm.{is_prefix}
use Rattle.kc_files.specs.declared.line_form.LineForm.{LineForm}
use Rattle.kc_files.specs.declared.line_form.LineForm.TheVariants.{Assigned, Unset, Nothing, Malformed}
use Rattle.kc_files.specs.LineForm.{is_word, IsAssignment, IsUnset, IsComment, HasForm}
use Rattle.kc_files.specs.ReadingSteps.{Parts, parts_of, with_first, after, parted, if_named, named, if_not_set, unset_name, assignment, text_form, line_form}
use Rattle.kc_files.proofs.FormSteps.{after_itself, after_some, parted_at}

-- ---- names
-- a byte of no name does not stand in one
word_lacks : (c : ℕ) → is_name_byte c ≡ false → (w : List ℕ) → list_all is_name_byte w ≡ true → (i : ℕ) → i < length w → get_or w i 0 ≢ c
word_lacks c other [] h i l = λ e. absurd (omega (arith, l))
word_lacks c other (b ∷ bs) h zero l = λ e. true≢false (sym (and_parts (is_name_byte b) (list_all is_name_byte bs) h).0 ∙ ap is_name_byte e ∙ other)
word_lacks c other (b ∷ bs) h (suc i) l = word_lacks c other bs (and_parts (is_name_byte b) (list_all is_name_byte bs) h).1 i (omega (arith, l))

abbrev pub IsNamed : List ℕ → Type 0
IsNamed prefix = list_all is_name_byte prefix ≡ true

pub word_bytes : (w : List ℕ) → is_word w ≡ true → IsNamed w
word_bytes w h = (and_parts (not (length w == 0)) (list_all is_name_byte w) h).1

pub no_hash : (b : ℕ) → is_name_byte b ≡ true → (b == 35) ≡ false
no_hash b e = false_from_ne_true (b == 35) (λ f. true≢false (sym e ∙ ap is_name_byte (eqb-true b 35 f)))

-- a prefix and a name begin with a byte of a name
abbrev pub Begins : List ℕ → Type 0
Begins line = (b : ℕ) × (bs : List ℕ) × (is_name_byte b ≡ true) × (line ≡ b ∷ bs)

begins : (prefix name rest : List ℕ) → IsNamed prefix → is_word name ≡ true → Begins (prefix ++ (name ++ rest))
begins [] [] rest p h = absurd (true≢false (sym h))
begins [] (b ∷ bs) rest p h = (b, bs ++ rest, (and_parts (is_name_byte b) (list_all is_name_byte bs) (word_bytes (b ∷ bs) h)).0, refl)
begins (b ∷ bs) name rest p h = (b, bs ++ (name ++ rest), (and_parts (is_name_byte b) (list_all is_name_byte bs) p).0, refl)

-- ---- round a byte
mapped : (b c : ℕ) (bs : List ℕ) (o : Option Parts) (p : Parts) → ((q : Parts) → o ≡ Some q → bs ≡ q.front ++ (c ∷ q.back)) → option_map (with_first b) o ≡ Some p
    → b ∷ bs ≡ p.front ++ (c ∷ p.back)
mapped b c bs None p more h = absurd (none-some p h)
mapped b c bs (Some q) p more h = ap (λ r. b ∷ r) (more q refl) ∙ ap (λ (r : Parts). r.front ++ (c ∷ r.back)) (same_Some (with_first b q) p h)

parted_some : (c : ℕ) (bs : List ℕ) (p : Parts) → parted c bs ≡ Some p → bs ≡ p.front ++ (c ∷ p.back)
parted_some c [] p e = absurd (none-some p e)
parted_some c (b ∷ bs) p e = go (b == c) refl e (parted_some c bs)
  where
    go : (x : Bool) → (b == c) ≡ x → (if x then Some (parts_of [] bs) else option_map (with_first b) (parted c bs)) ≡ Some p
        → ((q : Parts) → parted c bs ≡ Some q → bs ≡ q.front ++ (c ∷ q.back)) → b ∷ bs ≡ p.front ++ (c ∷ p.back)
    go true f h more =
        ap (λ d. d ∷ bs) (eqb-true b c f) ∙ ap (λ (r : Parts). r.front ++ (c ∷ r.back)) (same_Some (parts_of [] bs) p h)
    go false f h more = mapped b c bs (parted c bs) p more h

named_in : (o : Option Parts) (p : Parts) → option_and_then if_named o ≡ Some p → (o ≡ Some p) × (is_word p.front ≡ true)
named_in None p h = absurd (none-some p h)
named_in (Some q) p h = go (is_word q.front) refl h
  where
    go : (x : Bool) → is_word q.front ≡ x → (if x then Some q else None) ≡ Some p → (Some q ≡ Some p) × (is_word p.front ≡ true)
    go true e h = (h, sym (ap (λ (r : Parts). is_word r.front) (same_Some q p h)) ∙ e)
    go false e h = absurd (none-some p h)

named_some : (c : ℕ) (bs : List ℕ) (p : Parts) → named c bs ≡ Some p → (is_word p.front ≡ true) × (bs ≡ p.front ++ (c ∷ p.back))
named_some c bs p h = let n = named_in (parted c bs) p h in (n.1, parted_some c bs p n.0)

pub named_at : (c : ℕ) (name rest : List ℕ) → is_name_byte c ≡ false → is_word name ≡ true → named c (name ++ c ∷ rest) ≡ Some (parts_of name rest)
named_at c name rest other h =
    ap (option_and_then if_named) (parted_at c name rest (word_lacks c other name (word_bytes name h)))
    ∙ ap (λ x. if x then Some (parts_of name rest) else None) h

-- ---- a name with a value
assignment_some : (prefix line : List ℕ) (p : Parts) → assignment prefix line ≡ Some p → IsAssignment prefix line p.front p.back
assignment_some prefix line p h = go (after prefix line) refl h
  where
    go : (o : Option (List ℕ)) → after prefix line ≡ o → option_and_then (named 61) o ≡ Some p → IsAssignment prefix line p.front p.back
    go None e h = absurd (none-some p h)
    go (Some r) e h = let n = named_some 61 r p h in (n.0, after_some prefix line r e ∙ ap (λ x. prefix ++ x) n.1)

pub assignment_at : (prefix line name value : List ℕ) → IsAssignment prefix line name value → assignment prefix line ≡ Some (parts_of name value)
assignment_at prefix line name value h =
    ap (assignment prefix) h.1
    ∙ ap (option_and_then (named 61)) (after_itself prefix (name ++ 61 ∷ value))
    ∙ named_at 61 name value refl h.0

-- ---- a name that is not set
not_set_in : (o : Option Parts) (name : List ℕ) → option_and_then if_not_set o ≡ Some name → (p : Parts) × (o ≡ Some p) × (p.front ≡ name) × (p.back ≡ codes "is not set")
not_set_in None name h = absurd (none-some name h)
not_set_in (Some p) name h = go (bytes_eq p.back (codes "is not set")) refl h
  where
    go : (x : Bool) → bytes_eq p.back (codes "is not set") ≡ x → (if x then Some p.front else None) ≡ Some name
        → (q : Parts) × (Some p ≡ Some q) × (q.front ≡ name) × (q.back ≡ codes "is not set")
    go true e h = (p, refl, same_Some p.front name h, (bytes_eq-Decides p.back (codes "is not set")).0 e)
    go false e h = absurd (none-some name h)

unset_some : (prefix line name : List ℕ) → unset_name prefix line ≡ Some name → IsUnset prefix line name
unset_some prefix line name h = start (after (codes "# ") line) refl h
  where
    at_name : (r1 r2 : List ℕ) → line ≡ codes "# " ++ r1 → r1 ≡ prefix ++ r2 → option_and_then if_not_set (named 32 r2) ≡ Some name → IsUnset prefix line name
    at_name r1 r2 e1 e2 h =
        let n = not_set_in (named 32 r2) name h in
        let m = named_some 32 r2 n.0 n.1 in
        let ends : r2 ≡ name ++ (32 ∷ codes "is not set") = m.1 ∙ (λ i. n.2 i ++ (32 ∷ n.3 i)) in
        (sym (ap is_word n.2) ∙ m.0, e1 ∙ ap (λ x. codes "# " ++ x) (e2 ∙ ap (λ x. prefix ++ x) ends))

    at_prefix : (r1 : List ℕ) (o : Option (List ℕ)) → line ≡ codes "# " ++ r1 → after prefix r1 ≡ o → option_and_then if_not_set (option_and_then (named 32) o) ≡ Some name → IsUnset prefix line name
    at_prefix r1 None e1 e2 h = absurd (none-some name h)
    at_prefix r1 (Some r2) e1 e2 h = at_name r1 r2 e1 (after_some prefix r1 r2 e2) h

    start : (o : Option (List ℕ)) → after (codes "# ") line ≡ o → option_and_then if_not_set (option_and_then (named 32) (option_and_then (after prefix) o)) ≡ Some name → IsUnset prefix line name
    start None e h = absurd (none-some name h)
    start (Some r1) e h = at_prefix r1 (after prefix r1) (after_some (codes "# ") line r1 e) refl h

pub unset_at : (prefix line name : List ℕ) → IsUnset prefix line name → unset_name prefix line ≡ Some name
unset_at prefix line name h =
    let behind = prefix ++ (name ++ codes " is not set") in
    ap (unset_name prefix) h.1
    ∙ ap (λ o. option_and_then if_not_set (option_and_then (named 32) (option_and_then (after prefix) o))) (after_itself (codes "# ") behind)
    ∙ ap (λ o. option_and_then if_not_set (option_and_then (named 32) o)) (after_itself prefix (name ++ codes " is not set"))
    ∙ ap (option_and_then if_not_set) (named_at 32 name (codes "is not set") refl h.0)

-- ---- the form of a text
abbrev as_unset : Option (List ℕ) → LineForm
as_unset o = option_map_or Unset o Nothing

abbrev as_assigned : Option Parts → LineForm
as_assigned o = option_map_or (λ (p : Parts). Assigned p.front p.back) o Malformed

comment_form : (prefix line : List ℕ) → IsUtf8 line → IsComment line → (o : Option (List ℕ)) → unset_name prefix line ≡ o → HasForm prefix line (as_unset o)
comment_form prefix line u c None e = (u, inr (c, λ name h. none-some name (sym e ∙ unset_at prefix line name h)))
comment_form prefix line u c (Some name) e = (u, unset_some prefix line name e)

plain_form : (prefix line : List ℕ) → IsUtf8 line → line ≢ [] → (IsComment line → ⊥) → (o : Option Parts) → assignment prefix line ≡ o → HasForm prefix line (as_assigned o)
plain_form prefix line u some plain None e = inr (some, plain, λ name value h. none-some (parts_of name value) (sym e ∙ assignment_at prefix line name value h))
plain_form prefix line u some plain (Some p) e = (u, assignment_some prefix line p e)

not_empty : (b : ℕ) (bs : List ℕ) → b ∷ bs ≢ []
not_empty b bs = λ e. absurd (omega (arith, ap length e))

first_is : (b : ℕ) (bs : List ℕ) → IsComment (b ∷ bs) → b ≡ 35
first_is b bs c = ap (λ l. get_or l 0 0) c.1

text_form_has : (prefix line : List ℕ) → IsUtf8 line → HasForm prefix line (text_form prefix line)
text_form_has prefix [] u = (u, inl refl)
text_form_has prefix (b ∷ bs) u = go (b == 35) refl
  where
    go : (x : Bool) → (b == 35) ≡ x → HasForm prefix (b ∷ bs) (if x then as_unset (unset_name prefix (b ∷ bs)) else as_assigned (assignment prefix (b ∷ bs)))
    go true e = comment_form prefix (b ∷ bs) u (bs, ap (λ d. d ∷ bs) (eqb-true b 35 e)) (unset_name prefix (b ∷ bs)) refl
    go false e =
        plain_form prefix (b ∷ bs) u (not_empty b bs) (λ c. true≢false (sym (eq-eqb b 35 (first_is b bs c)) ∙ e)) (assignment prefix (b ∷ bs)) refl

pub line_form_has : (prefix line : List ℕ) → HasForm prefix line (line_form prefix line)
line_form_has prefix line = go (is_utf8 line) refl
  where
    go : (x : Bool) → is_utf8 line ≡ x → HasForm prefix line (if x then text_form prefix line else Malformed)
    go true e = text_form_has prefix line (IsUtf8-from_is_utf8 line e)
    go false e = inl (λ u. true≢false (sym (is_utf8-from_IsUtf8 line u) ∙ e))

-- ---- no other
at_comment : (prefix line : List ℕ) → IsComment line → text_form prefix line ≡ as_unset (unset_name prefix line)
at_comment prefix line c = ap (text_form prefix) c.1 ∙ ap (λ l. as_unset (unset_name prefix l)) (sym c.1)

at_plain : (prefix line : List ℕ) → line ≢ [] → (IsComment line → ⊥) → text_form prefix line ≡ as_assigned (assignment prefix line)
at_plain prefix [] some plain = absurd (some refl)
at_plain prefix (b ∷ bs) some plain =
    ap (λ x. if x then as_unset (unset_name prefix (b ∷ bs)) else as_assigned (assignment prefix (b ∷ bs)))
    (false_from_ne_true (b == 35) (λ e. plain (bs, ap (λ d. d ∷ bs) (eqb-true b 35 e))))

-- a line that begins with a byte of a name is neither empty nor a comment
begins_some : (line : List ℕ) → Begins line → line ≢ []
begins_some line s = λ e. not_empty s.0 s.1 (sym s.3 ∙ e)

begins_plain : (line : List ℕ) → Begins line → IsComment line → ⊥
begins_plain line s c = true≢false (sym s.2 ∙ ap (λ l. is_name_byte (get_or l 0 0)) (sym s.3 ∙ c.1))

no_unset : (prefix line : List ℕ) → ((name : List ℕ) → IsUnset prefix line name → ⊥) → (o : Option (List ℕ)) → unset_name prefix line ≡ o → as_unset o ≡ Nothing
no_unset prefix line none None e = refl
no_unset prefix line none (Some name) e = absurd (none name (unset_some prefix line name e))

no_assignment : (prefix line : List ℕ) → ((name value : List ℕ) → IsAssignment prefix line name value → ⊥) → (o : Option Parts) → assignment prefix line ≡ o → as_assigned o ≡ Malformed
no_assignment prefix line none None e = refl
no_assignment prefix line none (Some p) e = absurd (none p.front p.back (assignment_some prefix line p e))

of_text : (prefix line : List ℕ) → IsUtf8 line → line_form prefix line ≡ text_form prefix line
of_text prefix line u = ap (λ x. if x then text_form prefix line else Malformed) (is_utf8-from_IsUtf8 line u)

malformed_only : (prefix line : List ℕ) → HasForm prefix line Malformed → line_form prefix line ≡ Malformed
malformed_only prefix line (inl none) = ap (λ x. if x then text_form prefix line else Malformed) (false_from_ne_true (is_utf8 line) (λ e. none (IsUtf8-from_is_utf8 line e)))
malformed_only prefix line (inr h) = go (is_utf8 line)
  where
    go : (x : Bool) → (if x then text_form prefix line else Malformed) ≡ Malformed
    go true = at_plain prefix line h.0 h.1 ∙ no_assignment prefix line h.2 (assignment prefix line) refl
    go false = refl

nothing_only : (prefix line : List ℕ) → (line ≡ []) ⊎ (IsComment line × ((name : List ℕ) → IsUnset prefix line name → ⊥)) → text_form prefix line ≡ Nothing
nothing_only prefix line (inl e) = ap (text_form prefix) e
nothing_only prefix line (inr h) = at_comment prefix line h.0 ∙ no_unset prefix line h.1 (unset_name prefix line) refl

pub line_form_only : (prefix line : List ℕ) (f : LineForm) → IsNamed prefix → HasForm prefix line f → line_form prefix line ≡ f
line_form_only prefix line (Assigned name value) named h =
    let start : Begins line = subst Begins (sym h.1.1) (begins prefix name (61 ∷ value) named h.1.0) in
    of_text prefix line h.0
    ∙ at_plain prefix line (begins_some line start) (begins_plain line start)
    ∙ ap as_assigned (assignment_at prefix line name value h.1)
line_form_only prefix line (Unset name) named h =
    of_text prefix line h.0
    ∙ at_comment prefix line (32 ∷ (prefix ++ (name ++ codes " is not set")), h.1.1)
    ∙ ap as_unset (unset_at prefix line name h.1)
line_form_only prefix line Nothing named h = of_text prefix line h.0 ∙ nothing_only prefix line h.1
line_form_only prefix line Malformed named h = malformed_only prefix line h

-- a prefix has bytes of names alone
pub prefix_bytes : (prefix : List ℕ) → is_prefix prefix ≡ true → IsNamed prefix
prefix_bytes prefix h = (and_parts (nat_le (length prefix) 64) (list_all is_name_byte prefix) h).1
