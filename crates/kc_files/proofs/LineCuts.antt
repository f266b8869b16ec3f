-- Lines of a text, each cut off its front in turn.
use Rattle.std.proofs.Common.{◌≡◌, ℕ, suc, ◌+◌, ◌-◌, ◌<◌, ◌≤◌, Bool, true, false, not, List, [], ◌∷◌, ◌++◌, length, take, drop, if◌then◌else◌, refl, sym, ap, subst, ◌∙◌, one-add, arith}
use Rattle.std.specs.List.{AllByRecursion, position_or_len, onto_first}
use Rattle.std.proofs.lemmas.Bool.{eqb-true}
use Rattle.std.proofs.lemmas.List.{take-append-drop, append-nil, take_all}
use Rattle.kc_files.specs.ConfigLines.{is_feed, lines_in}

abbrev pub HasNoFeed : List ℕ → Type 0
HasNoFeed bs = AllByRecursion (λ b. is_feed b ≡ false) bs

-- a line and its line feed
pub line_cut : (line rest : List ℕ) → HasNoFeed line → lines_in (line ++ 10 ∷ rest) ≡ line ∷ lines_in rest
line_cut [] rest h = refl
line_cut (b ∷ bs) rest h =
    let more = lines_in (bs ++ 10 ∷ rest) in
    ap (λ x. if x then [] ∷ more else onto_first b more) h.0 ∙ ap (onto_first b) (line_cut bs rest h.1)

-- a last line without one
pub line_alone : (b : ℕ) (bs : List ℕ) → HasNoFeed (b ∷ bs) → lines_in (b ∷ bs) ≡ (b ∷ bs) ∷ []
line_alone b [] h = ap (λ x. if x then [] ∷ [] else onto_first b []) h.0
line_alone b (c ∷ cs) h =
    let more = lines_in (c ∷ cs) in
    ap (λ x. if x then [] ∷ more else onto_first b more) h.0 ∙ ap (onto_first b) (line_alone c cs h.1)

at_feed : (b : ℕ) (bs : List ℕ) → is_feed b ≡ true → position_or_len is_feed (b ∷ bs) ≡ 0
at_feed b bs e = ap (λ v. if not v then 1 + position_or_len is_feed bs else 0) e

past_feed : (b : ℕ) (bs : List ℕ) → is_feed b ≡ false → position_or_len is_feed (b ∷ bs) ≡ suc (position_or_len is_feed bs)
past_feed b bs e = ap (λ v. if not v then 1 + position_or_len is_feed bs else 0) e ∙ one-add (position_or_len is_feed bs)

pub no_feed_before : (bs : List ℕ) → HasNoFeed (take (position_or_len is_feed bs) bs)
no_feed_before [] = tt
no_feed_before (b ∷ bs) = go (is_feed b) refl (no_feed_before bs)
  where
    go : (v : Bool) → is_feed b ≡ v → HasNoFeed (take (position_or_len is_feed bs) bs) → HasNoFeed (take (position_or_len is_feed (b ∷ bs)) (b ∷ bs))
    go true e more = subst (λ k. HasNoFeed (take k (b ∷ bs))) (sym (at_feed b bs e)) tt
    go false e more = subst (λ k. HasNoFeed (take k (b ∷ bs))) (sym (past_feed b bs e)) (e, more)

pub feed_behind : (bs rest : List ℕ) (x : ℕ) → drop (position_or_len is_feed bs) bs ≡ x ∷ rest → x ≡ 10
feed_behind [] rest x e = absurd (omega (arith, ap length e))
feed_behind (b ∷ bs) rest x e = go (is_feed b) refl (feed_behind bs rest x)
  where
    go : (v : Bool) → is_feed b ≡ v → (drop (position_or_len is_feed bs) bs ≡ x ∷ rest → x ≡ 10) → x ≡ 10
    go true f more =
        let first : b ∷ bs ≡ x ∷ rest = sym (ap (λ k. drop k (b ∷ bs)) (at_feed b bs f)) ∙ e in
        let same : x ≡ b = cc in
        same ∙ eqb-true b 10 f
    go false f more = more (sym (ap (λ k. drop k (b ∷ bs)) (past_feed b bs f)) ∙ e)

-- a text that goes on behind its first line
pub first_cut : (text line end rest : List ℕ) (n x : ℕ) → n ≡ position_or_len is_feed text → line ≡ take n text → end ≡ drop n text → end ≡ x ∷ rest
    → lines_in text ≡ line ∷ lines_in rest
first_cut text line end rest n x len front back more =
    let n_is : ℕ = position_or_len is_feed text in
    let behind : drop n_is text ≡ x ∷ rest = ap (λ k. drop k text) (sym len) ∙ sym back ∙ more in
    let begins : line ≡ take n_is text = front ∙ ap (λ k. take k text) len in
    ap lines_in (sym (take-append-drop n_is text) ∙ (λ i. sym begins i ++ behind i) ∙ ap (λ c. line ++ c ∷ rest) (feed_behind text rest x behind))
    ∙ line_cut line rest (subst HasNoFeed (sym begins) (no_feed_before text))

-- a list that is not empty, by its rest
pub with_rest : (end : List ℕ) → 1 ≤ length end → (x : ℕ) × (end ≡ x ∷ take (length end - 1) (drop 1 end))
with_rest [] h = absurd (omega (arith, h))
with_rest (x ∷ rest) h = (x, ap (λ r. x ∷ r) (sym (take_all (length (x ∷ rest) - 1) rest (omega arith))))

alone : (text : List ℕ) → 0 < length text → HasNoFeed text → lines_in text ≡ text ∷ []
alone [] some h = absurd (omega (arith, some))
alone (b ∷ bs) some h = line_alone b bs h

-- the last line
pub last_line : (text line end : List ℕ) (n : ℕ) → 0 < length text → n ≡ position_or_len is_feed text → line ≡ take n text → end ≡ drop n text → length end ≡ 0
    → lines_in text ≡ line ∷ lines_in end
last_line text line [] n some len front back none =
    let n_is : ℕ = position_or_len is_feed text in
    let begins : line ≡ take n_is text = front ∙ ap (λ k. take k text) len in
    let whole : line ≡ text = front ∙ sym (append-nil (take n text)) ∙ ap (λ r. take n text ++ r) back ∙ take-append-drop n text in
    alone text some (subst HasNoFeed (sym begins ∙ whole) (no_feed_before text)) ∙ ap (λ l. l ∷ []) (sym whole)
last_line text line (b ∷ bs) n some len front back none = absurd (omega (arith, none))
