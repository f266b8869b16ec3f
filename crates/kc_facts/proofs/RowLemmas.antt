-- The blocks around a place, and the rows that open them.
use Rattle.std.proofs.Common.{◌≡◌, ℕ, zero, suc, ◌+◌, ◌<◌, ◌≤◌, Bool, true, false, List, [], ◌∷◌, ◌++◌, Option, Some, None, unwrap_or, length, get_or, slice_get, slice_set, nat_lt, reverse, filter_map, refl, sym, ap, ◌∙◌, subst, ⊎_elim, cond, if◌then◌else◌, ◌==◌, get_or-set_other, append_assoc, drop, map, length-append, length-set, arith}
use Rattle.std.specs.List.{count_by, filter, find}
use Rattle.std.specs.Option.{option_map, option_map_or}
use Rattle.std.proofs.lemmas.Bool.{eq-eqb, eqb-true, ltb-false, ltb-true}
use Rattle.std.proofs.lemmas.Grind.{get_or-set_at}
use Rattle.std.proofs.lemmas.List.{append-nil, drop_more, length-reverse, map-append, reverse-append}
use Rattle.std.proofs.lemmas.List.Sums.{sum_by-append}
use Rattle.std.proofs.lemmas.Option.{slice_get_cases}
use Rattle.kc_outline.specs.declared.id.BlockId.{BlockId}
use Rattle.kc_outline.specs.declared.entry.Entry.{Entry}
use Rattle.kc_outline.specs.declared.limits.TheConstants.{MOST_OPEN_BLOCKS}
use Rattle.kc_outline.specs.TreeValue.{TreeValue, BlockValue}
use Rattle.kc_facts.specs.declared.row.Row.{Row}
use Rattle.kc_facts.specs.MenuTree.{AreRowsBack, IsRowAfter, block_around, has_row, is_definition, opened, opens, row_that_opens}
use Rattle.kc_lines.specs.BlocksOutwards.{blocks_outwards}
use Rattle.kc_facts.specs.RowSteps.{AreRowsSoFar, first_found, found_after, found_in}

-- ---- the blocks around, one by one
outwards_next : (blocks : List BlockValue) (n m : ℕ) (id : BlockId) (b : BlockValue) → n ≡ suc m
    → slice_get blocks id.0 ≡ Some b → blocks_outwards blocks n (Some id) ≡ id ∷ blocks_outwards blocks m b.parent
outwards_next blocks n m id b more is = rw (more, is)

outwards_end : (blocks : List BlockValue) (n : ℕ) → blocks_outwards blocks n None ≡ []
outwards_end blocks zero = refl
outwards_end blocks (suc n) = refl

outwards_missing : (blocks : List BlockValue) (n : ℕ) (id : BlockId) → slice_get blocks id.0 ≡ None → blocks_outwards blocks n (Some id) ≡ []
outwards_missing blocks zero id none = refl
outwards_missing blocks (suc n) id none = rw none

found_first : (f : BlockId → Option ℕ) (b : BlockId) (bs : List BlockId) (r : ℕ) → f b ≡ Some r → first_found f (b ∷ bs) ≡ r
found_first f b bs r is = rw is

found_later : (f : BlockId → Option ℕ) (b : BlockId) (bs : List BlockId) → f b ≡ None → first_found f (b ∷ bs) ≡ first_found f bs
found_later f b bs none = rw none

-- what is found from a place on
abbrev found_from : List (Option ℕ) → List BlockValue → ℕ → Option BlockId → ℕ
found_from found blocks n next = first_found (found_in found) (blocks_outwards blocks n next)

pub step_end : (found : List (Option ℕ)) (blocks : List BlockValue) (n : ℕ) (next : Option BlockId) (want : ℕ) → next ≡ None
    → first_found (found_in found) (blocks_outwards blocks n next) ≡ want → 0 ≡ want
step_end found blocks n next want is e =
    sym (ap (found_from found blocks n) is ∙ ap (first_found (found_in found)) (outwards_end blocks n)) ∙ e

-- the last place is past the outermost block
pub first_end : (found : List (Option ℕ)) (blocks : List BlockValue) (n : ℕ) (next : Option BlockId) (want : ℕ) → n ≡ 0
    → first_found (found_in found) (blocks_outwards blocks n next) ≡ want → 0 ≡ want
first_end found blocks n next want is e = sym (ap (λ (k : ℕ). first_found (found_in found) (blocks_outwards blocks k next)) is) ∙ e

pub step_missing : (found : List (Option ℕ)) (blocks : List BlockValue) (n : ℕ) (next : Option BlockId) (id : BlockId) (want : ℕ) → next ≡ Some id
    → slice_get blocks id.0 ≡ None → first_found (found_in found) (blocks_outwards blocks n next) ≡ want → 0 ≡ want
step_missing found blocks n next id want is none e =
    sym (ap (found_from found blocks n) is ∙ ap (first_found (found_in found)) (outwards_missing blocks n id none)) ∙ e

pub step_found : (found : List (Option ℕ)) (blocks : List BlockValue) (n m : ℕ) (next : Option BlockId) (id : BlockId) (b : BlockValue) (r want : ℕ) → n ≡ suc m
    → next ≡ Some id → slice_get blocks id.0 ≡ Some b → found_in found id ≡ Some r
    → first_found (found_in found) (blocks_outwards blocks n next) ≡ want → r ≡ want
step_found found blocks n m next id b r want more is there row e =
    let first = found_first (found_in found) id (blocks_outwards blocks m b.parent) r row in
    sym (ap (found_from found blocks n) is ∙ ap (first_found (found_in found)) (outwards_next blocks n m id b more there) ∙ first) ∙ e

pub step_later : (found : List (Option ℕ)) (blocks : List BlockValue) (n m : ℕ) (next : Option BlockId) (id : BlockId) (b : BlockValue) (want : ℕ) → n ≡ suc m
    → next ≡ Some id → slice_get blocks id.0 ≡ Some b → found_in found id ≡ None
    → first_found (found_in found) (blocks_outwards blocks n next) ≡ want → first_found (found_in found) (blocks_outwards blocks m b.parent) ≡ want
step_later found blocks n m next id b want more is there none e =
    let later = found_later (found_in found) id (blocks_outwards blocks m b.parent) none in
    sym (ap (found_from found blocks n) is ∙ ap (first_found (found_in found)) (outwards_next blocks n m id b more there) ∙ later) ∙ e

-- ---- what is found is all that is asked for
filter_map_head : (f g : BlockId → Option ℕ) (b : BlockId) (bs : List BlockId) → f b ≡ g b → filter_map f bs ≡ filter_map g bs → filter_map f (b ∷ bs) ≡ filter_map g (b ∷ bs)
filter_map_head f g b bs head rest = rw (head, rest)

pub outwards_same : (f g : BlockId → Option ℕ) (blocks : List BlockValue) → ((b : BlockId) → b.0 < length blocks → f b ≡ g b)
    → (n : ℕ) (id : Option BlockId) → filter_map f (blocks_outwards blocks n id) ≡ filter_map g (blocks_outwards blocks n id)
outwards_same f g blocks same zero id = refl
outwards_same f g blocks same (suc n) None = refl
outwards_same f g blocks same (suc n) (Some id) =
    ⊎_elim (λ w. rw w.2 (filter_map_head f g id (blocks_outwards blocks n w.0.parent) (same id w.1) (outwards_same f g blocks same n w.0.parent)))
    (λ w. rw w.1) ((slice_get_cases blocks id.0).1)

-- ---- a parent is before its row
small_head : (f : BlockId → Option ℕ) (n : ℕ) (b : BlockId) (bs : List BlockId) (o : Option ℕ) → f b ≡ o → ((r : ℕ) → o ≡ Some r → r ≤ n) → first_found f bs ≤ n → first_found f (b ∷ bs) ≤ n
small_head f n b bs None is small rest = rw is rest
small_head f n b bs (Some r) is small rest = rw is (small r refl)

pub first_small : (f : BlockId → Option ℕ) (n : ℕ) → ((b : BlockId) (r : ℕ) → f b ≡ Some r → r ≤ n) → (bs : List BlockId) → first_found f bs ≤ n
first_small f n small [] = omega arith
first_small f n small (b ∷ bs) = small_head f n b bs (f b) refl (small b) (first_small f n small bs)

-- ---- the next row
pub row_after : (t : TreeValue) (rows : List Row) (found : List (Option ℕ)) (definitions : ℕ) (r : Row) → AreRowsSoFar t rows found definitions
    → r.id ≡ length rows + 1 → r.definition ≡ (if is_definition r.entry then Some definitions else None)
    → r.parent ≡ first_found (found_in found) (blocks_outwards t.blocks MOST_OPEN_BLOCKS (block_around t r.definition r.entry))
    → IsRowAfter t (reverse rows) r
row_after t rows found definitions r so_far id definition parent =
    let around = blocks_outwards t.blocks MOST_OPEN_BLOCKS (block_around t r.definition r.entry) in
    let same = outwards_same (found_in found) (row_that_opens t (reverse rows)) t.blocks so_far.right MOST_OPEN_BLOCKS (block_around t r.definition r.entry) in
    let small = first_small (found_in found) (length rows) (λ b k is. so_far.before b.0 k is) around in
    record {
      id = id ∙ omega (arith, length-reverse rows);
      definition = definition ∙ ap (λ (k : ℕ). if is_definition r.entry then Some k else None) so_far.counted;
      parent = parent ∙ ap (λ (ks : List ℕ). unwrap_or (slice_get ks 0) 0) same;
      parent_before = omega (arith, small, id, parent);
    }

-- what is found with the next row
count_cons : (p : Row → Bool) (r : Row) (rs : List Row) → count_by p (r ∷ rs) ≡ (0 + cond (p r) 1 0) + count_by p rs
count_cons p r rs = sum_by-append (λ x. cond (p x) 1 0) (r ∷ []) rs

one_more : (p : Row → Bool) (r : Row) (rs : List Row) (n : ℕ) (x : Bool) → p r ≡ x → n ≡ count_by p rs → (if x then n + 1 else n) ≡ count_by p (r ∷ rs)
one_more p r rs n true is counted =
    let more : ◌≡◌ {A = ℕ} (cond (p r) 1 0) 1 = rw is in
    omega (arith, count_cons p r rs, more, counted)
one_more p r rs n false is counted =
    let more : ◌≡◌ {A = ℕ} (cond (p r) 1 0) 0 = rw is in
    omega (arith, count_cons p r rs, more, counted)

count_next : (rows : List Row) (definitions : ℕ) (r : Row) → definitions ≡ count_by (λ (x : Row). is_definition x.entry) rows → (x : Bool) → is_definition r.entry ≡ x
    → (if x then definitions + 1 else definitions) ≡ count_by (λ (x : Row). is_definition x.entry) (r ∷ rows)
count_next rows definitions r counted x is = one_more (λ (y : Row). is_definition y.entry) r rows definitions x is counted

find_step : (p : Row → Bool) (r : Row) (rs : List Row) (x : Bool) → p r ≡ x → find p (r ∷ rs) ≡ (if x then Some r else find p rs)
find_step p r rs true is = rw is
find_step p r rs false is = rw is

opens_next : (t : TreeValue) (b : BlockId) (r : Row) (earlier : List Row) (x : Bool) → opens t b r.entry ≡ x
    → row_that_opens t (r ∷ earlier) b ≡ (if x then Some r.id else row_that_opens t earlier b)
opens_next t b r earlier true is = ap (option_map (λ (y : Row). y.id)) (find_step (λ (y : Row). opens t b y.entry) r earlier true is)
opens_next t b r earlier false is = ap (option_map (λ (y : Row). y.id)) (find_step (λ (y : Row). opens t b y.entry) r earlier false is)

found_at_set : (found : List (Option ℕ)) (d b row : ℕ) (earlier : Option ℕ) (x y : Bool) → b < length found → get_or found b None ≡ earlier
    → (d == b) ≡ x → nat_lt d (length found) ≡ y
    → get_or (if y then slice_set found d (Some row) else found) b None ≡ (if x then Some row else earlier)
found_at_set found d b row earlier true true inside is same within =
    get_or-set_at found d b (Some row) None (sym (eqb-true d b same)) (ltb-true d (length found) within)
found_at_set found d b row earlier true false inside is same within =
    absurd (omega (arith, ltb-false d (length found) within, inside, eqb-true d b same))
found_at_set found d b row earlier false true inside is same within =
    get_or-set_other found d b (Some row) None (λ e. let no : true ≡ false = sym (eq-eqb d b (sym e)) ∙ same in cc) ∙ is
found_at_set found d b row earlier false false inside is same within = is

found_step : (found : List (Option ℕ)) (o : Option BlockId) (row : ℕ) (b : BlockId) (earlier : Option ℕ) → b.0 < length found → found_in found b ≡ earlier
    → found_in (found_after found o row) b ≡ (if option_map_or (λ (x : BlockId). x.0 == b.0) o false then Some row else earlier)
found_step found None row b earlier inside is = is
found_step found (Some d) row b earlier inside is =
    found_at_set found d.0 b.0 row earlier (d.0 == b.0) (nat_lt d.0 (length found)) inside is refl refl

pub found_next : (t : TreeValue) (rows : List Row) (found : List (Option ℕ)) (definitions : ℕ) (r : Row) → AreRowsSoFar t rows found definitions
    → (b : BlockId) → b.0 < length t.blocks → found_in (found_after found (opened t r.entry) r.id) b ≡ row_that_opens t (r ∷ reverse rows) b
found_next t rows found definitions r so_far b inside =
    found_step found (opened t r.entry) r.id b (row_that_opens t (reverse rows) b) (rw so_far.sized inside) (so_far.right b inside)
    ∙ sym (opens_next t b r (reverse rows) (opens t b r.entry) refl)

before_at : (found : List (Option ℕ)) (d k row n id : ℕ) (x y : Bool) → row ≡ n + 1 → ((j i : ℕ) → get_or found j None ≡ Some i → i ≤ n)
    → (d == k) ≡ x → nat_lt d (length found) ≡ y → get_or (if y then slice_set found d (Some row) else found) k None ≡ Some id → id ≤ n + 1
before_at found d k row n id true true more before same within is =
    let set : get_or (slice_set found d (Some row)) k None ≡ Some row = get_or-set_at found d k (Some row) None (sym (eqb-true d k same)) (ltb-true d (length found) within) in
    let it : row ≡ id = ap (λ (o : Option ℕ). unwrap_or o 0) (sym set ∙ is) in
    omega (arith, more, it)
before_at found d k row n id false true more before same within is =
    let other = get_or-set_other found d k (Some row) None (λ e. let no : true ≡ false = sym (eq-eqb d k (sym e)) ∙ same in cc) in
    omega (arith, before k id (sym other ∙ is))
before_at found d k row n id x false more before same within is = omega (arith, before k id is)

before_next : (found : List (Option ℕ)) (o : Option BlockId) (row n : ℕ) → row ≡ n + 1 → ((j i : ℕ) → get_or found j None ≡ Some i → i ≤ n)
    → (k id : ℕ) → get_or (found_after found o row) k None ≡ Some id → id ≤ n + 1
before_next found None row n more before k id is = omega (arith, before k id is)
before_next found (Some d) row n more before k id is =
    before_at found d.0 k row n id (d.0 == k) (nat_lt d.0 (length found)) more before refl refl is

sized_at : (found : List (Option ℕ)) (d row : ℕ) (y : Bool) → length (if y then slice_set found d (Some row) else found) ≡ length found
sized_at found d row true = length-set found d (Some row)
sized_at found d row false = refl

sized_next : (found : List (Option ℕ)) (o : Option BlockId) (row : ℕ) → length (found_after found o row) ≡ length found
sized_next found None row = refl
sized_next found (Some d) row = sized_at found d.0 row (nat_lt d.0 (length found))

few_next : (n definitions more : ℕ) (x : Bool) → more ≡ (if x then definitions + 1 else definitions) → definitions ≤ n → more ≤ n + 1
few_next n definitions more true is few = omega (arith, is, few)
few_next n definitions more false is few = omega (arith, is, few)

pub so_far_next : (t : TreeValue) (rows : List Row) (found : List (Option ℕ)) (definitions more : ℕ) (r : Row) → AreRowsSoFar t rows found definitions → IsRowAfter t (reverse rows) r
    → more ≡ (if is_definition r.entry then definitions + 1 else definitions)
    → AreRowsSoFar t (rows ++ r ∷ []) (found_after found (opened t r.entry) r.id) more
so_far_next t rows found definitions more r so_far row counted =
    let back = sym (reverse-append rows (r ∷ [])) in
    let longer = length-append rows (r ∷ []) in
    let id : r.id ≡ length rows + 1 = row.id ∙ omega (arith, length-reverse rows) in
    record {
      each = subst (AreRowsBack t) back (row, so_far.each);
      sized = sized_next found (opened t r.entry) r.id ∙ so_far.sized;
      right = λ b inside. found_next t rows found definitions r so_far b inside ∙ ap (λ (rs : List Row). row_that_opens t rs b) back;
      before = λ k i is. omega (arith, longer, before_next found (opened t r.entry) r.id (length rows) id so_far.before k i is);
      few = omega (arith, longer, few_next (length rows) definitions more (is_definition r.entry) counted so_far.few);
      counted = counted ∙ count_next (reverse rows) definitions r so_far.counted (is_definition r.entry) refl ∙ ap (λ (rs : List Row). count_by (λ (x : Row). is_definition x.entry) rs) back;
    }

-- ---- the entries of the rows
pub entries_next : (rows : List Row) (r : Row) (e : Entry) → r.entry ≡ e → map (λ (x : Row). x.entry) (rows ++ r ∷ []) ≡ map (λ (x : Row). x.entry) rows ++ e ∷ []
entries_next rows r e is = map-append (λ (x : Row). x.entry) rows (r ∷ []) ∙ ap (λ (y : Entry). map (λ (x : Row). x.entry) rows ++ y ∷ []) is

filter_step : (p : Entry → Bool) (e : Entry) (es : List Entry) (x : Bool) → p e ≡ x → filter p (e ∷ es) ≡ (if x then e ∷ filter p es else filter p es)
filter_step p e es true is = rw is
filter_step p e es false is = rw is

pub one_row : (es : List Entry) (e : Entry) → has_row e ≡ true → es ++ e ∷ [] ≡ es ++ filter has_row (e ∷ [])
one_row es e is = ap (λ (xs : List Entry). es ++ xs) (sym (filter_step has_row e [] true is))

pub no_row : (es : List Entry) (e : Entry) → has_row e ≡ false → es ≡ es ++ filter has_row (e ∷ [])
no_row es e is = sym (append-nil es) ∙ ap (λ (xs : List Entry). es ++ xs) (sym (filter_step has_row e [] false is))

filter_head : (p : Entry → Bool) (e : Entry) (es : List Entry) (x : Bool) → p e ≡ x → filter p (e ∷ []) ++ filter p es ≡ filter p (e ∷ es)
filter_head p e es true is = rw is
filter_head p e es false is = rw is

pub rest_step : (items : List Entry) (i : ℕ) (d : Entry) (before after : List Entry) → i < length items → after ≡ before ++ filter has_row (get_or items i d ∷ [])
    → after ++ filter has_row (drop (i + 1) items) ≡ before ++ filter has_row (drop i items)
rest_step items i d before after inside is =
    let e = get_or items i d in
    let rest = drop (i + 1) items in
    ap (λ (es : List Entry). es ++ filter has_row rest) is
    ∙ append_assoc before (filter has_row (e ∷ [])) (filter has_row rest)
    ∙ ap (λ (es : List Entry). before ++ es) (filter_head has_row e rest (has_row e) refl)
    ∙ ap (λ (es : List Entry). before ++ filter has_row es) (sym (drop_more items i d inside))
