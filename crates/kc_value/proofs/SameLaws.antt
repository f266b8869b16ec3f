-- The test of two values says whether they are the same.
use Rattle.std.proofs.Common.{◌≡◌, ◌↔◌, Bool, true, false, true≢false, ◌&&◌, ℕ, Option, Some, None, refl, sym, ap, ◌∙◌}
use Rattle.std.proofs.lemmas.Bool.{eqb-true, eq-eqb}
use Rattle.std.proofs.lemmas.Slice.Eq.{bytes_eq-Decides}
use Rattle.kc_statement.specs.declared.id.SymId.{SymId}
use Rattle.kc_statement.specs.declared.tri.Tri.{Tri}
use Rattle.kc_statement.specs.declared.tri.Tri.TheVariants.{No, Module, Yes}
use Rattle.kc_tree.specs.declared.user_value.UserVal.{UserVal}
use Rattle.kc_tree.specs.declared.user_value.UserVal.TheVariants.{Tri as TriVal, Text}
use Rattle.kc_value.specs.declared.value.Value.{Value}
use Rattle.kc_value.specs.declared.value.Value.TheVariants.{Tri as Level, Shown, Member}
use Rattle.kc_value.specs.Assignable.{same_tri}
use Rattle.kc_value.specs.ChangedValue.{same_mark, same_user_value, same_member, same_value}
use Rattle.kc_value.specs.Dirty.{same_given}

same_tri_refl : (v : Tri) → same_tri v v ≡ true
same_tri_refl No = refl
same_tri_refl Module = refl
same_tri_refl Yes = refl

tri_is : (v w : Tri) → same_tri v w ≡ true → v ≡ w
tri_is No No e = refl
tri_is No Module e = absurd (true≢false (sym e))
tri_is No Yes e = absurd (true≢false (sym e))
tri_is Module No e = absurd (true≢false (sym e))
tri_is Module Module e = refl
tri_is Module Yes e = absurd (true≢false (sym e))
tri_is Yes No e = absurd (true≢false (sym e))
tri_is Yes Module e = absurd (true≢false (sym e))
tri_is Yes Yes e = refl

pub mark_is : (m n : Bool) → same_mark m n ≡ true → m ≡ n
mark_is true true e = refl
mark_is true false e = sym e
mark_is false true e = e
mark_is false false e = refl

user_value_is : (x y : UserVal) → same_user_value x y ≡ true → x ≡ y
user_value_is (TriVal v) (TriVal w) e = ap TriVal (tri_is v w e)
user_value_is (TriVal v) (Text w) e = absurd (true≢false (sym e))
user_value_is (Text v) (TriVal w) e = absurd (true≢false (sym e))
user_value_is (Text v) (Text w) e = ap Text ((bytes_eq-Decides v w).0 e)

abbrev numbered : ℕ → Option SymId
numbered n = let m : SymId = record { 0 = n } in Some m

pub member_is : (r s : Option SymId) → same_member r s ≡ true → r ≡ s
member_is None None e = refl
member_is None (Some s) e = absurd (true≢false (sym e))
member_is (Some r) None e = absurd (true≢false (sym e))
member_is (Some r) (Some s) e = ap numbered (eqb-true r.0 s.0 e)

both_true : (x y : Bool) → (x && y) ≡ true → (x ≡ true) × (y ≡ true)
both_true true y e = (refl, e)
both_true false y e = absurd (true≢false (sym e))

value_is : (v w : Value) → same_value v w ≡ true → v ≡ w
value_is (Level v) (Level w) e = ap Level (tri_is v w e)
value_is (Level v) (Shown y n) e = absurd (true≢false (sym e))
value_is (Level v) (Member s) e = absurd (true≢false (sym e))
value_is (Shown x m) (Level w) e = absurd (true≢false (sym e))
value_is (Shown x m) (Shown y n) e =
    let parts = both_true (same_user_value x y) (same_mark m n) e in
    ap (λ z. Shown z m) (user_value_is x y parts.0) ∙ ap (λ z. Shown y z) (mark_is m n parts.1)
value_is (Shown x m) (Member s) e = absurd (true≢false (sym e))
value_is (Member r) (Level w) e = absurd (true≢false (sym e))
value_is (Member r) (Shown y n) e = absurd (true≢false (sym e))
value_is (Member r) (Member s) e = ap Member (member_is r s e)

user_value_refl : (x : UserVal) → same_user_value x x ≡ true
user_value_refl (TriVal v) = same_tri_refl v
user_value_refl (Text w) = (bytes_eq-Decides w w).1 refl

pub mark_refl : (m : Bool) → same_mark m m ≡ true
mark_refl true = refl
mark_refl false = refl

value_refl : (v : Value) → same_value v v ≡ true
value_refl (Level v) = same_tri_refl v
value_refl (Shown x m) = ap (λ b. b && same_mark m m) (user_value_refl x) ∙ mark_refl m
value_refl (Member None) = refl
value_refl (Member (Some s)) = eq-eqb s.0 s.0 refl

-- ---- what a user gave and chose
pub given_is : (v w : Option UserVal) → same_given v w ≡ true → v ≡ w
given_is None None e = refl
given_is None (Some w) e = absurd (true≢false (sym e))
given_is (Some v) None e = absurd (true≢false (sym e))
given_is (Some v) (Some w) e = ap Some (user_value_is v w e)

pub given_refl : (v : Option UserVal) → same_given v v ≡ true
given_refl None = refl
given_refl (Some v) = user_value_refl v

pub member_refl : (m : Option SymId) → same_member m m ≡ true
member_refl None = refl
member_refl (Some s) = eq-eqb s.0 s.0 refl

-- the values are the same where the test says so, and nowhere else
pub same_is : (v w : Value) → (same_value v w ≡ true) ↔ (v ≡ w)
same_is v w = (value_is v w, λ e. ap (same_value v) (sym e) ∙ value_refl v)
