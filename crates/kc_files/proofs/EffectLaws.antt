-- The test of an effect says whether a symbol has the value that it is assigned.
use Rattle.std.proofs.Common.{◌≡◌, ◌↔◌, Bool, true, true≢false, refl, sym, ap, ◌∙◌}
use Rattle.std.proofs.lemmas.Slice.Eq.{bytes_eq-Decides}
use Rattle.kc_statement.specs.declared.tri.Tri.{Tri}
use Rattle.kc_statement.specs.declared.tri.Tri.TheVariants.{No, Module, Yes}
use Rattle.kc_tree.specs.declared.node.Node.TheVariants.{Val}
use Rattle.kc_tree.specs.declared.user_value.UserVal.{UserVal}
use Rattle.kc_tree.specs.declared.user_value.UserVal.TheVariants.{Tri as TriVal, Text}
use Rattle.kc_value.specs.declared.value.Value.{Value}
use Rattle.kc_value.specs.declared.value.Value.TheVariants.{Tri as Level, Shown, Member}
use Rattle.kc_value.specs.Assignable.{same_tri}
use Rattle.kc_value.specs.Assignment.{Assignment}
use Rattle.kc_value.specs.ChangedValue.{same_user_value}
use Rattle.kc_files.specs.declared.assign.Assign.{Assign}
use Rattle.kc_files.specs.Effects.{shows, has_effect, HasEffect}

tri_is : (v w : Tri) → same_tri v w ≡ true → v ≡ w
tri_is No No e = refl
tri_is No Module e = absurd (true≢false (sym e))
tri_is No Yes e = absurd (true≢false (sym e))
tri_is Module No e = absurd (true≢false (sym e))
tri_is Module Module e = refl
tri_is Module Yes e = absurd (true≢false (sym e))
tri_is Yes No e = absurd (true≢false (sym e))
tri_is Yes Module e = absurd (true≢false (sym e))
tri_is Yes Yes e = refl

value_is : (x y : UserVal) → same_user_value x y ≡ true → x ≡ y
value_is (TriVal v) (TriVal w) e = ap TriVal (tri_is v w e)
value_is (TriVal v) (Text w) e = absurd (true≢false (sym e))
value_is (Text v) (TriVal w) e = absurd (true≢false (sym e))
value_is (Text v) (Text w) e = ap Text ((bytes_eq-Decides v w).0 e)

tri_refl : (v : Tri) → same_tri v v ≡ true
tri_refl No = refl
tri_refl Module = refl
tri_refl Yes = refl

value_refl : (x : UserVal) → same_user_value x x ≡ true
value_refl (TriVal v) = tri_refl v
value_refl (Text w) = (bytes_eq-Decides w w).1 refl

shown_is : (v : Value) (x : UserVal) → shows v x ≡ true → (written : Bool) × (v ≡ Shown x written)
shown_is (Level v) x e = absurd (true≢false (sym e))
shown_is (Shown y written) x e = (written, ap (λ z. Shown z written) (value_is y x e))
shown_is (Member m) x e = absurd (true≢false (sym e))

pub effect_is : (a : Assignment) (x : Assign) → (has_effect a x ≡ true) ↔ HasEffect a x
effect_is a x = (shown_is (a (Val x.symbol)) x.value, λ h. ap (λ v. shows v x.value) h.1 ∙ value_refl x.value)
