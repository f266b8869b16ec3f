-- Names and definitions that are lent, by their places.
use Rattle.std.proofs.Common.{◌≡◌, ℕ, List, Option, Some, None, map, slice_get, refl, sym, ap, ◌∙◌}
use Rattle.std.specs.Prelude.{option_map}
use denote.Ref.{Bor}
use Rattle.std.proofs.Math.Path.{fun_ext}
use Rattle.std.proofs.lemmas.Option.{slice_get-map}
use Rattle.kc_text.specs.LineReferences.{lent_names}
use Rattle.kc_check.specs.UnusedVariables.{About, about_definition, about_given, about_lent, about_name, about_nameless, without_name}
use Rattle.kc_check.specs.declared.variables.Definition.{Definition}

mapped_twice : {A B C : Type 0} (f : A → B) (g : B → C) (o : Option A) → option_map g (option_map f o) ≡ option_map (λ a. g (f a)) o
mapped_twice f g None = refl
mapped_twice f g (Some a) = refl

pub given_same : (given : List (Bor (List ℕ))) → (λ k. option_map about_lent (slice_get given k)) ≡ about_given (lent_names given)
given_same given = fun_ext (λ k.
    sym (ap (option_map about_name) (slice_get-map (λ n. n.now) given k) ∙ mapped_twice (λ n. n.now) about_name (slice_get given k)))

pub definition_same : (ds : List Definition) → (λ k. option_map about_definition (slice_get ds k)) ≡ slice_get (map about_definition ds)
definition_same ds = fun_ext (λ k. sym (slice_get-map about_definition ds k))

pub nameless_same : (ds : List Definition) (k : ℕ) → option_map about_nameless (slice_get ds k) ≡ option_map without_name (slice_get (map about_definition ds) k)
nameless_same ds k =
    sym (ap (option_map without_name) (slice_get-map about_definition ds k) ∙ mapped_twice about_definition without_name (slice_get ds k))
