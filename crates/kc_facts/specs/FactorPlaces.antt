-- Which part of a tree says a factor of a definition's condition: this project's own.
use Rattle.std.specs.Prelude.{◌≡◌, ℕ, Bool, true, false, IfSome, List, Option, Some, None, filter, slice_get}
use Rattle.std.specs.Option.{option_map_or}
use Rattle.kc_text.specs.LineValue.{LineValue}
use Rattle.kc_outline.specs.TreeValue.{TreeValue}
use Rattle.kc_value.specs.declared.factors.Factor.{Factor}
use Rattle.kc_value.specs.declared.factors.FactorPart.{FactorPart}
use Rattle.kc_value.specs.declared.factors.FactorPart.TheVariants as factor_part
use Rattle.kc_value.specs.declared.factors.Origin.{Origin}
use Rattle.kc_value.specs.declared.factors.Origin.TheVariants as origin
use Rattle.kc_facts.specs.declared.factor_lines.Saying.{Saying}
use Rattle.kc_lines.specs.declared.parts.Attribute.TheVariants as attribute
use Rattle.kc_lines.specs.declared.parts.Family.TheVariants as family
use Rattle.kc_lines.specs.declared.parts.Part.{Part}
use Rattle.kc_lines.specs.declared.parts.Part.TheVariants.{Owner, Said}
use Rattle.kc_lines.specs.Attributes.{says}
use Rattle.kc_lines.specs.BlockParts.{block_part, is_if}
use Rattle.kc_lines.specs.LineIndex.{attributes_of, begins}

-- the choice whose mode it is
abbrev pub mode_part : FactorPart → Option Part
mode_part (factor_part.Expression e) = None
mode_part (factor_part.Mode c) = Some (Owner family.Choice c.0)
mode_part factor_part.Missing = None

-- of the definition of a number, by where a factor is
abbrev pub origin_part : TreeValue → ℕ → FactorPart → Origin → Option Part
origin_part t d p (origin.Own n) = Some (Said family.Definition d attribute.Depends n)
origin_part t d p origin.Condition = Some (Said family.Definition d attribute.Prompt 0)
origin_part t d p (origin.Block b n) = Some (block_part (is_if t b) b n)
origin_part t d p (origin.Visible b n) = Some (Said family.Block b.0 attribute.Visible n)
origin_part t d p origin.Mode = mode_part p
origin_part t d p origin.Missing = mode_part p

abbrev pub part_of_factor : TreeValue → ℕ → Factor → Option Part
part_of_factor t d f = origin_part t d f.part f.origin

-- lines that are kept are those that say an attribute of an owner, if there is one
abbrev pub AreKept : List LineValue → Option Saying → List LineValue → Type 0
AreKept lines o kept = IfSome o (λ s. kept ≡ filter (says s.attribute) (attributes_of (begins s.family) lines s.number))
