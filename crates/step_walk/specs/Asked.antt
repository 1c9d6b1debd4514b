-- The claims that are asked for.
use Rattle.std.specs.Prelude.{List}
use Rattle.spec.specs.StepContexts.{NumberedCondition, is_type, only}
use Rattle.spec.specs.declared.Purpose.{Purpose}
use Rattle.spec.specs.declared.Purpose.TheVariants.{Check, Fill}

-- the claims that are asked for by purpose
unfoldable pub asked : Purpose → List NumberedCondition → List NumberedCondition
asked Check cs = cs
asked Fill cs = only is_type cs
