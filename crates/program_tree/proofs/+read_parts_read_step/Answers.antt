-- A part that is missing is missing for the steps that have it; where the parts end, the step ends.
use native.Mathlib.Omega.{arith}
use mathlib.Core.Path.{refl}
use Rattle.program_tree.proofs.StructureLaws.{past, parts_none, parts_open, parts_more, step_none, step_open, step_more}
use Rattle.program_tree.proofs.+read_parts_read_step.Goals as goal

-- ------------------------------------------------------------------ the parts of a step

pub read_parts-returns-in_err-second-in-Binary-clause-ended : goal.read_parts-returns-in_err-second-in-Binary-clause-ended
read_parts-returns-in_err-second-in-Binary-clause-ended t c =
    rw (c.from_residual.ensures, c.in-Binary.is) (parts_open c.told-work c.requires.0 c.requires.1 1 c.in_err-second-in-Binary.ensures.ended)

pub read_parts-read_step-requires-in-Binary-2 : goal.read_parts-read_step-requires-in-Binary-2
read_parts-read_step-requires-in-Binary-2 t c =
    let first = c.in_ok-second-in-Binary.ensures in (
      omega (arith, past first.ended, first.within, c.decreases),
      (c.requires.0, first.within),
    )

pub read_parts-returns-in-Leaf-clause-ended : goal.read_parts-returns-in-Leaf-clause-ended
read_parts-returns-in-Leaf-clause-ended t c = rw c.in-Leaf.is (parts_none c.told-work c.requires.0 c.requires.1)

pub read_parts-returns-in_ok-second-in-Binary-clause-ended : goal.read_parts-returns-in_ok-second-in-Binary-clause-ended
read_parts-returns-in_ok-second-in-Binary-clause-ended t c =
    let first = c.in_ok-second-in-Binary.ensures in
    rw c.in-Binary.is (parts_more c.told-work c.requires.0 c.requires.1 first.within first.ended c.read_step-in-Binary-2.ensures.ended)

-- ------------------------------------------------------------------ a step

pub read_step-returns-then-n-k-clause-ended : goal.read_step-returns-then-n-k-clause-ended
read_step-returns-then-n-k-clause-ended t c = step_none c.told-work c.requires.0 c.requires.1 c.if-n-k.true

pub read_step-returns-in_err-e-clause-ended : goal.read_step-returns-in_err-e-clause-ended
read_step-returns-in_err-e-clause-ended t c =
    rw c.from_residual.ensures (step_open c.told-work c.requires.0 c.if-n-k.false c.word_of-word.ensures c.in_err-e.ensures.ended refl)

pub read_step-returns-clause-ended : goal.read_step-returns-clause-ended
read_step-returns-clause-ended t c =
    step_more c.told-work c.requires.0 c.if-n-k.false c.word_of-word.ensures c.in_ok-e.ensures.ended refl
