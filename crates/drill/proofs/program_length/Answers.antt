-- What is written into nothing is counted, and its length is far below the last number of 32 bits.
use native.Mathlib.Omega.{arith}
use Rattle.drill.proofs.Drilling.{program_within}
use Rattle.drill.proofs.program_length.Goals as goal

pub overflow_cast-result : goal.overflow_cast-result
overflow_cast-result c =
    let l = program_within c.args.k.drawable in
    record { fits = omega (arith, c.write_program.ensures.moved) }

pub returns : goal.returns
returns c = let l = program_within c.args.k.drawable in omega (arith, c.write_program.ensures.moved)
