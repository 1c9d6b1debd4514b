-- Both lengths are learned first; the texts are written only if both fit.
use mathlib.Core.Path.{ap, ◌∙◌}
use native.Mathlib.Omega.{arith}
use lib.ListN.{length}
use Rattle.writer.specs.Buffer.{overwrite}
use Rattle.std.proofs.Common.{None}
use Rattle.drill.proofs.Drilling.{Drills, program_of_lem, split_of_lem, program_short, split_short, both_written}
use Rattle.drill.proofs.drill.Goals as goal
use Rattle.drill.proofs.drill.Goals.{then-program-program_size-via-then-program-program_size, then-program-program_size-via-else-program-program_size+then-split-split_size}

pub returns-then-program-program_size : goal.returns-then-program-program_size
returns-then-program-program_size c =
    let d : Drills c.args.seed c.args.program.now c.args.split.now c.args.program.now c.args.split.now None = elim c.then-program-program_size.branch [
      | then-program-program_size-via-then-program-program_size w ↦
          let p = program_of_lem _ _ _ c.draw-next.ensures c.readers_of-k.ensures in
          program_short c.args.seed c.args.program.now c.args.split.now (omega (arith, c.program_length-program_size.ensures, ap length p))
      | then-program-program_size-via-else-program-program_size+then-split-split_size w ↦
          let q = split_of_lem _ _ _ c.draw-next.ensures c.readers_of-k.ensures in
          split_short c.args.seed c.args.program.now c.args.split.now (omega (arith, c.split_length-split_size.ensures, ap length q))
    ] in
    record { answer = d.0; written = d.1.0; unchanged = d.1.1.0; accepted = d.1.1.1 }

pub returns : goal.returns
returns c =
    let p = program_of_lem _ _ _ c.draw-next.ensures c.readers_of-k.ensures in
    let q = split_of_lem _ _ _ c.draw-next.ensures c.readers_of-k.ensures in
    let d =
    both_written c.args.seed _ _ _ c.args.program.now c.args.split.now _ _ c.draw-next.ensures
    (c.program_length-program_size.ensures ∙ ap length p)
    (c.split_length-split_size.ensures ∙ ap length q)
    c.if-program-program_size.false c.if-split-split_size.false
    (c.write_program.ensures.holds ∙ ap (overwrite c.args.program.now 0) p)
    (c.write_split.ensures.holds ∙ ap (overwrite c.args.split.now 0) q) in
    record { answer = d.0; written = d.1.0; unchanged = d.1.1.0; accepted = d.1.1.1 }
