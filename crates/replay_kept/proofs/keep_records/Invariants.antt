use Rattle.replay_kept.proofs.Keeping.{KeptTo}
use Rattle.replay_kept.proofs.keep_records.Given as goal

abbrev pub invariant-loop-t : goal.invariant-loop-t
invariant-loop-t l = KeptTo l.t l.fn.threads.records l.initial.run l.run
