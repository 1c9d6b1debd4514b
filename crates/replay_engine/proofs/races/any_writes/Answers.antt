use Rattle.std.proofs.Common.{◌≡◌, sym, ◌∙◌, true, arith}
use Rattle.replay_engine.specs.Races.{access_of, is_write}
use Rattle.replay_engine.proofs.Writing.{writes_turn}
use Rattle.replay_engine.proofs.races.any_writes.Goals as goal

pub returns-then-is_write : goal.returns-then-is_write
returns-then-is_write c =
    let writes : is_write (access_of c.args.program.now c.args.space.now c.loop-i.i) ≡ true =
    rw c.access_of.ensures at (sym c.is_write.ensures ∙ c.if-is_write.true) in
    grind (arith, writes_turn, writes)
