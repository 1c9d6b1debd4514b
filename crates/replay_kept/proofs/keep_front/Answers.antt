use borrow.Author.Rules.{rules}
use Rattle.replay_kept.proofs.Keeping.{Small, front_kept}
use Rattle.replay_kept.proofs.keep_front.Goals as goal

pub returns : goal.returns
returns c =
    let small : Small c.args.told = record { number = search rules; condition = search rules; location = search rules; first = search rules; second = search rules } in
    rw (c.from.ensures, c.from-2.ensures, c.from-3.ensures, c.from-4.ensures, c.from-5.ensures)
    (front_kept _ _ _ _ _ c.told-run small)
