use mathlib.Core.Logic.{◌↔◌}
use Prim.Native.Nat.{◌≤◌}
use lib.ListN.{get_or}
use borrow.Author.Rules.{rules}
use Rattle.std.specs.Bool.{IsTrue}
use Rattle.std.specs.List.{EachIndex}
use Rattle.fill.proofs.Fits.{each_fits}
use Rattle.fill.proofs.maps.posts_fit.Goals as goal

pub returns : goal.returns
returns c =
    let each : IsTrue c.all.result ↔ EachIndex c.args.posts.now (λ i. get_or c.args.posts.now i 0 ≤ 1000000000) = search rules in
    each_fits _ _ each
