-- What the work space holds afterwards: one number too few, and it is as it was; else 16,384 zeros, and behind them what stood there.
use mathlib.Core.Path.{◌≡◌, ap, sym, ◌∙◌}
use mathlib.Core.List.{List, ◌++◌}
use Prim.Native.Nat.{ℕ, ◌<◌}
use native.Mathlib.Omega.{arith}
use lib.ListN.{length, drop, replicate, length-append}
use lib.Seq.{drop-append_seam}
use borrow.Author.Tests.{le-leb, lt-leb}
use Rattle.spec.specs.Workspace.{workspace_size, workspace_after}

pub too_short_kept : (w : List ℕ) → length w < 16384 → workspace_after w ≡ w
unfolding workspace_after workspace_size
too_short_kept w h = rw (lt-leb _ _ h)

pub first_cleared : (front rest : List ℕ) → length front ≡ 16384 → workspace_after (front ++ rest) ≡ replicate 16384 0 ++ rest
unfolding workspace_after workspace_size
first_cleared front rest e =
    rw (le-leb 16384 (length (front ++ rest)) (omega (arith, length-append front rest, e)))
    (ap (replicate 16384 0 ++◌) (ap (λ n. drop n (front ++ rest)) (sym e) ∙ drop-append_seam front rest))
