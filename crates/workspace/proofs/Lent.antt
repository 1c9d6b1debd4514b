-- The first numbers of a work space, lent to a call and then cleared. How many, N, is a variable here, since `take 16384` would
-- be computed.
use mathlib.Core.Path.{◌≡◌, ◌∙◌}
use mathlib.Core.List.{List, ◌++◌}
use Prim.Native.Nat.{ℕ, ◌≤◌, ◌<◌}
use native.Mathlib.Omega.{arith}
use lib.ListN.{length, take, drop, replicate, length-append}
use lib.Seq.{length-take-le, drop_at}
use borrow.Author.Tests.{le-leb, lt-leb}
use Rattle.spec.specs.Workspace.{workspace_size, workspace_after}
use Rattle.workspace.specs.Layout.{work_size}

-- x is what the call leaves in the first N numbers
module _ (N : ℕ) (w x : List ℕ) (h : N ≤ length w) (k : length x ≡ length (take N w)) where
  pub first_again : length (take N (x ++ drop N w)) ≡ N
  first_again =
      let long : length x ≡ N = k ∙ length-take-le N w h in
      length-take-le N (x ++ drop N w) (omega (arith, length-append x (drop N w), long))

  pub then_cleared : (y : List ℕ) → y ≡ replicate (length (take N (x ++ drop N w))) 0 → y ++ drop N (x ++ drop N w) ≡ replicate N 0 ++ drop N w
  then_cleared y e = rw (e, first_again, drop_at x (drop N w) N (k ∙ length-take-le N w h))

-- ------------------------------------------------------------------ what is promised of the work space

pub short_kept : (w : List ℕ) → length w < work_size → w ≡ workspace_after w
unfolding workspace_after workspace_size
short_kept w h = rw (lt-leb _ _ h)

pub long_cleared : (w w' : List ℕ) → work_size ≤ length w → w' ≡ replicate work_size 0 ++ drop work_size w → w' ≡ workspace_after w
unfolding workspace_after workspace_size
long_cleared w w' h e = rw (le-leb _ _ h) e
