-- Buffers whose fronts were lent: what they hold afterwards.
use Prim.Native.Nat.{ℕ, ◌≤◌, ◌<◌}
use mathlib.Core.Path.{◌≡◌, refl, sym, ◌∙◌, subst}
use mathlib.Core.Bool.{Bool, true, false}
use mathlib.Core.List.{List, ◌++◌}
use mathlib.Core.Logic.{◌⊎◌, inl, inr}
use native.Mathlib.Omega.{arith}
use lib.Dec.{leb}
use lib.ListN.{length, take, drop}
use lib.Seq.{length-take-le, take_at}
use borrow.Author.Tests.{leb-true, le-leb}
use Rattle.spec.proofs.Tests.{both_true}
use Rattle.replay.specs.Pieces.{job_size}
use Rattle.replay.proofs.Promises.{same_length, rest_kept}
use Rattle.replay_kept.specs.Kept.{kept_size}
use Rattle.replay_pieces.specs.Pieces.{roomy, FrontUsed, RunIn, KeptRun}

pub room_there : (job run : List ℕ) → roomy job run ≡ true → (job_size ≤ length job) × (kept_size ≤ length run)
unfolding roomy
room_there job run e =
    let (j, r) = both_true (leb job_size (length job)) (leb kept_size (length run)) e in
    (leb-true job_size (length job) j, leb-true kept_size (length run) r)

-- one of the two is too short
pub no_room : {A : Type 0} (job run : List ℕ) → (length job < job_size) ⊎ (length run < kept_size) → roomy job run ≡ true → A
no_room job run (inl l) e = absurd (let fits = (room_there job run e).0 in omega (arith, l, fits))
no_room job run (inr l) e = absurd (let fits = (room_there job run e).1 in omega (arith, l, fits))

pub room_here : (job run : List ℕ) → job_size ≤ length job → kept_size ≤ length run → roomy job run ≡ true
unfolding roomy
room_here job run j r = rw (le-leb _ _ j, le-leb _ _ r) refl

room_again : (job job' run run' : List ℕ) → length job' ≡ length job → length run' ≡ length run → roomy job run ≡ true → roomy job' run' ≡ true
unfolding roomy
room_again job job' run run' j r e = rw (j, r) e

pub never : {A : Type 0} (b : Bool) → b ≡ true → b ≡ false → A
never true e f = let z : ◌≡◌ {A = ℕ} 0 1 = cc in absurd (omega arith)
never false e f = let z : ◌≡◌ {A = ℕ} 0 1 = cc in absurd (omega arith)

pub none_used : (N : ℕ) (w : List ℕ) → FrontUsed N w w
none_used N w = record { long = refl; behind = refl }

pub held_there : {program trace job space run front : List ℕ} → front ≡ take kept_size run → KeptRun program trace job space run → RunIn program trace (take job_size job) space front
held_there e K = rw e K.held

-- The first N numbers of w are lent, and come back as x.
module _ (N : ℕ) (w x : List ℕ) (h : N ≤ length w) (k : length x ≡ length (take N w)) where
  pub front_used : FrontUsed N w (x ++ drop N w)
  front_used = record { long = same_length N w x h k; behind = rest_kept N w x h k }

  front_back : take N (x ++ drop N w) ≡ x
  front_back = take_at x (drop N w) N (k ∙ length-take-le N w h)

module _ (program trace space job run y : List ℕ) (room : roomy job run ≡ true) (l : length y ≡ length (take kept_size run)) where
  pub run_kept : RunIn program trace (take job_size job) space y → KeptRun program trace job space (y ++ drop kept_size run)
  run_kept I =
      let fits = (room_there job run room).1 in
      record {
        room = room_again job job run (y ++ drop kept_size run) refl (front_used kept_size run y fits l).long room;
        held = subst (λ (v : List ℕ). RunIn program trace (take job_size job) space v) (sym (front_back kept_size run y fits l)) I;
      }

  pub both_kept : (x : List ℕ) → length x ≡ length (take job_size job) → RunIn program trace x space y → KeptRun program trace (x ++ drop job_size job) space (y ++ drop kept_size run)
  both_kept x k I =
      let fits = room_there job run room in
      record {
        room = room_again job (x ++ drop job_size job) run (y ++ drop kept_size run) (front_used job_size job x fits.0 k).long (front_used kept_size run y fits.1 l).long room;
        held =
            subst (λ (u : List ℕ). RunIn program trace u space (take kept_size (y ++ drop kept_size run))) (sym (front_back job_size job x fits.0 k))
            (subst (λ (v : List ℕ). RunIn program trace x space v) (sym (front_back kept_size run y fits.1 l)) I);
      }
