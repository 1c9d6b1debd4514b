-- The promises of the offered call, in the order of its clauses.
use Prim.Native.Nat.{ℕ, ◌<◌, ◌≤◌}
use mathlib.Core.Path.{◌≡◌, refl, sym, ◌∙◌, ap, subst}
use mathlib.Core.List.{List, ◌++◌}
use native.Mathlib.Omega.{arith}
use lib.ListN.{length, take, drop, length-append, length-drop}
use lib.Seq.{length-take-le, drop_at}
use Rattle.replay_theory.specs.Replay.{replay_space, replay, returned_for}
use Rattle.replay_theory.specs.Claim.{TraceFollowed, RaceFound, NoneIfAccepted}
use Rattle.replay_theory.specs.declared.Replayed.{Replayed}
use Rattle.replay_theory.proofs.Reported.{trace_is_followed, race_is_found, none_if_accepted}
use Rattle.replay_control.specs.Layout.{space_size}

-- ------------------------------------------------------------------ the space

-- How many numbers the code lends, as an equation: where the two are compared by computing, `take 542960` is computed too.
pub space_counted : space_size ≡ replay_space
unfolding replay_space
space_counted = refl

-- The first N numbers of w are lent, and come back as x. N is a variable here for the same reason.
module _ (N : ℕ) (w x : List ℕ) (h : N ≤ length w) (k : length x ≡ length (take N w)) where
  pub same_length : length (x ++ drop N w) ≡ length w
  same_length =
      let all = length-append x (drop N w) in
      let first = k ∙ length-take-le N w h in
      let rest = length-drop N w in
      omega (arith, all, first, rest, h)

  pub rest_kept : drop N (x ++ drop N w) ≡ drop N w
  rest_kept = drop_at x (drop N w) N (k ∙ length-take-le N w h)

-- The clauses `kept` and `free`.
pub record SpaceAfter (s s' : List ℕ) : Type 0 where
  pub kept : length s < replay_space → s' ≡ s
  pub long : length s' ≡ length s
  pub behind : drop replay_space s' ≡ drop replay_space s

pub long_space_after : (s x : List ℕ) → replay_space ≤ length s → length x ≡ length (take replay_space s) → SpaceAfter s (x ++ drop replay_space s)
unfolding replay_space
long_space_after s x h k = record {
  kept = λ l. absurd (omega (arith, h, l));
  long = same_length replay_space s x h k;
  behind = rest_kept replay_space s x h k;
}

pub space_after : (s s' : List ℕ) → (length s < replay_space → s' ≡ s) → (length s' ≡ length s) × (drop replay_space s' ≡ drop replay_space s) → SpaceAfter s s'
space_after s s' kept (long, behind) = record { kept = kept; long = long; behind = behind }

pub both_after : (s s' s'' : List ℕ) → SpaceAfter s s' → SpaceAfter s' s'' → SpaceAfter s s''
both_after s s' s'' A B = record {
  kept = λ l. B.kept (let e = A.long in omega (arith, l, e)) ∙ A.kept l;
  long = B.long ∙ A.long;
  behind = B.behind ∙ A.behind;
}

-- ------------------------------------------------------------------ all of them

-- U is the clause of the texts, which are lent unchanged.
pub promises_kept : {U : Type 0} (text trace s s' : List ℕ) (r : Replayed) → r ≡ replay (length s) text trace → U → SpaceAfter s s' →
    (returned_for r.ending ≡ returned_for (replay (length s) text trace).ending)
    × ((r.ending ≡ (replay (length s) text trace).ending)
    × ((r.report ≡ (replay (length s) text trace).report)
    × (U
    × ((length s < replay_space → s' ≡ s)
    × (((length s' ≡ length s) × (drop replay_space s' ≡ drop replay_space s))
    × (TraceFollowed (length s) text trace r.report.steps (returned_for r.ending)
    × (RaceFound (length s) text trace r.report.race
    × NoneIfAccepted text r.report.race)))))))
promises_kept text trace s s' r e u S = (
  ap (λ (a : Replayed). returned_for a.ending) e,
  (
    ap (λ (a : Replayed). a.ending) e,
    (
      ap (λ (a : Replayed). a.report) e,
      (
        u,
        (
          S.kept,
          (
            (S.long, S.behind),
            (
              subst (λ (a : Replayed). TraceFollowed (length s) text trace a.report.steps (returned_for a.ending)) (sym e)
                  (trace_is_followed (length s) text trace),
              (
                subst (λ (a : Replayed). RaceFound (length s) text trace a.report.race) (sym e) (race_is_found (length s) text trace),
                subst (λ (a : Replayed). NoneIfAccepted text a.report.race) (sym e) (none_if_accepted (length s) text trace),
              ),
            ),
          ),
        ),
      ),
    ),
  ),
)
