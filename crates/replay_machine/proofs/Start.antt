-- The start: it stands for the start of the calculus, and keeps what every state keeps.
use Prim.Native.Nat.{ℕ}
use mathlib.Core.Path.{◌≡◌, refl, sym, ◌∙◌, ap}
use mathlib.Core.List.{List, [], ◌∷◌, ◌++◌}
use native.Mathlib.Omega.{arith}
use lib.ListN.{length}
use Rattle.spec.specs.Expression.{Expr, Procedure, among}
use Rattle.spec.specs.Program.{Program}
use Rattle.spec.specs.WellFormed.{binders, all_binders, Distinct, UsedInside, AllUsedInside, WellFormedProgram}
use Rattle.spec.proofs.Clashes.{true_is_not_false}
use Rattle.calculus.specs.Expression.{Exp}
use Rattle.calculus.specs.State.{unused, identifier, update}
use Rattle.calculus.specs.Reduction.{start_state}
use Rattle.calculus.proofs.Laws.Maps.{update_other}
use Rattle.soundness.specs.Erasure.{erase, erase_program}
use Rattle.replay_machine.specs.Environment.{zeros, all}
use Rattle.replay_machine.specs.State.{decode_state, start_machine}
use Rattle.replay_machine.specs.Kept.{ProcedureKept, Kept}
use Rattle.calculus.specs.Claim.{Every}
use Rattle.replay_machine.proofs.Variables.{among_left, distinct_left, distinct_right, apart_from}
use Rattle.replay_machine.proofs.Closing.{no_values, close_with_none}
use Rattle.replay_machine.proofs.Decoding.{enter_keeps}
use Rattle.replay_machine.proofs.Agreeing.{close_agree}
use Rattle.replay_machine.proofs.Scoping.{enter_ok}

-- ---- What a well-formed program says of its root

root_used : (count : ℕ) (ps : List Procedure) (root : Expr) → AllUsedInside count ps root → UsedInside count [] root
unfolding AllUsedInside
root_used count [] root u = u
root_used count (p ∷ ps) root u = root_used count ps root u.1

root_once : (ps : List Procedure) (root : Expr) → Distinct (all_binders ps root) → Distinct (binders root)
unfolding all_binders Distinct
root_once [] root d = d
root_once (p ∷ ps) root d = root_once ps root (distinct_right (binders p.body) (all_binders ps root) d.1)

-- ---- And of its procedures

bodies_fit : (count : ℕ) (ps : List Procedure) (root : Expr) → AllUsedInside count ps root → Distinct (all_binders ps root) → Every ProcedureKept ps
unfolding AllUsedInside all_binders Distinct
bodies_fit count [] root u d = tt
bodies_fit count (p ∷ ps) root u d = (
  record {
    count = count;
    used = u.0;
    new = λ y h. apart_from y p.parameter (binders p.body ++ all_binders ps root) (among_left y (binders p.body) (all_binders ps root) h) d.0;
    once = distinct_left (binders p.body) (all_binders ps root) d.1;
  },
  bodies_fit count ps root u.1 (distinct_right (binders p.body) (all_binders ps root) d.1),
)

-- ---- The start

pub start_decoded_lem : (P : Program) → UsedInside (length P.procedures) [] P.root → decode_state (start_machine P) ≡ start_state (erase_program P)
unfolding start_machine start_state among
start_decoded_lem P used = ap (λ (d : Exp). record { threads = record { tid = 0; body = d } ∷ []; names = update (λ n. unused) 0 identifier })
    (enter_keeps zeros P.root []
    ∙ close_agree (length P.procedures) P.root [] (all zeros) no_values used (λ y m. true_is_not_false (sym m)) ∙ close_with_none (erase P.root))

pub root_is_inside : {text : List ℕ} {P : Program} → WellFormedProgram text P → UsedInside (length P.procedures) [] P.root
root_is_inside {P = P} w = root_used (length P.procedures) P.procedures P.root w.used_inside

pub start_kept : {text : List ℕ} {P : Program} → WellFormedProgram text P → Kept (start_machine P)
unfolding start_machine among
start_kept {P = P} w = record {
  procedures_kept = bodies_fit (length P.procedures) P.procedures P.root w.used_inside w.bound_once;
  threads_kept = (
    enter_ok zeros P.root [] []
        (record { count = length P.procedures; used = root_is_inside w; new = λ y m. refl; once = root_once P.procedures P.root w.bound_once }) tt,
    tt,
  );
  unused_from = λ n le. update_other (λ k. unused) 0 n identifier (λ q. omega (arith, le, q));
}
