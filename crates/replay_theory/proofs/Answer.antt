-- The answer: the program sheet is judged as the check judges it, and a short space comes before all else.
use Rattle.std.proofs.Common.{Ok}
use Prim.Native.Nat.{ℕ, ◌≤◌, ◌<◌}
use mathlib.Core.Path.{◌≡◌, refl}
use mathlib.Core.List.{List}
use borrow.Author.Tests.{leb-true, le-leb, lt-leb}
use Rattle.spec.specs.Reading.{◌>>=◌, require}
use Rattle.spec.specs.Program.{Program}
use Rattle.spec.specs.WellFormed.{WellFormedProgram}
use Rattle.spec.specs.declared.Refusal.TheVariants.{ShortWorkspace}
use Rattle.spec.proofs.Outcomes.{bind_goes_on, goes_on_bind, demand_goes_on, goes_on_demand}
use Rattle.spec.proofs.WellFormed.{program_well_formed, well_formed_program}
use Rattle.replay_theory.specs.Replay.{refused, replay_space, judged, replayed, replay}

-- a program that is replayed is well formed, and it is the one that the text lists
pub judged_well_formed : {P : Program} (room : ℕ) (text : List ℕ) → judged room text ≡ Ok P → WellFormedProgram text P
unfolding judged
judged_well_formed room text h =
    let (enough, _, h₁) = bind_goes_on _ _ h in
    let (fits, small, h₂) = bind_goes_on _ _ h₁ in
    program_well_formed text (leb-true _ _ (demand_goes_on _ _ small)) h₂

pub well_formed_judged : {P : Program} (room : ℕ) (text : List ℕ) → replay_space ≤ room → WellFormedProgram text P → judged room text ≡ Ok P
unfolding judged
well_formed_judged room text enough w =
    goes_on_bind _ _ (goes_on_demand _ _ (le-leb _ _ enough))
    (goes_on_bind _ _ (goes_on_demand _ _ (le-leb _ _ w.fits)) (well_formed_program text w))

-- "less is 1, before all else", with no steps and no race
pub short_space_is_refused : (room : ℕ) (program_text trace_text : List ℕ) → room < replay_space → replay room program_text trace_text ≡ refused ShortWorkspace
unfolding replay judged replayed ◌>>=◌ require
short_space_is_refused room program_text trace_text short = rw (lt-leb replay_space room short) refl
