-- The answers to the pairs of 1 to 31 readers, computed: one table in five parts, since what a definition computes stays in
-- memory until it is done.
use mathlib.Core.Path.{◌≡◌, refl}
use mathlib.Core.List.{List, [], ◌∷◌}
use Prim.Native.Nat.{ℕ, zero, suc, ◌+◌}
use lib.ListN.{replicate}
use Rattle.spec.specs.Workspace.{workspace_size}
use Rattle.spec.specs.Verdict.{verdict}
use Rattle.spec.specs.Pairs.KnownPairs.{found}
use Rattle.spec.specs.declared.Answer.{Answer}
use Rattle.spec.specs.declared.Answer.TheVariants.{Accept}
use Rattle.text_theory.specs.Text.{digit, digits_within, decimal, line, text}
use Rattle.drill_theory.specs.Pair.{program_text, split_text}
use Rattle.drill_theory.specs.Pair as pair

-- the answers to n pairs, of k readers and upward; to unfold it is to unfold every definition on the way from k to an answer
unfoldable pub answers : (k n : ℕ) → List Answer
unfolding found digit digits_within decimal line text pair.step pair.lets pair.spawn pair.join pair.program_steps pair.program_lines program_text pair.header pair.type_line pair.type_lines pair.falling_maps pair.row pair.start_row pair.spawn_rows pair.all_spawn_rows pair.join_rows pair.all_join_rows pair.rows pair.split_lines split_text
answers k zero = []
answers k (suc n) = verdict workspace_size (program_text k) (split_text k) ∷ answers (k + 1) n

-- n pairs, of k readers and upward, are accepted
unfoldable pub Accepted : (k n : ℕ) → Type 0
Accepted k n = answers k n ≡ replicate n Accept

pub from_1 : Accepted 1 12
unfolding answers Accepted
from_1 = refl

pub from_13 : Accepted 13 6
unfolding answers Accepted
from_13 = refl

pub from_19 : Accepted 19 5
unfolding answers Accepted
from_19 = refl

pub from_24 : Accepted 24 4
unfolding answers Accepted
from_24 = refl

pub from_28 : Accepted 28 4
unfolding answers Accepted
from_28 = refl
