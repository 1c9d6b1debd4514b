-- What is promised of an answer, in terms of the four numbers that document 01 gives for it.
use Rattle.std.specs.Prelude.{◌≡◌, List, ℕ}
use Rattle.spec.specs.Verdict.{returned}
use Rattle.spec.specs.FirstFalse.{Refuted}
use Rattle.spec.specs.declared.Returned.{Returned}
use Rattle.spec.specs.declared.Answer.{Answer}
use Rattle.spec.specs.declared.Answer.TheVariants.{Refuse}
use Rattle.spec.specs.declared.Refusal.{Refusal}

-- four numbers are those of a refusal that names the first false condition of the pair
pub record RefutedAs (program_text split_text : List ℕ) (n : Returned) : Type 0 where
  pub refusal : Refusal
  pub numbers : n ≡ returned (Refuse refusal)
  pub refuted : Refuted program_text split_text refusal

-- the answer's numbers are
abbrev pub RefutedBy : (program_text split_text : List ℕ) → Answer → Type 0
RefutedBy program_text split_text a = RefutedAs program_text split_text (returned a)
