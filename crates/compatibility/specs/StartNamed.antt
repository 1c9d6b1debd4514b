-- Request (iv), "The start written out". Before it a sheet had the heading `C` and started with map 0.
use Rattle.std.specs.Prelude.{◌≡◌, List, ◌++◌, ℕ, ◌≤◌, length}
use Rattle.spec.specs.Text.{bytes}
use Rattle.spec.specs.Split.{split_limit}
use Rattle.spec.specs.Verdict.{verdict}
use Rattle.spec.specs.declared.Answer.TheVariants.{Refuse}
use Rattle.spec.specs.declared.Refusal.TheVariants.{NoStart}
use Rattle.compatibility.specs.Texts.{OneLine, ◌above◌}

-- line 1 with the numbers a, and the same with map 0 named
abbrev pub header_unnamed : (a : List ℕ) → List ℕ
header_unnamed a = bytes "C," ++ a

abbrev pub header_named : (a : List ℕ) → List ℕ
header_named a = bytes "C2," ++ a ++ bytes ",0"

-- "A `C` sheet still means map 0": the sheet that says so gets the same answer, but for 40, since request (vii) reads an empty start
-- under `C2` otherwise
abbrev pub MapZeroStays : Type 0
MapZeroStays =
    (room : ℕ) (p a t : List ℕ) → OneLine a → length (header_named a above t) ≤ split_limit
    → ((k : ℕ) → verdict room p (header_unnamed a above t) ≡ Refuse (NoStart k) → ⊥)
    → verdict room p (header_named a above t) ≡ verdict room p (header_unnamed a above t)
