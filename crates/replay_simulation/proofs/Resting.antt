-- What is left behind a line of a text is the text from the byte `next` on.
use Rattle.std.proofs.Common.{Some}
use Prim.Native.Nat.{ℕ, ◌+◌, ◌-◌, ◌<◌, ◌≤◌}
use mathlib.Core.Path.{◌≡◌, sym, ◌∙◌, ap, subst}
use mathlib.Core.List.{List}
use native.Mathlib.Omega.{arith}
use lib.ListN.{length, drop, length-drop}
use lib.Seq.{drop-drop}
use Rattle.spec.specs.Text.{Field}
use Rattle.lexer.specs.Views.{line_at}
use Rattle.lexer.proofs.LineEnds.{Behind, BehindLine, behind_line_lem}

-- the text from the byte `next` on, which is past the byte `from`
pub record RestAt (text : List ℕ) (from next : ℕ) (r : List ℕ) : Type 0 where
  pub left : drop next text ≡ r
  pub further : from < next
  pub in_text_lem : next ≤ length text

pub rest_at : (text : List ℕ) (from : ℕ) (fs : List Field) (r : List ℕ) → from ≤ length text → line_at (drop from text) ≡ Some (fs, r) →
    RestAt text from (length text - length r) r
rest_at text from fs r low h = told (subst (BehindLine (drop from text)) h (behind_line_lem (drop from text)))
  where
    told : Behind (drop from text) r → RestAt text from (length text - length r) r
    told b =
        let l = length-drop from text in
        let m = length-drop b.by (drop from text) in
        let n = ap length b.left in
        let k = b.by_le in
        let j = b.some_by in
        let z : length text - length r ≡ from + b.by = omega (arith, l, m, n, k, low) in
        record {
          left = ap (λ (i : ℕ). drop i text) z ∙ sym (drop-drop b.by from text) ∙ b.left;
          further = omega (arith, z, j);
          in_text_lem = omega arith;
        }
