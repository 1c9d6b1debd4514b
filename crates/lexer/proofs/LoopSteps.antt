-- Counted lines in turn, whatever is read on each: what a loop over them knows after some of them, and what it knows at its end.
use Rattle.std.proofs.Common.{Ok, Err}
use mathlib.Core.Path.{◌≡◌, refl, sym, ap, ◌∙◌}
use mathlib.Core.List.{List, [], ◌∷◌, ◌++◌}
use Prim.Native.Nat.{ℕ, zero, suc, ◌+◌, ◌-◌, ◌≤◌, ◌<◌}
use native.Mathlib.Omega.{arith}
use lib.ListN.{length, length-append, replicate}
use Rattle.spec.specs.Text.{Field}
use Rattle.spec.specs.Reading.{SheetName, LineResult, Place, read_line, read_lines}
use Rattle.spec.specs.declared.Refusal.{Refusal}
use Rattle.spec.proofs.Reading.{front, front_none, all_stop, all_on, all_done}
use Rattle.lexer.specs.Cursors.{Placed, place_at}
use Rattle.lexer.specs.declared.Cursor.{Cursor}

-- the ways of reading n lines, numbered from k on
unfoldable pub numbered : {A : Type 0} → (ℕ → List Field → LineResult A) → (k n : ℕ) → List (List Field → LineResult A)
numbered read k zero = []
numbered read k (suc n) = read k ∷ numbered read (k + 1) n

-- one way for all of them
pub same_numbered : {A : Type 0} (read : List Field → LineResult A) (k n : ℕ) → replicate n read ≡ numbered (λ i. read) k n
unfolding numbered
same_numbered read k zero = refl
same_numbered read k (suc n) = ap (λ (l : List _). read ∷ l) (same_numbered read (k + 1) n)

-- After i of n lines, with the cursor at c: what all of them show is what was read, and then what the rest shows.
pub record LoopStep {A : Type 0} (sheet : SheetName) (read : ℕ → List Field → LineResult A) (n : ℕ) (text : List ℕ) (from : Place) (c : Cursor) (i : ℕ) (entries : List A) : Type 0 where
  pub count : length entries ≡ i
  pub few : i ≤ n
  pub placed : Placed text c
  pub rest : read_lines sheet (numbered read 0 n) from ≡ front entries (read_lines sheet (numbered read i (n - i)) (place_at text c))

pub first_loop_step : {A : Type 0} {sheet : SheetName} {read : ℕ → List Field → LineResult A} {n : ℕ} {text : List ℕ} {c : Cursor} → Placed text c
    → LoopStep sheet read n text (place_at text c) c 0 []
first_loop_step {sheet = sheet} {read = read} {text = text} {c = c} p = record {
  count = refl;
  few = omega arith;
  placed = p;
  rest = sym (ap (λ (k : ℕ). front [] (read_lines sheet (numbered read 0 k) (place_at text c))) (omega arith) ∙ front_none _);
}

module _
    {A : Type 0} {sheet : SheetName} {read : ℕ → List Field → LineResult A} {n : ℕ} {text : List ℕ} {from : Place} {c : Cursor} {i : ℕ} {entries : List A}
    (t : LoopStep sheet read n text from c i entries)
  where
    left : i < n → numbered read i (n - i) ≡ read i ∷ numbered read (i + 1) (n - (i + 1))
    unfolding numbered
    left h = let e : n - i ≡ suc (n - (i + 1)) = omega arith in rw e

    -- the read_line line is read
    pub loop_step_on : i < n → {entry : A} {d : Cursor} → read_line sheet (read i) (place_at text c) ≡ Ok (entry, place_at text d) → Placed text d
        → LoopStep sheet read n text from d (i + 1) (entries ++ (entry ∷ []))
    loop_step_on h {entry} {d} e p = record {
      count = omega (arith, length-append entries (entry ∷ []), t.count);
      few = omega arith;
      placed = p;
      rest = t.rest ∙ ap (λ (l : List _). front entries (read_lines sheet l (place_at text c))) (left h)
          ∙ all_on sheet (read i) (numbered read (i + 1) (n - (i + 1))) (place_at text c) entries entry (place_at text d) e;
    }

    -- it is refused
    pub loop_step_stops : i < n → {r : Refusal} → read_line sheet (read i) (place_at text c) ≡ Err r → read_lines sheet (numbered read 0 n) from ≡ Err r
    unfolding front
    loop_step_stops h {r} e =
        t.rest ∙ ap (λ (l : List _). front entries (read_lines sheet l (place_at text c))) (left h)
        ∙ ap (front entries) (all_stop sheet (read i) (numbered read (i + 1) (n - (i + 1))) (place_at text c) r e)

    -- all of them are read
    pub loop_steps_done : n ≤ i → read_lines sheet (numbered read 0 n) from ≡ Ok (entries, place_at text c)
    unfolding numbered
    loop_steps_done h = let e : n - i ≡ 0 = omega (arith, t.few) in t.rest ∙ rw e (all_done sheet entries (place_at text c))

    pub loop_steps_counted : n ≤ i → length entries ≡ n
    loop_steps_counted h = omega (arith, t.count, t.few)
