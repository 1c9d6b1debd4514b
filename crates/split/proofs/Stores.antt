-- Stores of the readers: a row of three columns, a signature, a map; and which part of the work space they change.
use mathlib.Core.Path.{◌≡◌, sym, ap, subst, ◌∙◌}
use mathlib.Core.Logic.{◌⊎◌, inl, inr, ⊎_elim}
use mathlib.Core.List.{List, [], ◌∷◌, ◌++◌, map}
use Prim.Native.Nat.{ℕ, ◌+◌, ◌-◌, ◌*◌, ◌<◌, ◌≤◌}
use native.Mathlib.Omega.{arith}
use native.Mathlib.Nat.{eq-or-lt_of_le}
use lib.ListN.{length, get_or, take, drop, replicate, set, length-set, length-map, length-append, length-drop, get_or-append}
use lib.Seq.{get_or-take, get_or-drop, length-take-le, get_or-append-add, get_or-append_seam}
use Rattle.spec.specs.Split.{Map}
use Rattle.spec.specs.declared.Signature.{Signature}
use Rattle.workspace.specs.Layout.{sig_befores_at, sig_arguments_at, sig_afters_at, sig_results_at, maps_at, stride, empty_row_at, work_size}
use Rattle.workspace.specs.Region.{Region, ChangedWithin}
use Rattle.workspace.proofs.Region.{region_empty, region_apart, column_push, region_kept, changed_store, changed_then}
use Rattle.split.specs.Stored.{Columns, HoldsSignatures, signed, EmptyStored, HoldsMaps}

-- ------------------------------------------------------------------ columns

module _ {A : Type 0} (f g h : A → ℕ) (b rows : ℕ) where
  pub columns_empty : (w : List ℕ) → b + rows + rows ≤ length w → Columns f g h b rows w []
  columns_empty w l = record {
    first = region_empty w b (omega arith);
    second = region_empty w (b + rows) (omega arith);
    third = region_empty w (b + rows + rows) l;
  }

  -- one row more
  module _ (w : List ℕ) (entries : List A) (a : A) (n : ℕ) (count : length entries ≡ n) (few : n < rows) (room : b + rows + rows + rows ≤ length w) where
    abbrev stored : List ℕ
    stored = set (set (set w (b + n) (f a)) (b + rows + n) (g a)) (b + rows + rows + n) (h a)

    apart : (k : A → ℕ) (at : ℕ) (v : List ℕ) (i x : ℕ) → (i < at) ⊎ (at + rows ≤ i) → (l : List A) → length l ≤ rows → Region v at (map k l) → Region (set v i x) at (map k l)
    apart k at v i x o l c r =
        region_apart v at (map k l) i x (⊎_elim (λ p. inl p) (λ p. inr (omega (arith, length-map l k))) o) r

    more : length (entries ++ (a ∷ [])) ≤ rows
    more = omega (arith, length-append entries (a ∷ []))

    pub columns_push : Columns f g h b rows w entries → Columns f g h b rows stored (entries ++ (a ∷ []))
    columns_push c =
        let w₁ = set w (b + n) (f a) in
        let w₂ = set w₁ (b + rows + n) (g a) in
        let l₁ = length-set w (b + n) (f a) in
        let l₂ = length-set w₁ (b + rows + n) (g a) in
        let all = entries ++ (a ∷ []) in
        record {
          first =
              apart f b w₂ (b + rows + rows + n) (h a) (inr (omega arith)) all more
              (apart f b w₁ (b + rows + n) (g a) (inr (omega arith)) all more (column_push w b f entries a n count (omega arith) c.first));
          second =
              apart g (b + rows) w₂ (b + rows + rows + n) (h a) (inr (omega arith)) all more
              (column_push w₁ (b + rows) g entries a n count (omega arith) (apart g (b + rows) w (b + n) (f a) (inl (omega arith)) entries (omega arith) c.second));
          third =
              column_push w₂ (b + rows + rows) h entries a n count (omega arith)
              (apart h (b + rows + rows) w₁ (b + rows + n) (g a) (inl (omega arith)) entries (omega arith)
              (apart h (b + rows + rows) w (b + n) (f a) (inl (omega arith)) entries (omega arith) c.third));
        }

    pub columns_changed : ChangedWithin b (b + rows + rows + rows) w stored
    columns_changed =
        let e = b + rows + rows + rows in
        changed_then b e (changed_store b e w (b + n) (f a) (omega arith) (omega arith))
        (changed_then b e (changed_store b e (set w (b + n) (f a)) (b + rows + n) (g a) (omega arith) (omega arith))
        (changed_store b e (set (set w (b + n) (f a)) (b + rows + n) (g a)) (b + rows + rows + n) (h a) (omega arith) (omega arith)))

-- ------------------------------------------------------------------ signatures

pub signatures_empty : (w : List ℕ) → length w ≡ work_size → HoldsSignatures w []
signatures_empty w l = record {
  befores = region_empty w sig_befores_at (omega arith);
  arguments = region_empty w sig_arguments_at (omega arith);
  afters = region_empty w sig_afters_at (omega arith);
  results = region_empty w sig_results_at (omega arith);
}

-- one signature more
module _ (w : List ℕ) (gs : List Signature) (g : Signature) (f : ℕ) (count : length gs ≡ f) (few : f < 16) (whole : length w ≡ work_size) where
  abbrev w₁ : List ℕ
  w₁ = set w (sig_befores_at + f) g.before.0

  abbrev w₂ : List ℕ
  w₂ = set w₁ (sig_arguments_at + f) g.argument.0

  abbrev w₃ : List ℕ
  w₃ = set w₂ (sig_afters_at + f) g.after.0

  -- a store in another column
  beside : (k : Signature → ℕ) (at : ℕ) (v : List ℕ) (i x : ℕ) → (i < at) ⊎ (at + 16 ≤ i) → (l : List Signature) → length l ≤ 16
      → Region v at (map k l) → Region (set v i x) at (map k l)
  beside k at v i x o l c r = region_apart v at (map k l) i x (⊎_elim (λ p. inl p) (λ p. inr (omega (arith, length-map l k))) o) r

  all_few : length (gs ++ (g ∷ [])) ≤ 16
  all_few = omega (arith, length-append gs (g ∷ []))

  long₁ : length w₁ ≡ work_size
  long₁ = length-set w (sig_befores_at + f) g.before.0 ∙ whole

  long₂ : length w₂ ≡ work_size
  long₂ = length-set w₁ (sig_arguments_at + f) g.argument.0 ∙ long₁

  long₃ : length w₃ ≡ work_size
  long₃ = length-set w₂ (sig_afters_at + f) g.after.0 ∙ long₂

  pub signatures_push : HoldsSignatures w gs → HoldsSignatures (signed w f g) (gs ++ (g ∷ []))
  signatures_push H =
      let all = gs ++ (g ∷ []) in
      let few_so_far : length gs ≤ 16 = omega arith in
      record {
        befores =
            beside (λ (x : Signature). x.before.0) sig_befores_at w₃ (sig_results_at + f) g.result.0 (inr (omega arith)) all all_few
            (beside (λ (x : Signature). x.before.0) sig_befores_at w₂ (sig_afters_at + f) g.after.0 (inr (omega arith)) all all_few
            (beside (λ (x : Signature). x.before.0) sig_befores_at w₁ (sig_arguments_at + f) g.argument.0 (inr (omega arith)) all all_few
            (column_push w sig_befores_at (λ (x : Signature). x.before.0) gs g f count (omega arith) H.befores)));
        arguments =
            beside (λ (x : Signature). x.argument.0) sig_arguments_at w₃ (sig_results_at + f) g.result.0 (inr (omega arith)) all all_few
            (beside (λ (x : Signature). x.argument.0) sig_arguments_at w₂ (sig_afters_at + f) g.after.0 (inr (omega arith)) all all_few
            (column_push w₁ sig_arguments_at (λ (x : Signature). x.argument.0) gs g f count (omega (arith, long₁))
            (beside (λ (x : Signature). x.argument.0) sig_arguments_at w (sig_befores_at + f) g.before.0 (inl (omega arith)) gs few_so_far H.arguments)));
        afters =
            beside (λ (x : Signature). x.after.0) sig_afters_at w₃ (sig_results_at + f) g.result.0 (inr (omega arith)) all all_few
            (column_push w₂ sig_afters_at (λ (x : Signature). x.after.0) gs g f count (omega (arith, long₂))
            (beside (λ (x : Signature). x.after.0) sig_afters_at w₁ (sig_arguments_at + f) g.argument.0 (inl (omega arith)) gs few_so_far
            (beside (λ (x : Signature). x.after.0) sig_afters_at w (sig_befores_at + f) g.before.0 (inl (omega arith)) gs few_so_far H.afters)));
        results =
            column_push w₃ sig_results_at (λ (x : Signature). x.result.0) gs g f count (omega (arith, long₃))
            (beside (λ (x : Signature). x.result.0) sig_results_at w₂ (sig_afters_at + f) g.after.0 (inl (omega arith)) gs few_so_far
            (beside (λ (x : Signature). x.result.0) sig_results_at w₁ (sig_arguments_at + f) g.argument.0 (inl (omega arith)) gs few_so_far
            (beside (λ (x : Signature). x.result.0) sig_results_at w (sig_befores_at + f) g.before.0 (inl (omega arith)) gs few_so_far H.results)));
      }

  pub signatures_changed : ChangedWithin sig_befores_at (sig_results_at + 16) w (signed w f g)
  signatures_changed =
      let a = sig_befores_at in
      let b = sig_results_at + 16 in
      changed_then a b (changed_store a b w (sig_befores_at + f) g.before.0 (omega arith) (omega arith))
      (changed_then a b (changed_store a b w₁ (sig_arguments_at + f) g.argument.0 (omega arith) (omega arith))
      (changed_then a b (changed_store a b w₂ (sig_afters_at + f) g.after.0 (omega arith) (omega arith))
      (changed_store a b w₃ (sig_results_at + f) g.result.0 (omega arith) (omega arith))))

-- ------------------------------------------------------------------ maps

-- a part of the work space with other numbers in it
module _ (w : List ℕ) (at : ℕ) (xs : List ℕ) (n : ℕ) (count : length xs ≡ n) (room : at + n ≤ length w) where
  abbrev filled : List ℕ
  filled = take at w ++ (xs ++ drop n (drop at w))

  front : length (take at w) ≡ at
  front = length-take-le at w (omega arith)

  filled_long : length filled ≡ length w
  filled_long =
      omega (arith, length-append (take at w) (xs ++ drop n (drop at w)), length-append xs (drop n (drop at w)), length-drop n (drop at w), length-drop at w, front)

  filled_before : (i : ℕ) → i < at → get_or filled i 0 ≡ get_or w i 0
  filled_before i h = get_or-append (take at w) (xs ++ drop n (drop at w)) 0 i (omega (arith, front)) ∙ get_or-take at w i 0 h

  filled_at : (i : ℕ) → i < length xs → get_or filled (at + i) 0 ≡ get_or xs i 0
  filled_at i h =
      ap (λ (k : ℕ). get_or (take at w ++ (xs ++ drop n (drop at w))) (k + i) 0) (sym front)
      ∙ get_or-append-add (take at w) (xs ++ drop n (drop at w)) i 0
      ∙ get_or-append xs (drop n (drop at w)) 0 i h

  filled_behind : (i : ℕ) → at + n ≤ i → get_or filled i 0 ≡ get_or w i 0
  filled_behind i h =
      let k = i - (at + n) in
      let e : i ≡ length (take at w) + (length xs + k) = omega (arith, front) in
      ap (λ (j : ℕ). get_or (take at w ++ (xs ++ drop n (drop at w))) j 0) e
      ∙ get_or-append-add (take at w) (xs ++ drop n (drop at w)) (length xs + k) 0
      ∙ get_or-append-add xs (drop n (drop at w)) k 0
      ∙ get_or-drop n (drop at w) k 0
      ∙ get_or-drop at w (n + k) 0
      ∙ ap (λ (j : ℕ). get_or w j 0) (omega arith)

  pub filled_changed : (a b : ℕ) → a ≤ at → at + n ≤ b → ChangedWithin a b w filled
  filled_changed a b l m = record {
    long = filled_long;
    kept = λ i o. ⊎_elim (λ p. filled_before i (omega arith)) (λ p. filled_behind i (omega arith)) o;
  }

  pub filled_region : Region filled at xs
  filled_region = record { fits = omega (arith, filled_long); at = filled_at }

-- the empty map
pub empty_stored : (w xs : List ℕ) → length w ≡ work_size → xs ≡ replicate (length (take 16 (drop empty_row_at w))) 0
    → EmptyStored w (take empty_row_at w ++ (xs ++ drop 16 (drop empty_row_at w)))
empty_stored w xs long e =
    let part = length-take-le 16 (drop empty_row_at w) (omega (arith, length-drop empty_row_at w, long)) in
    let is : xs ≡ replicate 16 0 = e ∙ ap (λ (n : ℕ). replicate n 0) part in
    let count : length xs ≡ 16 = ap length is in
    record {
      empty = subst (Region (take empty_row_at w ++ (xs ++ drop 16 (drop empty_row_at w))) empty_row_at) is (filled_region w empty_row_at xs 16 count (omega arith));
      changed = filled_changed w empty_row_at xs 16 count (omega arith) empty_row_at (empty_row_at + stride) (omega arith) (omega arith);
    }

pub maps_empty : (locations : ℕ) (w : List ℕ) → HoldsMaps locations w []
maps_empty locations w = record { wide = λ m h. absurd (omega arith); maps = λ m h. absurd (omega arith) }

-- one map more
module _ (locations : ℕ) (narrow : locations ≤ 16) (w w' : List ℕ) (ms : List Map) (m : Map) (wide : length m ≡ locations) (n : ℕ) (count : length ms ≡ n) where
  pub maps_push : HoldsMaps locations w ms → ChangedWithin (maps_at + stride * n) (maps_at + stride * n + locations) w w'
      → Region w' (maps_at + stride * n) m → HoldsMaps locations w' (ms ++ (m ∷ []))
  maps_push h x r = record {
    wide = λ i l. at (λ (n : Map) (j : ℕ). length n ≡ locations) h.wide wide i l;
    maps = λ i l. at (λ (n : Map) (j : ℕ). Region w' (maps_at + stride * j) n)
        (λ j k. region_kept x (inl (omega (arith, h.wide j k, count))) (h.maps j k)) (rw count r) i l;
  }
    where
      at : (P : Map → ℕ → Type 0) → ((j : ℕ) → j < length ms → P (get_or ms j []) j) → P m (length ms)
          → (i : ℕ) → i < length (ms ++ (m ∷ [])) → P (get_or (ms ++ (m ∷ [])) i []) i
      at P old new i l =
          ⊎_elim
          (λ (e : i ≡ length ms). rw (e, get_or-append_seam ms m [] []) new)
          (λ (k : i < length ms). rw (get_or-append ms (m ∷ []) [] i k) (old i k))
          (eq-or-lt_of_le (omega (arith, length-append ms (m ∷ []))))
