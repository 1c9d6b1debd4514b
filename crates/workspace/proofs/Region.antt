-- Laws of regions and of changed parts: what is read there, what a store in front of a region, past its end or elsewhere does, and the lists that a region is made of.
use mathlib.Core.Path.{◌≡◌, refl, sym, ap, ◌∙◌}
use mathlib.Core.Logic.{◌⊎◌, inl, inr, ⊎_elim}
use mathlib.Core.List.{List, [], ◌∷◌, ◌++◌, map, map-append}
use Prim.Native.Nat.{ℕ, zero, suc, ◌+◌, ◌-◌, ◌<◌, ◌≤◌}
use native.Mathlib.Omega.{arith}
use native.Mathlib.Nat.{eq-or-lt_of_le}
use native.Mathlib.Decide.{dec_lt}
use lib.ListN.{length, get_or, take, drop, set, length-set, length-drop, length-append, length-map, get_or-append}
use lib.Seq.{get_or-take, get_or-drop, get_or-set_same, get_or-set_other, get_or-append-add, get_or-append_seam, ext_get_or, length-take-le}
use Rattle.workspace.specs.Region.{Region, ChangedWithin}

-- ------------------------------------------------------------------ regions

-- an entry of a column, a region that holds one number of each row
pub column : {A : Type 0} (w : List ℕ) (b : ℕ) (f : A → ℕ) (l : List A) (d : A) (i : ℕ)
    → Region w b (map f l) → i < length l → get_or w (b + i) 0 ≡ f (get_or l i d)
column w b f l d i r h =
    let h' : i < length (map f l) = rw length-map h in
    r.at i h' ∙ entry l i h
  where
    entry : (l : List _) (i : ℕ) → i < length l → get_or (map f l) i 0 ≡ f (get_or l i d)
    entry [] i h = absurd (omega arith)
    entry (x ∷ l) zero h = refl
    entry (x ∷ l) (suc i) h = entry l i (omega arith)

-- nothing stands anywhere within the work space
pub region_empty : (w : List ℕ) (b : ℕ) → b ≤ length w → Region w b []
region_empty w b h = record { fits = omega arith; at = λ i h. omega arith }

-- a store elsewhere
pub region_apart : (w : List ℕ) (b : ℕ) (xs : List ℕ) (k v : ℕ) → (k < b) ⊎ (b + length xs ≤ k) → Region w b xs → Region (set w k v) b xs
region_apart w b xs k v o r = record {
  fits = rw length-set r.fits;
  at = λ i h. get_or-set_other w k (b + i) v 0 (λ e. ⊎_elim (λ p. omega arith) (λ p. omega arith) o) ∙ r.at i h;
}

-- one number more, stored just past it
pub region_push : (w : List ℕ) (b : ℕ) (xs : List ℕ) (v : ℕ) → b + length xs < length w → Region w b xs
    → Region (set w (b + length xs) v) b (xs ++ (v ∷ []))
region_push w b xs v o r = record {
  fits = omega (arith, length-set w (b + length xs) v, length-append xs (v ∷ []));
  at = λ i h.
      ⊎_elim
      (λ (e : i ≡ length xs). rw e (get_or-set_same w (b + length xs) v 0 o ∙ sym (get_or-append_seam xs v [] 0)))
      (λ (l : i < length xs).
      get_or-set_other w (b + length xs) (b + i) v 0 (λ e. omega arith)
      ∙ r.at i l
      ∙ sym (get_or-append xs (v ∷ []) 0 i l))
      (eq-or-lt_of_le (omega (arith, length-append xs (v ∷ []))));
}

-- one entry more of a column
pub column_push : {A : Type 0} (w : List ℕ) (b : ℕ) (f : A → ℕ) (l : List A) (a : A) (n : ℕ) → length l ≡ n → b + n < length w
    → Region w b (map f l) → Region (set w (b + n) (f a)) b (map f (l ++ (a ∷ [])))
column_push w b f l a n e h r =
    let m : length (map f l) ≡ n = length-map l f ∙ e in
    rw (map-append f l (a ∷ []), ← m) (region_push w b (map f l) (f a) (omega arith) r)

-- a number stored in front of a region
pub region_front : (w xs : List ℕ) (b v : ℕ) → b < length w → Region w (b + 1) xs → Region (set w b v) b (v ∷ xs)
region_front w xs b v o r = record {
  fits = omega (arith, length-set w b v, r.fits);
  at = at;
}
  where
    at : (i : ℕ) → i < length (v ∷ xs) → get_or (set w b v) (b + i) 0 ≡ get_or (v ∷ xs) i 0
    at zero h = let e : b + 0 ≡ b = omega arith in rw e (get_or-set_same w b v 0 o)
    at (suc i) h =
        let e : b + suc i ≡ b + 1 + i = omega arith in
        get_or-set_other w b (b + suc i) v 0 (λ q. omega arith) ∙ rw e (r.at i (omega arith))

-- the region as a part of the list
pub region_part : (w : List ℕ) (b : ℕ) (xs : List ℕ) → Region w b xs → take (length xs) (drop b w) ≡ xs
region_part w b xs r =
    let e : length (take (length xs) (drop b w)) ≡ length xs = length-take-le (length xs) (drop b w) (omega (arith, length-drop b w, r.fits)) in
    ext_get_or 0 (take (length xs) (drop b w)) xs e (λ i h. let l : i < length xs = omega arith in rw (get_or-take, get_or-drop) (r.at i l))

-- ------------------------------------------------------------------ parts of a region

-- the same region, its place told otherwise
pub region_moved : {w xs : List ℕ} (b c : ℕ) → b ≡ c → Region w b xs → Region w c xs
region_moved b c e r = rw (← e) r

module _ {w : List ℕ} {b : ℕ} where
  -- its first number, and the region behind it
  pub region_first : {x : ℕ} {xs : List ℕ} → Region w b (x ∷ xs) → get_or w b 0 ≡ x
  region_first r = ap (λ (i : ℕ). get_or w i 0) (omega arith) ∙ r.at 0 (omega arith)

  pub region_behind : {x : ℕ} {xs : List ℕ} → Region w b (x ∷ xs) → Region w (b + 1) xs
  region_behind r = record {
    fits = omega (arith, r.fits);
    at = λ i h. ap (λ (j : ℕ). get_or w j 0) (omega arith) ∙ r.at (suc i) (omega arith);
  }

  -- two regions, one behind the other
  pub region_append : (xs ys : List ℕ) → Region w b xs → Region w (b + length xs) ys → Region w b (xs ++ ys)
  region_append xs ys r s = record { fits = omega (arith, length-append xs ys, s.fits); at = at }
    where
      at : (i : ℕ) → i < length (xs ++ ys) → get_or w (b + i) 0 ≡ get_or (xs ++ ys) i 0
      at i h = from (dec_lt i (length xs))
        where
          from : Dec (i < length xs) → get_or w (b + i) 0 ≡ get_or (xs ++ ys) i 0
          from (yes l) = r.at i l ∙ sym (get_or-append xs ys 0 i l)
          from (no f) =
              let k = i - length xs in
              let e : i ≡ length xs + k = omega arith in
              ap (λ (j : ℕ). get_or w j 0) (omega arith)
              ∙ s.at k (omega (arith, length-append xs ys))
              ∙ sym (ap (λ (j : ℕ). get_or (xs ++ ys) j 0) e ∙ get_or-append-add xs ys k 0)

  pub region_left : (xs ys : List ℕ) → Region w b (xs ++ ys) → Region w b xs
  region_left xs ys r = record {
    fits = omega (arith, r.fits, length-append xs ys);
    at = λ i h. r.at i (omega (arith, length-append xs ys)) ∙ get_or-append xs ys 0 i h;
  }

  pub region_right : (xs ys : List ℕ) → Region w b (xs ++ ys) → Region w (b + length xs) ys
  region_right xs ys r = record {
    fits = omega (arith, r.fits, length-append xs ys);
    at = λ i h.
        ap (λ (j : ℕ). get_or w j 0) (omega arith)
        ∙ r.at (length xs + i) (omega (arith, length-append xs ys))
        ∙ get_or-append-add xs ys i 0;
  }

-- ------------------------------------------------------------------ changed parts

-- nothing changed
pub changed_nothing : (a b : ℕ) (w : List ℕ) → ChangedWithin a b w w
changed_nothing a b w = record { long = refl; kept = λ i h. refl }

-- a store
pub changed_store : (a b : ℕ) (w : List ℕ) (k v : ℕ) → a ≤ k → k < b → ChangedWithin a b w (set w k v)
changed_store a b w k v h l = record {
  long = length-set w k v;
  kept = λ i o. get_or-set_other w k i v 0 (λ e. ⊎_elim (λ p. omega arith) (λ p. omega arith) o);
}

-- one change after another
pub changed_then : (a b : ℕ) {w w' w'' : List ℕ} → ChangedWithin a b w w' → ChangedWithin a b w' w'' → ChangedWithin a b w w''
changed_then a b x y = record { long = y.long ∙ x.long; kept = λ i o. y.kept i o ∙ x.kept i o }

-- a larger part
pub changed_wider : {a b : ℕ} (a' b' : ℕ) {w w' : List ℕ} → a' ≤ a → b ≤ b' → ChangedWithin a b w w' → ChangedWithin a' b' w w'
changed_wider a' b' h l x = record {
  long = x.long;
  kept = λ i o. x.kept i (⊎_elim (λ p. inl (omega arith)) (λ p. inr (omega arith)) o);
}

-- a region outside a changed part
pub region_kept : {a b c : ℕ} {w w' xs : List ℕ} → ChangedWithin a b w w' → (c + length xs ≤ a) ⊎ (b ≤ c) → Region w c xs → Region w' c xs
region_kept {a} {b} {c} x o r = record {
  fits = omega (arith, x.long, r.fits);
  at = λ i h. x.kept (c + i) (⊎_elim (λ p. inl (omega arith)) (λ p. inr (omega arith)) o) ∙ r.at i h;
}
