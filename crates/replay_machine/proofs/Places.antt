-- Places: the threads that are not joined, by their numbers and by their places among themselves.
use Rattle.std.proofs.Common.{Option, Some, slice_get}
use Prim.Native.Nat.{ℕ, zero, suc, ◌+◌}
use mathlib.Core.Path.{◌≡◌, refl, sym, ◌∙◌, ap}
use mathlib.Core.Bool.{Bool, true, false}
use mathlib.Core.List.{List, [], ◌∷◌, ◌++◌}
use native.Mathlib.Omega.{arith}
use lib.ListN.{set, length}
use Rattle.spec.proofs.Clashes.{true_is_not_false}
use Rattle.calculus.specs.State.{remove}
use Rattle.calculus.proofs.Laws.Maps.{some_injective, none_is_not_some}
use Rattle.replay_machine.specs.State.{MachineThread, unless, of_live, rank}

-- ---- A thread that is not joined

-- Thread i is t, and not joined.
pub record LiveAt (ts : List MachineThread) (i : ℕ) (t : MachineThread) : Type 0 where
  pub there : slice_get ts i ≡ Some t
  pub not_joined : t.joined ≡ false

below : {u t : MachineThread} {ts : List MachineThread} {i : ℕ} → LiveAt (u ∷ ts) (suc i) t → LiveAt ts i t
below h = record { there = h.there; not_joined = h.not_joined }

first_live : {u t : MachineThread} {ts : List MachineThread} → LiveAt (u ∷ ts) zero t → u.joined ≡ false
first_live h = ap (λ (x : MachineThread). x.joined) (some_injective h.there) ∙ h.not_joined

-- ---- What is told of those threads

module _ {A : Type 0} (f : ℕ → MachineThread → A) where
  -- One thread in front of the others.
  kept_in : (b : Bool) (l : List A) (a : A) → b ≡ false → unless b (λ k. a ∷ k) l ≡ a ∷ l
  kept_in true l a h = true_is_not_false h
  kept_in false l a h = refl

  number : (k i : ℕ) (t : MachineThread) → f (suc k + i) t ≡ f (k + suc i) t
  number k i t = ap (λ (n : ℕ). f n t) (omega arith)

  pub live_at : (ts : List MachineThread) (k i : ℕ) (t : MachineThread) → LiveAt ts i t → slice_get (of_live f k ts) (rank ts i) ≡ Some (f (k + i) t)
  live_at [] k i t h = none_is_not_some h.there
  live_at (u ∷ ts) k zero t h =
      ap (λ (l : List A). slice_get l 0) (kept_in u.joined (of_live f (suc k) ts) (f k u) (first_live h))
      ∙ ap Some (ap (f k) (some_injective h.there) ∙ ap (λ (n : ℕ). f n t) (omega arith))
  live_at (u ∷ ts) k (suc i) t h = past u.joined (live_at ts (suc k) i t (below h) ∙ ap Some (number k i t))
    where
      past : {o : Option A} (b : Bool) → slice_get (of_live f (suc k) ts) (rank ts i) ≡ o →
          slice_get (unless b (λ l. f k u ∷ l) (of_live f (suc k) ts)) (unless b suc (rank ts i)) ≡ o
      past true q = q
      past false q = q

  -- It goes on.
  pub live_set : (ts : List MachineThread) (k i : ℕ) (t t' : MachineThread) → LiveAt ts i t → t'.joined ≡ false →
      of_live f k (set ts i t') ≡ set (of_live f k ts) (rank ts i) (f (k + i) t')
  live_set [] k i t t' h n = none_is_not_some h.there
  live_set (u ∷ ts) k zero t t' h n =
      kept_in t'.joined (of_live f (suc k) ts) (f k t') n
      ∙ ap (λ (m : ℕ). f m t' ∷ of_live f (suc k) ts) (omega arith)
      ∙ ap (λ (l : List A). set l 0 (f (k + 0) t')) (sym (kept_in u.joined (of_live f (suc k) ts) (f k u) (first_live h)))
  live_set (u ∷ ts) k (suc i) t t' h n =
      past u.joined (live_set ts (suc k) i t t' (below h) n ∙ ap (set (of_live f (suc k) ts) (rank ts i)) (number k i t'))
    where
      past : {l : List A} (b : Bool) → l ≡ set (of_live f (suc k) ts) (rank ts i) (f (k + suc i) t') →
          unless b (λ z. f k u ∷ z) l ≡ set (unless b (λ z. f k u ∷ z) (of_live f (suc k) ts)) (unless b suc (rank ts i)) (f (k + suc i) t')
      past true q = q
      past false q = ap (λ (z : List A). f k u ∷ z) q

  -- It is joined.
  pub live_join : (ts : List MachineThread) (k i : ℕ) (t t' : MachineThread) → LiveAt ts i t → t'.joined ≡ true →
      of_live f k (set ts i t') ≡ remove (of_live f k ts) (rank ts i)
  live_join [] k i t t' h n = none_is_not_some h.there
  live_join (u ∷ ts) k zero t t' h n =
      ap (λ (b : Bool). unless b (λ z. f k t' ∷ z) (of_live f (suc k) ts)) n
      ∙ ap (λ (l : List A). remove l 0) (sym (kept_in u.joined (of_live f (suc k) ts) (f k u) (first_live h)))
  live_join (u ∷ ts) k (suc i) t t' h n = past u.joined (live_join ts (suc k) i t t' (below h) n)
    where
      past : {l : List A} (b : Bool) → l ≡ remove (of_live f (suc k) ts) (rank ts i) →
          unless b (λ z. f k u ∷ z) l ≡ remove (unless b (λ z. f k u ∷ z) (of_live f (suc k) ts)) (unless b suc (rank ts i))
      past true q = q
      past false q = ap (λ (z : List A). f k u ∷ z) q

  -- A new thread stands last.
  pub live_append : (ts : List MachineThread) (k : ℕ) (t : MachineThread) → t.joined ≡ false →
      of_live f k (ts ++ (t ∷ [])) ≡ of_live f k ts ++ (f (k + length ts) t ∷ [])
  live_append [] k t n = kept_in t.joined [] (f k t) n ∙ ap (λ (m : ℕ). f m t ∷ []) (omega arith)
  live_append (u ∷ ts) k t n =
      past u.joined (live_append ts (suc k) t n ∙ ap (λ (a : A). of_live f (suc k) ts ++ (a ∷ [])) (number k (length ts) t))
    where
      past : {l : List A} (b : Bool) → l ≡ of_live f (suc k) ts ++ (f (k + suc (length ts)) t ∷ []) →
          unless b (λ z. f k u ∷ z) l ≡ unless b (λ z. f k u ∷ z) (of_live f (suc k) ts) ++ (f (k + suc (length ts)) t ∷ [])
      past true q = q
      past false q = ap (λ (z : List A). f k u ∷ z) q

-- A thread that goes on leaves the places as they are.
pub rank_set : (ts : List MachineThread) (i j : ℕ) (t t' : MachineThread) → LiveAt ts i t → t'.joined ≡ false → rank (set ts i t') j ≡ rank ts j
rank_set [] i j t t' h n = refl
rank_set (u ∷ ts) zero zero t t' h n = refl
rank_set (u ∷ ts) zero (suc j) t t' h n = ap (λ (b : Bool). unless b suc (rank ts j)) (n ∙ sym (first_live h))
rank_set (u ∷ ts) (suc i) zero t t' h n = refl
rank_set (u ∷ ts) (suc i) (suc j) t t' h n = ap (unless u.joined suc) (rank_set ts i j t t' (below h) n)

-- ---- Back from a place

-- What stands at place p is told of thread `index`.
pub record Back {A : Type 0} (f : ℕ → MachineThread → A) (k : ℕ) (ts : List MachineThread) (p : ℕ) (a : A) : Type 0 where
  pub index : ℕ
  pub thread : MachineThread
  pub live_there : LiveAt ts index thread
  pub told : f (k + index) thread ≡ a
  pub ranked : rank ts index ≡ p

pub back : {A : Type 0} (f : ℕ → MachineThread → A) (k : ℕ) (ts : List MachineThread) (p : ℕ) (a : A) → slice_get (of_live f k ts) p ≡ Some a →
    Back f k ts p a
back f k [] p a h = none_is_not_some h
back {A} f k (t ∷ ts) p a h = by_cases t.joined p refl (λ q. back f (suc k) ts q a) h
  where
    behind : (p q : ℕ) → unless t.joined suc p ≡ q → Back f (suc k) ts p a → Back f k (t ∷ ts) q a
    behind p q e r = record {
      index = suc r.index;
      thread = r.thread;
      live_there = record { there = r.live_there.there; not_joined = r.live_there.not_joined };
      told = ap (λ (n : ℕ). f n r.thread) (omega arith) ∙ r.told;
      ranked = ap (unless t.joined suc) r.ranked ∙ e;
    }

    by_cases : (b : Bool) (p : ℕ) → t.joined ≡ b → ((q : ℕ) → slice_get (of_live f (suc k) ts) q ≡ Some a → Back f (suc k) ts q a) →
        slice_get (unless b (λ l. f k t ∷ l) (of_live f (suc k) ts)) p ≡ Some a → Back f k (t ∷ ts) p a
    by_cases true p e later q = behind p p (ap (λ (b : Bool). unless b suc p) e) (later p q)
    by_cases false zero e later q = record {
      index = zero;
      thread = t;
      live_there = record { there = refl; not_joined = e };
      told = ap (λ (n : ℕ). f n t) (omega arith) ∙ some_injective q;
      ranked = refl;
    }
    by_cases false (suc p) e later q = behind p (suc p) (ap (λ (b : Bool). unless b suc p) e) (later p q)
