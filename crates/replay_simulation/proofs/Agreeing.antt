-- What a thread's numbers are: two spaces that agree on them hold the same of the thread.
use Prim.Native.Nat.{ℕ, ◌+◌, ◌*◌, ◌<◌, ◌≤◌}
use mathlib.Core.Path.{◌≡◌, refl, ◌∙◌, ap}
use mathlib.Core.List.{List}
use mathlib.Core.Logic.{◌≢◌, ◌⊎◌, inl, inr}
use native.Mathlib.Omega.{arith}
use native.Mathlib.Decide.{dec_lt}
use lib.ListN.{length, get_or, set, length-set}
use lib.Seq.{get_or-set_same, get_or-set_other}
use Rattle.replay_control.specs.Layout.{kept_values_at, open_calls_at, control_point_modes_at, control_point_places_at, control_point_values_at, control_point_rows_at, thing_counts_at, space_size}
use Rattle.replay_control.specs.Modes.{mode_number, mode_of}
use Rattle.replay_control.proofs.Modes.{mode_read}
use Rattle.replay_control.specs.declared.ControlPoint.{ControlPoint}
use Rattle.replay_control.specs.Control.{variable, kept, called_from, continuation, control_point}
use Rattle.replay_engine.specs.ControlPoints.{control_point_at, control_point_put}
use Rattle.replay_machine.specs.Control as machine
use Rattle.replay_machine.specs.Control.{Control, done, at, open_calls}
use Rattle.replay_simulation.proofs.Held.{WordAt, place_of, ControlAt}
use Rattle.replay_simulation.proofs.Advancing.{SameBut, RowIn}
use Rattle.replay_simulation.proofs.Finding.{RowsSame, frames_same, frames_inside}

-- in each row of thread i the variables are the same, the values kept for its writes and the calls
pub record RowsAgree (i : ℕ) (s s' : List ℕ) : Type 0 where
  pub variables : (r x : ℕ) → RowIn i r → x < 256 → variable s' r x ≡ variable s r x
  pub kepts : (r j : ℕ) → RowIn i r → j < 256 → kept s' r j ≡ kept s r j
  pub calls : (r : ℕ) → RowIn i r → called_from s' r ≡ called_from s r

-- and it stands at the same place, by the same number of its mode
pub record Agree (i : ℕ) (s s' : List ℕ) : Type 0 where
  pub rows : RowsAgree i s s'
  pub focused : control_point_at s' i ≡ control_point_at s i
  pub mode : get_or s' (control_point_modes_at + i) 0 ≡ get_or s (control_point_modes_at + i) 0

-- the numbers that all threads share are the same
abbrev pub SharedSame : (s s' : List ℕ) → Type 0
SharedSame s s' = (j : ℕ) → thing_counts_at ≤ j → get_or s' j 0 ≡ get_or s j 0

module _ (p : List ℕ) (i : ℕ) (s s' : List ℕ) (a : RowsAgree i s s') where
  word_same : (r : ℕ) → RowIn i r → (f : ControlPoint) (w : machine.Word) → WordAt p s r f w → WordAt p s' r f w
  word_same r in_row f (machine.let_word q x v e) W = W
  word_same r in_row f (machine.if_word q e₁ e₂) W = W
  word_same r in_row f (machine.while_word q e) W = W
  word_same r in_row f (machine.spawn_word q v e) W = W
  word_same r in_row f (machine.write_word q v w) (z, n, d, held) = (z, n, d, a.kepts r q.index in_row d.below ∙ held)
  word_same r in_row f (machine.unary_word q o v) W = W
  word_same r in_row f (machine.nullary_word q o) W = W
  word_same r in_row f (machine.unrolled_word q e) W = W
  word_same r in_row f (machine.again_word q v e) W = W

  word_below : (r : ℕ) (f : ControlPoint) (w : machine.Word) → WordAt p s r f w → place_of p s w < 256
  word_below r f (machine.let_word q x v e) (z, d, S) = d.below
  word_below r f (machine.if_word q e₁ e₂) (z, n, d, S₁, S₂) = d.below
  word_below r f (machine.while_word q e) (z, n, d, S) = d.below
  word_below r f (machine.spawn_word q v e) (z, n, d, S) = d.below
  word_below r f (machine.write_word q v w) (z, n, d, held) = d.below
  word_below r f (machine.unary_word q o v) (z, n, d, N) = d.below
  word_below r f (machine.nullary_word q o) (z, n, d, N) = d.below
  word_below r f (machine.unrolled_word q e) (z, n, d, S) = d.below
  word_below r f (machine.again_word q v e) (z, n, d, S) = d.below

  pub rows_same : (r b : ℕ) → RowIn i r → b ≤ 256 → RowsSame p i r b s s'
  rows_same r b (lo, hi) h = record {
    here = λ j l. a.kepts r j (lo, hi) (omega (arith, l, h));
    before = λ k j m l z. a.kepts k j (m, omega (arith, l, hi)) z;
    variables = λ k x m l z. a.variables k x (m, omega (arith, l, hi)) z;
    called = λ k m l. a.calls k (omega (arith, m), omega (arith, l, hi));
  }

  pub control_same : (f : ControlPoint) (d : Control) → open_calls d ≤ 65 → ControlAt p s i f d → ControlAt p s' i f d
  unfolding open_calls
  control_same f (done v) few C = C
  control_same f (at σ w K) few (values, W, F) =
      let l = word_below f.row f w W in
      let in_row = frames_inside p i s K f.row (place_of p s w) (continuation p (place_of p s w)) few F in (
        λ x h. a.variables f.row x in_row h ∙ values x h,
        word_same f.row in_row f w W,
        frames_same p i s s' f.row (place_of p s w) (continuation p (place_of p s w)) K (rows_same f.row (place_of p s w) in_row (omega (arith, l))) F,
      )

-- ------------------------------------------------------------------ what each store changes

pub agree_all : (i : ℕ) (s : List ℕ) → Agree i s s
agree_all i s = record { rows = record { variables = λ r x a h. refl; kepts = λ r j a h. refl; calls = λ r a. refl }; focused = refl; mode = refl }

pub rows_then : {i : ℕ} {s s' s'' : List ℕ} → RowsAgree i s s' → RowsAgree i s' s'' → RowsAgree i s s''
rows_then a b = record {
  variables = λ r x n h. b.variables r x n h ∙ a.variables r x n h;
  kepts = λ r j n h. b.kepts r j n h ∙ a.kepts r j n h;
  calls = λ r n. b.calls r n ∙ a.calls r n;
}

pub agree_then : {i : ℕ} {s s' s'' : List ℕ} → Agree i s s' → Agree i s' s'' → Agree i s s''
agree_then a b = record { rows = rows_then a.rows b.rows; focused = b.focused ∙ a.focused; mode = b.mode ∙ a.mode }

-- a number is none of thread i's rows
pub record Outside (i k : ℕ) : Type 0 where
  pub of_variables : (r y : ℕ) → RowIn i r → y < 256 → 0 + 256 * r + y ≢ k
  pub of_kepts : (r j : ℕ) → RowIn i r → j < 256 → kept_values_at + 256 * r + j ≢ k
  pub of_calls : (r : ℕ) → RowIn i r → open_calls_at + r ≢ k

-- a store of such a number
pub rows_set : (i k x : ℕ) (s : List ℕ) → Outside i k → RowsAgree i s (set s k x)
unfolding variable kept called_from
rows_set i k x s o = record {
  variables = λ r y a h. get_or-set_other s k (0 + 256 * r + y) x 0 (o.of_variables r y a h);
  kepts = λ r j a h. get_or-set_other s k (kept_values_at + 256 * r + j) x 0 (o.of_kepts r j a h);
  calls = λ r a. get_or-set_other s k (open_calls_at + r) x 0 (o.of_calls r a);
}

pub agree_set : (i k x : ℕ) (s : List ℕ) → Outside i k → control_point_modes_at + i ≢ k → control_point_places_at + i ≢ k → control_point_values_at + i ≢ k → control_point_rows_at + i ≢ k → Agree i s (set s k x)
unfolding control_point_at
agree_set i k x s o a b c d = record {
  rows = rows_set i k x s o;
  focused = λ n. control_point (mode_of (get_or-set_other s k (control_point_modes_at + i) x 0 a n)) (get_or-set_other s k (control_point_places_at + i) x 0 b n) (get_or-set_other s k (control_point_values_at + i) x 0 c n) (get_or-set_other s k (control_point_rows_at + i) x 0 d n);
  mode = get_or-set_other s k (control_point_modes_at + i) x 0 a;
}

-- all rows stand before these numbers
pub outside_behind : (i k : ℕ) → i < 16 → control_point_modes_at ≤ k → Outside i k
outside_behind i k l h = record {
  of_variables = λ r y (lo, hi) m z. omega (arith, z, m, l, h, hi);
  of_kepts = λ r j (lo, hi) m z. omega (arith, z, m, l, h, hi);
  of_calls = λ r (lo, hi) z. omega (arith, z, l, h, hi);
}

-- a store behind the threads' numbers
pub agree_shared : (i k x : ℕ) (s : List ℕ) → i < 16 → thing_counts_at ≤ k → Agree i s (set s k x)
agree_shared i k x s l h =
    agree_set i k x s (outside_behind i k l (omega (arith, h))) (λ z. omega (arith, z, l, h)) (λ z. omega (arith, z, l, h)) (λ z. omega (arith, z, l, h)) (λ z. omega (arith, z, l, h))

pub less_or_more : (i t : ℕ) → i ≢ t → (i < t) ⊎ (t < i)
less_or_more i t n = go (dec_lt i t)
  where
    go : Dec (i < t) → (i < t) ⊎ (t < i)
    go (yes l) = inl l
    go (no f) = inr (omega (arith, f, n))

-- the numbers of another thread's row: a variable, and the call
pub outside_variable : (i t r y : ℕ) → i < 16 → t < 16 → RowIn t r → y < 256 → i ≢ t → Outside i (0 + 256 * r + y)
outside_variable i t r y l m (lo, hi) h n = either (less_or_more i t n)
  where
    either : (i < t) ⊎ (t < i) → Outside i (0 + 256 * r + y)
    either (inl q) = record {
      of_variables = λ a z (from, to) b e. omega (arith, e, b, h, q, lo, to);
      of_kepts = λ a j (from, to) b e. omega (arith, e, m, h, hi);
      of_calls = λ a (from, to) e. omega (arith, e, m, h, hi);
    }
    either (inr q) = record {
      of_variables = λ a z (from, to) b e. omega (arith, e, b, h, q, hi, from);
      of_kepts = λ a j (from, to) b e. omega (arith, e, m, h, hi);
      of_calls = λ a (from, to) e. omega (arith, e, m, h, hi);
    }

pub outside_call : (i t r : ℕ) → i < 16 → RowIn t r → i ≢ t → Outside i (open_calls_at + r)
outside_call i t r l (lo, hi) n = either (less_or_more i t n)
  where
    either : (i < t) ⊎ (t < i) → Outside i (open_calls_at + r)
    either (inl q) = record {
      of_variables = λ a z (from, to) b e. omega (arith, e, b, l, to);
      of_kepts = λ a j (from, to) b e. omega (arith, e, b, l, to);
      of_calls = λ a (from, to) e. omega (arith, e, q, lo, to);
    }
    either (inr q) = record {
      of_variables = λ a z (from, to) b e. omega (arith, e, b, l, to);
      of_kepts = λ a j (from, to) b e. omega (arith, e, b, l, to);
      of_calls = λ a (from, to) e. omega (arith, e, q, hi, from);
    }

-- a store before the focuses
pub agree_before : (i k x : ℕ) (s : List ℕ) → k < control_point_modes_at → Outside i k → Agree i s (set s k x)
agree_before i k x s h o = agree_set i k x s o (λ e. omega (arith, e, h)) (λ e. omega (arith, e, h)) (λ e. omega (arith, e, h)) (λ e. omega (arith, e, h))

-- a store of a variable of thread t
pub agree_variable : (i t r y x : ℕ) (s : List ℕ) → i < 16 → t < 16 → RowIn t r → y < 256 → i ≢ t → Agree i s (set s (0 + 256 * r + y) x)
agree_variable i t r y x s l m a h n = agree_before i (0 + 256 * r + y) x s (omega (arith, a.1, m, h)) (outside_variable i t r y l m a h n)

-- what the loop changes in thread t's own numbers
pub agree_found : (i t : ℕ) (s s' : List ℕ) → i < 16 → t < 16 → i ≢ t → SameBut t s s' → Agree i s s'
unfolding variable kept called_from control_point_at
agree_found i t s s' l m n c = record {
  rows = record {
    variables = λ r y (lo, hi) h. c.kept (0 + 256 * r + y) (inl (omega (arith, l, h, hi)));
    kepts = λ r j a h. c.kept (kept_values_at + 256 * r + j) (apart r j a h (less_or_more i t n));
    calls = λ r (lo, hi). c.kept (open_calls_at + r) (inr (omega (arith, m)));
  };
  focused = λ z. control_point (mode_of (c.kept (control_point_modes_at + i) (inr (omega (arith, m))) z)) (c.kept (control_point_places_at + i) (inr (omega (arith, m))) z) (c.kept (control_point_values_at + i) (inr (omega (arith, m))) z) (c.kept (control_point_rows_at + i) (inr (omega (arith, m))) z);
  mode = c.kept (control_point_modes_at + i) (inr (omega (arith, m)));
}
  where
    apart : (r j : ℕ) → RowIn i r → j < 256 → (i < t) ⊎ (t < i) → (kept_values_at + 256 * r + j < kept_values_at + 16896 * t) ⊎ (kept_values_at + 16896 * t + 16896 ≤ kept_values_at + 256 * r + j)
    apart r j (lo, hi) h (inl q) = inl (omega (arith, q, h, hi))
    apart r j (lo, hi) h (inr q) = inr (omega (arith, q, lo))

pub shared_found : (t : ℕ) (s s' : List ℕ) → t < 16 → SameBut t s s' → SharedSame s s'
shared_found t s s' m c j h = c.kept j (inr (omega (arith, m, h)))

-- the number that is stored of thread t's mode
pub mode_here : (s : List ℕ) (t : ℕ) (f : ControlPoint) → length s ≡ space_size → t < 16 → get_or (control_point_put s t f) (control_point_modes_at + t) 0 ≡ mode_number f.mode
unfolding control_point_put
mode_here s t f long m =
    let s₁ = set s (control_point_modes_at + t) (mode_number f.mode) in
    let s₂ = set s₁ (control_point_places_at + t) f.at in
    let s₃ = set s₂ (control_point_values_at + t) f.value in
    get_or-set_other s₃ (control_point_rows_at + t) (control_point_modes_at + t) f.row 0 (λ e. omega (arith, e))
    ∙ get_or-set_other s₂ (control_point_values_at + t) (control_point_modes_at + t) f.value 0 (λ e. omega (arith, e))
    ∙ get_or-set_other s₁ (control_point_places_at + t) (control_point_modes_at + t) f.at 0 (λ e. omega (arith, e))
    ∙ get_or-set_same s (control_point_modes_at + t) (mode_number f.mode) 0 (omega (arith, long, m))

-- the focus of thread t
pub control_point_here : (s : List ℕ) (t : ℕ) (f : ControlPoint) → length s ≡ space_size → t < 16 → control_point_at (control_point_put s t f) t ≡ f
unfolding control_point_at control_point_put
control_point_here s t f long m = λ z. control_point (modes z) (places z) (givens z) (rows z)
  where
    s₁ : List ℕ
    s₁ = set s (control_point_modes_at + t) (mode_number f.mode)

    s₂ : List ℕ
    s₂ = set s₁ (control_point_places_at + t) f.at

    s₃ : List ℕ
    s₃ = set s₂ (control_point_values_at + t) f.value

    long₁ : length s₁ ≡ space_size
    long₁ = length-set s (control_point_modes_at + t) (mode_number f.mode) ∙ long

    long₂ : length s₂ ≡ space_size
    long₂ = length-set s₁ (control_point_places_at + t) f.at ∙ long₁

    long₃ : length s₃ ≡ space_size
    long₃ = length-set s₂ (control_point_values_at + t) f.value ∙ long₂

    modes : mode_of (get_or (set s₃ (control_point_rows_at + t) f.row) (control_point_modes_at + t) 0) ≡ f.mode
    modes = ap mode_of (mode_here s t f long m) ∙ mode_read f.mode

    places : get_or (set s₃ (control_point_rows_at + t) f.row) (control_point_places_at + t) 0 ≡ f.at
    places =
        get_or-set_other s₃ (control_point_rows_at + t) (control_point_places_at + t) f.row 0 (λ e. omega (arith, e)) ∙ get_or-set_other s₂ (control_point_values_at + t) (control_point_places_at + t) f.value 0 (λ e. omega (arith, e))
        ∙ get_or-set_same s₁ (control_point_places_at + t) f.at 0 (omega (arith, long₁, m))

    givens : get_or (set s₃ (control_point_rows_at + t) f.row) (control_point_values_at + t) 0 ≡ f.value
    givens = get_or-set_other s₃ (control_point_rows_at + t) (control_point_values_at + t) f.row 0 (λ e. omega (arith, e)) ∙ get_or-set_same s₂ (control_point_values_at + t) f.value 0 (omega (arith, long₂, m))

    rows : get_or (set s₃ (control_point_rows_at + t) f.row) (control_point_rows_at + t) 0 ≡ f.row
    rows = get_or-set_same s₃ (control_point_rows_at + t) f.row 0 (omega (arith, long₃, m))

-- k is one of the four numbers of thread t's control point
abbrev OfControlPoint : (t k : ℕ) → Type 0
OfControlPoint t k = (k ≡ control_point_modes_at + t) ⊎ ((k ≡ control_point_places_at + t) ⊎ ((k ≡ control_point_values_at + t) ⊎ (k ≡ control_point_rows_at + t)))

-- the four stores of a control point: what holds of a store of each holds of all
module _ (t : ℕ) (f : ControlPoint) (P : List ℕ → List ℕ → Type 0) (then : (s s' s'' : List ℕ) → P s s' → P s' s'' → P s s'')
    (one : (k x : ℕ) (s : List ℕ) → OfControlPoint t k → P s (set s k x)) where
  control_point_stores : (s : List ℕ) → P s (control_point_put s t f)
  unfolding control_point_put
  control_point_stores s =
      let s₁ = set s (control_point_modes_at + t) (mode_number f.mode) in
      let s₂ = set s₁ (control_point_places_at + t) f.at in
      let s₃ = set s₂ (control_point_values_at + t) f.value in
      let s₄ = set s₃ (control_point_rows_at + t) f.row in
      then s s₁ s₄ (one (control_point_modes_at + t) (mode_number f.mode) s (inl refl))
      (then s₁ s₂ s₄ (one (control_point_places_at + t) f.at s₁ (inr (inl refl)))
      (then s₂ s₃ s₄ (one (control_point_values_at + t) f.value s₂ (inr (inr (inl refl)))) (one (control_point_rows_at + t) f.row s₃ (inr (inr (inr refl))))))

pub control_point_length : (s : List ℕ) (t : ℕ) (f : ControlPoint) → length (control_point_put s t f) ≡ length s
control_point_length s t f = control_point_stores t f (λ s s'. length s' ≡ length s) (λ s s' s'' a b. b ∙ a) (λ k x s o. length-set s k x) s

pub control_point_other : (i t : ℕ) (s : List ℕ) (f : ControlPoint) → i < 16 → t < 16 → i ≢ t → Agree i s (control_point_put s t f)
control_point_other i t s f l m n = control_point_stores t f (Agree i) (λ s s' s'' a b. agree_then a b) one s
  where
    one : (k x : ℕ) (s : List ℕ) → OfControlPoint t k → Agree i s (set s k x)
    one k x s (inl q) = agree_set i k x s (outside_behind i k l (omega (arith, q))) (λ z. n (omega (arith, z, q))) (λ z. omega (arith, z, q, l, m)) (λ z. omega (arith, z, q, l, m)) (λ z. omega (arith, z, q, l, m))
    one k x s (inr (inl q)) = agree_set i k x s (outside_behind i k l (omega (arith, q))) (λ z. omega (arith, z, q, l, m)) (λ z. n (omega (arith, z, q))) (λ z. omega (arith, z, q, l, m)) (λ z. omega (arith, z, q, l, m))
    one k x s (inr (inr (inl q))) = agree_set i k x s (outside_behind i k l (omega (arith, q))) (λ z. omega (arith, z, q, l, m)) (λ z. omega (arith, z, q, l, m)) (λ z. n (omega (arith, z, q))) (λ z. omega (arith, z, q, l, m))
    one k x s (inr (inr (inr q))) = agree_set i k x s (outside_behind i k l (omega (arith, q))) (λ z. omega (arith, z, q, l, m)) (λ z. omega (arith, z, q, l, m)) (λ z. omega (arith, z, q, l, m)) (λ z. n (omega (arith, z, q)))

pub control_point_shared : (t : ℕ) (s : List ℕ) (f : ControlPoint) → t < 16 → SharedSame s (control_point_put s t f)
control_point_shared t s f m = control_point_stores t f SharedSame (λ s s' s'' a b j h. b j h ∙ a j h) one s
  where
    one : (k x : ℕ) (s : List ℕ) → OfControlPoint t k → SharedSame s (set s k x)
    one k x s (inl q) j h = get_or-set_other s k j x 0 (λ e. omega (arith, e, q, h, m))
    one k x s (inr (inl q)) j h = get_or-set_other s k j x 0 (λ e. omega (arith, e, q, h, m))
    one k x s (inr (inr (inl q))) j h = get_or-set_other s k j x 0 (λ e. omega (arith, e, q, h, m))
    one k x s (inr (inr (inr q))) j h = get_or-set_other s k j x 0 (λ e. omega (arith, e, q, h, m))

-- the thread's own rows
pub control_point_rows : (i t : ℕ) (s : List ℕ) (f : ControlPoint) → i < 16 → t < 16 → RowsAgree i s (control_point_put s t f)
control_point_rows i t s f l m = control_point_stores t f (RowsAgree i) (λ s s' s'' a b. rows_then a b) one s
  where
    one : (k x : ℕ) (s : List ℕ) → OfControlPoint t k → RowsAgree i s (set s k x)
    one k x s (inl q) = rows_set i k x s (outside_behind i k l (omega (arith, q)))
    one k x s (inr (inl q)) = rows_set i k x s (outside_behind i k l (omega (arith, q)))
    one k x s (inr (inr (inl q))) = rows_set i k x s (outside_behind i k l (omega (arith, q)))
    one k x s (inr (inr (inr q))) = rows_set i k x s (outside_behind i k l (omega (arith, q)))
