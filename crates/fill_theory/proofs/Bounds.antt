-- Laws of the bounds at one location: posts that pass respect them; and from a larger pre as much more is reached as posts that pass
-- have gained, up to what is reached at all. All hold for a top that no post can be above.
use Prim.Native.Nat.{ℕ, zero, suc, ◌+◌, ◌≤◌}
use native.Mathlib.Omega.{arith}
use native.Mathlib.Decide.{dec_le}
use Rattle.fill_theory.specs.declared.Effect.{Effect}
use Rattle.fill_theory.specs.Flow.{taking, Flow, alone, after, in_turn, branch, loop, fork, call, steps, Applies, Passes}
use Rattle.fill_theory.specs.Pass.{forth, back, weight, ceiling, attainable}

-- ------------------------------------------------------------------ one step

-- a step that ends with at most c starts with at most what leaves c
pub back_holds : {x y : ℕ} (E : Effect) (c : ℕ) → Applies E x y → y ≤ c → x ≤ back E c
unfolding back
back_holds E c t l = omega (arith, t.balance)

-- more before it is more after it
pub forth_holds : {x y : ℕ} (E : Effect) (x' : ℕ) → Applies E x y → x ≤ x' → y ≤ forth E x'
unfolding forth
forth_holds E x' t l = omega (arith, t.balance)

pub forth_grows : (E : Effect) (x x' : ℕ) → x ≤ x' → forth E x ≤ forth E x'
unfolding forth
forth_grows E x x' l = omega arith

-- from what leaves c it leaves c, if it can end with at most c at all
pub forth_back : {x y : ℕ} (E : Effect) (x' c : ℕ) → Applies E x y → y ≤ c → x' ≤ back E c → forth E x' ≤ c
unfolding forth back
forth_back E x' c t l m = omega (arith, t.balance)

-- what is reached after a step is reached if what leaves it is reached before the step
pub through : (E : Effect) (r s z : ℕ) → z ≤ forth E r → (back E z ≤ r → back E z ≤ s) → z ≤ forth E s
unfolding forth back
through E r s zero h k = omega arith
through E r s (suc z) h k = omega (arith, k (omega arith))

-- the gain asked for after a step is the gain asked for before it
pub back_gains : {x y : ℕ} (E : Effect) (u p z : ℕ) → Applies E x y → u ≤ p → z + u ≤ y + p → back E z + u ≤ x + p
unfolding back
back_gains E u p z t l k = omega (arith, t.balance)

-- ------------------------------------------------------------------ order

module _ (top : ℕ) where
  pub attainable_grows : (x y c : ℕ) (f : Flow) → x ≤ y → attainable top x c f ≤ attainable top y c f
  unfolding attainable
  attainable_grows x y c (alone E) l = forth_grows E _ _ l
  attainable_grows x y c (after E f) l = forth_grows E _ _ (attainable_grows x y _ f l)
  attainable_grows x y c (in_turn E f g) l = forth_grows E _ _ (attainable_grows (attainable top x (ceiling top (back E c) g) f) _ _ g (attainable_grows x y _ f l))
  attainable_grows x y c (branch f g) l = omega (arith, attainable_grows x y top f l, attainable_grows x y top g l)
  attainable_grows x y c (loop f) l = omega arith
  attainable_grows x y c (fork s k f g) l = forth_grows (taking s) _ _ (attainable_grows x y _ f l)
  attainable_grows x y c (call b d f) l = omega arith

-- ------------------------------------------------------------------ posts that pass

module _ (a : ℕ → ℕ) where
  -- no post is above the pre and the flow's weight
  pub post_weighs : (i x : ℕ) (f : Flow) → Passes a i x f → a i ≤ x + weight f
  unfolding Passes weight taking
  post_weighs i x (alone E) h = omega (arith, h)
  post_weighs i x (after E f) h = omega (arith, h.1, post_weighs (i + 1) x f h.0)
  post_weighs i x (in_turn E f g) h = omega (arith, h.2, post_weighs (i + 1) x f h.0, post_weighs (i + 1 + steps f) (a (i + 1)) g h.1)
  post_weighs i x (branch f g) h = omega (arith, h.2, post_weighs (i + 1) x f h.0)
  post_weighs i x (loop f) h = omega (arith, h.1)
  post_weighs i x (fork s k f g) h = omega (arith, h.3, post_weighs (i + 1) x f h.0)
  post_weighs i x (call b d f) h = omega (arith, h.2)

module _ (top : ℕ) (a : ℕ → ℕ) where
  -- no pre is above the ceiling
  pub ceiling_holds : (i x c : ℕ) (f : Flow) → Passes a i x f → x + weight f ≤ top → a i ≤ c → x ≤ ceiling top c f
  unfolding Passes ceiling weight
  ceiling_holds i x c (alone E) h s l = back_holds E c h l
  ceiling_holds i x c (after E f) h s l = ceiling_holds (i + 1) x _ f h.0 (omega arith) (back_holds E c h.1 l)
  ceiling_holds i x c (in_turn E f g) h s l =
      let first = post_weighs a (i + 1) x f h.0 in
      ceiling_holds (i + 1) x _ f h.0 (omega arith)
      (ceiling_holds (i + 1 + steps f) (a (i + 1)) _ g h.1 (omega arith) (back_holds E c h.2 l))
  ceiling_holds i x c (branch f g) h s l =
      let j = i + 1 + steps f in
      omega (
        arith,
        ceiling_holds (i + 1) x top f h.0 (omega arith) (omega (arith, post_weighs a (i + 1) x f h.0)),
        ceiling_holds j x top g h.1 (omega arith) (omega (arith, post_weighs a j x g h.1)),
      )
  ceiling_holds i x c (loop f) h s l = omega arith
  ceiling_holds i x c (fork t k f g) h s l = ceiling_holds (i + 1) x _ f h.0 (omega arith) (back_holds (taking t) c h.3 l)
  ceiling_holds i x c (call b d f) h s l = ceiling_holds (i + 1) x b f h.0 (omega arith) (omega (arith, h.1))

  -- no post is out of reach
  pub attainable_holds : (i x y c : ℕ) (f : Flow) → Passes a i x f → x + weight f ≤ top → a i ≤ c → x ≤ y → a i ≤ attainable top y c f
  unfolding Passes attainable weight
  attainable_holds i x y c (alone E) h s l m = forth_holds E y h m
  attainable_holds i x y c (after E f) h s l m =
      forth_holds E _ h.1 (attainable_holds (i + 1) x y _ f h.0 (omega arith) (back_holds E c h.1 l) m)
  attainable_holds i x y c (in_turn E f g) h s l m =
      let j = i + 1 + steps f in
      let first = post_weighs a (i + 1) x f h.0 in
      let last = back_holds E c h.2 l in
      let under = ceiling_holds j (a (i + 1)) _ g h.1 (omega arith) last in
      forth_holds E _ h.2 (attainable_holds j (a (i + 1)) _ _ g h.1 (omega arith) last (attainable_holds (i + 1) x y _ f h.0 (omega arith) under m))
  attainable_holds i x y c (branch f g) h s l m =
      let j = i + 1 + steps f in
      omega (
        arith,
        h.2,
        h.3,
        attainable_holds (i + 1) x y top f h.0 (omega arith) (omega (arith, post_weighs a (i + 1) x f h.0)) m,
        attainable_holds j x y top g h.1 (omega arith) (omega (arith, post_weighs a j x g h.1)) m,
      )
  attainable_holds i x y c (loop f) h s l m =
      let within : a i + weight f ≤ top = omega (arith, h.1) in
      let least : a (i + 1) ≤ top = omega (arith, post_weighs a (i + 1) (a i) f h.0) in
      omega (
        arith,
        h.1,
        h.2,
        ceiling_holds (i + 1) (a i) top f h.0 within least,
        attainable_holds (i + 1) (a i) top top f h.0 within least (omega arith),
      )
  attainable_holds i x y c (fork t k f g) h s l m =
      forth_holds (taking t) _ h.3 (attainable_holds (i + 1) x y _ f h.0 (omega arith) (back_holds (taking t) c h.3 l) m)
  attainable_holds i x y c (call b d f) h s l m = omega (arith, h.2)

  -- from a pre under the ceiling, no more than c is reached
  pub attainable_capped : (i x y c : ℕ) (f : Flow) → Passes a i x f → x + weight f ≤ top → a i ≤ c → x ≤ y → y ≤ ceiling top c f
      → attainable top y c f ≤ c
  unfolding Passes ceiling attainable weight
  attainable_capped i x y c (alone E) h s l m u = forth_back E y c h l u
  attainable_capped i x y c (after E f) h s l m u =
      forth_back E _ c h.1 l (attainable_capped (i + 1) x y _ f h.0 (omega arith) (back_holds E c h.1 l) m u)
  attainable_capped i x y c (in_turn E f g) h s l m u =
      let j = i + 1 + steps f in
      let first = post_weighs a (i + 1) x f h.0 in
      let last = back_holds E c h.2 l in
      let under = ceiling_holds j (a (i + 1)) _ g h.1 (omega arith) last in
      forth_back E _ c h.2 l
      (attainable_capped j (a (i + 1)) _ _ g h.1 (omega arith) last (attainable_holds (i + 1) x y _ f h.0 (omega arith) under m)
      (attainable_capped (i + 1) x y _ f h.0 (omega arith) under m u))
  attainable_capped i x y c (branch f g) h s l m u = omega arith
  attainable_capped i x y c (loop f) h s l m u = omega arith
  attainable_capped i x y c (fork t k f g) h s l m u =
      forth_back (taking t) _ c h.3 l (attainable_capped (i + 1) x y _ f h.0 (omega arith) (back_holds (taking t) c h.3 l) m u)
  attainable_capped i x y c (call b d f) h s l m u = omega (arith, h.2)

  -- what is reached from q is reached from p, if it gains no more from p than posts that pass do from x
  pub attainable_gains : (i x p q c z : ℕ) (f : Flow) → Passes a i x f → x + weight f ≤ top → a i ≤ c → x ≤ p → p ≤ q
      → z ≤ attainable top q c f → z + x ≤ a i + p → z ≤ attainable top p c f
  unfolding Passes attainable weight
  attainable_gains i x p q c z (alone E) h s l m n r k = through E q p z r (λ _. omega (arith, back_gains E x p z h m k))
  attainable_gains i x p q c z (after E f) h s l m n r k =
      through E _ _ z r (λ r'. attainable_gains (i + 1) x p q _ _ f h.0 (omega arith) (back_holds E c h.1 l) m n r' (back_gains E x p z h.1 m k))
  attainable_gains i x p q c z (in_turn E f g) h s l m n r k =
      through E _ _ z r (λ r'. in_turn_lem (dec_le (a (i + 1) + p) (low + x)) (dec_le high low) r' (back_gains E x p z h.2 m k)
      (λ w u v. attainable_gains (i + 1) x p q _ w f h.0 (omega arith) under m n u v)
      (λ u v. attainable_gains j (a (i + 1)) low high _ _ g h.1 (omega (arith, first)) last least (attainable_grows top p q _ f n) u v))
    where
      j : ℕ
      j = i + 1 + steps f

      first : a (i + 1) ≤ x + weight f
      first = post_weighs a (i + 1) x f h.0

      last : a j ≤ back E c
      last = back_holds E c h.2 l

      under : a (i + 1) ≤ ceiling top (back E c) g
      under = ceiling_holds j (a (i + 1)) _ g h.1 (omega (arith, first, s)) last

      -- what the first part leaves at most from p and from q
      low : ℕ
      low = attainable top p (ceiling top (back E c) g) f

      high : ℕ
      high = attainable top q (ceiling top (back E c) g) f

      least : a (i + 1) ≤ low
      least = attainable_holds (i + 1) x p _ f h.0 (omega (arith, s)) under m

      -- the first part gains as much from p as from x, or it reaches from p what it reaches from q
      in_turn_lem : Dec (a (i + 1) + p ≤ low + x) → Dec (high ≤ low) → {z : ℕ} → z ≤ attainable top high (back E c) g → z + x ≤ a j + p
          → ((w : ℕ) → w ≤ high → w + x ≤ a (i + 1) + p → w ≤ low)
          → (z ≤ attainable top high (back E c) g → z + a (i + 1) ≤ a j + low → z ≤ attainable top low (back E c) g)
          → z ≤ attainable top low (back E c) g
      in_turn_lem (yes b) d r k F G = G r (omega arith)
      in_turn_lem (no b) (yes d) r k F G = omega (arith, r, attainable_grows top high low (back E c) g d)
      in_turn_lem (no b) (no d) r k F G = absurd (omega (arith, F (low + 1) (omega arith) (omega arith)))
  attainable_gains i x p q c z (branch f g) h s l m n r k =
      let j = i + 1 + steps f in
      omega (
        arith,
        attainable_gains (i + 1) x p q top z f h.0 (omega arith) (omega (arith, post_weighs a (i + 1) x f h.0)) m n (omega arith) (omega (arith, h.2)),
        attainable_gains j x p q top z g h.1 (omega arith) (omega (arith, post_weighs a j x g h.1)) m n (omega arith) (omega (arith, h.3)),
      )
  attainable_gains i x p q c z (loop f) h s l m n r k = omega (arith, h.1)
  attainable_gains i x p q c z (fork t e f g) h s l m n r k =
      let E = taking t in
      through E _ _ z r (λ r'. attainable_gains (i + 1) x p q _ _ f h.0 (omega arith) (back_holds E c h.3 l) m n r' (back_gains E x p z h.3 m k))
  attainable_gains i x p q c z (call b d f) h s l m n r k = r
