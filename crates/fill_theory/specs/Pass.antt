-- The pass: the greatest posts of a flow, in step order, if some pass. A call wants an exact number; an `if` or a `while` before it may
-- have to leave less than it could. So the pass is told the most that its own post may be, and takes that into its minimum there.
use Rattle.std.specs.Prelude.{◌&&◌, List, [], ◌∷◌, ◌++◌, ℕ, ◌+◌, ◌-◌, min, leb, eqb, get_or, Option, None, Some}
use Rattle.spec.specs.Choice.{when◌then◌else◌}
use Rattle.fill_theory.specs.Found.{◌>>=◌, require}
use Rattle.fill_theory.specs.Flow.{taking, Flow, alone, after, in_turn, branch, loop, fork, call, Root}
use Rattle.fill_theory.specs.declared.Effect.{Effect}

-- ------------------------------------------------------------------ one step

-- the number after a step, with no test; and the number before a step that leaves c
unfoldable pub forth : Effect → (before : ℕ) → ℕ
forth E before = before + E.gives - E.takes

unfoldable pub back : Effect → (c : ℕ) → ℕ
back E c = c + E.takes - E.gives

-- the number after a step, if there is one
unfoldable pub apply : Effect → (before : ℕ) → Option ℕ
apply E before =
    when leb (E.takes + E.needs) (before + E.gives) && leb E.lends E.takes
    then Some (forth E before)
    else None

-- an expression's own post is the first of its posts
unfoldable pub own_post : List ℕ → ℕ
own_post ps = get_or ps 0 0

-- ------------------------------------------------------------------ bounds

-- all that a flow gives, starts with or ends calls with: no post of posts that pass is more than the pre and this
unfoldable pub weight : Flow → ℕ
weight (alone E) = E.gives
weight (after E f) = weight f + E.gives
weight (in_turn E f g) = weight f + weight g + E.gives
weight (branch f g) = weight f + weight g
weight (loop f) = weight f
weight (fork s k f g) = weight f + weight g + s
weight (call b d f) = weight f + d

-- `top` stands for no bound: no post of posts that pass is above it
module _ (top : ℕ) where
  -- the most that the pre may be for the flow to end with at most c
  unfoldable pub ceiling : (c : ℕ) → Flow → ℕ
  ceiling c (alone E) = back E c
  ceiling c (after E f) = ceiling (back E c) f
  ceiling c (in_turn E f g) = ceiling (ceiling (back E c) g) f
  ceiling c (branch f g) = min (ceiling top f) (ceiling top g)
  ceiling c (loop f) = top
  ceiling c (fork s k f g) = ceiling (back (taking s) c) f
  ceiling c (call b d f) = ceiling b f

  -- the most that the post can be, if it may be at most c, from a pre of at most x. A loop ends with what its part starts with and
  -- leaves: no more than the part can start with, and no more than it can leave.
  unfoldable pub attainable : (x c : ℕ) → Flow → ℕ
  attainable x c (alone E) = forth E x
  attainable x c (after E f) = forth E (attainable x (back E c) f)
  attainable x c (in_turn E f g) = forth E (attainable (attainable x (ceiling (back E c) g) f) (back E c) g)
  attainable x c (branch f g) = min c (min (attainable x top f) (attainable x top g))
  attainable x c (loop f) = min x (min c (min (ceiling top f) (attainable top top f)))
  attainable x c (fork s k f g) = forth (taking s) (attainable x (back (taking s) c) f)
  attainable x c (call b d f) = d

  -- ------------------------------------------------------------------ the pass

  -- the greatest posts whose own is at most c, or none if no posts pass
  unfoldable pub pass : (pre c : ℕ) → Flow → Option (List ℕ)
  pass pre c (alone E) = do
    p ← apply E pre
    Some (p ∷ [])
  pass pre c (after E f) = do
    ps ← pass pre (back E c) f
    p ← apply E (own_post ps)
    Some (p ∷ ps)
  pass pre c (in_turn E f g) = do
    ps ← pass pre (ceiling (back E c) g) f
    qs ← pass (own_post ps) (back E c) g
    p ← apply E (own_post qs)
    Some (p ∷ (ps ++ qs))
  pass pre c (branch f g) = do
    ps ← pass pre top f
    qs ← pass pre top g
    Some (min c (min (own_post ps) (own_post qs)) ∷ (ps ++ qs))
  pass pre c (loop f) = let most = attainable pre c (loop f) in do
    ps ← pass most top f
    kept ← require (leb most (own_post ps))
    Some (most ∷ ps)
  pass pre c (fork s k f g) = do
    ps ← pass pre (back (taking s) c) f
    qs ← pass s top g
    paid ← require (leb k (own_post qs))
    p ← apply (taking s) (own_post ps)
    Some (p ∷ (ps ++ qs))
  pass pre c (call b d f) = do
    ps ← pass pre b f
    exact ← require (eqb (own_post ps) b)
    Some (d ∷ ps)

-- the greatest posts, of a flow and of flows one beside the other
unfoldable pub greatest_posts : (pre : ℕ) → Flow → Option (List ℕ)
greatest_posts pre f = let top = pre + weight f in pass top pre top f

unfoldable pub posts_of_roots : List Root → Option (List ℕ)
posts_of_roots [] = Some []
posts_of_roots (r ∷ rs) = do
  ps ← greatest_posts r.pre r.flow
  left ← require (leb r.due (own_post ps))
  qs ← posts_of_roots rs
  Some (ps ++ qs)
