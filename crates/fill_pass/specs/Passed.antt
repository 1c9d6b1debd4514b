-- What the code of the pass asks and promises.
use Rattle.std.specs.Prelude.{◌≡◌, List, ℕ, ◌+◌, ◌≤◌, ◌<◌, get_or, set, Option, None, Some}
use Rattle.workspace.specs.Region.{Region, ChangedWithin}
use Rattle.fill_theory.specs.Flow.{Flow, steps}
use Rattle.fill_theory.specs.Pass.{own_post, pass, greatest_posts}
use Rattle.fill_transfer.specs.declared.Column.{Column}
use Rattle.fill_transfer.specs.Shows.{Shows}
use Rattle.fill_transfer.specs.Bounds.{top}
use Rattle.fill_pass.specs.Bounds.{upper_bounds_of}

-- a post is stored for its step
abbrev pub settled : List ℕ → (k : ℕ) → Option ℕ → List ℕ
settled q k (Some p) = set q k p
settled q k None = q

-- ------------------------------------------------------------------ the pass

-- no posts; or those of the pass, with the step's own as the answer
abbrev pub Answers : Option (List ℕ) → (k : ℕ) → (q : List ℕ) → Option ℕ → Type 0
Answers None k q r = r ≡ None
Answers (Some ps) k q r = (r ≡ Some (own_post ps)) × Region q k ps

-- from the posts q to q': whichever flow the work space shows from step k on, its pass from pre
pub record Passed (w m : List ℕ) (column : Column) (k pre : ℕ) (q q' : List ℕ) (r : Option ℕ) : Type 0 where
  pub answers : (f : Flow) (c : ℕ) → Shows w column k f → Region m k (upper_bounds_of c f) → Answers (pass top pre c f) k q' r
  pub changed : (f : Flow) → Shows w column k f → ChangedWithin k (k + steps f) q q'

-- ------------------------------------------------------------------ a root

-- from step k on the work space shows a flow of steps that there are
pub record RootReady (w : List ℕ) (column : Column) (k pre : ℕ) : Type 0 where
  pub flow : Flow
  pub shown : Shows w column k flow
  pub inside : k + steps flow ≤ 256
  pub fits : (i : ℕ) → get_or w i 0 < 4294967296
  pub small : pre < 4294967296

-- from the posts q to q': whichever flow the work space shows from step k on, its greatest posts
pub record RootPassed (w : List ℕ) (column : Column) (k pre : ℕ) (q q' : List ℕ) (r : Option ℕ) : Type 0 where
  pub answers : (f : Flow) → Shows w column k f → Answers (greatest_posts pre f) k q' r
  pub changed : (f : Flow) → Shows w column k f → ChangedWithin k (k + steps f) q q'
