-- The roots that the work space shows at a location, procedures' bodies and the root of the program, and what filling them asks and
-- promises.
use Rattle.std.specs.Prelude.{◌≡◌, Bool, true, false, List, [], ◌∷◌, ℕ, ◌+◌, ◌≤◌, ◌<◌, get_or, Option, None, Some}
use Rattle.workspace.specs.Layout.{proc_firsts_at}
use Rattle.workspace.specs.Region.{Region, ChangedWithin}
use Rattle.fill_theory.specs.Flow.{Flow, steps, Root, steps_of}
use Rattle.fill_theory.specs.Pass.{posts_of_roots}
use Rattle.fill_transfer.specs.declared.Column.{Column}
use Rattle.fill_transfer.specs.Transfers.{cell_in, before_in, after_in}
use Rattle.fill_transfer.specs.Shows.{Shows}
use Rattle.fill_pass.specs.declared.Given.{Given}

-- the first step of the body of procedure f, or of the root behind all bodies
unfoldable pub first_in : List ℕ → (f : ℕ) → ℕ
first_in w f = get_or w (proc_firsts_at + f) 0

-- the procedures from number f on, one body behind the other, and the root
pub data RootsShown (w : List ℕ) (column : Column) (given : Given) : (f : ℕ) → List Root → Type 0 where
  root_shown : {f : ℕ} {g : Flow} → f ≡ given.procedures → Shows w column (first_in w f) g
      → RootsShown w column given f (record { pre = cell_in w column given.start; due = 0; flow = g } ∷ [])
  body_shown : {f : ℕ} {g : Flow} {rs : List Root} → f < given.procedures → Shows w column (first_in w f) g
      → first_in w (f + 1) ≡ first_in w f + steps g → RootsShown w column given (f + 1) rs
      → RootsShown w column given f (record { pre = before_in w column f; due = after_in w column f; flow = g } ∷ rs)

-- whether posts are found; if so they stand in q from step k on
abbrev pub Stored : Option (List ℕ) → (k : ℕ) → (q : List ℕ) → Bool → Type 0
Stored None k q r = r ≡ false
Stored (Some ps) k q r = (r ≡ true) × Region q k ps

-- some roots are shown, of steps that there are
pub record RootsReady (w : List ℕ) (column : Column) (given : Given) (f : ℕ) : Type 0 where
  pub shown_roots : List Root
  pub shown : RootsShown w column given f shown_roots
  pub inside : first_in w f + steps_of shown_roots ≤ 256
  pub fits : (i : ℕ) → get_or w i 0 < 4294967296
  pub few : given.procedures ≤ 16

-- from the posts q to q': whichever roots are shown, their greatest posts
pub record RootsFilled (w : List ℕ) (column : Column) (given : Given) (f : ℕ) (q q' : List ℕ) (r : Bool) : Type 0 where
  pub answers : (rs : List Root) → RootsShown w column given f rs → Stored (posts_of_roots rs) (first_in w f) q' r
  pub changed : (rs : List Root) → RootsShown w column given f rs → ChangedWithin (first_in w f) (first_in w f + steps_of rs) q q'
