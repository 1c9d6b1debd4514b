-- What a store of a post or of a map's number does to the work space.
use mathlib.Core.Path.{◌≡◌, refl, ◌∙◌}
use mathlib.Core.Logic.{⊎_elim}
use mathlib.Core.Bool.{false}
use mathlib.Core.List.{List}
use Prim.Native.Nat.{ℕ, ◌+◌, ◌*◌, ◌<◌}
use native.Mathlib.Omega.{arith}
use native.Mathlib.Nat.{eq-or-lt_of_le}
use lib.ListN.{length, get_or, set}
use lib.Seq.{get_or-set_same, get_or-set_other}
use Rattle.workspace.specs.Layout.{posts_at, maps_at, stride, empty_map, map_cell, work_size}
use Rattle.workspace.proofs.Region.{changed_nothing, changed_store, changed_then}
use Rattle.fill_theory.specs.Answer.{number_limit, map_at_most}
use Rattle.fill.specs.Columns.{OneColumn, PostsStored, PostsShown}

-- ------------------------------------------------------------------ posts of a column

-- the posts of the first n steps are stored
pub record StoredTo (n : ℕ) (w posts : List ℕ) (maps location : ℕ) : Type 0 where
  pub at : (i : ℕ) → i < n → map_cell w (record { 0 = maps + i }) location ≡ get_or posts i 0

pub none_stored : (w posts : List ℕ) (maps location : ℕ) → OneColumn maps location w w × StoredTo 0 w posts maps location
none_stored w posts maps location = (
  record { behind = changed_nothing _ _ w; others = λ m l h n. refl },
  record { at = λ i h. absurd (omega arith) },
)

module _ (w₀ w : List ℕ) (maps location i : ℕ) (O : OneColumn maps location w₀ w) (within : location < stride) (room : maps + i < empty_map)
    (long : length w ≡ work_size) (x : ℕ) where
  abbrev place : ℕ
  place = maps_at + stride * (maps + i) + location

  pub column_again : OneColumn maps location w₀ (set w place x)
  unfolding map_cell
  column_again = record {
    behind = changed_then _ _ O.behind (changed_store _ _ w place x (omega arith) (omega arith));
    others = λ m l h n. get_or-set_other w place (maps_at + stride * m + l) x 0 (λ e. n (omega arith)) ∙ O.others m l h n;
  }

  pub stored_again : (posts : List ℕ) → x ≡ get_or posts i 0 → StoredTo i w posts maps location → StoredTo (i + 1) (set w place x) posts maps location
  unfolding map_cell
  stored_again posts e T = record { at = at }
    where
      at : (j : ℕ) → j < i + 1 → get_or (set w place x) (maps_at + stride * (maps + j) + location) 0 ≡ get_or posts j 0
      at j h =
          ⊎_elim
          (λ (s : j ≡ i). rw s (get_or-set_same w place x 0 (omega arith) ∙ e))
          (λ (l : j < i). get_or-set_other w place (maps_at + stride * (maps + j) + location) x 0 (λ q. absurd (omega arith)) ∙ T.at j l)
          (eq-or-lt_of_le (omega arith))

-- posts that do not fit are not stored
pub nothing_stored : (w posts : List ℕ) (maps location : ℕ) → false ≡ map_at_most number_limit posts → PostsStored posts maps location false w w
nothing_stored w posts maps location e = record {
  fits = e;
  one = (none_stored w posts maps location).0;
  stored = λ f. let clash : ◌≡◌ {A = ℕ} 0 1 = cc in absurd (omega arith);
}

-- ------------------------------------------------------------------ the maps that steps show

pub none_shown : (w : List ℕ) (maps : ℕ) → PostsShown 0 maps w w
none_shown w maps = record { changed = changed_nothing _ _ w; shown = λ i h. absurd (omega arith) }

pub shown_again : (w₀ w : List ℕ) (maps i x : ℕ) → i < 256 → length w ≡ work_size → x ≡ maps + i → PostsShown i maps w₀ w
    → PostsShown (i + 1) maps w₀ (set w (posts_at + i) x)
shown_again w₀ w maps i x few long e T = record {
  changed = changed_then _ _ T.changed (changed_store _ _ w (posts_at + i) x (omega arith) (omega arith));
  shown = shown;
}
  where
    shown : (j : ℕ) → j < i + 1 → get_or (set w (posts_at + i) x) (posts_at + j) 0 ≡ maps + j
    shown j h =
        ⊎_elim
        (λ (s : j ≡ i). rw s (get_or-set_same w (posts_at + i) x 0 (omega arith) ∙ e))
        (λ (l : j < i). get_or-set_other w (posts_at + i) (posts_at + j) x 0 (λ q. absurd (omega arith)) ∙ T.shown j l)
        (eq-or-lt_of_le (omega arith))
