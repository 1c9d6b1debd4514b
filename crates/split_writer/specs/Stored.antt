-- The split that stands in the work space: its types, maps, procedures and rows as the places of the work space have them.
use Rattle.std.specs.Prelude.{List, [], ◌∷◌, ℕ, zero, suc, ◌+◌, ◌*◌, eqb, get_or, take, drop, Option, None, Some}
use Rattle.spec.specs.Choice.{when◌then◌else◌}
use Rattle.spec.specs.Split.{Map, Row, Split}
use Rattle.spec.specs.declared.Signature.{Signature}
use Rattle.spec.specs.declared.Header.{Header}
use Rattle.spec.specs.declared.MapNumber.{MapNumber}
use Rattle.spec.specs.declared.TypeLine.{TypeLine}
use Rattle.workspace.specs.Layout.{row_types_at, posts_at, starts_at, sig_befores_at, sig_arguments_at, sig_afters_at, sig_results_at, maps_at, stride, empty_map, type_at}

-- n things in order, from number i upward
unfoldable pub in_order : {A : Type 0} → (ℕ → A) → (i n : ℕ) → List A
in_order f i zero = []
in_order f i (suc n) = f i ∷ in_order f (i + 1) n

unfoldable pub type_stored : List ℕ → (t : ℕ) → TypeLine
type_stored w t = type_at w (record { 0 = t })

-- a map has a number for each location
unfoldable pub map_in : (locations : ℕ) → List ℕ → (m : ℕ) → Map
map_in locations w m = take locations (drop (maps_at + stride * m) w)

unfoldable pub signature_in : List ℕ → (f : ℕ) → Signature
signature_in w f = record {
  before = record { 0 = get_or w (sig_befores_at + f) 0 };
  argument = record { 0 = get_or w (sig_arguments_at + f) 0 };
  after = record { 0 = get_or w (sig_afters_at + f) 0 };
  result = record { 0 = get_or w (sig_results_at + f) 0 };
}

-- the number of the empty map stands for a start that is not given
unfoldable pub start_stored : ℕ → Option MapNumber
start_stored n = when eqb n empty_map then None else Some (record { 0 = n })

unfoldable pub row_in : List ℕ → (i : ℕ) → Row
row_in w i = record {
  type = record { 0 = get_or w (row_types_at + i) 0 };
  post = record { 0 = get_or w (posts_at + i) 0 };
  start = start_stored (get_or w (starts_at + i) 0);
}

-- the split with this header, so many procedures and so many rows
unfoldable pub split_in : Header → (procedures steps : ℕ) → List ℕ → Split
split_in H procedures steps w = record {
  header = H;
  types = in_order (type_stored w) 0 H.types;
  maps = in_order (map_in H.locations w) 0 H.maps;
  signatures = in_order (signature_in w) 0 procedures;
  rows = in_order (row_in w) 0 steps;
}
