-- The transfer function of a step at a location, as the work space shows it: spec's table read there, as `fill_theory`
-- reads it over the sheet.
use Rattle.std.specs.Prelude.{List, ℕ, ◌+◌, ◌*◌, get_or}
use Rattle.spec.specs.Choice.{when◌then◌else◌}
use Rattle.spec.specs.Words.{calls}
use Rattle.spec.specs.Kinds.{ref_location, first_map, second_map}
use Rattle.spec.specs.Table as entry
use Rattle.spec.specs.Table.{MapTerm, pre, s, post_of, K, «in», out, r, before, after, table}
use Rattle.spec.specs.declared.MapNumber.{MapNumber}
use Rattle.spec.specs.declared.TypeLine.{TypeLine}
use Rattle.spec.specs.declared.Word.{Word}
use Rattle.spec.specs.declared.Word.TheVariants.{Leaf, Unary, Binary}
use Rattle.workspace.specs.Layout.{words_at, values_at, row_types_at, starts_at, sig_befores_at, sig_afters_at, word_of, type_at, map_cell}
use Rattle.fill_theory.specs.Flow.{lending}
use Rattle.fill_theory.specs.FlowOf.{asks, Given, effect_of, part_transfer, binary_transfer}
use Rattle.fill_theory.specs.declared.Effect.{Effect}
use Rattle.fill_theory.specs.declared.Transfer.{Transfer}
use Rattle.fill_theory.specs.declared.Transfer.TheVariants as transfer
use Rattle.fill_theory.specs.declared.UnaryTransfer.{UnaryTransfer}
use Rattle.fill_theory.specs.declared.UnaryTransfer.TheVariants.{Call}
use Rattle.fill_transfer.specs.declared.Column.{Column}

-- ------------------------------------------------------------------ constants

-- what a map has at the location
unfoldable pub cell_in : List ℕ → Column → MapNumber → ℕ
cell_in w column m = map_cell w m column.location.0

-- the type of step k; what the first of its maps (K of a tid or sem, in of a lock, r of a rwlock), the second (out of a lock, w of a
-- rwlock), the start of its body, and access through it have or need at the location
unfoldable pub type_line_in : List ℕ → (k : ℕ) → TypeLine
type_line_in w k = type_at w (record { 0 = get_or w (row_types_at + k) 0 })

unfoldable pub first_in : List ℕ → Column → (k : ℕ) → ℕ
first_in w column k = cell_in w column (first_map (type_line_in w k))

unfoldable pub second_in : List ℕ → Column → (k : ℕ) → ℕ
second_in w column k = cell_in w column (second_map (type_line_in w k))

unfoldable pub start_number_in : List ℕ → Column → (k : ℕ) → ℕ
start_number_in w column k = cell_in w column (record { 0 = get_or w (starts_at + k) 0 })

-- what procedure f starts with and what it leaves
unfoldable pub before_in : List ℕ → Column → (f : ℕ) → ℕ
before_in w column f = cell_in w column (record { 0 = get_or w (sig_befores_at + f) 0 })

unfoldable pub after_in : List ℕ → Column → (f : ℕ) → ℕ
after_in w column f = cell_in w column (record { 0 = get_or w (sig_afters_at + f) 0 })

-- what a call wants and leaves: the numbers of its procedure, each with what is kept back
unfoldable pub calling_in : List ℕ → Column → (k : ℕ) → UnaryTransfer
calling_in w column k = let f = get_or w (values_at + k) 0 in let kept = start_number_in w column k in
    Call (before_in w column f + kept) (after_in w column f + kept)

unfoldable pub access_in : List ℕ → Column → (k d : ℕ) → ℕ
access_in w column k d = asks column.location (ref_location (type_line_in w k)) d

-- a new read-write lock takes w, and lends r to as many readers as it has places
unfoldable pub lending_in : List ℕ → Column → (k : ℕ) → Effect
lending_in w column k = lending (get_or w (values_at + k) 0 * first_in w column k) (second_in w column k)

-- ------------------------------------------------------------------ the table

-- what step k is given, whose K, in, out, r, w and p are those of the type of step h
unfoldable pub has_in : List ℕ → Column → (k h : ℕ) → MapTerm → ℕ
has_in w column k h pre = 0
has_in w column k h (post_of n) = 0
has_in w column k h s = start_number_in w column k
has_in w column k h K = first_in w column h
has_in w column k h «in» = first_in w column h
has_in w column k h out = second_in w column h
has_in w column k h r = first_in w column h
has_in w column k h entry.w = second_in w column h
has_in w column k h before = 0
has_in w column k h after = 0

unfoldable pub given_in : List ℕ → Column → (k h : ℕ) → Given
given_in w column k h = record {
  number = get_or w (values_at + k) 0;
  denominator = column.denominator;
  has = has_in w column k h;
  needs = access_in w column h;
}

-- the way of a word at step k: a first part stands just behind its step
unfoldable pub transfer_of : Word → List ℕ → Column → (k : ℕ) → Transfer
transfer_of (Leaf x) w column k = transfer.Leaf (effect_of (given_in w column k k) (table (Leaf x)))
transfer_of (Unary x) w column k = transfer.Unary (when calls x then calling_in w column k else part_transfer (given_in w column k (k + 1)) x)
transfer_of (Binary x) w column k = transfer.Binary (binary_transfer (given_in w column k (k + 1)) x)

-- the transfer function of step k
unfoldable pub transfer_in : List ℕ → Column → (k : ℕ) → Transfer
transfer_in w column k = transfer_of (word_of (get_or w (words_at + k) 0)) w column k
