-- How far a step moves the number: less than 2^34.
use mathlib.Core.Path.{◌≡◌}
use mathlib.Core.Bool.{Bool, true, false}
use mathlib.Core.List.{List, [], ◌∷◌}
use Prim.Native.Nat.{ℕ, ◌+◌, ◌<◌}
use native.Mathlib.Omega.{arith}
use lib.ListN.{get_or}
use Rattle.spec.specs.Choice.{when◌then◌else◌}
use Rattle.spec.specs.Words.{calls}
use Rattle.spec.specs.Table as entry
use Rattle.spec.specs.Table.{MapTerm, pre, s, post_of, K, «in», out, r, before, after, Entry, ◌a◌, ◌is◌, ◌shows◌, ◌is_c_of◌, ◌＝◌, ◌≧◌, N×◌≦◌, ◌⊕◌＝◌, ◌＝◌⊕◌, post_at_p＞0, post_at_p≧D, table}
use Rattle.spec.specs.declared.Word.{Word}
use Rattle.spec.specs.declared.Word.TheVariants as word
use Rattle.spec.specs.declared.UnaryWord.{UnaryWord}
use Rattle.spec.specs.declared.BinaryWord.{BinaryWord}
use Rattle.spec.specs.declared.BinaryWord.TheVariants.{Let, If, Spawn, Write}
use Rattle.workspace.specs.Layout.{words_at, word_of, map_cell}
use Rattle.fill_theory.specs.declared.Transfer.{Transfer}
use Rattle.fill_theory.specs.declared.Transfer.TheVariants.{Leaf, Unary, Binary}
use Rattle.fill_theory.specs.declared.UnaryTransfer.TheVariants.{After, Loop, Call}
use Rattle.fill_theory.specs.declared.BinaryTransfer.TheVariants.{InTurn, Branch, Fork}
use Rattle.fill_theory.specs.Flow.{unchanged}
use Rattle.fill_theory.specs.FlowOf.{Given, loops, moving, effect_of, part_transfer, binary_transfer}
use Rattle.fill_transfer.specs.declared.Column.{Column}
use Rattle.fill_transfer.specs.Transfers.{cell_in, first_in, second_in, start_number_in, before_in, after_in, calling_in, has_in, given_in, transfer_of, transfer_in}

-- what a step moves, or starts or ends a part with
unfoldable pub moved : Transfer → ℕ
moved (Leaf E) = E.takes + E.gives
moved (Unary (After E)) = E.takes + E.gives
moved (Unary Loop) = 0
moved (Unary (Call wanted left)) = wanted + left
moved (Binary (InTurn E)) = E.takes + E.gives
moved (Binary Branch) = 0
moved (Binary (Fork start due)) = start

abbrev pub Light : Transfer → Type 0
Light transfer = moved transfer < 17179869184

called : {i j k : ℕ} → i < 4294967296 → j < 4294967296 → k < 4294967296 → i + k + (j + k) < 17179869184
called l m n = omega arith

-- each number that a line moves stands in the work space
module _ (g : Given) (fits : (t : MapTerm) → g.has t < 4294967296) where
  line_light : (line : List Entry) → ((effect_of g line).takes < 4294967296) × ((effect_of g line).gives < 4294967296)
  unfolding effect_of moving unchanged
  line_light [] = (omega arith, omega arith)
  line_light (n a k ∷ line) = line_light line
  line_light (n is t ∷ line) = line_light line
  line_light (n shows t ∷ line) = line_light line
  line_light (n is_c_of m ∷ line) = line_light line
  line_light (l ＝ m ∷ line) = line_light line
  line_light (l ≧ m ∷ line) = line_light line
  line_light (N× l ≦ m ∷ line) = line_light line
  line_light (l ⊕ m ＝ n ∷ line) = (fits m, (line_light line).1)
  line_light (l ＝ m ⊕ n ∷ line) = ((line_light line).0, fits n)
  line_light (post_at_p＞0 ∷ line) = line_light line
  line_light (post_at_p≧D ∷ line) = line_light line

  effect_light : (line : List Entry) → (effect_of g line).takes + (effect_of g line).gives < 17179869184
  effect_light line = let both = line_light line in omega (arith, both.0, both.1)

  part_light : (x : UnaryWord) → Light (Unary (part_transfer g x))
  unfolding moved part_transfer
  part_light x = by_loop (loops x)
    where
      by_loop : (b : Bool) → Light (Unary (when b then Loop else After (effect_of g (table (word.Unary x)))))
      by_loop true = omega arith
      by_loop false = effect_light (table (word.Unary x))

  binary_light : (x : BinaryWord) → Light (Binary (binary_transfer g x))
  unfolding moved binary_transfer
  binary_light Let = effect_light (table (word.Binary Let))
  binary_light If = omega arith
  binary_light Spawn = omega (arith, fits s)
  binary_light Write = effect_light (table (word.Binary Write))

module _ (w : List ℕ) (column : Column) (fits : (i : ℕ) → get_or w i 0 < 4294967296) where
  has_fits : (k h : ℕ) (t : MapTerm) → has_in w column k h t < 4294967296
  unfolding has_in first_in second_in start_number_in cell_in map_cell
  has_fits k h pre = omega arith
  has_fits k h (post_of n) = omega arith
  has_fits k h s = fits _
  has_fits k h K = fits _
  has_fits k h «in» = fits _
  has_fits k h out = fits _
  has_fits k h r = fits _
  has_fits k h entry.w = fits _
  has_fits k h before = omega arith
  has_fits k h after = omega arith

  call_light : (k : ℕ) → Light (Unary (calling_in w column k))
  unfolding moved calling_in before_in after_in start_number_in cell_in map_cell
  call_light k = called (fits _) (fits _) (fits _)

  word_light : (x : Word) (k : ℕ) → Light (transfer_of x w column k)
  unfolding moved transfer_of given_in
  word_light (word.Leaf x) k = effect_light (given_in w column k k) (has_fits k k) (table (word.Leaf x))
  word_light (word.Unary x) k = by_call (calls x)
    where
      by_call : (b : Bool) → Light (Unary (when b then calling_in w column k else part_transfer (given_in w column k (k + 1)) x))
      by_call true = call_light k
      by_call false = part_light (given_in w column k (k + 1)) (has_fits k (k + 1)) x
  word_light (word.Binary x) k = binary_light (given_in w column k (k + 1)) (has_fits k (k + 1)) x

  pub transfer_light : (k : ℕ) {transfer : Transfer} → transfer_in w column k ≡ transfer → Light transfer
  unfolding transfer_in
  transfer_light k e = rw (← e) (word_light (word_of (get_or w (words_at + k) 0)) k)
