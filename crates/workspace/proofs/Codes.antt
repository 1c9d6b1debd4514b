-- The numbers that stand for words and types give them back.
use mathlib.Core.Path.{◌≡◌, refl}
use Prim.Native.Nat.{ℕ, zero, suc, ◌≤◌}
use native.Mathlib.Omega.{arith}
use Rattle.spec.specs.declared.TypeLine.{TypeLine}
use Rattle.spec.specs.declared.TypeLine.TheVariants as declared_type
use Rattle.spec.specs.declared.Word.{Word}
use Rattle.spec.specs.declared.Word.TheVariants.{Leaf, Unary, Binary}
use Rattle.spec.specs.declared.LeafWord.TheVariants.{Var, Int, Newtid, Newlock, Newsem, Newrwlock}
use Rattle.spec.specs.declared.UnaryWord.TheVariants.{While, Join, Ref, Read, Lock, Unlock, Post, Wait, Rdlock, Rdunlock, Wrlock, Wrunlock, Call}
use Rattle.spec.specs.declared.BinaryWord.TheVariants.{Let, If, Spawn, Write}
use Rattle.workspace.specs.Layout.{code_of, printed, rule_of, word_of, kind_code, first_of, second_of, type_of}

-- k is none of the first n numbers, as the last arm of a `match` on k knows it
abbrev pub NoneOf : ℕ → ℕ → Type 0
NoneOf zero k = Unit {0}
NoneOf (suc n) k = NoneOf n k × (k ≡ n → ⊥)

pub past : (n : ℕ) {k : ℕ} → NoneOf n k → n ≤ k
past zero h = omega arith
past (suc n) h = let l = past n h.0 in let e = h.1 in omega arith

pub word_of_code : (w : Word) → word_of (code_of w) ≡ w
unfolding printed rule_of word_of
word_of_code (Leaf Var) = refl
word_of_code (Leaf Int) = refl
word_of_code (Leaf Newtid) = refl
word_of_code (Leaf Newlock) = refl
word_of_code (Leaf Newsem) = refl
word_of_code (Leaf Newrwlock) = refl
word_of_code (Unary While) = refl
word_of_code (Unary Join) = refl
word_of_code (Unary Ref) = refl
word_of_code (Unary Read) = refl
word_of_code (Unary Lock) = refl
word_of_code (Unary Unlock) = refl
word_of_code (Unary Post) = refl
word_of_code (Unary Wait) = refl
word_of_code (Unary Rdlock) = refl
word_of_code (Unary Rdunlock) = refl
word_of_code (Unary Wrlock) = refl
word_of_code (Unary Wrunlock) = refl
word_of_code (Unary Call) = refl
word_of_code (Binary Let) = refl
word_of_code (Binary If) = refl
word_of_code (Binary Spawn) = refl
word_of_code (Binary Write) = refl

pub type_of_numbers : (t : TypeLine) → type_of (kind_code t) (first_of t) (second_of t) ≡ t
unfolding type_of
type_of_numbers declared_type.Int = refl
type_of_numbers (declared_type.Ref p c) = refl
type_of_numbers (declared_type.Lock i o) = refl
type_of_numbers (declared_type.Tid k) = refl
type_of_numbers (declared_type.Sem k) = refl
type_of_numbers (declared_type.Rwlock r w) = refl
