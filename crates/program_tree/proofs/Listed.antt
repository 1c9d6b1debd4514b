-- Laws of the expressions that steps list: how many steps they have, and what is listed behind the first of them.
use mathlib.Core.Path.{◌≡◌, refl, sym, ap, ◌∙◌}
use mathlib.Core.List.{List, [], ◌∷◌}
use Prim.Native.Nat.{ℕ, suc, zero, ◌+◌, ◌≤◌}
use native.Mathlib.Omega.{arith}
use native.Mathlib.Nat.{add-zero}
use lib.ListN.{length, drop}
use Rattle.spec.specs.Expression.{Step, Position, Expr, size, with_parts, listed}
use Rattle.spec.specs.declared.Word.{Word}
use Rattle.spec.specs.declared.Word.TheVariants.{Leaf, Unary, Binary}
use Rattle.program_tree.specs.Structure.{parts_of}

-- the steps of the first m of some expressions
unfoldable pub total : ℕ → List Expr → ℕ
total zero es = 0
total (suc m) [] = 0
total (suc m) (e ∷ es) = size e + total m es

total_one : (e : Expr) (es : List Expr) → total 1 (e ∷ es) ≡ size e
unfolding total
total_one e es = omega arith

-- ------------------------------------------------------------------ one step in front

-- it takes as many expressions as it has parts, and one step more than they have
total_parts : (x : Word) (l : Position) (v m : ℕ) (es : List Expr)
    → total (suc m) (with_parts x l v es) ≤ suc (total (parts_of x + m) es)
unfolding with_parts total size
total_parts (Leaf w) l v m es = let e : 0 + m ≡ m = omega arith in rw e (omega arith)
total_parts (Unary w) l v m [] = omega arith
total_parts (Unary w) l v m (e ∷ es) = let q : 1 + m ≡ suc m = omega arith in rw q (omega arith)
total_parts (Binary w) l v m [] = omega arith
total_parts (Binary w) l v m (e₁ ∷ []) = omega arith
total_parts (Binary w) l v m (e₁ ∷ e₂ ∷ es) = let q : 2 + m ≡ suc (suc m) = omega arith in rw q (omega arith)

-- the expressions have no more steps than are listed
total_more : (x : Word) (l : Position) (v n m : ℕ) (es : List Expr) → ((i : ℕ) → total i es ≤ n) → total m (with_parts x l v es) ≤ suc n
unfolding total
total_more x l v n zero es h = omega arith
total_more x l v n (suc m) es h = omega (arith, total_parts x l v m es, h (parts_of x + m))

total_none : (m : ℕ) → total m [] ≤ 0
unfolding total
total_none zero = omega arith
total_none (suc m) = omega arith

pub total_listed : (l : ℕ) (ss : List Step) (m : ℕ) → total m (listed l ss) ≤ length ss
unfolding listed
total_listed l [] m = total_none m
total_listed l (s ∷ ss) m =
    total_more s.word (record { index = l; line = s.line }) s.value (length ss) m (listed (l + 1) ss) (total_listed (l + 1) ss)

-- what is listed behind the first m expressions
abbrev Behind : ℕ → List Step → List Expr → ℕ → Type 0
Behind l ss es i = i ≤ length es → drop i es ≡ listed (l + total i es) (drop (total i es) ss)

behind_parts : (x : Word) (p : Position) (l v m : ℕ) (ss : List Step) (es : List Expr)
    → ((i : ℕ) → Behind (l + 1) ss es i)
    → suc m ≤ length (with_parts x p v es)
    → (s : Step)
    → drop (suc m) (with_parts x p v es)
    ≡ listed (l + total (suc m) (with_parts x p v es)) (drop (total (suc m) (with_parts x p v es)) (s ∷ ss))
unfolding with_parts total size
behind_parts (Leaf w) p l v m ss es ih h s =
    let e : l + (1 + total m es) ≡ l + 1 + total m es = omega arith in
    let f : 1 + total m es ≡ suc (total m es) = omega arith in
    rw (e, f) (ih m (omega arith))
behind_parts (Unary w) p l v m ss [] ih h s = absurd (omega arith)
behind_parts (Unary w) p l v m ss (e ∷ es) ih h s =
    let o : l + (suc (size e) + total m es) ≡ l + 1 + (size e + total m es) = omega arith in
    let q : suc (size e) + total m es ≡ suc (size e + total m es) = omega arith in
    rw (o, q) (ih (suc m) (omega arith))
behind_parts (Binary w) p l v m ss [] ih h s = absurd (omega arith)
behind_parts (Binary w) p l v m ss (e₁ ∷ []) ih h s = absurd (omega arith)
behind_parts (Binary w) p l v m ss (e₁ ∷ e₂ ∷ es) ih h s =
    let o : l + (suc (size e₁ + size e₂) + total m es) ≡ l + 1 + (size e₁ + (size e₂ + total m es)) = omega arith in
    let q : suc (size e₁ + size e₂) + total m es ≡ suc (size e₁ + (size e₂ + total m es)) = omega arith in
    rw (o, q) (ih (suc (suc m)) (omega arith))

behind_more : (s : Step) (ss : List Step) (l m : ℕ)
    → ((i : ℕ) → Behind (l + 1) ss (listed (l + 1) ss) i) → Behind l (s ∷ ss) (listed l (s ∷ ss)) m
unfolding listed total
behind_more s ss l zero ih h = rw add-zero refl
behind_more s ss l (suc m) ih h = behind_parts s.word (record { index = l; line = s.line }) l s.value m ss (listed (l + 1) ss) ih h s

behind_nothing : (l m : ℕ) → Behind l [] [] m
unfolding total listed
behind_nothing l zero h = refl
behind_nothing l (suc m) h = absurd (omega arith)

behind_all : (ss : List Step) (l m : ℕ) → Behind l ss (listed l ss) m
unfolding listed
behind_all [] l m = behind_nothing l m
behind_all (s ∷ ss) l m = behind_more s ss l m (λ i. behind_all ss (l + 1) i)

pub behind_first : (l : ℕ) (ss : List Step) (e : Expr) (es : List Expr) → listed l ss ≡ e ∷ es
    → es ≡ listed (l + size e) (drop (size e) ss)
behind_first l ss e es p =
    let h : 1 ≤ length (listed l ss) = rw p (omega arith) in
    let t : total 1 (listed l ss) ≡ size e = rw p (total_one e es) in
    sym (ap (drop 1) p) ∙ behind_all ss l 1 h ∙ rw t refl
