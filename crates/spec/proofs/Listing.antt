-- The procedures and the root are the ones that the lines list, each expression in prefix order.
use Rattle.std.proofs.Common.{Ok}
use mathlib.Core.Path.{◌≡◌, refl, ap, sym, ◌∙◌, subst}
use mathlib.Core.List.{List, [], ◌∷◌, ◌++◌, map, append_assoc, append-nil}
use Prim.Native.Nat.{ℕ, zero, suc, ◌+◌, ◌≤◌}
use native.Mathlib.Omega.{arith}
use lib.ListN.{length, drop, length-append}
use lib.Seq.{drop-append_seam}
use Rattle.spec.specs.Expression.{Step, Expr, leaf, unary, binary, size, with_parts, listed, Item, step, proc, steps_among, leading, first_listed, expression, no_line_left, Procedure, structure}
use Rattle.spec.specs.WellFormed.{prefix, IndexesFrom, items_of, listing, NumberedFrom}
use Rattle.spec.specs.declared.Word.{Word}
use Rattle.spec.specs.declared.Word.TheVariants.{Leaf, Unary, Binary}
use Rattle.spec.proofs.Outcomes.{stop_is_not_on, on_injective, bind_through, goes_on_bind}

-- ------------------------------------------------------------------ how many steps an expression has

pub size_positive : (e : Expr) → 1 ≤ size e
unfolding size
size_positive (leaf w k v) = omega arith
size_positive (unary w k v e) = omega arith
size_positive (binary w k v e₁ e₂) = omega arith

pub prefix_length : (e : Expr) → length (prefix e) ≡ size e
unfolding prefix size
prefix_length (leaf w k v) = refl
prefix_length (unary w k v e) = ap suc (prefix_length e)
prefix_length (binary w k v e₁ e₂) = rw (length-append (prefix e₁) (prefix e₂), prefix_length e₁, prefix_length e₂)

-- ------------------------------------------------------------------ from an expression to its steps

-- the steps of an expression are read back, and what stands behind them is listed from the next index on
pub listed_prefix : (i : ℕ) (e : Expr) (rest : List Step) → IndexesFrom i e → listed i (prefix e ++ rest) ≡ e ∷ listed (i + size e) rest
unfolding listed prefix size with_parts IndexesFrom
listed_prefix i (leaf w k v) rest h = rw (← h)
listed_prefix i (unary w k v e) rest h =
    let end : i + 1 + size e ≡ i + suc (size e) = omega arith in
    rw (listed_prefix (i + 1) e rest h.1, end, ← h.0)
listed_prefix i (binary w k v e₁ e₂) rest h =
    let end : i + 1 + size e₁ + size e₂ ≡ i + suc (size e₁ + size e₂) = omega arith in
    rw (
      append_assoc (prefix e₁) (prefix e₂) rest,
      listed_prefix (i + 1) e₁ (prefix e₂ ++ rest) h.1,
      listed_prefix (i + 1 + size e₁) e₂ rest h.2,
      end,
      ← h.0,
    )

-- ------------------------------------------------------------------ from steps to an expression

-- from index i on, the steps ss are those of the expressions listed, one after the other
data Lists : ℕ → List Step → List Expr → Type 0 where
  unfinished : {i : ℕ} {ss : List Step} → Lists i ss []
  finished : {i : ℕ} {ss rest : List Step} {e : Expr} {es : List Expr}
      → ss ≡ prefix e ++ rest
      → IndexesFrom i e
      → Lists (i + size e) rest es
      → Lists i ss (e ∷ es)

step_lists : (i : ℕ) (w : Word) (v l : ℕ) (ss : List Step) (es : List Expr) → Lists (i + 1) ss es
    → Lists i (record { word = w; value = v; line = l } ∷ ss) (with_parts w (record { index = i; line = l }) v es)
unfolding with_parts prefix size IndexesFrom
step_lists i (Leaf w) v l ss es h = finished {e = leaf w (record { index = i; line = l }) v} refl refl h
step_lists i (Unary w) v l ss [] h = unfinished
step_lists i (Unary w) v l ss (e ∷ es) (finished s f h) =
    let end : i + 1 + size e ≡ i + suc (size e) = omega arith in
    finished {e = unary w (record { index = i; line = l }) v e} (ap (record { word = Unary w; value = v; line = l } ∷◌) s) (refl, f) (rw end at h)
step_lists i (Binary w) v l ss [] h = unfinished
step_lists i (Binary w) v l ss (e₁ ∷ []) h = unfinished
step_lists i (Binary w) v l ss (e₁ ∷ e₂ ∷ es) (finished s₁ f₁ (finished {rest = rest} s₂ f₂ h)) =
    let end : i + 1 + size e₁ + size e₂ ≡ i + suc (size e₁ + size e₂) = omega arith in
    let steps : ss ≡ prefix e₁ ++ prefix e₂ ++ rest = s₁ ∙ ap (prefix e₁ ++◌) s₂ ∙ sym (append_assoc (prefix e₁) (prefix e₂) rest) in
    finished {e = binary w (record { index = i; line = l }) v e₁ e₂} (ap (record { word = Binary w; value = v; line = l } ∷◌) steps) (refl, f₁, f₂) (rw end at h)

lists : (i : ℕ) (ss : List Step) → Lists i ss (listed i ss)
unfolding listed
lists i [] = unfinished
lists i (s ∷ ss) = step_lists i s.word s.value s.line ss (listed (i + 1) ss) (lists (i + 1) ss)

-- ------------------------------------------------------------------ the steps among lines

-- lines that are all steps, in front of others
leading_steps : (ss : List Step) (rest : List Item) → leading (map step ss ++ rest) ≡ ss ++ leading rest
unfolding leading
leading_steps [] rest = refl
leading_steps (s ∷ ss) rest = ap (s ∷◌) (leading_steps ss rest)

pub steps_among_lem : (ss : List Step) (rest : List Item) → steps_among (map step ss ++ rest) ≡ ss ++ steps_among rest
unfolding steps_among
steps_among_lem [] rest = refl
steps_among_lem (s ∷ ss) rest = ap (s ∷◌) (steps_among_lem ss rest)

mapped_length : (ss : List Step) → length (map step ss) ≡ length ss
mapped_length [] = refl
mapped_length (s ∷ ss) = ap suc (mapped_length ss)

-- the lines begin with the steps that lead
leading_front : (items : List Item) (ss rest : List Step) → leading items ≡ ss ++ rest → items ≡ map step ss ++ drop (length ss) items
unfolding leading
leading_front items [] rest h = refl
leading_front [] (s ∷ ss) rest h = let clash : ◌≡◌ {A = ℕ} 0 1 = cc in absurd (omega arith)
leading_front (step x ∷ items) (s ∷ ss) rest h =
    let same : x ≡ s = cc in
    let behind : leading items ≡ ss ++ rest = cc in
    ap (λ y. step y ∷ items) same ∙ ap (step s ∷◌) (leading_front items ss rest behind)
leading_front (proc x k ∷ items) (s ∷ ss) rest h = let clash : ◌≡◌ {A = ℕ} 0 1 = cc in absurd (omega arith)

-- ------------------------------------------------------------------ one expression among the lines

pub expression_listed : (last i : ℕ) (e : Expr) (rest : List Item) → IndexesFrom i e → expression last i (items_of e ++ rest) ≡ Ok (e, rest)
unfolding expression first_listed items_of
expression_listed last i e rest f =
    let found : listed i (leading (map step (prefix e) ++ rest)) ≡ e ∷ listed (i + size e) (leading rest) =
    ap (listed i) (leading_steps (prefix e) rest) ∙ listed_prefix i e (leading rest) f in
    let behind : drop (size e) (map step (prefix e) ++ rest) ≡ rest =
    rw (← prefix_length e, ← mapped_length (prefix e)) (drop-append_seam (map step (prefix e)) rest) in
    rw (found, behind)

first_lists : {e : Expr} {rest : List Item} (last i : ℕ) (items : List Item) (es : List Expr) → Lists i (leading items) es
    → first_listed last items es ≡ Ok (e, rest) → (items ≡ items_of e ++ rest) × IndexesFrom i e
unfolding first_listed items_of
first_lists last i items [] l h = stop_is_not_on h
first_lists last i items (x ∷ es) (finished {rest = behind} q f l) h =
    let front : items ≡ map step (prefix x) ++ drop (size x) items =
    leading_front items (prefix x) behind q ∙ ap (λ n. map step (prefix x) ++ drop n items) (prefix_length x) in
    subst (λ (r : Expr × List Item). (items ≡ map step (prefix r.0) ++ r.1) × IndexesFrom i r.0) (on_injective h) (front, f)

pub listed_expression : {e : Expr} {rest : List Item} (last i : ℕ) (items : List Item) → expression last i items ≡ Ok (e, rest)
    → (items ≡ items_of e ++ rest) × IndexesFrom i e
unfolding expression
listed_expression last i items h = first_lists last i items (listed i (leading items)) (lists i (leading items)) h

-- ------------------------------------------------------------------ procedures and the root

none_left : {t : Unit {0}} (items : List Item) → no_line_left items ≡ Ok t → items ≡ []
unfolding no_line_left
none_left [] h = refl
none_left (x ∷ items) h = stop_is_not_on h

-- what lines list: all of them, numbered in line order
pub record Listed (k i : ℕ) (items : List Item) (ps : List Procedure) (root : Expr) : Type 0 where
  pub all : items ≡ listing ps root
  pub numbering : NumberedFrom i ps root
  pub counted : length ps ≡ k

-- the root alone; a procedure in front of what is listed
root_lists : (i : ℕ) (items rest : List Item) (e : Expr) → items ≡ items_of e ++ rest → rest ≡ [] → IndexesFrom i e → Listed 0 i items [] e
unfolding listing NumberedFrom
root_lists i items rest e all none indexes =
    record { all = all ∙ ap (items_of e ++◌) none ∙ append-nil (items_of e); numbering = indexes; counted = refl }

procedure_lists : (k i x l : ℕ) (items rest : List Item) (e : Expr) (ps : List Procedure) (root : Expr) → items ≡ items_of e ++ rest → IndexesFrom i e
    → Listed k (i + size e) rest ps root → Listed (suc k) i (proc x l ∷ items) (record { line = l; parameter = x; body = e } ∷ ps) root
unfolding listing NumberedFrom
procedure_lists k i x l items rest e ps root all indexes behind = record {
  all = ap (proc x l ∷◌) (all ∙ ap (items_of e ++◌) behind.all);
  numbering = (indexes, behind.numbering);
  counted = ap suc behind.counted;
}

pub structure_lists : {ps : List Procedure} {root : Expr} (last k i : ℕ) (items : List Item) → structure last k i items ≡ Ok (ps, root)
    → Listed k i items ps root
unfolding structure
structure_lists last zero i items h =
    bind_through _ _ h λ (e, rest) h₁ r₁.
    bind_through _ _ r₁ λ done h₂ r₂.
    let (all, indexes) = listed_expression last i items h₁ in
    subst (λ (r : List Procedure × Expr). Listed 0 i items r.0 r.1) (on_injective r₂) (root_lists i items rest e all (none_left rest h₂) indexes)
structure_lists last (suc k) i [] h = stop_is_not_on h
structure_lists last (suc k) i (step s ∷ items) h = stop_is_not_on h
structure_lists last (suc k) i (proc x l ∷ items) h =
    bind_through _ _ h λ (e, rest) h₁ r₁.
    bind_through _ _ r₁ λ (ps, root) h₂ r₂.
    let (all, indexes) = listed_expression last i items h₁ in
    subst (λ (r : List Procedure × Expr). Listed (suc k) i (proc x l ∷ items) r.0 r.1) (on_injective r₂)
    (procedure_lists k i x l items rest e ps root all indexes (structure_lists last k (i + size e) rest h₂))

pub listing_structured : (last i : ℕ) (ps : List Procedure) (root : Expr) → NumberedFrom i ps root
    → structure last (length ps) i (listing ps root) ≡ Ok (ps, root)
unfolding structure listing NumberedFrom no_line_left
listing_structured last i [] root f =
    goes_on_bind _ _ (ap (expression last i) (sym (append-nil (items_of root))) ∙ expression_listed last i root [] f) (goes_on_bind _ _ refl refl)
listing_structured last i (p ∷ ps) root f =
    goes_on_bind _ _ (expression_listed last i p.body (listing ps root) f.0)
    (goes_on_bind _ _ (listing_structured last (i + size p.body) ps root f.1) refl)

-- a line for each step and one for each procedure
pub listing_length : (ps : List Procedure) (root : Expr) → length (listing ps root) ≡ length (steps_among (listing ps root)) + length ps
unfolding listing items_of steps_among
listing_length [] root =
    let steps : steps_among (map step (prefix root)) ≡ prefix root =
    ap steps_among (sym (append-nil (map step (prefix root)))) ∙ steps_among_lem (prefix root) [] ∙ append-nil (prefix root) in
    omega (arith, mapped_length (prefix root), ap length steps)
listing_length (p ∷ ps) root =
    let body = prefix p.body in
    omega (
      arith,
      length-append (map step body) (listing ps root),
      mapped_length body,
      listing_length ps root,
      ap length (steps_among_lem body (listing ps root)),
      length-append body (steps_among (listing ps root)),
    )

-- ------------------------------------------------------------------ they are the ones

-- how many lines are `proc` lines
unfoldable procs_among : List Item → ℕ
procs_among [] = 0
procs_among (step s ∷ items) = procs_among items
procs_among (proc x k ∷ items) = suc (procs_among items)

procs_behind : (ss : List Step) (items : List Item) → procs_among (map step ss ++ items) ≡ procs_among items
unfolding procs_among
procs_behind [] items = refl
procs_behind (s ∷ ss) items = procs_behind ss items

procs_listed : (ps : List Procedure) (root : Expr) → procs_among (listing ps root) ≡ length ps
unfolding procs_among listing items_of
procs_listed [] root = ap procs_among (sym (append-nil (map step (prefix root)))) ∙ procs_behind (prefix root) []
procs_listed (p ∷ ps) root = ap suc (procs_behind (prefix p.body) (listing ps root) ∙ procs_listed ps root)

pub listing_unique : (ps ps' : List Procedure) (e e' : Expr) → listing ps e ≡ listing ps' e' → NumberedFrom 0 ps e → NumberedFrom 0 ps' e'
    → (ps ≡ ps') × (e ≡ e')
listing_unique ps ps' e e' h f f' =
    let counts : length ps ≡ length ps' = sym (procs_listed ps e) ∙ ap procs_among h ∙ procs_listed ps' e' in
    let same : ◌≡◌ {A = List Procedure × Expr} (ps, e) (ps', e') = on_injective (
    sym (listing_structured 0 0 ps e f)
    ∙ (λ i. structure 0 (counts i) 0 (h i))
    ∙ listing_structured 0 0 ps' e' f') in
    (ap (λ (r : List Procedure × Expr). r.0) same, ap (λ (r : List Procedure × Expr). r.1) same)
