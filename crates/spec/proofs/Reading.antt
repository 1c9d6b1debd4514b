-- Counted lines: those read so far and then the rest; they are read to the end exactly when the text shows an entry on each.
use Rattle.std.proofs.Common.{Result, Ok, Err}
use mathlib.Core.Path.{◌≡◌, refl, ap, sym, subst}
use mathlib.Core.List.{List, [], ◌∷◌, ◌++◌, append_assoc, append-nil}
use Prim.Native.Nat.{ℕ, suc, ◌+◌}
use native.Mathlib.Omega.{arith}
use lib.ListN.{length}
use borrow.Author.Tests.{eqb-true}
use Rattle.spec.specs.Text.{Line, closed, unclosed, Field, fields}
use Rattle.spec.specs.Reading.{◌>>=◌, LineResult, good, bad, SheetName, Place, passed, next_line, read_line, read_lines, begin, end}
use Rattle.spec.specs.WellFormed.{Parses, nothing, line}
use Rattle.spec.specs.declared.Refusal.{Refusal}
use Rattle.spec.proofs.Outcomes.{stop_is_not_on, on_injective, bind_through, goes_on_bind, demand_goes_on}

-- ------------------------------------------------------------------ one line after the other

-- entries in front of those that lines show
unfoldable pub front : {A : Type 0} → List A → Result (List A × Place) Refusal → Result (List A × Place) Refusal
front done (Err r) = Err r
front done (Ok found) = Ok (done ++ found.0, found.1)

module _ {A : Type 0} where
  pub front_none : (o : Result (List A × Place) Refusal) → front [] o ≡ o
  unfolding front
  front_none (Err r) = refl
  front_none (Ok found) = refl

  front_one : (done : List A) (a : A) (o : Result (List A × Place) Refusal)
      → front done (o >>= λ (as', end). Ok (a ∷ as', end)) ≡ front (done ++ (a ∷ [])) o
  unfolding front ◌>>=◌
  front_one done a (Err r) = refl
  front_one done a (Ok found) = rw append_assoc

  -- what is read is what was read before, then a line, then the rest
  module _ (sheet : SheetName) (read : List Field → LineResult A) (reads : List (List Field → LineResult A)) (place : Place) where
    pub all_stop : (r : Refusal) → read_line sheet read place ≡ Err r → read_lines sheet (read ∷ reads) place ≡ Err r
    unfolding read_lines ◌>>=◌
    all_stop r e = rw e

    pub all_on : (done : List A) (a : A) (after : Place) → read_line sheet read place ≡ Ok (a, after)
        → front done (read_lines sheet (read ∷ reads) place) ≡ front (done ++ (a ∷ [])) (read_lines sheet reads after)
    unfolding read_lines ◌>>=◌
    all_on done a after e = rw e (front_one done a (read_lines sheet reads after))

  -- no line is left
  pub all_done : (sheet : SheetName) (done : List A) (place : Place) → front done (read_lines sheet [] place) ≡ Ok (done, place)
  unfolding read_lines front
  all_done sheet done place = ap (λ (l : List A). Ok (l, place)) (append-nil done)

-- ------------------------------------------------------------------ from reading to lines

passed_right : {A : Type 0} {a : A} {p : Place} (sheet : SheetName) (k : ℕ) (rest : List Line) (x : LineResult A)
    → passed sheet k rest x ≡ Ok (a, p) → (x ≡ good a) × (record { last = k; rest = rest } ≡ p)
unfolding passed
passed_right sheet k rest (good a) h = (ap (λ r. good r.0) (on_injective h), ap (λ r. r.1) (on_injective h))
passed_right sheet k rest (bad w) h = stop_is_not_on h

-- the lines ls behind line k begin with a closed one that shows a, and p is the place behind it
pub record Begins {A : Type 0} (read : List Field → LineResult A) (k : ℕ) (ls : List Line) (a : A) (p : Place) : Type 0 where
  pub first : List ℕ
  pub lined : ls ≡ closed first ∷ p.rest
  pub shown : read (fields first) ≡ good a
  pub counted : p.last ≡ k + 1

line_begins : {A : Type 0} {a : A} {p : Place} (sheet : SheetName) (read : List Field → LineResult A) (k : ℕ) (ls : List Line)
    → next_line sheet read k ls ≡ Ok (a, p) → Begins read k ls a p
unfolding next_line
line_begins sheet read k [] h = stop_is_not_on h
line_begins sheet read k (unclosed l ∷ rest) h = stop_is_not_on h
line_begins sheet read k (closed l ∷ rest) h =
    let (shown, behind) = passed_right sheet (k + 1) rest (read (fields l)) h in
    record { first = l; lined = ap (λ (q : Place). closed l ∷ q.rest) behind; shown = shown; counted = sym (ap (λ (q : Place). q.last) behind) }

pub next_begins : {A : Type 0} {a : A} {p : Place} (sheet : SheetName) (read : List Field → LineResult A) (place : Place)
    → read_line sheet read place ≡ Ok (a, p) → Begins read place.last place.rest a p
unfolding read_line
next_begins sheet read place h = line_begins sheet read place.last place.rest h

pub all_shown : {A : Type 0} {as' : List A} {p : Place} (sheet : SheetName) (reads : List (List Field → LineResult A)) (place : Place)
    → read_lines sheet reads place ≡ Ok (as', p) → Parses reads place.rest as' p.rest
unfolding read_lines
all_shown sheet [] place h = subst (λ r. Parses [] place.rest r.0 r.1.rest) (on_injective h) nothing
all_shown sheet (read ∷ reads) place h =
    bind_through _ _ h λ r₁ h₁ h₂.
    bind_through _ _ h₂ λ r₂ h₃ h₄.
    let b = next_begins sheet read place h₁ in
    let shown = line b.shown (all_shown sheet reads r₁.1 h₃) in
    subst (λ r. Parses (read ∷ reads) place.rest r.0 r.1.rest) (on_injective h₄)
    (subst (λ ls. Parses (read ∷ reads) ls (r₁.0 ∷ r₂.0) r₂.1.rest) (sym b.lined) shown)

pub begun : {p : Place} (sheet : SheetName) (ls : List Line) → begin sheet ls ≡ Ok p → record { last = 0; rest = ls } ≡ p
unfolding begin
begun sheet [] h = stop_is_not_on h
begun sheet (l ∷ rest) h = on_injective h

none_left : (ls : List Line) → length ls ≡ 0 → ls ≡ []
none_left [] h = refl
none_left (l ∷ rest) h = absurd (omega (arith, h))

pub ended : {t : Unit {0}} (sheet : SheetName) (place : Place) → end sheet place ≡ Ok t → place.rest ≡ []
unfolding end
ended sheet place h = none_left place.rest (eqb-true _ _ (demand_goes_on _ _ h))

pub shown_length : {A : Type 0} {reads : List (List Field → LineResult A)} {ls rest : List Line} {as' : List A}
    → Parses reads ls as' rest → length as' ≡ length reads
shown_length nothing = refl
shown_length (line h s) = ap suc (shown_length s)

-- ------------------------------------------------------------------ from lines to reading

pub read_next : {A : Type 0} {a : A} (sheet : SheetName) (read : List Field → LineResult A) (k : ℕ) (l : List ℕ) (rest : List Line)
    → read (fields l) ≡ good a → read_line sheet read (record { last = k; rest = closed l ∷ rest }) ≡ Ok (a, record { last = k + 1; rest = rest })
unfolding read_line next_line passed
read_next sheet read k l rest h = rw h

pub read_all : {A : Type 0} {reads : List (List Field → LineResult A)} {ls rest : List Line} {as' : List A} (sheet : SheetName)
    → Parses reads ls as' rest → (k : ℕ)
    → (last : ℕ) × (read_lines sheet reads (record { last = k; rest = ls }) ≡ Ok (as', record { last = last; rest = rest }))
unfolding read_lines
read_all sheet nothing k = (k, refl)
read_all sheet (line {read} {reads} {l} {ls} h s) k =
    let (last, r) = read_all sheet s (k + 1) in
    (last, goes_on_bind _ _ (read_next sheet read k l ls h) (goes_on_bind _ _ r refl))
