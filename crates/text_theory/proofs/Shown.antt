-- Lines that are written show what they were written from.
use mathlib.Core.Path.{◌≡◌, sym, ap, ◌∙◌, subst}
use mathlib.Core.List.{List, [], ◌∷◌, ◌++◌, map, append-nil}
use Prim.Native.Nat.{ℕ, suc, ◌<◌}
use native.Mathlib.Omega.{arith}
use lib.ListN.{length, get_or}
use Rattle.spec.specs.Text.{Line, lines, Field}
use Rattle.spec.specs.Reading.{LineResult, good}
use Rattle.spec.specs.WellFormed.{Parses}
use Rattle.spec.specs.WellFormed as well_formed_lem
use Rattle.text_theory.specs.Text.{line, text}
use Rattle.text_theory.specs.Plain.{PlainLine}
use Rattle.text_theory.proofs.Fields.{fields_joined, line_closed}

-- each line of fields is plain, and shows its entry
pub data Spells {A : Type 0} : List (List Field → LineResult A) → List (List Field) → List A → Type 0 where
  nothing : Spells [] [] []
  line' : {read : List Field → LineResult A} {reads : List (List Field → LineResult A)} {fs : List Field} {ls : List (List Field)} {a : A} {as' : List A}
      → PlainLine fs → read fs ≡ good a → Spells reads ls as' → Spells (read ∷ reads) (fs ∷ ls) (a ∷ as')

-- the text shows the entries, and behind them the lines that follow
pub text_shows : {A : Type 0} {reads : List (List Field → LineResult A)} {ls : List (List Field)} {as' : List A} (others : List (List Field))
    → Spells reads ls as' → Parses reads (lines (text (ls ++ others))) as' (lines (text others))
unfolding text
text_shows others nothing = well_formed_lem.nothing
text_shows others (line' {read} {reads} {fs} {ls} {a} {as'} p e s) =
    subst (λ (l : List Line). Parses (read ∷ reads) l (a ∷ as') (lines (text others))) (sym (line_closed (text (ls ++ others)) p))
    (well_formed_lem.line (ap read (fields_joined p) ∙ e) (text_shows others s))

-- the last lines of a text
pub all_shown : {A : Type 0} {reads : List (List Field → LineResult A)} {ls : List (List Field)} {as' : List A}
    → Spells reads ls as' → Parses reads (lines (text ls)) as' []
unfolding text lines
all_shown {A} {reads} {ls} {as'} s = subst (λ (l : List (List Field)). Parses reads (lines (text l)) as' []) (append-nil ls) (text_shows [] s)

-- a line for each entry, if each is plain and its own way of reading shows the entry
pub each_spelled : {A : Type 0} (shown : A → List Field) (reads : List (List Field → LineResult A)) (as' : List A) (read : List Field → LineResult A) (a : A)
    → length as' ≡ length reads
    → ((i : ℕ) → i < length as' → PlainLine (shown (get_or as' i a)) × (get_or reads i read (shown (get_or as' i a)) ≡ good (get_or as' i a)))
    → Spells reads (map shown as') as'
each_spelled shown [] [] read a l each = nothing
each_spelled shown [] (b ∷ as') read a l each = absurd (omega (arith, l))
each_spelled shown (r ∷ reads) [] read a l each = absurd (omega (arith, l))
each_spelled shown (r ∷ reads) (b ∷ as') read a l each =
    let (plain, back) = each 0 (omega arith) in
    line' plain back (each_spelled shown reads as' read a (omega (arith, l)) (λ i h. each (suc i) (omega arith)))
