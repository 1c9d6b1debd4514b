-- Two outcomes that are the same unless the first, a former one, was stopped by a refusal of a kind that is gone: what is read or judged
-- behind them is so too.
use Rattle.std.proofs.Common.{Result, Ok, Err}
use mathlib.Core.List.{List, [], ◌∷◌, map}
use Prim.Native.Nat.{ℕ, zero, suc, ◌+◌}
use lib.ListN.{replicate}
use Rattle.spec.specs.Text.{Line, closed, unclosed, Field, fields}
use Rattle.spec.specs.Reading.{◌>>=◌, Fault, LineResult, bad, SheetName, faulty, Place, passed, next_line, read_line, read_lines}
use Rattle.spec.specs.declared.Refusal.{Refusal}

module _ (Gone : Refusal → Type 0) where
  pub data Unless {A : Type 0} : (former now : Result A Refusal) → Type 0 where
    same : {o : Result A Refusal} → Unless o o
    gone : {r : Refusal} {o : Result A Refusal} → Gone r → Unless (Err r) o

  pub then_unless : {A B : Type 0} {o o' : Result A Refusal} (f g : A → Result B Refusal) → Unless o o' → ((a : A) → Unless (f a) (g a)) → Unless (o >>= f) (o' >>= g)
  unfolding ◌>>=◌
  then_unless f g (same {o = Err r}) h = same
  then_unless f g (same {o = Ok a}) h = h a
  then_unless f g (gone w) h = gone w

  -- what two readers show of a line, the former first, for a sheet some of whose faults are gone
  module _ (sheet : SheetName) (Lost : Fault → Type 0) (lost_gone : (w : Fault) → Lost w → (k : ℕ) → Gone (faulty sheet w k)) where
    pub data SeenUnless {A : Type 0} : (former now : LineResult A) → Type 0 where
      same_seen : {x : LineResult A} → SeenUnless x x
      lost : {w : Fault} {x : LineResult A} → Lost w → SeenUnless (bad w) x

    pub data ReadersUnless {A : Type 0} : (former now : List (List Field → LineResult A)) → Type 0 where
      none_left : ReadersUnless [] []
      reader : {f g : List Field → LineResult A} {fs gs : List (List Field → LineResult A)} → ((l : List Field) → SeenUnless (f l) (g l)) → ReadersUnless fs gs
          → ReadersUnless (f ∷ fs) (g ∷ gs)

    passed_unless : {A : Type 0} {x y : LineResult A} → SeenUnless x y → (k : ℕ) (ls : List Line) → Unless (passed sheet k ls x) (passed sheet k ls y)
    unfolding passed
    passed_unless same_seen k ls = same
    passed_unless (lost {w = w} h) k ls = gone (lost_gone w h k)

    pub line_unless : {A : Type 0} (f g : List Field → LineResult A) → ((l : List Field) → SeenUnless (f l) (g l)) → (p : Place)
        → Unless (read_line sheet f p) (read_line sheet g p)
    unfolding read_line
    line_unless f g h p = by_lines p.rest
      where
        by_lines : (ls : List Line) → Unless (next_line sheet f p.last ls) (next_line sheet g p.last ls)
        by_lines [] = unfold next_line in same
        by_lines (unclosed l ∷ ls) = unfold next_line in same
        by_lines (closed l ∷ ls) = unfold next_line in passed_unless (h (fields l)) (p.last + 1) ls

    pub lines_unless : {A : Type 0} {fs gs : List (List Field → LineResult A)} → ReadersUnless fs gs → (p : Place)
        → Unless (read_lines sheet fs p) (read_lines sheet gs p)
    unfolding read_lines
    lines_unless none_left p = same
    lines_unless (reader {f = f} {g = g} h hs) p =
        then_unless _ _ (line_unless f g h p) λ (a, after). then_unless _ _ (lines_unless hs after) λ _. same

    pub replicated : {A : Type 0} (n : ℕ) {f g : List Field → LineResult A} → ((l : List Field) → SeenUnless (f l) (g l)) → ReadersUnless (replicate n f) (replicate n g)
    replicated zero h = none_left
    replicated (suc n) h = reader h (replicated n h)

    pub mapped : {A B : Type 0} (f g : B → List Field → LineResult A) → ((b : B) (l : List Field) → SeenUnless (f b l) (g b l)) → (bs : List B)
        → ReadersUnless (map f bs) (map g bs)
    mapped f g h [] = none_left
    mapped f g h (b ∷ bs) = reader (h b) (mapped f g h bs)

    -- readers that are the former ones by a change of each
    pub changed : {A : Type 0} (change : (List Field → LineResult A) → List Field → LineResult A)
        → ((f : List Field → LineResult A) (l : List Field) → SeenUnless (change f l) (f l)) → (fs : List (List Field → LineResult A))
        → ReadersUnless (map change fs) fs
    changed change h [] = none_left
    changed change h (f ∷ fs) = reader (h f) (changed change h fs)
