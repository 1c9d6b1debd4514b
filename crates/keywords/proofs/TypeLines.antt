-- A type line of a split sheet, by the kind that its first field names.
use Rattle.std.proofs.Common.{Option, None, Some}
use mathlib.Core.Path.{◌≡◌, refl}
use mathlib.Core.List.{List, [], ◌∷◌}
use mathlib.Core.Bool.{Bool, true, false}
use Prim.Native.Nat.{ℕ}
use Rattle.spec.specs.Choice.{when◌then◌else◌}
use Rattle.spec.specs.Text.{bytes, same, Field}
use Rattle.spec.specs.Reading.{LineResult, bad, bad_form, seen, ◌to◌, below, numbers}
use Rattle.spec.specs.Split.{lock_of, out_range, type_line, nth_map, nth_type, nth_location}
use Rattle.spec.specs.declared.Header.{Header}
use Rattle.spec.specs.declared.TypeLine.{TypeLine}
use Rattle.spec.specs.declared.TypeLine.TheVariants as line
use Rattle.keywords.specs.Words.{type_word_of}
use Rattle.keywords.specs.declared.TypeWord.{TypeWord}
use Rattle.keywords.specs.declared.TypeWord.TheVariants.{Int, Ref, Lock, Tid, Sem, Rwlock}

-- what the fields behind the kind show
unfoldable pub of_kind : Header → (own : ℕ) → List Field → Option TypeWord → LineResult TypeLine
of_kind H own fs (Some Int) = seen (λ ns. line.Int) (numbers ((0 to 0) ∷ (0 to 0) ∷ []) fs)
of_kind H own fs (Some Ref) = seen (λ ns. line.Ref (nth_location 0 ns) (nth_type 1 ns)) (numbers (below H.locations ∷ below own ∷ []) fs)
of_kind H own fs (Some Lock) = seen (lock_of H.heading) (numbers (below H.maps ∷ out_range H.heading H.maps ∷ []) fs)
of_kind H own fs (Some Tid) = seen (λ ns. line.Tid (nth_map 0 ns)) (numbers (below H.maps ∷ (0 to 0) ∷ []) fs)
of_kind H own fs (Some Sem) = seen (λ ns. line.Sem (nth_map 0 ns)) (numbers (below H.maps ∷ (0 to 0) ∷ []) fs)
of_kind H own fs (Some Rwlock) = seen (λ ns. line.Rwlock (nth_map 0 ns) (nth_map 1 ns)) (numbers (below H.maps ∷ below H.maps ∷ []) fs)
of_kind H own fs None = bad bad_form

pub type_line_lem : (H : Header) (own : ℕ) (f : Field) (fs : List Field) → type_line H own (f ∷ fs) ≡ of_kind H own fs (type_word_of f)
unfolding type_line type_word_of of_kind
type_line_lem H own f fs =
    go (same f (bytes "int")) (same f (bytes "ref")) (same f (bytes "lock")) (same f (bytes "tid")) (same f (bytes "sem")) (same f (bytes "rwlock"))
  where
    go : (a b c d e g : Bool)
        → (when a then of_kind H own fs (Some Int) else when b then of_kind H own fs (Some Ref) else when c then of_kind H own fs (Some Lock) else when d then of_kind H own fs (Some Tid)
        else when e then of_kind H own fs (Some Sem) else when g then of_kind H own fs (Some Rwlock) else bad bad_form)
        ≡ of_kind H own fs (when a then Some Int else when b then Some Ref else when c then Some Lock else when d then Some Tid else when e then Some Sem else when g then Some Rwlock
        else None)
    go true b c d e g = refl
    go false true c d e g = refl
    go false false true d e g = refl
    go false false false true e g = refl
    go false false false false true g = refl
    go false false false false false true = refl
    go false false false false false false = refl
