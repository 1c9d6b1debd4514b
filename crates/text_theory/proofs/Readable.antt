-- A split that was read, for whatever purpose, can be written: its numbers are in their ranges, and starts stand where its heading
-- and its words have them.
use Rattle.std.proofs.Common.{None}
use mathlib.Core.Path.{◌≡◌, refl}
use mathlib.Core.Path.{subst as along}
use mathlib.Core.List.{List, [], ◌∷◌, map}
use mathlib.Core.Bool.{Bool, true, false}
use Prim.Native.Nat.{ℕ, zero, suc, ◌+◌, ◌<◌}
use native.Mathlib.Omega.{arith}
use lib.ListN.{length, get_or, replicate}
use borrow.Author.Tests.{ltb-true}
use Rattle.spec.specs.Choice.{when◌then◌else◌}
use Rattle.spec.specs.Text.{Line, bytes, same, Field}
use Rattle.spec.specs.Reading.{good, ◌to◌, below, in_range, all_in_range, numerals, seen, numbers}
use Rattle.spec.specs.Words.{takes_start}
use Rattle.spec.specs.Expression.{Step}
use Rattle.spec.specs.Program.{Program}
use Rattle.spec.specs.Split.{Map, header_ranges, maps_in, start_of, header_of, header_line, lock_of, type_line, type_lines, map_line, Row, row_of, start_range, may_be_empty, empty_fault, post_range, post_field, row_line, Split}
use Rattle.spec.specs.declared.Header.{Header}
use Rattle.spec.specs.WellFormed.{Parses, nothing, line, WellFormedSplit}
use Rattle.spec.specs.Accepted.{AtMost}
use Rattle.spec.specs.Accepted as accepted
use Rattle.spec.specs.declared.Heading.{Heading}
use Rattle.spec.specs.declared.Heading.TheVariants.{C, C2, C3}
use Rattle.spec.specs.declared.Purpose.{Purpose}
use Rattle.spec.specs.declared.MapNumber.{MapNumber}
use Rattle.spec.specs.declared.TypeLine.{TypeLine}
use Rattle.spec.specs.declared.TypeLine.TheVariants.{Int, Ref, Lock, Tid, Sem, Rwlock}
use Rattle.spec.specs.declared.Word.{Word}
use Rattle.spec.proofs.Tests.{both_true}
use Rattle.spec.proofs.Seen.{wrong_is_not_right, seen_right, formed_right, numbers_right, in_to, in_range_at, insist_right}
use Rattle.spec.proofs.Ranges.{well_formed_in_range}
use Rattle.text_theory.specs.Writable.{RootStarts, LockShows, RowStarts, Writable}
use Rattle.text_theory.proofs.Spelling.{choice_right}

-- ------------------------------------------------------------------ the header

headed_starts : (h : Heading) (fs : List Field) (H : Header) → seen (header_of h) (numbers (header_ranges h (maps_in (numerals fs))) fs) ≡ good H
    → RootStarts H.heading H.start
unfolding header_of start_of RootStarts
headed_starts C fs H h = let (ns, n, e) = seen_right _ h in along (λ G. RootStarts G.heading G.start) e refl
headed_starts C2 fs H h = let (ns, n, e) = seen_right _ h in along (λ G. RootStarts G.heading G.start) e tt
headed_starts C3 fs H h = let (ns, n, e) = seen_right _ h in along (λ G. RootStarts G.heading G.start) e tt

header_starts : (purpose : Purpose) (fs : List Field) (H : Header) → header_line purpose fs ≡ good H → RootStarts H.heading H.start
unfolding header_line
header_starts purpose [] H h = wrong_is_not_right h
header_starts purpose (f ∷ fs) H h = let (heading, _, shown) = formed_right _ _ h in headed_starts heading fs H shown

-- ------------------------------------------------------------------ types

unfoldable TypeShows : Heading → TypeLine → Type 0
TypeShows h Int = Unit {0}
TypeShows h (Ref p c) = Unit {0}
TypeShows h (Lock i o) = LockShows h i o
TypeShows h (Tid k) = Unit {0}
TypeShows h (Sem k) = Unit {0}
TypeShows h (Rwlock r w) = Unit {0}

lock_made : (h : Heading) (ns : List ℕ) → TypeShows h (lock_of h ns)
unfolding TypeShows lock_of LockShows
lock_made C ns = refl
lock_made C2 ns = refl
lock_made C3 ns = tt

type_shows : (H : Header) (own : ℕ) (fs : List Field) (τ : TypeLine) → type_line H own fs ≡ good τ → TypeShows H.heading τ
unfolding type_line TypeShows
type_shows H own [] τ h = wrong_is_not_right h
type_shows H own (f ∷ fs) τ h =
    let Q = TypeShows H.heading in
    choice_right Q (same f (bytes "int")) _ _ (λ w σ g. let (_, _, e) = seen_right _ g in along Q e tt)
    (choice_right Q (same f (bytes "ref")) _ _ (λ w σ g. let (_, _, e) = seen_right _ g in along Q e tt)
    (choice_right Q (same f (bytes "lock")) _ _ (λ w σ g. let (ns, _, e) = seen_right _ g in along Q e (lock_made H.heading ns))
    (choice_right Q (same f (bytes "tid")) _ _ (λ w σ g. let (_, _, e) = seen_right _ g in along Q e tt)
    (choice_right Q (same f (bytes "sem")) _ _ (λ w σ g. let (_, _, e) = seen_right _ g in along Q e tt)
    (choice_right Q (same f (bytes "rwlock")) _ _ (λ w σ g. let (_, _, e) = seen_right _ g in along Q e tt)
    (λ σ g. wrong_is_not_right g)))))) τ h

locks_show : (H : Header) (own n : ℕ) {ls rest : List Line} {τs : List TypeLine} → Parses (type_lines H own n) ls τs rest
    → (t : ℕ) (i o : MapNumber) → t < length τs → get_or τs t Int ≡ Lock i o → LockShows H.heading i o
unfolding type_lines TypeShows
locks_show H own zero nothing t i o h e = absurd (omega arith)
locks_show H own (suc n) (line {a = a} shown others) zero i o h e = along (TypeShows H.heading) e (type_shows H own _ a shown)
locks_show H own (suc n) (line shown others) (suc t) i o h e = locks_show H (own + 1) n others t i o (omega arith) e

-- ------------------------------------------------------------------ maps

all_small : (n : ℕ) (m : Map) → length m ≡ length (replicate n (0 to 1000000000)) → all_in_range (replicate n (0 to 1000000000)) m ≡ true
    → AtMost 1000000000 m
unfolding all_in_range
all_small n [] l h = accepted.none
all_small zero (a ∷ m) l h = absurd (omega (arith, l))
all_small (suc n) (a ∷ m) l h =
    let (here, rest) = both_true (in_range (0 to 1000000000) a) (all_in_range (replicate n (0 to 1000000000)) m) h in
    accepted.more (in_to 0 1000000000 a here).1 (all_small n m (omega (arith, l)) rest)

maps_small : (H : Header) (n : ℕ) {ls rest : List Line} {ms : List Map} → Parses (replicate n (map_line H)) ls ms rest
    → (m : ℕ) → AtMost 1000000000 (get_or ms m [])
unfolding map_line
maps_small H zero nothing m = accepted.none
maps_small H (suc n) (line {a = a} h others) zero = let (l, t) = numbers_right _ _ a h in all_small H.locations a l t
maps_small H (suc n) (line h others) (suc m) = maps_small H n others m

-- ------------------------------------------------------------------ rows

-- a number s is in its range on a spawn and on a call alone
start_on_spawn : (w : Word) (H : Header) (n : ℕ) → in_range (start_range w H) n ≡ true → takes_start w ≡ true
unfolding start_range in_range
start_on_spawn w H n h = by_cases (takes_start w) (ltb-true n _ h)
  where
    by_cases : (b : Bool) → n < (when b then H.maps else 0) → b ≡ true
    by_cases true q = refl
    by_cases false q = absurd (omega arith)

module _ (purpose : Purpose) (H : Header) where
  row_starts_lem : (s : Step) (fs : List Field) (r : Row) → row_line purpose H s fs ≡ good r → RowStarts H.heading s.word r.start
  unfolding row_line row_of RowStarts
  row_starts_lem s [] r h = wrong_is_not_right h
  row_starts_lem s (t ∷ []) r h = wrong_is_not_right h
  row_starts_lem s (t ∷ m ∷ []) r h = wrong_is_not_right h
  row_starts_lem s (t ∷ m ∷ [] ∷ []) r h =
      let (allowed, shown) = insist_right (may_be_empty H.heading s.word) (empty_fault s.word) _ h in
      let (ns, n, e) = seen_right _ shown in
      along (λ q. RowStarts H.heading s.word q.start) e allowed
  row_starts_lem s (t ∷ m ∷ (b ∷ f) ∷ []) r h =
      let (ns, n, e) = seen_right _ h in
      let rs = below H.types ∷ post_range purpose H m ∷ start_range s.word H ∷ [] in
      let given = in_range_at rs (t ∷ post_field purpose m ∷ (b ∷ f) ∷ []) ns n 2 (omega arith) in
      along (λ q. RowStarts H.heading s.word q.start) e (start_on_spawn s.word H (get_or ns 2 0) given)
  row_starts_lem s (t ∷ m ∷ f ∷ g ∷ fs) r h = wrong_is_not_right h

  rows_start : (steps : List Step) {ls rest : List Line} {rs : List Row} → Parses (map (row_line purpose H) steps) ls rs rest
      → (i : ℕ) (s : Step) (r : Row) → i < length steps → RowStarts H.heading (get_or steps i s).word (get_or rs i r).start
  rows_start [] nothing i s r h = absurd (omega arith)
  rows_start (x ∷ steps) (line {a = a} shown others) zero s r h = row_starts_lem x _ a shown
  rows_start (x ∷ steps) (line shown others) (suc i) s r h = rows_start steps others i s r (omega arith)

-- ------------------------------------------------------------------ the sheet

pub read_is_writable : {purpose : Purpose} {P : Program} {text : List ℕ} {S : Split} → WellFormedSplit purpose P text S → Writable P S
read_is_writable {purpose} {P} {text} {S} F = record {
  in_range = well_formed_in_range F;
  start = header_starts purpose _ S.header F.headed;
  lock_shows = locks_show S.header 0 S.header.types F.typed;
  numbers_small = maps_small S.header S.header.maps F.mapped;
  row_starts = rows_start purpose S.header P.steps F.rowed;
}
