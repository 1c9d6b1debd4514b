-- The splits that some sheet shows: those that can be written and read back.
use Rattle.std.specs.Prelude.{◌≡◌, [], true, ℕ, ◌<◌, length, get_or, Option, None, Some}
use Rattle.spec.specs.Words.{takes_start}
use Rattle.spec.specs.Expression.{Step}
use Rattle.spec.specs.Program.{Program}
use Rattle.spec.specs.Split.{Row, Split, may_be_empty}
use Rattle.spec.specs.Ranges.{InRange}
use Rattle.spec.specs.Accepted.{AtMost}
use Rattle.spec.specs.declared.Heading.{Heading}
use Rattle.spec.specs.declared.Heading.TheVariants.{C, C2, C3}
use Rattle.spec.specs.declared.MapNumber.{MapNumber}
use Rattle.spec.specs.declared.TypeLine.TheVariants as declared_type
use Rattle.spec.specs.declared.Word.{Word}

-- the start of the root that a heading can show: map 0 where the header does not name it
unfoldable pub RootStarts : Heading → MapNumber → Type 0
RootStarts C m = m.0 ≡ 0
RootStarts C2 m = Unit {0}
RootStarts C3 m = Unit {0}

-- the out of a lock that a heading can show: its in where the line does not name it
unfoldable pub LockShows : Heading → (i o : MapNumber) → Type 0
LockShows C i o = o.0 ≡ i.0
LockShows C2 i o = o.0 ≡ i.0
LockShows C3 i o = Unit {0}

-- the start that a row of a step with this word can show
unfoldable pub RowStarts : Heading → Word → Option MapNumber → Type 0
RowStarts h w None = may_be_empty h w ≡ true
RowStarts h w (Some m) = takes_start w ≡ true

-- a split that can be written for a program
pub record Writable (P : Program) (S : Split) : Type 0 where
  pub in_range : InRange P S
  pub start : RootStarts S.header.heading S.header.start
  pub lock_shows : (t : ℕ) (i o : MapNumber) → t < length S.types → get_or S.types t declared_type.Int ≡ declared_type.Lock i o
      → LockShows S.header.heading i o
  pub numbers_small : (m : ℕ) → AtMost 1000000000 (get_or S.maps m [])
  pub row_starts : (i : ℕ) (s : Step) (r : Row) → i < length P.steps
      → RowStarts S.header.heading (get_or P.steps i s).word (get_or S.rows i r).start
