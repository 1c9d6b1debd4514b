-- The definitions give each example its maps and each pair its answer. A table is one equation that computes; `maps_found`
-- and `answered` unfold every definition on the way.
use mathlib.Core.Path.{◌≡◌, refl}
use Rattle.spec.specs.Split.{split_limit}
use Rattle.spec.specs.Pairs.KnownPairs.{◌with◌is◌, P}
use Rattle.spec.specs.Pairs.EdgeSheets.{times}
use Rattle.fill_theory.specs.Examples.{◌with◌has◌, maps_found, ones, unfilled, two_locks, two_locks_split, examples, calls_one, one_kept, call_examples, AllFound, answered, AllAnswered, answers, over_largest, ◌with◌becomes◌, whole_of, AllWritten, fillings}

pub examples_found : AllFound examples
unfolding AllFound maps_found P ◌with◌has◌ ones unfilled two_locks two_locks_split examples
examples_found = refl

pub calls_found : AllFound call_examples
unfolding AllFound maps_found P ◌with◌has◌ ones unfilled calls_one one_kept call_examples
calls_found = refl

pub answers_given : AllAnswered 30 answers
unfolding AllAnswered answered ◌with◌is◌ times two_locks two_locks_split answers
answers_given = refl

pub over_largest_lem : answered split_limit over_largest ≡ over_largest.expected
unfolding answered ◌with◌is◌ over_largest
over_largest_lem = refl

pub fillings_written : AllWritten fillings
unfolding AllWritten whole_of times two_locks two_locks_split P unfilled ◌with◌becomes◌ calls_one one_kept fillings
fillings_written = refl
