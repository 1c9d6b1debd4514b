-- A word with one part has nothing to choose, and writes nothing.
use Rattle.std.proofs.Common.{None}
use mathlib.Core.Path.{◌≡◌, refl}
use Rattle.calculus.specs.Expression.{Value, Unary, join, ref, read, lock, unlock, post, wait, hold, call}
use Rattle.replay_theory.specs.Run.{no_choice, unary_traits}

pub unary_plain : (o : Unary) (v : Value) → ((unary_traits o v).part ≡ no_choice) × ((unary_traits o v).writing ≡ None)
unfolding unary_traits
unary_plain join v = (refl, refl)
unary_plain ref v = (refl, refl)
unary_plain read v = (refl, refl)
unary_plain lock v = (refl, refl)
unary_plain unlock v = (refl, refl)
unary_plain post v = (refl, refl)
unary_plain wait v = (refl, refl)
unary_plain (hold w) v = (refl, refl)
unary_plain (call f) v = (refl, refl)
