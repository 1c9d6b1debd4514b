-- The seed of a word, by what its numeral comes to.
use Rattle.std.specs.Result.{OkIff, result_ok}
use Rattle.std.proofs.Common.{Option, None, Some, Result, Ok, Err}
use Rattle.std.proofs.lemmas.Result.{OkIff-at_ok, OkIff-at_err}
use mathlib.Core.Path.{◌≡◌, refl, ap, ◌∙◌}
use Prim.Native.Nat.{ℕ, ◌≤◌, ◌<◌}
use native.Mathlib.Omega.{arith}
use borrow.Author.Tests.{lt-ltb, le-ltb}
use Rattle.racedrill.specs.Seed.{seed_in}

pub no_numeral : (o : Option ℕ) → o ≡ None → None ≡ seed_in o
unfolding seed_in
no_numeral o e = rw e

pub too_large : (o : Option ℕ) (n : ℕ) → o ≡ Some n → 4294967296 ≤ n → None ≡ seed_in o
unfolding seed_in
too_large o n e h = rw (e, le-ltb n 4294967296 h)

pub given : (o : Option ℕ) (n : ℕ) → o ≡ Some n → n < 4294967296 → Some n ≡ seed_in o
unfolding seed_in
given o n e h = rw (e, lt-ltb n 4294967296 h)

-- the numeral in 32 bits, if they hold it
pub held : {E : Type 0} (o : Option ℕ) (n : ℕ) (r : Result ℕ E) → o ≡ Some n → OkIff r (n < 4294967296) n → result_ok r ≡ seed_in o
held {E} o n (Ok x) e h =
    let p = OkIff-at_ok {E = E} (Ok x) (n < 4294967296) n x h refl in
    ap Some p.1 ∙ given o n e p.0
held {E} o n (Err d) e h =
    let p : n < 4294967296 → ⊥ = OkIff-at_err {E = E} (Err d) (n < 4294967296) n d h refl in
    too_large o n e (omega arith)
