-- The product of two numbers of the work space.
use Prim.Native.Nat.{ℕ, ◌*◌, ◌<◌, ◌≤◌}
use native.Mathlib.Omega.{arith}
use native.Mathlib.Nat.{mul-le-mul_left}
use mir.Syntax.{w64}
use mir.Val.{Fits}
use borrow.Author.Rules.{Fits-under}

pub product_fits : {a b : ℕ} → a < 4294967296 → b < 4294967296 → Fits w64 (a * b)
product_fits {a} {b} p q =
    let most : b ≤ 4294967295 = omega arith in
    let less : a * b ≤ a * 4294967295 = mul-le-mul_left a most in
    Fits-under w64 (a * b) 18446744073709551616 (omega arith) tt
