-- A mode is read back as it was stored; and a number that is stored is that of its mode.
use Rattle.std.proofs.Common.{ℕ, zero, suc, ◌≤◌, ◌≡◌, refl, arith}
use Rattle.replay_control.specs.declared.Mode.{Mode}
use Rattle.replay_control.specs.declared.Mode.TheVariants.{Enter, Return, Stopped, Ready, Unrolled, Done}
use Rattle.replay_control.specs.Modes.{mode_number, mode_of}

pub mode_read : (m : Mode) → mode_of (mode_number m) ≡ m
unfolding mode_of
mode_read Enter = refl
mode_read Return = refl
mode_read Stopped = refl
mode_read Ready = refl
mode_read Unrolled = refl
mode_read Done = refl

pub mode_low : (m : Mode) → mode_number m ≤ 5
mode_low Enter = omega arith
mode_low Return = omega arith
mode_low Stopped = omega arith
mode_low Ready = omega arith
mode_low Unrolled = omega arith
mode_low Done = omega arith

pub mode_stored : (n : ℕ) → n ≤ 5 → mode_number (mode_of n) ≡ n
unfolding mode_of
mode_stored zero l = refl
mode_stored (suc zero) l = refl
mode_stored (suc (suc zero)) l = refl
mode_stored (suc (suc (suc zero))) l = refl
mode_stored (suc (suc (suc (suc zero)))) l = refl
mode_stored (suc (suc (suc (suc (suc zero))))) l = refl
mode_stored (suc (suc (suc (suc (suc (suc n)))))) l = absurd (omega arith)
