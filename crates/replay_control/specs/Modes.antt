-- Where a thread is, and the numbers that stand for it in the lent space.
use Rattle.std.specs.Prelude.{ℕ, Bool, true, false, eqb}
use Rattle.spec.specs.Choice.{when◌then◌else◌}
use Rattle.replay_control.specs.declared.Mode.{Mode}
use Rattle.replay_control.specs.declared.Mode.TheVariants.{Enter, Return, Stopped, Ready, Unrolled, Done}

abbrev pub mode_number : Mode → ℕ
mode_number Enter = 0
mode_number Return = 1
mode_number Stopped = 2
mode_number Ready = 3
mode_number Unrolled = 4
mode_number Done = 5

-- a number that stands for none is taken for the last
unfoldable pub mode_of : ℕ → Mode
mode_of n =
    when eqb n 0 then Enter
    else when eqb n 1 then Return
    else when eqb n 2 then Stopped
    else when eqb n 3 then Ready
    else when eqb n 4 then Unrolled
    else Done

-- whether the next word is still looked for
abbrev pub on_its_way : Mode → Bool
on_its_way Enter = true
on_its_way Return = true
on_its_way m = false

-- whether it is that one
abbrev pub is : (m n : Mode) → Bool
is m n = eqb (mode_number m) (mode_number n)
