-- What the lent work space holds afterwards.
use Rattle.std.specs.Prelude.{List, ◌++◌, ℕ, leb, length, drop, replicate}
use Rattle.spec.specs.Choice.{when◌then◌else◌}

-- how many 32-bit numbers a check works in
unfoldable pub workspace_size : ℕ
workspace_size = 16384

-- "After every answer but 1 the first 16,384 numbers of the work space are 0 and the rest is as before"
unfoldable pub workspace_after : List ℕ → List ℕ
workspace_after w =
    when leb workspace_size (length w)
    then replicate workspace_size 0 ++ drop workspace_size w
    else w
