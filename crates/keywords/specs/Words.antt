-- What a field spells, as the shapes that the code hands back.
use Rattle.std.specs.Prelude.{Option, None, Some}
use Rattle.spec.specs.Choice.{when◌then◌else◌}
use Rattle.spec.specs.Text.{bytes, same, Field}
use Rattle.keywords.specs.declared.TypeWord.{TypeWord}
use Rattle.keywords.specs.declared.TypeWord.TheVariants as kind

-- the kind that a type line names
unfoldable pub type_word_of : Field → Option TypeWord
type_word_of f =
    when same f (bytes "int") then Some kind.Int
    else when same f (bytes "ref") then Some kind.Ref
    else when same f (bytes "lock") then Some kind.Lock
    else when same f (bytes "tid") then Some kind.Tid
    else when same f (bytes "sem") then Some kind.Sem
    else when same f (bytes "rwlock") then Some kind.Rwlock
    else None
