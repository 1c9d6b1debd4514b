-- What the answer to a map line means.
use Rattle.std.specs.Prelude.{◌≡◌, List, ℕ, Result, Ok, Err}
use Rattle.spec.specs.declared.Refusal.{Refusal}
use Rattle.spec.specs.Reading.{Place}
use Rattle.spec.specs.Split.{Map}
use Rattle.lexer.specs.Cursors.{Placed, place_at}
use Rattle.lexer.specs.declared.Cursor.{Cursor}

-- a refusal is that of document 01; else the lent slice holds afterwards what document 01 reads there. A refused line may leave
-- anything in it.
abbrev pub MapAnswer : List ℕ → (into : List ℕ) → Result (Map × Place) Refusal → Result Cursor Refusal → Type 0
MapAnswer text into out (Err r) = out ≡ Err r
MapAnswer text into out (Ok c) = (out ≡ Ok (into, place_at text c)) × Placed text c
