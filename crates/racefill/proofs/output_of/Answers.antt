-- A file that can't be read is told as such; else both texts are filled.
use Rattle.racefill.specs.Output.{output_for}
use Rattle.racefill.proofs.Outputs.{line_unread}
use Rattle.racefill.proofs.output_of.Goals as goal
use Rattle.racefill.proofs.output_of.Goals.{in_default-via-in-Some+in_default, in_default-via-in_default}

pub returns-in_default : goal.returns-in_default
unfolding output_for
returns-in_default c =
    let unread = line_unread _ _ c.write_line.ensures.line c.write_line.ensures.short c.requires.2 in
    elim c.in_default.branch [
      | in_default-via-in-Some+in_default w ↦ rw (w.in_default.is-0, w.in_default.is-1) unread
      | in_default-via-in_default w ↦ rw w.in_default.is-0 unread
    ]

pub returns : goal.returns
unfolding output_for
returns c = rw (c.in-Some-Some.is-0, c.in-Some-Some.is-1) c.fill_texts.ensures
