-- A file is made where it took as many bytes as its text has, which is what the test asks.
use native.Mathlib.Omega.{arith}
use Rattle.file_io.proofs.making.make_file.Goals as goal

pub returns-then-closed : goal.returns-then-closed
returns-then-closed g c = omega arith
