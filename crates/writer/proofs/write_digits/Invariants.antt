-- The loop's invariant: so many digits of the rest remain to be written, in front of those that are, and the first is one of them.
use Rattle.std.proofs.Common.{◌≡◌, ◌≤◌}
use Rattle.writer.specs.Buffer.{overwrite}
use Rattle.writer.proofs.Digits.{last_digits}
use Rattle.writer.proofs.write_digits.Given as goal

abbrev pub invariant-loop-front : goal.invariant-loop-front
invariant-loop-front l = (1 ≤ l.front) × overwrite l.buffer l.at (last_digits l.front l.rest) ≡ overwrite l.initial.buffer l.at (last_digits l.digits l.n)
