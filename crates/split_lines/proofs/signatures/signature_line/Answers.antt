-- A signature line: its four numerals; whether they are in their ranges.
use mathlib.Core.Path.{refl, sym}
use Rattle.spec.specs.Split.{signature_of}
use Rattle.split_fields.proofs.LineLaws.{exit}
use Rattle.split_lines.proofs.SignatureLaws.{signature_malformed, signature_outside, signature_good}
use Rattle.split_lines.proofs.signatures.signature_line.Goals as goal

pub returns-in_err-next : goal.returns-in_err-next
returns-in_err-next c =
    rw (exit _ c.from_residual.result c.in_err-next.ensures.value c.from_residual.ensures.1)
    (signature_malformed c.args.header c.numbers.ensures refl (sym c.if-at_end.ensures) c.in_err-next.ensures.ok_part)

pub returns-then-not-signature_fits : goal.returns-then-not-signature_fits
returns-then-not-signature_fits c =
    signature_outside c.args.header c.numbers.ensures refl c.requires.small c.requires.reading.placed c.in_ok-next.ensures.ok_part (sym c.if-not-signature_fits.ensures)

pub returns : goal.returns
unfolding signature_of
returns c =
    signature_good c.args.header c.numbers.ensures refl c.requires.small c.requires.reading.placed c.in_ok-next.ensures.ok_part (sym c.if-not-signature_fits.ensures)
