-- The numerals after a heading, in as many places of five; the fifth is 0 where none is read into it.
use mathlib.Core.Path.{sym, ◌∙◌}
use native.Mathlib.Omega.{arith}
use Rattle.lexer.proofs.LineEnds.{numbers_none, numbers_read}
use Rattle.split_header.specs.Header.{numerals_of}
use Rattle.split_header.proofs.HeaderLaws.{few_numerals, places_lent, header_decodes}
use Rattle.split_header.proofs.header_numbers.Goals as goal

pub slice_bounds-found-end : goal.slice_bounds-found-end
slice_bounds-found-end c = omega (arith, c.numerals_of-count.ensures, few_numerals c.args.heading)

pub slice_bounds-numbers-end : goal.slice_bounds-numbers-end
slice_bounds-numbers-end c = sym (places_lent c.args.heading _ c.numerals_of-count.ensures)

pub returns-in_err-next : goal.returns-in_err-next
returns-in_err-next c =
    let count = c.numerals_of-count.ensures in
    rw c.from_residual.ensures (numbers_none c.numbers.ensures (numerals_of c.args.heading) (places_lent _ _ count ∙ count) c.in_err-next.was).0

pub returns : goal.returns
returns c =
    let count = c.numerals_of-count.ensures in
    let found = numbers_read c.numbers.ensures (numerals_of c.args.heading) (places_lent _ _ count ∙ count) c.requires.placed c.in_ok-next.was in
    let told = header_decodes c.args.heading c.numbers.new.into _ _ _ _ count found.long c.index.ensures.0 c.index-2.ensures.0 c.index-3.ensures.0 in
    (c.numbers.new.into, found.numbers, told, found.placed, found.line)
