use mathlib.Core.Path.{sym, ◌∙◌}
use native.Mathlib.Omega.{arith}
use Rattle.lexer.specs.Cursors.{rest}
use Rattle.lexer.specs.declared.FieldEnd.TheVariants.{Text}
use Rattle.lexer.proofs.Fields.{ends_before, before_byte, before_end, byte_within}
use Rattle.lexer.proofs.Places.{span_is, past_fits}
use Rattle.lexer.proofs.Cursor.field.Goals as goal

pub span-requires : goal.span-requires
unfolding rest
span-requires c =
    let found = ends_before _ _ (before_byte c.args.text.now c.loop-to.to (omega arith) ∙ sym c.of.ensures ∙ c.in-Some.is) in
    past_fits _ _ _ _ (c.loop-to.invariant.1 ∙ found.1) (omega arith) c.requires

pub returns-in-Some : goal.returns-in-Some
unfolding rest
returns-in-Some c =
    let found = ends_before _ _ (before_byte c.args.text.now c.loop-to.to (omega arith) ∙ sym c.of.ensures ∙ c.in-Some.is) in
    c.span.ensures ∙ span_is _ _ _ _ (c.loop-to.invariant.1 ∙ found.1) (omega arith)

pub loop-to-preserved : goal.loop-to-preserved
loop-to-preserved c =
    let w = byte_within c.args.text.now c.loop-to.to (before_byte c.args.text.now c.loop-to.to (omega arith) ∙ sym c.of.ensures ∙ c.in_default.is) in
    (omega arith, c.loop-to.invariant.1 ∙ w.1)

pub span-requires-2 : goal.span-requires-2
unfolding rest
span-requires-2 c =
    let found = ends_before _ Text (before_end c.args.text.now c.loop-to.to (omega arith)) in
    past_fits _ _ _ _ (c.loop-to.invariant.1 ∙ found.1) (omega arith) c.requires

pub returns : goal.returns
unfolding rest
returns c =
    let found = ends_before _ Text (before_end c.args.text.now c.loop-to.to (omega arith)) in
    c.span-2.ensures ∙ span_is _ _ _ _ (c.loop-to.invariant.1 ∙ found.1) (omega arith)
