use Rattle.std.proofs.Common.{sym, ◌∙◌, arith}
use native.Mathlib.Nat.{sub-zero}
use Rattle.conditions.specs.Relation.{fails}
use Rattle.conditions.proofs.Relations.{asked_within, fails_later, fails_here, fails_nowhere}
use Rattle.conditions.proofs.lowest_failing.Goals as goal

pub loop-l-init : goal.loop-l-init
unfolding fails
loop-l-init c = rw (sub-zero, c.asked-l-end.ensures)

pub holds_at-requires : goal.holds_at-requires
holds_at-requires c = asked_within _ _ _ _ _ c.asked-l-end.ensures (omega arith)

pub returns-then-not-holds_at : goal.returns-then-not-holds_at
returns-then-not-holds_at c =
    sym (c.loop-l.invariant ∙ fails_here _ _ _ _ (omega arith) (sym c.holds_at.ensures ∙ c.if-not-holds_at.true))

pub loop-l-preserved : goal.loop-l-preserved
loop-l-preserved c =
    c.loop-l.invariant ∙ fails_later _ _ _ _ (omega arith) (sym c.holds_at.ensures ∙ c.if-not-holds_at.false)

pub returns : goal.returns
returns c = sym (c.loop-l.invariant ∙ fails_nowhere _ _ _ _ (omega arith))
