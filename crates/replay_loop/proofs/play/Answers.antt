use mathlib.Core.Path.{refl, sym, ◌∙◌}
use native.Mathlib.Omega.{arith}
use Rattle.replay_loop.proofs.Playing.{goes_on, line_stops, line_goes, piece_done}
use Rattle.replay_loop.proofs.Steadying.{line_steady, may_go}
use Rattle.replay_loop.proofs.play.Goals as goal

pub loop-p-init : goal.loop-p-init
loop-p-init c = (refl, c.requires, λ whole P. P)

pub next_line-p-requires : goal.next_line-p-requires
next_line-p-requires c =
    may_go _ _ c.loop-p.invariant.1 c.loop-p-test.true

pub returns-then-is_some : goal.returns-then-is_some
returns-then-is_some c = λ whole P.
    line_stops _ _ _ _ _ (c.loop-p.invariant.2 whole P) c.loop-p.invariant.1 c.loop-p-test.true c.next_line-p.ensures (sym c.is_some.ensures ∙ c.if-is_some.true)

pub loop-p-smaller : goal.loop-p-smaller
loop-p-smaller c =
    let told = (line_steady _ _ _ _ c.loop-p.invariant.1 c.next_line-p.ensures (goes_on _ (sym c.is_some.ensures ∙ c.if-is_some.false))).1 in
    omega (arith, told, c.loop-p-test.true)

pub loop-p-preserved : goal.loop-p-preserved
loop-p-preserved c = (
  c.next_line-p.auto.space ∙ c.loop-p.invariant.0,
  (line_steady _ _ _ _ c.loop-p.invariant.1 c.next_line-p.ensures (goes_on _ (sym c.is_some.ensures ∙ c.if-is_some.false))).0,
  λ whole P.
      line_goes _ _ _ _ _ (c.loop-p.invariant.2 whole P) c.loop-p.invariant.1 c.loop-p-test.true c.next_line-p.ensures (sym c.is_some.ensures ∙ c.if-is_some.false),
)

pub returns : goal.returns
returns c = λ whole P.
    piece_done _ _ _ _ _ (c.loop-p.invariant.2 whole P) c.loop-p.invariant.1 c.loop-p-test.false
