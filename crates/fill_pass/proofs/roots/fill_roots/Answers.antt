use mathlib.Core.Path.{◌≡◌, ◌∙◌}
use native.Mathlib.Omega.{arith}
use Rattle.fill_pass.proofs.RootsFilled.{body_asks, body_ends, body_owes, body_again, last_asks, last_ends}
use Rattle.fill_pass.proofs.roots.fill_roots.Goals as goal

pub root_posts-requires : goal.root_posts-requires
root_posts-requires c =
    body_asks c.loop-f.invariant c.first_in-first.ensures (omega arith) (c.from-before.ensures ∙ c.before_in.ensures)

pub returns-in_default : goal.returns-in_default
returns-in_default c =
    body_ends c.loop-f.invariant c.first_in-first.ensures (omega arith) (c.from-before.ensures ∙ c.before_in.ensures) c.in_default.ensures

pub returns-then-left-due : goal.returns-then-left-due
returns-then-left-due c =
    body_owes c.loop-f.invariant c.first_in-first.ensures (omega arith) (c.from-before.ensures ∙ c.before_in.ensures) c.in-Some.ensures
    (c.from-due.ensures ∙ c.after_in.ensures) c.if-left-due.true

pub loop-f-preserved : goal.loop-f-preserved
loop-f-preserved c =
    body_again c.loop-f.invariant c.first_in-first.ensures (omega arith) (c.from-before.ensures ∙ c.before_in.ensures) c.in-Some.ensures
    (c.from-due.ensures ∙ c.after_in.ensures) c.if-left-due.false

pub root_posts-requires-2 : goal.root_posts-requires-2
root_posts-requires-2 c =
    let all : c.index-procedures.result ≡ c.loop-f.f = omega arith in
    last_asks c.loop-f.invariant (rw all at c.first_in-first-2.ensures) (omega arith) (c.from-pre.ensures ∙ c.cell_in.ensures)

pub returns : goal.returns
returns c =
    let all : c.index-procedures.result ≡ c.loop-f.f = omega arith in
    rw c.is_some.ensures
    (last_ends c.loop-f.invariant (rw all at c.first_in-first-2.ensures) (omega arith) (c.from-pre.ensures ∙ c.cell_in.ensures) _ c.root_posts-2.ensures)
