-- The bodies before procedure f have their posts.
use Rattle.fill_pass.proofs.RootsFilled.{SoFar}
use Rattle.fill_pass.proofs.roots.fill_roots.Given as goal

abbrev pub invariant-loop-f : goal.invariant-loop-f
invariant-loop-f l = SoFar l.work l.column l.given l.initial.posts l.f l.posts
