-- The most that each step may leave, then the pass.
use Rattle.fill_transfer.specs.Bounds.{top}
use Rattle.fill_pass.proofs.RootPosts.{root_passed}
use Rattle.fill_pass.proofs.roots.root_posts.Goals as goal

pub returns : goal.returns
unfolding top
returns c = root_passed c.requires c.upper_bound_step.ensures c.pass_step.ensures
