-- The lengths of the pair are within the buffers, so both texts can be lent on.
use Rattle.std.proofs.Common.{rules, sym}
use lib.Seq.{length-take-le}
use Rattle.spec.specs.Program.{program_limit}
use Rattle.spec.specs.Split.{split_limit}
use Rattle.racedrill.proofs.Pairs.{shown_within, texts_shown, line_shown}
use Rattle.racedrill.proofs.run.Goals as goal

pub pair_of-requires : goal.pair_of-requires
unfolding program_limit split_limit
pair_of-requires g c = search rules

pub slice_bounds-program-end : goal.slice_bounds-program-end
slice_bounds-program-end g c = (shown_within _ _ _ _ c.in-Some.ensures).0

pub slice_bounds-program-end-2 : goal.slice_bounds-program-end-2
slice_bounds-program-end-2 g c = sym (length-take-le _ _ (shown_within _ _ _ _ c.in-Some.ensures).0)

pub slice_bounds-split-end : goal.slice_bounds-split-end
slice_bounds-split-end g c = (shown_within _ _ _ _ c.in-Some.ensures).1

pub slice_bounds-split-end-2 : goal.slice_bounds-split-end-2
slice_bounds-split-end-2 g c = sym (length-take-le _ _ (shown_within _ _ _ _ c.in-Some.ensures).1)

pub make_both-requires : goal.make_both-requires
make_both-requires g c = texts_shown _ _ _ _ c.in-Some.ensures

pub write_drill-requires : goal.write_drill-requires
write_drill-requires g c = line_shown _ _ _ _ c.in-Some.ensures
