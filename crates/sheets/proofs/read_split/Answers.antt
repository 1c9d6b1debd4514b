-- The split's reader answers for the steps of whichever program the work space holds.
use mathlib.Core.Path.{sym}
use Rattle.std.proofs.lemmas.Result.{err_from_is_err_and}
use Rattle.sheets.proofs.Found.{too_long, split_stops, both_held}
use Rattle.sheets.proofs.read_split.Goals as goal

pub returns-then-split-gt-SPLIT_LIMIT : goal.returns-then-split-gt-SPLIT_LIMIT
returns-then-split-gt-SPLIT_LIMIT c p P F holds counted procs = too_long _ p _ F c.if-split-gt-SPLIT_LIMIT.true

pub returns-in_err-header : goal.returns-in_err-header
returns-in_err-header c p P F holds counted procs =
    let exit = err_from_is_err_and c.from_residual.result c.from_residual.ensures.1 in
    rw (exit.1, exit.2) (split_stops _ p _ F c.if-split-gt-SPLIT_LIMIT.false (c.in_err-header.ensures.answered P holds.steps (sym counted) (sym procs)))

pub returns : goal.returns
returns c p P F holds counted procs =
    let (S, reads, headed, holds', small) = c.in_ok-header.ensures.answered P holds.steps (sym counted) (sym procs) in
    both_held _ p _ F c.if-split-gt-SPLIT_LIMIT.false _ reads c.in_ok-header.ensures.changed holds holds' counted c.requires.few procs c.requires.few_procedures headed small
