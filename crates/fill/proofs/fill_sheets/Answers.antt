-- 43 first, then the rules; they leave the sheets as they stand, so the maps are found for the same ones.
use Rattle.std.proofs.lemmas.Result.{err_from_is_err_and}
use Rattle.fill.proofs.Stages.{many_sound, maps_kept, rule_refused, rules_met}
use Rattle.fill.proofs.fill_sheets.Goals as goal

pub returns-then-held-gt-GIVEN_LIMIT : goal.returns-then-held-gt-GIVEN_LIMIT
returns-then-held-gt-GIVEN_LIMIT c = many_sound _ _ _ _ _ c.if-held-gt-GIVEN_LIMIT.true

pub returns-in_err-check : goal.returns-in_err-check
returns-in_err-check c =
    let p = err_from_is_err_and c.from_residual.result c.from_residual.ensures.1 in
    rw (p.1, p.2) (rule_refused _ _ _ _ c.if-held-gt-GIVEN_LIMIT.false c.check.ensures _ _ c.in_err-check.was)

pub fill_held-requires : goal.fill_held-requires
fill_held-requires c = maps_kept _ _ _ _ c.if-held-gt-GIVEN_LIMIT.false c.check.ensures c.requires

pub returns : goal.returns
returns c =
    rules_met _ _ _ _ c.if-held-gt-GIVEN_LIMIT.false c.check.ensures c.requires.few c.requires.few_procedures c.in_ok-check.was c.fill_held.ensures
