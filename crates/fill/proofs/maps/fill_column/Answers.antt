-- Each way out is a law of Column.antt, from what the two calls promise.
use Rattle.fill.proofs.Column.{column_nothing, column_stored}
use Rattle.fill.proofs.maps.fill_column.Goals as goal

pub returns-then-not-fill_location : goal.returns-then-not-fill_location
returns-then-not-fill_location c = column_nothing _ _ _ _ _ _ _ c.fill_location.ensures c.if-not-fill_location.true

pub returns : goal.returns
returns c = column_stored _ _ _ _ _ _ _ c.fill_location.ensures c.if-not-fill_location.false _ _ c.store_posts.ensures
