-- A well-typed program with other statements at a place.
use Rattle.java_mean.proofs.Fitting.{fits_in}
use Rattle.java_mean.proofs.laws.well_typed_where_statements_give_way.Goals as goal

pub returns : goal.returns
returns c = fits_in
