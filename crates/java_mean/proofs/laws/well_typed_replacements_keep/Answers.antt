-- A program with other statements at a place.
use Rattle.java_mean.proofs.Replacing.{by_any_reader, new_left, old_left, both_left}
use Rattle.java_mean.proofs.laws.well_typed_replacements_keep.Goals as goal

pub returns-clause-readers : goal.returns-clause-readers
returns-clause-readers c = by_any_reader

pub returns-clause-fewer : goal.returns-clause-fewer
returns-clause-fewer c = new_left

pub returns-clause-more : goal.returns-clause-more
returns-clause-more c = old_left

pub returns-clause-wide : goal.returns-clause-wide
returns-clause-wide c = both_left
