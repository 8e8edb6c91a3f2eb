-- The code's spots as those of the definition.
use Rattle.call_reader.specs.declared.spell.Spot.{Spot}
use Rattle.call_reader.specs.declared.spell.Spot.TheVariants as spots
use Rattle.call_reader.specs.SpelledOut as plain

abbrev pub seen : Spot → plain.Spot
seen spots.BehindEquals = plain.BehindEquals
seen (spots.BehindName name) = plain.BehindName name.now
seen (spots.InCall more) = plain.InCall more
seen spots.BehindCall = plain.BehindCall
seen spots.Elsewhere = plain.Elsewhere
