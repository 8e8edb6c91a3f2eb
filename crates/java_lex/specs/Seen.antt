-- The code's parts of a text literal as those of the definition.
use Rattle.java_lex.specs.declared.literals.Part.{Part}
use Rattle.java_lex.specs.declared.literals.Part.TheVariants.{Close, LineEnd, Escape, Plain, Wrong}
use Rattle.java_lex.specs.Pieces as pieces

abbrev pub seen : Part → pieces.Part
seen Close = pieces.close
seen LineEnd = pieces.line_end
seen (Escape b) = pieces.escape b
seen (Plain text) = pieces.plain text.now
seen (Wrong n) = pieces.wrong n
