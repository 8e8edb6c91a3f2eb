use Rattle.std.proofs.Common.{◌≡◌, drop, map}
use Rattle.schema.specs.Words.{spells, is_among}
use Rattle.dump_schema.proofs.words.spells_some.Given as goal

-- the word is none that is passed
abbrev pub invariant-loop-keyword : goal.invariant-loop-keyword
invariant-loop-keyword l = is_among spells (map (λ w. w.now) (drop l.keyword-index l.keywords)) l.word ≡ is_among spells (map (λ w. w.now) l.keywords) l.word
