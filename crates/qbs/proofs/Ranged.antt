-- The numbers of plain words are in their ranges.
use Rattle.std.proofs.Common.{◌≡◌, ℕ, List, Some}
use Rattle.words.specs.declared.command.Command.{Command}
use Rattle.words.specs.declared.command.Key.{Key}
use Rattle.words.specs.declared.command.Options.{Options}
use Rattle.words.specs.declared.command.Verb.{Verb}
use Rattle.words.specs.Plain.{Sets, size, candidates, turns, rewritten, store, HasOptions, none, more, Names, HasWords, plainly}
use Rattle.words.specs.Plain as has
use Rattle.words.specs.Reading.{plain}
use Rattle.words.proofs.Exact.{reads_plain_words}
use Rattle.qbs.specs.Within.{AreWithin, IsWithin}

set_within : {k : Key} {v : List ℕ} {o p : Options} → Sets k v o p → AreWithin o → AreWithin p
set_within (size e le) h = record { size = le; candidates = h.candidates }
set_within (candidates e one le) h = record { size = h.size; candidates = le }
set_within (turns e one le) h = record { size = h.size; candidates = h.candidates }
set_within (rewritten e) h = record { size = h.size; candidates = h.candidates }
set_within (store e) h = record { size = h.size; candidates = h.candidates }
set_within (Sets.view e) h = record { size = h.size; candidates = h.candidates }
set_within (has.tables e) h = record { size = h.size; candidates = h.candidates }
set_within (has.columns e) h = record { size = h.size; candidates = h.candidates }
set_within (Sets.check e) h = record { size = h.size; candidates = h.candidates }
set_within (Sets.schema e) h = record { size = h.size; candidates = h.candidates }

all_within : {verb : Verb} {os : List (List ℕ)} {o p : Options} → HasOptions verb os o p → AreWithin o → AreWithin p
all_within none h = h
all_within (more takes spells sets rest) h = all_within rest (set_within sets h)

named_within : {verb : Verb} {o : Options} {ts : List (List ℕ)} {c : Command} → Names verb o ts c → AreWithin o → IsWithin c
named_within has.rewrite h = h
named_within has.prove h = h
named_within Names.check h = tt
named_within has.run h = h
named_within has.sql h = tt
named_within (has.make a b) h = b
named_within has.unnest h = h
named_within has.inline h = tt
named_within has.gather h = h
named_within has.narrow h = tt
named_within Names.schema h = tt
named_within Names.view h = tt
named_within (has.map unchecked unflagged) h = tt
named_within (has.map_schema unchecked flagged) h = tt
named_within (has.check_map checked unflagged) h = tt
named_within (has.check_map_in checked unflagged) h = tt

words_within : {words : List (List ℕ)} {c : Command} → HasWords words c → IsWithin c
words_within (plainly options others names) = named_within names (all_within options (record { size = tt; candidates = tt }))

pub within : (words : List (List ℕ)) (c : Command) → plain words ≡ Some c → IsWithin c
within words c e = words_within ((reads_plain_words words c).0 e)
