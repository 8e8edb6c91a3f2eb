use Rattle.std.proofs.Common.{◌≡◌, ◌-◌, length}
use Rattle.readers.specs.Reading.{up_to}
use Rattle.schema.specs.Tokens.{kinds_of}
use Rattle.schema.specs.Reading.{never, draft_at, drafts_at}
use Rattle.readers.proofs.Loops.{with_front}
use Rattle.schema_text.proofs.parsing.drafts.Given as goal

abbrev pub invariant-loop : goal.invariant-loop
invariant-loop l = with_front l.drafts.items (up_to never draft_at (length l.tokens - l.counter) (kinds_of l.rest)) ≡ drafts_at (kinds_of l.tokens)
