use Rattle.scalar_readers.proofs.ExactChars.{exact_char}
use Rattle.scalar_readers.proofs.chars.character.Goals as goal

-- what is read is a character
pub unreachable-requires : goal.unreachable-requires
unreachable-requires c = c.in-None.ensures.value (exact_char.lawful.found c.args.bytes.now (c.in_ok-code.code, c.in_ok-code.rest.now) c.in_ok-code.ensures.exact).has.1
