use Rattle.kept_texts.proofs.Readings.{tells_none, tells_other, tells_same}
use Rattle.kept_texts.proofs.reading.is_read_as.Goals as goal

pub returns-in-None : goal.returns-in-None
returns-in-None c = tells_none c.args.text.now c.args.canonical.now c.in_ok-program_of.field-0 c.in_ok-program_of.ensures.only c.in-None.is

pub returns-then-branch : goal.returns-then-branch
returns-then-branch c =
    tells_same c.args.text.now c.args.canonical.now c.in_ok-program_of.field-0 c.in-Some.program c.in_ok-is_text_of-in-Some.field-0 c.has_program.result
    c.in_ok-program_of.ensures.found c.in-Some.is c.in_ok-is_text_of-in-Some.ensures c.if-branch.true c.has_program.ensures.some c.has_program.ensures.one

pub returns : goal.returns
returns c =
    tells_other c.args.text.now c.args.canonical.now c.in_ok-program_of.field-0 c.in-Some.program c.in_ok-is_text_of-in-Some.field-0
    c.in_ok-program_of.ensures.only c.in-Some.is c.in_ok-is_text_of-in-Some.ensures c.if-branch.false
