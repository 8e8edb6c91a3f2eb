use Rattle.std.proofs.Common.{arith}
use Rattle.std.proofs.lemmas.List.{length-map}
use Rattle.schema.specs.Tokens.{kinds_of}
use Rattle.schema_text.proofs.Whole.{read_within}
use Rattle.schema_text.proofs.schemas.judge.Goals as goal

pub overflow_sub-list : goal.overflow_sub-list
overflow_sub-list c =
    let within = read_within (kinds_of c.as_slice-list.result.now) c.in-Err-Fault.fault (rw c.in-Err-Fault.field-0-is at c.in-Err-Fault.ensures) in
    let count = length-map c.as_slice-list.result.now (λ t. t.kind) in
    let left = c.left-behind.ensures in
    omega (arith, within, count, left)
