use Rattle.std.proofs.Common.{◌≡◌, List, sym, ap, subst, ◌∙◌}
use Rattle.qbs_base.specs.Memory.{IsNoMemory}
use Rattle.qbs_base.specs.declared.memory.Fail.{Fail}
use Rattle.java_lex.specs.declared.token.Token.{Token}
use Rattle.java_lex.specs.declared.token.Tokens.{Tokens}
use Rattle.java_grammar.specs.Grammar.{HasProgram, IsReadable}
use Rattle.java_parser.specs.declared.fault.ParseFault.{ParseFault}
use Rattle.java_parser.specs.Kept.{IsKept}
use Rattle.call_reader.specs.WithCalls.{IsFaultWithCalls, tokens_spelled_out, numbered}
use Rattle.call_reader.proofs.Answered.{kept_is_fault}
use Rattle.call_reader.proofs.read.read_helpers.Goals as goal

pub returns-in-Ok-clause-only : goal.returns-in-Ok-clause-only
returns-in-Ok-clause-only c x has = c.in-Ok.ensures.only x (subst (λ (ts : Tokens). IsReadable ts.list x) (sym c.in_ok-spelled.ensures) has)

pub returns-clause-only : goal.returns-clause-only
returns-clause-only c x has =
    subst IsNoMemory c.in-Err-Fault.field-0-is
    (c.in-Err-Fault.ensures.only x (subst (λ (ts : Tokens). IsReadable ts.list x) (sym c.in_ok-spelled.ensures) has))

pub returns-clause-fault : goal.returns-clause-fault
returns-clause-fault c =
    subst (IsFaultWithCalls c.args.tokens.now)
    (sym (c.in_ok-fault-in-Err-Fault.ensures ∙ ap (λ (ts : List Token). numbered ts c.in-Err-Fault.fault) c.as_slice.ensures))
    (kept_is_fault c.args.tokens.now c.in-Err-Fault.fault
    (subst (λ (e : Fail ParseFault). IsKept HasProgram (tokens_spelled_out c.args.tokens.now) e) c.in-Err-Fault.field-0-is
    (subst (λ (ts : Tokens). IsKept HasProgram ts c.in-Err-Fault.field-0) c.in_ok-spelled.ensures c.in-Err-Fault.ensures.fault)))
