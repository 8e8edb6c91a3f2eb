-- What is read of tokens with calls spelled out is what the tokens have.
use Rattle.std.proofs.Common.{◌≡◌, List, Result, Ok, Err, refl, sym, ap, subst, ◌∙◌}
use Rattle.qbs_base.specs.declared.memory.Fail.TheVariants as fails
use Rattle.java_lex.specs.declared.token.Token.{Token}
use Rattle.java_lex.specs.declared.token.Tokens.{Tokens}
use Rattle.java_ast.specs.Tree.{PlainProgram}
use Rattle.java_grammar.specs.Grammar.{HasProgram}
use Rattle.java_parser.specs.declared.fault.ParseFault.{ParseFault}
use Rattle.java_parser.specs.Kept.{IsKept}
use Rattle.java_parser.specs.Parsed.{parsed}
use Rattle.java_parser.proofs.ParsedLaws.{parsed_is_program, program_is_parsed, fault_is_kept}
use Rattle.call_reader.specs.SpelledOut.{Elsewhere}
use Rattle.call_reader.specs.WithCalls.{IsReadableWithCalls, IsFaultWithCalls, tokens_spelled_out, numbered, with_number, parsed_with_calls}
use Rattle.call_reader.proofs.Places.{place_same}

abbrev read_as : PlainProgram → Result PlainProgram ParseFault
read_as p = Ok p

with_number_ok : (ts : List Token) (read : Result PlainProgram ParseFault) (p : PlainProgram) → with_number ts read ≡ Ok p → read ≡ Ok p
with_number_ok ts (Ok q) p e = let same : q ≡ p = cc in ap read_as same
with_number_ok ts (Err f) p e = absurd cc

with_number_err : (ts : List Token) (read : Result PlainProgram ParseFault) (f : ParseFault) → with_number ts read ≡ Err f → (g : ParseFault) × (read ≡ Err g) × (numbered ts g ≡ f)
with_number_err ts (Ok q) f e = absurd cc
with_number_err ts (Err g) f e = (g, refl, cc)

pub read_is_program : (tokens : Tokens) (p : PlainProgram) → parsed_with_calls tokens ≡ Ok p → IsReadableWithCalls tokens.list p
read_is_program tokens p e = parsed_is_program (tokens_spelled_out tokens) p (with_number_ok tokens.list (parsed (tokens_spelled_out tokens)) p e)

pub program_is_read : (tokens : Tokens) (p : PlainProgram) → IsReadableWithCalls tokens.list p → parsed_with_calls tokens ≡ Ok p
program_is_read tokens p has = ap (λ (read : Result PlainProgram ParseFault). with_number tokens.list read) (program_is_parsed (tokens_spelled_out tokens) p has)

pub kept_is_fault : (tokens : Tokens) (g : ParseFault) → IsKept HasProgram (tokens_spelled_out tokens) (fails.Fault g) → IsFaultWithCalls tokens (numbered tokens.list g)
kept_is_fault tokens g h = record { place = h.0 ∙ place_same tokens.end Elsewhere tokens.list g.token; spelled = g.token; number = refl; broken = h.1 }

pub read_is_fault : (tokens : Tokens) (f : ParseFault) → parsed_with_calls tokens ≡ Err f → IsFaultWithCalls tokens f
read_is_fault tokens f e =
    let found = with_number_err tokens.list (parsed (tokens_spelled_out tokens)) f e in
    subst (IsFaultWithCalls tokens) found.2 (kept_is_fault tokens found.0 (fault_is_kept (tokens_spelled_out tokens) found.0 found.1))
