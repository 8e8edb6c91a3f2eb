-- The fault of tokens that is kept, with its place and the number of its token.
use Rattle.std.specs.Prelude.{◌≡◌, ◌-◌, ℕ, List, length, slice_get, Option, Some, None}
use Rattle.qbs_base.specs.declared.span.Span.{Span}
use Rattle.qbs_base.specs.declared.memory.Fail.{Fail}
use Rattle.qbs_base.specs.declared.memory.Fail.TheVariants as fails
use Rattle.java_lex.specs.declared.token.Token.{Token}
use Rattle.java_lex.specs.declared.token.Tokens.{Tokens}
use Rattle.readers.specs.declared.fault.Fault.TheVariants as faults
use Rattle.readers.specs.declared.fault.ReadError.{ReadError}
use Rattle.readers.specs.declared.fault.ReadError.TheVariants as errors
use Rattle.java_parser.specs.declared.fault.ParseRule.{ParseRule}
use Rattle.java_parser.specs.declared.fault.ParseRule.TheVariants as rules
use Rattle.java_parser.specs.declared.fault.ParseFault.{ParseFault}
use Rattle.java_grammar.specs.Rules.{Rule}
use Rattle.java_grammar.specs.Faults.{IsUnexpected, IsTooDeep}

-- the place of a token, or the end where there is none
abbrev pub place_or : Span → Option Token → Span
place_or end None = end
place_or end (Some t) = t.span

abbrev pub place_of : Tokens → ℕ → Span
place_of tokens n = place_or tokens.end (slice_get tokens.list n)

-- the fault at the token before which so many are read that these are left
abbrev pub fault_at : Tokens → ParseRule → ℕ → ParseFault
fault_at tokens rule left = record { rule = rule; at = place_of tokens (length tokens.list - left); token = length tokens.list - left }

abbrev pub kept : Tokens → ReadError → Fail ParseFault
kept tokens errors.Memory = fails.NoMemory
kept tokens (errors.Fault (faults.Unexpected left)) = fails.Fault (fault_at tokens rules.Unexpected left)
kept tokens (errors.Fault (faults.TooDeep left)) = fails.Fault (fault_at tokens rules.TooDeep left)

abbrev pub IsBroken : {A : Type 0} → Rule A → List Token → ParseRule → ℕ → Type 0
IsBroken G ts rules.Unexpected n = IsUnexpected G ts n
IsBroken G ts rules.TooDeep n = IsTooDeep G ts n

-- the rule is broken at this token, and the place is that of the token, or the end of the text
abbrev pub IsKept : {A : Type 0} → Rule A → Tokens → Fail ParseFault → Type 0
IsKept G tokens (fails.Fault f) = (f.at ≡ place_of tokens f.token) × IsBroken G tokens.list f.rule f.token
IsKept G tokens fails.NoMemory = Unit {0}
