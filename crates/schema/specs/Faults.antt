-- What the fault of a text that is no schema says of it, by the grammar.
use Rattle.std.specs.Prelude.{◌≡◌, ℕ, List, ◌++◌, length, Some, None, ◌⊎◌}
use Rattle.readers.specs.Reading.{BeginsOne, IsFirstFault}
use Rattle.qbs_base.specs.declared.memory.Fail.{Fail}
use Rattle.qbs_base.specs.declared.memory.Fail.TheVariants as fails
use Rattle.schema.specs.declared.token.Token.{Token}
use Rattle.schema.specs.declared.names.Where.TheVariants.{Create}
use Rattle.schema.specs.declared.fault.SchemaRule.TheVariants.{BadToken}
use Rattle.schema.specs.declared.fault.SchemaFault.{SchemaFault}
use Rattle.schema.specs.Tokens.{tokens_of, kinds_of, end_of}
use Rattle.schema.specs.Grammar.{HasSchema}
use Rattle.schema.specs.Naming.{declared_before, nothing_seen, first_broken}
use Rattle.schema.specs.Schemas.{last_from, first_span}

-- some schema begins with the tokens before, none goes on with the token there, and no name before breaks a rule
pub record IsBadToken (text : List ℕ) (fault : SchemaFault) : Type 0 where
  pub left : ℕ
  pub first : IsFirstFault HasSchema (kinds_of (tokens_of text)) left
  pub unbroken : first_broken nothing_seen (declared_before left Create (tokens_of text)) ≡ None
  pub rule : fault.rule ≡ BadToken
  pub place : fault.at ≡ first_span (end_of text) (last_from left (tokens_of text))

-- Some schema begins with these tokens, and of the names that they declare this is the first that breaks a rule. What a token
-- declares is said of the whole text: PRIMARY before KEY is no name, also where KEY is the first token behind these.
pub record IsBadName (text : List ℕ) (fault : SchemaFault) : Type 0 where
  pub front : List Token
  pub rest : List Token
  pub parts : tokens_of text ≡ front ++ rest
  pub begins : BeginsOne HasSchema (kinds_of front)
  pub first : first_broken nothing_seen (declared_before (length rest) Create (tokens_of text)) ≡ Some fault

abbrev pub IsFaultOf : List ℕ → SchemaFault → Type 0
IsFaultOf text fault = IsBadToken text fault ⊎ IsBadName text fault

abbrev pub IsRightFault : List ℕ → Fail SchemaFault → Type 0
IsRightFault text (fails.Fault fault) = IsFaultOf text fault
IsRightFault text fails.NoMemory = Unit {0}
