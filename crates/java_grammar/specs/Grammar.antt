-- Which tokens have a program.
use Rattle.std.specs.Prelude.{ℕ, pred, List, [], ◌∷◌, ◌++◌, Bool, true, false, Option, Some, None, codes}
use Rattle.java_lex.specs.declared.token.Token.{Token}
use Rattle.java_ast.specs.declared.tree.Access.{Access}
use Rattle.java_ast.specs.declared.tree.Access.TheVariants as accesses
use Rattle.java_ast.specs.Tree.{Spelled, PlainParam, PlainMethod, PlainProgram}
use Rattle.java_limits.specs.Limits.{deepest}
use Rattle.java_grammar.specs.Marks.{Tok, all_strict, all_free}
use Rattle.java_grammar.specs.Rules.{Rule, Empty, One, Word, Sign, Opening, Seq, Or, Made, Placed, Many}
use Rattle.java_grammar.specs.Words.{by_word, name_in, scalar_type}
use Rattle.java_grammar.specs.Types.{Spelling}
use Rattle.java_grammar.specs.Statements.{Parenthesised, HasBlock}

-- ---- methods

abbrev pub Reached : Rule Access
Reached = Or (Made (λ x. accesses.Public) (Word (codes "public"))) (Or (Made (λ x. accesses.Private) (Word (codes "private"))) (Empty accesses.Plain))

-- whether a word stands here
abbrev pub Whether : List ℕ → Rule Bool
Whether text = Or (Made (λ x. true) (Word text)) (Empty false)

abbrev pub Result : Rule (Option Spelled)
Result = Or (Made (λ x. None) (Word (codes "void"))) (Made (λ x. Some x) Spelling)

abbrev pub Parameter : Rule PlainParam
Parameter = Made (λ x. record { ty = x.0; name = x.1 }) (Seq (One (by_word scalar_type)) (One name_in))

-- a comma and a parameter
abbrev pub NextParameter : Rule PlainParam
NextParameter = Made (λ x. x.1) (Seq (Sign (codes ",")) Parameter)

abbrev pub Parameters : Rule (List PlainParam)
Parameters = Or (Made (λ x. x.0 ∷ x.1) (Seq Parameter (Many NextParameter))) (Empty [])

abbrev pub Method : ℕ → Rule PlainMethod
Method room =
    Placed (λ at x. record { access = x.0; fixed = x.1.0; result = x.1.1.0; name = x.1.1.1.0; params = x.1.1.1.1.0; body = x.1.1.1.1.1; span = at })
    (Seq Reached (Seq (Whether (codes "static")) (Seq Result (Seq (One name_in) (Seq (Parenthesised room Parameters) (HasBlock room))))))

-- ---- programs

-- names with dots between, as they are written, behind the first one; a `*` may be the last where it is an import
pub data HasDotted : Bool → List Tok → List ℕ → Type 0 where
  ended : {star : Bool} → HasDotted star [] []
  starred : {us vs : List Tok} → Sign (codes ".") us tt → Sign (codes "*") vs tt → HasDotted true (us ++ vs) (codes ".*")
  dotted : {star : Bool} {us vs ws : List Tok} {w rest : List ℕ} → Sign (codes ".") us tt → One name_in vs w → HasDotted star ws rest → HasDotted star (us ++ (vs ++ ws)) (codes "." ++ (w ++ rest))

-- word a . b . c ;
abbrev pub Dotted : List ℕ → Bool → Rule (List ℕ)
Dotted word star = Made (λ x. x.1.0 ++ x.1.1.0) (Seq (Word word) (Seq (One name_in) (Seq (HasDotted star) (Sign (codes ";")))))

abbrev pub Package : Rule (Option (List ℕ))
Package = Or (Made (λ x. Some x) (Dotted (codes "package") false)) (Empty None)

-- class name { methods }
abbrev pub Class : ℕ → Rule (List ℕ × List PlainMethod)
Class room = Made (λ x. (x.1.0, x.1.1.1.0)) (Seq (Word (codes "class")) (Seq (One name_in) (Seq (Opening room (codes "{")) (Seq (Many (Method (pred room))) (Sign (codes "}"))))))

-- a program, where so many things may be open at a token
abbrev pub ProgramIn : ℕ → Rule PlainProgram
ProgramIn room =
    Made (λ x. record { «package» = x.0; imports = x.1.0; public = x.1.1.0; name = x.1.1.1.0; methods = x.1.1.1.1 })
    (Seq Package (Seq (Many (Dotted (codes "import") true)) (Seq (Whether (codes "public")) (Class room))))

abbrev pub HasProgram : Rule PlainProgram
HasProgram = ProgramIn deepest

-- the tokens have this program, depth left aside
abbrev pub IsProgram : List Token → PlainProgram → Type 0
IsProgram ts p = HasProgram (all_free ts) p

-- and none of the tokens is too deep
abbrev pub IsReadable : List Token → PlainProgram → Type 0
IsReadable ts p = HasProgram (all_strict ts) p
