-- Programs of the grammar have plain types.
use Rattle.std.proofs.Common.{◌≡◌, Bool, true, false, not, List, [], ◌∷◌, refl}
use Rattle.std.specs.List.{list_all}
use Rattle.std.specs.Prelude.{◌&&◌, ℕ, Option}
use Rattle.qbs_base.specs.Values.{Schema}
use Rattle.sql_ast.specs.Tree.{PlainQuery}
use Rattle.java_ast.specs.Tree.{Spelled, Int, Long, Boolean, String, Table, ListOf, SetOf, Declare, Statements, Nothing, Then, PlainParam, PlainMethod, PlainProgram}
use Rattle.java_mean.specs.Statement.{is_set_type}
use Rattle.java_mean.specs.WellTyped.{IsWellTyped}
use Rattle.java_grammar.specs.InGrammar.{IsScalarType, IsType, InStatements, InParams, InMethods, IsInGrammar}
use Rattle.java_calls.specs.Inlining.{IsInlined}
use Rattle.java_calls.specs.KeepsCalls.{KeepsCalls}
use Rattle.java_calls.specs.Rules.{BreaksNone}
use Rattle.inlined_types.specs.PlainTypes.{is_boxed, declares_unboxed, HavePlainTypes}
use Rattle.inlined_types.proofs.Fit.{kept}

both : (a b : Bool) → a ≡ true → b ≡ true → (a && b) ≡ true
both true b h i = i
both false b h i = absurd cc

scalar_is_no_set : (ty : Spelled) → IsScalarType ty → not (is_set_type ty) ≡ true
scalar_is_no_set Int h = refl
scalar_is_no_set Long h = refl
scalar_is_no_set Boolean h = refl
scalar_is_no_set String h = refl
scalar_is_no_set _ h = absurd h

no_sets : (ps : List PlainParam) → InParams ps → list_all (λ (p : PlainParam). not (is_set_type p.ty)) ps ≡ true
no_sets [] h = refl
no_sets (p ∷ ps) h = both (not (is_set_type p.ty)) (list_all (λ (p : PlainParam). not (is_set_type p.ty)) ps) (scalar_is_no_set p.ty h.0) (no_sets ps h.2)

type_is_no_box : (ty : Spelled) → IsType ty → not (is_boxed ty) ≡ true
type_is_no_box Int h = refl
type_is_no_box Long h = refl
type_is_no_box Boolean h = refl
type_is_no_box String h = refl
type_is_no_box (Table name) h = refl
type_is_no_box (ListOf e) h = refl
type_is_no_box (SetOf e) h = refl
type_is_no_box _ h = absurd h

no_boxes : (p : Statements) → InStatements p → declares_unboxed p ≡ true
no_boxes Nothing h = refl
no_boxes (Then (Declare at ty x e) p) h = both (not (is_boxed ty)) (declares_unboxed p) (type_is_no_box ty h.0.0) (no_boxes p h.1)
no_boxes (Then _ p) h = no_boxes p h.1

methods_plain : (ms : List PlainMethod) → InMethods ms → HavePlainTypes ms
methods_plain [] h = tt
methods_plain (m ∷ ms) h = (both (list_all (λ (p : PlainParam). not (is_set_type p.ty)) m.params) (declares_unboxed m.body) (no_sets m.params h.0.params) (no_boxes m.body h.0.body), methods_plain ms h.1)

pub plain_types : (p : PlainProgram) → IsInGrammar p → HavePlainTypes p.methods
plain_types p h = methods_plain p.methods h.methods

pub grammar_keeps : (schema : Schema) (read : List ℕ → Option PlainQuery) (p q : PlainProgram) → IsInGrammar p → BreaksNone p → IsInlined p q → IsWellTyped schema read q → KeepsCalls p q schema
grammar_keeps schema read p q h none is typed = kept schema read p q (plain_types p h) none is typed
