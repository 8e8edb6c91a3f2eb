-- Canonical texts look at no places.
use Rattle.std.proofs.Common.{◌≡◌, ℕ, ◌-◌, List, [], ◌∷◌, ◌++◌, Some, None, codes, refl, sym, ap, ◌∙◌}
use Rattle.std.specs.List.{flat_map}
use Rattle.java_ast.specs.Tree.{Expression, Lit, Var, Field, Binary, Not, Equals, Size, Get, Contains, Fetch, Query, QueryLong, QueryBoolean, NewList, NewSet, NewSetOf, Expressions, NoMore, And, Statement, Declare, Assign, Add, Sort, If, IfElse, ForEach, While, Print, Return, Break, Statements, Nothing, Then, PlainMethod, PlainProgram}
use Rattle.java_ast.specs.Unplaced.{unplaced, unplaced_all, unplaced_statement, unplaced_block, unplaced_method, unplaced_methods, unplaced_program}
use Rattle.java_text.specs.Canonical.{line_end, indent, separated, rank_of, canonical_expression, canonical_arguments, canonical_statement, canonical_statements, canonical_method, package_text, imports_text, class_text, canonical}

mutual
  bare_expression : (most : ℕ) (e : Expression) → canonical_expression most (unplaced e) ≡ canonical_expression most e
  bare_expression most (Lit at value) = refl
  bare_expression most (Var at name) = refl
  bare_expression most (Field at row name) = simp (bare_expression 1 row)
  bare_expression most (Binary at op a b) = simp (bare_expression (rank_of op) a, bare_expression (rank_of op - 1) b)
  bare_expression most (Not at e) = simp (bare_expression 2 e)
  bare_expression most (Equals at a b) = simp (bare_expression 1 a, bare_expression 8 b)
  bare_expression most (Size at name) = refl
  bare_expression most (Get at name e) = simp (bare_expression 8 e)
  bare_expression most (Contains at name e) = simp (bare_expression 8 e)
  bare_expression most (Fetch at table) = refl
  bare_expression most (Query at element text arguments) = simp (bare_arguments arguments)
  bare_expression most (QueryLong at text arguments) = simp (bare_arguments arguments)
  bare_expression most (QueryBoolean at text arguments) = simp (bare_arguments arguments)
  bare_expression most (NewList at) = refl
  bare_expression most (NewSet at) = refl
  bare_expression most (NewSetOf at query) = simp (bare_expression 8 query)

  bare_arguments : (es : Expressions) → canonical_arguments (unplaced_all es) ≡ canonical_arguments es
  bare_arguments NoMore = refl
  bare_arguments (And e es) = simp (bare_expression 8 e, bare_arguments es)

mutual
  bare_statement : (margin : List ℕ) (s : Statement) → canonical_statement margin (unplaced_statement s) ≡ canonical_statement margin s
  bare_statement margin (Declare at ty name value) = simp (bare_expression 8 value)
  bare_statement margin (Assign at name value) = simp (bare_expression 8 value)
  bare_statement margin (Add at name value) = simp (bare_expression 8 value)
  bare_statement margin (Sort at name keys downs) = refl
  bare_statement margin (If at cond first) = simp (bare_expression 8 cond, bare_statements (margin ++ indent) first)
  bare_statement margin (IfElse at cond first other) = simp (bare_expression 8 cond, bare_statements (margin ++ indent) first, bare_statements (margin ++ indent) other)
  bare_statement margin (ForEach at ty name list body) = simp (bare_expression 8 list, bare_statements (margin ++ indent) body)
  bare_statement margin (While at cond body) = simp (bare_expression 8 cond, bare_statements (margin ++ indent) body)
  bare_statement margin (Print at value) = simp (bare_expression 8 value)
  bare_statement margin (Return at None) = refl
  bare_statement margin (Return at (Some value)) = simp (bare_expression 8 value)
  bare_statement margin (Break at) = refl

  bare_statements : (margin : List ℕ) (ss : Statements) → canonical_statements margin (unplaced_block ss) ≡ canonical_statements margin ss
  bare_statements margin Nothing = refl
  bare_statements margin (Then s ss) = simp (bare_statement margin s, bare_statements margin ss)

bare_method : (m : PlainMethod) → canonical_method (unplaced_method m) ≡ canonical_method m
bare_method m = simp (bare_statements (indent ++ indent) m.body)

abbrev further_text : List PlainMethod → List ℕ
further_text ms = flat_map (λ m. line_end ++ canonical_method m) ms

bare_further : (ms : List PlainMethod) → further_text (unplaced_methods ms) ≡ further_text ms
bare_further [] = refl
bare_further (m ∷ ms) =
    ap (λ (t : List ℕ). (line_end ++ t) ++ further_text (unplaced_methods ms)) (bare_method m)
    ∙ ap (λ (t : List ℕ). (line_end ++ canonical_method m) ++ t) (bare_further ms)

bare_methods : (ms : List PlainMethod) → separated line_end canonical_method (unplaced_methods ms) ≡ separated line_end canonical_method ms
bare_methods [] = refl
bare_methods (m ∷ ms) =
    ap (λ (t : List ℕ). t ++ further_text (unplaced_methods ms)) (bare_method m)
    ∙ ap (λ (t : List ℕ). canonical_method m ++ t) (bare_further ms)

bare_program : (p : PlainProgram) → canonical (unplaced_program p) ≡ canonical p
bare_program p =
    ap (λ (t : List ℕ). package_text p.«package» ++ imports_text p.imports ++ class_text p.public p.name ++ t ++ (codes "}" ++ line_end)) (bare_methods p.methods)

-- programs that are the same but for places have one canonical text
pub same_text : (p q : PlainProgram) → unplaced_program p ≡ unplaced_program q → canonical p ≡ canonical q
same_text p q e = sym (bare_program p) ∙ (ap canonical e ∙ bare_program q)
