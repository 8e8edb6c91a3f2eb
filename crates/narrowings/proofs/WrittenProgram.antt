-- The program in which a walk is narrowed is of the grammar, and can be written.
use Rattle.std.proofs.Common.{◌≡◌, ℕ, suc, ◌≤◌, true, List, [], ◌∷◌, ◌++◌, Option, Some, None, refl, sym, ap, ◌∙◌, subst, arith}
use Rattle.std.specs.Prelude.{nat_eq, slice_get}
use Rattle.std.specs.List.{AllByRecursion}
use Rattle.std.specs.Str.{IsUtf8}
use Rattle.qbs_base.specs.declared.scalar.Ty.{Ty}
use Rattle.qbs_base.specs.declared.span.Span.{Span}
use Rattle.qbs_base.specs.Columns.{columns_at}
use Rattle.qbs_base.specs.Values.{Schema}
use Rattle.sql_ast.specs.Tree.{Condition, Listing}
use Rattle.sql_ast.specs.Utf8.{ConditionIsUtf8}
use Rattle.sql_ast.proofs.Utf8.{canonical_is_utf8}
use Rattle.java_ast.specs.Path.{found_in, statement_in, behind_of, first_of, last_of, with_body, with_methods, replaced_in, replaced_at}
use Rattle.java_ast.specs.Tree as tree
use Rattle.java_ast.specs.Tree.{Spelled, Expression, Expressions, Statement, Statements, Nothing, Then, PlainMethod, PlainProgram}
use Rattle.java_grammar.specs.InGrammar.{InExpression, InExpressions, InStatements, IsInGrammar}
use Rattle.java_grammar.specs.Written.{WrittenExpression, WrittenExpressions, WrittenStatements, IsWritten}
use Rattle.java_mean.specs.Asks.{frame_of}
use Rattle.java_mean.specs.Numbers.{NumbersFit}
use Rattle.java_mean.specs.Queries.{Reader}
use Rattle.java_mean.specs.Refines.{Hole, fill, behind, types_at, IsTypedPlace}
use Rattle.java_mean.specs.Types.{Types, types_of_params}
use Rattle.java_mean.specs.Typing.{Frame, HaveTypes}
use Rattle.java_mean.specs.WellTyped.{IsWellTyped}
use Rattle.java_mean.proofs.TypedPlaces.{places_typed}
use Rattle.java_loops.specs.Walks.Places.{place_in, run_in}
use Rattle.java_loops.specs.Walks.Replacing.{run_and_loop}
use Rattle.java_loops.proofs.Walks.Placed.{replaced_fills, whole_fills}
use Rattle.java_loops.proofs.Walks.PlacedPrograms.{MethodAt, method_at}
use Rattle.spreads.specs.Alone.{times_named, is_variable, walks_alone}
use Rattle.spreads.specs.Narrowed.{all_read, condition_of, query_of_body, outer_block, narrowed_each, narrowed_in, narrowed_at}
use Rattle.spreads.specs.Staying.{assigned_among}
use Rattle.spreads.proofs.Named.{others, once}
use Rattle.narrowings.specs.Words.{HasWords}
use Rattle.narrowings.proofs.Args.{have_types}
use Rattle.narrowings.proofs.Cases.{by_each}
use Rattle.narrowings.proofs.Conjuncts.{all_conditions}
use Rattle.narrowings.proofs.Loop.{asked, arguments, parts_are, text_of}
use Rattle.narrowings.proofs.Parts.{both_so, PartIs}
use Rattle.narrowings.proofs.Places.{Leads, leads_to, numbered_behind, rest_behind, none_first, one_first}
use Rattle.narrowings.proofs.Program.{body_of, parts_in, read_in, IsQueryFor, IsBodyQuery, body_query, WalkIs, each_walk, pair_walk, var_is}
use Rattle.narrowings.proofs.Query.{all_asked, asked_valid}
use Rattle.narrowings.proofs.Filled.{program_in, program_written}
use Rattle.narrowings.proofs.WrittenParts.{taken_all, arguments_all, expressions_in, expressions_written, part_utf8}

-- what holds of two lists' members, one by one
both_each : (P Q R : Expression → Type 0) → ((e : Expression) → P e → Q e → R e) → (es : List Expression) → AllByRecursion P es → AllByRecursion Q es → AllByRecursion R es
both_each P Q R f [] h k = tt
both_each P Q R f (e ∷ es) h k = (f e h.0 k.0, both_each P Q R f es h.1 k.1)

in_arguments : (x : List ℕ) (at : Span) (test : Expression) (inside : Statements) → InExpression test → InExpressions (read_in x at test inside)
in_arguments x at test inside h = expressions_in (all_read x [] (parts_in x at test inside)) (arguments_all InExpression (λ at op a b k. k) (λ at a k. k) (λ at a b k. k) x (assigned_among (body_of at test inside)) test h)

written_arguments : (x : List ℕ) (at : Span) (test : Expression) (inside : Statements) → WrittenExpression test → WrittenExpressions (read_in x at test inside)
written_arguments x at test inside h = expressions_written (all_read x [] (parts_in x at test inside)) (arguments_all WrittenExpression (λ at op a b k. k) (λ at a k. k) (λ at a b k. k) x (assigned_among (body_of at test inside)) test h)

module _ (schema : Schema) (words : HasWords schema) (reader : Reader schema) (p : PlainProgram) (i n : ℕ) (path : List ℕ) (m : PlainMethod) (block : Statements) where
  abbrev frame : Frame
  frame = frame_of schema reader.read m

  abbrev params : Types
  params = types_of_params schema m.params

  -- the new statements are of the grammar and can be written, where the old ones are and can
  pub record Given (old new : Statements) : Type 0 where
    pub inside : InStatements old → InStatements new
    pub written : WrittenStatements old → WrittenStatements new

  abbrev May : Hole → Statements → Statements → Type 0
  May hole old new = IsTypedPlace frame None params hole old → Given old new

  module _ (hole : Hole) (name x : List ℕ) (at1 at : Span) (test : Expression) (inside : Statements) (q : Expression) (asks : IsQueryFor schema name x at1 at test inside q) (walk : WalkIs schema (all_asked schema words) p i n path m block reader hole x asks.table at test inside) where
    abbrev before : Types
    before = types_at schema params hole

    abbrev body : Statements
    body = body_of at test inside

    abbrev asking : Expression
    asking = tree.Query at1 (tree.Table name) (text_of name asks.table asks.condition) (read_in x at test inside)

    typed_args : (types : List Ty) × HaveTypes frame before (read_in x at test inside) types
    typed_args = have_types frame before (assigned_among body) (all_read x [] (parts_in x at test inside)) (arguments schema reader m before x name asks.table asks.number at test inside walk.new walk.end walk.typed)

    condition_utf8 : WrittenExpression test → ConditionIsUtf8 asks.condition
    condition_utf8 h =
        let parts : List Expression = parts_in x at test inside in
        let args = all_read x [] parts in
        all_conditions (columns_at schema asks.table) x args ConditionIsUtf8 (λ a b u v. (u, v)) parts
        (both_each (λ e. (d : Condition) → condition_of (columns_at schema asks.table) x args e ≡ Some d → PartIs frame before x asks.table args e d) WrittenExpression (λ e. (d : Condition) → condition_of (columns_at schema asks.table) x args e ≡ Some d → ConditionIsUtf8 d) (λ e part w d is. part_utf8 frame before x asks.table args e d (part d is) w) parts (parts_are schema reader m before x name asks.table asks.number at test inside walk.new walk.end walk.typed) (taken_all WrittenExpression (λ at op a b k. k) (λ at a k. k) (λ at a b k. k) x (assigned_among body) test h))
        asks.condition asks.is

    text_utf8 : WrittenExpression test → IsUtf8 (text_of name asks.table asks.condition)
    text_utf8 h = canonical_is_utf8 schema (Listing (asked name asks.table asks.condition typed_args.0)) (asked_valid schema words reader m before x name asks.table asks.number at test inside walk.new walk.end walk.typed asks.condition asks.is typed_args.0 typed_args.1) (condition_utf8 h)

    each_given : (at2 : Span) (ty : Spelled) → Given (Then (tree.ForEach at2 ty x (tree.Fetch at1 name) body) Nothing) (Then (tree.ForEach at2 ty x asking body) Nothing)
    each_given at2 ty = record {
      inside = λ h. ((h.0.0, h.0.1, (h.0.2, in_arguments x at test inside h.0.3.0.0), h.0.3), h.1);
      written = λ h. ((h.0.0, h.0.1, (h.0.2, text_utf8 h.0.3.0.0, written_arguments x at test inside h.0.3.0.0), h.0.3), h.1);
    }

    pair_given : (at3 : Span) (ty3 : Spelled) (v : List ℕ) (at2 : Span) (ty : Spelled) (e : Expression) → Given (Then (tree.Declare at3 ty3 v (tree.Fetch at1 name)) (Then (tree.ForEach at2 ty x e body) Nothing)) (Then (tree.Declare at3 ty3 v asking) (Then (tree.ForEach at2 ty x e body) Nothing))
    pair_given at3 ty3 v at2 ty e = record {
      inside = λ h. ((h.0.0, h.0.1, (h.0.2, in_arguments x at test inside h.1.0.3.0.0)), h.1);
      written = λ h. ((h.0.0, h.0.1, (h.0.2, text_utf8 h.1.0.3.0.0, written_arguments x at test inside h.1.0.3.0.0)), h.1);
    }

  pub each_place : (hole : Hole) (at2 : Span) (ty : Spelled) (x : List ℕ) (e : Expression) (body : Statements) (q : Expression) → IsBodyQuery schema e x body q → May hole (Then (tree.ForEach at2 ty x e body) Nothing) (Then (tree.ForEach at2 ty x q body) Nothing)
  each_place hole at2 ty x e body q b =
      subst (λ z. May hole (Then (tree.ForEach at2 ty x z body) Nothing) (Then (tree.ForEach at2 ty x q body) Nothing)) (sym b.list)
      (subst (λ z. May hole (Then (tree.ForEach at2 ty x (tree.Fetch b.at1 b.name) z) Nothing) (Then (tree.ForEach at2 ty x q z) Nothing)) (sym b.body_is)
      (subst (λ z. May hole (Then (tree.ForEach at2 ty x (tree.Fetch b.at1 b.name) (body_of b.at b.test b.inside)) Nothing) (Then (tree.ForEach at2 ty x z (body_of b.at b.test b.inside)) Nothing)) b.asks.query_is
      (λ place. each_given hole b.name x b.at1 b.at b.test b.inside q b.asks (each_walk schema (all_asked schema words) p i n path m block reader hole b.name x b.at1 b.at b.test b.inside q b.asks at2 ty place) at2 ty)))

  abbrev PairMay : Hole → Span → Spelled → List ℕ → Span → Spelled → List ℕ → Expression → Expression → Expression → Statements → Type 0
  PairMay hole at3 ty3 v at2 ty x value q e body = May hole (Then (tree.Declare at3 ty3 v value) (Then (tree.ForEach at2 ty x e body) Nothing)) (Then (tree.Declare at3 ty3 v q) (Then (tree.ForEach at2 ty x e body) Nothing))

  pub pair_place : (hole : Hole) (at3 : Span) (ty3 : Spelled) (v : List ℕ) (value : Expression) (at2 : Span) (ty : Spelled) (x : List ℕ) (e : Expression) (body rest : Statements) (q : Expression) → walks_alone v (Then (tree.ForEach at2 ty x e body) rest) ≡ true → behind hole ≡ rest → IsBodyQuery schema value x body q → PairMay hole at3 ty3 v at2 ty x value q e body
  pair_place hole at3 ty3 v value at2 ty x e body rest q alone rest_is b =
      let both = both_so (is_variable v e) (nat_eq (times_named v (Then (tree.ForEach at2 ty x e body) rest)) 1) alone in
      let var = var_is schema (all_asked schema words) p i n path m block reader hole v e both.0 in
      let named : times_named v (Then (tree.ForEach at2 ty x (tree.Var var.0 v) (body_of b.at b.test b.inside)) rest) ≡ 1 = subst (λ z. times_named v (Then (tree.ForEach at2 ty x (tree.Var var.0 v) z) rest) ≡ 1) b.body_is (subst (λ z. times_named v (Then (tree.ForEach at2 ty x z body) rest) ≡ 1) var.1 (once (times_named v (Then (tree.ForEach at2 ty x e body) rest)) both.1)) in
      let other = others v at2 var.0 ty x (body_of b.at b.test b.inside) rest named in
      subst (λ z. PairMay hole at3 ty3 v at2 ty x z q e body) (sym b.list)
      (subst (λ z. PairMay hole at3 ty3 v at2 ty x (tree.Fetch b.at1 b.name) q z body) (sym var.1)
      (subst (λ z. PairMay hole at3 ty3 v at2 ty x (tree.Fetch b.at1 b.name) q (tree.Var var.0 v) z) (sym b.body_is)
      (subst (λ z. PairMay hole at3 ty3 v at2 ty x (tree.Fetch b.at1 b.name) z (tree.Var var.0 v) (body_of b.at b.test b.inside)) b.asks.query_is
      (λ place. pair_given hole b.name x b.at1 b.at b.test b.inside q b.asks (pair_walk schema (all_asked schema words) p i n path m block reader hole b.name x v b.at1 b.at b.test b.inside q b.asks at2 ty at3 ty3 var.0 rest other rest_is place) at3 ty3 v at2 ty (tree.Var var.0 v)))))

-- ---- The program

module _ (schema : Schema) (words : HasWords schema) (reader : Reader schema) (p : PlainProgram) (well : IsWellTyped schema reader.read p) (fits : NumbersFit p) (grammar : IsInGrammar p) (written : IsWritten p) where
  abbrev IsText : PlainProgram → Type 0
  IsText q = IsInGrammar q × IsWritten q

  module _ (i n : ℕ) (path : List ℕ) (m : PlainMethod) (found : slice_get p.methods i ≡ Some m) (block : Statements) (leads : Leads path n m.body block) where
    abbrev last : ℕ
    last = last_of (n ∷ path)

    abbrev MayAt : ℕ → Statements → Statements → Type 0
    MayAt first old new = IsTypedPlace (frame_of schema reader.read m) None (types_of_params schema m.params) (place_in path n first m.body) old → Given schema words reader p i n path m block old new

    placed : (first : ℕ) (walk : Statement) (new : Statements) → statement_in path n m.body ≡ Some walk → first ≤ last → MayAt first (run_and_loop (run_in path n first m.body) walk) new → IsText (replaced_at (i ∷ n ∷ path) first new p)
    placed first walk new leads_so below may =
        let hole : Hole = place_in path n first m.body in
        let old : Statements = run_and_loop (run_in path n first m.body) walk in
        let k : MethodAt i p.methods m = method_at i p.methods m found in
        let at : Statements → PlainProgram = λ body. with_methods p (k.before ++ with_body m body ∷ k.after) in
        let whole : m.body ≡ fill hole old = whole_fills path n first m.body walk below leads_so in
        let old_is : p ≡ at (fill hole old) = ap (with_methods p) k.is ∙ ap at whole in
        let new_is : replaced_at (i ∷ n ∷ path) first new p ≡ at (fill hole new) = ap (with_methods p) (k.changed (λ z. with_body z (replaced_in path n first new z.body))) ∙ ap at (replaced_fills path n first new m.body walk leads_so) in
        let given = may (places_typed schema reader.read p i m hole old well fits found whole) in
        subst IsText (sym new_is) (program_in p k.before k.after m hole old new given.inside (subst IsInGrammar old_is grammar), program_written p k.before k.after m hole old new given.written (subst IsWritten old_is written))

    each_text : (at2 : Span) (ty : Spelled) (x : List ℕ) (e : Expression) (body rest : Statements) (q : Expression) → behind_of last block ≡ Then (tree.ForEach at2 ty x e body) rest → query_of_body schema e x body ≡ Some q → IsText (replaced_at (i ∷ n ∷ path) last (Then (tree.ForEach at2 ty x q body) Nothing) p)
    each_text at2 ty x e body rest q there h =
        let walk : Statement = tree.ForEach at2 ty x e body in
        let new : Statements = Then (tree.ForEach at2 ty x q body) Nothing in
        let run : run_in path n last m.body ≡ Nothing = leads.run last ∙ none_first last block in
        placed last walk new (leads.leads walk (numbered_behind last block walk rest there)) (omega arith) (subst (λ z. MayAt last (run_and_loop z walk) new) (sym run) (each_place schema words reader p i n path m block (place_in path n last m.body) at2 ty x e body q (body_query schema e x body q h)))

    pair_text : (k : ℕ) → last ≡ suc k → (at3 : Span) (ty3 : Spelled) (v : List ℕ) (value : Expression) (at2 : Span) (ty : Spelled) (x : List ℕ) (e : Expression) (body rest : Statements) (q : Expression) → behind_of k block ≡ Then (tree.Declare at3 ty3 v value) (Then (tree.ForEach at2 ty x e body) rest) → walks_alone v (Then (tree.ForEach at2 ty x e body) rest) ≡ true → query_of_body schema value x body ≡ Some q → IsText (replaced_at (i ∷ n ∷ path) k (Then (tree.Declare at3 ty3 v q) (Then (tree.ForEach at2 ty x e body) Nothing)) p)
    pair_text k is at3 ty3 v value at2 ty x e body rest q there alone h =
        let declared : Statement = tree.Declare at3 ty3 v value in
        let walk : Statement = tree.ForEach at2 ty x e body in
        let new : Statements = Then (tree.Declare at3 ty3 v q) (Then walk Nothing) in
        let run : run_in path n k m.body ≡ Then declared Nothing = leads.run k ∙ ap (λ (z : ℕ). behind_of k (first_of z block)) is ∙ one_first k block declared (Then walk rest) there in
        let next_there : behind_of (suc k) block ≡ Then walk rest = rest_behind k block declared (Then walk rest) there in
        let last_there : behind_of last block ≡ Then walk rest = ap (λ (z : ℕ). behind_of z block) is ∙ next_there in
        let rest_is : behind (place_in path n k m.body) ≡ rest = leads.rest k ∙ rest_behind last block walk rest last_there in
        placed k walk new (leads.leads walk (numbered_behind last block walk rest last_there)) (omega (arith, is)) (subst (λ z. MayAt k (run_and_loop z walk) new) (sym run) (pair_place schema words reader p i n path m block (place_in path n k m.body) at3 ty3 v value at2 ty x e body rest q alone rest_is (body_query schema value x body q h)))

  by_block : (i n : ℕ) (path : List ℕ) (m : PlainMethod) → slice_get p.methods i ≡ Some m → (o : Option Statements) → outer_block path n m.body ≡ o → (q : PlainProgram) → found_in (λ block. narrowed_in schema (i ∷ n ∷ path) (last_of (n ∷ path)) block p) o ≡ Some q → IsText q
  by_block i n path m found (Some block) e q h =
      let leads = leads_to path n m.body block e in
      by_each schema p i n path block IsText (each_text i n path m found block leads) (pair_text i n path m found block leads) (narrowed_each schema (behind_of (last_of (n ∷ path)) block)) refl q h
  by_block i n path m found None e q h = absurd cc

  by_method : (i n : ℕ) (path : List ℕ) (o : Option PlainMethod) → slice_get p.methods i ≡ o → (q : PlainProgram) → found_in (λ block. narrowed_in schema (i ∷ n ∷ path) (last_of (n ∷ path)) block p) (found_in (λ (method : PlainMethod). outer_block path n method.body) o) ≡ Some q → IsText q
  by_method i n path (Some m) e q h = by_block i n path m e (outer_block path n m.body) refl q h
  by_method i n path None e q h = absurd cc

  pub narrowed_text : (q : PlainProgram) (path : List ℕ) → narrowed_at schema path p ≡ Some q → IsInGrammar q × IsWritten q
  narrowed_text q [] h = absurd cc
  narrowed_text q (i ∷ []) h = absurd cc
  narrowed_text q (i ∷ n ∷ path) h = by_method i n path (slice_get p.methods i) refl q h
