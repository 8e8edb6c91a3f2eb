-- The program in which a walk is narrowed is well typed, and its literals have 64 bits.
use Rattle.std.proofs.Common.{◌≡◌, ℕ, suc, ◌≤◌, Bool, true, false, ◌&&◌, List, [], ◌∷◌, ◌++◌, Option, Some, None, refl, sym, ap, ◌∙◌, subst, arith}
use Rattle.std.specs.Prelude.{nat_eq, slice_get}
use Rattle.qbs_base.specs.declared.scalar.Ty.{Ty}
use Rattle.qbs_base.specs.declared.span.Span.{Span}
use Rattle.qbs_base.specs.Values.{Schema}
use Rattle.java_ast.specs.Path.{found_in, statement_in, behind_of, first_of, last_of, with_body, with_methods, replaced_in, replaced_at}
use Rattle.java_ast.specs.Tree as tree
use Rattle.java_ast.specs.Tree.{Spelled, Expression, Expressions, Statement, Statements, Nothing, Then, PlainMethod, PlainProgram}
use Rattle.java_mean.specs.Asks.{frame_of}
use Rattle.java_mean.specs.Fits.{in_first, visible_past, visible_before, around_place}
use Rattle.java_mean.specs.Numbers.{expression_fits, expressions_fit, statement_fits, statements_fit, methods_fit, NumbersFit}
use Rattle.java_mean.specs.Places.{Around, is_nothing, in_body, in_statements}
use Rattle.java_mean.specs.Queries.{Reader}
use Rattle.java_mean.specs.Refines.{Hole, Here, Past, InIf, InThen, InElse, InEach, InWhile, fill, followed_by, behind, types_at, IsTypedPlace}
use Rattle.java_mean.specs.Rules.{returns}
use Rattle.java_mean.specs.Types.{Types, types_of_params}
use Rattle.java_mean.specs.Typing.{Frame, HaveTypes}
use Rattle.java_mean.specs.Visible.{Visible, with_params}
use Rattle.java_mean.specs.WellTyped.{faults_in, IsWellTyped}
use Rattle.java_mean.proofs.Faultless.{Sees}
use Rattle.java_mean.proofs.Fitting.{refilled, place_seen}
use Rattle.java_mean.proofs.TypedPlaces.{places_typed}
use Rattle.java_loops.specs.Walks.Places.{place_in, run_in}
use Rattle.java_loops.specs.Walks.Replacing.{run_and_loop}
use Rattle.java_loops.proofs.Walks.Placed.{replaced_fills, whole_fills}
use Rattle.java_loops.proofs.Walks.PlacedPrograms.{MethodAt, method_at}
use Rattle.spreads.specs.Alone.{times_named, is_variable, walks_alone}
use Rattle.spreads.specs.Narrowed.{all_read, query_of_body, outer_block, narrowed_each, narrowed_in, narrowed_at}
use Rattle.spreads.specs.Staying.{assigned_among, all_stay}
use Rattle.spreads.proofs.Named.{others, once}
use Rattle.narrowings.proofs.Args.{AreArguments, have_types, they_stay}
use Rattle.narrowings.proofs.Cases.{by_each}
use Rattle.narrowings.proofs.Fine.{arguments_fit, all_fine, each_fine, pair_fine}
use Rattle.narrowings.proofs.Loop.{IsAsked, arguments, text_of}
use Rattle.narrowings.proofs.Parts.{both_so}
use Rattle.narrowings.proofs.Places.{Leads, leads_to, numbered_behind, rest_behind, none_first, one_first}
use Rattle.narrowings.proofs.Program.{AllAsked, body_of, parts_in, read_in, IsQueryFor, IsBodyQuery, body_query, WalkIs, each_walk, pair_walk, var_is}

-- ---- Literals at a place

and_more : (a b c : Bool) → (b ≡ true → c ≡ true) → (a && b) ≡ true → (a && c) ≡ true
and_more true b c f h = f h
and_more false b c f h = absurd cc

and_less : (b c d : Bool) → (b ≡ true → c ≡ true) → (b && d) ≡ true → (c && d) ≡ true
and_less true c d f h = ap (λ z. z && d) (f refl) ∙ h
and_less false c d f h = absurd cc

first_fits : (p q : Statements) → statements_fit (followed_by p q) ≡ true → statements_fit p ≡ true
first_fits Nothing q h = refl
first_fits (Then a p) q h = and_more (statement_fits a) (statements_fit (followed_by p q)) (statements_fit p) (first_fits p q) h

rest_fits : (p q : Statements) → statements_fit (followed_by p q) ≡ true → statements_fit q ≡ true
rest_fits Nothing q h = h
rest_fits (Then a p) q h = rest_fits p q (both_so (statement_fits a) (statements_fit (followed_by p q)) h).1

followed_fits : (p q : Statements) → statements_fit p ≡ true → statements_fit q ≡ true → statements_fit (followed_by p q) ≡ true
followed_fits Nothing q h k = k
followed_fits (Then a p) q h k = and_more (statement_fits a) (statements_fit p) (statements_fit (followed_by p q)) (λ i. followed_fits p q i k) h

fill_fits : (hole : Hole) (old new : Statements) → (statements_fit old ≡ true → statements_fit new ≡ true) → statements_fit (fill hole old) ≡ true → statements_fit (fill hole new) ≡ true
fill_fits (Here q) old new f h = followed_fits new q (f (first_fits old q h)) (rest_fits old q h)
fill_fits (Past a k) old new f h = and_more (statement_fits a) (statements_fit (fill k old)) (statements_fit (fill k new)) (fill_fits k old new f) h
fill_fits (InIf at e k q) old new f h =
    and_less (expression_fits e && statements_fit (fill k old)) (expression_fits e && statements_fit (fill k new)) (statements_fit q)
    (and_more (expression_fits e) (statements_fit (fill k old)) (statements_fit (fill k new)) (fill_fits k old new f)) h
fill_fits (InThen at e k b q) old new f h =
    and_less (expression_fits e && (statements_fit (fill k old) && statements_fit b)) (expression_fits e && (statements_fit (fill k new) && statements_fit b)) (statements_fit q)
    (and_more (expression_fits e) (statements_fit (fill k old) && statements_fit b) (statements_fit (fill k new) && statements_fit b) (and_less (statements_fit (fill k old)) (statements_fit (fill k new)) (statements_fit b) (fill_fits k old new f))) h
fill_fits (InElse at e a k q) old new f h =
    and_less (expression_fits e && (statements_fit a && statements_fit (fill k old))) (expression_fits e && (statements_fit a && statements_fit (fill k new))) (statements_fit q)
    (and_more (expression_fits e) (statements_fit a && statements_fit (fill k old)) (statements_fit a && statements_fit (fill k new)) (and_more (statements_fit a) (statements_fit (fill k old)) (statements_fit (fill k new)) (fill_fits k old new f))) h
fill_fits (InEach at ty x e k q) old new f h =
    and_less (expression_fits e && statements_fit (fill k old)) (expression_fits e && statements_fit (fill k new)) (statements_fit q)
    (and_more (expression_fits e) (statements_fit (fill k old)) (statements_fit (fill k new)) (fill_fits k old new f)) h
fill_fits (InWhile at e k q) old new f h =
    and_less (expression_fits e && statements_fit (fill k old)) (expression_fits e && statements_fit (fill k new)) (statements_fit q)
    (and_more (expression_fits e) (statements_fit (fill k old)) (statements_fit (fill k new)) (fill_fits k old new f)) h

methods_still_fit : (before after : List PlainMethod) (m : PlainMethod) (old new : Statements) → (statements_fit old ≡ true → statements_fit new ≡ true) → methods_fit (before ++ with_body m old ∷ after) ≡ true → methods_fit (before ++ with_body m new ∷ after) ≡ true
methods_still_fit [] after m old new f h = and_less (statements_fit old) (statements_fit new) (methods_fit after) f h
methods_still_fit (k ∷ before) after m old new f h =
    and_more (statements_fit k.body) (methods_fit (before ++ with_body m old ∷ after)) (methods_fit (before ++ with_body m new ∷ after)) (methods_still_fit before after m old new f) h

-- ---- What is given at a place

module _ (schema : Schema) (all : AllAsked schema) (reader : Reader schema) (p : PlainProgram) (i n : ℕ) (path : List ℕ) (m : PlainMethod) (block : Statements) where
  abbrev frame : Frame
  frame = frame_of schema reader.read m

  abbrev params : Types
  params = types_of_params schema m.params

  -- the new statements fit in where the old ones stood
  pub record Given (hole : Hole) (old new : Statements) : Type 0 where
    pub there : is_nothing old ≡ false
    pub returned : returns old ≡ true → returns new ≡ true
    pub visible : (vs : Visible) → visible_past schema vs old ≡ visible_past schema vs new
    pub fine : (vs : Visible) → Sees vs (types_at schema params hole) → (w : Around) (ends : Bool) → faults_in schema reader.read m.result (in_first schema vs w ends old) ≡ [] → faults_in schema reader.read m.result (in_first schema vs w ends new) ≡ []
    pub numbers : statements_fit old ≡ true → statements_fit new ≡ true

  abbrev May : Hole → Statements → Statements → Type 0
  May hole old new = IsTypedPlace frame None params hole old → Given hole old new

  module _ (hole : Hole) (name x : List ℕ) (at1 at : Span) (test : Expression) (inside : Statements) (q : Expression) (asks : IsQueryFor schema name x at1 at test inside q) where
    abbrev before : Types
    before = types_at schema params hole

    abbrev body : Statements
    body = body_of at test inside

    abbrev asking : Expression
    asking = tree.Query at1 (tree.Table name) (text_of name asks.table asks.condition) (read_in x at test inside)

    module _ (walk : WalkIs schema all p i n path m block reader hole x asks.table at test inside) where
      args_are : AreArguments frame before (assigned_among body) (all_read x [] (parts_in x at test inside))
      args_are = arguments schema reader m before x name asks.table asks.number at test inside walk.new walk.end walk.typed

      typed_args : (types : List Ty) × HaveTypes frame before (read_in x at test inside) types
      typed_args = have_types frame before (assigned_among body) (all_read x [] (parts_in x at test inside)) args_are

      stay : all_stay (assigned_among body) (read_in x at test inside) ≡ true
      stay = they_stay frame before (assigned_among body) (all_read x [] (parts_in x at test inside)) args_are

      fits_so : expressions_fit (read_in x at test inside) ≡ true
      fits_so = arguments_fit frame before (assigned_among body) (read_in x at test inside) typed_args.0 typed_args.1 stay

      asked_so : IsAsked schema reader.read name asks.table asks.condition typed_args.0
      asked_so = all reader m before x name asks.table asks.number at test inside walk.new walk.end walk.typed asks.condition asks.is typed_args.0 typed_args.1

      each_given : (at2 : Span) (ty : Spelled) → Given hole (Then (tree.ForEach at2 ty x (tree.Fetch at1 name) body) Nothing) (Then (tree.ForEach at2 ty x asking body) Nothing)
      each_given at2 ty = record {
        there = refl;
        returned = λ h. h;
        visible = λ vs. refl;
        fine = λ vs sees w ends h. each_fine schema reader.read m.result m before vs sees name asks.table asks.number asks.condition typed_args.0 asked_so (read_in x at test inside) (all_fine schema reader.read m.result m before vs sees (assigned_among body) (read_in x at test inside) typed_args.0 typed_args.1 stay) at1 w ends at2 ty x body h;
        numbers = λ h. ap (λ b. (b && statements_fit body) && true) fits_so ∙ h;
      }

      pair_given : (at3 : Span) (ty3 : Spelled) (v : List ℕ) (rest : Statements) → Given hole (Then (tree.Declare at3 ty3 v (tree.Fetch at1 name)) rest) (Then (tree.Declare at3 ty3 v asking) rest)
      pair_given at3 ty3 v rest = record {
        there = refl;
        returned = λ h. h;
        visible = λ vs. refl;
        fine = λ vs sees w ends h. pair_fine schema reader.read m.result m before vs sees name asks.table asks.number asks.condition typed_args.0 asked_so (read_in x at test inside) (all_fine schema reader.read m.result m before vs sees (assigned_among body) (read_in x at test inside) typed_args.0 typed_args.1 stay) at1 w ends at3 ty3 v rest h;
        numbers = λ h. ap (λ b. b && statements_fit rest) fits_so ∙ h;
      }

  pub each_place : (hole : Hole) (at2 : Span) (ty : Spelled) (x : List ℕ) (e : Expression) (body : Statements) (q : Expression) → IsBodyQuery schema e x body q → May hole (Then (tree.ForEach at2 ty x e body) Nothing) (Then (tree.ForEach at2 ty x q body) Nothing)
  each_place hole at2 ty x e body q b =
      subst (λ z. May hole (Then (tree.ForEach at2 ty x z body) Nothing) (Then (tree.ForEach at2 ty x q body) Nothing)) (sym b.list)
      (subst (λ z. May hole (Then (tree.ForEach at2 ty x (tree.Fetch b.at1 b.name) z) Nothing) (Then (tree.ForEach at2 ty x q z) Nothing)) (sym b.body_is)
      (subst (λ z. May hole (Then (tree.ForEach at2 ty x (tree.Fetch b.at1 b.name) (body_of b.at b.test b.inside)) Nothing) (Then (tree.ForEach at2 ty x z (body_of b.at b.test b.inside)) Nothing)) b.asks.query_is
      (λ place. each_given hole b.name x b.at1 b.at b.test b.inside q b.asks (each_walk schema all p i n path m block reader hole b.name x b.at1 b.at b.test b.inside q b.asks at2 ty place) at2 ty)))

  abbrev PairMay : Hole → Span → Spelled → List ℕ → Span → Spelled → List ℕ → Expression → Expression → Expression → Statements → Type 0
  PairMay hole at3 ty3 v at2 ty x value q e body = May hole (Then (tree.Declare at3 ty3 v value) (Then (tree.ForEach at2 ty x e body) Nothing)) (Then (tree.Declare at3 ty3 v q) (Then (tree.ForEach at2 ty x e body) Nothing))

  pub pair_place : (hole : Hole) (at3 : Span) (ty3 : Spelled) (v : List ℕ) (value : Expression) (at2 : Span) (ty : Spelled) (x : List ℕ) (e : Expression) (body rest : Statements) (q : Expression) → walks_alone v (Then (tree.ForEach at2 ty x e body) rest) ≡ true → behind hole ≡ rest → IsBodyQuery schema value x body q → PairMay hole at3 ty3 v at2 ty x value q e body
  pair_place hole at3 ty3 v value at2 ty x e body rest q alone rest_is b =
      let both = both_so (is_variable v e) (nat_eq (times_named v (Then (tree.ForEach at2 ty x e body) rest)) 1) alone in
      let var = var_is schema all p i n path m block reader hole v e both.0 in
      let named : times_named v (Then (tree.ForEach at2 ty x (tree.Var var.0 v) (body_of b.at b.test b.inside)) rest) ≡ 1 = subst (λ z. times_named v (Then (tree.ForEach at2 ty x (tree.Var var.0 v) z) rest) ≡ 1) b.body_is (subst (λ z. times_named v (Then (tree.ForEach at2 ty x z body) rest) ≡ 1) var.1 (once (times_named v (Then (tree.ForEach at2 ty x e body) rest)) both.1)) in
      let other = others v at2 var.0 ty x (body_of b.at b.test b.inside) rest named in
      subst (λ z. PairMay hole at3 ty3 v at2 ty x z q e body) (sym b.list)
      (subst (λ z. PairMay hole at3 ty3 v at2 ty x (tree.Fetch b.at1 b.name) q z body) (sym var.1)
      (subst (λ z. PairMay hole at3 ty3 v at2 ty x (tree.Fetch b.at1 b.name) q (tree.Var var.0 v) z) (sym b.body_is)
      (subst (λ z. PairMay hole at3 ty3 v at2 ty x (tree.Fetch b.at1 b.name) z (tree.Var var.0 v) (body_of b.at b.test b.inside)) b.asks.query_is
      (λ place. pair_given hole b.name x b.at1 b.at b.test b.inside q b.asks (pair_walk schema all p i n path m block reader hole b.name x v b.at1 b.at b.test b.inside q b.asks at2 ty at3 ty3 var.0 rest other rest_is place) at3 ty3 v (Then (tree.ForEach at2 ty x (tree.Var var.0 v) (body_of b.at b.test b.inside)) Nothing)))))

-- ---- The program

-- well typed, and with literals of 64 bits
pub record IsSound (schema : Schema) (reader : Reader schema) (p : PlainProgram) : Type 0 where
  pub typed : IsWellTyped schema reader.read p
  pub numbers : NumbersFit p

module _ (schema : Schema) (all : AllAsked schema) (reader : Reader schema) (p : PlainProgram) (well : IsWellTyped schema reader.read p) (fits : NumbersFit p) (i n : ℕ) (path : List ℕ) (m : PlainMethod) (found : slice_get p.methods i ≡ Some m) (block : Statements) (leads : Leads path n m.body block) where
  abbrev last : ℕ
  last = last_of (n ∷ path)

  abbrev MayAt : ℕ → Statements → Statements → Type 0
  MayAt first old new = IsTypedPlace (frame_of schema reader.read m) None (types_of_params schema m.params) (place_in path n first m.body) old → Given schema all reader p i n path m block (place_in path n first m.body) old new

  placed : (first : ℕ) (walk : Statement) (new : Statements) → statement_in path n m.body ≡ Some walk → first ≤ last → MayAt first (run_and_loop (run_in path n first m.body) walk) new → IsSound schema reader (replaced_at (i ∷ n ∷ path) first new p)
  placed first walk new leads_so below may =
      let hole : Hole = place_in path n first m.body in
      let old : Statements = run_and_loop (run_in path n first m.body) walk in
      let k : MethodAt i p.methods m = method_at i p.methods m found in
      let at : Statements → PlainProgram = λ body. with_methods p (k.before ++ with_body m body ∷ k.after) in
      let whole : m.body ≡ fill hole old = whole_fills path n first m.body walk below leads_so in
      let old_is : p ≡ at (fill hole old) = ap (with_methods p) k.is ∙ ap at whole in
      let new_is : replaced_at (i ∷ n ∷ path) first new p ≡ at (fill hole new) = ap (with_methods p) (k.changed (λ z. with_body z (replaced_in path n first new z.body))) ∙ ap at (replaced_fills path n first new m.body walk leads_so) in
      let given = may (places_typed schema reader.read p i m hole old well fits found whole) in
      let old_well : IsWellTyped schema reader.read (at (fill hole old)) = subst (IsWellTyped schema reader.read) old_is well in
      let seen = place_seen schema reader.read p k.before k.after m hole old old_well in
      let vs : Visible = visible_before schema (with_params schema [] m.params) hole in
      let behind_so = subst (λ z. faults_in schema reader.read m.result (in_statements schema z (around_place in_body hole) (behind hole)) ≡ []) (given.visible vs) seen.behind in
      let new_well : IsWellTyped schema reader.read (at (fill hole new)) = refilled schema reader.read p k.before k.after m hole old new old_well given.there given.returned (given.fine vs seen.sees (around_place in_body hole) (is_nothing (behind hole)) seen.part) behind_so in
      let new_fits : NumbersFit (at (fill hole new)) = methods_still_fit k.before k.after m (fill hole old) (fill hole new) (fill_fits hole old new given.numbers) (subst NumbersFit old_is fits) in
      subst (IsSound schema reader) (sym new_is) (record { typed = new_well; numbers = new_fits })

  each_sound : (at2 : Span) (ty : Spelled) (x : List ℕ) (e : Expression) (body rest : Statements) (q : Expression) → behind_of last block ≡ Then (tree.ForEach at2 ty x e body) rest → query_of_body schema e x body ≡ Some q → IsSound schema reader (replaced_at (i ∷ n ∷ path) last (Then (tree.ForEach at2 ty x q body) Nothing) p)
  each_sound at2 ty x e body rest q there h =
      let walk : Statement = tree.ForEach at2 ty x e body in
      let new : Statements = Then (tree.ForEach at2 ty x q body) Nothing in
      let run : run_in path n last m.body ≡ Nothing = leads.run last ∙ none_first last block in
      placed last walk new (leads.leads walk (numbered_behind last block walk rest there)) (omega arith) (subst (λ z. MayAt last (run_and_loop z walk) new) (sym run) (each_place schema all reader p i n path m block (place_in path n last m.body) at2 ty x e body q (body_query schema e x body q h)))

  pair_sound : (k : ℕ) → last ≡ suc k → (at3 : Span) (ty3 : Spelled) (v : List ℕ) (value : Expression) (at2 : Span) (ty : Spelled) (x : List ℕ) (e : Expression) (body rest : Statements) (q : Expression) → behind_of k block ≡ Then (tree.Declare at3 ty3 v value) (Then (tree.ForEach at2 ty x e body) rest) → walks_alone v (Then (tree.ForEach at2 ty x e body) rest) ≡ true → query_of_body schema value x body ≡ Some q → IsSound schema reader (replaced_at (i ∷ n ∷ path) k (Then (tree.Declare at3 ty3 v q) (Then (tree.ForEach at2 ty x e body) Nothing)) p)
  pair_sound k is at3 ty3 v value at2 ty x e body rest q there alone h =
      let declared : Statement = tree.Declare at3 ty3 v value in
      let walk : Statement = tree.ForEach at2 ty x e body in
      let new : Statements = Then (tree.Declare at3 ty3 v q) (Then walk Nothing) in
      let run : run_in path n k m.body ≡ Then declared Nothing = leads.run k ∙ ap (λ (z : ℕ). behind_of k (first_of z block)) is ∙ one_first k block declared (Then walk rest) there in
      let next_there : behind_of (suc k) block ≡ Then walk rest = rest_behind k block declared (Then walk rest) there in
      let last_there : behind_of last block ≡ Then walk rest = ap (λ (z : ℕ). behind_of z block) is ∙ next_there in
      let rest_is : behind (place_in path n k m.body) ≡ rest = leads.rest k ∙ rest_behind last block walk rest last_there in
      placed k walk new (leads.leads walk (numbered_behind last block walk rest last_there)) (omega (arith, is)) (subst (λ z. MayAt k (run_and_loop z walk) new) (sym run) (pair_place schema all reader p i n path m block (place_in path n k m.body) at3 ty3 v value at2 ty x e body rest q alone rest_is (body_query schema value x body q h)))

by_block : (schema : Schema) → AllAsked schema → (reader : Reader schema) (p : PlainProgram) → IsWellTyped schema reader.read p → NumbersFit p → (i n : ℕ) (path : List ℕ) (m : PlainMethod) → slice_get p.methods i ≡ Some m → (o : Option Statements) → outer_block path n m.body ≡ o → (q : PlainProgram) → found_in (λ block. narrowed_in schema (i ∷ n ∷ path) (last_of (n ∷ path)) block p) o ≡ Some q → IsSound schema reader q
by_block schema all reader p well fits i n path m found (Some block) e q h =
    let leads = leads_to path n m.body block e in
    by_each schema p i n path block (IsSound schema reader) (each_sound schema all reader p well fits i n path m found block leads) (pair_sound schema all reader p well fits i n path m found block leads) (narrowed_each schema (behind_of (last_of (n ∷ path)) block)) refl q h
by_block schema all reader p well fits i n path m found None e q h = absurd cc

by_method : (schema : Schema) → AllAsked schema → (reader : Reader schema) (p : PlainProgram) → IsWellTyped schema reader.read p → NumbersFit p → (i n : ℕ) (path : List ℕ) (o : Option PlainMethod) → slice_get p.methods i ≡ o → (q : PlainProgram) → found_in (λ block. narrowed_in schema (i ∷ n ∷ path) (last_of (n ∷ path)) block p) (found_in (λ (method : PlainMethod). outer_block path n method.body) o) ≡ Some q → IsSound schema reader q
by_method schema all reader p well fits i n path (Some m) e q h = by_block schema all reader p well fits i n path m e (outer_block path n m.body) refl q h
by_method schema all reader p well fits i n path None e q h = absurd cc

pub narrowed_sound : (schema : Schema) → AllAsked schema → (reader : Reader schema) (p q : PlainProgram) (path : List ℕ) → IsWellTyped schema reader.read p → NumbersFit p → narrowed_at schema path p ≡ Some q → IsSound schema reader q
narrowed_sound schema all reader p q [] well fits h = absurd cc
narrowed_sound schema all reader p q (i ∷ []) well fits h = absurd cc
narrowed_sound schema all reader p q (i ∷ n ∷ path) well fits h = by_method schema all reader p well fits i n path (slice_get p.methods i) refl q h
