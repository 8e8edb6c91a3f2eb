-- The inlined program keeps what the program with calls does.
use Rattle.std.proofs.Common.{◌≡◌, ℕ, zero, suc, ◌≤◌, Bool, true, false, ◌||◌, List, [], ◌∷◌, ◌++◌, Option, Some, None, Result, Ok, Err, refl, sym, ap, ◌∙◌, subst, flat_map, slice_get, option_map, arith}
use Rattle.std.specs.List.{AllByRecursion}
use Rattle.std.specs.Prelude.{bytes_eq}
use Rattle.qbs_base.specs.declared.span.Span.{Span}
use Rattle.qbs_base.specs.declared.scalar.Scalar.{Scalar}
use Rattle.qbs_base.specs.declared.scalar.Value.{Value}
use Rattle.qbs_base.specs.declared.scalar.Value.TheVariants.{One}
use Rattle.qbs_base.specs.Named.{at_name}
use Rattle.qbs_base.specs.Values.{Schema}
use Rattle.java_ast.specs.Names.{Names, is_among, names_of_params}
use Rattle.java_ast.specs.Path.{with_body, with_methods}
use Rattle.java_ast.specs.Tree as tree
use Rattle.java_ast.specs.Tree.{Expression, Statement, Statements, PlainParam, PlainMethod, PlainProgram}
use Rattle.java_mean.specs.declared.ending.Ending.{Ending}
use Rattle.java_mean.specs.declared.ending.Ending.TheVariants as endings
use Rattle.java_mean.specs.Outcome.{Done, finished, start, store_of, outcome, world}
use Rattle.java_mean.specs.Refines.{Related, Exits, Passes, PassesBack, Follows}
use Rattle.java_mean.specs.Statement.{State, Passed, GoesOn, Leaves, Returns, meanings}
use Rattle.java_mean.specs.Store.{Store, Variable, put, plainly}
use Rattle.java_mean.specs.World.{World}
use Rattle.java_mean.proofs.Puts.{names_equal, name_same, put_other}
use Rattle.java_calls.specs.Called.{Call, call_of, method_named}
use Rattle.java_calls.specs.Calling.{callee_of, meanings_with, outcome_with}
use Rattle.java_calls.specs.Fitting.{AreFitting}
use Rattle.java_calls.proofs.Fitted.{are_fitted}
use Rattle.java_calls.specs.Inlining.{Made, AllMade, all_inlined, expand_at, made_method, inlined_methods, inlined_within, IsInlined}
use Rattle.java_calls.specs.KeepsCalls.{IsDoneWithCalls, KeepsMethodWithCalls, AllKept, KeepsCalls}
use Rattle.java_calls.specs.ProgramNames.{type_names, result_names, block_names, method_names, package_names, dotted_parts, names_of}
use Rattle.java_calls.specs.Renaming.{as_they_are}
use Rattle.java_calls.specs.Rules.{HelperRule, Result as ResultRule, Site, site_of, sites_in, sites_among, sites_at, sites_of, has_result_for, Breaks, Broken, BreaksNone}
use Rattle.java_calls.proofs.Calls.{IsSound, IsNamed, IsClass, follow}
use Rattle.java_calls.proofs.Kin.{Kin, kin_ways}
use Rattle.java_calls.proofs.Old.{AreKeptApart, Includes, Stands, suits_itself}
use Rattle.java_calls.proofs.Replacing.{Good, all_left, all_right}
use Rattle.java_calls.proofs.Whole.{Whole, whole_of, whole_calls, all_whole_calls}

some_is : {A : Type 0} (a b : A) → Some a ≡ Some b → a ≡ b
some_is a b e = cc

-- ---- All names of a program are among its names

or_right : (p q : Bool) → q ≡ true → p || q ≡ true
or_right true q h = refl
or_right false q h = h

all_sub : (names xs : Names) → ((x : List ℕ) → is_among xs x ≡ true → is_among names x ≡ true) → AllByRecursion (λ x. is_among names x ≡ true) xs
all_sub names [] h = tt
all_sub names (y ∷ ys) h = (h y (ap (λ b. b || is_among ys y) (name_same y)), all_sub names ys (λ x i. h x (or_right (bytes_eq x y) (is_among ys x) i)))

all_itself : (names : Names) → AllByRecursion (λ x. is_among names x ≡ true) names
all_itself names = all_sub names names (λ x i. i)

params_named : (P : List ℕ → Type 0) (ps : List PlainParam) → AllByRecursion P (flat_map (λ (p : PlainParam). p.name ∷ type_names p.ty) ps) → AllByRecursion P (names_of_params ps)
params_named P [] h = tt
params_named P (p ∷ ps) h = (h.0, params_named P ps (all_right P (type_names p.ty) (flat_map (λ (p : PlainParam). p.name ∷ type_names p.ty) ps) h.1))

method_named_so : (names : Names) (m : PlainMethod) → AllByRecursion (λ x. is_among names x ≡ true) (method_names m) → IsNamed names m
method_named_so names m h =
    let params : Names = flat_map (λ (p : PlainParam). p.name ∷ type_names p.ty) m.params in
    let rest = all_right (λ x. is_among names x ≡ true) (result_names m.result) (params ++ block_names m.body) h.1 in
    record {
      params = params_named (λ x. is_among names x ≡ true) m.params (all_left (λ x. is_among names x ≡ true) params (block_names m.body) rest);
      body = all_right (λ x. is_among names x ≡ true) params (block_names m.body) rest;
    }

methods_named : (names : Names) (ms : List PlainMethod) → AllByRecursion (λ x. is_among names x ≡ true) (flat_map method_names ms) → AllByRecursion (IsNamed names) ms
methods_named names [] h = tt
methods_named names (m ∷ ms) h =
    (method_named_so names m (all_left (λ x. is_among names x ≡ true) (method_names m) (flat_map method_names ms) h), methods_named names ms (all_right (λ x. is_among names x ≡ true) (method_names m) (flat_map method_names ms) h))

program_named : (p : PlainProgram) → AllByRecursion (IsNamed (names_of p)) p.methods
program_named p =
    let P : List ℕ → Type 0 = λ x. is_among (names_of p) x ≡ true in
    let behind = all_right P (package_names p.«package») (flat_map dotted_parts p.imports ++ (p.name ∷ flat_map method_names p.methods)) (all_itself (names_of p)) in
    let own = all_right P (flat_map dotted_parts p.imports) (p.name ∷ flat_map method_names p.methods) behind in
    methods_named (names_of p) p.methods own.1

-- ---- Each call is sound where no rule is broken

module _ (ms : List PlainMethod) where
  abbrev IsSoundSite : Site → Type 0
  IsSoundSite site = (m : PlainMethod) → method_named site.call.name ms ≡ Some m → has_result_for site.whole m ≡ true

  whole_sound : (s : Statement) (at : Span) (o : Option Call) (more : List Site) → AllByRecursion IsSoundSite (site_of (Some s) at o ++ more) → AllByRecursion (IsSound ms) (whole_of s o)
  whole_sound s at None more h = tt
  whole_sound s at (Some call) more h = (h.0, tt)

  value_sound : (s : Statement) (e : Expression) → AllByRecursion IsSoundSite (sites_in (Some s) e) → AllByRecursion (IsSound ms) (whole_of s (call_of e))
  value_sound s (tree.QueryLong at text es) h = whole_sound s at (call_of (tree.QueryLong at text es)) (sites_among es) h
  value_sound s e h = tt

  both : {A : Type 0} (P : A → Type 0) (xs ys : List A) → AllByRecursion P xs → AllByRecursion P ys → AllByRecursion P (xs ++ ys)
  both P [] ys h i = i
  both P (x ∷ xs) ys h i = (h.0, both P xs ys h.1 i)

  mutual
    statement_sound : (s : Statement) → AllByRecursion IsSoundSite (sites_at s) → AllByRecursion (IsSound ms) (whole_calls s)
    statement_sound (tree.Declare at ty x e) h = value_sound (tree.Declare at ty x e) e h
    statement_sound (tree.Assign at x e) h = value_sound (tree.Assign at x e) e h
    statement_sound (tree.Add at x e) h = tt
    statement_sound (tree.Sort at x keys downs) h = tt
    statement_sound (tree.If at c a) h = block_sound a (all_right IsSoundSite (sites_in None c) (sites_of a) h)
    statement_sound (tree.IfElse at c a b) h =
        let i = all_right IsSoundSite (sites_in None c) (sites_of a ++ sites_of b) h in
        both (IsSound ms) (all_whole_calls a) (all_whole_calls b) (block_sound a (all_left IsSoundSite (sites_of a) (sites_of b) i)) (block_sound b (all_right IsSoundSite (sites_of a) (sites_of b) i))
    statement_sound (tree.ForEach at ty x e body) h = block_sound body (all_right IsSoundSite (sites_in None e) (sites_of body) h)
    statement_sound (tree.While at c body) h = block_sound body (all_right IsSoundSite (sites_in None c) (sites_of body) h)
    statement_sound (tree.Print at e) h = tt
    statement_sound (tree.Return at e) h = tt
    statement_sound (tree.Break at) h = tt

    block_sound : (p : Statements) → AllByRecursion IsSoundSite (sites_of p) → AllByRecursion (IsSound ms) (all_whole_calls p)
    block_sound tree.Nothing h = tt
    block_sound (tree.Then s p) h = both (IsSound ms) (whole_calls s) (all_whole_calls p) (statement_sound s (all_left IsSoundSite (sites_at s) (sites_of p) h)) (block_sound p (all_right IsSoundSite (sites_at s) (sites_of p) h))

pub all_each : {A : Type 0} (P : A → Type 0) (xs : List A) → ((n : ℕ) (x : A) → slice_get xs n ≡ Some x → P x) → AllByRecursion P xs
all_each P [] h = tt
all_each P (x ∷ xs) h = (h zero x refl, all_each P xs (λ n y e. h (suc n) y e))

unless_false : (b : Bool) → (b ≡ false → ⊥) → b ≡ true
unless_false true h = refl
unless_false false h = absurd (h refl)

program_sound : (p : PlainProgram) → BreaksNone p → AllByRecursion (λ (m : PlainMethod). AllByRecursion (IsSound p.methods) (all_whole_calls m.body)) p.methods
program_sound p none =
    all_each (λ (m : PlainMethod). AllByRecursion (IsSound p.methods) (all_whole_calls m.body)) p.methods (λ i m there.
    block_sound p.methods m.body (all_each (IsSoundSite p.methods) (sites_of m.body) (λ n site calls called is.
    unless_false (has_result_for site.whole called) (λ wrong. none ResultRule site.at (record { i = i; method = m; there = there; n = n; site = site; calls = calls; breaks = (called, is, wrong); place = refl })))))

program_is_class : (p : PlainProgram) → BreaksNone p → AreFitting p.methods → IsClass (names_of p) p.methods
program_is_class p none fitting = record { fitting = are_fitted p.methods fitting; named = program_named p; sound = program_sound p none }

-- ---- Methods

module _ (names : Names) (ms : List PlainMethod) (is_class : IsClass names ms) where
  store_named_by : (x : List ℕ) (t : Store) (v : Variable) → is_among names x ≡ true → (y : List ℕ) (u : Variable) → (at_name t y ≡ Some u → is_among names y ≡ true) → (b : Bool) → bytes_eq x y ≡ b → at_name (put t x v) y ≡ Some u → is_among names y ≡ true
  store_named_by x t v hx y u ih true e h = ap (is_among names) (sym (names_equal x y e)) ∙ hx
  store_named_by x t v hx y u ih false e h = ih (sym (put_other t x y v e) ∙ h)

  store_named : (ps : List PlainParam) (args : List Scalar) → AllByRecursion (λ x. is_among names x ≡ true) (names_of_params ps) → (y : List ℕ) (u : Variable) → at_name (store_of ps args) y ≡ Some u → is_among names y ≡ true
  store_named [] args n y u h = absurd cc
  store_named (p ∷ ps) [] n y u h = absurd cc
  store_named (p ∷ ps) (x ∷ xs) n y u h = store_named_by p.name (store_of ps xs) (plainly (One x)) n.0 y u (store_named ps xs n.1 y u) (bytes_eq p.name y) refl h

  abbrev ownways : ℕ → Store → Exits
  ownways taken base = kin_ways names as_they_are (suits_itself names taken).apart taken base

  finished_so : (taken : ℕ) (base : Store) (o q : Result Passed Ending) (lines : List (List ℕ)) (value : Option Value) → Follows (Kin names as_they_are (suits_itself names taken).apart taken base) (ownways taken base) o q → finished o ≡ Done lines value → finished q ≡ Done lines value
  finished_so taken base (Ok (GoesOn s)) q lines value p h = ap finished p.is ∙ ap (λ l. Done l None) (sym p.holds.lines) ∙ h
  finished_so taken base (Ok (Leaves s)) q lines value p h = absurd cc
  finished_so taken base (Ok (Returns s v)) q lines value p h = ap finished p.0.is ∙ ap (λ l. Done l v) (sym p.0.lines) ∙ h
  finished_so taken base (Err (endings.Faulted fault at)) q lines value p h = absurd cc
  finished_so taken base (Err endings.OutOfTurns) q lines value p h = absurd cc
  finished_so taken base (Err endings.Stuck) q lines value p h = absurd cc

  method_done : (schema : Schema) (e taken : ℕ) (m : PlainMethod) (made : Made) → IsNamed names m → AllByRecursion (IsSound ms) (all_whole_calls m.body) → all_inlined (expand_at e names ms) as_they_are taken m.body ≡ Some made → IsDoneWithCalls schema ms m (with_body m made.block)
  method_done schema e taken m made named sound is reader db d args a depth n lines value h =
      let w : World = world schema reader db in
      let s : State = start m args n in
      let good : Good names as_they_are (suits_itself names taken).apart taken s.store w (callee_of depth w ms) (expand_at e names ms) (IsSound ms) taken (meanings_with (callee_of depth w ms) m.body w) made =
      follow names ms w is_class e taken as_they_are (suits_itself names taken) m.body taken made sound named.body (omega arith) is depth s.store in
      finished_so taken s.store (meanings_with (callee_of depth w ms) m.body w s) (meanings made.block w s) lines value
      (good.sim.by s s (record { includes = record { named = store_named m.params args named.params; by = λ y u e. e }; stands = record { by = λ y other old. refl }; lines = refl; turns = refl })) h

  rest_kept : (schema : Schema) (m : PlainMethod) (made : Made) (rest : List PlainMethod) (o : Option AllMade) (all : AllMade) → KeepsMethodWithCalls schema ms m (with_body m made.block)
      → ((rs : AllMade) → o ≡ Some rs → AllKept schema ms rest rs.methods)
      → option_map (λ (all : AllMade). record { methods = with_body m made.block ∷ all.methods; taken = all.taken }) o ≡ Some all → AllKept schema ms (m ∷ rest) all.methods
  rest_kept schema m made rest None all k ih h = absurd cc
  rest_kept schema m made rest (Some rs) all k ih h = subst (λ (all : AllMade). AllKept schema ms (m ∷ rest) all.methods) (some_is _ all h) (k, ih rs refl)

  made_kept : (schema : Schema) (e taken : ℕ) (m : PlainMethod) (rest : List PlainMethod) (all : AllMade) (o : Option Made) → IsNamed names m → AllByRecursion (IsSound ms) (all_whole_calls m.body)
      → ((k : ℕ) (rs : AllMade) → inlined_methods (expand_at e names ms) k rest ≡ Some rs → AllKept schema ms rest rs.methods)
      → all_inlined (expand_at e names ms) as_they_are taken m.body ≡ o → made_method m o (λ k. inlined_methods (expand_at e names ms) k rest) ≡ Some all → AllKept schema ms (m ∷ rest) all.methods
  made_kept schema e taken m rest all None named sound ih is h = absurd cc
  made_kept schema e taken m rest all (Some made) named sound ih is h =
      rest_kept schema m made rest (inlined_methods (expand_at e names ms) made.taken rest) all (record { name = refl; params = refl; result = refl; done = method_done schema e taken m made named sound is }) (ih made.taken) h

  all_kept : (schema : Schema) (e taken : ℕ) (rest : List PlainMethod) (all : AllMade) → AllByRecursion (IsNamed names) rest → AllByRecursion (λ (m : PlainMethod). AllByRecursion (IsSound ms) (all_whole_calls m.body)) rest
      → inlined_methods (expand_at e names ms) taken rest ≡ Some all → AllKept schema ms rest all.methods
  all_kept schema e taken [] all named sound h = subst (λ (all : AllMade). AllKept schema ms [] all.methods) (some_is _ all h) tt
  all_kept schema e taken (m ∷ rest) all named sound h =
      made_kept schema e taken m rest all (all_inlined (expand_at e names ms) as_they_are taken m.body) named.0 sound.0 (λ k rs e'. all_kept schema e k rest rs named.1 sound.1 e') refl h

kept_within : (schema : Schema) (p q : PlainProgram) (depth : ℕ) (o : Option AllMade) → IsClass (names_of p) p.methods → inlined_methods (expand_at depth (names_of p) p.methods) 0 p.methods ≡ o → option_map (λ (all : AllMade). with_methods p all.methods) o ≡ Some q → KeepsCalls p q schema
kept_within schema p q depth None c is h = absurd cc
kept_within schema p q depth (Some all) c is h =
    subst (λ (q : PlainProgram). AllKept schema p.methods p.methods q.methods) (some_is (with_methods p all.methods) q h) (all_kept (names_of p) p.methods c schema depth 0 p.methods all c.named c.sound is)

-- the inlined program keeps what the program with calls does
pub inlined_keeps : (schema : Schema) (p q : PlainProgram) → BreaksNone p → AreFitting p.methods → IsInlined p q → KeepsCalls p q schema
inlined_keeps schema p q none fitting is =
    kept_within schema p q is.0 (inlined_methods (expand_at is.0 (names_of p) p.methods) 0 p.methods) (program_is_class p none fitting) refl is.1
