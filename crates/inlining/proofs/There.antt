-- Where no rule of helpers is broken, the inlined program is there.
use Rattle.std.proofs.Common.{◌≡◌, ℕ, zero, suc, ◌+◌, ◌<◌, ◌≤◌, List, [], ◌∷◌, ◌++◌, Option, Some, None, refl, sym, ap, ◌∙◌, subst, option_map, slice_get, arith}
use Rattle.std.specs.List.{AllByRecursion}
use Rattle.java_ast.specs.Path.{with_body, with_methods}
use Rattle.java_ast.specs.Spans.{place_of}
use Rattle.java_ast.specs.Tree.{Expression, Lit, Var, Field, Binary, Not, Equals, Size, Get, Contains, Fetch, Query, QueryLong, QueryBoolean, NewList, NewSet, NewSetOf, Statement, Declare, Assign, Add, Sort, If, IfElse, ForEach, While, Print, Return, Break, Statements, Nothing, Then, PlainMethod, PlainProgram}
use Rattle.java_mean.specs.Refines.{followed_by}
use Rattle.call_parts.specs.Marks.{next_number}
use Rattle.call_rules.specs.Faults.{AreRanked}
use Rattle.java_calls.specs.Called.{Call, call_of, method_at, method_named}
use Rattle.java_calls.specs.Inlining.{Made, AllMade, Expand, alone, both_made, then_made, expanded, inlined, all_inlined, expand_with, expand_at, without_last, last_value, kept_variable, arguments_given, ended, target_of, made_method, inlined_methods, inlined_within}
use Rattle.java_calls.specs.ProgramNames.{names_of}
use Rattle.java_calls.specs.Renaming.{Renaming, as_they_are, marked_but, renamed}
use Rattle.java_calls.specs.Rules.{NoMethod, Site, site_of, sites_in, sites_among, sites_at, sites_of, number_named, BreaksNone}
use Rattle.java_calls.proofs.Calls.{expand_step}
use Rattle.java_calls.proofs.Keeping.{all_each}
use Rattle.java_calls.proofs.Replacing.{all_left, all_right}

pub record IsThere {A : Type 0} (o : Option A) : Type 0 where
  pub it : A
  pub is : o ≡ Some it

-- what is there with so many calls open in one another, or more
pub record IsDeep (room : ℕ) (p : PlainProgram) : Type 0 where
  pub depth : ℕ
  pub high : room ≤ depth
  pub whole : PlainProgram
  pub is : inlined_within depth p ≡ Some whole

some_there : {A : Type 0} (a : A) → IsThere (Some a)
some_there a = record { it = a; is = refl }

map_there : {A B : Type 0} (g : A → B) (o : Option A) → IsThere o → IsThere (option_map g o)
map_there g o h = record { it = g h.it; is = ap (option_map g) h.is }

both_there : (wrap : Statements → Statements → Statement) (o : Option Made) (f : ℕ → Option Made) → IsThere o → ((k : ℕ) → IsThere (f k)) → IsThere (both_made wrap o f)
both_there wrap o f h i =
    let n : IsThere (f h.it.taken) = i h.it.taken in
    record { it = alone (wrap h.it.block n.it.block) n.it.taken; is = ap (λ (o : Option Made). both_made wrap o f) h.is ∙ ap (option_map (λ (n : Made). alone (wrap h.it.block n.block) n.taken)) n.is }

then_there : (o : Option Made) (f : ℕ → Option Made) → IsThere o → ((k : ℕ) → IsThere (f k)) → IsThere (then_made o f)
then_there o f h i =
    let n : IsThere (f h.it.taken) = i h.it.taken in
    record { it = record { block = followed_by h.it.block n.it.block; taken = n.it.taken }; is = ap (λ (o : Option Made). then_made o f) h.is ∙ ap (option_map (λ (n : Made). record { block = followed_by h.it.block n.block; taken = n.taken })) n.is }

method_there : (m : PlainMethod) (o : Option Made) (f : ℕ → Option AllMade) → IsThere o → ((k : ℕ) → IsThere (f k)) → IsThere (made_method m o f)
method_there m o f h i =
    let n : IsThere (f h.it.taken) = i h.it.taken in
    record { it = record { methods = with_body m h.it.block ∷ n.it.methods; taken = n.it.taken }; is = ap (λ (o : Option Made). made_method m o f) h.is ∙ ap (option_map (λ (all : AllMade). record { methods = with_body m h.it.block ∷ all.methods; taken = all.taken })) n.is }

-- ---- Statements

call_first : (P : Site → Type 0) (w : Option Statement) (e : Expression) (call : Call) → call_of e ≡ Some call → AllByRecursion P (sites_in w e) → (site : Site) × P site × (site.call ≡ call)
call_first P w (QueryLong at text es) call is h = by (call_of (QueryLong at text es)) is h
  where
    by : (o : Option Call) → o ≡ Some call → AllByRecursion P (site_of w at o ++ sites_among es) → (site : Site) × P site × (site.call ≡ call)
    by None is h = absurd cc
    by (Some c) is h = let same : c ≡ call = cc in (record { at = at; call = c; whole = w }, h.0, same)
call_first P w (Lit at value) call is h = absurd cc
call_first P w (Var at x) call is h = absurd cc
call_first P w (Field at row column) call is h = absurd cc
call_first P w (Binary at op a b) call is h = absurd cc
call_first P w (Not at e) call is h = absurd cc
call_first P w (Equals at a b) call is h = absurd cc
call_first P w (Size at x) call is h = absurd cc
call_first P w (Get at x e) call is h = absurd cc
call_first P w (Contains at x e) call is h = absurd cc
call_first P w (Fetch at table) call is h = absurd cc
call_first P w (Query at element text es) call is h = absurd cc
call_first P w (QueryBoolean at text es) call is h = absurd cc
call_first P w (NewList at) call is h = absurd cc
call_first P w (NewSet at) call is h = absurd cc
call_first P w (NewSetOf at query) call is h = absurd cc

module _ (expand : Expand) where
  -- the call of the site can be replaced wherever it stands
  abbrev CanBe : Site → Type 0
  CanBe site = (k : ℕ) (f : Renaming) (s : Statement) → IsThere (expand k f s site.call)

  given_there : (f : Renaming) (k : ℕ) (s other : Statement) (w : Option Statement) (e : Expression) (o : Option Call) → call_of e ≡ o → AllByRecursion CanBe (sites_in w e) → IsThere (expanded expand k f s o other)
  given_there f k s other w e None is h = some_there (alone other k)
  given_there f k s other w e (Some call) is h =
      let here : (site : Site) × CanBe site × (site.call ≡ call) = call_first CanBe w e call is h in
      subst (λ (c : Call). IsThere (expand k f s c)) here.2 (here.1 k f s)

  mutual
    statement_there : (f : Renaming) (k : ℕ) (s : Statement) → AllByRecursion CanBe (sites_at s) → IsThere (inlined expand f k s)
    statement_there f k (Declare at ty x e) h = given_there f k (Declare at ty x e) (Declare at ty (f x) (renamed f e)) (Some (Declare at ty x e)) e (call_of e) refl h
    statement_there f k (Assign at x e) h = given_there f k (Assign at x e) (Assign at (f x) (renamed f e)) (Some (Assign at x e)) e (call_of e) refl h
    statement_there f k (Add at x e) h = some_there (alone (Add at (f x) (renamed f e)) k)
    statement_there f k (Sort at x keys downs) h = some_there (alone (Sort at (f x) keys downs) k)
    statement_there f k (If at c a) h = map_there (λ (m : Made). alone (If at (renamed f c) m.block) m.taken) (all_inlined expand f k a) (block_there f k a (all_right CanBe (sites_in None c) (sites_of a) h))
    statement_there f k (IfElse at c a b) h =
        let i = all_right CanBe (sites_in None c) (sites_of a ++ sites_of b) h in
        both_there (IfElse at (renamed f c)) (all_inlined expand f k a) (λ j. all_inlined expand f j b) (block_there f k a (all_left CanBe (sites_of a) (sites_of b) i)) (λ j. block_there f j b (all_right CanBe (sites_of a) (sites_of b) i))
    statement_there f k (ForEach at ty x e body) h = map_there (λ (m : Made). alone (ForEach at ty (f x) (renamed f e) m.block) m.taken) (all_inlined expand f k body) (block_there f k body (all_right CanBe (sites_in None e) (sites_of body) h))
    statement_there f k (While at c body) h = map_there (λ (m : Made). alone (While at (renamed f c) m.block) m.taken) (all_inlined expand f k body) (block_there f k body (all_right CanBe (sites_in None c) (sites_of body) h))
    statement_there f k (Print at e) h = some_there (alone (Print at (renamed f e)) k)
    statement_there f k (Return at e) h = some_there (alone (Return at (option_map (renamed f) e)) k)
    statement_there f k (Break at) h = some_there (alone (Break at) k)

    block_there : (f : Renaming) (k : ℕ) (p : Statements) → AllByRecursion CanBe (sites_of p) → IsThere (all_inlined expand f k p)
    block_there f k Nothing h = some_there (record { block = Nothing; taken = k })
    block_there f k (Then s p) h = then_there (inlined expand f k s) (λ j. all_inlined expand f j p) (statement_there f k s (all_left CanBe (sites_at s) (sites_of p) h)) (λ j. block_there f j p (all_right CanBe (sites_at s) (sites_of p) h))

-- ---- Helpers

all_both : (P : Site → Type 0) (xs ys : List Site) → AllByRecursion P xs → AllByRecursion P ys → AllByRecursion P (xs ++ ys)
all_both P [] ys h i = i
all_both P (x ∷ xs) ys h i = (h.0, all_both P xs ys h.1 i)

front_sites : (P : Site → Type 0) (p : Statements) → AllByRecursion P (sites_of p) → AllByRecursion P (sites_of (without_last p))
front_sites P Nothing h = h
front_sites P (Then s Nothing) h = tt
front_sites P (Then s (Then a p)) h = all_both P (sites_at s) (sites_of (without_last (Then a p))) (all_left P (sites_at s) (sites_of (Then a p)) h) (front_sites P (Then a p) (all_right P (sites_at s) (sites_of (Then a p)) h))

with_there : (inner : Expand) (c : ℕ) (f : Renaming) (s : Statement) (call : Call) (m : PlainMethod) → ((g : Renaming) → IsThere (all_inlined inner g c (without_last m.body))) → IsThere (expand_with inner c f s call (Some m))
with_there inner c f s call m h =
    map_there (λ (made : Made). record {
      block = followed_by (arguments_given (place_of s) (marked_but (kept_variable m) (f (target_of s)) c) m.params f call.arguments)
          (followed_by made.block (ended f s (marked_but (kept_variable m) (f (target_of s)) c) (kept_variable m) (last_value m.body)));
      taken = made.taken;
    }) (all_inlined inner (marked_but (kept_variable m) (f (target_of s)) c) c (without_last m.body)) (h (marked_but (kept_variable m) (f (target_of s)) c))

-- the number and the method of a name
pub record IsCallee (ms : List PlainMethod) (name : List ℕ) : Type 0 where
  pub number : ℕ
  pub method : PlainMethod
  pub named : number_named ms name ≡ Some number
  pub there : slice_get ms number ≡ Some method

callee_by : (ms : List PlainMethod) (name : List ℕ) (o : Option ℕ) → number_named ms name ≡ o → (method_at ms o ≡ None → ⊥) → IsCallee ms name
callee_by ms name None is h = absurd (h refl)
callee_by ms name (Some n) is h = at (slice_get ms n) refl
  where
    at : (u : Option PlainMethod) → slice_get ms n ≡ u → IsCallee ms name
    at None e = absurd (h e)
    at (Some m) e = record { number = n; method = m; named = is; there = e }

callee_method : (ms : List PlainMethod) (name : List ℕ) (callee : IsCallee ms name) → method_named name ms ≡ Some callee.method
callee_method ms name callee = ap (method_at ms) callee.named ∙ callee.there

module _ (p : PlainProgram) (none : BreaksNone p) (ranked : AreRanked p.methods) where
  callee_of_site : (i : ℕ) (m : PlainMethod) → slice_get p.methods i ≡ Some m → (n : ℕ) (site : Site) → slice_get (sites_of m.body) n ≡ Some site → IsCallee p.methods site.call.name
  callee_of_site i m there n site calls =
      callee_by p.methods site.call.name (number_named p.methods site.call.name) refl
      (λ e. none NoMethod site.at (record { i = i; method = m; there = there; n = n; site = site; calls = calls; breaks = e; place = refl }))

  below : (a b : ℕ) → a < b → b ≤ 0 → ⊥
  below a b h i = omega arith

  -- the calls of a method whose rank is no greater can be replaced
  sites_there : (d i : ℕ) (m : PlainMethod) → slice_get p.methods i ≡ Some m → ranked.rank i ≤ d → AllByRecursion (CanBe (expand_at d (names_of p) p.methods)) (sites_of m.body)
  sites_there zero i m there low =
      all_each (CanBe (expand_at zero (names_of p) p.methods)) (sites_of m.body) (λ n site calls.
      let callee = callee_of_site i m there n site calls in
      absurd (below (ranked.rank callee.number) (ranked.rank i) (ranked.falls i callee.number (record { method = m; there = there; number = n; site = site; calls = calls; named = callee.named })) low))
  sites_there (suc d) i m there low =
      all_each (CanBe (expand_at (suc d) (names_of p) p.methods)) (sites_of m.body) (λ n site calls k f s.
      let callee = callee_of_site i m there n site calls in
      let falls : ranked.rank callee.number < ranked.rank i = ranked.falls i callee.number (record { method = m; there = there; number = n; site = site; calls = calls; named = callee.named }) in
      subst (λ (o : Option Made). IsThere o) (sym (expand_step d (names_of p) p.methods k f s site.call ∙ ap (expand_with (expand_at d (names_of p) p.methods) (next_number (names_of p) k) f s site.call) (callee_method p.methods site.call.name callee)))
      (with_there (expand_at d (names_of p) p.methods) (next_number (names_of p) k) f s site.call callee.method (λ g.
      block_there (expand_at d (names_of p) p.methods) g (next_number (names_of p) k) (without_last callee.method.body)
      (front_sites (CanBe (expand_at d (names_of p) p.methods)) callee.method.body (sites_there d callee.number callee.method callee.there (omega arith))))))

  -- ---- Methods

  abbrev highest : ℕ → List PlainMethod → ℕ
  highest i [] = 0
  highest i (m ∷ ms) = ranked.rank i + highest (suc i) ms

  rank_low : (i : ℕ) (ms : List PlainMethod) (n : ℕ) (m : PlainMethod) → slice_get ms n ≡ Some m → ranked.rank (i + n) ≤ highest i ms
  rank_low i [] n m e = absurd cc
  rank_low i (m' ∷ ms) zero m e = let z : i + 0 ≡ i = omega arith in rw z (omega arith)
  rank_low i (m' ∷ ms) (suc n) m e =
      let z : i + suc n ≡ suc i + n = omega arith in
      let ih : ranked.rank (suc i + n) ≤ highest (suc i) ms = rank_low (suc i) ms n m e in
      rw z (omega arith)

  methods_there : (expand : Expand) (k : ℕ) (ms : List PlainMethod) → AllByRecursion (λ (m : PlainMethod). AllByRecursion (CanBe expand) (sites_of m.body)) ms → IsThere (inlined_methods expand k ms)
  methods_there expand k [] h = some_there (record { methods = []; taken = k })
  methods_there expand k (m ∷ ms) h = method_there m (all_inlined expand as_they_are k m.body) (λ j. inlined_methods expand j ms) (block_there expand as_they_are k m.body h.0) (λ j. methods_there expand j ms h.1)

  program_there : (room : ℕ) → IsThere (inlined_within (room + highest 0 p.methods) p)
  program_there room =
      map_there (λ (all : AllMade). with_methods p all.methods) (inlined_methods (expand_at (room + highest 0 p.methods) (names_of p) p.methods) 0 p.methods)
      (methods_there (expand_at (room + highest 0 p.methods) (names_of p) p.methods) 0 p.methods
      (all_each (λ (m : PlainMethod). AllByRecursion (CanBe (expand_at (room + highest 0 p.methods) (names_of p) p.methods)) (sites_of m.body)) p.methods (λ i m there.
      let z : 0 + i ≡ i = omega arith in
      let low : ranked.rank (0 + i) ≤ highest 0 p.methods = rank_low 0 p.methods i m there in
      let low' : ranked.rank i ≤ highest 0 p.methods = subst (λ (j : ℕ). ranked.rank j ≤ highest 0 p.methods) z low in
      sites_there (room + highest 0 p.methods) i m there (omega arith))))

  -- with so many calls open, or more
  pub program_deep : (room : ℕ) → IsDeep room p
  program_deep room =
      let there : IsThere (inlined_within (room + highest 0 p.methods) p) = program_there room in
      record { depth = room + highest 0 p.methods; high = omega arith; whole = there.it; is = there.is }
