-- However many calls may stand in calls, there is one inlined program.
use Rattle.std.proofs.Common.{◌≡◌, ℕ, zero, suc, ◌+◌, List, [], ◌∷◌, Option, Some, None, refl, sym, ap, ◌∙◌, subst, option_map, arith}
use Rattle.java_ast.specs.Names.{Names}
use Rattle.java_ast.specs.Path.{with_body, with_methods}
use Rattle.java_ast.specs.Spans.{place_of}
use Rattle.java_ast.specs.Tree.{Expression, Statement, Declare, Assign, Add, Sort, If, IfElse, ForEach, While, Print, Return, Break, Statements, Nothing, Then, PlainMethod, PlainProgram}
use Rattle.java_mean.specs.Refines.{followed_by}
use Rattle.call_parts.specs.Marks.{next_number}
use Rattle.java_calls.specs.Called.{Call, call_of, method_named}
use Rattle.java_calls.specs.Inlining.{Made, AllMade, Expand, alone, made_of, both_made, then_made, expanded, inlined, all_inlined, expand_with, expand_at, without_last, last_value, kept_variable, arguments_given, ended, target_of, made_method, inlined_methods, inlined_within, IsInlined}
use Rattle.java_calls.specs.ProgramNames.{names_of}
use Rattle.java_calls.specs.Renaming.{Renaming, as_they_are, marked_but, renamed}
use Rattle.java_calls.proofs.Calls.{expand_step, expand_zero}

some_is : {A : Type 0} (a b : A) → Some a ≡ Some b → a ≡ b
some_is a b e = cc

-- where the first answers the second answers the same
abbrev Answers : {A : Type 0} → Option A → Option A → Type 0
Answers {A = A} o u = (a : A) → o ≡ Some a → u ≡ Some a

abbrev Grows : Expand → Expand → Type 0
Grows expand other = (k : ℕ) (f : Renaming) (s : Statement) (call : Call) → Answers (expand k f s call) (other k f s call)

map_grows : {A B : Type 0} (g : A → B) (o u : Option A) → Answers o u → Answers (option_map g o) (option_map g u)
map_grows g None u h b e = absurd cc
map_grows g (Some a) u h b e = subst (λ u. option_map g u ≡ Some b) (sym (h a refl)) e

both_grow : (wrap : Statements → Statements → Statement) (o u : Option Made) (f g : ℕ → Option Made) → Answers o u → ((k : ℕ) → Answers (f k) (g k)) → Answers (both_made wrap o f) (both_made wrap u g)
both_grow wrap None u f g h i b e = absurd cc
both_grow wrap (Some m) u f g h i b e =
    subst (λ u. both_made wrap u g ≡ Some b) (sym (h m refl)) (map_grows (λ (n : Made). alone (wrap m.block n.block) n.taken) (f m.taken) (g m.taken) (i m.taken) b e)

then_grow : (o u : Option Made) (f g : ℕ → Option Made) → Answers o u → ((k : ℕ) → Answers (f k) (g k)) → Answers (then_made o f) (then_made u g)
then_grow None u f g h i b e = absurd cc
then_grow (Some m) u f g h i b e =
    subst (λ u. then_made u g ≡ Some b) (sym (h m refl)) (map_grows (λ (n : Made). record { block = followed_by m.block n.block; taken = n.taken }) (f m.taken) (g m.taken) (i m.taken) b e)

method_grows : (m : PlainMethod) (o u : Option Made) (f g : ℕ → Option AllMade) → Answers o u → ((k : ℕ) → Answers (f k) (g k)) → Answers (made_method m o f) (made_method m u g)
method_grows m None u f g h i b e = absurd cc
method_grows m (Some made) u f g h i b e =
    subst (λ u. made_method m u g ≡ Some b) (sym (h made refl)) (map_grows (λ (all : AllMade). record { methods = with_body m made.block ∷ all.methods; taken = all.taken }) (f made.taken) (g made.taken) (i made.taken) b e)

module _ (expand other : Expand) (grows : Grows expand other) where
  value_grows : (f : Renaming) (k : ℕ) (s t : Statement) (o : Option Call) → Answers (expanded expand k f s o t) (expanded other k f s o t)
  value_grows f k s t (Some call) b h = grows k f s call b h
  value_grows f k s t None b e = e

  mutual
    statement_grows : (f : Renaming) (k : ℕ) (s : Statement) → Answers (inlined expand f k s) (inlined other f k s)
    statement_grows f k (Declare at ty x e) b h = value_grows f k (Declare at ty x e) (Declare at ty (f x) (renamed f e)) (call_of e) b h
    statement_grows f k (Assign at x e) b h = value_grows f k (Assign at x e) (Assign at (f x) (renamed f e)) (call_of e) b h
    statement_grows f k (Add at x e) b h = h
    statement_grows f k (Sort at x keys downs) b h = h
    statement_grows f k (If at c a) b h = map_grows (λ (m : Made). alone (If at (renamed f c) m.block) m.taken) (all_inlined expand f k a) (all_inlined other f k a) (block_grows f k a) b h
    statement_grows f k (IfElse at c a o) b h = both_grow (IfElse at (renamed f c)) (all_inlined expand f k a) (all_inlined other f k a) (λ j. all_inlined expand f j o) (λ j. all_inlined other f j o) (block_grows f k a) (λ j. block_grows f j o) b h
    statement_grows f k (ForEach at ty x e body) b h = map_grows (λ (m : Made). alone (ForEach at ty (f x) (renamed f e) m.block) m.taken) (all_inlined expand f k body) (all_inlined other f k body) (block_grows f k body) b h
    statement_grows f k (While at c body) b h = map_grows (λ (m : Made). alone (While at (renamed f c) m.block) m.taken) (all_inlined expand f k body) (all_inlined other f k body) (block_grows f k body) b h
    statement_grows f k (Print at e) b h = h
    statement_grows f k (Return at e) b h = h
    statement_grows f k (Break at) b h = h

    block_grows : (f : Renaming) (k : ℕ) (p : Statements) → Answers (all_inlined expand f k p) (all_inlined other f k p)
    block_grows f k Nothing b h = h
    block_grows f k (Then s p) b h = then_grow (inlined expand f k s) (inlined other f k s) (λ j. all_inlined expand f j p) (λ j. all_inlined other f j p) (statement_grows f k s) (λ j. block_grows f j p) b h

  methods_grow : (k : ℕ) (ms : List PlainMethod) → Answers (inlined_methods expand k ms) (inlined_methods other k ms)
  methods_grow k [] b h = h
  methods_grow k (m ∷ ms) b h =
      method_grows m (all_inlined expand as_they_are k m.body) (all_inlined other as_they_are k m.body) (λ j. inlined_methods expand j ms) (λ j. inlined_methods other j ms) (block_grows as_they_are k m.body) (λ j. methods_grow j ms) b h

  with_grows : (c : ℕ) (f : Renaming) (s : Statement) (call : Call) (o : Option PlainMethod) → Answers (expand_with expand c f s call o) (expand_with other c f s call o)
  with_grows c f s call None b h = absurd cc
  with_grows c f s call (Some m) b h =
      map_grows (λ (made : Made). record {
        block = followed_by (arguments_given (place_of s) (marked_but (kept_variable m) (f (target_of s)) c) m.params f call.arguments)
            (followed_by made.block (ended f s (marked_but (kept_variable m) (f (target_of s)) c) (kept_variable m) (last_value m.body)));
        taken = made.taken;
      }) (all_inlined expand (marked_but (kept_variable m) (f (target_of s)) c) c (without_last m.body)) (all_inlined other (marked_but (kept_variable m) (f (target_of s)) c) c (without_last m.body))
      (block_grows (marked_but (kept_variable m) (f (target_of s)) c) c (without_last m.body)) b h

module _ (names : Names) (ms : List PlainMethod) where
  none_some : (b : Made) → None ≡ Some b → ⊥
  none_some b e = absurd cc

  one_deeper : (e : ℕ) → Grows (expand_at e names ms) (expand_at (suc e) names ms)
  one_deeper zero k f s call b h = absurd (none_some b (sym (expand_zero names ms k f s call) ∙ h))
  one_deeper (suc e) k f s call b h =
      expand_step (suc e) names ms k f s call
      ∙ with_grows (expand_at e names ms) (expand_at (suc e) names ms) (one_deeper e) (next_number names k) f s call (method_named call.name ms) b (sym (expand_step e names ms k f s call) ∙ h)

  deeper : (e d : ℕ) → Grows (expand_at e names ms) (expand_at (e + d) names ms)
  deeper e zero k f s call b h = let q : e ≡ e + 0 = omega arith in subst (λ n. expand_at n names ms k f s call ≡ Some b) q h
  deeper e (suc d) k f s call b h = let q : suc (e + d) ≡ e + suc d = omega arith in subst (λ n. expand_at n names ms k f s call ≡ Some b) q (one_deeper (e + d) k f s call b (deeper e d k f s call b h))

within_grows : (p q : PlainProgram) (e d : ℕ) → inlined_within e p ≡ Some q → inlined_within (e + d) p ≡ Some q
within_grows p q e d h =
    map_grows (λ (all : AllMade). with_methods p all.methods) (inlined_methods (expand_at e (names_of p) p.methods) 0 p.methods) (inlined_methods (expand_at (e + d) (names_of p) p.methods) 0 p.methods)
    (methods_grow (expand_at e (names_of p) p.methods) (expand_at (e + d) (names_of p) p.methods) (deeper (names_of p) p.methods e d) 0 p.methods) q h

-- the inlined program is one
pub one_inlined : (p q r : PlainProgram) → IsInlined p q → IsInlined p r → q ≡ r
one_inlined p q r is other =
    let same : is.0 + other.0 ≡ other.0 + is.0 = omega arith in
    some_is q r
    (sym (within_grows p q is.0 other.0 is.1)
    ∙ ap (λ n. inlined_within n p) same
    ∙ within_grows p r other.0 is.0 other.1)
