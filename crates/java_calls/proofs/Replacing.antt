-- Statements with calls, and those in which the calls are replaced, if each call's statement is replaced so.
use Rattle.std.proofs.Common.{◌≡◌, ℕ, zero, suc, ◌≤◌, Bool, true, false, List, [], ◌∷◌, ◌++◌, Option, Some, None, Result, Ok, Err, refl, sym, ap, ap₂, ◌∙◌, subst, cond, arith}
use Rattle.std.specs.List.{AllByRecursion}
use Rattle.std.specs.Option.{option_map}
use Rattle.qbs_base.specs.declared.span.Span.{Span}
use Rattle.qbs_base.specs.declared.scalar.Value.{Value}
use Rattle.qbs_base.specs.declared.scalar.Value.TheVariants.{Many}
use Rattle.qbs_base.specs.Named.{at_name}
use Rattle.java_ast.specs.Names.{Names, is_among}
use Rattle.java_ast.specs.Tree as tree
use Rattle.java_ast.specs.Tree.{Spelled, Expression, Statement, Declare, Assign, Add, Sort, If, IfElse, ForEach, While, Print, Return, Break, Statements, Nothing, Then}
use Rattle.java_mean.specs.declared.ending.Ending.{Ending}
use Rattle.java_mean.specs.declared.ending.Ending.TheVariants as endings
use Rattle.java_mean.specs.Endings.{◌>>=◌, found}
use Rattle.java_mean.specs.Expression.{value_of, as_rows, as_scalar, as_bool, as_member, element}
use Rattle.java_mean.specs.Refines.{Related, Exits, Passes, PassesBack, Follows, Simulates, followed_by}
use Rattle.java_mean.specs.Statement.{State, Passed, GoesOn, Leaves, Returns, Does, done, then_do, branch, with_variable, with_value, with_line, is_set_type, each, repeat, test_of, returned, meaning, meanings}
use Rattle.java_mean.specs.Store.{Store, Variable}
use Rattle.java_mean.specs.World.{World}
use Rattle.java_mean.proofs.Replaced.{meanings_followed}
use Rattle.java_mean.proofs.Simulates.{follows_then, follows_branch}
use Rattle.java_calls.specs.Called.{Call, call_of, call_at}
use Rattle.java_calls.specs.Calling.{Callee, Given, given_by_call, given, meaning_with, meanings_with}
use Rattle.java_calls.specs.Inlining.{Made, Expand, alone, made_of, both_made, then_made, expanded, inlined, all_inlined}
use Rattle.java_calls.specs.ProgramNames.{type_names, expression_names, statement_names, block_names}
use Rattle.java_calls.specs.Renaming.{Renaming, renamed}
use Rattle.java_calls.proofs.Old.{AreKeptApart}
use Rattle.java_calls.proofs.Under.{Under, under_itself, under_found}
use Rattle.java_calls.proofs.Whole.{Whole, whole_of, whole_calls, all_whole_calls}
use Rattle.java_calls.proofs.Kin.{follows_under, Kin, kin_ways, kin_put, kin_line, kin_goes, kin_each, kin_repeat, kin_value, kin_test}

some_is : {A : Type 0} (a b : A) → Some a ≡ Some b → a ≡ b
some_is a b e = cc

then_done : (q : Result Passed Ending) → then_do q done ≡ q
then_done (Ok (GoesOn s)) = refl
then_done (Ok (Leaves s)) = refl
then_done (Ok (Returns s v)) = refl
then_done (Err e) = refl

pub all_left : {A : Type 0} (P : A → Type 0) (xs ys : List A) → AllByRecursion P (xs ++ ys) → AllByRecursion P xs
all_left P [] ys h = tt
all_left P (x ∷ xs) ys h = (h.0, all_left P xs ys h.1)

pub all_right : {A : Type 0} (P : A → Type 0) (xs ys : List A) → AllByRecursion P (xs ++ ys) → AllByRecursion P ys
all_right P [] ys h = h
all_right P (x ∷ xs) ys h = all_right P xs ys h.1

module _ (names : Names) (f : Renaming) (suits : AreKeptApart names f) (taken : ℕ) (base : Store) (w : World) (callee : Callee) (expand : Expand) (Q : Whole → Type 0) where
  abbrev K : Related
  K = Kin names f suits taken base

  abbrev ways : Exits
  ways = kin_ways names f suits taken base

  abbrev AreNamed : Names → Type 0
  AreNamed = AllByRecursion (λ x. is_among names x ≡ true)

  -- what is made does the same, and takes numbers from this one on
  pub record Good (k : ℕ) (g : Does) (made : Made) : Type 0 where
    pub sim : Simulates K K ways g (meanings made.block w)
    pub more : k ≤ made.taken

  good_alone : (k : ℕ) (g : Does) (a : Statement) → ((t s : State) → K t s → Follows K ways (g t) (meaning a w s)) → Good k g (alone a k)
  good_alone k g a h = record { sim = record { by = λ t s i. subst (Follows K ways (g t)) (sym (then_done (meaning a w s))) (h t s i) }; more = omega arith }

  pub good_is : (k : ℕ) (g : Does) (m made : Made) → Some m ≡ Some made → Good k g m → Good k g made
  good_is k g m made e h = subst (Good k g) (some_is m made e) h

  module _ (calls : (k : ℕ) (s : Statement) (call : Call) (made : Made) → call_at s ≡ Some call → Q (s, call) → AreNamed (statement_names s) → taken ≤ k → expand k f s call ≡ Some made → Good k (meaning_with callee s w) made) where
    declared_alone : (at : Span) (ty : Spelled) (x : List ℕ) (hx : is_among names x ≡ true) (t s : State) (i : K t s) (o q : Result Value Ending) → Under o q → Follows K ways ((o >>= λ v. Ok (record { value = v; state = t })) >>= λ (g : Given). done (with_variable g.state x (record { value = g.value; is_set = is_set_type ty }))) (q >>= λ v. done (with_variable s (f x) (record { value = v; is_set = is_set_type ty })))
    declared_alone at ty x hx t s i (Ok v) q e = subst (λ z. Follows K ways (done (with_variable t x (record { value = v; is_set = is_set_type ty }))) (z >>= λ u. done (with_variable s (f x) (record { value = u; is_set = is_set_type ty })))) (sym e) (kin_goes names f suits taken base _ _ (kin_put names f suits taken base t s x _ hx i))
    declared_alone at ty x hx t s i (Err (endings.Faulted fault to)) q e = tt
    declared_alone at ty x hx t s i (Err endings.OutOfTurns) q e = tt
    declared_alone at ty x hx t s i (Err endings.Stuck) q e = tt

    pub assigned_held : (x : List ℕ) (hx : is_among names x ≡ true) (t s : State) (i : K t s) (v : Value) → Follows K ways (found (at_name t.store x) >>= λ held. done (with_value t x held v)) (found (at_name s.store (f x)) >>= λ held. done (with_value s (f x) held v))
    assigned_held x hx t s i v = follows_under K ways _ _ _ _ tt (under_found f t.store s.store i.includes.by w x) (λ held. kin_goes names f suits taken base _ _ (kin_put names f suits taken base t s x _ hx i))

    assigned_alone : (x : List ℕ) (hx : is_among names x ≡ true) (t s : State) (i : K t s) (o q : Result Value Ending) → Under o q → Follows K ways ((o >>= λ v. Ok (record { value = v; state = t })) >>= λ (g : Given). found (at_name g.state.store x) >>= λ held. done (with_value g.state x held g.value)) (q >>= λ v. found (at_name s.store (f x)) >>= λ held. done (with_value s (f x) held v))
    assigned_alone x hx t s i (Ok v) q e = subst (λ z. Follows K ways (found (at_name t.store x) >>= λ held. done (with_value t x held v)) (z >>= λ u. found (at_name s.store (f x)) >>= λ held. done (with_value s (f x) held u))) (sym e) (assigned_held x hx t s i v)
    assigned_alone x hx t s i (Err (endings.Faulted fault to)) q e = tt
    assigned_alone x hx t s i (Err endings.OutOfTurns) q e = tt
    assigned_alone x hx t s i (Err endings.Stuck) q e = tt

    good_declare : (at : Span) (ty : Spelled) (x : List ℕ) (e : Expression) (k : ℕ) (made : Made) → AreNamed (statement_names (Declare at ty x e)) → taken ≤ k → (o : Option Call) → AllByRecursion Q (whole_of (Declare at ty x e) o) → call_of e ≡ o → expanded expand k f (Declare at ty x e) o (Declare at ty (f x) (renamed f e)) ≡ Some made → Good k (meaning_with callee (Declare at ty x e) w) made
    good_declare at ty x e k made n le (Some call) q c h = calls k (Declare at ty x e) call made c q.0 n le h
    good_declare at ty x e k made n le None q c h =
        good_is k _ _ made h (good_alone k _ _ (λ t s i. subst (λ o. Follows K ways (given_by_call callee w t o e >>= λ (g : Given). done (with_variable g.state x (record { value = g.value; is_set = is_set_type ty }))) (meaning (Declare at ty (f x) (renamed f e)) w s)) (sym c) (declared_alone at ty x n.0 t s i (value_of e w t.store) (value_of (renamed f e) w s.store) (kin_value names f suits taken base w e t s i))))

    good_assign : (at : Span) (x : List ℕ) (e : Expression) (k : ℕ) (made : Made) → AreNamed (statement_names (Assign at x e)) → taken ≤ k → (o : Option Call) → AllByRecursion Q (whole_of (Assign at x e) o) → call_of e ≡ o → expanded expand k f (Assign at x e) o (Assign at (f x) (renamed f e)) ≡ Some made → Good k (meaning_with callee (Assign at x e) w) made
    good_assign at x e k made n le (Some call) q c h = calls k (Assign at x e) call made c q.0 n le h
    good_assign at x e k made n le None q c h =
        good_is k _ _ made h (good_alone k _ _ (λ t s i. subst (λ o. Follows K ways (given_by_call callee w t o e >>= λ (g : Given). found (at_name g.state.store x) >>= λ held. done (with_value g.state x held g.value)) (meaning (Assign at (f x) (renamed f e)) w s)) (sym c) (assigned_alone x n.0 t s i (value_of e w t.store) (value_of (renamed f e) w s.store) (kin_value names f suits taken base w e t s i))))

    -- ---- Statements with bodies, given what is made of these

    good_if : (at : Span) (c : Expression) (a : Statements) (k : ℕ) (made : Made) → ((m : Made) → all_inlined expand f k a ≡ Some m → Good k (meanings_with callee a w) m) → (o : Option Made) → all_inlined expand f k a ≡ o → made_of (If at (renamed f c)) o ≡ Some made → Good k (meaning_with callee (If at c a) w) made
    good_if at c a k made ih None e h = absurd cc
    good_if at c a k made ih (Some m) e h =
        let i : Good k (meanings_with callee a w) m = ih m e in
        let one : Good k (meaning_with callee (If at c a) w) (alone (If at (renamed f c) m.block) k) =
        good_alone k _ _ (λ t s r. follows_under K ways (test_of c w t.store) (test_of (renamed f c) w s.store) _ _ tt (kin_test names f suits taken base w c t s r) (λ b. follows_branch K ways b (meanings_with callee a w) done (meanings m.block w) done t s (i.sim.by t s r) (kin_goes names f suits taken base t s r))) in
        good_is k _ _ made h (record { sim = one.sim; more = i.more })

    good_either : (at : Span) (c : Expression) (a b : Statements) (k : ℕ) (made m : Made) → Good k (meanings_with callee a w) m → ((n : Made) → all_inlined expand f m.taken b ≡ Some n → Good m.taken (meanings_with callee b w) n) → (o : Option Made) → all_inlined expand f m.taken b ≡ o → option_map (λ (n : Made). alone (IfElse at (renamed f c) m.block n.block) n.taken) o ≡ Some made → Good k (meaning_with callee (IfElse at c a b) w) made
    good_either at c a b k made m i ih None e h = absurd cc
    good_either at c a b k made m i ih (Some n) e h =
        let j : Good m.taken (meanings_with callee b w) n = ih n e in
        let one : Good k (meaning_with callee (IfElse at c a b) w) (alone (IfElse at (renamed f c) m.block n.block) k) =
        good_alone k _ _ (λ t s r. follows_under K ways (test_of c w t.store) (test_of (renamed f c) w s.store) _ _ tt (kin_test names f suits taken base w c t s r) (λ x. follows_branch K ways x (meanings_with callee a w) (meanings_with callee b w) (meanings m.block w) (meanings n.block w) t s (i.sim.by t s r) (j.sim.by t s r))) in
        let le : k ≤ m.taken = i.more in let le' : m.taken ≤ n.taken = j.more in
        good_is k _ _ made h (record { sim = one.sim; more = omega arith })

    good_if_else : (at : Span) (c : Expression) (a b : Statements) (k : ℕ) (made : Made) → ((m : Made) → all_inlined expand f k a ≡ Some m → Good k (meanings_with callee a w) m) → ((j : ℕ) (n : Made) → k ≤ j → all_inlined expand f j b ≡ Some n → Good j (meanings_with callee b w) n) → (o : Option Made) → all_inlined expand f k a ≡ o → both_made (IfElse at (renamed f c)) o (λ j. all_inlined expand f j b) ≡ Some made → Good k (meaning_with callee (IfElse at c a b) w) made
    good_if_else at c a b k made ih ih' None e h = absurd cc
    good_if_else at c a b k made ih ih' (Some m) e h =
        let i : Good k (meanings_with callee a w) m = ih m e in
        good_either at c a b k made m i (λ n e'. ih' m.taken n i.more e') (all_inlined expand f m.taken b) refl h

    good_each : (at : Span) (ty : Spelled) (x : List ℕ) (e : Expression) (body : Statements) (k : ℕ) (made : Made) → is_among names x ≡ true → ((m : Made) → all_inlined expand f k body ≡ Some m → Good k (meanings_with callee body w) m) → (o : Option Made) → all_inlined expand f k body ≡ o → made_of (ForEach at ty (f x) (renamed f e)) o ≡ Some made → Good k (meaning_with callee (ForEach at ty x e body) w) made
    good_each at ty x e body k made hx ih None q h = absurd cc
    good_each at ty x e body k made hx ih (Some m) q h =
        let i : Good k (meanings_with callee body w) m = ih m q in
        let one : Good k (meaning_with callee (ForEach at ty x e body) w) (alone (ForEach at ty (f x) (renamed f e) m.block) k) =
        good_alone k _ _ (λ t s r. follows_under K ways (value_of e w t.store) (value_of (renamed f e) w s.store) _ _ tt (kin_value names f suits taken base w e t s r) (λ v. follows_under K ways (as_rows v) (as_rows v) _ _ tt (under_itself _) (λ rows. (kin_each names f suits taken base x (meanings_with callee body w) (meanings m.block w) hx i.sim rows).by t s r))) in
        good_is k _ _ made h (record { sim = one.sim; more = i.more })

    good_while : (at : Span) (c : Expression) (body : Statements) (k : ℕ) (made : Made) → ((m : Made) → all_inlined expand f k body ≡ Some m → Good k (meanings_with callee body w) m) → (o : Option Made) → all_inlined expand f k body ≡ o → made_of (While at (renamed f c)) o ≡ Some made → Good k (meaning_with callee (While at c body) w) made
    good_while at c body k made ih None q h = absurd cc
    good_while at c body k made ih (Some m) q h =
        let i : Good k (meanings_with callee body w) m = ih m q in
        let one : Good k (meaning_with callee (While at c body) w) (alone (While at (renamed f c) m.block) k) =
        good_alone k _ _ (λ t s r. subst (λ n. Follows K ways (repeat t.turns (test_of c w) (meanings_with callee body w) t) (repeat n (test_of (renamed f c) w) (meanings m.block w) s)) r.turns ((kin_repeat names f suits taken base (test_of c w) (test_of (renamed f c) w) (meanings_with callee body w) (meanings m.block w) (kin_test names f suits taken base w c) i.sim t.turns).by t s r)) in
        good_is k _ _ made h (record { sim = one.sim; more = i.more })

    good_return : (o : Option Expression) (t s : State) → K t s → Follows K ways (returned o w t) (returned (option_map (renamed f) o) w s)
    good_return None t s r = (record { state = s; is = refl; lines = r.lines }, tt)
    good_return (Some e) t s r = follows_under K ways (value_of e w t.store) (value_of (renamed f e) w s.store) _ _ tt (kin_value names f suits taken base w e t s r) (λ v. (record { state = s; is = refl; lines = r.lines }, tt))

    -- ---- All statements

    good_both : (a p : _) (k : ℕ) (made m : Made) → Good k (meaning_with callee a w) m → ((n : Made) → all_inlined expand f m.taken p ≡ Some n → Good m.taken (meanings_with callee p w) n) → (o : Option Made) → all_inlined expand f m.taken p ≡ o → option_map (λ (n : Made). record { block = followed_by m.block n.block; taken = n.taken }) o ≡ Some made → Good k (meanings_with callee (Then a p) w) made
    good_both a p k made m i ih None q h = absurd cc
    good_both a p k made m i ih (Some n) q h =
        let j : Good m.taken (meanings_with callee p w) n = ih n q in
        let le : k ≤ m.taken = i.more in let le' : m.taken ≤ n.taken = j.more in
        good_is k _ _ made h (record {
          sim = record { by = λ t s r. subst (Follows K ways (meanings_with callee (Then a p) w t)) (sym (meanings_followed m.block n.block w s)) (follows_then K K ways (meaning_with callee a w t) (meanings m.block w s) (meanings_with callee p w) (meanings n.block w) (i.sim.by t s r) j.sim.by) };
          more = omega arith;
        })

    good_then : (a p : _) (k : ℕ) (made : Made) → ((m : Made) → inlined expand f k a ≡ Some m → Good k (meaning_with callee a w) m) → ((j : ℕ) (n : Made) → k ≤ j → all_inlined expand f j p ≡ Some n → Good j (meanings_with callee p w) n) → (o : Option Made) → inlined expand f k a ≡ o → then_made o (λ j. all_inlined expand f j p) ≡ Some made → Good k (meanings_with callee (Then a p) w) made
    good_then a p k made ih ih' None q h = absurd cc
    good_then a p k made ih ih' (Some m) q h = let i : Good k (meaning_with callee a w) m = ih m q in good_both a p k made m i (λ n e. ih' m.taken n i.more e) (all_inlined expand f m.taken p) refl h

    mutual
      pub good_statement : (a : Statement) (k : ℕ) (made : Made) → AllByRecursion Q (whole_calls a) → AreNamed (statement_names a) → taken ≤ k → inlined expand f k a ≡ Some made → Good k (meaning_with callee a w) made
      good_statement (Declare at ty x e) k made q n le h = good_declare at ty x e k made n le (call_of e) q refl h
      good_statement (Assign at x e) k made q n le h = good_assign at x e k made n le (call_of e) q refl h
      good_statement (Add at x e) k made q n le h =
          good_is k _ _ made h (good_alone k _ _ (λ t s i. follows_under K ways (value_of e w t.store) (value_of (renamed f e) w s.store) _ _ tt (kin_value names f suits taken base w e t s i) (λ v. follows_under K ways (as_member v) (as_member v) _ _ tt (under_itself _) (λ row. follows_under K ways _ _ _ _ tt (under_found f t.store s.store i.includes.by w x) (λ held. follows_under K ways (as_rows held.value) (as_rows held.value) _ _ tt (under_itself _) (λ rows. kin_goes names f suits taken base _ _ (kin_put names f suits taken base t s x _ n.0 i)))))))
      good_statement (Sort at x keys downs) k made q n le h =
          good_is k _ _ made h (good_alone k _ _ (λ t s i. follows_under K ways _ _ _ _ tt (under_found f t.store s.store i.includes.by w x) (λ held. follows_under K ways (as_rows held.value) (as_rows held.value) _ _ tt (under_itself _) (λ rows. kin_goes names f suits taken base _ _ (kin_put names f suits taken base t s x _ n.0 i)))))
      good_statement (If at c a) k made q n le h = good_if at c a k made (λ m e. good_statements a k m q (all_right _ (expression_names c) (block_names a) n) le e) (all_inlined expand f k a) refl h
      good_statement (IfElse at c a b) k made q n le h =
          let n' = all_right _ (expression_names c) (block_names a ++ block_names b) n in
          good_if_else at c a b k made (λ m e. good_statements a k m (all_left Q (all_whole_calls a) (all_whole_calls b) q) (all_left _ (block_names a) (block_names b) n') le e) (λ j m le' e. good_statements b j m (all_right Q (all_whole_calls a) (all_whole_calls b) q) (all_right _ (block_names a) (block_names b) n') (omega arith) e) (all_inlined expand f k a) refl h
      good_statement (ForEach at ty x e body) k made q n le h =
          good_each at ty x e body k made n.0 (λ m e'. good_statements body k m q (all_right _ (expression_names e) (block_names body) (all_right _ (type_names ty) (expression_names e ++ block_names body) n.1)) le e') (all_inlined expand f k body) refl h
      good_statement (While at c body) k made q n le h = good_while at c body k made (λ m e. good_statements body k m q (all_right _ (expression_names c) (block_names body) n) le e) (all_inlined expand f k body) refl h
      good_statement (Print at e) k made q n le h =
          good_is k _ _ made h (good_alone k _ _ (λ t s i. follows_under K ways (value_of e w t.store) (value_of (renamed f e) w s.store) _ _ tt (kin_value names f suits taken base w e t s i) (λ v. follows_under K ways (as_scalar v) (as_scalar v) _ _ tt (under_itself _) (λ x. kin_goes names f suits taken base _ _ (kin_line names f suits taken base t s _ i)))))
      good_statement (Return at e) k made q n le h = good_is k _ _ made h (good_alone k _ _ (λ t s i. good_return e t s i))
      good_statement (Break at) k made q n le h = good_is k _ _ made h (good_alone k _ _ (λ t s i. record { state = s; is = refl; holds = i }))

      pub good_statements : (p : Statements) (k : ℕ) (made : Made) → AllByRecursion Q (all_whole_calls p) → AreNamed (block_names p) → taken ≤ k → all_inlined expand f k p ≡ Some made → Good k (meanings_with callee p w) made
      good_statements Nothing k made q n le h = good_is k _ _ made h (record { sim = record { by = λ t s i. kin_goes names f suits taken base t s i }; more = omega arith })
      good_statements (Then a p) k made q n le h =
          good_then a p k made (λ m e. good_statement a k m (all_left Q (whole_calls a) (all_whole_calls p) q) (all_left _ (statement_names a) (block_names p) n) le e) (λ j m le' e. good_statements p j m (all_right Q (whole_calls a) (all_whole_calls p) q) (all_right _ (statement_names a) (block_names p) n) (omega arith) e) (inlined expand f k a) refl h
