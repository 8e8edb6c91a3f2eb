-- A path that leads to a loop is among those of the program's loops.
use Rattle.std.specs.Prelude.{ℕ, zero, suc, Bool, true, false, ◌||◌, ◌==◌, List, [], ◌∷◌, ◌++◌, slice_get, if◌then◌else◌}
use Rattle.std.specs.List.{list_any}
use Rattle.std.proofs.Common.{◌≡◌, ◌+◌, Option, Some, None, refl, sym, ap, ◌∙◌, subst, append_assoc, arith}
use Rattle.std.proofs.lemmas.Bool.{or_left, or_right}
use Rattle.std.proofs.lemmas.Bool.Decides.{nat_tests}
use Rattle.tor_terms.specs.Same.{same_numbers}
use Rattle.java_ast.specs.Path.{found_in, numbered, branch_of, statement_in, statement_at}
use Rattle.java_ast.specs.Tree.{Statement, Statements, Nothing, Then, PlainMethod, PlainProgram}
use Rattle.java_ast.specs.Tree as tree
use Rattle.java_loops.proofs.Valid.ValidNumbers.{numbers_self}
use Rattle.loop_text.specs.Statements.Loops.{is_loop, loops_in, loops_among, loops_of_methods, loops_of}
use Rattle.loop_text.specs.Statements.Walking.{IsLoopOf}

-- what is found in what is found
record FoundIn {A B : Type 0} (f : A → Option B) (o : Option A) (y : B) : Type 0 where
  value : A
  is : o ≡ Some value
  gives : f value ≡ Some y

found_both : {A B : Type 0} (f : A → Option B) (o : Option A) (y : B) → found_in f o ≡ Some y → FoundIn f o y
found_both f None y e = absurd cc
found_both f (Some x) y e = record { value = x; is = refl; gives = e }

not_first : (b : ℕ) → (suc b == 0) ≡ false
not_first b = grind (arith, nat_tests)

not_second : (b : ℕ) → (suc (suc b) == 1) ≡ false
not_second b = grind (arith, nat_tests)

-- ---- A loop is listed

either_any : (b c d : Bool) → (c ≡ true → d ≡ true) → (b || c) ≡ true → (b || d) ≡ true
either_any true c d more h = refl
either_any false c d more h = more h

any_left : (path : List ℕ) (xs ys : List (List ℕ)) → list_any (same_numbers path) xs ≡ true → list_any (same_numbers path) (xs ++ ys) ≡ true
any_left path [] ys h = absurd cc
any_left path (x ∷ xs) ys h = either_any (same_numbers path x) (list_any (same_numbers path) xs) (list_any (same_numbers path) (xs ++ ys)) (any_left path xs ys) h

any_right : (path : List ℕ) (xs ys : List (List ℕ)) → list_any (same_numbers path) ys ≡ true → list_any (same_numbers path) (xs ++ ys) ≡ true
any_right path [] ys h = h
any_right path (x ∷ xs) ys h = or_right (same_numbers path x) (list_any (same_numbers path) (xs ++ ys)) (any_right path xs ys h)

listed_itself : (here : List ℕ) (z : Statement) → is_loop z ≡ true → list_any (same_numbers here) (loops_in here z) ≡ true
listed_itself here (tree.Declare at ty x e) h = absurd cc
listed_itself here (tree.Assign at x e) h = absurd cc
listed_itself here (tree.Add at x e) h = absurd cc
listed_itself here (tree.Sort at x keys down) h = absurd cc
listed_itself here (tree.If at c a) h = absurd cc
listed_itself here (tree.IfElse at c a d) h = absurd cc
listed_itself here (tree.ForEach at ty x e a) h = or_left (same_numbers here here) (list_any (same_numbers here) (loops_among (here ++ 0 ∷ []) 0 a)) (numbers_self here)
listed_itself here (tree.While at c a) h = or_left (same_numbers here here) (list_any (same_numbers here) (loops_among (here ++ 0 ∷ []) 0 a)) (numbers_self here)
listed_itself here (tree.Print at e) h = absurd cc
listed_itself here (tree.Return at e) h = absurd cc
listed_itself here (tree.Break at) h = absurd cc

module _ (q here : List ℕ) where
  one_listed : (b : ℕ) (a body : Statements) → (if b == 0 then Some a else None) ≡ Some body → list_any (same_numbers q) (loops_among (here ++ b ∷ []) 0 body) ≡ true → list_any (same_numbers q) (loops_among (here ++ 0 ∷ []) 0 a) ≡ true
  one_listed zero a body is h = let same : body ≡ a = cc in subst (λ (x : Statements). list_any (same_numbers q) (loops_among (here ++ 0 ∷ []) 0 x) ≡ true) same h
  one_listed (suc b) a body is h = absurd (let no : None ≡ Some body = ap (λ (t : Bool). if t then Some a else None) (sym (not_first b)) ∙ is in cc)

  other_listed : (b : ℕ) (a body : Statements) → (if b == 1 then Some a else None) ≡ Some body → list_any (same_numbers q) (loops_among (here ++ b ∷ []) 0 body) ≡ true → list_any (same_numbers q) (loops_among (here ++ 1 ∷ []) 0 a) ≡ true
  other_listed zero a body is h = absurd cc
  other_listed (suc zero) a body is h = let same : body ≡ a = cc in subst (λ (x : Statements). list_any (same_numbers q) (loops_among (here ++ 1 ∷ []) 0 x) ≡ true) same h
  other_listed (suc (suc b)) a body is h = absurd (let no : None ≡ Some body = ap (λ (t : Bool). if t then Some a else None) (sym (not_second b)) ∙ is in cc)

  either_listed : (b : ℕ) (a d body : Statements) → (if b == 0 then Some a else (if b == 1 then Some d else None)) ≡ Some body → list_any (same_numbers q) (loops_among (here ++ b ∷ []) 0 body) ≡ true
      → list_any (same_numbers q) (loops_among (here ++ 0 ∷ []) 0 a ++ loops_among (here ++ 1 ∷ []) 0 d) ≡ true
  either_listed zero a d body is h = any_left q (loops_among (here ++ 0 ∷ []) 0 a) (loops_among (here ++ 1 ∷ []) 0 d) (one_listed zero a body is h)
  either_listed (suc b) a d body is h = any_right q (loops_among (here ++ 0 ∷ []) 0 a) (loops_among (here ++ 1 ∷ []) 0 d) (other_listed (suc b) d body (ap (λ (t : Bool). if t then Some a else (if suc b == 1 then Some d else None)) (sym (not_first b)) ∙ is) h)

  listed_below : (b : ℕ) (s : Statement) (body : Statements) → branch_of b s ≡ Some body → list_any (same_numbers q) (loops_among (here ++ b ∷ []) 0 body) ≡ true → list_any (same_numbers q) (loops_in here s) ≡ true
  listed_below b (tree.Declare at ty x e) body is h = absurd cc
  listed_below b (tree.Assign at x e) body is h = absurd cc
  listed_below b (tree.Add at x e) body is h = absurd cc
  listed_below b (tree.Sort at x keys down) body is h = absurd cc
  listed_below b (tree.If at c a) body is h = one_listed b a body is h
  listed_below b (tree.IfElse at c a d) body is h = either_listed b a d body is h
  listed_below b (tree.ForEach at ty x e a) body is h = or_right (same_numbers q here) (list_any (same_numbers q) (loops_among (here ++ 0 ∷ []) 0 a)) (one_listed b a body is h)
  listed_below b (tree.While at c a) body is h = or_right (same_numbers q here) (list_any (same_numbers q) (loops_among (here ++ 0 ∷ []) 0 a)) (one_listed b a body is h)
  listed_below b (tree.Print at e) body is h = absurd cc
  listed_below b (tree.Return at e) body is h = absurd cc
  listed_below b (tree.Break at) body is h = absurd cc

-- the loops of the statement with the number k are among those of the block, whose first statement has the number n
listed_at : (q here : List ℕ) (k n i : ℕ) (block : Statements) (s : Statement) → i ≡ n + k → numbered k block ≡ Some s → list_any (same_numbers q) (loops_in (here ++ i ∷ []) s) ≡ true → list_any (same_numbers q) (loops_among here n block) ≡ true
listed_at q here zero n i Nothing s sum e h = absurd cc
listed_at q here (suc k) n i Nothing s sum e h = absurd cc
listed_at q here zero n i (Then a p) s sum e h =
    let same : s ≡ a = cc in
    let first : i ≡ n = omega arith in
    any_left q (loops_in (here ++ n ∷ []) a) (loops_among here (suc n) p)
    (subst (λ (j : ℕ). list_any (same_numbers q) (loops_in (here ++ j ∷ []) a) ≡ true) first (subst (λ (x : Statement). list_any (same_numbers q) (loops_in (here ++ i ∷ []) x) ≡ true) same h))
listed_at q here (suc k) n i (Then a p) s sum e h =
    let later : i ≡ suc n + k = omega arith in
    any_right q (loops_in (here ++ n ∷ []) a) (loops_among here (suc n) p) (listed_at q here k (suc n) i p s later e h)

listed_in : (path here : List ℕ) (n : ℕ) (block : Statements) (z : Statement) → statement_in path n block ≡ Some z → is_loop z ≡ true → list_any (same_numbers (here ++ n ∷ path)) (loops_among here 0 block) ≡ true
listed_in [] here n block z e l = let whole : n ≡ 0 + n = omega arith in listed_at (here ++ n ∷ []) here n 0 n block z whole e (listed_itself (here ++ n ∷ []) z l)
listed_in (b ∷ []) here n block z e l = absurd cc
listed_in (b ∷ m ∷ path) here n block z e l =
    let a = found_both (λ (x : Statement). found_in (statement_in path m) (branch_of b x)) (numbered n block) z e in
    let d = found_both (statement_in path m) (branch_of b a.value) z a.gives in
    let whole : n ≡ 0 + n = omega arith in
    let inner : list_any (same_numbers (((here ++ n ∷ []) ++ b ∷ []) ++ m ∷ path)) (loops_among ((here ++ n ∷ []) ++ b ∷ []) 0 d.value) ≡ true = listed_in path ((here ++ n ∷ []) ++ b ∷ []) m d.value z d.gives l in
    let same : ((here ++ n ∷ []) ++ b ∷ []) ++ m ∷ path ≡ here ++ n ∷ b ∷ m ∷ path = append_assoc (here ++ n ∷ []) (b ∷ []) (m ∷ path) ∙ append_assoc here (n ∷ []) (b ∷ m ∷ path) in
    listed_at (here ++ n ∷ b ∷ m ∷ path) here n 0 n block a.value whole a.is
    (listed_below (here ++ n ∷ b ∷ m ∷ path) (here ++ n ∷ []) b a.value d.value d.is
    (subst (λ (q : List ℕ). list_any (same_numbers q) (loops_among ((here ++ n ∷ []) ++ b ∷ []) 0 d.value) ≡ true) same inner))

listed_among : (q : List ℕ) (k n i : ℕ) (ms : List PlainMethod) (m : PlainMethod) → i ≡ n + k → slice_get ms k ≡ Some m → list_any (same_numbers q) (loops_among (i ∷ []) 0 m.body) ≡ true → list_any (same_numbers q) (loops_of_methods n ms) ≡ true
listed_among q zero n i [] m sum e h = absurd cc
listed_among q (suc k) n i [] m sum e h = absurd cc
listed_among q zero n i (x ∷ ms) m sum e h =
    let same : m ≡ x = cc in
    let first : i ≡ n = omega arith in
    any_left q (loops_among (n ∷ []) 0 x.body) (loops_of_methods (suc n) ms)
    (subst (λ (j : ℕ). list_any (same_numbers q) (loops_among (j ∷ []) 0 x.body) ≡ true) first (subst (λ (y : PlainMethod). list_any (same_numbers q) (loops_among (i ∷ []) 0 y.body) ≡ true) same h))
listed_among q (suc k) n i (x ∷ ms) m sum e h =
    let later : i ≡ suc n + k = omega arith in
    any_right q (loops_among (n ∷ []) 0 x.body) (loops_of_methods (suc n) ms) (listed_among q k (suc n) i ms m later e h)

-- a path that leads to a loop is that of a loop
pub leads_to_loop : (path : List ℕ) (p : PlainProgram) (z : Statement) → statement_at path p ≡ Some z → is_loop z ≡ true → IsLoopOf p path
leads_to_loop [] p z e l = absurd cc
leads_to_loop (i ∷ []) p z e l = absurd cc
leads_to_loop (i ∷ n ∷ path) p z e l =
    let m = found_both (λ (x : PlainMethod). statement_in path n x.body) (slice_get p.methods i) z e in
    let whole : i ≡ 0 + i = omega arith in
    listed_among (i ∷ n ∷ path) i 0 i p.methods m.value whole m.is (listed_in path (i ∷ []) n m.value.body z m.gives l)
