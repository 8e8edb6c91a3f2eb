-- What holds of the conditions of a loop, and of the parts of what it holds of, holds of their leaves and of the entries in these.
use Rattle.std.proofs.Common.{ℕ, suc, Bool, true, false, cond, ◌||◌, List, [], ◌∷◌, ◌++◌, Option, Some, None}
use Rattle.std.specs.List.{AllByRecursion, list_any}
use Rattle.qbs_base.specs.declared.scalar.Scalar.{Scalar}
use Rattle.qbs_base.specs.declared.span.Span.{Span}
use Rattle.sql_ast.proofs.Combinations.{all_append}
use Rattle.java_ast.specs.declared.tree.Op.{Op}
use Rattle.java_ast.specs.Tree.{Expression, Statement, Declare, Assign, Add, Sort, If, IfElse, ForEach, While, Print, Return, Break, Statements, Nothing, Then}
use Rattle.java_ast.specs.Tree as tree
use Rattle.java_grammar.specs.Written.{WrittenScalar}
use Rattle.loop_text.specs.Kernel.Counting.{is_and}
use Rattle.loop_text.specs.Kernel.KernelConditions.{leaves, is_excepted, is_literal, is_row_column, condition_of}
use Rattle.loop_text.specs.Kernel.KernelForms.{is_or}
use Rattle.loop_text.specs.Sites.Sites.{Round, Site, in_loop, with_site, walk, walk_all, without_first, before_last, without_last, kernel_body, outside, sites_of}
use Rattle.java_loops.specs.Lowering.Numbering.{with_new, with_all_new, Leaf, leaves_kept, leaves_of, leaves_from, all_leaves, same_entry, entry_operand, entries_in, entries_among}
use Rattle.rewrite_core.proofs.Writable.Given.{Holds}
use Rattle.rewrite_core.proofs.Writable.Replaced.{IsFine, IsFineStatement, AreFineStatements}

-- ---- Members, each once

module _ {A : Type 0} (P : A → Type 0) (same : A → A → Bool) where
  pub new_where : (xs : List A) (x : A) (t : Bool) → AllByRecursion P xs → P x → AllByRecursion P (cond t xs (xs ++ x ∷ []))
  new_where xs x true h k = h
  new_where xs x false h k = all_append P xs (x ∷ []) h (k, tt)

  pub all_new : (xs ys : List A) → AllByRecursion P xs → AllByRecursion P ys → AllByRecursion P (with_all_new same xs ys)
  all_new xs [] h k = h
  all_new xs (y ∷ ys) h k = all_new (with_new same xs y) ys (new_where xs y (list_any (same y) xs) h k.0) k.1

-- ---- Conditions

-- what it is for a property of expressions to go down to the operands of conditions, where literals can be written
pub record OfParts (P : Expression → Type 0) : Type 0 where
  pub literal : (at : Span) (x : Scalar) → P (tree.Lit at x) → WrittenScalar x
  pub binary : (at : Span) (op : Op) (a b : Expression) → P (tree.Binary at op a b) → P a × P b
  pub negated : (at : Span) (e : Expression) → P (tree.Not at e) → P e
  pub equals : (at : Span) (a b : Expression) → P (tree.Equals at a b) → P a × P b
  pub contains : (at : Span) (x : List ℕ) (e : Expression) → P (tree.Contains at x e) → P e

-- it holds of the conditions of each `if`
abbrev mutual
  pub OfTests : (Expression → Type 0) → Statement → Type 0
  OfTests P (If at c a) = P c × OfAllTests P a
  OfTests P (IfElse at c a b) = P c × OfAllTests P a × OfAllTests P b
  OfTests P (ForEach at ty x e b) = OfAllTests P b
  OfTests P (While at c b) = OfAllTests P b
  OfTests P s = Unit {0}

  pub OfAllTests : (Expression → Type 0) → Statements → Type 0
  OfAllTests P Nothing = Unit {0}
  OfAllTests P (Then s ss) = OfTests P s × OfAllTests P ss

abbrev pub OfLeaf : (Expression → Type 0) → Leaf → Type 0
OfLeaf P l = P l.expression

module _ (P : Expression → Type 0) (parts : OfParts P) where
  -- ---- Sites

  abbrev OfSite : Site → Type 0
  OfSite s = OfTests P s.statement

  abbrev OfSites : List Site → Type 0
  OfSites sites = AllByRecursion OfSite sites

  of_site : (met : List Site) (r : Round) (previous : Option Statement) (s : Statement) → OfTests P s → OfSites met → OfSites (with_site met r previous s)
  of_site met r previous s h k = all_append OfSite met (record { statement = s; round = r; previous = previous } ∷ []) k (h, tt)

  mutual
    of_walk : (r : Round) (previous : Option Statement) (s : Statement) (met : List Site) → OfTests P s → OfSites met → OfSites (walk r previous s met)
    of_walk r previous (Declare at ty x e) met h k = of_site met r previous (Declare at ty x e) h k
    of_walk r previous (Assign at x e) met h k = of_site met r previous (Assign at x e) h k
    of_walk r previous (Add at x e) met h k = of_site met r previous (Add at x e) h k
    of_walk r previous (Sort at x keys downs) met h k = of_site met r previous (Sort at x keys downs) h k
    of_walk r previous (If at c a) met h k = of_walk_all _ None a (with_site met r previous (If at c a)) h.1 (of_site met r previous (If at c a) h k)
    of_walk r previous (IfElse at c a b) met h k = of_walk_all _ None b _ h.2 (of_walk_all _ None a (with_site met r previous (IfElse at c a b)) h.1 (of_site met r previous (IfElse at c a b) h k))
    of_walk r previous (ForEach at ty x e b) met h k = of_walk_all _ None b (with_site met r previous (ForEach at ty x e b)) h (of_site met r previous (ForEach at ty x e b) h k)
    of_walk r previous (While at c b) met h k = of_walk_all _ None b (with_site met r previous (While at c b)) h (of_site met r previous (While at c b) h k)
    of_walk r previous (Print at e) met h k = of_site met r previous (Print at e) h k
    of_walk r previous (Return at e) met h k = of_site met r previous (Return at e) h k
    of_walk r previous (Break at) met h k = of_site met r previous (Break at) h k

    of_walk_all : (r : Round) (previous : Option Statement) (p : Statements) (met : List Site) → OfAllTests P p → OfSites met → OfSites (walk_all r previous p met)
    of_walk_all r previous Nothing met h k = k
    of_walk_all r previous (Then s p) met h k = of_walk_all r (Some s) p (walk r previous s met) h.1 (of_walk r previous s met h.0 k)

  of_without_first : (p : Statements) → OfAllTests P p → OfAllTests P (without_first p)
  of_without_first Nothing h = h
  of_without_first (Then s p) h = h.1

  of_before_last : (s : Statement) (p : Statements) → OfTests P s → OfAllTests P p → OfAllTests P (before_last s p)
  of_before_last s Nothing h k = tt
  of_before_last s (Then t p) h k = (h, of_before_last t p k.0 k.1)

  of_without_last : (p : Statements) → OfAllTests P p → OfAllTests P (without_last p)
  of_without_last Nothing h = h
  of_without_last (Then s p) h = of_before_last s p h.0 h.1

  of_body : (s : Statement) → OfTests P s → OfAllTests P (kernel_body s)
  of_body (ForEach at ty x e b) h = h
  of_body (While at c b) h = of_without_last (without_first b) (of_without_first b h)
  of_body (Declare at ty x e) h = tt
  of_body (Assign at x e) h = tt
  of_body (Add at x e) h = tt
  of_body (Sort at x keys downs) h = tt
  of_body (If at c a) h = tt
  of_body (IfElse at c a b) h = tt
  of_body (Print at e) h = tt
  of_body (Return at e) h = tt
  of_body (Break at) h = tt

  of_sites : (loop : Statement) → OfTests P loop → OfSites (sites_of loop)
  of_sites loop h = of_walk_all (in_loop outside 0) None (kernel_body loop) (with_site [] outside None loop) (of_body loop h) (of_site [] outside None loop h tt)

  -- ---- Leaves

  of_condition : (s : Statement) → OfTests P s → Holds P (condition_of s)
  of_condition (If at c a) h = h.0
  of_condition (IfElse at c a b) h = h.0
  of_condition (Declare at ty x e) h = tt
  of_condition (Assign at x e) h = tt
  of_condition (Add at x e) h = tt
  of_condition (Sort at x keys downs) h = tt
  of_condition (ForEach at ty x e b) h = tt
  of_condition (While at c b) h = tt
  of_condition (Print at e) h = tt
  of_condition (Return at e) h = tt
  of_condition (Break at) h = tt

  leaves_where : (b : Bool) (ls : List Expression) (e : Expression) → AllByRecursion P ls → P e → AllByRecursion P (cond b ls (e ∷ []))
  leaves_where true ls e h k = h
  leaves_where false ls e h k = (k, tt)

  of_leaves : (e : Expression) → P e → AllByRecursion P (leaves e)
  of_leaves (tree.Binary at op a b) h =
      let two = parts.binary at op a b h in
      leaves_where (is_and op || is_or op) (leaves a ++ leaves b) (tree.Binary at op a b) (all_append P (leaves a) (leaves b) (of_leaves a two.0) (of_leaves b two.1)) h
  of_leaves (tree.Not at e) h = of_leaves e (parts.negated at e h)
  of_leaves (tree.Lit at x) h = (h, tt)
  of_leaves (tree.Var at x) h = (h, tt)
  of_leaves (tree.Field at e m) h = (h, tt)
  of_leaves (tree.Equals at a b) h = (h, tt)
  of_leaves (tree.Size at x) h = (h, tt)
  of_leaves (tree.Get at x e) h = (h, tt)
  of_leaves (tree.Contains at x e) h = (h, tt)
  of_leaves (tree.Fetch at m) h = (h, tt)
  of_leaves (tree.Query at ty text es) h = (h, tt)
  of_leaves (tree.QueryLong at text es) h = (h, tt)
  of_leaves (tree.QueryBoolean at text es) h = (h, tt)
  of_leaves (tree.NewList at) h = (h, tt)
  of_leaves (tree.NewSet at) h = (h, tt)
  of_leaves (tree.NewSetOf at e) h = (h, tt)

  kept_where : (b : Bool) (l : Leaf) (ls : List Leaf) → P l.expression → AllByRecursion (OfLeaf P) ls → AllByRecursion (OfLeaf P) (cond b ls (l ∷ ls))
  kept_where true l ls h k = k
  kept_where false l ls h k = (h, k)

  of_kept : (sites : List Site) (n : ℕ) (es : List Expression) → AllByRecursion P es → AllByRecursion (OfLeaf P) (leaves_kept sites n es)
  of_kept sites n [] h = tt
  of_kept sites n (e ∷ es) h = kept_where (is_excepted sites n e) (record { number = n; expression = e }) (leaves_kept sites n es) h.0 (of_kept sites n es h.1)

  of_leaves_of : (sites : List Site) (n : ℕ) (o : Option Expression) → Holds P o → AllByRecursion (OfLeaf P) (leaves_of sites n o)
  of_leaves_of sites n (Some c) h = of_kept sites n (leaves c) (of_leaves c h)
  of_leaves_of sites n None h = tt

  of_leaves_from : (sites : List Site) (n : ℕ) (ss : List Site) → OfSites ss → AllByRecursion (OfLeaf P) (leaves_from sites n ss)
  of_leaves_from sites n [] h = tt
  of_leaves_from sites n (s ∷ ss) h =
      all_append (OfLeaf P) (leaves_of sites n (condition_of s.statement)) (leaves_from sites (suc n) ss) (of_leaves_of sites n (condition_of s.statement) (of_condition s.statement h.0)) (of_leaves_from sites (suc n) ss h.1)

  -- The leaves of a loop's conditions.
  pub of_all_leaves : (loop : Statement) → OfTests P loop → AllByRecursion (OfLeaf P) (all_leaves (sites_of loop))
  of_all_leaves loop h = of_leaves_from (sites_of loop) 0 (sites_of loop) (of_sites loop h)

  -- ---- Entries of leaves

  operand_where : (b : Bool) (e : Expression) → P e → AllByRecursion P (cond b [] (e ∷ []))
  operand_where true e h = tt
  operand_where false e h = (h, tt)

  of_operands : (sites : List Site) (n : ℕ) (a b : Expression) → P a × P b → AllByRecursion P (entry_operand sites n a ++ entry_operand sites n b)
  of_operands sites n a b h =
      all_append P (entry_operand sites n a) (entry_operand sites n b) (operand_where (is_row_column sites n a || is_literal a) a h.0) (operand_where (is_row_column sites n b || is_literal b) b h.1)

  of_entries_in : (sites : List Site) (n : ℕ) (e : Expression) → P e → AllByRecursion P (entries_in sites n e)
  of_entries_in sites n (tree.Binary at op a b) h = of_operands sites n a b (parts.binary at op a b h)
  of_entries_in sites n (tree.Equals at a b) h = of_operands sites n a b (parts.equals at a b h)
  of_entries_in sites n (tree.Lit at x) h = tt
  of_entries_in sites n (tree.Var at x) h = tt
  of_entries_in sites n (tree.Field at e m) h = tt
  of_entries_in sites n (tree.Not at e) h = tt
  of_entries_in sites n (tree.Size at x) h = tt
  of_entries_in sites n (tree.Get at x e) h = tt
  of_entries_in sites n (tree.Contains at x e) h = tt
  of_entries_in sites n (tree.Fetch at m) h = tt
  of_entries_in sites n (tree.Query at ty text es) h = tt
  of_entries_in sites n (tree.QueryLong at text es) h = tt
  of_entries_in sites n (tree.QueryBoolean at text es) h = tt
  of_entries_in sites n (tree.NewList at) h = tt
  of_entries_in sites n (tree.NewSet at) h = tt
  of_entries_in sites n (tree.NewSetOf at e) h = tt

  pub of_entries_among : (sites : List Site) (es : List Expression) (ls : List Leaf) → AllByRecursion P es → AllByRecursion (OfLeaf P) ls → AllByRecursion P (entries_among sites es ls)
  of_entries_among sites es [] h k = h
  of_entries_among sites es (l ∷ ls) h k =
      of_entries_among sites (with_all_new same_entry es (entries_in sites l.number l.expression)) ls
      (all_new P same_entry es (entries_in sites l.number l.expression) h (of_entries_in sites l.number l.expression k.0)) k.1

-- ---- Of the grammar, and written

pub fine_parts : OfParts IsFine
fine_parts = record {
  literal = λ at x h. h.1;
  binary = λ at op a b h. ((h.0.0, h.1.0), (h.0.1, h.1.1));
  negated = λ at e h. h;
  equals = λ at a b h. ((h.0.0, h.1.0), (h.0.1, h.1.1));
  contains = λ at x e h. (h.0.1, h.1.1);
}

mutual
  pub fine_tests : (s : Statement) → IsFineStatement s → OfTests IsFine s
  fine_tests (If at c a) h = ((h.0.0, h.1.0), all_fine_tests a (h.0.1, h.1.1))
  fine_tests (IfElse at c a b) h = ((h.0.0, h.1.0), all_fine_tests a (h.0.1, h.1.1), all_fine_tests b (h.0.2, h.1.2))
  fine_tests (ForEach at ty x e b) h = all_fine_tests b (h.0.3, h.1.3)
  fine_tests (While at c b) h = all_fine_tests b (h.0.1, h.1.1)
  fine_tests (Declare at ty x e) h = tt
  fine_tests (Assign at x e) h = tt
  fine_tests (Add at x e) h = tt
  fine_tests (Sort at x keys downs) h = tt
  fine_tests (Print at e) h = tt
  fine_tests (Return at e) h = tt
  fine_tests (Break at) h = tt

  pub all_fine_tests : (p : Statements) → AreFineStatements p → OfAllTests IsFine p
  all_fine_tests Nothing h = tt
  all_fine_tests (Then s p) h = (fine_tests s (h.0.0, h.1.0), all_fine_tests p (h.0.1, h.1.1))
