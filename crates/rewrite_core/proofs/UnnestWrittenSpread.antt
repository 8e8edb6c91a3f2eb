-- The conditions of a loop's spread read what the loop reads, columns of rows that are walked in it, and literals that can be written.
use Rattle.std.proofs.Common.{◌≡◌, ℕ, zero, suc, Bool, true, false, ◌&&◌, cond, List, Option, Some, None, ℤ, pos, negsuc, refl, subst, arith}
use Rattle.std.specs.Prelude.{nat_eq}
use Rattle.std.proofs.lemmas.Bool.{and_parts}
use Rattle.std.proofs.lemmas.Bool.Decides.{nat_tests}
use Rattle.qbs_base.specs.declared.scalar.Scalar.{Scalar}
use Rattle.qbs_base.specs.declared.scalar.Scalar.TheVariants as scalars
use Rattle.qbs_base.specs.declared.span.Span.{Span}
use Rattle.qbs_base.specs.Values.{Schema, fits_long}
use Rattle.sql_ast.specs.declared.tree.Cmp.{Cmp}
use Rattle.sql_ast.specs.declared.tree.Cmp.TheVariants as tests
use Rattle.sql_ast.specs.declared.tree.FromItem.{FromItem}
use Rattle.sql_ast.specs.declared.tree.SqlOpnd.{SqlOpnd}
use Rattle.sql_ast.specs.declared.tree.SqlOpnd.TheVariants as opnds
use Rattle.sql_ast.specs.Texts.{HasQuery}
use Rattle.sql_ast.specs.Tree as sql
use Rattle.sql_ast.specs.Tree.{Condition, Filter, Everything, Where, Listing}
use Rattle.sql_ast.specs.Utf8.{ScalarIsUtf8, OperandIsUtf8, ConditionIsUtf8, FilterIsUtf8}
use Rattle.sql_ast.specs.Valid.{FitsScalar, IsOpndOf}
use Rattle.java_ast.specs.Names.{Names}
use Rattle.java_ast.specs.Placed.{placed}
use Rattle.java_ast.specs.Spans.{place_of}
use Rattle.java_ast.specs.Tree as tree
use Rattle.java_ast.specs.Tree.{Spelled, Expression, Expressions, NoMore, And, Statement, Statements, Nothing, Then}
use Rattle.java_grammar.specs.Written.{WrittenScalar}
use Rattle.java_mean.specs.declared.types.JavaType.{JavaType}
use Rattle.java_mean.specs.declared.types.JavaType.TheVariants.{Of}
use Rattle.java_mean.specs.Queries.{Reader}
use Rattle.java_mean.specs.Types.{Types}
use Rattle.java_mean.specs.Typing.{Frame, Extends, TypedStatement, declare, assign, add, sort, when, choose, for_each, for_each_new, while_true, print, return_none, return_value, leave, TypedStatements, done, next}
use Rattle.java_mean.proofs.Alike.{extends_new}
use Rattle.java_mean.proofs.TypedRuns.{extends_statement}
use Rattle.loop_text.specs.Statements.Loops.{is_loop}
use Rattle.java_loops.specs.Kernel.KernelConditions.{is_scalar_type, is_row_type, is_steady, is_entry}
use Rattle.java_loops.specs.Kernel.Setting.{Setting}
use Rattle.select_parts.specs.Selects.{is_text_operand}
use Rattle.spreads.specs.Alone.{walks_alone}
use Rattle.spreads.specs.Conditions.{argument, argument_at, operand_in, compared_in, condition_in}
use Rattle.spreads.specs.Spread.{Select, select_of, is_there, some_if, value_declared, tested, walked_or, value_or, spread_in, spread_among, selects_among, spread_of}
use Rattle.spreads.specs.Staying.{assigned_among}
use Rattle.spreads.proofs.Known.{HasColumns, FilterHas, text_known}
use Rattle.spreads.proofs.Selected.{found_select}
use Rattle.rewrite_core.proofs.Writable.Asks.{placed_fine}
use Rattle.rewrite_core.proofs.Writable.Given.{Holds}
use Rattle.rewrite_core.proofs.Writable.Leaves.{OfParts, OfTests, OfAllTests}
use Rattle.rewrite_core.proofs.Writable.QueryTexts.{literals_utf8}
use Rattle.rewrite_core.proofs.Writable.Replaced.{IsFine, AllFine, IsFineStatement, AreFineStatements, fine_first, fine_rest}

-- ---- What was visible before

-- a variable that was visible before, or a field of one, is of the grammar and can be written, and so can literals
abbrev pub IsFineBefore : Types → Expression → Type 0
IsFineBefore g (tree.Lit at x) = WrittenScalar x
IsFineBefore g (tree.Var at x) = (k : JavaType) → g x ≡ Some k → IsFine (tree.Var at x)
IsFineBefore g (tree.Field at (tree.Var at' x) f) = (k : JavaType) → g x ≡ Some k → IsFine (tree.Field at (tree.Var at' x) f)
IsFineBefore g (tree.Binary at op a b) = IsFineBefore g a × IsFineBefore g b
IsFineBefore g (tree.Not at e) = IsFineBefore g e
IsFineBefore g (tree.Equals at a b) = IsFineBefore g a × IsFineBefore g b
IsFineBefore g (tree.Contains at x e) = IsFineBefore g e
IsFineBefore g e = Unit {0}

pub before_parts : (g : Types) → OfParts (IsFineBefore g)
before_parts g = record { literal = λ at x h. h; binary = λ at op a b h. h; negated = λ at e h. h; equals = λ at a b h. h; contains = λ at x e h. h }

pub fine_before : (g : Types) (e : Expression) → IsFine e → IsFineBefore g e
fine_before g (tree.Lit at x) h = h.1
fine_before g (tree.Var at x) h = λ k i. h
fine_before g (tree.Field at (tree.Var at' x) f) h = λ k i. h
fine_before g (tree.Binary at op a b) h = (fine_before g a (h.0.0, h.1.0), fine_before g b (h.0.1, h.1.1))
fine_before g (tree.Not at e) h = fine_before g e h
fine_before g (tree.Equals at a b) h = (fine_before g a (h.0.0, h.1.0), fine_before g b (h.0.1, h.1.1))
fine_before g (tree.Contains at x e) h = fine_before g e (h.0.1, h.1.1)
fine_before g e h = tt

scalar_there : (o : Option JavaType) → is_scalar_type o ≡ true → (k : JavaType) × (o ≡ Some k)
scalar_there (Some k) h = (k, refl)
scalar_there None h = absurd cc

row_there : (o : Option JavaType) → is_row_type o ≡ true → (k : JavaType) × (o ≡ Some k)
row_there (Some k) h = (k, refl)
row_there None h = absurd cc

-- an entry value was visible before
pub fine_entry : (w : Setting) (n : ℕ) (e : Expression) → is_entry w n e ≡ true → IsFineBefore w.types e → IsFine e
fine_entry w n (tree.Var at x) i h =
    let k = scalar_there (w.types x) (and_parts (is_scalar_type (w.types x)) (is_steady w n x) i).0 in
    h k.0 k.1
fine_entry w n (tree.Field at (tree.Var at' x) f) i h =
    let k = row_there (w.types x) (and_parts (is_row_type (w.types x)) (is_steady w n x) i).0 in
    h k.0 k.1
fine_entry w n e i h = absurd cc

-- ---- Rows that are walked

-- no variable of these types is walked in a statement
abbrev mutual
  pub WalksNew : Types → Statement → Type 0
  WalksNew g (tree.If at c a) = AllWalkNew g a
  WalksNew g (tree.IfElse at c a b) = AllWalkNew g a × AllWalkNew g b
  WalksNew g (tree.ForEach at ty x e b) = (g x ≡ None) × AllWalkNew g b
  WalksNew g (tree.While at c b) = AllWalkNew g b
  WalksNew g s = Unit {0}

  pub AllWalkNew : Types → Statements → Type 0
  AllWalkNew g Nothing = Unit {0}
  AllWalkNew g (Then s ss) = WalksNew g s × AllWalkNew g ss

unseen_before : (start g : Types) (x : List ℕ) → Extends g start → g x ≡ None → start x ≡ None
unseen_before start g x i none = by (start x) refl
  where
    by : (o : Option JavaType) → start x ≡ o → start x ≡ None
    by None e = e
    by (Some k) e = let there : g x ≡ Some k = i x k e in absurd cc

module _ (c : Frame) (start : Types) where
  mutual
    pub walks_new : (l : Option Types) (g h : Types) (s : Statement) → TypedStatement c l g s h → Extends g start → WalksNew start s
    walks_new _ _ _ _ (declare l g at ty x e k n i t) b = tt
    walks_new _ _ _ _ (assign l g at x e k i t) b = tt
    walks_new _ _ _ _ (add l g at x e k a i has t) b = tt
    walks_new _ _ _ _ (sort l g at x keys down a i) b = tt
    walks_new _ _ _ _ (when l g h at e p t q) b = all_walk_new l g h p q b
    walks_new _ _ _ _ (choose l g h h' at e p q t r u) b = (all_walk_new l g h p r b, all_walk_new l g h' q u b)
    walks_new _ _ _ _ (for_each l g h at ty x e p k a n t has body) b = (unseen_before start g x b n, all_walk_new _ _ h p body (λ y j i. extends_new g x (Of a) n y j (b y j i)))
    walks_new _ _ _ _ (for_each_new l g h at ty x e p k n i is body) b = (unseen_before start g x b n, all_walk_new _ _ h p body (λ y j i. extends_new g x k n y j (b y j i)))
    walks_new _ _ _ _ (while_true l g h at e p t q) b = all_walk_new _ g h p q b
    walks_new _ _ _ _ (print l g at e ty t) b = tt
    walks_new _ _ _ _ (return_none l g at i) b = tt
    walks_new _ _ _ _ (return_value l g at e k i t) b = tt
    walks_new _ _ _ _ (leave l g at i) b = tt

    all_walk_new : (l : Option Types) (g h : Types) (p : Statements) → TypedStatements c l g p h → Extends g start → AllWalkNew start p
    all_walk_new _ _ _ _ (done l g) b = tt
    all_walk_new _ _ _ _ (next l g h m s p t q) b = (walks_new l g h s t b, all_walk_new l h m p q (λ y j i. extends_statement c l g h s t y j (b y j i)))

-- ---- The condition of a select

long_written : (n : ℤ) → fits_long n ≡ true → WrittenScalar (scalars.Long n)
long_written (pos n) h = grind (arith, nat_tests)
long_written (negsuc n) h = grind (arith, nat_tests)

scalar_written : (x : Scalar) → FitsScalar x → ScalarIsUtf8 x → WrittenScalar x
scalar_written (scalars.Long n) h u = long_written n h
scalar_written (scalars.Bool b) h u = tt
scalar_written (scalars.Text t) h u = u

argument_fine : (es : Expressions) (n : ℕ) → AllFine es → Holds IsFine (argument es n)
argument_fine NoMore n h = tt
argument_fine (And e es) zero h = tt
argument_fine (And e es) (suc zero) h = (h.0.0, h.1.0)
argument_fine (And e es) (suc (suc n)) h = argument_fine es (suc n) (h.0.1, h.1.1)

unseen : (o : Option JavaType) (k : JavaType) → o ≡ None → o ≡ Some k → ⊥
unseen None k h e = absurd cc
unseen (Some j) k h e = absurd cc

module _ (schema : Schema) (g : Types) (at : Span) (row : List ℕ) (new : g row ≡ None) (args : Expressions) (fine : AllFine args) where
  abbrev P : Expression → Type 0
  P = IsFineBefore g

  argument_before : (o : Option Expression) → Holds IsFine o → P (argument_at at o)
  argument_before (Some e) h = fine_before g (placed at e) (placed_fine at e h)
  argument_before None h = tt

  operand_before : (froms : List FromItem) (o : SqlOpnd) → IsOpndOf schema froms o → OperandIsUtf8 o → P (operand_in at row args o)
  operand_before froms (opnds.Column col) h u = λ k i. absurd (unseen (g row) k new i)
  operand_before froms (opnds.Lit x) h u = scalar_written x h u
  operand_before froms (opnds.Param n) h u = argument_before (argument args n) (argument_fine args n fine)

  compared_before : (text : Bool) (cmp : Cmp) (a b : Expression) → P a → P b → P (compared_in text at cmp a b)
  compared_before true tests.Eq a b h k = (h, k)
  compared_before true tests.Ne a b h k = (h, k)
  compared_before true tests.Lt a b h k = (h, k)
  compared_before true tests.Le a b h k = (h, k)
  compared_before true tests.Gt a b h k = (h, k)
  compared_before true tests.Ge a b h k = (h, k)
  compared_before false cmp a b h k = (h, k)

  module _ (s : Select) where
    condition_before : (c : Condition) → HasColumns schema s.query.from c → ConditionIsUtf8 c → P (condition_in schema s.query at row args c)
    condition_before (sql.Both a b) h u = (condition_before a h.0 u.0, condition_before b h.1 u.1)
    condition_before (sql.Either a b) h u = (condition_before a h.0 u.0, condition_before b h.1 u.1)
    condition_before (sql.Not a) h u = condition_before a h u
    condition_before (sql.Compare cmp a b) h u =
        compared_before (is_text_operand schema s.query a) cmp (operand_in at row args a) (operand_in at row args b) (operand_before s.query.from a h.0 u.0) (operand_before s.query.from b h.1 u.1)
    condition_before (sql.Bare col) h u = λ k i. absurd (unseen (g row) k new i)
    condition_before (sql.Exists from filter_) h u = tt
    condition_before (sql.Within opnd negated col from filter_) h u = tt

-- ---- The spread

some_if_fine : (b : Bool) (e : Expression) → IsFine e → Holds IsFine (some_if b e)
some_if_fine true e h = h
some_if_fine false e h = tt

value_fine : (d : Option Expression) (e : Expression) → Holds IsFine d → IsFine e → IsFine (value_or d e)
value_fine (Some v) e h k = h
value_fine None e h k = k

module _ (schema : Schema) (reader : Reader schema) (assigned : Names) (g : Types) where
  abbrev Q : Expression → Type 0
  Q = IsFineBefore g

  declared_fine : (s : Statement) (p : Statements) → IsFineStatement s → Holds IsFine (value_declared schema reader.read assigned s p)
  declared_fine (tree.Declare at ty x e) p h = some_if_fine (walks_alone x p && is_there (select_of schema reader.read assigned e)) e (h.0.2, h.1.2)
  declared_fine s p h = tt

  -- the arguments of a select, and what is known of its filter
  record SelectFine (s : Select) : Type 0 where
    arguments : AllFine s.arguments
    columns : FilterHas schema s.query.from s.query.filter
    utf8 : FilterIsUtf8 s.query.filter

  query_fine : (at : Span) (name text : List ℕ) (s : Select) → reader.read text ≡ Some (Listing s.query) → IsFine (tree.Query at (tree.Table name) text s.arguments) → SelectFine s
  query_fine at name text s r h =
      let has : HasQuery schema text (Listing s.query) = (reader.exact text (Listing s.query)).0 r in
      record { arguments = (h.0.1, h.1.2); columns = (text_known schema text (Listing s.query) has).names.filter_; utf8 = literals_utf8 schema text (Listing s.query) has h.1.1 }

  select_fine : (e : Expression) (s : Select) → select_of schema reader.read assigned e ≡ Some s → IsFine e → SelectFine s
  select_fine e s i h =
      let f = found_select schema reader.read assigned e s i in
      query_fine f.at f.name f.text s f.read_so (subst IsFine f.is h)

  tested_new : (at : Span) (x : List ℕ) (s : Select) (f : Filter) (body : Statements) → AllWalkNew g (tested schema at x s f body) → AllWalkNew g body
  tested_new at x s Everything body h = h
  tested_new at x s (Where c) body h = h.0

  tested_before : (at : Span) (x : List ℕ) (s : Select) (f : Filter) (body : Statements) → g x ≡ None → AllFine s.arguments → FilterHas schema s.query.from f → FilterIsUtf8 f → OfAllTests Q body → OfAllTests Q (tested schema at x s f body)
  tested_before at x s Everything body new fine h u b = b
  tested_before at x s (Where c) body new fine h u b = ((condition_before schema g at x new s.arguments fine s c h u, b), tt)

  walk_before : (at : Span) (ty : Spelled) (x : List ℕ) (e e' : Expression) (body : Statements) → IsFine e' → (o : Option Select) → select_of schema reader.read assigned e' ≡ o → (AllWalkNew g body → OfAllTests Q body) → WalksNew g (walked_or schema at ty x e o body) → OfTests Q (walked_or schema at ty x e o body)
  walk_before at ty x e e' body h None i b n = b n.1
  walk_before at ty x e e' body h (Some s) i b n =
      let k = select_fine e' s i h in
      tested_before at x s s.query.filter body n.0 k.arguments k.columns k.utf8 (b (tested_new at x s s.query.filter body n.1))

  -- the statements of a block, where a value is declared for the first or where not
  abbrev spread_by : Option Expression → Option Expression → Statement → Statements → Statements
  spread_by o d s p = elim o as (λ _. Statements) [ Some value ↦ spread_among schema reader.read assigned (Some value) p | None ↦ Then (spread_in schema reader.read assigned d s) (spread_among schema reader.read assigned None p) ]

  abbrev BlockBefore : Statements → Type 0
  BlockBefore p = (d : Option Expression) → Holds IsFine d → AllWalkNew g (spread_among schema reader.read assigned d p) → OfAllTests Q (spread_among schema reader.read assigned d p)

  by_value : (o d : Option Expression) (s : Statement) (p : Statements) → Holds IsFine o → (WalksNew g (spread_in schema reader.read assigned d s) → OfTests Q (spread_in schema reader.read assigned d s)) → BlockBefore p → AllWalkNew g (spread_by o d s p) → OfAllTests Q (spread_by o d s p)
  by_value (Some v) d s p h one rest n = rest (Some v) h n
  by_value None d s p h one rest n = (one n.0, rest None tt n.1)

  mutual
    one_before : (s : Statement) → IsFineStatement s → (d : Option Expression) → Holds IsFine d → WalksNew g (spread_in schema reader.read assigned d s) → OfTests Q (spread_in schema reader.read assigned d s)
    one_before (tree.If at c a) h d k n = (fine_before g c (h.0.0, h.1.0), block_before a (h.0.1, h.1.1) None tt n)
    one_before (tree.IfElse at c a b) h d k n = (fine_before g c (h.0.0, h.1.0), block_before a (h.0.1, h.1.1) None tt n.0, block_before b (h.0.2, h.1.2) None tt n.1)
    one_before (tree.ForEach at ty x e body) h d k n =
        walk_before at ty x e (value_or d e) (spread_among schema reader.read assigned None body) (value_fine d e k (h.0.2, h.1.2)) (select_of schema reader.read assigned (value_or d e)) refl (block_before body (h.0.3, h.1.3) None tt) n
    one_before (tree.While at c body) h d k n = block_before body (h.0.1, h.1.1) None tt n
    one_before (tree.Declare at ty x e) h d k n = tt
    one_before (tree.Assign at x e) h d k n = tt
    one_before (tree.Add at x e) h d k n = tt
    one_before (tree.Sort at x keys downs) h d k n = tt
    one_before (tree.Print at e) h d k n = tt
    one_before (tree.Return at e) h d k n = tt
    one_before (tree.Break at) h d k n = tt

    block_before : (p : Statements) → AreFineStatements p → BlockBefore p
    block_before Nothing h d k n = tt
    block_before (Then s p) h d k n = by_value (value_declared schema reader.read assigned s p) d s p (declared_fine s p (fine_first s p h)) (one_before s (fine_first s p h) d k) (block_before p (fine_rest s p h)) n

-- ---- A loop and its spread

-- a loop and its spread are loops at one place, and what the spread's conditions read was visible before, or is a row's
pub record IsSpread (s z : Statement) : Type 0 where
  pub loop : is_loop s ≡ true
  pub loop' : is_loop z ≡ true
  pub place : place_of z ≡ place_of s
  pub tests : (g : Types) → IsFineStatement s → WalksNew g z → OfTests (IsFineBefore g) z

pub is_spread : (schema : Schema) (reader : Reader schema) (s z : Statement) → spread_of schema reader.read s ≡ Some z → IsSpread s z
is_spread schema reader (tree.ForEach at ty x e body) z is = by (nat_eq (selects_among schema reader.read (assigned_among body) None body) 0) is
  where
    own : IsSpread (tree.ForEach at ty x e body) (tree.ForEach at ty x e (spread_among schema reader.read (assigned_among body) None body))
    own = record { loop = refl; loop' = refl; place = refl; tests = λ g h n. block_before schema reader (assigned_among body) g body (h.0.3, h.1.3) None tt n.1 }

    by : (b : Bool) → cond b None (Some (tree.ForEach at ty x e (spread_among schema reader.read (assigned_among body) None body))) ≡ Some z → IsSpread (tree.ForEach at ty x e body) z
    by true k = absurd cc
    by false k = let same : tree.ForEach at ty x e (spread_among schema reader.read (assigned_among body) None body) ≡ z = cc in subst (IsSpread (tree.ForEach at ty x e body)) same own
is_spread schema reader s z is = absurd cc
