-- A declaration for each parameter, and the statement behind a helper's body.
use Rattle.std.proofs.Common.{◌≡◌, ℕ, zero, suc, ◌+◌, ◌<◌, ◌≤◌, List, [], ◌∷◌, length, drop, get_or, map, Option, Some, None, Vec, Bor, option_map, refl, sym, ap, ◌∙◌, subst, arith}
use Rattle.std.specs.Prelude.{bytes_eq, if◌then◌else◌, Bool, true, false}
use Rattle.qbs_base.specs.declared.span.Span.{Span}
use Rattle.std.specs.declared.alloc.Global.{Global}
use Rattle.java_ast.specs.declared.tree.Expr.{Expr, out-Expr}
use Rattle.java_ast.specs.declared.tree.ExprNode as nodes
use Rattle.java_ast.specs.declared.tree.Stmt.{Stmt}
use Rattle.java_ast.specs.declared.tree.JTy.{JTy}
use Rattle.java_ast.specs.declared.tree.Param.{Param}
use Rattle.java_ast.specs.Reading.{expression, expressions, statement, statements, param, spelled}
use Rattle.java_ast.specs.Tree as plain
use Rattle.java_ast.proofs.Nodes.{query_long_is}
use Rattle.call_parts.specs.Called.{is_single_name}
use Rattle.java_calls.specs.Called.{Call, call_of}
use Rattle.java_ast.specs.Tree.{Spelled, Expression, Expressions, NoMore, And, Statement, Declare, Assign, Add, Sort, If, IfElse, ForEach, While, Print, Return, Break, Statements, Nothing, Then, PlainParam}
use Rattle.java_mean.specs.Refines.{followed_by}
use Rattle.java_calls.specs.Inlining.{arguments_given, ended, declared_type}
use Rattle.java_calls.specs.Renaming.{Renaming, renamed}
use Rattle.java_calls.specs.Rules.{size_of, total_of}
use Rattle.call_rules.proofs.Numbers.{drop_item}
use Rattle.inlining.specs.declared.counts.Counts.{Counts}
use Rattle.inlining.specs.declared.counts.Walked.{Walked}
use Rattle.inlining.specs.declared.counts.Walked.TheVariants as answers
use Rattle.inlining.specs.Walked.{IsPut, IsOne, giving, declared_in, a_call}
use Rattle.inlining.proofs.Totals.{followed_assoc, followed_nothing, total_followed}

-- these statements are pushed so far, and the rest are still to be
pub record PutSoFar (whole rest : Statements) (old new : Counts) (before after : Statements) : Type 0 where
  pub block : Statements
  pub so : whole ≡ followed_by block rest
  pub pushed : after ≡ followed_by before block
  pub spent : old.left ≡ new.left + total_of block
  pub taken : new.taken ≡ old.taken

pub put_none : (whole : Statements) (old : Counts) (before : Statements) → PutSoFar whole whole old old before before
put_none whole old before = record { block = Nothing; so = refl; pushed = sym (followed_nothing before); spent = omega arith; taken = refl }

one_total : (s : Statement) (rest : Statements) → size_of s ≡ 1 → total_of (Then s rest) ≡ suc (total_of rest)
one_total s rest h = omega (arith, h)

pub put_next : (whole rest : Statements) (s : Statement) (old middle new : Counts) (before between after : Statements) → size_of s ≡ 1
    → PutSoFar whole (Then s rest) old middle before between → IsOne answers.Pushed s middle new between after → PutSoFar whole rest old new before after
put_next whole rest s old middle new before between after size h i =
    let one : old.left ≡ middle.left + total_of h.block = h.spent in
    let two : middle.left ≡ suc new.left = i.1 in
    record {
      block = followed_by h.block (Then s Nothing);
      so = h.so ∙ sym (followed_assoc h.block (Then s Nothing) rest);
      pushed = i.0 ∙ ap (λ (x : Statements). followed_by x (Then s Nothing)) h.pushed ∙ followed_assoc before h.block (Then s Nothing);
      spent = omega (arith, total_followed h.block (Then s Nothing), one_total s Nothing size);
      taken = i.2 ∙ h.taken;
    }

pub put_full : (whole rest : Statements) (s : Statement) (old middle : Counts) (before between : Statements) → size_of s ≡ 1
    → PutSoFar whole (Then s rest) old middle before between → middle.left ≡ 0 → old.left < total_of whole
put_full whole rest s old middle before between size h none =
    let one : old.left ≡ middle.left + total_of h.block = h.spent in
    let so : total_of whole ≡ total_of (followed_by h.block (Then s rest)) = ap total_of h.so in
    omega (arith, total_followed h.block (Then s rest), one_total s rest size)

pub put_done : (whole rest : Statements) (old new : Counts) (before after : Statements) → rest ≡ Nothing → PutSoFar whole rest old new before after → IsPut answers.Pushed whole old new before after
put_done whole rest old new before after none h =
    let same : whole ≡ h.block = h.so ∙ ap (followed_by h.block) none ∙ followed_nothing h.block in
    let total : total_of whole ≡ total_of h.block = ap total_of same in
    let spent : old.left ≡ new.left + total_of h.block = h.spent in
    (h.pushed ∙ ap (followed_by before) (sym same), omega arith, h.taken)

pub put_one : (w : Walked) (s : Statement) (old new : Counts) (before after : Statements) → size_of s ≡ 1 → IsOne w s old new before after → IsPut w (Then s Nothing) old new before after
put_one answers.Pushed s old new before after size h =
    let one : old.left ≡ suc new.left = h.1 in
    (h.0, omega (arith, one_total s Nothing size), h.2)
put_one answers.Full s old new before after size h = omega (arith, h, one_total s Nothing size)

pub put_nothing : (old : Counts) (before : Statements) → IsPut answers.Pushed Nothing old old before before
put_nothing old before = (sym (followed_nothing before), omega arith, refl)

pub put_as : (w : Walked) (a b : Statements) (old new : Counts) (before after : Statements) → a ≡ b → IsPut w a old new before after → IsPut w b old new before after
put_as w a b old new before after same h = subst (λ (x : Statements). IsPut w x old new before after) same h

-- ---- The rest of the parameters

abbrev pub rest_given : Span → Renaming → List Param → Renaming → List Expr → Statements
rest_given at g ps f es = arguments_given at g (map param ps) f (expressions es)

pub rest_next : (at : Span) (g f : Renaming) (ps : List Param) (es : List Expr) (i : ℕ) (p : Param) (e : Expr) → i < length ps → p ≡ get_or ps i p → i < length es → e ≡ get_or es i e
    → rest_given at g (drop i ps) f (drop i es) ≡ Then (Declare at (spelled p.ty) (g p.name) (renamed f (expression e))) (rest_given at g (drop (i + 1) ps) f (drop (i + 1) es))
rest_next at g f ps es i p e lt is lt' is' =
    ap (λ (l : List Param). rest_given at g l f (drop i es)) (drop_item ps i p lt is)
    ∙ ap (λ (l : List Expr). rest_given at g (p ∷ drop (i + 1) ps) f l) (drop_item es i e lt' is')

none_given : (at : Span) (g f : Renaming) (ps : List Param) → rest_given at g ps f [] ≡ Nothing
none_given at g f [] = refl
none_given at g f (p ∷ ps) = refl

drop_none : {A : Type 0} (xs : List A) (i : ℕ) → length xs ≤ i → drop i xs ≡ []
drop_none [] zero h = refl
drop_none [] (suc i) h = refl
drop_none (x ∷ xs) zero h = absurd (omega (arith, h))
drop_none (x ∷ xs) (suc i) h = drop_none xs i (omega (arith, h))

pub rest_none : (at : Span) (g f : Renaming) (ps : List Param) (es : List Expr) (i : ℕ) → length es ≤ i → rest_given at g (drop i ps) f (drop i es) ≡ Nothing
rest_none at g f ps es i h = ap (λ (l : List Expr). rest_given at g (drop i ps) f l) (drop_none es i h) ∙ none_given at g f (drop i ps)

pub rest_all : (at : Span) (g f : Renaming) (ps : List Param) (es : List Expr) (i : ℕ) → length ps ≤ i → rest_given at g (drop i ps) f (drop i es) ≡ Nothing
rest_all at g f ps es i h = ap (λ (l : List Param). rest_given at g l f (drop i es)) (drop_none ps i h)

-- ---- The statement behind a helper's body

pub ended_value : (f g : Renaming) (at : Span) (ty : Option Spelled) (x : List ℕ) (e v : Expression) → ended f (giving at ty x e) g None (Some v) ≡ Then (giving at ty (f x) (renamed g v)) Nothing
ended_value f g at (Some ty) x e v = refl
ended_value f g at None x e v = refl

pub giving_size : (at : Span) (ty : Option Spelled) (x : List ℕ) (e : Expression) → size_of (giving at ty x e) ≡ 1
giving_size at (Some ty) x e = refl
giving_size at None x e = refl

-- ---- Declared types

here_by : (b : Bool) (ty found : Spelled) (o : Option Spelled) → (if b then Some ty else None) ≡ Some found → (if b then Some ty else o) ≡ Some found
here_by true ty found o h = h
here_by false ty found o h = absurd cc

pub declared_here : (x : List ℕ) (s : Statement) (p : Statements) (found : Spelled) → declared_in x s ≡ Some found → declared_type x (Then s p) ≡ Some found
declared_here x (Declare at ty y e) p found h = here_by (bytes_eq y x) ty found (declared_type x p) h
declared_here x (Assign at y e) p found h = absurd cc
declared_here x (Add at y e) p found h = absurd cc
declared_here x (Sort at y keys downs) p found h = absurd cc
declared_here x (If at c a) p found h = absurd cc
declared_here x (IfElse at c a b) p found h = absurd cc
declared_here x (ForEach at ty y e body) p found h = absurd cc
declared_here x (While at c body) p found h = absurd cc
declared_here x (Print at e) p found h = absurd cc
declared_here x (Return at e) p found h = absurd cc
declared_here x (Break at) p found h = absurd cc

not_by : (b : Bool) (ty : Spelled) (o : Option Spelled) → (if b then Some ty else None) ≡ None → (if b then Some ty else o) ≡ o
not_by true ty o h = absurd cc
not_by false ty o h = refl

pub declared_not : (x : List ℕ) (s : Statement) (p : Statements) → declared_in x s ≡ None → declared_type x (Then s p) ≡ declared_type x p
declared_not x (Declare at ty y e) p h = not_by (bytes_eq y x) ty (declared_type x p) h
declared_not x (Assign at y e) p h = refl
declared_not x (Add at y e) p h = refl
declared_not x (Sort at y keys downs) p h = refl
declared_not x (If at c a) p h = refl
declared_not x (IfElse at c a b) p h = refl
declared_not x (ForEach at ty y e body) p h = refl
declared_not x (While at c body) p h = refl
declared_not x (Print at e) p h = refl
declared_not x (Return at e) p h = refl
declared_not x (Break at) p h = refl

pub declared_step : (x : List ℕ) (body : List Stmt) (i : ℕ) (s : Stmt) (whole : Option Spelled) → i < length body → s ≡ get_or body i s → declared_in x (statement s) ≡ None → declared_type x (statements (drop i body)) ≡ whole → declared_type x (statements (drop (i + 1) body)) ≡ whole
declared_step x body i s whole lt is none h =
    sym (declared_not x (statement s) (statements (drop (i + 1) body)) none) ∙ ap (λ (l : List Stmt). declared_type x (statements l)) (sym (drop_item body i s lt is)) ∙ h

-- ---- Calls

single_by : (b : Bool) (call : Call) → b ≡ true → Some call ≡ (if b then Some call else None)
single_by b call h = rw h refl

none_by : (b : Bool) (call : Call) → b ≡ false → None ≡ (if b then Some call else None)
none_by b call h = rw h refl

pub call_is : (e : Expr) (text : List ℕ) (v : Vec Expr Global) (list : List Expr) → (out-Expr e).node ≡ nodes.QueryLong text v → list ≡ v.items → is_single_name text ≡ true → Some (a_call text (expressions list)) ≡ call_of (expression e)
call_is e text v list is lent single =
    single_by (is_single_name text) (a_call text (expressions list)) single
    ∙ ap (λ (l : List Expr). call_of (plain.QueryLong (out-Expr e).span text (expressions l))) lent
    ∙ ap call_of (sym (query_long_is e text v is))

pub no_call_is : (e : Expr) (text : List ℕ) (v : Vec Expr Global) → (out-Expr e).node ≡ nodes.QueryLong text v → is_single_name text ≡ false → None ≡ call_of (expression e)
no_call_is e text v is single = none_by (is_single_name text) (a_call text (expressions v.items)) single ∙ ap call_of (sym (query_long_is e text v is))

-- ---- What references lead to

abbrev pub type_in : Option (Bor JTy) → Option Spelled
type_in o = option_map (λ (b : Bor JTy). spelled b.now) o

abbrev pub name_in : Option (Bor (List ℕ)) → Option (List ℕ)
name_in o = option_map (λ (b : Bor (List ℕ)). b.now) o

pub ended_kept : (f : Renaming) (s : Statement) (g : Renaming) (kept : Option (Bor (List ℕ))) (b : Bor (List ℕ)) (value : Option Expression) → kept ≡ Some b → Nothing ≡ ended f s g (name_in kept) value
ended_kept f s g kept b value h = sym (ap (λ (k : Option (Bor (List ℕ))). ended f s g (name_in k) value) h)

pub ended_none : (f : Renaming) (s : Statement) (g : Renaming) (kept : Option (Bor (List ℕ))) (value : Option Expression) → kept ≡ None → None ≡ value → Nothing ≡ ended f s g (name_in kept) value
ended_none f s g kept value h i = sym (ap (λ (k : Option (Bor (List ℕ))). ended f s g (name_in k) value) h ∙ ap (λ (v : Option Expression). ended f s g None v) (sym i))

pub ended_some : (f g : Renaming) (at : Span) (ty : Option Spelled) (x : List ℕ) (e v : Expression) (kept : Option (Bor (List ℕ))) (value : Option Expression) → kept ≡ None → Some v ≡ value
    → Then (giving at ty (f x) (renamed g v)) Nothing ≡ ended f (giving at ty x e) g (name_in kept) value
ended_some f g at ty x e v kept value h i =
    sym (ap (λ (k : Option (Bor (List ℕ))). ended f (giving at ty x e) g (name_in k) value) h ∙ ap (λ (v : Option Expression). ended f (giving at ty x e) g None v) (sym i) ∙ ended_value f g at ty x e v)
