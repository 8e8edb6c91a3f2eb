-- What is kept after the parts of a statement, of a block and of other lists.
use Rattle.std.proofs.Common.{◌≡◌, ℕ, zero, suc, ◌+◌, ◌<◌, ◌≤◌, List, [], ◌∷◌, ◌++◌, Bool, true, false, ◌||◌, refl, sym, ap, ◌∙◌, Option, Some, None, length, drop, map, nat_eq, arith, get_or, drop-cons, add-one, ◌⊎◌, inl, inr}
use Rattle.std.proofs.lemmas.Bool.Decides.{nat_tests}
use Rattle.std.specs.Prelude.{not, is_some, Vec, Box}
use Rattle.std.specs.declared.alloc.Global.{Global}
use Rattle.std.specs.Option.{option_map}
use Rattle.qbs_base.specs.declared.span.Span.{Span}
use Rattle.qbs_base.specs.Values.{Schema}
use Rattle.sql_ast.specs.Tree.{PlainQuery}
use Rattle.java_ast.specs.declared.tree.JTy.{JTy}
use Rattle.java_ast.specs.declared.tree.Op.{Op}
use Rattle.java_ast.specs.declared.tree.Expr.{Expr, out-Expr}
use Rattle.java_ast.specs.declared.tree.ExprNode.{ExprNode, Lit, Var, Field, Binary, Not, Equals, Size, Get, Contains, Fetch, Query, QueryLong, QueryBoolean, NewList}
use Rattle.java_ast.specs.declared.tree.Stmt.{Stmt}
use Rattle.java_ast.specs.declared.tree.StmtNode.{StmtNode, Assign, Add, Print}
use Rattle.java_ast.specs.declared.tree.Param.{Param}
use Rattle.java_ast.specs.declared.tree.Method.{Method}
use Rattle.java_ast.proofs.Nodes.{query_is, query_long_is, query_boolean_is}
use Rattle.java_ast.specs.Reading.{expression, expressions, node_expression, node_statement, statement, statements, spelled, param as plain_param, method as plain_method}
use Rattle.java_ast.specs.Tree as plain
use Rattle.java_ast.specs.Tree.{Spelled, Expression, Expressions, Statement, Statements}
use Rattle.java_mean.specs.declared.rule.TypeFault.{TypeFault}
use Rattle.java_mean.specs.declared.rule.TypeRule.TheVariants as broken
use Rattle.java_mean.specs.declared.types.Single.{Single}
use Rattle.java_mean.specs.declared.types.Single.TheVariants.{ScalarOf}
use Rattle.java_mean.specs.declared.types.JavaType.{JavaType}
use Rattle.java_mean.specs.declared.types.JavaType.TheVariants.{Of}
use Rattle.java_mean.specs.declared.types.Kindred.{Kindred}
use Rattle.java_mean.specs.declared.types.Kindred.TheVariants.{Only}
use Rattle.qbs_base.specs.declared.scalar.Scalar.{Scalar}
use Rattle.qbs_base.specs.declared.scalar.Ty.{Ty}
use Rattle.java_mean.specs.Types.{single_spelled, type_spelled}
use Rattle.java_mean.specs.Rules.{type_of, at_of, only_if, is_none, unless, unless_single, unless_passes, unless_element, scalars_of, set_of_rows, is_many_kindred, walked_element, taken, params_of, lists, has_order, fits_query, arguments, unknown_column, unknown_keys, returns, returns_in}
use Rattle.java_mean.specs.Places.{Around, around, Place, value, step, param, whole, in_branch, in_while, in_operands, in_expression, in_expressions, in_statement, in_statements, in_parts, in_params, in_method, is_nothing, walking}
use Rattle.java_mean.specs.Visible.{Visible, is_visible, type_at, declared_in, after, with_params}
use Rattle.java_mean.specs.WellTyped.{marked, faults_at, faults_in, faults_in_methods}
use Rattle.java_mean.specs.Least.{least}
use Rattle.java_types.proofs.Kept.{least-append, marked-append, faults_in-append}

two : (k0 k1 k2 : Option TypeFault) (A B : List TypeFault) → k1 ≡ least k0 A → k2 ≡ least k1 B → k2 ≡ least k0 (A ++ B)
two k0 k1 k2 A B a b = b ∙ ap (λ (k : Option TypeFault). least k B) a ∙ sym (least-append k0 A B)

five : (k : Option TypeFault) (a b c d e : List TypeFault) → least k (a ++ (b ++ (c ++ (d ++ (e ++ []))))) ≡ least (least (least (least (least k a) b) c) d) e
five k a b c d e =
    least-append k a (b ++ (c ++ (d ++ (e ++ []))))
    ∙ least-append (least k a) b (c ++ (d ++ (e ++ [])))
    ∙ least-append (least (least k a) b) c (d ++ (e ++ []))
    ∙ least-append (least (least (least k a) b) c) d (e ++ [])
    ∙ least-append (least (least (least (least k a) b) c) d) e []

-- three parts of the rule on types, after another rule
mismatched : (k0 k1 k2 k3 k4 : Option TypeFault) (fs : List TypeFault) (xs ys zs : List Span) → k1 ≡ least k0 fs → k2 ≡ least k1 (marked broken.Mismatch xs) → k3 ≡ least k2 (marked broken.Mismatch ys) → k4 ≡ least k3 (marked broken.Mismatch zs) → k4 ≡ least (least k0 fs) (marked broken.Mismatch (xs ++ (ys ++ zs)))
mismatched k0 k1 k2 k3 k4 fs xs ys zs h1 h2 h3 h4 =
    two k2 k3 k4 (marked broken.Mismatch ys) (marked broken.Mismatch zs) h3 h4
    ∙ ap (λ (l : List TypeFault). least k2 l) (sym (marked-append broken.Mismatch ys zs))
    ∙ ap (λ (k : Option TypeFault). least k (marked broken.Mismatch (ys ++ zs))) (h2 ∙ ap (λ (k : Option TypeFault). least k (marked broken.Mismatch xs)) h1)
    ∙ sym (least-append (least k0 fs) (marked broken.Mismatch xs) (marked broken.Mismatch (ys ++ zs)))
    ∙ ap (λ (l : List TypeFault). least (least k0 fs) l) (sym (marked-append broken.Mismatch xs (ys ++ zs)))

-- what has a value or none, in the words of the code and of the rules
pub none_said : {A : Type 0} (o : Option A) (b : Bool) → is_some o ≡ not b → b ≡ is_none o
none_said None true h = refl
none_said None false h = absurd cc
none_said (Some x) true h = absurd cc
none_said (Some x) false h = refl

-- the item of a loop, and what is left after it
pub next_item : {A : Type 0} (xs : List A) (i : ℕ) (x : A) → i < length xs → x ≡ get_or xs i x → drop i xs ≡ x ∷ drop (i + 1) xs
next_item {A} xs i x h e = rw (drop-cons xs i x, add-one) (ap (λ (y : A). y ∷ drop (suc i) xs) (sym e))

none_left : (ss : List Stmt) (i : ℕ) → i ≤ length ss → nat_eq i (length ss) ≡ is_nothing (statements (drop i ss))
none_left [] zero h = refl
none_left [] (suc i) h = absurd (omega arith)
none_left (s ∷ ss) zero h = grind (arith, nat_tests)
none_left (s ∷ ss) (suc i) h =
    let k : i ≤ length ss = omega arith in
    let e : nat_eq (suc i) (suc (length ss)) ≡ nat_eq i (length ss) = grind (arith, nat_tests) in
    e ∙ none_left ss i k

-- a statement is the last one of its block where nothing is left
pub nothing_left : (ss : List Stmt) (i : ℕ) → i < length ss → nat_eq (i + 1) (length ss) ≡ is_nothing (statements (drop (i + 1) ss))
nothing_left ss i h = none_left ss (i + 1) (omega arith)

pub return_found : (s : Stmt) (rest all : List Stmt) → all ≡ s ∷ rest → returns_in (statement s) ≡ true → returns (statements all) ≡ true
return_found s rest all p h = ap (λ (l : List Stmt). returns (statements l)) p ∙ ap (λ (b : Bool). b || returns (statements rest)) h

pub return_passed : (s : Stmt) (rest all : List Stmt) → all ≡ s ∷ rest → returns_in (statement s) ≡ false → returns (statements rest) ≡ returns (statements all)
return_passed s rest all p h = sym (ap (λ (l : List Stmt). returns (statements l)) p ∙ ap (λ (b : Bool). b || returns (statements rest)) h)

-- the parts of an expression by its node, where arms of one shape are one
pub one_part : (vs : Visible) (n : ExprNode) (b : Box Expr Global) (at : Span) → ((x : List ℕ) × (n ≡ Field b x)) ⊎ ((n ≡ Not b) ⊎ (((x : List ℕ) × (n ≡ Get x b)) ⊎ ((x : List ℕ) × (n ≡ Contains x b)))) → in_operands vs (node_expression n at) ≡ in_expression vs (expression b.value)
one_part vs n b at (inl p) = ap (λ (m : ExprNode). in_operands vs (node_expression m at)) p.1
one_part vs n b at (inr (inl p)) = ap (λ (m : ExprNode). in_operands vs (node_expression m at)) p
one_part vs n b at (inr (inr (inl p))) = ap (λ (m : ExprNode). in_operands vs (node_expression m at)) p.1
one_part vs n b at (inr (inr (inr p))) = ap (λ (m : ExprNode). in_operands vs (node_expression m at)) p.1

pub two_parts : (vs : Visible) (n : ExprNode) (a b : Box Expr Global) (at : Span) → ((op : Op) × (n ≡ Binary op a b)) ⊎ (n ≡ Equals a b) → in_operands vs (node_expression n at) ≡ in_expression vs (expression a.value) ++ in_expression vs (expression b.value)
two_parts vs n a b at (inl p) = ap (λ (m : ExprNode). in_operands vs (node_expression m at)) p.1
two_parts vs n a b at (inr p) = ap (λ (m : ExprNode). in_operands vs (node_expression m at)) p

pub all_parts : (vs : Visible) (e : Expr) (v : Vec Expr Global) → ((ty : JTy) × (text : List ℕ) × ((out-Expr e).node ≡ Query ty text v)) ⊎ (((text : List ℕ) × ((out-Expr e).node ≡ QueryLong text v)) ⊎ ((text : List ℕ) × ((out-Expr e).node ≡ QueryBoolean text v))) → in_operands vs (expression e) ≡ in_expressions vs (expressions v.items)
all_parts vs e v (inl p) = ap (in_operands vs) (query_is e p.0 p.1 v p.2)
all_parts vs e v (inr (inl p)) = ap (in_operands vs) (query_long_is e p.0 v p.1)
all_parts vs e v (inr (inr p)) = ap (in_operands vs) (query_boolean_is e p.0 v p.1)

pub no_parts : (vs : Visible) (n : ExprNode) (at : Span) → ((x : Scalar) × (n ≡ Lit x)) ⊎ (((x : List ℕ) × (n ≡ Var x)) ⊎ (((x : List ℕ) × (n ≡ Size x)) ⊎ (((x : List ℕ) × (n ≡ Fetch x)) ⊎ (n ≡ NewList)))) → in_operands vs (node_expression n at) ≡ []
no_parts vs n at (inl p) = ap (λ (m : ExprNode). in_operands vs (node_expression m at)) p.1
no_parts vs n at (inr (inl p)) = ap (λ (m : ExprNode). in_operands vs (node_expression m at)) p.1
no_parts vs n at (inr (inr (inl p))) = ap (λ (m : ExprNode). in_operands vs (node_expression m at)) p.1
no_parts vs n at (inr (inr (inr (inl p)))) = ap (λ (m : ExprNode). in_operands vs (node_expression m at)) p.1
no_parts vs n at (inr (inr (inr (inr p)))) = ap (λ (m : ExprNode). in_operands vs (node_expression m at)) p

-- the part of a statement that has an expression alone, and what is visible after it
pub value_part : (schema : Schema) (vs : Visible) (w : Around) (n : StmtNode) (e : Expr) (at : Span) → ((x : List ℕ) × (n ≡ Assign x e)) ⊎ (((x : List ℕ) × (n ≡ Add x e)) ⊎ (n ≡ Print e)) → in_parts schema vs w (node_statement n at) ≡ in_expression vs (expression e)
value_part schema vs w n e at (inl p) = ap (λ (m : StmtNode). in_parts schema vs w (node_statement m at)) p.1
value_part schema vs w n e at (inr (inl p)) = ap (λ (m : StmtNode). in_parts schema vs w (node_statement m at)) p.1
value_part schema vs w n e at (inr (inr p)) = ap (λ (m : StmtNode). in_parts schema vs w (node_statement m at)) p

pub none_declared : (schema : Schema) (vs : Visible) (n : StmtNode) (e : Expr) (at : Span) → ((x : List ℕ) × (n ≡ Assign x e)) ⊎ (((x : List ℕ) × (n ≡ Add x e)) ⊎ (n ≡ Print e)) → vs ≡ after schema vs (node_statement n at)
none_declared schema vs n e at (inl p) = sym (ap (λ (m : StmtNode). after schema vs (node_statement m at)) p.1)
none_declared schema vs n e at (inr (inl p)) = sym (ap (λ (m : StmtNode). after schema vs (node_statement m at)) p.1)
none_declared schema vs n e at (inr (inr p)) = sym (ap (λ (m : StmtNode). after schema vs (node_statement m at)) p)

module _ (schema : Schema) where
  pub key_noted : (a : Single) (key : List ℕ) (rest all : List (List ℕ)) (at : Span) (k0 k1 : Option TypeFault) → all ≡ key ∷ rest → k1 ≡ least k0 (marked broken.Unknown (unknown_column schema (Some (Only (Of a))) key at)) → least k1 (marked broken.Unknown (unknown_keys schema (Some a) rest at)) ≡ least k0 (marked broken.Unknown (unknown_keys schema (Some a) all at))
  key_noted a key rest all at k0 k1 p h =
      two k0 k1 (least k1 (marked broken.Unknown (unknown_keys schema (Some a) rest at))) (marked broken.Unknown (unknown_column schema (Some (Only (Of a))) key at)) (marked broken.Unknown (unknown_keys schema (Some a) rest at)) h refl
      ∙ ap (λ (l : List TypeFault). least k0 l) (sym (marked-append broken.Unknown (unknown_column schema (Some (Only (Of a))) key at) (unknown_keys schema (Some a) rest at)))
      ∙ ap (λ (l : List (List ℕ)). least k0 (marked broken.Unknown (unknown_keys schema (Some a) l at))) (sym p)

  pub argument_noted : (vs : Visible) (ty : Ty) (e : Expr) (types more : List Ty) (es rest : List Expr) (k0 k1 : Option TypeFault) → types ≡ ty ∷ more → es ≡ e ∷ rest → k1 ≡ least k0 (marked broken.Mismatch (unless (type_of schema vs (expression e)) (Of (ScalarOf ty)) (at_of (expression e)))) → least k1 (marked broken.Mismatch (arguments schema vs more (expressions rest))) ≡ least k0 (marked broken.Mismatch (arguments schema vs types (expressions es)))
  argument_noted vs ty e types more es rest k0 k1 p q h =
      two k0 k1 (least k1 (marked broken.Mismatch (arguments schema vs more (expressions rest)))) (marked broken.Mismatch (unless (type_of schema vs (expression e)) (Of (ScalarOf ty)) (at_of (expression e)))) (marked broken.Mismatch (arguments schema vs more (expressions rest))) h refl
      ∙ ap (λ (l : List TypeFault). least k0 l) (sym (marked-append broken.Mismatch (unless (type_of schema vs (expression e)) (Of (ScalarOf ty)) (at_of (expression e))) (arguments schema vs more (expressions rest))))
      ∙ ap (λ (l : List Expr). least k0 (marked broken.Mismatch (arguments schema vs (ty ∷ more) (expressions l)))) (sym q)
      ∙ ap (λ (l : List Ty). least k0 (marked broken.Mismatch (arguments schema vs l (expressions es)))) (sym p)

  -- no further arguments, where one of the two lists is at its end
  pub no_arguments : (vs : Visible) (types : List Ty) (es : List Expr) → (types ≡ []) ⊎ (es ≡ []) → arguments schema vs types (expressions es) ≡ []
  no_arguments vs [] es h = refl
  no_arguments vs (ty ∷ types) [] h = refl
  no_arguments vs (ty ∷ types) (e ∷ es) h = elim h [ inl p ↦ absurd cc | inr p ↦ absurd cc ]

  pub with_param : (vs us : Visible) (p : Param) (rest all : List Param) → all ≡ p ∷ rest → us ≡ declared_in vs p.name (type_spelled schema (spelled p.ty)) → with_params schema us (map plain_param rest) ≡ with_params schema vs (map plain_param all)
  with_param vs us p rest all e u =
      ap (λ (l : Visible). with_params schema l (map plain_param rest)) u
      ∙ ap (λ (l : List Param). with_params schema vs (map plain_param l)) (sym e)

  module _ (read : List ℕ → Option PlainQuery) where
    pub method_walked : (names us : Visible) (m : Method) (rest all : List Method) (double : Bool) (k0 k1 : Option TypeFault) → all ≡ m ∷ rest → double ≡ is_visible names m.name → us ≡ declared_in names m.name None → k1 ≡ least k0 (faults_in schema read (option_map spelled m.result) (whole double (plain_method m) ∷ in_method schema (plain_method m))) → least k1 (faults_in_methods schema read us (map plain_method rest)) ≡ least k0 (faults_in_methods schema read names (map plain_method all))
    method_walked names us m rest all double k0 k1 p d u h =
        two k0 k1 (least k1 (faults_in_methods schema read us (map plain_method rest)))
        (faults_in schema read (option_map spelled m.result) (whole (is_visible names m.name) (plain_method m) ∷ in_method schema (plain_method m)))
        (faults_in_methods schema read us (map plain_method rest))
        (h ∙ ap (λ (b : Bool). least k0 (faults_in schema read (option_map spelled m.result) (whole b (plain_method m) ∷ in_method schema (plain_method m)))) d)
        refl
        ∙ ap (λ (l : Visible). least k0 (faults_in schema read (option_map spelled m.result) (whole (is_visible names m.name) (plain_method m) ∷ in_method schema (plain_method m)) ++ faults_in_methods schema read l (map plain_method rest))) u
        ∙ ap (λ (l : List Method). least k0 (faults_in_methods schema read names (map plain_method l))) (sym p)

    module _ (r : Option Spelled) where
      -- of a query for a list
      pub listing_noted : (vs : Visible) (at : Span) (ty : Spelled) (text : List ℕ) (es : Expressions) (a : Option Single) (q : Option PlainQuery) (k0 k1 k2 : Option TypeFault) → a ≡ single_spelled schema ty → q ≡ read text → k1 ≡ least k0 (marked broken.Unknown (only_if (is_none a) at)) → k2 ≡ least (least (least (least k1 (marked broken.Mismatch (arguments schema vs (params_of q) es))) (marked broken.BadQuery (only_if (not (lists schema a q)) at))) (marked broken.UnorderedQuery (only_if (not (has_order q)) at))) (marked broken.Arity (only_if (not (fits_query q es)) at)) → k2 ≡ least k0 (faults_at schema read r (value vs (plain.Query at ty text es)))
      listing_noted vs at ty text es a q k0 k1 k2 ea eq h1 h2 =
          h2
          ∙ ap (λ (k : Option TypeFault). least (least (least (least k (marked broken.Mismatch (arguments schema vs (params_of q) es))) (marked broken.BadQuery (only_if (not (lists schema a q)) at))) (marked broken.UnorderedQuery (only_if (not (has_order q)) at))) (marked broken.Arity (only_if (not (fits_query q es)) at))) h1
          ∙ sym (five k0 (marked broken.Unknown (only_if (is_none a) at)) (marked broken.Mismatch (arguments schema vs (params_of q) es)) (marked broken.BadQuery (only_if (not (lists schema a q)) at)) (marked broken.UnorderedQuery (only_if (not (has_order q)) at)) (marked broken.Arity (only_if (not (fits_query q es)) at)))
          ∙ ap (λ (b : Option Single). least k0 (marked broken.Unknown (only_if (is_none b) at) ++ (marked broken.Mismatch (arguments schema vs (params_of q) es) ++ (marked broken.BadQuery (only_if (not (lists schema b q)) at) ++ (marked broken.UnorderedQuery (only_if (not (has_order q)) at) ++ (marked broken.Arity (only_if (not (fits_query q es)) at) ++ [])))))) ea
          ∙ ap (λ (p : Option PlainQuery). least k0 (marked broken.Unknown (only_if (is_none (single_spelled schema ty)) at) ++ (marked broken.Mismatch (arguments schema vs (params_of p) es) ++ (marked broken.BadQuery (only_if (not (lists schema (single_spelled schema ty) p)) at) ++ (marked broken.UnorderedQuery (only_if (not (has_order p)) at) ++ (marked broken.Arity (only_if (not (fits_query p es)) at) ++ [])))))) eq

      pub contains_noted : (vs : Visible) (at : Span) (x : List ℕ) (e : Expression) (k : Option JavaType) (k0 k1 k2 k3 : Option TypeFault) → k ≡ type_at vs x → k1 ≡ least k0 (marked broken.Unknown (only_if (not (is_visible vs x)) at)) → k2 ≡ least k1 (marked broken.Mismatch (unless_passes (λ (j : JavaType). not (is_none (scalars_of (Some j)))) k at)) → k3 ≡ least k2 (marked broken.Mismatch (unless_single (type_of schema vs e) (scalars_of k) (at_of e))) → k3 ≡ least k0 (faults_at schema read r (value vs (plain.Contains at x e)))
      contains_noted vs at x e k k0 k1 k2 k3 ek h1 h2 h3 =
          h3
          ∙ ap (λ (f : Option TypeFault). least f (marked broken.Mismatch (unless_single (type_of schema vs e) (scalars_of k) (at_of e)))) (h2 ∙ ap (λ (f : Option TypeFault). least f (marked broken.Mismatch (unless_passes (λ (j : JavaType). not (is_none (scalars_of (Some j)))) k at))) h1)
          ∙ sym (least-append (least k0 (marked broken.Unknown (only_if (not (is_visible vs x)) at))) (marked broken.Mismatch (unless_passes (λ (j : JavaType). not (is_none (scalars_of (Some j)))) k at)) (marked broken.Mismatch (unless_single (type_of schema vs e) (scalars_of k) (at_of e))))
          ∙ ap (λ (l : List TypeFault). least (least k0 (marked broken.Unknown (only_if (not (is_visible vs x)) at))) l) (sym (marked-append broken.Mismatch (unless_passes (λ (j : JavaType). not (is_none (scalars_of (Some j)))) k at) (unless_single (type_of schema vs e) (scalars_of k) (at_of e))))
          ∙ sym (least-append (least k0 (marked broken.Unknown (only_if (not (is_visible vs x)) at))) (marked broken.Mismatch (unless_passes (λ (j : JavaType). not (is_none (scalars_of (Some j)))) k at ++ unless_single (type_of schema vs e) (scalars_of k) (at_of e))) [])
          ∙ sym (least-append k0 (marked broken.Unknown (only_if (not (is_visible vs x)) at)) (marked broken.Mismatch (unless_passes (λ (j : JavaType). not (is_none (scalars_of (Some j)))) k at ++ unless_single (type_of schema vs e) (scalars_of k) (at_of e)) ++ []))
          ∙ ap (λ (j : Option JavaType). least k0 (marked broken.Unknown (only_if (not (is_visible vs x)) at) ++ (marked broken.Mismatch (unless_passes (λ (j : JavaType). not (is_none (scalars_of (Some j)))) j at ++ unless_single (type_of schema vs e) (scalars_of j) (at_of e)) ++ []))) ek

      pub for_each_noted : (vs : Visible) (w : Around) (last : Bool) (at : Span) (ty : Spelled) (x : List ℕ) (e : Expression) (body : Statements) (k : Option JavaType) (l : Option Kindred) (k0 k1 k2 k3 k4 k5 : Option TypeFault) → k ≡ type_spelled schema ty → l ≡ type_of schema vs e → k1 ≡ least k0 (marked broken.Unknown (only_if (is_none k) at)) → k2 ≡ least k1 (marked broken.Mismatch (set_of_rows ty at)) → k3 ≡ least k2 (marked broken.Mismatch (unless_passes is_many_kindred l (at_of e))) → k4 ≡ least k3 (marked broken.Mismatch (unless_element (walked_element l) k (at_of e))) → k5 ≡ least k4 (marked broken.DoubleName (only_if (taken vs x) at)) → k5 ≡ least k0 (faults_at schema read r (step vs w last (plain.ForEach at ty x e body)))
      for_each_noted vs w last at ty x e body k l k0 k1 k2 k3 k4 k5 ek el h1 h2 h3 h4 h5 =
          h5
          ∙ ap (λ (f : Option TypeFault). least f (marked broken.DoubleName (only_if (taken vs x) at))) (mismatched k0 k1 k2 k3 k4 (marked broken.Unknown (only_if (is_none k) at)) (set_of_rows ty at) (unless_passes is_many_kindred l (at_of e)) (unless_element (walked_element l) k (at_of e)) h1 h2 h3 h4)
          ∙ sym (least-append (least (least k0 (marked broken.Unknown (only_if (is_none k) at))) (marked broken.Mismatch (set_of_rows ty at ++ (unless_passes is_many_kindred l (at_of e) ++ unless_element (walked_element l) k (at_of e))))) (marked broken.DoubleName (only_if (taken vs x) at)) [])
          ∙ sym (least-append (least k0 (marked broken.Unknown (only_if (is_none k) at))) (marked broken.Mismatch (set_of_rows ty at ++ (unless_passes is_many_kindred l (at_of e) ++ unless_element (walked_element l) k (at_of e)))) (marked broken.DoubleName (only_if (taken vs x) at) ++ []))
          ∙ sym (least-append k0 (marked broken.Unknown (only_if (is_none k) at)) (marked broken.Mismatch (set_of_rows ty at ++ (unless_passes is_many_kindred l (at_of e) ++ unless_element (walked_element l) k (at_of e))) ++ (marked broken.DoubleName (only_if (taken vs x) at) ++ [])))
          ∙ ap (λ (j : Option JavaType). least k0 (marked broken.Unknown (only_if (is_none j) at) ++ (marked broken.Mismatch (set_of_rows ty at ++ (unless_passes is_many_kindred l (at_of e) ++ unless_element (walked_element l) j (at_of e))) ++ (marked broken.DoubleName (only_if (taken vs x) at) ++ [])))) ek
          ∙ ap (λ (j : Option Kindred). least k0 (marked broken.Unknown (only_if (is_none (type_spelled schema ty)) at) ++ (marked broken.Mismatch (set_of_rows ty at ++ (unless_passes is_many_kindred j (at_of e) ++ unless_element (walked_element j) (type_spelled schema ty) (at_of e))) ++ (marked broken.DoubleName (only_if (taken vs x) at) ++ [])))) el

      pub operands_walked : (vs : Visible) (e : Expression) (ps : List Place) (k0 k1 k2 : Option TypeFault) → in_operands vs e ≡ ps → k1 ≡ least k0 (faults_at schema read r (value vs e)) → k2 ≡ least k1 (faults_in schema read r ps) → k2 ≡ least k0 (faults_in schema read r (in_expression vs e))
      operands_walked vs e ps k0 k1 k2 p h1 h2 =
          two k0 k1 k2 (faults_at schema read r (value vs e)) (faults_in schema read r ps) h1 h2
          ∙ ap (λ (l : List Place). least k0 (faults_at schema read r (value vs e) ++ faults_in schema read r l)) (sym p)

      pub none_walked : (vs : Visible) (e : Expression) (k0 k1 : Option TypeFault) → in_operands vs e ≡ [] → k1 ≡ least k0 (faults_at schema read r (value vs e)) → k1 ≡ least k0 (faults_in schema read r (in_expression vs e))
      none_walked vs e k0 k1 p h = operands_walked vs e [] k0 k1 k1 p h refl

      -- of an expression with one part, or with two, each lent
      pub one_walked : (vs : Visible) (e : Expression) (a b : Expr) (k0 k1 k2 : Option TypeFault) → in_operands vs e ≡ in_expression vs (expression b) → a ≡ b → k1 ≡ least k0 (faults_at schema read r (value vs e)) → k2 ≡ least k1 (faults_in schema read r (in_expression vs (expression a))) → k2 ≡ least k0 (faults_in schema read r (in_expression vs e))
      one_walked vs e a b k0 k1 k2 p q h1 h2 =
          operands_walked vs e (in_expression vs (expression b)) k0 k1 k2 p h1 (h2 ∙ ap (λ (d : Expr). least k1 (faults_in schema read r (in_expression vs (expression d)))) q)

      pub both_walked : (vs : Visible) (e : Expression) (a b c d : Expr) (k0 k1 k2 k3 : Option TypeFault) → in_operands vs e ≡ in_expression vs (expression b) ++ in_expression vs (expression d) → a ≡ b → c ≡ d → k1 ≡ least k0 (faults_at schema read r (value vs e)) → k2 ≡ least k1 (faults_in schema read r (in_expression vs (expression a))) → k3 ≡ least k2 (faults_in schema read r (in_expression vs (expression c))) → k3 ≡ least k0 (faults_in schema read r (in_expression vs e))
      both_walked vs e a b c d k0 k1 k2 k3 p q o h1 h2 h3 =
          operands_walked vs e (in_expression vs (expression b) ++ in_expression vs (expression d)) k0 k1 k3 p h1
          (two k1 k2 k3 (faults_in schema read r (in_expression vs (expression b))) (faults_in schema read r (in_expression vs (expression d)))
          (h2 ∙ ap (λ (x : Expr). least k1 (faults_in schema read r (in_expression vs (expression x)))) q)
          (h3 ∙ ap (λ (x : Expr). least k2 (faults_in schema read r (in_expression vs (expression x)))) o)
          ∙ ap (λ (l : List TypeFault). least k1 l) (sym (faults_in-append schema read r (in_expression vs (expression b)) (in_expression vs (expression d)))))

      pub expression_walked : (vs : Visible) (e : Expr) (rest all : List Expr) (k0 k1 : Option TypeFault) → all ≡ e ∷ rest → k1 ≡ least k0 (faults_in schema read r (in_expression vs (expression e))) → least k1 (faults_in schema read r (in_expressions vs (expressions rest))) ≡ least k0 (faults_in schema read r (in_expressions vs (expressions all)))
      expression_walked vs e rest all k0 k1 p h =
          two k0 k1 (least k1 (faults_in schema read r (in_expressions vs (expressions rest)))) (faults_in schema read r (in_expression vs (expression e))) (faults_in schema read r (in_expressions vs (expressions rest))) h refl
          ∙ ap (λ (l : List TypeFault). least k0 l) (sym (faults_in-append schema read r (in_expression vs (expression e)) (in_expressions vs (expressions rest))))
          ∙ ap (λ (l : List Expr). least k0 (faults_in schema read r (in_expressions vs (expressions l)))) (sym p)

      pub param_walked : (vs us : Visible) (at : Span) (p : Param) (rest all : List Param) (k0 k1 : Option TypeFault) → all ≡ p ∷ rest → us ≡ declared_in vs p.name (type_spelled schema (spelled p.ty)) → k1 ≡ least k0 (faults_at schema read r (param vs at (plain_param p))) → least k1 (faults_in schema read r (in_params schema us at (map plain_param rest))) ≡ least k0 (faults_in schema read r (in_params schema vs at (map plain_param all)))
      param_walked vs us at p rest all k0 k1 e u h =
          two k0 k1 (least k1 (faults_in schema read r (in_params schema us at (map plain_param rest)))) (faults_at schema read r (param vs at (plain_param p))) (faults_in schema read r (in_params schema us at (map plain_param rest))) h refl
          ∙ ap (λ (l : Visible). least k0 (faults_at schema read r (param vs at (plain_param p)) ++ faults_in schema read r (in_params schema l at (map plain_param rest)))) u
          ∙ ap (λ (l : List Param). least k0 (faults_in schema read r (in_params schema vs at (map plain_param l)))) (sym e)

      -- of a statement with an expression alone, and with no parts
      pub value_walked : (vs : Visible) (w : Around) (last : Bool) (a : Statement) (e : Expression) (k0 k1 k2 : Option TypeFault) → in_parts schema vs w a ≡ in_expression vs e → k1 ≡ least k0 (faults_at schema read r (step vs w last a)) → k2 ≡ least k1 (faults_in schema read r (in_expression vs e)) → k2 ≡ least k0 (faults_in schema read r (in_statement schema vs w last a))
      value_walked vs w last a e k0 k1 k2 p h1 h2 =
          two k0 k1 k2 (faults_at schema read r (step vs w last a)) (faults_in schema read r (in_expression vs e)) h1 h2
          ∙ ap (λ (l : List Place). least k0 (faults_at schema read r (step vs w last a) ++ faults_in schema read r l)) (sym p)

      pub step_walked : (vs : Visible) (w : Around) (last : Bool) (a : Statement) (k0 k1 : Option TypeFault) → in_parts schema vs w a ≡ [] → k1 ≡ least k0 (faults_at schema read r (step vs w last a)) → k1 ≡ least k0 (faults_in schema read r (in_statement schema vs w last a))
      step_walked vs w last a k0 k1 p h =
          two k0 k1 k1 (faults_at schema read r (step vs w last a)) [] h refl
          ∙ ap (λ (l : List Place). least k0 (faults_at schema read r (step vs w last a) ++ faults_in schema read r l)) (sym p)

      -- of a statement whose parts are these two
      parts_walked : (vs : Visible) (w : Around) (last : Bool) (a : Statement) (A B : List TypeFault) (k0 k1 k2 k3 : Option TypeFault) → faults_in schema read r (in_parts schema vs w a) ≡ A ++ B → k1 ≡ least k0 (faults_at schema read r (step vs w last a)) → k2 ≡ least k1 A → k3 ≡ least k2 B → k3 ≡ least k0 (faults_in schema read r (in_statement schema vs w last a))
      parts_walked vs w last a A B k0 k1 k2 k3 g h1 h2 h3 =
          two k0 k1 k3 (faults_at schema read r (step vs w last a)) (A ++ B) h1 (two k1 k2 k3 A B h2 h3)
          ∙ ap (λ (l : List TypeFault). least k0 (faults_at schema read r (step vs w last a) ++ l)) (sym g)

      pub if_walked : (vs : Visible) (w : Around) (last : Bool) (a : Statement) (at : Span) (c : Expression) (p : Statements) (k0 k1 k2 k3 : Option TypeFault) → a ≡ plain.If at c p → k1 ≡ least k0 (faults_at schema read r (step vs w last a)) → k2 ≡ least k1 (faults_in schema read r (in_expression vs c)) → k3 ≡ least k2 (faults_in schema read r (in_statements schema vs (in_branch w) p)) → k3 ≡ least k0 (faults_in schema read r (in_statement schema vs w last a))
      if_walked vs w last a at c p k0 k1 k2 k3 e h1 h2 h3 =
          parts_walked vs w last a (faults_in schema read r (in_expression vs c)) (faults_in schema read r (in_statements schema vs (in_branch w) p)) k0 k1 k2 k3
          (ap (λ (s : Statement). faults_in schema read r (in_parts schema vs w s)) e ∙ faults_in-append schema read r (in_expression vs c) (in_statements schema vs (in_branch w) p))
          h1 h2 h3

      pub if_else_walked : (vs us : Visible) (w : Around) (walked : List (List ℕ)) (last : Bool) (a : Statement) (at : Span) (c : Expression) (p q : Statements) (k0 k1 k2 k3 k4 : Option TypeFault) → a ≡ plain.IfElse at c p q → us ≡ vs → walked ≡ w.walked → k1 ≡ least k0 (faults_at schema read r (step vs w last a)) → k2 ≡ least k1 (faults_in schema read r (in_expression vs c)) → k3 ≡ least k2 (faults_in schema read r (in_statements schema vs (in_branch w) p)) → k4 ≡ least k3 (faults_in schema read r (in_statements schema us (around walked w.in_loop false) q)) → k4 ≡ least k0 (faults_in schema read r (in_statement schema vs w last a))
      if_else_walked vs us w walked last a at c p q k0 k1 k2 k3 k4 e u v h1 h2 h3 h4 =
          parts_walked vs w last a (faults_in schema read r (in_expression vs c)) (faults_in schema read r (in_statements schema vs (in_branch w) p) ++ faults_in schema read r (in_statements schema vs (in_branch w) q)) k0 k1 k2 k4
          (ap (λ (s : Statement). faults_in schema read r (in_parts schema vs w s)) e
          ∙ faults_in-append schema read r (in_expression vs c) (in_statements schema vs (in_branch w) p ++ in_statements schema vs (in_branch w) q)
          ∙ ap (λ (l : List TypeFault). faults_in schema read r (in_expression vs c) ++ l) (faults_in-append schema read r (in_statements schema vs (in_branch w) p) (in_statements schema vs (in_branch w) q)))
          h1 h2
          (two k2 k3 k4 (faults_in schema read r (in_statements schema vs (in_branch w) p)) (faults_in schema read r (in_statements schema vs (in_branch w) q)) h3
          (h4
          ∙ ap (λ (l : Visible). least k3 (faults_in schema read r (in_statements schema l (around walked w.in_loop false) q))) u
          ∙ ap (λ (l : List (List ℕ)). least k3 (faults_in schema read r (in_statements schema vs (around l w.in_loop false) q))) v))

      pub each_walked : (vs us : Visible) (w : Around) (last : Bool) (a : Statement) (at : Span) (ty : Spelled) (x : List ℕ) (e : Expression) (p : Statements) (walked : List (List ℕ)) (k0 k1 k2 k3 : Option TypeFault) → a ≡ plain.ForEach at ty x e p → us ≡ declared_in vs x (type_spelled schema ty) → walked ≡ walking e w.walked → k1 ≡ least k0 (faults_at schema read r (step vs w last a)) → k2 ≡ least k1 (faults_in schema read r (in_expression vs e)) → k3 ≡ least k2 (faults_in schema read r (in_statements schema us (around walked true false) p)) → k3 ≡ least k0 (faults_in schema read r (in_statement schema vs w last a))
      each_walked vs us w last a at ty x e p walked k0 k1 k2 k3 is u v h1 h2 h3 =
          parts_walked vs w last a (faults_in schema read r (in_expression vs e)) (faults_in schema read r (in_statements schema us (around walked true false) p)) k0 k1 k2 k3
          (ap (λ (s : Statement). faults_in schema read r (in_parts schema vs w s)) is
          ∙ faults_in-append schema read r (in_expression vs e) (in_statements schema (declared_in vs x (type_spelled schema ty)) (around (walking e w.walked) true false) p)
          ∙ ap (λ (l : Visible). faults_in schema read r (in_expression vs e) ++ faults_in schema read r (in_statements schema l (around (walking e w.walked) true false) p)) (sym u)
          ∙ ap (λ (l : List (List ℕ)). faults_in schema read r (in_expression vs e) ++ faults_in schema read r (in_statements schema us (around l true false) p)) (sym v))
          h1 h2 h3

      pub while_walked : (vs : Visible) (w : Around) (last : Bool) (a : Statement) (at : Span) (c : Expression) (p : Statements) (k0 k1 k2 k3 : Option TypeFault) → a ≡ plain.While at c p → k1 ≡ least k0 (faults_at schema read r (step vs w last a)) → k2 ≡ least k1 (faults_in schema read r (in_expression vs c)) → k3 ≡ least k2 (faults_in schema read r (in_statements schema vs (in_while w) p)) → k3 ≡ least k0 (faults_in schema read r (in_statement schema vs w last a))
      while_walked vs w last a at c p k0 k1 k2 k3 e h1 h2 h3 =
          parts_walked vs w last a (faults_in schema read r (in_expression vs c)) (faults_in schema read r (in_statements schema vs (in_while w) p)) k0 k1 k2 k3
          (ap (λ (s : Statement). faults_in schema read r (in_parts schema vs w s)) e ∙ faults_in-append schema read r (in_expression vs c) (in_statements schema vs (in_while w) p))
          h1 h2 h3

      pub statement_walked : (vs us : Visible) (w : Around) (last : Bool) (s : Stmt) (rest all : List Stmt) (k0 k1 : Option TypeFault) → all ≡ s ∷ rest → last ≡ is_nothing (statements rest) → us ≡ after schema vs (statement s) → k1 ≡ least k0 (faults_in schema read r (in_statement schema vs w last (statement s))) → least k1 (faults_in schema read r (in_statements schema us w (statements rest))) ≡ least k0 (faults_in schema read r (in_statements schema vs w (statements all)))
      statement_walked vs us w last s rest all k0 k1 p l u h =
          two k0 k1 (least k1 (faults_in schema read r (in_statements schema us w (statements rest))))
          (faults_in schema read r (in_statement schema vs w (is_nothing (statements rest)) (statement s)))
          (faults_in schema read r (in_statements schema us w (statements rest)))
          (h ∙ ap (λ (b : Bool). least k0 (faults_in schema read r (in_statement schema vs w b (statement s)))) l)
          refl
          ∙ ap (λ (l : Visible). least k0 (faults_in schema read r (in_statement schema vs w (is_nothing (statements rest)) (statement s)) ++ faults_in schema read r (in_statements schema l w (statements rest)))) u
          ∙ ap (λ (l : List TypeFault). least k0 l) (sym (faults_in-append schema read r (in_statement schema vs w (is_nothing (statements rest)) (statement s)) (in_statements schema (after schema vs (statement s)) w (statements rest))))
          ∙ ap (λ (l : List Stmt). least k0 (faults_in schema read r (in_statements schema vs w (statements l)))) (sym p)
