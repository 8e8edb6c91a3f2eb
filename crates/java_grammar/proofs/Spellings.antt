-- The canonical text of a tree is read as its tokens.
use Rattle.std.proofs.Common.{◌≡◌, ℕ, suc, ◌-◌, ◌<◌, ◌^◌, Bool, true, false, cond, List, [], ◌∷◌, ◌++◌, refl, sym, subst, arith, codes}
use Rattle.std.specs.Prelude.{pos, negsuc, not, ◌==◌, nat_lt, nat_le}
use Rattle.std.specs.Fmt.{decimal}
use Rattle.std.proofs.lemmas.Bool.{eqb-false}
use Rattle.std.proofs.lemmas.Bool.Decides.{nat_tests}
use Rattle.std.proofs.lemmas.List.{append-nil}
use Rattle.qbs_base.specs.declared.scalar.Scalar.{Scalar}
use Rattle.qbs_base.specs.declared.scalar.Scalar.TheVariants as scalars
use Rattle.qbs_base.specs.Literal.{text_literal}
use Rattle.java_ast.specs.declared.tree.Op.{Op}
use Rattle.java_ast.specs.declared.tree.Op.TheVariants as ops
use Rattle.java_ast.specs.Tree as plain
use Rattle.java_ast.specs.Tree.{Spelled, Expression, Expressions}
use Rattle.java_text.specs.Canonical.{canonical_type, literal_text, rank_of, operator_text, opening, closing, canonical_expression, canonical_arguments}
use Rattle.java_lex.specs.declared.token.TokenNode.{TokenNode}
use Rattle.java_lex.specs.declared.token.TokenNode.TheVariants.{Integer, Text, Sign}
use Rattle.qbs_base.specs.Bytes.{is_name_start, is_name_part, is_digit}
use Rattle.java_lex.specs.Pieces.{begins_long_sign}
use Rattle.java_lex.proofs.Cut.{none, token}
use Rattle.java_grammar.specs.Written.{is_word, are_name_parts, WrittenType, WrittenScalar, WrittenExpression, WrittenExpressions}
use Rattle.java_grammar.specs.Printed.{word, sign, type_tokens, integer, literal_tokens, operator_tokens, open_unless, close_unless, call, dot_class, creation, expression_tokens, argument_tokens}
use Rattle.java_grammar.proofs.Wholes.{stops_first, Stops, Shut, Reads, nothing_read, as_reads, shut_shut, shut_reads, reads_shut, reads_reads, reads_follow}
use Rattle.java_grammar.proofs.Fixed.{both_true, not_true, is_plain_sign, sign_piece, fixed, fixed_word, word_reads, white, name, short, long}
use Rattle.java_grammar.proofs.Numbers.{plain_reads, marked_reads, begins_digit, decimal_begins}
use Rattle.java_grammar.proofs.Texts.{text_shut}

-- ---- a sign before something that doesn't go on with it

-- the first byte is there, and is no `=`
abbrev pub begins_other : List ℕ → Bool
begins_other [] = false
begins_other (c ∷ cs) = not (c == 61)

begins_append : (x y : List ℕ) → begins_other x ≡ true → begins_other (x ++ y) ≡ true
begins_append [] y e = absurd cc
begins_append (c ∷ x) y e = e

sign_before : (b : ℕ) (y : List ℕ) (n : List TokenNode) → is_plain_sign b ≡ true → ((rest : List ℕ) → begins_long_sign b (y ++ rest) ≡ false) → Reads y n → Reads (b ∷ y) (Sign (b ∷ []) ∷ n)
sign_before b y n plain alone k = record { by = λ rest s. token (b ∷ []) y (omega arith) (sign_piece b (y ++ rest) plain (alone rest)) (k.by rest s) }

less_alone : (y rest : List ℕ) → begins_other y ≡ true → begins_long_sign 60 (y ++ rest) ≡ false
less_alone [] rest e = absurd cc
less_alone (c ∷ cs) rest e = rw (not_true (c == 61) e) refl

not_alone : (y rest : List ℕ) → begins_other y ≡ true → begins_long_sign 33 (y ++ rest) ≡ false
not_alone [] rest e = absurd cc
not_alone (c ∷ cs) rest e = rw (not_true (c == 61) e) refl

digit_no_arrow : (c : ℕ) → is_digit c ≡ true → (c == 62) ≡ false
digit_no_arrow c h = grind (arith, nat_tests, h)

digit_other : (c : ℕ) → is_digit c ≡ true → not (c == 61) ≡ true
digit_other c h = grind (arith, nat_tests, h)

start_other : (c : ℕ) → is_name_start c ≡ true → not (c == 61) ≡ true
start_other c h = grind (arith, nat_tests, h)

minus_alone : (y rest : List ℕ) → begins_digit y ≡ true → begins_long_sign 45 (y ++ rest) ≡ false
minus_alone [] rest e = absurd cc
minus_alone (c ∷ cs) rest e = rw (digit_no_arrow c e) refl

greater_alone : (rest : List ℕ) → Stops rest → begins_long_sign 62 rest ≡ false
greater_alone [] s = refl
greater_alone (c ∷ cs) s = rw (not_true (c == 61) (both_true (not (is_name_part c)) (not (c == 61)) s).1) refl

greater_reads : Reads (62 ∷ []) (Sign (62 ∷ []) ∷ [])
greater_reads = record { by = λ rest s. token (62 ∷ []) [] (omega arith) (sign_piece 62 rest refl (greater_alone rest s)) none }

word_begins : (w : List ℕ) → is_word w ≡ true → begins_other w ≡ true
word_begins [] h = absurd cc
word_begins (b ∷ bs) h = start_other b (both_true (is_name_start b) (are_name_parts bs) h).0

digit_begins : (ds : List ℕ) → begins_digit ds ≡ true → begins_other ds ≡ true
digit_begins [] h = absurd cc
digit_begins (d ∷ ds) h = digit_other d h

digits_append : (ds y : List ℕ) → begins_digit ds ≡ true → begins_digit (ds ++ y) ≡ true
digits_append [] y h = absurd cc
digits_append (d ∷ ds) y h = h

-- ---- types

pub type_begins : (ty : Spelled) → WrittenType ty → begins_other (canonical_type ty) ≡ true
type_begins plain.Int h = refl
type_begins plain.Long h = refl
type_begins plain.Boolean h = refl
type_begins plain.String h = refl
type_begins plain.BoxedInteger h = refl
type_begins plain.BoxedLong h = refl
type_begins plain.BoxedBoolean h = refl
type_begins (plain.Table w) h = word_begins w h
type_begins (plain.ListOf ty) h = refl
type_begins (plain.SetOf ty) h = refl

angled : (w : List ℕ) (ty : Spelled) → is_word w ≡ true → WrittenType ty → Reads (canonical_type ty) (type_tokens ty) → Reads ((w ++ (60 ∷ canonical_type ty)) ++ codes ">") ((word w ++ (Sign (60 ∷ []) ∷ type_tokens ty)) ++ sign (codes ">"))
angled w ty h k r =
    let less : Reads (60 ∷ canonical_type ty) (Sign (60 ∷ []) ∷ type_tokens ty) = sign_before 60 (canonical_type ty) (type_tokens ty) refl (λ rest. less_alone (canonical_type ty) rest (type_begins ty k)) r in
    reads_reads (w ++ (60 ∷ canonical_type ty)) (codes ">") (word w ++ (Sign (60 ∷ []) ∷ type_tokens ty)) (sign (codes ">")) (reads_reads w (60 ∷ canonical_type ty) (word w) (Sign (60 ∷ []) ∷ type_tokens ty) (word_reads w h) refl less) refl greater_reads

pub type_reads : (ty : Spelled) → WrittenType ty → Reads (canonical_type ty) (type_tokens ty)
type_reads plain.Int h = word_reads (codes "int") refl
type_reads plain.Long h = word_reads (codes "long") refl
type_reads plain.Boolean h = word_reads (codes "boolean") refl
type_reads plain.String h = word_reads (codes "String") refl
type_reads plain.BoxedInteger h = word_reads (codes "Integer") refl
type_reads plain.BoxedLong h = word_reads (codes "Long") refl
type_reads plain.BoxedBoolean h = word_reads (codes "Boolean") refl
type_reads (plain.Table w) h = word_reads w h
type_reads (plain.ListOf ty) h = angled (codes "List") ty refl h (type_reads ty h)
type_reads (plain.SetOf ty) h = angled (codes "Set") ty refl h (type_reads ty h)

-- ---- literals

-- a text, read as these tokens, that begins with no `=`
pub record Spells (text : List ℕ) (nodes : List TokenNode) : Type 0 where
  pub reads : Reads text nodes
  pub begins : begins_other text ≡ true

suffixed : (n : ℕ) → n < 2 ^ 63 → (v : Bool) → Reads (decimal n ++ cond v [] (codes "L")) (Integer (pos n) (not v) ∷ [])
suffixed n small true = subst (λ (x : List ℕ). Reads x (Integer (pos n) false ∷ [])) (sym (append-nil (decimal n))) (plain_reads n small)
suffixed n small false = marked_reads n small

negative : (n : ℕ) → suc n < 2 ^ 63 → (v : Bool) → Reads (45 ∷ (decimal (suc n) ++ cond v [] (codes "L"))) (Sign (45 ∷ []) ∷ Integer (pos (suc n)) (not v) ∷ [])
negative n small v =
    sign_before 45 (decimal (suc n) ++ cond v [] (codes "L")) (Integer (pos (suc n)) (not v) ∷ []) refl
    (λ rest. minus_alone (decimal (suc n) ++ cond v [] (codes "L")) rest (digits_append (decimal (suc n)) (cond v [] (codes "L")) (decimal_begins (suc n) small)))
    (suffixed (suc n) small v)

below_least : (n : ℕ) → n < 2 ^ 63 → (n == 2 ^ 63 - 1) ≡ false → suc n < 2 ^ 63
below_least n h e = let k : n ≡ 2 ^ 63 - 1 → ⊥ = eqb-false n (2 ^ 63 - 1) e in by (eqb-false n (2 ^ 63 - 1) e)
  where
    by : (n ≡ 2 ^ 63 - 1 → ⊥) → suc n < 2 ^ 63
    by k = grind (arith, h, k)

least_or : (n : ℕ) → n < 2 ^ 63 → (t : Bool) → (n == 2 ^ 63 - 1) ≡ t → Spells (cond t (codes "Long.MIN_VALUE") ((codes "-" ++ decimal (suc n)) ++ cond (nat_lt n (2 ^ 31)) [] (codes "L"))) (cond t (word (codes "Long") ++ sign (codes ".") ++ word (codes "MIN_VALUE")) (sign (codes "-") ++ integer (suc n) n))
least_or n small true e = record { reads = fixed_word (name (codes "Long") ∷ short 46 ∷ name (codes "MIN_VALUE") ∷ []) refl; begins = refl }
least_or n small false e = record { reads = negative n (below_least n small e) (nat_lt n (2 ^ 31)); begins = refl }

pub literal_spells : (value : Scalar) → WrittenScalar value → Spells (literal_text value) (literal_tokens value)
literal_spells (scalars.Long (pos n)) h = record {
  reads = suffixed n h (nat_lt n (2 ^ 31));
  begins = begins_append (decimal n) (cond (nat_lt n (2 ^ 31)) [] (codes "L")) (digit_begins (decimal n) (decimal_begins n h));
}
literal_spells (scalars.Long (negsuc n)) h = least_or n h (n == 2 ^ 63 - 1) refl
literal_spells (scalars.Bool true) h = record { reads = word_reads (codes "true") refl; begins = refl }
literal_spells (scalars.Bool false) h = record { reads = word_reads (codes "false") refl; begins = refl }
literal_spells (scalars.Text text) h = record { reads = as_reads (text_literal text) (Text text ∷ []) (text_shut text h); begins = refl }

-- ---- expressions

pub operator_shut : (op : Op) → Shut (operator_text op) (operator_tokens op)
operator_shut ops.Mul = fixed (white 32 ∷ short 42 ∷ white 32 ∷ []) refl
operator_shut ops.Add = fixed (white 32 ∷ short 43 ∷ white 32 ∷ []) refl
operator_shut ops.Sub = fixed (white 32 ∷ short 45 ∷ white 32 ∷ []) refl
operator_shut ops.Lt = fixed (white 32 ∷ short 60 ∷ white 32 ∷ []) refl
operator_shut ops.Le = fixed (white 32 ∷ long 60 61 ∷ white 32 ∷ []) refl
operator_shut ops.Gt = fixed (white 32 ∷ short 62 ∷ white 32 ∷ []) refl
operator_shut ops.Ge = fixed (white 32 ∷ long 62 61 ∷ white 32 ∷ []) refl
operator_shut ops.Eq = fixed (white 32 ∷ long 61 61 ∷ white 32 ∷ []) refl
operator_shut ops.Ne = fixed (white 32 ∷ long 33 61 ∷ white 32 ∷ []) refl
operator_shut ops.And = fixed (white 32 ∷ long 38 38 ∷ white 32 ∷ []) refl
operator_shut ops.Or = fixed (white 32 ∷ long 124 124 ∷ white 32 ∷ []) refl

operator_stops : (op : Op) → stops_first (operator_text op) ≡ true
operator_stops ops.Mul = refl
operator_stops ops.Add = refl
operator_stops ops.Sub = refl
operator_stops ops.Lt = refl
operator_stops ops.Le = refl
operator_stops ops.Gt = refl
operator_stops ops.Ge = refl
operator_stops ops.Eq = refl
operator_stops ops.Ne = refl
operator_stops ops.And = refl
operator_stops ops.Or = refl

open_shut : Shut (codes "(") (sign (codes "("))
open_shut = fixed (short 40 ∷ []) refl

pub close_shut : Shut (codes ")") (sign (codes ")"))
close_shut = fixed (short 41 ∷ []) refl

dot_shut : Shut (codes ".") (sign (codes "."))
dot_shut = fixed (short 46 ∷ []) refl

-- something and a closing parenthesis
pub closed_by : (x : List ℕ) (m : List TokenNode) → Reads x m → Shut (x ++ codes ")") (m ++ sign (codes ")"))
closed_by x m r = reads_shut x (codes ")") m (sign (codes ")")) r refl close_shut

wrapped : (tight : Bool) (x : List ℕ) (m : List TokenNode) → Spells x m → Spells ((opening tight ++ x) ++ closing tight) ((open_unless tight ++ m) ++ close_unless tight)
wrapped true x m r = record {
  reads = subst (λ (y : List ℕ). Reads y (m ++ [])) (sym (append-nil x)) (subst (λ (n : List TokenNode). Reads x n) (sym (append-nil m)) r.reads);
  begins = begins_append x [] r.begins;
}
wrapped false x m r = record {
  reads = as_reads ((codes "(" ++ x) ++ codes ")") ((sign (codes "(") ++ m) ++ sign (codes ")")) (closed_by (codes "(" ++ x) (sign (codes "(") ++ m) (shut_reads (codes "(") x (sign (codes "(")) m open_shut r.reads));
  begins = refl;
}

-- head ( x )
called : (head x : List ℕ) (m n : List TokenNode) → Shut head m → Reads x n → Reads ((head ++ x) ++ codes ")") ((m ++ n) ++ sign (codes ")"))
called head x m n h r = as_reads ((head ++ x) ++ codes ")") ((m ++ n) ++ sign (codes ")")) (closed_by (head ++ x) (m ++ n) (shut_reads head x m n h r))

pub arguments_stop : (es : Expressions) (rest : List ℕ) → Stops rest → Stops (canonical_arguments es ++ rest)
arguments_stop plain.NoMore rest s = s
arguments_stop (plain.And e es) rest s = refl

-- a query's head and text, and its arguments
asked : (head : List ℕ) (text : List ℕ) (es : Expressions) (m : List TokenNode) → Shut head m → Shut (text_literal text) (Text text ∷ []) → Reads (canonical_arguments es) (argument_tokens es) → Reads (((head ++ text_literal text) ++ canonical_arguments es) ++ codes ")") (((m ++ (Text text ∷ [])) ++ argument_tokens es) ++ sign (codes ")"))
asked head text es m h t r = called (head ++ text_literal text) (canonical_arguments es) (m ++ (Text text ∷ [])) (argument_tokens es) (shut_shut head (text_literal text) m (Text text ∷ []) h t) r

-- name . call (
pub method_of : (w rest : List ℕ) (n : List TokenNode) → is_word w ≡ true → stops_first rest ≡ true → Shut rest n → Shut (w ++ rest) (word w ++ n)
method_of w rest n h s k = reads_shut w rest (word w) n (word_reads w h) s k

mutual
  pub expression_spells : (e : Expression) (most : ℕ) → WrittenExpression e → Spells (canonical_expression most e) (expression_tokens most e)
  expression_spells (plain.Lit at value) most h = literal_spells value h
  expression_spells (plain.Var at w) most h = record { reads = word_reads w h; begins = word_begins w h }
  expression_spells (plain.Field at row w) most h =
      let r : Spells (canonical_expression 1 row) (expression_tokens 1 row) = expression_spells row 1 h.0 in
      record {
        reads = shut_reads (canonical_expression 1 row ++ codes ".") w (expression_tokens 1 row ++ sign (codes ".")) (word w) (reads_shut (canonical_expression 1 row) (codes ".") (expression_tokens 1 row) (sign (codes ".")) r.reads refl dot_shut) (word_reads w h.1);
        begins = begins_append (canonical_expression 1 row ++ codes ".") w (begins_append (canonical_expression 1 row) (codes ".") r.begins);
      }
  expression_spells (plain.Binary at op a b) most h =
      let r : Spells (canonical_expression (rank_of op) a) (expression_tokens (rank_of op) a) = expression_spells a (rank_of op) h.0 in
      let s : Spells (canonical_expression (rank_of op - 1) b) (expression_tokens (rank_of op - 1) b) = expression_spells b (rank_of op - 1) h.1 in
      wrapped (nat_le (rank_of op) most) ((canonical_expression (rank_of op) a ++ operator_text op) ++ canonical_expression (rank_of op - 1) b) ((expression_tokens (rank_of op) a ++ operator_tokens op) ++ expression_tokens (rank_of op - 1) b)
      (record {
        reads = shut_reads (canonical_expression (rank_of op) a ++ operator_text op) (canonical_expression (rank_of op - 1) b) (expression_tokens (rank_of op) a ++ operator_tokens op) (expression_tokens (rank_of op - 1) b) (reads_shut (canonical_expression (rank_of op) a) (operator_text op) (expression_tokens (rank_of op) a) (operator_tokens op) r.reads (operator_stops op) (operator_shut op)) s.reads;
        begins = begins_append (canonical_expression (rank_of op) a ++ operator_text op) (canonical_expression (rank_of op - 1) b) (begins_append (canonical_expression (rank_of op) a) (operator_text op) r.begins);
      })
  expression_spells (plain.Not at e) most h =
      let r : Spells (canonical_expression 2 e) (expression_tokens 2 e) = expression_spells e 2 h in
      wrapped (nat_le 2 most) (33 ∷ canonical_expression 2 e) (Sign (33 ∷ []) ∷ expression_tokens 2 e)
      (record { reads = sign_before 33 (canonical_expression 2 e) (expression_tokens 2 e) refl (λ rest. not_alone (canonical_expression 2 e) rest r.begins) r.reads; begins = refl })
  expression_spells (plain.Equals at a b) most h =
      let r : Spells (canonical_expression 1 a) (expression_tokens 1 a) = expression_spells a 1 h.0 in
      let s : Spells (canonical_expression 8 b) (expression_tokens 8 b) = expression_spells b 8 h.1 in
      record {
        reads = called (canonical_expression 1 a ++ codes ".equals(") (canonical_expression 8 b) (expression_tokens 1 a ++ call (codes "equals")) (expression_tokens 8 b) (reads_shut (canonical_expression 1 a) (codes ".equals(") (expression_tokens 1 a) (call (codes "equals")) r.reads refl (fixed (short 46 ∷ name (codes "equals") ∷ short 40 ∷ []) refl)) s.reads;
        begins = begins_append ((canonical_expression 1 a ++ codes ".equals(") ++ canonical_expression 8 b) (codes ")") (begins_append (canonical_expression 1 a ++ codes ".equals(") (canonical_expression 8 b) (begins_append (canonical_expression 1 a) (codes ".equals(") r.begins));
      }
  expression_spells (plain.Size at w) most h = record {
    reads = as_reads (w ++ codes ".size()") (word w ++ (call (codes "size") ++ sign (codes ")"))) (method_of w (codes ".size()") (call (codes "size") ++ sign (codes ")")) h refl (fixed (short 46 ∷ name (codes "size") ∷ short 40 ∷ short 41 ∷ []) refl));
    begins = begins_append w (codes ".size()") (word_begins w h);
  }
  expression_spells (plain.Get at w e) most h =
      let s : Spells (canonical_expression 8 e) (expression_tokens 8 e) = expression_spells e 8 h.1 in
      record {
        reads = called (w ++ codes ".get(") (canonical_expression 8 e) (word w ++ call (codes "get")) (expression_tokens 8 e) (method_of w (codes ".get(") (call (codes "get")) h.0 refl (fixed (short 46 ∷ name (codes "get") ∷ short 40 ∷ []) refl)) s.reads;
        begins = begins_append ((w ++ codes ".get(") ++ canonical_expression 8 e) (codes ")") (begins_append (w ++ codes ".get(") (canonical_expression 8 e) (begins_append w (codes ".get(") (word_begins w h.0)));
      }
  expression_spells (plain.Contains at w e) most h =
      let s : Spells (canonical_expression 8 e) (expression_tokens 8 e) = expression_spells e 8 h.1 in
      record {
        reads = called (w ++ codes ".contains(") (canonical_expression 8 e) (word w ++ call (codes "contains")) (expression_tokens 8 e) (method_of w (codes ".contains(") (call (codes "contains")) h.0 refl (fixed (short 46 ∷ name (codes "contains") ∷ short 40 ∷ []) refl)) s.reads;
        begins = begins_append ((w ++ codes ".contains(") ++ canonical_expression 8 e) (codes ")") (begins_append (w ++ codes ".contains(") (canonical_expression 8 e) (begins_append w (codes ".contains(") (word_begins w h.0)));
      }
  expression_spells (plain.Fetch at w) most h = record {
    reads = as_reads ((codes "db.fetch(" ++ w) ++ codes ".class)") (((word (codes "db") ++ call (codes "fetch")) ++ word w) ++ (dot_class ++ sign (codes ")")))
        (reads_shut (codes "db.fetch(" ++ w) (codes ".class)") ((word (codes "db") ++ call (codes "fetch")) ++ word w) (dot_class ++ sign (codes ")")) (shut_reads (codes "db.fetch(") w (word (codes "db") ++ call (codes "fetch")) (word w) (fixed (name (codes "db") ∷ short 46 ∷ name (codes "fetch") ∷ short 40 ∷ []) refl) (word_reads w h)) refl (fixed (short 46 ∷ name (codes "class") ∷ short 41 ∷ []) refl));
    begins = refl;
  }
  expression_spells (plain.Query at ty text es) most h = record {
    reads = asked ((codes "db.query(" ++ canonical_type ty) ++ codes ".class, ") text es (((word (codes "db") ++ call (codes "query")) ++ type_tokens ty) ++ (dot_class ++ sign (codes ",")))
        (reads_shut (codes "db.query(" ++ canonical_type ty) (codes ".class, ") ((word (codes "db") ++ call (codes "query")) ++ type_tokens ty) (dot_class ++ sign (codes ",")) (shut_reads (codes "db.query(") (canonical_type ty) (word (codes "db") ++ call (codes "query")) (type_tokens ty) (fixed (name (codes "db") ∷ short 46 ∷ name (codes "query") ∷ short 40 ∷ []) refl) (type_reads ty h.0)) refl (fixed (short 46 ∷ name (codes "class") ∷ short 44 ∷ white 32 ∷ []) refl))
        (text_shut text h.1) (arguments_read es h.2);
    begins = refl;
  }
  expression_spells (plain.QueryLong at text es) most h = record {
    reads = asked (codes "db.queryLong(") text es (word (codes "db") ++ call (codes "queryLong")) (fixed (name (codes "db") ∷ short 46 ∷ name (codes "queryLong") ∷ short 40 ∷ []) refl) (text_shut text h.0) (arguments_read es h.1);
    begins = refl;
  }
  expression_spells (plain.QueryBoolean at text es) most h = record {
    reads = asked (codes "db.queryBoolean(") text es (word (codes "db") ++ call (codes "queryBoolean")) (fixed (name (codes "db") ∷ short 46 ∷ name (codes "queryBoolean") ∷ short 40 ∷ []) refl) (text_shut text h.0) (arguments_read es h.1);
    begins = refl;
  }
  expression_spells (plain.NewList at) most h = record {
    reads = as_reads (codes "new ArrayList<>()") (creation (codes "ArrayList") ++ sign (codes ")")) (fixed (name (codes "new") ∷ white 32 ∷ name (codes "ArrayList") ∷ short 60 ∷ short 62 ∷ short 40 ∷ short 41 ∷ []) refl);
    begins = refl;
  }
  expression_spells (plain.NewSet at) most h = record {
    reads = as_reads (codes "new LinkedHashSet<>()") (creation (codes "LinkedHashSet") ++ sign (codes ")")) (fixed (name (codes "new") ∷ white 32 ∷ name (codes "LinkedHashSet") ∷ short 60 ∷ short 62 ∷ short 40 ∷ short 41 ∷ []) refl);
    begins = refl;
  }
  expression_spells (plain.NewSetOf at query) most h =
      let s : Spells (canonical_expression 8 query) (expression_tokens 8 query) = expression_spells query 8 h in
      record {
        reads = called (codes "new LinkedHashSet<>(") (canonical_expression 8 query) (creation (codes "LinkedHashSet")) (expression_tokens 8 query) (fixed (name (codes "new") ∷ white 32 ∷ name (codes "LinkedHashSet") ∷ short 60 ∷ short 62 ∷ short 40 ∷ []) refl) s.reads;
        begins = refl;
      }

  pub arguments_read : (es : Expressions) → WrittenExpressions es → Reads (canonical_arguments es) (argument_tokens es)
  arguments_read plain.NoMore h = as_reads [] [] nothing_read
  arguments_read (plain.And e es) h =
      let s : Spells (canonical_expression 8 e) (expression_tokens 8 e) = expression_spells e 8 h.0 in
      reads_follow (codes ", " ++ canonical_expression 8 e) (canonical_arguments es) (sign (codes ",") ++ expression_tokens 8 e) (argument_tokens es) (shut_reads (codes ", ") (canonical_expression 8 e) (sign (codes ",")) (expression_tokens 8 e) (fixed (short 44 ∷ white 32 ∷ []) refl) s.reads) (arguments_stop es) (arguments_read es h.1)
