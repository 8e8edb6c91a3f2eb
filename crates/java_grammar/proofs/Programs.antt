-- The canonical text of statements, methods and programs is read as their tokens.
use Rattle.std.proofs.Common.{◌≡◌, ℕ, Bool, true, false, cond, List, [], ◌∷◌, ◌++◌, refl, sym, ap, subst, ◌∙◌, codes, Option, Some, None, Ok}
use Rattle.std.specs.Prelude.{◌||◌, ◌==◌}
use Rattle.std.specs.List.{flat_map}
use Rattle.std.proofs.lemmas.Bool.{eqb-true}
use Rattle.std.proofs.lemmas.List.{append-nil}
use Rattle.std.proofs.lemmas.List.Concat.{flat_map-cons}
use Rattle.java_ast.specs.declared.tree.Access.{Access}
use Rattle.java_ast.specs.declared.tree.Access.TheVariants as accesses
use Rattle.java_ast.specs.Tree as plain
use Rattle.java_ast.specs.Tree.{Spelled, Expression, Statement, Statements, PlainParam, PlainMethod, PlainProgram}
use Rattle.java_text.specs.Canonical.{line_end, indent, separated, canonical_type, canonical_expression, first_or_false, reversed_text, comparing_text, canonical_key, canonical_keys, braced, returned_text, declared_text, walked_text, tested_text, canonical_statement, canonical_statements, access_text, word_if, result_text, canonical_param, modifiers_text, named_text, head_text, canonical_method, package_text, import_text, imports_text, class_text, canonical}
use Rattle.java_lex.specs.declared.token.TokenNode.{TokenNode}
use Rattle.java_lex.specs.Cutting.{HasNodes}
use Rattle.java_lex.specs.Lexing.{tokens_from}
use Rattle.qbs_base.specs.Places.{place_after, first_place}
use Rattle.qbs_base.specs.declared.place.Place.{Place}
use Rattle.java_lex.specs.declared.token.Token.{Token}
use Rattle.java_lex.proofs.Steps.{with_tokens}
use Rattle.java_lex.proofs.Cut.{leads, as_a_text, Leads}
use Rattle.qbs_base.specs.Bytes.{is_name_start}
use Rattle.java_grammar.specs.Written.{is_word, IsWord, onto_first, parts_of, AreWords, is_star, AreWordsOrStar, WrittenType, WrittenExpression, WrittenKeys, WrittenReturn, WrittenStatement, WrittenStatements, WrittenParams, WrittenResult, WrittenMethods, WrittenPackage, WrittenImports, IsWritten}
use Rattle.java_grammar.specs.Printed.{word, sign, parted, type_tokens, call, expression_tokens, reversed_tokens, comparing_tokens, key_tokens, keys_tokens, braced_tokens, returned_tokens, declared_tokens, walked_tokens, tested_tokens, print_head, statement_tokens, statements_tokens, access_tokens, word_tokens_if, result_tokens, param_tokens, head_tokens, method_tokens, part_tokens, parts_tokens, dotted_tokens, package_tokens, import_tokens, class_tokens, tokens_of}
use Rattle.java_grammar.proofs.Wholes.{Stops, Shut, Reads, nothing_read, as_reads, shut_shut, shut_reads, reads_shut, reads_reads, reads_gap, shut_gap, reads_follow}
use Rattle.java_grammar.proofs.Fixed.{both_true, fixed, fixed_word, word_reads, white, name, short, long}
use Rattle.java_grammar.proofs.Spellings.{type_reads, Spells, expression_spells, closed_by, close_shut, method_of}

expression_reads : (e : Expression) → WrittenExpression e → Reads (canonical_expression 8 e) (expression_tokens 8 e)
expression_reads e h = let s : Spells (canonical_expression 8 e) (expression_tokens 8 e) = expression_spells e 8 h in s.reads

-- ---- what statements end and begin with

line_shut : Shut line_end []
line_shut = fixed (white 10 ∷ []) refl

space_shut : Shut (codes " ") []
space_shut = fixed (white 32 ∷ []) refl

indent_shut : Shut indent []
indent_shut = fixed (white 32 ∷ white 32 ∷ white 32 ∷ white 32 ∷ []) refl

-- ; and the end of the line
end_shut : Shut (codes ";" ++ line_end) (sign (codes ";"))
end_shut = fixed (short 59 ∷ white 10 ∷ []) refl

equals_shut : Shut (codes " = ") (sign (codes "="))
equals_shut = fixed (white 32 ∷ short 61 ∷ white 32 ∷ []) refl

-- a simple statement
simple_shut : (margin x : List ℕ) (m : List TokenNode) → Shut margin [] → Reads x m → Shut ((margin ++ x) ++ (codes ";" ++ line_end)) (m ++ sign (codes ";"))
simple_shut margin x m h r = reads_shut (margin ++ x) (codes ";" ++ line_end) m (sign (codes ";")) (shut_reads margin x [] m h r) refl end_shut

-- type name
named_read : (ty : Spelled) (w : List ℕ) → WrittenType ty → IsWord w → Reads ((canonical_type ty ++ codes " ") ++ w) (type_tokens ty ++ word w)
named_read ty w h k = shut_reads (canonical_type ty ++ codes " ") w (type_tokens ty) (word w) (reads_gap (canonical_type ty) (codes " ") (type_tokens ty) (type_reads ty h) refl space_shut) (word_reads w k)

pub declared_read : (ty : Spelled) (w : List ℕ) (e : Expression) → WrittenType ty → IsWord w → WrittenExpression e → Reads (declared_text ty w e) (declared_tokens ty w e)
declared_read ty w e h k l =
    shut_reads (((canonical_type ty ++ codes " ") ++ w) ++ codes " = ") (canonical_expression 8 e) ((type_tokens ty ++ word w) ++ sign (codes "=")) (expression_tokens 8 e)
    (reads_shut ((canonical_type ty ++ codes " ") ++ w) (codes " = ") (type_tokens ty ++ word w) (sign (codes "=")) (named_read ty w h k) refl equals_shut) (expression_reads e l)

pub assigned_read : (w : List ℕ) (e : Expression) → IsWord w → WrittenExpression e → Reads ((w ++ codes " = ") ++ canonical_expression 8 e) ((word w ++ sign (codes "=")) ++ expression_tokens 8 e)
assigned_read w e h k = shut_reads (w ++ codes " = ") (canonical_expression 8 e) (word w ++ sign (codes "=")) (expression_tokens 8 e) (method_of w (codes " = ") (sign (codes "=")) h refl equals_shut) (expression_reads e k)

pub added_shut : (w : List ℕ) (e : Expression) → IsWord w → WrittenExpression e → Shut (((w ++ codes ".add(") ++ canonical_expression 8 e) ++ codes ")") (((word w ++ call (codes "add")) ++ expression_tokens 8 e) ++ sign (codes ")"))
added_shut w e h k =
    closed_by ((w ++ codes ".add(") ++ canonical_expression 8 e) ((word w ++ call (codes "add")) ++ expression_tokens 8 e)
    (shut_reads (w ++ codes ".add(") (canonical_expression 8 e) (word w ++ call (codes "add")) (expression_tokens 8 e) (method_of w (codes ".add(") (call (codes "add")) h refl (fixed (short 46 ∷ name (codes "add") ∷ short 40 ∷ []) refl)) (expression_reads e k))

reversed_shut : (down next : Bool) → Shut (reversed_text down next) (reversed_tokens down next)
reversed_shut true true = nothing_read
reversed_shut false false = nothing_read
reversed_shut true false = fixed (short 46 ∷ name (codes "reversed") ∷ short 40 ∷ short 41 ∷ []) refl
reversed_shut false true = fixed (short 46 ∷ name (codes "reversed") ∷ short 40 ∷ short 41 ∷ []) refl

comparing_read : (further : Bool) → Reads (comparing_text further) (comparing_tokens further)
comparing_read false = fixed_word (name (codes "Comparator") ∷ short 46 ∷ name (codes "comparing") ∷ []) refl
comparing_read true = fixed_word (short 46 ∷ name (codes "thenComparing") ∷ []) refl

-- (x -> x.
abbrev lambda_text : List ℕ
lambda_text = codes "(x -> x."

abbrev lambda_tokens : List TokenNode
lambda_tokens = sign (codes "(") ++ word (codes "x") ++ sign (codes "->") ++ word (codes "x") ++ sign (codes ".")

key_shut : (further : Bool) (key : List ℕ) → IsWord key → Shut (canonical_key further key) (key_tokens further key)
key_shut further key h =
    closed_by ((comparing_text further ++ lambda_text) ++ key) ((comparing_tokens further ++ lambda_tokens) ++ word key)
    (shut_reads (comparing_text further ++ lambda_text) key (comparing_tokens further ++ lambda_tokens) (word key)
    (reads_shut (comparing_text further) lambda_text (comparing_tokens further) lambda_tokens (comparing_read further) refl
    (fixed (short 40 ∷ name (codes "x") ∷ white 32 ∷ long 45 62 ∷ white 32 ∷ name (codes "x") ∷ short 46 ∷ []) refl)) (word_reads key h))

keys_shut : (further : Bool) (keys : List (List ℕ)) (downs : List Bool) → WrittenKeys keys downs → Shut (canonical_keys further keys downs) (keys_tokens further keys downs)
keys_shut further [] [] h = nothing_read
keys_shut further [] (d ∷ downs) h = absurd h
keys_shut further (key ∷ keys) [] h = absurd h
keys_shut further (key ∷ keys) (down ∷ downs) h =
    shut_shut (canonical_key further key ++ reversed_text down (first_or_false downs)) (canonical_keys true keys downs) (key_tokens further key ++ reversed_tokens down (first_or_false downs)) (keys_tokens true keys downs)
    (shut_shut (canonical_key further key) (reversed_text down (first_or_false downs)) (key_tokens further key) (reversed_tokens down (first_or_false downs)) (key_shut further key h.0) (reversed_shut down (first_or_false downs))) (keys_shut true keys downs h.1)

pub sorted_shut : (w : List ℕ) (keys : List (List ℕ)) (downs : List Bool) → IsWord w → WrittenKeys keys downs → Shut (((w ++ codes ".sort(") ++ canonical_keys false keys downs) ++ codes ")") (((word w ++ call (codes "sort")) ++ keys_tokens false keys downs) ++ sign (codes ")"))
sorted_shut w keys downs h k =
    shut_shut ((w ++ codes ".sort(") ++ canonical_keys false keys downs) (codes ")") ((word w ++ call (codes "sort")) ++ keys_tokens false keys downs) (sign (codes ")"))
    (shut_shut (w ++ codes ".sort(") (canonical_keys false keys downs) (word w ++ call (codes "sort")) (keys_tokens false keys downs) (method_of w (codes ".sort(") (call (codes "sort")) h refl (fixed (short 46 ∷ name (codes "sort") ∷ short 40 ∷ []) refl)) (keys_shut false keys downs k)) close_shut

pub returned_read : (value : Option Expression) → WrittenReturn value → Reads (returned_text value) (returned_tokens value)
returned_read None h = word_reads (codes "return") refl
returned_read (Some e) h = shut_reads (codes "return ") (canonical_expression 8 e) (word (codes "return")) (expression_tokens 8 e) (fixed (name (codes "return") ∷ white 32 ∷ []) refl) (expression_reads e h)

pub tested_shut : (head : List ℕ) (m : List TokenNode) (e : Expression) → Shut head m → WrittenExpression e → Shut (tested_text head e) (tested_tokens m e)
tested_shut head m e h k = closed_by (head ++ canonical_expression 8 e) (m ++ expression_tokens 8 e) (shut_reads head (canonical_expression 8 e) m (expression_tokens 8 e) h (expression_reads e k))

if_shut : Shut (codes "if (") (word (codes "if") ++ sign (codes "("))
if_shut = fixed (name (codes "if") ∷ white 32 ∷ short 40 ∷ []) refl

while_shut : Shut (codes "while (") (word (codes "while") ++ sign (codes "("))
while_shut = fixed (name (codes "while") ∷ white 32 ∷ short 40 ∷ []) refl

pub print_shut : Shut (codes "System.out.println(") print_head
print_shut = fixed (name (codes "System") ∷ short 46 ∷ name (codes "out") ∷ short 46 ∷ name (codes "println") ∷ short 40 ∷ []) refl

abbrev for_head : List TokenNode
for_head = word (codes "for") ++ sign (codes "(")

walked_shut : (ty : Spelled) (w : List ℕ) (e : Expression) → WrittenType ty → IsWord w → WrittenExpression e → Shut (walked_text ty w e) (walked_tokens ty w e)
walked_shut ty w e h k l =
    closed_by (((((codes "for (" ++ canonical_type ty) ++ codes " ") ++ w) ++ codes " : ") ++ canonical_expression 8 e) ((((for_head ++ type_tokens ty) ++ word w) ++ sign (codes ":")) ++ expression_tokens 8 e)
    (shut_reads ((((codes "for (" ++ canonical_type ty) ++ codes " ") ++ w) ++ codes " : ") (canonical_expression 8 e) (((for_head ++ type_tokens ty) ++ word w) ++ sign (codes ":")) (expression_tokens 8 e)
    (reads_shut (((codes "for (" ++ canonical_type ty) ++ codes " ") ++ w) (codes " : ") ((for_head ++ type_tokens ty) ++ word w) (sign (codes ":"))
    (shut_reads ((codes "for (" ++ canonical_type ty) ++ codes " ") w (for_head ++ type_tokens ty) (word w)
    (reads_gap (codes "for (" ++ canonical_type ty) (codes " ") (for_head ++ type_tokens ty)
    (shut_reads (codes "for (") (canonical_type ty) for_head (type_tokens ty) (fixed (name (codes "for") ∷ white 32 ∷ short 40 ∷ []) refl) (type_reads ty h)) refl space_shut)
    (word_reads w k)) refl (fixed (white 32 ∷ short 58 ∷ white 32 ∷ []) refl)) (expression_reads e l))

braced_shut : (margin body : List ℕ) (m : List TokenNode) → Shut margin [] → Shut body m → Shut (braced margin body) (braced_tokens m)
braced_shut margin body m h k =
    shut_shut (((codes " {" ++ line_end) ++ body) ++ margin) (codes "}") (sign (codes "{") ++ m) (sign (codes "}"))
    (shut_gap ((codes " {" ++ line_end) ++ body) margin (sign (codes "{") ++ m)
    (shut_shut (codes " {" ++ line_end) body (sign (codes "{")) m (fixed (white 32 ∷ short 123 ∷ white 10 ∷ []) refl) k) h)
    (fixed (short 125 ∷ []) refl)

-- a head and a body, with the end of the line
bodied_shut : (margin head body : List ℕ) (m n : List TokenNode) → Shut margin [] → Shut head m → Shut body n → Shut (((margin ++ head) ++ braced margin body) ++ line_end) (m ++ braced_tokens n)
bodied_shut margin head body m n h k l =
    shut_gap ((margin ++ head) ++ braced margin body) line_end (m ++ braced_tokens n)
    (shut_shut (margin ++ head) (braced margin body) m (braced_tokens n) (shut_shut margin head [] m h k) (braced_shut margin body n h l)) line_shut

else_shut : (margin head body other : List ℕ) (m n o : List TokenNode) → Shut margin [] → Shut head m → Shut body n → Shut other o → Shut (((((margin ++ head) ++ braced margin body) ++ codes " else") ++ braced margin other) ++ line_end) (((m ++ braced_tokens n) ++ word (codes "else")) ++ braced_tokens o)
else_shut margin head body other m n o h k l j =
    shut_gap ((((margin ++ head) ++ braced margin body) ++ codes " else") ++ braced margin other) line_end (((m ++ braced_tokens n) ++ word (codes "else")) ++ braced_tokens o)
    (reads_shut (((margin ++ head) ++ braced margin body) ++ codes " else") (braced margin other) ((m ++ braced_tokens n) ++ word (codes "else")) (braced_tokens o)
    (shut_reads ((margin ++ head) ++ braced margin body) (codes " else") (m ++ braced_tokens n) (word (codes "else"))
    (shut_shut (margin ++ head) (braced margin body) m (braced_tokens n) (shut_shut margin head [] m h k) (braced_shut margin body n h l)) (fixed_word (white 32 ∷ name (codes "else") ∷ []) refl)) refl (braced_shut margin other o h j)) line_shut

deeper_shut : (margin : List ℕ) → Shut margin [] → Shut (margin ++ indent) []
deeper_shut margin h = shut_shut margin indent [] [] h indent_shut

mutual
  pub statement_shut : (s : Statement) (margin : List ℕ) → Shut margin [] → WrittenStatement s → Shut (canonical_statement margin s) (statement_tokens s)
  statement_shut (plain.Declare at ty w e) margin k h = simple_shut margin (declared_text ty w e) (declared_tokens ty w e) k (declared_read ty w e h.0 h.1 h.2)
  statement_shut (plain.Assign at w e) margin k h = simple_shut margin ((w ++ codes " = ") ++ canonical_expression 8 e) ((word w ++ sign (codes "=")) ++ expression_tokens 8 e) k (assigned_read w e h.0 h.1)
  statement_shut (plain.Add at w e) margin k h = simple_shut margin (((w ++ codes ".add(") ++ canonical_expression 8 e) ++ codes ")") (((word w ++ call (codes "add")) ++ expression_tokens 8 e) ++ sign (codes ")")) k (as_reads (((w ++ codes ".add(") ++ canonical_expression 8 e) ++ codes ")") (((word w ++ call (codes "add")) ++ expression_tokens 8 e) ++ sign (codes ")")) (added_shut w e h.0 h.1))
  statement_shut (plain.Sort at w keys downs) margin k h = simple_shut margin (((w ++ codes ".sort(") ++ canonical_keys false keys downs) ++ codes ")") (((word w ++ call (codes "sort")) ++ keys_tokens false keys downs) ++ sign (codes ")")) k (as_reads (((w ++ codes ".sort(") ++ canonical_keys false keys downs) ++ codes ")") (((word w ++ call (codes "sort")) ++ keys_tokens false keys downs) ++ sign (codes ")")) (sorted_shut w keys downs h.0 h.1))
  statement_shut (plain.If at cond first) margin k h = bodied_shut margin (tested_text (codes "if (") cond) (canonical_statements (margin ++ indent) first) (tested_tokens (word (codes "if") ++ sign (codes "(")) cond) (statements_tokens first) k (tested_shut (codes "if (") (word (codes "if") ++ sign (codes "(")) cond if_shut h.0) (statements_shut first (margin ++ indent) (deeper_shut margin k) h.1)
  statement_shut (plain.IfElse at cond first other) margin k h = else_shut margin (tested_text (codes "if (") cond) (canonical_statements (margin ++ indent) first) (canonical_statements (margin ++ indent) other) (tested_tokens (word (codes "if") ++ sign (codes "(")) cond) (statements_tokens first) (statements_tokens other) k (tested_shut (codes "if (") (word (codes "if") ++ sign (codes "(")) cond if_shut h.0) (statements_shut first (margin ++ indent) (deeper_shut margin k) h.1) (statements_shut other (margin ++ indent) (deeper_shut margin k) h.2)
  statement_shut (plain.ForEach at ty w e body) margin k h = bodied_shut margin (walked_text ty w e) (canonical_statements (margin ++ indent) body) (walked_tokens ty w e) (statements_tokens body) k (walked_shut ty w e h.0 h.1 h.2) (statements_shut body (margin ++ indent) (deeper_shut margin k) h.3)
  statement_shut (plain.While at cond body) margin k h = bodied_shut margin (tested_text (codes "while (") cond) (canonical_statements (margin ++ indent) body) (tested_tokens (word (codes "while") ++ sign (codes "(")) cond) (statements_tokens body) k (tested_shut (codes "while (") (word (codes "while") ++ sign (codes "(")) cond while_shut h.0) (statements_shut body (margin ++ indent) (deeper_shut margin k) h.1)
  statement_shut (plain.Print at e) margin k h = simple_shut margin (tested_text (codes "System.out.println(") e) (tested_tokens print_head e) k (as_reads (tested_text (codes "System.out.println(") e) (tested_tokens print_head e) (tested_shut (codes "System.out.println(") print_head e print_shut h))
  statement_shut (plain.Return at value) margin k h = simple_shut margin (returned_text value) (returned_tokens value) k (returned_read value h)
  statement_shut (plain.Break at) margin k h = simple_shut margin (codes "break") (word (codes "break")) k (word_reads (codes "break") refl)

  pub statements_shut : (ss : Statements) (margin : List ℕ) → Shut margin [] → WrittenStatements ss → Shut (canonical_statements margin ss) (statements_tokens ss)
  statements_shut plain.Nothing margin k h = nothing_read
  statements_shut (plain.Then s ss) margin k h = shut_shut (canonical_statement margin s) (canonical_statements margin ss) (statement_tokens s) (statements_tokens ss) (statement_shut s margin k h.0) (statements_shut ss margin k h.1)

-- ---- methods

access_shut : (access : Access) → Shut (access_text access) (access_tokens access)
access_shut accesses.Plain = nothing_read
access_shut accesses.Public = fixed (name (codes "public") ∷ white 32 ∷ []) refl
access_shut accesses.Private = fixed (name (codes "private") ∷ white 32 ∷ []) refl

static_shut : (is_static : Bool) → Shut (word_if is_static (codes "static ")) (word_tokens_if is_static (codes "static"))
static_shut true = fixed (name (codes "static") ∷ white 32 ∷ []) refl
static_shut false = nothing_read

public_shut : (is_public : Bool) → Shut (word_if is_public (codes "public ")) (word_tokens_if is_public (codes "public"))
public_shut true = fixed (name (codes "public") ∷ white 32 ∷ []) refl
public_shut false = nothing_read

result_read : (result : Option Spelled) → WrittenResult result → Reads (result_text result) (result_tokens result)
result_read None h = word_reads (codes "void") refl
result_read (Some ty) h = type_reads ty h

comma_shut : Shut (codes ", ") (sign (codes ","))
comma_shut = fixed (short 44 ∷ white 32 ∷ []) refl

abbrev further_text : PlainParam → List ℕ
further_text p = codes ", " ++ canonical_param p

abbrev further_tokens : PlainParam → List TokenNode
further_tokens p = sign (codes ",") ++ param_tokens p

further_stop : (ps : List PlainParam) (rest : List ℕ) → Stops rest → Stops (flat_map further_text ps ++ rest)
further_stop [] rest s = s
further_stop (p ∷ ps) rest s = subst (λ (x : List ℕ). Stops (x ++ rest)) (sym (flat_map-cons further_text p ps)) refl

further_read : (ps : List PlainParam) → WrittenParams ps → Reads (flat_map further_text ps) (flat_map further_tokens ps)
further_read [] h = as_reads [] [] nothing_read
further_read (p ∷ ps) h =
    let one : Reads (further_text p) (further_tokens p) = shut_reads (codes ", ") (canonical_param p) (sign (codes ",")) (param_tokens p) comma_shut (named_read p.ty p.name h.0 h.1) in
    let all : Reads (further_text p ++ flat_map further_text ps) (further_tokens p ++ flat_map further_tokens ps) = reads_follow (further_text p) (flat_map further_text ps) (further_tokens p) (flat_map further_tokens ps) one (further_stop ps) (further_read ps h.2) in
    subst (λ (x : List ℕ). Reads x (flat_map further_tokens (p ∷ ps))) (sym (flat_map-cons further_text p ps))
    (subst (λ (n : List TokenNode). Reads (further_text p ++ flat_map further_text ps) n) (sym (flat_map-cons further_tokens p ps)) all)

params_read : (ps : List PlainParam) → WrittenParams ps → Reads (separated (codes ", ") canonical_param ps) (parted (sign (codes ",")) param_tokens ps)
params_read [] h = as_reads [] [] nothing_read
params_read (p ∷ ps) h = reads_follow (canonical_param p) (flat_map further_text ps) (param_tokens p) (flat_map further_tokens ps) (named_read p.ty p.name h.0 h.1) (further_stop ps) (further_read ps h.2)

pub record WrittenMethod (m : PlainMethod) : Type 0 where
  pub result : WrittenResult m.result
  pub name : IsWord m.name
  pub params : WrittenParams m.params
  pub body : WrittenStatements m.body

head_shut : (m : PlainMethod) → WrittenMethod m → Shut (head_text m) (head_tokens m)
head_shut m h =
    let access : List TokenNode = access_tokens m.access ++ word_tokens_if m.fixed (codes "static") in
    closed_by ((((indent ++ modifiers_text m.access m.fixed) ++ named_text m.result m.name) ++ codes "(") ++ separated (codes ", ") canonical_param m.params) ((((access_tokens m.access ++ word_tokens_if m.fixed (codes "static")) ++ (result_tokens m.result ++ word m.name)) ++ sign (codes "(")) ++ parted (sign (codes ",")) param_tokens m.params)
    (shut_reads (((indent ++ modifiers_text m.access m.fixed) ++ named_text m.result m.name) ++ codes "(") (separated (codes ", ") canonical_param m.params) (((access_tokens m.access ++ word_tokens_if m.fixed (codes "static")) ++ (result_tokens m.result ++ word m.name)) ++ sign (codes "(")) (parted (sign (codes ",")) param_tokens m.params)
    (reads_shut ((indent ++ modifiers_text m.access m.fixed) ++ named_text m.result m.name) (codes "(") ((access_tokens m.access ++ word_tokens_if m.fixed (codes "static")) ++ (result_tokens m.result ++ word m.name)) (sign (codes "("))
    (shut_reads (indent ++ modifiers_text m.access m.fixed) (named_text m.result m.name) (access_tokens m.access ++ word_tokens_if m.fixed (codes "static")) (result_tokens m.result ++ word m.name)
    (shut_shut indent (modifiers_text m.access m.fixed) [] (access_tokens m.access ++ word_tokens_if m.fixed (codes "static")) indent_shut
    (shut_shut (access_text m.access) (word_if m.fixed (codes "static ")) (access_tokens m.access) (word_tokens_if m.fixed (codes "static")) (access_shut m.access) (static_shut m.fixed)))
    (shut_reads (result_text m.result ++ codes " ") m.name (result_tokens m.result) (word m.name) (reads_gap (result_text m.result) (codes " ") (result_tokens m.result) (result_read m.result h.result) refl space_shut) (word_reads m.name h.name)))
    refl (fixed (short 40 ∷ []) refl)) (params_read m.params h.params))

method_shut : (m : PlainMethod) → WrittenMethod m → Shut (canonical_method m) (method_tokens m)
method_shut m h =
    shut_gap (head_text m ++ braced indent (canonical_statements (indent ++ indent) m.body)) line_end (head_tokens m ++ braced_tokens (statements_tokens m.body))
    (shut_shut (head_text m) (braced indent (canonical_statements (indent ++ indent) m.body)) (head_tokens m) (braced_tokens (statements_tokens m.body)) (head_shut m h)
    (braced_shut indent (canonical_statements (indent ++ indent) m.body) (statements_tokens m.body) indent_shut (statements_shut m.body (indent ++ indent) (deeper_shut indent indent_shut) h.body))) line_shut

abbrev lower_text : PlainMethod → List ℕ
lower_text m = line_end ++ canonical_method m

written_method : (m : PlainMethod) (ms : List PlainMethod) → WrittenMethods (m ∷ ms) → WrittenMethod m
written_method m ms h = record { result = h.0.0; name = h.0.1; params = h.0.2; body = h.0.3 }

lower_shut : (ms : List PlainMethod) → WrittenMethods ms → Shut (flat_map lower_text ms) (flat_map method_tokens ms)
lower_shut [] h = nothing_read
lower_shut (m ∷ ms) h =
    let one : Shut (lower_text m) (method_tokens m) = shut_shut line_end (canonical_method m) [] (method_tokens m) line_shut (method_shut m (written_method m ms h)) in
    let all : Shut (lower_text m ++ flat_map lower_text ms) (method_tokens m ++ flat_map method_tokens ms) = shut_shut (lower_text m) (flat_map lower_text ms) (method_tokens m) (flat_map method_tokens ms) one (lower_shut ms h.1) in
    subst (λ (x : List ℕ). Shut x (flat_map method_tokens (m ∷ ms))) (sym (flat_map-cons lower_text m ms))
    (subst (λ (n : List TokenNode). Shut (lower_text m ++ flat_map lower_text ms) n) (sym (flat_map-cons method_tokens m ms)) all)

methods_shut : (ms : List PlainMethod) → WrittenMethods ms → Shut (separated line_end canonical_method ms) (flat_map method_tokens ms)
methods_shut [] h = nothing_read
methods_shut (m ∷ ms) h =
    subst (λ (n : List TokenNode). Shut (canonical_method m ++ flat_map lower_text ms) n) (sym (flat_map-cons method_tokens m ms))
    (shut_shut (canonical_method m) (flat_map lower_text ms) (method_tokens m) (flat_map method_tokens ms) (method_shut m (written_method m ms h)) (lower_shut ms h.1))

-- ---- dotted names

abbrev pub joined : List (List ℕ) → List ℕ
joined [] = []
joined (part ∷ []) = part
joined (part ∷ further ∷ parts) = part ++ (46 ∷ joined (further ∷ parts))

onto_joined : (b : ℕ) (part : List ℕ) (parts : List (List ℕ)) → joined ((b ∷ part) ∷ parts) ≡ b ∷ joined (part ∷ parts)
onto_joined b part [] = refl
onto_joined b part (further ∷ parts) = refl

onto_first_joined : (b : ℕ) (parts : List (List ℕ)) → joined (onto_first b parts) ≡ b ∷ joined parts
onto_first_joined b [] = refl
onto_first_joined b (part ∷ parts) = onto_joined b part parts

-- there is a part
record HasPart (parts : List (List ℕ)) : Type 0 where
  part : List ℕ
  further : List (List ℕ)
  is : parts ≡ part ∷ further

onto_part : (b : ℕ) (parts : List (List ℕ)) → HasPart (onto_first b parts)
onto_part b [] = record { part = b ∷ []; further = []; is = refl }
onto_part b (part ∷ parts) = record { part = b ∷ part; further = parts; is = refl }

parts_some : (bs : List ℕ) → HasPart (parts_of bs)
parts_some [] = record { part = []; further = []; is = refl }
parts_some (b ∷ bs) = by (b == 46)
  where
    by : (v : Bool) → HasPart (cond v ([] ∷ parts_of bs) (onto_first b (parts_of bs)))
    by true = record { part = []; further = parts_of bs; is = refl }
    by false = onto_part b (parts_of bs)

dot_joined : (parts : List (List ℕ)) → HasPart parts → joined ([] ∷ parts) ≡ 46 ∷ joined parts
dot_joined parts h = ap (λ (ps : List (List ℕ)). joined ([] ∷ ps)) h.is ∙ ap (λ (ps : List (List ℕ)). 46 ∷ joined ps) (sym h.is)

pub parts_joined : (bs : List ℕ) → joined (parts_of bs) ≡ bs
parts_joined [] = refl
parts_joined (b ∷ bs) = by (b == 46) refl (parts_joined bs)
  where
    by : (v : Bool) → (b == 46) ≡ v → joined (parts_of bs) ≡ bs → joined (cond v ([] ∷ parts_of bs) (onto_first b (parts_of bs))) ≡ b ∷ bs
    by true e k = dot_joined (parts_of bs) (parts_some bs) ∙ ap (λ (x : List ℕ). 46 ∷ x) k ∙ ap (λ (c : ℕ). c ∷ bs) (sym (eqb-true b 46 e))
    by false e k = onto_first_joined b (parts_of bs) ∙ ap (λ (x : List ℕ). b ∷ x) k

pub star_is : (part : List ℕ) → is_star part ≡ true → part ≡ codes "*"
star_is [] e = absurd cc
star_is (b ∷ []) e = ap (λ (c : ℕ). c ∷ []) (eqb-true b 42 e)
star_is (b ∷ c ∷ bs) e = absurd cc

pub word_no_star : (part : List ℕ) → is_word part ≡ true → is_star part ≡ false
word_no_star [] h = absurd cc
word_no_star (b ∷ []) h = by (b == 42) refl
  where
    by : (v : Bool) → (b == 42) ≡ v → (b == 42) ≡ false
    by true e = let no : is_name_start 42 ≡ true = subst (λ (c : ℕ). is_name_start c ≡ true) (eqb-true b 42 e) (both_true (is_name_start b) true h).0 in absurd cc
    by false e = e
word_no_star (b ∷ c ∷ bs) h = refl

word_part : (part : List ℕ) → is_word part ≡ true → Reads part (part_tokens part)
word_part part h = subst (λ (v : Bool). Reads part (cond v (sign part) (word part))) (sym (word_no_star part h)) (word_reads part h)

last_part : (part : List ℕ) → is_star part || is_word part ≡ true → Reads part (part_tokens part)
last_part part h = by (is_star part) refl h
  where
    by : (v : Bool) → is_star part ≡ v → v || is_word part ≡ true → Reads part (cond v (sign part) (word part))
    by true e k = subst (λ (x : List ℕ). Reads x (sign x)) (sym (star_is part e)) (as_reads (codes "*") (sign (codes "*")) (fixed (short 42 ∷ []) refl))
    by false e k = word_reads part k

parts_read : (parts : List (List ℕ)) → AreWordsOrStar parts → Reads (joined parts) (parts_tokens parts)
parts_read [] h = as_reads [] [] nothing_read
parts_read (part ∷ []) h = last_part part h
parts_read (part ∷ further ∷ parts) h =
    reads_reads part (46 ∷ joined (further ∷ parts)) (part_tokens part) (sign (codes ".") ++ parts_tokens (further ∷ parts)) (word_part part h.0) refl
    (shut_reads (codes ".") (joined (further ∷ parts)) (sign (codes ".")) (parts_tokens (further ∷ parts)) (fixed (short 46 ∷ []) refl) (parts_read (further ∷ parts) h.1))

or_star : (part : List ℕ) → is_word part ≡ true → is_star part || is_word part ≡ true
or_star part h = rw (word_no_star part h, h) refl

words_or_star : (parts : List (List ℕ)) → AreWords parts → AreWordsOrStar parts
words_or_star [] h = tt
words_or_star (part ∷ []) h = or_star part h.0
words_or_star (part ∷ further ∷ parts) h = (h.0, words_or_star (further ∷ parts) h.1)

dotted_read : (bs : List ℕ) → AreWordsOrStar (parts_of bs) → Reads bs (dotted_tokens bs)
dotted_read bs h = subst (λ (x : List ℕ). Reads x (dotted_tokens bs)) (parts_joined bs) (parts_read (parts_of bs) h)

-- ---- the program

-- word dotted ;
dotted_line : (head bs : List ℕ) (m : List TokenNode) → Shut head m → AreWordsOrStar (parts_of bs) → Shut (((head ++ bs) ++ codes ";") ++ line_end) ((m ++ dotted_tokens bs) ++ sign (codes ";"))
dotted_line head bs m h k =
    shut_gap ((head ++ bs) ++ codes ";") line_end ((m ++ dotted_tokens bs) ++ sign (codes ";"))
    (reads_shut (head ++ bs) (codes ";") (m ++ dotted_tokens bs) (sign (codes ";")) (shut_reads head bs m (dotted_tokens bs) h (dotted_read bs k)) refl (fixed (short 59 ∷ []) refl)) line_shut

package_shut : (dotted : Option (List ℕ)) → WrittenPackage dotted → Shut (package_text dotted) (package_tokens dotted)
package_shut None h = nothing_read
package_shut (Some bs) h =
    shut_gap (((codes "package " ++ bs) ++ codes ";") ++ line_end) line_end ((word (codes "package") ++ dotted_tokens bs) ++ sign (codes ";"))
    (dotted_line (codes "package ") bs (word (codes "package")) (fixed (name (codes "package") ∷ white 32 ∷ []) refl) (words_or_star (parts_of bs) h)) line_shut

import_shut : (bs : List ℕ) → AreWordsOrStar (parts_of bs) → Shut (import_text bs) (import_tokens bs)
import_shut bs h = dotted_line (codes "import ") bs (word (codes "import")) (fixed (name (codes "import") ∷ white 32 ∷ []) refl) h

imported_shut : (names : List (List ℕ)) → WrittenImports names → Shut (flat_map import_text names) (flat_map import_tokens names)
imported_shut [] h = nothing_read
imported_shut (bs ∷ names) h =
    let all : Shut (import_text bs ++ flat_map import_text names) (import_tokens bs ++ flat_map import_tokens names) = shut_shut (import_text bs) (flat_map import_text names) (import_tokens bs) (flat_map import_tokens names) (import_shut bs h.0) (imported_shut names h.1) in
    subst (λ (x : List ℕ). Shut x (flat_map import_tokens (bs ∷ names))) (sym (flat_map-cons import_text bs names))
    (subst (λ (n : List TokenNode). Shut (import_text bs ++ flat_map import_text names) n) (sym (flat_map-cons import_tokens bs names)) all)

imports_shut : (names : List (List ℕ)) → WrittenImports names → Shut (imports_text names) (flat_map import_tokens names)
imports_shut [] h = nothing_read
imports_shut (bs ∷ names) h = shut_gap (flat_map import_text (bs ∷ names)) line_end (flat_map import_tokens (bs ∷ names)) (imported_shut (bs ∷ names) h) line_shut

class_shut : (is_public : Bool) (w : List ℕ) → IsWord w → Shut (class_text is_public w) (class_tokens is_public w)
class_shut is_public w h =
    shut_gap (((word_if is_public (codes "public ") ++ codes "class ") ++ w) ++ codes " {") line_end (((word_tokens_if is_public (codes "public") ++ word (codes "class")) ++ word w) ++ sign (codes "{"))
    (reads_shut ((word_if is_public (codes "public ") ++ codes "class ") ++ w) (codes " {") ((word_tokens_if is_public (codes "public") ++ word (codes "class")) ++ word w) (sign (codes "{"))
    (shut_reads (word_if is_public (codes "public ") ++ codes "class ") w (word_tokens_if is_public (codes "public") ++ word (codes "class")) (word w)
    (shut_shut (word_if is_public (codes "public ")) (codes "class ") (word_tokens_if is_public (codes "public")) (word (codes "class")) (public_shut is_public) (fixed (name (codes "class") ∷ white 32 ∷ []) refl)) (word_reads w h))
    refl (fixed (white 32 ∷ short 123 ∷ []) refl)) line_shut

program_shut : (p : PlainProgram) → IsWritten p → Shut (canonical p) (tokens_of p)
program_shut p h =
    shut_shut (((package_text p.«package» ++ imports_text p.imports) ++ class_text p.public p.name) ++ separated line_end canonical_method p.methods) (codes "}" ++ line_end) (((package_tokens p.«package» ++ flat_map import_tokens p.imports) ++ class_tokens p.public p.name) ++ flat_map method_tokens p.methods) (sign (codes "}"))
    (shut_shut ((package_text p.«package» ++ imports_text p.imports) ++ class_text p.public p.name) (separated line_end canonical_method p.methods) ((package_tokens p.«package» ++ flat_map import_tokens p.imports) ++ class_tokens p.public p.name) (flat_map method_tokens p.methods)
    (shut_shut (package_text p.«package» ++ imports_text p.imports) (class_text p.public p.name) (package_tokens p.«package» ++ flat_map import_tokens p.imports) (class_tokens p.public p.name)
    (shut_shut (package_text p.«package») (imports_text p.imports) (package_tokens p.«package») (flat_map import_tokens p.imports) (package_shut p.«package» h.«package») (imports_shut p.imports h.imports)) (class_shut p.public p.name h.name)) (methods_shut p.methods h.methods))
    (fixed (short 125 ∷ white 10 ∷ []) refl)

nothing_left : (q : Place) (ts : List Token) → with_tokens ts (tokens_from q 0 []) ≡ Ok ts
unfolding tokens_from
nothing_left q ts = ap (λ (us : List Token). Ok us) (append-nil ts)

-- a text that is read as whole tokens has them
pub has_nodes : (text : List ℕ) (nodes : List TokenNode) → Shut text nodes → HasNodes text nodes
has_nodes text nodes h =
    let l : Leads first_place text [] nodes = leads first_place text [] nodes (h.by []) in
    let read : tokens_from first_place 0 text ≡ Ok l.tokens = ap (tokens_from first_place 0) (sym (append-nil text)) ∙ l.read ∙ nothing_left (place_after first_place text) l.tokens in
    subst (λ (n : List TokenNode). HasNodes text n) l.same (as_a_text first_place text l.tokens read)

pub program_has_tokens : (p : PlainProgram) → IsWritten p → HasNodes (canonical p) (tokens_of p)
program_has_tokens p h = has_nodes (canonical p) (tokens_of p) (program_shut p h)
