-- Where the limits hold at no token, what has the tokens does not depend on how many things may be open.
use Rattle.std.proofs.Common.{ℕ, pred, Bool, true, List, ◌∷◌, ◌++◌, Option, Some, None, codes}
use Rattle.std.specs.Prelude.{not}
use Rattle.std.specs.Str.{bytes_eq}
use Rattle.qbs_base.specs.declared.span.Span.{Span}
use Rattle.java_lex.specs.declared.token.Token.{Token}
use Rattle.java_ast.specs.declared.tree.Op.{Op}
use Rattle.java_ast.specs.declared.tree.Op.TheVariants as ops
use Rattle.java_ast.specs.Tree.{Expression, Var, Binary, Expressions, Statement, Declare, Assign, Add, Sort, Print, Return, Statements, PlainProgram}
use Rattle.java_grammar.specs.Marks.{Tok, all_free}
use Rattle.java_grammar.specs.Rules.{Rule, One, Word, Sign, Opening, Made, Many}
use Rattle.java_grammar.specs.Words.{name_in, is_number_type, by_word}
use Rattle.java_grammar.specs.Types.{Spelling, PlainKey, TypedKey, Key}
use Rattle.java_limits.specs.Limits.{longest}
use Rattle.java_grammar.specs.Expressions.{Call, Creation, Elements, QueryStart, Operator, created, query_of, left_behind, HasAtom, literal, grouped, creation, HasSource, no_source, source, HasCall, equal_to, size_of, get_from, contained_in, fetch_from, query_of_element, query_of_long, query_of_truth, HasArguments, no_more, one_more, HasSuffix, field, called, HasParts, atom, dotted, further, HasUnary, variable, parts, negation, HasChain, operand, joined, HasRank, unary, chain, HasExpression}
use Rattle.java_grammar.specs.Statements.{Parenthesised, Condition, Value, Where, Assignment, Increase, Increment, Addition, Printing, Further, keys_in, downs_in, Keys, Sorting, MemberCall, NamedRest, Named, Returning, Breaking, Plain, Declaration, IfHead, WhileHead, Walk, ForHead, Opens, HasStatement, plain, if_alone, if_else, for_each, while, HasBody, block, single, HasBlock, braces, HasStatements, none, declared, stated}
use Rattle.java_grammar.specs.Grammar.{Reached, Whether, Result, Parameters, Method, Dotted, Package, Class, ProgramIn}
use Rattle.java_grammar.proofs.FreeRules.{AreFree, free_along, free_token, free_first, free_left, free_right, all_are_free, free_allows, Frees, frees_same, frees_opening, frees_then, frees_seq, frees_or, frees_made, frees_placed, frees_many}

-- ---- expressions

opens : (room room' : ℕ) (text : List ℕ) (us : List Tok) → AreFree us → Opening room text us tt → Opening room' text us tt
opens room room' text us f h = (frees_opening room room' text).by us tt f h

creations : (room room' : ℕ) → Frees (Creation room) (Creation room')
creations room room' =
    frees_made (frees_seq (frees_same (Word (codes "new"))) (frees_seq (frees_same (One (by_word created))) (frees_seq (frees_same (Sign (codes "<"))) (frees_seq (frees_same Elements) (frees_seq (frees_same (Sign (codes ">"))) (frees_opening room room' (codes "("))))))) (λ x. x.1.0)

starts : (room room' : ℕ) → Frees (QueryStart room) (QueryStart room')
starts room room' = frees_made (frees_seq (frees_same (Word (codes "db"))) (frees_seq (frees_same (Sign (codes "."))) (frees_seq (frees_same (One (by_word query_of))) (frees_opening room room' (codes "("))))) (λ x. x.1.1.0)

-- an operator, where a chain may go on with any number
free_operator : (left left' rank : ℕ) (us : List Tok) (o : Op) → AreFree us → Operator left rank us o → Operator left' rank us o
free_operator left left' rank us o f h = (h.0, h.1, h.2, free_allows left' h.0 (free_token us h.0 h.1 f))

mutual
  free_atom : {room : ℕ} {us : List Tok} {x : Expression} (room' : ℕ) → HasAtom room us x → AreFree us → HasAtom room' us x
  free_atom room' (literal h) f = literal h
  free_atom room' (grouped {room} {us} {vs} {ws} o h s) f =
      let g = free_right us (vs ++ ws) f in
      grouped (opens room room' (codes "(") us (free_left us (vs ++ ws) f) o) (free_rank (pred room') h (free_left vs ws g)) s
  free_atom room' (creation {room} {set} {us} {vs} {ws} c q s) f =
      let g = free_right us (vs ++ ws) f in
      creation ((creations room room').by us set (free_left us (vs ++ ws) f) c) (free_source (pred room') q (free_left vs ws g)) s

  free_source : {room : ℕ} {set : Bool} {us : List Tok} {x : Option Expression} (room' : ℕ) → HasSource room set us x → AreFree us → HasSource room' set us x
  free_source room' no_source f = no_source
  free_source room' (source {room} {us} {vs} {ws} {c} q h s) f =
      let g = free_right us (vs ++ ws) f in
      source ((starts room room').by us c (free_left us (vs ++ ws) f) q) (free_call (pred room') h (free_left vs ws g)) s

  free_call : {room : ℕ} {w : List ℕ} {x : Expression} {c : Call} {us : List Tok} {node : Span → Expression} (room' : ℕ) → HasCall room w x c us node → AreFree us → HasCall room' w x c us node
  free_call room' (equal_to h) f = equal_to (free_rank room' h f)
  free_call room' size_of f = size_of
  free_call room' (get_from h) f = get_from (free_rank room' h f)
  free_call room' (contained_in h) f = contained_in (free_rank room' h f)
  free_call room' (fetch_from h) f = fetch_from h
  free_call room' (query_of_element {us} {vs} q h) f = query_of_element q (free_arguments room' h (free_right us vs f))
  free_call room' (query_of_long {us} {vs} q h) f = query_of_long q (free_arguments room' h (free_right us vs f))
  free_call room' (query_of_truth {us} {vs} q h) f = query_of_truth q (free_arguments room' h (free_right us vs f))

  free_arguments : {room : ℕ} {us : List Tok} {xs : Expressions} (room' : ℕ) → HasArguments room us xs → AreFree us → HasArguments room' us xs
  free_arguments room' no_more f = no_more
  free_arguments room' (one_more {us} {vs} {ws} s h k) f =
      let g = free_right us (vs ++ ws) f in
      one_more s (free_rank room' h (free_left vs ws g)) (free_arguments room' k (free_right vs ws g))

  free_suffix : {room left after : ℕ} {bare : Option (List ℕ)} {x : Expression} {m : List ℕ} {us : List Tok} {node : Span → Expression} (room' left' : ℕ) → HasSuffix room bare x m left us node after → AreFree us → (n : ℕ) × HasSuffix room' bare x m left' us node n
  free_suffix room' left' field f = (pred left', field)
  free_suffix room' left' (called {room} {c} {us} {vs} {ws} is o h s) f =
      let g = free_right us (vs ++ ws) f in
      (left_behind c left', called is (opens room room' (codes "(") us (free_left us (vs ++ ws) f) o) (free_call (pred room') h (free_left vs ws g)) s)

  free_parts : {room left : ℕ} {us : List Tok} {x : Expression} (room' : ℕ) → HasParts room left us x → AreFree us → (n : ℕ) × HasParts room' n us x
  free_parts room' (atom h) f = (longest room', atom (free_atom room' h f))
  free_parts room' (dotted {us} {vs} {ws} {zs} v d k s) f =
      let t = free_suffix room' (longest room') s (free_right ws zs (free_right vs (ws ++ zs) (free_right us (vs ++ (ws ++ zs)) f))) in
      (t.0, dotted v d k t.1)
  free_parts room' (further {left} {us} {vs} {ws} {zs} h o k s) f =
      let b = free_right us (vs ++ (ws ++ zs)) f in
      let first = free_parts room' h (free_left us (vs ++ (ws ++ zs)) f) in
      let t = free_suffix room' first.0 s (free_right ws zs (free_right vs (ws ++ zs) b)) in
      (t.0, further first.1 (opens left first.0 (codes ".") vs (free_left vs (ws ++ zs) b) o) k t.1)

  free_unary : {room : ℕ} {us : List Tok} {x : Expression} (room' : ℕ) → HasUnary room us x → AreFree us → HasUnary room' us x
  free_unary room' (variable h) f = variable h
  free_unary room' (parts h) f = parts (free_parts room' h f).1
  free_unary room' (negation {room} {us} {vs} o h) f = negation (opens room room' (codes "!") us (free_left us vs f) o) (free_unary (pred room') h (free_right us vs f))

  free_chain : {room rank left : ℕ} {us : List Tok} {x : Expression} (room' : ℕ) → HasChain room rank left us x → AreFree us → (n : ℕ) × HasChain room' rank n us x
  free_chain room' (operand h) f = (longest room', operand (free_rank room' h f))
  free_chain room' (joined {rank} {left} {us} {vs} {ws} {o} h op k) f =
      let b = free_right us (vs ++ ws) f in
      let first = free_chain room' h (free_left us (vs ++ ws) f) in
      let op' : Operator first.0 rank vs o = free_operator left first.0 rank vs o (free_left vs ws b) op in
      (pred first.0, joined first.1 op' (free_rank room' k (free_right vs ws b)))

  free_rank : {room rank : ℕ} {us : List Tok} {x : Expression} (room' : ℕ) → HasRank room rank us x → AreFree us → HasRank room' rank us x
  free_rank room' (unary h) f = unary (free_unary room' h f)
  free_rank room' (chain h) f = chain (free_chain room' h f).1

expressions : (room room' : ℕ) → Frees (HasExpression room) (HasExpression room')
expressions room room' = record { by = λ us x f h. free_rank room' h f }

-- ---- statements without bodies

parenthesised : {A : Type 0} {P P' : Rule A} (room room' : ℕ) → Frees P P' → Frees (Parenthesised room P) (Parenthesised room' P')
parenthesised room room' p = frees_made (frees_seq (frees_opening room room' (codes "(")) (frees_seq p (frees_same (Sign (codes ")"))))) (λ x. x.1.0)

conditions : (room room' : ℕ) → Frees (Condition room) (Condition room')
conditions room room' = parenthesised room room' (expressions (pred room) (pred room'))

values : (room room' : ℕ) → Frees (Value room) (Value room')
values room room' = frees_made (frees_seq (expressions room room') (frees_same (Sign (codes ";")))) (λ x. x.0)

frees_where : {A : Type 0} {P P' : Rule A} (b : Bool) → Frees P P' → Frees (Where b P) (Where b P')
frees_where b p = record { by = λ us x f h. (h.0, p.by us x f h.1) }

keys : (room room' : ℕ) → Frees (Key room) (Key room')
keys room room' = frees_or typed (frees_same PlainKey)
  where
    typed : Frees (TypedKey room) (TypedKey room')
    typed = record { by = λ us x f h. let p = h.1 in (h.0, (p.0, p.1, p.2, opens room room' (codes "(") p.0 (free_left p.0 p.1 (free_along us (p.0 ++ p.1) p.2 f)) p.3, p.4), h.2) }

furthers : (room room' : ℕ) → Frees (Further room) (Further room')
furthers room room' =
    frees_made (frees_seq (frees_same (Sign (codes ".")))
    (frees_or (frees_made (frees_seq (frees_same (Word (codes "thenComparing"))) (parenthesised room room' (keys (pred room) (pred room')))) (λ x. Some x.1))
    (frees_made (frees_seq (frees_same (Word (codes "reversed"))) (frees_seq (frees_opening room room' (codes "(")) (frees_same (Sign (codes ")"))))) (λ x. None)))) (λ x. x.1)

all_keys : (room room' : ℕ) → Frees (Keys room) (Keys room')
all_keys room room' =
    frees_made (frees_seq (frees_same (Word (codes "Comparator"))) (frees_seq (frees_same (Sign (codes "."))) (frees_seq (frees_same (Word (codes "comparing"))) (frees_seq (parenthesised room room' (keys (pred room) (pred room'))) (frees_many (furthers room room')))))) (λ x. Some x.1.1.1.0 ∷ x.1.1.1.1)

sortings : (room room' : ℕ) (w : List ℕ) → Frees (Sorting room w) (Sorting room' w)
sortings room room' w = frees_made (frees_seq (frees_same (Word (codes "sort"))) (frees_seq (parenthesised room room' (all_keys (pred room) (pred room'))) (frees_same (Sign (codes ";"))))) (λ x at. Sort at w (keys_in x.1.0) (downs_in x.1.0))

additions : (room room' : ℕ) (w : List ℕ) → Frees (Addition room w) (Addition room' w)
additions room room' w = frees_made (frees_seq (frees_same (Word (codes "add"))) (frees_seq (conditions room room') (frees_same (Sign (codes ";"))))) (λ x at. Add at w x.1.0)

printings : (room room' : ℕ) → Frees (Printing room) (Printing room')
printings room room' =
    frees_made (frees_seq (frees_same (Word (codes "out"))) (frees_seq (frees_same (Sign (codes "."))) (frees_seq (frees_same (Word (codes "println"))) (frees_seq (conditions room room') (frees_same (Sign (codes ";"))))))) (λ x at. Print at x.1.1.1.0)

members : (room room' : ℕ) (w : List ℕ) → Frees (MemberCall room w) (MemberCall room' w)
members room room' w = frees_or (additions room room' w) (frees_or (sortings room room' w) (frees_where (bytes_eq w (codes "System")) (printings room room')))

assignments : (room room' : ℕ) (w : List ℕ) → Frees (Assignment room w) (Assignment room' w)
assignments room room' w = frees_made (frees_seq (frees_same (Sign (codes "="))) (values room room')) (λ x at. Assign at w x.1)

increases : (room room' : ℕ) (w : List ℕ) → Frees (Increase room w) (Increase room' w)
increases room room' w = frees_made (frees_seq (frees_same (Sign (codes "+="))) (values room room')) (λ x at. Assign at w (Binary at ops.Add (Var at w) x.1))

named_rests : (room room' : ℕ) (w : List ℕ) → Frees (NamedRest room w) (NamedRest room' w)
named_rests room room' w =
    frees_or (assignments room room' w) (frees_or (frees_made (frees_seq (frees_same (Sign (codes "."))) (members room room' w)) (λ x. x.1))
    (frees_where (not (is_number_type w)) (frees_or (increases room room' w) (frees_same (Increment w)))))

named : (room room' : ℕ) → Frees (Named room) (Named room')
named room room' = frees_placed (frees_then (frees_same (One name_in)) (named_rests room room')) (λ at x. x.1 at)

returns : (room room' : ℕ) → Frees (Returning room) (Returning room')
returns room room' =
    frees_placed (frees_seq (frees_same (Word (codes "return"))) (frees_or (frees_same (Made (λ x. None) (Sign (codes ";")))) (frees_made (values room room') (λ x. Some x)))) (λ at x. Return at x.1)

plains : (room room' : ℕ) → Frees (Plain room) (Plain room')
plains room room' = frees_or (returns room room') (frees_or (frees_same Breaking) (named room room'))

declarations : (room room' : ℕ) → Frees (Declaration room) (Declaration room')
declarations room room' =
    frees_placed (frees_seq (frees_same Spelling) (frees_seq (frees_same (One name_in)) (frees_seq (frees_same (Sign (codes "="))) (values room room')))) (λ at x. Declare at x.0 x.1.0 x.1.1.1)

-- ---- statements with bodies

if_heads : (room room' : ℕ) → Frees (IfHead room) (IfHead room')
if_heads room room' = frees_made (frees_seq (frees_same (Word (codes "if"))) (conditions room room')) (λ x. x.1)

while_heads : (room room' : ℕ) → Frees (WhileHead room) (WhileHead room')
while_heads room room' = frees_made (frees_seq (frees_same (Word (codes "while"))) (conditions room room')) (λ x. x.1)

walks : (room room' : ℕ) → Frees (Walk room) (Walk room')
walks room room' = frees_made (frees_seq (frees_same Spelling) (frees_seq (frees_same (One name_in)) (frees_seq (frees_same (Sign (codes ":"))) (expressions room room')))) (λ x. (x.0, (x.1.0, x.1.1.1)))

for_heads : (room room' : ℕ) → Frees (ForHead room) (ForHead room')
for_heads room room' = frees_made (frees_seq (frees_same (Word (codes "for"))) (parenthesised room room' (walks (pred room) (pred room')))) (λ x. x.1)

body_opens : (room room' : ℕ) (us : List Tok) → AreFree us → Opens room us → Opens room' us
body_opens room room' us f h = (h.0, h.1, h.2, free_allows room' h.0 (free_first us h.0 h.1 h.2 f))

mutual
  free_statement : {room : ℕ} {open_if : Bool} {us : List Tok} {x : Statement} (room' : ℕ) → HasStatement room open_if us x → AreFree us → HasStatement room' open_if us x
  free_statement room' (plain {room} {us} {x} h) f = plain ((plains room room').by us x f h)
  free_statement room' (if_alone {room} {us} {vs} {cond} h b) f = if_alone ((if_heads room room').by us cond (free_left us vs f) h) (free_body room' b (free_right us vs f))
  free_statement room' (if_else {room} {us} {vs} {ws} {zs} {cond} h b e c) f =
      let g = free_right us (vs ++ (ws ++ zs)) f in
      if_else ((if_heads room room').by us cond (free_left us (vs ++ (ws ++ zs)) f) h) (free_body room' b (free_left vs (ws ++ zs) g)) e (free_body room' c (free_right ws zs (free_right vs (ws ++ zs) g)))
  free_statement room' (for_each {room} {us} {vs} {walk} h b) f = for_each ((for_heads room room').by us walk (free_left us vs f) h) (free_body room' b (free_right us vs f))
  free_statement room' (while {room} {us} {vs} {cond} h b) f = while ((while_heads room room').by us cond (free_left us vs f) h) (free_body room' b (free_right us vs f))

  free_body : {room : ℕ} {open_if : Bool} {us : List Tok} {xs : Statements} (room' : ℕ) → HasBody room open_if us xs → AreFree us → HasBody room' open_if us xs
  free_body room' (block h) f = block (free_block room' h f)
  free_body room' (single {room} {us} o h) f = single (body_opens room room' us f o) (free_statement (pred room') h f)

  free_block : {room : ℕ} {us : List Tok} {xs : Statements} (room' : ℕ) → HasBlock room us xs → AreFree us → HasBlock room' us xs
  free_block room' (braces {room} {us} {vs} {ws} o h s) f =
      let g = free_right us (vs ++ ws) f in
      braces (opens room room' (codes "{") us (free_left us (vs ++ ws) f) o) (free_statements (pred room') h (free_left vs ws g)) s

  free_statements : {room : ℕ} {us : List Tok} {xs : Statements} (room' : ℕ) → HasStatements room us xs → AreFree us → HasStatements room' us xs
  free_statements room' none f = none
  free_statements room' (declared {room} {us} {vs} {x} h k) f = declared ((declarations room room').by us x (free_left us vs f) h) (free_statements room' k (free_right us vs f))
  free_statements room' (stated {us} {vs} h k) f = stated (free_statement room' h (free_left us vs f)) (free_statements room' k (free_right us vs f))

-- ---- programs

blocks : (room room' : ℕ) → Frees (HasBlock room) (HasBlock room')
blocks room room' = record { by = λ us x f h. free_block room' h f }

methods : (room room' : ℕ) → Frees (Method room) (Method room')
methods room room' =
    frees_placed (frees_seq (frees_same Reached) (frees_seq (frees_same (Whether (codes "static"))) (frees_seq (frees_same Result) (frees_seq (frees_same (One name_in)) (frees_seq (parenthesised room room' (frees_same Parameters)) (blocks room room')))))) (λ at x. record { access = x.0; fixed = x.1.0; result = x.1.1.0; name = x.1.1.1.0; params = x.1.1.1.1.0; body = x.1.1.1.1.1; span = at })

classes : (room room' : ℕ) → Frees (Class room) (Class room')
classes room room' =
    frees_made (frees_seq (frees_same (Word (codes "class"))) (frees_seq (frees_same (One name_in)) (frees_seq (frees_opening room room' (codes "{")) (frees_seq (frees_many (methods (pred room) (pred room'))) (frees_same (Sign (codes "}"))))))) (λ x. (x.1.0, x.1.1.1.0))

pub programs : (room room' : ℕ) → Frees (ProgramIn room) (ProgramIn room')
programs room room' =
    frees_made (frees_seq (frees_same Package) (frees_seq (frees_same (Many (Dotted (codes "import") true))) (frees_seq (frees_same (Whether (codes "public"))) (classes room room')))) (λ x. record { «package» = x.0; imports = x.1.0; public = x.1.1.0; name = x.1.1.1.0; methods = x.1.1.1.1 })

-- tokens have the same programs, depth left aside, however many things may be open
pub free_program : (room room' : ℕ) (ts : List Token) (p : PlainProgram) → ProgramIn room (all_free ts) p → ProgramIn room' (all_free ts) p
free_program room room' ts p h = (programs room room').by (all_free ts) p (all_are_free ts) h
