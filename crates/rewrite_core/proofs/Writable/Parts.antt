-- The run and the loop of a fragment, and the types that its program spells, are of the grammar and can be written where the
-- program is and can.
use Rattle.std.proofs.Common.{◌≡◌, ℕ, zero, suc, Bool, true, false, cond, ◌==◌, List, [], ◌∷◌, slice_get, bytes_eq, Option, Some, None}
use Rattle.java_ast.specs.Path.{found_in, numbered, branch_of, first_of, behind_of}
use Rattle.java_ast.specs.Tree.{Spelled, ListOf, SetOf, Statement, Declare, Assign, Add, Sort, If, IfElse, ForEach, While, Print, Return, Break, Statements, Nothing, Then, PlainParam, PlainMethod, PlainProgram}
use Rattle.java_ast.specs.Tree as tree
use Rattle.java_grammar.specs.InGrammar.{IsElement, IsType, IsScalarType, InParams, InMethod, InMethods, IsInGrammar}
use Rattle.java_grammar.specs.Written.{WrittenType, WrittenParams, WrittenMethods, IsWritten}
use Rattle.loop_text.specs.Sites.Sites.{has_number}
use Rattle.loop_text.specs.Statements.Fragment.{are_simple, run_of, Fragment, fragment_of, fragment_where, fragment_here, fragment_in, fragment_at}
use Rattle.loop_text.specs.Statements.KeptStatements.{with_numbers}
use Rattle.loop_text.specs.Statements.Loops.{is_loop}
use Rattle.java_ast.specs.Names.{Names, with_names, declared_among, walking, names_of_params}
use Rattle.java_loops.specs.Lowering.Spelling.{spelled_after, spelled_past, spelled_inside, spelled_in, spelled_of_param, spelled_in_method, spelled_at, element_spelled}
use Rattle.rewrite_core.specs.Asked.{spelled_or_text}
use Rattle.rewrite_core.proofs.Writable.Given.{Holds, found_holds, found_all}
use Rattle.rewrite_core.proofs.Writable.Replaced.{IsFineStatement, AreFineStatements, IsFineType, IsFineProgram, fine_then, fine_first, fine_rest, fine_front, fine_behind}

-- ---- Statements by their numbers

numbered_fine : (n : ℕ) (p : Statements) → AreFineStatements p → Holds IsFineStatement (numbered n p)
numbered_fine n Nothing h = tt
numbered_fine zero (Then s p) h = fine_first s p h
numbered_fine (suc n) (Then s p) h = numbered_fine n p (fine_rest s p h)

first_branch_fine : (b : Bool) (p : Statements) → AreFineStatements p → Holds AreFineStatements (cond b (Some p) None)
first_branch_fine true p h = h
first_branch_fine false p h = tt

either_branch_fine : (b c : Bool) (p q : Statements) → AreFineStatements p → AreFineStatements q → Holds AreFineStatements (cond b (Some p) (cond c (Some q) None))
either_branch_fine true c p q h k = h
either_branch_fine false c p q h k = first_branch_fine c q k

branch_fine : (b : ℕ) (s : Statement) → IsFineStatement s → Holds AreFineStatements (branch_of b s)
branch_fine b (If at e first) h = first_branch_fine (b == 0) first (h.0.1, h.1.1)
branch_fine b (IfElse at e first other) h = either_branch_fine (b == 0) (b == 1) first other (h.0.1, h.1.1) (h.0.2, h.1.2)
branch_fine b (ForEach at ty name list body) h = first_branch_fine (b == 0) body (h.0.3, h.1.3)
branch_fine b (While at e body) h = first_branch_fine (b == 0) body (h.0.1, h.1.1)
branch_fine b (Declare at ty name value) h = tt
branch_fine b (Assign at name value) h = tt
branch_fine b (Add at name value) h = tt
branch_fine b (Sort at name keys downs) h = tt
branch_fine b (Print at value) h = tt
branch_fine b (Return at value) h = tt
branch_fine b (Break at) h = tt

-- a method of a program
record IsFineMethod (m : PlainMethod) : Type 0 where
  params : InParams m.params
  params_written : WrittenParams m.params
  body : AreFineStatements m.body

method_fine : (n : ℕ) (ms : List PlainMethod) → InMethods ms → WrittenMethods ms → Holds IsFineMethod (slice_get ms n)
method_fine n [] g w = tt
method_fine zero (m ∷ ms) g w = let own : InMethod m = g.0 in record { params = own.params; params_written = w.0.2; body = (own.body, w.0.3) }
method_fine (suc n) (m ∷ ms) g w = method_fine n ms g.1 w.1

program_method : (n : ℕ) (p : PlainProgram) → IsFineProgram p → Holds IsFineMethod (slice_get p.methods n)
program_method n p h = let g : IsInGrammar p = h.0 in let w : IsWritten p = h.1 in method_fine n p.methods g.methods w.methods

-- ---- Fragments

-- the run and the loop
pub record IsFineFragment (f : Fragment) : Type 0 where
  pub run : AreFineStatements f.run
  pub loop : IsFineStatement f.loop

run_where : (b : Bool) (s : Statement) (p rest : Statements) → AreFineStatements (Then s p) → AreFineStatements rest → AreFineStatements (cond b (Then s p) rest)
run_where true s p rest h k = h
run_where false s p rest h k = k

run_fine : (p : Statements) → AreFineStatements p → AreFineStatements (run_of p)
run_fine Nothing h = h
run_fine (Then s p) h = run_where (are_simple (Then s p)) s p (run_of p) h (run_fine p (fine_rest s p h))

fragment_where_fine : (b : Bool) (f : Fragment) → IsFineFragment f → Holds IsFineFragment (fragment_where b f)
fragment_where_fine true f h = h
fragment_where_fine false f h = tt

fragment_here_fine : (names : Names) (before rest : Statements) → AreFineStatements before → AreFineStatements rest → Holds IsFineFragment (fragment_here names before rest)
fragment_here_fine names before Nothing h k = tt
fragment_here_fine names before (Then s ss) h k = fragment_where_fine (is_loop s) (fragment_of names before s ss) (record { run = run_fine before h; loop = fine_first s ss k })

fragment_in_fine : (names : Names) (path : List ℕ) (n : ℕ) (p : Statements) → AreFineStatements p → Holds IsFineFragment (fragment_in names path n p)
fragment_in_fine names [] n p h = fragment_here_fine names (first_of n p) (behind_of n p) (fine_front n p h) (fine_behind n p h)
fragment_in_fine names (b ∷ []) n p h = tt
fragment_in_fine names (b ∷ m ∷ path) n p h =
    found_all IsFineStatement IsFineFragment
    (λ (s : Statement). found_in (fragment_in (with_names (with_names names (declared_among (first_of n p))) (walking s)) path m) (branch_of b s)) (numbered n p) (numbered_fine n p h)
    (λ s i.
    found_all AreFineStatements IsFineFragment (fragment_in (with_names (with_names names (declared_among (first_of n p))) (walking s)) path m) (branch_of b s) (branch_fine b s i)
    (λ q j. fragment_in_fine (with_names (with_names names (declared_among (first_of n p))) (walking s)) path m q j))

fragment_at_fine : (path : List ℕ) (p : PlainProgram) → IsFineProgram p → Holds IsFineFragment (fragment_at path p)
fragment_at_fine [] p h = tt
fragment_at_fine (m ∷ []) p h = tt
fragment_at_fine (m ∷ n ∷ path) p h =
    found_all IsFineMethod IsFineFragment (λ (k : PlainMethod). fragment_in (names_of_params k.params) path n k.body) (slice_get p.methods m) (program_method m p h)
    (λ k i. fragment_in_fine (names_of_params k.params) path n k.body i.body)

-- The run and the loop to which a path leads are of the grammar and can be written.
pub fine_fragment : (path : List ℕ) (p : PlainProgram) (f : Fragment) → IsFineProgram p → fragment_at path p ≡ Some f → IsFineFragment f
fine_fragment path p f h e = found_holds IsFineFragment (fragment_at path p) f e (fragment_at_fine path p h)

-- ---- Kept statements

kept_where : (b : Bool) (s : Statement) (p : Statements) → IsFineStatement s → AreFineStatements p → AreFineStatements (cond b (Then s p) p)
kept_where true s p h k = fine_then s p h k
kept_where false s p h k = k

pub fine_kept : (numbers : List ℕ) (n : ℕ) (p : Statements) → AreFineStatements p → AreFineStatements (with_numbers numbers n p)
fine_kept numbers n Nothing h = h
fine_kept numbers n (Then s p) h = kept_where (has_number numbers n) s (with_numbers numbers (suc n) p) (fine_first s p h) (fine_kept numbers (suc n) p (fine_rest s p h))

-- ---- Types

spelled_where : (b : Bool) (ty : Spelled) (o : Option Spelled) → IsFineType ty → Holds IsFineType o → Holds IsFineType (cond b (Some ty) o)
spelled_where true ty o h k = h
spelled_where false ty o h k = k

spelled_after_fine : (x : List ℕ) (o : Option Spelled) (s : Statement) → IsFineStatement s → Holds IsFineType o → Holds IsFineType (spelled_after x o s)
spelled_after_fine x o (Declare at ty y e) h k = spelled_where (bytes_eq y x) ty o (h.0.0, h.1.0) k
spelled_after_fine x o (Assign at y e) h k = k
spelled_after_fine x o (Add at y e) h k = k
spelled_after_fine x o (Sort at y keys downs) h k = k
spelled_after_fine x o (If at e p) h k = k
spelled_after_fine x o (IfElse at e p q) h k = k
spelled_after_fine x o (ForEach at ty y e p) h k = k
spelled_after_fine x o (While at e p) h k = k
spelled_after_fine x o (Print at e) h k = k
spelled_after_fine x o (Return at e) h k = k
spelled_after_fine x o (Break at) h k = k

spelled_past_fine : (x : List ℕ) (o : Option Spelled) (p : Statements) → AreFineStatements p → Holds IsFineType o → Holds IsFineType (spelled_past x o p)
spelled_past_fine x o Nothing h k = k
spelled_past_fine x o (Then s p) h k = spelled_past_fine x (spelled_after x o s) p (fine_rest s p h) (spelled_after_fine x o s (fine_first s p h) k)

spelled_inside_fine : (x : List ℕ) (o : Option Spelled) (s : Statement) → IsFineStatement s → Holds IsFineType o → Holds IsFineType (spelled_inside x o s)
spelled_inside_fine x o (ForEach at ty y e p) h k = spelled_where (bytes_eq y x) ty o (h.0.0, h.1.0) k
spelled_inside_fine x o (Declare at ty y e) h k = k
spelled_inside_fine x o (Assign at y e) h k = k
spelled_inside_fine x o (Add at y e) h k = k
spelled_inside_fine x o (Sort at y keys downs) h k = k
spelled_inside_fine x o (If at e p) h k = k
spelled_inside_fine x o (IfElse at e p q) h k = k
spelled_inside_fine x o (While at e p) h k = k
spelled_inside_fine x o (Print at e) h k = k
spelled_inside_fine x o (Return at e) h k = k
spelled_inside_fine x o (Break at) h k = k

spelled_in_fine : (x : List ℕ) (o : Option Spelled) (path : List ℕ) (n : ℕ) (p : Statements) → AreFineStatements p → Holds IsFineType o → Holds IsFineType (spelled_in x o path n p)
spelled_in_fine x o [] n p h k = spelled_past_fine x o (first_of n p) (fine_front n p h) k
spelled_in_fine x o (b ∷ []) n p h k = tt
spelled_in_fine x o (b ∷ m ∷ path) n p h k =
    found_all IsFineStatement IsFineType (λ (s : Statement). found_in (spelled_in x (spelled_inside x (spelled_past x o (first_of n p)) s) path m) (branch_of b s)) (numbered n p) (numbered_fine n p h)
    (λ s i.
    found_all AreFineStatements IsFineType (spelled_in x (spelled_inside x (spelled_past x o (first_of n p)) s) path m) (branch_of b s) (branch_fine b s i)
    (λ q j.
    spelled_in_fine x (spelled_inside x (spelled_past x o (first_of n p)) s) path m q j
    (spelled_inside_fine x (spelled_past x o (first_of n p)) s i (spelled_past_fine x o (first_of n p) (fine_front n p h) k))))

scalar_type : (ty : Spelled) → IsScalarType ty → IsType ty
scalar_type tree.Int h = tt
scalar_type tree.Long h = tt
scalar_type tree.Boolean h = tt
scalar_type tree.String h = tt
scalar_type tree.BoxedInteger h = absurd h
scalar_type tree.BoxedLong h = absurd h
scalar_type tree.BoxedBoolean h = absurd h
scalar_type (tree.Table name) h = absurd h
scalar_type (ListOf e) h = absurd h
scalar_type (SetOf e) h = absurd h

param_fine : (x : List ℕ) (ps : List PlainParam) → InParams ps → WrittenParams ps → Holds IsFineType (spelled_of_param x ps)
param_fine x [] g w = tt
param_fine x (p ∷ ps) g w = spelled_where (bytes_eq p.name x) p.ty (spelled_of_param x ps) (scalar_type p.ty g.0, w.0) (param_fine x ps g.2 w.2)

spelled_at_fine : (x path : List ℕ) (p : PlainProgram) → IsFineProgram p → Holds IsFineType (spelled_at x path p)
spelled_at_fine x [] p h = tt
spelled_at_fine x (m ∷ []) p h = tt
spelled_at_fine x (m ∷ n ∷ path) p h =
    found_all IsFineMethod IsFineType (spelled_in_method x path n) (slice_get p.methods m) (program_method m p h)
    (λ k i. spelled_in_fine x (spelled_of_param x k.params) path n k.body i.body (param_fine x k.params i.params i.params_written))

abbrev pub IsFineElement : Spelled → Type 0
IsFineElement e = IsElement e × WrittenType e

element_fine : (o : Option Spelled) → Holds IsFineType o → IsFineElement (spelled_or_text (element_spelled o))
element_fine (Some (ListOf e)) h = h
element_fine (Some (SetOf e)) h = h
element_fine None h = (tt, tt)
element_fine (Some tree.Int) h = (tt, tt)
element_fine (Some tree.Long) h = (tt, tt)
element_fine (Some tree.Boolean) h = (tt, tt)
element_fine (Some tree.String) h = (tt, tt)
element_fine (Some tree.BoxedInteger) h = (tt, tt)
element_fine (Some tree.BoxedLong) h = (tt, tt)
element_fine (Some tree.BoxedBoolean) h = (tt, tt)
element_fine (Some (tree.Table name)) h = (tt, tt)

-- The elements of a variable that a program declares are of a type of the grammar, which can be written.
pub fine_element : (x path : List ℕ) (p : PlainProgram) → IsFineProgram p → IsFineElement (spelled_or_text (element_spelled (spelled_at x path p)))
fine_element x path p h = element_fine (spelled_at x path p) (spelled_at_fine x path p h)
