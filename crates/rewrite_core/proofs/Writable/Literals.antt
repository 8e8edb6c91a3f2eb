-- The text literals of a lowered fragment's atoms and of its known queries are UTF-8 where its loop and its run can be written.
use Rattle.std.proofs.Common.{◌≡◌, ℕ, Bool, true, false, cond, List, [], ◌∷◌, map, slice_get, Option, Some, None, IsUtf8, refl}
use Rattle.std.specs.List.{AllByRecursion, list_any}
use Rattle.qbs_base.specs.declared.scalar.Scalar.{Scalar}
use Rattle.qbs_base.specs.declared.scalar.Scalar.TheVariants as scalars
use Rattle.qbs_base.specs.Values.{Schema}
use Rattle.tor_terms.specs.declared.term.Atom.{Atom}
use Rattle.tor_terms.specs.declared.term.Atom.TheVariants as atoms
use Rattle.tor_terms.specs.declared.term.Operand.{Operand}
use Rattle.sql_ast.specs.Tree.{PlainQuery}
use Rattle.sql_ast.specs.Utf8.{ScalarIsUtf8, LiteralsAreUtf8}
use Rattle.sql_parts.specs.Given.{LiteralIsUtf8, AtomIsUtf8}
use Rattle.java_ast.specs.declared.tree.Op.{Op}
use Rattle.java_ast.specs.declared.tree.Op.TheVariants as ops
use Rattle.java_ast.specs.Tree.{Expression, Statements}
use Rattle.java_ast.specs.Tree as tree
use Rattle.java_grammar.specs.Written.{WrittenScalar}
use Rattle.java_mean.specs.Queries.{Reader}
use Rattle.loop_text.specs.declared.sites.bindings.Binding.{Binding}
use Rattle.loop_text.specs.declared.sites.bindings.Binding.TheVariants.{Row, Local, Outer}
use Rattle.loop_text.specs.Kernel.KernelConditions.{Asked, asked_for}
use Rattle.loop_text.specs.Sites.Sites.{Site, RowColumn, sites_of, binding_at, row_column_at}
use Rattle.loop_text.specs.Statements.Fragment.{Fragment}
use Rattle.java_ast.specs.Names.{Names}
use Rattle.java_loops.specs.Kernel.Setting.{Setting}
use Rattle.java_loops.specs.Lowering.Lowered.{query_asked}
use Rattle.java_loops.specs.Lowering.Numbering.{with_new, Leaf, all_leaves, operand_of_literal, operand_of_column, operand_of, operand_before, same_of, compared, flag_reading, bound_reading, reading_of, same_atom, atoms_among}
use Rattle.lowering.specs.Asked.{queries_in}
use Rattle.rewrite_core.proofs.Writable.Given.{Holds}
use Rattle.rewrite_core.proofs.Writable.Entries.{IsFineAsked, asked_for_fine}
use Rattle.rewrite_core.proofs.Writable.Leaves.{new_where, OfParts, OfTests, OfLeaf, of_all_leaves}
use Rattle.rewrite_core.proofs.Writable.QueryTexts.{literals_utf8}
use Rattle.rewrite_core.proofs.Writable.Replaced.{AreFineStatements}

-- ---- Atoms

scalar_utf8 : (x : Scalar) → WrittenScalar x → ScalarIsUtf8 x
scalar_utf8 (scalars.Long n) h = tt
scalar_utf8 (scalars.Bool b) h = tt
scalar_utf8 (scalars.Text text) h = h

module _ (P : Expression → Type 0) (parts : OfParts P) where
  literal_utf8 : (entries : List Expression) (e : Expression) → P e → LiteralIsUtf8 (operand_of_literal entries e)
  literal_utf8 entries (tree.Lit at x) h = scalar_utf8 x (parts.literal at x h)
  literal_utf8 entries (tree.Var at x) h = tt
  literal_utf8 entries (tree.Field at e m) h = tt
  literal_utf8 entries (tree.Binary at op a b) h = tt
  literal_utf8 entries (tree.Not at e) h = tt
  literal_utf8 entries (tree.Equals at a b) h = tt
  literal_utf8 entries (tree.Size at x) h = tt
  literal_utf8 entries (tree.Get at x e) h = tt
  literal_utf8 entries (tree.Contains at x e) h = tt
  literal_utf8 entries (tree.Fetch at m) h = tt
  literal_utf8 entries (tree.Query at ty text es) h = tt
  literal_utf8 entries (tree.QueryLong at text es) h = tt
  literal_utf8 entries (tree.QueryBoolean at text es) h = tt
  literal_utf8 entries (tree.NewList at) h = tt
  literal_utf8 entries (tree.NewSet at) h = tt
  literal_utf8 entries (tree.NewSetOf at e) h = tt

  module _ (w : Setting) (entries : List Expression) (known : Names) where
    column_utf8 : (e : Expression) (o : Option RowColumn) → P e → LiteralIsUtf8 (operand_of_column w entries e o)
    column_utf8 e (Some c) h = tt
    column_utf8 e None h = literal_utf8 entries e h

    operand_utf8 : (n : ℕ) (e : Expression) → P e → LiteralIsUtf8 (operand_of w entries n e)
    operand_utf8 n e h = column_utf8 e (row_column_at w.sites n e) h

    same_where : (t : Bool) (a b : Operand) → LiteralIsUtf8 a → LiteralIsUtf8 b → AtomIsUtf8 (cond t (atoms.Same b a) (atoms.Same a b))
    same_where true a b h k = (k, h)
    same_where false a b h k = (h, k)

    same_utf8 : (a b : Operand) → LiteralIsUtf8 a → LiteralIsUtf8 b → AtomIsUtf8 (same_of a b)
    same_utf8 a b h k = same_where (operand_before b a) a b h k

    compared_utf8 : (op : Op) (a b : Operand) → LiteralIsUtf8 a → LiteralIsUtf8 b → AtomIsUtf8 (compared op a b).atom
    compared_utf8 ops.Lt a b h k = (h, k)
    compared_utf8 ops.Gt a b h k = (k, h)
    compared_utf8 ops.Le a b h k = (k, h)
    compared_utf8 ops.Ge a b h k = (h, k)
    compared_utf8 ops.Ne a b h k = same_utf8 a b h k
    compared_utf8 ops.Eq a b h k = same_utf8 a b h k
    compared_utf8 ops.Add a b h k = same_utf8 a b h k
    compared_utf8 ops.Sub a b h k = same_utf8 a b h k
    compared_utf8 ops.Mul a b h k = same_utf8 a b h k
    compared_utf8 ops.And a b h k = same_utf8 a b h k
    compared_utf8 ops.Or a b h k = same_utf8 a b h k

    flag_utf8 : (d : ℕ) (o : Option Site) → AtomIsUtf8 (flag_reading w d o).atom
    flag_utf8 d (Some s) = tt
    flag_utf8 d None = tt

    bound_utf8 : (b : Binding) → AtomIsUtf8 (bound_reading w b).atom
    bound_utf8 (Local d) = flag_utf8 d (slice_get w.sites d)
    bound_utf8 (Row n) = tt
    bound_utf8 Outer = tt

    reading_utf8 : (n : ℕ) (e : Expression) → P e → AtomIsUtf8 (reading_of w entries known n e).atom
    reading_utf8 n (tree.Binary at op a b) h = let two = parts.binary at op a b h in compared_utf8 op (operand_of w entries n a) (operand_of w entries n b) (operand_utf8 n a two.0) (operand_utf8 n b two.1)
    reading_utf8 n (tree.Equals at a b) h = let two = parts.equals at a b h in same_utf8 (operand_of w entries n a) (operand_of w entries n b) (operand_utf8 n a two.0) (operand_utf8 n b two.1)
    reading_utf8 n (tree.Var at x) h = bound_utf8 (binding_at w.sites n x)
    reading_utf8 n (tree.Contains at x e) h = operand_utf8 n e (parts.contains at x e h)
    reading_utf8 n (tree.Lit at x) h = operand_utf8 n (tree.Lit at x) h
    reading_utf8 n (tree.Field at e m) h = operand_utf8 n (tree.Field at e m) h
    reading_utf8 n (tree.Not at e) h = operand_utf8 n (tree.Not at e) h
    reading_utf8 n (tree.Size at x) h = operand_utf8 n (tree.Size at x) h
    reading_utf8 n (tree.Get at x e) h = operand_utf8 n (tree.Get at x e) h
    reading_utf8 n (tree.Fetch at m) h = operand_utf8 n (tree.Fetch at m) h
    reading_utf8 n (tree.Query at ty text es) h = operand_utf8 n (tree.Query at ty text es) h
    reading_utf8 n (tree.QueryLong at text es) h = operand_utf8 n (tree.QueryLong at text es) h
    reading_utf8 n (tree.QueryBoolean at text es) h = operand_utf8 n (tree.QueryBoolean at text es) h
    reading_utf8 n (tree.NewList at) h = operand_utf8 n (tree.NewList at) h
    reading_utf8 n (tree.NewSet at) h = operand_utf8 n (tree.NewSet at) h
    reading_utf8 n (tree.NewSetOf at e) h = operand_utf8 n (tree.NewSetOf at e) h

    atoms_utf8 : (all : List Atom) (ls : List Leaf) → AllByRecursion AtomIsUtf8 all → AllByRecursion (OfLeaf P) ls → AllByRecursion AtomIsUtf8 (atoms_among w entries known all ls)
    atoms_utf8 all [] h k = h
    atoms_utf8 all (l ∷ ls) h k =
        let one : Atom = (reading_of w entries known l.number l.expression).atom in
        atoms_utf8 (with_new same_atom all one) ls (new_where AtomIsUtf8 same_atom all one (list_any (same_atom one) all) h (reading_utf8 l.number l.expression k.0)) k.1

-- ---- Known queries

module _ (schema : Schema) (reader : Reader schema) (run : Statements) (fine : AreFineStatements run) where
  read_utf8 : (text : List ℕ) (o : Option PlainQuery) → reader.read text ≡ o → IsUtf8 text → Holds LiteralsAreUtf8 o
  read_utf8 text (Some q) e u = literals_utf8 schema text q ((reader.exact text q).0 e) u
  read_utf8 text None e u = tt

  query_utf8 : (o : Option Asked) → Holds IsFineAsked o → Holds LiteralsAreUtf8 (query_asked reader.read o)
  query_utf8 (Some a) h = read_utf8 a.text (reader.read a.text) refl h.text
  query_utf8 None h = tt

  one_more : (o : Option PlainQuery) (os : List (Option PlainQuery)) → Holds LiteralsAreUtf8 o → AllByRecursion LiteralsAreUtf8 (queries_in os) → AllByRecursion LiteralsAreUtf8 (queries_in (o ∷ os))
  one_more (Some q) os h k = (h, k)
  one_more None os h k = k

  known_utf8 : (xs : Names) → AllByRecursion LiteralsAreUtf8 (queries_in (map (λ x. query_asked reader.read (asked_for run x)) xs))
  known_utf8 [] = tt
  known_utf8 (x ∷ xs) =
      one_more (query_asked reader.read (asked_for run x)) (map (λ y. query_asked reader.read (asked_for run y)) xs) (query_utf8 (asked_for run x) (asked_for_fine run x fine)) (known_utf8 xs)

-- ---- Of a fragment

-- The text literals of the atoms are UTF-8.
pub of_atoms : (P : Expression → Type 0) → OfParts P → (f : Fragment) → OfTests P f.loop → (w : Setting) (entries : List Expression) (known : Names)
    → AllByRecursion AtomIsUtf8 (atoms_among w entries known [] (all_leaves (sites_of f.loop)))
of_atoms P parts f tests w entries known = atoms_utf8 P parts w entries known [] (all_leaves (sites_of f.loop)) tt (of_all_leaves P parts f.loop tests)

-- The text literals of the known queries are UTF-8.
pub fine_known : (f : Fragment) → AreFineStatements f.run → (schema : Schema) (reader : Reader schema) (xs : Names) → AllByRecursion LiteralsAreUtf8 (queries_in (map (λ x. query_asked reader.read (asked_for f.run x)) xs))
fine_known f run schema reader xs = known_utf8 schema reader f.run run xs
