-- The rows of a loop are of the table that the loop spells.
use Rattle.std.proofs.Common.{◌≡◌, ℕ, true, List, Option, Some, None, refl, sym, ap, ◌∙◌, subst, slice_get}
use Rattle.std.proofs.lemmas.Bool.{and_parts}
use Rattle.qbs_base.specs.declared.span.Span.{Span}
use Rattle.qbs_base.specs.Values.{Schema}
use Rattle.qbs_base.specs.Columns.{table_number}
use Rattle.java_ast.specs.Tree as tree
use Rattle.java_ast.specs.Tree.{Spelled, Expression, Statement, Statements, Nothing, Then}
use Rattle.java_mean.specs.declared.types.JavaType.{JavaType}
use Rattle.java_mean.specs.declared.types.JavaType.TheVariants.{Of, Listed}
use Rattle.java_mean.specs.declared.types.Single.{Single}
use Rattle.java_mean.specs.declared.types.Single.TheVariants.{RowOf}
use Rattle.java_mean.specs.Types.{Types, type_spelled, row_type, made_of}
use Rattle.java_mean.specs.Typing.{Frame, Has, listed, HasType, fetch}
use Rattle.loop_text.specs.Kernel.KernelLists.{source_of}
use Rattle.loop_text.specs.Kernel.Counting.{Counting}
use Rattle.loop_text.specs.Kernel.KernelLoop.{counts_in, counts_rightly, begins, takes_row, is_table, is_item}
use Rattle.loop_text.specs.Statements.Fragment.{Fragment}
use Rattle.java_loops.specs.Lowering.Numbering.{found_number, table_spelled}
use Rattle.java_loops.specs.Kernel.Setting.{Setting}
use Rattle.loop_text.specs.Statements.Setting.{is_found}
use Rattle.loop_text.specs.Sites.Sites.{Site, binding_at}
use Rattle.java_loops.proofs.Formed.FormAtoms.{list_outer}
use Rattle.java_loops.proofs.Formed.FormTyping.{variable_typed}
use Rattle.java_loops.proofs.Numbers.Numberings.{Sighted}

-- ---- For-each loops

-- A for-each spells the table of the list that it goes over.
abbrev pub Spells : Setting → Statement → Type 0
Spells w (tree.ForEach at ty x (tree.Fetch at' t) b) = table_number w.schema t ≡ Some (table_spelled w.schema ty)
Spells w (tree.ForEach at ty x (tree.Var at' y) b) = w.types y ≡ Some (Listed (RowOf (table_spelled w.schema ty)))
Spells w _ = Unit {0}

pub record RowsSpelled (w : Setting) : Type 0 where
  pub by : (n : ℕ) (s : Site) → slice_get w.sites n ≡ Some s → Spells w s.statement

pub record FetchTyped (c : Frame) (t : List ℕ) (k : JavaType) : Type 0 where
  pub table : ℕ
  pub numbered : table_number c.schema t ≡ Some table
  pub is : Listed (RowOf table) ≡ k

pub fetch_typed : (c : Frame) (g : Types) (at : Span) (t : List ℕ) (k : JavaType) → HasType c g (tree.Fetch at t) k → FetchTyped c t k
fetch_typed c g _ _ _ (fetch at t n p) = record { table = n; numbered = p; is = refl }

members_are : (a b : Single) → Has (Listed a) b → a ≡ b
members_are _ _ (listed a) = refl

row_of : (a b : ℕ) → a ≡ b → Of (RowOf a) ≡ Of (RowOf b)
row_of a b e = ap (λ i. Of (RowOf i)) e

pub member_row : (i : ℕ) (k : JavaType) (a : Single) → Listed (RowOf i) ≡ k → Has k a → Of a ≡ Of (RowOf i)
member_row i k a e h = ap (λ (z : Single). Of z) (sym (members_are (RowOf i) a (subst (λ z. Has z a) (sym e) h)))

-- the variable of a for-each over a list of the run has the type that the loop spells
pub each_spelled : (w : Setting) (c : Frame) → c.schema ≡ w.schema → (n : ℕ) (g : Types) (loops : List ℕ → Option ℕ) → Sighted w n g loops → (at : Span) (ty : Spelled) (x : List ℕ) (e : Expression) (b : Statements) (k : JavaType) (a : Single) → Spells w (tree.ForEach at ty x e b) → is_found (source_of w.fragment.run e) ≡ true → HasType c g e k → Has k a → Of a ≡ Of (RowOf (table_spelled w.schema ty))
each_spelled w c same n g loops s at ty x (tree.Fetch at' t) b k a spells found h has =
    let u : FetchTyped c t k = fetch_typed c g at' t k h in
    let two : Some u.table ≡ Some (table_spelled w.schema ty) = sym u.numbered ∙ ap (λ z. table_number z t) same ∙ spells in
    member_row u.table k a u.is has ∙ row_of u.table (table_spelled w.schema ty) cc
each_spelled w c same n g loops s at ty x (tree.Var at' y) b k a spells found h has =
    let outer : w.types y ≡ Some k = list_outer w c same n g loops s y k a (binding_at w.sites n y) refl (variable_typed c g at' y k h) has in
    let two : Some (Listed (RowOf (table_spelled w.schema ty))) ≡ Some k = sym spells ∙ outer in
    member_row (table_spelled w.schema ty) k a (cc) has
each_spelled w c same i g loops s at ty x (tree.Lit at' v) b k z spells found u has = absurd cc
each_spelled w c same i g loops s at ty x (tree.Field at' a name) b k z spells found u has = absurd cc
each_spelled w c same i g loops s at ty x (tree.Binary at' op p q) b k z spells found u has = absurd cc
each_spelled w c same i g loops s at ty x (tree.Not at' a) b k z spells found u has = absurd cc
each_spelled w c same i g loops s at ty x (tree.Equals at' p q) b k z spells found u has = absurd cc
each_spelled w c same i g loops s at ty x (tree.Size at' y) b k z spells found u has = absurd cc
each_spelled w c same i g loops s at ty x (tree.Get at' y a) b k z spells found u has = absurd cc
each_spelled w c same i g loops s at ty x (tree.Contains at' y a) b k z spells found u has = absurd cc
each_spelled w c same i g loops s at ty x (tree.Query at' el text es) b k z spells found u has = absurd cc
each_spelled w c same i g loops s at ty x (tree.QueryLong at' text es) b k z spells found u has = absurd cc
each_spelled w c same i g loops s at ty x (tree.QueryBoolean at' text es) b k z spells found u has = absurd cc
each_spelled w c same i g loops s at ty x (tree.NewList at') b k z spells found u has = absurd cc
each_spelled w c same i g loops s at ty x (tree.NewSet at') b k z spells found u has = absurd cc
each_spelled w c same i g loops s at ty x (tree.NewSetOf at' a) b k z spells found u has = absurd cc

-- ---- Loops that count

-- a loop that counts takes its row first
pub record TakesRow (b : Statements) : Type 0 where
  pub at : Span
  pub table : List ℕ
  pub name : List ℕ
  pub value : Expression
  pub rest : Statements
  pub is : b ≡ Then (tree.Declare at (tree.Table table) name value) rest

spelled_row : (at : Span) (ty : Spelled) (x : List ℕ) (e : Expression) (rest : Statements) → is_table ty ≡ true → TakesRow (Then (tree.Declare at ty x e) rest)
spelled_row at (tree.Table name) x e rest h = record { at = at; table = name; name = x; value = e; rest = rest; is = refl }
spelled_row at tree.Int x e rest h = absurd cc
spelled_row at tree.Long x e rest h = absurd cc
spelled_row at tree.Boolean x e rest h = absurd cc
spelled_row at tree.String x e rest h = absurd cc
spelled_row at tree.BoxedInteger x e rest h = absurd cc
spelled_row at tree.BoxedLong x e rest h = absurd cc
spelled_row at tree.BoxedBoolean x e rest h = absurd cc
spelled_row at (tree.ListOf el) x e rest h = absurd cc
spelled_row at (tree.SetOf el) x e rest h = absurd cc

row_taken : (k : Counting) (s : Statement) (rest : Statements) → takes_row k s ≡ true → TakesRow (Then s rest)
row_taken k (tree.Declare at ty x e) rest h = spelled_row at ty x e rest (and_parts (is_table ty) (is_item k e) h).0
row_taken k (tree.Assign at x e) rest h = absurd cc
row_taken k (tree.Add at x e) rest h = absurd cc
row_taken k (tree.Sort at x keys downs) rest h = absurd cc
row_taken k (tree.If at c p) rest h = absurd cc
row_taken k (tree.IfElse at c p q) rest h = absurd cc
row_taken k (tree.ForEach at ty x e p) rest h = absurd cc
row_taken k (tree.While at c p) rest h = absurd cc
row_taken k (tree.Print at e) rest h = absurd cc
row_taken k (tree.Return at e) rest h = absurd cc
row_taken k (tree.Break at) rest h = absurd cc

pub begins_row : (k : Counting) (b : Statements) → begins k b ≡ true → TakesRow b
begins_row k Nothing h = absurd cc
begins_row k (Then s ss) h = row_taken k s ss h

pub counted_row_taken : (f : Fragment) (o : Option Counting) (b : Statements) → counts_rightly f o b ≡ true → TakesRow b
counted_row_taken f None b h = absurd cc
counted_row_taken f (Some k) b h = begins_row k b (and_parts (begins k b) _ (and_parts (counts_in k b) _ h).0).0

row_typed : (o : Option ℕ) (k : JavaType) → made_of Of (row_type o) ≡ Some k → k ≡ Of (RowOf (found_number o))
row_typed (Some n) k h = let l : Some (Of (RowOf n)) ≡ Some k = h in cc
row_typed None k h = absurd cc

-- a spelled table is the type of its rows
pub table_typed : (schema : Schema) (name : List ℕ) (k : JavaType) → type_spelled schema (tree.Table name) ≡ Some k → k ≡ Of (RowOf (table_spelled schema (tree.Table name)))
table_typed schema name k h = row_typed (table_number schema name) k h
