-- The numbers of a lowered fragment and the rows of its lists, as its chains ask for them.
use Rattle.std.proofs.Common.{◌≡◌, ℕ, true, List, Option, Some, refl, sym, ap, ◌∙◌, subst}
use Rattle.qbs_base.specs.declared.span.Span.{Span}
use Rattle.qbs_base.specs.Values.{Schema}
use Rattle.qbs_base.specs.Columns.{table_number}
use Rattle.sql_ast.specs.Tree.{PlainQuery}
use Rattle.java_ast.specs.Tree as tree
use Rattle.java_ast.specs.Tree.{Spelled, Expression, Statement, Statements}
use Rattle.java_mean.specs.declared.types.JavaType.{JavaType}
use Rattle.java_mean.specs.declared.types.JavaType.TheVariants.{Of, Listed}
use Rattle.java_mean.specs.declared.types.Single.{Single}
use Rattle.java_mean.specs.declared.types.Single.TheVariants.{RowOf}
use Rattle.java_mean.specs.Types.{Types}
use Rattle.java_mean.specs.Typing.{Frame, Has, HasType, TypedStatement}
use Rattle.loop_text.specs.Statements.Fragment.{Fragment}
use Rattle.loop_text.specs.Kernel.KernelLists.{source_of, source_in}
use Rattle.loop_text.specs.Statements.Loops.{is_loop}
use Rattle.java_loops.specs.Lowering.Numbering.{table_spelled}
use Rattle.java_loops.specs.Kernel.Setting.{Setting, setting_of}
use Rattle.loop_text.specs.Statements.Setting.{is_found}
use Rattle.loop_text.specs.Sites.Sites.{Site}
use Rattle.java_loops.proofs.Chained.ChainPremises.{HasNumbers, HasRows}
use Rattle.java_loops.proofs.Formed.FormSpelled.{rows_spelled}
use Rattle.java_loops.proofs.Formed.FormTables.{Spells, RowsSpelled, FetchTyped, fetch_typed, member_row}
use Rattle.java_loops.proofs.Formed.FormTyping.{variable_typed}
use Rattle.java_loops.proofs.Listed.ListedRows.{IsSeenFragment}
use Rattle.java_loops.proofs.Nested.Nest.{SeesFragment}
use Rattle.java_loops.proofs.Nested.NestRules.{Unbroken, listed_at}
use Rattle.java_loops.proofs.Numbers.NumberApart.{new_apart, body_set_apart, list_numbered}
use Rattle.java_loops.proofs.Numbers.Numberings.{numbering}

-- ---- The rows of lists

row_is : (a : Single) (t : ℕ) → Of a ≡ Of (RowOf t) → a ≡ RowOf t
row_is a t e = cc

-- where all that is visible at the loop is visible as there, the list of a for-each has rows of the table that the loop spells
list_rows : (w : Setting) (c : Frame) → c.schema ≡ w.schema → (g : Types) → ((y : List ℕ) (z : JavaType) → w.types y ≡ Some z → g y ≡ Some z) → (at : Span) (ty : Spelled) (x : List ℕ) (e : Expression) (b : Statements) (k : JavaType) (a : Single) → Spells w (tree.ForEach at ty x e b) → is_found (source_of w.fragment.run e) ≡ true → HasType c g e k → Has k a → Of a ≡ Of (RowOf (table_spelled w.schema ty))
list_rows w c same g outer at ty x (tree.Fetch at' t) b k a spells found h has =
    let u : FetchTyped c t k = fetch_typed c g at' t k h in
    let two : Some u.table ≡ Some (table_spelled w.schema ty) = sym u.numbered ∙ ap (λ z. table_number z t) same ∙ spells in
    let one : u.table ≡ table_spelled w.schema ty = cc in
    member_row u.table k a u.is has ∙ ap (λ i. Of (RowOf i)) one
list_rows w c same g outer at ty x (tree.Var at' y) b k a spells found h has =
    let here : g y ≡ Some (Listed (RowOf (table_spelled w.schema ty))) = outer y (Listed (RowOf (table_spelled w.schema ty))) spells in
    let two : Some (Listed (RowOf (table_spelled w.schema ty))) ≡ Some k = sym here ∙ variable_typed c g at' y k h in
    member_row (table_spelled w.schema ty) k a (cc) has
list_rows w c same g outer at ty x (tree.Lit at' v) b z a spells found u has = absurd cc
list_rows w c same g outer at ty x (tree.Field at' q name) b z a spells found u has = absurd cc
list_rows w c same g outer at ty x (tree.Binary at' op p q) b z a spells found u has = absurd cc
list_rows w c same g outer at ty x (tree.Not at' q) b z a spells found u has = absurd cc
list_rows w c same g outer at ty x (tree.Equals at' p q) b z a spells found u has = absurd cc
list_rows w c same g outer at ty x (tree.Size at' y) b z a spells found u has = absurd cc
list_rows w c same g outer at ty x (tree.Get at' y q) b z a spells found u has = absurd cc
list_rows w c same g outer at ty x (tree.Contains at' y q) b z a spells found u has = absurd cc
list_rows w c same g outer at ty x (tree.Query at' el text es) b z a spells found u has = absurd cc
list_rows w c same g outer at ty x (tree.QueryLong at' text es) b z a spells found u has = absurd cc
list_rows w c same g outer at ty x (tree.QueryBoolean at' text es) b z a spells found u has = absurd cc
list_rows w c same g outer at ty x (tree.NewList at') b z a spells found u has = absurd cc
list_rows w c same g outer at ty x (tree.NewSet at') b z a spells found u has = absurd cc
list_rows w c same g outer at ty x (tree.NewSetOf at' q) b z a spells found u has = absurd cc

-- ---- In a program

module _ (schema : Schema) (read : List ℕ → Option PlainQuery) (f : Fragment) (g : Types) (k : IsSeenFragment schema read f g) (u : Unbroken (setting_of schema read g f)) (c : Frame) (same : c.schema ≡ schema) where
  abbrev w : Setting
  w = setting_of schema read g f

  rows_by : (n : ℕ) (s : Site) (at : Span) (ty : Spelled) (x : List ℕ) (e : Expression) (b : Statements) (h : Types) (j : JavaType) (a : Single) (q : Statement) → q ≡ tree.ForEach at ty x e b → Spells w q → (is_loop q ≡ true → is_found (source_in f.run q) ≡ true) → ((y : List ℕ) (z : JavaType) → g y ≡ Some z → h y ≡ Some z) → HasType c h e j → Has j a → Of a ≡ Of (RowOf (table_spelled schema ty))
  rows_by n s at ty x e b h j a q is spells found outer t has =
      list_rows w c same h outer at ty x e b j a (subst (Spells w) is spells) (ap (λ z. is_found (source_in f.run z)) (sym is) ∙ found (ap is_loop is)) t has

  -- The list of each for-each has rows of the table that the loop spells.
  pub rows_here : HasRows w c
  rows_here =
      record {
        by = λ n s at ty x e b h j a get is outer t has.
            let spells : RowsSpelled w = rows_spelled schema read f g k u in
            let type : Of a ≡ Of (RowOf (table_spelled schema ty)) = rows_by n s at ty x e b h j a s.statement is (spells.by n s get) (listed_at w u n s get) outer t has in
            row_is a (table_spelled schema ty) type ∙ ap (λ z. RowOf (Rattle.java_loops.specs.Lowering.Numbering.table_of_loop schema z)) (sym is);
      }

  -- What isn't visible at the loop and what its body sets has no number, and each list is that of its loop.
  pub numbers_here : (l : Option Types) (h : Types) → TypedStatement c l g f.loop h → SeesFragment f g → HasNumbers w (numbering w)
  numbers_here l h typed sees =
      record {
        loops = λ x. refl;
        new = new_apart schema read f g k u c same l h typed;
        updated = body_set_apart schema read f g k u c same l h typed sees;
        lists = list_numbered w u;
      }
