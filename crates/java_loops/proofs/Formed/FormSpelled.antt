-- In a well-typed program each for-each spells the table of the list that it goes over.
use Rattle.std.proofs.Common.{◌≡◌, ℕ, true, List, [], Option, Some, None, refl, sym, ap, ◌∙◌, subst}
use Rattle.qbs_base.specs.Values.{Schema}
use Rattle.qbs_base.specs.declared.span.Span.{Span}
use Rattle.sql_ast.proofs.Tools.{all_at}
use Rattle.sql_ast.specs.Tree.{PlainQuery}
use Rattle.java_ast.specs.Tree as tree
use Rattle.java_ast.specs.Tree.{Spelled, Expression, Statement, Statements, Then}
use Rattle.java_mean.specs.declared.types.JavaType.TheVariants.{Listed}
use Rattle.java_mean.specs.declared.types.Single.TheVariants.{RowOf}
use Rattle.java_mean.specs.Types.{Types}
use Rattle.loop_text.specs.Statements.Fragment.{Fragment}
use Rattle.loop_text.specs.Kernel.KernelLists.{Source, source_past, source_of, source_in}
use Rattle.loop_text.specs.Statements.Loops.{is_loop}
use Rattle.java_loops.specs.Lowering.Numbering.{table_spelled}
use Rattle.java_loops.specs.Kernel.Setting.{setting_of}
use Rattle.loop_text.specs.Statements.Setting.{is_found}
use Rattle.loop_text.specs.Sites.Sites.{sites_of}
use Rattle.java_loops.proofs.Formed.FormTables.{Spells, RowsSpelled}
use Rattle.java_loops.proofs.Listed.ListedRows.{IsSeenFragment, all_sites_seen}
use Rattle.java_loops.proofs.Listed.ListedSeen.{TypedSource, source_typed}
use Rattle.java_loops.proofs.Listed.ListedSites.{IsLinkedTo, IsLinked, each_linked}
use Rattle.java_loops.proofs.Listed.ListedWalk.{SeenStatement, SeenSite}
use Rattle.java_loops.proofs.Nested.NestRules.{Unbroken, listed_at}

record SourceIs (o : Option Source) : Type 0 where
  source : Source
  is : o ≡ Some source

source_is : (o : Option Source) → is_found o ≡ true → SourceIs o
source_is (Some s) h = record { source = s; is = refl }
source_is None h = absurd cc

module _ (schema : Schema) (read : List ℕ → Option PlainQuery) (f : Fragment) (g : Types) (k : IsSeenFragment schema read f g) (u : Unbroken (setting_of schema read g f)) where
  knows : (x : List ℕ) (s : Source) → source_past x None f.run ≡ Some s → TypedSource schema read k.result g x s
  knows x s e = subst (λ z. TypedSource schema read k.result z x s) (sym k.is) (source_typed schema read k.result f.run (Then f.loop k.behind) k.before k.seen x s e)

  each_spelled : (at : Span) (ty : Spelled) (x : List ℕ) (e : Expression) (b : Statements) → IsLinked schema f.run (tree.ForEach at ty x e b) → is_found (source_of f.run e) ≡ true → Spells (setting_of schema read g f) (tree.ForEach at ty x e b)
  each_spelled at ty x (tree.Fetch at' t) b linked found = (linked (record { table = t; keys = []; downs = [] }) refl).number
  each_spelled at ty x (tree.Var at' y) b linked found =
      let s : SourceIs (source_past y None f.run) = source_is (source_past y None f.run) found in
      let l : IsLinkedTo schema (table_spelled schema ty) s.source = linked s.source s.is in
      let t : TypedSource schema read k.result g y s.source = knows y s.source s.is in
      let two : Some t.number ≡ Some (table_spelled schema ty) = sym t.table ∙ l.number in
      let same : t.number ≡ table_spelled schema ty = cc in
      t.typed ∙ ap (λ i. Some (Listed (RowOf i))) same
  each_spelled at ty x (tree.Lit at' v) b linked found = tt
  each_spelled at ty x (tree.Field at' a name) b linked found = tt
  each_spelled at ty x (tree.Binary at' op p q) b linked found = tt
  each_spelled at ty x (tree.Not at' a) b linked found = tt
  each_spelled at ty x (tree.Equals at' p q) b linked found = tt
  each_spelled at ty x (tree.Size at' y) b linked found = tt
  each_spelled at ty x (tree.Get at' y a) b linked found = tt
  each_spelled at ty x (tree.Contains at' y a) b linked found = tt
  each_spelled at ty x (tree.Query at' el text es) b linked found = tt
  each_spelled at ty x (tree.QueryLong at' text es) b linked found = tt
  each_spelled at ty x (tree.QueryBoolean at' text es) b linked found = tt
  each_spelled at ty x (tree.NewList at') b linked found = tt
  each_spelled at ty x (tree.NewSet at') b linked found = tt
  each_spelled at ty x (tree.NewSetOf at' a) b linked found = tt

  statement_spelled : (q : Statement) → SeenStatement schema read k.result g q → (is_loop q ≡ true → is_found (source_in f.run q) ≡ true) → Spells (setting_of schema read g f) q
  statement_spelled (tree.ForEach at ty x e b) s found = each_spelled at ty x e b (each_linked schema read k.result f.run g knows s.visible s.types s.around s.last at ty x e b s.sees s.extends s.clean) (found refl)
  statement_spelled (tree.Declare at ty x e) s found = tt
  statement_spelled (tree.Assign at x e) s found = tt
  statement_spelled (tree.Add at x e) s found = tt
  statement_spelled (tree.Sort at x keys downs) s found = tt
  statement_spelled (tree.If at e p) s found = tt
  statement_spelled (tree.IfElse at e p q) s found = tt
  statement_spelled (tree.While at e p) s found = tt
  statement_spelled (tree.Print at e) s found = tt
  statement_spelled (tree.Return at e) s found = tt
  statement_spelled (tree.Break at) s found = tt

  -- The rows of each for-each are of the table that it spells.
  pub rows_spelled : RowsSpelled (setting_of schema read g f)
  rows_spelled = record { by = λ n s get. statement_spelled s.statement (all_at (SeenSite schema read k.result g) (sites_of f.loop) n s (all_sites_seen schema read f g k) get) (λ loop. listed_at (setting_of schema read g f) u n s get loop) }
