-- The lists of a lowered fragment by the numbers of its loops: a table that is fetched stands whole, and a variable holds
-- its list.
use Rattle.std.proofs.Common.{◌≡◌, ℕ, zero, suc, Bool, true, false, List, [], ◌∷◌, Option, Some, None, Ok, refl, sym, ap, ◌∙◌, subst, cond}
use Rattle.std.specs.Prelude.{slice_get}
use Rattle.std.specs.List.{AllByRecursion}
use Rattle.std.specs.Option.{option_map}
use Rattle.qbs_base.specs.declared.scalar.Row.{Row}
use Rattle.qbs_base.specs.declared.scalar.Value.TheVariants.{Many}
use Rattle.qbs_base.specs.declared.span.Span.{Span}
use Rattle.qbs_base.specs.Named.{at_name}
use Rattle.qbs_base.specs.Values.{Schema}
use Rattle.qbs_base.specs.Columns.{table_number}
use Rattle.sql_ast.specs.Tree.{PlainQuery}
use Rattle.java_ast.specs.Tree as tree
use Rattle.java_ast.specs.Tree.{Spelled, Expression, Statement, Statements}
use Rattle.java_mean.specs.Endings.{◌>>=◌, found}
use Rattle.java_mean.specs.Expression.{value_of}
use Rattle.java_mean.specs.Statement.{State}
use Rattle.java_mean.specs.Store.{Variable}
use Rattle.java_mean.specs.Types.{Types}
use Rattle.java_mean.specs.World.{World}
use Rattle.kernel_lang.specs.declared.parts.ListDef.{ListDef}
use Rattle.kernel_lang.specs.Given.{list_at, listed}
use Rattle.java_loops.specs.Walks.ChainStarts.{whole_list}
use Rattle.java_loops.specs.Walks.Matched.{HoldsRows}
use Rattle.java_loops.specs.Walks.Numbering.{Source, FromTable, FromVariable}
use Rattle.loop_text.specs.Statements.Fragment.{Fragment}
use Rattle.loop_text.specs.Kernel.KernelLists as kernel
use Rattle.loop_text.specs.Kernel.KernelLists.{source_in}
use Rattle.loop_text.specs.Statements.Loops.{is_loop}
use Rattle.java_loops.specs.Lowering.Lowered.{list_of, lists_of}
use Rattle.java_loops.specs.Lowering.Numbering.{table_spelled, table_of_loop, table_of_site}
use Rattle.java_loops.specs.Kernel.Setting.{Setting, setting_of}
use Rattle.loop_text.specs.Sites.Sites.{Site, sites_of}
use Rattle.java_loops.proofs.Listed.Listed.{AreListed}
use Rattle.java_loops.proofs.Listed.ListedRows.{IsSeenFragment, all_sites_seen, HasList, sources}
use Rattle.java_loops.proofs.Listed.ListedSeen.{IsClean}
use Rattle.java_loops.proofs.Listed.ListedSites.{IsLinkedTo, each_linked}
use Rattle.java_loops.proofs.Listed.ListedWalk.{SeenSite}
use Rattle.java_loops.proofs.Numbers.Numberings.{loop_sites, source_of_list, source_of_loop, source_of_site}

-- ---- Lists by number

abbrev list_of_site : Setting → Site → ListDef
list_of_site w s = list_of w s.statement

lists_step : (w : Setting) (s : Site) (ds : List ListDef) (ss : List Site) (b : Bool) → ((j : ℕ) → slice_get ds j ≡ option_map (list_of_site w) (slice_get ss j)) → (j : ℕ) → slice_get (cond b (list_of_site w s ∷ ds) ds) j ≡ option_map (list_of_site w) (slice_get (cond b (s ∷ ss) ss) j)
lists_step w s ds ss true h zero = refl
lists_step w s ds ss true h (suc j) = h j
lists_step w s ds ss false h j = h j

-- the list with a number is that of the loop with the number
pub lists_by_number : (w : Setting) (ss : List Site) (j : ℕ) → slice_get (lists_of w ss) j ≡ option_map (list_of_site w) (slice_get (loop_sites ss) j)
lists_by_number w [] j = refl
lists_by_number w (s ∷ ss) j = lists_step w s (lists_of w ss) (loop_sites ss) (is_loop s.statement) (λ i. lists_by_number w ss i) j

-- the loop with a number stands among the sites
pub record LoopAt (sites : List Site) (s : Site) : Type 0 where
  pub number : ℕ
  pub there : slice_get sites number ≡ Some s
  pub is_loop : is_loop s.statement ≡ true

behind : (x : Site) (ss : List Site) (s : Site) → LoopAt ss s → LoopAt (x ∷ ss) s
behind x ss s k = record { number = suc k.number; there = k.there; is_loop = k.is_loop }

loop_step : (x : Site) (ss : List Site) (s : Site) (b : Bool) → is_loop x.statement ≡ b → ((j : ℕ) → slice_get (loop_sites ss) j ≡ Some s → LoopAt ss s) → (j : ℕ) → slice_get (cond b (x ∷ loop_sites ss) (loop_sites ss)) j ≡ Some s → LoopAt (x ∷ ss) s
loop_step x ss s true e h zero q = let same : x ≡ s = cc in subst (LoopAt (x ∷ ss)) same (record { number = 0; there = refl; is_loop = e })
loop_step x ss s true e h (suc j) q = behind x ss s (h j q)
loop_step x ss s false e h j q = behind x ss s (h j q)

pub loop_at : (ss : List Site) (s : Site) (j : ℕ) → slice_get (loop_sites ss) j ≡ Some s → LoopAt ss s
loop_at [] s j e = absurd cc
loop_at (x ∷ ss) s j e = loop_step x ss s (is_loop x.statement) refl (λ i q. loop_at ss s i q) j e

-- each list is of the table of its loop
pub list_table : (w : Setting) (j : ℕ) (d : ListDef) → slice_get (lists_of w w.sites) j ≡ Some d → d.table ≡ table_of_site w.schema (slice_get (loop_sites w.sites) j)
list_table w j d h = table_step w (slice_get (loop_sites w.sites) j) d (sym (lists_by_number w w.sites j) ∙ h)
  where
    table_step : (w : Setting) (o : Option Site) (d : ListDef) → option_map (list_of_site w) o ≡ Some d → d.table ≡ table_of_site w.schema o
    table_step w None d e = absurd cc
    table_step w (Some s) d e = let same : list_of_site w s ≡ d = cc in sym (ap (λ (z : ListDef). z.table) same)

-- ---- Sources

-- a loop over the rows of this source is a for-each
pub record Walks (s : Statement) (source : Source) : Type 0 where
  pub at : Span
  pub ty : Spelled
  pub row : List ℕ
  pub list : Expression
  pub body : Statements
  pub is : s ≡ tree.ForEach at ty row list body
  pub source_is : source_of_list list ≡ Some source

walks_so : (s : Statement) (source : Source) → source_of_loop s ≡ Some source → Walks s source
walks_so (tree.ForEach at ty x e b) source h = record { at = at; ty = ty; row = x; list = e; body = b; is = refl; source_is = h }
walks_so (tree.Declare at ty x e) source h = absurd cc
walks_so (tree.Assign at x e) source h = absurd cc
walks_so (tree.Add at x e) source h = absurd cc
walks_so (tree.Sort at x keys downs) source h = absurd cc
walks_so (tree.If at c p) source h = absurd cc
walks_so (tree.IfElse at c p q) source h = absurd cc
walks_so (tree.While at c b) source h = absurd cc
walks_so (tree.Print at e) source h = absurd cc
walks_so (tree.Return at e) source h = absurd cc
walks_so (tree.Break at) source h = absurd cc

-- the loop with this number, which has this source
pub record Sourced (w : Setting) (j : ℕ) (source : Source) : Type 0 where
  pub site : Site
  pub numbered : slice_get (loop_sites w.sites) j ≡ Some site
  pub loop : LoopAt w.sites site
  pub walks : Walks site.statement source

sourced_step : (w : Setting) (j : ℕ) (source : Source) (o : Option Site) → slice_get (loop_sites w.sites) j ≡ o → source_of_site o ≡ Some source → Sourced w j source
sourced_step w j source None e h = absurd cc
sourced_step w j source (Some s) e h = record { site = s; numbered = e; loop = loop_at w.sites s j e; walks = walks_so s.statement source h }

pub sourced : (w : Setting) (j : ℕ) (source : Source) → source_of_site (slice_get (loop_sites w.sites) j) ≡ Some source → Sourced w j source
sourced w j source h = sourced_step w j source (slice_get (loop_sites w.sites) j) refl h

fetched_is : (e : Expression) (t : List ℕ) → source_of_list e ≡ Some (FromTable t) → (at : Span) × (e ≡ tree.Fetch at t)
fetched_is (tree.Fetch at n) t h = let same : n ≡ t = cc in (at, ap (tree.Fetch at) same)
fetched_is (tree.Var at x) t h = absurd cc
fetched_is (tree.Lit at x) t h = absurd cc
fetched_is (tree.Field at e n) t h = absurd cc
fetched_is (tree.Binary at op a b) t h = absurd cc
fetched_is (tree.Not at e) t h = absurd cc
fetched_is (tree.Equals at a b) t h = absurd cc
fetched_is (tree.Size at y) t h = absurd cc
fetched_is (tree.Get at y e) t h = absurd cc
fetched_is (tree.Contains at y e) t h = absurd cc
fetched_is (tree.Query at ty text es) t h = absurd cc
fetched_is (tree.QueryLong at text es) t h = absurd cc
fetched_is (tree.QueryBoolean at text es) t h = absurd cc
fetched_is (tree.NewList at) t h = absurd cc
fetched_is (tree.NewSet at) t h = absurd cc
fetched_is (tree.NewSetOf at e) t h = absurd cc

variable_is : (e : Expression) (x : List ℕ) → source_of_list e ≡ Some (FromVariable x) → (at : Span) × (e ≡ tree.Var at x)
variable_is (tree.Var at y) x h = let same : y ≡ x = cc in (at, ap (tree.Var at) same)
variable_is (tree.Fetch at n) x h = absurd cc
variable_is (tree.Lit at y) x h = absurd cc
variable_is (tree.Field at e n) x h = absurd cc
variable_is (tree.Binary at op a b) x h = absurd cc
variable_is (tree.Not at e) x h = absurd cc
variable_is (tree.Equals at a b) x h = absurd cc
variable_is (tree.Size at y) x h = absurd cc
variable_is (tree.Get at y e) x h = absurd cc
variable_is (tree.Contains at y e) x h = absurd cc
variable_is (tree.Query at ty text es) x h = absurd cc
variable_is (tree.QueryLong at text es) x h = absurd cc
variable_is (tree.QueryBoolean at text es) x h = absurd cc
variable_is (tree.NewList at) x h = absurd cc
variable_is (tree.NewSet at) x h = absurd cc
variable_is (tree.NewSetOf at e) x h = absurd cc

-- the list of the fragment that has the number of a loop
pub list_there : (w : Setting) (j : ℕ) (s : Site) → slice_get (loop_sites w.sites) j ≡ Some s → slice_get (lists_of w w.sites) j ≡ Some (list_of w s.statement)
list_there w j s e = lists_by_number w w.sites j ∙ ap (option_map (list_of_site w)) e

-- ---- A variable that holds its list

pub held_rows : (o : Option Variable) (rows : List Row) → (found o >>= λ (held : Variable). Ok held.value) ≡ Ok (Many rows) → HoldsRows rows o
held_rows None rows e = absurd cc
held_rows (Some v) rows e = let same : v.value ≡ Many rows = cc in record { is_set = v.is_set; is = ap (λ z. Some (record { value = z; is_set = v.is_set })) same }

-- the rows of a for-each are those of the fragment's list
pub each_rows : (w : Setting) (world : World) (s : Statement) (at : Span) (ty : Spelled) (x : List ℕ) (e : Expression) (b : Statements) (rows : List Row) → s ≡ tree.ForEach at ty x e b → AreListed w world s rows → rows ≡ listed world.db (list_of w s)
each_rows w world s at ty x e b rows is l = let k : AreListed w world (tree.ForEach at ty x e b) rows = subst (λ z. AreListed w world z rows) is l in k.list ∙ ap (λ z. listed world.db (list_of w z)) (sym is)

pub variable_holds : (w : Setting) (world : World) (t : State) → ((n : ℕ) (site : Site) → slice_get w.sites n ≡ Some site → (at : Span) (ty : Spelled) (x : List ℕ) (e : Expression) (b : Statements) → site.statement ≡ tree.ForEach at ty x e b → HasList w world site.statement (value_of e world t.store)) → (j : ℕ) (x : List ℕ) → source_of_site (slice_get (loop_sites w.sites) j) ≡ Some (FromVariable x) → HoldsRows (list_at world.db (slice_get (lists_of w w.sites) j)) (at_name t.store x)
variable_holds w world t lists j x h =
    let s : Sourced w j (FromVariable x) = sourced w j (FromVariable x) h in
    let k : HasList w world s.site.statement (value_of s.walks.list world t.store) = lists s.loop.number s.site s.loop.there s.walks.at s.walks.ty s.walks.row s.walks.list s.walks.body s.walks.is in
    let v = variable_is s.walks.list x s.walks.source_is in
    let rows : HoldsRows k.rows (at_name t.store x) = held_rows (at_name t.store x) k.rows (sym (ap (λ z. value_of z world t.store) v.1) ∙ k.are) in
    let are : k.rows ≡ list_at world.db (slice_get (lists_of w w.sites) j) = each_rows w world s.site.statement s.walks.at s.walks.ty s.walks.row s.walks.list s.walks.body k.rows s.walks.is k.listed ∙ sym (ap (list_at world.db) (list_there w j s.site s.numbered)) in
    subst (λ z. HoldsRows z (at_name t.store x)) are rows

-- ---- A table that is fetched

module _ (schema : Schema) (read : List ℕ → Option PlainQuery) (f : Fragment) (g : Types) (k : IsSeenFragment schema read f g) where
  -- the table of a for-each is that of its source
  pub each_link : (n : ℕ) (site : Site) → slice_get (sites_of f.loop) n ≡ Some site → (at : Span) (ty : Spelled) (x : List ℕ) (e : Expression) (b : Statements) → site.statement ≡ tree.ForEach at ty x e b → (src : kernel.Source) → source_in f.run (tree.ForEach at ty x e b) ≡ Some src → IsLinkedTo schema (table_spelled schema ty) src
  each_link n site there at ty x e b is src source =
      let seen : SeenSite schema read k.result g site = at_number (SeenSite schema read k.result g) (sites_of f.loop) n site there (all_sites_seen schema read f g k) in
      let clean : IsClean schema read k.result seen.visible seen.around seen.last (tree.ForEach at ty x e b) = subst (IsClean schema read k.result seen.visible seen.around seen.last) is seen.clean in
      (each_linked schema read k.result f.run g (sources schema read f g k) seen.visible seen.types seen.around seen.last at ty x e b seen.sees seen.extends clean) src source
    where
      at_number : (P : Site → Type 0) (ss : List Site) (i : ℕ) (s : Site) → slice_get ss i ≡ Some s → AllByRecursion P ss → P s
      at_number P [] i s e h = absurd cc
      at_number P (y ∷ ss) zero s e h = let same : y ≡ s = cc in subst P same h.0
      at_number P (y ∷ ss) (suc i) s e h = at_number P ss i s e h.1

  pub table_whole : (j : ℕ) (t : List ℕ) → source_of_site (slice_get (loop_sites (sites_of f.loop)) j) ≡ Some (FromTable t) → (table_number schema t ≡ Some (table_of_site schema (slice_get (loop_sites (sites_of f.loop)) j))) × (slice_get (lists_of (setting_of schema read g f) (sites_of f.loop)) j ≡ Some (whole_list (table_of_site schema (slice_get (loop_sites (sites_of f.loop)) j))))
  table_whole j t h =
      let w : Setting = setting_of schema read g f in
      let s : Sourced w j (FromTable t) = sourced w j (FromTable t) h in
      let v = fetched_is s.walks.list t s.walks.source_is in
      let is : s.site.statement ≡ tree.ForEach s.walks.at s.walks.ty s.walks.row (tree.Fetch v.0 t) s.walks.body = s.walks.is ∙ ap (λ z. tree.ForEach s.walks.at s.walks.ty s.walks.row z s.walks.body) v.1 in
      let plain : kernel.Source = record { table = t; keys = []; downs = [] } in
      let l : IsLinkedTo schema (table_spelled schema s.walks.ty) plain = each_link s.loop.number s.site s.loop.there s.walks.at s.walks.ty s.walks.row (tree.Fetch v.0 t) s.walks.body is plain refl in
      let number : table_of_site schema (slice_get (loop_sites (sites_of f.loop)) j) ≡ table_spelled schema s.walks.ty = ap (table_of_site schema) s.numbered ∙ ap (table_of_loop schema) is in (
        l.number ∙ ap (λ z. Some z) (sym number),
        list_there w j s.site s.numbered ∙ ap (λ z. Some (list_of w z)) is ∙ ap (λ z. Some (whole_list z)) (sym number),
      )
