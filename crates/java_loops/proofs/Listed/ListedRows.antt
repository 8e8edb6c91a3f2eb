-- At the loop the list of each loop of a fragment is that of the lowered fragment.
use Rattle.std.proofs.Common.{◌≡◌, ℕ, Bool, true, false, not, ◌&&◌, List, [], Option, Some, None, Result, Ok, refl, sym, ap, ◌∙◌, subst}
use Rattle.std.specs.Prelude.{slice_get}
use Rattle.std.specs.List.{AllByRecursion}
use Rattle.std.proofs.lemmas.Bool.{and_parts}
use Rattle.qbs_base.specs.declared.scalar.Row.{Row}
use Rattle.qbs_base.specs.declared.scalar.Value.{Value}
use Rattle.qbs_base.specs.declared.scalar.Value.TheVariants.{Many}
use Rattle.qbs_base.specs.declared.span.Span.{Span}
use Rattle.qbs_base.specs.Named.{at_name}
use Rattle.qbs_base.specs.Values.{Schema, IsDatabaseOf}
use Rattle.qbs_base.specs.Columns.{table_number}
use Rattle.sql_ast.specs.Tree.{PlainQuery}
use Rattle.sql_ast.proofs.Tools.{all_at}
use Rattle.java_ast.specs.Tree as tree
use Rattle.java_ast.specs.Tree.{Spelled, Expression, Statement, Statements, Nothing, Then, PlainProgram}
use Rattle.java_mean.specs.declared.ending.Ending.{Ending}
use Rattle.java_mean.specs.Endings.{◌>>=◌, found}
use Rattle.java_mean.specs.Expression.{value_of}
use Rattle.java_mean.specs.Places as places
use Rattle.java_mean.specs.Places.{in_body}
use Rattle.java_mean.specs.Refines.{followed_by, fill, types_at}
use Rattle.java_mean.specs.Statement.{State, GoesOn, meanings}
use Rattle.java_mean.specs.Store.{Variable}
use Rattle.java_mean.specs.Types.{Types, types_past, types_of_params}
use Rattle.java_mean.specs.Visible.{Visible, with_params}
use Rattle.java_mean.specs.WellTyped.{IsWellTyped}
use Rattle.java_mean.specs.World.{World}
use Rattle.java_mean.proofs.Bridge.{nth_seen}
use Rattle.java_mean.proofs.Faultless.{Sees}
use Rattle.java_mean.proofs.Numbered.{rows_of_table}
use Rattle.java_loops.specs.Walks.Replacing.{run_and_loop}
use Rattle.loop_text.specs.Statements.Fragment.{Fragment, are_simple}
use Rattle.loop_text.specs.Kernel.KernelLists.{Source, source_past, source_of, source_in, source_counted}
use Rattle.java_loops.specs.Kernel.KernelLists.{allows_limit, broken_list, broken_lists}
use Rattle.loop_text.specs.Kernel.Counting.{Counting, counting}
use Rattle.loop_text.specs.Kernel.KernelLoop.{counting_in, limit_of, counts_in}
use Rattle.loop_text.specs.Statements.Loops.{is_loop}
use Rattle.java_loops.specs.Lowering.Numbering.{table_spelled, table_of_loop}
use Rattle.java_loops.specs.Kernel.Setting.{Setting, setting_of}
use Rattle.loop_text.specs.Statements.Setting.{is_found}
use Rattle.loop_text.specs.Sites.Sites.{Site, place_of, sites_of}
use Rattle.java_loops.proofs.Listed.Listed.{HasSource, source_left, ordered, unsorted, AreListed, are_listed}
use Rattle.java_loops.proofs.Listed.ListedSeen.{IsClean, AreClean, SeenAt, TypedSource, seen_at, seen_past, source_typed, first_clean}
use Rattle.java_loops.proofs.Listed.ListedSites.{IsLinkedTo, each_linked, counted_linked}
use Rattle.java_loops.proofs.Listed.ListedWalk.{SeenStatement, SeenSite, sites_seen}
use Rattle.java_loops.proofs.Nested.NestRules.{true_from_not}
use Rattle.java_loops.proofs.Placing.Place.{rest_of, followed_by-assoc, IsPlacedIn}
use Rattle.java_loops.proofs.Placing.PlaceTyped.{FragmentThere}
use Rattle.java_loops.proofs.Standing.StandingRules.{none_where, unbroken_at}

-- ---- A fragment that breaks no rule of types

-- No rule of types is broken at the run and at the loop of a fragment, where these types are visible at the loop.
pub record IsSeenFragment (schema : Schema) (read : List ℕ → Option PlainQuery) (f : Fragment) (g : Types) : Type 0 where
  pub result : Option Spelled
  pub before : Types
  pub behind : Statements
  pub is : g ≡ types_past schema before f.run
  pub seen : SeenAt schema read result before (followed_by f.run (Then f.loop behind))

fragment_is_seen : (schema : Schema) (read : List ℕ → Option PlainQuery) (p : PlainProgram) (path : List ℕ) (f : Fragment) (g : Types) → IsWellTyped schema read p → (k : IsPlacedIn p path f) → g ≡ types_past schema (types_at schema (types_of_params schema k.method.params) k.placed.hole) f.run → IsSeenFragment schema read f g
fragment_is_seen schema read p path f g t k e =
    let start : Types = types_of_params schema k.method.params in
    let vs : Visible = with_params schema [] k.method.params in
    let m = nth_seen schema read p.methods [] k.number k.method t k.found in
    let clean : AreClean schema read k.method.result vs in_body (fill k.placed.hole (run_and_loop f.run f.loop)) = subst (AreClean schema read k.method.result vs in_body) k.placed.is m.body in
    let there : SeenAt schema read k.method.result (types_at schema start k.placed.hole) (followed_by (run_and_loop f.run f.loop) (rest_of k.placed.hole)) = seen_at schema read k.method.result k.placed.hole (run_and_loop f.run f.loop) vs start in_body m.params clean in
    record {
      result = k.method.result;
      before = types_at schema start k.placed.hole;
      behind = rest_of k.placed.hole;
      is = e;
      seen = subst (SeenAt schema read k.method.result (types_at schema start k.placed.hole)) (followed_by-assoc f.run (Then f.loop Nothing) (rest_of k.placed.hole)) there;
    }

-- a fragment of a well-typed program is seen
pub fragment_seen : (schema : Schema) (read : List ℕ → Option PlainQuery) (p : PlainProgram) (path : List ℕ) (f : Fragment) (g : Types) → IsWellTyped schema read p → FragmentThere schema read p path f g → IsSeenFragment schema read f g
fragment_seen schema read p path f g t k = fragment_is_seen schema read p path f g t k.place k.is

-- at the loop
pub record LoopSeen (schema : Schema) (read : List ℕ → Option PlainQuery) (r : Option Spelled) (f : Fragment) (g : Types) : Type 0 where
  pub visible : Visible
  pub around : places.Around
  pub last : Bool
  pub sees : Sees visible g
  pub clean : IsClean schema read r visible around last f.loop

pub loop_seen : (schema : Schema) (read : List ℕ → Option PlainQuery) (f : Fragment) (g : Types) (k : IsSeenFragment schema read f g) → LoopSeen schema read k.result f g
loop_seen schema read f g k =
    let s : SeenAt schema read k.result (types_past schema k.before f.run) (Then f.loop k.behind) = seen_past schema read k.result f.run (Then f.loop k.behind) k.seen.visible k.before k.seen.around k.seen.sees k.seen.clean in
    let two = first_clean schema read k.result s.visible s.around f.loop k.behind s.clean in
    record { visible = s.visible; around = s.around; last = _; sees = subst (Sees s.visible) (sym k.is) s.sees; clean = two.0 }

-- no rule of types is broken at any site of the loop
pub all_sites_seen : (schema : Schema) (read : List ℕ → Option PlainQuery) (f : Fragment) (g : Types) (k : IsSeenFragment schema read f g) → AllByRecursion (SeenSite schema read k.result g) (sites_of f.loop)
all_sites_seen schema read f g k = let l : LoopSeen schema read k.result f g = loop_seen schema read f g k in sites_seen schema read k.result g f.loop l.visible l.around l.last l.sees l.clean

pub sources : (schema : Schema) (read : List ℕ → Option PlainQuery) (f : Fragment) (g : Types) (k : IsSeenFragment schema read f g) → (x : List ℕ) (s : Source) → source_past x None f.run ≡ Some s → TypedSource schema read k.result g x s
sources schema read f g k x s e = subst (λ z. TypedSource schema read k.result z x s) (sym k.is) (source_typed schema read k.result f.run (Then f.loop k.behind) k.before k.seen x s e)

-- ---- The rows of a list

-- the expression has the rows of the table that the source names, in its order
record SourceRows (world : World) (src : Source) (v : Result Value Ending) : Type 0 where
  rows : List Row
  there : at_name world.db src.table ≡ Some rows
  are : v ≡ Ok (Many (ordered world.schema src rows))

variable_rows : (world : World) (src : Source) (x : List ℕ) (t : State) → HasSource world src x t.store → SourceRows world src (found (at_name t.store x) >>= λ (held : Variable). Ok held.value)
variable_rows world src x t k = record { rows = k.rows; there = k.are; are = ap (λ o. found o >>= λ (held : Variable). Ok held.value) k.left ∙ ap (λ v. Ok v) k.value }

source_rows : (world : World) (run : Statements) (schema : Schema) (e : Expression) (src : Source) (n : ℕ) (s t : State) → IsDatabaseOf schema world.db → are_simple run ≡ true → meanings run world s ≡ Ok (GoesOn t) → table_number schema src.table ≡ Some n → source_of run e ≡ Some src → SourceRows world src (value_of e world t.store)
source_rows world run schema (tree.Fetch at table) src n s t db i m number f =
    let plain : Source = record { table = table; keys = []; downs = [] } in
    let same : plain ≡ src = (let l : Some plain ≡ Some src = f in cc) in
    let h = rows_of_table 0 schema world.db table n db (ap (λ (z : Source). table_number schema z.table) same ∙ number) in
    subst (λ z. SourceRows world z (value_of (tree.Fetch at table) world t.store)) same (record { rows = h.rows; there = h.there; are = ap (λ o. found o >>= λ rows. Ok (Many rows)) h.there ∙ ap (λ rows. Ok (Many rows)) (sym (unsorted h.rows)) })
source_rows world run schema (tree.Var at x) src n s t db i m number f = variable_rows world src x t (source_left world run x src s t i m f)
source_rows world run schema (tree.Lit at x) src n s t db i m number f = absurd cc
source_rows world run schema (tree.Field at e c) src n s t db i m number f = absurd cc
source_rows world run schema (tree.Binary at op a b) src n s t db i m number f = absurd cc
source_rows world run schema (tree.Not at e) src n s t db i m number f = absurd cc
source_rows world run schema (tree.Equals at a b) src n s t db i m number f = absurd cc
source_rows world run schema (tree.Size at x) src n s t db i m number f = absurd cc
source_rows world run schema (tree.Get at x e) src n s t db i m number f = absurd cc
source_rows world run schema (tree.Contains at x e) src n s t db i m number f = absurd cc
source_rows world run schema (tree.Query at ty text es) src n s t db i m number f = absurd cc
source_rows world run schema (tree.QueryLong at text es) src n s t db i m number f = absurd cc
source_rows world run schema (tree.QueryBoolean at text es) src n s t db i m number f = absurd cc
source_rows world run schema (tree.NewList at) src n s t db i m number f = absurd cc
source_rows world run schema (tree.NewSet at) src n s t db i m number f = absurd cc
source_rows world run schema (tree.NewSetOf at e) src n s t db i m number f = absurd cc

-- The list of a loop has these rows, which are those of the fragment's list.
pub record HasList (w : Setting) (world : World) (loop : Statement) (v : Result Value Ending) : Type 0 where
  pub rows : List Row
  pub are : v ≡ Ok (Many rows)
  pub listed : AreListed w world loop rows

has_list : (w : Setting) (world : World) (loop : Statement) (src : Source) (v : Result Value Ending) → world.schema ≡ w.schema → IsDatabaseOf w.schema world.db → source_in w.fragment.run loop ≡ Some src → IsLinkedTo w.schema (table_of_loop w.schema loop) src → SourceRows world src v → HasList w world loop v
has_list w world loop src v same db e k h = record { rows = ordered world.schema src h.rows; are = h.are; listed = are_listed w world loop src h.rows same db e k.number k.keys h.there }

-- a source that no rule misses
found_source : (o : Option Source) → is_found o ≡ true → (s : Source) × (o ≡ Some s)
found_source None h = absurd cc
found_source (Some s) h = (s, refl)

pub loop_has_source : (w : Setting) → broken_lists w ≡ None → (n : ℕ) (s : Site) → slice_get w.sites n ≡ Some s → is_loop s.statement ≡ true → (src : Source) × (source_in w.fragment.run s.statement ≡ Some src)
loop_has_source w h n s q l =
    let ok : Bool = is_found (source_in w.fragment.run s.statement) && allows_limit w s.statement (limit_of (counting_in s.statement)) in
    let broken : (is_loop s.statement && not ok) ≡ false = none_where (is_loop s.statement && not ok) (place_of s.statement) (unbroken_at (broken_list w) w.sites h n s q) in
    let two = and_parts (is_found (source_in w.fragment.run s.statement)) (allows_limit w s.statement (limit_of (counting_in s.statement))) (true_from_not ok (sym (ap (λ b. b && not ok) l) ∙ broken)) in
    found_source (source_in w.fragment.run s.statement) two.0

-- ---- The lists of all loops

module _ (schema : Schema) (read : List ℕ → Option PlainQuery) (f : Fragment) (g : Types) (k : IsSeenFragment schema read f g) (world : World) (same : world.schema ≡ schema) (db : IsDatabaseOf schema world.db) (s t : State) (simple : are_simple f.run ≡ true) (runs : meanings f.run world s ≡ Ok (GoesOn t)) where
  abbrev at_fragment : Setting
  at_fragment = setting_of schema read g f

  each_statement : (loop : Statement) (at : Span) (ty : Spelled) (x : List ℕ) (e : Expression) (b : Statements) → loop ≡ tree.ForEach at ty x e b → SeenStatement schema read k.result g loop → (src : Source) → source_in f.run loop ≡ Some src → HasList at_fragment world loop (value_of e world t.store)
  each_statement loop at ty x e b is seen src i =
      let each : Statement = tree.ForEach at ty x e b in
      let source : source_of f.run e ≡ Some src = ap (source_in f.run) (sym is) ∙ i in
      let clean : IsClean schema read k.result seen.visible seen.around seen.last each = subst (IsClean schema read k.result seen.visible seen.around seen.last) is seen.clean in
      let link : IsLinkedTo schema (table_spelled schema ty) src = (each_linked schema read k.result f.run g (sources schema read f g k) seen.visible seen.types seen.around seen.last at ty x e b seen.sees seen.extends clean) src source in
      subst (λ z. HasList at_fragment world z (value_of e world t.store)) (sym is) (has_list at_fragment world each src (value_of e world t.store) same db source link (source_rows world f.run schema e src (table_spelled schema ty) s t db simple runs link.number source))

  -- Where the run passes, each for-each of the fragment goes over the list of the lowered fragment.
  pub each_list : broken_lists (setting_of schema read g f) ≡ None → (n : ℕ) (site : Site) → slice_get (sites_of f.loop) n ≡ Some site → (at : Span) (ty : Spelled) (x : List ℕ) (e : Expression) (b : Statements) → site.statement ≡ tree.ForEach at ty x e b → HasList (setting_of schema read g f) world site.statement (value_of e world t.store)
  each_list unbroken n site q at ty x e b is =
      let src = loop_has_source at_fragment unbroken n site q (ap is_loop is) in
      each_statement site.statement at ty x e b is (all_at (SeenSite schema read k.result g) (sites_of f.loop) n site (all_sites_seen schema read f g k) q) src.0 src.1

  -- Where the run passes, the list of a loop that counts, which has this source, holds that of the lowered fragment.
  pub counted_list : (at : Span) (c : Expression) (b : Statements) (i : Counting) → f.loop ≡ tree.While at c b → counting c ≡ Some i → counts_in i b ≡ true → (src : Source) → source_in f.run f.loop ≡ Some src → HasList (setting_of schema read g f) world f.loop (found (at_name t.store i.list) >>= λ (held : Variable). Ok held.value)
  counted_list at c b i is e counts src q =
      let l : LoopSeen schema read k.result f g = loop_seen schema read f g k in
      let there : source_in f.run (tree.While at c b) ≡ Some src = ap (source_in f.run) (sym is) ∙ q in
      let source : source_past i.list None f.run ≡ Some src = sym (ap (source_counted f.run) e) ∙ there in
      let clean : IsClean schema read k.result l.visible l.around l.last (tree.While at c b) = subst (IsClean schema read k.result l.visible l.around l.last) is l.clean in
      let link : IsLinkedTo schema (table_of_loop schema (tree.While at c b)) src = counted_linked schema read k.result f.run g (sources schema read f g k) i at c b l.visible l.around l.last src l.sees clean counts source in
      subst (λ z. HasList at_fragment world z (found (at_name t.store i.list) >>= λ (held : Variable). Ok held.value)) (sym is)
      (has_list at_fragment world (tree.While at c b) src (found (at_name t.store i.list) >>= λ (held : Variable). Ok held.value) same db there link (variable_rows world src i.list t (source_left world f.run i.list src s t simple runs source)))
