-- The tables and keys of a lowered fragment's lists are those of the schema.
use Rattle.std.proofs.Common.{◌≡◌, ℕ, zero, suc, ◌+◌, ◌<◌, Bool, true, false, List, [], ◌∷◌, length, map, Option, Some, None, refl, sym, ap, ◌∙◌, subst, cond, arith}
use Rattle.std.specs.Prelude.{slice_get, get_or}
use Rattle.std.specs.List.{AllByRecursion, position}
use Rattle.std.proofs.lemmas.List.Quantifiers.{position-Some}
use Rattle.std.proofs.lemmas.Option.{slice_get_within, slice_get-get_or}
use Rattle.qbs_base.specs.declared.columns.Column.{Column}
use Rattle.qbs_base.specs.declared.span.Span.{Span}
use Rattle.qbs_base.specs.Values.{Schema}
use Rattle.qbs_base.specs.Columns.{table_number, column_number, columns_at}
use Rattle.sql_ast.proofs.Combinations.{all_append}
use Rattle.sql_ast.specs.Tree.{PlainQuery}
use Rattle.java_ast.specs.Tree as tree
use Rattle.java_ast.specs.Tree.{Spelled, Expression, Statement, Statements}
use Rattle.java_mean.specs.Types.{Types}
use Rattle.kernel_lang.specs.declared.parts.Col.{Col}
use Rattle.kernel_lang.specs.declared.parts.ListDef.{ListDef}
use Rattle.kernel_lang.specs.Fitting.{Place, key_places}
use Rattle.java_loops.specs.Walks.ChainStarts.{HasColumnAt}
use Rattle.loop_text.specs.Statements.Fragment.{Fragment}
use Rattle.loop_text.specs.Kernel.KernelLists as kernel
use Rattle.loop_text.specs.Kernel.KernelLists.{source_in, source_counted}
use Rattle.loop_text.specs.Kernel.KernelLoop.{is_while}
use Rattle.loop_text.specs.Statements.Loops.{is_loop}
use Rattle.java_loops.specs.Lowering.Lowered.{keys_of, keys_found, list_of, lists_of}
use Rattle.java_loops.specs.Lowering.Numbering.{found_number, table_of_loop, table_of_site}
use Rattle.java_loops.specs.Kernel.Setting.{Setting, setting_of}
use Rattle.loop_text.specs.Sites.Sites.{Site, outside, sites_of}
use Rattle.java_loops.proofs.Listed.Listed.{KeysKnown}
use Rattle.java_loops.proofs.Listed.ListedRows.{IsSeenFragment, LoopSeen, loop_seen, sources, loop_has_source}
use Rattle.java_loops.proofs.Listed.ListedSeen.{IsClean}
use Rattle.java_loops.proofs.Listed.ListedSites.{IsLinkedTo, counted_linked}
use Rattle.java_loops.proofs.Meant.MeanLists.{LoopAt, loop_at, each_link}
use Rattle.java_loops.proofs.Nested.NestRules.{Unbroken, behind_first}
use Rattle.java_loops.proofs.Numbers.Numberings.{loop_sites, numbering}
use Rattle.java_loops.proofs.Standing.Standing.{site_of}
use Rattle.java_loops.proofs.Standing.StandingSites.{loop_first}
use Rattle.java_loops.proofs.Starts.StartCounter.{IsCounted, loop_counts, inner_counts_not}

-- ---- Places of names

-- what stands at the place of the first that passes
position_at : {A : Type 0} (test : A → Bool) (xs : List A) (i : ℕ) → position test xs ≡ Some i → (x : A) × (slice_get xs i ≡ Some x)
position_at test [] i e = absurd cc
position_at test (y ∷ ys) i e = let k = position-Some test (y ∷ ys) i y e in (get_or (y ∷ ys) i y, slice_get-get_or (y ∷ ys) i y k.0)

table_within : (schema : Schema) (t : List ℕ) (n : ℕ) → table_number schema t ≡ Some n → n < length schema
table_within schema t n e = let k = position_at _ schema n e in slice_get_within schema n k.0 k.1

-- ---- Lists one by one

lists_step : (w : Setting) (s : Site) (ds : List ListDef) (ss : List Site) (b : Bool) → ds ≡ map (λ (x : Site). list_of w x.statement) ss → cond b (list_of w s.statement ∷ ds) ds ≡ map (λ (x : Site). list_of w x.statement) (cond b (s ∷ ss) ss)
lists_step w s ds ss true e = ap (λ z. list_of w s.statement ∷ z) e
lists_step w s ds ss false e = e

lists_are : (w : Setting) (ss : List Site) → lists_of w ss ≡ map (λ (x : Site). list_of w x.statement) (loop_sites ss)
lists_are w [] = refl
lists_are w (s ∷ ss) = lists_step w s (lists_of w ss) (loop_sites ss) (is_loop s.statement) (lists_are w ss)

all_tables : (w : Setting) (P : ListDef → Type 0) (qs : List Site) → ((i : ℕ) (s : Site) → slice_get qs i ≡ Some s → P (list_of w s.statement)) → AllByRecursion P (map (λ (x : Site). list_of w x.statement) qs)
all_tables w P [] h = tt
all_tables w P (s ∷ qs) h = (h 0 s refl, all_tables w P qs (λ i q e. h (suc i) q e))

-- the places of the keys of one list
abbrev keys_at : ℕ → List Col → List Place
keys_at j keys = map (λ (key : Col). (j, key.column)) keys

all_keys : (w : Setting) (P : Place → Type 0) (qs : List Site) (j : ℕ) → ((i k : ℕ) (s : Site) → j + i ≡ k → slice_get qs i ≡ Some s → AllByRecursion P (keys_at k (list_of w s.statement).keys)) → AllByRecursion P (key_places j (map (λ (x : Site). list_of w x.statement) qs))
all_keys w P [] j h = tt
all_keys w P (s ∷ qs) j h = all_append P (keys_at j (list_of w s.statement).keys) (key_places (suc j) (map (λ (x : Site). list_of w x.statement) qs)) (h 0 j s (omega arith) refl) (all_keys w P qs (suc j) (λ i k q e g. h (suc i) k q (omega (arith, e)) g))

-- known keys are columns of their table
known_keys : (w : Setting) (table j : ℕ) → table ≡ (numbering w).tables j → (keys : List (List ℕ)) (downs : List Bool) → KeysKnown (columns_at w.schema table) keys → AllByRecursion (HasColumnAt (numbering w)) (keys_at j (keys_of (columns_at w.schema table) keys downs))
known_keys w table j e [] downs h = tt
known_keys w table j e (k ∷ ks) [] h = tt
known_keys w table j e (k ∷ ks) (down ∷ downs) h =
    let at = position_at _ (columns_at w.schema table) h.0.0 h.0.1 in
    let number : found_number (column_number (columns_at w.schema table) k) ≡ h.0.0 = ap found_number h.0.1 in
    (record { column = at.0; there = ap (λ z. slice_get (columns_at w.schema z) (found_number (column_number (columns_at w.schema table) k))) (sym e) ∙ ap (slice_get (columns_at w.schema table)) number ∙ at.1 }, known_keys w table j e ks downs h.1)

-- ---- The sources of all loops

while_is : (s : Statement) → is_while s ≡ false → (at : Span) (q : Expression) (b : Statements) → s ≡ tree.While at q b → ⊥
while_is s h at q b e = let k : is_while s ≡ true = ap is_while e in absurd cc

module _ (schema : Schema) (read : List ℕ → Option PlainQuery) (f : Fragment) (g : Types) (k : IsSeenFragment schema read f g) (u : Unbroken (setting_of schema read g f)) where
  abbrev at_fragment : Setting
  at_fragment = setting_of schema read g f

  -- the whole loop where it counts
  counted_link : (at : Span) (q : Expression) (b : Statements) → f.loop ≡ tree.While at q b → (src : kernel.Source) → source_in f.run (tree.While at q b) ≡ Some src → IsLinkedTo schema (table_of_loop schema (tree.While at q b)) src
  counted_link at q b is src h =
      let c : IsCounted f q b = loop_counts at_fragment u.loop at q b is in
      let l : LoopSeen schema read k.result f g = loop_seen schema read f g k in
      let clean : IsClean schema read k.result l.visible l.around l.last (tree.While at q b) = subst (IsClean schema read k.result l.visible l.around l.last) is l.clean in
      counted_linked schema read k.result f.run g (sources schema read f g k) c.count at q b l.visible l.around l.last src l.sees clean c.body (sym (ap (source_counted f.run) c.is) ∙ h)

  while_link : (n : ℕ) (s : Site) → slice_get (sites_of f.loop) n ≡ Some s → (at : Span) (q : Expression) (b : Statements) → s.statement ≡ tree.While at q b → (src : kernel.Source) → source_in f.run (tree.While at q b) ≡ Some src → IsLinkedTo schema (table_of_loop schema (tree.While at q b)) src
  while_link zero s get at q b is src h =
      let first : slice_get (sites_of f.loop) 0 ≡ Some (site_of outside None f.loop) = loop_first f.loop in
      let same : site_of outside None f.loop ≡ s = (let e : Some (site_of outside None f.loop) ≡ Some s = sym first ∙ get in cc) in
      counted_link at q b (ap (λ (z : Site). z.statement) same ∙ is) src h
  while_link (suc n) s get at q b is src h = absurd (while_is s.statement (behind_first (sites_of f.loop) n s (inner_counts_not at_fragment u.loop) get) at q b is)

  -- the table of each loop is that of its source
  statement_link : (n : ℕ) (site : Site) → slice_get (sites_of f.loop) n ≡ Some site → (s : Statement) → site.statement ≡ s → (src : kernel.Source) → source_in f.run s ≡ Some src → IsLinkedTo schema (table_of_loop schema s) src
  statement_link n site get (tree.ForEach at ty x e b) is src h = each_link schema read f g k n site get at ty x e b is src h
  statement_link n site get (tree.While at q b) is src h = while_link n site get at q b is src h
  statement_link n site get (tree.Declare at ty x e) is src h = absurd cc
  statement_link n site get (tree.Assign at x e) is src h = absurd cc
  statement_link n site get (tree.Add at x e) is src h = absurd cc
  statement_link n site get (tree.Sort at x keys downs) is src h = absurd cc
  statement_link n site get (tree.If at e p) is src h = absurd cc
  statement_link n site get (tree.IfElse at e p q) is src h = absurd cc
  statement_link n site get (tree.Print at e) is src h = absurd cc
  statement_link n site get (tree.Return at e) is src h = absurd cc
  statement_link n site get (tree.Break at) is src h = absurd cc

  record Linked (s : Site) : Type 0 where
    source : kernel.Source
    is : source_in f.run s.statement ≡ Some source
    link : IsLinkedTo schema (table_of_loop schema s.statement) source

  linked : (i : ℕ) (s : Site) → slice_get (loop_sites (sites_of f.loop)) i ≡ Some s → Linked s
  linked i s e =
      let l : LoopAt (sites_of f.loop) s = loop_at (sites_of f.loop) s i e in
      let src = loop_has_source at_fragment u.lists l.number s l.there l.is_loop in
      record { source = src.0; is = src.1; link = statement_link l.number s l.there s.statement refl src.0 src.1 }

  -- the table of each list is in the schema
  pub tables_known : AllByRecursion (λ (d : ListDef). d.table < length schema) (lists_of (setting_of schema read g f) (sites_of f.loop))
  tables_known =
      subst (AllByRecursion (λ (d : ListDef). d.table < length schema)) (sym (lists_are at_fragment (sites_of f.loop)))
      (all_tables at_fragment (λ (d : ListDef). d.table < length schema) (loop_sites (sites_of f.loop)) (λ i s e. let l : Linked s = linked i s e in table_within schema l.source.table (table_of_loop schema s.statement) l.link.number))

  keys_made : (i : ℕ) (s : Site) → slice_get (loop_sites (sites_of f.loop)) i ≡ Some s → AllByRecursion (HasColumnAt (numbering at_fragment)) (keys_at i (list_of at_fragment s.statement).keys)
  keys_made i s e =
      let l : Linked s = linked i s e in
      let columns : List Column = columns_at schema (table_of_loop schema s.statement) in
      let table : table_of_loop schema s.statement ≡ (numbering at_fragment).tables i = table_here i s e in
      subst (λ o. AllByRecursion (HasColumnAt (numbering at_fragment)) (keys_at i (keys_found columns o))) (sym l.is) (known_keys at_fragment (table_of_loop schema s.statement) i table l.source.keys l.source.downs l.link.keys)
    where
      table_here : (i : ℕ) (s : Site) → slice_get (loop_sites (sites_of f.loop)) i ≡ Some s → table_of_loop schema s.statement ≡ (numbering at_fragment).tables i
      table_here i s e = sym (ap (table_of_site schema) e)

  -- each key is a column of its table
  pub keys_known : AllByRecursion (HasColumnAt (numbering (setting_of schema read g f))) (key_places 0 (lists_of (setting_of schema read g f) (sites_of f.loop)))
  keys_known =
      subst (λ ds. AllByRecursion (HasColumnAt (numbering at_fragment)) (key_places 0 ds)) (sym (lists_are at_fragment (sites_of f.loop)))
      (all_keys at_fragment (HasColumnAt (numbering at_fragment)) (loop_sites (sites_of f.loop)) 0 (λ i k s q e. keys_made k s (subst (λ n. slice_get (loop_sites (sites_of f.loop)) n ≡ Some s) (zero_first i k q) e)))
    where
      zero_first : (i k : ℕ) → 0 + i ≡ k → i ≡ k
      zero_first i k e = omega arith
