-- What is visible at each site of a typed loop.
use Rattle.std.proofs.Common.{◌≡◌, ℕ, zero, suc, ◌<◌, ◌≤◌, true, List, length, Option, Some, None, refl, sym, ap, ◌∙◌, subst, slice_get, arith, ⊎_elim}
use Rattle.std.proofs.lemmas.Bool.{cases_lt, cases_eq, cond-false, and_parts}
use Rattle.std.proofs.lemmas.Option.{slice_get_within}
use Rattle.qbs_base.specs.declared.span.Span.{Span}
use Rattle.java_ast.specs.Tree as tree
use Rattle.java_ast.specs.Tree.{Spelled, Expression, Statement, Statements, Nothing, Then}
use Rattle.java_mean.specs.declared.types.JavaType.{JavaType}
use Rattle.java_mean.specs.declared.types.JavaType.TheVariants.{Of}
use Rattle.java_mean.specs.declared.types.Single.{Single}
use Rattle.java_mean.specs.declared.types.Single.TheVariants.{RowOf}
use Rattle.java_mean.specs.Types.{Types, with_type, type_spelled}
use Rattle.java_mean.specs.Typing.{Frame, HasType, Has, IsNew, is_new_list, is_new_set, bool, TypedStatement, declare, assign, add, sort, when as when_typed, choose as choose_typed, for_each, for_each_new, while_true, print, return_none, return_value, leave, TypedStatements, done, next as next_typed}
use Rattle.loop_text.specs.Statements.Fragment.{is_name}
use Rattle.loop_text.specs.Kernel.KernelLists.{source_of}
use Rattle.loop_text.specs.Kernel.Counting.{counting}
use Rattle.loop_text.specs.Kernel.KernelLoop.{is_kernel_loop}
use Rattle.loop_text.specs.Kernel.KernelStatements.{is_boolean, is_truth_literal}
use Rattle.java_loops.specs.Lowering.Numbering.{loop_number, table_spelled}
use Rattle.java_loops.specs.Kernel.Setting.{Setting}
use Rattle.loop_text.specs.Statements.Setting.{is_found}
use Rattle.loop_text.specs.declared.sites.bindings.Binding.TheVariants.{Row}
use Rattle.loop_text.specs.Sites.Sites.{Round, Site, binding_at, counted_row, in_loop, outside, kernel_body, sites_of, without_first, without_last, before_last}
use Rattle.java_loops.proofs.Typing.BoundSteps.{bound_next, bound_past, bound_other}
use Rattle.java_loops.proofs.Typing.BoundTyping.{typed_if, typed_choice, over, over_new, typed_each, typed_while, row_new, typed_next, TypedDeclare, typed_declare}
use Rattle.java_loops.proofs.Formed.FormSight.{sighted_first, sighted_kept, with_row, sighted_each, sighted_counted, sighted_declared}
use Rattle.java_loops.proofs.Formed.FormTables.{RowsSpelled, each_spelled, TakesRow, counted_row_taken, table_typed}
use Rattle.java_loops.proofs.Nested.NestRules.{Unbroken, allowed_at, listed_at, loop_parts}
use Rattle.java_loops.proofs.Numbers.Numberings.{Sighted}
use Rattle.java_loops.proofs.Standing.Standing.{site_of, Stands, single, when, choose, walks, repeats, AllStand, nothing, next}
use Rattle.java_loops.proofs.Standing.StandingRules.{get_same}
use Rattle.java_loops.proofs.Standing.StandingSites.{body_stands, loop_first}

-- the types that are visible at a site, at which its statement is typed, and the numbers of the loops round it
pub record TypedSite (w : Setting) (c : Frame) (k : ℕ) (s : Site) : Type 0 where
  pub body : Option Types
  pub types : Types
  pub after : Types
  pub loops : List ℕ → Option ℕ
  pub typed : TypedStatement c body types s.statement after
  pub sighted : Sighted w k types loops

record Located (w : Setting) (c : Frame) (k : ℕ) : Type 0 where
  site : Site
  there : slice_get w.sites k ≡ Some site
  typed : TypedSite w c k site

later : (n k : ℕ) → n ≤ k → (n ≡ k → ⊥) → suc n ≤ k
later n k low other = ⊎_elim (λ l. l) (λ h. absurd (other (omega arith))) (cases_lt n k)

record IsDeclared (sites : List Site) (r : Round) (previous : Option Statement) (s : Statement) (n m : ℕ) : Type 0 where
  one_more : suc n ≡ m
  there : slice_get sites n ≡ Some (site_of r previous s)

declared_stands : (sites : List Site) (r : Round) (previous : Option Statement) (at : Span) (ty : Spelled) (x : List ℕ) (e : Expression) (n m : ℕ) → Stands sites r previous (tree.Declare at ty x e) n m → IsDeclared sites r previous (tree.Declare at ty x e) n m
declared_stands sites _ _ _ _ _ _ _ _ (single r previous s n one get) = record { one_more = refl; there = get }

-- a list that is new is none of the run
new_unlisted : (e : Expression) → IsNew e → (w : Setting) → is_found (source_of w.fragment.run e) ≡ true → ⊥
new_unlisted _ (is_new_list at) w h = absurd cc
new_unlisted _ (is_new_set at) w h = absurd cc

boolean_type : (c : Frame) (ty : Spelled) (k : JavaType) → is_boolean ty ≡ true → type_spelled c.schema ty ≡ Some k → k ≡ bool
boolean_type c tree.Boolean k h e = let l : Some bool ≡ Some k = e in cc
boolean_type c tree.Int k h e = absurd cc
boolean_type c tree.Long k h e = absurd cc
boolean_type c tree.String k h e = absurd cc
boolean_type c tree.BoxedInteger k h e = absurd cc
boolean_type c tree.BoxedLong k h e = absurd cc
boolean_type c tree.BoxedBoolean k h e = absurd cc
boolean_type c (tree.Table name) k h e = absurd cc
boolean_type c (tree.ListOf el) k h e = absurd cc
boolean_type c (tree.SetOf el) k h e = absurd cc

module _ (w : Setting) (c : Frame) (same : c.schema ≡ w.schema) (u : Unbroken w) (spelled : RowsSpelled w) where
  here : (r : Round) (previous : Option Statement) (s : Statement) (n k : ℕ) (l : Option Types) (g h : Types) (loops : List ℕ → Option ℕ) → slice_get w.sites n ≡ Some (site_of r previous s) → TypedStatement c l g s h → Sighted w n g loops → n ≡ k → Located w c k
  here r previous s n k l g h loops get t sight e = subst (λ i. Located w c i) e (record { site = site_of r previous s; there = get; typed = record { body = l; types = g; after = h; loops = loops; typed = t; sighted = sight } })

  kept_past : (r : Round) (previous : Option Statement) (s : Statement) (n m : ℕ) → Stands w.sites r previous s n m → (l : Option Types) (g : Types) (loops : List ℕ → Option ℕ) → TypedStatement c l g s g → Sighted w n g loops → Sighted w m g loops
  kept_past r previous s n m stands l g loops t sight = sighted_kept w n m g loops (λ x j i. bound_past c w.sites r previous s n m stands l g g t x j i) sight

  -- behind a statement
  past_sighted : (r : Round) (previous : Option Statement) (s : Statement) (n m : ℕ) → Stands w.sites r previous s n m → (l : Option Types) (g h : Types) (loops : List ℕ → Option ℕ) → TypedStatement c l g s h → Sighted w n g loops → Sighted w m h loops
  past_sighted r previous _ n m stands _ _ _ loops (declare l g at ty x e k new q t) sight =
      let d : IsDeclared w.sites r previous (tree.Declare at ty x e) n m = declared_stands w.sites r previous at ty x e n m stands in
      let allowed = and_parts (is_boolean ty) (is_truth_literal e) (allowed_at w u n (site_of r previous (tree.Declare at ty x e)) d.there) in
      let type : k ≡ bool = boolean_type c ty k allowed.0 q in
      subst (λ z. Sighted w m (with_type x (Some z) g) loops) (sym type) (subst (λ i. Sighted w i (with_type x (Some bool) g) loops) d.one_more (sighted_declared w n g loops r previous at ty x e d.there sight))
  past_sighted r previous _ n m stands _ _ _ loops (assign l g at x e k i t) sight = kept_past r previous (tree.Assign at x e) n m stands l g loops (assign l g at x e k i t) sight
  past_sighted r previous _ n m stands _ _ _ loops (add l g at x e k a i has t) sight = kept_past r previous (tree.Add at x e) n m stands l g loops (add l g at x e k a i has t) sight
  past_sighted r previous _ n m stands _ _ _ loops (sort l g at x keys down a i) sight = kept_past r previous (tree.Sort at x keys down) n m stands l g loops (sort l g at x keys down a i) sight
  past_sighted r previous _ n m stands _ _ _ loops (when_typed l g z at e p t v) sight = kept_past r previous (tree.If at e p) n m stands l g loops (when_typed l g z at e p t v) sight
  past_sighted r previous _ n m stands _ _ _ loops (choose_typed l g z z' at e p q t v v') sight = kept_past r previous (tree.IfElse at e p q) n m stands l g loops (choose_typed l g z z' at e p q t v v') sight
  past_sighted r previous _ n m stands _ _ _ loops (for_each l g z at ty x e p k a new t has v) sight = kept_past r previous (tree.ForEach at ty x e p) n m stands l g loops (for_each l g z at ty x e p k a new t has v) sight
  past_sighted r previous _ n m stands _ _ _ loops (for_each_new l g z at ty x e p k new q isnew v) sight = kept_past r previous (tree.ForEach at ty x e p) n m stands l g loops (for_each_new l g z at ty x e p k new q isnew v) sight
  past_sighted r previous _ n m stands _ _ _ loops (while_true l g z at e p t v) sight = kept_past r previous (tree.While at e p) n m stands l g loops (while_true l g z at e p t v) sight
  past_sighted r previous _ n m stands _ _ _ loops (print l g at e ty t) sight = kept_past r previous (tree.Print at e) n m stands l g loops (print l g at e ty t) sight
  past_sighted r previous _ n m stands _ _ _ loops (return_none l g at q) sight = kept_past r previous (tree.Return at None) n m stands l g loops (return_none l g at q) sight
  past_sighted r previous _ n m stands _ _ _ loops (return_value l g at e k q t) sight = kept_past r previous (tree.Return at (Some e)) n m stands l g loops (return_value l g at e k q t) sight
  past_sighted r previous _ n m stands _ _ _ loops (leave b g at ex) sight = kept_past r previous (tree.Break at) n m stands (Some b) g loops (leave b g at ex) sight

  source_found : (r : Round) (previous : Option Statement) (at : Span) (ty : Spelled) (x : List ℕ) (e : Expression) (p : Statements) (n : ℕ) → slice_get w.sites n ≡ Some (site_of r previous (tree.ForEach at ty x e p)) → is_found (source_of w.fragment.run e) ≡ true
  source_found r previous at ty x e p n get = listed_at w u n (site_of r previous (tree.ForEach at ty x e p)) get refl

  each_sighted : (r : Round) (previous : Option Statement) (at : Span) (ty : Spelled) (x : List ℕ) (e : Expression) (p : Statements) (n : ℕ) (g : Types) (loops : List ℕ → Option ℕ) (k : JavaType) (a : Single) → slice_get w.sites n ≡ Some (site_of r previous (tree.ForEach at ty x e p)) → HasType c g e k → Has k a → Sighted w n g loops → Sighted w (suc n) (with_type x (Some (Of a)) g) (with_row x (loop_number w.sites n) loops)
  each_sighted r previous at ty x e p n g loops k a get t has sight =
      sighted_each w n g loops r previous at ty x e p (Of a) get (each_spelled w c same n g loops sight at ty x e p k a (spelled.by n (site_of r previous (tree.ForEach at ty x e p)) get) (source_found r previous at ty x e p n get) t has) sight

  mutual
    site_in : (r : Round) (previous : Option Statement) (s : Statement) (n m : ℕ) → Stands w.sites r previous s n m → (l : Option Types) (g h : Types) (loops : List ℕ → Option ℕ) → TypedStatement c l g s h → Sighted w n g loops → (k : ℕ) → n ≤ k → k < m → Located w c k
    site_in _ _ _ _ _ (single r previous s n one get) l g h loops t sight k low high = here r previous s n k l g h loops get t sight (omega arith)
    site_in _ _ _ _ _ (when r previous at q p n m get all) l g h loops t sight k low high =
        ⊎_elim
        (λ e. here r previous (tree.If at q p) n k l g h loops get t sight e)
        (λ e. let v = typed_if c l g h at q p t in all_sites _ _ p (suc n) m all l g v.branch.last loops v.branch.body (sighted_kept w n (suc n) g loops (λ x j i. bound_next w.sites n (site_of r previous (tree.If at q p)) x get) sight) k (later n k low e) high)
        (cases_eq n k)
    site_in _ _ _ _ _ (choose r previous at q p o n m z get all other) l g h loops t sight k low high =
        ⊎_elim
        (λ e. here r previous (tree.IfElse at q p o) n k l g h loops get t sight e)
        (λ e. let v = typed_choice c l g h at q p o t in
        ⊎_elim
        (λ before. all_sites _ _ p (suc n) m all l g v.branch.last loops v.branch.body (sighted_kept w n (suc n) g loops (λ x j i. bound_next w.sites n (site_of r previous (tree.IfElse at q p o)) x get) sight) k (later n k low e) before)
        (λ behind. all_sites _ _ o m z other l g v.other.last loops v.other.body (sighted_kept w n m g loops (λ x j i. bound_other c w.sites r previous at q p o n m get all l g v.branch.last v.branch.body x j i) sight) k behind high)
        (cases_lt k m))
        (cases_eq n k)
    site_in _ _ _ _ _ (walks r previous at ty x q p n m get all) l g h loops t sight k low high =
        ⊎_elim
        (λ e. here r previous (tree.ForEach at ty x q p) n k l g h loops get t sight e)
        (λ e. elim (typed_each c l g h at ty x q p t) [
          | over z j a new v has y ↦ all_sites _ _ p (suc n) m all (Some (with_type x (Some (Of a)) g)) (with_type x (Some (Of a)) g) z (with_row x (loop_number w.sites n) loops) y (each_sighted r previous at ty x q p n g loops j a get v has sight) k (later n k low e) high
          | over_new z j new isnew y ↦ absurd (new_unlisted q isnew w (source_found r previous at ty x q p n get))
        ])
        (cases_eq n k)
    site_in _ _ _ _ _ (repeats r previous at q p n m get all) l g h loops t sight k low high =
        ⊎_elim
        (λ e. here r previous (tree.While at q p) n k l g h loops get t sight e)
        (λ e. let v = typed_while c l g h at q p t in all_sites _ _ p (suc n) m all (Some g) g v.branch.last loops v.branch.body (sighted_kept w n (suc n) g loops (λ x j i. bound_next w.sites n (site_of r previous (tree.While at q p)) x get ∙ cond-false (is_name (counted_row p) x) (Row n) (binding_at w.sites n x) (row_new c (Some g) g v.branch.last p v.branch.body x j i)) sight) k (later n k low e) high)
        (cases_eq n k)

    all_sites : (r : Round) (previous : Option Statement) (p : Statements) (n m : ℕ) → AllStand w.sites r previous p n m → (l : Option Types) (g h : Types) (loops : List ℕ → Option ℕ) → TypedStatements c l g p h → Sighted w n g loops → (k : ℕ) → n ≤ k → k < m → Located w c k
    all_sites _ _ _ _ _ (nothing r previous n) l g h loops t sight k low high = absurd (omega arith)
    all_sites _ _ _ _ _ (next r previous s p n m o first rest) l g h loops t sight k low high =
        let v = typed_next c l g h s p t in
        ⊎_elim
        (λ before. site_in _ _ s n m first l g v.middle loops v.first sight k low before)
        (λ behind. all_sites _ _ p m o rest l v.middle v.last loops v.rest (past_sighted r previous s n m first l g v.middle loops v.first sight) k behind high)
        (cases_lt k m)

  -- ---- The loop

  record TypedRest (l : Option Types) (g : Types) (p : Statements) : Type 0 where
    last : Types
    typed : TypedStatements c l g p last

  -- statements without the last
  first_typed : (l : Option Types) (g z : Types) (s : Statement) (p : Statements) → TypedStatements c l g (Then s p) z → TypedRest l g (before_last s p)
  first_typed l g z s Nothing t = record { last = g; typed = done l g }
  first_typed l g z s (Then a p) t =
      let v = typed_next c l g z s (Then a p) t in
      let rest : TypedRest l v.middle (before_last a p) = first_typed l v.middle v.last a p v.rest in
      record { last = rest.last; typed = next_typed l g v.middle rest.last s (before_last a p) v.first rest.typed }

  all_but_last : (l : Option Types) (g z : Types) (p : Statements) → TypedStatements c l g p z → TypedRest l g (without_last p)
  all_but_last l g z Nothing t = record { last = z; typed = t }
  all_but_last l g z (Then s p) t = first_typed l g z s p t

  -- the body of the loop behind its row
  record TypedBody (p : Statements) : Type 0 where
    body : Option Types
    types : Types
    last : Types
    loops : List ℕ → Option ℕ
    typed : TypedStatements c body types p last
    sighted : Sighted w 1 types loops

  no_loops : List ℕ → Option ℕ
  no_loops x = None

  counted_body : (at : Span) (q : Expression) (b : Statements) (l : Option Types) (h : Types) → TakesRow b → slice_get w.sites 0 ≡ Some (site_of outside None (tree.While at q b)) → TypedStatement c l w.types (tree.While at q b) h → TypedBody (without_last (without_first b))
  counted_body at q b l h r get t =
      subst (λ z. TypedBody (without_last (without_first z))) (sym r.is) (go (subst (λ z. slice_get w.sites 0 ≡ Some (site_of outside None (tree.While at q z))) r.is get) (subst (λ z. TypedStatement c l w.types (tree.While at q z) h) r.is t))
    where
      go : slice_get w.sites 0 ≡ Some (site_of outside None (tree.While at q (Then (tree.Declare r.at (tree.Table r.table) r.name r.value) r.rest))) → TypedStatement c l w.types (tree.While at q (Then (tree.Declare r.at (tree.Table r.table) r.name r.value) r.rest)) h → TypedBody (without_last r.rest)
      go there typed =
          let v = typed_while c l w.types h at q (Then (tree.Declare r.at (tree.Table r.table) r.name r.value) r.rest) typed in
          let parts = typed_next c (Some w.types) w.types v.branch.last (tree.Declare r.at (tree.Table r.table) r.name r.value) r.rest v.branch.body in
          let d : TypedDeclare c w.types parts.middle (tree.Table r.table) r.name r.value = typed_declare c (Some w.types) w.types r.at (tree.Table r.table) r.name r.value parts.middle parts.first in
          let type : d.type ≡ Of (RowOf (table_spelled w.schema (tree.Table r.table))) = subst (λ z. d.type ≡ Of (RowOf (table_spelled z (tree.Table r.table)))) same (table_typed c.schema r.table d.type d.spelled) in
          let rest : TypedRest (Some w.types) parts.middle (without_last r.rest) = all_but_last (Some w.types) parts.middle parts.last r.rest parts.rest in
          record {
            body = Some w.types;
            types = parts.middle;
            last = rest.last;
            loops = with_row r.name (loop_number w.sites 0) no_loops;
            typed = rest.typed;
            sighted = subst (λ z. Sighted w 1 z (with_row r.name (loop_number w.sites 0) no_loops)) (sym d.after) (sighted_counted w 0 w.types no_loops outside None at r.at (tree.Table r.table) r.name q r.value r.rest d.type there type (sighted_first w no_loops));
          }

  each_body : (at : Span) (ty : Spelled) (x : List ℕ) (e : Expression) (b : Statements) (l : Option Types) (h : Types) → slice_get w.sites 0 ≡ Some (site_of outside None (tree.ForEach at ty x e b)) → TypedStatement c l w.types (tree.ForEach at ty x e b) h → TypedBody b
  each_body at ty x e b l h get t =
      elim (typed_each c l w.types h at ty x e b t) [
        | over z k a new v has y ↦ record {
          body = Some (with_type x (Some (Of a)) w.types);
          types = with_type x (Some (Of a)) w.types;
          last = z;
          loops = with_row x (loop_number w.sites 0) no_loops;
          typed = y;
          sighted = each_sighted outside None at ty x e b 0 w.types no_loops k a get v has (sighted_first w no_loops);
        }
        | over_new z k new isnew y ↦ absurd (new_unlisted e isnew w (source_found outside None at ty x e b 0 get))
      ]

  loop_body : (s : Statement) (l : Option Types) (h : Types) → is_kernel_loop w.fragment s ≡ true → slice_get w.sites 0 ≡ Some (site_of outside None s) → TypedStatement c l w.types s h → TypedBody (kernel_body s)
  loop_body (tree.ForEach at ty x e b) l h k get t = each_body at ty x e b l h get t
  loop_body (tree.While at q b) l h k get t = counted_body at q b l h (counted_row_taken w.fragment (counting q) b k) get t
  loop_body (tree.Declare at ty x e) l h k get t = absurd cc
  loop_body (tree.Assign at x e) l h k get t = absurd cc
  loop_body (tree.Add at x e) l h k get t = absurd cc
  loop_body (tree.Sort at x keys downs) l h k get t = absurd cc
  loop_body (tree.If at q p) l h k get t = absurd cc
  loop_body (tree.IfElse at i p q) l h k get t = absurd cc
  loop_body (tree.Print at e) l h k get t = absurd cc
  loop_body (tree.Return at e) l h k get t = absurd cc
  loop_body (tree.Break at) l h k get t = absurd cc

  body_site : (l : Option Types) (h : Types) → w.sites ≡ sites_of w.fragment.loop → TypedStatement c l w.types w.fragment.loop h → (k : ℕ) → 1 ≤ k → k < length w.sites → Located w c k
  body_site l h are t k low high =
      let first : slice_get w.sites 0 ≡ Some (site_of outside None w.fragment.loop) = ap (λ z. slice_get z 0) are ∙ loop_first w.fragment.loop in
      let b : TypedBody (kernel_body w.fragment.loop) = loop_body w.fragment.loop l h (loop_parts w u).1 first t in
      let stands : AllStand w.sites (in_loop outside 0) None (kernel_body w.fragment.loop) 1 (length w.sites) = subst (λ z. AllStand z (in_loop outside 0) None (kernel_body w.fragment.loop) 1 (length z)) (sym are) (body_stands w.fragment.loop) in
      all_sites (in_loop outside 0) None (kernel_body w.fragment.loop) 1 (length w.sites) stands b.body b.types b.last b.loops b.typed b.sighted k low high

  site_located : (l : Option Types) (h : Types) → w.sites ≡ sites_of w.fragment.loop → TypedStatement c l w.types w.fragment.loop h → (k : ℕ) → k < length w.sites → Located w c k
  site_located l h are t zero high = here outside None w.fragment.loop 0 0 l w.types h no_loops (ap (λ z. slice_get z 0) are ∙ loop_first w.fragment.loop) t (sighted_first w no_loops) refl
  site_located l h are t (suc k) high = body_site l h are t (suc k) (omega arith) high

  -- Each site of a typed loop is typed where its names are visible so.
  pub site_typed : (l : Option Types) (h : Types) → w.sites ≡ sites_of w.fragment.loop → TypedStatement c l w.types w.fragment.loop h → (k : ℕ) (s : Site) → slice_get w.sites k ≡ Some s → TypedSite w c k s
  site_typed l h are t k s get =
      let d : Located w c k = site_located l h are t k (slice_get_within w.sites k s get) in
      subst (TypedSite w c k) (get_same w.sites k d.site s d.there get) d.typed
