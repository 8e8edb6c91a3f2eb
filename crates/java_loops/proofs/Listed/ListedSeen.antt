-- A fragment of a well-typed program breaks no rule of types at its run, at its loop and behind it. So the lists
-- that the run fetches have the types of their tables, and they are sorted by columns of these.
use Rattle.std.proofs.Common.{◌≡◌, ℕ, Bool, true, false, List, [], ◌∷◌, ◌++◌, Option, Some, None, refl, sym, ap, ◌∙◌, subst, cond}
use Rattle.std.specs.Prelude.{bytes_eq}
use Rattle.qbs_base.specs.declared.columns.Column.{Column}
use Rattle.qbs_base.specs.declared.span.Span.{Span}
use Rattle.qbs_base.specs.Values.{Schema}
use Rattle.qbs_base.specs.Columns.{table_number, column_number, columns_at}
use Rattle.sql_ast.specs.Tree.{PlainQuery}
use Rattle.java_ast.specs.Tree as tree
use Rattle.java_ast.specs.Tree.{Spelled, Expression, Statement, Statements, Nothing, Then, PlainMethod, PlainProgram}
use Rattle.java_mean.specs.declared.types.JavaType.{JavaType}
use Rattle.java_mean.specs.declared.types.JavaType.TheVariants.{Of, Listed}
use Rattle.java_mean.specs.declared.types.Single.TheVariants.{RowOf}
use Rattle.java_mean.specs.Places as places
use Rattle.java_mean.specs.Places.{value, step, in_expression, in_parts, in_statement, in_statements, in_branch, in_while, in_for_each, in_body, is_nothing}
use Rattle.java_mean.specs.Refines.{Hole, Here, Past, InIf, InThen, InElse, InEach, InWhile, followed_by, fill, types_at}
use Rattle.java_mean.specs.declared.types.Kindred.TheVariants.{Only}
use Rattle.java_mean.specs.Rules.{type_of, type_at_number, column_type, listed_in, is_none, same_type, unless_both, unknown_variable, unknown_column, unknown_keys, copied_row, set_of_rows, given, taken}
use Rattle.java_mean.specs.Types.{Types, with_type, type_spelled, types_after, types_past}
use Rattle.java_mean.specs.Visible.{Visible, is_visible, type_at, declared_in, after}
use Rattle.java_mean.specs.WellTyped.{faults_in}
use Rattle.java_mean.proofs.Faultless.{none_both, none_in, none_at, only_none, not_none, neither, got_some, same_type_is, Sees, seen, unseen, sees_declared}
use Rattle.java_mean.proofs.Puts.{names_equal, name_same}
use Rattle.std.specs.Option.{option_map}
use Rattle.loop_text.specs.Kernel.KernelLists.{Source, has_keys, is_sorted, fetched, sorted_by, source_after, source_past}
use Rattle.java_loops.proofs.Listed.Listed.{KeysKnown}
use Rattle.java_loops.proofs.Placing.Place.{rest_of}

-- ---- What is visible behind statements

abbrev pub visible_past : Schema → Visible → Statements → Visible
visible_past schema vs Nothing = vs
visible_past schema vs (Then a p) = visible_past schema (after schema vs a) p

module _ (schema : Schema) (read : List ℕ → Option PlainQuery) (r : Option Spelled) where
  -- a statement and statements in which no rule is broken
  abbrev pub IsClean : Visible → places.Around → Bool → Statement → Type 0
  IsClean vs w last a = faults_in schema read r (in_statement schema vs w last a) ≡ []

  abbrev pub AreClean : Visible → places.Around → Statements → Type 0
  AreClean vs w p = faults_in schema read r (in_statements schema vs w p) ≡ []

  pub first_clean : (vs : Visible) (w : places.Around) (a : Statement) (p : Statements) → AreClean vs w (Then a p) → IsClean vs w (is_nothing p) a × AreClean (after schema vs a) w p
  first_clean vs w a p h = let two = none_in schema read r (in_statement schema vs w (is_nothing p) a) (in_statements schema (after schema vs a) w p) h in (two.left, two.right)

  -- what is visible behind a statement has types
  pub sees_after : (vs : Visible) (g : Types) (w : places.Around) (last : Bool) (a : Statement) → Sees vs g → IsClean vs w last a → Sees (after schema vs a) (types_after schema g a)
  sees_after vs g w last (tree.Declare at ty x e) s h =
      let n = none_at schema read r (step vs w last (tree.Declare at ty x e)) (in_expression vs e) h in
      let k = got_some (type_spelled schema ty) at n.left.known in
      let new = neither (is_visible vs x) _ (only_none (taken vs x) at n.left.single) in
      sees_declared vs g x (type_spelled schema ty) k.value s new.left k.is
  sees_after vs g w last (tree.Assign at x e) s h = s
  sees_after vs g w last (tree.Add at x e) s h = s
  sees_after vs g w last (tree.Sort at x keys down) s h = s
  sees_after vs g w last (tree.If at c p) s h = s
  sees_after vs g w last (tree.IfElse at c p q) s h = s
  sees_after vs g w last (tree.ForEach at ty x e p) s h = s
  sees_after vs g w last (tree.While at c p) s h = s
  sees_after vs g w last (tree.Print at e) s h = s
  sees_after vs g w last (tree.Return at e) s h = s
  sees_after vs g w last (tree.Break at) s h = s

  -- what is visible in a for-each has types, and its variable is new
  pub sees_walked : (vs : Visible) (g : Types) (w : places.Around) (last : Bool) (at : Span) (ty : Spelled) (x : List ℕ) (e : Expression) (p : Statements) → Sees vs g → IsClean vs w last (tree.ForEach at ty x e p) → Sees (declared_in vs x (type_spelled schema ty)) (with_type x (type_spelled schema ty) g) × (g x ≡ None) × AreClean (declared_in vs x (type_spelled schema ty)) (in_for_each e w) p
  sees_walked vs g w last at ty x e p s h =
      let n = none_at schema read r (step vs w last (tree.ForEach at ty x e p)) (in_expression vs e ++ in_statements schema (declared_in vs x (type_spelled schema ty)) (in_for_each e w) p) h in
      let two = none_in schema read r (in_expression vs e) (in_statements schema (declared_in vs x (type_spelled schema ty)) (in_for_each e w) p) n.right in
      let k = got_some (type_spelled schema ty) at n.left.known in
      let new = neither (is_visible vs x) _ (only_none (taken vs x) at n.left.single) in
      (sees_declared vs g x (type_spelled schema ty) k.value s new.left k.is, unseen vs g x s new.left, two.right)

  pub branch_clean : (vs : Visible) (w : places.Around) (last : Bool) (at : Span) (c : Expression) (p : Statements) → IsClean vs w last (tree.If at c p) → AreClean vs (in_branch w) p
  branch_clean vs w last at c p h =
      let n = none_at schema read r (step vs w last (tree.If at c p)) (in_expression vs c ++ in_statements schema vs (in_branch w) p) h in
      (none_in schema read r (in_expression vs c) (in_statements schema vs (in_branch w) p) n.right).right

  pub branches_clean : (vs : Visible) (w : places.Around) (last : Bool) (at : Span) (c : Expression) (p q : Statements) → IsClean vs w last (tree.IfElse at c p q) → AreClean vs (in_branch w) p × AreClean vs (in_branch w) q
  branches_clean vs w last at c p q h =
      let n = none_at schema read r (step vs w last (tree.IfElse at c p q)) (in_expression vs c ++ (in_statements schema vs (in_branch w) p ++ in_statements schema vs (in_branch w) q)) h in
      let two = none_in schema read r (in_expression vs c) (in_statements schema vs (in_branch w) p ++ in_statements schema vs (in_branch w) q) n.right in
      let three = none_in schema read r (in_statements schema vs (in_branch w) p) (in_statements schema vs (in_branch w) q) two.right in
      (three.left, three.right)

  pub turn_clean : (vs : Visible) (w : places.Around) (last : Bool) (at : Span) (c : Expression) (p : Statements) → IsClean vs w last (tree.While at c p) → AreClean vs (in_while w) p
  turn_clean vs w last at c p h =
      let n = none_at schema read r (step vs w last (tree.While at c p)) (in_expression vs c ++ in_statements schema vs (in_while w) p) h in
      (none_in schema read r (in_expression vs c) (in_statements schema vs (in_while w) p) n.right).right

  -- ---- At a place

  -- no rule is broken at these statements and behind them, where these types are visible
  pub record SeenAt (g : Types) (p : Statements) : Type 0 where
    pub visible : Visible
    pub around : places.Around
    pub sees : Sees visible g
    pub clean : AreClean visible around p

  pub seen_at : (hole : Hole) (p : Statements) (vs : Visible) (g : Types) (w : places.Around) → Sees vs g → AreClean vs w (fill hole p) → SeenAt (types_at schema g hole) (followed_by p (rest_of hole))
  seen_at (Here q) p vs g w s h = record { visible = vs; around = w; sees = s; clean = h }
  seen_at (Past a k) p vs g w s h =
      let two = first_clean vs w a (fill k p) h in
      seen_at k p (after schema vs a) (types_after schema g a) w (sees_after vs g w (is_nothing (fill k p)) a s two.0) two.1
  seen_at (InIf at e k q) p vs g w s h =
      let two = first_clean vs w (tree.If at e (fill k p)) q h in
      seen_at k p vs g (in_branch w) s (branch_clean vs w (is_nothing q) at e (fill k p) two.0)
  seen_at (InThen at e k b q) p vs g w s h =
      let two = first_clean vs w (tree.IfElse at e (fill k p) b) q h in
      seen_at k p vs g (in_branch w) s (branches_clean vs w (is_nothing q) at e (fill k p) b two.0).0
  seen_at (InElse at e b k q) p vs g w s h =
      let two = first_clean vs w (tree.IfElse at e b (fill k p)) q h in
      seen_at k p vs g (in_branch w) s (branches_clean vs w (is_nothing q) at e b (fill k p) two.0).1
  seen_at (InEach at ty x e k q) p vs g w s h =
      let two = first_clean vs w (tree.ForEach at ty x e (fill k p)) q h in
      let n = sees_walked vs g w (is_nothing q) at ty x e (fill k p) s two.0 in
      seen_at k p (declared_in vs x (type_spelled schema ty)) (with_type x (type_spelled schema ty) g) (in_for_each e w) n.0 n.2
  seen_at (InWhile at e k q) p vs g w s h =
      let two = first_clean vs w (tree.While at e (fill k p)) q h in
      seen_at k p vs g (in_while w) s (turn_clean vs w (is_nothing q) at e (fill k p) two.0)

  -- ---- The types of lists that the run fetches

  -- A source has a table with this number, of which the variable is a list, and is sorted by its columns.
  pub record TypedSource (g : Types) (x : List ℕ) (s : Source) : Type 0 where
    pub number : ℕ
    pub table : table_number schema s.table ≡ Some number
    pub typed : g x ≡ Some (Listed (RowOf number))
    pub keys : KeysKnown (columns_at schema number) s.keys

  abbrev pub KnowsSource : Types → Option Source → List ℕ → Type 0
  KnowsSource g o x = (s : Source) → o ≡ Some s → TypedSource g x s

  -- the list that is fetched is of the type that it is given to
  listed_type : (n : ℕ) (o : Option JavaType) (at : Span) (j : JavaType) → o ≡ Some j → unless_both (Some (Only (Listed (RowOf n)))) o at ≡ [] → o ≡ Some (Listed (RowOf n))
  listed_type n None at j e h = absurd cc
  listed_type n (Some k) at j e h = ap Some (sym (same_type_is (Listed (RowOf n)) k (not_none (same_type (Listed (RowOf n)) k) at h)))

  record Fetched (vs : Visible) (o : Option JavaType) (s : Source) : Type 0 where
    number : ℕ
    table : table_number schema s.table ≡ Some number
    type : o ≡ Some (Listed (RowOf number))
    plain : has_keys s.keys ≡ false

  fetched_given : (vs : Visible) (at : Span) (table : List ℕ) (o : Option JavaType) (j : JavaType) (n : Option ℕ) → table_number schema table ≡ n → is_none n ≡ false → o ≡ Some j → unless_both (option_map (λ (i : ℕ). Only (Listed (RowOf i))) n) o at ≡ [] → Fetched vs o (record { table = table; keys = []; downs = [] })
  fetched_given vs at table o j None e q i h = absurd cc
  fetched_given vs at table o j (Some n) e q i h = record { number = n; table = e; type = listed_type n o at j i h; plain = refl }

  -- what is given by a fetch
  fetch_given : (vs : Visible) (e : Expression) (o : Option JavaType) (j : JavaType) (s : Source) → fetched e ≡ Some s → o ≡ Some j → faults_in schema read r (in_expression vs e) ≡ [] → given schema vs o e ≡ [] → Fetched vs o s
  fetch_given vs (tree.Fetch at table) o j s f i c h =
      let plain : Source = record { table = table; keys = []; downs = [] } in
      let same : plain ≡ s = (let l : Some plain ≡ Some s = f in cc) in
      let n = none_at schema read r (value vs (tree.Fetch at table)) [] c in
      let two = none_both (unless_both (type_of schema vs (tree.Fetch at table)) o at) (copied_row vs (tree.Fetch at table)) h in
      subst (Fetched vs o) same (fetched_given vs at table o j (table_number schema table) refl (only_none (is_none (table_number schema table)) at n.left.known) i two.left)
  fetch_given vs (tree.Lit at x) o j s f i c h = absurd cc
  fetch_given vs (tree.Var at x) o j s f i c h = absurd cc
  fetch_given vs (tree.Field at e n) o j s f i c h = absurd cc
  fetch_given vs (tree.Binary at op a b) o j s f i c h = absurd cc
  fetch_given vs (tree.Not at e) o j s f i c h = absurd cc
  fetch_given vs (tree.Equals at a b) o j s f i c h = absurd cc
  fetch_given vs (tree.Size at x) o j s f i c h = absurd cc
  fetch_given vs (tree.Get at x e) o j s f i c h = absurd cc
  fetch_given vs (tree.Contains at x e) o j s f i c h = absurd cc
  fetch_given vs (tree.Query at ty text es) o j s f i c h = absurd cc
  fetch_given vs (tree.QueryLong at text es) o j s f i c h = absurd cc
  fetch_given vs (tree.QueryBoolean at text es) o j s f i c h = absurd cc
  fetch_given vs (tree.NewList at) o j s f i c h = absurd cc
  fetch_given vs (tree.NewSet at) o j s f i c h = absurd cc
  fetch_given vs (tree.NewSetOf at e) o j s f i c h = absurd cc

  no_keys : (columns : List Column) (keys : List (List ℕ)) → has_keys keys ≡ false → KeysKnown columns keys
  no_keys columns [] h = tt
  no_keys columns (k ∷ keys) h = absurd cc

  typed_here : (vs : Visible) (g : Types) (x y : List ℕ) (s : Source) → bytes_eq y x ≡ true → Fetched vs (g y) s → TypedSource g x s
  typed_here vs g x y s q k = record { number = k.number; table = k.table; typed = ap g (sym (names_equal y x q)) ∙ k.type; keys = no_keys (columns_at schema k.number) s.keys k.plain }

  -- a type that another name has keeps being known
  type_kept : (g : Types) (x y : List ℕ) (o : Option JavaType) → bytes_eq y x ≡ false → with_type y o g x ≡ g x
  type_kept g x y o q = ap (λ b. cond b o (g x)) q

  declared_here : (g : Types) (y : List ℕ) (o : Option JavaType) → with_type y o g y ≡ o
  declared_here g y o = ap (λ b. cond b o (g y)) (name_same y)

  declared_source : (vs : Visible) (g : Types) (w : places.Around) (last : Bool) (at : Span) (ty : Spelled) (y : List ℕ) (e : Expression) (o : Option Source) (x : List ℕ) (b : Bool) → bytes_eq y x ≡ b → IsClean vs w last (tree.Declare at ty y e) → KnowsSource g o x → KnowsSource (with_type y (type_spelled schema ty) g) (cond b (fetched e) o) x
  declared_source vs g w last at ty y e o x true q h k = λ s f.
      let n = none_at schema read r (step vs w last (tree.Declare at ty y e)) (in_expression vs e) h in
      let j = got_some (type_spelled schema ty) at n.left.known in
      let m = none_both (set_of_rows ty at) (given schema vs (type_spelled schema ty) e) n.left.matched in
      let t : Fetched vs (type_spelled schema ty) s = fetch_given vs e (type_spelled schema ty) j.value s f j.is n.right m.right in
      typed_here vs (with_type y (type_spelled schema ty) g) x y s q (subst (λ z. Fetched vs z s) (sym (declared_here g y (type_spelled schema ty))) t)
  declared_source vs g w last at ty y e o x false q h k = λ s f.
      let t : TypedSource g x s = k s f in
      record { number = t.number; table = t.table; typed = type_kept g x y (type_spelled schema ty) q ∙ t.typed; keys = t.keys }

  assigned_source : (vs : Visible) (g : Types) (w : places.Around) (last : Bool) (at : Span) (y : List ℕ) (e : Expression) (o : Option Source) (x : List ℕ) (b : Bool) → bytes_eq y x ≡ b → Sees vs g → IsClean vs w last (tree.Assign at y e) → KnowsSource g o x → KnowsSource g (cond b (fetched e) o) x
  assigned_source vs g w last at y e o x true q i h k = λ s f.
      let n = none_at schema read r (step vs w last (tree.Assign at y e)) (in_expression vs e) h in
      let there : is_visible vs y ≡ true = not_none (is_visible vs y) at n.left.known in
      let j = seen vs g y i there in
      typed_here vs g x y s q (fetch_given vs e (g y) j.value s f j.is n.right (ap (λ z. given schema vs z e) (sym (i.same y)) ∙ n.left.matched))
  assigned_source vs g w last at y e o x false q i h k = k

  column_known : (columns : List Column) (key : List ℕ) (o : Option ℕ) → column_number columns key ≡ o → is_none (type_at_number columns o) ≡ false → (i : ℕ) × (column_number columns key ≡ Some i)
  column_known columns key None e h = absurd cc
  column_known columns key (Some i) e h = (i, e)

  keys_known : (n : ℕ) (keys : List (List ℕ)) (at : Span) → unknown_keys schema (Some (RowOf n)) keys at ≡ [] → KeysKnown (columns_at schema n) keys
  keys_known n [] at h = tt
  keys_known n (k ∷ keys) at h =
      let two = none_both (unknown_column schema (Some (Only (Of (RowOf n)))) k at) (unknown_keys schema (Some (RowOf n)) keys at) h in
      (column_known (columns_at schema n) k (column_number (columns_at schema n) k) refl (only_none (is_none (column_type (columns_at schema n) k)) at two.left), keys_known n keys at two.right)

  -- the unsorted source that is sorted now
  record Unsorted (keys : List (List ℕ)) (downs : List Bool) (o : Option Source) (s : Source) : Type 0 where
    from : Source
    is : o ≡ Some from
    now : s ≡ record from { keys = keys; downs = downs }

  unsorted_where : (keys : List (List ℕ)) (downs : List Bool) (from s : Source) (b : Bool) → cond b None (Some (record from { keys = keys; downs = downs })) ≡ Some s → Unsorted keys downs (Some from) s
  unsorted_where keys downs from s true h = absurd cc
  unsorted_where keys downs from s false h = record { from = from; is = refl; now = (let l : Some (record from { keys = keys; downs = downs }) ≡ Some s = h in sym cc) }

  unsorted_from : (keys : List (List ℕ)) (downs : List Bool) (o : Option Source) (s : Source) → sorted_by keys downs o ≡ Some s → Unsorted keys downs o s
  unsorted_from keys downs None s h = absurd cc
  unsorted_from keys downs (Some from) s h = unsorted_where keys downs from s (is_sorted from) h

  sorted_source : (vs : Visible) (g : Types) (w : places.Around) (last : Bool) (at : Span) (y : List ℕ) (keys : List (List ℕ)) (downs : List Bool) (o : Option Source) (x : List ℕ) (b : Bool) → bytes_eq y x ≡ b → Sees vs g → IsClean vs w last (tree.Sort at y keys downs) → KnowsSource g o x → KnowsSource g (cond b (sorted_by keys downs o) o) x
  sorted_source vs g w last at y keys downs o x true q i h k = λ s f.
      let u : Unsorted keys downs o s = unsorted_from keys downs o s f in
      let t : TypedSource g x u.from = k u.from u.is in
      let n = none_at schema read r (step vs w last (tree.Sort at y keys downs)) [] h in
      let two = none_both (unknown_variable vs y at) (unknown_keys schema (listed_in (type_at vs y)) keys at) n.left.known in
      let type : type_at vs y ≡ Some (Listed (RowOf t.number)) = i.same y ∙ ap g (names_equal y x q) ∙ t.typed in
      let known : KeysKnown (columns_at schema t.number) keys = keys_known t.number keys at (ap (λ z. unknown_keys schema (listed_in z) keys at) (sym type) ∙ two.right) in
      subst (TypedSource g x) (sym u.now) (record { number = t.number; table = t.table; typed = t.typed; keys = known })
  sorted_source vs g w last at y keys downs o x false q i h k = k

  knows_after : (vs : Visible) (g : Types) (w : places.Around) (last : Bool) (a : Statement) (o : Option Source) (x : List ℕ) → Sees vs g → IsClean vs w last a → KnowsSource g o x → KnowsSource (types_after schema g a) (source_after x a o) x
  knows_after vs g w last (tree.Declare at ty y e) o x s h k = declared_source vs g w last at ty y e o x (bytes_eq y x) refl h k
  knows_after vs g w last (tree.Assign at y e) o x s h k = assigned_source vs g w last at y e o x (bytes_eq y x) refl s h k
  knows_after vs g w last (tree.Sort at y keys downs) o x s h k = sorted_source vs g w last at y keys downs o x (bytes_eq y x) refl s h k
  knows_after vs g w last (tree.Add at y e) o x s h k = k
  knows_after vs g w last (tree.If at c p) o x s h k = k
  knows_after vs g w last (tree.IfElse at c p q) o x s h k = k
  knows_after vs g w last (tree.ForEach at ty y e p) o x s h k = k
  knows_after vs g w last (tree.While at c p) o x s h k = k
  knows_after vs g w last (tree.Print at e) o x s h k = k
  knows_after vs g w last (tree.Return at e) o x s h k = k
  knows_after vs g w last (tree.Break at) o x s h k = k

  knows_past : (p q : Statements) (vs : Visible) (g : Types) (w : places.Around) (o : Option Source) (x : List ℕ) → Sees vs g → AreClean vs w (followed_by p q) → KnowsSource g o x → KnowsSource (types_past schema g p) (source_past x o p) x
  knows_past Nothing q vs g w o x s h k = k
  knows_past (Then a p) q vs g w o x s h k =
      let two = first_clean vs w a (followed_by p q) h in
      knows_past p q (after schema vs a) (types_after schema g a) w (source_after x a o) x (sees_after vs g w (is_nothing (followed_by p q)) a s two.0) two.1 (knows_after vs g w (is_nothing (followed_by p q)) a o x s two.0 k)

  -- the rest behind the first statements
  pub seen_past : (p q : Statements) (vs : Visible) (g : Types) (w : places.Around) → Sees vs g → AreClean vs w (followed_by p q) → SeenAt (types_past schema g p) q
  seen_past Nothing q vs g w s h = record { visible = vs; around = w; sees = s; clean = h }
  seen_past (Then a p) q vs g w s h =
      let two = first_clean vs w a (followed_by p q) h in
      seen_past p q (after schema vs a) (types_after schema g a) w (sees_after vs g w (is_nothing (followed_by p q)) a s two.0) two.1

  -- where no rule is broken at the run, a source behind it has its type
  pub source_typed : (run rest : Statements) (g : Types) → SeenAt g (followed_by run rest) → (x : List ℕ) (s : Source) → source_past x None run ≡ Some s → TypedSource (types_past schema g run) x s
  source_typed run rest g k x s e = knows_past run rest k.visible g k.around None x k.sees k.clean (λ z q. absurd cc) s e
