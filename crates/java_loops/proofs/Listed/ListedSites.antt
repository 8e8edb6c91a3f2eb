-- Each loop of a fragment goes over the list of the lowered fragment: the table whose rows it walks is the one that is
-- fetched, and the rows stand in the order of the keys.
use Rattle.std.proofs.Common.{◌≡◌, ℕ, Bool, true, false, List, [], ◌++◌, Option, Some, None, refl, sym, ap, ◌∙◌, subst}
use Rattle.std.specs.Prelude.{bytes_eq}
use Rattle.std.specs.Option.{option_map}
use Rattle.std.proofs.lemmas.Bool.{and_parts}
use Rattle.qbs_base.specs.declared.span.Span.{Span}
use Rattle.qbs_base.specs.Values.{Schema}
use Rattle.qbs_base.specs.Columns.{table_number, columns_at}
use Rattle.sql_ast.specs.Tree.{PlainQuery}
use Rattle.java_ast.specs.Tree as tree
use Rattle.java_ast.specs.Tree.{Spelled, Expression, Statement, Statements, Nothing, Then}
use Rattle.java_mean.specs.declared.types.JavaType.{JavaType}
use Rattle.java_mean.specs.declared.types.JavaType.TheVariants.{Of, Listed, Distinct}
use Rattle.java_mean.specs.declared.types.Kindred.{Kindred}
use Rattle.java_mean.specs.declared.types.Kindred.TheVariants.{Only}
use Rattle.java_mean.specs.declared.types.Single.{Single}
use Rattle.java_mean.specs.declared.types.Single.TheVariants.{RowOf}
use Rattle.java_mean.specs.Places as places
use Rattle.java_mean.specs.Places.{value, step, in_expression, in_statements, in_while, in_for_each, is_nothing}
use Rattle.java_mean.specs.Rules.{type_of, at_of, is_none, same_type, unless_both, unless_passes, is_many_kindred, walked_element, unless_element, listed_in, copied_row, set_of_rows, given}
use Rattle.java_mean.specs.Types.{Types, type_spelled, row_type, made_of, single_spelled}
use Rattle.java_mean.specs.Typing.{Extends}
use Rattle.java_mean.specs.Visible.{Visible, type_at, declared_in}
use Rattle.java_mean.specs.WellTyped.{faults_in}
use Rattle.java_mean.proofs.Bridge.{same_element}
use Rattle.java_mean.proofs.Faultless.{none_both, none_in, none_at, only_none, not_none, got_some, same_type_is, Sees}
use Rattle.java_mean.proofs.Puts.{names_equal}
use Rattle.loop_text.specs.Kernel.KernelLists.{Source, source_past, source_of}
use Rattle.loop_text.specs.Kernel.Counting.{Counting}
use Rattle.loop_text.specs.Kernel.KernelLoop.{is_table, is_item, takes_row, begins, counts_in}
use Rattle.java_loops.specs.Lowering.Numbering.{found_number, table_spelled, table_declared, table_of_loop}
use Rattle.java_loops.proofs.Listed.Listed.{KeysKnown}
use Rattle.java_loops.proofs.Listed.ListedSeen.{IsClean, TypedSource, first_clean, turn_clean}

-- ---- The table of a spelled type

row_number : (o : Option ℕ) (n : ℕ) → made_of Of (row_type o) ≡ Some (Of (RowOf n)) → found_number o ≡ n
row_number None n h = absurd cc
row_number (Some m) n h = let l : Some (Of (RowOf m)) ≡ Some (Of (RowOf n)) = h in cc

not_listed : (o : Option Single) (n : ℕ) → made_of Listed o ≡ Some (Of (RowOf n)) → ⊥
not_listed None n h = absurd cc
not_listed (Some a) n h = absurd cc

not_distinct : (o : Option Single) (n : ℕ) → made_of Distinct o ≡ Some (Of (RowOf n)) → ⊥
not_distinct None n h = absurd cc
not_distinct (Some a) n h = absurd cc

pub table_is_spelled : (schema : Schema) (ty : Spelled) (n : ℕ) → type_spelled schema ty ≡ Some (Of (RowOf n)) → table_spelled schema ty ≡ n
table_is_spelled schema (tree.Table name) n h = row_number (table_number schema name) n h
table_is_spelled schema (tree.ListOf e) n h = elim (not_listed (single_spelled schema e) n h) [ ]
table_is_spelled schema (tree.SetOf e) n h = elim (not_distinct (single_spelled schema e) n h) [ ]
table_is_spelled schema tree.Int n h = absurd cc
table_is_spelled schema tree.Long n h = absurd cc
table_is_spelled schema tree.Boolean n h = absurd cc
table_is_spelled schema tree.String n h = absurd cc
table_is_spelled schema tree.BoxedInteger n h = absurd cc
table_is_spelled schema tree.BoxedLong n h = absurd cc
table_is_spelled schema tree.BoxedBoolean n h = absurd cc

-- ---- Loops and their tables

-- the table of a loop's rows is the one of its source, which is sorted by its columns
pub record IsLinkedTo (schema : Schema) (table : ℕ) (s : Source) : Type 0 where
  pub number : table_number schema s.table ≡ Some table
  pub keys : KeysKnown (columns_at schema table) s.keys

abbrev pub IsLinked : Schema → Statements → Statement → Type 0
IsLinked schema run (tree.ForEach at ty x e b) = (s : Source) → source_of run e ≡ Some s → IsLinkedTo schema (table_spelled schema ty) s
IsLinked schema run _ = Unit {0}

linked_table : (schema : Schema) (ty : Spelled) (n : ℕ) (s : Source) → type_spelled schema ty ≡ Some (Of (RowOf n)) → table_number schema s.table ≡ Some n → KeysKnown (columns_at schema n) s.keys → IsLinkedTo schema (table_spelled schema ty) s
linked_table schema ty n s e h k = subst (λ i. IsLinkedTo schema i s) (sym (table_is_spelled schema ty n e)) (record { number = h; keys = k })

-- the variable of a loop over a list of rows is a row of that table
walked_type : (o : Option Kindred) (k : Option JavaType) (n : ℕ) (at : Span) (j : JavaType) → o ≡ Some (Only (Listed (RowOf n))) → k ≡ Some j → unless_element (walked_element o) k at ≡ [] → k ≡ Some (Of (RowOf n))
walked_type o k n at j e q h =
    let a : unless_element (Some (RowOf n)) k at ≡ [] = ap (λ z. unless_element (walked_element z) k at) (sym e) ∙ h in
    let b : unless_element (Some (RowOf n)) (Some j) at ≡ [] = ap (λ z. unless_element (Some (RowOf n)) z at) (sym q) ∙ a in
    q ∙ same_element (RowOf n) j at b

given_type : (k : Option JavaType) (n : ℕ) (at : Span) (j : JavaType) → k ≡ Some j → unless_both (Some (Only (Of (RowOf n)))) k at ≡ [] → k ≡ Some (Of (RowOf n))
given_type k n at j q h =
    let b : unless_both (Some (Only (Of (RowOf n)))) (Some j) at ≡ [] = ap (λ z. unless_both (Some (Only (Of (RowOf n)))) z at) (sym q) ∙ h in
    q ∙ ap Some (sym (same_type_is (Of (RowOf n)) j (not_none (same_type (Of (RowOf n)) j) at b)))

got : (o : Option ℕ) → is_none o ≡ false → (n : ℕ) × (o ≡ Some n)
got None h = absurd cc
got (Some n) h = (n, refl)

module _ (schema : Schema) (read : List ℕ → Option PlainQuery) (r : Option Spelled) (run : Statements) (start : Types) (knows : (x : List ℕ) (s : Source) → source_past x None run ≡ Some s → TypedSource schema read r start x s) where
  linked_expression : (vs : Visible) (g : Types) (ty : Spelled) (e : Expression) (j : JavaType) → Sees vs g → Extends g start → type_spelled schema ty ≡ Some j → faults_in schema read r (in_expression vs e) ≡ [] → unless_element (walked_element (type_of schema vs e)) (type_spelled schema ty) (at_of e) ≡ [] → (src : Source) → source_of run e ≡ Some src → IsLinkedTo schema (table_spelled schema ty) src
  linked_expression vs g ty (tree.Fetch at table) j s extends i c h src f =
      let plain : Source = record { table = table; keys = []; downs = [] } in
      let same : plain ≡ src = (let l : Some plain ≡ Some src = f in cc) in
      let n = none_at schema read r (value vs (tree.Fetch at table)) [] c in
      let t = got (table_number schema table) (only_none (is_none (table_number schema table)) at n.left.known) in
      let type : type_of schema vs (tree.Fetch at table) ≡ Some (Only (Listed (RowOf t.0))) = ap (option_map (λ (k : ℕ). Only (Listed (RowOf k)))) t.1 in
      subst (IsLinkedTo schema (table_spelled schema ty)) same (linked_table schema ty t.0 plain (walked_type (type_of schema vs (tree.Fetch at table)) (type_spelled schema ty) t.0 at j type i h) t.1 tt)
  linked_expression vs g ty (tree.Var at x) j s extends i c h src f =
      let k : TypedSource schema read r start x src = knows x src f in
      let type : type_of schema vs (tree.Var at x) ≡ Some (Only (Listed (RowOf k.number))) = ap (option_map Only) (s.same x ∙ extends x (Listed (RowOf k.number)) k.typed) in
      linked_table schema ty k.number src (walked_type (type_of schema vs (tree.Var at x)) (type_spelled schema ty) k.number at j type i h) k.table k.keys
  linked_expression vs g ty (tree.Lit at x) j s extends i c h src f = absurd cc
  linked_expression vs g ty (tree.Field at e n) j s extends i c h src f = absurd cc
  linked_expression vs g ty (tree.Binary at op a b) j s extends i c h src f = absurd cc
  linked_expression vs g ty (tree.Not at e) j s extends i c h src f = absurd cc
  linked_expression vs g ty (tree.Equals at a b) j s extends i c h src f = absurd cc
  linked_expression vs g ty (tree.Size at x) j s extends i c h src f = absurd cc
  linked_expression vs g ty (tree.Get at x e) j s extends i c h src f = absurd cc
  linked_expression vs g ty (tree.Contains at x e) j s extends i c h src f = absurd cc
  linked_expression vs g ty (tree.Query at ty' text es) j s extends i c h src f = absurd cc
  linked_expression vs g ty (tree.QueryLong at text es) j s extends i c h src f = absurd cc
  linked_expression vs g ty (tree.QueryBoolean at text es) j s extends i c h src f = absurd cc
  linked_expression vs g ty (tree.NewList at) j s extends i c h src f = absurd cc
  linked_expression vs g ty (tree.NewSet at) j s extends i c h src f = absurd cc
  linked_expression vs g ty (tree.NewSetOf at e) j s extends i c h src f = absurd cc

  -- a for-each that breaks no rule of types walks the rows of the table that its list is fetched from
  pub each_linked : (vs : Visible) (g : Types) (w : places.Around) (last : Bool) (at : Span) (ty : Spelled) (x : List ℕ) (e : Expression) (b : Statements) → Sees vs g → Extends g start → IsClean schema read r vs w last (tree.ForEach at ty x e b) → IsLinked schema run (tree.ForEach at ty x e b)
  each_linked vs g w last at ty x e b s extends h = λ src f.
      let n = none_at schema read r (step vs w last (tree.ForEach at ty x e b)) (in_expression vs e ++ in_statements schema (declared_in vs x (type_spelled schema ty)) (in_for_each e w) b) h in
      let two = none_in schema read r (in_expression vs e) (in_statements schema (declared_in vs x (type_spelled schema ty)) (in_for_each e w) b) n.right in
      let j = got_some (type_spelled schema ty) at n.left.known in
      let m = none_both (set_of_rows ty at) (unless_passes is_many_kindred (type_of schema vs e) (at_of e) ++ unless_element (walked_element (type_of schema vs e)) (type_spelled schema ty) (at_of e)) n.left.matched in
      let u = none_both (unless_passes is_many_kindred (type_of schema vs e) (at_of e)) (unless_element (walked_element (type_of schema vs e)) (type_spelled schema ty) (at_of e)) m.right in
      linked_expression vs g ty e j.value s extends j.is two.left u.right src f

  -- ---- A loop that counts

  named_item : (k : Counting) (e : Expression) → is_item k e ≡ true → (at : Span) × (xs : List ℕ) × (i : Expression) × (e ≡ tree.Get at xs i) × (bytes_eq xs k.list ≡ true)
  named_item k (tree.Get at xs i) h = (at, xs, i, refl, (and_parts (bytes_eq xs k.list) _ h).0)
  named_item k (tree.Lit at x) h = absurd cc
  named_item k (tree.Var at x) h = absurd cc
  named_item k (tree.Field at e n) h = absurd cc
  named_item k (tree.Binary at op a b) h = absurd cc
  named_item k (tree.Not at e) h = absurd cc
  named_item k (tree.Equals at a b) h = absurd cc
  named_item k (tree.Size at x) h = absurd cc
  named_item k (tree.Contains at x e) h = absurd cc
  named_item k (tree.Fetch at n) h = absurd cc
  named_item k (tree.Query at ty' text es) h = absurd cc
  named_item k (tree.QueryLong at text es) h = absurd cc
  named_item k (tree.QueryBoolean at text es) h = absurd cc
  named_item k (tree.NewList at) h = absurd cc
  named_item k (tree.NewSet at) h = absurd cc
  named_item k (tree.NewSetOf at e) h = absurd cc

  item_linked : (k : Counting) (vs : Visible) (ty : Spelled) (e : Expression) (j : JavaType) (src : Source) → Sees vs start → type_spelled schema ty ≡ Some j → is_item k e ≡ true → given schema vs (type_spelled schema ty) e ≡ [] → source_past k.list None run ≡ Some src → IsLinkedTo schema (table_spelled schema ty) src
  item_linked k vs ty e j src s i item h f =
      let n = named_item k e item in
      let t : TypedSource schema read r start k.list src = knows k.list src f in
      let type : type_at vs n.1 ≡ Some (Listed (RowOf t.number)) = s.same n.1 ∙ ap start (names_equal n.1 k.list n.4) ∙ t.typed in
      let given_so : given schema vs (type_spelled schema ty) (tree.Get n.0 n.1 n.2) ≡ [] = ap (given schema vs (type_spelled schema ty)) (sym n.3) ∙ h in
      let two = none_both (unless_both (type_of schema vs (tree.Get n.0 n.1 n.2)) (type_spelled schema ty) n.0) (copied_row vs (tree.Get n.0 n.1 n.2)) given_so in
      let row : unless_both (Some (Only (Of (RowOf t.number)))) (type_spelled schema ty) n.0 ≡ [] = ap (λ (o : Option JavaType). unless_both (option_map (λ (a : Single). Only (Of a)) (listed_in o)) (type_spelled schema ty) n.0) (sym type) ∙ two.left in
      linked_table schema ty t.number src (given_type (type_spelled schema ty) t.number n.0 j i row) t.table t.keys

  first_linked : (k : Counting) (a : Statement) (vs : Visible) (w : places.Around) (last : Bool) (p : Statements) (src : Source) → Sees vs start → IsClean schema read r vs w last a → takes_row k a ≡ true → source_past k.list None run ≡ Some src → IsLinkedTo schema (table_declared schema (Then a p)) src
  first_linked k (tree.Declare at ty x e) vs w last p src s h t f =
      let n = none_at schema read r (step vs w last (tree.Declare at ty x e)) (in_expression vs e) h in
      let j = got_some (type_spelled schema ty) at n.left.known in
      let m = none_both (set_of_rows ty at) (given schema vs (type_spelled schema ty) e) n.left.matched in
      item_linked k vs ty e j.value src s j.is (and_parts (is_table ty) (is_item k e) t).1 m.right f
  first_linked k (tree.Assign at x e) vs w last p src s h t f = absurd cc
  first_linked k (tree.Add at x e) vs w last p src s h t f = absurd cc
  first_linked k (tree.Sort at x keys downs) vs w last p src s h t f = absurd cc
  first_linked k (tree.If at c q) vs w last p src s h t f = absurd cc
  first_linked k (tree.IfElse at c q q') vs w last p src s h t f = absurd cc
  first_linked k (tree.ForEach at ty x e q) vs w last p src s h t f = absurd cc
  first_linked k (tree.While at c q) vs w last p src s h t f = absurd cc
  first_linked k (tree.Print at e) vs w last p src s h t f = absurd cc
  first_linked k (tree.Return at e) vs w last p src s h t f = absurd cc
  first_linked k (tree.Break at) vs w last p src s h t f = absurd cc

  -- the loop that counts takes the rows of the table that its list is fetched from
  pub counted_linked : (k : Counting) (at : Span) (c : Expression) (b : Statements) (vs : Visible) (w : places.Around) (last : Bool) (src : Source) → Sees vs start → IsClean schema read r vs w last (tree.While at c b) → counts_in k b ≡ true → source_past k.list None run ≡ Some src → IsLinkedTo schema (table_of_loop schema (tree.While at c b)) src
  counted_linked k at c Nothing vs w last src s h t f = absurd cc
  counted_linked k at c (Then a p) vs w last src s h t f =
      let two = first_clean schema read r vs (in_while w) a p (turn_clean schema read r vs w last at c (Then a p) h) in
      first_linked k a vs (in_while w) (is_nothing p) p src s two.0 (and_parts (begins k (Then a p)) _ t).0 f
