-- Where a fragment begins, the store and the world that it is given hold the same, and the fragment's parts fit.
use Rattle.std.proofs.Common.{◌≡◌, ℕ, zero, suc, ◌+◌, Bool, true, false, not, List, [], ◌∷◌, ◌++◌, take, Option, Some, None, IsTrue, refl, sym, ap, ◌∙◌, subst, arith}
use Rattle.std.specs.Prelude.{slice_get}
use Rattle.std.specs.List.{AllByRecursion}
use Rattle.qbs_base.specs.declared.columns.Column.{Column}
use Rattle.qbs_base.specs.declared.scalar.Row.{Row}
use Rattle.qbs_base.specs.declared.scalar.Scalar.{Scalar}
use Rattle.qbs_base.specs.declared.scalar.Scalar.TheVariants as scalars
use Rattle.qbs_base.specs.declared.scalar.Ty.{Ty}
use Rattle.qbs_base.specs.declared.scalar.Ty.TheVariants as tys
use Rattle.qbs_base.specs.Named.{at_name}
use Rattle.qbs_base.specs.Sort.{put_in, stable_sort}
use Rattle.qbs_base.specs.Tables.{NamedRows}
use Rattle.qbs_base.specs.Values.{Schema, Database, AreTables, IsRowOf}
use Rattle.qbs_base.specs.Columns.{table_number, columns_at}
use Rattle.java_ast.specs.Tree.{Expression, Statement, Statements}
use Rattle.java_mean.specs.Store.{Store}
use Rattle.java_mean.specs.World as java
use Rattle.java_mean.proofs.Members.{all_sorted}
use Rattle.java_mean.proofs.Numbered.{rows_of_table}
use Rattle.tor_terms.specs.declared.term.Atom.{Atom}
use Rattle.tor_terms.specs.declared.term.Elem.{Elem}
use Rattle.tor_terms.specs.declared.term.Elem.TheVariants as elems
use Rattle.tor_terms.specs.declared.term.Operand.{Operand}
use Rattle.tor_terms.specs.declared.term.Operand.TheVariants as operands
use Rattle.tor_terms.specs.declared.term.Way.{Way}
use Rattle.tor_terms.specs.Plain.{Form}
use Rattle.kernel_lang.specs.declared.parts.Entry.{Entry}
use Rattle.kernel_lang.specs.declared.parts.ListDef.{ListDef}
use Rattle.kernel_lang.specs.declared.parts.Update.{Update}
use Rattle.kernel_lang.specs.declared.parts.Update.TheVariants as updates
use Rattle.kernel_lang.specs.Fitting.{Place, operand_places, atom_places, element_places, is_of, table_at, ColumnFits, AtomFits, UpdateFits}
use Rattle.qbs_base.specs.Tables.{rows_of}
use Rattle.kernel_lang.specs.Given.{before, cut, list_at, world_given}
use Rattle.kernel_lang.specs.Plain.{Fragment}
use Rattle.kernel_lang.specs.Running.{Layer, started}
use Rattle.kernel_lang.specs.Validity.{element_of, start_is_valid}
use Rattle.java_loops.specs.Walks.Carried.{Suits, read_in}
use Rattle.java_loops.specs.Walks.ChainLaws.{StartFits}
use Rattle.java_loops.specs.Walks.ChainStarts.{whole_list, Begins}
use Rattle.java_loops.specs.Walks.Chains.{Change, By, Takes, IsUpdate, push, push_new, tick, tick_turned, plus, plus_turned, mark, takes, IsChain, update, under, best, over, AreChain, here, declared, later}
use Rattle.java_loops.specs.Walks.Forms.{IsOperand, field, entry, entry_field, literal, IsElement, whole, of_column, IsAtom, less, greater, at_most, at_least, same, same_turned, other, other_turned, texts, texts_turned, truth, member, flag, IsBest, left, right, negated, both_left, both_right, neither_left, neither_right, grouped}
use Rattle.java_loops.specs.Walks.Matched.{Matches}
use Rattle.java_loops.specs.Walks.Numbering.{Numbering, Flag, Flags, no_flags, with_loop, with_loops}
use Rattle.java_loops.proofs.Walks.ChainFits.{AreListed, HasGiven, atom_fits_everywhere, chain_fits}
use Rattle.java_loops.proofs.Walks.ChainOperands.{cells_of}

-- ---- Rows of tables

rows_typed : (start : ℕ) (schema : Schema) (db : Database) (t : ℕ) → AreTables start schema db → AllByRecursion (IsRowOf (start + t) (columns_at schema t)) (rows_of db t)
rows_typed start [] [] t h = tt
rows_typed start [] (held ∷ db) t h = absurd h
rows_typed start (table ∷ schema) [] t h = absurd h
rows_typed start (table ∷ schema) (held ∷ db) zero h =
    let P : ℕ → Type 0 = λ n. AllByRecursion (IsRowOf n table.columns) held.1 in
    let at : start ≡ start + 0 = omega arith in
    subst P at h.2
rows_typed start (table ∷ schema) (held ∷ db) (suc t) h =
    let P : ℕ → Type 0 = λ n. AllByRecursion (IsRowOf n (columns_at schema t)) (rows_of db t) in
    let at : suc start + t ≡ start + suc t = omega arith in
    subst P at (rows_typed (suc start) schema db t h.3)

table_typed : (schema : Schema) (db : Database) (t : ℕ) → AreTables 0 schema db → AllByRecursion (IsRowOf t (columns_at schema t)) (rows_of db t)
table_typed schema db t h =
    let P : ℕ → Type 0 = λ n. AllByRecursion (IsRowOf n (columns_at schema t)) (rows_of db t) in
    let at : 0 + t ≡ t = omega arith in
    subst P at (rows_typed 0 schema db t h)

all_taken : {X : Type 0} (P : X → Type 0) (m : ℕ) (xs : List X) → AllByRecursion P xs → AllByRecursion P (take m xs)
all_taken P zero xs h = tt
all_taken P (suc m) [] h = tt
all_taken P (suc m) (x ∷ xs) h = (h.0, all_taken P m xs h.1)

all_cut : (P : Row → Type 0) (limit : Option ℕ) (rows : List Row) → AllByRecursion P rows → AllByRecursion P (cut limit rows)
all_cut P None rows h = h
all_cut P (Some m) rows h = all_taken P m rows h

list_typed : (schema : Schema) (db : Database) (o : Option ListDef) (t : ℕ) → AreTables 0 schema db → ((d : ListDef) → o ≡ Some d → d.table ≡ t) → AllByRecursion (IsRowOf t (columns_at schema t)) (list_at db o)
list_typed schema db None t h e = tt
list_typed schema db (Some d) t h e =
    let P : ℕ → Type 0 = λ n. AllByRecursion (IsRowOf n (columns_at schema n)) (rows_of db d.table) in
    let Q : Row → Type 0 = IsRowOf t (columns_at schema t) in
    let typed : AllByRecursion Q (rows_of db d.table) = subst (λ (n : ℕ). AllByRecursion (IsRowOf n (columns_at schema n)) (rows_of db d.table)) (e d refl) (table_typed schema db d.table h) in
    all_cut Q d.limit (stable_sort (before d.keys) (rows_of db d.table)) (all_sorted Q (before d.keys) (rows_of db d.table) typed)

-- without keys the rows stay in their order
no_keys : (rows : List Row) → stable_sort (λ r s. false) rows ≡ rows
no_keys [] = refl
no_keys (r ∷ rows) = ap (put_in (λ a b. false) r) (no_keys rows) ∙ first r rows
  where
    first : (x : Row) (xs : List Row) → put_in (λ a b. false) x xs ≡ x ∷ xs
    first x [] = refl
    first x (y ∷ ys) = refl

abbrev rows_in_table : Option NamedRows → List Row
rows_in_table (Some table) = table.1
rows_in_table None = []

fetched_list : (schema : Schema) (db : Database) (t : List ℕ) (number : ℕ) (o : Option ListDef) → AreTables 0 schema db → table_number schema t ≡ Some number → o ≡ Some (whole_list number) → at_name db t ≡ Some (list_at db o)
fetched_list schema db t number o h named e =
    let held = rows_of_table 0 schema db t number h named in
    let numbered : rows_of db number ≡ held.rows = ap rows_in_table held.numbered ∙ held.rows_are in
    held.there ∙ ap Some (sym (ap (list_at db) e ∙ no_keys (rows_of db number) ∙ numbered))

-- ---- The world

no_loop : {A : Type 0} (o : Option ℕ) (j : ℕ) → o ≡ None → o ≡ Some j → A
no_loop o j e h = absurd cc

no_flag : {A : Type 0} (flag : Flag) → None ≡ Some flag → A
no_flag z e = absurd cc

given_lists : (n : Numbering) (f : Fragment) (w : java.World) (env : Store) (given : Entry) → Begins n f w env given → AreListed n (world_given f w.db given)
given_lists n f w env given b j = list_typed n.schema w.db (slice_get f.lists j) (n.tables j) b.database (b.tables j)

pub has_given : (n : Numbering) (f : Fragment) (w : java.World) (env : Store) (given : Entry) (loops : List ℕ → Option ℕ) → Begins n f w env given → HasGiven (with_loops loops n) w (world_given f w.db given) env
has_given n f w env given loops b = record { lists = given_lists n f w env given b; entries = b.entries; known = b.known }

quiet_begins : (n : Numbering) (f : Fragment) (w : java.World) (env : Store) (given : Entry) (rows : ℕ → Row) → Begins n f w env given → Matches n no_flags w (world_given f w.db given) env rows
quiet_begins n f w env given rows b = record {
  schema = b.schema;
  lists = given_lists n f w env given b;
  fetched = λ j t e. let h = b.fetched j t e in fetched_list n.schema w.db t (n.tables j) (slice_get f.lists j) b.database h.0 h.1;
  variables = b.variables;
  loops = λ x j e. no_loop (n.loops x) j (b.loops x) e;
  entries = b.entries;
  known = b.known;
  in_sight = λ x z e. no_flag z e;
}

pub begins : (n : Numbering) (f : Fragment) (w : java.World) (env : Store) (given : Entry) (quiet : Bool) (rows : ℕ → Row) → Begins n f w env given → Matches n no_flags w (read_in f quiet (world_given f w.db given)) env rows
begins n f w env given true rows b = quiet_begins n f w env given rows b
begins n f w env given false rows b =
    let m : Matches n no_flags w (world_given f w.db given) env rows = quiet_begins n f w env given rows b in
    record {
      schema = m.schema;
      lists = m.lists;
      fetched = m.fetched;
      variables = m.variables;
      loops = m.loops;
      entries = m.entries;
      known = m.known;
      in_sight = λ x z e. no_flag z e;
    }

-- ---- Starts

pub starts_suit : (u : Update) (opposite : Bool) (start : Option Scalar) → start_is_valid u start ≡ true → StartFits start → Suits (By u opposite) (started start)
starts_suit (updates.Push e) opposite start h f = tt
starts_suit (updates.PushNew e) opposite None h f = tt
starts_suit (updates.PushNew e) opposite (Some x) h f = absurd cc
starts_suit updates.Tick opposite None h f = absurd cc
starts_suit updates.Tick opposite (Some (scalars.Long n)) h f = record { number = n; is = refl; fits = f }
starts_suit updates.Tick opposite (Some (scalars.Bool b)) h f = absurd cc
starts_suit updates.Tick opposite (Some (scalars.Text t)) h f = absurd cc
starts_suit (updates.Plus e) opposite None h f = absurd cc
starts_suit (updates.Plus e) opposite (Some (scalars.Long n)) h f = record { number = n; is = refl; fits = f }
starts_suit (updates.Plus e) opposite (Some (scalars.Bool b)) h f = absurd cc
starts_suit (updates.Plus e) opposite (Some (scalars.Text t)) h f = absurd cc
starts_suit (updates.Best way e) opposite None h f = absurd cc
starts_suit (updates.Best way e) opposite (Some (scalars.Long n)) h f = record { number = n; is = refl; fits = f }
starts_suit (updates.Best way e) opposite (Some (scalars.Bool b)) h f = absurd cc
starts_suit (updates.Best way e) opposite (Some (scalars.Text t)) h f = absurd cc
starts_suit updates.Mark opposite None h f = absurd cc
starts_suit updates.Mark opposite (Some (scalars.Long n)) h f = absurd cc
starts_suit updates.Mark opposite (Some (scalars.Bool b)) h f = record { truth = b; is = refl }
starts_suit updates.Mark opposite (Some (scalars.Text t)) h f = absurd cc

-- ---- Columns

column_at : (schema : Schema) (db : Database) (o : Option ListDef) (t c : ℕ) (column : Column) → AreTables 0 schema db → ((d : ListDef) → o ≡ Some d → d.table ≡ t) → slice_get (columns_at schema t) c ≡ Some column → AllByRecursion (λ (r : Row). IsTrue (is_of column.ty (slice_get r.cells c))) (table_at db o)
column_at schema db None t c column h e there = tt
column_at schema db (Some d) t c column h e there =
    let typed : AllByRecursion (IsRowOf t (columns_at schema t)) (rows_of db d.table) = subst (λ (n : ℕ). AllByRecursion (IsRowOf n (columns_at schema n)) (rows_of db d.table)) (e d refl) (table_typed schema db d.table h) in
    cells_of t (columns_at schema t) c column there (rows_of db d.table) typed

pub column_fits : (n : Numbering) (f : Fragment) (w : java.World) (env : Store) (given : Entry) (j c : ℕ) (column : Column) → Begins n f w env given → slice_get (columns_at n.schema (n.tables j)) c ≡ Some column → ColumnFits f w.db (j, c)
column_fits n f w env given j c column b e = (column.ty, column_at n.schema w.db (slice_get f.lists j) (n.tables j) c column b.database (b.tables j) e)

pub both : {X : Type 0} (P : X → Type 0) (xs ys : List X) → AllByRecursion P xs → AllByRecursion P ys → AllByRecursion P (xs ++ ys)
both P [] ys h k = k
both P (x ∷ xs) ys h k = (h.0, both P xs ys h.1 k)

module _ (f : Fragment) (db : Database) where
  -- the columns of loops' tables have scalars of one variant
  abbrev HasColumns : Numbering → Type 0
  HasColumns n = (j c : ℕ) (column : Column) → slice_get (columns_at n.schema (n.tables j)) c ≡ Some column → ColumnFits f db (j, c)

  abbrev Fits : List Place → Type 0
  Fits places = AllByRecursion (ColumnFits f db) places

  operand_columns : (n : Numbering) → HasColumns n → (e : Expression) (o : Operand) (ty : Ty) → IsOperand n e o ty → Fits (operand_places o)
  operand_columns n hc _ _ _ (field at at' x g j c column e named there) = (hc j c column there, tt)
  operand_columns n hc _ _ _ (entry at x i ty e t) = tt
  operand_columns n hc _ _ _ (entry_field at at' x g i ty e t) = tt
  operand_columns n hc _ _ _ (literal at x) = tt

  two_columns : (n : Numbering) → HasColumns n → (d e : Expression) (o p : Operand) (ty ty' : Ty) → IsOperand n d o ty → IsOperand n e p ty' → Fits (operand_places o ++ operand_places p)
  two_columns n hc d e o p ty ty' h i = both (ColumnFits f db) (operand_places o) (operand_places p) (operand_columns n hc d o ty h) (operand_columns n hc e p ty' i)

  atom_columns : (n : Numbering) → HasColumns n → (flags : Flags) (e : Expression) (a : Atom) (s : Bool) → IsAtom n flags e a s → Fits (atom_places a)
  atom_columns n hc flags _ _ _ (less at d e o p h i) = two_columns n hc d e o p tys.Long tys.Long h i
  atom_columns n hc flags _ _ _ (greater at d e o p h i) = two_columns n hc e d p o tys.Long tys.Long i h
  atom_columns n hc flags _ _ _ (at_most at d e o p h i) = two_columns n hc e d p o tys.Long tys.Long i h
  atom_columns n hc flags _ _ _ (at_least at d e o p h i) = two_columns n hc d e o p tys.Long tys.Long h i
  atom_columns n hc flags _ _ _ (same at d e o p ty q h i) = two_columns n hc d e o p ty ty h i
  atom_columns n hc flags _ _ _ (same_turned at d e o p ty q h i) = two_columns n hc e d p o ty ty i h
  atom_columns n hc flags _ _ _ (other at d e o p ty q h i) = two_columns n hc d e o p ty ty h i
  atom_columns n hc flags _ _ _ (other_turned at d e o p ty q h i) = two_columns n hc e d p o ty ty i h
  atom_columns n hc flags _ _ _ (texts at d e o p h i) = two_columns n hc d e o p tys.Text tys.Text h i
  atom_columns n hc flags _ _ _ (texts_turned at d e o p h i) = two_columns n hc e d p o tys.Text tys.Text i h
  atom_columns n hc flags _ _ _ (truth e j c h) = operand_columns n hc e (operands.Field j c) tys.Bool h
  atom_columns n hc flags _ _ _ (member at x e o q ty named t h) = operand_columns n hc e o ty h
  atom_columns n hc flags _ _ _ (flag at x number opposite read e) = tt

  element_columns : (n : Numbering) → HasColumns n → (e : Expression) (x : Elem) → IsElement n e x → Fits (element_places (Some x))
  element_columns n hc _ _ (whole at x j e) = tt
  element_columns n hc _ _ (of_column e j c ty i) = operand_columns n hc e (operands.Field j c) ty i

  best_columns : (known : List Atom) (n : Numbering) → HasColumns n → (flags : Flags) (a : List ℕ) (way : Way) (j c : ℕ) (polarity : Bool) (e : Expression) (fs : List Form) → IsBest known n flags a way j c polarity e fs → Fits ((j, c) ∷ [])
  best_columns known n hc flags a way j c _ _ _ (left polarity at at' op e q h) = operand_columns n hc e (operands.Field j c) tys.Long h
  best_columns known n hc flags a way j c _ _ _ (right polarity at at' op e q h) = operand_columns n hc e (operands.Field j c) tys.Long h
  best_columns known n hc flags a way j c _ _ _ (negated polarity at e fs h) = best_columns known n hc flags a way j c (not polarity) e fs h
  best_columns known n hc flags a way j c _ _ _ (both_left at d e fs g h i) = best_columns known n hc flags a way j c true d fs h
  best_columns known n hc flags a way j c _ _ _ (both_right at d e g gs h i) = best_columns known n hc flags a way j c true e gs i
  best_columns known n hc flags a way j c _ _ _ (neither_left at d e fs g h i) = best_columns known n hc flags a way j c false d fs h
  best_columns known n hc flags a way j c _ _ _ (neither_right at d e g gs h i) = best_columns known n hc flags a way j c false e gs i
  best_columns known n hc flags a way j c _ _ _ (grouped polarity e f g fs h) = best_columns known n hc flags a way j c polarity e (f ∷ g ∷ fs) h

  abbrev ChangeColumns : Change → Type 0
  ChangeColumns (By u opposite) = Fits (element_places (element_of u))
  ChangeColumns (Takes x) = Unit {0}

  update_columns : (n : Numbering) → HasColumns n → (s : Statement) (a : List ℕ) (ch : Change) → IsUpdate n s a ch → ChangeColumns ch
  update_columns n hc _ _ _ (push at a e x i) = element_columns n hc e x i
  update_columns n hc _ _ _ (push_new at a e j c i) = element_columns n hc e (elems.Field j c) i
  update_columns n hc _ _ _ (tick at at' at'' at''' a) = tt
  update_columns n hc _ _ _ (tick_turned at at' at'' at''' a) = tt
  update_columns n hc _ _ _ (plus at at' at'' a e j c i) = operand_columns n hc e (operands.Field j c) tys.Long i
  update_columns n hc _ _ _ (plus_turned at at' at'' a e j c i) = operand_columns n hc e (operands.Field j c) tys.Long i
  update_columns n hc _ _ _ (mark at at' a opposite) = tt
  update_columns n hc _ _ _ (takes at a e j c i) = tt

  mutual
    pub chain_columns : (quiet : Bool) (n : Numbering) (flags : Flags) (s : Statement) (a : List ℕ) (fs : List Form) (ys : List Layer) (ch : Change) → HasColumns n → IsChain f quiet n flags s a fs ys ch → ChangeColumns ch
    chain_columns _ _ _ _ _ _ _ _ hc (update quiet n flags s a ch i) = update_columns n hc s a ch i
    chain_columns _ _ _ _ _ _ _ _ hc (under quiet n flags s a polarity c p g gs ys ch b i h) = chains_columns quiet n flags [] p a gs ys ch hc h
    chain_columns _ _ _ _ _ _ _ _ hc (best quiet n flags s a polarity c p way j column fs gs b i h) = best_columns f.atoms n hc flags a way j column polarity c fs i
    chain_columns _ _ _ _ _ _ _ _ hc (over quiet n flags at ty x e p a j gs ys u opposite l i o apart new h) = chains_columns quiet (with_loop x j n) flags [] p a gs ys (By u opposite) hc h

    chains_columns : (quiet : Bool) (n : Numbering) (flags : Flags) (bs : List (List ℕ)) (p : Statements) (a : List ℕ) (fs : List Form) (ys : List Layer) (ch : Change) → HasColumns n → AreChain f quiet n flags bs p a fs ys ch → ChangeColumns ch
    chains_columns _ _ _ _ _ _ _ _ _ hc (here quiet n flags bs s p a fs ys ch h after) = chain_columns quiet n flags s a fs ys ch hc h
    chains_columns _ _ _ _ _ _ _ _ _ hc (declared quiet n flags bs at at' b start p a fs ys ch i apart h) = chains_columns quiet n _ (b ∷ bs) p a fs ys ch hc h
    chains_columns _ _ _ _ _ _ _ _ _ hc (later quiet n flags flags' bs s p a fs ys ch i apart t none h) = chains_columns quiet n flags' bs p a fs ys ch hc h

-- ---- Parts that fit

module _ (n : Numbering) (f : Fragment) (w : java.World) (env : Store) (given : Entry) (loops : List ℕ → Option ℕ) (b : Begins n f w env given) where
  pub atom_parts_fit : (flags : Flags) (e : Expression) (a : Atom) (s : Bool) → IsAtom (with_loops loops n) flags e a s → AtomFits (world_given f w.db given) a × AllByRecursion (ColumnFits f w.db) (atom_places a)
  atom_parts_fit flags e a s h = (atom_fits_everywhere (with_loops loops n) flags w (world_given f w.db given) env (has_given n f w env given loops b) e a s h, atom_columns f w.db (with_loops loops n) (λ j c column e. column_fits n f w env given j c column b e) flags e a s h)

  pub update_parts_fit : (quiet : Bool) (flags : Flags) (s : Statement) (a : List ℕ) (fs : List Form) (ys : List Layer) (u : Update) (opposite : Bool) → IsChain f quiet (with_loops loops n) flags s a fs ys (By u opposite) → UpdateFits (world_given f w.db given) u × AllByRecursion (ColumnFits f w.db) (element_places (element_of u))
  update_parts_fit quiet flags s a fs ys u opposite h = (chain_fits f (world_given f w.db given) quiet (with_loops loops n) flags s a fs ys (By u opposite) (given_lists n f w env given b) h, chain_columns f w.db quiet (with_loops loops n) flags s a fs ys (By u opposite) (λ j c column e. column_fits n f w env given j c column b e) h)
