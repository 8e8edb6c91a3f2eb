-- The test whether two items are equal is right.
use Rattle.std.proofs.Common.{◌≡◌, ℕ, zero, suc, ◌+◌, ◌<◌, Bor, nat_lt, Bool, true, false, not, ◌&&◌, ◌||◌, is_some, List, [], ◌∷◌, length, drop, Option, Some, None, slice_get, refl, sym, ap, subst, ◌∙◌, arith, eqb-true, eq-eqb}
use Rattle.std.specs.Prelude.{slice_index_or}
use Rattle.std.specs.List.{Contains, list_all, list_any}
use Rattle.std.specs.Option.{option_copied, option_map}
use Rattle.std.proofs.lemmas.Bool.{lt-ltb, le-ltb}
use Rattle.std.proofs.lemmas.Bool.Decides.{nat_tests}
use Rattle.std.specs.Str.{bytes_eq}
use Rattle.std.proofs.lemmas.Slice.Eq.{bytes_eq-Decides}
use Rattle.qbs_base.specs.declared.scalar.Kind.{Kind}
use Rattle.qbs_base.specs.declared.scalar.Kind.TheVariants as kinds
use Rattle.qbs_base.specs.declared.scalar.Row.{Row}
use Rattle.qbs_base.specs.declared.scalar.Scalar.{Scalar}
use Rattle.qbs_base.specs.Scalar.{same_cells}
use Rattle.qbs_base.specs.Tables.{NamedRows}
use Rattle.qbs_base.specs.Values.{Database}
use Rattle.tor_terms.specs.Value.{same_kind, same_row}
use Rattle.tor_terms.specs.Worlds.{same_rows}
use Rattle.kernel_lang.proofs.EndSets.{same_cells-true, same_cells-self}
use Rattle.small_dbs.specs.declared.small.SmallDb.{SmallDb}
use Rattle.proof_store.specs.Same.{same_lists, same_table, same_place, same_tables, same_item}

left_true : (a b : Bool) → (a && b) ≡ true → a ≡ true
left_true true b e = refl
left_true false b e = absurd cc

right_true : (a b : Bool) → (a && b) ≡ true → b ≡ true
right_true true b e = e
right_true false b e = absurd cc

both : (a b : Bool) → a ≡ true → b ≡ true → (a && b) ≡ true
both true true p q = refl
both true false p q = absurd cc
both false b p q = absurd cc

consed : {X : Type 0} (x y : X) (xs ys : List X) → x ≡ y → xs ≡ ys → x ∷ xs ≡ y ∷ ys
consed x y xs ys p q = ap (λ z. z ∷ xs) p ∙ ap (λ zs. y ∷ zs) q

-- ---- what is the same is equal

kind_equal : (k l : Kind) → same_kind k l ≡ true → k ≡ l
kind_equal kinds.Plain kinds.Plain h = refl
kind_equal (kinds.Table m) (kinds.Table n) h = ap kinds.Table (eqb-true m n h)
kind_equal kinds.Plain (kinds.Table n) h = absurd cc
kind_equal (kinds.Table m) kinds.Plain h = absurd cc

kind_self : (k : Kind) → same_kind k k ≡ true
kind_self kinds.Plain = refl
kind_self (kinds.Table m) = eq-eqb m m refl

abbrev row_at : Kind → List Scalar → Row
row_at kind cells = record { kind = kind; cells = cells }

row_equal : (r s : Row) → same_row r s ≡ true → r ≡ s
row_equal r s h =
    let k : r.kind ≡ s.kind = kind_equal r.kind s.kind (left_true (same_kind r.kind s.kind) (same_cells r.cells s.cells) h) in
    let c : r.cells ≡ s.cells = same_cells-true r.cells s.cells (right_true (same_kind r.kind s.kind) (same_cells r.cells s.cells) h) in
    ap (λ kind. row_at kind r.cells) k ∙ ap (λ cells. row_at s.kind cells) c

row_self : (r : Row) → same_row r r ≡ true
row_self r = both (same_kind r.kind r.kind) (same_cells r.cells r.cells) (kind_self r.kind) (same_cells-self r.cells)

rows_equal : (rs ss : List Row) → same_rows rs ss ≡ true → rs ≡ ss
rows_equal [] [] h = refl
rows_equal (r ∷ rs) (s ∷ ss) h = consed r s rs ss (row_equal r s (left_true (same_row r s) (same_rows rs ss) h)) (rows_equal rs ss (right_true (same_row r s) (same_rows rs ss) h))
rows_equal [] (s ∷ ss) h = absurd cc
rows_equal (r ∷ rs) [] h = absurd cc

rows_self : (rs : List Row) → same_rows rs rs ≡ true
rows_self [] = refl
rows_self (r ∷ rs) = both (same_row r r) (same_rows rs rs) (row_self r) (rows_self rs)

lists_equal : (xs ys : List (List Scalar)) → same_lists xs ys ≡ true → xs ≡ ys
lists_equal [] [] h = refl
lists_equal (x ∷ xs) (y ∷ ys) h = consed x y xs ys (same_cells-true x y (left_true (same_cells x y) (same_lists xs ys) h)) (lists_equal xs ys (right_true (same_cells x y) (same_lists xs ys) h))
lists_equal [] (y ∷ ys) h = absurd cc
lists_equal (x ∷ xs) [] h = absurd cc

lists_self : (xs : List (List Scalar)) → same_lists xs xs ≡ true
lists_self [] = refl
lists_self (x ∷ xs) = both (same_cells x x) (same_lists xs xs) (same_cells-self x) (lists_self xs)

abbrev table_at : List ℕ → List Row → NamedRows
table_at n rs = (n, rs)

table_equal : (t u : NamedRows) → same_table t u ≡ true → t ≡ u
table_equal t u h =
    let name : t.0 ≡ u.0 = (bytes_eq-Decides t.0 u.0).0 (left_true (bytes_eq t.0 u.0) (same_rows t.1 u.1) h) in
    let rows : t.1 ≡ u.1 = rows_equal t.1 u.1 (right_true (bytes_eq t.0 u.0) (same_rows t.1 u.1) h) in
    ap (λ (n : List ℕ). table_at n t.1) name ∙ ap (λ (rs : List Row). table_at u.0 rs) rows

table_self : (t : NamedRows) → same_table t t ≡ true
table_self t = both (bytes_eq t.0 t.0) (same_rows t.1 t.1) ((bytes_eq-Decides t.0 t.0).1 refl) (rows_self t.1)

tables_equal : (ts us : Database) → same_tables ts us ≡ true → ts ≡ us
tables_equal [] [] h = refl
tables_equal (t ∷ ts) (u ∷ us) h = consed t u ts us (table_equal t u (left_true (same_table t u) (same_tables ts us) h)) (tables_equal ts us (right_true (same_table t u) (same_tables ts us) h))
tables_equal [] (u ∷ us) h = absurd cc
tables_equal (t ∷ ts) [] h = absurd cc

tables_self : (ts : Database) → same_tables ts ts ≡ true
tables_self [] = refl
tables_self (t ∷ ts) = both (same_table t t) (same_tables ts ts) (table_self t) (tables_self ts)

abbrev item_at : Database → List Scalar → List (List Scalar) → SmallDb
item_at db values known = record { db = db; entry = record { values = values; known = known } }

item_equal : (a b : SmallDb) → same_item a b ≡ true → a ≡ b
item_equal a b h =
    let values : a.entry.values ≡ b.entry.values = same_cells-true a.entry.values b.entry.values (left_true (same_cells a.entry.values b.entry.values) (same_lists a.entry.known b.entry.known && same_tables a.db b.db) h) in
    let rest = right_true (same_cells a.entry.values b.entry.values) (same_lists a.entry.known b.entry.known && same_tables a.db b.db) h in
    let known : a.entry.known ≡ b.entry.known = lists_equal a.entry.known b.entry.known (left_true (same_lists a.entry.known b.entry.known) (same_tables a.db b.db) rest) in
    let db : a.db ≡ b.db = tables_equal a.db b.db (right_true (same_lists a.entry.known b.entry.known) (same_tables a.db b.db) rest) in
    ap (λ (d : Database). item_at d a.entry.values a.entry.known) db ∙ ap (λ (xs : List Scalar). item_at b.db xs a.entry.known) values ∙ ap (λ (ls : List (List Scalar)). item_at b.db b.entry.values ls) known

item_self : (a : SmallDb) → same_item a a ≡ true
item_self a =
    both (same_cells a.entry.values a.entry.values) (same_lists a.entry.known a.entry.known && same_tables a.db a.db) (same_cells-self a.entry.values)
    (both (same_lists a.entry.known a.entry.known) (same_tables a.db a.db) (lists_self a.entry.known) (tables_self a.db))

-- ---- an item among items

pub is_among : (s : SmallDb) (items : List SmallDb) → list_any (same_item s) items ≡ true → Contains items s
is_among s [] h = absurd cc
is_among s (x ∷ xs) h = go (same_item s x) refl h (λ k. is_among s xs k)
  where
    behind : Contains xs s → Contains (x ∷ xs) s
    behind c = let l = c.1 in (suc c.0, omega (arith, l), c.2)

    go : (b : Bool) → same_item s x ≡ b → (b || list_any (same_item s) xs) ≡ true → (list_any (same_item s) xs ≡ true → Contains xs s) → Contains (x ∷ xs) s
    go true e k ih = (0, omega arith, sym (item_equal s x e))
    go false e k ih = behind (ih k)

or_right : (a b : Bool) → b ≡ true → (a || b) ≡ true
or_right true b e = refl
or_right false b e = e

or_left : (a b : Bool) → a ≡ true → (a || b) ≡ true
or_left true b e = refl
or_left false b e = absurd cc

any_at : (s : SmallDb) (items : List SmallDb) (k : ℕ) → k < length items → slice_index_or items k s ≡ s → list_any (same_item s) items ≡ true
any_at s [] k l e = absurd (omega (arith, l))
any_at s (x ∷ xs) zero l e = or_left (same_item s x) (list_any (same_item s) xs) (subst (λ (y : SmallDb). same_item s y ≡ true) (sym e) (item_self s))
any_at s (x ∷ xs) (suc k) l e = or_right (same_item s x) (list_any (same_item s) xs) (any_at s xs k (omega (arith, l)) e)

pub among_is : (s : SmallDb) (items : List SmallDb) → Contains items s → list_any (same_item s) items ≡ true
among_is s items c = any_at s items c.0 c.1 c.2

-- ---- tables by their numbers

drop_none : {X : Type 0} (xs : List X) (n : ℕ) → slice_get xs n ≡ None → drop n xs ≡ []
drop_none [] zero e = refl
drop_none [] (suc n) e = refl
drop_none (x ∷ xs) zero e = absurd cc
drop_none (x ∷ xs) (suc n) e = drop_none xs n e

drop_some : {X : Type 0} (xs : List X) (n : ℕ) (x : X) → slice_get xs n ≡ Some x → drop n xs ≡ x ∷ drop (suc n) xs
drop_some [] n x e = absurd cc
drop_some (y ∷ xs) zero x e = let same : y ≡ x = cc in ap (λ z. z ∷ xs) same
drop_some (y ∷ xs) (suc n) x e = drop_some xs n x e

some_copied : {X : Type 0} (r : Option (Bor X)) → is_some (option_copied r) ≡ is_some r
some_copied None = refl
some_copied (Some x) = refl

some_mapped : {X Y : Type 0} (g : X → Y) (o : Option X) → is_some (option_map g o) ≡ is_some o
some_mapped g None = refl
some_mapped g (Some x) = refl

some_below : {X : Type 0} (xs : List X) (n : ℕ) → is_some (slice_get xs n) ≡ nat_lt n (length xs)
some_below [] n = sym (le-ltb n 0 (omega arith))
some_below (x ∷ xs) zero = sym (lt-ltb 0 (length (x ∷ xs)) (omega arith))
some_below (x ∷ xs) (suc n) = some_below xs n ∙ more n (length xs)
  where
    more : (m k : ℕ) → nat_lt m k ≡ nat_lt (suc m) (suc k)
    more m k = grind (arith, nat_tests)

-- whether the table with a number is there, from what is found of it
pub is_below : {Y : Type 0} (g : NamedRows → Y) (ts : Database) (n : ℕ) (r : Option (Bor Y)) → option_copied r ≡ option_map g (slice_get ts n) → is_some r ≡ nat_lt n (length ts)
is_below g ts n r e = sym (some_copied r) ∙ ap is_some e ∙ some_mapped g (slice_get ts n) ∙ some_below ts n

none_of : {X : Type 0} (o : Option X) → is_some o ≡ false → o ≡ None
none_of None e = refl
none_of (Some x) e = absurd cc

module _ (ts us : Database) (n : ℕ) where
  none_at : (vs : Database) → nat_lt n (length vs) ≡ false → drop n vs ≡ []
  none_at vs e = drop_none vs n (none_of (slice_get vs n) (some_below vs n ∙ e))

  at_none : (o : Option NamedRows) → slice_get us n ≡ o → same_tables [] (drop n us) ≡ not (is_some o)
  at_none None d = ap (same_tables []) (drop_none us n d)
  at_none (Some u) d = ap (same_tables []) (drop_some us n u d)

  pub none_left : (a b : Bool) → a ≡ nat_lt n (length ts) → a ≡ false → b ≡ nat_lt n (length us) → not b ≡ same_tables (drop n ts) (drop n us)
  none_left a b e f d =
      ap not (d ∙ sym (some_below us n)) ∙ sym (at_none (slice_get us n) refl) ∙ ap (λ (x : Database). same_tables x (drop n us)) (sym (none_at ts (sym e ∙ f)))

  at_some : (t : NamedRows) (o : Option NamedRows) → slice_get ts n ≡ Some t → slice_get us n ≡ o → same_tables (drop n ts) (drop n us) ≡ (same_place (Some t) o && same_tables (drop (suc n) ts) (drop (suc n) us))
  at_some t None e d = ap (λ (x : Database). same_tables x (drop n us)) (drop_some ts n t e) ∙ ap (same_tables (t ∷ drop (suc n) ts)) (drop_none us n d)
  at_some t (Some u) e d = ap (λ (x : Database). same_tables x (drop n us)) (drop_some ts n t e) ∙ ap (same_tables (t ∷ drop (suc n) ts)) (drop_some us n u d)

  some_left : (o : Option NamedRows) → slice_get ts n ≡ o → is_some o ≡ true → same_tables (drop n ts) (drop n us) ≡ (same_place (slice_get ts n) (slice_get us n) && same_tables (drop (n + 1) ts) (drop (n + 1) us))
  some_left None e s = absurd cc
  some_left (Some t) e s =
      let next : suc n ≡ n + 1 = omega arith in
      subst (λ (m : ℕ). same_tables (drop n ts) (drop n us) ≡ (same_place (slice_get ts n) (slice_get us n) && same_tables (drop m ts) (drop m us))) next
      (at_some t (slice_get us n) e refl ∙ ap (λ (o : Option NamedRows). same_place o (slice_get us n) && same_tables (drop (suc n) ts) (drop (suc n) us)) (sym e))

  one_left : (a : Bool) → a ≡ nat_lt n (length ts) → a ≡ true → same_tables (drop n ts) (drop n us) ≡ (same_place (slice_get ts n) (slice_get us n) && same_tables (drop (n + 1) ts) (drop (n + 1) us))
  one_left a e t = some_left (slice_get ts n) refl (some_below ts n ∙ sym e ∙ t)

  -- one is another, or the same with those behind it
  pub other_table : (a b : Bool) → a ≡ nat_lt n (length ts) → a ≡ true → b ≡ same_place (slice_get ts n) (slice_get us n) → b ≡ false → b ≡ same_tables (drop n ts) (drop n us)
  other_table a b e t p f = f ∙ sym (one_left a e t ∙ ap (λ (x : Bool). x && same_tables (drop (n + 1) ts) (drop (n + 1) us)) (sym p ∙ f))

  pub same_so_far : (a b r : Bool) → a ≡ nat_lt n (length ts) → a ≡ true → b ≡ same_place (slice_get ts n) (slice_get us n) → b ≡ true → r ≡ same_tables (drop (n + 1) ts) (drop (n + 1) us) → r ≡ same_tables (drop n ts) (drop n us)
  same_so_far a b r e t p f q = q ∙ sym (one_left a e t ∙ ap (λ (x : Bool). x && same_tables (drop (n + 1) ts) (drop (n + 1) us)) (sym p ∙ f))

-- ---- small tables by their numbers

pub none_small : {Y : Type 0} (g : NamedRows → Y) (p : NamedRows → Bool) (ts : Database) (n : ℕ) (r : Option (Bor Y)) → option_copied r ≡ option_map g (slice_get ts n) → r ≡ None → list_all p (drop n ts) ≡ true
none_small g p ts n r e d =
    ap (list_all p) (drop_none ts n (none_of (slice_get ts n) (sym (some_mapped g (slice_get ts n)) ∙ ap is_some (sym e) ∙ some_copied r ∙ ap is_some d)))

one_small : (p : NamedRows → Bool) (q : List Row → Bool) → ((t : NamedRows) → p t ≡ q t.1) → (ts : Database) (n : ℕ) (o : Option NamedRows) (x : List Row) → slice_get ts n ≡ o → Some x ≡ option_map (λ (t : NamedRows). t.1) o → q x ≡ true
    → list_all p (drop (suc n) ts) ≡ true → list_all p (drop n ts) ≡ true
one_small p q same ts n None x e d h g = absurd cc
one_small p q same ts n (Some t) x e d h g =
    let rows : x ≡ t.1 = cc in
    ap (list_all p) (drop_some ts n t e) ∙ both (p t) (list_all p (drop (suc n) ts)) (same t ∙ ap q (sym rows) ∙ h) g

pub some_small : (p : NamedRows → Bool) (q : List Row → Bool) → ((t : NamedRows) → p t ≡ q t.1) → (ts : Database) (n : ℕ) (r : Option (Bor (List Row))) (x : Bor (List Row)) → option_copied r ≡ option_map (λ (t : NamedRows). t.1) (slice_get ts n)
    → r ≡ Some x → q x.now ≡ true → list_all p (drop (n + 1) ts) ≡ true → list_all p (drop n ts) ≡ true
some_small p q same ts n r x e d h g =
    one_small p q same ts n (slice_get ts n) x.now refl (ap option_copied (sym d) ∙ e) h (let next : n + 1 ≡ suc n = omega arith in subst (λ (m : ℕ). list_all p (drop m ts) ≡ true) next g)
