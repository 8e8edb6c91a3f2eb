-- Tables that are added one after the other.
use Rattle.std.proofs.Common.{◌≡◌, ℕ, Bool, true, false, ◌||◌, List, [], ◌∷◌, ◌++◌, length, map, Some, None, refl, sym, ap, subst, ◌∙◌, append_assoc, append-nil}
use Rattle.std.specs.Prelude.{slice_get, slice_set}
use Rattle.std.specs.List.{AllByRecursion, IsDistinct, list_any}
use Rattle.std.specs.Str.{bytes_eq}
use Rattle.std.proofs.lemmas.List.{map-append}
use Rattle.qbs_base.specs.declared.columns.Table.{Table}
use Rattle.qbs_base.specs.declared.scalar.Row.{Row}
use Rattle.qbs_base.specs.Named.{at_name}
use Rattle.qbs_base.specs.Tables.{NamedRows, with_row}
use Rattle.qbs_base.specs.Values.{Database}
use Rattle.small_dbs.specs.Adding.{AreNew, names_in, with_rows}

last_held : {A : Type 0} (before : List A) (y : A) → slice_get (before ++ y ∷ []) (length before) ≡ Some y
last_held [] y = refl
last_held (x ∷ before) y = last_held before y

last_set : {A : Type 0} (before : List A) (y z : A) → slice_set (before ++ y ∷ []) (length before) z ≡ before ++ z ∷ []
last_set [] y z = refl
last_set (x ∷ before) y z = ap (λ rest. x ∷ rest) (last_set before y z)

row_put : (before : Database) (name : List ℕ) (rows : List Row) (row : Row) → with_row (before ++ (name, rows) ∷ []) (length before) row ≡ before ++ (name, rows ++ row ∷ []) ∷ []
row_put before name rows row = rw (with_row, last_held before (name, rows)) (last_set before (name, rows) (name, rows ++ row ∷ []))

rows_put : (before : Database) (name : List ℕ) (rows more : List Row) → with_rows (before ++ (name, rows) ∷ []) (length before) more ≡ before ++ (name, rows ++ more) ∷ []
rows_put before name rows [] = ap (λ held. before ++ (name, held) ∷ []) (sym (append-nil rows))
rows_put before name rows (row ∷ more) =
    ap (λ db. with_rows db (length before) more) (row_put before name rows row)
    ∙ rows_put before name (rows ++ row ∷ []) more
    ∙ ap (λ held. before ++ (name, held) ∷ []) (append_assoc rows (row ∷ []) more)

-- a table with its rows
pub table_added : (old first new : Database) (name own : List ℕ) (rows : List Row) (k : ℕ) → own ≡ name → k ≡ length old → first ≡ old ++ (own, []) ∷ [] → new ≡ with_rows first k rows → new ≡ old ++ (name, rows) ∷ []
table_added old first new name own rows k named number added put =
    put ∙ ap (λ db. with_rows db k rows) added ∙ ap (λ j. with_rows (old ++ (own, []) ∷ []) j rows) number ∙ rows_put old own [] rows ∙ ap (λ called. old ++ (called, rows) ∷ []) named

-- a name that no table has
pub not_held : (db : Database) (name : List ℕ) → list_any (λ own. bytes_eq own name) (names_in db) ≡ false → at_name db name ≡ None
not_held [] name h = refl
not_held (t ∷ rest) name h = go (bytes_eq t.0 name) refl h (not_held rest name)
  where
    go : (b : Bool) → bytes_eq t.0 name ≡ b → (b || list_any (λ own. bytes_eq own name) (names_in rest)) ≡ false → (list_any (λ own. bytes_eq own name) (names_in rest) ≡ false → at_name rest name ≡ None) → at_name (t ∷ rest) name ≡ None
    go true e k ih = absurd cc
    go false e k ih = rw e (ih k)

any_more : (names : List (List ℕ)) (one name : List ℕ) → list_any (λ own. bytes_eq own name) names ≡ false → bytes_eq one name ≡ false → list_any (λ own. bytes_eq own name) (names ++ one ∷ []) ≡ false
any_more [] one name h e = rw e refl
any_more (n ∷ names) one name h e = go (bytes_eq n name) h (λ k. any_more names one name k e)
  where
    go : (b : Bool) → (b || list_any (λ own. bytes_eq own name) names) ≡ false → (list_any (λ own. bytes_eq own name) names ≡ false → list_any (λ own. bytes_eq own name) (names ++ one ∷ []) ≡ false) → (b || list_any (λ own. bytes_eq own name) (names ++ one ∷ [])) ≡ false
    go true k ih = absurd cc
    go false k ih = ih k

all_more : (names : List (List ℕ)) (one : List ℕ) (ts : List Table) → AllByRecursion (λ (t : Table). list_any (λ own. bytes_eq own t.name) names ≡ false) ts → AllByRecursion (λ name. bytes_eq one name ≡ false) (map (λ (t : Table). t.name) ts)
    → AllByRecursion (λ (t : Table). list_any (λ own. bytes_eq own t.name) (names ++ one ∷ []) ≡ false) ts
all_more names one [] h e = tt
all_more names one (t ∷ ts) h e = (any_more names one t.name h.0 e.0, all_more names one ts h.1 e.1)

new_from : (names : List (List ℕ)) (ts : List Table) → AllByRecursion (λ (t : Table). list_any (λ own. bytes_eq own t.name) names ≡ false) ts → IsDistinct bytes_eq (map (λ (t : Table). t.name) ts) → AreNew names ts
unfolding IsDistinct
new_from names [] h d = tt
new_from names (t ∷ ts) h d = (h.0, new_from (names ++ t.name ∷ []) ts (all_more names t.name ts h.1 d.0) d.1)

none_yet : (ts : List Table) → AllByRecursion (λ (t : Table). list_any (λ own. bytes_eq own t.name) [] ≡ false) ts
none_yet [] = tt
none_yet (t ∷ ts) = (refl, none_yet ts)

pub all_new : (ts : List Table) → IsDistinct bytes_eq (map (λ (t : Table). t.name) ts) → AreNew [] ts
all_new ts d = new_from [] ts (none_yet ts) d

-- the names with one table more
pub named_more : (old new : Database) (name : List ℕ) (rows : List Row) (rest : List Table) → new ≡ old ++ (name, rows) ∷ [] → AreNew (names_in old ++ name ∷ []) rest → AreNew (names_in new) rest
named_more old new name rows rest e h = subst (λ names. AreNew names rest) (sym (ap names_in e ∙ map-append (λ (t : NamedRows). t.0) old ((name, rows) ∷ []))) h
