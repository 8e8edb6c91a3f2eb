-- The names that the tokens of a schema declare are those of its tables and columns.
use Rattle.std.proofs.Common.{◌≡◌, ℕ, Bool, true, false, ◌&&◌, cond, List, [], ◌∷◌, ◌++◌, length, Option, Some, None, map, refl, sym, ap, ◌∙◌, append_assoc, arith}
use Rattle.std.specs.Prelude.{codes, nat_lt}
use Rattle.std.proofs.lemmas.Bool.Decides.{nat_tests}
use Rattle.readers.specs.Reading.{first_passes}
use Rattle.qbs_base.specs.declared.span.Span.{Span}
use Rattle.qbs_base.specs.declared.scalar.Ty.{Ty}
use Rattle.qbs_base.specs.declared.columns.Column.{Column}
use Rattle.qbs_base.specs.declared.columns.Table.{Table}
use Rattle.schema.specs.declared.token.Kind.{Kind}
use Rattle.schema.specs.declared.token.Kind.TheVariants.{Word, Sign}
use Rattle.schema.specs.declared.token.Sign.TheVariants.{Close, Semicolon}
use Rattle.schema.specs.declared.token.Token.{Token}
use Rattle.schema.specs.declared.names.Where.{Where}
use Rattle.schema.specs.declared.names.Where.TheVariants as at
use Rattle.schema.specs.declared.names.Role.{Role}
use Rattle.schema.specs.declared.names.Role.TheVariants as role
use Rattle.schema.specs.declared.draft.Marks.{Marks}
use Rattle.schema.specs.Marks.{Rest, keyed}
use Rattle.schema.specs.Words.{spells}
use Rattle.schema.specs.Tokens.{kinds_of}
use Rattle.schema.specs.Grammar.{HasType, long, truth, text, sized, HasMarks, unmarked, not_null, primary, HasRest, typed, HasNames, one, further, HasColumns, none, key, more, HasTable, table, HasSchema, empty, followed}
use Rattle.schema.specs.Reading.{is_word}
use Rattle.schema.specs.Naming.{next_where, begins_key, role_of, Declared, declares, declared_before}
use Rattle.schema_text.proofs.Complete.{rest_starts}

-- a name and what it is the name of
abbrev pub Plain : Type 0
Plain = Role × List ℕ

abbrev pub plain_of : Declared → Plain
plain_of d = (d.role, d.name)

-- ---- the same without places

abbrev key_follows : List ℕ → List Kind → Bool
key_follows word ks = spells (codes "PRIMARY") word && first_passes (is_word (codes "KEY")) ks

abbrev role_in : Where → Kind → List Kind → Option Plain
role_in at.TableName (Word n) ks = Some (role.Table, n)
role_in at.ColumnName (Word n) ks = cond (key_follows n ks) None (Some (role.Column, n))
role_in w k ks = None

abbrev some_of : Option Plain → List Plain
some_of None = []
some_of (Some p) = p ∷ []

unfoldable pub names_in : Where → List Kind → List Plain
names_in w [] = []
names_in w (k ∷ ks) = some_of (role_in w k ks) ++ names_in (next_where w k) ks

key_same : (n : List ℕ) (ts : List Token) → begins_key n ts ≡ key_follows n (kinds_of ts)
key_same n [] = refl
key_same n (t ∷ ts) = refl

role_same : (w : Where) (k : Kind) (ts : List Token) → role_of w k ts ≡ role_in w k (kinds_of ts)
role_same at.TableName (Word n) ts = refl
role_same at.ColumnName (Word n) ts = ap (λ (b : Bool). cond b None (Some (role.Column, n))) (key_same n ts)
role_same _ _ ts = refl

declares_same : (o : Option Plain) (span : Span) → map plain_of (declares o span) ≡ some_of o
declares_same None span = refl
declares_same (Some p) span = refl

map_append : (xs ys : List Declared) → map plain_of (xs ++ ys) ≡ map plain_of xs ++ map plain_of ys
map_append [] ys = refl
map_append (x ∷ xs) ys = ap (λ (zs : List Plain). plain_of x ∷ zs) (map_append xs ys)

none_left : (n : ℕ) → nat_lt n 0 ≡ false
none_left n = grind (arith, nat_tests)

pub declared_same : (w : Where) (ts : List Token) → map plain_of (declared_before 0 w ts) ≡ names_in w (kinds_of ts)
unfolding declared_before names_in
declared_same w [] = refl
declared_same w (t ∷ ts) =
    let here : map plain_of (declares (role_of w t.kind ts) t.at) ≡ some_of (role_in w t.kind (kinds_of ts)) = declares_same (role_of w t.kind ts) t.at ∙ ap some_of (role_same w t.kind ts) in
    ap (λ (b : Bool). map plain_of (cond b [] (declares (role_of w t.kind ts) t.at ++ declared_before 0 (next_where w t.kind) ts))) (none_left (length ts))
    ∙ map_append (declares (role_of w t.kind ts) t.at) (declared_before 0 (next_where w t.kind) ts)
    ∙ ap (λ (zs : List Plain). zs ++ map plain_of (declared_before 0 (next_where w t.kind) ts)) here
    ∙ ap (λ (zs : List Plain). some_of (role_in w t.kind (kinds_of ts)) ++ zs) (declared_same (next_where w t.kind) ts)

-- ---- parts that declare nothing

type_silent : (us : List Kind) (t : Ty) (ks : List Kind) → HasType us t → names_in at.Body (us ++ ks) ≡ names_in at.Body ks
unfolding names_in
type_silent _ _ ks (long e) = refl
type_silent _ _ ks (truth e) = refl
type_silent _ _ ks (text e) = refl
type_silent _ _ ks (sized e) = refl

marks_silent : (us : List Kind) (marks : Marks) (ks : List Kind) → HasMarks us marks → names_in at.Body (us ++ ks) ≡ names_in at.Body ks
unfolding names_in
marks_silent _ _ ks unmarked = refl
marks_silent _ _ ks (not_null {ts} {marks} p q h) = marks_silent ts marks ks h
marks_silent _ _ ks (primary {ts} {marks} p q h) = marks_silent ts marks ks h

rest_silent : (us : List Kind) (x : Rest) (ks : List Kind) → HasRest us x → names_in at.Body (us ++ ks) ≡ names_in at.Body ks
rest_silent _ _ ks (typed {us} {vs} {t} {marks} p q) = ap (names_in at.Body) (append_assoc us vs ks) ∙ type_silent us t (vs ++ ks) p ∙ marks_silent vs marks ks q

names_silent : (us : List Kind) (names : List (List ℕ)) (ks : List Kind) → HasNames us names → names_in at.Inner (us ++ ks) ≡ names_in at.Inner ks
unfolding names_in
names_silent _ _ ks one = refl
names_silent _ _ ks (further {ts} {names} h) = names_silent ts names ks h

-- ---- columns and tables

abbrev pub column_name : Column → Plain
column_name c = (role.Column, c.name)

abbrev pub columns_names : List Column → List Plain
columns_names [] = []
columns_names (c ∷ cs) = column_name c ∷ columns_names cs

abbrev pub tables_names : List Table → List Plain
tables_names [] = []
tables_names (t ∷ ts) = (role.Table, t.name) ∷ columns_names t.columns ++ tables_names ts

no_key : (n : List ℕ) (us : List Kind) (x : Rest) (ks : List Kind) → HasRest us x → key_follows n (us ++ ks) ≡ false
no_key n us x ks h =
    let (w, vs, parts, unlike) = rest_starts us x h in
    rw (parts, unlike) (never_true (spells (codes "PRIMARY") n))
  where
    never_true : (b : Bool) → (b && false) ≡ false
    never_true true = refl
    never_true false = refl

-- a column's name, and what stands behind it
column_names : (n : List ℕ) (us : List Kind) (x : Rest) (ks : List Kind) → HasRest us x → names_in at.ColumnName (Word n ∷ us ++ ks) ≡ (role.Column, n) ∷ names_in at.Body ks
unfolding names_in
column_names n us x ks h = rw (no_key n us x ks h) (ap (λ (zs : List Plain). (role.Column, n) ∷ zs) (rest_silent us x ks h))

columns_declare : (us : List Kind) (columns : List Column) (names : List (List ℕ)) (ks : List Kind) → HasColumns us columns names → names_in at.Body (us ++ ks) ≡ columns_names columns ++ names_in at.Body ks
unfolding names_in
columns_declare _ _ _ ks none = refl
columns_declare _ _ _ ks (key {v} {w} {ts} {names} p q h) =
    rw (p, q) (ap (names_in at.Inner) (append_assoc ts (Sign Close ∷ []) ks) ∙ names_silent ts names (Sign Close ∷ ks) h)
columns_declare _ _ _ ks (more {n} {rest} {us} {vs} {columns} {names} p h) =
    ap (λ (zs : List Kind). names_in at.ColumnName (Word n ∷ zs)) (append_assoc us vs ks) ∙ column_names n us rest (vs ++ ks) p ∙ ap (λ (zs : List Plain). (role.Column, n) ∷ zs) (columns_declare vs columns names ks h)

-- a key clause changes no name
keyed_names : (names : List (List ℕ)) (columns : List Column) → columns_names (map (keyed names) columns) ≡ columns_names columns
keyed_names names [] = refl
keyed_names names (c ∷ columns) = ap (λ (zs : List Plain). column_name c ∷ zs) (keyed_names names columns)

table_declares : (us : List Kind) (t : Table) (ks : List Kind) → HasTable us t → names_in at.Create (us ++ ks) ≡ (role.Table, t.name) ∷ columns_names t.columns ++ names_in at.Create ks
unfolding names_in
table_declares _ _ ks (table {v} {w} {n} {m} {us} {vs} {rest} {columns} {names} p q h k) =
    let parts : (us ++ (vs ++ Sign Close ∷ Sign Semicolon ∷ [])) ++ ks ≡ us ++ (vs ++ (Sign Close ∷ Sign Semicolon ∷ ks)) =
    append_assoc us (vs ++ Sign Close ∷ Sign Semicolon ∷ []) ks ∙ ap (λ (zs : List Kind). us ++ zs) (append_assoc vs (Sign Close ∷ Sign Semicolon ∷ []) ks) in
    ap (λ (zs : List Plain). (role.Table, n) ∷ zs)
    (ap (λ (zs : List Kind). names_in at.ColumnName (Word m ∷ zs)) parts
    ∙ column_names m us rest (vs ++ (Sign Close ∷ Sign Semicolon ∷ ks)) h
    ∙ ap (λ (zs : List Plain). (role.Column, m) ∷ zs) (columns_declare vs columns names (Sign Close ∷ Sign Semicolon ∷ ks) k)
    ∙ ap (λ (zs : List Plain). (role.Column, m) ∷ zs ++ names_in at.Create ks) (sym (keyed_names names columns)))

schema_declares : (ks : List Kind) (tables : List Table) → HasSchema ks tables → names_in at.Create ks ≡ tables_names tables
unfolding names_in
schema_declares _ _ empty = refl
schema_declares _ _ (followed {us} {vs} {t} {tables} p h) =
    table_declares us t vs p ∙ ap (λ (zs : List Plain). (role.Table, t.name) ∷ columns_names t.columns ++ zs) (schema_declares vs tables h)

-- the names that the tokens of a schema declare
pub names_agree : (ts : List Token) (tables : List Table) → HasSchema (kinds_of ts) tables → map plain_of (declared_before 0 at.Create ts) ≡ tables_names tables
names_agree ts tables h = declared_same at.Create ts ∙ schema_declares (kinds_of ts) tables h
