-- The grammar of schemas, by cases on tokens.
use Rattle.std.specs.Prelude.{◌≡◌, ℕ, true, ◌||◌, List, [], ◌∷◌, ◌++◌, map, codes}
use Rattle.qbs_base.specs.declared.scalar.Ty.{Ty}
use Rattle.qbs_base.specs.declared.scalar.Ty.TheVariants as ty
use Rattle.qbs_base.specs.declared.columns.Column.{Column}
use Rattle.qbs_base.specs.declared.columns.Table.{Table}
use Rattle.schema.specs.declared.token.Kind.{Kind}
use Rattle.schema.specs.declared.token.Kind.TheVariants.{Word, Digits, Sign}
use Rattle.schema.specs.declared.token.Sign.TheVariants.{Open, Close, Comma, Semicolon}
use Rattle.schema.specs.declared.draft.Mark.TheVariants.{NotNull, PrimaryKey}
use Rattle.schema.specs.declared.draft.Marks.{Marks}
use Rattle.schema.specs.Marks.{no_marks, with_mark, Rest, column_of, keyed}
use Rattle.schema.specs.Words.{spells}

-- a type, of one word or VARCHAR with a length
pub data HasType : List Kind → Ty → Type 0 where
  long : {w : List ℕ} → (spells (codes "BIGINT") w || spells (codes "INTEGER") w || spells (codes "INT") w) ≡ true → HasType (Word w ∷ []) ty.Long
  truth : {w : List ℕ} → spells (codes "BOOLEAN") w ≡ true → HasType (Word w ∷ []) ty.Bool
  text : {w : List ℕ} → spells (codes "TEXT") w ≡ true → HasType (Word w ∷ []) ty.Text
  sized : {w : List ℕ} → spells (codes "VARCHAR") w ≡ true → HasType (Word w ∷ Sign Open ∷ Digits ∷ Sign Close ∷ []) ty.Text

-- NOT NULL and PRIMARY KEY behind a type, any number of them
pub data HasMarks : List Kind → Marks → Type 0 where
  unmarked : HasMarks [] no_marks
  not_null : {v w : List ℕ} {ts : List Kind} {marks : Marks} → spells (codes "NOT") v ≡ true → spells (codes "NULL") w ≡ true
      → HasMarks ts marks → HasMarks (Word v ∷ Word w ∷ ts) (with_mark marks NotNull)
  primary : {v w : List ℕ} {ts : List Kind} {marks : Marks} → spells (codes "PRIMARY") v ≡ true → spells (codes "KEY") w ≡ true
      → HasMarks ts marks → HasMarks (Word v ∷ Word w ∷ ts) (with_mark marks PrimaryKey)

-- what stands behind a column's name
pub data HasRest : List Kind → Rest → Type 0 where
  typed : {us vs : List Kind} {t : Ty} {marks : Marks} → HasType us t → HasMarks vs marks → HasRest (us ++ vs) (t, marks)

-- names with commas between them
pub data HasNames : List Kind → List (List ℕ) → Type 0 where
  one : {n : List ℕ} → HasNames (Word n ∷ []) (n ∷ [])
  further : {n : List ℕ} {ts : List Kind} {names : List (List ℕ)} → HasNames ts names → HasNames (Word n ∷ Sign Comma ∷ ts) (n ∷ names)

-- the columns after a first one, and the names of the key clause, if there is one
pub data HasColumns : List Kind → List Column → List (List ℕ) → Type 0 where
  none : HasColumns [] [] []
  key : {v w : List ℕ} {ts : List Kind} {names : List (List ℕ)} → spells (codes "PRIMARY") v ≡ true → spells (codes "KEY") w ≡ true → HasNames ts names
      → HasColumns (Sign Comma ∷ Word v ∷ Word w ∷ Sign Open ∷ ts ++ Sign Close ∷ []) [] names
  more : {n : List ℕ} {rest : Rest} {us vs : List Kind} {columns : List Column} {names : List (List ℕ)} → HasRest us rest → HasColumns vs columns names
      → HasColumns (Sign Comma ∷ Word n ∷ us ++ vs) (column_of (n, rest) ∷ columns) names

-- a table, of which each column that the key clause names is primary
pub data HasTable : List Kind → Table → Type 0 where
  table : {v w n m : List ℕ} {us vs : List Kind} {rest : Rest} {columns : List Column} {names : List (List ℕ)}
      → spells (codes "CREATE") v ≡ true → spells (codes "TABLE") w ≡ true → HasRest us rest → HasColumns vs columns names
      → HasTable (Word v ∷ Word w ∷ Word n ∷ Sign Open ∷ Word m ∷ us ++ (vs ++ Sign Close ∷ Sign Semicolon ∷ []))
      (record { name = n; columns = map (keyed names) (column_of (m, rest) ∷ columns) })

pub data HasSchema : List Kind → List Table → Type 0 where
  empty : HasSchema [] []
  followed : {us vs : List Kind} {t : Table} {tables : List Table} → HasTable us t → HasSchema vs tables → HasSchema (us ++ vs) (t ∷ tables)
