-- Orders of lists by their columns. Both sorts are stable, and numbers, truth values and, compared by their bytes, texts have one order.
use Rattle.std.specs.Prelude.{ℕ, ◌+◌, Bool, true, false, ◌&&◌, ◌||◌, ◌==◌, not, List, [], ◌∷◌, ◌++◌, codes, Option, Some, None, slice_get, if◌then◌else◌}
use Rattle.std.specs.Str.{bytes_eq}
use Rattle.view_map.specs.declared.model.Member.{Member}
use Rattle.view_map.specs.declared.model.RowClass.{RowClass}
use Rattle.view_map.specs.declared.model.ScalarKind.{ScalarKind}
use Rattle.view_map.specs.declared.model.ScalarKind.TheVariants as kinds
use Rattle.view_rules.specs.declared.java_type.JavaType.{JavaType}
use Rattle.view_rules.specs.declared.java_type.JavaType.TheVariants as types
use Rattle.view_rules.specs.declared.sight.Sighted.{Sighted}
use Rattle.view_rules.specs.Decisions.{is_text_kind}
use Rattle.view_rules.specs.Lists.{many_at}
use Rattle.view_rules.specs.Names.{Seen, member_of, past_member}
use Rattle.view_rules.specs.Options.{◌>>=◌, where_so}
use Rattle.view_rules.specs.Queries.{class_word}
use Rattle.view_rules.specs.Setting.{Within, is_at, past, past_all, next, here, is_clear}
use Rattle.view_rules.specs.Spelled.{bytes_at}
use Rattle.view_shapes.specs.Found.{is_name}
use Rattle.view_statements.specs.declared.statement.KeyForm.{KeyForm}
use Rattle.view_statements.specs.declared.statement.KeyForm.TheVariants as forms
use Rattle.view_statements.specs.declared.statement.SortKey.{SortKey}
use Rattle.view_statements.specs.declared.statement.SortPart.{SortPart}
use Rattle.view_statements.specs.declared.statement.SortPart.TheVariants as order
use Rattle.view_statements.specs.Places.{Frame, is_new_name}

-- the name of the row's class
abbrev pub class_name : Frame → ℕ → List ℕ
class_name f class = class_word (slice_get f.within.map.classes class)

-- `T::m` of a member that is a method: behind it
abbrev pub past_reference : Frame → SortKey → Member → ℕ → Option ℕ
past_reference f key m i =
    where_so (m.is_call && is_clear f.within (class_name f key.class)) i >>= λ h.
    past_all f.within (class_name f key.class ∷ codes "::" ∷ m.name ∷ []) h

-- `x -> x.m` or `x -> x.m()`, with a new name at a number
abbrev pub past_lambda : Frame → List Sighted → SortKey → ℕ → Option ℕ
past_lambda f s key i =
    where_so (is_new_name f s i) i >>= λ h. next f.within h >>= λ g. past_all f.within (codes "->" ∷ bytes_at f.within i ∷ []) g >>= λ k.
    past_member f.within key.class key.member k >>= λ seen. Some seen.0

-- `(T x) -> x.m`
abbrev pub past_typed_lambda : Frame → List Sighted → SortKey → ℕ → Option ℕ
past_typed_lambda f s key i =
    past_all f.within (codes "(" ∷ class_name f key.class ∷ []) i >>= λ x. where_so (is_new_name f s x) x >>= λ h.
    next f.within h >>= λ g. past_all f.within (codes ")" ∷ codes "->" ∷ bytes_at f.within x ∷ []) g >>= λ j.
    past_member f.within key.class key.member j >>= λ seen. Some seen.0

abbrev pub past_key : Frame → List Sighted → SortKey → Member → KeyForm → ℕ → Option ℕ
past_key f s key m forms.Reference i = past_reference f key m i
past_key f s key m forms.Lambda i = past_lambda f s key i
past_key f s key m forms.TypedLambda i = past_typed_lambda f s key i

-- the call that compares by a key of a kind: any, or the one of that very type
abbrev pub order_call : Bool → List ℕ
order_call true = codes "comparing"
order_call false = codes "thenComparing"

abbrev pub special_call : Bool → ScalarKind → List ℕ
special_call true kinds.Int = codes "comparingInt"
special_call true kinds.Long = codes "comparingLong"
special_call false kinds.Int = codes "thenComparingInt"
special_call false kinds.Long = codes "thenComparingLong"
special_call first kind = order_call first

abbrev pub is_order_call : Frame → Bool → ScalarKind → ℕ → Bool
is_order_call f first kind i = is_at f.within i (order_call first) || is_at f.within i (special_call first kind)

-- a text is a key where the database compares texts by their bytes
abbrev pub may_be_key : Frame → Member → Bool
may_be_key f m = f.within.map.texts_binary || not (is_text_kind m.java.kind)

-- in parentheses the key
abbrev pub past_key_in : Frame → List Sighted → SortKey → Member → ℕ → Option ℕ
past_key_in f s key m i =
    past f.within (codes "(") i >>= λ j. here key.at j >>= λ k. past_key f s key m key.form k >>= λ l. past f.within (codes ")") l

-- `comparing(K)`, `comparingInt(K)`, or with `thenComparing`; the member is one of the row's class
abbrev pub past_comparison : Frame → List Sighted → Bool → SortKey → ℕ → Option ℕ
past_comparison f s first key i =
    member_of f.within key.class key.member >>= λ m. where_so (may_be_key f m && is_order_call f first m.java.kind i) i >>= λ h.
    next f.within h >>= λ g. past_key_in f s key m g

-- `.thenComparing(K)` with a further key of the same class, or `.reversed()`, which turns all before it
abbrev pub past_part : Frame → List Sighted → ℕ → SortPart → ℕ → Option ℕ
past_part f s class (order.Key key) i =
    where_so (key.class == class) i >>= λ g. past f.within (codes ".") g >>= λ h. past_comparison f s false key h
past_part f s class (order.Reversed at) i =
    here at i >>= λ h. past_all f.within (codes "." ∷ codes "reversed" ∷ codes "(" ∷ codes ")" ∷ []) h

abbrev pub past_parts : Frame → List Sighted → ℕ → List SortPart → ℕ → Option ℕ
past_parts f s class [] i = Some i
past_parts f s class (part ∷ parts) i = past_part f s class part i >>= λ k. past_parts f s class parts k

-- `Comparator.comparing(K)` with a key of this class
abbrev pub past_first : Frame → List Sighted → ℕ → SortPart → ℕ → Option ℕ
past_first f s class (order.Key key) i =
    where_so (is_clear f.within (codes "Comparator") && (key.class == class)) i >>= λ g.
    past_all f.within (codes "Comparator" ∷ codes "." ∷ []) g >>= λ h. past_comparison f s true key h
past_first f s class (order.Reversed at) i = None

-- a comparator of rows of this class, with at least one key
abbrev pub past_comparator : Frame → List Sighted → ℕ → List SortPart → ℕ → Option ℕ
past_comparator f s class [] i = None
past_comparator f s class (part ∷ parts) i = past_first f s class part i >>= λ k. past_parts f s class parts k

-- a list of rows
abbrev pub class_of_rows : JavaType → Option ℕ
class_of_rows (types.Rows c) = Some c
class_of_rows java = None

-- the name of a list of rows stands at a number that is named
abbrev pub rows_at : Frame → List Sighted → ℕ → ℕ → Option ℕ
rows_at f s list i = here list i >>= λ h. many_at f.within s h >>= λ java. class_of_rows java

-- `xs.sort(C)` or `Collections.sort(xs, C)`, with a semicolon behind
abbrev pub ordered_by_list : Frame → List Sighted → ℕ → List SortPart → ℕ → Option ℕ
ordered_by_list f s list parts i =
    rows_at f s list i >>= λ class. next f.within i >>= λ h.
    past_all f.within (codes "." ∷ codes "sort" ∷ codes "(" ∷ []) h >>= λ j. past_comparator f s class parts j >>= λ k.
    past_all f.within (codes ")" ∷ codes ";" ∷ []) k

abbrev pub ordered_by_class : Frame → List Sighted → ℕ → List SortPart → ℕ → Option ℕ
ordered_by_class f s list parts i =
    where_so (is_clear f.within (codes "Collections")) i >>= λ h.
    past_all f.within (codes "Collections" ∷ codes "." ∷ codes "sort" ∷ codes "(" ∷ []) h >>= λ x.
    rows_at f s list x >>= λ class. next f.within x >>= λ g. past f.within (codes ",") g >>= λ j.
    past_comparator f s class parts j >>= λ k. past_all f.within (codes ")" ∷ codes ";" ∷ []) k

abbrev pub ordered_by : Frame → List Sighted → Bool → ℕ → List SortPart → ℕ → Option ℕ
ordered_by f s true list parts i = ordered_by_class f s list parts i
ordered_by f s false list parts i = ordered_by_list f s list parts i
