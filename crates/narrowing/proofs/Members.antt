-- The query depends on which variables are assigned, and not on how often.
use Rattle.std.specs.Prelude.{ℕ, Bool, not, ◌&&◌, ◌||◌, List, [], ◌∷◌, length, nat_lt, if◌then◌else◌}
use Rattle.std.specs.Option.{option_map}
use Rattle.std.specs.declared.option.Option.{Option}
use Rattle.std.specs.declared.option.Option.TheVariants.{Some, None}
use Rattle.std.proofs.Common.{◌≡◌, refl, sym, ap, ap₂, ◌∙◌}
use Rattle.qbs_base.specs.declared.span.Span.{Span}
use Rattle.qbs_base.specs.Columns.{columns_at, table_number}
use Rattle.qbs_base.specs.Values.{Schema}
use Rattle.java_ast.specs.declared.tree.Op.TheVariants as ops
use Rattle.java_ast.specs.Names.{Names, is_among}
use Rattle.java_ast.specs.Path.{found_in}
use Rattle.java_ast.specs.Tree.{Table, Expression, Var, Field, Binary, Not, Equals, Fetch, Query, Statements, Nothing, Then, If}
use Rattle.sql_ast.specs.Canonical.{canonical}
use Rattle.sql_ast.specs.Tree.{Listing}
use Rattle.spreads.specs.Narrowed.{Arguments, is_column, are_compared, is_plain, with_part, taken, all_read, parts_of, taken_condition, selecting, expressions, query_for, query_in_place, query_of_body}
use Rattle.spreads.specs.Staying.{assigned_among, stays}
use Rattle.narrowing.specs.Bodies.{table_fetched, only_condition}

abbrev pub Same : Names → Names → Type 0
Same A B = (y : List ℕ) → is_among A y ≡ is_among B y

same_stays : (A B : Names) → Same A B → (e : Expression) → stays A e ≡ stays B e
same_stays A B h (Var at x) = ap not (h x)
same_stays A B h (Field at (Var at' x) column) = ap not (h x)
same_stays A B h e = refl

same_compared : (A B : Names) (x : List ℕ) → Same A B → (a b : Expression) → are_compared A x a b ≡ are_compared B x a b
same_compared A B x h a b = ap₂ (λ (p q : Bool). (is_column x a && (is_column x b || p)) || (is_column x b && q)) (same_stays A B h b) (same_stays A B h a)

same_plain : (A B : Names) (x : List ℕ) → Same A B → (e : Expression) → is_plain A x e ≡ is_plain B x e
same_plain A B x h (Binary at ops.And a b) = ap₂ (λ (p q : Bool). p && q) (same_plain A B x h a) (same_plain A B x h b)
same_plain A B x h (Binary at ops.Or a b) = ap₂ (λ (p q : Bool). p && q) (same_plain A B x h a) (same_plain A B x h b)
same_plain A B x h (Binary at ops.Eq a b) = same_compared A B x h a b
same_plain A B x h (Binary at ops.Ne a b) = same_compared A B x h a b
same_plain A B x h (Binary at ops.Lt a b) = same_compared A B x h a b
same_plain A B x h (Binary at ops.Le a b) = same_compared A B x h a b
same_plain A B x h (Binary at ops.Gt a b) = same_compared A B x h a b
same_plain A B x h (Binary at ops.Ge a b) = same_compared A B x h a b
same_plain A B x h (Not at a) = same_plain A B x h a
same_plain A B x h (Equals at a b) = same_compared A B x h a b
same_plain A B x h e = refl

same_taken : (A B : Names) (x : List ℕ) → Same A B → (args : Arguments) (es : List Expression) → taken A x args es ≡ taken B x args es
same_taken A B x h args [] = refl
same_taken A B x h args (e ∷ es) =
    ap (λ (b : Bool). if b && nat_lt (length (with_part x args e)) 10 then e ∷ taken A x (with_part x args e) es else taken A x args es) (same_plain A B x h e)
    ∙ ap₂ (λ (p q : List Expression). if is_plain B x e && nat_lt (length (with_part x args e)) 10 then e ∷ p else q) (same_taken A B x h (with_part x args e) es) (same_taken A B x h args es)

abbrev query_of_parts : Schema → Span → List ℕ → ℕ → List ℕ → List Expression → Option Expression
query_of_parts schema at name table x parts =
    option_map (λ d. Query at (Table name) (canonical (Listing (selecting name table d))) (expressions (all_read x [] parts))) (taken_condition (columns_at schema table) x (all_read x [] parts) parts)

same_query : (A B : Names) (x : List ℕ) → Same A B → (schema : Schema) (at : Span) (name : List ℕ) (table : ℕ) (c : Expression) → query_for schema at name table A x c ≡ query_for schema at name table B x c
same_query A B x h schema at name table c = ap (query_of_parts schema at name table x) (same_taken A B x h [] (parts_of c))

-- ---- The body of a for-each

abbrev query_with : Schema → Names → List ℕ → Option (Span × List ℕ) → Option Expression → Option Expression
query_with schema A x None o = None
query_with schema A x (Some p) None = None
query_with schema A x (Some p) (Some c) = query_in_place schema p.0 p.1 A x c

by_parts : (schema : Schema) (x : List ℕ) (e : Expression) (body : Statements) → query_of_body schema e x body ≡ query_with schema (assigned_among body) x (table_fetched e) (only_condition body)
by_parts schema x (Fetch at name) (Then (If at' c a) Nothing) = refl
by_parts schema x (Fetch at name) Nothing = refl
by_parts schema x (Fetch at name) (Then s (Then t p)) = refl
by_parts schema x (Fetch at name) (Then s Nothing) = refl
by_parts schema x e body = refl

pub not_fetched : (schema : Schema) (x : List ℕ) (e : Expression) (body : Statements) → None ≡ table_fetched e → None ≡ query_of_body schema e x body
not_fetched schema x e body h = ap (λ (o : Option (Span × List ℕ)). query_with schema (assigned_among body) x o (only_condition body)) h ∙ sym (by_parts schema x e body)

none_with : (schema : Schema) (A : Names) (x : List ℕ) (o : Option (Span × List ℕ)) → None ≡ query_with schema A x o None
none_with schema A x None = refl
none_with schema A x (Some p) = refl

pub no_condition : (schema : Schema) (x : List ℕ) (e : Expression) (body : Statements) → None ≡ only_condition body → None ≡ query_of_body schema e x body
no_condition schema x e body h =
    none_with schema (assigned_among body) x (table_fetched e) ∙ ap (query_with schema (assigned_among body) x (table_fetched e)) h ∙ sym (by_parts schema x e body)

placed : (schema : Schema) (x : List ℕ) (e : Expression) (body : Statements) (p : Span × List ℕ) (c : Expression) → Some p ≡ table_fetched e → Some c ≡ only_condition body
    → query_in_place schema p.0 p.1 (assigned_among body) x c ≡ query_of_body schema e x body
placed schema x e body p c h k = ap₂ (query_with schema (assigned_among body) x) h k ∙ sym (by_parts schema x e body)

pub no_table : (schema : Schema) (x : List ℕ) (e : Expression) (body : Statements) (p : Span × List ℕ) (c : Expression) → Some p ≡ table_fetched e → Some c ≡ only_condition body
    → None ≡ table_number schema p.1 → None ≡ query_of_body schema e x body
no_table schema x e body p c h k t = ap (found_in (λ table. query_for schema p.0 p.1 table (assigned_among body) x c)) t ∙ placed schema x e body p c h k

pub asked_for : (schema : Schema) (x : List ℕ) (e : Expression) (body : Statements) (p : Span × List ℕ) (c : Expression) (table : ℕ) (A : Names) (o : Option Expression)
    → Some p ≡ table_fetched e → Some c ≡ only_condition body → Some table ≡ table_number schema p.1 → Same A (assigned_among body) → o ≡ query_for schema p.0 p.1 table A x c → o ≡ query_of_body schema e x body
asked_for schema x e body p c table A o h k t same is =
    is
    ∙ same_query A (assigned_among body) x same schema p.0 p.1 table c
    ∙ ap (found_in (λ table. query_for schema p.0 p.1 table (assigned_among body) x c)) t
    ∙ placed schema x e body p c h k

pub ruleset bodies = (not_fetched, no_condition, no_table, asked_for)
