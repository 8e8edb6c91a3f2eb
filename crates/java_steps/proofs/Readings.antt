-- What is kept of query texts, and their answers.
use Rattle.std.proofs.Common.{◌≡◌, ℕ, List, [], ◌∷◌, Bool, true, false, cond, refl, sym, ap, ◌∙◌, subst, Option, Some, None, IfSome, OnOk, OnErr, Result, Ok, Err, Bor}
use Rattle.std.specs.Prelude.{bytes_eq, ◌&&◌, if◌then◌else◌, option_map, option_copied, is_some, Box, box_value}
use Rattle.std.specs.Map.{lookup}
use Rattle.std.specs.declared.alloc.Global.{Global}
use Rattle.indexmap.specs.IndexMap.{insert_entry}
use Rattle.qbs_base.specs.declared.scalar.Scalar.{Scalar}
use Rattle.qbs_base.specs.declared.span.Span.{Span}
use Rattle.qbs_base.specs.Values.{Schema}
use Rattle.sql_ast.specs.declared.tree.Query.{Query}
use Rattle.sql_ast.specs.Meaning.{Answered, query_answer}
use Rattle.sql_ast.specs.Reading.{query}
use Rattle.sql_ast.specs.Tree.{PlainQuery}
use Rattle.java_mean.specs.declared.ending.Ending.TheVariants.{Stuck}
use Rattle.java_mean.specs.Expression as meant
use Rattle.java_mean.proofs.Puts.{names_equal}
use Rattle.java_types.specs.Texts.{read_by}
use Rattle.java_steps.specs.declared.held.Held.{Held}
use Rattle.java_steps.specs.declared.source.Source.{Source}
use Rattle.java_steps.specs.declared.stop.Stop.{Stop}
use Rattle.java_steps.specs.Gives.{GivesBy}
use Rattle.java_steps.specs.Placed.{test, same}
use Rattle.java_steps.specs.Held.{value_in}
use Rattle.java_steps.specs.IsRead.{IsRead, AreRead, marked, unboxed}
use Rattle.java_steps.specs.Running.{world}

abbrev pub Entries : Type 0
Entries = List (Bor (List ℕ) × Box Query Global)

found_by : (schema : Schema) (x : List ℕ) (e : Bor (List ℕ) × Box Query Global) (r : Option (Box Query Global)) (b : Bool) → bytes_eq x e.0.now ≡ b → IsRead schema e.0.now (query e.1.value) → IfSome r (λ q. IsRead schema x (query q.value)) → IfSome (cond b (Some e.1) r) (λ q. IsRead schema x (query q.value))
found_by schema x e r true h i k = subst (λ y. IsRead schema y (query e.1.value)) (sym (names_equal x e.0.now h)) i
found_by schema x e r false h i k = k

pub found_read : (schema : Schema) (x : List ℕ) (es : Entries) → AreRead schema (unboxed es) → IfSome (lookup (test x) es) (λ q. IsRead schema x (query q.value))
found_read schema x [] h = tt
found_read schema x (e ∷ es) h = found_by schema x e (lookup (test x) es) (bytes_eq x e.0.now) refl h.0 (found_read schema x es h.1)

pub known_text : (schema schema' : Schema) (x x' : List ℕ) (es : Entries) (r : Option ℕ) → AreRead schema (unboxed es) → schema ≡ schema' → x ≡ x' → is_some r ≡ is_some (lookup (test x) es) → IfSome r (λ n. is_some (read_by schema' x') ≡ true)
known_text schema schema' x x' es None a s t e = tt
known_text schema schema' x x' es (Some n) a s t e =
    subst (λ z. is_some (read_by z x') ≡ true) s (subst (λ y. is_some (read_by schema y) ≡ true) t (go (lookup (test x) es) (found_read schema x es a) (sym e)))
  where
    go : (o : Option (Box Query Global)) → IfSome o (λ q. IsRead schema x (query q.value)) → is_some o ≡ true → is_some (read_by schema x) ≡ true
    go None h f = absurd cc
    go (Some q) h f = ap (λ o. is_some o) h.read

-- ---- Which queries may be asked many times

and_true : (b c : Bool) → c ≡ true → b ≡ (b && c)
and_true true c e = sym e
and_true false c e = refl

pub marked_known : (b : Bool) (o : Option PlainQuery) (xs new : List ℕ) (n : ℕ) → is_some o ≡ true → new ≡ marked b xs n → new ≡ marked (b && is_some o) xs n
marked_known b o xs new n e f = f ∙ ap (λ c. marked c xs n) (and_true b (is_some o) e)

pub marked_read : (b : Bool) (q : PlainQuery) (o : Option PlainQuery) (xs new : List ℕ) (n : ℕ) → Some q ≡ o → new ≡ marked b xs n → new ≡ marked (b && is_some o) xs n
marked_read b q o xs new n e f = marked_known b o xs new n (ap (λ p. is_some p) (sym e)) f

pub unmarked : (b : Bool) (o : Option PlainQuery) (xs : List ℕ) (n : ℕ) → None ≡ o → xs ≡ marked (b && is_some o) xs n
unmarked true o xs n e = ap (λ p. marked (is_some p) xs n) e
unmarked false o xs n e = refl

kept_by : (schema : Schema) (k : Bor (List ℕ)) (q : Box Query Global) (e : Bor (List ℕ) × Box Query Global) (es fs : Entries) (b : Bool) → bytes_eq k.now e.0.now ≡ b → IsRead schema k.now (query q.value) → AreRead schema (unboxed (e ∷ es)) → AreRead schema (unboxed fs) → AreRead schema (unboxed (if b then ((e.0, q) ∷ es) else (e ∷ fs)))
kept_by schema k q e es fs true h i a f = (subst (λ y. IsRead schema y (query q.value)) (names_equal k.now e.0.now h) i, a.1)
kept_by schema k q e es fs false h i a f = (a.0, f)

pub kept_read : (schema : Schema) (k : Bor (List ℕ)) (q : Box Query Global) (es : Entries) → IsRead schema k.now (query q.value) → AreRead schema (unboxed es) → AreRead schema (unboxed (insert_entry same es k q))
kept_read schema k q [] i a = (i, tt)
kept_read schema k q (e ∷ es) i a = kept_by schema k q e es (insert_entry same es k q) (bytes_eq k.now e.0.now) refl i a (kept_read schema k q es i a.1)

-- the answer of a text's query
pub answer_is : (s : Source) (text : List ℕ) (args : List Scalar) (q : PlainQuery) (a : Answered) (at : Span) (r : Result Held Stop) → IsRead s.queries.schema text q → a ≡ query_answer s.tables args q → GivesBy value_in r (meant.answered at (Some a)) → GivesBy value_in r (meant.answered at ((world s).ask text args))
answer_is s text args q a at r i e g =
    let asks : (world s).ask text args ≡ Some a = ap (option_map (query_answer s.tables args)) i.read ∙ ap (λ x. Some x) (sym e) in
    subst (λ o. GivesBy value_in r (meant.answered at o)) (sym asks) g

pub no_answer : (s : Source) (text : List ℕ) (args : List Scalar) (at : Span) (o : Option (Box Query Global)) → o ≡ None → option_map query (option_map box_value o) ≡ read_by s.queries.schema text → meant.answered at ((world s).ask text args) ≡ Err Stuck
no_answer s text args at o n e =
    let none : read_by s.queries.schema text ≡ None = sym e ∙ ap (λ p. option_map query (option_map box_value p)) n in
    ap (λ p. meant.answered at (option_map (query_answer s.tables args) p)) none

copied_some : (r : Option (Bor (Box Query Global))) (P : Box Query Global → Type 0) → IfSome (option_copied r) P → IfSome r (λ q. P q.now)
copied_some None P h = tt
copied_some (Some q) P h = h

pub found_here : (schema schema' : Schema) (x x' : List ℕ) (es : Entries) (r : Option (Bor (Box Query Global))) → AreRead schema (unboxed es) → schema ≡ schema' → x ≡ x' → option_copied r ≡ lookup (test x) es → IfSome r (λ q. IsRead schema' x' (query q.now.value))
found_here schema schema' x x' es r a s e f =
    subst (λ y. IfSome r (λ q. IsRead schema' y (query q.now.value))) e
    (subst (λ z. IfSome r (λ q. IsRead z x (query q.now.value))) s
    (copied_some r (λ q. IsRead schema x (query q.value)) (subst (λ o. IfSome o (λ q. IsRead schema x (query q.value))) (sym f) (found_read schema x es a))))

pub kept_result : {A E : Type 0} (r : Result A E) (schema : Schema) (k : Bor (List ℕ)) (q : Box Query Global) (es fs : Entries) → OnOk r (fs ≡ insert_entry same es k q) → OnErr r (fs ≡ es) → IsRead schema k.now (query q.value) → AreRead schema (unboxed es) → AreRead schema (unboxed fs)
kept_result (Ok x) schema k q es fs o e i a = subst (λ l. AreRead schema (unboxed l)) (sym o) (kept_read schema k q es i a)
kept_result (Err x) schema k q es fs o e i a = subst (λ l. AreRead schema (unboxed l)) (sym e) a
