-- Worked loops whose bodies are nests: one that keeps a best value, one with a flag and a `break`, and one that counts.
use Rattle.std.proofs.Common.{◌≡◌, ℕ, zero, suc, Bool, true, false, ◌||◌, List, [], Option, Some, None, refl, sym, ap, ◌∙◌, ap₂, cond, bytes_eq, codes}
use Rattle.java_ast.specs.Tree.{Long, Table, ListOf, Break, Statements, Nothing, Then, PlainMethod}
use Rattle.qbs_base.specs.declared.scalar.Ty.TheVariants as tys
use Rattle.java_mean.specs.declared.types.JavaType.{JavaType}
use Rattle.java_mean.specs.declared.types.JavaType.TheVariants.{Of, Listed}
use Rattle.java_mean.specs.declared.types.Single.TheVariants.{ScalarOf, RowOf}
use Rattle.java_mean.specs.Asks.{frame_of}
use Rattle.java_mean.specs.Refines.{Hole, Here, Past, types_at}
use Rattle.java_mean.specs.Types.{Types, types_of_params}
use Rattle.java_mean.specs.Worked.{somewhere, User, out, class_C, class_E, class_H}
use Rattle.java_mean.proofs.TypedPlaces.{places_typed}
use Rattle.sql_ast.specs.Tree.{PlainQuery}
use Rattle.sql_ast.specs.Worked.{staff_schema}
use Rattle.loop_text.specs.Statements.Fragment.{Fragment, fragment_in}
use Rattle.java_loops.specs.Kernel.Setting.{Setting, setting_of}
use Rattle.loop_text.specs.Sites.Sites.{is_some}
use Rattle.java_loops.specs.Kernel.Worked.{program_of}
use Rattle.java_loops.proofs.Typing.BoundTyping.{swapped, typed_next}
use Rattle.java_loops.proofs.Nested.Nest.{BodyIsNest, SeesFragment, body_is_nest}
use Rattle.java_loops.proofs.Nested.NestBreaks.{body_breaks, places_break}

abbrev no_query : List ℕ → Option PlainQuery
no_query text = None

-- the place of a statement of a block
abbrev place : ℕ → Statements → Hole
place zero Nothing = Here Nothing
place zero (Then s p) = Here p
place (suc n) Nothing = Here Nothing
place (suc n) (Then s p) = Past s (place n p)

abbrev or_empty : Option Fragment → Fragment
or_empty (Some f) = f
or_empty None = record { visible = []; run = Nothing; loop = Break somewhere; behind = Nothing }

abbrev fragment : ℕ → PlainMethod → Fragment
fragment n m = or_empty (fragment_in [] [] n m.body)

abbrev types : ℕ → PlainMethod → Types
types n m = types_at staff_schema (types_of_params staff_schema []) (place n m.body)

abbrev setting : ℕ → PlainMethod → Setting
setting n m = setting_of staff_schema no_query (types n m) (fragment n m)

-- ---- The methods

abbrev best : PlainMethod
best = record class_C { result = Some Long }

abbrev flagged : PlainMethod
flagged = record class_E { result = Some (ListOf (Table User)) }

abbrev counted : PlainMethod
counted = record (class_H 10 true) { result = Some (ListOf (Table User)) }

-- ---- What is visible

-- whether a variable is one of those declared, of these types
abbrev one : JavaType → Bool → Bool
one a p = is_some {A = JavaType} (cond p (Some a) None)

abbrev two : JavaType → JavaType → Bool → Bool → Bool
two a b p q = is_some {A = JavaType} (cond p (Some a) (cond q (Some b) None))

abbrev three : JavaType → JavaType → JavaType → Bool → Bool → Bool → Bool
three a b c p q r = is_some {A = JavaType} (cond p (Some a) (cond q (Some b) (cond r (Some c) None)))

one_seen : (a : JavaType) (p : Bool) → one a p ≡ (p || false)
one_seen a true = refl
one_seen a false = refl

two_seen : (a b : JavaType) (p q : Bool) → two a b p q ≡ (q || (p || false))
two_seen a b true true = refl
two_seen a b true false = refl
two_seen a b false true = refl
two_seen a b false false = refl

three_seen : (a b c : JavaType) (p q r : Bool) → three a b c p q r ≡ (r || (q || (p || false)))
three_seen a b c true true true = refl
three_seen a b c true true false = refl
three_seen a b c true false true = refl
three_seen a b c true false false = refl
three_seen a b c false true true = refl
three_seen a b c false true false = refl
three_seen a b c false false true = refl
three_seen a b c false false false = refl

turned : (x y : List ℕ) → bytes_eq x y ≡ bytes_eq y x
turned x y = sym (swapped x y (bytes_eq x y) refl)

abbrev number : JavaType
number = Of (ScalarOf tys.Long)

abbrev rows : ℕ → JavaType
rows n = Listed (RowOf n)

best_seen : SeesFragment (fragment 1 best) (types 1 best)
best_seen = record { by = λ y. ap (one number) (turned (codes "best") y) ∙ one_seen number (bytes_eq y (codes "best")) }

flag_seen : SeesFragment (fragment 2 flagged) (types 2 flagged)
flag_seen = record { by = λ y. ap₂ (two (rows 1) (rows 0)) (turned (codes "roles") y) (turned out y) ∙ two_seen (rows 1) (rows 0) (bytes_eq y (codes "roles")) (bytes_eq y out) }

counted_seen : SeesFragment (fragment 4 counted) (types 4 counted)
counted_seen =
    record { by = λ y. ap (λ p. three number (rows 0) (rows 0) p (bytes_eq out y) (bytes_eq (codes "users") y)) (turned (codes "i") y) ∙ ap₂ (three number (rows 0) (rows 0) (bytes_eq y (codes "i"))) (turned out y) (turned (codes "users") y) ∙ three_seen number (rows 0) (rows 0) (bytes_eq y (codes "i")) (bytes_eq y out) (bytes_eq y (codes "users")) }

-- ---- The nests

-- for (User u : db.fetch(User.class)) { if (u.age > best) { best = u.age; } }
pub best_is_nest : BodyIsNest (setting 1 best) (types 1 best) (fragment 1 best).loop
best_is_nest =
    body_is_nest (setting 1 best) refl (record { loop = refl; lists = refl; statements = refl; updates = refl; forms = refl; conditions = refl; starts = refl }) (frame_of staff_schema no_query best) None (types 1 best) _ best_seen (typed_next _ _ _ _ _ _ (places_typed staff_schema no_query (program_of best) 0 best (place 1 best.body) (Then (fragment 1 best).loop Nothing) refl refl refl refl).typed).first refl

-- boolean found = false; for (Role r : roles) { if (..) { found = true; break; } } if (found) { out.add(u); }
pub flag_is_nest : BodyIsNest (setting 2 flagged) (types 2 flagged) (fragment 2 flagged).loop
flag_is_nest =
    body_is_nest (setting 2 flagged) refl (record { loop = refl; lists = refl; statements = refl; updates = refl; forms = refl; conditions = refl; starts = refl }) (frame_of staff_schema no_query flagged) None (types 2 flagged) _ flag_seen (typed_next _ _ _ _ _ _ (places_typed staff_schema no_query (program_of flagged) 0 flagged (place 2 flagged.body) (Then (fragment 2 flagged).loop Nothing) refl refl refl refl).typed).first (body_breaks (fragment 2 flagged).loop (places_break staff_schema no_query (program_of flagged) 0 flagged (place 2 flagged.body) Nothing (fragment 2 flagged).loop Nothing refl refl refl))

-- while (i < 10 && i < users.size()) { User u = users.get(i); out.add(u); i = i + 1; }
pub counted_is_nest : BodyIsNest (setting 4 counted) (types 4 counted) (fragment 4 counted).loop
counted_is_nest =
    body_is_nest (setting 4 counted) refl (record { loop = refl; lists = refl; statements = refl; updates = refl; forms = refl; conditions = refl; starts = refl }) (frame_of staff_schema no_query counted) None (types 4 counted) _ counted_seen (typed_next _ _ _ _ _ _ (places_typed staff_schema no_query (program_of counted) 0 counted (place 4 counted.body) (Then (fragment 4 counted).loop Nothing) refl refl refl refl).typed).first refl
