-- Known lists one after the other, and what a small database is made of.
use Rattle.std.proofs.Common.{◌≡◌, ℕ, suc, ◌+◌, ◌-◌, ◌*◌, ◌<◌, ◌≤◌, ◌%◌, Bool, true, false, ◌&&◌, List, [], ◌∷◌, ◌++◌, length, None, nat_le, refl, sym, ap, ap₂, ◌∙◌, arith, append_assoc}
use Rattle.std.specs.Prelude.{OnOk}
use Rattle.std.specs.List.{list_all}
use Rattle.std.specs.declared.result.Result.{Result}
use Rattle.std.specs.declared.result.Result.TheVariants.{Ok, Err}
use Rattle.std.proofs.lemmas.Bool.Decides.{nat_tests}
use Rattle.qbs_base.specs.declared.scalar.Scalar.{Scalar}
use Rattle.qbs_base.specs.declared.scalar.Ty.{Ty}
use Rattle.qbs_base.specs.Tables.{NamedRows}
use Rattle.qbs_base.specs.Values.{Schema}
use Rattle.kernel_lang.specs.Plain.{Fragment}
use Rattle.kernel_lang.specs.Sentences.{IsValid}
use Rattle.kernel_lang.specs.Validity.{broken, is_small, pool_is_small}
use Rattle.kernel_lang.proofs.Sentences.{valid}
use Rattle.small_dbs.specs.declared.small.SmallDb.{SmallDb}
use Rattle.small_dbs.specs.Chosen.{Choice, tables, entries, member_type, members, known}
use Rattle.small_dbs.specs.Literals.{values}
use Rattle.small_dbs.specs.Small.{small}

pub known_on : (schema : Schema) (f : Fragment) (v : Choice) (d q total : ℕ) (all new whole : List (List Scalar)) (x : List Scalar) → q < total → all ++ known schema f v d q (total - q) ≡ whole → new ≡ all ++ x ∷ []
    → x ≡ members (v (member_type schema f q f.atoms)) (d + q) (d % 3) → new ++ known schema f v d (q + 1) (total - (q + 1)) ≡ whole
known_on schema f v d q total all new whole x l h n e =
    let k : total - q ≡ suc (total - (q + 1)) = omega (arith, l) in
    ap (λ (xs : List (List Scalar)). xs ++ known schema f v d (q + 1) (total - (q + 1))) n
    ∙ append_assoc all (x ∷ []) (known schema f v d (q + 1) (total - (q + 1)))
    ∙ ap (λ (y : List Scalar). all ++ (y ∷ known schema f v d (q + 1) (total - (q + 1)))) e
    ∙ ap (λ (m : ℕ). all ++ known schema f v d q m) (sym k)
    ∙ h

fourth : (a b c d e : Bool) → (a && b && c && d && e) ≡ true → d ≡ true
fourth true true true true true h = refl
fourth false b c d e h = absurd cc
fourth true false c d e h = absurd cc
fourth true true false d e h = absurd cc
fourth true true true false e h = absurd cc
fourth true true true true false h = absurd cc

le_from : (m n : ℕ) → nat_le m n ≡ true → m ≤ n
le_from m n e = grind (arith, nat_tests)

pub few_entries : (f : Fragment) → broken f ≡ None → length f.entries ≤ 9
unfolding is_small
few_entries f e =
    let v : IsValid f = valid f e in
    le_from (length f.entries) 9 (fourth (nat_le (length f.lists) 256) (nat_le (length f.accs) 8) (nat_le (length f.atoms) 24) (nat_le (length f.entries) 9) (list_all pool_is_small f.accs) v.size)

abbrev made_of : List NamedRows → List Scalar → List (List Scalar) → SmallDb
made_of db own lists = record { db = db; entry = record { values = own; known = lists } }

pub small_made : (schema own_tables : Schema) (f : Fragment) (d : ℕ) (v : Choice) (types : List Ty) (db : List NamedRows) (own : List Scalar) (lists : List (List Scalar)) → v ≡ values f → own_tables ≡ schema → types ≡ f.entries
    → db ≡ tables v d 0 schema → own ≡ [] ++ entries v d types → lists ≡ known own_tables f v d 0 f.known → made_of db own lists ≡ small schema f d
small_made schema own_tables f d v types db own lists e s t h g k =
    ap (λ x. made_of x own lists) (h ∙ ap (λ (c : Choice). tables c d 0 schema) e)
    ∙ ap (λ xs. made_of (small schema f d).db xs lists) (g ∙ ap₂ (λ (c : Choice) (ts : List Ty). entries c d ts) e t)
    ∙ ap (λ xs. made_of (small schema f d).db (small schema f d).entry.values xs) (k ∙ ap₂ (λ (x : Schema) (c : Choice). known x f c d 0 f.known) s e)

pub on_ok : {A E P Q : Type 0} (r : Result A E) → (P → Q) → OnOk r P → OnOk r Q
on_ok (Ok x) g h = g h
on_ok (Err x) g h = tt
