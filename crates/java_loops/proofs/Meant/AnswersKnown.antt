-- The known lists at a loop have the members of what their queries answer there.
use Rattle.std.proofs.Common.{◌≡◌, ℕ, Bool, true, false, List, [], ◌∷◌, map, Option, Some, Ok, refl, sym, ap, ◌∙◌, subst}
use Rattle.std.specs.List.{AllByRecursion}
use Rattle.qbs_base.specs.declared.scalar.Row.{Row}
use Rattle.qbs_base.specs.declared.scalar.Scalar.{Scalar}
use Rattle.qbs_base.specs.declared.scalar.Value.{Value}
use Rattle.qbs_base.specs.declared.scalar.Value.TheVariants.{One, Whole, Many}
use Rattle.qbs_base.specs.Named.{at_name}
use Rattle.java_ast.specs.Tree.{Expressions, NoMore, And}
use Rattle.java_mean.specs.Endings.{◌>>=◌}
use Rattle.java_mean.specs.Expression.{value_of, scalars_of, as_scalar, alone}
use Rattle.java_mean.specs.Statement.{State}
use Rattle.java_mean.specs.Store.{Store, Variable}
use Rattle.java_mean.specs.World.{World}
use Rattle.java_loops.proofs.Walks.Passing.{Went, went, same_ok}
use Rattle.java_loops.specs.Meant.Members.{AreMatched, HaveSameMembers}
use Rattle.java_loops.specs.Meant.Means.{HasScalar, HasScalars, IsAnswered}
use Rattle.java_ast.specs.Names.{Names}
use Rattle.java_loops.specs.Lowering.Numbering.{arguments}
use Rattle.java_loops.specs.Kernel.Setting.{Setting}
use Rattle.java_loops.proofs.Known.KnownAnswers.{kept_once, HoldsKnown}
use Rattle.java_loops.proofs.Known.KnownGiven.{IsGivenKnown}
use Rattle.java_loops.proofs.Meant.MembersLists.{alone_same, set_members}

-- ---- Values of arguments

scalar_is : (v : Value) (x : Scalar) → as_scalar v ≡ Ok x → v ≡ One x
scalar_is (One y) x e = ap (λ z. One z) (same_ok (Ok x) y x (sym e) refl)
scalar_is (Whole row) x e = absurd cc
scalar_is (Many rows) x e = absurd cc

-- expressions that have scalars have them one by one
scalars_matched : (world : World) (s : Store) (es : Expressions) (xs : List Scalar) → scalars_of es world s ≡ Ok xs → AreMatched (HasScalar world s) (arguments es) xs
scalars_matched world s NoMore [] e = tt
scalars_matched world s NoMore (x ∷ xs) e = absurd cc
scalars_matched world s (And a es) xs e =
    let v : Went (value_of a world s) (λ v. as_scalar v >>= λ x. scalars_of es world s >>= λ ys. Ok (x ∷ ys)) xs = went (value_of a world s) (λ v. as_scalar v >>= λ x. scalars_of es world s >>= λ ys. Ok (x ∷ ys)) xs e in
    let x : Went (as_scalar v.value) (λ x. scalars_of es world s >>= λ ys. Ok (x ∷ ys)) xs = went (as_scalar v.value) (λ x. scalars_of es world s >>= λ ys. Ok (x ∷ ys)) xs v.rest in
    let rest : Went (scalars_of es world s) (λ ys. Ok (x.value ∷ ys)) xs = went (scalars_of es world s) (λ ys. Ok (x.value ∷ ys)) xs x.rest in
    let both : x.value ∷ rest.value ≡ xs = same_ok (Ok xs) (x.value ∷ rest.value) xs (sym rest.rest) refl in
    subst (AreMatched (HasScalar world s) (arguments (And a es))) both
    (v.first ∙ ap (λ z. Ok z) (scalar_is v.value x.value x.first), scalars_matched world s es rest.value rest.first)

-- ---- Members

-- what is kept of an answer has its members
kept_members : (set : Bool) (answer xs : List Scalar) → kept_once set (map alone answer) ≡ map alone xs → HaveSameMembers xs answer
kept_members true answer xs e = set_members answer xs e
kept_members false answer xs e = let same : answer ≡ xs = alone_same answer xs e in subst (HaveSameMembers xs) (sym same) (λ x. refl)

same_held : (o : Option Variable) (a b : Variable) → o ≡ Some a → o ≡ Some b → a ≡ b
same_held o a b e h = cc

many_same : (xs ys : List Row) → Many xs ≡ Many ys → xs ≡ ys
many_same xs ys e = cc

-- a known list that a variable holds has the members of its query's answer
is_answered : (w : Setting) (world : World) (t : State) (values : List Scalar) (x : List ℕ) (xs : List Scalar) → IsGivenKnown w world t values x → HasScalars t.store x xs → IsAnswered world t.store w.fragment.run x xs
is_answered w world t values x xs k h =
    let holds : HoldsKnown world k.list.asked x w.types t = k.holds in
    let same : holds.held ≡ h.held = same_held (at_name t.store x) holds.held h.held holds.left h.there in
    let rows : kept_once holds.set (map alone holds.answer.scalars) ≡ map alone xs = many_same (kept_once holds.set (map alone holds.answer.scalars)) (map alone xs) (sym holds.value ∙ ap (λ (v : Variable). v.value) same ∙ h.is) in
    record {
      asked = k.list.asked;
      found = k.list.is;
      values = holds.answer.arguments;
      arguments = scalars_matched world t.store k.list.asked.arguments holds.answer.arguments holds.answer.are;
      answer = holds.answer.scalars;
      answered = holds.answer.answer;
      members = kept_members holds.set holds.answer.scalars xs rows;
    }

-- Known lists that are given have the members of the answers of their queries at the loop.
pub known_answered : (w : Setting) (world : World) (t : State) (values : List Scalar) (ids : Names) (lists : List (List Scalar)) → AllByRecursion (IsGivenKnown w world t values) ids → AreMatched (HasScalars t.store) ids lists → AreMatched (IsAnswered world t.store w.fragment.run) ids lists
known_answered w world t values [] [] k h = tt
known_answered w world t values [] (xs ∷ lists) k h = absurd h
known_answered w world t values (x ∷ ids) [] k h = absurd h
known_answered w world t values (x ∷ ids) (xs ∷ lists) k h =
    (is_answered w world t values x xs k.0 h.0, known_answered w world t values ids lists k.1 h.1)
