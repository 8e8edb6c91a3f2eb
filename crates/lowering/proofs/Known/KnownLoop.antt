-- The known queries of a loop of the kernel form are those that emission asks for, where they are queries of the schema.
use Rattle.std.proofs.Common.{◌≡◌, ℕ, suc, Bool, true, ◌&&◌, List, [], ◌∷◌, map, length, nat_lt, Option, Some, None, refl, sym, ap, ◌∙◌, subst}
use Rattle.std.specs.List.{AllByRecursion, list_all}
use Rattle.std.proofs.lemmas.Bool.{and_parts}
use Rattle.qbs_base.specs.Values.{Schema}
use Rattle.sql_ast.specs.Tree.{PlainQuery}
use Rattle.sql_ast.specs.Valid.{IsQueryOf}
use Rattle.java_ast.specs.Tree.{PlainProgram, PlainMethod}
use Rattle.java_mean.specs.Asks.{frame_of}
use Rattle.java_mean.specs.Types.{Types}
use Rattle.java_mean.specs.Typing.{TypedStatements}
use Rattle.java_mean.specs.WellTyped.{IsWellTyped}
use Rattle.kernel_lang.specs.declared.parts.ListDef.{ListDef}
use Rattle.kernel_lang.specs.Fitting.{named_places}
use Rattle.kernel_lang.specs.Plain.{Accumulator}
use Rattle.kernel_lang.specs.Plain as kernel
use Rattle.kernel_lang.specs.Typed.{atom_is_typed, members_agree, update_is_typed, place_is_there, is_typed}
use Rattle.tor_terms.specs.declared.term.Atom.{Atom}
use Rattle.loop_text.specs.Kernel.KernelConditions.{asked_for}
use Rattle.loop_text.specs.Statements.Fragment.{Fragment}
use Rattle.java_ast.specs.Names.{Names}
use Rattle.java_loops.specs.Kernel.Kernel.{broken, lowering}
use Rattle.java_loops.specs.Kernel.Setting.{Setting, setting_of}
use Rattle.java_loops.specs.Lowering.Numbering.{arguments_asked, entries_of, known_of}
use Rattle.java_loops.proofs.Known.KnownNumbers.{IsGoodKnown, known_lists_good}
use Rattle.java_loops.proofs.Listed.ListedRows.{IsSeenFragment, fragment_seen}
use Rattle.java_loops.proofs.Lowering.LowerChains.{at_setting}
use Rattle.java_loops.proofs.Meant.MeanTests.{fragment_atoms_stand}
use Rattle.java_loops.proofs.Nested.NestRules.{Unbroken}
use Rattle.java_loops.proofs.Placing.PlaceLoop.{kernel_unbroken}
use Rattle.java_loops.proofs.Placing.PlaceTyped.{FragmentThere}
use Rattle.java_loops.proofs.Typing.TypedFragment.{fragment_fits}
use Rattle.java_loops.proofs.Valid.ValidThere.{IsEntered}
use Rattle.sql_parts.specs.Given.{AreKnown}
use Rattle.lowering.specs.Asked.{queries_in, IsKernelLoop, HasQueriesOf, HasKnownQueries}
use Rattle.lowering.proofs.Known.KnownArguments.{entry_types, arguments_entered}
use Rattle.lowering.proofs.Known.KnownList.{query_for, arguments_for, IsKnownHere, known_here}
use Rattle.lowering.proofs.Known.KnownTests.{tests_fit}

-- ---- The premise on queries, for each known list

abbrev IsOf : (List ℕ → Option PlainQuery) → (PlainQuery → Type 0) → List ℕ → Type 0
IsOf f P x = (q : PlainQuery) → f x ≡ Some q → P q

none_some : (o : Option PlainQuery) (q : PlainQuery) → o ≡ None → o ≡ Some q → ⊥
none_some o q e h = absurd cc

some_same : (o : Option PlainQuery) (q r : PlainQuery) → o ≡ Some q → o ≡ Some r → q ≡ r
some_same o q r e h = cc

of_step : (f : List ℕ → Option PlainQuery) (P : PlainQuery → Type 0) (x : List ℕ) (xs : Names) (o : Option PlainQuery) → f x ≡ o → AllByRecursion P (queries_in (o ∷ map f xs)) → (AllByRecursion P (queries_in (map f xs)) → AllByRecursion (IsOf f P) xs) → AllByRecursion (IsOf f P) (x ∷ xs)
of_step f P x xs (Some q) e h more = (λ r i. subst P (some_same (f x) q r e i) h.0, more h.1)
of_step f P x xs None e h more = (λ r i. absurd (none_some (f x) r e i), more h)

of_each : (f : List ℕ → Option PlainQuery) (P : PlainQuery → Type 0) (xs : Names) → AllByRecursion P (queries_in (map f xs)) → AllByRecursion (IsOf f P) xs
of_each f P [] h = tt
of_each f P (x ∷ xs) h = of_step f P x xs (f x) refl h (of_each f P xs)

-- ---- All known lists

all_here : (w : Setting) (m : PlainMethod) (l : Option Types) (start : Types) → TypedStatements (frame_of w.schema w.read m) l start w.fragment.run w.types → (xs : Names) → AllByRecursion (IsGoodKnown w) xs → AllByRecursion (λ x. AllByRecursion (IsEntered (entries_of w)) (arguments_asked (asked_for w.fragment.run x))) xs → AllByRecursion (IsOf (query_for w) (IsQueryOf w.schema)) xs → AllByRecursion (IsKnownHere w) xs
all_here w m l start run [] good entered valid = tt
all_here w m l start run (x ∷ xs) good entered valid = (known_here w m l start run x good.0 entered.0 valid.0, all_here w m l start run xs good.1 entered.1 valid.1)

each_known : (w : Setting) (xs : Names) → AllByRecursion (IsKnownHere w) xs → AreKnown w.schema (entry_types w) (queries_in (map (query_for w) xs)) (map (arguments_for w) xs)
each_known w [] h = tt
each_known w (x ∷ xs) h =
    subst (λ o. AreKnown w.schema (entry_types w) (queries_in (o ∷ map (query_for w) xs)) (arguments_for w x ∷ map (arguments_for w) xs)) (sym h.0.is)
    (record { listing = h.0.listing; col = h.0.col; is = refl; valid = h.0.valid; item = h.0.item; whole = h.0.whole; entries = h.0.entries }, each_known w xs h.1)

known_count : (w : Setting) (xs : Names) → AllByRecursion (IsKnownHere w) xs → length (queries_in (map (query_for w) xs)) ≡ length xs
known_count w [] h = refl
known_count w (x ∷ xs) h = ap (λ o. length (queries_in (o ∷ map (query_for w) xs))) h.0.is ∙ ap suc (known_count w xs h.1)

-- ---- The whole

third_of_five : (a b c d e : Bool) → (a && b && c && d && e) ≡ true → c ≡ true
third_of_five a b c d e h = (and_parts (a && b) c (and_parts (a && b && c) d (and_parts (a && b && c && d) e h).0).0).1

-- the tests of a fragment that fits the schema are typed
tests_typed : (schema : Schema) (f : kernel.Fragment) → is_typed schema f ≡ true → list_all (atom_is_typed schema f) f.atoms ≡ true
tests_typed schema f h =
    third_of_five (list_all (λ (d : ListDef). nat_lt d.table (length schema)) f.lists) (list_all (place_is_there schema f) (named_places f)) (list_all (atom_is_typed schema f) f.atoms) (list_all (λ (a : Atom). list_all (members_agree schema f a) f.atoms) f.atoms) (list_all (λ (a : Accumulator). update_is_typed schema f a.update) f.accs) h

known_there : (schema : Schema) (read : List ℕ → Option PlainQuery) (p : PlainProgram) (path : List ℕ) (f : Fragment) (g : Types) → IsWellTyped schema read p → FragmentThere schema read p path f g → broken (setting_of schema read g f) ≡ None → is_typed schema (lowering (setting_of schema read g f)).fragment ≡ true → HasQueriesOf schema (lowering (setting_of schema read g f)) → HasKnownQueries schema (lowering (setting_of schema read g f))
known_there schema read p path f g well there rules typed valid =
    let w : Setting = setting_of schema read g f in
    let u : Unbroken w = kernel_unbroken w rules in
    let seen : IsSeenFragment schema read f g = fragment_seen schema read p path f g well there in
    let here : AllByRecursion (IsKnownHere w) (known_of w) =
    all_here w there.place.method there.typed.loop _ there.typed.run (known_of w) (known_lists_good schema read f g seen u.conditions) (arguments_entered w) (of_each (query_for w) (IsQueryOf schema) (known_of w) valid) in
    record {
      each = each_known w (known_of w) here;
      count = known_count w (known_of w) here;
      members = tests_fit w here (fragment_atoms_stand schema read f g seen u (frame_of schema read there.place.method) refl there.typed.loop there.typed.after there.typed.body) (tests_typed schema (lowering w).fragment typed);
    }

-- The known queries of a loop of the kernel form are those that emission asks for, where they are queries of the schema.
pub known_to : (schema : Schema) (read : List ℕ → Option PlainQuery) (p : PlainProgram) (path : List ℕ) (w : Setting) → IsKernelLoop schema read p path w → HasQueriesOf schema (lowering w) → HasKnownQueries schema (lowering w)
known_to schema read p path w k =
    at_setting (λ (z : Setting). is_typed schema (lowering z).fragment ≡ true → HasQueriesOf schema (lowering z) → HasKnownQueries schema (lowering z)) schema read p path w k.typed k.numbers (λ f g. known_there schema read p path f g k.typed) k.there k.unbroken
    (fragment_fits schema read p path w k.typed k.numbers k.there k.unbroken)
