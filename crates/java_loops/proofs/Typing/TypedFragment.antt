-- The lowered fragment of a loop of a well-typed program fits the schema.
use Rattle.std.proofs.Common.{◌≡◌, ℕ, Bool, true, ◌&&◌, List, ◌++◌, length, nat_lt, Option, Some, None, refl, sym, ap, ◌∙◌, slice_get}
use Rattle.std.specs.List.{flat_map, list_all}
use Rattle.std.proofs.lemmas.List.Folds.{list_all-append}
use Rattle.qbs_base.specs.declared.span.Span.{Span}
use Rattle.qbs_base.specs.Values.{Schema}
use Rattle.sql_ast.specs.Tree.{PlainQuery}
use Rattle.java_ast.specs.Tree as tree
use Rattle.java_ast.specs.Tree.{Spelled, Expression, Statements, PlainProgram}
use Rattle.java_mean.specs.declared.types.JavaType.{JavaType}
use Rattle.java_mean.specs.declared.types.JavaType.TheVariants.{Of}
use Rattle.java_mean.specs.declared.types.Single.TheVariants.{RowOf}
use Rattle.java_mean.specs.Asks.{frame_of}
use Rattle.java_mean.specs.Numbers.{NumbersFit}
use Rattle.java_mean.specs.Types.{Types}
use Rattle.java_mean.specs.Typing.{Frame, IsNew, is_new_list, is_new_set}
use Rattle.java_mean.specs.WellTyped.{IsWellTyped}
use Rattle.kernel_lang.specs.declared.parts.ListDef.{ListDef}
use Rattle.kernel_lang.specs.Fitting.{Place, atom_places, element_places, key_places, named_places}
use Rattle.kernel_lang.specs.Plain.{Accumulator}
use Rattle.kernel_lang.specs.Plain as kernel
use Rattle.kernel_lang.specs.Typed.{atom_is_typed, members_agree, update_is_typed, place_is_there, is_typed}
use Rattle.kernel_lang.specs.Validity.{element_of}
use Rattle.tor_terms.specs.declared.term.Atom.{Atom}
use Rattle.loop_text.specs.Statements.Fragment.{Fragment}
use Rattle.java_loops.specs.Kernel.Kernel.{broken, lowering, setting_at}
use Rattle.loop_text.specs.Kernel.KernelLists.{source_of, source_in}
use Rattle.loop_text.specs.Statements.Loops.{is_loop}
use Rattle.java_loops.specs.Lowering.Numbering.{table_of_site}
use Rattle.java_loops.specs.Kernel.Setting.{Setting, setting_of}
use Rattle.loop_text.specs.Statements.Setting.{is_found}
use Rattle.loop_text.specs.Sites.Sites.{Site}
use Rattle.java_loops.proofs.Chained.ChainPremises.{HasRows}
use Rattle.java_loops.proofs.Listed.ListedRows.{IsSeenFragment, fragment_seen}
use Rattle.java_loops.proofs.Lowering.LowerChains.{checked, updated, at_setting}
use Rattle.java_loops.proofs.Lowering.LowerNumbers.{rows_here}
use Rattle.java_loops.proofs.Meant.MeanTests.{fragment_atoms_stand}
use Rattle.java_loops.proofs.Nested.NestRules.{Unbroken, listed_at}
use Rattle.java_loops.proofs.Placing.PlaceLoop.{kernel_unbroken}
use Rattle.java_loops.proofs.Placing.PlaceTyped.{FragmentThere}
use Rattle.java_loops.proofs.Typing.TypedMembers.{all_agree}
use Rattle.java_loops.proofs.Typing.TypedPlaces.{tables_there, keys_there, tests_there}
use Rattle.java_loops.proofs.Typing.TypedUpdates.{NeededUpdated, elements_there, updates_typed}
use Rattle.java_loops.proofs.Valid.ValidColumns.{OfTable}
use Rattle.java_loops.proofs.Valid.ValidLoop.{Checked}
use Rattle.java_loops.proofs.Valid.ValidTyped.{RowsWalked, atoms_typed}
use Rattle.java_loops.proofs.Valid.ValidVisits.{TakesRow, member, of_new}

-- ---- Rows

-- a list that is new is none of the run
new_unlisted : (w : Setting) (e : Expression) → IsNew e → is_found (source_of w.fragment.run e) ≡ true → ⊥
new_unlisted w _ (is_new_list at) h = absurd cc
new_unlisted w _ (is_new_set at) h = absurd cc

-- a for-each walks rows of its table
row_walked : (w : Setting) (c : Frame) → Unbroken w → HasRows w c → (n : ℕ) (s : Site) (now : Types) (at : Span) (ty : Spelled) (x : List ℕ) (e : Expression) (p : Statements) (k : JavaType) → slice_get w.sites n ≡ Some s → s.statement ≡ tree.ForEach at ty x e p → ((y : List ℕ) (j : JavaType) → w.types y ≡ Some j → now y ≡ Some j) → TakesRow c now e k → OfTable w n k
row_walked w c u rows n s now at ty x e p _ get is outer (member j a t has) = ap Of (rows.by n s at ty x e p now j a get is outer t has) ∙ ap (λ o. Of (RowOf (table_of_site w.schema o))) (sym get)
row_walked w c u rows n s now at ty x e p _ get is outer (of_new k new) = absurd (new_unlisted w e new (ap (λ q. is_found (source_in w.fragment.run q)) (sym is) ∙ listed_at w u n s get (ap is_loop is)))

-- ---- The whole

all_five : (a b c d e : Bool) → a ≡ true → b ≡ true → c ≡ true → d ≡ true → e ≡ true → (a && b && c && d && e) ≡ true
all_five a b c d e h i j k l = rw (h, i, j, k, l) refl

-- a fragment fits the schema where its parts do
parts_fit : (schema : Schema) (f : kernel.Fragment) → list_all (λ (d : ListDef). nat_lt d.table (length schema)) f.lists ≡ true → list_all (place_is_there schema f) (key_places 0 f.lists) ≡ true → list_all (place_is_there schema f) (flat_map atom_places f.atoms) ≡ true → list_all (place_is_there schema f) (flat_map (λ (a : Accumulator). element_places (element_of a.update)) f.accs) ≡ true → list_all (atom_is_typed schema f) f.atoms ≡ true → list_all (λ (a : Atom). list_all (members_agree schema f a) f.atoms) f.atoms ≡ true → list_all (λ (a : Accumulator). update_is_typed schema f a.update) f.accs ≡ true → is_typed schema f ≡ true
parts_fit schema f tables keys tests elements typed members updates =
    let there : Place → Bool = place_is_there schema f in
    let of_tests : List Place = flat_map atom_places f.atoms in
    let of_updates : List Place = flat_map (λ (a : Accumulator). element_places (element_of a.update)) f.accs in
    let behind : list_all there (of_tests ++ of_updates) ≡ true = list_all-append there of_tests of_updates ∙ rw (tests, elements) refl in
    let places : list_all there (named_places f) ≡ true = list_all-append there (key_places 0 f.lists) (of_tests ++ of_updates) ∙ rw (keys, behind) refl in
    all_five (list_all (λ (d : ListDef). nat_lt d.table (length schema)) f.lists) (list_all there (named_places f)) (list_all (atom_is_typed schema f) f.atoms) (list_all (λ (a : Atom). list_all (members_agree schema f a) f.atoms) f.atoms) (list_all (λ (a : Accumulator). update_is_typed schema f a.update) f.accs)
    tables places typed members updates

-- each for-each of one that breaks no rule of the kernel form walks rows of its table
pub rows_are_walked : (schema : Schema) (read : List ℕ → Option PlainQuery) (p : PlainProgram) (path : List ℕ) (f : Fragment) (g : Types) → IsWellTyped schema read p → (there : FragmentThere schema read p path f g) → broken (setting_of schema read g f) ≡ None → RowsWalked (setting_of schema read g f) (frame_of schema read there.place.method)
rows_are_walked schema read p path f g well there rules =
    let w : Setting = setting_of schema read g f in
    let c : Frame = frame_of schema read there.place.method in
    let u : Unbroken w = kernel_unbroken w rules in
    let seen : IsSeenFragment schema read f g = fragment_seen schema read p path f g well there in
    record { rows = row_walked w c u (rows_here schema read f g seen u c refl) }

-- The lowered fragment of one that breaks no rule of the kernel form fits the schema.
fragment_typed : (schema : Schema) (read : List ℕ → Option PlainQuery) (p : PlainProgram) (path : List ℕ) (f : Fragment) (g : Types) → IsWellTyped schema read p → FragmentThere schema read p path f g → broken (setting_of schema read g f) ≡ None → is_typed schema (lowering (setting_of schema read g f)).fragment ≡ true
fragment_typed schema read p path f g well there rules =
    let w : Setting = setting_of schema read g f in
    let c : Frame = frame_of schema read there.place.method in
    let is : Checked w c = checked schema read p path f g well there rules in
    let u : Unbroken w = kernel_unbroken w rules in
    let seen : IsSeenFragment schema read f g = fragment_seen schema read p path f g well there in
    let walked : RowsWalked w c = rows_are_walked schema read p path f g well there rules in
    let needed : NeededUpdated w = updated schema read p path f g well there rules in
    let tests = atoms_typed w c is walked in
    parts_fit schema (lowering w).fragment (tables_there schema read f g seen u) (keys_there schema read f g seen u) (tests_there schema (lowering w).fragment tests) (elements_there w c is walked needed) tests
    (all_agree w (fragment_atoms_stand schema read f g seen u c refl there.typed.loop there.typed.after there.typed.body) tests)
    (updates_typed w c is walked needed)

-- The same, of the setting to whose loop a path leads in a well-typed program whose literals have 64 bits.
pub fragment_fits : (schema : Schema) (read : List ℕ → Option PlainQuery) (p : PlainProgram) (path : List ℕ) (w : Setting) → IsWellTyped schema read p → NumbersFit p → setting_at schema read path p ≡ Some w → broken w ≡ None → is_typed schema (lowering w).fragment ≡ true
fragment_fits schema read p path w well fits is rules = at_setting (λ z. is_typed schema (lowering z).fragment ≡ true) schema read p path w well fits (λ f g. fragment_typed schema read p path f g well) is rules
