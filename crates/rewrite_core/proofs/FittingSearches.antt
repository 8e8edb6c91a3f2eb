-- What was searched of a program's loops: each fragment fits the schema.
use Rattle.std.proofs.Common.{◌≡◌, ℕ, zero, suc, true, List, [], ◌∷◌, length, map, slice_get, Option, Some, None, refl, sym, ◌∙◌, subst}
use Rattle.std.specs.List.{AllByRecursion}
use Rattle.qbs_base.specs.Values.{Schema}
use Rattle.kernel_lang.specs.Plain.{Fragment}
use Rattle.kernel_lang.specs.Typed.{is_typed}
use Rattle.sql_ast.proofs.Combinations.{all_append}
use Rattle.java_ast.specs.Tree.{PlainProgram}
use Rattle.java_mean.specs.Numbers.{NumbersFit}
use Rattle.java_mean.specs.WellTyped.{IsWellTyped}
use Rattle.java_types.specs.Texts.{read_by}
use Rattle.loop_text.specs.Statements.Loops.{loops_of}
use Rattle.java_loops.specs.Kernel.Kernel.{Broken, broken, setting_at}
use Rattle.java_loops.specs.Kernel.Setting.{Setting}
use Rattle.java_loops.proofs.Typing.TypedFragment.{fragment_fits}
use Rattle.rewrite_core.specs.declared.progress.AllTried.{AllTried}
use Rattle.rewrite_core.specs.declared.searches.Searching.{Searching}
use Rattle.rewrite_core.specs.Progress.{starts_at, ends_with, Leads}
use Rattle.rewrite_core.specs.Results.{IsSearchingOf}
use Rattle.rewrite_core.specs.Searches.{PlainSearch, plain_search, search_by, searches_of, kept_searches}
use Rattle.rewrite_core.specs.Trying.{Tried, answer_unless, tried_in, tried_at, program_after, standing_after, and_further, trying, all_tried}
use Rattle.rewrite_core.specs.TriedAsking.{AllMayBeAsked}
use Rattle.rewrite_core.proofs.Turns.{Follows, one_follows}

-- what is said of parts of some is said of those
pub all_of : {X Y : Type 0} (P : Y → Type 0) (f : X → Y) (xs : List X) → AllByRecursion P (map f xs) → AllByRecursion (λ x. P (f x)) xs
all_of P f [] h = tt
all_of P f (x ∷ xs) h = (h.0, all_of P f xs h.1)

module _ (schema : Schema) where
  abbrev pub Fits : PlainSearch → Type 0
  Fits s = is_typed schema s.fragment ≡ true

  -- the program is well typed, and its literals have 64 bits
  abbrev IsFine : PlainProgram → Type 0
  IsFine p = IsWellTyped schema (read_by schema) p × NumbersFit p

  one_fits : (size budget : ℕ) (p : PlainProgram) (path : List ℕ) (w : Setting) → IsFine p → setting_at schema (read_by schema) path p ≡ Some w → (o : Option Broken) → broken w ≡ o
      → AllByRecursion Fits (search_by (answer_unless size budget w o))
  one_fits size budget p path w fine there (Some b) e = tt
  one_fits size budget p path w fine there None e = (fragment_fits schema (read_by schema) p path w fine.0 fine.1 there e, tt)

  module _ (size budget : ℕ) where
    module _ (p : PlainProgram) (n : ℕ) (fine : IsFine p) (further : PlainProgram → ℕ → List Tried) (ih : (q : PlainProgram) (m : ℕ) → IsFine q → AllMayBeAsked schema (further q m) → AllByRecursion Fits (searches_of (further q m))) where
      -- the tries from one on
      abbrev tries : Option Tried → List Tried
      tries o = and_further o (λ t. further (program_after t) (standing_after n t.answer))

      by_setting : (path : List ℕ) (o : Option Setting) → setting_at schema (read_by schema) path p ≡ o → AllMayBeAsked schema (tries (tried_in size budget p path o)) → AllByRecursion Fits (searches_of (tries (tried_in size budget p path o)))
      by_setting path None there h = tt
      by_setting path (Some w) there h =
          let t : Tried = record { program = p; path = path; setting = w; answer = answer_unless size budget w (broken w) } in
          let after : Follows schema p (program_after t) = one_follows schema t t.answer h.0 in
          all_append Fits (search_by t.answer) (searches_of (further (program_after t) (standing_after n t.answer))) (one_fits size budget p path w fine there (broken w) refl)
          (ih (program_after t) (standing_after n t.answer) (after.typed fine.0, after.numbers fine.1) h.1)

      by_path : (o : Option (List ℕ)) → AllMayBeAsked schema (tries (tried_at schema size budget p o)) → AllByRecursion Fits (searches_of (tries (tried_at schema size budget p o)))
      by_path None h = tt
      by_path (Some path) h = by_setting path (setting_at schema (read_by schema) path p) refl h

    tries_fit : (left : ℕ) (p : PlainProgram) (n : ℕ) → IsFine p → AllMayBeAsked schema (trying left schema size budget p n) → AllByRecursion Fits (searches_of (trying left schema size budget p n))
    unfolding trying
    tries_fit zero p n fine h = tt
    tries_fit (suc left) p n fine h = by_path p n fine (λ q m. trying left schema size budget q m) (λ q m g k. tries_fit left q m g k) (slice_get (loops_of p) n) h

-- The fragments that are searched in all tries of a well-typed program fit the schema.
pub searches_fit : (schema : Schema) (size budget : ℕ) (p : PlainProgram) → IsWellTyped schema (read_by schema) p → NumbersFit p → AllMayBeAsked schema (all_tried schema size budget p)
    → AllByRecursion (λ (s : PlainSearch). is_typed schema s.fragment ≡ true) (searches_of (all_tried schema size budget p))
unfolding all_tried
searches_fit schema size budget p typed numbers h = tries_fit schema size budget (length (loops_of p)) p 0 (typed, numbers) h

-- ---- Of all tries, where it is kept

some_same : (xs ys : List PlainSearch) → Some xs ≡ Some ys → xs ≡ ys
some_same xs ys e = cc

module _ (D K : Fragment → List ℕ → Type 0) (schema : Schema) (size budget : ℕ) (source : List ℕ) (p : PlainProgram) (all : AllTried) (h : (n : ℕ) × Leads D K schema size source (all_tried schema size budget p) (starts_at p true) (ends_with all n)) where
  pub were_kept : kept_searches all.searches ≡ Some (searches_of (all_tried schema size budget p))
  were_kept = h.1.searches

  pub all_searched : (r : Searching) → r.verdicts ≡ all.verdicts → kept_searches all.searches ≡ Some (map plain_search r.searches) → IsWellTyped schema (read_by schema) p → NumbersFit p → IsSearchingOf schema size budget p r
  all_searched r said kept typed numbers =
      let same : map plain_search r.searches ≡ searches_of (all_tried schema size budget p) = some_same (map plain_search r.searches) (searches_of (all_tried schema size budget p)) (sym kept ∙ were_kept) in
      record {
        verdicts = said ∙ h.1.verdicts;
        searches = same;
        fit =
            all_of (λ (s : PlainSearch). is_typed schema s.fragment ≡ true) plain_search r.searches
            (subst (AllByRecursion (λ (s : PlainSearch). is_typed schema s.fragment ≡ true)) (sym same) (searches_fit schema size budget p typed numbers h.1.asked));
      }
