-- The accumulators of a lowered fragment of a well-typed program are chains, so the fragment means its loop.
use Rattle.std.proofs.Common.{◌≡◌, ℕ, true, List, Option, Some, None, refl, sym, ap, ◌∙◌, subst}
use Rattle.qbs_base.specs.Values.{Schema}
use Rattle.sql_ast.specs.Tree.{PlainQuery}
use Rattle.java_ast.specs.Tree.{PlainProgram}
use Rattle.java_mean.specs.declared.types.JavaType.{JavaType}
use Rattle.java_mean.specs.Asks.{frame_of}
use Rattle.java_mean.specs.Numbers.{NumbersFit}
use Rattle.java_mean.specs.Types.{Types}
use Rattle.java_mean.specs.Typing.{Frame}
use Rattle.java_mean.specs.WellTyped.{IsWellTyped}
use Rattle.loop_text.specs.Statements.Fragment.{Fragment, accumulators, needed_of, fragment_at}
use Rattle.java_loops.specs.Kernel.Kernel.{broken, lowering, setting_there, setting_at}
use Rattle.java_loops.specs.Kernel.Kernel as paths
use Rattle.loop_text.specs.Kernel.KernelStarts.{Numbered, update_of}
use Rattle.java_loops.specs.Lowering.Lowered.{conditions_of, needed_in_order}
use Rattle.java_loops.specs.Meant.Means.{MeansItsLoopThere}
use Rattle.java_ast.specs.Names.{is_among}
use Rattle.java_loops.specs.Lowering.Numbering.{numbers_of}
use Rattle.java_loops.specs.Kernel.Setting.{Setting, setting_of}
use Rattle.loop_text.specs.Sites.Sites.{is_some}
use Rattle.java_loops.proofs.Chained.ChainPremises.{HasRows}
use Rattle.java_loops.proofs.Chained.ChainTurned.{Lowerable, Updated}
use Rattle.java_loops.proofs.Formed.FormSites.{TypedSite, site_typed}
use Rattle.java_loops.proofs.Formed.FormSpelled.{rows_spelled}
use Rattle.java_loops.proofs.Listed.ListedRows.{IsSeenFragment, fragment_seen}
use Rattle.java_loops.proofs.Lowering.LowerForms.{forms_here, elements_here}
use Rattle.java_loops.proofs.Lowering.LowerNumbers.{rows_here, numbers_here}
use Rattle.java_loops.proofs.Lowering.LowerSets.{fragment_sets}
use Rattle.java_loops.proofs.Lowering.LowerTurns.{turns_here, row_same}
use Rattle.java_loops.proofs.Lowering.LowerUpdated.{updated_here}
use Rattle.java_loops.proofs.Meant.MeanChains.{HasChains}
use Rattle.java_loops.proofs.Meant.MeanTurned.{has_chains}
use Rattle.java_loops.proofs.Meant.MeanWhole.{fragment_means_there}
use Rattle.java_loops.proofs.Nested.Nest.{row_of, BodyIsNest, SeesFragment, accumulator_seen, body_is_nest}
use Rattle.java_loops.proofs.Nested.NestNames.{among_filtered}
use Rattle.java_loops.proofs.Nested.NestRules.{Unbroken}
use Rattle.java_loops.proofs.Nested.NestThere.{loop_breaks}
use Rattle.java_loops.proofs.Numbers.Numberings.{numbering}
use Rattle.java_loops.proofs.Placing.PlaceLoop.{kernel_unbroken}
use Rattle.java_loops.proofs.Placing.PlaceTyped.{FragmentThere, fragment_there}
use Rattle.java_loops.proofs.Valid.ValidCounts.{outer_of}
use Rattle.java_loops.proofs.Valid.ValidLoop.{Checked}
use Rattle.java_loops.proofs.Valid.ValidPositions.{outer_count}
use Rattle.java_loops.proofs.Valid.ValidUpdates.{update_is}

-- a type that is there
pub record HasType (o : Option JavaType) : Type 0 where
  pub type : JavaType
  pub is : o ≡ Some type

type_there : (o : Option JavaType) → is_some o ≡ true → HasType o
type_there (Some k) h = record { type = k; is = refl }
type_there None h = absurd cc

module _ (schema : Schema) (read : List ℕ → Option PlainQuery) (p : PlainProgram) (path : List ℕ) (f : Fragment) (g : Types) (well : IsWellTyped schema read p) (there : FragmentThere schema read p path f g) (rules : broken (setting_of schema read g f) ≡ None) where
  abbrev w : Setting
  w = setting_of schema read g f

  abbrev c : Frame
  c = frame_of schema read there.place.method

  unbroken : Unbroken w
  unbroken = kernel_unbroken w rules

  seen : IsSeenFragment schema read f g
  seen = fragment_seen schema read p path f g well there

  sees : SeesFragment f g
  sees = record { by = there.typed.named }

  pub checked : Checked w c
  checked = record { sites = refl; none = rules; schema = refl; at_body = there.typed.loop; after = there.typed.after; typed = there.typed.body }

  rows : HasRows w c
  rows = rows_here schema read f g seen unbroken c refl

  -- what the chains of the fragment ask of it
  lowerable : Lowerable w c (numbers_of w) (numbering w) (lowering w).fragment
  lowerable =
      record {
        unbroken = unbroken;
        sites = refl;
        turns = turns_here w c unbroken refl refl rows there.typed.loop there.typed.after there.typed.body;
        numbers = numbers_here schema read f g seen unbroken c refl there.typed.loop there.typed.after there.typed.body sees;
        rows = rows;
        forms = forms_here w c refl unbroken;
        elements = elements_here w c refl unbroken;
        atoms = refl;
        flags = record { needed = outer_of w (needed_in_order w); conditions = conditions_of w (numbers_of w); is = refl; count = outer_count w c checked };
      }

  nest : BodyIsNest w g f.loop
  nest = body_is_nest w refl unbroken c there.typed.loop g there.typed.after sees there.typed.body (loop_breaks schema read p path f well there.place)

  row : row_of f.loop ≡ Some lowerable.turns.row
  row = nest.is_row ∙ ap (λ z. Some z) (sym (row_same w c refl lowerable.turns nest.row nest.is_row))

  -- a needed accumulator is visible at the loop
  pub needed_seen : (y : List ℕ) → is_among (needed_of f) y ≡ true → HasType (g y)
  needed_seen y needed = type_there (g y) (accumulator_seen f g sees y (among_filtered _ (accumulators f) y needed).0)

  -- and is as its chain asks for
  pub updated : (y : List ℕ) (u : Numbered) → is_among (needed_of f) y ≡ true → update_of w.sites y ≡ Some u → Updated w y u
  updated y u needed found =
      let k : HasType (g y) = needed_seen y needed in
      let at : TypedSite w c u.number u.site = site_typed w c refl unbroken (rows_spelled schema read f g seen unbroken) there.typed.loop there.typed.after refl there.typed.body u.number u.site (update_is w.sites y u found).0 in
      updated_here w c checked (fragment_sets schema read p path f g well there) there.typed.loop _ there.typed.run y u at needed found k.type k.is

  -- The needed accumulators of a fragment that breaks no rule of the kernel form are chains.
  pub fragment_chains : HasChains w
  fragment_chains = has_chains w c lowerable row updated

-- ---- By the path to the loop

setting_has : (P : Setting → Type 0) (schema : Schema) (read : List ℕ → Option PlainQuery) (p : PlainProgram) (path : List ℕ) (w : Setting) (types : Option Types) (fragment : Option Fragment) → IsWellTyped schema read p → NumbersFit p → ((f : Fragment) (g : Types) → FragmentThere schema read p path f g → broken (setting_of schema read g f) ≡ None → P (setting_of schema read g f)) → paths.types_at schema path p ≡ types → fragment_at path p ≡ fragment → setting_there schema read types fragment ≡ Some w → broken w ≡ None → P w
setting_has P schema read p path w (Some g) (Some f) well fits all e h is rules =
    let same : setting_of schema read g f ≡ w = (let i : Some (setting_of schema read g f) ≡ Some w = is in cc) in
    subst P same (all f g (fragment_there schema read p path f g well fits h e) (subst (λ z. broken z ≡ None) (sym same) rules))
setting_has P schema read p path w (Some g) None well fits all e h is rules = absurd cc
setting_has P schema read p path w None (Some f) well fits all e h is rules = absurd cc
setting_has P schema read p path w None None well fits all e h is rules = absurd cc

-- What each fragment of a well-typed program has that breaks no rule of the kernel form, the setting has to whose loop a path
-- leads.
pub at_setting : (P : Setting → Type 0) (schema : Schema) (read : List ℕ → Option PlainQuery) (p : PlainProgram) (path : List ℕ) (w : Setting) → IsWellTyped schema read p → NumbersFit p → ((f : Fragment) (g : Types) → FragmentThere schema read p path f g → broken (setting_of schema read g f) ≡ None → P (setting_of schema read g f)) → setting_at schema read path p ≡ Some w → broken w ≡ None → P w
at_setting P schema read p path w well fits all is rules = setting_has P schema read p path w (paths.types_at schema path p) (fragment_at path p) well fits all refl refl is rules

-- Its needed accumulators are chains.
pub chains_there : (schema : Schema) (read : List ℕ → Option PlainQuery) (p : PlainProgram) (path : List ℕ) (w : Setting) → IsWellTyped schema read p → NumbersFit p → setting_at schema read path p ≡ Some w → broken w ≡ None → HasChains w
chains_there schema read p path w well fits is rules = at_setting HasChains schema read p path w well fits (λ f g. fragment_chains schema read p path f g well) is rules

-- In a well-typed program whose literals have 64 bits, the lowered fragment of a loop that breaks no rule of the kernel form
-- means the loop.
pub fragments_mean : (schema : Schema) (read : List ℕ → Option PlainQuery) (p : PlainProgram) (path : List ℕ) (w : Setting) → IsWellTyped schema read p → NumbersFit p → setting_at schema read path p ≡ Some w → broken w ≡ None → MeansItsLoopThere schema read p path w
fragments_mean schema read p path w well fits is rules = fragment_means_there schema read p path w well fits is rules (chains_there schema read p path w well fits is rules)
