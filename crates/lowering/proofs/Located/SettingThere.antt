-- The setting of the loop to which a path leads in a well-typed program, and what is lowered there.
use Rattle.std.proofs.Common.{◌≡◌, ℕ, true, List, Option, Some, None, sym, ap, ◌∙◌, subst}
use Rattle.qbs_base.specs.declared.memory.Fail.{Fail}
use Rattle.qbs_base.specs.declared.memory.Fail.TheVariants.{Fault, NoMemory}
use Rattle.qbs_base.specs.Values.{Schema}
use Rattle.java_ast.specs.Path.{found_in}
use Rattle.java_ast.specs.Tree.{PlainProgram}
use Rattle.java_mean.specs.Numbers.{NumbersFit}
use Rattle.java_mean.specs.Visible.{Visible, type_at}
use Rattle.java_mean.specs.WellTyped.{IsWellTyped}
use Rattle.java_types.specs.Texts.{read_by}
use Rattle.kernel_lang.specs.Typed.{is_typed}
use Rattle.loop_text.specs.Statements.Fragment.{Fragment, fragment_at}
use Rattle.java_loops.specs.Kernel.Kernel.{broken, setting_at}
use Rattle.lowering.specs.Asked.{HasQueriesOf, HasKnownQueries}
use Rattle.lowering.specs.InCode.Locating.{fragment_located, IsLocatedAt}
use Rattle.java_loops.specs.Lowering.Lowered.{Lowering}
use Rattle.java_loops.specs.Meant.Lowers.{IsLowered}
use Rattle.lowering.specs.Lowers.{IsOutside}
use Rattle.java_loops.specs.Lowering.Placing.{fragment_once_at}
use Rattle.java_loops.specs.Kernel.Setting.{Setting, setting_of}
use Rattle.loop_text.specs.Sites.Sites.{Site, sites_of}
use Rattle.lowering.specs.InCode.Verdicts.{BreaksFirst, MayBeLowered, IsLoweredFrom}
use Rattle.loop_text.specs.Statements.Walking.{IsLoopOf}
use Rattle.loop_places.specs.declared.outside.Outside.{Outside}
use Rattle.lowering.specs.declared.places.position.Located.{Located}
use Rattle.lowering.proofs.Known.KnownLoop.{known_to}
use Rattle.lowering.proofs.Known.KnownQueries.{may_be_lowered}
use Rattle.java_loops.proofs.Kept.NeededOnce.{once_is}
use Rattle.java_loops.proofs.Placing.PathsLead.{loop_has_fragment}
use Rattle.java_loops.proofs.Placing.PlaceTypes.{setting_found}
use Rattle.java_loops.proofs.Typing.TypedFragment.{fragment_fits}

-- ---- The setting

abbrev pub setting_by : Schema → Visible → Fragment → List Site → Setting
setting_by schema types f sites = record { schema = schema; read = read_by schema; types = type_at types; fragment = f; sites = sites }

abbrev pub setting_located : Schema → Located → Setting
setting_located schema q = setting_of schema (read_by schema) (type_at q.types) (fragment_located q)

pub setting_built : (schema : Schema) (types : Visible) (f : Fragment) (sites : List Site) (q : Located) → types ≡ q.types → f ≡ fragment_located q → sites ≡ sites_of (fragment_located q).loop → setting_by schema types f sites ≡ setting_located schema q
setting_built schema types f sites q t e s = λ i. setting_by schema (t i) (e i) (s i)

-- ---- In a well-typed program

none_some : {A : Type 0} (o : Option A) (x : A) → o ≡ None → o ≡ Some x → ⊥
none_some o x e h = absurd cc

-- the path of a loop leads to a fragment
pub loop_is_found : (schema : Schema) (path : List ℕ) (p : PlainProgram) → IsWellTyped schema (read_by schema) p → IsLoopOf p path → fragment_once_at path p ≡ None → ⊥
loop_is_found schema path p well h none =
    let there = loop_has_fragment p path h in
    none_some (fragment_at path p) there.0 (sym (once_is schema (read_by schema) path p well) ∙ none) there.1

module _ (schema : Schema) (path : List ℕ) (p : PlainProgram) (q : Located) (well : IsWellTyped schema (read_by schema) p) (there : IsLocatedAt (Some schema) path p q) where
  pub is_setting : setting_at schema (read_by schema) path p ≡ Some (setting_located schema q)
  is_setting = setting_found schema (read_by schema) path p (fragment_located q) q.types well there.fragment there.types

  -- it may be lowered
  pub located_may : NumbersFit p → MayBeLowered (setting_located schema q)
  located_may fits = may_be_lowered schema (read_by schema) p path (setting_located schema q) well fits is_setting

  -- what is lowered there is lowered from its program
  pub located_lowered : (l : Lowering) (first : ℕ) (kept : List ℕ) → IsLoweredFrom (setting_located schema q) q.first l first kept → IsLowered schema (read_by schema) p path l first kept
  located_lowered l first kept k =
      record {
        setting = setting_located schema q;
        there = is_setting;
        unbroken = k.unbroken;
        lowered = k.lowered;
        begins = there.first ∙ ap Some (sym k.begins);
        keeps = k.keeps;
      }

  -- its fragment fits the schema
  pub located_fits : NumbersFit p → (l : Lowering) (first : ℕ) (kept : List ℕ) → IsLoweredFrom (setting_located schema q) q.first l first kept → is_typed schema l.fragment ≡ true
  located_fits fits l first kept k =
      ap (λ (z : Lowering). is_typed schema z.fragment) (sym k.lowered)
      ∙ fragment_fits schema (read_by schema) p path (setting_located schema q) well fits is_setting k.unbroken

  -- its known queries are those that emission asks for
  pub located_known : NumbersFit p → (l : Lowering) (first : ℕ) (kept : List ℕ) → IsLoweredFrom (setting_located schema q) q.first l first kept → HasKnownQueries schema l
  located_known fits l first kept k =
      subst (HasKnownQueries schema) k.lowered
      (known_to schema (read_by schema) p path (setting_located schema q) (record { typed = well; numbers = fits; there = is_setting; unbroken = k.unbroken }) (subst (HasQueriesOf schema) (sym k.lowered) k.queries))

  -- the rule that it breaks first is that of the loop in its program
  pub located_breaks : (e : Fail Outside) → BreaksFirst (setting_located schema q) e → IsOutside schema (read_by schema) p path e
  located_breaks (Fault o) h = ap (found_in broken) is_setting ∙ h
  located_breaks NoMemory h = tt
