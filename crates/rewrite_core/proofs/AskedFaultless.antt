-- The statements that ask break no rule where they may stand.
use Rattle.std.proofs.Common.{◌≡◌, ℕ, Bool, true, false, not, ◌&&◌, List, [], ◌∷◌, ◌++◌, Option, Some, None, refl, ap, ◌∙◌, bytes_eq, codes}
use Rattle.std.specs.List.{AllByRecursion}
use Rattle.qbs_base.specs.declared.span.Span.{Span}
use Rattle.qbs_base.specs.Values.{Schema}
use Rattle.sql_ast.specs.Tree.{PlainQuery}
use Rattle.java_ast.specs.Tree as tree
use Rattle.java_ast.specs.Tree.{Spelled, Expression}
use Rattle.java_mean.specs.declared.types.JavaType.{JavaType}
use Rattle.java_mean.specs.declared.types.JavaType.TheVariants.{Of, Listed, Distinct}
use Rattle.java_mean.specs.Fits.{in_first}
use Rattle.java_mean.specs.Queries.{Reader}
use Rattle.java_mean.specs.Places.{Around, step, is_nothing, in_parts, in_expression}
use Rattle.java_mean.specs.Rules.{same_type, is_none, is_set_of_rows, aliased, is_walked}
use Rattle.java_mean.specs.Types.{Types, type_spelled, types_after}
use Rattle.java_mean.specs.Visible.{Visible, is_visible, type_at, after}
use Rattle.java_mean.specs.WellTyped.{faults_at, faults_in}
use Rattle.java_mean.proofs.Faultless.{none_both, Sees}
use Rattle.java_mean.proofs.Fitting.{sees_after, visible_is_typed}
use Rattle.java_mean.proofs.Puts.{names_equal}
use Rattle.java_types.proofs.Kept.{faults_in-append}
use Rattle.java_loops.specs.Kernel.Setting.{Setting}
use Rattle.java_loops.specs.Walks.Replacing.{Ask, asking, asked}
use Rattle.rewrite_core.specs.Asked.{Place, asks_of}
use Rattle.rewrite_core.specs.Asking as asking_specs
use Rattle.rewrite_core.specs.Asking.{HasAsks, AgreeOnEntries, SeesEntries, IsFaultlessAsk, MayStand, AllMayStand}
use Rattle.rewrite_core.proofs.FaultlessAsks.{asks_are_faultless}
use Rattle.rewrite_core.proofs.FaultlessCalls.{single_itself}
use Rattle.rewrite_core.proofs.KeptFaultless.{seen_so}
use Rattle.rewrite_core.proofs.Standing.{ask_keeps, all_stand_behind}

type_itself : (k : JavaType) → same_type k k ≡ true
type_itself (Of a) = single_itself a
type_itself (Listed a) = single_itself a
type_itself (Distinct a) = single_itself a

-- ---- One ask

module _ (schema : Schema) (read : List ℕ → Option PlainQuery) (r : Option Spelled) (w : Setting) (round : Around) where
  declared_fine : (us : Visible) (last : Bool) (k : Ask) (ty : Spelled) → IsFaultlessAsk schema read r w us k → is_visible us k.name ≡ false → bytes_eq k.name (codes "db") ≡ false → is_set_of_rows ty ≡ false → type_spelled schema ty ≡ w.types k.name → faults_at schema read r (step us round last (tree.Declare k.at ty k.name k.value)) ≡ []
  declared_fine us last k ty f unseen name rows same =
      let spelled : type_spelled schema ty ≡ Some f.type = same ∙ f.visible in
      let alias : aliased (Some f.type) k.name k.value ≡ [] = f.aliases_nothing (Some f.type) k.name in
      rw (spelled, f.kindred, f.copies_no_row, alias, unseen, name, rows, type_itself f.type) refl

  assigned_fine : (us : Visible) (last : Bool) (k : Ask) → IsFaultlessAsk schema read r w us k → is_visible us k.name ≡ true → type_at us k.name ≡ w.types k.name → is_walked round k.name ≡ false → faults_at schema read r (step us round last (tree.Assign k.at k.name k.value)) ≡ []
  assigned_fine us last k f seen same apart =
      let type : type_at us k.name ≡ Some f.type = same ∙ f.visible in
      let alias : aliased (Some f.type) k.name k.value ≡ [] = f.aliases_nothing (Some f.type) k.name in
      rw (seen, type, f.kindred, f.copies_no_row, alias, apart, type_itself f.type) refl

  -- an ask by itself
  ask_fine : (us : Visible) (h : Types) (last : Bool) (k : Ask) (ty : Option Spelled) → Sees us h → IsFaultlessAsk schema read r w us k → MayStand schema round w.types h ty k.name → faults_at schema read r (step us round last (asking ty k.at k.name k.value)) ++ faults_in schema read r (in_parts schema us round (asking ty k.at k.name k.value)) ≡ []
  ask_fine us h last k (Some ty) s f m =
      let unseen : is_visible us k.name ≡ false = visible_is_typed us h k.name s ∙ ap (λ o. not (is_none o)) m.0 in
      ap (λ fs. fs ++ faults_in schema read r (in_expression us k.value)) (declared_fine us last k ty f unseen m.1 m.2 m.3) ∙ f.faultless
  ask_fine us h last k None s f m =
      let type : h k.name ≡ Some f.type = m.0 ∙ f.visible in
      let seen : is_visible us k.name ≡ true = visible_is_typed us h k.name s ∙ ap (λ o. not (is_none o)) type in
      ap (λ fs. fs ++ faults_in schema read r (in_expression us k.value)) (assigned_fine us last k f seen (s.same k.name ∙ m.0) m.1) ∙ f.faultless

  -- ---- What is visible behind it

  -- a variable with a type is another than one without
  other_typed : (h : Types) (x y : List ℕ) (k : JavaType) (b : Bool) → bytes_eq x y ≡ b → h x ≡ None → h y ≡ Some k → b ≡ false
  other_typed h x y k true e none some = let same : h x ≡ h y = ap h (names_equal x y e) in absurd cc
  other_typed h x y k false e none some = refl

  agree_behind : (h : Types) (ty : Option Spelled) (at : Span) (x : List ℕ) (e : Expression) → MayStand schema round w.types h ty x → AgreeOnEntries w h → AgreeOnEntries w (types_after schema h (asking ty at x e))
  agree_behind h (Some ty) at x e m agree = λ y k i t. ask_keeps schema round w.types h (Some ty) at x e y (other_typed h x y k (bytes_eq x y) refl m.0 (agree y k i t)) ∙ agree y k i t
  agree_behind h None at x e m agree = agree

  entries_seen : (us : Visible) (h : Types) → Sees us h → AgreeOnEntries w h → SeesEntries w us
  entries_seen us h s agree = λ x k i t. (visible_is_typed us h x s ∙ ap (λ o. not (is_none o)) (agree x k i t), s.same x ∙ agree x k i t)

  -- ---- All of them

  pub asked_fine : (ks : List Ask) (us : Visible) (h : Types) → Sees us h → AgreeOnEntries w h → ((vs : Visible) → SeesEntries w vs → AllByRecursion (IsFaultlessAsk schema read r w vs) ks) → AllMayStand schema round w.types h ks → faults_in schema read r (in_first schema us round false (asked ks)) ≡ []
  asked_fine [] us h s agree fine m = refl
  asked_fine (k ∷ ks) us h s agree fine m =
      let a = asking k.ty k.at k.name k.value in
      let last : Bool = is_nothing (asked ks) && false in
      let one : faults_at schema read r (step us round last a) ++ faults_in schema read r (in_parts schema us round a) ≡ [] = ask_fine us h last k k.ty s (fine us (entries_seen us h s agree)).0 m.0 in
      let seen : Sees (after schema us a) (types_after schema h a) = sees_after schema read r us h round last a s (none_both (faults_at schema read r (step us round last a)) (faults_in schema read r (in_parts schema us round a)) one).left in
      faults_in-append schema read r (step us round last a ∷ in_parts schema us round a) (in_first schema (after schema us a) round false (asked ks))
      ∙ ap (λ fs. fs ++ faults_in schema read r (in_first schema (after schema us a) round false (asked ks))) one
      ∙ asked_fine ks (after schema us a) (types_after schema h a) seen (agree_behind h k.ty k.at k.name k.value m.0 agree) (λ vs e. (fine vs e).1) (all_stand_behind schema round w.types h k.ty k.at k.name k.value ks m.1 m.2)

-- The asks for a loop break no rule where they may stand.
pub asks_fine : (schema : Schema) (reader : Reader schema) (l : Place) (r : Option Spelled) (round : Around) (vs : Visible) (g : Types) → HasAsks schema reader.read l.program l.path l.setting l.candidate → asking_specs.Sees vs g → AgreeOnEntries l.setting g → AllMayStand schema round l.setting.types g (asks_of l) → faults_in schema reader.read r (in_first schema vs round false (asked (asks_of l))) ≡ []
asks_fine schema reader l r round vs g may s agree m = asked_fine schema reader.read r l.setting round (asks_of l) vs g (seen_so vs g s) agree (λ us e. asks_are_faultless schema reader l r us may e) m
