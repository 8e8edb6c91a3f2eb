-- A command by a view where the words name a map, and without one where they don't.
use Rattle.std.proofs.Common.{◌≡◌, ℕ, List, Option, Some, None, Result, Ok, Err, subst, sym, refl, ap}
use Rattle.qbs_base.specs.declared.status.Status.TheVariants as statuses
use Rattle.qbs_base.specs.Values.{Schema}
use Rattle.view_map.specs.declared.model.ViewMap.{ViewMap}
use Rattle.deliveries.specs.declared.plan.Plan.{Plan}
use Rattle.deliveries.specs.declared.fetch.Stop.{Stop}
use Rattle.words.specs.declared.command.Options.{Options}
use Rattle.deliveries.specs.Code.{OrMemory}
use Rattle.deliveries.specs.Reads.{Looks, OnlyReads}
use Rattle.deliveries.specs.Steps.{Ends}
use Rattle.qbs.specs.ByMap.{proves_by}
use Rattle.qbs.specs.Commands.{by_view}
use Rattle.qbs.specs.Prove.{prove_of}
use Rattle.qbs.specs.ProveByView.{ProvesSeen, prove_by_view_of}
use Rattle.qbs.specs.Pruners.{May}
use Rattle.qbs.specs.Top.{IsMapName, with_map}
use Rattle.qbs.specs.View.{Seen, Methods, Nothing}

pub either : (P : Type 0) (view : Option (List ℕ)) (through : List ℕ → Ends) (plainly : Ends) (plan : Plan) →
    ((map : List ℕ) → view ≡ Some map → through map plan → P) → (view ≡ None → plainly plan → P) → by_view view through plainly plan → P
either P None through plainly plan first second h = second refl h
either P (Some map) through plainly plan first second h = first map refl h

pub as_plain : (view : Option (List ℕ)) (through : List ℕ → Ends) (plainly : Ends) (plan : Plan) → view ≡ None → by_view view through plainly plan → plainly plan
as_plain None through plainly plan e h = h
as_plain (Some map) through plainly plan e h = absurd cc

pub as_viewed : (view : Option (List ℕ)) (through : List ℕ → Ends) (plainly : Ends) (plan : Plan) (map : List ℕ) → view ≡ Some map → by_view view through plainly plan → through map plan
as_viewed None through plainly plan map e h = absurd cc
as_viewed (Some other) through plainly plan map e h = let same : other ≡ map = cc in subst (λ (name : List ℕ). through name plan) same h

pub is_map_name : (view : Option (List ℕ)) (map : List ℕ) → view ≡ Some map → IsMapName view map
is_map_name None map e = absurd cc
is_map_name (Some other) map e = cc

-- what `prove` writes of what is seen ends well
pub proves_well : (may : May) (m : ViewMap) (tables : Schema) (size budget : ℕ) (source : List ℕ) (seen : Seen) (plan : Plan) → ProvesSeen may m tables size budget source seen plan → plan.status ≡ statuses.Ok
proves_well may m tables size budget source (Methods v p) plan h = ap (λ (x : Plan). x.status) h.written
proves_well may m tables size budget source Nothing plan h = ap (λ (x : Plan). x.status) h.written

-- ---- what is due, and what is read

pub due_of : {X : Type 0} (P : X → Ends) (a b : X) (result : Result Plan Stop) → a ≡ b → OrMemory result (P b) → OrMemory result (P a)
due_of P a b result e h = subst (λ x. OrMemory result (P x)) (sym e) h

pub proves_plain : (may : May) (o : Options) (view : Option (List ℕ)) (s t : List ℕ) (b : Option (List ℕ)) (result : Result Plan Stop) → view ≡ None → OrMemory result (prove_of may o s t b) → OrMemory result (proves_by may o view s t b)
proves_plain may o view s t b result e h = due_of (λ v. proves_by may o v s t b) view None result e h

pub proves_viewed : (may : May) (o : Options) (view : Option (List ℕ)) (w s t : List ℕ) (b : Option (List ℕ)) (result : Result Plan Stop) → view ≡ Some w → OrMemory result (prove_by_view_of may o w s t b) → OrMemory result (proves_by may o view s t b)
proves_viewed may o view w s t b result e h = due_of (λ v. proves_by may o v s t b) view (Some w) result e h

pub plain_due : (view : Option (List ℕ)) (through : List ℕ → Ends) (plainly : Ends) (result : Result Plan Stop) → view ≡ None → OrMemory result plainly → OrMemory result (by_view view through plainly)
plain_due view through plainly (Ok plan) e h = subst (λ (v : Option (List ℕ)). by_view v through plainly plan) (sym e) h
plain_due view through plainly (Err (Stop.Due plan)) e h = subst (λ (v : Option (List ℕ)). by_view v through plainly plan) (sym e) h
plain_due view through plainly (Err Stop.Memory) e h = tt

pub viewed_due : (view : Option (List ℕ)) (through : List ℕ → Ends) (plainly : Ends) (map : List ℕ) (result : Result Plan Stop) → view ≡ Some map → OrMemory result (through map) → OrMemory result (by_view view through plainly)
viewed_due view through plainly map (Ok plan) e h = subst (λ (v : Option (List ℕ)). by_view v through plainly plan) (sym e) h
viewed_due view through plainly map (Err (Stop.Due plan)) e h = subst (λ (v : Option (List ℕ)). by_view v through plainly plan) (sym e) h
viewed_due view through plainly map (Err Stop.Memory) e h = tt

pub plain_read : {D : Type 0} (l : Looks D) (view : Option (List ℕ)) (names : List (List ℕ)) (old new : D) → view ≡ None → OnlyReads l names old new → OnlyReads l (with_map view names) old new
plain_read l view names old new e h = subst (λ (v : Option (List ℕ)). OnlyReads l (with_map v names) old new) (sym e) h

pub viewed_read : {D : Type 0} (l : Looks D) (view : Option (List ℕ)) (map : List ℕ) (names : List (List ℕ)) (old new : D) → view ≡ Some map → OnlyReads l (with_map (Some map) names) old new → OnlyReads l (with_map view names) old new
viewed_read l view map names old new e h = subst (λ (v : Option (List ℕ)). OnlyReads l (with_map v names) old new) (sym e) h
