-- What was seen is written, and the lines of slices among others.
use Rattle.std.proofs.Common.{◌≡◌, ◌<◌, List, ℕ, [], ◌∷◌, ◌++◌, length, codes, filter, Bool, true, false, Some, Err, subst, refl, ap, ◌∙◌}
use Rattle.std.proofs.lemmas.List.{append-nil}
use Rattle.std.proofs.lemmas.List.Elements.{filter-append}
use Rattle.std.specs.Prelude.{if◌then◌else◌}
use Rattle.qbs_base.specs.Values.{Schema}
use Rattle.view_map.specs.declared.model.ViewMap.{ViewMap}
use Rattle.view_reports.specs.declared.lines.ViewLine.{ViewLine}
use Rattle.deliveries.specs.declared.plan.Plan.{Plan}
use Rattle.deliveries.specs.declared.fetch.Stop.{Stop}
use Rattle.deliveries.specs.Code.{Goes}
use Rattle.deliveries.specs.Limits.{most_source}
use Rattle.deliveries.specs.Plan.{too_long}
use Rattle.view_slices.specs.Slices.{File}
use Rattle.view_slices.specs.Views.{PlainSliced, file_in, is_view, class_cells}
use Rattle.view_text.specs.Layout.{laid_out}
use Rattle.qbs.specs.declared.seen.Seen as code
use Rattle.qbs.specs.declared.seen.Seen.TheVariants as found
use Rattle.qbs.specs.Seen.{HasSeen, seen_by, text_by}
use Rattle.qbs.specs.View.{IsSeen, IsTooLong, IsWritten, writes_seen, seen_starts, is_slice_line}

-- ---- what was seen

pub is_seen : (m : ViewMap) (tables : Schema) (source : List ℕ) (s : code.Seen) → HasSeen m tables source s → IsSeen m tables source (seen_by s)
is_seen m tables source (found.Methods file viewed) h = h.seen
is_seen m tables source (found.Nothing n) h = tt

pub is_written : (m : ViewMap) (tables : Schema) (source : List ℕ) (s : code.Seen) (plan : Plan)
    → HasSeen m tables source s → IsWritten source (text_by s) (seen_starts (seen_by s)) plan → writes_seen m tables source (seen_by s) plan
is_written m tables source (found.Methods file viewed) plan h w =
    subst (λ (text : List ℕ). IsWritten source text (seen_starts (seen_by (found.Methods file viewed))) plan) h.text w
is_written m tables source (found.Nothing n) plan h w = w

-- ---- what is too long

pub view_stops : {A B : Type 0} (From : A → Type 0) (To : B → Type 0) (m : ViewMap) (tables given : Schema) (source : List ℕ) (file : File) (methods : List PlainSliced) (text bytes : List ℕ) (stop : Stop)
    → given ≡ tables → file_in m source ≡ Some file → is_view m given file methods ≡ true
    → text ≡ laid_out (class_cells m tables file methods) → bytes ≡ text
    → Goes {A = A} (Err stop) From (λ plan. (most_source < length bytes) × (plan ≡ too_long (codes "view")))
    → Goes {A = B} (Err stop) To (IsTooLong m tables source)
view_stops From To m tables given source file methods text bytes Stop.Memory same is seen t b h = tt
view_stops From To m tables given source file methods text bytes (Stop.Due plan) same is seen t b h =
    record {
      view = record { file = file; methods = methods };
      is_view = record { is_file = is; is_view = subst (λ (ts : Schema). is_view m ts file methods ≡ true) same seen };
      long = subst (λ (x : List ℕ). most_source < length x) (b ∙ t) h.0;
      due = h.1;
    }

-- ---- lines among others

alone : (l : ViewLine) (b : Bool) → b ≡ false → (if b then l ∷ [] else []) ≡ []
alone l false is = refl
alone l true is = absurd cc

pub other_line : (xs : List ViewLine) (l : ViewLine) → is_slice_line l ≡ false → filter is_slice_line (xs ++ l ∷ []) ≡ filter is_slice_line xs
other_line xs l is = filter-append is_slice_line xs (l ∷ []) ∙ ap (λ (ys : List ViewLine). filter is_slice_line xs ++ ys) (alone l (is_slice_line l) is) ∙ append-nil (filter is_slice_line xs)

pub slice_line : (xs : List ViewLine) (l : ViewLine) → is_slice_line l ≡ true → filter is_slice_line (xs ++ l ∷ []) ≡ filter is_slice_line xs ++ l ∷ []
slice_line xs l is = filter-append is_slice_line xs (l ∷ []) ∙ ap (λ (ys : List ViewLine). filter is_slice_line xs ++ ys) (kept l (is_slice_line l) is)
  where
    kept : (k : ViewLine) (b : Bool) → b ≡ true → (if b then k ∷ [] else []) ≡ k ∷ []
    kept k true e = refl
    kept k false e = absurd cc
