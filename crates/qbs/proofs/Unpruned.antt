-- Without pruners and without a store reports say last that no candidate was dropped.
use Rattle.std.proofs.Common.{◌≡◌, ℕ, inl, inr, List, ◌++◌, Option, Some, None, refl}
use Rattle.std.specs.Io.KnownBytes.{Appends}
use Rattle.std.specs.List.{flat_map}
use Rattle.qbs_base.specs.declared.status.Status.{Status}
use Rattle.qbs_base.specs.declared.status.Status.TheVariants as statuses
use Rattle.qbs_base.specs.Values.{Schema}
use Rattle.kernel_lang.specs.Plain.{Fragment}
use Rattle.rewrite_core.specs.Rewriting.{verdicts_of}
use Rattle.rewrite_core.specs.Trying.{all_tried}
use Rattle.verdicts.specs.Reports.{verdict_line, pruned_line}
use Rattle.view_map.specs.declared.model.ViewMap.{ViewMap}
use Rattle.view_reports.specs.Lines.{view_line}
use Rattle.words.specs.declared.command.Command.TheVariants as commands
use Rattle.words.specs.declared.command.Options.{Options}
use Rattle.words.specs.Plain.{HasWords}
use Rattle.deliveries.specs.Deliver.{Change}
use Rattle.deliveries.specs.Plan.{Given}
use Rattle.qbs.specs.Evidence.{IsProof}
use Rattle.qbs.specs.Headline.{IsHeadline, DropsNone}
use Rattle.qbs.specs.ProveByView.{IsSeenProved, IsProofByView}
use Rattle.qbs.specs.Pruners.{May, with_bank}
use Rattle.qbs.specs.Rewrite.{size_of, budget_of}
use Rattle.qbs.specs.RewriteByView.{IsWrittenBack, IsHeadlineByView}
use Rattle.qbs.specs.Store.{IsStoreRead, IsBankOf}
use Rattle.small_dbs.specs.declared.small.SmallDb.{SmallDb}
use Rattle.qbs.specs.Top.{IsDone}
use Rattle.qbs.specs.View.{Seen, Methods, Nothing}
use Rattle.qbs.proofs.Evident.{proved}
use Rattle.qbs.proofs.Promised.{none_dropped_without, says_none, headline}
use Rattle.qbs.proofs.ProvingByView.{proved_by_view}
use Rattle.qbs.proofs.RewritingByView.{rewritten_by_view}

-- the report says last that none was dropped
abbrev SaysNone : Change → Type 0
SaysNone rep = (lines : List ℕ) × Appends rep.old rep.new (lines ++ pruned_line 0)

module _ (files : Given) (may : May) (words : List (List ℕ)) (out rep : Change) (result : Status) (done : IsDone files may words out rep result) (never : (f : Fragment) (c : List ℕ) → may.drops f c → ⊥) (o : Options) (schema source : List ℕ) (without : o.store ≡ None) (ok : result ≡ statuses.Ok) where
  -- ---- `rewrite`

  plainly : HasWords words (commands.Rewrite o schema source) → o.view ≡ None → SaysNone rep
  plainly has none =
      let h : IsHeadline files may o schema source out rep = headline files may words out rep result done o schema source has none ok in
      says_none (flat_map verdict_line (verdicts_of h.is.tries)) h.lines h.is.pruned rep
      (none_dropped_without files may o.store h.store_read h.is.tables h.is.bank (size_of o) h.is.tries h.is.pruned without h.read_store h.is.is_bank never h.is.counted) h.is.report h.wrote_lines

  -- what is written of what is seen
  written_back : (store : Option (List ℕ)) (bank : Option (List SmallDb)) (m : ViewMap) (tables : Schema) (t : List ℕ) (seen : Seen) (text lines : List ℕ) → IsStoreRead files o.store store → IsBankOf tables store bank →
      IsWrittenBack (with_bank may bank) m tables (size_of o) (budget_of o) t seen text lines → Appends rep.old rep.new lines → SaysNone rep
  written_back store bank m tables t (Methods v p) text lines read of h wrote =
      says_none (flat_map view_line h.said) lines h.pruned rep
      (none_dropped_without files may o.store store tables bank (size_of o) (all_tried tables (size_of o) (budget_of o) p) h.pruned without read of never h.counted) h.report wrote
  written_back store bank m tables t Nothing text lines read of h wrote = says_none (flat_map view_line h.said) lines 0 rep refl h.report wrote

  by_map : HasWords words (commands.Rewrite o schema source) → (map : List ℕ) → o.view ≡ Some map → SaysNone rep
  by_map has map e =
      let h : IsHeadlineByView files may o map schema source out rep = rewritten_by_view files may words out rep result done o map schema source has e ok in
      written_back h.store_read h.is.bank h.is.map h.is.tables h.source_read h.is.seen h.text h.lines h.read_store h.is.is_bank h.is.written h.wrote_lines

  rewritten : HasWords words (commands.Rewrite o schema source) → (view : Option (List ℕ)) → o.view ≡ view → SaysNone rep
  rewritten has None e = plainly has e
  rewritten has (Some map) e = by_map has map e

  -- ---- `prove`

  proven : HasWords words (commands.Prove o schema source) → o.view ≡ None → SaysNone rep
  proven has none =
      let h : IsProof files may o schema source out rep = proved files may words out rep result done o schema source has none ok in
      let tries = all_tried h.is.tables (size_of o) (budget_of o) h.is.program in
      says_none (flat_map verdict_line (verdicts_of tries)) h.lines h.is.pruned rep
      (none_dropped_without files may o.store h.store_read h.is.tables h.is.bank (size_of o) tries h.is.pruned without h.read_store h.is.is_bank never h.is.counted) h.is.report h.wrote_lines

  -- what is written of what is seen
  seen_proven : (store : Option (List ℕ)) (bank : Option (List SmallDb)) (m : ViewMap) (tables : Schema) (t : List ℕ) (seen : Seen) (text lines : List ℕ) → IsStoreRead files o.store store → IsBankOf tables store bank →
      IsSeenProved (with_bank may bank) m tables (size_of o) (budget_of o) t seen text lines → Appends rep.old rep.new lines → SaysNone rep
  seen_proven store bank m tables t (Methods v p) text lines read of h wrote =
      says_none (flat_map view_line h.report.said) lines h.pruned rep
      (none_dropped_without files may o.store store tables bank (size_of o) (all_tried tables (size_of o) (budget_of o) p) h.pruned without read of never h.counted) h.report.report wrote
  seen_proven store bank m tables t Nothing text lines read of h wrote = says_none (flat_map view_line h.report.said) lines 0 rep refl h.report.report wrote

  proven_by_map : HasWords words (commands.Prove o schema source) → (map : List ℕ) → o.view ≡ Some map → SaysNone rep
  proven_by_map has map e =
      let h : IsProofByView files may o map schema source out rep = proved_by_view files may words out rep result done o map schema source has e ok in
      seen_proven h.store_read h.is.bank h.is.map h.is.tables h.source_read h.is.seen h.text h.lines h.read_store h.is.is_bank h.is.proved h.wrote_lines

  proven_either : HasWords words (commands.Prove o schema source) → (view : Option (List ℕ)) → o.view ≡ view → SaysNone rep
  proven_either has None e = proven has e
  proven_either has (Some map) e = proven_by_map has map e

pub drops_none : (files : Given) (may : May) (words : List (List ℕ)) (out rep : Change) (result : Status) → IsDone files may words out rep result → ((f : Fragment) (c : List ℕ) → may.drops f c → ⊥) → DropsNone words rep result
drops_none files may words out rep result done never o schema source (inl has) e ok = rewritten files may words out rep result done never o schema source e ok has o.view refl
drops_none files may words out rep result done never o schema source (inr has) e ok = proven_either files may words out rep result done never o schema source e ok has o.view refl
