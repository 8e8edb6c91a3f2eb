-- What is due for words that are plain, and for others.
use Rattle.std.proofs.Common.{◌≡◌, ℕ, ◌<◌, ◌≤◌, ◌^◌, Bool, true, false, List, [], ◌∷◌, Option, Some, None, Result, Ok, Err, refl, sym, subst, inl, inr, codes, arith}
use Rattle.qbs_base.specs.declared.status.Status.{Status}
use Rattle.words.specs.declared.command.Command.{Command}
use Rattle.words.specs.declared.command.Command.TheVariants as commands
use Rattle.words.specs.Plain.{HasWords}
use Rattle.words.specs.Reading.{plain}
use Rattle.words.proofs.Exact.{reads_plain_words}
use Rattle.deliveries.specs.declared.plan.Plan.{Plan}
use Rattle.deliveries.specs.declared.fetch.Stop.{Stop}
use Rattle.deliveries.specs.Code.{OrMemory, StopsFor}
use Rattle.deliveries.specs.Deliver.{Change, Delivers}
use Rattle.deliveries.specs.Plan.{Given}
use Rattle.deliveries.specs.Reads.{Looks}
use Rattle.deliveries.proofs.Reading.{reads_none}
use Rattle.qbs.specs.Commands.{is_built, built, where_built, command, HasNoWords, EndsUnbuilt, program}
use Rattle.qbs.specs.Maps.{source_names}
use Rattle.qbs.specs.Pruners.{May}
use Rattle.qbs.specs.Store.{store_names}
use Rattle.qbs.specs.Top.{IsDone, with_map, ReadsBuilt, ReadsWhere, ReadsInOrder, ReadsAsNamed}
use Rattle.qbs.specs.Within.{IsWithin}
use Rattle.qbs.proofs.Going.{goes_on}
use Rattle.qbs.proofs.Ranged.{within}

pub in_range : (words : List (List ℕ)) (c : Command) → Some c ≡ plain words → IsWithin c
in_range words c e = within words c (sym e)

pub has_words : (words : List (List ℕ)) (c : Command) → Some c ≡ plain words → HasWords words c
has_words words c e = (reads_plain_words words c).0 (sym e)

none_plain : (o : Option Command) (c : Command) → None ≡ o → o ≡ Some c → ⊥
none_plain o c e h = absurd cc

has_no_words : (words : List (List ℕ)) → None ≡ plain words → HasNoWords words
has_no_words words e c has = none_plain (plain words) c e ((reads_plain_words words c).1 has)

pub command_due : (files : Given) (may : May) (words : List (List ℕ)) (c : Command) (result : Result Plan Stop) → Some c ≡ plain words → OrMemory result (command files may c) → OrMemory result (program files may words)
command_due files may words c result e h = goes_on (HasWords words) (EndsUnbuilt words) (command files may) c result (has_words words c e) h

pub words_due : (files : Given) (may : May) (words : List (List ℕ)) (stop : Stop) → None ≡ plain words → StopsFor Status.Words (codes "qbs: words") [] stop → OrMemory (Err stop) (program files may words)
words_due files may words (Stop.Due plan) e due = inl (has_no_words words e, due)
words_due files may words Stop.Memory e due = tt

pub words_read : {D : Type 0} (old new : D) (words : List (List ℕ)) (c : Command) → Some c ≡ plain words → HasNoWords words → new ≡ old
words_read old new words c e none = absurd (none c (has_words words c e))

-- of a command that is one of a kind
pub as_due : (files : Given) (may : May) (c d : Command) (result : Result Plan Stop) → c ≡ d → OrMemory result (built files may d) → OrMemory result (built files may c)
as_due files may c d result is h = subst (λ (x : Command). OrMemory result (built files may x)) (sym is) h

pub as_read : {D : Type 0} (l : Looks D) (c d : Command) (old new : D) → c ≡ d → ReadsBuilt l d old new → ReadsBuilt l c old new
as_read l c d old new is h = subst (λ (x : Command). ReadsBuilt l x old new) (sym is) h

-- of a command that is built, and of one that isn't
pub built_due : (files : Given) (may : May) (c : Command) (result : Result Plan Stop) → is_built c ≡ true → OrMemory result (built files may c) → OrMemory result (command files may c)
built_due files may c (Ok plan) is h = subst (λ (b : Bool). where_built b (built files may c) plan) (sym is) h
built_due files may c (Err (Stop.Due plan)) is h = subst (λ (b : Bool). where_built b (built files may c) plan) (sym is) h
built_due files may c (Err Stop.Memory) is h = tt

pub unbuilt_due : (files : Given) (may : May) (c : Command) (stop : Stop) → is_built c ≡ false → StopsFor Status.NotYet (codes "qbs: not yet") [] stop → OrMemory (Err stop) (command files may c)
unbuilt_due files may c (Stop.Due plan) is h = subst (λ (b : Bool). where_built b (built files may c) plan) (sym is) h
unbuilt_due files may c Stop.Memory is h = tt

pub built_read : {D : Type 0} (l : Looks D) (c : Command) (old new : D) → is_built c ≡ true → ReadsBuilt l c old new → ReadsInOrder l c old new
built_read l c old new is h = subst (λ (b : Bool). ReadsWhere b l c old new) (sym is) h

pub unbuilt_read : {D : Type 0} (l : Looks D) (c : Command) (files : D) → is_built c ≡ false → ReadsInOrder l c files files
unbuilt_read l c files is = subst (λ (b : Bool). ReadsWhere b l c files files) (sym is) (reads_none l [] files)

-- what is only read stays as it is told, whatever the command
only_stays : {D : Type 0} (l : Looks D) (c : Command) (old new : D) → ReadsBuilt l c old new → (l.told new ≡ l.told old) × (l.faults old ≤ l.faults new)
only_stays l (commands.Rewrite o s t) old new h = (h.held, h.later)
only_stays l (commands.Prove o s t) old new h = (h.held, h.later)
only_stays l (commands.Check o s t b) old new h = (h.held, h.later)
only_stays l (commands.Run o s t d method words) old new h = (h.reads.held, h.reads.later)
only_stays l (commands.Sql s d q) old new h = (h.reads.held, h.reads.later)
only_stays l (commands.Make n) old new h = (h.held, h.later)
only_stays l (commands.Unnest o s t) old new h = (h.held, h.later)
only_stays l (commands.Narrow o s t) old new h = (h.held, h.later)
only_stays l (commands.Inline s t) old new h = (h.held, h.later)
only_stays l (commands.Gather o s t) old new h = (h.held, h.later)
only_stays l (commands.Schema o d) old new h = (h.held, h.later)
only_stays l (commands.View m s t) old new h = (h.held, h.later)
only_stays l (commands.Map es) old new h = (h.held, h.later)
only_stays l (commands.MapSchema es) old new h = (h.held, h.later)
only_stays l (commands.CheckMap m s t) old new h = (h.held, h.later)

where_stays : {D : Type 0} (l : Looks D) (is : Bool) (c : Command) (old new : D) → ReadsWhere is l c old new → (l.told new ≡ l.told old) × (l.faults old ≤ l.faults new)
where_stays l true c old new h = only_stays l c old new h
where_stays l false c old new h = (h.held, h.later)

pub stays : {D : Type 0} (l : Looks D) (c : Command) (old new : D) → ReadsInOrder l c old new → (l.told new ≡ l.told old) × (l.faults old ≤ l.faults new)
stays l c old new h = where_stays l (is_built c) c old new h

-- the words name no other command
pub words_read_so : {D : Type 0} (l : Looks D) (words : List (List ℕ)) (c : Command) (old new : D) → Some c ≡ plain words → ReadsInOrder l c old new → ReadsAsNamed l words old new
words_read_so l words c old new e h d has =
    subst (λ (x : Command). ReadsInOrder l x old new) (one_named (plain words) c d (sym e) ((reads_plain_words words d).1 has)) h
  where
    one_named : (o : Option Command) (b d : Command) → o ≡ Some b → o ≡ Some d → b ≡ d
    one_named o b d x y = cc

pub no_words_read_so : {D : Type 0} (l : Looks D) (words : List (List ℕ)) (files : D) → None ≡ plain words → ReadsAsNamed l words files files
no_words_read_so l words files e d has = absurd (has_no_words words e d has)

pub make_within : (c : Command) (n : ℕ) → c ≡ commands.Make n → IsWithin c → n < 2 ^ 63
make_within c n is h = let few : n ≤ 100000 = subst IsWithin is h in omega arith

-- nothing is read where a command stops before its first file
pub none_read : {D : Type 0} (l : Looks D) (c : Command) (files : D) → ReadsBuilt l c files files
none_read l (commands.Rewrite o s t) files = reads_none l (with_map o.view (s ∷ t ∷ store_names o.store)) files
none_read l (commands.Prove o s t) files = reads_none l (with_map o.view (s ∷ t ∷ store_names o.store)) files
none_read l (commands.Check o s t b) files = reads_none l (with_map o.view (s ∷ t ∷ b ∷ [])) files
none_read l (commands.Run o s t d method words) files = record { tables = []; of_schema = inl refl; reads = reads_none l (s ∷ t ∷ []) files }
none_read l (commands.Sql s d q) files = record { tables = []; of_schema = inl refl; reads = reads_none l (s ∷ []) files }
none_read l (commands.Make n) files = reads_none l [] files
none_read l (commands.Unnest o s t) files = reads_none l (s ∷ t ∷ []) files
none_read l (commands.Narrow o s t) files = reads_none l (s ∷ t ∷ []) files
none_read l (commands.Inline s t) files = reads_none l (s ∷ t ∷ []) files
none_read l (commands.Gather o s t) files = reads_none l (s ∷ t ∷ []) files
none_read l (commands.Schema o d) files = reads_none l (d ∷ []) files
none_read l (commands.View m s t) files = reads_none l (m ∷ s ∷ t ∷ []) files
none_read l (commands.Map es) files = reads_none l es files
none_read l (commands.MapSchema es) files = reads_none l es files
none_read l (commands.CheckMap m s t) files = reads_none l (m ∷ s ∷ source_names t) files

where_none : {D : Type 0} (l : Looks D) (is : Bool) (c : Command) (files : D) → ReadsWhere is l c files files
where_none l true c files = none_read l c files
where_none l false c files = reads_none l [] files

pub none_in_order : {D : Type 0} (l : Looks D) (c : Command) (files : D) → ReadsInOrder l c files files
none_in_order l c files = where_none l (is_built c) c files

-- a plan that is due and delivered
pub done_by : (files : Given) (may : May) (words : List (List ℕ)) (out rep : Change) (status : Status) (result : Result Plan Stop) (plan : Plan) →
    result ≡ Ok plan → OrMemory result (program files may words) → Delivers plan out rep status → IsDone files may words out rep status
done_by files may words out rep status result plan is h delivered =
    record { plan = plan; due = inr (subst (λ (r : Result Plan Stop). OrMemory r (program files may words)) is h); delivered = delivered }
