-- The command `map`: what is due for files that are read, and for those that aren't.
use Rattle.std.proofs.Common.{◌≡◌, ℕ, List, ◌∷◌, Option, Result, Ok, Err, sym, subst, inl, inr, codes}
use Rattle.deliveries.specs.declared.fetch.Stop.{Stop}
use Rattle.deliveries.specs.declared.plan.Plan.{Plan}
use Rattle.deliveries.specs.Code.{OrMemory}
use Rattle.deliveries.specs.Limits.{most_entities}
use Rattle.deliveries.specs.Named.{AreFilesRead, AreFilesUnread, ReadsFiles}
use Rattle.deliveries.specs.Plan.{Given}
use Rattle.deliveries.specs.Reads.{Looks, OnlyReads}
use Rattle.qbs.specs.Maps.{IsText, draws, source_names, checks_map}

-- ---- entities

pub is_drawn : (A : Type 0) (files : Given) (entities lent old new : List (List ℕ)) (done : A) (plan : Plan) → lent ≡ entities →
    ReadsFiles {A = A} files lent most_entities (codes "entities") old new (Ok done) → IsText plan → draws files entities plan
is_drawn A files entities lent old new done plan same read is =
    inr (read.0, subst (λ (names : List (List ℕ)). AreFilesRead files names most_entities read.0) same read.2, is)

pub isnt_drawn : (A : Type 0) (files : Given) (entities lent old new : List (List ℕ)) (stop : Stop) → lent ≡ entities →
    ReadsFiles {A = A} files lent most_entities (codes "entities") old new (Err stop) → OrMemory (Err stop) (draws files entities)
isnt_drawn A files entities lent old new Stop.Memory same read = tt
isnt_drawn A files entities lent old new (Stop.Due plan) same read =
    inl (subst (λ (names : List (List ℕ)). AreFilesUnread files names most_entities (codes "entities") plan) same read)

-- ---- a map with a source or without one

pub due_for : (files : Given) (words schema : List ℕ) (source other : Option (List ℕ)) (result : Result Plan Stop) → source ≡ other → OrMemory result (checks_map files words schema other) → OrMemory result (checks_map files words schema source)
due_for files words schema source other result is h = subst (λ (o : Option (List ℕ)). OrMemory result (checks_map files words schema o)) (sym is) h

pub reads_for : {D : Type 0} (l : Looks D) (words schema : List ℕ) (source other : Option (List ℕ)) (old new : D) → source ≡ other → OnlyReads l (words ∷ schema ∷ source_names other) old new → OnlyReads l (words ∷ schema ∷ source_names source) old new
reads_for l words schema source other old new is h = subst (λ (o : Option (List ℕ)). OnlyReads l (words ∷ schema ∷ source_names o) old new) (sym is) h
