-- What is due once files are read: their steps, and what comes of their bytes.
use Rattle.std.proofs.Common.{◌≡◌, ℕ, List, [], ◌++◌, Option, Result, Ok, Err, sym, ap, ◌∙◌, subst, inl, inr, codes}
use Rattle.qbs_base.specs.Values.{Schema}
use Rattle.qbs_base.specs.declared.columns.Table.{Table}
use Rattle.deliveries.specs.Limits.{most_schema, most_source, most_tables}
use Rattle.deliveries.specs.declared.plan.Plan.{Plan}
use Rattle.deliveries.specs.declared.fetch.Stop.{Stop}
use Rattle.deliveries.specs.Code.{Goes, OrMemory}
use Rattle.plans.specs.Opening.{IsSchemaOf, BreaksSchema, schema_refusal}
use Rattle.deliveries.specs.Plan.{Given}
use Rattle.deliveries.specs.Steps.{Ends, refused, IsRead, IsNotRead, reads}
use Rattle.plans.specs.Tables.{AreRead, AreNotRead, Reads, reads_tables, over_tables}
use Rattle.plans.proofs.Fetched.{read_there, not_read_there, are_read_there, are_not_read_there}
use Rattle.qbs.proofs.Going.{goes_on, stops_at}

-- ---- a schema and a source

abbrev pub both : Given → List ℕ → List ℕ → (List ℕ → List ℕ → Ends) → Ends
both files schema source next = reads files schema most_schema (codes "schema") (λ s. reads files source most_source (codes "source") (λ t. next s t))

pub first_unread : (files : Given) (schema source : List ℕ) (next : List ℕ → List ℕ → Ends) (stop : Stop) →
    Goes {A = List ℕ} (Err stop) (IsRead files schema most_schema) (IsNotRead files schema most_schema (codes "schema")) → OrMemory (Err stop) (both files schema source next)
first_unread files schema source next stop h =
    stops_at (IsRead files schema most_schema) (IsRead files schema most_schema) (IsNotRead files schema most_schema (codes "schema")) (λ s. reads files source most_source (codes "source") (λ t. next s t)) stop h

pub second_unread : (told later : List ℕ → Option (List ℕ)) (rose after : List ℕ → Type 0) (schema source : List ℕ) (next : List ℕ → List ℕ → Ends) (s : List ℕ) (stop : Stop) →
    later ≡ told → ((name : List ℕ) → after name → rose name) → IsRead (record { told = told; failed = rose }) schema most_schema s →
    Goes {A = List ℕ} (Err stop) (IsRead (record { told = later; failed = after }) source most_source) (IsNotRead (record { told = later; failed = after }) source most_source (codes "source")) →
    OrMemory (Err stop) (both (record { told = told; failed = rose }) schema source next)
second_unread told later rose after schema source next s (Stop.Due plan) same f read h =
    inr (s, read, inl (not_read_there told later after rose source most_source (codes "source") plan same f h))
second_unread told later rose after schema source next s Stop.Memory same f read h = tt

pub both_read : (told later : List ℕ → Option (List ℕ)) (rose after : List ℕ → Type 0) (schema source : List ℕ) (next : List ℕ → List ℕ → Ends) (s t : List ℕ) (result : Result Plan Stop) →
    later ≡ told → IsRead (record { told = told; failed = rose }) schema most_schema s → IsRead (record { told = later; failed = after }) source most_source t → OrMemory result (next s t) →
    OrMemory result (both (record { told = told; failed = rose }) schema source next)
both_read told later rose after schema source next s t (Ok plan) same read has h = inr (s, read, inr (t, read_there told later after rose source most_source t same has, h))
both_read told later rose after schema source next s t (Err (Stop.Due plan)) same read has h = inr (s, read, inr (t, read_there told later after rose source most_source t same has, h))
both_read told later rose after schema source next s t (Err Stop.Memory) same read has h = tt

-- ---- a file that is read later

pub unread_there : (told later : List ℕ → Option (List ℕ)) (rose after : List ℕ → Type 0) (name : List ℕ) (limit : ℕ) (label : List ℕ) (next : List ℕ → Ends) (stop : Stop) → later ≡ told → ((name : List ℕ) → after name → rose name) →
    Goes {A = List ℕ} (Err stop) (IsRead (record { told = later; failed = after }) name limit) (IsNotRead (record { told = later; failed = after }) name limit label) →
    OrMemory (Err stop) (reads (record { told = told; failed = rose }) name limit label next)
unread_there told later rose after name limit label next (Stop.Due plan) same f h = inl (not_read_there told later after rose name limit label plan same f h)
unread_there told later rose after name limit label next Stop.Memory same f h = tt

pub read_on : (told later : List ℕ → Option (List ℕ)) (rose after : List ℕ → Type 0) (name : List ℕ) (limit : ℕ) (label : List ℕ) (next : List ℕ → Ends) (bytes : List ℕ) (result : Result Plan Stop) → later ≡ told →
    IsRead (record { told = later; failed = after }) name limit bytes → OrMemory result (next bytes) → OrMemory result (reads (record { told = told; failed = rose }) name limit label next)
read_on told later rose after name limit label next bytes result same read h =
    goes_on (IsRead (record { told = told; failed = rose }) name limit) (IsNotRead (record { told = told; failed = rose }) name limit label) next bytes result
    (read_there told later after rose name limit bytes same read) h

-- ---- a schema, and the files of its tables

pub no_schema : (files : Given) (folder s : List ℕ) (next : Schema → List (List ℕ) → Ends) (stop : Stop) →
    Goes {A = Schema} (Err stop) (IsSchemaOf s) (refused (BreaksSchema s) schema_refusal) → OrMemory (Err stop) (over_tables files folder s next)
no_schema files folder s next stop h =
    stops_at (IsSchemaOf s) (IsSchemaOf s) (refused (BreaksSchema s) schema_refusal) (λ tables. reads_tables files folder tables (λ texts. next tables texts)) stop h

pub no_texts : (A : Type 0) (told later : List ℕ → Option (List ℕ)) (rose after : List ℕ → Type 0) (folder s : List ℕ) (next : Schema → List (List ℕ) → Ends) (tables : Schema) (lent : List Table) (old new : List (List ℕ)) (stop : Stop) →
    later ≡ told → ((name : List ℕ) → after name → rose name) → IsSchemaOf s tables → lent ≡ tables → Reads {A = A} (record { told = later; failed = after }) folder lent most_tables old new (Err stop) →
    OrMemory (Err stop) (over_tables (record { told = told; failed = rose }) folder s next)
no_texts A told later rose after folder s next tables lent old new (Stop.Due plan) same f is holds h =
    inr (tables, is, inl (are_not_read_there told later after rose folder tables most_tables plan same f (subst (λ (ts : List Table). AreNotRead (record { told = later; failed = after }) folder ts most_tables plan) holds h)))
no_texts A told later rose after folder s next tables lent old new Stop.Memory same f is holds h = tt

pub has_texts : (A : Type 0) (told later : List ℕ → Option (List ℕ)) (rose after : List ℕ → Type 0) (folder s : List ℕ) (next : Schema → List (List ℕ) → Ends) (tables : Schema) (lent : List Table) (old new : List (List ℕ)) (done : A) (result : Result Plan Stop) →
    later ≡ told → IsSchemaOf s tables → lent ≡ tables → old ≡ [] → Reads {A = A} (record { told = later; failed = after }) folder lent most_tables old new (Ok done) → OrMemory result (next tables new) →
    OrMemory result (over_tables (record { told = told; failed = rose }) folder s next)
has_texts A told later rose after folder s next tables lent old new done result same is holds none read h =
    goes_on (IsSchemaOf s) (refused (BreaksSchema s) schema_refusal) (λ tables. reads_tables (record { told = told; failed = rose }) folder tables (λ texts. next tables texts)) tables result is
    (goes_on (AreRead (record { told = told; failed = rose }) folder tables most_tables) (AreNotRead (record { told = told; failed = rose }) folder tables most_tables) (λ texts. next tables texts) new result
    (are_read_there told later after rose folder tables most_tables new same
    (subst (λ (ts : List Table). AreRead (record { told = later; failed = after }) folder ts most_tables new) holds
    (subst (AreRead (record { told = later; failed = after }) folder lent most_tables) (sym (read.1 ∙ ap (λ (ts : List (List ℕ)). ts ++ read.0) none)) read.2)))
    h)

-- the same of what is told later
over_later : (told later : List ℕ → Option (List ℕ)) (rose after : List ℕ → Type 0) (folder s : List ℕ) (next : Schema → List (List ℕ) → Ends) (plan : Plan) → later ≡ told → ((name : List ℕ) → after name → rose name) →
    over_tables (record { told = later; failed = after }) folder s next plan → over_tables (record { told = told; failed = rose }) folder s next plan
over_later told later rose after folder s next plan same f (inl h) = inl h
over_later told later rose after folder s next plan same f (inr (tables, is, inl h)) = inr (tables, is, inl (are_not_read_there told later after rose folder tables most_tables plan same f h))
over_later told later rose after folder s next plan same f (inr (tables, is, inr (texts, are, h))) = inr (tables, is, inr (texts, are_read_there told later after rose folder tables most_tables texts same are, h))

pub over_there : (told later : List ℕ → Option (List ℕ)) (rose after : List ℕ → Type 0) (folder s : List ℕ) (next : Schema → List (List ℕ) → Ends) (result : Result Plan Stop) → later ≡ told → ((name : List ℕ) → after name → rose name) →
    OrMemory result (over_tables (record { told = later; failed = after }) folder s next) → OrMemory result (over_tables (record { told = told; failed = rose }) folder s next)
over_there told later rose after folder s next (Ok plan) same f h = over_later told later rose after folder s next plan same f h
over_there told later rose after folder s next (Err (Stop.Due plan)) same f h = over_later told later rose after folder s next plan same f h
over_there told later rose after folder s next (Err Stop.Memory) same f h = tt

pub schema_read : (told later : List ℕ → Option (List ℕ)) (rose after : List ℕ → Type 0) (schema : List ℕ) (next : List ℕ → Ends) (s : List ℕ) (result : Result Plan Stop) →
    IsRead (record { told = told; failed = after }) schema most_schema s → OrMemory result (next s) → OrMemory result (reads (record { told = told; failed = rose }) schema most_schema (codes "schema") next)
schema_read told later rose after schema next s result read h =
    goes_on (IsRead (record { told = told; failed = rose }) schema most_schema) (IsNotRead (record { told = told; failed = rose }) schema most_schema (codes "schema")) next s result read h

pub schema_unread : (files : Given) (schema : List ℕ) (next : List ℕ → Ends) (stop : Stop) →
    Goes {A = List ℕ} (Err stop) (IsRead files schema most_schema) (IsNotRead files schema most_schema (codes "schema")) → OrMemory (Err stop) (reads files schema most_schema (codes "schema") next)
schema_unread files schema next stop h = stops_at (IsRead files schema most_schema) (IsRead files schema most_schema) (IsNotRead files schema most_schema (codes "schema")) next stop h
