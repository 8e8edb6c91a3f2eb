-- The command `map`: a map or a schema that is drawn of entities, and Java that compiles only where a map is true. What these texts are
-- no definition says.
use Rattle.std.specs.Prelude.{◌≡◌, ℕ, List, [], ◌∷◌, codes}
use Rattle.std.specs.declared.option.Option.{Option}
use Rattle.std.specs.declared.option.Option.TheVariants.{Some, None}
use Rattle.qbs_base.specs.declared.status.Status.{Status}
use Rattle.deliveries.specs.declared.plan.Plan.{Plan}
use Rattle.deliveries.specs.Limits.{most_map, most_schema, most_source, most_entities}
use Rattle.deliveries.specs.Named.{reads_files}
use Rattle.deliveries.specs.Plan.{Given}
use Rattle.deliveries.specs.Steps.{Ends, reads}
use Rattle.plans.specs.Opening.{has_schema, has_map}

-- a text is written, and no report
pub record IsText (plan : Plan) : Type 0 where
  pub status : plan.status ≡ Status.Ok
  pub report : plan.rep ≡ []

-- a text of entities' files
abbrev pub draws : Given → List (List ℕ) → Ends
draws files entities = reads_files files entities most_entities (codes "entities") (λ texts. IsText)

-- the file of a source, where there is one
abbrev pub source_names : Option (List ℕ) → List (List ℕ)
source_names None = []
source_names (Some source) = source ∷ []

-- over the bytes of a map and a schema
abbrev pub checks_of : List ℕ → List ℕ → Ends
checks_of words schema = has_schema schema (λ tables. has_map tables words (λ m. IsText))

abbrev pub checks_source : Given → Option (List ℕ) → List ℕ → List ℕ → Ends
checks_source files None words schema = checks_of words schema
checks_source files (Some source) words schema = reads files source most_source (codes "source") (λ t. checks_of words schema)

abbrev pub checks_map : Given → List ℕ → List ℕ → Option (List ℕ) → Ends
checks_map files words schema source = reads files words most_map (codes "map") (λ w. reads files schema most_schema (codes "schema") (λ s. checks_source files source w s))
