-- Where steps lead.
use Rattle.std.specs.Prelude.{Bool, true, false}
use Rattle.std.specs.declared.option.Option.{Option}
use Rattle.std.specs.declared.option.Option.TheVariants.{Some, None}
use Rattle.tor_terms.specs.Plain.{Tree}

-- the term, where all steps applied
abbrev pub end_of : Bool → Tree → Option Tree
end_of true t = Some t
end_of false t = None
