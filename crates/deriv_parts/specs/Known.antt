-- What is known of an atom.
use Rattle.std.specs.Prelude.{Bool, true, false, cond}
use Rattle.deriv_parts.specs.declared.known.Known.{Known}
use Rattle.deriv_parts.specs.declared.known.Known.TheVariants.{Yes, No, Open}

abbrev pub is_yes : Known → Bool
is_yes Yes = true
is_yes _ = false

-- whether what is known says that a literal is false
abbrev pub denies : Known → Bool → Bool
denies Yes s = cond s false true
denies No s = s
denies Open s = false
