-- The places of expressions.
use Rattle.java_types.proofs.Nodes.{place_is}

pub ruleset placed = (place_is)
