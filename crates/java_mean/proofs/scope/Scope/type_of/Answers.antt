use Rattle.std.proofs.Common.{◌∙◌, ap, ◌≡◌, Some, None}
use Rattle.std.specs.Map.{lookup}
use Rattle.java_mean.proofs.Scoped.{type_lem, flat, test}
use Rattle.java_mean.proofs.scope.Scope.type_of.Goals as goal

pub returns-in-Some : goal.returns-in-Some
returns-in-Some c = let e : Some c.in-Some.k.now ≡ lookup (test c.as_slice.result.now) c.self.inside.names.entries = c.in-Some.ensures.value in
    ap flat e ∙ type_lem c.as_slice.result.now c.self.inside.names.entries ∙ rw (c.as_slice.ensures, c.self.view_is)

pub returns-in-None : goal.returns-in-None
returns-in-None c = let e : None ≡ lookup (test c.as_slice.result.now) c.self.inside.names.entries = c.in-None.ensures.value in
    ap flat e ∙ type_lem c.as_slice.result.now c.self.inside.names.entries ∙ rw (c.as_slice.ensures, c.self.view_is)
