-- The patches of methods one behind the other.
use Rattle.std.proofs.Common.{◌≡◌, refl, List, [], ◌∷◌, ◌++◌, Bool, true, false, cond}
use Rattle.java_ast.specs.Tree.{PlainMethod}
use Rattle.java_calls.specs.Rules.{sites_of}
use Rattle.text_patches.specs.declared.patch.TextPatch.{TextPatch}
use Rattle.method_texts.specs.Anew.{has_sites, method_text, methods_anew}

first_if : (b : Bool) (p : TextPatch) (ps : List TextPatch) → cond b (p ∷ ps) ps ≡ cond b (p ∷ []) [] ++ ps
first_if true p ps = refl
first_if false p ps = refl

pub anew_first : (m n : PlainMethod) (ms ns : List PlainMethod) → methods_anew (m ∷ ms) (n ∷ ns) ≡ methods_anew (m ∷ []) (n ∷ []) ++ methods_anew ms ns
anew_first m n ms ns = first_if (has_sites (sites_of m.body)) (record { from = m.span.start; to = m.span.end; text = method_text n }) (methods_anew ms ns)

pub anew_none : (ms : List PlainMethod) → methods_anew ms [] ≡ []
anew_none [] = refl
anew_none (m ∷ ms) = refl

pub ruleset anew = (anew_first, anew_none)
