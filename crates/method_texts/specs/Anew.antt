-- A source in which some of its methods are written anew.
use Rattle.std.specs.Prelude.{ℕ, List, [], ◌∷◌, Bool, true, false, length, drop, take, ◌-◌, if◌then◌else◌}
use Rattle.java_ast.specs.Tree.{PlainMethod, PlainProgram}
use Rattle.java_text.specs.Canonical.{canonical_method, indent}
use Rattle.java_calls.specs.Rules.{Site, sites_of}
use Rattle.text_patches.specs.Patching.{with_texts}
use Rattle.text_patches.specs.declared.patch.TextPatch.{TextPatch}

abbrev pub has_sites : List Site → Bool
has_sites [] = false
has_sites (s ∷ ss) = true

-- the lines of a method in canonical layout, but for the margin of the first and the line end of the last
abbrev pub method_text : PlainMethod → List ℕ
method_text m = drop (length indent) (take (length (canonical_method m) - 1) (canonical_method m))

-- in place of each method in which a call stands, from its first token to its last, the method with its number of other ones
abbrev pub methods_anew : List PlainMethod → List PlainMethod → List TextPatch
methods_anew (m ∷ ms) (n ∷ ns) =
    if has_sites (sites_of m.body)
    then (let p : TextPatch = record { from = m.span.start; to = m.span.end; text = method_text n } in p) ∷ methods_anew ms ns
    else methods_anew ms ns
methods_anew _ _ = []

-- The source of a program in which each method with a call is that of another program, in canonical layout. All other bytes stay.
abbrev pub text_anew : List ℕ → PlainProgram → PlainProgram → List ℕ
text_anew source p q = with_texts source 0 (methods_anew p.methods q.methods)
