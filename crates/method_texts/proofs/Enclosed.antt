-- The text of a method between what its class has around it.
use Rattle.std.proofs.Common.{◌≡◌, ℕ, ◌-◌, List, ◌++◌, length, take, drop, codes, sym, ap, ◌∙◌, arith, append_assoc, length-append}
use Rattle.std.proofs.Math.Seq.{take-append_seam}
use Rattle.std.proofs.lemmas.List.{append-nil}
use Rattle.java_ast.specs.Tree.{PlainMethod}
use Rattle.java_text.specs.Canonical.{line_end, indent, separated, modifiers_text, named_text, canonical_param, braced, canonical_statements, canonical}
use Rattle.method_texts.specs.Alone.{alone, opening, closing, Encloses}
use Rattle.method_texts.specs.Anew.{method_text}

abbrev within : PlainMethod → List ℕ
within m = modifiers_text m.access m.fixed ++ named_text m.result m.name ++ codes "(" ++ separated (codes ", ") canonical_param m.params ++ codes ")" ++ braced indent (canonical_statements (indent ++ indent) m.body)

-- all but the last byte
front_of : (a : List ℕ) → take (length (a ++ line_end) - 1) (a ++ line_end) ≡ a
front_of a =
    let n : length (a ++ line_end) - 1 ≡ length a = omega (arith, length-append a line_end) in
    ap (λ (k : ℕ). take k (a ++ line_end)) n ∙ take-append_seam a line_end

within_is : (m : PlainMethod) → method_text m ≡ within m
within_is m = ap (λ (t : List ℕ). drop (length indent) t) (front_of (indent ++ within m))

class_is : (m : PlainMethod) → canonical (alone m) ≡ opening ++ (within m ++ closing)
class_is m =
    ap (λ (t : List ℕ). opening ++ t)
    (ap (λ (t : List ℕ). t ++ (codes "}" ++ line_end)) (append-nil (within m ++ line_end)) ∙ append_assoc (within m) line_end (codes "}" ++ line_end))

pub method_enclosed : (m : PlainMethod) → Encloses (canonical (alone m)) (method_text m)
method_enclosed m = class_is m ∙ ap (λ (t : List ℕ). opening ++ (t ++ closing)) (sym (within_is m))

-- ---- What is cut off

pub behind : (text rest : List ℕ) (n : ℕ) → text ≡ opening ++ rest → n ≡ length opening → drop n text ≡ rest
behind text rest n e f = ap (λ (k : ℕ). drop k text) f ∙ ap (λ (t : List ℕ). drop (length opening) t) e

pub ahead : (text front : List ℕ) (n : ℕ) → text ≡ front ++ closing → n ≡ length closing → take (length text - n) text ≡ front
ahead text front n e f =
    ap (λ (k : ℕ). take (length text - k) text) f
    ∙ ap (λ (t : List ℕ). take (length t - length closing) t) e
    ∙ ap (λ (k : ℕ). take k (front ++ closing)) (let n : length (front ++ closing) - length closing ≡ length front = omega (arith, length-append front closing) in n)
    ∙ take-append_seam front closing
