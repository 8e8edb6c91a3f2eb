-- Where patches leave bytes of a file.
use Rattle.std.proofs.Common.{◌≡◌, ℕ, ◌+◌, ◌-◌, ◌≤◌, true, List, [], ◌∷◌, ◌++◌, ◌&&◌, length, take, drop, sym, ap, append_assoc, ◌∙◌, arith}
use Rattle.std.specs.Prelude.{nat_le}
use Rattle.std.proofs.lemmas.Bool.{and_parts, leb-true}
use Rattle.std.proofs.lemmas.List.{take-append-drop, drop-drop, length-append, length-drop, length-take-le, take-take, drop-take}
use Rattle.text_patches.specs.declared.patch.TextPatch.{TextPatch}
use Rattle.text_patches.specs.Patching.{stretch, with_texts}
use Rattle.view_spell.specs.declared.marks.Mark.{Mark}
use Rattle.view_spell.specs.Marks.{moved, past_one, past, written_to}
use Rattle.view_spell.specs.Placed.{are_apart}
use Rattle.view_spell.proofs.Apart.{apart_grows}

-- a stretch is one up to a byte in it, and the one from there on
parted : (source : List ℕ) (a b c : ℕ) → a ≤ b → b ≤ c → stretch source a c ≡ stretch source a b ++ stretch source b c
parted source a b c ab bc =
    let rest : List ℕ = drop a source in
    let n : c - a ≡ (b - a) + (c - b) = omega (arith, ab, bc) in
    let e : a + (b - a) ≡ b = omega (arith, ab) in
    let f : take (b - a) (take (c - a) rest) ≡ take (b - a) rest = take-take (b - a) (c - a) rest (omega (arith, ab, bc)) in
    let g : drop (b - a) (take ((b - a) + (c - b)) rest) ≡ take (c - b) (drop (b - a) rest) = drop-take (b - a) (c - b) rest in
    let h : drop (b - a) rest ≡ drop b source = drop-drop (b - a) a source ∙ ap (λ (j : ℕ). drop j source) e in
    sym (take-append-drop (b - a) (take (c - a) rest))
    ∙ ap (λ (xs : List ℕ). xs ++ drop (b - a) (take (c - a) rest)) f
    ∙ ap (λ (j : ℕ). take (b - a) rest ++ drop (b - a) (take j rest)) n
    ∙ ap (λ (xs : List ℕ). take (b - a) rest ++ xs) g
    ∙ ap (λ (xs : List ℕ). take (b - a) rest ++ take (c - b) xs) h

ended : (source : List ℕ) (a b : ℕ) → a ≤ b → drop a source ≡ stretch source a b ++ drop b source
ended source a b ab =
    let e : a + (b - a) ≡ b = omega (arith, ab) in
    sym (take-append-drop (b - a) (drop a source))
    ∙ ap (λ (xs : List ℕ). stretch source a b ++ xs) (drop-drop (b - a) a source ∙ ap (λ (j : ℕ). drop j source) e)

-- what is written in place of the bytes up to one of them stands before what is written in place of the others
pub written_apart : (source : List ℕ) (a b c : ℕ) (ps qs : List TextPatch) → are_apart a b ps ≡ true → are_apart b c qs ≡ true
    → with_texts source a (ps ++ qs) ≡ written_to source a b ps ++ with_texts source b qs
written_apart source a b c [] [] h k = ended source a b (leb-true a b h)
written_apart source a b c [] (q ∷ qs) h k =
    let e = and_parts (nat_le b q.from && nat_le q.from q.to) (are_apart q.to c qs) k in
    let f = and_parts (nat_le b q.from) (nat_le q.from q.to) e.0 in
    let rest : List ℕ = q.text ++ with_texts source q.to qs in
    ap (λ (xs : List ℕ). xs ++ rest) (parted source a b q.from (leb-true a b h) (leb-true b q.from f.0))
    ∙ append_assoc (stretch source a b) (stretch source b q.from) rest
written_apart source a b c (p ∷ ps) qs h k =
    let e = and_parts (nat_le a p.from && nat_le p.from p.to) (are_apart p.to b ps) h in
    let further : List ℕ = with_texts source b qs in
    ap (λ (xs : List ℕ). stretch source a p.from ++ (p.text ++ xs)) (written_apart source p.to b c ps qs e.1 k)
    ∙ ap (λ (xs : List ℕ). stretch source a p.from ++ xs) (sym (append_assoc p.text (written_to source p.to b ps) further))
    ∙ sym (append_assoc (stretch source a p.from) (p.text ++ written_to source p.to b ps) further)

length_stretch : (source : List ℕ) (a b : ℕ) → a ≤ b → b ≤ length source → length (stretch source a b) ≡ b - a
length_stretch source a b ab is = length-take-le (b - a) (drop a source) (omega (arith, length-drop a source, ab, is))

-- a mark says where a byte stands behind patches
pub written_length : (source : List ℕ) (m : Mark) (b : ℕ) (ps : List TextPatch) → are_apart m.byte b ps ≡ true → b ≤ length source
    → m.written + length (written_to source m.byte b ps) ≡ moved (past m ps) b
written_length source m b [] h is = omega (arith, length_stretch source m.byte b (leb-true m.byte b h) is)
written_length source m b (p ∷ ps) h is =
    let e = and_parts (nat_le m.byte p.from && nat_le p.from p.to) (are_apart p.to b ps) h in
    let f = and_parts (nat_le m.byte p.from) (nat_le p.from p.to) e.0 in
    let i = written_length source (past_one m p) b ps e.1 is in
    let k = length_stretch source m.byte p.from (leb-true m.byte p.from f.0) (omega (arith, leb-true p.from p.to f.1, apart_grows p.to b ps e.1, is)) in
    omega (arith, i, k, length-append (stretch source m.byte p.from) (p.text ++ written_to source p.to b ps), length-append p.text (written_to source p.to b ps))
