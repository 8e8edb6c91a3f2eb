-- What stands between the dots of a name, and a name's tail, one byte further.
use Rattle.std.proofs.Common.{◌≡◌, ℕ, zero, suc, ◌+◌, ◌-◌, ◌<◌, ◌≤◌, Bool, true, false, List, [], ◌∷◌, ◌++◌, length, take, drop, get_or, refl, sym, ap, ◌∙◌, arith}
use Rattle.std.specs.Prelude.{if◌then◌else◌, ◌==◌, nat_eq, slice_index_or}
use Rattle.std.proofs.lemmas.Bool.Decides.{Decides-eqb}
use Rattle.std.proofs.Math.Seq.{take-suc}
use Rattle.std.proofs.lemmas.List.{drop_all}
use Rattle.java_ast.specs.Names.{Names}
use Rattle.java_calls.specs.ProgramNames.{onto_first, dotted_parts}
use Rattle.call_rules.proofs.Numbers.{drop_item}
use Rattle.inlining.specs.Endings.{Endings, tail_from, noted, all_noted, onto}

onto_one : (w p : List ℕ) (ps : Names) → onto w (p ∷ ps) ≡ (w ++ p) ∷ ps
onto_one [] p ps = refl
onto_one (b ∷ w) p ps = ap (onto_first b) (onto_one w p ps)

onto_more : (w : List ℕ) (b : ℕ) (ps : Names) → onto w (onto_first b ps) ≡ onto (w ++ b ∷ []) ps
onto_more [] b ps = refl
onto_more (a ∷ w) b ps = ap (onto_first a) (onto_more w b ps)

append_none : (w : List ℕ) → w ++ [] ≡ w
append_none [] = refl
append_none (b ∷ w) = ap (λ (l : List ℕ). b ∷ l) (append_none w)

pub dot_noted : (t : Endings) (w : List ℕ) (b : ℕ) (rest : List ℕ) → (b == 46) ≡ true → all_noted t (onto w (dotted_parts (b ∷ rest))) ≡ all_noted (noted t w) (dotted_parts rest)
dot_noted t w b rest e =
    ap (λ (c : Bool). all_noted t (onto w (if c then [] ∷ dotted_parts rest else onto_first b (dotted_parts rest)))) e
    ∙ ap (all_noted t) (onto_one w [] (dotted_parts rest))
    ∙ ap (λ (v : List ℕ). all_noted (noted t v) (dotted_parts rest)) (append_none w)

pub byte_noted : (t : Endings) (w : List ℕ) (b : ℕ) (rest : List ℕ) → (b == 46) ≡ false → all_noted t (onto w (dotted_parts (b ∷ rest))) ≡ all_noted t (onto (w ++ b ∷ []) (dotted_parts rest))
byte_noted t w b rest e =
    ap (λ (c : Bool). all_noted t (onto w (if c then [] ∷ dotted_parts rest else onto_first b (dotted_parts rest)))) e
    ∙ ap (all_noted t) (onto_more w b (dotted_parts rest))

pub last_noted : (t : Endings) (w : List ℕ) → all_noted t (onto w (dotted_parts [])) ≡ noted t w
last_noted t w = ap (all_noted t) (onto_one w [] []) ∙ ap (noted t) (append_none w)

-- ---- A part of a list, one item longer

more_at : (start k : ℕ) (d : List ℕ) (b : ℕ) → start + k < length d → b ≡ get_or d (start + k) b → take (suc k) (drop start d) ≡ take k (drop start d) ++ b ∷ []
more_at zero k d b lt e =
    let z : 0 + k ≡ k = omega arith in
    take-suc d k b (omega arith) ∙ ap (λ (x : ℕ). take k d ++ x ∷ []) (ap (λ (n : ℕ). get_or d n b) (sym z) ∙ sym e)
more_at (suc start) k [] b lt e = absurd (omega arith)
more_at (suc start) k (x ∷ d) b lt e =
    let z : suc start + k ≡ suc (start + k) = omega arith in
    more_at start k d b (omega arith) (e ∙ ap (λ (n : ℕ). get_or (x ∷ d) n b) z)

pub part_more : (d : List ℕ) (start i : ℕ) (b : ℕ) → start ≤ i → i < length d → b ≡ get_or d i b → take (suc i - start) (drop start d) ≡ take (i - start) (drop start d) ++ b ∷ []
part_more d start i b low lt e =
    let s : suc i - start ≡ suc (i - start) = omega arith in
    let j : i ≡ start + (i - start) = omega arith in
    ap (λ (n : ℕ). take n (drop start d)) s
    ∙ more_at start (i - start) d b (omega arith) (e ∙ ap (λ (n : ℕ). get_or d n b) j)

pub dot_step : (d : List ℕ) (start i b : ℕ) (w : List ℕ) (t next : Endings) → i < length d → b ≡ get_or d i b → (b == 46) ≡ true → w ≡ take (i - start) (drop start d) → next ≡ noted t w
    → all_noted next (onto (take (i + 1 - (i + 1)) (drop (i + 1) d)) (dotted_parts (drop (i + 1) d))) ≡ all_noted t (onto (take (i - start) (drop start d)) (dotted_parts (drop i d)))
dot_step d start i b w t next lt is dot part e =
    let z : i + 1 - (i + 1) ≡ 0 = omega arith in
    ap (λ (n : ℕ). all_noted next (onto (take n (drop (i + 1) d)) (dotted_parts (drop (i + 1) d)))) z
    ∙ ap (λ (t : Endings). all_noted t (dotted_parts (drop (i + 1) d))) (e ∙ ap (noted t) part)
    ∙ sym (dot_noted t (take (i - start) (drop start d)) b (drop (i + 1) d) dot)
    ∙ ap (λ (l : List ℕ). all_noted t (onto (take (i - start) (drop start d)) (dotted_parts l))) (sym (drop_item d i b lt is))

pub byte_step : (d : List ℕ) (start i b : ℕ) (t : Endings) → start ≤ i → i < length d → b ≡ get_or d i b → (b == 46) ≡ false
    → all_noted t (onto (take (i + 1 - start) (drop start d)) (dotted_parts (drop (i + 1) d))) ≡ all_noted t (onto (take (i - start) (drop start d)) (dotted_parts (drop i d)))
byte_step d start i b t low lt is byte =
    let s : i + 1 - start ≡ suc i - start = omega arith in
    ap (λ (n : ℕ). all_noted t (onto (take n (drop start d)) (dotted_parts (drop (i + 1) d)))) s
    ∙ ap (λ (w : List ℕ). all_noted t (onto w (dotted_parts (drop (i + 1) d)))) (part_more d start i b low lt is)
    ∙ sym (byte_noted t (take (i - start) (drop start d)) b (drop (i + 1) d) byte)
    ∙ ap (λ (l : List ℕ). all_noted t (onto (take (i - start) (drop start d)) (dotted_parts l))) (sym (drop_item d i b lt is))

-- the last part
pub last_step : (d : List ℕ) (start i : ℕ) (w : List ℕ) (t next whole : Endings) → length d ≤ i → w ≡ take (i - start) (drop start d) → next ≡ noted t w
    → all_noted t (onto (take (i - start) (drop start d)) (dotted_parts (drop i d))) ≡ whole → next ≡ whole
last_step d start i w t next whole high part e h =
    e ∙ ap (noted t) part
    ∙ sym (last_noted t (take (i - start) (drop start d)))
    ∙ ap (λ (l : List ℕ). all_noted t (onto (take (i - start) (drop start d)) (dotted_parts l))) (sym (drop_all i d high))
    ∙ h

any_default : (d : List ℕ) (i a b : ℕ) → i < length d → get_or d i a ≡ get_or d i b
any_default [] i a b lt = absurd (omega arith)
any_default (x ∷ d) zero a b lt = refl
any_default (x ∷ d) (suc i) a b lt = any_default d i a b (omega arith)

differs : (b n : ℕ) → (b ≡ n → ⊥) → (t : Bool) → nat_eq b n ≡ t → t ≡ false
differs b n apart true e = absurd (apart ((Decides-eqb b n).0 e))
differs b n apart false e = refl

-- as code reads the byte at a place
pub at_dot : (d : List ℕ) (start i : ℕ) (t next : Endings) → i < length d → slice_index_or d i 0 ≡ 46 → next ≡ noted t (take (i - start) (drop start d))
    → all_noted next (onto (take (i + 1 - (i + 1)) (drop (i + 1) d)) (dotted_parts (drop (i + 1) d))) ≡ all_noted t (onto (take (i - start) (drop start d)) (dotted_parts (drop i d)))
at_dot d start i t next lt dot e = dot_step d start i (get_or d i 0) (take (i - start) (drop start d)) t next lt (any_default d i 0 (get_or d i 0) lt) (ap (λ (b : ℕ). nat_eq b 46) dot) refl e

pub at_byte : (d : List ℕ) (start i : ℕ) (t : Endings) → start ≤ i → i < length d → (slice_index_or d i 0 ≡ 46 → ⊥)
    → all_noted t (onto (take (i + 1 - start) (drop start d)) (dotted_parts (drop (i + 1) d))) ≡ all_noted t (onto (take (i - start) (drop start d)) (dotted_parts (drop i d)))
at_byte d start i t low lt apart = byte_step d start i (get_or d i 0) t low lt (any_default d i 0 (get_or d i 0) lt) (differs (get_or d i 0) 46 apart (nat_eq (get_or d i 0) 46) refl)

-- ---- Tails

pub tail_here : (found : List ℕ) (b : ℕ) (bs : List ℕ) → (b == 95) ≡ true → tail_from found (b ∷ bs) ≡ tail_from (b ∷ bs) bs
tail_here found b bs e = ap (λ (c : Bool). tail_from (if c then (b ∷ bs) else found) bs) e

pub tail_before : (found : List ℕ) (b : ℕ) (bs : List ℕ) → (b == 95) ≡ false → tail_from found (b ∷ bs) ≡ tail_from found bs
tail_before found b bs e = ap (λ (c : Bool). tail_from (if c then (b ∷ bs) else found) bs) e
