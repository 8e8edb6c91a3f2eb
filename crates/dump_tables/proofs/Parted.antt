-- The parts of items.
use Rattle.std.proofs.Common.{◌≡◌, ℕ, suc, arith, ◌+◌, Bool, true, false, ◌&&◌, ◌||◌, ◌==◌, List, [], ◌∷◌, ◌++◌, take, drop, map, Option, Some, None, Bor, refl, sym, ap, ◌∙◌, if◌then◌else◌}
use Rattle.dump_items.specs.declared.item.ItemKind.{ItemKind}
use Rattle.dump_items.specs.declared.item.ItemKind.TheVariants as kinds
use Rattle.dump_items.specs.declared.item.Item.{Item}
use Rattle.dump_items.specs.Statements.{with_first}
use Rattle.dump_tables.specs.Words.{is_close, is_comma}
use Rattle.dump_tables.specs.Parts.{depth_after, parts}
use Rattle.dump_tables.specs.Parting.{part_len, behind_comma}

-- ---- Parts

-- the parts behind a part
abbrev pub others : Option (List Item) → List (List Item)
others None = []
others (Some next) = parts 0 next

abbrev pub rest_of : List Item → List (List Item)
rest_of is = others (behind_comma is)

closes : (k : ItemKind) → is_close k ≡ true → is_comma k ≡ false
closes kinds.Word e = refl
closes kinds.Quoted e = refl
closes kinds.Text e = refl
closes kinds.Open e = refl
closes kinds.Close e = refl
closes kinds.Comma e = cc
closes kinds.Dot e = refl
closes kinds.End e = refl
closes kinds.Other e = refl

longer : (i : Item) (is : List Item) (n : ℕ) (ps : List (List Item)) → ps ≡ take n is ∷ rest_of (drop n is) → with_first i ps ≡ take (1 + n) (i ∷ is) ∷ rest_of (drop (1 + n) (i ∷ is))
longer i is n ps h = let e : 1 + n ≡ suc n = omega arith in rw (e, h) refl

one_part : (i : Item) (is : List Item) (p q r : Bool) (n : ℕ) (ps : List (List Item)) → is_close i.kind ≡ q → is_comma i.kind ≡ r → ps ≡ take n is ∷ rest_of (drop n is)
    → (if p && q then [] ∷ [] else (if p && r then [] ∷ parts 0 is else with_first i ps))
    ≡ take (if p && (q || r) then 0 else 1 + n) (i ∷ is) ∷ rest_of (drop (if p && (q || r) then 0 else 1 + n) (i ∷ is))
one_part i is true true r n ps c m h = rw (closes i.kind c) refl
one_part i is true false true n ps c m h = rw m refl
one_part i is true false false n ps c m h = longer i is n ps h
one_part i is false q r n ps c m h = longer i is n ps h

pub first_part : (d : ℕ) (is : List Item) → parts d is ≡ take (part_len d is) is ∷ rest_of (drop (part_len d is) is)
unfolding parts part_len
first_part d [] = refl
first_part d (i ∷ is) = one_part i is (d == 0) (is_close i.kind) (is_comma i.kind) (part_len (depth_after d i.kind) is) (parts (depth_after d i.kind) is) refl refl (first_part (depth_after d i.kind) is)

pub this_part : (rest part after : List Item) (n : ℕ) (o : Option (List Item)) → n ≡ part_len 0 rest → part ≡ take n rest → after ≡ drop n rest → o ≡ behind_comma after
    → parts 0 rest ≡ part ∷ others o
this_part rest part after n o is_len is_part is_after comma =
    first_part 0 rest
    ∙ ap (λ (k : ℕ). take k rest ∷ rest_of (drop k rest)) (sym is_len)
    ∙ ap (λ (p : List Item). p ∷ rest_of (drop n rest)) (sym is_part)
    ∙ ap (λ (is : List Item). part ∷ rest_of is) (sym is_after)
    ∙ ap (λ (p : Option (List Item)). part ∷ others p) (sym comma)

lent_more : (done : List (Bor (List Item))) (p : Bor (List Item)) (ps : List (List Item)) → map (λ q. q.now) (done ++ p ∷ []) ++ ps ≡ map (λ q. q.now) done ++ p.now ∷ ps
lent_more [] p ps = refl
lent_more (d ∷ done) p ps = ap (λ (l : List (List Item)). d.now ∷ l) (lent_more done p ps)

lent_last : (done : List (Bor (List Item))) (p : Bor (List Item)) → map (λ q. q.now) (done ++ p ∷ []) ≡ map (λ q. q.now) done ++ p.now ∷ []
lent_last [] p = refl
lent_last (d ∷ done) p = ap (λ (l : List (List Item)). d.now ∷ l) (lent_last done p)

pub goes_on : (done all : List (Bor (List Item))) (p : Bor (List Item)) (rest next : List Item) (total : List (List Item)) → parts 0 rest ≡ p.now ∷ parts 0 next
    → all ≡ done ++ p ∷ [] → map (λ q. q.now) done ++ parts 0 rest ≡ total → map (λ q. q.now) all ++ parts 0 next ≡ total
goes_on done all p rest next total part is_all so_far =
    ap (λ (l : List (Bor (List Item))). map (λ q. q.now) l ++ parts 0 next) is_all
    ∙ lent_more done p (parts 0 next)
    ∙ ap (λ (l : List (List Item)). map (λ q. q.now) done ++ l) (sym part)
    ∙ so_far

pub ends : (done all : List (Bor (List Item))) (p : Bor (List Item)) (rest : List Item) (total : List (List Item)) → parts 0 rest ≡ p.now ∷ []
    → all ≡ done ++ p ∷ [] → map (λ q. q.now) done ++ parts 0 rest ≡ total → map (λ q. q.now) all ≡ total
ends done all p rest total part is_all so_far =
    ap (λ (l : List (Bor (List Item))). map (λ q. q.now) l) is_all
    ∙ lent_last done p
    ∙ ap (λ (l : List (List Item)). map (λ q. q.now) done ++ l) (sym part)
    ∙ so_far
