-- Dotted names are read part by part.
use Rattle.std.proofs.Common.{◌≡◌, ℕ, suc, ◌<◌, Bool, true, false, cond, List, [], ◌∷◌, ◌++◌, length, Option, Some, None, Result, Ok, Err, codes, refl, sym, ap, ◌∙◌, append_assoc, arith, inl, inr, ◌≤◌}
use Rattle.std.proofs.lemmas.List.{append-nil}
use Rattle.readers.specs.declared.fault.Fault.{Fault}
use Rattle.readers.specs.declared.fault.Fault.TheVariants.{Unexpected}
use Rattle.readers.specs.declared.fault.ReadError.{ReadError}
use Rattle.readers.specs.declared.fault.ReadError.TheVariants as errors
use Rattle.readers.specs.Reading.{◌>>=◌, Read, Fails, accepted, option_cases, made}
use Rattle.readers.proofs.Tools.{bind_ok, chosen}
use Rattle.java_lex.specs.declared.token.TokenNode.{TokenNode}
use Rattle.java_grammar.specs.Marks.{Tok}
use Rattle.java_grammar.specs.Words.{name_in}
use Rattle.java_grammar.specs.Reading.{first_is, seq_at, one_at, passing, is_sign, word_at, sign_at}
use Rattle.java_grammar.specs.ReadingPrograms.{dotted_at, behind_dot, dotted_name_at}
use Rattle.java_grammar.specs.Dotted.{part_at, dotted_part_at, dotted_from, dotted_line_at}

abbrev Text : Type 0
Text = List ℕ

abbrev None_of : Option Text
None_of = None

abbrev some : Text → Option Text
some w = Some w

abbrev ok : {A : Type 0} → A → Result A Fault
ok x = Ok x

ok_rest : {A : Type 0} (x y : A × List Tok) → ok x ≡ ok y → x.1 ≡ y.1
ok_rest {A} x y e = let q : x ≡ y = cc in ap (λ (z : A × List Tok). z.1) q

-- ---- one part

-- what stands behind a part
abbrev on : Bool → Option Text × List Tok → Read Tok Text
on star (None, us) = Ok (codes ".*", us)
on star (Some w, us) = dotted_at star us >>= λ rest. Ok (codes "." ++ (w ++ rest.0), rest.1)

abbrev name_then : Bool → Option Text → List Tok → Read Tok Text
name_then star o ts = option_cases o (Err (Unexpected (suc (length ts)))) (λ w. on star (Some w, ts))

abbrev as_some : Read Tok Text → Read Tok (Option Text)
as_some read = read >>= λ x. Ok (some x.0, x.1)

abbrev as_none : Read Tok (Unit {0}) → Read Tok (Option Text)
as_none read = read >>= λ x. Ok (None_of, x.1)

named_on : (star : Bool) (o : Option Text) (ts : List Tok) → name_then star o ts ≡ (as_some (accepted o ts) >>= on star)
named_on star None ts = refl
named_on star (Some w) ts = refl

starred_on : (b : Bool) (o : Option Text) (ts : List Tok) → cond b (ok (codes ".*", ts)) (name_then true o ts) ≡ (cond b (as_none (accepted (cond b (Some (tt {0})) None) ts)) (as_some (accepted o ts)) >>= on true)
starred_on true o ts = refl
starred_on false o ts = named_on true o ts

behind_is : (star : Bool) (ts : List Tok) → behind_dot star ts ≡ (part_at star ts >>= on star)
unfolding behind_dot part_at
behind_is false [] = refl
behind_is true [] = refl
behind_is false (t ∷ ts) = named_on false (name_in t.token.node) ts
behind_is true (t ∷ ts) = starred_on (is_sign (codes "*") t.token.node) (name_in t.token.node) ts

abbrev behind_sign : Read Tok (Option Text) → Read Tok (Unit {0} × Option Text)
behind_sign read = read >>= λ y. Ok ((tt, y.0), y.1)

abbrev second_of : Read Tok (Unit {0} × Option Text) → Read Tok (Option Text)
second_of read = read >>= λ x. Ok (x.0.1, x.1)

regroup : (star : Bool) (read : Read Tok (Option Text)) → (read >>= on star) ≡ (second_of (behind_sign read) >>= on star)
regroup star (Ok x) = refl
regroup star (Err f) = refl

pub dotted_is : (star : Bool) (ts : List Tok) → first_is (is_sign (codes ".")) ts ≡ true → dotted_at star ts ≡ (dotted_part_at star ts >>= on star)
unfolding dotted_at dotted_part_at
dotted_is star [] e = absurd cc
dotted_is star (t ∷ ts) e = rw e (behind_is star ts ∙ regroup star (part_at star ts))

pub dotted_ends : (star : Bool) (ts : List Tok) → first_is (is_sign (codes ".")) ts ≡ false → dotted_at star ts ≡ Ok ([], ts)
unfolding dotted_at
dotted_ends star [] e = refl
dotted_ends star (t ∷ ts) e = rw e refl

-- ---- behind what was read before

abbrev prefixed : Text → Read Tok Text → Read Tok Text
prefixed text read = read >>= λ x. Ok (text ++ x.0, x.1)

prefixed_on : (text w : Text) (read : Read Tok Text) → prefixed text (read >>= λ rest. Ok (codes "." ++ (w ++ rest.0), rest.1)) ≡ prefixed ((text ++ codes ".") ++ w) read
prefixed_on text w (Ok x) = ap (λ (v : Text). Ok (v, x.1)) (sym (append_assoc text (codes ".") (w ++ x.0)) ∙ sym (append_assoc (text ++ codes ".") w x.0))
prefixed_on text w (Err f) = refl

module _ (star : Bool) (text : Text) (ts : List Tok) (total : Read Tok Text) (so_far : dotted_from star text ts ≡ total) where
  pub dots_go_on : (w : Text) (us : List Tok) → first_is (is_sign (codes ".")) ts ≡ true → dotted_part_at star ts ≡ Ok (Some w, us) → dotted_from star ((text ++ codes ".") ++ w) us ≡ total
  dots_go_on w us e read = sym (prefixed_on text w (dotted_at star us)) ∙ sym (ap (prefixed text) (dotted_is star ts e ∙ ap (λ (r : Read Tok (Option Text)). r >>= on star) read)) ∙ so_far

  pub dots_star : (us : List Tok) → first_is (is_sign (codes ".")) ts ≡ true → dotted_part_at star ts ≡ Ok (None, us) → total ≡ Ok ((text ++ codes ".") ++ codes "*", us)
  dots_star us e read = sym so_far ∙ ap (prefixed text) (dotted_is star ts e ∙ ap (λ (r : Read Tok (Option Text)). r >>= on star) read) ∙ ap (λ (v : Text). Ok (v, us)) (sym (append_assoc text (codes ".") (codes "*")))

  pub dots_fail : (e : ReadError) → first_is (is_sign (codes ".")) ts ≡ true → Fails e (dotted_part_at star ts) → Fails e total
  dots_fail errors.Memory is read = tt
  dots_fail (errors.Fault f) is read = sym so_far ∙ ap (prefixed text) (dotted_is star ts is ∙ ap (λ (r : Read Tok (Option Text)). r >>= on star) read)

  pub dots_end : first_is (is_sign (codes ".")) ts ≡ false → total ≡ Ok (text, ts)
  dots_end e = sym so_far ∙ ap (prefixed text) (dotted_ends star ts e) ∙ ap (λ (v : Text). Ok (v, ts)) (append-nil text)

-- ---- a part takes tokens

pub no_dot_left : (ts : List Tok) → length ts ≤ 0 → first_is (is_sign (codes ".")) ts ≡ false
no_dot_left [] le = refl
no_dot_left (t ∷ ts) le = absurd (omega (arith, le))

one_shorter : {A : Type 0} (f : TokenNode → Option A) (ts : List Tok) (x : A) (us : List Tok) → one_at f ts ≡ Ok (x, us) → length ts ≡ suc (length us)
one_shorter f [] x us e = absurd cc
one_shorter {A} f (t ∷ ts) x us e = by (f t.token.node) e
  where
    by : (o : Option A) → accepted o ts ≡ Ok (x, us) → suc (length ts) ≡ suc (length us)
    by None h = absurd cc
    by (Some y) h = ap (λ (vs : List Tok). suc (length vs)) (ok_rest (y, ts) (x, us) h)

a_name : (ts : List Tok) (x : Option Text) (us : List Tok) → made (λ w. some w) (one_at name_in) ts ≡ Ok (x, us) → length us ≤ length ts
a_name ts x us e =
    let a = bind_ok (one_at name_in ts) (λ y. Ok (some y.0, y.1)) (x, us) e in
    omega (arith, one_shorter name_in ts a.0.0 a.0.1 a.1, ap length (ok_rest (some a.0.0, a.0.1) (x, us) a.2))

no_longer : (star : Bool) (ts : List Tok) (x : Option Text) (us : List Tok) → part_at star ts ≡ Ok (x, us) → length us ≤ length ts
unfolding part_at
no_longer false ts x us e = a_name ts x us e
no_longer true ts x us e =
    elim (chosen (first_is (is_sign (codes "*")) ts) (made (λ y. None_of) (sign_at (codes "*")) ts) (made (λ w. some w) (one_at name_in) ts) (Ok (x, us)) e) [
      | inl k ↦
          let a = bind_ok (sign_at (codes "*") ts) (λ y. Ok (None_of, y.1)) (x, us) k.1 in
          omega (arith, one_shorter (passing (is_sign (codes "*"))) ts a.0.0 a.0.1 a.1, ap length (ok_rest (None_of, a.0.1) (x, us) a.2))
      | inr k ↦ a_name ts x us k.1
    ]

-- ---- a whole line

abbrev pair : {A B : Type 0} → A → Read Tok B → Read Tok (A × B)
pair a read = read >>= λ y. Ok ((a, y.0), y.1)

abbrev to_end : Text × List Tok → Read Tok (Text × Unit {0})
to_end z = pair z.0 (sign_at (codes ";") z.1)

abbrev Line : Type 0
Line = Unit {0} × (Text × (Text × Unit {0}))

abbrev joined : Read Tok Line → Read Tok Text
joined read = read >>= λ x. Ok (x.0.1.0 ++ x.0.1.1.0, x.1)

abbrev last : Read Tok Line → Read Tok Text
last read = read >>= λ x. Ok (x.0.1.1.0, x.1)

module _ (a : Unit {0}) (b : Text) where
  closed : (c : Text) (d : Read Tok (Unit {0})) → joined (pair a (pair b (pair c d))) ≡ last (pair a (pair b (pair (b ++ c) d)))
  closed c (Ok d) = refl
  closed c (Err f) = refl

  dots : (c : Read Tok Text) → joined (pair a (pair b (c >>= to_end))) ≡ last (pair a (pair b (prefixed b c >>= to_end)))
  dots (Ok c) = closed c.0 (sign_at (codes ";") c.1)
  dots (Err f) = refl

named_line : (star : Bool) (a : Unit {0}) (b : Read Tok Text) → joined (pair a (b >>= λ y. pair y.0 (dotted_at star y.1 >>= to_end))) ≡ last (pair a (b >>= λ y. pair y.0 (prefixed y.0 (dotted_at star y.1) >>= to_end)))
named_line star a (Ok b) = dots a b.0 (dotted_at star b.1)
named_line star a (Err f) = refl

word_line : (star : Bool) (a : Read Tok (Unit {0})) → joined (a >>= λ x. pair x.0 (one_at name_in x.1 >>= λ y. pair y.0 (dotted_at star y.1 >>= to_end))) ≡ last (a >>= λ x. pair x.0 (one_at name_in x.1 >>= λ y. pair y.0 (prefixed y.0 (dotted_at star y.1) >>= to_end)))
word_line star (Ok a) = named_line star a.0 (one_at name_in a.1)
word_line star (Err f) = refl

pub same_line : (word : List ℕ) (star : Bool) (ts : List Tok) → dotted_name_at word star ts ≡ dotted_line_at word star ts
unfolding dotted_name_at dotted_line_at
same_line word star ts = word_line star (word_at word ts)

-- ---- so many tokens are left

pub part_shorter : (star : Bool) (ts : List Tok) (x : Option Text) (us : List Tok) → dotted_part_at star ts ≡ Ok (x, us) → length us < length ts
unfolding dotted_part_at part_at
part_shorter star ts x us e =
    let a = bind_ok (seq_at (sign_at (codes ".")) (part_at star) ts) (λ y. Ok (y.0.1, y.1)) (x, us) e in
    let b = bind_ok (sign_at (codes ".") ts) (λ y. part_at star y.1 >>= λ z. Ok ((y.0, z.0), z.1)) a.0 a.1 in
    let one = one_shorter (passing (is_sign (codes "."))) ts b.0.0 b.0.1 b.1 in
    let c = bind_ok (part_at star b.0.1) (λ z. Ok ((b.0.0, z.0), z.1)) a.0 b.2 in
    let two = no_longer star b.0.1 c.0.0 c.0.1 c.1 in
    let p : c.0.1 ≡ a.0.1 = ok_rest ((b.0.0, c.0.0), c.0.1) a.0 c.2 in
    let q : a.0.1 ≡ us = ok_rest (a.0.0.1, a.0.1) (x, us) a.2 in
    omega (arith, one, two, ap length (p ∙ q))
