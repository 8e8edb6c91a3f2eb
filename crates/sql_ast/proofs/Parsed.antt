-- What is read from tokens they have by the grammar: columns, operands, FROM items and conditions.
use Rattle.std.proofs.Common.{◌≡◌, ℕ, zero, suc, Bool, true, false, cond, List, [], ◌∷◌, ◌++◌, length, codes, Option, Some, None, ℤ, pos, refl, sym, ap, ◌∙◌, subst, append_assoc, ◌⊎◌, inl, inr}
use Rattle.std.specs.Str.{str_eq_ignore_ascii_case, bytes_eq}
use Rattle.std.specs.Str.Parse.{digits_value}
use Rattle.std.proofs.lemmas.Slice.Eq.{bytes_eq-Decides}
use Rattle.qbs_base.specs.declared.scalar.Scalar.TheVariants as scalars
use Rattle.qbs_base.specs.Values.{fits_long}
use Rattle.sql_ast.specs.Grammar.{Is, spelled, HasCol, plain_col, dotted_col, HasLong, positive_long, negative_long, negated, HasOpnd, col_opnd, long_opnd, text_opnd, true_opnd, false_opnd, param_opnd, HasPart, plain_part, alias_part, as_part, HasParts, last_part, more_parts, HasIn, is_in, not_in}
use Rattle.sql_ast.specs.Names.{◌>>=◌}
use Rattle.sql_ast.specs.Reader.{Read, given, is_word, after_word, after_open, after_close, after_comma, after_one, name_at, col_from, col_at, long_of, long_at, word_opnd, opnd_at, part_from, part_at, listed_at, parts_at, in_at}
use Rattle.sql_ast.specs.Tokens.{Token, Word, Digits, Negative, Quoted, Param, Open, Close, Comma, Dot, is_free}
use Rattle.sql_ast.specs.Written.{WrittenCol, WrittenPart, WrittenOpnd, WrittenCondition, WrittenFilter}
use Rattle.sql_ast.specs.Written as written
use Rattle.sql_ast.proofs.Tools.{some_is, bind_some, passed}

-- what was read stands at the front
pub record Takes {A : Type 0} (Has : List Token → A → Type 0) (ts : List Token) (x : A × List Token) : Type 0 where
  pub front : List Token
  pub parts : ts ≡ front ++ x.1
  pub has : Has front x.0

abbrev pub Finds : {A : Type 0} → (List Token → A → Type 0) → (List Token → Read A) → Type 0
Finds Has read = (ts : List Token) (x : _) → read ts ≡ Some x → Takes Has ts x

abbrev pub taken : {A : Type 0} → A → List Token → Read A
taken x rest = Some (x, rest)

-- a value that was given, or none
pub given_some : {A B : Type 0} (o : Option A) (s : A → B) (n y : B) → given o s n ≡ y → ((x : A) × (o ≡ Some x) × (s x ≡ y)) ⊎ ((o ≡ None) × (n ≡ y))
given_some (Some x) s n y e = inl (x, refl, e)
given_some None s n y e = inr (refl, e)

pub word_found : (k : List ℕ) (ts rest : List Token) → after_word k ts ≡ Some rest → (t : Token) × (ts ≡ t ∷ rest) × Is k t
word_found k [] rest e = absurd cc
word_found k (t ∷ ts) rest e =
    let p = passed (is_word k t) (let o : Option (List Token) = Some ts in o) rest e in
    (t, ap (λ (us : List Token). t ∷ us) (some_is ts rest p.1), is_from t p.0)
  where
    is_from : (t : Token) → is_word k t ≡ true → Is k t
    is_from (Word w) h = spelled h
    is_from t h = absurd cc

pub is_of_word : (k : List ℕ) (t : Token) → is_word k t ≡ true → Is k t
is_of_word k (Word w) h = spelled h
is_of_word k t h = absurd cc

pub open_found : (ts rest : List Token) → after_open ts ≡ Some rest → ts ≡ Open ∷ rest
open_found [] rest e = absurd cc
open_found (Open ∷ ts) rest e = ap (λ (us : List Token). Open ∷ us) (some_is ts rest e)
open_found (t ∷ ts) rest e = absurd cc

pub close_found : (ts rest : List Token) → after_close ts ≡ Some rest → ts ≡ Close ∷ rest
close_found [] rest e = absurd cc
close_found (Close ∷ ts) rest e = ap (λ (us : List Token). Close ∷ us) (some_is ts rest e)
close_found (t ∷ ts) rest e = absurd cc

pub comma_found : (ts rest : List Token) → after_comma ts ≡ Some rest → ts ≡ Comma ∷ rest
comma_found [] rest e = absurd cc
comma_found (Comma ∷ ts) rest e = ap (λ (us : List Token). Comma ∷ us) (some_is ts rest e)
comma_found (t ∷ ts) rest e = absurd cc

pub one_found : (ts rest : List Token) → after_one ts ≡ Some rest → ts ≡ Digits (codes "1") ∷ rest
one_found [] rest e = absurd cc
one_found (Digits bs ∷ ts) rest e =
    let p = passed (bytes_eq bs (codes "1")) (let o : Option (List Token) = Some ts in o) rest e in
    ap (λ (w : List ℕ). Digits w ∷ ts) ((bytes_eq-Decides bs (codes "1")).0 p.0) ∙ ap (λ (us : List Token). Digits (codes "1") ∷ us) (some_is ts rest p.1)
one_found (t ∷ ts) rest e = absurd cc

-- ---- columns, operands and FROM items

abbrev Named : Type 0
Named = List ℕ × List Token

name_found : (ts : List Token) (x : Named) → name_at ts ≡ Some x → (ts ≡ Word x.0 ∷ x.1) × (is_free x.0 ≡ true)
name_found [] x e = absurd cc
name_found (Word w ∷ ts) x e =
    let p = passed (is_free w) (let o : Option Named = Some (w, ts) in o) x e in
    subst (λ (y : Named). (Word w ∷ ts ≡ Word y.0 ∷ y.1) × (is_free y.0 ≡ true)) (some_is (let y : Named = (w, ts) in y) x p.1) (refl, p.0)
name_found (t ∷ ts) x e = absurd cc

abbrev Col : Type 0
Col = WrittenCol × List Token

col_from_found : (first : List ℕ) (ts : List Token) → is_free first ≡ true → (x : Col) → col_from first ts ≡ Some x → Takes HasCol (Word first ∷ ts) x
col_from_found first [] f x e = subst (Takes HasCol (Word first ∷ [])) (some_is (let y : Col = (record { alias = None; name = first }, []) in y) x e) (record { front = Word first ∷ []; parts = refl; has = plain_col f })
col_from_found first (Dot ∷ ts) f x e =
    let a = bind_some (name_at ts) (λ y. (let o : Option Col = Some (record { alias = Some first; name = y.0 }, y.1) in o)) x e in
    let n = name_found ts a.0 a.1 in
    subst (Takes HasCol (Word first ∷ Dot ∷ ts)) (some_is (let y : Col = (record { alias = Some first; name = a.0.0 }, a.0.1) in y) x a.2)
    (record { front = Word first ∷ Dot ∷ Word a.0.0 ∷ []; parts = ap (λ (us : List Token). Word first ∷ Dot ∷ us) n.0; has = dotted_col f n.1 })
col_from_found first (t ∷ ts) f x e = subst (Takes HasCol (Word first ∷ t ∷ ts)) (some_is (let y : Col = (record { alias = None; name = first }, t ∷ ts) in y) x e) (record { front = Word first ∷ []; parts = refl; has = plain_col f })

pub col_found : Finds HasCol col_at
col_found ts x e =
    let a = bind_some (name_at ts) (λ y. col_from y.0 y.1) x e in
    let n = name_found ts a.0 a.1 in
    subst (λ (us : List Token). Takes HasCol us x) (sym n.0) (col_from_found a.0.0 a.0.1 n.1 x a.2)

abbrev Long : Type 0
Long = ℤ × List Token

pub long_found : (ts : List Token) (x : Long) → long_at ts ≡ Some x → (t : Token) × (ts ≡ t ∷ x.1) × HasLong t x.0
long_found [] x e = absurd cc
long_found (t ∷ ts) x e =
    let a = bind_some (long_of t) (λ n. (let o : Option Long = Some (n, ts) in o)) x e in
    subst (λ (y : Long). (u : Token) × (t ∷ ts ≡ u ∷ y.1) × HasLong u y.0) (some_is (let y : Long = (a.0, ts) in y) x a.2) (t, refl, is_long t a.0 a.1)
  where
    is_long : (t : Token) (n : ℤ) → long_of t ≡ Some n → HasLong t n
    is_long (Digits bs) n e = let p = passed (fits_long (pos (digits_value 10 bs))) (let o : Option ℤ = Some (pos (digits_value 10 bs)) in o) n e in subst (HasLong (Digits bs)) (some_is (pos (digits_value 10 bs)) n p.1) (positive_long p.0)
    is_long (Negative bs) n e = let p = passed (fits_long (negated (digits_value 10 bs))) (let o : Option ℤ = Some (negated (digits_value 10 bs)) in o) n e in subst (HasLong (Negative bs)) (some_is (negated (digits_value 10 bs)) n p.1) (negative_long p.0)
    is_long t n e = absurd cc

abbrev Opnd : Type 0
Opnd = WrittenOpnd × List Token

word_opnd_found : (w : List ℕ) (ts : List Token) (x : Opnd) → word_opnd w ts ≡ Some x → Takes HasOpnd (Word w ∷ ts) x
word_opnd_found w ts x e = go (str_eq_ignore_ascii_case w (codes "TRUE")) refl e
  where
    cols : (v : Bool) → str_eq_ignore_ascii_case w (codes "FALSE") ≡ v → cond v (let o : Option Opnd = Some (written.Lit (scalars.Bool false), ts) in o) (col_at (Word w ∷ ts) >>= λ y. (let o : Option Opnd = Some (written.Column y.0, y.1) in o)) ≡ Some x → Takes HasOpnd (Word w ∷ ts) x
    cols true h e = subst (Takes HasOpnd (Word w ∷ ts)) (some_is (let y : Opnd = (written.Lit (scalars.Bool false), ts) in y) x e) (record { front = Word w ∷ []; parts = refl; has = false_opnd (spelled h) })
    cols false h e =
        let a = bind_some (col_at (Word w ∷ ts)) (λ y. (let o : Option Opnd = Some (written.Column y.0, y.1) in o)) x e in
        let c = col_found (Word w ∷ ts) a.0 a.1 in
        subst (Takes HasOpnd (Word w ∷ ts)) (some_is (let y : Opnd = (written.Column a.0.0, a.0.1) in y) x a.2) (record { front = c.front; parts = c.parts; has = col_opnd c.has })

    go : (v : Bool) → str_eq_ignore_ascii_case w (codes "TRUE") ≡ v → cond v (let o : Option Opnd = Some (written.Lit (scalars.Bool true), ts) in o) (cond (str_eq_ignore_ascii_case w (codes "FALSE")) (let o : Option Opnd = Some (written.Lit (scalars.Bool false), ts) in o) (col_at (Word w ∷ ts) >>= λ y. (let o : Option Opnd = Some (written.Column y.0, y.1) in o))) ≡ Some x → Takes HasOpnd (Word w ∷ ts) x
    go true h e = subst (Takes HasOpnd (Word w ∷ ts)) (some_is (let y : Opnd = (written.Lit (scalars.Bool true), ts) in y) x e) (record { front = Word w ∷ []; parts = refl; has = true_opnd (spelled h) })
    go false h e = cols (str_eq_ignore_ascii_case w (codes "FALSE")) refl e

long_opnd_found : (ts : List Token) (x : Opnd) → (long_at ts >>= λ y. (let o : Option Opnd = Some (written.Lit (scalars.Long y.0), y.1) in o)) ≡ Some x → Takes HasOpnd ts x
long_opnd_found ts x e =
    let a = bind_some (long_at ts) (λ y. (let o : Option Opnd = Some (written.Lit (scalars.Long y.0), y.1) in o)) x e in
    let l = long_found ts a.0 a.1 in
    subst (Takes HasOpnd ts) (some_is (let y : Opnd = (written.Lit (scalars.Long a.0.0), a.0.1) in y) x a.2) (record { front = l.0 ∷ []; parts = l.1; has = long_opnd l.2 })

pub opnd_found : Finds HasOpnd opnd_at
opnd_found [] x e = absurd cc
opnd_found (Word w ∷ ts) x e = word_opnd_found w ts x e
opnd_found (Quoted text ∷ ts) x e = subst (Takes HasOpnd (Quoted text ∷ ts)) (some_is (let y : Opnd = (written.Lit (scalars.Text text), ts) in y) x e) (record { front = Quoted text ∷ []; parts = refl; has = text_opnd })
opnd_found (Param n ∷ ts) x e = subst (Takes HasOpnd (Param n ∷ ts)) (some_is (let y : Opnd = (written.Param n, ts) in y) x e) (record { front = Param n ∷ []; parts = refl; has = param_opnd })
opnd_found (t ∷ ts) x e = long_opnd_found (t ∷ ts) x e

abbrev Part : Type 0
Part = WrittenPart × List Token

part_from_found : (table : List ℕ) (ts : List Token) → is_free table ≡ true → (x : Part) → part_from table ts ≡ Some x → Takes HasPart (Word table ∷ ts) x
part_from_found table [] f x e = subst (Takes HasPart (Word table ∷ [])) (some_is (let y : Part = (record { table = table; alias = None }, []) in y) x e) (record { front = Word table ∷ []; parts = refl; has = plain_part f })
part_from_found table (Word w ∷ ts) f x e = go (str_eq_ignore_ascii_case w (codes "AS")) refl e
  where
    other : (v : Bool) → is_free w ≡ v → cond v (let o : Option Part = Some (record { table = table; alias = Some w }, ts) in o) (Some (record { table = table; alias = None }, Word w ∷ ts)) ≡ Some x → Takes HasPart (Word table ∷ Word w ∷ ts) x
    other true h e = subst (Takes HasPart (Word table ∷ Word w ∷ ts)) (some_is (let y : Part = (record { table = table; alias = Some w }, ts) in y) x e) (record { front = Word table ∷ Word w ∷ []; parts = refl; has = alias_part f h })
    other false h e = subst (Takes HasPart (Word table ∷ Word w ∷ ts)) (some_is (let y : Part = (record { table = table; alias = None }, Word w ∷ ts) in y) x e) (record { front = Word table ∷ []; parts = refl; has = plain_part f })

    go : (v : Bool) → str_eq_ignore_ascii_case w (codes "AS") ≡ v → cond v (name_at ts >>= λ y. (let o : Option Part = Some (record { table = table; alias = Some y.0 }, y.1) in o)) (cond (is_free w) (Some (record { table = table; alias = Some w }, ts)) (Some (record { table = table; alias = None }, Word w ∷ ts))) ≡ Some x → Takes HasPart (Word table ∷ Word w ∷ ts) x
    go true h e =
        let a = bind_some (name_at ts) (λ y. (let o : Option Part = Some (record { table = table; alias = Some y.0 }, y.1) in o)) x e in
        let n = name_found ts a.0 a.1 in
        subst (Takes HasPart (Word table ∷ Word w ∷ ts)) (some_is (let y : Part = (record { table = table; alias = Some a.0.0 }, a.0.1) in y) x a.2)
        (record { front = Word table ∷ Word w ∷ Word a.0.0 ∷ []; parts = ap (λ (us : List Token). Word table ∷ Word w ∷ us) n.0; has = as_part f (spelled h) n.1 })
    go false h e = other (is_free w) refl e
part_from_found table (t ∷ ts) f x e = subst (Takes HasPart (Word table ∷ t ∷ ts)) (some_is (let y : Part = (record { table = table; alias = None }, t ∷ ts) in y) x e) (record { front = Word table ∷ []; parts = refl; has = plain_part f })

part_found : Finds HasPart part_at
part_found ts x e =
    let a = bind_some (name_at ts) (λ y. part_from y.0 y.1) x e in
    let n = name_found ts a.0 a.1 in
    subst (λ (us : List Token). Takes HasPart us x) (sym n.0) (part_from_found a.0.0 a.0.1 n.1 x a.2)

-- a list of things by a relation that has one, and one before a comma and more
pub listed_found : {A : Type 0} (Has : List Token → A → Type 0) (All : List Token → List A → Type 0) (item : List Token → Read A) → Finds Has item → ((us : List Token) (x : A) → Has us x → All us (x ∷ [])) → ((us vs : List Token) (x : A) (xs : List A) → Has us x → All vs xs → All (us ++ Comma ∷ vs) (x ∷ xs)) → (n : ℕ) → Finds All (listed_at item n)
unfolding listed_at
listed_found Has All item found last more zero ts x e = absurd cc
listed_found {A} Has All item found last more (suc n) ts x e =
    let a = bind_some (item ts) (λ y. given (after_comma y.1) (λ rest. listed_at item n rest >>= λ ys. (let o : Read (List A) = Some (y.0 ∷ ys.0, ys.1) in o)) (Some (y.0 ∷ [], y.1))) x e in
    let f = found ts a.0 a.1 in
    elim (given_some (after_comma a.0.1) (λ rest. listed_at item n rest >>= λ ys. (let o : Read (List A) = Some (a.0.0 ∷ ys.0, ys.1) in o)) (Some (a.0.0 ∷ [], a.0.1)) (Some x) a.2) [
      | inl c ↦ (let d = bind_some (listed_at item n c.0) (λ ys. (let o : Read (List A) = Some (a.0.0 ∷ ys.0, ys.1) in o)) x c.2 in
          let g = listed_found Has All item found last more n c.0 d.0 d.1 in
          subst (Takes All ts) (some_is (let y : List A × List Token = (a.0.0 ∷ d.0.0, d.0.1) in y) x d.2)
          (record {
            front = f.front ++ Comma ∷ g.front;
            parts = f.parts ∙ ap (λ (us : List Token). f.front ++ us) (comma_found a.0.1 c.0 c.1) ∙ ap (λ (us : List Token). f.front ++ (Comma ∷ us)) g.parts ∙ sym (append_assoc f.front (Comma ∷ g.front) d.0.1);
            has = more f.front g.front a.0.0 d.0.0 f.has g.has;
          }))
      | inr c ↦ subst (Takes All ts) (some_is (let y : List A × List Token = (a.0.0 ∷ [], a.0.1) in y) x c.1) (record { front = f.front; parts = f.parts; has = last f.front a.0.0 f.has })
    ]

pub parts_found : Finds HasParts parts_at
parts_found ts x e = listed_found HasPart HasParts part_at part_found (λ us x h. last_part h) (λ us vs x xs h k. more_parts h k) (length ts) ts x e

abbrev Ins : Type 0
Ins = Bool × List Token

pub in_found : Finds HasIn in_at
in_found [] x e = absurd cc
in_found (t ∷ ts) x e = go (is_word (codes "IN") t) refl e
  where
    outside : (v : Bool) → is_word (codes "NOT") t ≡ v → cond v (after_word (codes "IN") ts >>= λ us. (let o : Option Ins = Some (true, us) in o)) None ≡ Some x → Takes HasIn (t ∷ ts) x
    outside true h e =
        let a = bind_some (after_word (codes "IN") ts) (λ us. (let o : Option Ins = Some (true, us) in o)) x e in
        let w = word_found (codes "IN") ts a.0 a.1 in
        subst (Takes HasIn (t ∷ ts)) (some_is (let y : Ins = (true, a.0) in y) x a.2) (record { front = t ∷ w.0 ∷ []; parts = ap (λ (us : List Token). t ∷ us) w.1; has = not_in (is_of_word (codes "NOT") t h) w.2 })
    outside false h e = absurd cc

    go : (v : Bool) → is_word (codes "IN") t ≡ v → cond v (let o : Option Ins = Some (false, ts) in o) (cond (is_word (codes "NOT") t) (after_word (codes "IN") ts >>= λ us. (let o : Option Ins = Some (true, us) in o)) None) ≡ Some x → Takes HasIn (t ∷ ts) x
    go true h e = subst (Takes HasIn (t ∷ ts)) (some_is (let y : Ins = (false, ts) in y) x e) (record { front = t ∷ []; parts = refl; has = is_in (is_of_word (codes "IN") t h) })
    go false h e = outside (is_word (codes "NOT") t) refl e
