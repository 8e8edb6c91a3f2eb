-- What is read from tokens they have by the grammar: queries.
use Rattle.std.proofs.Common.{◌≡◌, ℕ, suc, Bool, true, false, cond, List, [], ◌∷◌, ◌++◌, length, codes, Option, Some, None, ℤ, pos, refl, sym, ap, ◌∙◌, subst, append_assoc, inl, inr}
use Rattle.std.proofs.lemmas.List.{append-nil}
use Rattle.std.specs.Str.Parse.{digits_value}
use Rattle.qbs_base.specs.Values.{fits_long}
use Rattle.sql_ast.specs.Grammar.{Is, HasCol, HasLong, HasItem, whole, whole_of, col_item, HasGroup, no_group, group_by, HasKey, up, ascending, descending, least_key, HasKeys, last_key, more_keys, HasOrder, no_order, order_by, HasLimit, no_limit, limited, greatest, least, HasCounted, count, sum, best, HasExists, is_some, is_none, HasSource, HasWritten, listing, number, truth}
use Rattle.sql_ast.specs.Names.{◌>>=◌}
use Rattle.sql_ast.specs.Reader.{Read, given, is_word, after_word, after_close, after_comma, after_star, col_at, long_at, listed_at, source_at, enclosed_at, one_at, item_at, group_at, direction_at, least_at, key_at, order_at, most_at, limit_at, listing_at, is_single, counted_from, count_at, total_named, total_from, total_at, exists_at, number_at, selected_at, query_at, ended, query_in, condition_at}
use Rattle.sql_ast.specs.Tokens.{Token, Word, Digits, Open, Close, Comma, Dot, Star, is_free}
use Rattle.sql_ast.specs.Written.{WrittenCol, WrittenPart, WrittenFilter, WrittenItem, WrittenKey, WrittenKind, WrittenListing, WrittenNumber, WrittenTruth, WrittenQuery}
use Rattle.sql_ast.specs.Written as written
use Rattle.sql_ast.proofs.Parsed.{Takes, Finds, given_some, word_found, is_of_word, close_found, comma_found, col_found, long_found, listed_found}
use Rattle.sql_ast.proofs.ParsedConditions.{Conditions, Sourced, HasSourced, enclosed_found, source_found, HasOne, selects, one_read, condition_found}
use Rattle.sql_ast.specs.Grammar.{HasCondition}
use Rattle.sql_ast.proofs.Tools.{some_is, bind_some, passed}

-- ---- the parts of a list query

abbrev Item : Type 0
Item = WrittenItem × List Token

col_item_read : (ts : List Token) (x : Item) → (col_at ts >>= λ y. (let o : Option Item = Some (written.Column y.0, y.1) in o)) ≡ Some x → Takes HasItem ts x
col_item_read ts x e =
    let a = bind_some (col_at ts) (λ y. (let o : Option Item = Some (written.Column y.0, y.1) in o)) x e in
    let c = col_found ts a.0 a.1 in
    subst (Takes HasItem ts) (some_is (let y : Item = (written.Column a.0.0, a.0.1) in y) x a.2) (record { front = c.front; parts = c.parts; has = col_item c.has })

item_read : Finds HasItem item_at
item_read [] x e = absurd cc
item_read (Star ∷ ts) x e = subst (Takes HasItem (Star ∷ ts)) (some_is (let y : Item = (written.Whole None, ts) in y) x e) (record { front = Star ∷ []; parts = refl; has = whole })
item_read (Word a ∷ Dot ∷ Star ∷ ts) x e =
    let p = passed (is_free a) (let o : Option Item = Some (written.Whole (Some a), ts) in o) x e in
    subst (Takes HasItem (Word a ∷ Dot ∷ Star ∷ ts)) (some_is (let y : Item = (written.Whole (Some a), ts) in y) x p.1) (record { front = Word a ∷ Dot ∷ Star ∷ []; parts = refl; has = whole_of p.0 })
item_read (t ∷ ts) x e = col_item_read (t ∷ ts) x e

abbrev Group : Type 0
Group = Option WrittenCol × List Token

group_read : Finds HasGroup group_at
group_read ts x e =
    elim (given_some (after_word (codes "GROUP") ts) (λ us. after_word (codes "BY") us >>= λ vs. col_at vs >>= λ y. (let o : Option Group = Some (Some y.0, y.1) in o)) (Some (None, ts)) (Some x) e) [
      | inl c ↦ (let g = word_found (codes "GROUP") ts c.0 c.1 in
          let a = bind_some (after_word (codes "BY") c.0) (λ vs. col_at vs >>= λ y. (let o : Option Group = Some (Some y.0, y.1) in o)) x c.2 in
          let b = word_found (codes "BY") c.0 a.0 a.1 in
          let d = bind_some (col_at a.0) (λ y. (let o : Option Group = Some (Some y.0, y.1) in o)) x a.2 in
          let f = col_found a.0 d.0 d.1 in
          subst (Takes HasGroup ts) (some_is (let y : Group = (Some d.0.0, d.0.1) in y) x d.2)
          (record { front = g.0 ∷ b.0 ∷ f.front; parts = g.1 ∙ ap (λ (us : List Token). g.0 ∷ us) b.1 ∙ ap (λ (us : List Token). g.0 ∷ b.0 ∷ us) f.parts; has = group_by g.2 b.2 f.has }))
      | inr c ↦ subst (Takes HasGroup ts) (some_is (let y : Group = (None, ts) in y) x c.1) (record { front = []; parts = refl; has = no_group })
    ]

abbrev Key : Type 0
Key = WrittenKey × List Token

abbrev key_of : Bool → WrittenCol → Bool → WrittenKey
key_of l col d = record { least = l; col = col; down = d }

direction_read : (col : WrittenCol) (ts us rest : List Token) (x : Key) → HasCol us col → ts ≡ us ++ rest → direction_at col rest ≡ Some x → Takes HasKey ts x
direction_read col ts us rest x h parts e =
    elim (given_some (after_word (codes "ASC") rest) (λ vs. (let o : Option Key = Some (key_of false col false, vs) in o)) (given (after_word (codes "DESC") rest) (λ vs. (let o : Option Key = Some (key_of false col true, vs) in o)) (Some (key_of false col false, rest))) (Some x) e) [
      | inl c ↦ (let w = word_found (codes "ASC") rest c.0 c.1 in
          subst (Takes HasKey ts) (some_is (let y : Key = (key_of false col false, c.0) in y) x c.2) (record { front = us ++ w.0 ∷ []; parts = parts ∙ ap (λ (vs : List Token). us ++ vs) w.1 ∙ sym (append_assoc us (w.0 ∷ []) c.0); has = ascending h w.2 }))
      | inr c ↦ elim (given_some (after_word (codes "DESC") rest) (λ vs. (let o : Option Key = Some (key_of false col true, vs) in o)) (Some (key_of false col false, rest)) (Some x) c.1) [
        | inl d ↦ (let w = word_found (codes "DESC") rest d.0 d.1 in
            subst (Takes HasKey ts) (some_is (let y : Key = (key_of false col true, d.0) in y) x d.2) (record { front = us ++ w.0 ∷ []; parts = parts ∙ ap (λ (vs : List Token). us ++ vs) w.1 ∙ sym (append_assoc us (w.0 ∷ []) d.0); has = descending h w.2 }))
        | inr d ↦ subst (Takes HasKey ts) (some_is (let y : Key = (key_of false col false, rest) in y) x d.1) (record { front = us; parts = parts; has = up h })
      ]
    ]

least_found : (ts rest : List Token) → least_at ts ≡ Some rest → (t : Token) × (ts ≡ t ∷ Open ∷ rest) × Is (codes "MIN") t
least_found [] rest e = absurd cc
least_found (t ∷ []) rest e = absurd cc
least_found (t ∷ Open ∷ ts) rest e = let p = passed (is_word (codes "MIN") t) (let o : Option (List Token) = Some ts in o) rest e in (t, ap (λ (us : List Token). t ∷ Open ∷ us) (some_is ts rest p.1), is_of_word (codes "MIN") t p.0)
least_found (t ∷ u ∷ ts) rest e = absurd cc

key_read : Finds HasKey key_at
key_read ts x e =
    elim (given_some (least_at ts) (λ us. col_at us >>= λ y. after_close y.1 >>= λ vs. (let o : Option Key = Some (key_of true y.0 false, vs) in o)) (col_at ts >>= λ y. direction_at y.0 y.1) (Some x) e) [
      | inl c ↦ (let l = least_found ts c.0 c.1 in
          let a = bind_some (col_at c.0) (λ y. after_close y.1 >>= λ vs. (let o : Option Key = Some (key_of true y.0 false, vs) in o)) x c.2 in
          let f = col_found c.0 a.0 a.1 in
          let b = bind_some (after_close a.0.1) (λ vs. (let o : Option Key = Some (key_of true a.0.0 false, vs) in o)) x a.2 in
          subst (Takes HasKey ts) (some_is (let y : Key = (key_of true a.0.0 false, b.0) in y) x b.2)
          (record { front = l.0 ∷ Open ∷ f.front ++ Close ∷ []; parts = l.1 ∙ ap (λ (us : List Token). l.0 ∷ Open ∷ us) (f.parts ∙ ap (λ (us : List Token). f.front ++ us) (close_found a.0.1 b.0 b.1) ∙ sym (append_assoc f.front (Close ∷ []) b.0)); has = least_key l.2 f.has }))
      | inr c ↦ (let a = bind_some (col_at ts) (λ y. direction_at y.0 y.1) x c.1 in
          let f = col_found ts a.0 a.1 in
          direction_read a.0.0 ts f.front a.0.1 x f.has f.parts a.2)
    ]

abbrev Keys : Type 0
Keys = List WrittenKey × List Token

order_read : Finds HasOrder order_at
order_read ts x e =
    elim (given_some (after_word (codes "ORDER") ts) (λ us. after_word (codes "BY") us >>= λ vs. listed_at key_at (length vs) vs) (Some ([], ts)) (Some x) e) [
      | inl c ↦ (let o = word_found (codes "ORDER") ts c.0 c.1 in
          let a = bind_some (after_word (codes "BY") c.0) (λ vs. listed_at key_at (length vs) vs) x c.2 in
          let b = word_found (codes "BY") c.0 a.0 a.1 in
          let f = listed_found HasKey HasKeys key_at key_read (λ us y h. last_key h) (λ us vs y ys h k. more_keys h k) (length a.0) a.0 x a.2 in
          record { front = o.0 ∷ b.0 ∷ f.front; parts = o.1 ∙ ap (λ (us : List Token). o.0 ∷ us) b.1 ∙ ap (λ (us : List Token). o.0 ∷ b.0 ∷ us) f.parts; has = order_by o.2 b.2 f.has })
      | inr c ↦ subst (Takes HasOrder ts) (some_is (let y : Keys = ([], ts) in y) x c.1) (record { front = []; parts = refl; has = no_order })
    ]

abbrev Limit : Type 0
Limit = Option ℕ × List Token

most_read : (l : Token) → Is (codes "LIMIT") l → (ts : List Token) (x : Limit) → most_at ts ≡ Some x → Takes HasLimit (l ∷ ts) x
most_read l h [] x e = absurd cc
most_read l h (Digits bs ∷ ts) x e =
    let p = passed (fits_long (pos (digits_value 10 bs))) (let o : Option Limit = Some (Some (digits_value 10 bs), ts) in o) x e in
    subst (Takes HasLimit (l ∷ Digits bs ∷ ts)) (some_is (let y : Limit = (Some (digits_value 10 bs), ts) in y) x p.1) (record { front = l ∷ Digits bs ∷ []; parts = refl; has = limited h p.0 })
most_read l h (t ∷ ts) x e = absurd cc

limit_read : Finds HasLimit limit_at
limit_read ts x e =
    elim (given_some (after_word (codes "LIMIT") ts) most_at (Some (None, ts)) (Some x) e) [
      | inl c ↦ (let l = word_found (codes "LIMIT") ts c.0 c.1 in subst (λ (us : List Token). Takes HasLimit us x) (sym l.1) (most_read l.0 l.2 c.0 x c.2))
      | inr c ↦ subst (Takes HasLimit ts) (some_is (let y : Limit = (None, ts) in y) x c.1) (record { front = []; parts = refl; has = no_limit })
    ]

-- ---- queries after SELECT

abbrev Query : Type 0
Query = WrittenQuery × List Token

-- the tokens after SELECT
abbrev HasSelected : List Token → WrittenQuery → Type 0
HasSelected ts q = (s : Token) → Is (codes "SELECT") s → HasWritten (s ∷ ts) q

abbrev listing_of : WrittenItem → Sourced → Option WrittenCol → List WrittenKey → Option ℕ → WrittenQuery
listing_of item s group keys limit = written.Listing (record { item = item; from = s.0; filter = s.1; group = group; keys = keys; limit = limit })

joined_five : (a b c d e rest ts bs cs ds es : List Token) → ts ≡ a ++ bs → bs ≡ b ++ cs → cs ≡ c ++ ds → ds ≡ d ++ es → es ≡ e ++ rest → ts ≡ (a ++ (b ++ (c ++ (d ++ e)))) ++ rest
joined_five a b c d e rest ts bs cs ds es p q r s t =
    p ∙ ap (λ (us : List Token). a ++ us) (q ∙ ap (λ (us : List Token). b ++ us) (r ∙ ap (λ (us : List Token). c ++ us) (s ∙ ap (λ (us : List Token). d ++ us) t)))
    ∙ together
  where
    together : a ++ (b ++ (c ++ (d ++ (e ++ rest)))) ≡ (a ++ (b ++ (c ++ (d ++ e)))) ++ rest
    together = simp append_assoc refl

listing_found : (g : Conditions) → Finds HasCondition g → Finds HasSelected (listing_at g)
listing_found g found ts x e =
    let a = bind_some (item_at ts) (λ a. source_at g a.1 >>= λ b. group_at b.1 >>= λ c. order_at c.1 >>= λ d. limit_at d.1 >>= λ e. (let o : Option Query = Some (listing_of a.0 b.0 c.0 d.0 e.0, e.1) in o)) x e in
    let b = bind_some (source_at g a.0.1) (λ b. group_at b.1 >>= λ c. order_at c.1 >>= λ d. limit_at d.1 >>= λ e. (let o : Option Query = Some (listing_of a.0.0 b.0 c.0 d.0 e.0, e.1) in o)) x a.2 in
    let c = bind_some (group_at b.0.1) (λ c. order_at c.1 >>= λ d. limit_at d.1 >>= λ e. (let o : Option Query = Some (listing_of a.0.0 b.0.0 c.0 d.0 e.0, e.1) in o)) x b.2 in
    let d = bind_some (order_at c.0.1) (λ d. limit_at d.1 >>= λ e. (let o : Option Query = Some (listing_of a.0.0 b.0.0 c.0.0 d.0 e.0, e.1) in o)) x c.2 in
    let f = bind_some (limit_at d.0.1) (λ e. (let o : Option Query = Some (listing_of a.0.0 b.0.0 c.0.0 d.0.0 e.0, e.1) in o)) x d.2 in
    let i = item_read ts a.0 a.1 in
    let s = source_found g found a.0.1 b.0 b.1 in
    let r = group_read b.0.1 c.0 c.1 in
    let o = order_read c.0.1 d.0 d.1 in
    let l = limit_read d.0.1 f.0 f.1 in
    subst (Takes HasSelected ts) (some_is (let y : Query = (listing_of a.0.0 b.0.0 c.0.0 d.0.0 f.0.0, f.0.1) in y) x f.2)
    (record { front = i.front ++ (s.front ++ (r.front ++ (o.front ++ l.front))); parts = joined_five i.front s.front r.front o.front l.front f.0.1 ts a.0.1 b.0.1 c.0.1 d.0.1 i.parts s.parts r.parts o.parts l.parts; has = λ t h. listing h i.has s.has r.has o.has l.has })

star_found : (ts rest : List Token) → after_star ts ≡ Some rest → ts ≡ Star ∷ rest
star_found [] rest e = absurd cc
star_found (Star ∷ ts) rest e = ap (λ (us : List Token). Star ∷ us) (some_is ts rest e)
star_found (t ∷ ts) rest e = absurd cc

abbrev number_of : WrittenKind → Sourced → WrittenQuery
number_of kind s = written.Number (record { kind = kind; from = s.0; filter = s.1 })

-- one FROM item
single : (parts : List WrittenPart) → is_single parts ≡ true → (part : WrittenPart) × (parts ≡ part ∷ [])
single [] e = absurd cc
single (part ∷ []) e = (part, refl)
single (part ∷ next ∷ parts) e = absurd cc

count_has : (c : Token) (us : List Token) (s : Sourced) → Is (codes "COUNT") c → HasSourced us s → is_single s.0 ≡ true → HasCounted (c ∷ Open ∷ Star ∷ Close ∷ us) (record { kind = written.Count; from = s.0; filter = s.1 })
count_has c us (parts, f) h src one = let p = single parts one in subst (λ (ps : List WrittenPart). HasCounted (c ∷ Open ∷ Star ∷ Close ∷ us) (record { kind = written.Count; from = ps; filter = f })) (sym p.1) (count h (subst (λ (ps : List WrittenPart). HasSource us ps f) p.1 src))

count_read : (g : Conditions) → Finds HasCondition g → (c : Token) → Is (codes "COUNT") c → (ts : List Token) (x : Query) → count_at g ts ≡ Some x → Takes HasSelected (c ∷ Open ∷ ts) x
count_read g found c h ts x e =
    let a = bind_some (after_star ts) (λ us. after_close us >>= λ vs. source_at g vs >>= λ y. counted_from written.Count y.0 y.1) x e in
    let b = bind_some (after_close a.0) (λ vs. source_at g vs >>= λ y. counted_from written.Count y.0 y.1) x a.2 in
    let d = bind_some (source_at g b.0) (λ y. counted_from written.Count y.0 y.1) x b.2 in
    let s = source_found g found b.0 d.0 d.1 in
    let p = passed (is_single d.0.0.0) (let o : Option Query = Some (number_of written.Count d.0.0, d.0.1) in o) x d.2 in
    subst (Takes HasSelected (c ∷ Open ∷ ts)) (some_is (let y : Query = (number_of written.Count d.0.0, d.0.1) in y) x p.1)
    (record {
      front = c ∷ Open ∷ Star ∷ Close ∷ s.front;
      parts = ap (λ (us : List Token). c ∷ Open ∷ us) (star_found ts a.0 a.1 ∙ ap (λ (us : List Token). Star ∷ us) (close_found a.0 b.0 b.1) ∙ ap (λ (us : List Token). Star ∷ Close ∷ us) s.parts);
      has = λ t k. number k (count_has c s.front d.0.0 h s.has p.0);
    })

abbrev Make : Type 0
Make = WrittenCol → ℤ → WrittenKind

-- the three totals
data IsTotal (t : Token) (make : Make) : Type 0 where
  sums : Is (codes "SUM") t → written.Sum ≡ make → IsTotal t make
  most : Is (codes "MAX") t → written.Max ≡ make → IsTotal t make
  fewest : Is (codes "MIN") t → written.Min ≡ make → IsTotal t make

total_is : (t : Token) (make : Make) → total_named t ≡ Some make → IsTotal t make
total_is t make e = go (is_word (codes "SUM") t) refl e
  where
    smallest : (v : Bool) → is_word (codes "MIN") t ≡ v → cond v (let o : Option Make = Some written.Min in o) None ≡ Some make → IsTotal t make
    smallest true h e = fewest (is_of_word (codes "MIN") t h) (some_is written.Min make e)
    smallest false h e = absurd cc

    largest : (v : Bool) → is_word (codes "MAX") t ≡ v → cond v (let o : Option Make = Some written.Max in o) (cond (is_word (codes "MIN") t) (Some written.Min) None) ≡ Some make → IsTotal t make
    largest true h e = most (is_of_word (codes "MAX") t h) (some_is written.Max make e)
    largest false h e = smallest (is_word (codes "MIN") t) refl e

    go : (v : Bool) → is_word (codes "SUM") t ≡ v → cond v (let o : Option Make = Some written.Sum in o) (cond (is_word (codes "MAX") t) (Some written.Max) (cond (is_word (codes "MIN") t) (Some written.Min) None)) ≡ Some make → IsTotal t make
    go true h e = sums (is_of_word (codes "SUM") t h) (some_is written.Sum make e)
    go false h e = largest (is_word (codes "MAX") t) refl e

-- tokens of a total: its name, its column in parentheses, a comma, a number and the source
record Totals (g : Conditions) (c : Token) (ts : List Token) (x : Query) : Type 0 where
  pub name : Token
  pub make : Make
  pub total : IsTotal name make
  pub cs : List Token
  pub col : WrittenCol
  pub has_col : HasCol cs col
  pub other : Token
  pub n : ℤ
  pub long : HasLong other n
  pub us : List Token
  pub source_ : Sourced
  pub has_source : HasSourced us source_
  pub rest : List Token
  pub parts : c ∷ Open ∷ ts ≡ (c ∷ Open ∷ name ∷ Open ∷ (cs ++ Close ∷ Comma ∷ other ∷ Close ∷ us)) ++ rest
  pub last : total_from (make col n) source_ rest ≡ Some x

total_parts : (g : Conditions) → Finds HasCondition g → (c : Token) (ts : List Token) (x : Query) → total_at g ts ≡ Some x → Totals g c ts x
total_parts g found c [] x e = absurd cc
total_parts g found c (t ∷ ts) x e =
    let m = bind_some (total_named t) (λ make. enclosed_at col_at ts >>= λ y. after_comma y.1 >>= λ us. long_at us >>= λ z. after_close z.1 >>= λ vs. source_at g vs >>= λ s. total_from (make y.0 z.0) s.0 s.1) x e in
    let a = bind_some (enclosed_at col_at ts) (λ y. after_comma y.1 >>= λ us. long_at us >>= λ z. after_close z.1 >>= λ vs. source_at g vs >>= λ s. total_from (m.0 y.0 z.0) s.0 s.1) x m.2 in
    let b = bind_some (after_comma a.0.1) (λ us. long_at us >>= λ z. after_close z.1 >>= λ vs. source_at g vs >>= λ s. total_from (m.0 a.0.0 z.0) s.0 s.1) x a.2 in
    let d = bind_some (long_at b.0) (λ z. after_close z.1 >>= λ vs. source_at g vs >>= λ s. total_from (m.0 a.0.0 z.0) s.0 s.1) x b.2 in
    let f = bind_some (after_close d.0.1) (λ vs. source_at g vs >>= λ s. total_from (m.0 a.0.0 d.0.0) s.0 s.1) x d.2 in
    let k = bind_some (source_at g f.0) (λ s. total_from (m.0 a.0.0 d.0.0) s.0 s.1) x f.2 in
    let i = enclosed_found HasCol col_at col_found ts a.0 a.1 in
    let l = long_found b.0 d.0 d.1 in
    let s = source_found g found f.0 k.0 k.1 in
    record {
      name = t;
      make = m.0;
      total = total_is t m.0 m.1;
      cs = i.front;
      col = a.0.0;
      has_col = i.has;
      other = l.0;
      n = d.0.0;
      long = l.2;
      us = s.front;
      source_ = k.0.0;
      has_source = s.has;
      rest = k.0.1;
      parts = ap (λ (us : List Token). c ∷ Open ∷ t ∷ us) (i.parts ∙ ap (λ (us : List Token). Open ∷ (i.front ++ Close ∷ us)) (comma_found a.0.1 b.0 b.1 ∙ ap (λ (us : List Token). Comma ∷ us) (l.1 ∙ ap (λ (us : List Token). l.0 ∷ us) (close_found d.0.1 f.0 f.1 ∙ ap (λ (us : List Token). Close ∷ us) s.parts)))) ∙ ap (λ (us : List Token). c ∷ Open ∷ t ∷ Open ∷ us) (sym (append_assoc i.front (Close ∷ Comma ∷ l.0 ∷ Close ∷ s.front) k.0.1));
      last = k.2;
    }

sum_has : (c s t : Token) (cs us : List Token) (col : WrittenCol) (n : ℤ) (src : Sourced) → Is (codes "COALESCE") c → Is (codes "SUM") s → HasCol cs col → HasLong t n → HasSourced us src → is_single src.0 ≡ true → HasCounted (c ∷ Open ∷ s ∷ Open ∷ (cs ++ Close ∷ Comma ∷ t ∷ Close ∷ us)) (record { kind = written.Sum col n; from = src.0; filter = src.1 })
sum_has c s t cs us col n (parts, f) h k l m src one =
    let p = single parts one in
    subst (λ (ps : List WrittenPart). HasCounted (c ∷ Open ∷ s ∷ Open ∷ (cs ++ Close ∷ Comma ∷ t ∷ Close ∷ us)) (record { kind = written.Sum col n; from = ps; filter = f })) (sym p.1) (sum h k l m (subst (λ (ps : List WrittenPart). HasSource us ps f) p.1 src))

total_read : (g : Conditions) (c : Token) → Is (codes "COALESCE") c → (ts : List Token) (x : Query) → Totals g c ts x → Takes HasSelected (c ∷ Open ∷ ts) x
total_read g c h ts x v = go v.make v.total v.last
  where
    go : (make : Make) → IsTotal v.name make → total_from (make v.col v.n) v.source_ v.rest ≡ Some x → Takes HasSelected (c ∷ Open ∷ ts) x
    go make (sums k q) e =
        let e2 : counted_from (written.Sum v.col v.n) v.source_ v.rest ≡ Some x = ap (λ (m : Make). total_from (m v.col v.n) v.source_ v.rest) q ∙ e in
        let p = passed (is_single v.source_.0) (let o : Option Query = Some (number_of (written.Sum v.col v.n) v.source_, v.rest) in o) x e2 in
        subst (Takes HasSelected (c ∷ Open ∷ ts)) (some_is (let y : Query = (number_of (written.Sum v.col v.n) v.source_, v.rest) in y) x p.1)
        (record { front = c ∷ Open ∷ v.name ∷ Open ∷ (v.cs ++ Close ∷ Comma ∷ v.other ∷ Close ∷ v.us); parts = v.parts; has = λ t s. number s (sum_has c v.name v.other v.cs v.us v.col v.n v.source_ h k v.has_col v.long v.has_source p.0) })
    go make (most k q) e =
        let e2 : (let o : Option Query = Some (number_of (written.Max v.col v.n) v.source_, v.rest) in o) ≡ Some x = ap (λ (m : Make). total_from (m v.col v.n) v.source_ v.rest) q ∙ e in
        subst (Takes HasSelected (c ∷ Open ∷ ts)) (some_is (let y : Query = (number_of (written.Max v.col v.n) v.source_, v.rest) in y) x e2)
        (record { front = c ∷ Open ∷ v.name ∷ Open ∷ (v.cs ++ Close ∷ Comma ∷ v.other ∷ Close ∷ v.us); parts = v.parts; has = λ t s. number s (best h (greatest k) v.has_col v.long v.has_source) })
    go make (fewest k q) e =
        let e2 : (let o : Option Query = Some (number_of (written.Min v.col v.n) v.source_, v.rest) in o) ≡ Some x = ap (λ (m : Make). total_from (m v.col v.n) v.source_ v.rest) q ∙ e in
        subst (Takes HasSelected (c ∷ Open ∷ ts)) (some_is (let y : Query = (number_of (written.Min v.col v.n) v.source_, v.rest) in y) x e2)
        (record { front = c ∷ Open ∷ v.name ∷ Open ∷ (v.cs ++ Close ∷ Comma ∷ v.other ∷ Close ∷ v.us); parts = v.parts; has = λ t s. number s (best h (least k) v.has_col v.long v.has_source) })

number_read : (g : Conditions) → Finds HasCondition g → (ts : List Token) (r : Read WrittenQuery) (x : Query) → number_at g ts ≡ Some r → r ≡ Some x → Takes HasSelected ts x
number_read g found [] r x e k = absurd cc
number_read g found (t ∷ []) r x e k = absurd cc
number_read g found (t ∷ Open ∷ ts) r x e k = go (is_word (codes "COUNT") t) refl e
  where
    totals : (v : Bool) → is_word (codes "COALESCE") t ≡ v → cond v (let o : Option (Read WrittenQuery) = Some (total_at g ts) in o) None ≡ Some r → Takes HasSelected (t ∷ Open ∷ ts) x
    totals true h e = total_read g t (is_of_word (codes "COALESCE") t h) ts x (total_parts g found t ts x (some_is (total_at g ts) r e ∙ k))
    totals false h e = absurd cc

    go : (v : Bool) → is_word (codes "COUNT") t ≡ v → cond v (let o : Option (Read WrittenQuery) = Some (count_at g ts) in o) (cond (is_word (codes "COALESCE") t) (Some (total_at g ts)) None) ≡ Some r → Takes HasSelected (t ∷ Open ∷ ts) x
    go true h e = count_read g found t (is_of_word (codes "COUNT") t h) ts x (some_is (count_at g ts) r e ∙ k)
    go false h e = totals (is_word (codes "COALESCE") t) refl e
number_read g found (t ∷ u ∷ ts) r x e k = absurd cc

selected_read : (g : Conditions) → Finds HasCondition g → Finds HasSelected (selected_at g)
selected_read g found ts x e =
    elim (given_some (number_at g ts) (λ read. read) (listing_at g ts) (Some x) e) [ inl c ↦ number_read g found ts c.0 x c.1 c.2 | inr c ↦ listing_found g found ts x c.1 ]

abbrev Exists : Type 0
Exists = Bool × List Token

exists_read : Finds HasExists exists_at
exists_read [] x e = absurd cc
exists_read (t ∷ ts) x e = go (is_word (codes "EXISTS") t) refl e
  where
    no : (v : Bool) → is_word (codes "NOT") t ≡ v → cond v (after_word (codes "EXISTS") ts >>= λ us. (let o : Option Exists = Some (true, us) in o)) None ≡ Some x → Takes HasExists (t ∷ ts) x
    no true h e =
        let a = bind_some (after_word (codes "EXISTS") ts) (λ us. (let o : Option Exists = Some (true, us) in o)) x e in
        let w = word_found (codes "EXISTS") ts a.0 a.1 in
        subst (Takes HasExists (t ∷ ts)) (some_is (let y : Exists = (true, a.0) in y) x a.2) (record { front = t ∷ w.0 ∷ []; parts = ap (λ (us : List Token). t ∷ us) w.1; has = is_none (is_of_word (codes "NOT") t h) w.2 })
    no false h e = absurd cc

    go : (v : Bool) → is_word (codes "EXISTS") t ≡ v → cond v (let o : Option Exists = Some (false, ts) in o) (cond (is_word (codes "NOT") t) (after_word (codes "EXISTS") ts >>= λ us. (let o : Option Exists = Some (true, us) in o)) None) ≡ Some x → Takes HasExists (t ∷ ts) x
    go true h e = subst (Takes HasExists (t ∷ ts)) (some_is (let y : Exists = (false, ts) in y) x e) (record { front = t ∷ []; parts = refl; has = is_some (is_of_word (codes "EXISTS") t h) })
    go false h e = no (is_word (codes "NOT") t) refl e

abbrev truth_of : Bool → Sourced → WrittenQuery
truth_of negated s = written.Truth (record { negated = negated; from = s.0; filter = s.1 })

truth_has : (es ts : List Token) (negated : Bool) (y : Sourced × List Token) (inner rest : List Token) → HasExists es negated → ts ≡ es ++ rest → rest ≡ Open ∷ (inner ++ Close ∷ y.1) → HasOne inner y.0 → Takes HasSelected ts (truth_of negated y.0, y.1)
truth_has es ts negated y inner rest h parts f (selects i us g k src) = record {
  front = (es ++ Open ∷ i ∷ Digits (codes "1") ∷ us) ++ Close ∷ [];
  parts = parts ∙ ap (λ (ws : List Token). es ++ ws) (f ∙ ap (λ (ws : List Token). Open ∷ (ws ++ Close ∷ y.1)) g) ∙ together es us y.1 i;
  has = λ s sel. truth sel h k src;
}
  where
    together : (es us rest : List Token) (i : Token) → es ++ (Open ∷ ((i ∷ Digits (codes "1") ∷ us) ++ Close ∷ rest)) ≡ ((es ++ Open ∷ i ∷ Digits (codes "1") ∷ us) ++ Close ∷ []) ++ rest
    together es us rest i = simp append_assoc refl

query_read : (g : Conditions) → Finds HasCondition g → Finds HasWritten (query_at g)
query_read g found ts x e =
    let a = bind_some (after_word (codes "SELECT") ts) (λ us. given (exists_at us) (λ y. enclosed_at (one_at g) y.1 >>= λ z. (let o : Option Query = Some (truth_of y.0 z.0, z.1) in o)) (selected_at g us)) x e in
    let w = word_found (codes "SELECT") ts a.0 a.1 in
    let s = after a.0 a.2 in
    record { front = w.0 ∷ s.front; parts = w.1 ∙ ap (λ (us : List Token). w.0 ∷ us) s.parts; has = s.has w.0 w.2 }
  where
    after : (us : List Token) → given (exists_at us) (λ y. enclosed_at (one_at g) y.1 >>= λ z. (let o : Option Query = Some (truth_of y.0 z.0, z.1) in o)) (selected_at g us) ≡ Some x → Takes HasSelected us x
    after us e =
        elim (given_some (exists_at us) (λ y. enclosed_at (one_at g) y.1 >>= λ z. (let o : Option Query = Some (truth_of y.0 z.0, z.1) in o)) (selected_at g us) (Some x) e) [
          | inl c ↦ (let h = exists_read us c.0 c.1 in
              let b = bind_some (enclosed_at (one_at g) c.0.1) (λ z. (let o : Option Query = Some (truth_of c.0.0 z.0, z.1) in o)) x c.2 in
              let n = enclosed_found HasOne (one_at g) (one_read g found) c.0.1 b.0 b.1 in
              subst (Takes HasSelected us) (some_is (let y : Query = (truth_of c.0.0 b.0.0, b.0.1) in y) x b.2) (truth_has h.front us c.0.0 b.0 n.front c.0.1 h.has h.parts n.parts n.has))
          | inr c ↦ selected_read g found us x c.1
        ]

-- tokens that are read have the query
pub written_found : (ts : List Token) (q : WrittenQuery) → query_in ts ≡ Some q → HasWritten ts q
written_found ts q e =
    let a = bind_some (query_at (condition_at (suc (length ts))) ts) ended q e in
    let f = query_read (condition_at (suc (length ts))) (condition_found (suc (length ts))) ts a.0 a.1 in
    go a.0 f a.2
  where
    go : (x : Query) → Takes HasWritten ts x → ended x ≡ Some q → HasWritten ts q
    go (p, []) f e = subst (λ (us : List Token). HasWritten us q) (sym (f.parts ∙ append-nil f.front)) (subst (HasWritten f.front) (some_is p q e) f.has)
    go (p, t ∷ us) f e = absurd cc
