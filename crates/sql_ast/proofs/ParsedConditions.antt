-- What is read from tokens they have by the grammar: conditions.
use Rattle.std.proofs.Common.{◌≡◌, ℕ, zero, suc, Bool, true, false, cond, List, [], ◌∷◌, ◌++◌, length, codes, Some, refl, sym, ap, ◌∙◌, subst, append_assoc, inl, inr}
use Rattle.sql_ast.specs.Grammar.{Is, HasCol, HasOpnd, col_opnd, HasIn, HasCondition, one_conjunction, either, HasConjunction, one_negation, both, HasNegation, one_atom, negation, HasAtom, enclosed, comparison, bare, exists, within, HasSource, source, HasWhere, no_where, where_of}
use Rattle.sql_ast.specs.Names.{◌>>=◌}
use Rattle.sql_ast.specs.Reader.{Read, is_word, after_word, after_open, after_close, after_one, col_at, opnd_at, parts_at, in_at, where_at, source_at, enclosed_at, one_at, column_at, bare_from, within_from, atom_from, other_atom, atom_at, negation_in, negation_at, joined_from, joined_at, conjunction_at, condition_at}
use Rattle.sql_ast.specs.Tokens.{Token, Digits, Test, Open, Close}
use Rattle.sql_ast.specs.Written.{WrittenCol, WrittenPart, WrittenOpnd, WrittenCondition, WrittenFilter}
use Rattle.sql_ast.specs.Written as written
use Rattle.sql_ast.proofs.Parsed.{Takes, Finds, given_some, word_found, is_of_word, open_found, close_found, one_found, col_found, opnd_found, parts_found, in_found}
use Rattle.sql_ast.proofs.Tools.{some_is, bind_some}

abbrev pub Conditions : Type 0
Conditions = List Token → Read WrittenCondition

abbrev pub Sourced : Type 0
Sourced = List WrittenPart × WrittenFilter

abbrev pub HasSourced : List Token → Sourced → Type 0
HasSourced ts x = HasSource ts x.0 x.1

abbrev Cond : Type 0
Cond = WrittenCondition × List Token

-- what was read in parentheses
pub record Encloses {A : Type 0} (Has : List Token → A → Type 0) (ts : List Token) (x : A × List Token) : Type 0 where
  pub front : List Token
  pub parts : ts ≡ Open ∷ (front ++ Close ∷ x.1)
  pub has : Has front x.0

pub enclosed_found : {A : Type 0} (Has : List Token → A → Type 0) (inner : List Token → Read A) → Finds Has inner → (ts : List Token) (x : A × List Token) → enclosed_at inner ts ≡ Some x → Encloses Has ts x
enclosed_found {A} Has inner found ts x e =
    let a = bind_some (after_open ts) (λ us. inner us >>= λ y. after_close y.1 >>= λ vs. (let o : Read A = Some (y.0, vs) in o)) x e in
    let b = bind_some (inner a.0) (λ y. after_close y.1 >>= λ vs. (let o : Read A = Some (y.0, vs) in o)) x a.2 in
    let c = bind_some (after_close b.0.1) (λ vs. (let o : Read A = Some (b.0.0, vs) in o)) x b.2 in
    let f = found a.0 b.0 b.1 in
    subst (Encloses Has ts) (some_is (let y : A × List Token = (b.0.0, c.0) in y) x c.2)
    (record { front = f.front; parts = open_found ts a.0 a.1 ∙ ap (λ (us : List Token). Open ∷ us) (f.parts ∙ ap (λ (us : List Token). f.front ++ us) (close_found b.0.1 c.0 c.1)); has = f.has })

where_found : (group : Conditions) → Finds HasCondition group → Finds HasWhere (where_at group)
where_found group found [] x e = subst (Takes HasWhere []) (some_is (let y : WrittenFilter × List Token = (written.Everything, []) in y) x e) (record { front = []; parts = refl; has = no_where })
where_found group found (t ∷ ts) x e = go (is_word (codes "WHERE") t) refl e
  where
    go : (v : Bool) → is_word (codes "WHERE") t ≡ v → cond v (group ts >>= λ y. (let o : Read WrittenFilter = Some (written.Where y.0, y.1) in o)) (Some (written.Everything, t ∷ ts)) ≡ Some x → Takes HasWhere (t ∷ ts) x
    go true h e =
        let a = bind_some (group ts) (λ y. (let o : Read WrittenFilter = Some (written.Where y.0, y.1) in o)) x e in
        let f = found ts a.0 a.1 in
        subst (Takes HasWhere (t ∷ ts)) (some_is (let y : WrittenFilter × List Token = (written.Where a.0.0, a.0.1) in y) x a.2) (record { front = t ∷ f.front; parts = ap (λ (us : List Token). t ∷ us) f.parts; has = where_of (is_of_word (codes "WHERE") t h) f.has })
    go false h e = subst (Takes HasWhere (t ∷ ts)) (some_is (let y : WrittenFilter × List Token = (written.Everything, t ∷ ts) in y) x e) (record { front = []; parts = refl; has = no_where })

pub source_found : (group : Conditions) → Finds HasCondition group → Finds HasSourced (source_at group)
source_found group found ts x e =
    let a = bind_some (after_word (codes "FROM") ts) (λ us. parts_at us >>= λ y. where_at group y.1 >>= λ z. (let o : Read Sourced = Some ((y.0, z.0), z.1) in o)) x e in
    let b = bind_some (parts_at a.0) (λ y. where_at group y.1 >>= λ z. (let o : Read Sourced = Some ((y.0, z.0), z.1) in o)) x a.2 in
    let c = bind_some (where_at group b.0.1) (λ z. (let o : Read Sourced = Some ((b.0.0, z.0), z.1) in o)) x b.2 in
    let w = word_found (codes "FROM") ts a.0 a.1 in
    let p = parts_found a.0 b.0 b.1 in
    let f = where_found group found b.0.1 c.0 c.1 in
    subst (Takes HasSourced ts) (some_is (let y : Sourced × List Token = ((b.0.0, c.0.0), c.0.1) in y) x c.2)
    (record { front = w.0 ∷ p.front ++ f.front; parts = w.1 ∙ ap (λ (us : List Token). w.0 ∷ us) (p.parts ∙ ap (λ (us : List Token). p.front ++ us) f.parts ∙ sym (append_assoc p.front f.front c.0.1)); has = source w.2 p.has f.has })

-- SELECT 1 and its source
pub data HasOne (ts : List Token) (x : Sourced) : Type 0 where
  selects : (s : Token) (us : List Token) → ts ≡ s ∷ Digits (codes "1") ∷ us → Is (codes "SELECT") s → HasSourced us x → HasOne ts x

pub one_read : (group : Conditions) → Finds HasCondition group → Finds HasOne (one_at group)
one_read group found ts x e =
    let a = bind_some (after_word (codes "SELECT") ts) (λ us. after_one us >>= λ vs. source_at group vs) x e in
    let b = bind_some (after_one a.0) (λ vs. source_at group vs) x a.2 in
    let w = word_found (codes "SELECT") ts a.0 a.1 in
    let s = source_found group found b.0 x b.2 in
    record { front = w.0 ∷ Digits (codes "1") ∷ s.front; parts = w.1 ∙ ap (λ (us : List Token). w.0 ∷ us) (one_found a.0 b.0 b.1) ∙ ap (λ (us : List Token). w.0 ∷ Digits (codes "1") ∷ us) s.parts; has = selects w.0 s.front refl w.2 s.has }

abbrev Inner : Type 0
Inner = WrittenCol × Sourced

data HasInner (ts : List Token) (x : Inner) : Type 0 where
  takes : (s : Token) (cs us : List Token) → ts ≡ s ∷ (cs ++ us) → Is (codes "SELECT") s → HasCol cs x.0 → HasSourced us x.1 → HasInner ts x

inner_read : (group : Conditions) → Finds HasCondition group → Finds HasInner (column_at group)
inner_read group found ts x e =
    let a = bind_some (after_word (codes "SELECT") ts) (λ us. col_at us >>= λ y. source_at group y.1 >>= λ z. (let o : Read Inner = Some ((y.0, z.0), z.1) in o)) x e in
    let b = bind_some (col_at a.0) (λ y. source_at group y.1 >>= λ z. (let o : Read Inner = Some ((y.0, z.0), z.1) in o)) x a.2 in
    let c = bind_some (source_at group b.0.1) (λ z. (let o : Read Inner = Some ((b.0.0, z.0), z.1) in o)) x b.2 in
    let w = word_found (codes "SELECT") ts a.0 a.1 in
    let p = col_found a.0 b.0 b.1 in
    let s = source_found group found b.0.1 c.0 c.1 in
    subst (Takes HasInner ts) (some_is (let y : Inner × List Token = ((b.0.0, c.0.0), c.0.1) in y) x c.2)
    (record { front = w.0 ∷ (p.front ++ s.front); parts = w.1 ∙ ap (λ (us : List Token). w.0 ∷ us) (p.parts ∙ ap (λ (us : List Token). p.front ++ us) s.parts ∙ sym (append_assoc p.front s.front c.0.1)); has = takes w.0 p.front s.front refl w.2 p.has s.has })

-- ---- conditions that begin with an operand

col_of_opnd : (us : List Token) (col : WrittenCol) → HasOpnd us (written.Column col) → HasCol us col
col_of_opnd us col (col_opnd c) = c

bare_read : (a : WrittenOpnd) (ts us rest : List Token) (x : Cond) → HasOpnd us a → ts ≡ us ++ rest → bare_from a rest ≡ Some x → Takes HasAtom ts x
bare_read (written.Column col) ts us rest x h parts e = subst (Takes HasAtom ts) (some_is (let y : Cond = (written.Bare col, rest) in y) x e) (record { front = us; parts = parts; has = bare (col_of_opnd us col h) })
bare_read (written.Lit scalar) ts us rest x h parts e = absurd cc
bare_read (written.Param n) ts us rest x h parts e = absurd cc

within_read : (group : Conditions) → Finds HasCondition group → (a : WrittenOpnd) (ts us rest : List Token) (x : Cond) → HasOpnd us a → ts ≡ us ++ rest → within_from group a rest ≡ Some x → Takes HasAtom ts x
within_read group found a ts us rest x h parts e =
    elim (given_some (in_at rest) (λ y. enclosed_at (column_at group) y.1 >>= λ z. (let o : Read WrittenCondition = Some (written.Within a y.0 z.0.0 z.0.1.0 z.0.1.1, z.1) in o)) (bare_from a rest) (Some x) e) [
      | inl c ↦ (let i = in_found rest c.0 c.1 in
          let b = bind_some (enclosed_at (column_at group) c.0.1) (λ z. (let o : Read WrittenCondition = Some (written.Within a c.0.0 z.0.0 z.0.1.0 z.0.1.1, z.1) in o)) x c.2 in
          let n = enclosed_found HasInner (column_at group) (inner_read group found) c.0.1 b.0 b.1 in
          subst (Takes HasAtom ts) (some_is (let y : Cond = (written.Within a c.0.0 b.0.0.0 b.0.0.1.0 b.0.0.1.1, b.0.1) in y) x b.2) (within_of c.0 i.front i.parts i.has b.0 n.front n.parts n.has))
      | inr c ↦ bare_read a ts us rest x h parts c.1
    ]
  where
    within_of : (i : Bool × List Token) (ins : List Token) → rest ≡ ins ++ i.1 → HasIn ins i.0 → (y : Inner × List Token) (inner : List Token) → i.1 ≡ Open ∷ (inner ++ Close ∷ y.1) → HasInner inner y.0 → Takes HasAtom ts (written.Within a i.0 y.0.0 y.0.1.0 y.0.1.1, y.1)
    within_of i ins e n y inner f (takes s cs vs g k c src) = record {
      front = us ++ (ins ++ Open ∷ s ∷ (cs ++ (vs ++ Close ∷ [])));
      parts = parts ∙ ap (λ (ws : List Token). us ++ ws) (e ∙ ap (λ (ws : List Token). ins ++ ws) (f ∙ ap (λ (ws : List Token). Open ∷ (ws ++ Close ∷ y.1)) g))
          ∙ together us ins cs vs (y.1) s;
      has = within h n k c src;
    }
      where
        together : (us ins cs vs rest : List Token) (s : Token) → us ++ (ins ++ (Open ∷ ((s ∷ (cs ++ vs)) ++ Close ∷ rest))) ≡ (us ++ (ins ++ Open ∷ s ∷ (cs ++ (vs ++ Close ∷ [])))) ++ rest
        together us ins cs vs rest s = simp append_assoc refl

atom_from_read : (group : Conditions) → Finds HasCondition group → (a : WrittenOpnd) (ts us rest : List Token) (x : Cond) → HasOpnd us a → ts ≡ us ++ rest → atom_from group a rest ≡ Some x → Takes HasAtom ts x
atom_from_read group found a ts us [] x h parts e = within_read group found a ts us [] x h parts e
atom_from_read group found a ts us (Test cmp ∷ rest) x h parts e =
    let b = bind_some (opnd_at rest) (λ y. (let o : Read WrittenCondition = Some (written.Compare cmp a y.0, y.1) in o)) x e in
    let o = opnd_found rest b.0 b.1 in
    subst (Takes HasAtom ts) (some_is (let y : Cond = (written.Compare cmp a b.0.0, b.0.1) in y) x b.2)
    (record { front = us ++ Test cmp ∷ o.front; parts = parts ∙ ap (λ (ws : List Token). us ++ (Test cmp ∷ ws)) o.parts ∙ sym (append_assoc us (Test cmp ∷ o.front) b.0.1); has = comparison h o.has })
atom_from_read group found a ts us (t ∷ rest) x h parts e = within_read group found a ts us (t ∷ rest) x h parts e

other_read : (group : Conditions) → Finds HasCondition group → (t : Token) (ts : List Token) (x : Cond) → other_atom group t ts ≡ Some x → Takes HasAtom (t ∷ ts) x
other_read group found t ts x e = go (is_word (codes "EXISTS") t) refl e
  where
    exists_of : Is (codes "EXISTS") t → (y : Sourced × List Token) (inner : List Token) → ts ≡ Open ∷ (inner ++ Close ∷ y.1) → HasOne inner y.0 → Takes HasAtom (t ∷ ts) (written.Exists y.0.0 y.0.1, y.1)
    exists_of k y inner f (selects s us g l src) = record {
      front = t ∷ Open ∷ s ∷ Digits (codes "1") ∷ us ++ Close ∷ [];
      parts = ap (λ (ws : List Token). t ∷ ws) (f ∙ ap (λ (ws : List Token). Open ∷ (ws ++ Close ∷ y.1)) g) ∙ ap (λ (ws : List Token). t ∷ Open ∷ s ∷ Digits (codes "1") ∷ ws) (sym (append_assoc us (Close ∷ []) y.1));
      has = exists k l src;
    }

    go : (v : Bool) → is_word (codes "EXISTS") t ≡ v → cond v (enclosed_at (one_at group) ts >>= λ y. (let o : Read WrittenCondition = Some (written.Exists y.0.0 y.0.1, y.1) in o)) (opnd_at (t ∷ ts) >>= λ y. atom_from group y.0 y.1) ≡ Some x → Takes HasAtom (t ∷ ts) x
    go true h e =
        let b = bind_some (enclosed_at (one_at group) ts) (λ y. (let o : Read WrittenCondition = Some (written.Exists y.0.0 y.0.1, y.1) in o)) x e in
        let n = enclosed_found HasOne (one_at group) (one_read group found) ts b.0 b.1 in
        subst (Takes HasAtom (t ∷ ts)) (some_is (let y : Cond = (written.Exists b.0.0.0 b.0.0.1, b.0.1) in y) x b.2) (exists_of (is_of_word (codes "EXISTS") t h) b.0 n.front n.parts n.has)
    go false h e =
        let b = bind_some (opnd_at (t ∷ ts)) (λ y. atom_from group y.0 y.1) x e in
        let o = opnd_found (t ∷ ts) b.0 b.1 in
        atom_from_read group found b.0.0 (t ∷ ts) o.front b.0.1 x o.has o.parts b.2

-- ---- layers

atom_read : (group : Conditions) → Finds HasCondition group → Finds HasAtom (atom_at group)
unfolding atom_at
atom_read group found [] x e = absurd cc
atom_read group found (Open ∷ ts) x e =
    let a = bind_some (group ts) (λ y. after_close y.1 >>= λ us. (let o : Read WrittenCondition = Some (y.0, us) in o)) x e in
    let b = bind_some (after_close a.0.1) (λ us. (let o : Read WrittenCondition = Some (a.0.0, us) in o)) x a.2 in
    let f = found ts a.0 a.1 in
    subst (Takes HasAtom (Open ∷ ts)) (some_is (let y : Cond = (a.0.0, b.0) in y) x b.2)
    (record { front = Open ∷ f.front ++ Close ∷ []; parts = ap (λ (ws : List Token). Open ∷ ws) (f.parts ∙ ap (λ (ws : List Token). f.front ++ ws) (close_found a.0.1 b.0 b.1) ∙ sym (append_assoc f.front (Close ∷ []) b.0)); has = enclosed f.has })
atom_read group found (t ∷ ts) x e = other_read group found t ts x e

negation_read : (atom : Conditions) → Finds HasAtom atom → (n : ℕ) → Finds HasNegation (negation_in atom n)
unfolding negation_in
negation_read atom found zero ts x e = absurd cc
negation_read atom found (suc n) [] x e = absurd cc
negation_read atom found (suc n) (t ∷ ts) x e = go (is_word (codes "NOT") t) refl e (negation_read atom found n ts)
  where
    go : (v : Bool) → is_word (codes "NOT") t ≡ v → cond v (negation_in atom n ts >>= λ y. (let o : Read WrittenCondition = Some (written.Not y.0, y.1) in o)) (atom (t ∷ ts)) ≡ Some x → ((y : Cond) → negation_in atom n ts ≡ Some y → Takes HasNegation ts y) → Takes HasNegation (t ∷ ts) x
    go true h e later =
        let a = bind_some (negation_in atom n ts) (λ y. (let o : Read WrittenCondition = Some (written.Not y.0, y.1) in o)) x e in
        let f = later a.0 a.1 in
        subst (Takes HasNegation (t ∷ ts)) (some_is (let y : Cond = (written.Not a.0.0, a.0.1) in y) x a.2) (record { front = t ∷ f.front; parts = ap (λ (ws : List Token). t ∷ ws) f.parts; has = negation (is_of_word (codes "NOT") t h) f.has })
    go false h e later = let f = found (t ∷ ts) x e in record { front = f.front; parts = f.parts; has = one_atom f.has }

-- operands joined from the left, after one that has them already
joined_from_read : (k : List ℕ) (make : WrittenCondition → WrittenCondition → WrittenCondition) (operand : Conditions) (Has Chain : List Token → WrittenCondition → Type 0) → Finds Has operand → ((us vs : List Token) (t : Token) (a b : WrittenCondition) → Chain us a → Is k t → Has vs b → Chain (us ++ t ∷ vs) (make a b)) → (n : ℕ) (a : WrittenCondition) (ts us rest : List Token) (x : Cond) → Chain us a → ts ≡ us ++ rest → joined_from k make operand n a rest ≡ Some x → Takes Chain ts x
unfolding joined_from
joined_from_read k make operand Has Chain found more zero a ts us rest x h parts e = subst (Takes Chain ts) (some_is (let y : Cond = (a, rest) in y) x e) (record { front = us; parts = parts; has = h })
joined_from_read k make operand Has Chain found more (suc n) a ts us rest x h parts e =
    elim (given_some (after_word k rest) (λ vs. operand vs >>= λ y. joined_from k make operand n (make a y.0) y.1) (Some (a, rest)) (Some x) e) [
      | inl c ↦ (let w = word_found k rest c.0 c.1 in
          let b = bind_some (operand c.0) (λ y. joined_from k make operand n (make a y.0) y.1) x c.2 in
          let f = found c.0 b.0 b.1 in
          joined_from_read k make operand Has Chain found more n (make a b.0.0) ts (us ++ w.0 ∷ f.front) b.0.1 x (more us f.front w.0 a b.0.0 h w.2 f.has)
          (parts ∙ ap (λ (ws : List Token). us ++ ws) (w.1 ∙ ap (λ (ws : List Token). w.0 ∷ ws) f.parts) ∙ sym (append_assoc us (w.0 ∷ f.front) b.0.1)) b.2)
      | inr c ↦ subst (Takes Chain ts) (some_is (let y : Cond = (a, rest) in y) x c.1) (record { front = us; parts = parts; has = h })
    ]

joined_read : (k : List ℕ) (make : WrittenCondition → WrittenCondition → WrittenCondition) (operand : Conditions) (Has Chain : List Token → WrittenCondition → Type 0) → Finds Has operand → ((us : List Token) (a : WrittenCondition) → Has us a → Chain us a) → ((us vs : List Token) (t : Token) (a b : WrittenCondition) → Chain us a → Is k t → Has vs b → Chain (us ++ t ∷ vs) (make a b)) → Finds Chain (joined_at k make operand)
joined_read k make operand Has Chain found one more ts x e =
    let a = bind_some (operand ts) (λ y. joined_from k make operand (length y.1) y.0 y.1) x e in
    let f = found ts a.0 a.1 in
    joined_from_read k make operand Has Chain found more (length a.0.1) a.0.0 ts f.front a.0.1 x (one f.front a.0.0 f.has) f.parts a.2

conjunction_read : (group : Conditions) → Finds HasCondition group → Finds HasConjunction (conjunction_at group)
unfolding conjunction_at
conjunction_read group found ts x e = joined_read (codes "AND") written.Both (negation_at (atom_at group)) HasNegation HasConjunction (λ us y h. negation_read (atom_at group) (atom_read group found) (length us) us y h) (λ us a h. one_negation h) (λ us vs t a b h k l. both h k l) ts x e

pub condition_found : (n : ℕ) → Finds HasCondition (condition_at n)
unfolding condition_at
condition_found zero ts x e = absurd cc
condition_found (suc n) ts x e = joined_read (codes "OR") written.Either (conjunction_at (condition_at n)) HasConjunction HasCondition (conjunction_read (condition_at n) (condition_found n)) (λ us a h. one_conjunction h) (λ us vs t a b h k l. either h k l) ts x e
