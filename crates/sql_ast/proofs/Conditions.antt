-- Conditions that tokens have by the grammar are read from them.
use Rattle.std.proofs.Common.{◌≡◌, ℕ, zero, suc, ◌<◌, ◌≤◌, Bool, true, false, ◌||◌, List, [], ◌∷◌, ◌++◌, length, Option, None, codes, refl, sym, ap, ◌∙◌, subst, arith, append_assoc, length-append, lit<}
use Rattle.std.proofs.lemmas.List.{append-nil}
use Rattle.std.specs.Str.{str_eq_ignore_ascii_case}
use Rattle.sql_ast.specs.declared.tree.Cmp.{Cmp}
use Rattle.sql_ast.specs.Grammar.{spelled, HasCol, plain_col, dotted_col, positive_long, negative_long, HasOpnd, col_opnd, long_opnd, text_opnd, true_opnd, false_opnd, param_opnd, HasIn, is_in, not_in, HasCondition, one_conjunction, either, HasConjunction, one_negation, both, HasNegation, one_atom, negation, HasAtom, enclosed, comparison, bare, exists, within, HasSource, source, HasWhere, no_where, where_of}
use Rattle.sql_ast.specs.Names.{◌>>=◌}
use Rattle.sql_ast.specs.Reader.{Read, given, is_word, after_word, after_close, col_at, opnd_at, parts_at, where_at, source_at, enclosed_at, column_at, bare_from, within_from, atom_from, atom_at, negation_in, negation_at, joined_from, joined_at, conjunction_at, condition_at}
use Rattle.sql_ast.specs.Tokens.{Token, Word, Digits, Negative, Quoted, Param, Test, Open, Close, Dot}
use Rattle.sql_ast.specs.Written.{WrittenCol, WrittenPart, WrittenOpnd, WrittenCondition, Both, Either, Not, Compare, Bare, Exists, Within, WrittenFilter, Everything, Where}
use Rattle.sql_ast.specs.Written as written
use Rattle.sql_ast.proofs.Parts.{taken, col_again, opnd_again, parts_again, in_again}
use Rattle.sql_ast.proofs.Words.{apart, free_not, ends, no_comma, no_dot, ends_no_dot, not_word, no_word, after_source, after_parts, after_conjunction, after_atom}

abbrev pub Conditions : Type 0
Conditions = List Token → Read WrittenCondition

-- ---- an operand, and what may follow it

-- what begins with an operand is read as an operand first
opnd_first : (group : Conditions) (us : List Token) (a : WrittenOpnd) → HasOpnd us a → (rest : List Token) → atom_at group (us ++ rest) ≡ (opnd_at (us ++ rest) >>= λ x. atom_from group x.0 x.1)
unfolding atom_at
opnd_first group us a (col_opnd (plain_col {name = name} f)) rest = rw (free_not name 10 (lit< tt) f) refl
opnd_first group us a (col_opnd (dotted_col {alias = name} f g)) rest = rw (free_not name 10 (lit< tt) f) refl
opnd_first group us a (long_opnd (positive_long e)) rest = refl
opnd_first group us a (long_opnd (negative_long e)) rest = refl
opnd_first group us a text_opnd rest = refl
opnd_first group us a (true_opnd (spelled {bs = w} e)) rest = rw (apart w (codes "TRUE") (codes "EXISTS") e refl) refl
opnd_first group us a (false_opnd (spelled {bs = w} e)) rest = rw (apart w (codes "FALSE") (codes "EXISTS") e refl) refl
opnd_first group us a param_opnd rest = refl

-- a condition that is an operand, or begins with one
opnd_then : (group : Conditions) (us : List Token) (a : WrittenOpnd) → HasOpnd us a → (rest : List Token) → no_dot rest ≡ true → atom_at group (us ++ rest) ≡ atom_from group a rest
opnd_then group us a h rest stop = opnd_first group us a h rest ∙ ap (λ (r : Read WrittenOpnd). r >>= λ x. atom_from group x.0 x.1) (opnd_again us a h rest stop)

bare_stop : (group : Conditions) (col : WrittenCol) (rest : List Token) → ends after_atom rest ≡ true → atom_from group (written.Column col) rest ≡ taken (Bare col) rest
bare_stop group col [] h = refl
bare_stop group col (Test cmp ∷ ts) h = absurd cc
bare_stop group col (Word w ∷ ts) h = rw (not_word (codes "IN") after_atom (Word w) ts h refl, not_word (codes "NOT") after_atom (Word w) ts h refl) refl
bare_stop group col (t ∷ ts) h = refl

-- ---- the first token of a condition

pub record StartsWith (us : List Token) : Type 0 where
  pub first : Token
  pub rest : List Token
  pub parts : us ≡ first ∷ rest
  pub no_not : is_word (codes "NOT") first ≡ false

opnd_starts : (us : List Token) (a : WrittenOpnd) → HasOpnd us a → (rest : List Token) → StartsWith (us ++ rest)
opnd_starts us a (col_opnd (plain_col {name = name} f)) rest = record { first = Word name; rest = rest; parts = refl; no_not = free_not name 9 (lit< tt) f }
opnd_starts us a (col_opnd (dotted_col {alias = first} {name = name} f g)) rest = record { first = Word first; rest = Dot ∷ Word name ∷ rest; parts = refl; no_not = free_not first 9 (lit< tt) f }
opnd_starts us a (long_opnd (positive_long {bs = bs} e)) rest = record { first = Digits bs; rest = rest; parts = refl; no_not = refl }
opnd_starts us a (long_opnd (negative_long {bs = bs} e)) rest = record { first = Negative bs; rest = rest; parts = refl; no_not = refl }
opnd_starts us a (text_opnd {text = text}) rest = record { first = Quoted text; rest = rest; parts = refl; no_not = refl }
opnd_starts us a (true_opnd (spelled {bs = w} e)) rest = record { first = Word w; rest = rest; parts = refl; no_not = apart w (codes "TRUE") (codes "NOT") e refl }
opnd_starts us a (false_opnd (spelled {bs = w} e)) rest = record { first = Word w; rest = rest; parts = refl; no_not = apart w (codes "FALSE") (codes "NOT") e refl }
opnd_starts us a (param_opnd {n = n}) rest = record { first = Param n; rest = rest; parts = refl; no_not = refl }

with_rest : (us rest : List Token) → StartsWith us → StartsWith (us ++ rest)
with_rest us rest s = record { first = s.first; rest = s.rest ++ rest; parts = ap (λ (w : List Token). w ++ rest) s.parts; no_not = s.no_not }

atom_starts : (us : List Token) (a : WrittenCondition) → HasAtom us a → StartsWith us
atom_starts us a (enclosed {ts = ts} h) = record { first = Open; rest = ts ++ Close ∷ []; parts = refl; no_not = refl }
atom_starts us a (comparison {us = xs} {vs = ys} {cmp = cmp} {a = b} h k) = opnd_starts xs b h (Test cmp ∷ ys)
atom_starts us a (bare {col = col} h) = subst StartsWith (append-nil us) (opnd_starts us (written.Column col) (col_opnd h) [])
atom_starts us a (exists {ts = ts} (spelled {bs = w} e) (spelled {bs = v} k) h) = record { first = Word w; rest = Open ∷ Word v ∷ Digits (codes "1") ∷ ts ++ Close ∷ []; parts = refl; no_not = apart w (codes "EXISTS") (codes "NOT") e refl }
atom_starts us a (within {us = xs} {ins = ins} {cs = cs} {ts = ts} {opnd = opnd} h i (spelled {bs = v} k) c s) = opnd_starts xs opnd h (ins ++ Open ∷ Word v ∷ (cs ++ (ts ++ Close ∷ [])))

starts_long : (us : List Token) → StartsWith us → 0 < length us
starts_long us s = let e : length us ≡ suc (length s.rest) = ap length s.parts in omega (arith, e)

-- ---- chains

-- the chain goes on from here
pub record Leads {A : Type 0} (read : Read A) (keyword : List ℕ) (make : A → A → A) (operand : List Token → Read A) (a : A) (rest : List Token) : Type 0 where
  pub most : ℕ
  pub room : length rest ≤ most
  pub goes_on : read ≡ joined_from keyword make operand most a rest

pub chain_starts : {A : Type 0} (keyword : List ℕ) (make : A → A → A) (operand : List Token → Read A) (ts : List Token) (a : A) (rest : List Token) → operand ts ≡ taken a rest → Leads (joined_at keyword make operand ts) keyword make operand a rest
chain_starts {A} keyword make operand ts a rest e = record { most = length rest; room = omega arith; goes_on = ap (λ (r : Read A). r >>= λ x. joined_from keyword make operand (length x.1) x.0 x.1) e }

chain_step : {A : Type 0} (keyword : List ℕ) (make : A → A → A) (operand : List Token → Read A) (most : ℕ) (a b : A) (w : List ℕ) (ts rest : List Token) → str_eq_ignore_ascii_case w keyword ≡ true → operand ts ≡ taken b rest → joined_from keyword make operand (suc most) a (Word w ∷ ts) ≡ joined_from keyword make operand most (make a b) rest
unfolding joined_from
chain_step {A} keyword make operand most a b w ts rest e read = rw e (ap (λ (r : Read A). r >>= λ x. joined_from keyword make operand most (make a x.0) x.1) read)

chain_more : {A : Type 0} (keyword : List ℕ) (make : A → A → A) (operand : List Token → Read A) (read : Read A) (a b : A) (w : List ℕ) (vs rest : List Token) → str_eq_ignore_ascii_case w keyword ≡ true → Leads read keyword make operand a (Word w ∷ (vs ++ rest)) → operand (vs ++ rest) ≡ taken b rest → Leads read keyword make operand (make a b) rest
chain_more {A} keyword make operand read a b w vs rest e lead next = go lead.most lead.room lead.goes_on
  where
    go : (most : ℕ) → suc (length (vs ++ rest)) ≤ most → read ≡ joined_from keyword make operand most a (Word w ∷ (vs ++ rest)) → Leads read keyword make operand (make a b) rest
    go zero room g = absurd (omega (arith, room))
    go (suc most) room g = record { most = most; room = omega (arith, room, length-append vs rest); goes_on = g ∙ chain_step keyword make operand most a b w (vs ++ rest) rest e next }

chain_ends : {A : Type 0} (keyword : List ℕ) (make : A → A → A) (operand : List Token → Read A) (most : ℕ) (a : A) (rest : List Token) → after_word keyword rest ≡ None → joined_from keyword make operand most a rest ≡ taken a rest
unfolding joined_from
chain_ends keyword make operand zero a rest e = refl
chain_ends {A} keyword make operand (suc most) a rest e = ap (λ (o : Option (List Token)). given o (λ us. operand us >>= λ x. joined_from keyword make operand most (make a x.0) x.1) (taken a rest)) e

-- ---- FROM and WHERE

where_stop : (group : Conditions) (rest : List Token) → ends after_source rest ≡ true → where_at group rest ≡ taken Everything rest
where_stop group [] h = refl
where_stop group (Word w ∷ ts) h = rw (not_word (codes "WHERE") after_source (Word w) ts h refl) refl
where_stop group (t ∷ ts) h = refl

weaker : (a b c d : Bool) → (b || (c || (d || false))) ≡ true → (a || (b || (c || (d || false)))) ≡ true
weaker true b c d h = refl
weaker false b c d h = h

-- what may follow a source may follow its parts
after_parts_too : (rest : List Token) → ends after_source rest ≡ true → ends after_parts rest ≡ true
after_parts_too [] h = refl
after_parts_too (Word w ∷ ts) h = weaker (str_eq_ignore_ascii_case w (codes "WHERE")) (str_eq_ignore_ascii_case w (codes "GROUP")) (str_eq_ignore_ascii_case w (codes "ORDER")) (str_eq_ignore_ascii_case w (codes "LIMIT")) h
after_parts_too (t ∷ ts) h = h

where_follows : (vs : List Token) (f : WrittenFilter) → HasWhere vs f → (rest : List Token) → ends after_source rest ≡ true → ends after_parts (vs ++ rest) ≡ true
where_follows vs f no_where rest stop = after_parts_too rest stop
where_follows vs f (where_of (spelled e) h) rest stop = rw e refl

where_no_comma : (vs : List Token) (f : WrittenFilter) → HasWhere vs f → (rest : List Token) → no_comma rest ≡ true → no_comma (vs ++ rest) ≡ true
where_no_comma vs f no_where rest last = last
where_no_comma vs f (where_of (spelled e) h) rest last = refl

abbrev pub Source : Type 0
Source = List WrittenPart × WrittenFilter

abbrev pub closing : {A : Type 0} → Read A → Read A
closing r = r >>= λ x. after_close x.1 >>= λ vs. taken x.0 vs

source_read : (group : Conditions) (w : List ℕ) (us vs rest : List Token) (ps : List WrittenPart) (f : WrittenFilter) → str_eq_ignore_ascii_case w (codes "FROM") ≡ true → parts_at (us ++ (vs ++ rest)) ≡ taken ps (vs ++ rest) → where_at group (vs ++ rest) ≡ taken f rest → source_at group ((Word w ∷ us ++ vs) ++ rest) ≡ taken {A = Source} (ps, f) rest
source_read group w us vs rest ps f e first second =
    rw e
    (ap (λ (ts : List Token). parts_at ts >>= λ x. where_at group x.1 >>= λ y. taken {A = Source} (x.0, y.0) y.1) (append_assoc us vs rest)
    ∙ ap (λ (r : Read (List WrittenPart)). r >>= λ x. where_at group x.1 >>= λ y. taken {A = Source} (x.0, y.0) y.1) first
    ∙ ap (λ (r : Read WrittenFilter). r >>= λ y. taken {A = Source} (ps, y.0) y.1) second)

-- ---- conditions in parentheses, EXISTS and IN

enclosed_read : (group : Conditions) (ts rest : List Token) (a : WrittenCondition) → group (ts ++ (Close ∷ rest)) ≡ taken a (Close ∷ rest) → atom_at group ((Open ∷ ts ++ Close ∷ []) ++ rest) ≡ taken a rest
unfolding atom_at
enclosed_read group ts rest a read =
    ap (λ (us : List Token). group us >>= λ x. after_close x.1 >>= λ vs. taken x.0 vs) (append_assoc ts (Close ∷ []) rest)
    ∙ ap (λ (r : Read WrittenCondition). r >>= λ x. after_close x.1 >>= λ vs. taken x.0 vs) read

abbrev as_exists : Read Source → Read WrittenCondition
as_exists r = r >>= λ x. taken (Exists x.0.0 x.0.1) x.1

exists_read : (group : Conditions) (w v : List ℕ) (ts rest : List Token) (ps : List WrittenPart) (f : WrittenFilter) → str_eq_ignore_ascii_case w (codes "EXISTS") ≡ true → str_eq_ignore_ascii_case v (codes "SELECT") ≡ true → source_at group (ts ++ (Close ∷ rest)) ≡ taken {A = Source} (ps, f) (Close ∷ rest)
    → atom_at group ((Word w ∷ Open ∷ Word v ∷ Digits (codes "1") ∷ ts ++ Close ∷ []) ++ rest) ≡ taken (Exists ps f) rest
unfolding atom_at
exists_read group w v ts rest ps f e k read =
    rw (e, k) (ap (λ (us : List Token). as_exists (closing (source_at group us))) (append_assoc ts (Close ∷ []) rest) ∙ ap (λ (r : Read Source). as_exists (closing r)) read)

comparison_read : (group : Conditions) (us vs : List Token) (cmp : Cmp) (a b : WrittenOpnd) → HasOpnd us a → HasOpnd vs b → (rest : List Token) → no_dot rest ≡ true → atom_at group ((us ++ Test cmp ∷ vs) ++ rest) ≡ taken (Compare cmp a b) rest
comparison_read group us vs cmp a b h k rest stop =
    ap (atom_at group) (append_assoc us (Test cmp ∷ vs) rest)
    ∙ opnd_then group us a h (Test cmp ∷ (vs ++ rest)) refl
    ∙ ap (λ (r : Read WrittenOpnd). r >>= λ x. taken (Compare cmp a x.0) x.1) (opnd_again vs b k rest stop)

abbrev Inner : Type 0
Inner = WrittenCol × Source

abbrev as_within : WrittenOpnd → Bool → Read Inner → Read WrittenCondition
as_within a negated r = r >>= λ y. taken (Within a negated y.0.0 y.0.1.0 y.0.1.1) y.1

abbrev with_source : WrittenCol → Read Source → Read Inner
with_source col r = r >>= λ y. taken {A = Inner} (col, y.0) y.1

abbrev inner_of : Conditions → Read WrittenCol → Read Inner
inner_of group r = r >>= λ x. with_source x.0 (source_at group x.1)

-- IN, NOT IN and what follows
in_no_dot : (ins : List Token) (negated : Bool) → HasIn ins negated → (rest : List Token) → no_dot (ins ++ rest) ≡ true
in_no_dot ins negated (is_in (spelled e)) rest = refl
in_no_dot ins negated (not_in (spelled e) (spelled k)) rest = refl

in_from : (group : Conditions) (a : WrittenOpnd) (ins : List Token) (negated : Bool) → HasIn ins negated → (rest : List Token) → atom_from group a (ins ++ rest) ≡ within_from group a (ins ++ rest)
in_from group a ins negated (is_in (spelled e)) rest = refl
in_from group a ins negated (not_in (spelled e) (spelled k)) rest = refl

within_read : (group : Conditions) (us ins cs ts rest : List Token) (v : List ℕ) (a : WrittenOpnd) (negated : Bool) (col : WrittenCol) (ps : List WrittenPart) (f : WrittenFilter) → HasOpnd us a → HasIn ins negated → str_eq_ignore_ascii_case v (codes "SELECT") ≡ true → HasCol cs col → no_dot (ts ++ (Close ∷ rest)) ≡ true → source_at group (ts ++ (Close ∷ rest)) ≡ taken {A = Source} (ps, f) (Close ∷ rest)
    → atom_at group ((us ++ (ins ++ Open ∷ Word v ∷ (cs ++ (ts ++ Close ∷ [])))) ++ rest) ≡ taken (Within a negated col ps f) rest
within_read group us ins cs ts rest v a negated col ps f h i k c stop read =
    ap (atom_at group) (append_assoc us (ins ++ Open ∷ Word v ∷ (cs ++ (ts ++ Close ∷ []))) rest ∙ ap (λ (w : List Token). us ++ w) (append_assoc ins (Open ∷ Word v ∷ (cs ++ (ts ++ Close ∷ []))) rest))
    ∙ opnd_then group us a h (ins ++ (Open ∷ Word v ∷ ((cs ++ (ts ++ Close ∷ [])) ++ rest))) (in_no_dot ins negated i (Open ∷ Word v ∷ ((cs ++ (ts ++ Close ∷ [])) ++ rest)))
    ∙ in_from group a ins negated i (Open ∷ Word v ∷ ((cs ++ (ts ++ Close ∷ [])) ++ rest))
    ∙ ap (λ (o : Read Bool). given o (λ x. enclosed_at (column_at group) x.1 >>= λ y. taken (Within a x.0 y.0.0 y.0.1.0 y.0.1.1) y.1) (bare_from a (ins ++ (Open ∷ Word v ∷ ((cs ++ (ts ++ Close ∷ [])) ++ rest))))) (in_again ins negated i (Open ∷ Word v ∷ ((cs ++ (ts ++ Close ∷ [])) ++ rest)))
    ∙ rw k
    (ap (λ (w : List Token). as_within a negated (closing (inner_of group (col_at w)))) (append_assoc cs (ts ++ Close ∷ []) rest ∙ ap (λ (w : List Token). cs ++ w) (append_assoc ts (Close ∷ []) rest))
    ∙ ap (λ (r : Read WrittenCol). as_within a negated (closing (inner_of group r))) (col_again cs col c (ts ++ (Close ∷ rest)) stop)
    ∙ ap (λ (r : Read Source). as_within a negated (closing (with_source col r))) read)

-- ---- the whole of a condition

source_no_dot : (ts : List Token) (ps : List WrittenPart) (f : WrittenFilter) → HasSource ts ps f → (rest : List Token) → no_dot (ts ++ rest) ≡ true
source_no_dot ts ps f (source (spelled e) p w) rest = refl

not_step : (atom : Conditions) (n : ℕ) (w : List ℕ) (ts rest : List Token) (a : WrittenCondition) → str_eq_ignore_ascii_case w (codes "NOT") ≡ true → negation_in atom n ts ≡ taken a rest → negation_in atom (suc n) (Word w ∷ ts) ≡ taken (Not a) rest
unfolding negation_in
not_step atom n w ts rest a e read = rw e (ap (λ (r : Read WrittenCondition). r >>= λ x. taken (Not x.0) x.1) read)

no_not_step : (atom : Conditions) (n : ℕ) (t : Token) (ts : List Token) → is_word (codes "NOT") t ≡ false → negation_in atom (suc n) (t ∷ ts) ≡ atom (t ∷ ts)
unfolding negation_in
no_not_step atom n t ts e = rw e refl

one_negation_read : (atom : Conditions) (n : ℕ) (us rest : List Token) (a : WrittenCondition) → StartsWith us → length us ≤ n → atom (us ++ rest) ≡ taken a rest → negation_in atom n (us ++ rest) ≡ taken a rest
one_negation_read atom zero us rest a s room read = absurd (let l = starts_long us s in omega (arith, l, room))
one_negation_read atom (suc n) us rest a s room read =
    ap (λ (w : List Token). negation_in atom (suc n) (w ++ rest)) s.parts
    ∙ no_not_step atom n s.first (s.rest ++ rest) s.no_not
    ∙ ap (λ (w : List Token). atom (w ++ rest)) (sym s.parts)
    ∙ read

or_stops : (rest : List Token) → ends after_source rest ≡ true → after_word (codes "OR") rest ≡ None
or_stops rest stop = no_word (codes "OR") after_source rest stop refl

and_stops : (rest : List Token) → ends after_conjunction rest ≡ true → after_word (codes "AND") rest ≡ None
and_stops rest stop = no_word (codes "AND") after_conjunction rest stop refl

weaker_by : (a b : Bool) → b ≡ true → (a || b) ≡ true
weaker_by true b h = refl
weaker_by false b h = h

conjunction_follows : (rest : List Token) → ends after_source rest ≡ true → ends after_conjunction rest ≡ true
conjunction_follows [] h = refl
conjunction_follows (Word w ∷ ts) h = weaker_by (str_eq_ignore_ascii_case w (codes "OR")) (ends after_source (Word w ∷ ts)) h
conjunction_follows (t ∷ ts) h = h

atom_follows : (rest : List Token) → ends after_conjunction rest ≡ true → ends after_atom rest ≡ true
atom_follows [] h = refl
atom_follows (Word w ∷ ts) h = weaker_by (str_eq_ignore_ascii_case w (codes "AND")) (ends after_conjunction (Word w ∷ ts)) h
atom_follows (t ∷ ts) h = h

ended : (us : List Token) (a : WrittenCondition) (n : ℕ) (rest : List Token) → Leads (joined_at (codes "OR") Either (conjunction_at (condition_at n)) (us ++ rest)) (codes "OR") Either (conjunction_at (condition_at n)) a rest → ends after_source rest ≡ true → condition_at (suc n) (us ++ rest) ≡ taken a rest
unfolding condition_at
ended us a n rest lead stop = lead.goes_on ∙ chain_ends (codes "OR") Either (conjunction_at (condition_at n)) lead.most a rest (or_stops rest stop)

conjunction_ended : (us : List Token) (a : WrittenCondition) (n : ℕ) (rest : List Token) → Leads (joined_at (codes "AND") Both (negation_at (atom_at (condition_at n))) (us ++ rest)) (codes "AND") Both (negation_at (atom_at (condition_at n))) a rest → ends after_conjunction rest ≡ true → conjunction_at (condition_at n) (us ++ rest) ≡ taken a rest
unfolding conjunction_at
conjunction_ended us a n rest lead stop = lead.goes_on ∙ chain_ends (codes "AND") Both (negation_at (atom_at (condition_at n))) lead.most a rest (and_stops rest stop)

condition_ended : (us : List Token) (a : WrittenCondition) (n : ℕ) → length us < n → (rest : List Token) → ((m : ℕ) → length us ≤ m → Leads (joined_at (codes "OR") Either (conjunction_at (condition_at m)) (us ++ rest)) (codes "OR") Either (conjunction_at (condition_at m)) a rest) → ends after_source rest ≡ true → condition_at n (us ++ rest) ≡ taken a rest
condition_ended us a zero room rest lead stop = absurd (omega (arith, room))
condition_ended us a (suc n) room rest lead stop = ended us a n rest (lead n (omega (arith, room))) stop

within_room : (xs ins cs ts : List Token) (v : List ℕ) (n : ℕ) → length (xs ++ (ins ++ Open ∷ Word v ∷ (cs ++ (ts ++ Close ∷ [])))) ≤ n → length ts ≤ n
within_room xs ins cs ts v n room = omega (arith, room, length-append xs (ins ++ Open ∷ Word v ∷ (cs ++ (ts ++ Close ∷ []))), length-append ins (Open ∷ Word v ∷ (cs ++ (ts ++ Close ∷ []))), length-append cs (ts ++ Close ∷ []), length-append ts (Close ∷ []))

mutual
  or_leads : (us : List Token) (a : WrittenCondition) → HasCondition us a → (n : ℕ) → length us ≤ n → (rest : List Token) → ends after_conjunction rest ≡ true → Leads (joined_at (codes "OR") Either (conjunction_at (condition_at n)) (us ++ rest)) (codes "OR") Either (conjunction_at (condition_at n)) a rest
  or_leads us a (one_conjunction h) n room rest stop = chain_starts (codes "OR") Either (conjunction_at (condition_at n)) (us ++ rest) a rest (conjunction_ended us a n rest (and_leads us a h n room rest (atom_follows rest stop)) stop)
  or_leads us a (either {us = xs} {vs = ys} {a = b} {b = c} h (spelled {bs = w} e) k) n room rest stop =
      subst (λ (ts : List Token). Leads (joined_at (codes "OR") Either (conjunction_at (condition_at n)) ts) (codes "OR") Either (conjunction_at (condition_at n)) (Either b c) rest) (sym (append_assoc xs (Word w ∷ ys) rest))
      (chain_more (codes "OR") Either (conjunction_at (condition_at n)) (joined_at (codes "OR") Either (conjunction_at (condition_at n)) (xs ++ (Word w ∷ (ys ++ rest)))) b c w ys rest e
      (or_leads xs b h n (omega (arith, room, length-append xs (Word w ∷ ys))) (Word w ∷ (ys ++ rest)) (rw e refl))
      (conjunction_ended ys c n rest (and_leads ys c k n (omega (arith, room, length-append xs (Word w ∷ ys))) rest (atom_follows rest stop)) stop))

  and_leads : (us : List Token) (a : WrittenCondition) → HasConjunction us a → (n : ℕ) → length us ≤ n → (rest : List Token) → ends after_atom rest ≡ true → Leads (joined_at (codes "AND") Both (negation_at (atom_at (condition_at n))) (us ++ rest)) (codes "AND") Both (negation_at (atom_at (condition_at n))) a rest
  and_leads us a (one_negation h) n room rest stop = chain_starts (codes "AND") Both (negation_at (atom_at (condition_at n))) (us ++ rest) a rest (negation_again us a h n room rest stop (length (us ++ rest)) (omega (arith, length-append us rest)))
  and_leads us a (both {us = xs} {vs = ys} {a = b} {b = c} h (spelled {bs = w} e) k) n room rest stop =
      subst (λ (ts : List Token). Leads (joined_at (codes "AND") Both (negation_at (atom_at (condition_at n))) ts) (codes "AND") Both (negation_at (atom_at (condition_at n))) (Both b c) rest) (sym (append_assoc xs (Word w ∷ ys) rest))
      (chain_more (codes "AND") Both (negation_at (atom_at (condition_at n))) (joined_at (codes "AND") Both (negation_at (atom_at (condition_at n))) (xs ++ (Word w ∷ (ys ++ rest)))) b c w ys rest e
      (and_leads xs b h n (omega (arith, room, length-append xs (Word w ∷ ys))) (Word w ∷ (ys ++ rest)) (rw e refl))
      (negation_again ys c k n (omega (arith, room, length-append xs (Word w ∷ ys))) rest stop (length (ys ++ rest)) (omega (arith, length-append ys rest))))

  negation_again : (us : List Token) (a : WrittenCondition) → HasNegation us a → (n : ℕ) → length us ≤ n → (rest : List Token) → ends after_atom rest ≡ true → (m : ℕ) → length us ≤ m → negation_in (atom_at (condition_at n)) m (us ++ rest) ≡ taken a rest
  negation_again us a (one_atom h) n room rest stop m more = one_negation_read (atom_at (condition_at n)) m us rest a (atom_starts us a h) more (atom_again us a h n room rest stop)
  negation_again us a (negation (spelled {bs = w} e) h) n room rest stop zero more = absurd (omega (arith, more))
  negation_again us a (negation {ts = ts} {a = b} (spelled {bs = w} e) h) n room rest stop (suc m) more = not_step (atom_at (condition_at n)) m w (ts ++ rest) rest b e (negation_again ts b h n (omega (arith, room)) rest stop m (omega (arith, more)))

  atom_again : (us : List Token) (a : WrittenCondition) → HasAtom us a → (n : ℕ) → length us ≤ n → (rest : List Token) → ends after_atom rest ≡ true → atom_at (condition_at n) (us ++ rest) ≡ taken a rest
  atom_again us a (enclosed {ts = ts} h) n room rest stop = enclosed_read (condition_at n) ts rest a (condition_ended ts a n (omega (arith, room, length-append ts (Close ∷ []))) (Close ∷ rest) (λ m l. or_leads ts a h m l (Close ∷ rest) refl) refl)
  atom_again us a (comparison {us = xs} {vs = ys} {cmp = cmp} {a = b} {b = c} h k) n room rest stop = comparison_read (condition_at n) xs ys cmp b c h k rest (ends_no_dot after_atom rest stop)
  atom_again us a (bare {col = col} h) n room rest stop = opnd_then (condition_at n) us (written.Column col) (col_opnd h) rest (ends_no_dot after_atom rest stop) ∙ bare_stop (condition_at n) col rest stop
  atom_again us a (exists {ts = ts} {parts = ps} {where_ = f} (spelled {bs = w} e) (spelled {bs = v} k) s) n room rest stop =
      exists_read (condition_at n) w v ts rest ps f e k (source_again ts ps f s n (omega (arith, room, length-append ts (Close ∷ []))) (Close ∷ rest) refl refl)
  atom_again us a (within {us = xs} {ins = ins} {cs = cs} {ts = ts} {opnd = opnd} {negated = negated} {col = col} {parts = ps} {where_ = f} h i (spelled {bs = v} k) c s) n room rest stop =
      within_read (condition_at n) xs ins cs ts rest v opnd negated col ps f h i k c (source_no_dot ts ps f s (Close ∷ rest))
      (source_again ts ps f s n (within_room xs ins cs ts v n room) (Close ∷ rest) refl refl)

  pub source_again : (us : List Token) (ps : List WrittenPart) (f : WrittenFilter) → HasSource us ps f → (n : ℕ) → length us ≤ n → (rest : List Token) → ends after_source rest ≡ true → no_comma rest ≡ true → source_at (condition_at n) (us ++ rest) ≡ taken {A = Source} (ps, f) rest
  source_again us ps f (source {us = xs} {vs = ys} (spelled {bs = w} e) p h) n room rest stop last =
      source_read (condition_at n) w xs ys rest ps f e
      (parts_again xs ps p (length (xs ++ (ys ++ rest))) (omega (arith, length-append xs (ys ++ rest))) (ys ++ rest) (where_follows ys f h rest stop) (where_no_comma ys f h rest last))
      (where_again ys f h n (omega (arith, room, length-append xs ys)) rest stop)

  where_again : (us : List Token) (f : WrittenFilter) → HasWhere us f → (n : ℕ) → length us ≤ n → (rest : List Token) → ends after_source rest ≡ true → where_at (condition_at n) (us ++ rest) ≡ taken f rest
  where_again us f no_where n room rest stop = where_stop (condition_at n) rest stop
  where_again us f (where_of {ts = ts} {a = a} (spelled {bs = w} e) h) n room rest stop = rw e (ap (λ (r : Read WrittenCondition). r >>= λ x. taken (Where x.0) x.1) (condition_ended ts a n (omega (arith, room)) rest (λ m l. or_leads ts a h m l rest (conjunction_follows rest stop)) stop))
