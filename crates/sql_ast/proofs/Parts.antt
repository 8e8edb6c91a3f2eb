-- Columns, operands, keys and FROM items that tokens have by the grammar are read from them.
use Rattle.std.proofs.Common.{◌≡◌, ℕ, zero, suc, ◌<◌, ◌≤◌, Bool, true, List, [], ◌∷◌, ◌++◌, length, Option, Some, None, codes, refl, ap, ◌∙◌, arith, append_assoc, length-append, lit<}
use Rattle.sql_ast.specs.Grammar.{spelled, HasCol, plain_col, dotted_col, positive_long, negative_long, HasOpnd, col_opnd, long_opnd, text_opnd, true_opnd, false_opnd, param_opnd, HasPart, plain_part, alias_part, as_part, HasParts, last_part, more_parts, HasIn, is_in, not_in}
use Rattle.sql_ast.specs.Names.{◌>>=◌}
use Rattle.sql_ast.specs.Reader.{Read, given, col_from, col_at, opnd_at, part_from, part_at, listed_at, in_at, after_comma}
use Rattle.sql_ast.specs.Tokens.{Token, Word, Comma, Dot, is_free}
use Rattle.sql_ast.specs.Written.{WrittenCol, WrittenPart, WrittenOpnd}
use Rattle.sql_ast.specs.Written as written
use Rattle.sql_ast.proofs.Words.{apart, apart_any, free_not, ends, no_comma, no_dot, no_comma_after, no_alias, after_parts}

abbrev pub taken : {A : Type 0} → A → List Token → Read A
taken x rest = Some (x, rest)

col_stop : (name : List ℕ) (rest : List Token) → no_dot rest ≡ true → col_from name rest ≡ taken (record { alias = None; name = name }) rest
col_stop name [] h = refl
col_stop name (Dot ∷ ts) h = absurd cc
col_stop name (t ∷ ts) h = refl

pub col_again : (us : List Token) (col : WrittenCol) → HasCol us col → (rest : List Token) → no_dot rest ≡ true → col_at (us ++ rest) ≡ taken col rest
col_again us col (plain_col {name = name} f) rest h = rw f (col_stop name rest h)
col_again us col (dotted_col {alias = first} {name = name} f g) rest h = rw (f, g) refl

abbrev as_opnd : Read WrittenCol → Read WrittenOpnd
as_opnd r = r >>= λ x. Some (written.Column x.0, x.1)

free_opnd : (name : List ℕ) (rest : List Token) → is_free name ≡ true → opnd_at (Word name ∷ rest) ≡ as_opnd (col_at (Word name ∷ rest))
free_opnd name rest f = rw (free_not name 15 (lit< tt) f, free_not name 16 (lit< tt) f) refl

pub opnd_again : (us : List Token) (a : WrittenOpnd) → HasOpnd us a → (rest : List Token) → no_dot rest ≡ true → opnd_at (us ++ rest) ≡ taken a rest
opnd_again us a (col_opnd (plain_col {name = name} f)) rest h = free_opnd name rest f ∙ ap as_opnd (col_again (Word name ∷ []) (record { alias = None; name = name }) (plain_col f) rest h)
opnd_again us a (col_opnd (dotted_col {alias = first} {name = name} f g)) rest h = free_opnd first (Dot ∷ Word name ∷ rest) f ∙ ap as_opnd (col_again (Word first ∷ Dot ∷ Word name ∷ []) (record { alias = Some first; name = name }) (dotted_col f g) rest h)
opnd_again us a (long_opnd (positive_long e)) rest h = rw e refl
opnd_again us a (long_opnd (negative_long e)) rest h = rw e refl
opnd_again us a text_opnd rest h = refl
opnd_again us a (true_opnd (spelled e)) rest h = rw e refl
opnd_again us a (false_opnd (spelled {bs = w} e)) rest h = rw (apart w (codes "FALSE") (codes "TRUE") e refl, e) refl
opnd_again us a param_opnd rest h = refl

part_stop : (table : List ℕ) (rest : List Token) → ends after_parts rest ≡ true → part_from table rest ≡ taken (record { table = table; alias = None }) rest
part_stop table [] h = refl
part_stop table (Word w ∷ ts) h = rw (no_alias w h, apart_any w (codes "AS") after_parts h refl) refl
part_stop table (t ∷ ts) h = refl

pub part_again : (us : List Token) (part : WrittenPart) → HasPart us part → (rest : List Token) → ends after_parts rest ≡ true → part_at (us ++ rest) ≡ taken part rest
part_again us part (plain_part {table = table} f) rest h = rw f (part_stop table rest h)
part_again us part (alias_part {table = table} {alias = a} f g) rest h = rw (f, g, free_not a 12 (lit< tt) g) refl
part_again us part (as_part {table = table} {alias = a} f (spelled e) g) rest h = rw (f, e, g) refl

pub part_takes : (us : List Token) (part : WrittenPart) → HasPart us part → 0 < length us
part_takes us part (plain_part f) = lit< tt
part_takes us part (alias_part f g) = lit< tt
part_takes us part (as_part f (spelled e) g) = lit< tt

-- a list's last item, and an item with further ones
pub listed_last : {A : Type 0} (item : List Token → Read A) (n : ℕ) (us : List Token) (x : A) (rest : List Token) → 0 < length us → length us ≤ n → item (us ++ rest) ≡ taken x rest → no_comma rest ≡ true → listed_at item n (us ++ rest) ≡ taken (x ∷ []) rest
unfolding listed_at
listed_last item zero us x rest some room read stop = absurd (omega (arith, some, room))
listed_last {A} item (suc n) us x rest some room read stop =
    ap (λ (r : Read A). r >>= λ y. given (after_comma y.1) (λ later. listed_at item n later >>= λ ys. taken (y.0 ∷ ys.0) ys.1) (taken (y.0 ∷ []) y.1)) read
    ∙ ap (λ (o : Option (List Token)). given o (λ later. listed_at item n later >>= λ ys. taken (x ∷ ys.0) ys.1) (taken (x ∷ []) rest)) (no_comma_after rest stop)

pub listed_more : {A : Type 0} (item : List Token → Read A) (n : ℕ) (us vs : List Token) (x : A) (xs : List A) (rest : List Token) → item (us ++ (Comma ∷ (vs ++ rest))) ≡ taken x (Comma ∷ (vs ++ rest)) → listed_at item n (vs ++ rest) ≡ taken xs rest → listed_at item (suc n) ((us ++ Comma ∷ vs) ++ rest) ≡ taken (x ∷ xs) rest
unfolding listed_at
listed_more {A} item n us vs x xs rest read later =
    ap (listed_at item (suc n)) (append_assoc us (Comma ∷ vs) rest)
    ∙ ap (λ (r : Read A). r >>= λ y. given (after_comma y.1) (λ later. listed_at item n later >>= λ ys. taken (y.0 ∷ ys.0) ys.1) (taken (y.0 ∷ []) y.1)) read
    ∙ ap (λ (r : Read (List A)). r >>= λ ys. taken (x ∷ ys.0) ys.1) later

pub more_room : (us vs : List Token) (n : ℕ) → length (us ++ Comma ∷ vs) ≤ suc n → length vs ≤ n
more_room us vs n room = omega (arith, room, length-append us (Comma ∷ vs))

pub parts_again : (us : List Token) (ps : List WrittenPart) → HasParts us ps → (n : ℕ) → length us ≤ n → (rest : List Token) → ends after_parts rest ≡ true → no_comma rest ≡ true → listed_at part_at n (us ++ rest) ≡ taken ps rest
parts_again us ps (last_part {part = part} h) n room rest stop last = listed_last part_at n us part rest (part_takes us part h) room (part_again us part h rest stop) last
parts_again us ps (more_parts {us = xs} {vs = ys} {part = part} {parts = later} h k) zero room rest stop last = absurd (omega (arith, room, length-append xs (Comma ∷ ys)))
parts_again us ps (more_parts {us = xs} {vs = ys} {part = part} {parts = later} h k) (suc n) room rest stop last =
    listed_more part_at n xs ys part later rest (part_again xs part h (Comma ∷ (ys ++ rest)) refl) (parts_again ys later k n (more_room xs ys n room) rest stop last)

pub in_again : (us : List Token) (negated : Bool) → HasIn us negated → (rest : List Token) → in_at (us ++ rest) ≡ taken negated rest
in_again us negated (is_in (spelled e)) rest = rw e refl
in_again us negated (not_in (spelled {bs = w} e) (spelled k)) rest = rw (apart w (codes "NOT") (codes "IN") e refl, e, k) refl
