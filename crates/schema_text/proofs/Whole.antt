-- All tokens of a text: what is read has them by the grammar, and where reading stops is the first fault.
use Rattle.std.proofs.Common.{◌≡◌, ℕ, suc, ◌≤◌, length, arith, List, [], ◌∷◌, ◌++◌, map, Ok, Err, refl, sym, subst, inl, inr}
use Rattle.std.proofs.lemmas.List.{append-nil}
use Rattle.readers.specs.declared.fault.Fault.{Fault}
use Rattle.readers.specs.declared.fault.Fault.TheVariants.{Unexpected, TooDeep}
use Rattle.readers.specs.Reading.{Read, IsDeep, token_at, both, made, either, many, ended, whole, IsFirstFault}
use Rattle.readers.proofs.Tools.{bind_err}
use Rattle.readers.proofs.Lawful.{IsPast}
use Rattle.readers.proofs.Again.{Leads, Leads-bind}
use Rattle.readers.proofs.Whole.{whole_found, first_fault}
use Rattle.qbs_base.specs.declared.columns.Table.{Table}
use Rattle.schema.specs.declared.token.Kind.{Kind}
use Rattle.schema.specs.declared.token.Sign.TheVariants.{Open, Close, Comma, Semicolon}
use Rattle.std.specs.Prelude.{codes}
use Rattle.qbs_base.specs.declared.scalar.Ty.TheVariants as ty
use Rattle.schema.specs.declared.draft.Item.TheVariants as items
use Rattle.schema.specs.declared.draft.Mark.TheVariants.{NotNull, PrimaryKey}
use Rattle.schema.specs.Marks.{no_marks, column_of, table_of}
use Rattle.schema.specs.Grammar.{HasSchema}
use Rattle.schema.specs.Schemas.{left_of}
use Rattle.schema.specs.Reading.{is_word, is_sign, is_digits, passing, word_in, name_at, word_at, sign_at, digits_at, type_in, sized_at, type_at, is_no_mark, mark_at, marked, marks_at, rest_at, is_no_comma, next_name_at, next_names_at, names_at, key_clause, column_rest, key_at, typed_at, named, column_at, primary_in, primary_at, item_at, next_item_at, columns_at, head_at, body_at, tail_at, draft_from, draft_at, never, drafts_at, tables_at, read_of}
use Rattle.readers.proofs.Shallow.{Shallow, token_shallow, both_shallow, made_shallow, either_shallow, many_shallow, whole_shallow}
use Rattle.schema_text.proofs.Shallow.{series_shallow}
use Rattle.schema_text.proofs.Grammatical.{tables_lawful}
use Rattle.schema_text.proofs.Complete.{tables_again}

-- ---- nothing is too deep

name_shallow : Shallow name_at
name_shallow = token_shallow word_in

word_shallow : (keyword : List ℕ) → Shallow (word_at keyword)
word_shallow keyword = token_shallow (passing (is_word keyword))

digits_shallow : Shallow digits_at
digits_shallow = token_shallow (passing is_digits)

type_shallow : Shallow type_at
unfolding type_at sized_at
type_shallow =
    either_shallow (is_word (codes "VARCHAR")) sized_at (token_at type_in)
    (made_shallow (λ _. ty.Text) (both (word_at (codes "VARCHAR")) (both (sign_at Open) (both digits_at (sign_at Close))))
    (both_shallow (word_at (codes "VARCHAR")) (both (sign_at Open) (both digits_at (sign_at Close))) (word_shallow (codes "VARCHAR"))
    (both_shallow (sign_at Open) (both digits_at (sign_at Close)) (token_shallow (passing (is_sign Open))) (both_shallow digits_at (sign_at Close) digits_shallow (token_shallow (passing (is_sign Close)))))))
    (token_shallow type_in)

mark_shallow : Shallow mark_at
unfolding mark_at
mark_shallow =
    either_shallow (is_word (codes "NOT")) (made (λ _. NotNull) (both (word_at (codes "NOT")) (word_at (codes "NULL")))) (made (λ _. PrimaryKey) (both (word_at (codes "PRIMARY")) (word_at (codes "KEY"))))
    (made_shallow (λ _. NotNull) (both (word_at (codes "NOT")) (word_at (codes "NULL"))) (both_shallow (word_at (codes "NOT")) (word_at (codes "NULL")) (word_shallow (codes "NOT")) (word_shallow (codes "NULL"))))
    (made_shallow (λ _. PrimaryKey) (both (word_at (codes "PRIMARY")) (word_at (codes "KEY"))) (both_shallow (word_at (codes "PRIMARY")) (word_at (codes "KEY")) (word_shallow (codes "PRIMARY")) (word_shallow (codes "KEY"))))

marks_shallow : Shallow marks_at
unfolding marks_at
marks_shallow = made_shallow (marked no_marks) (many is_no_mark mark_at) (many_shallow is_no_mark mark_at mark_shallow)

rest_shallow : Shallow rest_at
unfolding rest_at
rest_shallow = both_shallow type_at marks_at type_shallow marks_shallow

next_name_shallow : Shallow next_name_at
unfolding next_name_at
next_name_shallow = made_shallow (λ x. x.1) (both (sign_at Comma) name_at) (both_shallow (sign_at Comma) name_at (token_shallow (passing (is_sign Comma))) name_shallow)

names_shallow : Shallow names_at
unfolding names_at next_names_at
names_shallow = made_shallow (λ x. x.0 ∷ x.1) (both name_at next_names_at) (both_shallow name_at next_names_at name_shallow (many_shallow is_no_comma next_name_at next_name_shallow))

key_shallow : Shallow key_at
unfolding key_at
key_shallow =
    made_shallow (λ x. key_clause x.1.1.0) (both (word_at (codes "KEY")) (both (sign_at Open) (both names_at (sign_at Close))))
    (both_shallow (word_at (codes "KEY")) (both (sign_at Open) (both names_at (sign_at Close))) (word_shallow (codes "KEY"))
    (both_shallow (sign_at Open) (both names_at (sign_at Close)) (token_shallow (passing (is_sign Open)))
    (both_shallow names_at (sign_at Close) names_shallow (token_shallow (passing (is_sign Close))))))

column_shallow : Shallow column_at
unfolding column_at
column_shallow = made_shallow column_of (both name_at rest_at) (both_shallow name_at rest_at name_shallow rest_shallow)

item_shallow : Shallow item_at
unfolding item_at primary_at typed_at
item_shallow =
    either_shallow (is_word (codes "PRIMARY")) primary_at (made (λ c. items.Column c) column_at)
    (made_shallow named (both (token_at primary_in) (either (is_word (codes "KEY")) key_at typed_at))
    (both_shallow (token_at primary_in) (either (is_word (codes "KEY")) key_at typed_at) (token_shallow primary_in)
    (either_shallow (is_word (codes "KEY")) key_at typed_at key_shallow (made_shallow column_rest rest_at rest_shallow))))
    (made_shallow (λ c. items.Column c) column_at column_shallow)

columns_shallow : Shallow columns_at
unfolding columns_at next_item_at
columns_shallow =
    series_shallow is_no_comma next_item_at
    (made_shallow (λ x. x.1) (both (sign_at Comma) item_at) (both_shallow (sign_at Comma) item_at (token_shallow (passing (is_sign Comma))) item_shallow))

draft_shallow : Shallow draft_at
unfolding draft_at head_at body_at tail_at
draft_shallow =
    made_shallow draft_from (both head_at (both body_at tail_at))
    (both_shallow head_at (both body_at tail_at)
    (made_shallow (λ x. x.1.1.0) (both (word_at (codes "CREATE")) (both (word_at (codes "TABLE")) (both name_at (sign_at Open))))
    (both_shallow (word_at (codes "CREATE")) (both (word_at (codes "TABLE")) (both name_at (sign_at Open))) (word_shallow (codes "CREATE"))
    (both_shallow (word_at (codes "TABLE")) (both name_at (sign_at Open)) (word_shallow (codes "TABLE")) (both_shallow name_at (sign_at Open) name_shallow (token_shallow (passing (is_sign Open)))))))
    (both_shallow body_at tail_at
    (made_shallow (λ x. (x.0 ∷ x.1.0, x.1.1)) (both column_at columns_at) (both_shallow column_at columns_at column_shallow columns_shallow))
    (both_shallow (sign_at Close) (sign_at Semicolon) (token_shallow (passing (is_sign Close))) (token_shallow (passing (is_sign Semicolon))))))

tables_shallow : Shallow tables_at
unfolding tables_at drafts_at
tables_shallow = made_shallow (map table_of) drafts_at (many_shallow never draft_at draft_shallow)

-- ---- all of the tokens

pub read_found : (ks : List Kind) (tables : List Table) → read_of ks ≡ Ok tables → HasSchema ks tables
unfolding read_of
read_found ks tables e = whole_found HasSchema tables_at tables_lawful ks tables e

pub read_not_deep : (ks : List Kind) (n : ℕ) → read_of ks ≡ Err (TooDeep n) → ⊥
unfolding read_of
read_not_deep ks n e = whole_shallow tables_at tables_shallow ks (subst IsDeep (sym e) tt)

leads : (ks : List Kind) (tables : List Table) → HasSchema ks tables → Leads (whole tables_at ks) (Ok tables)
leads ks tables h =
    let go = Leads-bind (tables_at (ks ++ [])) (tables, []) ended (tables_again ks tables [] h refl) in
    subst (λ (us : List Kind). Leads (whole tables_at us) (Ok tables)) (append-nil ks) go

pub read_again : (ks : List Kind) (tables : List Table) → HasSchema ks tables → read_of ks ≡ Ok tables
unfolding read_of
read_again ks tables h = by_lead (leads ks tables h)
  where
    by_lead : Leads (whole tables_at ks) (Ok tables) → whole tables_at ks ≡ Ok tables
    by_lead (inl e) = e
    by_lead (inr d) = absurd (whole_shallow tables_at tables_shallow ks d)

pub read_fault : (ks : List Kind) (n : ℕ) → read_of ks ≡ Err (Unexpected n) → IsFirstFault HasSchema ks n
unfolding read_of
read_fault ks n e = first_fault HasSchema tables_at tables_lawful leads ks n e

-- no more tokens are left than there are
past_is : (n : ℕ) (a : Read Kind (List Table)) (f : Fault) → IsPast n a → (IsDeep a → ⊥) → a ≡ Err f → left_of f ≤ n
past_is n (Ok x) f p d e = absurd cc
past_is n (Err (Unexpected k)) f p d e = let same : Unexpected k ≡ f = cc in subst (λ (g : Fault). left_of g ≤ n) same p
past_is n (Err (TooDeep k)) f p d e = absurd (d tt)

ended_is : (n : ℕ) (x : List Table) (us : List Kind) (f : Fault) → length us ≤ n → ended (x, us) ≡ Err f → left_of f ≤ n
ended_is n x [] f le e = absurd cc
ended_is n x (t ∷ us) f le e = let same : Unexpected (suc (length us)) ≡ f = cc in subst (λ (g : Fault). left_of g ≤ n) same le

pub read_within : (ks : List Kind) (f : Fault) → read_of ks ≡ Err f → left_of f ≤ length ks
unfolding read_of
read_within ks f e =
    let past = tables_lawful.stays (length ks) ks (omega arith) in
    elim (bind_err (tables_at ks) ended f e) [
      | inl h ↦ past_is (length ks) (tables_at ks) f past (tables_shallow ks) h
      | inr h ↦ ended_is (length ks) h.0.0 h.0.1 f (subst (IsPast (length ks)) h.1 past) h.2
    ]
