-- Statements of a block from one to another, and those in their place: through all that has statements.
use Rattle.std.proofs.Common.{◌≡◌, ℕ, zero, suc, ◌<◌, List, [], ◌∷◌, ◌++◌, Bool, true, false, cond, Option, Some, None, codes, refl, sym, ap, subst, ◌∙◌, append_assoc, arith, inl}
use Rattle.std.specs.Prelude.{◌==◌}
use Rattle.std.proofs.lemmas.Bool.{eqb-true}
use Rattle.std.proofs.lemmas.List.{append-nil}
use Rattle.java_lex.specs.Cutting.{EndsAt}
use Rattle.java_ast.specs.Path.{found_in, numbered, branch_of, statement_in, and_then, behind_of, with_branch, replaced_in, last_of}
use Rattle.java_ast.specs.Spans.{place_of}
use Rattle.java_ast.specs.Tree.{Statement, If, IfElse, ForEach, While, Statements, Nothing, Then as Followed}
use Rattle.java_grammar.specs.Marks.{Tok, tokens_of, extent}
use Rattle.java_grammar.specs.Rules.{Opening}
use Rattle.java_grammar.specs.Statements.{HasStatement, plain, if_alone, if_else, for_each, while, HasBody, block, single, HasBlock, braces, HasStatements, none, declared, stated}
use Rattle.java_grammar.proofs.Apart.{in_block}
use Rattle.java_stretches.specs.Stretch.{sibling, StartsWith}
use Rattle.java_stretches.proofs.Ends.{Ends, first_of, extent_ends, extent_starts, ends_at_behind, starts_then}
use Rattle.java_stretches.proofs.Cuts.{Kept, Cut, Inner, cut_behind, cut_ahead, cut_turned, behind, ahead, inside, turned}
use Rattle.java_stretches.proofs.Leaves.{Stands, Alone, plain_alone, declaration_alone, statement_stands}

-- what is said of the statement that is found
abbrev pub Led : Option Statement → (Statement → Type 0) → Type 0
Led found K = (one : Statement) × (found ≡ Some one) × K one

pub down : (first b m n : ℕ) (path : List ℕ) (xs : Statements) → in_block xs (sibling (n ∷ b ∷ m ∷ path) first) ≡ found_in (λ (s : Statement). found_in (λ (ys : Statements). in_block ys (sibling (m ∷ path) first)) (branch_of b s)) (numbered n xs)
down first b m n [] xs = refl
down first b m n (p ∷ path) xs = refl

-- ---- statements one behind the other

pub appended : {room : ℕ} {us vs : List Tok} {xs ys : Statements} → HasStatements room us xs → HasStatements room vs ys → HasStatements room (us ++ vs) (and_then xs ys)
appended none k = k
appended {room} {vs} {ys} (declared {us} {vs = ws} {x} {xs} d h) k = subst (λ (zs : List Tok). HasStatements room zs (Followed x (and_then xs ys))) (sym (append_assoc us ws vs)) (declared d (appended h k))
appended {room} {vs} {ys} (stated {us} {vs = ws} {x} {xs} d h) k = subst (λ (zs : List Tok). HasStatements room zs (Followed x (and_then xs ys))) (sym (append_assoc us ws vs)) (stated d (appended h k))

-- the tokens up to the statement s with the number n, and those behind it
record UpTo (room : ℕ) (us : List Tok) (n : ℕ) (xs : Statements) (s : Statement) : Type 0 where
  within : List Tok
  after : List Tok
  parts : us ≡ within ++ after
  ends : EndsAt (place_of s).end (tokens_of within)
  rest : HasStatements room after (behind_of (suc n) xs)

stands_end : (us : List Tok) (x : Statement) → Stands us x → EndsAt (place_of x).end (tokens_of us)
stands_end us x h = subst (λ at. EndsAt at.end (tokens_of us)) (sym h.place) (extent_ends us (first_of us h.ends))

stands_start : (us : List Tok) (x : Statement) → Stands us x → StartsWith (place_of x) (tokens_of us)
stands_start us x h = subst (λ at. StartsWith at (tokens_of us)) (sym h.place) (extent_starts us (first_of us h.ends))

here : (room : ℕ) (us vs : List Tok) (x : Statement) (xs : Statements) (s : Statement) → Stands us x → HasStatements room vs xs → Some x ≡ Some s → UpTo room (us ++ vs) zero (Followed x xs) s
here room us vs x xs s h k e = let is : x ≡ s = cc in record { within = us; after = vs; parts = refl; ends = subst (λ (y : Statement). EndsAt (place_of y).end (tokens_of us)) is (stands_end us x h); rest = k }

further : (room n : ℕ) (us vs : List Tok) (x : Statement) (xs : Statements) (s : Statement) → UpTo room vs n xs s → UpTo room (us ++ vs) (suc n) (Followed x xs) s
further room n us vs x xs s h = record { within = us ++ h.within; after = h.after; parts = ap (λ (ws : List Tok). us ++ ws) h.parts ∙ sym (append_assoc us h.within h.after); ends = ends_at_behind (place_of s).end us h.within h.ends; rest = h.rest }

up_to : {room : ℕ} {us : List Tok} {xs : Statements} → HasStatements room us xs → (n : ℕ) (s : Statement) → numbered n xs ≡ Some s → UpTo room us n xs s
up_to none n s e = absurd cc
up_to (declared {room} {us} {vs} {x} {xs} d h) zero s e = here room us vs x xs s (declaration_alone room us x d).stands h e
up_to (declared {room} {us} {vs} {x} {xs} d h) (suc n) s e = further room n us vs x xs s (up_to h n s e)
up_to (stated {room} {us} {vs} {x} {xs} d h) zero s e = here room us vs x xs s (statement_stands d) h e
up_to (stated {room} {us} {vs} {x} {xs} d h) (suc n) s e = further room n us vs x xs s (up_to h n s e)

-- ---- what is said of each part

abbrev pub OfStatements : ℕ → List Tok → Statements → List ℕ → ℕ → ℕ → Statement → Type 0
OfStatements room us xs path n first s = Led (in_block xs (sibling (n ∷ path) first)) (λ one. Cut us one s (λ new ws. HasStatements room ws (replaced_in path n first new xs)))

abbrev pub OfBlock : ℕ → List Tok → Statements → List ℕ → ℕ → ℕ → Statement → Type 0
OfBlock room us xs path n first s = Led (in_block xs (sibling (n ∷ path) first)) (λ one. Inner us one s (λ new ws. HasBlock room ws (replaced_in path n first new xs)))

abbrev OfBody : ℕ → Bool → List Tok → Statements → List ℕ → ℕ → ℕ → Statement → Type 0
OfBody room open_if us xs path n first s = Led (in_block xs (sibling (n ∷ path) first)) (λ one. Inner us one s (λ new ws. HasBody room open_if ws (replaced_in path n first new xs)))

abbrev OfStatement : ℕ → Bool → List Tok → Statement → ℕ → List ℕ → ℕ → ℕ → Statement → Type 0
OfStatement room open_if us x b path n first s =
    Led (found_in (λ (ys : Statements). in_block ys (sibling (n ∷ path) first)) (branch_of b x)) (λ one. Inner us one s (λ new ws. HasStatement room open_if ws (with_branch b (replaced_in path n first new) x)))

-- the first one of a block, up to one behind it
from_first : (room n : ℕ) (us vs : List Tok) (x : Statement) (xs : Statements) (s : Statement) → Stands us x → UpTo room vs n xs s → OfStatements room (us ++ vs) (Followed x xs) [] (suc n) zero s
from_first room n us vs x xs s h u = (
  x,
  refl,
  record {
    before = [];
    within = us ++ u.within;
    after = u.after;
    parts = ap (λ (ws : List Tok). us ++ ws) u.parts ∙ sym (append_assoc us u.within u.after);
    starts = starts_then (place_of x) us u.within (stands_start us x h);
    ends = ends_at_behind (place_of s).end us u.within u.ends;
    closed = λ front e. subst Ends (sym (append-nil front)) e;
    room = room;
    replaced = λ given new h. appended h u.rest;
  },
)

-- behind a statement that stays
past : {vs : List Tok} {found : Option Statement} {s : Statement} {F : Kept} (us : List Tok) (look : Option Statement) (G : Kept) → Ends us → look ≡ found → ((new : Statements) (ws : List Tok) → F new ws → G new (us ++ ws))
    → Led found (λ one. Cut vs one s F) → Led look (λ one. Cut (us ++ vs) one s G)
past us look G e is k h = (h.0, is ∙ h.1, cut_turned (λ new ws f. subst (G new) (sym f.1) (k new f.0 f.2)) (cut_behind us e h.2))

-- ---- through a branch

module _ (path : List ℕ) (m first : ℕ) (s : Statement) where
  one_branch : (us vs : List Tok) (body : Statements) (v : Bool) (F : Kept) (R : Bool → Kept) → found_in (statement_in path m) (cond v (Some body) None) ≡ Some s
      → (statement_in path m body ≡ Some s → Led (in_block body (sibling (m ∷ path) first)) (λ one. Inner vs one s F))
      → ((new : Statements) (ws : List Tok) → extent (us ++ ws) ≡ extent (us ++ vs) → F new ws → R true new (us ++ ws))
      → Led (found_in (λ (ys : Statements). in_block ys (sibling (m ∷ path) first)) (cond v (Some body) None)) (λ one. Inner (us ++ vs) one s (R v))
  one_branch us vs body true F R e k step =
      let r = k e in
      (r.0, r.1, turned (λ new ws l f. subst (R true new) (sym f.1) (step new f.0 (ap extent (sym f.1) ∙ l.place) f.2)) (behind us r.2))
  one_branch us vs body false F R e k step = absurd cc

  two_branches : (us vs ws zs : List Tok) (body other : Statements) (v w : Bool) (F G : Kept) (R : Bool → Bool → Kept) → (v ≡ true → w ≡ true → ⊥)
      → found_in (statement_in path m) (cond v (Some body) (cond w (Some other) None)) ≡ Some s
      → (statement_in path m body ≡ Some s → Led (in_block body (sibling (m ∷ path) first)) (λ one. Inner vs one s F))
      → (statement_in path m other ≡ Some s → Led (in_block other (sibling (m ∷ path) first)) (λ one. Inner zs one s G))
      → ((new : Statements) (ys : List Tok) → extent (us ++ (ys ++ (ws ++ zs))) ≡ extent (us ++ (vs ++ (ws ++ zs))) → F new ys → R true false new (us ++ (ys ++ (ws ++ zs))))
      → ((new : Statements) (ys : List Tok) → extent (us ++ (vs ++ (ws ++ ys))) ≡ extent (us ++ (vs ++ (ws ++ zs))) → G new ys → R false true new (us ++ (vs ++ (ws ++ ys))))
      → Led (found_in (λ (ys : Statements). in_block ys (sibling (m ∷ path) first)) (cond v (Some body) (cond w (Some other) None))) (λ one. Inner (us ++ (vs ++ (ws ++ zs))) one s (R v w))
  two_branches us vs ws zs body other true true F G R apart e k l step step' = absurd (apart refl refl)
  two_branches us vs ws zs body other true false F G R apart e k l step step' =
      let r = k e in (
        r.0,
        r.1,
        turned (λ new ys like f.
            let g = f.2 in
            let is : ys ≡ us ++ (g.0 ++ (ws ++ zs)) = f.1 ∙ ap (λ (xs : List Tok). us ++ xs) g.1 in
            subst (R true false new) (sym is) (step new g.0 (ap extent (sym is) ∙ like.place) g.2)) (behind us (ahead (ws ++ zs) r.2)),
      )
  two_branches us vs ws zs body other false true F G R apart e k l step step' =
      let r = l e in (
        r.0,
        r.1,
        turned (λ new ys like f.
            let g = f.2 in
            let h = g.2 in
            let is : ys ≡ us ++ (vs ++ (ws ++ h.0)) = f.1 ∙ ap (λ (xs : List Tok). us ++ xs) (g.1 ∙ ap (λ (xs : List Tok). vs ++ xs) h.1) in
            subst (R false true new) (sym is) (step' new h.0 (ap extent (sym is) ∙ like.place) h.2)) (behind us (behind vs (behind ws r.2))),
      )
  two_branches us vs ws zs body other false false F G R apart e k l step step' = absurd cc

apart : (b : ℕ) → (b == 0) ≡ true → (b == 1) ≡ true → ⊥
apart b e f = omega (arith, eqb-true b 0 e, eqb-true b 1 f)

opened : (room : ℕ) (us : List Tok) → Opening room (codes "{") us tt → Ends us
opened room us h = subst Ends (sym h.1) (123, inl refl, h.2)

no_branch : {us : List Tok} {x : Statement} {s : Statement} {A : Type 0} (path : List ℕ) (m b : ℕ) → Alone us x → found_in (statement_in path m) (branch_of b x) ≡ Some s → A
no_branch {s} path m b h e = let f : found_in (statement_in path m) None ≡ Some s = subst (λ o. found_in (statement_in path m) o ≡ Some s) (h.none b) e in absurd cc

mutual
  of_statement : {room : ℕ} {open_if : Bool} {us : List Tok} {x : Statement} → HasStatement room open_if us x → (b : ℕ) (path : List ℕ) (m first : ℕ) (s : Statement)
      → found_in (statement_in path m) (branch_of b x) ≡ Some s → first < last_of (m ∷ path) → OfStatement room open_if us x b path m first s
  of_statement (plain {room} {us} {x} h) b path m first s e less = no_branch path m b (plain_alone room us x h) e
  of_statement (if_alone {room} {open_if} {us} {vs} {cond = test} {yes = body} h k) b path m first s e less =
      one_branch path m first s us vs body (b == 0) (λ new ws. HasBody room open_if ws (replaced_in path m first new body))
      (λ v new ws. HasStatement room true ws (If (extent (us ++ vs)) test (cond v (replaced_in path m first new body) body))) e
      (λ f. of_body k path m first s f less)
      (λ new ws is f. subst (λ at. HasStatement room true (us ++ ws) (If at test (replaced_in path m first new body))) is (if_alone h f))
  of_statement (if_else {room} {open_if} {us} {vs} {ws} {zs} {cond = test} {yes = body} {other} h k w l) b path m first s e less =
      two_branches path m first s us vs ws zs body other (b == 0) (b == 1) (λ new ys. HasBody room false ys (replaced_in path m first new body)) (λ new ys. HasBody room open_if ys (replaced_in path m first new other))
      (λ v u new ys. HasStatement room open_if ys (IfElse (extent (us ++ (vs ++ (ws ++ zs)))) test (cond v (replaced_in path m first new body) body) (cond u (replaced_in path m first new other) other))) (apart b) e
      (λ f. of_body k path m first s f less) (λ f. of_body l path m first s f less)
      (λ new ys is f. subst (λ at. HasStatement room open_if (us ++ (ys ++ (ws ++ zs))) (IfElse at test (replaced_in path m first new body) other)) is (if_else h f w l))
      (λ new ys is f. subst (λ at. HasStatement room open_if (us ++ (vs ++ (ws ++ ys))) (IfElse at test body (replaced_in path m first new other))) is (if_else h k w f))
  of_statement (for_each {room} {open_if} {us} {vs} {walk} {body} h k) b path m first s e less =
      one_branch path m first s us vs body (b == 0) (λ new ws. HasBody room open_if ws (replaced_in path m first new body))
      (λ v new ws. HasStatement room open_if ws (ForEach (extent (us ++ vs)) walk.0 walk.1.0 walk.1.1 (cond v (replaced_in path m first new body) body))) e
      (λ f. of_body k path m first s f less)
      (λ new ws is f. subst (λ at. HasStatement room open_if (us ++ ws) (ForEach at walk.0 walk.1.0 walk.1.1 (replaced_in path m first new body))) is (for_each h f))
  of_statement (while {room} {open_if} {us} {vs} {cond = test} {body} h k) b path m first s e less =
      one_branch path m first s us vs body (b == 0) (λ new ws. HasBody room open_if ws (replaced_in path m first new body))
      (λ v new ws. HasStatement room open_if ws (While (extent (us ++ vs)) test (cond v (replaced_in path m first new body) body))) e
      (λ f. of_body k path m first s f less)
      (λ new ws is f. subst (λ at. HasStatement room open_if (us ++ ws) (While at test (replaced_in path m first new body))) is (while h f))

  of_body : {room : ℕ} {open_if : Bool} {us : List Tok} {xs : Statements} → HasBody room open_if us xs → (path : List ℕ) (m first : ℕ) (s : Statement)
      → statement_in path m xs ≡ Some s → first < last_of (m ∷ path) → OfBody room open_if us xs path m first s
  of_body (block h) path m first s e less = let r = of_block h path m first s e less in (r.0, r.1, turned (λ new ws l f. block f) r.2)
  of_body (single o h) [] zero first s e less = absurd (omega (arith, less))
  of_body (single o h) [] (suc m) first s e less = absurd cc
  of_body (single o h) (b ∷ []) m first s e less = absurd cc
  of_body (single {x} o h) (b ∷ n ∷ path) zero first s e less =
      let r = of_statement h b path n first s e less in
      (r.0, down first b n zero path (Followed x Nothing) ∙ r.1, turned (λ new ws l f. single (l.opens _ o) f) r.2)
  of_body (single o h) (b ∷ n ∷ path) (suc m) first s e less = absurd cc

  pub of_block : {room : ℕ} {us : List Tok} {xs : Statements} → HasBlock room us xs → (path : List ℕ) (m first : ℕ) (s : Statement)
      → statement_in path m xs ≡ Some s → first < last_of (m ∷ path) → OfBlock room us xs path m first s
  of_block (braces {room} {us} {vs} {ws} {xs} o h c) path m first s e less =
      let r = of_statements h path m first s e less in (
        r.0,
        r.1,
        turned (λ new zs l f.
            let g = f.2 in
            let is : zs ≡ us ++ (g.0 ++ ws) = f.1 ∙ ap (λ (ys : List Tok). us ++ ys) g.1 in
            subst (λ (ys : List Tok). HasBlock room ys (replaced_in path m first new xs)) (sym is) (braces o g.2 c))
            (inside us ws (opened room us o) (record { first = c.0; rest = []; is = c.1 }) r.2),
      )

  of_statements : {room : ℕ} {us : List Tok} {xs : Statements} → HasStatements room us xs → (path : List ℕ) (m first : ℕ) (s : Statement)
      → statement_in path m xs ≡ Some s → first < last_of (m ∷ path) → OfStatements room us xs path m first s
  of_statements none [] m first s e less = absurd cc
  of_statements none (b ∷ []) m first s e less = absurd cc
  of_statements none (b ∷ n ∷ path) m first s e less = absurd cc
  of_statements (declared d h) [] zero first s e less = absurd (omega (arith, less))
  of_statements (declared {room} {us} {vs} {x} {xs} d h) [] (suc m) zero s e less = from_first room m us vs x xs s (declaration_alone room us x d).stands (up_to h m s e)
  of_statements (declared {room} {us} {vs} {x} {xs} d h) [] (suc m) (suc first) s e less =
      past us (in_block (Followed x xs) (suc first ∷ [])) (λ new ws. HasStatements room ws (replaced_in [] (suc m) (suc first) new (Followed x xs))) (declaration_alone room us x d).stands.ends refl
      (λ new ws f. declared d f) (of_statements h [] m first s e (omega (arith, less)))
  of_statements (declared d h) (b ∷ []) m first s e less = absurd cc
  of_statements (declared {room} {us} {x} d h) (b ∷ n ∷ path) zero first s e less = no_branch path n b (declaration_alone room us x d) e
  of_statements (declared {room} {us} {vs} {x} {xs} d h) (b ∷ n ∷ path) (suc m) first s e less =
      past us (in_block (Followed x xs) (sibling (suc m ∷ b ∷ n ∷ path) first)) (λ new ws. HasStatements room ws (replaced_in (b ∷ n ∷ path) (suc m) first new (Followed x xs))) (declaration_alone room us x d).stands.ends
      (down first b n (suc m) path (Followed x xs) ∙ sym (down first b n m path xs)) (λ new ws f. declared d f) (of_statements h (b ∷ n ∷ path) m first s e less)
  of_statements (stated d h) [] zero first s e less = absurd (omega (arith, less))
  of_statements (stated {room} {us} {vs} {x} {xs} d h) [] (suc m) zero s e less = from_first room m us vs x xs s (statement_stands d) (up_to h m s e)
  of_statements (stated {room} {us} {vs} {x} {xs} d h) [] (suc m) (suc first) s e less =
      past us (in_block (Followed x xs) (suc first ∷ [])) (λ new ws. HasStatements room ws (replaced_in [] (suc m) (suc first) new (Followed x xs))) (statement_stands d).ends refl
      (λ new ws f. stated d f) (of_statements h [] m first s e (omega (arith, less)))
  of_statements (stated d h) (b ∷ []) m first s e less = absurd cc
  of_statements (stated {room} {us} {vs} {x} {xs} d h) (b ∷ n ∷ path) zero first s e less =
      let r = of_statement d b path n first s e less in (
        r.0,
        down first b n zero path (Followed x xs) ∙ r.1,
        cut_turned (λ new ws f. subst (λ (ys : List Tok). HasStatements room ys (Followed (with_branch b (replaced_in path n first new) x) xs)) (sym f.1) (stated f.2 h)) (cut_ahead vs r.2.cut),
      )
  of_statements (stated {room} {us} {vs} {x} {xs} d h) (b ∷ n ∷ path) (suc m) first s e less =
      past us (in_block (Followed x xs) (sibling (suc m ∷ b ∷ n ∷ path) first)) (λ new ws. HasStatements room ws (replaced_in (b ∷ n ∷ path) (suc m) first new (Followed x xs))) (statement_stands d).ends
      (down first b n (suc m) path (Followed x xs) ∙ sym (down first b n m path xs)) (λ new ws f. stated d f) (of_statements h (b ∷ n ∷ path) m first s e less)
