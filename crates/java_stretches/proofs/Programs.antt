-- Statements of a program from one to another of the same block, and those in their place.
use Rattle.std.proofs.Common.{◌≡◌, ℕ, zero, suc, pred, ◌<◌, List, [], ◌∷◌, ◌++◌, Bool, true, Option, Some, codes, refl, sym, ap, subst, ◌∙◌}
use Rattle.std.specs.Prelude.{slice_get}
use Rattle.std.proofs.lemmas.List.{map-append}
use Rattle.java_lex.specs.declared.token.Token.{Token}
use Rattle.java_ast.specs.Path.{found_in, statement_in, statement_at, with_body, with_method, replaced_in, replaced_at, last_of}
use Rattle.java_ast.specs.Tree.{Statement, Statements, PlainMethod, PlainProgram}
use Rattle.java_limits.specs.Limits.{deepest}
use Rattle.java_grammar.specs.Marks.{Tok, freely, tokens_of, all_free}
use Rattle.java_grammar.specs.Rules.{One, Word, Sign, Opening, Seq, Many}
use Rattle.java_grammar.specs.Words.{name_in}
use Rattle.java_grammar.specs.Statements.{Parenthesised, HasBlock}
use Rattle.java_grammar.specs.Grammar.{Reached, Whether, Result, Parameters, Method, Dotted, Package, Class, ProgramIn, IsProgram}
use Rattle.java_grammar.proofs.Apart.{in_block}
use Rattle.java_grammar.proofs.FreeRules.{AreFree, free_left, free_right, free_along, all_are_free}
use Rattle.java_grammar.proofs.TwoPlaces.{free_tokens}
use Rattle.java_stretches.specs.Stretch.{sibling, Stretch}
use Rattle.java_stretches.proofs.Ends.{tokens_append}
use Rattle.java_stretches.proofs.Cuts.{Inner, behind, ahead, turned, in_first, in_second}
use Rattle.java_stretches.proofs.Blocks.{Led, of_block}

abbrev in_body : List ℕ → PlainMethod → Option Statement
in_body path m = in_block m.body path

abbrev changed : List ℕ → ℕ → ℕ → Statements → PlainMethod → PlainMethod
changed path n first new m = with_body m (replaced_in path n first new m.body)

-- ---- methods

module _ (path : List ℕ) (n first : ℕ) (s : Statement) (less : first < last_of (n ∷ path)) where
  of_method : (room : ℕ) (us : List Tok) (m : PlainMethod) → Method room us m → statement_in path n m.body ≡ Some s
      → Led (in_body (sibling (n ∷ path) first) m) (λ one. Inner us one s (λ new ws. Method room ws (changed path n first new m)))
  of_method room us m h =
      subst (λ (k : PlainMethod). statement_in path n k.body ≡ Some s → Led (in_body (sibling (n ∷ path) first) k) (λ one. Inner us one s (λ new ws. Method room ws (changed path n first new k)))) (sym h.2)
      (λ found.
      let x = h.0 in
      let a = h.1 in let b = a.4 in let c = b.4 in let d = c.4 in let e = d.4 in
      let r = of_block e.4 path n first s found less in
      let body = λ (new : Statements). replaced_in path n first new x.1.1.1.1.1 in (
        r.0,
        r.1,
        turned (λ new ws l f. ((x.0, (x.1.0, (x.1.1.0, (x.1.1.1.0, (x.1.1.1.1.0, body new))))), f, ap (λ at. record { access = x.0; fixed = x.1.0; result = x.1.1.0; name = x.1.1.1.0; params = x.1.1.1.1.0; body = body new; span = at }) (sym l.place)))
            (in_second Reached (Seq (Whether (codes "static")) (Seq Result (Seq (One name_in) (Seq (Parenthesised room Parameters) (HasBlock room))))) x.0 (λ new. (x.1.0, (x.1.1.0, (x.1.1.1.0, (x.1.1.1.1.0, body new))))) us a.0 a.1 a.2 a.3
            (in_second (Whether (codes "static")) (Seq Result (Seq (One name_in) (Seq (Parenthesised room Parameters) (HasBlock room)))) x.1.0 (λ new. (x.1.1.0, (x.1.1.1.0, (x.1.1.1.1.0, body new)))) a.1 b.0 b.1 b.2 b.3
            (in_second Result (Seq (One name_in) (Seq (Parenthesised room Parameters) (HasBlock room))) x.1.1.0 (λ new. (x.1.1.1.0, (x.1.1.1.1.0, body new))) b.1 c.0 c.1 c.2 c.3
            (in_second (One name_in) (Seq (Parenthesised room Parameters) (HasBlock room)) x.1.1.1.0 (λ new. (x.1.1.1.1.0, body new)) c.1 d.0 d.1 d.2 d.3
            (in_second (Parenthesised room Parameters) (HasBlock room) x.1.1.1.1.0 body d.1 e.0 e.1 e.2 e.3 r.2))))),
      ))

  of_methods : (room : ℕ) (us : List Tok) (ms : List PlainMethod) (k : ℕ) → Many (Method room) us ms → found_in (λ (m : PlainMethod). statement_in path n m.body) (slice_get ms k) ≡ Some s
      → Led (found_in (in_body (sibling (n ∷ path) first)) (slice_get ms k)) (λ one. Inner us one s (λ new ws. Many (Method room) ws (with_method k (changed path n first new) ms)))
  of_methods room us [] k h e = absurd cc
  of_methods room us (m ∷ ms) zero h e =
      let r = of_method room h.0 m h.3 e in
      (r.0, r.1, subst (λ (zs : List Tok). Inner zs r.0 s (λ new ws. Many (Method room) ws (changed path n first new m ∷ ms))) (sym h.2) (turned (λ new ws l f. (f.0, h.1, f.1, f.2, h.4)) (ahead h.1 r.2)))
  of_methods room us (m ∷ ms) (suc k) h e =
      let r = of_methods room h.1 ms k h.4 e in
      (r.0, r.1, subst (λ (zs : List Tok). Inner zs r.0 s (λ new ws. Many (Method room) ws (m ∷ with_method k (changed path n first new) ms))) (sym h.2) (turned (λ new ws l f. (h.0, f.0, f.1, h.3, f.2)) (behind h.0 r.2)))

  -- ---- programs

  of_class : (room k : ℕ) (us : List Tok) (x : List ℕ × List PlainMethod) → Class room us x → found_in (λ (m : PlainMethod). statement_in path n m.body) (slice_get x.1 k) ≡ Some s
      → Led (found_in (in_body (sibling (n ∷ path) first)) (slice_get x.1 k)) (λ one. Inner us one s (λ new ws. Class room ws (x.0, with_method k (changed path n first new) x.1)))
  of_class room k us x h =
      subst (λ (y : List ℕ × List PlainMethod). found_in (λ (m : PlainMethod). statement_in path n m.body) (slice_get y.1 k) ≡ Some s
      → Led (found_in (in_body (sibling (n ∷ path) first)) (slice_get y.1 k)) (λ one. Inner us one s (λ new ws. Class room ws (y.0, with_method k (changed path n first new) y.1)))) (sym h.2)
      (λ found.
      let x = h.0 in
      let a = h.1 in let b = a.4 in let c = b.4 in let d = c.4 in
      let r = of_methods (pred room) d.0 x.1.1.1.0 k d.3 found in
      let methods = λ (new : Statements). with_method k (changed path n first new) x.1.1.1.0 in (
        r.0,
        r.1,
        turned (λ new ws l f. ((x.0, (x.1.0, (x.1.1.0, (methods new, x.1.1.1.1)))), f, refl))
            (in_second (Word (codes "class")) (Seq (One name_in) (Seq (Opening room (codes "{")) (Seq (Many (Method (pred room))) (Sign (codes "}"))))) x.0 (λ new. (x.1.0, (x.1.1.0, (methods new, x.1.1.1.1)))) us a.0 a.1 a.2 a.3
            (in_second (One name_in) (Seq (Opening room (codes "{")) (Seq (Many (Method (pred room))) (Sign (codes "}")))) x.1.0 (λ new. (x.1.1.0, (methods new, x.1.1.1.1))) a.1 b.0 b.1 b.2 b.3
            (in_second (Opening room (codes "{")) (Seq (Many (Method (pred room))) (Sign (codes "}"))) x.1.1.0 (λ new. (methods new, x.1.1.1.1)) b.1 c.0 c.1 c.2 c.3
            (in_first (Many (Method (pred room))) (Sign (codes "}")) methods x.1.1.1.1 c.1 d.0 d.1 d.2 d.4 r.2)))),
      ))

sibling_is : (first m n : ℕ) (path : List ℕ) (p : PlainProgram) → statement_at (sibling (m ∷ n ∷ path) first) p ≡ found_in (in_body (sibling (n ∷ path) first)) (slice_get p.methods m)
sibling_is first m n [] p = refl
sibling_is first m n (b ∷ path) p = refl

of_program : (room : ℕ) (us : List Tok) (p : PlainProgram) (path : List ℕ) (first : ℕ) (s : Statement) → ProgramIn room us p → statement_at path p ≡ Some s → first < last_of path
    → Led (statement_at (sibling path first) p) (λ one. Inner us one s (λ new ws. ProgramIn room ws (replaced_at path first new p)))
of_program room us p [] first s h found less = absurd cc
of_program room us p (k ∷ []) first s h found less = absurd cc
of_program room us p (k ∷ n ∷ path) first s h found less =
    subst (λ (q : PlainProgram). statement_at (k ∷ n ∷ path) q ≡ Some s
    → Led (statement_at (sibling (k ∷ n ∷ path) first) q) (λ one. Inner us one s (λ new ws. ProgramIn room ws (replaced_at (k ∷ n ∷ path) first new q)))) (sym h.2)
    (λ found.
    let x = h.0 in
    let a = h.1 in let b = a.4 in let c = b.4 in
    let r = of_class path n first s less room k c.1 x.1.1.1 c.4 found in
    let class : Statements → List ℕ × List PlainMethod = λ new. (x.1.1.1.0, with_method k (changed path n first new) x.1.1.1.1) in (
      r.0,
      sibling_is first k n path (record { «package» = x.0; imports = x.1.0; public = x.1.1.0; name = x.1.1.1.0; methods = x.1.1.1.1 }) ∙ r.1,
      turned (λ new ws l f. ((x.0, (x.1.0, (x.1.1.0, class new))), f, refl))
          (in_second Package (Seq (Many (Dotted (codes "import") true)) (Seq (Whether (codes "public")) (Class room))) x.0 (λ new. (x.1.0, (x.1.1.0, class new))) us a.0 a.1 a.2 a.3
          (in_second (Many (Dotted (codes "import") true)) (Seq (Whether (codes "public")) (Class room)) x.1.0 (λ new. (x.1.1.0, class new)) a.1 b.0 b.1 b.2 b.3
          (in_second (Whether (codes "public")) (Class room) x.1.1.0 class b.1 c.0 c.1 c.2 c.3 r.2))),
    )) found

-- ---- over tokens without marks

free_again : (us : List Tok) → AreFree us → all_free (tokens_of us) ≡ us
free_again [] f = refl
free_again (t ∷ us) f = ap (λ (ws : List Tok). freely t.token ∷ ws) (free_again us f.1) ∙ ap (λ (strict : Bool). (record { strict = strict; token = t.token }) ∷ us) (sym f.0)

pub stretch : (ts : List Token) (p : PlainProgram) (path : List ℕ) (first : ℕ) (s : Statement) → IsProgram ts p → statement_at path p ≡ Some s → first < last_of path → Stretch ts p path first s
stretch ts p path first s h found less =
    let r = of_program deepest (all_free ts) p path first s h found less in
    let c = r.2.cut in
    let free : AreFree (c.before ++ (c.within ++ c.after)) = free_along (all_free ts) (c.before ++ (c.within ++ c.after)) c.parts (all_are_free ts) in
    let before : all_free (tokens_of c.before) ≡ c.before = free_again c.before (free_left c.before (c.within ++ c.after) free) in
    let after : all_free (tokens_of c.after) ≡ c.after = free_again c.after (free_right c.within c.after (free_right c.before (c.within ++ c.after) free)) in
    record {
      before = tokens_of c.before;
      within = tokens_of c.within;
      after = tokens_of c.after;
      parts = sym (free_tokens ts) ∙ (ap tokens_of c.parts ∙ (tokens_append c.before (c.within ++ c.after) ∙ ap (λ (us : List Token). tokens_of c.before ++ us) (tokens_append c.within c.after)));
      one = r.0;
      is_first = r.1;
      starts = c.starts;
      ends = c.ends;
      closed = r.2.closed;
      room = c.room;
      replaced = λ given new g.
          let joined : all_free (tokens_of c.before ++ (given ++ tokens_of c.after)) ≡ c.before ++ (all_free given ++ c.after) =
          map-append freely (tokens_of c.before) (given ++ tokens_of c.after)
          ∙ (ap (λ (us : List Tok). us ++ all_free (given ++ tokens_of c.after)) before ∙ ap (λ (us : List Tok). c.before ++ us) (map-append freely given (tokens_of c.after) ∙ ap (λ (us : List Tok). all_free given ++ us) after)) in
          subst (λ (us : List Tok). ProgramIn deepest us (replaced_at path first new p)) (sym joined) (c.replaced (all_free given) new g);
    }
