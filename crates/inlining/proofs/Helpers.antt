-- A helper's body between its parameters and the statement of the call, and bodies in a statement.
use Rattle.std.proofs.Common.{◌≡◌, ℕ, suc, ◌+◌, ◌<◌, List, [], ◌∷◌, ◌++◌, Option, Some, None, Vec, refl, sym, ◌∙◌, subst, option_map}
use Rattle.std.specs.declared.alloc.Global.{Global}
use Rattle.qbs_base.specs.declared.span.Span.{Span}
use Rattle.java_ast.specs.declared.tree.Stmt.{Stmt}
use Rattle.java_ast.specs.Reading.{statement, statements}
use Rattle.java_ast.specs.Tree.{Spelled, Expression, Statement, Statements, PlainMethod, PlainProgram}
use Rattle.call_parts.specs.Marks.{next_number}
use Rattle.java_calls.specs.Called.{Call}
use Rattle.java_calls.specs.Inlining.{made_of, both_made, without_last, last_value, kept_variable, arguments_given, ended}
use Rattle.java_calls.specs.ProgramNames.{names_of}
use Rattle.java_calls.specs.Renaming.{Renaming, marked_but}
use Rattle.java_calls.specs.Rules.{size_of, total_of}
use Rattle.inlining.specs.declared.counts.Counts.{Counts}
use Rattle.inlining.specs.declared.counts.Walked.{Walked}
use Rattle.inlining.specs.declared.counts.Walked.TheVariants as answers
use Rattle.inlining.specs.Walked.{Makes, block_makes, helper_makes, IsPushed, IsPast, IsWalked, IsPut, IsMadeOf, IsBodyOf, giving}
use Rattle.inlining.proofs.Arms.{body_none, body_some, made_none, made_some}
use Rattle.inlining.proofs.Ones.{pushed_behind}
use Rattle.inlining.proofs.Pushing.{within, walked_as, helper_pushed, args_past, inner_past, ending_past, body_pushed, body_past, bodies_pushed, first_past, second_past}

module _ (p : PlainProgram) (f : Renaming) (at : Span) (ty : Option Spelled) (x : List ℕ) (e : Expression) (call : Call) (m : PlainMethod) (room : ℕ) where
  abbrev Is : ℕ → ℕ → Renaming → ℕ → Type 0
  Is taken c g d =
      helper_makes p f taken (giving at ty x e) call m d
      ≡ option_map (within (arguments_given at g m.params f call.arguments) (ended f (giving at ty x e) g (kept_variable m) (last_value m.body))) (block_makes p g c (without_last m.body) d)

with_left : (room : ℕ) (makes : Makes) (old start new : Counts) (before after : Statements) → start.left ≡ old.left → IsPushed room makes start new before after → IsPushed room makes old new before after
with_left room makes old start new before after left h = record { block = h.block; made = h.made; pushed = h.pushed; spent = sym left ∙ h.spent }

helper_so : (p : PlainProgram) (f : Renaming) (at : Span) (ty : Option Spelled) (x : List ℕ) (e : Expression) (call : Call) (m : PlainMethod) (room taken d : ℕ) → Is p f at ty x e call m room taken (next_number (names_of p) taken) (marked_but (kept_variable m) (f x) (next_number (names_of p) taken)) d
helper_so p f at (Some ty) x e call m room taken d = refl
helper_so p f at None x e call m room taken d = refl

module _ (p : PlainProgram) (f : Renaming) (at : Span) (ty : Option Spelled) (x : List ℕ) (e : Expression) (call : Call) (m : PlainMethod) (room taken c : ℕ) (g : Renaming) (number : c ≡ next_number (names_of p) taken) (named : g ≡ marked_but (kept_variable m) (f x) c) where
  helper_is : (d : ℕ) → Is p f at ty x e call m room taken c g d
  helper_is d =
      subst (λ (h : Renaming). Is p f at ty x e call m room taken c h d) (sym named)
      (subst (λ (k : ℕ). Is p f at ty x e call m room taken k (marked_but (kept_variable m) (f x) k) d) (sym number) (helper_so p f at ty x e call m room taken d))

  abbrev given : Statements
  given = arguments_given at g m.params f call.arguments

  abbrev ending : Statements
  ending = ended f (giving at ty x e) g (kept_variable m) (last_value m.body)

  abbrev inner : Makes
  inner = block_makes p g c (without_last m.body)

  as_helper : (w : Walked) (old new : Counts) (before after : Statements) → IsWalked w room (λ d. option_map (within given ending) (inner d)) old new before after → IsWalked w room (helper_makes p f taken (giving at ty x e) call m) old new before after
  as_helper w old new before after h = walked_as w room (λ d. option_map (within given ending) (inner d)) (helper_makes p f taken (giving at ty x e) call m) old new before after (λ d le. sym (helper_is d)) h

  pub helper_full : (old first : Counts) (before after args : Statements) → args ≡ given → IsPut answers.Full args old first before after → IsPast room (helper_makes p f taken (giving at ty x e) call m) old.left
  helper_full old first before after args same h =
      as_helper answers.Full old old before before (args_past room inner given ending old.left (subst (λ (a : Statements). old.left < total_of a) same h))

  -- what the walk over the body has made
  at_number : (first : Counts) (block : Statements) (P : Makes → Type 0) → first.taken ≡ c → block ≡ without_last m.body → P (block_makes p g first.taken block) → P inner
  at_number first block P taken same h = subst (λ (b : Statements). P (block_makes p g c b)) same (subst (λ (k : ℕ). P (block_makes p g k block)) taken h)

  pub helper_inner_full : (old start first : Counts) (before one args block : Statements) → start.left ≡ old.left → start.taken ≡ c → args ≡ given → block ≡ without_last m.body → IsPut answers.Pushed args start first before one → IsPast room (block_makes p g first.taken block) first.left
      → IsPast room (helper_makes p f taken (giving at ty x e) call m) old.left
  helper_inner_full old start first before one args block left number_is same alike h i =
      let put : IsPut answers.Pushed given start first before one = subst (λ (a : Statements). IsPut answers.Pushed a start first before one) same h in
      as_helper answers.Full old old before before
      (inner_past room inner given ending old.left first.left (sym left ∙ put.1) (at_number first block (λ (n : Makes). IsPast room n first.left) (h.2 ∙ number_is) alike i))

  pub helper_walked : (w : Walked) (old start first second new : Counts) (before one two after args block last : Statements) → start.left ≡ old.left → start.taken ≡ c → args ≡ given → block ≡ without_last m.body → last ≡ ending
      → IsPut answers.Pushed args start first before one → IsPushed room (block_makes p g first.taken block) first second one two → IsPut w last second new two after
      → IsWalked w room (helper_makes p f taken (giving at ty x e) call m) old new before after
  helper_walked answers.Pushed old start first second new before one two after args block last left number_is same alike end_is h i j =
      let put : IsPut answers.Pushed given start first before one = subst (λ (a : Statements). IsPut answers.Pushed a start first before one) same h in
      with_left room (helper_makes p f taken (giving at ty x e) call m) old start new before after left
      (as_helper answers.Pushed start new before after
      (helper_pushed room inner given ending start first second new before one two after put
      (at_number first block (λ (n : Makes). IsPushed room n first second one two) (h.2 ∙ number_is) alike i)
      (subst (λ (a : Statements). IsPut answers.Pushed a second new two after) end_is j)))
  helper_walked answers.Full old start first second new before one two after args block last left number_is same alike end_is h i j =
      let put : IsPut answers.Pushed given start first before one = subst (λ (a : Statements). IsPut answers.Pushed a start first before one) same h in
      as_helper answers.Full old old before before
      (ending_past room inner given ending old.left first second one two (sym left ∙ put.1)
      (at_number first block (λ (n : Makes). IsPushed room n first second one two) (h.2 ∙ number_is) alike i)
      (subst (λ (a : Statements). second.left < total_of a) end_is j))

-- ---- Bodies in a statement

module _ (wrap : Statements → Statement) (size : (b : Statements) → size_of (wrap b) ≡ suc (total_of b)) (room : ℕ) (makes : Makes) (o : Option (Vec Stmt Global)) (old new : Counts) (h : IsBodyOf o room makes old new) where
  pub wrapped_full : o ≡ None → IsPast room (λ d. made_of wrap (makes d)) old.left
  wrapped_full is = body_past wrap room makes old.left size (body_none o room makes old new is h)

  pub wrapped : (v : Vec Stmt Global) (before after : List Stmt) (s : Stmt) → o ≡ Some v → after ≡ before ++ s ∷ [] → statement s ≡ wrap (statements v.items) → IsPushed room (λ d. made_of wrap (makes d)) old new (statements before) (statements after)
  wrapped v before after s is more same =
      let b : IsBodyOf (Some v) room makes old new = body_some o v room makes old new is h in
      body_pushed wrap room makes old b.0 new (statements before) (statements after) (statements v.items) size b.1 b.2 (pushed_behind before after s (wrap (statements v.items)) more same)

module _ (wrap : Statements → Statements → Statement) (size : (a b : Statements) → size_of (wrap a b) ≡ suc (total_of a + total_of b)) (room : ℕ) (first : Makes) (second : ℕ → Makes) (o : Option (Vec Stmt Global)) (old middle : Counts) (h : IsBodyOf o room first old middle) where
  pub first_full : o ≡ None → IsPast room (λ d. both_made wrap (first d) (λ k. second k d)) old.left
  first_full is = first_past wrap room first second old.left size (body_none o room first old middle is h)

  pub second_full : (v : Vec Stmt Global) (q : Option (Vec Stmt Global)) (new : Counts) → o ≡ Some v → q ≡ None → IsMadeOf q room (second middle.taken) middle new → IsPast room (λ d. both_made wrap (first d) (λ k. second k d)) old.left
  second_full v q new is none i =
      let b : IsBodyOf (Some v) room first old middle = body_some o v room first old middle is h in
      second_past wrap room first second old b.0 middle (statements v.items) size b.1 b.2 (made_none q room (second middle.taken) middle new none i)

  pub both_wrapped : (v u : Vec Stmt Global) (q : Option (Vec Stmt Global)) (new : Counts) (before after : List Stmt) (s : Stmt) → o ≡ Some v → q ≡ Some u → IsMadeOf q room (second middle.taken) middle new → after ≡ before ++ s ∷ [] → statement s ≡ wrap (statements v.items) (statements u.items)
      → IsPushed room (λ d. both_made wrap (first d) (λ k. second k d)) old new (statements before) (statements after)
  both_wrapped v u q new before after s is some i more same =
      let b : IsBodyOf (Some v) room first old middle = body_some o v room first old middle is h in
      bodies_pushed wrap room first second old b.0 middle new (statements before) (statements after) (statements v.items) (statements u.items) size b.1 b.2
      (made_some q u room (second middle.taken) middle new some i) (pushed_behind before after s (wrap (statements v.items) (statements u.items)) more same)
