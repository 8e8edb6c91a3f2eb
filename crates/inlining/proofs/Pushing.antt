-- Pushed statements one behind another and in one another.
use Rattle.std.proofs.Common.{◌≡◌, ℕ, zero, suc, ◌+◌, ◌<◌, ◌≤◌, List, Option, Some, None, refl, sym, ap, ◌∙◌, option_map, arith}
use Rattle.qbs_base.specs.declared.span.Span.{Span}
use Rattle.java_ast.specs.Tree.{Spelled, Expression, Statement, Statements, Nothing, Then, PlainMethod, PlainProgram}
use Rattle.java_mean.specs.Refines.{followed_by}
use Rattle.call_parts.specs.Marks.{next_number}
use Rattle.java_calls.specs.Called.{Call, call_of, method_named}
use Rattle.java_calls.specs.Inlining.{Made, Expand, alone, made_of, both_made, then_made, expanded, inlined, expand_with, expand_at}
use Rattle.java_calls.specs.ProgramNames.{names_of}
use Rattle.java_calls.specs.Renaming.{Renaming, renamed}
use Rattle.java_calls.specs.Rules.{size_of, total_of}
use Rattle.java_calls.proofs.Calls.{expand_step}
use Rattle.inlining.specs.declared.counts.Counts.{Counts}
use Rattle.inlining.specs.declared.counts.Walked.{Walked}
use Rattle.inlining.specs.declared.counts.Walked.TheVariants as answers
use Rattle.inlining.specs.Walked.{Makes, statement_makes, block_makes, call_makes, helper_makes, IsPushed, IsPast, IsWalked, IsPut, IsOne, giving}
use Rattle.inlining.proofs.Totals.{followed_assoc, followed_nothing, total_followed}

-- ---- What maps give

pub record Mapped {A B : Type 0} (g : A → B) (o : Option A) (b : B) : Type 0 where
  pub from : A
  pub is : o ≡ Some from
  pub gives : g from ≡ b

pub map_some : {A B : Type 0} (g : A → B) (o : Option A) (b : B) → option_map g o ≡ Some b → Mapped g o b
map_some g None b h = absurd cc
map_some g (Some a) b h = let e : g a ≡ b = cc in record { from = a; is = refl; gives = e }

abbrev pub behind : Statements → Made → Made
behind b n = record { block = followed_by b n.block; taken = n.taken }

behind_nothing : (o : Option Made) → option_map (behind Nothing) o ≡ o
behind_nothing None = refl
behind_nothing (Some n) = refl

behind_both : (a b : Statements) (o : Option Made) → option_map (behind a) (option_map (behind b) o) ≡ option_map (behind (followed_by a b)) o
behind_both a b None = refl
behind_both a b (Some n) = ap (λ (s : Statements). Some (record { block = s; taken = n.taken })) (sym (followed_assoc a b n.block))

pub record Thened (o : Option Made) (f : ℕ → Option Made) (made : Made) : Type 0 where
  pub first : Made
  pub first_is : o ≡ Some first
  pub second : Made
  pub second_is : f first.taken ≡ Some second
  pub gives : behind first.block second ≡ made

then_some : (o : Option Made) (f : ℕ → Option Made) (made : Made) → then_made o f ≡ Some made → Thened o f made
then_some None f made h = absurd cc
then_some (Some m) f made h =
    let r : Mapped (behind m.block) (f m.taken) made = map_some (behind m.block) (f m.taken) made h in
    record { first = m; first_is = refl; second = r.from; second_is = r.is; gives = r.gives }

pub record Bothed (wrap : Statements → Statements → Statement) (o : Option Made) (f : ℕ → Option Made) (made : Made) : Type 0 where
  pub first : Made
  pub first_is : o ≡ Some first
  pub second : Made
  pub second_is : f first.taken ≡ Some second
  pub gives : alone (wrap first.block second.block) second.taken ≡ made

pub both_some : (wrap : Statements → Statements → Statement) (o : Option Made) (f : ℕ → Option Made) (made : Made) → both_made wrap o f ≡ Some made → Bothed wrap o f made
both_some wrap None f made h = absurd cc
both_some wrap (Some m) f made h =
    let r : Mapped (λ (n : Made). alone (wrap m.block n.block) n.taken) (f m.taken) made = map_some (λ (n : Made). alone (wrap m.block n.block) n.taken) (f m.taken) made h in
    record { first = m; first_is = refl; second = r.from; second_is = r.is; gives = r.gives }

pub some_is : (a b : Made) → Some a ≡ Some b → a ≡ b
some_is a b e = cc

pub total_alone : (s : Statement) → total_of (Then s Nothing) ≡ size_of s
total_alone s = omega arith

-- ---- The same by other words

pub walked_as : (w : Walked) (room : ℕ) (a b : Makes) (old new : Counts) (before after : Statements) → ((depth : ℕ) → room ≤ depth → a depth ≡ b depth) → IsWalked w room a old new before after → IsWalked w room b old new before after
walked_as answers.Pushed room a b old new before after same h = record { block = h.block; made = λ d le. sym (same d le) ∙ h.made d le; pushed = h.pushed; spent = h.spent }
walked_as answers.Full room a b old new before after same h = record { past = λ d le made e. h.past d le made (same d le ∙ e) }

-- of a statement that is another
pub walked_at : (w : Walked) (p : PlainProgram) (f : Renaming) (room : ℕ) (s t : Statement) (old new : Counts) (before after : Statements) → s ≡ t → IsWalked w room (statement_makes p f old.taken t) old new before after → IsWalked w room (statement_makes p f old.taken s) old new before after
walked_at w p f room s t old new before after same h = walked_as w room (statement_makes p f old.taken t) (statement_makes p f old.taken s) old new before after (λ d le. ap (λ (x : Statement). statement_makes p f old.taken x d) (sym same)) h

-- ---- One statement

pub one_walked : (w : Walked) (p : PlainProgram) (f : Renaming) (room : ℕ) (s t : Statement) (old new : Counts) (before after : Statements)
    → ((expand : Expand) → inlined expand f old.taken s ≡ Some (alone t old.taken)) → size_of t ≡ 1 → IsOne w t old new before after → IsWalked w room (statement_makes p f old.taken s) old new before after
one_walked answers.Pushed p f room s t old new before after is size h =
    record {
      block = Then t Nothing;
      made = λ d le. is (expand_at d (names_of p) p.methods) ∙ ap (λ (k : ℕ). Some (alone t k)) (sym h.2);
      pushed = h.0;
      spent = omega (arith, h.1, total_alone t);
    }
one_walked answers.Full p f room s t old new before after is size h =
    record {
      past = λ d le made e.
          let same : alone t old.taken ≡ made = some_is (alone t old.taken) made (sym (is (expand_at d (names_of p) p.methods)) ∙ e) in
          let total : total_of (Then t Nothing) ≡ total_of made.block = ap (λ (m : Made). total_of m.block) same in
          omega (arith, h, total_alone t);
    }

-- ---- Bodies

pub body_pushed : (wrap : Statements → Statement) (room : ℕ) (makes : Makes) (old middle new : Counts) (before after body : Statements) → ((b : Statements) → size_of (wrap b) ≡ suc (total_of b))
    → old.left ≡ suc middle.left → IsPushed room makes middle new Nothing body → after ≡ followed_by before (Then (wrap body) Nothing) → IsPushed room (λ d. made_of wrap (makes d)) old new before after
body_pushed wrap room makes old middle new before after body size less h is =
    let same : body ≡ h.block = h.pushed in
    let total : total_of body ≡ total_of h.block = ap total_of same in
    let s : size_of (wrap body) ≡ suc (total_of body) = size body in
    let spent : middle.left ≡ new.left + total_of h.block = h.spent in
    record {
      block = Then (wrap body) Nothing;
      made = λ d le. ap (made_of wrap) (h.made d le) ∙ ap (λ (b : Statements). Some (alone (wrap b) new.taken)) (sym same);
      pushed = is;
      spent = omega (arith, total_alone (wrap body));
    }

pub body_past : (wrap : Statements → Statement) (room : ℕ) (makes : Makes) (left : ℕ) → ((b : Statements) → size_of (wrap b) ≡ suc (total_of b))
    → ((depth : ℕ) → room ≤ depth → (made : Made) → makes depth ≡ Some made → left < suc (total_of made.block)) → IsPast room (λ d. made_of wrap (makes d)) left
body_past wrap room makes left size h =
    record {
      past = λ d le made e.
          let r : Mapped (λ (m : Made). alone (wrap m.block) m.taken) (makes d) made = map_some (λ (m : Made). alone (wrap m.block) m.taken) (makes d) made e in
          let lt : left < suc (total_of r.from.block) = h d le r.from r.is in
          let s : size_of (wrap r.from.block) ≡ suc (total_of r.from.block) = size r.from.block in
          let total : total_of (Then (wrap r.from.block) Nothing) ≡ total_of made.block = ap (λ (m : Made). total_of m.block) r.gives in
          omega (arith, total_alone (wrap r.from.block));
    }

-- ---- Two bodies

pub bodies_pushed : (wrap : Statements → Statements → Statement) (room : ℕ) (first : Makes) (second : ℕ → Makes) (old spent middle new : Counts) (before after a b : Statements) → ((a b : Statements) → size_of (wrap a b) ≡ suc (total_of a + total_of b))
    → old.left ≡ suc spent.left → IsPushed room first spent middle Nothing a → IsPushed room (second middle.taken) middle new Nothing b → after ≡ followed_by before (Then (wrap a b) Nothing)
    → IsPushed room (λ d. both_made wrap (first d) (λ k. second k d)) old new before after
bodies_pushed wrap room first second old spent middle new before after a b size less h i is =
    let same : a ≡ h.block = h.pushed in
    let same' : b ≡ i.block = i.pushed in
    let total : total_of a ≡ total_of h.block = ap total_of same in
    let total' : total_of b ≡ total_of i.block = ap total_of same' in
    let s : size_of (wrap a b) ≡ suc (total_of a + total_of b) = size a b in
    let one : spent.left ≡ middle.left + total_of h.block = h.spent in
    let two : middle.left ≡ new.left + total_of i.block = i.spent in
    record {
      block = Then (wrap a b) Nothing;
      made = λ d le.
          ap (λ (o : Option Made). both_made wrap o (λ k. second k d)) (h.made d le)
          ∙ ap (option_map (λ (n : Made). alone (wrap h.block n.block) n.taken)) (i.made d le)
          ∙ ap (λ (x : Statements). Some (alone (wrap x i.block) new.taken)) (sym same)
          ∙ ap (λ (x : Statements). Some (alone (wrap a x) new.taken)) (sym same');
      pushed = is;
      spent = omega (arith, total_alone (wrap a b));
    }

pub first_past : (wrap : Statements → Statements → Statement) (room : ℕ) (first : Makes) (second : ℕ → Makes) (left : ℕ) → ((a b : Statements) → size_of (wrap a b) ≡ suc (total_of a + total_of b))
    → ((depth : ℕ) → room ≤ depth → (made : Made) → first depth ≡ Some made → left < suc (total_of made.block)) → IsPast room (λ d. both_made wrap (first d) (λ k. second k d)) left
first_past wrap room first second left size h =
    record {
      past = λ d le made e.
          let r : Bothed wrap (first d) (λ k. second k d) made = both_some wrap (first d) (λ k. second k d) made e in
          let lt : left < suc (total_of r.first.block) = h d le r.first r.first_is in
          let s : size_of (wrap r.first.block r.second.block) ≡ suc (total_of r.first.block + total_of r.second.block) = size r.first.block r.second.block in
          let total : total_of (Then (wrap r.first.block r.second.block) Nothing) ≡ total_of made.block = ap (λ (m : Made). total_of m.block) r.gives in
          omega (arith, total_alone (wrap r.first.block r.second.block));
    }

pub second_past : (wrap : Statements → Statements → Statement) (room : ℕ) (first : Makes) (second : ℕ → Makes) (old spent middle : Counts) (a : Statements) → ((a b : Statements) → size_of (wrap a b) ≡ suc (total_of a + total_of b))
    → old.left ≡ suc spent.left → IsPushed room first spent middle Nothing a → IsPast room (second middle.taken) middle.left → IsPast room (λ d. both_made wrap (first d) (λ k. second k d)) old.left
second_past wrap room first second old spent middle a size one h i =
    record {
      past = λ d le made e.
          let r : Bothed wrap (first d) (λ k. second k d) made = both_some wrap (first d) (λ k. second k d) made e in
          let same : record { block = h.block; taken = middle.taken } ≡ r.first = some_is (record { block = h.block; taken = middle.taken }) r.first (sym (h.made d le) ∙ r.first_is) in
          let at : second middle.taken d ≡ Some r.second = ap (λ (m : Made). second m.taken d) same ∙ r.second_is in
          let lt : middle.left < total_of r.second.block = i.past d le r.second at in
          let spent' : spent.left ≡ middle.left + total_of h.block = h.spent in
          let block : total_of h.block ≡ total_of r.first.block = ap (λ (m : Made). total_of m.block) same in
          let s : size_of (wrap r.first.block r.second.block) ≡ suc (total_of r.first.block + total_of r.second.block) = size r.first.block r.second.block in
          let total : total_of (Then (wrap r.first.block r.second.block) Nothing) ≡ total_of made.block = ap (λ (m : Made). total_of m.block) r.gives in
          omega (arith, total_alone (wrap r.first.block r.second.block));
    }

-- ---- Blocks

-- what is made of a block is what is pushed so far, and behind it what is made of the rest
pub record IsSoFar (room : ℕ) (p : PlainProgram) (f : Renaming) (whole rest : Statements) (old new : Counts) (before after : Statements) : Type 0 where
  pub block : Statements
  pub so : (depth : ℕ) → room ≤ depth → block_makes p f old.taken whole depth ≡ option_map (behind block) (block_makes p f new.taken rest depth)
  pub pushed : after ≡ followed_by before block
  pub spent : old.left ≡ new.left + total_of block

pub so_far_none : (room : ℕ) (p : PlainProgram) (f : Renaming) (whole : Statements) (old : Counts) (before : Statements) → IsSoFar room p f whole whole old old before before
so_far_none room p f whole old before =
    record {
      block = Nothing;
      so = λ d le. sym (behind_nothing (block_makes p f old.taken whole d));
      pushed = sym (followed_nothing before);
      spent = omega arith;
    }

pub so_far_next : (room : ℕ) (p : PlainProgram) (f : Renaming) (whole rest : Statements) (s : Statement) (old middle new : Counts) (before between after : Statements)
    → IsSoFar room p f whole (Then s rest) old middle before between → IsPushed room (statement_makes p f middle.taken s) middle new between after → IsSoFar room p f whole rest old new before after
so_far_next room p f whole rest s old middle new before between after h i =
    let one : old.left ≡ middle.left + total_of h.block = h.spent in
    let two : middle.left ≡ new.left + total_of i.block = i.spent in
    record {
      block = followed_by h.block i.block;
      so = λ d le.
          h.so d le
          ∙ ap (λ (o : Option Made). option_map (behind h.block) (then_made o (λ k. block_makes p f k rest d))) (i.made d le)
          ∙ behind_both h.block i.block (block_makes p f new.taken rest d);
      pushed = i.pushed ∙ ap (λ (x : Statements). followed_by x i.block) h.pushed ∙ followed_assoc before h.block i.block;
      spent = omega (arith, total_followed h.block i.block);
    }

pub so_far_past : (room : ℕ) (p : PlainProgram) (f : Renaming) (whole rest : Statements) (s : Statement) (old middle : Counts) (before between : Statements)
    → IsSoFar room p f whole (Then s rest) old middle before between → IsPast room (statement_makes p f middle.taken s) middle.left → IsPast room (block_makes p f old.taken whole) old.left
so_far_past room p f whole rest s old middle before between h i =
    record {
      past = λ d le made e.
          let one : old.left ≡ middle.left + total_of h.block = h.spent in
          let r : Mapped (behind h.block) (block_makes p f middle.taken (Then s rest) d) made = map_some (behind h.block) (block_makes p f middle.taken (Then s rest) d) made (sym (h.so d le) ∙ e) in
          let t : Thened (statement_makes p f middle.taken s d) (λ k. block_makes p f k rest d) r.from = then_some (statement_makes p f middle.taken s d) (λ k. block_makes p f k rest d) r.from r.is in
          let lt : middle.left < total_of t.first.block = i.past d le t.first t.first_is in
          let whole_is : total_of (followed_by h.block r.from.block) ≡ total_of made.block = ap (λ (m : Made). total_of m.block) r.gives in
          let from_is : total_of (followed_by t.first.block t.second.block) ≡ total_of r.from.block = ap (λ (m : Made). total_of m.block) t.gives in
          omega (arith, total_followed h.block r.from.block, total_followed t.first.block t.second.block);
    }

pub so_far_all : (room : ℕ) (p : PlainProgram) (f : Renaming) (whole : Statements) (old new : Counts) (before after : Statements) → IsSoFar room p f whole Nothing old new before after → IsPushed room (block_makes p f old.taken whole) old new before after
so_far_all room p f whole old new before after h =
    record {
      block = h.block;
      made = λ d le. h.so d le ∙ ap (λ (b : Statements). Some (record { block = b; taken = new.taken })) (followed_nothing h.block);
      pushed = h.pushed;
      spent = h.spent;
    }

-- ---- Calls

abbrev pub within : Statements → Statements → Made → Made
within args ending made = record { block = followed_by args (followed_by made.block ending); taken = made.taken }

pub within_total : (args ending : Statements) (made : Made) → total_of (within args ending made).block ≡ total_of args + (total_of made.block + total_of ending)
within_total args ending made = total_followed args (followed_by made.block ending) ∙ ap (λ (n : ℕ). total_of args + n) (total_followed made.block ending)

pub helper_pushed : (room : ℕ) (inner : Makes) (args ending : Statements) (old first second new : Counts) (before one two after : Statements)
    → IsPut answers.Pushed args old first before one → IsPushed room inner first second one two → IsPut answers.Pushed ending second new two after → IsPushed room (λ d. option_map (within args ending) (inner d)) old new before after
helper_pushed room inner args ending old first second new before one two after h i j =
    let a : old.left ≡ first.left + total_of args = h.1 in
    let b : first.left ≡ second.left + total_of i.block = i.spent in
    let c : second.left ≡ new.left + total_of ending = j.1 in
    record {
      block = followed_by args (followed_by i.block ending);
      made = λ d le. ap (option_map (within args ending)) (i.made d le) ∙ ap (λ (k : ℕ). Some (within args ending (record { block = i.block; taken = k }))) (sym j.2);
      pushed =
          j.0
          ∙ ap (λ (x : Statements). followed_by x ending) (i.pushed ∙ ap (λ (x : Statements). followed_by x i.block) h.0)
          ∙ followed_assoc (followed_by before args) i.block ending
          ∙ followed_assoc before args (followed_by i.block ending);
      spent = omega (arith, total_followed args (followed_by i.block ending), total_followed i.block ending);
    }

pub args_past : (room : ℕ) (inner : Makes) (args ending : Statements) (left : ℕ) → left < total_of args → IsPast room (λ d. option_map (within args ending) (inner d)) left
args_past room inner args ending left h =
    record {
      past = λ d le made e.
          let r : Mapped (within args ending) (inner d) made = map_some (within args ending) (inner d) made e in
          let total : total_of (within args ending r.from).block ≡ total_of made.block = ap (λ (m : Made). total_of m.block) r.gives in
          omega (arith, within_total args ending r.from);
    }

pub inner_past : (room : ℕ) (inner : Makes) (args ending : Statements) (left first : ℕ) → left ≡ first + total_of args → IsPast room inner first → IsPast room (λ d. option_map (within args ending) (inner d)) left
inner_past room inner args ending left first a h =
    record {
      past = λ d le made e.
          let r : Mapped (within args ending) (inner d) made = map_some (within args ending) (inner d) made e in
          let lt : first < total_of r.from.block = h.past d le r.from r.is in
          let total : total_of (within args ending r.from).block ≡ total_of made.block = ap (λ (m : Made). total_of m.block) r.gives in
          omega (arith, within_total args ending r.from);
    }

pub ending_past : (room : ℕ) (inner : Makes) (args ending : Statements) (left : ℕ) (first second : Counts) (one two : Statements) → left ≡ first.left + total_of args → IsPushed room inner first second one two → second.left < total_of ending
    → IsPast room (λ d. option_map (within args ending) (inner d)) left
ending_past room inner args ending left first second one two a i h =
    record {
      past = λ d le made e.
          let r : Mapped (within args ending) (inner d) made = map_some (within args ending) (inner d) made e in
          let same : record { block = i.block; taken = second.taken } ≡ r.from = some_is (record { block = i.block; taken = second.taken }) r.from (sym (i.made d le) ∙ r.is) in
          let block : total_of i.block ≡ total_of r.from.block = ap (λ (m : Made). total_of m.block) same in
          let b : first.left ≡ second.left + total_of i.block = i.spent in
          let total : total_of (within args ending r.from).block ≡ total_of made.block = ap (λ (m : Made). total_of m.block) r.gives in
          omega (arith, within_total args ending r.from);
    }

-- a call by the method's name, with one more call open
pub call_walked : (w : Walked) (p : PlainProgram) (f : Renaming) (room less : ℕ) (s : Statement) (call : Call) (m : PlainMethod) (old new : Counts) (before after : Statements) → room ≡ suc less → method_named call.name p.methods ≡ Some m
    → IsWalked w less (helper_makes p f old.taken s call m) old new before after → IsWalked w room (call_makes p f old.taken s call) old new before after
call_walked answers.Pushed p f room less s call m old new before after one named h = record { block = h.block; made = λ d le. made d (omega arith); pushed = h.pushed; spent = h.spent }
  where
    made : (d : ℕ) → suc less ≤ d → call_makes p f old.taken s call d ≡ Some (record { block = h.block; taken = new.taken })
    made zero le = absurd (omega arith)
    made (suc d) le = expand_step d (names_of p) p.methods old.taken f s call ∙ ap (expand_with (expand_at d (names_of p) p.methods) (next_number (names_of p) old.taken) f s call) named ∙ h.made d (omega arith)
call_walked answers.Full p f room less s call m old new before after one named h = record { past = λ d le made e. past d (omega arith) made e }
  where
    past : (d : ℕ) → suc less ≤ d → (made : Made) → call_makes p f old.taken s call d ≡ Some made → old.left < total_of made.block
    past zero le made e = absurd (omega arith)
    past (suc d) le made e = h.past d (omega arith) made (sym (ap (expand_with (expand_at d (names_of p) p.methods) (next_number (names_of p) old.taken) f s call) named) ∙ sym (expand_step d (names_of p) p.methods old.taken f s call) ∙ e)

-- ---- Statements whose value is a call, or isn't

giving_is : (expand : Expand) (f : Renaming) (k : ℕ) (at : Span) (ty : Option Spelled) (x : List ℕ) (e : Expression) → inlined expand f k (giving at ty x e) ≡ expanded expand k f (giving at ty x e) (call_of e) (giving at ty (f x) (renamed f e))
giving_is expand f k at (Some ty) x e = refl
giving_is expand f k at None x e = refl

pub giving_call : (w : Walked) (p : PlainProgram) (f : Renaming) (room : ℕ) (at : Span) (ty : Option Spelled) (x : List ℕ) (e : Expression) (call : Call) (old new : Counts) (before after : Statements) → call_of e ≡ Some call
    → IsWalked w room (call_makes p f old.taken (giving at ty x e) call) old new before after → IsWalked w room (statement_makes p f old.taken (giving at ty x e)) old new before after
giving_call w p f room at ty x e call old new before after is h =
    walked_as w room (call_makes p f old.taken (giving at ty x e) call) (statement_makes p f old.taken (giving at ty x e)) old new before after
    (λ d le. sym (giving_is (expand_at d (names_of p) p.methods) f old.taken at ty x e ∙ ap (λ (o : Option Call). expanded (expand_at d (names_of p) p.methods) old.taken f (giving at ty x e) o (giving at ty (f x) (renamed f e))) is)) h

giving_size : (at : Span) (ty : Option Spelled) (x : List ℕ) (e : Expression) → size_of (giving at ty x e) ≡ 1
giving_size at (Some ty) x e = refl
giving_size at None x e = refl

pub giving_one : (w : Walked) (p : PlainProgram) (f : Renaming) (room : ℕ) (at : Span) (ty : Option Spelled) (x : List ℕ) (e : Expression) (old new : Counts) (before after : Statements) → call_of e ≡ None
    → IsOne w (giving at ty (f x) (renamed f e)) old new before after → IsWalked w room (statement_makes p f old.taken (giving at ty x e)) old new before after
giving_one w p f room at ty x e old new before after is h =
    one_walked w p f room (giving at ty x e) (giving at ty (f x) (renamed f e)) old new before after
    (λ expand. giving_is expand f old.taken at ty x e ∙ ap (λ (o : Option Call). expanded expand old.taken f (giving at ty x e) o (giving at ty (f x) (renamed f e))) is) (giving_size at ty (f x) (renamed f e)) h
