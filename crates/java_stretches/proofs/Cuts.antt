-- Tokens that part into those of some statements of one block and those around them, and what has the tokens with others
-- in place of these.
use Rattle.std.proofs.Common.{◌≡◌, ℕ, List, [], ◌∷◌, ◌++◌, refl, sym, ap, subst, ◌∙◌, append_assoc}
use Rattle.java_lex.specs.Cutting.{EndsAt}
use Rattle.java_ast.specs.Spans.{place_of}
use Rattle.java_ast.specs.Tree.{Statement, Statements}
use Rattle.java_grammar.specs.Marks.{Tok, tokens_of, extent}
use Rattle.java_grammar.specs.Rules.{Rule, Seq}
use Rattle.java_grammar.specs.Statements.{Opens, HasStatements}
use Rattle.java_stretches.specs.Stretch.{StartsWith}
use Rattle.java_stretches.proofs.Ends.{Ends, ends_behind, First, first_of, first_then, same_extent}

-- what is said of new statements, and of the tokens in which they stand
abbrev pub Kept : Type 1
Kept = Statements → List Tok → Type 0

-- From the statement one to the statement s. Before these stands nothing, or something ends. Others stand in their place
-- where so many more things may be open.
pub record Cut (us : List Tok) (one s : Statement) (F : Kept) : Type 0 where
  pub before : List Tok
  pub within : List Tok
  pub after : List Tok
  pub parts : us ≡ before ++ (within ++ after)
  pub starts : StartsWith (place_of one) (tokens_of within)
  pub ends : EndsAt (place_of s).end (tokens_of within)
  pub closed : (front : List Tok) → Ends front → Ends (front ++ before)
  pub room : ℕ
  pub replaced : (given : List Tok) (new : Statements) → HasStatements room given new → F new (before ++ (given ++ after))

-- and something stands before these, and something behind them
pub record Inner (us : List Tok) (one s : Statement) (F : Kept) : Type 0 where
  pub cut : Cut us one s F
  pub closed : Ends cut.before
  pub more : First cut.after

-- ---- with further tokens around

abbrev pub Behind : List Tok → Kept → Kept
Behind front F new ws = (vs : List Tok) × (ws ≡ front ++ vs) × F new vs

abbrev pub Ahead : List Tok → Kept → Kept
Ahead back F new ws = (vs : List Tok) × (ws ≡ vs ++ back) × F new vs

pub cut_behind : {us : List Tok} {one s : Statement} {F : Kept} (front : List Tok) → Ends front → Cut us one s F → Cut (front ++ us) one s (Behind front F)
cut_behind front e c = record {
  before = front ++ c.before;
  within = c.within;
  after = c.after;
  parts = ap (λ (ws : List Tok). front ++ ws) c.parts ∙ sym (append_assoc front c.before (c.within ++ c.after));
  starts = c.starts;
  ends = c.ends;
  closed = λ f h. ends_behind f (front ++ c.before) (c.closed front e);
  room = c.room;
  replaced = λ given new h. (c.before ++ (given ++ c.after), append_assoc front c.before (given ++ c.after), c.replaced given new h);
}

pub cut_ahead : {us : List Tok} {one s : Statement} {F : Kept} (back : List Tok) → Cut us one s F → Cut (us ++ back) one s (Ahead back F)
cut_ahead back c = record {
  before = c.before;
  within = c.within;
  after = c.after ++ back;
  parts = ap (λ (ws : List Tok). ws ++ back) c.parts ∙ simp append_assoc;
  starts = c.starts;
  ends = c.ends;
  closed = c.closed;
  room = c.room;
  replaced = λ given new h. (c.before ++ (given ++ c.after), simp append_assoc, c.replaced given new h);
}

pub cut_turned : {us : List Tok} {one s : Statement} {F G : Kept} → ((new : Statements) (ws : List Tok) → F new ws → G new ws) → Cut us one s F → Cut us one s G
cut_turned k c = record { before = c.before; within = c.within; after = c.after; parts = c.parts; starts = c.starts; ends = c.ends; closed = c.closed; room = c.room; replaced = λ given new h. k new (c.before ++ (given ++ c.after)) (c.replaced given new h) }

pub behind : {us : List Tok} {one s : Statement} {F : Kept} (front : List Tok) → Inner us one s F → Inner (front ++ us) one s (Behind front F)
behind front i = record {
  cut = record {
    before = front ++ i.cut.before;
    within = i.cut.within;
    after = i.cut.after;
    parts = ap (λ (ws : List Tok). front ++ ws) i.cut.parts ∙ sym (append_assoc front i.cut.before (i.cut.within ++ i.cut.after));
    starts = i.cut.starts;
    ends = i.cut.ends;
    closed = λ f h. ends_behind f (front ++ i.cut.before) (ends_behind front i.cut.before i.closed);
    room = i.cut.room;
    replaced = λ given new h. (i.cut.before ++ (given ++ i.cut.after), append_assoc front i.cut.before (given ++ i.cut.after), i.cut.replaced given new h);
  };
  closed = ends_behind front i.cut.before i.closed;
  more = i.more;
}

pub ahead : {us : List Tok} {one s : Statement} {F : Kept} (back : List Tok) → Inner us one s F → Inner (us ++ back) one s (Ahead back F)
unfolding cut_ahead
ahead back i = record { cut = cut_ahead back i.cut; closed = i.closed; more = first_then i.cut.after back i.more }

-- between two that open and close
pub inside : {us : List Tok} {one s : Statement} {F : Kept} (front back : List Tok) → Ends front → First back → Cut us one s F → Inner (front ++ (us ++ back)) one s (Behind front (Ahead back F))
unfolding cut_behind cut_ahead
inside front back e b c = record { cut = cut_behind front e (cut_ahead back c); closed = c.closed front e; more = more c.after back b }
  where
    more : (us vs : List Tok) → First vs → First (us ++ vs)
    more [] vs h = h
    more (t ∷ us) vs h = record { first = t; rest = us ++ vs; is = refl }

-- ---- with the same place

-- tokens have the place of others, and a statement opens with the one as with the other
pub record Like (us ws : List Tok) : Type 0 where
  pub place : extent ws ≡ extent us
  pub opens : (room : ℕ) → Opens room us → Opens room ws

like : {us : List Tok} {one s : Statement} {F : Kept} (i : Inner us one s F) (given : List Tok) → Like us (i.cut.before ++ (given ++ i.cut.after))
like {us} i given =
    let c = i.cut in
    let f : First c.before = first_of c.before i.closed in
    record {
      place = same_extent c.before c.within given c.after f i.more ∙ sym (ap extent c.parts);
      opens = λ room h.
          let e : us ≡ f.first ∷ (f.rest ++ (c.within ++ c.after)) = c.parts ∙ ap (λ (ws : List Tok). ws ++ (c.within ++ c.after)) f.is in
          let first : h.0 ≡ f.first = (let both : h.0 ∷ h.1 ≡ f.first ∷ (f.rest ++ (c.within ++ c.after)) = sym h.2 ∙ e in cc) in
          (h.0, f.rest ++ (given ++ c.after), (ap (λ (ws : List Tok). ws ++ (given ++ c.after)) f.is ∙ ap (λ (t : Tok). t ∷ (f.rest ++ (given ++ c.after))) (sym first)), h.3);
    }

pub turned : {us : List Tok} {one s : Statement} {F G : Kept} → ((new : Statements) (ws : List Tok) → Like us ws → F new ws → G new ws) → Inner us one s F → Inner us one s G
turned k i = record {
  cut = record {
    before = i.cut.before;
    within = i.cut.within;
    after = i.cut.after;
    parts = i.cut.parts;
    starts = i.cut.starts;
    ends = i.cut.ends;
    closed = i.cut.closed;
    room = i.cut.room;
    replaced = λ given new h. k new (i.cut.before ++ (given ++ i.cut.after)) (like i given) (i.cut.replaced given new h);
  };
  closed = i.closed;
  more = i.more;
}

-- ---- in one of two parts

pub in_second : {A B : Type 0} {one s : Statement} (P : Rule A) (Q : Rule B) (x : A) (y : Statements → B) (us front back : List Tok) → us ≡ front ++ back → P front x
    → Inner back one s (λ new ws. Q ws (y new)) → Inner us one s (λ new ws. Seq P Q ws (x, y new))
in_second {one} {s} P Q x y us front back e p i =
    subst (λ (zs : List Tok). Inner zs one s (λ new ws. Seq P Q ws (x, y new))) (sym e) (turned (λ new ws l f. (front, f.0, f.1, p, f.2)) (behind front i))

pub in_first : {A B : Type 0} {one s : Statement} (P : Rule A) (Q : Rule B) (x : Statements → A) (y : B) (us front back : List Tok) → us ≡ front ++ back → Q back y
    → Inner front one s (λ new ws. P ws (x new)) → Inner us one s (λ new ws. Seq P Q ws (x new, y))
in_first {one} {s} P Q x y us front back e q i =
    subst (λ (zs : List Tok). Inner zs one s (λ new ws. Seq P Q ws (x new, y))) (sym e) (turned (λ new ws l f. (f.0, back, f.1, f.2, q)) (ahead back i))
