use lib.Utf8.{encode}
use Rattle.std.proofs.Common.{◌≡◌, ℕ, ◌+◌, ◌<◌, ◌∷◌, ◌++◌, [], List, length, sym, ap, ◌∙◌, arith}
use Rattle.std.proofs.lemmas.List.{length-drop, append-nil}
use Rattle.std.specs.String.{string_bytes}
use Rattle.java_lex.specs.declared.piece.Piece.TheVariants.{Token}
use Rattle.java_lex.specs.declared.token.TokenNode.TheVariants.{Text}
use Rattle.java_lex.specs.Pieces.{close, line_end, wrong, behind, body_from, literal_of}
use Rattle.java_lex.proofs.Bodies.{passes, passes_escape, passes_plain}
use Rattle.java_lex.proofs.literals.literal.Goals as goal

pub returns-in-Close : goal.returns-in-Close
returns-in-Close c =
    rw c.from_string.ensures
    (ap (λ (text : List ℕ). Token (Text text) (c.loop-text.len + 1)) (sym (append-nil (string_bytes c.loop-text.text)))
    ∙ ap literal_of (passes c.loop-text.len (string_bytes c.loop-text.text) (behind 1 [] (body_from 0 c.args.bytes.now)) c.loop-text.rest.now close c.in-Close.ensures.value c.loop-text.invariant.so_far))

pub returns-in-LineEnd : goal.returns-in-LineEnd
returns-in-LineEnd c =
    ap literal_of (passes c.loop-text.len (string_bytes c.loop-text.text) (behind 1 [] (body_from 0 c.args.bytes.now)) c.loop-text.rest.now line_end c.in-LineEnd.ensures.value c.loop-text.invariant.so_far)

pub returns-in-Wrong : goal.returns-in-Wrong
returns-in-Wrong c =
    ap literal_of (passes c.loop-text.len (string_bytes c.loop-text.text) (behind 1 [] (body_from 0 c.args.bytes.now)) c.loop-text.rest.now (wrong c.in-Wrong.before) c.in-Wrong.ensures.value c.loop-text.invariant.so_far)

-- a character that is an ASCII byte adds that byte
pushed : (text after added : List ℕ) (char byte : ℕ) → after ≡ text ++ added → (char < 128 → added ≡ char ∷ []) → char ≡ byte → byte < 128 → after ≡ text ++ byte ∷ []
pushed text after added char byte e ascii same small =
    e ∙ ap (λ (bs : List ℕ). text ++ bs) (ascii (omega arith) ∙ ap (λ (b : ℕ). b ∷ []) same)

pub loop-text-preserved-in-Escape : goal.loop-text-preserved-in-Escape
loop-text-preserved-in-Escape c =
    let bytes : string_bytes c.push.new.self ≡ string_bytes c.loop-text.text ++ c.in-Escape.byte ∷ [] =
    pushed (string_bytes c.loop-text.text) (string_bytes c.push.new.self) (encode c.from.result) c.from.result c.in-Escape.byte c.in_ok-push-in-Escape.ensures.bytes c.in_ok-push-in-Escape.ensures.ascii c.from.ensures c.in-Escape.ensures.fits.1 in
    record {
      room = omega (arith, c.loop-text.invariant.room, c.in-Escape.ensures.fits.0, ap length c.split_at.ensures.back, length-drop 2 c.loop-text.rest.now);
      so_far = rw (bytes, c.split_at.ensures.back) (passes_escape c.loop-text.len (string_bytes c.loop-text.text) (behind 1 [] (body_from 0 c.args.bytes.now)) c.loop-text.rest.now c.in-Escape.byte c.in-Escape.ensures.value c.loop-text.invariant.so_far);
    }

pub loop-text-preserved : goal.loop-text-preserved
loop-text-preserved c = record {
  room = omega (arith, c.loop-text.invariant.room, c.in-Plain.ensures.fits.1, ap length c.split_at-in-Plain.ensures.back, length-drop (length c.in-Plain.run'.now) c.loop-text.rest.now);
  so_far = rw (c.in_ok-push_str-in-Plain.ensures.bytes, c.split_at-in-Plain.ensures.back) (passes_plain c.loop-text.len (string_bytes c.loop-text.text) (behind 1 [] (body_from 0 c.args.bytes.now)) c.loop-text.rest.now c.in-Plain.run'.now c.in-Plain.ensures.value c.loop-text.invariant.so_far);
}
