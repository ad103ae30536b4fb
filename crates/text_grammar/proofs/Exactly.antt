-- EXACTLY: a text is accepted if and only if its trees are derived and fit; and what is accepted, opening takes. Assumes nothing.
use Prim.Native.Nat.{ℕ, ◌/◌, ◌<◌, ◌≤◌}
use native.Mathlib.Omega.{arith}
use mathlib.Core.Path.{◌≡◌, refl, ap, subst}
use mathlib.Core.List.{List}
use mathlib.Core.Logic.{◌↔◌}
use mathlib.Core.Bool.{Bool, true, false}
use lib.ListN.{length}
use lib.Dec.{ltb}
use borrow.Author.Tests.{ltb-true, ltb-false}
use Rattle.trees.specs.Tree.{Trees}
use Rattle.records.specs.Result as result
use Rattle.records.specs.Result.{refusal_of}
use Rattle.tokens.specs.declared.Token.{Token}
use Rattle.tokens.specs.Input.{pos_at}
use Rattle.parser.specs.Reading.{done, stopped, number, bytes}
use Rattle.grammar.specs.Meaning.{GoodList, Derived}
use Rattle.grammar.proofs.Theorem.{three}
use Rattle.grammar.proofs.Places.{within}
use Rattle.grammar.proofs.Exactly.{both, neither, Is, numbers, code_is, refused-high}
use Rattle.closed.proofs.Theorem.{accepted-closed}
use Rattle.lexer.proofs.RangeLaws.{refused-inside}
use Rattle.lexer.proofs.RunLaws.{front, no_further, proper}
use Rattle.texts.specs.TextReading.{token_input}
use Rattle.text_grammar.specs.TextMeaning.{Plain, Begins, TextDerived, TextAccepted, FirstHigh, BadToken, TooMany, Underived, TextTooLong, TextRefused, too_long, not_ascii, too_many, bad-token, too_deep, no_parse, no_space, TextWorth, accepted, refused, TextClosed, TextFitting, TextExactly}
use Rattle.text_grammar.proofs.TokenLaws.{size-tokens, good-tokens, lent-tokens}
use Rattle.text_grammar.proofs.ByteLaws.{ascii-plain, no_high}
use Rattle.text_grammar.proofs.Theorem.{derives-all, unique, refused_none}

-- ---- the tokens of a text are a list that `isle_read` takes

pub good : {text : List ℕ} {ts : List Token} → Begins text ts → length ts ≤ 16384 → GoodList (token_input text ts)
good {text} {ts} b n = good-tokens text ts b.plain.short (ascii-plain b.plain) (proper text b.plain.short b.lexes) n

pub lent-derived : {text : List ℕ} {us : Trees} (d : TextDerived text us) → Derived (token_input text d.tokens) us
lent-derived d = record { list-good = good d.whole.begins d.whole.few; derives = derives-all d; shallow = d.shallow }

-- ---- what is no ground of a derived text

many-none : {text : List ℕ} {us : Trees} → TooMany text → TextDerived text us → ⊥
many-none {text} m d =
    let w = d.whole in
    let z = (no_further text (rw w.ends tt) (front text w.begins.lexes m.begins.lexes (omega (arith, w.few, m.count)))).0 in
    omega (arith, ap length z, m.count, w.few)

-- derived trees fit or they do not
no_longer : {text : List ℕ} {space : ℕ} → TextFitting text space → TextTooLong text space → ⊥
no_longer f x = omega (arith, f.fits, rw (unique f.trees x.trees f.derived x.derived) at x.longer)

-- the first high byte is one
one-high : {text : List ℕ} {j k : ℕ} → FirstHigh text j → FirstHigh text k → j ≡ k
one-high {j = j} {k = k} a b = go (ltb j k) (ltb k j) refl refl
  where
    go : (x y : Bool) → ltb j k ≡ x → ltb k j ≡ y → j ≡ k
    go true y e f = absurd (omega (arith, a.high, b.low-before j (ltb-true j k e)))
    go false true e f = absurd (omega (arith, b.high, a.low-before k (ltb-true k j f)))
    go false false e f = omega (arith, ltb-false j k e, ltb-false k j f)

-- ---- by refusal and place

record Only (text : List ℕ) (space code place : ℕ) : Type 0 where
  six : Is code place 6 0 ↔ TextTooLong text space
  forty_one : (p : ℕ) → Is code place 41 p ↔ FirstHigh text p
  unfit : TextFitting text space → ⊥

module _ {text : List ℕ} {space : ℕ} where
  -- a refusal of a plain text of which nothing is derived
  none-derived : {code place : ℕ} → Plain text → ((us : Trees) → TextDerived text us → ⊥) → (code ≡ 6 → ⊥) → (code ≡ 41 → ⊥) → Only text space code place
  none-derived q n a b =
      record {
        six = neither (λ e. a e.0) (λ x. n _ x.derived);
        forty_one = λ p. neither (λ e. b e.0) (λ f. no_high q f);
        unfit = λ f. n _ f.derived;
      }

  only : {code place : ℕ} → TextRefused text space code place → Only text space code place
  only (too_long h) =
      record {
        six = neither (λ e. omega (arith, e.0)) (λ x. omega (arith, x.derived.whole.begins.plain.short));
        forty_one = λ p. neither (λ e. omega (arith, e.0)) (λ f. omega (arith, f.short));
        unfit = λ f. omega (arith, f.derived.whole.begins.plain.short);
      }
  only (not_ascii h) =
      record {
        six = neither (λ e. omega (arith, e.0)) (λ x. no_high x.derived.whole.begins.plain h);
        forty_one = λ p. (λ e. subst (FirstHigh text) e.1 h, λ f. (refl, one-high h f));
        unfit = λ f. no_high f.derived.whole.begins.plain h;
      }
  only (too_many m) = none-derived m.begins.plain (λ us d. many-none m d) (λ e. omega arith) (λ e. omega arith)
  only (bad-token b) = none-derived b.begins.plain (refused_none b.begins.lexes b.refuses) (λ e. omega arith) (λ e. omega arith)
  only (too_deep u x) = none-derived u.begins.plain u.none (λ e. omega arith) (λ e. omega arith)
  only (no_parse k u l h) = none-derived u.begins.plain u.none (λ e. omega arith) (λ e. omega arith)
  only (no_space x) =
      record {
        six = both (refl, refl) x;
        forty_one = λ p. neither (λ e. omega (arith, e.0)) (λ f. no_high x.derived.whole.begins.plain f);
        unfit = λ f. no_longer f x;
      }

-- ---- by the number

-- a refusal's number is from 6 to 41, and its place has 32 bits
pos-low : {text : List ℕ} {ts : List Token} → Underived text ts → (k : ℕ) → pos_at (token_input text ts) k < 4294967296
pos-low {text} {ts} u k = omega (arith, within (token_input text ts) k (good u.begins u.few), u.begins.plain.short)

place-low : {text : List ℕ} {space code place : ℕ} → TextRefused text space code place → place < 4294967296
place-low (too_long h) = omega arith
place-low (not_ascii h) = omega (arith, h.there, h.short)
place-low (too_many m) = omega arith
place-low {text} (bad-token {p = p} b) = omega (arith, (refused-inside text b.begins.upto p b.refuses).1, b.begins.plain.short)
place-low (too_deep {k = k} u x) = pos-low u k
place-low (no_parse k u l h) = pos-low u k
place-low (no_space x) = omega arith

pub numbered : {text : List ℕ} {space code place : ℕ} → TextRefused text space code place → (0 < code) × (code ≤ 41)
numbered (too_long h) = (omega arith, omega arith)
numbered (not_ascii h) = (omega arith, omega arith)
numbered (too_many m) = (omega arith, omega arith)
numbered (bad-token b) = (omega arith, omega arith)
numbered (too_deep u x) = (omega arith, omega arith)
numbered (no_parse k u l h) = (omega arith, omega arith)
numbered (no_space x) = (omega arith, omega arith)

-- 40 is the lexer's
pub forty : {text : List ℕ} {space code place : ℕ} → TextRefused text space code place → code ≡ 40 → BadToken text place
forty (too_long h) e = absurd (omega arith)
forty (not_ascii h) e = absurd (omega arith)
forty (too_many m) e = absurd (omega arith)
forty (bad-token b) e = b
forty (too_deep u x) e = absurd (omega arith)
forty (no_parse k u l h) e = absurd (omega arith)
forty (no_space x) e = absurd (omega arith)

refusal_exactly : {text : List ℕ} {space code place : ℕ} (n : ℕ) → TextRefused text space code place → TextExactly text space n (number (stopped code place)) (bytes n (stopped code place))
refusal_exactly {code = code} {place = place} n f =
    let l = place-low f in
    let o = only f in
    record {
      accepts = neither (λ h. omega (arith, (numbered f).0, code_is code place l)) o.unfit;
      returns = λ y. absurd (o.unfit y);
      writes = λ y. absurd (o.unfit y);
      six = numbers l (omega arith) o.six;
      forty_one = λ p h. numbers l h (o.forty_one p);
    }

accepted-low : {text : List ℕ} {space : ℕ} {us : Trees} → TextAccepted text space us → number (done us) < 72057594037927936
unfolding number result.accepted
accepted-low {text} {us = us} a = let d = a.derived in omega (arith, three (token_input text d.tokens) us (derives-all d), size-tokens text d.tokens, d.whole.few)

acceptance_exactly : {text : List ℕ} {space : ℕ} {us : Trees} (n : ℕ) → TextAccepted text space us → TextExactly text space n (number (done us)) (bytes n (done us))
acceptance_exactly {text} {space} {us} n a =
    let f : TextFitting text space = record { trees = us; derived = a.derived; fits = a.fits } in
    let l = accepted-low a in
    record {
      accepts = both (omega arith) f;
      returns = λ y. rw (a.alone y.trees y.derived);
      writes = λ y. rw (a.alone y.trees y.derived);
      six = neither (λ e. omega (arith, refused-high 6 0 (omega arith))) (λ x. no_longer f x);
      forty_one = λ p h. neither (λ e. omega (arith, refused-high 41 p (omega arith))) (λ x. no_high a.derived.whole.begins.plain x);
    }

pub exactly : {text : List ℕ} {space n r : ℕ} {l : List ℕ} → TextWorth text space n r l → TextExactly text space n r l
exactly {n = n} (accepted a) = acceptance_exactly n a
exactly {n = n} (refused f) = refusal_exactly n f

-- CLOSED: what is accepted, opening takes
pub closed : {text : List ℕ} {n r : ℕ} {l : List ℕ} → TextWorth text (n / 24) n r l → refusal_of r ≡ 0 → TextClosed text r l
closed {text} {n} (accepted a) e =
    let d = a.derived in
    record { tokens = d.tokens; whole = d.whole; closed = accepted-closed n (lent-derived d) (lent-tokens text d.tokens d.whole.begins.plain.short) a.fits }
closed (refused {code = code} {place = place} f) e = absurd (omega (arith, (numbered f).0, code_is code place (place-low f)))
