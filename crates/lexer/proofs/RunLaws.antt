-- How a text is lexed, as a relation: where it stops, that there is one way, and where its tokens lie. Assumes nothing.
use Prim.Native.Nat.{ℕ, zero, suc, ◌+◌, ◌-◌, ◌≤◌}
use native.Mathlib.Omega.{arith}
use mathlib.Core.Path.{◌≡◌, refl, sym, ap, ◌∙◌}
use mathlib.Core.List.{List, [], ◌∷◌, ◌++◌, append-nil}
use mathlib.Core.Bool.{Bool, true, false}
use lib.ListN.{length, length-append}
use lib.Dec.{leb}
use borrow.Author.Tests.{leb-true, leb-false}
use Rattle.tokens.specs.declared.Token.{Token}
use Rattle.std.proofs.Common.{Some, None, Ok, Err}
use Rattle.lexer.specs.Lexed.{Lexed, Found, Refused, End}
use Rattle.lexer.specs.Lexer.{token, next_token}
use Rattle.lexer.specs.Text.{last_of, then_from, tokens_from, lexed, Lexes, none, more, StopsFrom, at-end, refused, too_many, Stops, Still, Further}
use Rattle.lexer.specs.Ranges.{Apart, no_more, behind, All, Proper, Spelled}
use Rattle.lexer.proofs.RangeLaws.{found_inside, refused-inside, found_proper}

-- ---- where the lexer stops

module _ (text : List ℕ) where
  stops_last : (i : ℕ) (r : Lexed) → next_token text i ≡ r → StopsFrom text 0 i (last_of r)
  unfolding last_of
  stops_last i (Ok (Some (t, j))) e = too_many none e refl refl
  stops_last i (Err d) e = refused none e (omega arith) refl
  stops_last i (Ok None) e = at-end none e (omega arith)

  stops_more : {n i j : ℕ} {t : Token} {us : List Token} → next_token text i ≡ Found t j → StopsFrom text n j us → StopsFrom text (suc n) i (t ∷ us)
  stops_more e (at-end l f b) = at-end (more e l) f (omega arith)
  stops_more {t = t} e (refused l f b q) = refused (more e l) f (omega arith) (ap (t ∷◌) q)
  stops_more {t = t} e (too_many l f b q) = too_many (more e l) f (ap suc b) (ap (t ∷◌) q)

  stops_then : (n i : ℕ) (r : Lexed) → next_token text i ≡ r → ((j : ℕ) → StopsFrom text n j (tokens_from text n j)) → StopsFrom text (suc n) i (then_from (λ j. tokens_from text n j) r)
  unfolding then_from
  stops_then n i (Ok (Some (t, j))) e f = stops_more e (f j)
  stops_then n i (Err d) e f = refused none e (omega arith) refl
  stops_then n i (Ok None) e f = at-end none e (omega arith)

  stops_from : (n i : ℕ) → StopsFrom text n i (tokens_from text n i)
  unfolding tokens_from
  stops_from zero i = stops_last i (next_token text i) refl
  stops_from (suc n) i = stops_then n i (next_token text i) refl (λ j. stops_from n j)

pub stops : (text : List ℕ) → Stops text (lexed text)
stops text = stops_from text 16384 0

-- ---- there is one way

token_or : Token → Lexed → Token
token_or u (Ok (Some (t, j))) = t
token_or u (Err d) = u
token_or u (Ok None) = u

end_or : ℕ → Lexed → ℕ
end_or k (Ok (Some (t, j))) = j
end_or k (Err d) = k
end_or k (Ok None) = k

same_token : (t u : Token) (j k : ℕ) → Found t j ≡ Found u k → t ≡ u
unfolding token_or
same_token t u j k e = ap (token_or t) e

same_next : (t u : Token) (j k : ℕ) → Found t j ≡ Found u k → j ≡ k
unfolding end_or
same_next t u j k e = ap (end_or j) e

no_token : (r : Lexed) (t : Token) (j : ℕ) → Still r → r ≡ Found t j → ⊥
no_token r t j s e = rw e at s

module _ (text : List ℕ) where
  further_more : {k m : ℕ} {t u : Token} {ts us : List Token} → t ≡ u → Further text ts us k m → Further text (t ∷ ts) (u ∷ us) k m
  further_more {u = u} {ts = ts} e h =
      record { rest = h.rest; joined = ap (u ∷◌) h.joined ∙ ap (λ (x : Token). x ∷ (ts ++ h.rest)) (sym e); goes = h.goes }

  -- of two runs the shorter is the front of the longer
  pub front : {i k m : ℕ} {ts us : List Token} → Lexes text i ts k → Lexes text i us m → length ts ≤ length us → Further text ts us k m
  front {us = us} none r h = record { rest = us; joined = refl; goes = r }
  front (more e l) none h = absurd (omega arith)
  front (more {j = j} {t = t} e l) (more {j = n} {t = u} f r) h =
      further_more (same_token t u j n (sym e ∙ f)) (front l (rw (same_next t u j n (sym e ∙ f)) r) (omega arith))

  none_left : {k m : ℕ} {rest : List Token} → Still (next_token text k) → Lexes text k rest m → (rest ≡ []) × (k ≡ m)
  none_left h none = (refl, refl)
  none_left {k = k} h (more {j = j} {t = t} e l) = absurd (no_token (next_token text k) t j h e)

  -- where no token is made, nothing goes on
  pub no_further : {k m : ℕ} {ts us : List Token} → Still (next_token text k) → Further text ts us k m → (us ≡ ts) × (k ≡ m)
  no_further {ts = ts} h f = let z = none_left h f.goes in (f.joined ∙ ap (ts ++◌) z.0 ∙ append-nil ts, z.1)

  -- two runs from i that go on until no token is made are one
  pub one-run : {i k m : ℕ} {ts us : List Token} (r q : Lexed) → Still r → Still q → Lexes text i ts k → next_token text k ≡ r → Lexes text i us m → next_token text m ≡ q → (ts ≡ us) × (k ≡ m)
  one-run {k = k} {m = m} {ts = ts} {us = us} r q g h l e v f = go (leb (length ts) (length us)) refl
    where
      go : (b : Bool) → leb (length ts) (length us) ≡ b → (ts ≡ us) × (k ≡ m)
      go true p = let z = no_further (rw e g) (front l v (leb-true (length ts) (length us) p)) in (sym z.0, z.1)
      go false p = let z = no_further (rw f h) (front v l (omega (arith, leb-false (length ts) (length us) p))) in (z.0, sym z.1)

-- ---- and it stops in one way

module _ (text : List ℕ) where
  -- the tokens of a run come first
  run-first : {i k : ℕ} {ts : List Token} (n m : ℕ) → n ≡ m + length ts → Lexes text i ts k → tokens_from text n i ≡ ts ++ tokens_from text m k
  unfolding tokens_from then_from
  run-first n m h none = let e : n ≡ m = omega arith in rw e
  run-first zero m h (more e l) = absurd (omega arith)
  run-first (suc n) m h (more {t = t} e l) = rw e (ap (t ∷◌) (run-first n m (omega arith) l))

  none_at_end : (n k : ℕ) → next_token text k ≡ End → tokens_from text n k ≡ []
  unfolding tokens_from then_from last_of
  none_at_end zero k e = rw e
  none_at_end (suc n) k e = rw e

  six-refused : (n k p : ℕ) → next_token text k ≡ Refused p → tokens_from text n k ≡ token 6 p 0 0 ∷ []
  unfolding tokens_from then_from last_of
  six-refused zero k p e = rw e
  six-refused (suc n) k p e = rw e

  seven-found : (k j : ℕ) (t : Token) → next_token text k ≡ Found t j → tokens_from text 0 k ≡ token 7 t.pos 0 0 ∷ []
  unfolding tokens_from last_of
  seven-found k j t e = rw e

  only_from : {n i : ℕ} {us : List Token} → StopsFrom text n i us → us ≡ tokens_from text n i
  only_from {n = n} (at-end {ts = ts} {k = k} l f b) =
      sym (run-first n (n - length ts) (omega arith) l ∙ ap (ts ++◌) (none_at_end (n - length ts) k f) ∙ append-nil ts)
  only_from {n = n} (refused {ts = ts} {k = k} {p = p} l f b q) =
      q ∙ sym (run-first n (n - length ts) (omega arith) l ∙ ap (ts ++◌) (six-refused (n - length ts) k p f))
  only_from {n = n} (too_many {ts = ts} {t = t} {j = j} {k = k} l f b q) =
      q ∙ sym (run-first n 0 (omega arith) l ∙ ap (ts ++◌) (seven-found k j t f))

-- what stops so is how the text is lexed
pub stops_only : (text : List ℕ) (us : List Token) → Stops text us → us ≡ lexed text
stops_only text us s = only_from text s

-- ---- where the tokens of a run lie

module _ (text : List ℕ) where
  pub apart : {i k : ℕ} {ts : List Token} → Lexes text i ts k → Apart text i ts
  apart none = no_more
  apart {i = i} (more {j = j} {t = t} e l) = behind (found_inside text i t j e) (apart l)

  -- each token takes a byte
  pub takes : {i k : ℕ} {ts : List Token} → Lexes text i ts k → i + length ts ≤ k
  takes none = omega arith
  takes {i = i} (more {j = j} {t = t} e l) = omega (arith, takes l, (found_inside text i t j e).after, (found_inside text i t j e).long)

  pub in_text : {i k : ℕ} {ts : List Token} → Lexes text i ts k → i ≤ length text → k ≤ length text
  in_text none h = h
  in_text {i = i} (more {j = j} {t = t} e l) h = in_text l (found_inside text i t j e).within

  pub proper : {i k : ℕ} {ts : List Token} → length text ≤ 65536 → Lexes text i ts k → All (Proper text) ts
  proper b none = tt
  proper {i = i} b (more {j = j} {t = t} e l) = ((found_proper text i t j b e).0, proper b l)

  pub spelled : {i k : ℕ} {ts : List Token} → length text ≤ 65536 → Lexes text i ts k → All Spelled ts
  spelled b none = tt
  spelled {i = i} b (more {j = j} {t = t} e l) = ((found_proper text i t j b e).1, spelled b l)

  -- and what stops the lexer stands before a byte too
  stop_takes : (us : List Token) → Stops text us → length us ≤ length text
  stop_takes us (at-end l f b) = omega (arith, takes l, in_text l (omega arith))
  stop_takes us (refused {ts = ts} {k = k} {p = p} l f b q) =
      omega (arith, takes l, (refused-inside text k p f).0, (refused-inside text k p f).1, ap length q, length-append ts (token 6 p 0 0 ∷ []))
  stop_takes us (too_many {ts = ts} {t = t} {j = j} {k = k} l f b q) =
      let w = found_inside text k t j f in
      omega (arith, takes l, w.after, w.long, w.within, ap length q, length-append ts (token 7 t.pos 0 0 ∷ []))

-- how long a table of a text's tokens is
pub length-lexed : (text : List ℕ) → length (lexed text) ≤ length text
length-lexed text = stop_takes text (lexed text) (stops text)
