-- THE THEOREM: what reading a text accepts and refuses is worth what TextMeaning.antt says. Assumes nothing.
use Prim.Native.Nat.{ℕ, ◌+◌, ◌<◌, ◌≤◌}
use native.Mathlib.Omega.{arith}
use mathlib.Core.Path.{◌≡◌, refl, sym, ap, subst, ◌∙◌}
use mathlib.Core.List.{List, [], ◌∷◌, ◌++◌}
use mathlib.Core.Bool.{Bool, true, false}
use lib.ListN.{length, length-append}
use lib.Dec.{ltb, leb, eqb}
use borrow.Author.Tests.{ltb-true, ltb-false, leb-true, leb-false, eqb-true, ne_eqb}
use Rattle.trees.specs.Choice.{pick, choose}
use Rattle.trees.specs.Tree.{Trees, records_all}
use Rattle.tokens.specs.declared.Token.{Token}
use Rattle.tokens.specs.Token.{is_refused, is_too_many}
use Rattle.tokens.specs.Input.{Input, peek, size}
use Rattle.steps.specs.Outcome.{Refusal}
use Rattle.steps.specs.Outcome.{Outcome, accept, refuse, refusal}
use Rattle.parser.specs.Defs.{parse_defs}
use Rattle.parser.specs.Reading.{Reading, done, stopped, fitted, number, bytes}
use Rattle.grammar.specs.Lexical.{Symbol}
use Rattle.grammar.specs.Grammar.{Gram, definition, list}
use Rattle.grammar.specs.Nesting.{Deep}
use Rattle.grammar.proofs.Exact.{Ground, deep, plain}
use Rattle.grammar.proofs.Lexemes.{there}
use Rattle.grammar.proofs.TokenKinds.{tokens}
use Rattle.grammar.proofs.Defs.{exact_defs}
use Rattle.grammar.proofs.Theorem.{Parsed, parsed, parses, one_parse}
use Rattle.lexer.specs.Lexed.{Found, Refused, End}
use Rattle.lexer.specs.Lexer.{token, next_token}
use Rattle.lexer.specs.Text.{lexed, Lexes, none, more, Stops, at-end, refused, too_many}
use Rattle.lexer.proofs.RunLaws.{stops, front, no_further, one-run, proper}
use Rattle.lexer.proofs.RangeLaws.{found_inside, refused-inside}
use Rattle.lookahead.specs.Agree.{Agree}
use Rattle.lookahead.proofs.Theorem.{honest, consumed}
use Rattle.texts.specs.TextReading.{token_input, foremost, looked_ahead, parse_text, first_high, text_reading}
use Rattle.text_grammar.specs.TextMeaning as m
use Rattle.text_grammar.specs.TextMeaning.{Plain, Begins, Whole, TextDerived, Underived, TextRefused, TextMeaning, TextWorth}
use Rattle.text_grammar.proofs.TokenLaws.{Fitting, size-tokens, stop_fits, token-at, front_tokens, front_sizes, kinds}
use Rattle.text_grammar.proofs.ByteLaws.{first-high, plain-text}

-- ---- what stops the lexer, looked at

unlooked : (s : Input) (e : Refusal) → (peek s e.taken).kind ≤ 5 → foremost (peek s e.taken) e ≡ e
unfolding foremost is_too_many is_refused
unlooked s e h = rw (ne_eqb (peek s e.taken).kind 7 (λ z. omega arith), ne_eqb (peek s e.taken).kind 6 (λ z. omega arith))

pub all_unlooked : (s : Input) → ((i : ℕ) → (peek s i).kind ≤ 5) → (o : Outcome) → looked_ahead s o ≡ o
unfolding looked_ahead
all_unlooked s h (accept ts j) = refl
all_unlooked s h (refuse e) = ap refuse (unlooked s e (h e.taken))

-- ---- a text has one list of tokens

same_tokens : {text : List ℕ} {ts us : List Token} → Whole text ts → Whole text us → us ≡ ts
same_tokens {text} w v = (one-run text End End tt tt v.begins.lexes v.ends w.begins.lexes w.ends).0

derived_of : {text : List ℕ} {ts : List Token} (us : Trees) → Whole text ts → Parsed (token_input text ts) us → TextDerived text us
derived_of {text} {ts} us w p =
    record { tokens = ts; whole = w; derives = subst (λ (n : ℕ). Gram (token_input text ts) (list definition) 0 n us) (size-tokens text ts) p.derives; shallow = p.shallow }

pub derives-all : {text : List ℕ} {us : Trees} (d : TextDerived text us) → Gram (token_input text d.tokens) (list definition) 0 (size (token_input text d.tokens)) us
derives-all {text} {us} d = subst (λ (n : ℕ). Gram (token_input text d.tokens) (list definition) 0 n us) (sym (size-tokens text d.tokens)) d.derives

parsed_of : {text : List ℕ} {ts : List Token} (us : Trees) → Whole text ts → TextDerived text us → Parsed (token_input text ts) us
parsed_of {text} {ts} us w d =
    subst (λ (vs : List Token). Parsed (token_input text vs) us) (same_tokens w d.whole) (record { derives = derives-all d; shallow = d.shallow })

-- UNIQUE: a text has at most one list of trees
pub unique : {text : List ℕ} (us vs : Trees) → TextDerived text us → TextDerived text vs → vs ≡ us
unique {text} us vs d e = one_parse (token_input text d.tokens) us vs (parsed_of us d.whole d) (parsed_of vs d.whole e)

-- ---- and one way in which the lexer stops

end_refused : {p : ℕ} → End ≡ Refused p → ⊥
end_refused e = let z : ◌≡◌ {A = ℕ} 0 1 = cc in omega arith

end-found : {t : Token} {j : ℕ} → End ≡ Found t j → ⊥
end-found e = let z : ◌≡◌ {A = ℕ} 0 1 = cc in omega arith

pub refused_none : {text : List ℕ} {ts : List Token} {k p : ℕ} → Lexes text 0 ts k → next_token text k ≡ Refused p → (us : Trees) → TextDerived text us → ⊥
refused_none {text} {k = k} {p = p} r e us d =
    let z = (one-run text End (Refused p) tt tt d.whole.begins.lexes d.whole.ends r e).1 in
    end_refused (sym d.whole.ends ∙ ap (next_token text) z ∙ e)

found_none : {text : List ℕ} {ts : List Token} {t : Token} {j k : ℕ} → Lexes text 0 ts k → next_token text k ≡ Found t j → length ts ≡ 16384 → (us : Trees) → TextDerived text us → ⊥
found_none {text} r e h us d =
    let w = d.whole in
    let z = (no_further text (rw w.ends tt) (front text w.begins.lexes r (omega (arith, w.few)))).1 in
    end-found (sym w.ends ∙ ap (next_token text) z ∙ e)

-- one token more
one_more : {text : List ℕ} {ts : List Token} {t : Token} {i j k : ℕ} → Lexes text i ts k → next_token text k ≡ Found t j → Lexes text i (ts ++ (t ∷ [])) j
one_more none e = more e none
one_more (more f r) e = more f (one_more r e)

module _ (text : List ℕ) (space : ℕ) where
  told : {code place : ℕ} → TextRefused text space code place → TextMeaning text space (stopped code place)
  unfolding TextMeaning
  told r = r

  -- a refusal of the parser, by its ground
  by_ground : {ts : List Token} {e : Refusal} → Underived text ts → Ground (token_input text ts) (Deep (token_input text ts) (list definition) 64 0) e → TextRefused text space e.code e.place
  by_ground u (deep k x c p) = rw (c, p) (m.too_deep u x)
  by_ground u (plain k l h n p) = rw p (m.no_parse k u l (omega (arith, h)))

  -- ---- all of the text is tokens

  sized : (us : Trees) → TextDerived text us → (b : Bool) → leb (length (records_all us)) space ≡ b → TextMeaning text space (pick b (done us) (stopped 6 0))
  unfolding TextMeaning
  sized us d true e = record { derived = d; fits = leb-true _ space e; alone = λ vs v. unique us vs d v }
  sized us d false e = m.no_space (record { trees = us; derived = d; longer = leb-false _ space e })

  never_parsed : (o : Outcome) (d : Refusal) (us : Trees) (j : ℕ) → o ≡ refuse d → o ≡ accept us j → ⊥
  never_parsed o d us j e f = let z : ◌≡◌ {A = ℕ} 0 1 = cc in omega arith

  whole-meaning : {ts : List Token} → Whole text ts → (o : Outcome) → parse_defs (token_input text ts) 0 ≡ o → TextMeaning text space (fitted space o)
  unfolding fitted
  whole-meaning {ts} w (accept us j) e = sized us (derived_of us w (parsed (token_input text ts) us j e)) (leb (length (records_all us)) space) refl
  whole-meaning {ts} w (refuse d) e =
      let s = token_input text ts in
      told (by_ground (record { begins = w.begins; few = w.few; none = λ us t. never_parsed (parse_defs s 0) d us (size s) e (parses s us (parsed_of us w t)) }) ((exact_defs s).ground 0 d e))

  -- ---- the lexer stops at the record x behind the tokens ts

  module _ {ts : List Token} (u : Underived text ts) (x : Token) (f : Fitting x) (h : 5 < x.kind) where
    abbrev s : Input
    s = token_input text (ts ++ (x ∷ []))

    abbrev front_of : Input
    front_of = token_input text ts

    stop_at : peek s (length ts) ≡ x
    stop_at = token-at text ts [] x f

    stop_kind : 5 < (peek s (length ts)).kind
    stop_kind = rw stop_at h

    size_stop : size s ≡ length ts + 1
    size_stop = size-tokens text (ts ++ (x ∷ [])) ∙ length-append ts (x ∷ [])

    -- nothing is accepted
    not_accepted : (us : Trees) (j : ℕ) → parse_defs s 0 ≡ accept us j → ⊥
    not_accepted us j e = omega (arith, (tokens (parsed s us j e).derives).at_most (length ts) (omega arith) (omega (arith, size_stop)), stop_kind)

    -- x is not consumed
    not_consumed : (d : Refusal) → parse_defs s 0 ≡ refuse d → d.taken ≤ length ts
    not_consumed d e = go (ltb (length ts) d.taken) refl
      where
        go : (b : Bool) → ltb (length ts) d.taken ≡ b → d.taken ≤ length ts
        go true p = absurd (omega (arith, (consumed s d e (length ts) (ltb-true (length ts) d.taken p)).1, stop_kind))
        go false p = ltb-false (length ts) d.taken p

    agree : (n : ℕ) → n < length ts → Agree n s front_of
    agree n l = record { text = refl; tokens = λ i k. front_tokens text ts (x ∷ []) i (omega arith); ends = λ i k. front_sizes text ts (x ∷ []) i (omega arith) }

    -- a refusal before it is one of the tokens alone
    before_stop : (d : Refusal) → parse_defs s 0 ≡ refuse d → d.taken < length ts → TextRefused text space d.code d.place
    before_stop d e l = by_ground u ((exact_defs front_of).ground 0 d (honest s front_of d e (agree d.taken l)))

    front_kind : (i : ℕ) → i < length ts → (peek s i).kind ≤ 5
    front_kind i l = let b = u.begins in rw (front_tokens text ts (x ∷ []) i l) (kinds text ts i b.plain.short (proper text b.plain.short b.lexes))

    -- 23 at it is at a symbol before it
    name-before : (d : Refusal) → parse_defs s 0 ≡ refuse d → d.code ≡ 23 → TextRefused text space d.code d.place
    name-before d e c = go ((exact_defs s).ground 0 d e)
      where
        before : (k : ℕ) → Symbol s k → k < length ts
        before k n = go (ltb k (length ts)) refl
          where
            go : (b : Bool) → ltb k (length ts) ≡ b → k < length ts
            go true p = ltb-true k (length ts) p
            go false p =
                let z : k ≡ length ts = omega (arith, ltb-false k (length ts) p, there n (omega arith), size_stop) in
                absurd (omega (arith, rw z at n.is, stop_kind))

        go : Ground s (Deep s (list definition) 64 0) d → TextRefused text space d.code d.place
        go (deep k y z p) = absurd (omega arith)
        go (plain k l g n p) = rw (p ∙ ap (λ (t : Token). t.pos) (front_tokens text ts (x ∷ []) k (before k (n c)))) (m.no_parse k u l g)

    -- what is met at it
    stop_meaning : (o : Outcome) → parse_defs s 0 ≡ o → ((d : Refusal) → parse_defs s 0 ≡ refuse d → TextRefused text space (foremost x d).code (foremost x d).place) → TextMeaning text space (fitted space (looked_ahead s o))
    unfolding fitted looked_ahead
    stop_meaning (accept us j) e g = absurd (not_accepted us j e)
    stop_meaning (refuse d) e g = told (go (ltb d.taken (length ts)) refl)
      where
        go : (b : Bool) → ltb d.taken (length ts) ≡ b → TextRefused text space (foremost (peek s d.taken) d).code (foremost (peek s d.taken) d).place
        go true p =
            let l = ltb-true d.taken (length ts) p in
            rw (unlooked s d (front_kind d.taken l)) (before_stop d e l)
        go false p =
            let z : d.taken ≡ length ts = omega (arith, ltb-false d.taken (length ts) p, not_consumed d e) in
            let w : peek s d.taken ≡ x = ap (peek s) z ∙ stop_at in
            rw w (g d e)

  -- ---- every plain text

  refused-meaning : {ts : List Token} {p : ℕ} (b : Begins text ts) → next_token text b.upto ≡ Refused p → length ts ≤ 16384 → TextMeaning text space (fitted space (looked_ahead (token_input text (ts ++ (token 6 p 0 0 ∷ []))) (parse_defs (token_input text (ts ++ (token 6 p 0 0 ∷ []))) 0)))
  unfolding foremost is_too_many is_refused
  refused-meaning {ts} {p = p} b e n =
      let l = (refused-inside text b.upto p e).1 in
      let u : Underived text ts = record { begins = b; few = n; none = refused_none b.lexes e } in
      let f = stop_fits 6 p (omega arith) (omega (arith, b.plain.short)) in
      stop_meaning u (token 6 p 0 0) f (omega arith) (parse_defs (token_input text (ts ++ (token 6 p 0 0 ∷ []))) 0) refl (λ d r. go u f d r (eqb d.code 23) refl)
    where
      go : (u : Underived text ts) → Fitting (token 6 p 0 0) → (d : Refusal) → parse_defs (token_input text (ts ++ (token 6 p 0 0 ∷ []))) 0 ≡ refuse d → (c : Bool) → eqb d.code 23 ≡ c
          → TextRefused text space (pick c d (refusal 40 p d.taken)).code (pick c d (refusal 40 p d.taken)).place
      go u f d r true c = name-before u (token 6 p 0 0) f (omega arith) d r (eqb-true d.code 23 c)
      go u f d r false c = m.bad-token (record { tokens = ts; begins = b; few = n; refuses = e })

  many-meaning : {ts : List Token} {t : Token} {j : ℕ} (b : Begins text ts) → next_token text b.upto ≡ Found t j → length ts ≡ 16384 → TextMeaning text space (fitted space (looked_ahead (token_input text (ts ++ (token 7 t.pos 0 0 ∷ []))) (parse_defs (token_input text (ts ++ (token 7 t.pos 0 0 ∷ []))) 0)))
  unfolding foremost is_too_many
  many-meaning {ts} {t} {j} b e n =
      let l = found_inside text b.upto t j e in
      let u : Underived text ts = record { begins = b; few = omega arith; none = found_none b.lexes e n } in
      let c : Begins text (ts ++ (t ∷ [])) = record { plain = b.plain; upto = j; lexes = one_more b.lexes e } in
      stop_meaning u (token 7 t.pos 0 0) (stop_fits 7 t.pos (omega arith) (omega (arith, l.long, l.within, b.plain.short))) (omega arith) (parse_defs (token_input text (ts ++ (token 7 t.pos 0 0 ∷ []))) 0) refl
      (λ d r. m.too_many (record { tokens = ts ++ (t ∷ []); begins = c; count = length-append ts (t ∷ []) ∙ omega arith }))

  plain-meaning : Plain text → (us : List Token) → Stops text us → TextMeaning text space (fitted space (looked_ahead (token_input text us) (parse_defs (token_input text us) 0)))
  plain-meaning q us (at-end {k = k} r e n) =
      let s = token_input text us in
      let b : Begins text us = record { plain = q; upto = k; lexes = r } in
      rw (all_unlooked s (λ i. kinds text us i q.short (proper text q.short r)) (parse_defs s 0)) (whole-meaning (record { begins = b; ends = e; few = n }) (parse_defs s 0) refl)
  plain-meaning q us (refused {k = k} r e n f) = rw f (refused-meaning (record { plain = q; upto = k; lexes = r }) e n)
  plain-meaning q us (too_many {k = k} r e n f) = rw f (many-meaning (record { plain = q; upto = k; lexes = r }) e n)

  high-judged : length text ≤ 65536 → (b : Bool) → ltb (first_high text) (length text) ≡ b → TextMeaning text space (choose b (λ _. stopped 41 (first_high text)) (λ _. fitted space (parse_text text)))
  unfolding parse_text
  high-judged n true e = told (m.not_ascii (first-high text n (ltb-true (first_high text) (length text) e)))
  high-judged n false e = plain-meaning (plain-text text n (ltb-false (first_high text) (length text) e)) (lexed text) (stops text)

  long-judged : (b : Bool) → ltb 65536 (length text) ≡ b → TextMeaning text space (choose b (λ _. stopped 7 0) (λ _. choose (ltb (first_high text) (length text)) (λ _. stopped 41 (first_high text)) (λ _. fitted space (parse_text text))))
  long-judged true e = told (m.too_long (ltb-true 65536 (length text) e))
  long-judged false e = high-judged (ltb-false 65536 (length text) e) (ltb (first_high text) (length text)) refl

-- MEANING: what every answer of reading a text is worth
pub meaning : (text : List ℕ) (space : ℕ) → TextMeaning text space (text_reading text space)
unfolding text_reading
meaning text space = long-judged text space (ltb 65536 (length text)) refl

-- the same by the number that is returned and the output's bytes
worth_of : (text : List ℕ) (space n : ℕ) (r : Reading) → TextMeaning text space r → TextWorth text space n (number r) (bytes n r)
unfolding TextMeaning
worth_of text space n (done us) q = m.accepted q
worth_of text space n (stopped code place) q = m.refused q

pub worth : (text : List ℕ) (space n : ℕ) → TextWorth text space n (number (text_reading text space)) (bytes n (text_reading text space))
worth text space n = worth_of text space n (text_reading text space) (meaning text space)
