-- THE THEOREMS of the grammar: exact, unique, three, and the meaning of reading. Assumes nothing.
use Prim.Native.Nat.{ℕ, zero, suc, ◌+◌, ◌*◌, ◌%◌, ◌<◌, ◌≤◌}
use native.Mathlib.Omega.{arith}
use mathlib.Core.Path.{◌≡◌, refl, sym, subst, ◌∙◌}
use mathlib.Core.List.{List}
use mathlib.Core.Logic.{◌↔◌}
use mathlib.Core.Bool.{Bool, true, false}
use lib.ListN.{length}
use lib.Dec.{ltb, leb, eqb}
use borrow.Author.Tests.{ltb-true, ltb-false, leb-true, leb-false, eqb-true, eqb-false}
use Rattle.trees.specs.Choice.{pick, choose}
use Rattle.trees.specs.Tree.{Trees, records_all}
use Rattle.records.specs.Result as result
use Rattle.records.specs.Result.{refusal_of}
use Rattle.tokens.specs.Input.{Input, Limited, size}
use Rattle.tokens.specs.Lent.{good_token, bad_from}
use Rattle.steps.specs.Outcome.{Outcome, accept, refuse}
use Rattle.parser.specs.Defs.{parse_defs}
use Rattle.parser.specs.Reading.{Reading, done, stopped, fitted, judged, reading, number, bytes}
use Rattle.steps.specs.Keywords.{word_type, word_decl, word_attr, word_extern, word-extractor, word-rule, word_convert}
use Rattle.grammar.specs.Lexical.{Word}
use Rattle.grammar.specs.Grammar.{Gram, definition, list, d_type, d_decl, d_attr, d_extern, d_extractor, d_rule, d_convert}
use Rattle.grammar.specs.Depth.{deepest}
use Rattle.grammar.specs.Nesting.{Deep}
use Rattle.grammar.specs.Meaning.{GoodAt, GoodList, Derived, Accepted, Refused, Underived, too_much, cut_short, bad-token, too_deep, no_parse, no_space, Meaning, Worth, accepted, refused}
use Rattle.steps.specs.Outcome.{Refusal}
use Rattle.grammar.proofs.Exact.{Ground, deep, plain}
use Rattle.grammar.proofs.Laws.{sizes-records, fit, spare, listed}
use Rattle.grammar.proofs.Defs.{exact_defs, defs-within}

-- ---- the whole list

-- what parsing says of any list; of one that is within the limits and good there is nothing else to say
pub record Parsed (s : Input) (ts : Trees) : Type 0 where
  pub derives : Gram s (list definition) 0 (size s) ts
  pub shallow : deepest ts ≤ 64

module _ (s : Input) where
  pub parsed : (ts : Trees) (j : ℕ) → parse_defs s 0 ≡ accept ts j → Parsed s ts
  parsed ts j e =
      let w = (exact_defs s).sound 0 e in
      let h : j ≡ size s = omega (arith, w.whole, defs-within s w.derives (omega arith)) in
      record { derives = subst (λ (k : ℕ). Gram s (list definition) 0 k ts) h w.derives; shallow = w.shallow }

  pub parses : (ts : Trees) → Parsed s ts → parse_defs s 0 ≡ accept ts (size s)
  parses ts p = (exact_defs s).complete 0 (record { derives = p.derives; shallow = p.shallow; whole = omega arith })

  pub one_parse : (ts us : Trees) → Parsed s ts → Parsed s us → us ≡ ts
  one_parse ts us p q = let a = parses ts p in let b = parses us q in cc

-- ---- good tokens

module _ (s : Input) where
  abbrev bad : ℕ → ℕ → ℕ
  bad n i = bad_from s.tokens s.text s.end n i

  -- the tokens before the first bad one are good
  before-bad : (n i k : ℕ) → i ≤ k → k < bad n i → GoodAt s k
  unfolding bad_from
  before-bad zero i k a b = absurd (omega arith)
  before-bad (suc n) i k a b = go (good_token s.tokens s.text s.end i) refl b (λ c l. before-bad n (i + 1) k c l)
    where
      here : (t : Bool) → eqb k i ≡ t → GoodAt s i → (i + 1 ≤ k → GoodAt s k) → GoodAt s k
      here true p g f = rw (eqb-true k i p) g
      here false p g f = f (later (eqb-false k i p))
        where
          later : (k ≡ i → ⊥) → i + 1 ≤ k
          later z = omega arith

      go : (t : Bool) → good_token s.tokens s.text s.end i ≡ t → k < choose t (λ _. bad n (i + 1)) (λ _. i) → (i + 1 ≤ k → k < bad n (i + 1) → GoodAt s k) → GoodAt s k
      go true g l f = here (eqb k i) refl g (λ c. f c l)
      go false g l f = absurd (omega arith)

  -- and that one is bad
  bad-there : (n i : ℕ) → bad n i < n + i → GoodAt s (bad n i) → ⊥
  unfolding bad_from
  bad-there zero i h g = omega arith
  bad-there (suc n) i h g = go (good_token s.tokens s.text s.end i) refl h g (λ l. bad-there n (i + 1) l)
    where
      go : (t : Bool) → good_token s.tokens s.text s.end i ≡ t → choose t (λ _. bad n (i + 1)) (λ _. i) < suc n + i → GoodAt s (choose t (λ _. bad n (i + 1)) (λ _. i))
          → (bad n (i + 1) < n + (i + 1) → GoodAt s (bad n (i + 1)) → ⊥) → ⊥
      go true p l g f = f (omega arith) g
      go false p l g f = let z : ◌≡◌ {A = ℕ} 0 1 = cc in omega arith

-- ---- the theorems

-- THREE: a derived list has at most three records for each token
pub three : (s : Input) (ts : Trees) → Gram s (list definition) 0 (size s) ts → length (records_all ts) ≤ 3 * size s
unfolding spare listed
three s ts p = omega (arith, sizes-records ts, (fit p).room (omega arith))

-- UNIQUE: a token list has at most one list of trees
pub unique : (s : Input) (ts us : Trees) → Derived s ts → Derived s us → ts ≡ us
unique s ts us p q = one_parse s us ts (record { derives = q.derives; shallow = q.shallow }) (record { derives = p.derives; shallow = p.shallow })

module _ (s : Input) (space : ℕ) where
  told : {code place : ℕ} → Refused s space code place → Meaning s space (stopped code place)
  unfolding Meaning
  told r = r

  -- a good list: by its parse and the space
  sized : (ts : Trees) → Derived s ts → (b : Bool) → leb (length (records_all ts)) space ≡ b → Meaning s space (pick b (done ts) (stopped 6 0))
  unfolding Meaning
  sized ts d true e = record { derived = d; fits = leb-true _ space e; alone = λ us u. unique s us ts u d; three = three s ts d.derives }
  sized ts d false e = no_space (record { trees = ts; derived = d; longer = leb-false _ space e })

  -- a refusal of the parser, by its ground
  by_ground : {e : Refusal} → Underived s → Ground s (Deep s (list definition) 64 0) e → Refused s space e.code e.place
  by_ground u (deep k x c p) = rw (c, p) (too_deep u x)
  by_ground u (plain k l h n p) = rw p (no_parse k u l h)

  good-list : GoodList s → (o : Outcome) → parse_defs s 0 ≡ o → Meaning s space (fitted space o)
  unfolding fitted
  good-list g (accept ts j) e = let p = parsed s ts j e in sized ts (record { list-good = g; derives = p.derives; shallow = p.shallow }) (leb (length (records_all ts)) space) refl
  good-list g (refuse d) e =
      told (by_ground (record { list-good = g; none = λ ts t. never_parsed ts (parses s ts (record { derives = t.derives; shallow = t.shallow })) }) ((exact_defs s).ground 0 d e))
    where
      never_parsed : (ts : Trees) → parse_defs s 0 ≡ accept ts (size s) → ⊥
      never_parsed ts h = let z : ◌≡◌ {A = ℕ} 0 1 = cc in omega arith

  tokens-judged : Limited s → length s.tokens % 24 ≡ 0 → (b : Bool) → ltb (bad s (size s) 0) (size s) ≡ b → Meaning s space (choose b (λ _. stopped 2 (bad s (size s) 0)) (λ _. fitted space (parse_defs s 0)))
  tokens-judged l w true e =
      let h = ltb-true _ (size s) e in told (bad-token (record { limited = l; whole = w; there = h; bad = bad-there s (size s) 0 (omega arith); good-before = λ i k. before-bad s (size s) 0 i (omega arith) k }))
  tokens-judged l w false e =
      let h = ltb-false _ (size s) e in good-list (record { limited = l; whole = w; good = λ i k. before-bad s (size s) 0 i (omega arith) (omega arith) }) (parse_defs s 0) refl

  whole-judged : Limited s → (b : Bool) → eqb (length s.tokens % 24) 0 ≡ b → Meaning s space (choose b (λ _. judged s space (bad s (size s) 0)) (λ _. stopped 1 0))
  unfolding judged
  whole-judged l true e = tokens-judged l (eqb-true _ 0 e) (ltb (bad s (size s) 0) (size s)) refl
  whole-judged l false e = told (cut_short (record { limited = l; cut = eqb-false _ 0 e }))

  short-judged : size s ≤ 16384 → (b : Bool) → ltb 65536 (length s.text) ≡ b
      → Meaning s space (choose b (λ _. stopped 7 0) (λ _. choose (eqb (length s.tokens % 24) 0) (λ _. judged s space (bad s (size s) 0)) (λ _. stopped 1 0)))
  short-judged few true e = told (too_much (λ l. omega (arith, ltb-true 65536 (length s.text) e, l.short)))
  short-judged few false e = whole-judged (record { few = few; short = ltb-false 65536 (length s.text) e }) (eqb (length s.tokens % 24) 0) refl

  few-judged : (b : Bool) → ltb 16384 (size s) ≡ b
      → Meaning s space (choose b (λ _. stopped 7 0) (λ _. choose (ltb 65536 (length s.text)) (λ _. stopped 7 0) (λ _. choose (eqb (length s.tokens % 24) 0) (λ _. judged s space (bad s (size s) 0)) (λ _. stopped 1 0))))
  few-judged true e = told (too_much (λ l. omega (arith, ltb-true 16384 (size s) e, l.few)))
  few-judged false e = short-judged (ltb-false 16384 (size s) e) (ltb 65536 (length s.text)) refl

-- MEANING: what every answer of reading is worth
pub meaning : (s : Input) (space : ℕ) → Meaning s space (reading s space)
unfolding reading
meaning s space = few-judged s space (ltb 16384 (size s)) refl

-- the same by the number that is returned and the output's bytes
worth_of : (s : Input) (space n : ℕ) (r : Reading) → Meaning s space r → Worth s space n (number r) (bytes n r)
unfolding Meaning
worth_of s space n (done ts) m = accepted m
worth_of s space n (stopped code place) m = refused m

pub worth : (s : Input) (space n : ℕ) → Worth s space n (number (reading s space)) (bytes n (reading s space))
worth s space n = worth_of s space n (reading s space) (meaning s space)

-- a refusal's number is from 1 to 27
pub numbered : {s : Input} {space code place : ℕ} → Refused s space code place → (0 < code) × (code ≤ 27)
numbered (too_much n) = (omega arith, omega arith)
numbered (cut_short c) = (omega arith, omega arith)
numbered (bad-token b) = (omega arith, omega arith)
numbered (too_deep u x) = (omega arith, omega arith)
numbered (no_parse k u l h) = (omega arith, omega arith)
numbered (no_space x) = (omega arith, omega arith)

-- the number says that it is one
pub positive_if_refused : {s : Input} {space code place : ℕ} → Refused s space code place → 0 < refusal_of (number (stopped code place))
unfolding number result.refused
positive_if_refused r = omega (arith, (numbered r).0)

-- a derived list is refused with 6 alone, and then its records are more than the space: any other refusal says that nothing is derived
pub only-six : {s : Input} {space code place : ℕ} {ts : Trees} → Refused s space code place → Derived s ts → (code ≡ 6) × (space < length (records_all ts))
only-six (too_much n) d = absurd (n d.list-good.limited)
only-six (cut_short c) d = absurd (c.cut d.list-good.whole)
only-six (bad-token b) d = absurd (b.bad (d.list-good.good _ b.there))
only-six (too_deep u x) d = absurd (u.none _ d)
only-six (no_parse k u l h) d = absurd (u.none _ d)
only-six {s} {ts = ts} (no_space x) d = (refl, rw (unique s x.trees ts x.derived d) at x.longer)

-- EXACT: reading accepts with ts exactly if ts are derived and their records fit the space
accepted_of : (s : Input) (space : ℕ) (ts : Trees) → Meaning s space (done ts) → Accepted s space ts
unfolding Meaning
accepted_of s space ts m = m

only : (s : Input) (space : ℕ) (ts : Trees) → Derived s ts → length (records_all ts) ≤ space → (r : Reading) → Meaning s space r → r ≡ done ts
unfolding Meaning
only s space ts d l (done us) m = rw (m.alone ts d)
only s space ts d l (stopped code place) m = absurd (omega (arith, (only-six m d).1))

pub exact : (s : Input) (space : ℕ) (ts : Trees) → (reading s space ≡ done ts) ↔ (Derived s ts × (length (records_all ts) ≤ space))
exact s space ts = (
  λ e. let a = accepted_of s space ts (rw e at (meaning s space)) in (a.derived, a.fits),
  λ d. only s space ts d.0 d.1 (reading s space) (meaning s space),
)

-- NO OTHER WORD: a definition's word is one of the seven that are covered, so it is no `pragma` and no uncovered word
pub data Covered : List ℕ → Type 0 where
  c_type : Covered word_type
  c_decl : Covered word_decl
  c_attr : Covered word_attr
  c_extern : Covered word_extern
  c_extractor : Covered word-extractor
  c_rule : Covered word-rule
  c_convert : Covered word_convert

pub covered : {s : Input} {i j : ℕ} {ts : Trees} {w : List ℕ} → Gram s definition i j ts → Word s w (i + 1) → Covered w
covered (d_type o v p c) h = subst Covered (sym v.spelt ∙ h.spelt) c_type
covered (d_decl o v p c) h = subst Covered (sym v.spelt ∙ h.spelt) c_decl
covered (d_attr o v p c) h = subst Covered (sym v.spelt ∙ h.spelt) c_attr
covered (d_extern o v p c) h = subst Covered (sym v.spelt ∙ h.spelt) c_extern
covered (d_extractor o v p c) h = subst Covered (sym v.spelt ∙ h.spelt) c_extractor
covered (d_rule o v p c) h = subst Covered (sym v.spelt ∙ h.spelt) c_rule
covered (d_convert o v p c) h = subst Covered (sym v.spelt ∙ h.spelt) c_convert
