-- One law for each way through reading a text. Assumes nothing.
use Prim.Native.Nat.{ℕ, suc, ◌+◌, ◌*◌, ◌/◌, ◌<◌, ◌≤◌}
use native.Mathlib.Omega.{arith}
use mathlib.Core.Path.{◌≡◌, refl, sym, ap, ◌∙◌}
use mathlib.Core.List.{List, [], ◌∷◌}
use mathlib.Core.Bool.{Bool, true, false, false≢true}
use lib.ListN.{length, take, replicate, length-replicate, length-append}
use lib.Seq.{take_all, length-take-le}
use lib.Dec.{ltb, leb}
use mir.Syntax.{w64}
use mir.Val.{Fits}
use borrow.Author.Tests.{leb-true, leb-false, lt-ltb, le-ltb, eq-eqb, ne_eqb}
use Rattle.trees.specs.Choice.{pick, choose}
use Rattle.records.specs.Slots.{slots, writes}
use Rattle.records.proofs.Laws.{length-writes}
use Rattle.records.proofs.BackLaws.{bytes_all, writes_front}
use Rattle.tokens.specs.declared.Token.{Token}
use Rattle.tokens.specs.Token.{token_count, is_refused, is_too_many}
use Rattle.tokens.specs.Lent.{ascii}
use Rattle.tokens.specs.Input.{Input, input, peek}
use Rattle.std.specs.Prelude.{Result, Ok, Err}
use Rattle.std.specs.Result.{IsErr, IsErrAnd}
use Rattle.std.proofs.lemmas.Result.{err_from_is_err_and}
use Rattle.records.specs.declared.Ground.TheVariants.{TooMuch, NotAToken, RuleName}
use Rattle.records.specs.Grounds.{number}
use Rattle.records.proofs.GroundLaws.{rule_name_number}
use Rattle.steps.specs.declared.State.{State}
use Rattle.steps.specs.declared.Stop.{Stop}
use Rattle.steps.specs.Outcome.{Outcome, accept, refuse, refusal}
use Rattle.steps.specs.Met.{told, state, Met, Chained}
use Rattle.parser.specs.Defs.{parse_defs}
use Rattle.parser.specs.Reading.{stopped, fitted}
use Rattle.reading.specs.Answered.{Answered, Finished, Countable}
use Rattle.reading.proofs.ReadLaws.{met_finished}
use Rattle.lexer.specs.Lexer.{token, run_end}
use Rattle.lexer.specs.Text.{lexed, Stops, at-end, refused, too_many, records_of, Wrote}
use Rattle.lexer.proofs.RunLaws.{stops, length-lexed}
use Rattle.texts.specs.TextReading.{token_bytes, foremost, looked_ahead, parse_text, is_ascii, text_reading}
use Rattle.reading.specs.Checked.{unread}
use Rattle.texts.specs.Checked.{parse_checked, Passed, Checked}

-- ---- a refusal

module _ (s : Input) (d : Stop) (t : Token) (a b : Bool) (p : t ≡ peek s d.taken) where
  pub foremost_many : a ≡ is_too_many t → a ≡ true → told (record { why = TooMuch; place = 0; taken = d.taken }) ≡ foremost (peek s d.taken) (told d)
  unfolding foremost
  foremost_many x y = rw (← p, ← x, y)

  pub foremost_none : a ≡ is_too_many t → a ≡ false → b ≡ is_refused t → b ≡ false → told d ≡ foremost (peek s d.taken) (told d)
  unfolding foremost
  foremost_none x y u v = rw (← p, ← x, y, ← u, v)

  pub foremost_name : a ≡ is_too_many t → a ≡ false → b ≡ is_refused t → b ≡ true → d.why ≡ RuleName → told d ≡ foremost (peek s d.taken) (told d)
  unfolding foremost
  foremost_name x y u v w = let z : number d.why ≡ 23 = ap number w in rw (← p, ← x, y, ← u, v, eq-eqb (number d.why) 23 z)

  pub foremost_refused : a ≡ is_too_many t → a ≡ false → b ≡ is_refused t → b ≡ true → (d.why ≡ RuleName → ⊥) → told (record { why = NotAToken; place = t.pos; taken = d.taken }) ≡ foremost (peek s d.taken) (told d)
  unfolding foremost
  foremost_refused x y u v w =
      let z : number d.why ≡ 23 → ⊥ = λ h. w (rule_name_number d.why h) in
      rw (← p, ← x, y, ← u, v, ne_eqb (number d.why) 23 z)

-- ---- the lexer's tokens

module _ (s : Input) (l l₁ : List ℕ) where
  pub lexed_read : (q : State) → Chained (parse_defs s) (state 0 0 0) l l₁ (Ok q) → Met (looked_ahead s (parse_defs s 0)) 0 0 l l₁ (Ok q)
  unfolding Met looked_ahead
  lexed_read q h = go (parse_defs s 0) h.met
    where
      go : (o : Outcome) → Met o 0 0 l l₁ (Ok q) → Met (looked_ahead s o) 0 0 l l₁ (Ok q)
      go (accept ts j) m = m
      go (refuse e) m = absurd m

  pub lexed_refused : (d x : Stop) → Chained (parse_defs s) (state 0 0 0) l l₁ (Err d) → told x ≡ foremost (peek s d.taken) (told d) → Met (looked_ahead s (parse_defs s 0)) 0 0 l l₁ (Err x)
  unfolding Met looked_ahead
  lexed_refused d x h f = go (parse_defs s 0) h.met
    where
      go : (o : Outcome) → Met o 0 0 l l₁ (Err d) → Met (looked_ahead s o) 0 0 l l₁ (Err x)
      go (accept ts j) m = absurd m
      go (refuse e) m = f ∙ rw (← m) refl

pub refused_countable : (x : Stop) → Countable (Err x)
unfolding Countable
refused_countable x = tt

-- ---- the table

-- tokens, and what stops the lexer
stops_few : (text : List ℕ) (us : List Token) → Stops text us → length us ≤ 16385
stops_few text us (at-end r e h) = omega arith
stops_few text us (refused {ts = ts} {p = p} r e h f) = omega (arith, ap length f, length-append ts (token 6 p 0 0 ∷ []))
stops_few text us (too_many {ts = ts} {t = t} r e h f) = omega (arith, ap length f, length-append ts (token 7 t.pos 0 0 ∷ []))

few : (text : List ℕ) → length (lexed text) ≤ 16385
few text = stops_few text (lexed text) (stops text)

length-records : (ts : List Token) → length (records_of ts) ≡ length ts
unfolding records_of
length-records [] = refl
length-records (t ∷ ts) = ap suc (length-records ts)

-- a table's front is the same as that of any other which the records fit in
front : (ts : List Token) (l : List ℕ) → length ts ≤ slots l → take (length ts * 24) (writes l 0 (records_of ts)) ≡ bytes_all (records_of ts)
front ts l h =
    let e : length (records_of ts) ≡ length ts = length-records ts in
    rw e at (writes_front (records_of ts) l (omega arith))

pub token-bytes : (ts : List Token) → token_bytes ts ≡ bytes_all (records_of ts)
token-bytes ts =
    let z : length {A = ℕ} (replicate (length ts * 24) 0) ≡ length ts * 24 = length-replicate {A = ℕ} (length ts * 24) 0 in
    let w : length (token_bytes ts) ≡ length ts * 24 = length-writes (records_of ts) (replicate (length ts * 24) 0) 0 ∙ z in
    sym (take_all (length ts * 24) (token_bytes ts) (omega arith)) ∙ front ts (replicate (length ts * 24) 0) (omega arith)

module _ (text l l' : List ℕ) (n : ℕ) (w : Wrote (lexed text) 0 l l' n) where
  lexed-few : n ≤ 16385
  lexed-few = omega (arith, w.count, few text)

  pub lexed-fits : Fits w64 (n * 24)
  lexed-fits = let k = lexed-few in record { fits = omega arith }

  pub lexed-there : length (lexed text) ≤ slots l → n * 24 ≤ length l'
  lexed-there z = let k : length l' ≡ length l = ap length w.output ∙ length-writes (records_of (lexed text)) l 0 in omega (arith, w.count)

  pub lexed-long : length (lexed text) ≤ slots l → n * 24 ≡ length (take (n * 24) l')
  lexed-long z = sym (length-take-le (n * 24) l' (lexed-there z))

  pub lexed-count : length (lexed text) ≤ slots l → token_count (take (n * 24) l') ≤ 16385
  lexed-count z = omega (arith, lexed-long z, lexed-few)

  front_is : length (lexed text) ≤ slots l → take (n * 24) l' ≡ token_bytes (lexed text)
  front_is z =
      let k : n ≡ length (lexed text) = omega (arith, w.count) in
      rw (w.output, k) (front (lexed text) l z ∙ sym (token-bytes (lexed text)))

  pub within-is : (o o₁ : List ℕ) (p : Result State Stop) → length (lexed text) ≤ slots l → Met (looked_ahead (input (take (n * 24) l') text (length text)) (parse_defs (input (take (n * 24) l') text (length text)) 0)) 0 0 o o₁ p → Met (parse_text text) 0 0 o o₁ p
  unfolding parse_text
  within-is o o₁ p z a = rw (front_is z) at a

-- a table of m bytes has space for a text of m / 24 bytes, and for 16,385 tokens of any text
pub short_table : (text : List ℕ) (m : ℕ) → length text ≤ m / 24 → length (lexed text) ≤ m / 24
short_table text m h = omega (arith, length-lexed text)

pub long_table : (text : List ℕ) → length (lexed text) ≤ 393240 / 24
long_table text = omega (arith, few text)

-- ---- the checks

ascii-end : (cs : List ℕ) (i : ℕ) → ascii cs ≡ true → run_end is_ascii cs i ≡ i + length cs
unfolding ascii run_end is_ascii
ascii-end [] i e = omega arith
ascii-end (c ∷ cs) i e = go (leb 128 c) refl e (λ h. ascii-end cs (i + 1) h)
  where
    go : (b : Bool) → leb 128 c ≡ b → pick b false (ascii cs) ≡ true → (ascii cs ≡ true → run_end is_ascii cs (i + 1) ≡ i + 1 + length cs) → choose (ltb c 128) (λ _. run_end is_ascii cs (i + 1)) (λ _. i) ≡ i + suc (length cs)
    go true p q f = absurd (false≢true q)
    go false p q f = rw (lt-ltb c 128 (leb-false 128 c p)) (f q ∙ omega arith)

pub ascii-before : (cs : List ℕ) (i : ℕ) → ascii cs ≡ false → run_end is_ascii cs i < i + length cs
unfolding ascii run_end is_ascii
ascii-before [] i e = absurd (false≢true (sym e))
ascii-before (c ∷ cs) i e = go (leb 128 c) refl e (λ h. ascii-before cs (i + 1) h)
  where
    go : (b : Bool) → leb 128 c ≡ b → pick b false (ascii cs) ≡ false → (ascii cs ≡ false → run_end is_ascii cs (i + 1) < i + 1 + length cs) → choose (ltb c 128) (λ _. run_end is_ascii cs (i + 1)) (λ _. i) < i + suc (length cs)
    go true p q f = rw (le-ltb c 128 (leb-true 128 c p)) (omega arith)
    go false p q f = rw (lt-ltb c 128 (leb-false 128 c p)) (omega (arith, f q))

module _ (text : List ℕ) where
  pub too_long : (d : Stop) → 65536 < length text → told d ≡ refusal 7 0 0 → Checked text (Err d)
  unfolding Checked parse_checked
  too_long d h e = rw (lt-ltb 65536 (length text) h, e) refl

  pub not_ascii : (d : Stop) (b : Bool) (p : ℕ) → length text ≤ 65536 → b ≡ ascii text → b ≡ false → p ≡ run_end is_ascii text 0 → told d ≡ refusal 41 p 0 → Checked text (Err d)
  unfolding Checked parse_checked
  not_ascii d b p h w k t e =
      let z = ascii-before text 0 (sym w ∙ k) in
      rw (le-ltb 65536 (length text) h, lt-ltb (run_end is_ascii text 0) (length text) (omega arith), ← t, e) refl

  pub plain : (b : Bool) → length text ≤ 65536 → b ≡ ascii text → b ≡ true → Checked text (Ok tt)
  unfolding Checked parse_checked
  plain b h w k =
      let z = ascii-end text 0 (sym w ∙ k) in
      record { short = h; reads = rw (le-ltb 65536 (length text) h, le-ltb (run_end is_ascii text 0) (length text) (omega arith)) refl }

-- ---- after the checks

pub unchecked_met : (p : Result State Stop) (d : Stop) → IsErr p × IsErrAnd p (λ e. e ≡ d) → (text l : List ℕ) → Checked text (Err d) → Met (parse_checked text) 0 0 l l p
unfolding Checked Met
unchecked_met p d h text l c = let e = err_from_is_err_and p h.1 in rw (c, e.1, e.2) refl

module _ (text : List ℕ) (c : Checked text (Ok tt)) where
  passed_all : Passed text
  unfolding Checked
  passed_all = c

  pub checked_short : length text ≤ 65536
  checked_short = passed_all.short

  pub checked_met : (p : Result State Stop) (l l₁ : List ℕ) → Met (parse_text text) 0 0 l l₁ p → Met (parse_checked text) 0 0 l l₁ p
  checked_met p l l₁ h = rw passed_all.reads h

-- what is answered, by the space
fitted_checked : (text : List ℕ) (space : ℕ) → fitted space (parse_checked text) ≡ text_reading text space
unfolding fitted parse_checked text_reading
fitted_checked text space = go (ltb 65536 (length text)) (ltb (run_end is_ascii text 0) (length text))
  where
    go : (x y : Bool) → fitted space (choose x (λ _. unread 7 0) (λ _. choose y (λ _. unread 41 (run_end is_ascii text 0)) (λ _. parse_text text))) ≡ choose x (λ _. stopped 7 0) (λ _. choose y (λ _. stopped 41 (run_end is_ascii text 0)) (λ _. fitted space (parse_text text)))
    go true y = refl
    go false true = refl
    go false false = refl

pub text_finished : (text : List ℕ) (p : Result State Stop) (r : ℕ) (l l₁ l₂ : List ℕ) → Met (parse_checked text) 0 0 l l₁ p → length l₁ ≡ length l → Finished p l₁ l₂ r → Answered (text_reading text (slots l)) (length l) l₂ r
text_finished text p r l l₁ l₂ h z t = rw (fitted_checked text (slots l)) at (met_finished (parse_checked text) p r l l₁ l₂ h z t)
