-- The lexer's tokens as bytes: how many there are, the token at an index, the front of a list, and that the list is good and lent. Assumes nothing.
use Prim.Native.Nat.{ℕ, zero, suc, ◌+◌, ◌*◌, ◌/◌, ◌%◌, ◌<◌, ◌≤◌}
use native.Mathlib.Omega.{arith}
use mathlib.Core.Path.{◌≡◌, refl, sym, ap, ◌∙◌}
use mathlib.Core.List.{List, [], ◌∷◌, ◌++◌, append_assoc}
use mathlib.Core.Bool.{Bool, true, false}
use lib.ListN.{length, get_or, take, drop, replicate, length-append, length-replicate, get_or-append}
use lib.Seq.{length-take-le, split_at}
use lib.Dec.{ltb, eqb}
use borrow.Author.Tests.{ltb-true, ltb-false, lt-ltb, le-ltb, eqb-true, eqb-false}
use Rattle.trees.specs.declared.Rec.{Rec}
use Rattle.words.specs.Words.{half_at, word_at, be4, be8}
use Rattle.records.specs.Slots.{word0, rec_at, recs_from}
use Rattle.records.proofs.Laws.{length-writes}
use Rattle.records.proofs.BackLaws.{bytes_of, bytes_all, Sized, recs_from-back}
use Rattle.tokens.specs.declared.Token.{Token}
use Rattle.tokens.specs.Token.{token_count, token_of, token_at}
use Rattle.tokens.specs.Input.{Limited, peek, size}
use Rattle.tokens.specs.Lent.{ascii, good_value}
use Rattle.tokens.proofs.TokenLaws.{token-there}
use Rattle.tokens.proofs.LentLaws.{reach-symbol, reach-other, value-int, value-plain, words_value, good-is}
use Rattle.lexer.specs.Lexer.{token}
use Rattle.lexer.specs.Text.{record_of, records_of}
use Rattle.lexer.specs.Ranges.{All, Proper}
use Rattle.texts.specs.TextReading.{token_bytes, token_input}
use Rattle.texts.proofs.ReadLaws.{token-bytes}
use Rattle.grammar.specs.Meaning.{GoodAt, GoodList}
use Rattle.closed.proofs.Lent.{Lent}

-- ---- how many

length-tokens : (ts : List Token) → length (token_bytes ts) ≡ length ts * 24
length-tokens ts = length-writes (records_of ts) (replicate (length ts * 24) 0) 0 ∙ length-replicate {A = ℕ} (length ts * 24) 0

pub whole-tokens : (ts : List Token) → length (token_bytes ts) % 24 ≡ 0
whole-tokens ts = omega (arith, length-tokens ts)

pub size-tokens : (text : List ℕ) (ts : List Token) → size (token_input text ts) ≡ length ts
size-tokens text ts = omega (arith, length-tokens ts)

-- ---- the bytes of tokens one after another

bytes-append : (ts us : List Token) → bytes_all (records_of (ts ++ us)) ≡ bytes_all (records_of ts) ++ bytes_all (records_of us)
unfolding records_of bytes_all
bytes-append [] us = refl
bytes-append (t ∷ ts) us =
    ap (bytes_of (record_of t) ++◌) (bytes-append ts us)
    ∙ sym (append_assoc (bytes_of (record_of t)) (bytes_all (records_of ts)) (bytes_all (records_of us)))

tokens_append : (ts us : List Token) → token_bytes (ts ++ us) ≡ token_bytes ts ++ token_bytes us
tokens_append ts us = rw (token-bytes (ts ++ us), token-bytes ts, token-bytes us) (bytes-append ts us)

-- ---- the token at an index

-- a token whose parts have the widths of its fields
pub record Fitting (t : Token) : Type 0 where
  pub kind : t.kind < 16
  pub pos : t.pos < 4294967296
  pub word1 : t.word1 < 18446744073709551616
  pub word2 : t.word2 < 18446744073709551616

-- the lexer's tokens, and the records that stop it
pub proper_fits : (text : List ℕ) (t : Token) → length text ≤ 65536 → Proper text t → Fitting t
proper_fits text t b p = record { kind = omega (arith, p.kind-most); pos = omega (arith, p.position); word1 = p.word1_fits; word2 = p.word2_fits }

pub stop_fits : (k p : ℕ) → k < 16 → p < 4294967296 → Fitting (token k p 0 0)
stop_fits k p a b = record { kind = a; pos = b; word1 = omega arith; word2 = omega arith }

fitting_sized : (t : Token) → Fitting t → Sized (record_of t)
fitting_sized t f = record { kind = omega (arith, f.kind); flags = omega arith; count = omega arith; pos = f.pos; word1 = f.word1; word2 = f.word2 }

record_at : (us vs : List Token) (t : Token) → Fitting t → rec_at (token_bytes (us ++ (t ∷ vs))) (length us) ≡ record_of t
unfolding records_of recs_from
record_at us vs t f =
    let e : token_bytes (us ++ (t ∷ vs)) ≡ token_bytes us ++ (bytes_all (record_of t ∷ []) ++ token_bytes vs) =
    tokens_append us (t ∷ vs) ∙ ap (token_bytes us ++◌) (tokens_append (t ∷ []) vs ∙ ap (◌++ token_bytes vs) (token-bytes (t ∷ []))) in
    rw e (ap (λ (rs : List Rec). get_or rs 0 (record_of t)) (recs_from-back (record_of t ∷ []) (token_bytes us) (token_bytes vs) (length us) (sym (length-tokens us)) (fitting_sized t f, tt)))

-- a first word without flags and count, whose kind has the upper four bits, has no spare bits
no_spare : (a k : ℕ) → a / 72057594037927936 ≡ k * 16 → a / 281474976710656 % 256 ≡ 0 → a / 4294967296 % 65536 ≡ 0 → a / 4294967296 % 268435456 ≡ 0
no_spare a k p q r =
    let second : a / 281474976710656 ≡ a / 4294967296 / 65536 = omega arith in
    let third : a / 72057594037927936 ≡ a / 281474976710656 / 256 = omega arith in
    let high : a / 281474976710656 ≡ k * 4096 = omega arith in
    let low : a / 4294967296 ≡ k * 268435456 = omega arith in
    omega arith

-- the three words of a token's record
module _ (l : List ℕ) (n : ℕ) (t : Token) (e : rec_at l n ≡ record_of t) where
  kind-is : word_at l (n * 24) / 1152921504606846976 ≡ t.kind
  unfolding rec_at
  kind-is = omega (arith, ap (λ (r : Rec). r.kind) e)

  spare_is : word_at l (n * 24) / 4294967296 % 268435456 ≡ 0
  unfolding rec_at
  spare_is = no_spare (word_at l (n * 24)) t.kind (ap (λ (r : Rec). r.kind) e) (ap (λ (r : Rec). r.flags) e) (ap (λ (r : Rec). r.count) e)

  pos-is : word_at l (n * 24) % 4294967296 ≡ t.pos
  unfolding rec_at
  pos-is = ap (λ (r : Rec). r.pos) e

  word1_is : word_at l (n * 24 + 8) ≡ t.word1
  unfolding rec_at
  word1_is = ap (λ (r : Rec). r.word1) e

  word2_is : word_at l (n * 24 + 16) ≡ t.word2
  unfolding rec_at
  word2_is = ap (λ (r : Rec). r.word2) e

  token-is : token_of (word_at l (n * 24)) (word_at l (n * 24 + 8)) (word_at l (n * 24 + 16)) ≡ t
  token-is = rw (kind-is, pos-is, word1_is, word2_is)

-- the token after us, whatever stands behind it
pub token-at : (text : List ℕ) (us vs : List Token) (t : Token) → Fitting t → peek (token_input text (us ++ (t ∷ vs))) (length us) ≡ t
token-at text us vs t f =
    let l : List ℕ = token_bytes (us ++ (t ∷ vs)) in
    let n : ℕ = length us in
    let b : n < length l / 24 = omega (arith, length-tokens (us ++ (t ∷ vs)), length-append us (t ∷ vs)) in
    sym (token-there l (length text) n (word_at l (n * 24)) (word_at l (n * 24 + 8)) (word_at l (n * 24 + 16)) b refl refl refl)
    ∙ token-is l n t (record_at us vs t f)

-- ---- the front of a list

half_front : (l m : List ℕ) (k : ℕ) → k + 3 < length l → half_at (l ++ m) k ≡ half_at l k
unfolding half_at
half_front l m k h =
    rw (
      get_or-append l m 0 k (omega arith),
      get_or-append l m 0 (k + 1) (omega arith),
      get_or-append l m 0 (k + 2) (omega arith),
      get_or-append l m 0 (k + 3) (omega arith),
    )

word_front : (l m : List ℕ) (k : ℕ) → k + 7 < length l → word_at (l ++ m) k ≡ word_at l k
unfolding word_at
word_front l m k h = rw (half_front l m k (omega arith), half_front l m (k + 4) (omega arith))

-- a token that is there, with more bytes behind the list
token_front : (l m : List ℕ) (end i : ℕ) → i < token_count l → token_at (l ++ m) end i ≡ token_at l end i
unfolding token_at
token_front l m end i h =
    rw (
      lt-ltb i (token_count l) h,
      lt-ltb i (token_count (l ++ m)) (omega (arith, length-append l m)),
      word_front l m (i * 24) (omega arith),
      word_front l m (i * 24 + 8) (omega arith),
      word_front l m (i * 24 + 16) (omega arith),
    )

-- tokens behind a list leave each of its own as it is
pub front_tokens : (text : List ℕ) (ts us : List Token) (i : ℕ) → i < length ts → peek (token_input text (ts ++ us)) i ≡ peek (token_input text ts) i
front_tokens text ts us i h =
    ap (λ (l : List ℕ). token_at l (length text) i) (tokens_append ts us)
    ∙ token_front (token_bytes ts) (token_bytes us) (length text) i (omega (arith, length-tokens ts))

pub front_sizes : (text : List ℕ) (ts us : List Token) (i : ℕ) → i < length ts → ltb i (size (token_input text (ts ++ us))) ≡ ltb i (size (token_input text ts))
front_sizes text ts us i h =
    lt-ltb i (size (token_input text (ts ++ us))) (omega (arith, size-tokens text (ts ++ us), length-append ts us))
    ∙ sym (lt-ltb i (size (token_input text ts)) (omega (arith, size-tokens text ts)))

-- ---- a good list

-- the words of a proper token
proper_value : (text : List ℕ) (t : Token) → ascii text ≡ true → Proper text t → true ≡ good_value text t.kind t.word1 t.word2
proper_value text t a p = go (eqb t.kind 4) (eqb t.kind 3) refl refl
  where
    go : (x y : Bool) → eqb t.kind 4 ≡ x → eqb t.kind 3 ≡ y → true ≡ good_value text t.kind t.word1 t.word2
    go true y e f = value-int text t.kind t.word1 t.word2 (eqb-true t.kind 4 e)
    go false true e f =
        let k : t.kind ≡ 3 = eqb-true t.kind 3 f in
        value-plain text t.kind t.word1 t.word2 (length text) true (eqb-false t.kind 4 e) (p.symbol_word2 k) (reach-symbol text t.kind k) (p.symbol-range k) (sym a) refl
    go false false e f =
        let k : t.kind ≡ 3 → ⊥ = eqb-false t.kind 3 f in
        let n : t.kind ≡ 4 → ⊥ = eqb-false t.kind 4 e in
        value-plain text t.kind t.word1 t.word2 0 true n (p.plain_word2 k n) (reach-other text t.kind k) (omega (arith, p.plain_word1 k n)) (sym a) refl

good-at : (text : List ℕ) (us vs : List Token) (t : Token) → length text ≤ 65536 → ascii text ≡ true → Proper text t → GoodAt (token_input text (us ++ (t ∷ vs))) (length us)
good-at text us vs t b a p =
    let l : List ℕ = token_bytes (us ++ (t ∷ vs)) in
    let n : ℕ = length us in
    let e : rec_at l n ≡ record_of t = record_at us vs t (proper_fits text t b p) in
    let k : word_at l (n * 24) / 1152921504606846976 ≡ t.kind = kind-is l n t e in
    let v : true ≡ good_value text (word_at l (n * 24) / 1152921504606846976) (word_at l (n * 24 + 8)) (word_at l (n * 24 + 16)) =
    rw (k, word1_is l n t e, word2_is l n t e) (proper_value text t a p) in
    sym (good-is l text (length text) n (word_at l (n * 24)) (word_at l (n * 24 + 8)) (word_at l (n * 24 + 16)) true refl refl refl
    (words_value text (length text) (word_at l (n * 24)) (word_at l (n * 24 + 8)) (word_at l (n * 24 + 16)) true
    (λ z. omega (arith, k, p.kind_least)) (omega (arith, k, p.kind-most)) (spare_is l n t e) (omega (arith, pos-is l n t e, p.position)) v))

-- what holds of all holds of the one at an index
all-at : (P : Token → Type 0) (ts : List Token) (i : ℕ) (d : Token) → i < length ts → All P ts → P (get_or ts i d)
all-at P [] i d h a = absurd (omega arith)
all-at P (t ∷ ts) zero d h a = a.0
all-at P (t ∷ ts) (suc i) d h a = all-at P ts i d (omega arith) a.1

good-index : (text : List ℕ) (ts : List Token) (i : ℕ) → length text ≤ 65536 → ascii text ≡ true → All (Proper text) ts → i < length ts → GoodAt (token_input text ts) i
good-index text ts i b a p h =
    let d : Token = token 0 0 0 0 in
    let g = good-at text (take i ts) (drop (suc i) ts) (get_or ts i d) b a (all-at (Proper text) ts i d h p) in
    rw (← split_at ts i d h, length-take-le i ts (omega arith)) at g

-- the kind of a proper token, and of what is past the last one
kind-index : (text : List ℕ) (ts : List Token) (i : ℕ) → length text ≤ 65536 → All (Proper text) ts → i < length ts → (peek (token_input text ts) i).kind ≤ 5
kind-index text ts i b p h =
    let d : Token = token 0 0 0 0 in
    let q = all-at (Proper text) ts i d h p in
    let e = token-at text (take i ts) (drop (suc i) ts) (get_or ts i d) (proper_fits text (get_or ts i d) b q) in
    let k : peek (token_input text ts) i ≡ get_or ts i d = rw (← split_at ts i d h, length-take-le i ts (omega arith)) at e in
    omega (arith, ap (λ (t : Token). t.kind) k, q.kind-most)

past_kind : (text : List ℕ) (ts : List Token) (i : ℕ) → length ts ≤ i → (peek (token_input text ts) i).kind ≤ 5
unfolding token_at
past_kind text ts i h = rw (le-ltb i (token_count (token_bytes ts)) (omega (arith, size-tokens text ts))) (omega arith)

pub kinds : (text : List ℕ) (ts : List Token) (i : ℕ) → length text ≤ 65536 → All (Proper text) ts → (peek (token_input text ts) i).kind ≤ 5
kinds text ts i b p = go (ltb i (length ts)) refl
  where
    go : (x : Bool) → ltb i (length ts) ≡ x → (peek (token_input text ts) i).kind ≤ 5
    go true e = kind-index text ts i b p (ltb-true i (length ts) e)
    go false e = past_kind text ts i (ltb-false i (length ts) e)

-- the tokens of a text are a good list, if they are proper and few
pub good-tokens : (text : List ℕ) (ts : List Token) → length text ≤ 65536 → ascii text ≡ true → All (Proper text) ts → length ts ≤ 16384 → GoodList (token_input text ts)
good-tokens text ts b a p n =
    let l : Limited (token_input text ts) = record { few = omega (arith, size-tokens text ts); short = b } in
    record { limited = l; whole = whole-tokens ts; good = λ i h. good-index text ts i b a p (omega (arith, size-tokens text ts)) }

-- ---- bytes

-- every byte is below 256, and so is what stands behind the last
abbrev Low : List ℕ → Type 0
Low l = (i : ℕ) → get_or l i 0 < 256

low-none : Low []
low-none i = omega arith

low-more : (c : ℕ) (l : List ℕ) → c < 256 → Low l → Low (c ∷ l)
low-more c l h q zero = h
low-more c l h q (suc i) = q i

low-append : (l m : List ℕ) → Low l → Low m → Low (l ++ m)
low-append [] m p q i = q i
low-append (c ∷ l) m p q zero = p 0
low-append (c ∷ l) m p q (suc i) = low-append l m (λ j. p (suc j)) q i

low_half : (h : ℕ) → Low (be4 h)
unfolding be4
low_half h =
    low-more (h / 16777216 % 256) (h / 65536 % 256 ∷ h / 256 % 256 ∷ h % 256 ∷ []) (omega arith)
    (low-more (h / 65536 % 256) (h / 256 % 256 ∷ h % 256 ∷ []) (omega arith)
    (low-more (h / 256 % 256) (h % 256 ∷ []) (omega arith)
    (low-more (h % 256) [] (omega arith) low-none)))

low_word : (w : ℕ) → Low (be8 w)
unfolding be8
low_word w = low-append (be4 (w / 4294967296)) (be4 (w % 4294967296)) (low_half (w / 4294967296)) (low_half (w % 4294967296))

low_record : (r : Rec) → Low (bytes_of r)
unfolding bytes_of
low_record r =
    low-append (be8 (word0 r)) (be8 r.word1 ++ be8 r.word2) (low_word (word0 r))
    (low-append (be8 r.word1) (be8 r.word2) (low_word r.word1) (low_word r.word2))

low-records : (rs : List Rec) → Low (bytes_all rs)
unfolding bytes_all
low-records [] = low-none
low-records (r ∷ rs) = low-append (bytes_of r) (bytes_all rs) (low_record r) (low-records rs)

-- tokens as they are lent
pub lent-tokens : (text : List ℕ) (ts : List Token) → length text ≤ 65536 → Lent (token_input text ts)
lent-tokens text ts b = record { byte = λ i. rw (token-bytes ts) (low-records (records_of ts) i); end = omega arith }
