-- The ways through judging a call, and through looking up an extractor's name. Assumes nothing.
use mathlib.Core.Path.{◌≡◌, refl, sym, ap, ◌∙◌}
use mathlib.Core.Bool.{Bool, true, false}
use mathlib.Core.Option.{Option, none, some}
use Rattle.std.specs.Prelude.{Option as Maybe, Some, None}
use mathlib.Core.List.{List, [], ◌∷◌}
use Prim.Native.Nat.{ℕ, ◌+◌, ◌-◌, ◌<◌, ◌≤◌}
use native.Mathlib.Decide.{dec_lt}
use native.Mathlib.Omega.{arith}
use lib.Dec.{eqb}
use lib.ListN.{length, drop}
use borrow.Author.Tests.{eqb-true, eqb-false, eq-eqb, ne_eqb, lt-ltb, le-ltb}
use Rattle.trees.specs.Choice.{pick}
use Rattle.trees.specs.declared.Rec.{Rec}
use Rattle.trees.specs.Tree.{Trees, ∅, ◌▸◌, count, head_of, trees_of}
use Rattle.trees.specs.Names.{spelled}
use Rattle.records.specs.Slots.{slots, rec_at, recs}
use Rattle.expansion.specs.Nodes.{rest, is_term}
use Rattle.expansion.specs.Expansion.{find, Extractor, Extractors, called}
use Rattle.expansion.specs.Flat.{Placed, All, called_at}
use Rattle.expansion.proofs.OrderLaws.{find-later}
use Rattle.expansion.proofs.SpanLaws.{count-firsts}
use Rattle.expansion.proofs.FlatOpening.{called_flat}
use Rattle.expansion.proofs.IndexLaws.{all-at}
use Rattle.grounds.specs.Order.{by_call, call_flaw, is_some}
use Rattle.grounds.proofs.At.{here, past}
use Rattle.judging.specs.declared.table.Entry.{Entry}
use Rattle.judging.specs.Table.{arity_in, looked}
use Rattle.judging.specs.Judging.{children_at, Known, known_all, by_number, its_flaw, MarkedAt}
use Rattle.judging.proofs.LookLaws.{found-row, missing-row, first-row, rows-first, rows-others, least, missing-all, seek, looked_is, looked_some, looked_none}

-- ---- by a number

module _ (t : List Entry) (earlier : ℕ) (o : Maybe ℕ) (c : ℕ) where
  pub number-none : o ≡ None → 0 ≡ by_number t earlier o c
  unfolding by_number
  number-none e = rw e

  module _ (x : ℕ) (is : o ≡ Some x) where
    pub number-later : earlier ≤ x → 32 ≡ by_number t earlier o c
    unfolding by_number
    number-later h = rw (is, le-ltb x earlier h)

    pub number-fine : (l : ℕ) → x < earlier → l ≡ c - 1 → arity_in t x ≡ l → 0 ≡ by_number t earlier o c
    unfolding by_number
    number-fine l h p q = rw (is, lt-ltb x earlier h, eq-eqb (arity_in t x) (c - 1) (q ∙ p))

    pub number-wrong : (l : ℕ) → x < earlier → l ≡ c - 1 → (arity_in t x ≡ l → ⊥) → 31 ≡ by_number t earlier o c
    unfolding by_number
    number-wrong l h p q = rw (is, lt-ltb x earlier h, ne_eqb (arity_in t x) (c - 1) (λ e. q (e ∙ sym p)))

-- ---- names seek up among the extractors

abbrev arities : List Entry → ℕ → Extractor → Type 0
arities t x v = count v.params ≡ arity_in t x

module _ (text : List ℕ) (t : List Entry) (w : ℕ) where
  module _ (earlier c : ℕ) (k : Known text t earlier) where
    abbrev n : ℕ
    n = length t

    pub number_is : by_number t earlier (looked text t w) c ≡ by_call (find (spelled text w) k.first) (find (spelled text w) (known_all k)) (c - 1)
    unfolding by_number
    number_is = go (find (spelled text w) k.first) refl (find (spelled text w) k.others) refl
      where
        total : n ≡ length k.first + length k.others
        total = sym k.all

        back : (a b : ℕ) → pick {A = ℕ} (eqb a b) 0 31 ≡ pick (eqb b a) 0 31
        back a b = turn (eqb a b) refl
          where
            turn : (x : Bool) → eqb a b ≡ x → pick {A = ℕ} (eqb a b) 0 31 ≡ pick (eqb b a) 0 31
            turn true e = rw (e, eq-eqb b a (sym (eqb-true a b e)))
            turn false e = rw (e, ne_eqb b a (λ z. eqb-false a b e (sym z)))

        go : (o : Option Extractor) → find (spelled text w) k.first ≡ o → (q : Option Extractor) → find (spelled text w) k.others ≡ q
            → by_number t earlier (looked text t w) c ≡ by_call (find (spelled text w) k.first) (find (spelled text w) (known_all k)) (c - 1)
        go (some v) e q f =
            let r = rows-first (arities t) text t w 0 k.first k.others k.rows in
            let x : seek text t w 0 n ≡ seek text t w 0 (length k.first) = ap (seek text t w 0) total ∙ first-row (arities t) text t w 0 k.first (length k.others) r v e in
            let y = found-row (arities t) text t w 0 k.first r v e in
            let l : seek text t w 0 (length k.first) < earlier = omega (arith, y.1, k.sized) in
            rw (looked_is text t w, x, lt-ltb (seek text t w 0 (length k.first)) n (omega arith), e, lt-ltb (seek text t w 0 (length k.first)) earlier l, ← y.0) (back (count v.params) (c - 1))
        go none e (some v) f =
            let r = rows-others (arities t) text t w 0 k.first k.others k.rows in
            let z : 0 + length k.first ≡ length k.first = omega arith in
            let x : seek text t w 0 n ≡ seek text t w (0 + length k.first) (length k.others) = ap (seek text t w 0) total ∙ missing-row (arities t) text t w 0 k.first (length k.others) (rows-first (arities t) text t w 0 k.first k.others k.rows) e in
            let y = found-row (arities t) text t w (0 + length k.first) k.others r v f in
            let above = least (arities t) text t w (length k.others) (0 + length k.first) in
            let l : earlier ≤ seek text t w (0 + length k.first) (length k.others) = omega (arith, above, k.sized) in
            rw (looked_is text t w, x, lt-ltb (seek text t w (0 + length k.first) (length k.others)) n (omega (arith, y.1, k.sized, k.all)), e, find-later (spelled text w) k.first k.others e, f, le-ltb (seek text t w (0 + length k.first) (length k.others)) earlier l)
        go none e none f =
            let r = rows-others (arities t) text t w 0 k.first k.others k.rows in
            let x : seek text t w 0 n ≡ n =
            ap (seek text t w 0) total ∙ missing-row (arities t) text t w 0 k.first (length k.others) (rows-first (arities t) text t w 0 k.first k.others k.rows) e
            ∙ missing-all (arities t) text t w (0 + length k.first) k.others r f ∙ omega (arith, k.all) in
            rw (looked_is text t w, x, le-ltb n n (omega arith), e, find-later (spelled text w) k.first k.others e, f)

    -- the name of an extractor among the earlier ones
    pub name-is : (x : ℕ) → looked text t w ≡ Some x → x < earlier → is_some (find (spelled text w) k.first) ≡ true
    name-is x s h = go (find (spelled text w) k.first) refl
      where
        go : (o : Option Extractor) → find (spelled text w) k.first ≡ o → is_some (find (spelled text w) k.first) ≡ true
        go (some v) e = rw e
        go none e = absurd (
            let y = missing-row (arities t) text t w 0 k.first (length k.others) (rows-first (arities t) text t w 0 k.first k.others k.rows) e in
            let z : seek text t w 0 n ≡ seek text t w 0 (length k.first + length k.others) = ap (seek text t w 0) (sym k.all) in
            omega (arith, k.sized, (looked_some text t w x s).0, least (arities t) text t w (length k.others) (0 + length k.first))
            )

    -- no number below `earlier` is found
    name_absent : earlier ≤ seek text t w 0 n → is_some (find (spelled text w) k.first) ≡ false
    name_absent h = go (find (spelled text w) k.first) refl
      where
        go : (o : Option Extractor) → find (spelled text w) k.first ≡ o → is_some (find (spelled text w) k.first) ≡ false
        go none e = rw e
        go (some v) e = absurd (
            let r = rows-first (arities t) text t w 0 k.first k.others k.rows in
            let x = found-row (arities t) text t w 0 k.first r v e in
            let y = first-row (arities t) text t w 0 k.first (length k.others) r v e in
            let z : seek text t w 0 n ≡ seek text t w 0 (length k.first + length k.others) = ap (seek text t w 0) (sym k.all) in
            omega (arith, k.sized, x.1)
            )

    pub name_not : (x : ℕ) → looked text t w ≡ Some x → earlier ≤ x → is_some (find (spelled text w) k.first) ≡ false
    name_not x s h = name_absent (omega (arith, (looked_some text t w x s).0))

    pub name-nowhere : looked text t w ≡ None → is_some (find (spelled text w) k.first) ≡ false
    name-nowhere s = name_absent (omega (arith, looked_none text t w s, k.sized, k.all))

-- ---- the record k as a call

pub count-rest : (ts : Trees) → count (rest ts) ≡ count ts - 1
unfolding count
count-rest ∅ = refl
count-rest (t ▸ ts) = omega arith

module _ (src : List ℕ) (k : ℕ) (r : Rec) (is : r ≡ rec_at src k) (inside : k < slots src) (a : All Placed (recs src)) where
  placed : Placed r (drop (k + 1) (recs src))
  placed = all-at (recs src) Placed a k r (drop (k + 1) (recs src)) (here src k inside ∙ ap (◌∷ drop (k + 1) (recs src)) (sym is))

  module _ (term : r.kind ≡ 35) where
    is-term : is_term r.kind ≡ true
    unfolding is_term
    is-term = eq-eqb r.kind 35 term

    -- a Term's name
    pub call_second : k + 1 < slots src
    call_second = go (dec_lt (k + 1) (slots src))
      where
        go : Dec (k + 1 < slots src) → k + 1 < slots src
        go (yes h) = h
        go (no h) = let z : drop (k + 1) (recs src) ≡ [] = past src (k + 1) (omega arith) in absurd (rw z at (placed.term is-term).1)

module _ (text : List ℕ) (t : List Entry) (earlier : ℕ) (src : List ℕ) (k : ℕ) (r : Rec) (is : r ≡ rec_at src k) (inside : k < slots src) (a : All Placed (recs src)) where
  flat : (E : Extractors) → called text E (head_of (rec_at src k)) (children_at src k) ≡ called_at text E r (drop (k + 1) (recs src))
  flat E = rw (← is) (sym (called_flat text r E (drop (k + 1) (recs src)) (placed src k r is inside a)))

  no_call : (E : Extractors) → (r.kind ≡ 35 → ⊥) → (rs : List Rec) → called_at text E r rs ≡ none
  unfolding called_at is_term
  no_call E q [] = refl
  no_call E q (i ∷ rs) = rw (ne_eqb r.kind 35 q)

  pub call_plain : (r.kind ≡ 35 → ⊥) → MarkedAt (its_flaw text t earlier) src k 0
  unfolding MarkedAt call_flaw
  call_plain q x = rw (flat x.first, flat (known_all x), no_call x.first q (drop (k + 1) (recs src)), no_call (known_all x) q (drop (k + 1) (recs src)))

  module _ (term : r.kind ≡ 35) where
    calls-name : (E : Extractors) → called_at text E r (drop (k + 1) (recs src)) ≡ find (spelled text (rec_at src (k + 1)).word1) E
    unfolding called_at
    calls-name E = rw (here src (k + 1) (call_second src k r is inside a term), is-term src k r is inside a term)

    args_are : count (rest (children_at src k)) ≡ r.count - 1
    args_are = count-rest (children_at src k) ∙ ap (◌- 1) (rw (← is) (count-firsts r.count (trees_of (drop (k + 1) (recs src))) (placed src k r is inside a).whole))

    pub call_number_lem : (i : Rec) (x : Maybe ℕ) (y : ℕ) → i ≡ rec_at src (k + 1) → x ≡ looked text t i.word1 → y ≡ by_number t earlier x r.count → MarkedAt (its_flaw text t earlier) src k y
    unfolding MarkedAt call_flaw
    call_number_lem i x y p q e kn =
        e ∙ ap (λ (z : Maybe ℕ). by_number t earlier z r.count) (q ∙ ap (λ (j : Rec). looked text t j.word1) p)
        ∙ number_is text t (rec_at src (k + 1)).word1 earlier r.count kn
        ∙ sym (rw (flat kn.first, flat (known_all kn), calls-name kn.first, calls-name (known_all kn), args_are))
