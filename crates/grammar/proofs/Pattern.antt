-- The reader of patterns is exact, before what is no part of the pattern: a pattern that ends in a name is not followed by `@`. Assumes nothing.
use Prim.Native.Nat.{ℕ, zero, suc, ◌≤◌}
use native.Mathlib.Omega.{arith}
use mathlib.Core.Path.{◌≡◌, refl}
use mathlib.Core.Bool.{Bool, true, false}
use lib.Dec.{eqb}
use Rattle.trees.specs.Choice.{pick}
use Rattle.trees.specs.Tree.{Tree, Trees, node, ∅, ◌▸◌, ◌⧺◌}
use Rattle.trees.specs.Ast.{kind_pattern_var, kind_pattern_bind, kind_pattern_const_bool, kind_pattern_const_prim, kind_pattern_term, kind_pattern_wildcard, kind_pattern_and}
use Rattle.words.specs.Bytes.{same_bytes}
use Rattle.tokens.specs.Input.{Input}
use Rattle.steps.specs.Keywords.{word-wildcard, word-true, word-false, word_and}
use Rattle.steps.specs.Outcome.{row, plain}
use Rattle.patterns.specs.Pattern.{const_int, compound, pattern_in, parse_pattern}
use Rattle.grammar.specs.Lexical.{At}
use Rattle.grammar.specs.Grammar.{pattern, list, Gram, p_integer, p_constant, p_wildcard, p_true, p_false, p_var, p_bind, p_and, p_term}
use Rattle.grammar.specs.Depth.{deepest}
use Rattle.grammar.specs.Nesting.{Read, Nested, here, inward, in-bind, in_and, in-pattern}
use Rattle.grammar.proofs.Exact.{Exact, deep, token, then, up, over, holds, fails, after, if_so, if_not, exact_iff, exact_to, exact_refuse_at}
use Rattle.grammar.proofs.Known.{Inner, inner, known, refuses, leaves, quiet, ◌⊳⊳◌, ◌⊳↓◌, ◌⊳·◌, parents, nexts↓, seconds↓}
use Rattle.grammar.proofs.Lexemes.{other, opens, symbols, integers, ats, words, dollars, one_word, no_dollar_word, lparen, rparen, at_sign, word, ident, constant}
use Rattle.grammar.proofs.Laws.{least}
use Rattle.grammar.proofs.Rows.{Shut, InRow, in_row, exact_row_of}

-- whether a pattern is a name, or a name bound over a pattern that ends in one
unfoldable mutual
  pub ends_in_name : Tree → Bool
  ends_in_name (node h ts) = pick (eqb h.kind kind_pattern_var) true (pick (eqb h.kind kind_pattern_bind) (one_ends ts) false)

  pub one_ends : Trees → Bool
  one_ends ∅ = false
  one_ends (t ▸ ts) = pick (ends_in_name t) true (one_ends ts)

pub record Stopped (s : Input) (d i : ℕ) (ts : Trees) (j : ℕ) : Type 0 where
  pub derives : Gram s pattern i j ts
  pub shallow : deepest ts ≤ d
  pub stops : one_ends ts ≡ true → At s j → ⊥

pub finished : {s : Input} {d i j : ℕ} {ts : Trees} → Stopped s d i ts j → Read s pattern d i ts j
finished r = record { derives = r.derives; shallow = r.shallow }

shut : {s : Input} {j : ℕ} → false ≡ true → At s j → ⊥
shut e a = let z : ◌≡◌ {A = ℕ} 0 1 = cc in omega arith

last_open : {b : Bool} → pick b true false ≡ true → b ≡ true
last_open {b = true} e = refl
last_open {b = false} e = e

level : {s : Input} {i j : ℕ} {ts : Trees} → Gram s pattern i j ts → 1 ≤ deepest ts
unfolding deepest
level (p_integer h) = omega arith
level (p_constant h) = omega arith
level (p_wildcard h) = omega arith
level (p_true h) = omega arith
level (p_false h) = omega arith
level (p_var h) = omega arith
level (p_bind h a p) = omega arith
level (p_and o w ps c) = omega arith
level (p_term o h n ps c) = omega arith

module _ (s : Input) (d : ℕ) (ih : Exact s (Nested s pattern d) (parse_pattern s d) (Stopped s d)) where
  patterns : Exact s (InRow s pattern d (Nested s pattern d)) (row s (parse_pattern s d)) (Shut s (list pattern) d)
  unfolding least
  patterns =
      exact_row_of refl (λ i ts j r. finished r)
      (λ i ts j r n. record { derives = r.derives; shallow = r.shallow; stops = λ _. n }) ih

  abbrev shape : Inner s (pattern_in s (parse_pattern s d))
  unfolding pattern_in compound
  shape =
      inner (nexts↓ (integers s) (quiet (leaves s const_int))
      (nexts↓ (dollars s) (parents s kind_pattern_const_prim 0 (quiet (known (constant s))))
      (nexts↓ (words s word-wildcard) (quiet (leaves s (plain kind_pattern_wildcard 0)))
      (nexts↓ (words s word-true) (quiet (leaves s (plain kind_pattern_const_bool 1)))
      (nexts↓ (words s word-false) (quiet (leaves s (plain kind_pattern_const_bool 0)))
      (nexts↓ (symbols s)
      (seconds↓ (ats s)
      (parents s kind_pattern_bind 0 (known (ident s) ⊳· at_sign s ⊳↓ known ih))
      (parents s kind_pattern_var 0 (quiet (known (ident s)))))
      (nexts↓ (opens s)
      (seconds↓ (words s word_and)
      (parents s kind_pattern_and 0 (known (lparen s) ⊳· word s word_and ⊳↓ known patterns ⊳· rparen s))
      (parents s kind_pattern_term 0 (known (lparen s) ⊳⊳ known (ident s) ⊳↓ known patterns ⊳· rparen s)))
      (quiet (refuses s 25 (omega arith) (omega arith) (λ z. omega arith))))))))))

  there : {i j : ℕ} {ts : Trees} → shape.reads.Means i ts j → Stopped s (suc d) i ts j
  unfolding pattern_in compound deepest one_ends ◌⧺◌
  there (holds h (token _)) = record { derives = p_integer h; shallow = omega arith; stops = shut }
  there (fails a (holds k (over (token h)))) = record { derives = p_constant h; shallow = omega arith; stops = shut }
  there (fails a (fails b (holds h (token _)))) = record { derives = p_wildcard h; shallow = omega arith; stops = shut }
  there (fails a (fails b (fails c (holds h (token _))))) = record { derives = p_true h; shallow = omega arith; stops = shut }
  there (fails a (fails b (fails c (fails e (holds h (token _)))))) = record { derives = p_false h; shallow = omega arith; stops = shut }
  there (fails a (fails b (fails c (fails e (fails f (holds k (holds t (over (then (up (token h) u) r))))))))) =
      record {
        derives = p_bind (record { variable = record { named = h; no_dollar = b; no_true = e; no_false = f }; no_wildcard = c }) u r.derives;
        shallow = omega (arith, r.shallow);
        stops = λ z. r.stops (last_open z);
      }
  there (fails a (fails b (fails c (fails e (fails f (holds k (fails n (over (token h))))))))) =
      record { derives = p_var (record { variable = record { named = h; no_dollar = b; no_true = e; no_false = f }; no_wildcard = c }); shallow = omega arith; stops = λ _. n }
  there (fails a (fails b (fails c (fails e (fails f (fails g (holds k (holds t (over (up (then (up (token o) w) r) z)))))))))) =
      record { derives = p_and o w r.derives z; shallow = omega (arith, r.shallow); stops = shut }
  there (fails a (fails b (fails c (fails e (fails f (fails g (holds k (fails n (over (up (then (then (token o) (token h)) r) z)))))))))) =
      record { derives = p_term o h n r.derives z; shallow = omega (arith, r.shallow); stops = shut }
  there {i = i} {j = j} {ts = ts} (fails a (fails b (fails c (fails e (fails f (fails g (fails _ x24))))))) = elim x24 [ ]

  back : {i j : ℕ} {ts : Trees} → Gram s pattern i j ts → deepest ts ≤ suc d → (one_ends ts ≡ true → At s j → ⊥) → shape.reads.Means i ts j
  unfolding pattern_in compound deepest one_ends ◌⧺◌ same_bytes
  back (p_integer h) m e = holds h (token tt)
  back (p_constant h) m e = fails (λ z. other z h.dollar.symbol refl) (holds h.dollar (over (token h)))
  back (p_wildcard h) m e = fails (λ z. other z h.symbol refl) (fails (λ z. omega (arith, no_dollar_word h z)) (holds h (token tt)))
  back (p_true h) m e = fails (λ z. other z h.symbol refl) (fails (λ z. omega (arith, no_dollar_word h z)) (fails (λ z. one_word h z refl) (holds h (token tt))))
  back (p_false h) m e =
      fails (λ z. other z h.symbol refl) (fails (λ z. omega (arith, no_dollar_word h z)) (fails (λ z. one_word h z refl) (fails (λ z. one_word h z refl) (holds h (token tt)))))
  back (p_var h) m e =
      let v = h.variable in
      fails (λ z. other z v.named.symbol refl) (fails v.no_dollar (fails h.no_wildcard (fails v.no_true (fails v.no_false
      (holds v.named.symbol (fails (e refl) (over (token v.named))))))))
  back (p_bind h a p) m e =
      let v = h.variable in
      fails (λ z. other z v.named.symbol refl) (fails v.no_dollar (fails h.no_wildcard (fails v.no_true (fails v.no_false
      (holds v.named.symbol (holds a (over (then (up (token v.named) a) (record { derives = p; shallow = omega arith; stops = λ o. e (rw o) })))))))))
  back (p_and o w ps c) m e =
      fails (λ z. other o z refl) (fails (λ z. other o z.symbol refl) (fails (λ z. other o z.symbol refl) (fails (λ z. other o z.symbol refl) (fails (λ z. other o z.symbol refl)
      (fails (λ z. other o z refl) (holds o (holds w (over (up (then (up (token o) w) (record { derives = ps; shallow = omega arith; shuts = c })) c)))))))))
  back (p_term o h n ps c) m e =
      fails (λ z. other o z refl) (fails (λ z. other o z.symbol refl) (fails (λ z. other o z.symbol refl) (fails (λ z. other o z.symbol refl) (fails (λ z. other o z.symbol refl)
      (fails (λ z. other o z refl) (holds o (fails n (over (up (then (then (token o) (token h)) (record { derives = ps; shallow = omega arith; shuts = c })) c)))))))))

  inside : {i k : ℕ} → shape.Reaches i k → Nested s pattern (suc d) i k
  unfolding pattern_in compound
  inside (if_not a (if_not b (if_not c (if_not e (if_not f (if_so k (if_so t (after (up (token h) u) n)))))))) =
      inward (in-bind (record { variable = record { named = h; no_dollar = b; no_true = e; no_false = f }; no_wildcard = c }) u) n
  inside (if_not a (if_not b (if_not c (if_not e (if_not f (if_not g (if_so k (if_so t (after (up (token o) w) (in_row ps z n)))))))))) = inward (in_and o w ps z) n
  inside (if_not a (if_not b (if_not c (if_not e (if_not f (if_not g (if_so k (if_not m (after (then (token o) (token h)) (in_row ps z n)))))))))) = inward (in-pattern o h m ps z) n
  inside {i = i} {k = k} (if_so _ x'') = elim x'' [ ]
  inside {i = i} {k = k} (if_not a (if_so _ x4)) = elim x4 [ ]
  inside {i = i} {k = k} (if_not a (if_not b (if_so _ x6))) = elim x6 [ ]
  inside {i = i} {k = k} (if_not a (if_not b (if_not c (if_so _ x8)))) = elim x8 [ ]
  inside {i = i} {k = k} (if_not a (if_not b (if_not c (if_not e (if_so _ x10))))) = elim x10 [ ]
  inside {i = i} (if_not a (if_not b (if_not c (if_not e (if_not f (if_so k (if_not _ x13))))))) = elim x13 [ ]
  inside {i = i} {k = k} (if_not a (if_not b (if_not c (if_not e (if_not f (if_not g (if_not _ x14))))))) = elim x14 [ ]

pub exact_pattern : (s : Input) (d : ℕ) → Exact s (Nested s pattern d) (parse_pattern s d) (Stopped s d)
unfolding parse_pattern
exact_pattern s zero = exact_iff (exact_refuse_at s 8 (λ i. deep i here refl refl)) (λ i ts j. elim [ ]) (λ i ts j r. absurd (omega (arith, level r.derives, r.shallow)))
exact_pattern s (suc d) =
    let ih = exact_pattern s d in
    exact_to (λ i k x. inside s d ih x) (exact_iff (shape s d ih).reads.exact (λ i ts j r. there s d ih r) (λ i ts j r. back s d ih r.derives r.shallow r.stops))
