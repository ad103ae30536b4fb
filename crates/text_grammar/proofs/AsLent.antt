-- Reading a text is reading the list of its tokens, where the lexer refuses none of them. Assumes nothing.
use Prim.Native.Nat.{ℕ, zero, suc, ◌+◌, ◌%◌, ◌<◌}
use native.Mathlib.Omega.{arith}
use mathlib.Core.Path.{◌≡◌, sym, ap, ◌∙◌}
use mathlib.Core.List.{List}
use lib.ListN.{length}
use borrow.Author.Tests.{le-ltb, eq-eqb}
use Rattle.tokens.specs.declared.Token.{Token}
use Rattle.tokens.specs.Lent.{bad_from, first_bad}
use Rattle.tokens.specs.Input.{Input, size}
use Rattle.parser.specs.Defs.{parse_defs}
use Rattle.parser.specs.Reading.{fitted, judged, reading}
use Rattle.grammar.specs.Meaning.{GoodAt, GoodList}
use Rattle.lexer.specs.Text.{lexed, at-end}
use Rattle.lexer.proofs.RunLaws.{stops_only, proper}
use Rattle.texts.specs.TextReading.{token_input, looked_ahead, parse_text, first_high, text_reading}
use Rattle.text_grammar.specs.TextMeaning.{Whole}
use Rattle.text_grammar.proofs.TokenLaws.{kinds}
use Rattle.text_grammar.proofs.ByteLaws.{no_high_first}
use Rattle.text_grammar.proofs.Theorem.{all_unlooked}
use Rattle.text_grammar.proofs.Exactly.{good}

-- ---- a good list

none-bad : (s : Input) (n i : ℕ) → ((k : ℕ) → k < i + n → GoodAt s k) → bad_from s.tokens s.text s.end n i ≡ i + n
unfolding bad_from
none-bad s zero i g = omega arith
none-bad s (suc n) i g = rw (g i (omega arith)) (none-bad s n (i + 1) (λ k l. g k (omega arith)) ∙ omega arith)

good-reading : (s : Input) (space : ℕ) → GoodList s → reading s space ≡ fitted space (parse_defs s 0)
unfolding reading judged
good-reading s space g =
    rw (
      le-ltb 16384 (size s) g.limited.few,
      le-ltb 65536 (length s.text) g.limited.short,
      eq-eqb (length s.tokens % 24) 0 g.whole,
      le-ltb (first_bad s.tokens s.text s.end) (size s) (omega (arith, none-bad s (size s) 0 (λ k l. g.good k (omega arith)))),
    )

-- ---- a whole text

module _ {text : List ℕ} {ts : List Token} (w : Whole text ts) where
  all-tokens : lexed text ≡ ts
  all-tokens = sym (stops_only text ts (at-end w.begins.lexes w.ends w.few))

  parsed-text : parse_text text ≡ parse_defs (token_input text ts) 0
  unfolding parse_text
  parsed-text =
      let b = w.begins.plain.short in
      let s = token_input text ts in
      ap (λ (us : List Token). looked_ahead (token_input text us) (parse_defs (token_input text us) 0)) all-tokens
      ∙ all_unlooked s (λ i. kinds text ts i b (proper text b w.begins.lexes)) (parse_defs s 0)

  -- AS LENT: `isle_read_text` answers what `isle_read` answers of the text's tokens
  pub as_lent : (space : ℕ) → text_reading text space ≡ reading (token_input text ts) space
  unfolding text_reading
  as_lent space =
      let q = w.begins.plain in
      rw (le-ltb 65536 (length text) q.short, le-ltb (first_high text) (length text) (no_high_first q), parsed-text) (sym (good-reading (token_input text ts) space (good w.begins w.few)))
