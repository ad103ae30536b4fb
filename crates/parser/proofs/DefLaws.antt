-- How far attributes and whole definitions read, and definitions by their word. Assumes nothing.
use Prim.Native.Nat.{ℕ, ◌+◌, ◌-◌}
use native.Mathlib.Omega.{arith}
use mathlib.Core.Path.{◌≡◌, refl, sym, subst, ◌∙◌}
use mathlib.Core.List.{List}
use mathlib.Core.Bool.{Bool, true, false}
use lib.Dec.{leb}
use Rattle.trees.specs.Choice.{pick}
use Rattle.trees.specs.Ast.{kind_attr, kind_attr_kind_chain, kind_attr_kind_priority, kind_attr_kind_tag}
use Rattle.tokens.specs.declared.Token.{Token}
use Rattle.tokens.specs.Token.{is_rparen, is_word}
use Rattle.tokens.specs.Input.{Input, peek, size}
use Rattle.steps.specs.Keywords.{word_pragma, word_type, word_decl, word_attr, word-rule, word-extractor, word_extern, word_convert, word_veri, word_tag, word_chain, word-priority}
use Rattle.steps.specs.Outcome.{Reader, ◌⊳◌, bare, refuse_after, if_next, if_second, row, expect-lparen, expect-rparen, expect-word, ate, eat, parse_ident}
use Rattle.std.specs.Prelude.{Result, Ok, Err}
use Rattle.std.specs.Result.{IsErr, IsErrAnd}
use Rattle.std.proofs.lemmas.Result.{err_from_is_err_and}
use Rattle.steps.specs.declared.Parser.{Parser}
use Rattle.steps.specs.declared.State.{State}
use Rattle.steps.specs.declared.Stop.{Stop}
use Rattle.steps.specs.Sizes.{Bounded}
use Rattle.steps.specs.Met.{Chained}
use Rattle.steps.specs.Read.{read_by, came_to, Read}
use Rattle.steps.proofs.MetLaws.{second_yes, second_no}
use Rattle.steps.proofs.SizeLaws.{Steady, Item, steady, item, less_bounded, then_bounded, bare-bounded, flagged-bounded, next-bounded, second-bounded, after-bounded, eat_steady, lparen-bounded, rparen-bounded, word-bounded, ident-bounded, pragma_bounded}
use Rattle.steps.proofs.RowLaws.{row_steady}
use Rattle.parser.specs.Types.{parse_type}
use Rattle.parser.specs.Defs.{parse_attr_kind_veri, parse_attr_kind, parse_attr, parse_decl, parse_rule, parse_etor, parse_extern, parse_converter, parse_pragma, worded, is_uncovered, other_def, rest_def, parse_def, parse_defs}
use Rattle.parser.proofs.TypeLaws.{type_bounded}
use Rattle.parser.proofs.DeclLaws.{decl_bounded, extern_bounded, etor_bounded, converter_bounded}
use Rattle.parser.proofs.RuleLaws.{rule-bounded}

module _ (s : Input) where
  pub veri_bounded : Bounded 1 1 0 s (parse_attr_kind_veri s)
  unfolding parse_attr_kind_veri
  veri_bounded =
      next-bounded 1 1 0 s (is_word s.text word_chain) (bare kind_attr_kind_chain (expect-word s word_chain)) (if_next s (is_word s.text word-priority) (bare kind_attr_kind_priority (expect-word s word-priority)) (refuse_after s 3 21))
      (bare-bounded 1 3 0 1 1 0 s kind_attr_kind_chain (expect-word s word_chain) (omega arith) (omega arith) (word-bounded s word_chain))
      (next-bounded 1 1 0 s (is_word s.text word-priority) (bare kind_attr_kind_priority (expect-word s word-priority)) (refuse_after s 3 21)
      (bare-bounded 1 3 0 1 1 0 s kind_attr_kind_priority (expect-word s word-priority) (omega arith) (omega arith) (word-bounded s word-priority)) (after-bounded 1 1 0 s 3 21))

  -- `(word ..)`
  in-parens : (w : List ℕ) (f : Reader) → Bounded 1 1 0 s f → Bounded 1 1 0 s (worded s w f)
  in-parens w f b =
      less_bounded 4 10 0 1 1 0 s (worded s w f) (omega arith) (omega arith)
      (then_bounded 3 7 0 1 3 0 s (expect-lparen s ⊳ expect-word s w ⊳ f) (expect-rparen s)
      (then_bounded 2 6 0 1 1 0 s (expect-lparen s ⊳ expect-word s w) f
      (then_bounded 1 3 0 1 3 0 s (expect-lparen s) (expect-word s w) (lparen-bounded s) (word-bounded s w)) b) (rparen-bounded s))

  -- `(` and a word that is refused
  unknown : (code : ℕ) → Bounded 1 1 0 s (expect-lparen s ⊳ refuse_after s 3 code)
  unknown code = less_bounded 1 3 0 1 1 0 s (expect-lparen s ⊳ refuse_after s 3 code) (omega arith) (omega arith) (then_bounded 1 3 0 0 0 0 s (expect-lparen s) (refuse_after s 3 code) (lparen-bounded s) (after-bounded 0 0 0 s 3 code))

  pub attr_kind_bounded : Bounded 1 1 0 s (parse_attr_kind s)
  unfolding parse_attr_kind
  attr_kind_bounded =
      second-bounded 1 1 0 s (is_word s.text word_veri) (worded s word_veri (parse_attr_kind_veri s)) (if_second s (is_word s.text word_tag) (worded s word_tag (bare kind_attr_kind_tag (parse_ident s))) (expect-lparen s ⊳ refuse_after s 3 20))
      (in-parens word_veri (parse_attr_kind_veri s) veri_bounded)
      (second-bounded 1 1 0 s (is_word s.text word_tag) (worded s word_tag (bare kind_attr_kind_tag (parse_ident s))) (expect-lparen s ⊳ refuse_after s 3 20)
      (in-parens word_tag (bare kind_attr_kind_tag (parse_ident s)) (bare-bounded 1 2 0 1 1 0 s kind_attr_kind_tag (parse_ident s) (omega arith) (omega arith) (ident-bounded s))) (unknown 20))

  pub attr_kind_steady : Steady s (parse_attr_kind s)
  attr_kind_steady = steady 1 1 s (parse_attr_kind s) attr_kind_bounded

  pub attr_kind_item : Item s (parse_attr_kind s)
  attr_kind_item = item 1 s (parse_attr_kind s) attr_kind_bounded

  pub attr_kinds_steady : Steady s (row s (parse_attr_kind s))
  attr_kinds_steady = row_steady s (λ i. is_rparen (peek s i)) (parse_attr_kind s) attr_kind_item

  attr_bounded : Bounded 1 1 0 s (parse_attr s)
  unfolding parse_attr
  attr_bounded =
      flagged-bounded 1 2 0 1 1 0 s kind_attr (λ i. ate s word-rule i - i) (eat s word-rule ⊳ parse_ident s ⊳ row s (parse_attr_kind s)) (omega arith) (omega arith)
      (then_bounded 1 2 0 0 0 0 s (eat s word-rule ⊳ parse_ident s) (row s (parse_attr_kind s))
      (then_bounded 0 0 0 1 2 0 s (eat s word-rule) (parse_ident s) (eat_steady s word-rule) (ident-bounded s)) attr_kinds_steady)

  pragma_read_bounded : Bounded 1 1 0 s (parse_pragma s)
  unfolding parse_pragma
  pragma_read_bounded = less_bounded 1 2 0 1 1 0 s (parse_pragma s) (omega arith) (omega arith) (pragma_bounded s)

  pub other-bounded : Bounded 1 1 0 s (other_def s)
  unfolding other_def
  other-bounded = second-bounded 1 1 0 s (is_uncovered s.text) (expect-lparen s ⊳ refuse_after s 3 27) (expect-lparen s ⊳ refuse_after s 3 12) (unknown 27) (unknown 12)

  by_word : (w : List ℕ) (f g : Reader) → Bounded 1 1 0 s f → Bounded 1 1 0 s g → Bounded 1 1 0 s (if_second s (is_word s.text w) (worded s w f) g)
  by_word w f g a b = second-bounded 1 1 0 s (is_word s.text w) (worded s w f) g (in-parens w f a) b

  rest-bounded : Bounded 1 1 0 s (rest_def s)
  unfolding rest_def
  rest-bounded =
      by_word word-rule (parse_rule s) extractors (rule-bounded s)
      (by_word word-extractor (parse_etor s) externs (etor_bounded s)
      (by_word word_extern (parse_extern s) converts (extern_bounded s)
      (by_word word_convert (parse_converter s) (other_def s) (converter_bounded s) other-bounded)))
    where
      converts : Reader
      converts = if_second s (is_word s.text word_convert) (worded s word_convert (parse_converter s)) (other_def s)

      externs : Reader
      externs = if_second s (is_word s.text word_extern) (worded s word_extern (parse_extern s)) converts

      extractors : Reader
      extractors = if_second s (is_word s.text word-extractor) (worded s word-extractor (parse_etor s)) externs

  def_bounded : Bounded 1 1 0 s (parse_def s)
  unfolding parse_def
  def_bounded =
      by_word word_pragma (parse_pragma s) types pragma_read_bounded
      (by_word word_type (parse_type s) decls (type_bounded s)
      (by_word word_decl (parse_decl s) attrs (decl_bounded s)
      (by_word word_attr (parse_attr s) (rest_def s) attr_bounded rest-bounded)))
    where
      attrs : Reader
      attrs = if_second s (is_word s.text word_attr) (worded s word_attr (parse_attr s)) (rest_def s)

      decls : Reader
      decls = if_second s (is_word s.text word_decl) (worded s word_decl (parse_decl s)) attrs

      types : Reader
      types = if_second s (is_word s.text word_type) (worded s word_type (parse_type s)) decls

  pub def_steady : Steady s (parse_def s)
  def_steady = steady 1 1 s (parse_def s) def_bounded

  pub def_item : Item s (parse_def s)
  def_item = item 1 s (parse_def s) def_bounded

  pub defs_steady : Steady s (parse_defs s)
  unfolding parse_defs
  defs_steady = row_steady s (λ i. leb (size s) i) (parse_def s) def_item

-- ---- words that are not covered

other_met : (s : Input) (u : Token) (x : ℕ) {p : State} {l l' : List ℕ} {r : Result State Stop} → u ≡ peek s (p.next + 1) → x ≡ pick (is_uncovered s.text u) 27 12 → Chained (expect-lparen s ⊳ refuse_after s 3 x) p l l' r → Chained (other_def s) p l l' r
unfolding other_def
other_met s u x {p = p} {l = l} {l' = l'} {r = r} a e m = go (is_uncovered s.text u) refl
  where
    go : (b : Bool) → is_uncovered s.text u ≡ b → Chained (if_second s (is_uncovered s.text) (expect-lparen s ⊳ refuse_after s 3 27) (expect-lparen s ⊳ refuse_after s 3 12)) p l l' r
    go true f = let z : x ≡ 27 = e ∙ rw f in second_yes s (is_uncovered s.text) _ a (sym f) refl (subst (λ (y : ℕ). Chained (expect-lparen s ⊳ refuse_after s 3 y) p l l' r) z m)
    go false f = let z : x ≡ 12 = e ∙ rw f in second_no s (is_uncovered s.text) _ a (sym f) refl (subst (λ (y : ℕ). Chained (expect-lparen s ⊳ refuse_after s 3 y) p l l' r) z m)

pub other_read : (u : Token) (x : ℕ) {p p' : Parser} {r : Result (Unit {0}) Stop} → u ≡ peek (read_by p) (p.state.next + 1) → x ≡ pick (is_uncovered p.source.text.now u) 27 12 → Read (λ s. expect-lparen s ⊳ refuse_after s 3 x) p p' r → Read other_def p p' r
other_read u x {p = p} a e m = record { read = other_met (read_by p) u x a e m.read; same = m.same }

-- ---- all definitions, by a parser made for them

pub parsed : {p p' : Parser} {u : Unit {0}} {x : List ℕ} → Read parse_defs p p' (Ok u) → x ≡ p'.out.now → Chained (parse_defs (read_by p)) p.state p.out.now x (Ok p'.state)
unfolding came_to
parsed m e = rw e m.read

pub parse_stopped : (r : Result State Stop) {p p' : Parser} {d : Stop} {x : List ℕ} → IsErr r × IsErrAnd r (λ e. e ≡ d) → Read parse_defs p p' (Err d) → x ≡ p'.out.now → Chained (parse_defs (read_by p)) p.state p.out.now x r
unfolding came_to
parse_stopped r h m e = let k = err_from_is_err_and r h.1 in rw (k.1, k.2, e) m.read
