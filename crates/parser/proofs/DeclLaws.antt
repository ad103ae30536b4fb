-- How far declarations, externs, extractors and converters read; a declaration's modifiers. Assumes nothing.
use Prim.Native.Nat.{ℕ, ◌+◌, ◌-◌, ◌*◌, ◌<◌, ◌≤◌}
use native.Mathlib.Omega.{arith}
use mathlib.Core.Path.{◌≡◌, refl, ap, subst, ◌∙◌}
use mathlib.Core.List.{List}
use mathlib.Core.Bool.{Bool, true, false}
use Rattle.trees.specs.Choice.{pick}
use Rattle.trees.specs.Tree.{∅, ◌⧺◌}
use Rattle.trees.proofs.Laws.{size_none}
use Rattle.trees.specs.Ast.{kind_decl, kind_extern_constructor, kind_extern_extractor, kind_extern_const, kind_extractor, kind_converter}
use Rattle.tokens.specs.Token.{is_word}
use Rattle.tokens.specs.Input.{Input, peek, size}
use Rattle.steps.specs.Keywords.{word_pure, word_multi, word_partial, word-rec, word_constructor, word-extractor, word_infallible, word_const}
use Rattle.steps.specs.Outcome.{Reader, and_then, before, ◌⊳◌, parent, flagged, refuse_at, if_next, row, expect-lparen, expect-rparen, expect-word, ate, eat, parse_ident, parse_const}
use mir.Val.{bool_byte}
use Rattle.std.specs.Prelude.{Ok}
use Rattle.steps.specs.declared.Parser.{Parser}
use Rattle.steps.specs.declared.Source.{Source}
use Rattle.steps.specs.declared.State.{State}
use Rattle.steps.specs.Sizes.{Bounded}
use Rattle.steps.specs.Met.{seen, Met}
use Rattle.steps.specs.Read.{read_by, came_to, Same, Read, Passed, Begun}
use Rattle.steps.proofs.ReadLaws.{◌▷◌, same_then, unmoved, passed_next}
use Rattle.steps.proofs.NameLaws.{ident_next}
use Rattle.steps.proofs.StepLaws.{ate_flag}
use Rattle.steps.proofs.SizeLaws.{Steady, steady, less_bounded, sized-accept, then_bounded, parent-bounded, flagged-bounded, next-bounded, refuse-bounded, met_there, word_kinded, eat_steady, lparen-bounded, rparen-bounded, word-bounded, ident-bounded, const_bounded}
use Rattle.steps.proofs.RowLaws.{idents_steady}
use Rattle.patterns.specs.Pattern.{parse_pattern}
use Rattle.patterns.proofs.PatternLaws.{pattern-bounded}
use Rattle.parser.specs.Defs.{after_pure, after_multi, after_partial, after_rec, decl_flags, decl_modifiers, decl_names, parse_decl, parse_extern, etor_head, parse_etor, parse_converter}

-- ---- words eaten

pub record Ate (s : Input) (i j : ℕ) : Type 0 where
  pub low : i ≤ j
  pub high : j ≤ i + 1
  pub inside : i ≤ size s → j ≤ size s

ate_by : (s : Input) (w : List ℕ) (i : ℕ) (b : Bool) → is_word s.text w (peek s i) ≡ b → Ate s i (pick b (i + 1) i)
ate_by s w i true e = let x : i < size s = met_there s i (is_word s.text w) (word_kinded s.text w) e in record { low = omega arith; high = omega arith; inside = λ z. omega arith }
ate_by s w i false e = record { low = omega arith; high = omega arith; inside = λ z. z }

ate-range : (s : Input) (w : List ℕ) (i : ℕ) → Ate s i (ate s w i)
unfolding ate
ate-range s w i = ate_by s w i (is_word s.text w (peek s i)) refl

pub ate-is : (s : Input) (w : List ℕ) (i j : ℕ) → j ≡ ate s w i → Ate s i j
ate-is s w i j e = rw e (ate-range s w i)

-- where a word that may stand there is passed, or not
pub eaten_ends : (w : List ℕ) {p q : Parser} → Passed (λ s. eat s w) p q → q.state.next ≡ ate (read_by p) w p.state.next
unfolding eat Met came_to
eaten_ends w m = m.read.met.ends

-- the same, told of the tokens that were there at first
ends_at : (w : List ℕ) (j : ℕ) {p q r : Parser} → Same p q → q.state.next ≡ j → Passed (λ s. eat s w) q r → r.state.next ≡ ate (read_by p) w j
ends_at w j {p = p} {q = q} {r = r} e h m = subst (λ (x : Source). r.state.next ≡ ate (seen x) w j) e.source (subst (λ (i : ℕ). r.state.next ≡ ate (read_by q) w i) h (eaten_ends w m))

-- the flag of a word
pub flag_at : (w : List ℕ) (j : ℕ) {p q : Parser} {b : Bool} → Same p q → q.state.next ≡ j → b ≡ is_word q.source.text.now w (peek (read_by q) q.state.next) → bool_byte b ≡ ate (read_by p) w j - j
flag_at w j {p = p} {q = q} {b = b} e h a = subst (λ (x : Source). bool_byte b ≡ ate (seen x) w j - j) e.source (subst (λ (i : ℕ). bool_byte b ≡ ate (read_by q) w i - i) h (ate_flag (read_by q) w q.state.next (peek (read_by q) q.state.next) b refl a))

pub flag_begun : (w : List ℕ) {p p₁ : Parser} {b : Bool} → Begun p p₁ → b ≡ is_word p₁.source.text.now w (peek (read_by p₁) p₁.state.next) → bool_byte b ≡ ate (read_by p) w p.state.next - p.state.next
flag_begun w {p = p} a e = flag_at w p.state.next a.same (ap (λ (x : State). x.next) a.inside) e

-- the same behind a word
pub flag_behind : (v w : List ℕ) {p p₁ p₂ : Parser} {u : Unit {0}} {b : Bool} → Begun p p₁ → Read (λ s. expect-word s v) p₁ p₂ (Ok u) → b ≡ is_word p₂.source.text.now w (peek (read_by p₂) p₂.state.next) → bool_byte b ≡ ate (read_by p) w (p.state.next + 1) - (p.state.next + 1)
flag_behind v w {p = p} a m e = flag_at w (p.state.next + 1) (same_then a.same m.same) (passed_next (λ s. is_word s.text v) m ∙ ap (λ (x : State). x.next + 1) a.inside) e

-- flags that go by the tokens where a node begins, or behind its name
pub flags_begun : (f : Input → ℕ → ℕ) {p p₁ : Parser} {x : ℕ} → Begun p p₁ → x ≡ f (read_by p₁) p₁.state.next → x ≡ f (read_by p) p.state.next
flags_begun f {p = p} {p₁ = p₁} {x = x} b e = e ∙ ap (λ (y : Source). f (seen y) p₁.state.next) b.same.source ∙ ap (λ (y : State). f (read_by p) y.next) b.inside

pub flags_behind : (f : Input → ℕ → ℕ) {p p₁ p₂ : Parser} {u : Unit {0}} {x : ℕ} → Begun p p₁ → Read parse_ident p₁ p₂ (Ok u) → x ≡ f (read_by p₂) p₂.state.next → x ≡ f (read_by p) (p.state.next + 1)
unfolding came_to
flags_behind f {p = p} {p₁ = p₁} {p₂ = p₂} {x = x} b m e = e ∙ ap (λ (y : Source). f (seen y) p₂.state.next) (m.same.source ∙ b.same.source) ∙ ap (f (read_by p)) (ident_next (read_by p₁) m.read ∙ ap (λ (y : State). y.next + 1) b.inside)

-- a declaration's modifiers
module _ {p p₁ p₂ p₃ : Parser} (m₁ : Passed (λ s. eat s word_pure) p p₁) (m₂ : Passed (λ s. eat s word_multi) p₁ p₂) (m₃ : Passed (λ s. eat s word_partial) p₂ p₃) where
  pub decl_flagged : {a b c d : Bool} → a ≡ is_word p.source.text.now word_pure (peek (read_by p) p.state.next) → b ≡ is_word p₁.source.text.now word_multi (peek (read_by p₁) p₁.state.next) → c ≡ is_word p₂.source.text.now word_partial (peek (read_by p₂) p₂.state.next) → d ≡ is_word p₃.source.text.now word-rec (peek (read_by p₃) p₃.state.next) → bool_byte a + bool_byte b * 2 + bool_byte c * 4 + bool_byte d * 8 ≡ decl_flags (read_by p) p.state.next
  unfolding decl_flags
  decl_flagged {a = a} {b = b} {c = c} {d = d} ea eb ec ed =
      let s = read_by p in
      let i = p.state.next in
      let i₁ : p₁.state.next ≡ after_pure s i = eaten_ends word_pure m₁ in
      let i₂ : p₂.state.next ≡ after_multi s i = ends_at word_multi (after_pure s i) m₁.same i₁ m₂ in
      let z₂ : Same p p₂ = same_then m₁.same m₂.same in
      let i₃ : p₃.state.next ≡ after_partial s i = ends_at word_partial (after_multi s i) z₂ i₂ m₃ in
      let fa : bool_byte a ≡ after_pure s i - i = flag_at word_pure i (unmoved {p = p}) refl ea in
      let fb : bool_byte b ≡ after_multi s i - after_pure s i = flag_at word_multi (after_pure s i) m₁.same i₁ eb in
      let fc : bool_byte c ≡ after_partial s i - after_multi s i = flag_at word_partial (after_multi s i) z₂ i₂ ec in
      let fd : bool_byte d ≡ after_rec s i - after_partial s i = flag_at word-rec (after_partial s i) (same_then z₂ m₃.same) i₃ ed in
      rw (fa, fb, fc, fd)

  pub decl_passed : {p₄ : Parser} → Passed (λ s. eat s word-rec) p₃ p₄ → Passed decl_modifiers p p₄
  unfolding decl_modifiers eat ◌⊳◌ and_then before ◌⧺◌
  decl_passed m₄ = let m = m₁ ▷ m₂ ▷ m₃ ▷ m₄ in record { read = record { met = m.read.met }; same = m.same }

-- ---- at a state

pub modifiers_steady : (s : Input) → Steady s (decl_modifiers s)
unfolding decl_modifiers
modifiers_steady s =
    record {
      sized = λ i.
          let a = ate-range s word_pure i in
          let b = ate-range s word_multi (after_pure s i) in
          let c = ate-range s word_partial (after_multi s i) in
          let d = ate-range s word-rec (after_partial s i) in
          sized-accept 0 0 0 s i ∅ (after_rec s i)
          (record {
            on = omega (arith, a.low, b.low, c.low, d.low);
            inside = λ z. d.inside (c.inside (b.inside (a.inside z)));
            room = omega (arith, size_none, a.low, b.low, c.low, d.low);
          });
    }

-- ---- how far

module _ (s : Input) where
  decl_names_bounded : Bounded 1 2 0 s (decl_names s)
  unfolding decl_names
  decl_names_bounded =
      less_bounded 4 10 0 1 2 0 s (parse_ident s ⊳ expect-lparen s ⊳ row s (parse_ident s) ⊳ expect-rparen s ⊳ parse_ident s) (omega arith) (omega arith)
      (then_bounded 3 8 0 1 2 0 s (parse_ident s ⊳ expect-lparen s ⊳ row s (parse_ident s) ⊳ expect-rparen s) (parse_ident s)
      (then_bounded 2 5 0 1 3 0 s (parse_ident s ⊳ expect-lparen s ⊳ row s (parse_ident s)) (expect-rparen s)
      (then_bounded 2 5 0 0 0 0 s (parse_ident s ⊳ expect-lparen s) (row s (parse_ident s))
      (then_bounded 1 2 0 1 3 0 s (parse_ident s) (expect-lparen s) (ident-bounded s) (lparen-bounded s)) (idents_steady s)) (rparen-bounded s)) (ident-bounded s))

  pub decl_names_steady : Steady s (decl_names s)
  decl_names_steady = steady 1 2 s (decl_names s) decl_names_bounded

  pub decl_bounded : Bounded 1 1 0 s (parse_decl s)
  unfolding parse_decl
  decl_bounded =
      flagged-bounded 1 2 0 1 1 0 s kind_decl (decl_flags s) (decl_modifiers s ⊳ decl_names s) (omega arith) (omega arith)
      (then_bounded 0 0 0 1 2 0 s (decl_modifiers s) (decl_names s) (modifiers_steady s) decl_names_bounded)

  pub etor_head_spare : Bounded 1 2 0 s (etor_head s)
  unfolding etor_head
  etor_head_spare =
      less_bounded 3 8 0 1 2 0 s (expect-lparen s ⊳ parse_ident s ⊳ row s (parse_ident s) ⊳ expect-rparen s) (omega arith) (omega arith)
      (then_bounded 2 5 0 1 3 0 s (expect-lparen s ⊳ parse_ident s ⊳ row s (parse_ident s)) (expect-rparen s)
      (then_bounded 2 5 0 0 0 0 s (expect-lparen s ⊳ parse_ident s) (row s (parse_ident s))
      (then_bounded 1 3 0 1 2 0 s (expect-lparen s) (parse_ident s) (lparen-bounded s) (ident-bounded s)) (idents_steady s)) (rparen-bounded s))

  pub etor_bounded : Bounded 1 1 0 s (parse_etor s)
  unfolding parse_etor
  etor_bounded =
      parent-bounded 2 3 0 1 1 0 s kind_extractor 0 (etor_head s ⊳ parse_pattern s 64) (omega arith) (omega arith)
      (then_bounded 1 2 0 1 1 0 s (etor_head s) (parse_pattern s 64) etor_head_spare (pattern-bounded s 64))

  pub converter_bounded : Bounded 1 1 0 s (parse_converter s)
  unfolding parse_converter
  converter_bounded =
      parent-bounded 3 6 0 1 1 0 s kind_converter 0 (parse_ident s ⊳ parse_ident s ⊳ parse_ident s) (omega arith) (omega arith)
      (then_bounded 2 4 0 1 2 0 s (parse_ident s ⊳ parse_ident s) (parse_ident s)
      (then_bounded 1 2 0 1 2 0 s (parse_ident s) (parse_ident s) (ident-bounded s) (ident-bounded s)) (ident-bounded s))

  pub extern_bounded : Bounded 1 1 0 s (parse_extern s)
  unfolding parse_extern
  extern_bounded =
      next-bounded 1 1 0 s (is_word s.text word_constructor) constructor extractors
      (parent-bounded 3 7 0 1 1 0 s kind_extern_constructor 0 (expect-word s word_constructor ⊳ parse_ident s ⊳ parse_ident s) (omega arith) (omega arith)
      (then_bounded 2 5 0 1 2 0 s (expect-word s word_constructor ⊳ parse_ident s) (parse_ident s)
      (then_bounded 1 3 0 1 2 0 s (expect-word s word_constructor) (parse_ident s) (word-bounded s word_constructor) (ident-bounded s)) (ident-bounded s)))
      (next-bounded 1 1 0 s (is_word s.text word-extractor) extractor consts
      (flagged-bounded 3 7 0 1 1 0 s kind_extern_extractor (λ i. ate s word_infallible (i + 1) - (i + 1)) (expect-word s word-extractor ⊳ eat s word_infallible ⊳ parse_ident s ⊳ parse_ident s) (omega arith) (omega arith)
      (then_bounded 2 5 0 1 2 0 s (expect-word s word-extractor ⊳ eat s word_infallible ⊳ parse_ident s) (parse_ident s)
      (then_bounded 1 3 0 1 2 0 s (expect-word s word-extractor ⊳ eat s word_infallible) (parse_ident s)
      (then_bounded 1 3 0 0 0 0 s (expect-word s word-extractor) (eat s word_infallible) (word-bounded s word-extractor) (eat_steady s word_infallible)) (ident-bounded s)) (ident-bounded s)))
      (next-bounded 1 1 0 s (is_word s.text word_const) const· (refuse_at s 22)
      (less_bounded 3 6 0 1 1 0 s const· (omega arith) (omega arith)
      (then_bounded 1 3 0 2 3 0 s (expect-word s word_const) (parent s kind_extern_const 0 (parse_const s ⊳ parse_ident s)) (word-bounded s word_const)
      (parent-bounded 2 4 0 2 3 0 s kind_extern_const 0 (parse_const s ⊳ parse_ident s) (omega arith) (omega arith) (then_bounded 1 2 0 1 2 0 s (parse_const s) (parse_ident s) (const_bounded s) (ident-bounded s)))))
      (refuse-bounded 1 1 0 s 22)))
    where
      constructor : Reader
      constructor = parent s kind_extern_constructor 0 (expect-word s word_constructor ⊳ parse_ident s ⊳ parse_ident s)

      extractor : Reader
      extractor = flagged s kind_extern_extractor (λ i. ate s word_infallible (i + 1) - (i + 1)) (expect-word s word-extractor ⊳ eat s word_infallible ⊳ parse_ident s ⊳ parse_ident s)

      const· : Reader
      const· = expect-word s word_const ⊳ parent s kind_extern_const 0 (parse_const s ⊳ parse_ident s)

      consts : Reader
      consts = if_next s (is_word s.text word_const) const· (refuse_at s 22)

      extractors : Reader
      extractors = if_next s (is_word s.text word-extractor) extractor consts
