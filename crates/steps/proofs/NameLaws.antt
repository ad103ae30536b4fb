-- Names that are read are not empty: identifiers, and constants without their `$`. Assumes nothing.
use Prim.Native.Nat.{ℕ, zero, suc, ◌+◌, ◌/◌, ◌%◌, ◌<◌, ◌≤◌}
use native.Mathlib.Omega.{arith}
use mathlib.Core.Path.{◌≡◌, refl, sym, ap, ◌∙◌}
use mathlib.Core.List.{List, [], ◌∷◌}
use mathlib.Core.Bool.{Bool, true, false, ◌&&◌}
use lib.ListN.{length, get_or, take, drop}
use lib.Seq.{take-nil}
use lib.Dec.{eqb, ltb}
use mir.Syntax.{w64}
use mir.Val.{Fits}
use borrow.Author.Tests.{eq-eqb, ne_eqb, eqb-true, eqb-false, lt-ltb, ltb-true}
use Rattle.std.specs.Prelude.{Option, unwrap_or, Result, Ok, Err, MatchResult}
use Rattle.std.specs.Result.{IfOk, IsErr, IsErrAnd, result_err}
use Rattle.std.proofs.lemmas.Result.{err_from_is_err_and}
use Rattle.trees.specs.Choice.{pick, choose}
use Rattle.trees.specs.Names.{spelled, Nonempty, without_first}
use Rattle.trees.specs.Tree.{node, ∅, ◌▸◌, head, record_of, records_all}
use Rattle.trees.specs.Ast.{ident_node}
use Rattle.trees.proofs.Laws.{spelled_nonempty, rest_nonempty, count_none, count-one, size-one, size-node, size_none}
use Rattle.records.specs.Slots.{put, writes}
use Rattle.records.proofs.Laws.{writes-node, writes-none}
use Rattle.records.specs.declared.Ground.{Ground}
use Rattle.records.specs.declared.Ground.TheVariants.{UnknownPragma}
use Rattle.records.specs.Grounds.{number, code}
use Rattle.records.proofs.GroundLaws.{number_above}
use Rattle.tokens.specs.declared.Token.{Token}
use Rattle.tokens.specs.Token.{is_symbol, is_const}
use Rattle.tokens.specs.Input.{Input, peek}
use Rattle.tokens.specs.Ident.{ident_refusal}
use Rattle.tokens.proofs.TokenLaws.{const_kind}
use Rattle.steps.specs.declared.State.{State}
use Rattle.steps.specs.declared.Stop.{Stop}
use Rattle.steps.specs.Outcome.{Refusal, accept, refuse, refusal, unexpected, refused_as, pragma_refusal, ident_at, const_refusal, name_by, parse_ident}
use Rattle.steps.specs.Met.{told, state, Met, Chained, SymbolAt, Named}

-- ---- identifiers

pub identifier-long : (b : List ℕ) → ident_refusal b ≡ 0 → 0 < length b
unfolding ident_refusal
identifier-long [] e = absurd (omega arith)
identifier-long (c ∷ cs) e = omega arith

pub identifier_nonempty : (text b : List ℕ) (w : ℕ) → b ≡ spelled text w → 0 ≡ ident_refusal b → Nonempty w
identifier_nonempty text b w e f = spelled_nonempty text w (omega (arith, identifier-long b (sym f), ap length e))

-- ---- constants

-- an identifier that starts with `$` and has a byte more
pub record IsConstant (b : List ℕ) : Type 0 where
  pub identifier : ident_refusal b ≡ 0
  pub dollar : get_or b 0 0 ≡ 36
  pub longer : 1 < length b

pub is-constant : (b : List ℕ) → const_refusal b ≡ 0 → IsConstant b
unfolding const_refusal
is-constant b e = go (eqb (ident_refusal b) 0) (eqb (get_or b 0 0) 36) (ltb 1 (length b)) refl refl refl e
  where
    go : (t u v : Bool) → eqb (ident_refusal b) 0 ≡ t → eqb (get_or b 0 0) 36 ≡ u → ltb 1 (length b) ≡ v → pick t (pick (u && v) 0 16) (ident_refusal b) ≡ 0 → IsConstant b
    go true true true p q r h = record { identifier = eqb-true _ 0 p; dollar = eqb-true _ 36 q; longer = ltb-true 1 _ r }
    go true true false p q r h = absurd (omega arith)
    go true false v p q r h = absurd (omega arith)
    go false u v p q r h = absurd (eqb-false _ 0 p h)

pub constant-is : (b : List ℕ) → IsConstant b → const_refusal b ≡ 0
unfolding const_refusal
constant-is b d = rw (d.identifier, d.dollar, lt-ltb 1 (length b) d.longer)

-- by the ways through the code
module _ (s : List ℕ) where
  pub const_bad : (g : Ground) → number g ≡ ident_refusal s → number g ≡ const_refusal s
  unfolding const_refusal
  const_bad g e = let z : number g ≡ 0 → ⊥ = λ h. omega (arith, number_above g, h) in rw (← e, ne_eqb (number g) 0 z)

  pub const_plain : (x : ℕ) → 0 ≡ ident_refusal s → x ≡ get_or s 0 0 → (x ≡ 36 → ⊥) → 16 ≡ const_refusal s
  unfolding const_refusal
  const_plain x e f g = rw (← e, ← f, ne_eqb x 36 g)

  pub const_alone : (x : ℕ) → 0 ≡ ident_refusal s → x ≡ get_or s 0 0 → x ≡ 36 → length s ≡ 1 → 16 ≡ const_refusal s
  unfolding const_refusal
  const_alone x e f g l = rw (← e, ← f, eq-eqb x 36 g, l)

  pub const_dollar : (x : ℕ) → 0 ≡ ident_refusal s → x ≡ get_or s 0 0 → x ≡ 36 → (length s ≡ 1 → ⊥) → 0 ≡ const_refusal s
  const_dollar x e f g l = sym (constant-is s (record { identifier = sym e; dollar = sym f ∙ g; longer = omega (arith, identifier-long s (sym e), l) }))

  pub refused_other : (why : Ground) → 0 ≡ ident_refusal s → 0 ≡ refused_as (number why) s
  unfolding refused_as
  refused_other why e = rw (← e) refl

  pub refused_so : (why g : Ground) → number g ≡ ident_refusal s → number why ≡ refused_as (number why) s
  unfolding refused_as
  refused_so why g e = let z : number g ≡ 0 → ⊥ = λ h. omega (arith, number_above g, h) in rw (← e, ne_eqb (number g) 0 z) refl

  pub pragma_unknown : 0 ≡ ident_refusal s → 17 ≡ pragma_refusal s
  unfolding pragma_refusal
  pragma_unknown e = rw (← e) refl

  pub pragma_bad : (g : Ground) → number g ≡ ident_refusal s → number g ≡ pragma_refusal s
  unfolding pragma_refusal
  pragma_bad g e = let z : number g ≡ 0 → ⊥ = λ h. omega (arith, number_above g, h) in rw (← e, ne_eqb (number g) 0 z) refl

pub pragma_of : (r : Result (Unit {0}) Ground) (s : List ℕ) (o : Option Ground) (g : Ground) → code r ≡ ident_refusal s → o ≡ result_err r → g ≡ unwrap_or o UnknownPragma → number g ≡ pragma_refusal s
pragma_of (Ok x) s o g e f h = rw (h, f) (pragma_unknown s e)
pragma_of (Err y) s o g e f h = rw (h, f) (pragma_bad s y e)

-- ---- what is left without the `$`

-- a constant starts inside the text
starts-inside : (text : List ℕ) (a n : ℕ) → get_or (take n (drop a text)) 0 0 ≡ 36 → a < length text
starts-inside [] zero n e = let z : get_or (take {0} {A = ℕ} n []) 0 0 ≡ 0 = rw (take-nil {A = ℕ} n) refl in absurd (omega (arith, z))
starts-inside [] (suc a) n e = let z : get_or (take {0} {A = ℕ} n []) 0 0 ≡ 0 = rw (take-nil {A = ℕ} n) refl in absurd (omega (arith, z))
starts-inside (b ∷ bs) zero n e = omega arith
starts-inside (b ∷ bs) (suc a) n e = omega (arith, starts-inside bs a n e)

module _ (text b : List ℕ) (c w : ℕ) (e : b ≡ spelled text w) (f : c ≡ const_refusal b) where
  -- where the code adds, nothing is lost
  pub const_fits : length text ≤ 65536 → c ≡ 0 → Fits w64 (without_first w)
  unfolding spelled
  const_fits h z =
      let first : get_or (take (w % 4294967296) (drop (w / 4294967296) text)) 0 0 ≡ 36 = rw e at (is-constant b (sym f ∙ z)).dollar in
      omega (arith, h, starts-inside text (w / 4294967296) (w % 4294967296) first)

  -- THE PROMISE: the name is not empty
  pub cut_named : c ≡ 0 → Named (const_refusal (spelled text w)) (without_first w) (Ok (without_first w))
  unfolding Named
  cut_named z =
      let d = is-constant b (sym f ∙ z) in
      (ap const_refusal (sym e) ∙ sym f ∙ z, refl, rest_nonempty text w (omega (arith, d.longer, ap length e)))

-- where judging a name returns by a `?`
pub named_exit : (c w x : ℕ) (g : Ground) (r : Result ℕ Ground) → IsErr r × IsErrAnd r (λ e. e ≡ g) → number g ≡ x → x ≡ c → Named c w r
unfolding Named
named_exit c w x g r h e a =
    let p = err_from_is_err_and r h.1 in
    rw (p.1, p.2) (e ∙ a, λ z. omega (arith, number_above g, e, a, z))

pub code_exit : (x : ℕ) (g : Ground) (r : Result (Unit {0}) Ground) → IsErr r × IsErrAnd r (λ e. e ≡ g) → number g ≡ x → code r ≡ x
code_exit x g r h e = let p = err_from_is_err_and r h.1 in rw (p.1, p.2) e

pub named_ok : (c w : ℕ) → 0 ≡ c → Nonempty w → Named c w (Ok w)
unfolding Named
named_ok c w e n = (sym e, refl, n)

pub named_err : (c w : ℕ) (g : Ground) → number g ≡ c → Named c w (Err g)
unfolding Named
named_err c w g e = (e, λ z. omega (arith, number_above g, e, z))

-- a name judged, and its refusal for another reason
pub named_or : (p r : Result ℕ Ground) (b : List ℕ) (w : ℕ) (why : Ground) (post : Ground → Ground → Type 0) → Named (ident_refusal b) w p → MatchResult p (λ x. r ≡ Ok x) (λ e. IsErrAnd r (post e)) → ((e g : Ground) → post e g → g ≡ why) → Named (refused_as (number why) b) w r
unfolding Named
named_or (Ok n) r b w why post h m k = rw m (sym (refused_other b why (sym h.0)), h.1, h.2)
named_or (Err e) (Ok n) b w why post h m k = absurd m
named_or (Err e) (Err g) b w why post h m k = let c = refused_so b why e h.0 in (ap number (k e g m) ∙ c, λ z. omega (arith, number_above why, c, z))

pub named_nonempty : (c w : ℕ) (r : Result ℕ Ground) → Named c w r → IfOk r Nonempty
unfolding Named
named_nonempty c w (Ok n) h = h.2
named_nonempty c w (Err g) h = tt

-- ---- an Ident

module _ (pos n k i : ℕ) (l : List ℕ) where
  pub ident_put : (m j x : ℕ) (l' : List ℕ) → j ≡ i + 1 → x ≡ n + 1 → l' ≡ put l n (record_of (head 24 0 pos m 0) 0) → (c w : ℕ) → Named c w (Ok m) → Met (ident_at pos w c i) n k l l' (Ok (state j x (k + 1)))
  unfolding Met ident_at Named
  ident_put m j x l' f g e c w h =
      let name = head 24 0 pos m 0 in
      rw (h.0, ← h.1)
      (record {
        ends = f;
        counted = omega (arith, g, size-one (node name ∅), size-node name ∅, size_none);
        rows = omega (arith, count-one (node name ∅));
        wrote = e ∙ ap (λ (v : List ℕ). put v n (record_of name 0)) (sym (writes-none l (n + 1))) ∙ ap (λ (v : ℕ). put (writes l (n + 1) (records_all ∅)) n (record_of name v)) (sym count_none) ∙ writes-node name ∅ l n;
      })

  pub ident_refused : (g : Ground) (j : ℕ) → j ≡ i + 1 → (c w : ℕ) → Named c w (Err g) → Met (ident_at pos w c i) n k l l (Err (record { why = g; place = pos; taken = j }))
  unfolding Met ident_at Named
  ident_refused g j f c w h = rw (ne_eqb c 0 h.1, f) (ap (λ (x : ℕ). refusal x pos (i + 1)) h.0)

-- a name that is refused for what is wrong with it, refused with another number
module _ (code pos w i n k : ℕ) (b l l' : List ℕ) where
  pub other_kept : (q : State) → Met (ident_at pos w (ident_refusal b) i) n k l l' (Ok q) → Met (ident_at pos w (refused_as code b) i) n k l l' (Ok q)
  unfolding Met ident_at refused_as
  other_kept q m = go (eqb (ident_refusal b) 0) m
    where
      go : (v : Bool) → Met (pick v (accept (ident_node pos w ▸ ∅) (i + 1)) (refuse (refusal (ident_refusal b) pos (i + 1)))) n k l l' (Ok q) → Met (pick (eqb (pick v 0 code) 0) (accept (ident_node pos w ▸ ∅) (i + 1)) (refuse (refusal (pick v 0 code) pos (i + 1)))) n k l l' (Ok q)
      go true h = h
      go false h = absurd h

  pub other_refused : (d : Stop) → 0 < code → Met (ident_at pos w (ident_refusal b) i) n k l l' (Err d) → ident_at pos w (refused_as code b) i ≡ refuse (refusal code d.place d.taken)
  unfolding Met ident_at refused_as
  other_refused d z m = go (eqb (ident_refusal b) 0) m
    where
      go : (v : Bool) → Met (pick v (accept (ident_node pos w ▸ ∅) (i + 1)) (refuse (refusal (ident_refusal b) pos (i + 1)))) n k l l' (Err d) → pick (eqb (pick v 0 code) 0) (accept (ident_node pos w ▸ ∅) (i + 1)) (refuse (refusal (pick v 0 code) pos (i + 1))) ≡ refuse (refusal code d.place d.taken)
      go true h = absurd h
      go false h = rw (ne_eqb code 0 (λ y. omega arith), ap (λ (x : Refusal). x.place) h, ap (λ (x : Refusal). x.taken) h) refl

-- ---- a symbol that is a name

module _ (s : Input) (judge : List ℕ → ℕ) (range : ℕ → ℕ) (p : State) where
  pub by_name : (t : Token) (l l' : List ℕ) (r : Result State Stop) → t ≡ peek s p.next → is_symbol t ≡ true → Met (ident_at t.pos (range t.word1) (judge (spelled s.text t.word1)) p.next) p.count p.items l l' r → Chained (name_by s judge range) p l l' r
  unfolding name_by
  by_name t l l' r a v m = record { met = rw (← a, v) m }

  pub by_other : (l : List ℕ) (d : Stop) (r : Result State Stop) → IsErr r × IsErrAnd r (λ e. e ≡ d) → SymbolAt s p (Err d) → Chained (name_by s judge range) p l l r
  unfolding name_by Met SymbolAt
  by_other l d r h m = let e = err_from_is_err_and r h.1 in rw (e.1, e.2) (record { met = rw m.1 m.0 })

module _ (s : Input) (p : State) (t : Token) (m : SymbolAt s p (Ok t)) where
  pub symbol_next : t ≡ peek s p.next
  unfolding SymbolAt
  symbol_next = m.0

  pub symbol_is : is_symbol t ≡ true
  unfolding SymbolAt
  symbol_is = m.1

pub const_told : (text : List ℕ) (t : Token) → is_const text t ≡ true → is_symbol t ≡ true
unfolding is_symbol
const_told text t e = eq-eqb t.kind 3 (const_kind text t e)

module _ (s : Input) (p : State) (t : Token) (b : Bool) (a : t ≡ peek s p.next) (e : b ≡ is_symbol t) where
  pub symbol_ok : b ≡ true → SymbolAt s p (Ok t)
  unfolding SymbolAt
  symbol_ok h = (a, sym e ∙ h)

  pub symbol_err : (d : Stop) → b ≡ false → told d ≡ unexpected t p.next → SymbolAt s p (Err d)
  unfolding SymbolAt
  symbol_err d h u = rw (← a) (u, sym e ∙ h)

-- a name read is one token
pub ident_next : (s : Input) {p q : State} {l l' : List ℕ} → Chained (parse_ident s) p l l' (Ok q) → q.next ≡ p.next + 1
unfolding parse_ident name_by ident_at Met
ident_next s {p = p} {q = q} {l = l} {l' = l'} m = go (is_symbol (peek s p.next)) (eqb (ident_refusal (spelled s.text (peek s p.next).word1)) 0) m.met
  where
    go : (a b : Bool) → Met (choose a (λ _. pick b (accept (ident_node (peek s p.next).pos (peek s p.next).word1 ▸ ∅) (p.next + 1)) (refuse (refusal (ident_refusal (spelled s.text (peek s p.next).word1)) (peek s p.next).pos (p.next + 1)))) (λ _. refuse (unexpected (peek s p.next) p.next))) p.count p.items l l' (Ok q) → q.next ≡ p.next + 1
    go true true h = h.ends
    go true false h = absurd h
    go false b h = absurd h
