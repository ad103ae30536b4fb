-- Every token of a part is of a kind that is lent, so nothing is derived over a record where the lexer stops. Assumes nothing.
use Prim.Native.Nat.{ℕ, ◌+◌, ◌<◌, ◌≤◌}
use native.Mathlib.Omega.{arith}
use mathlib.Core.Path.{◌≡◌, refl}
use mathlib.Core.List.{List}
use mathlib.Core.Bool.{Bool, true, false}
use lib.Dec.{ltb}
use borrow.Author.Tests.{ltb-true, ltb-false}
use Rattle.trees.specs.Tree.{Trees}
use Rattle.tokens.specs.Input.{Input, peek}
use Rattle.grammar.specs.Lexical.{Kind, Symbol, Word, Name}
use Rattle.grammar.specs.Grammar.{Optional, given, left, Modifiers, no_more, an_extern, a_nodebug, RuleName, named, unnamed, RulePriority, ranked, unranked, Part, Gram, empty, cons, d_type, d_decl, d_attr, d_extern, d_extractor, d_rule, d_convert, t_type, v_primitive, v_enum, v_struct, w_plain, w_fields, f_unit, f_struct, f_tuple, f_field, f_end, f_type, c_decl, n_name, a_attr, a_chain, a_priority, a_tag, x_constructor, x_extractor, x_const, x_template, r_rule, i_let, i_if, k_convert, p_integer, p_constant, p_wildcard, p_true, p_false, p_var, p_bind, p_and, p_term, e_integer, e_constant, e_true, e_false, e_var, e_let, e_term, l_def}

-- j is not before i, and the tokens from i up to j are of kinds from 1 to 5
pub record Tokens (s : Input) (i j : ℕ) : Type 0 where
  pub on : i ≤ j
  pub at_least : (k : ℕ) → i ≤ k → k < j → 1 ≤ (peek s k).kind
  pub at_most : (k : ℕ) → i ≤ k → k < j → (peek s k).kind ≤ 5

pub nothing : {s : Input} {i : ℕ} → Tokens s i i
nothing = record { on = omega arith; at_least = λ k a b. absurd (omega arith); at_most = λ k a b. absurd (omega arith) }

-- one token
pub a : {s : Input} {c i : ℕ} → Kind s c i → 1 ≤ c → c ≤ 5 → Tokens s i (i + 1)
a {s} {c} {i} h n l =
    record {
      on = omega arith;
      at_least = λ k p q. let z : k ≡ i = omega arith in rw z (omega (arith, h.is));
      at_most = λ k p q. let z : k ≡ i = omega arith in rw z (omega (arith, h.is));
    }

-- one part after another
infixl 50 ◌⊕◌
pub ◌⊕◌ : {s : Input} {i j k : ℕ} → Tokens s i j → Tokens s j k → Tokens s i k
◌⊕◌ {s} {i} {j} {k} f g =
    record { on = omega (arith, f.on, g.on); at_least = λ m p q. (go m p q (ltb m j) refl).0; at_most = λ m p q. (go m p q (ltb m j) refl).1 }
  where
    go : (m : ℕ) → i ≤ m → m < k → (b : Bool) → ltb m j ≡ b → (1 ≤ (peek s m).kind) × ((peek s m).kind ≤ 5)
    go m p q true e = let l = ltb-true m j e in (f.at_least m p l, f.at_most m p l)
    go m p q false e = let l = ltb-false m j e in (g.at_least m l q, g.at_most m l q)

paren : {s : Input} {i : ℕ} → Kind s 1 i → Tokens s i (i + 1)
paren h = a h (omega arith) (omega arith)

pub close : {s : Input} {i : ℕ} → Kind s 2 i → Tokens s i (i + 1)
close h = a h (omega arith) (omega arith)

pub symbol : {s : Input} {i : ℕ} → Symbol s i → Tokens s i (i + 1)
symbol h = a h (omega arith) (omega arith)

pub word : {s : Input} {w : List ℕ} {i : ℕ} → Word s w i → Tokens s i (i + 1)
word h = symbol h.symbol

name : {s : Input} {i : ℕ} → Name s i → Tokens s i (i + 1)
name h = symbol h.symbol

pub integer : {s : Input} {i : ℕ} → Kind s 4 i → Tokens s i (i + 1)
integer h = a h (omega arith) (omega arith)

pub at_sign : {s : Input} {i : ℕ} → Kind s 5 i → Tokens s i (i + 1)
at_sign h = a h (omega arith) (omega arith)

pub optional : {s : Input} {w : List ℕ} {f i j p : ℕ} → Optional s w f i j p → Tokens s i j
optional (given h) = word h
optional (left n) = nothing

pub modifiers : {s : Input} {i j e n : ℕ} → Modifiers s i j e n → Tokens s i j
modifiers no_more = nothing
modifiers (an_extern w m) = word w ⊕ modifiers m
modifiers (a_nodebug w m) = word w ⊕ modifiers m

rule-name : {s : Input} {i j f : ℕ} {ts : Trees} → RuleName s i j ts f → Tokens s i j
rule-name (named h) = name h
rule-name (unnamed n) = nothing

rule-priority : {s : Input} {i j f : ℕ} {ts : Trees} → RulePriority s i j ts f → Tokens s i j
rule-priority (ranked k h) = integer k
rule-priority (unranked n) = nothing

pub tokens : {s : Input} {x : Part} {i j : ℕ} {ts : Trees} → Gram s x i j ts → Tokens s i j
tokens empty = nothing
tokens (cons p ps) = tokens p ⊕ tokens ps
tokens (d_type o w p c) = paren o ⊕ word w ⊕ tokens p ⊕ close c
tokens (d_decl o w p c) = paren o ⊕ word w ⊕ tokens p ⊕ close c
tokens (d_attr o w p c) = paren o ⊕ word w ⊕ tokens p ⊕ close c
tokens (d_extern o w p c) = paren o ⊕ word w ⊕ tokens p ⊕ close c
tokens (d_extractor o w p c) = paren o ⊕ word w ⊕ tokens p ⊕ close c
tokens (d_rule o w p c) = paren o ⊕ word w ⊕ tokens p ⊕ close c
tokens (d_convert o w p c) = paren o ⊕ word w ⊕ tokens p ⊕ close c
tokens (t_type h m p) = name h ⊕ modifiers m ⊕ tokens p
tokens (v_primitive o w h c) = paren o ⊕ word w ⊕ name h ⊕ close c
tokens (v_enum o w ps c) = paren o ⊕ word w ⊕ tokens ps ⊕ close c
tokens (v_struct o w p c) = paren o ⊕ word w ⊕ tokens p ⊕ close c
tokens (w_plain h) = name h
tokens (w_fields o h p c) = paren o ⊕ name h ⊕ tokens p ⊕ close c
tokens f_unit = nothing
tokens (f_struct p ps) = tokens p ⊕ tokens ps
tokens (f_tuple h ps) = name h ⊕ tokens ps
tokens (f_field o h u c) = paren o ⊕ name h ⊕ name u ⊕ close c
tokens f_end = nothing
tokens (f_type h ps) = name h ⊕ tokens ps
tokens (c_decl p m q r h o ns c u) = optional p ⊕ optional m ⊕ optional q ⊕ optional r ⊕ name h ⊕ paren o ⊕ tokens ns ⊕ close c ⊕ name u
tokens (n_name h) = name h
tokens (a_attr p h ps) = optional p ⊕ name h ⊕ tokens ps
tokens (a_chain o w v c) = paren o ⊕ word w ⊕ word v ⊕ close c
tokens (a_priority o w v c) = paren o ⊕ word w ⊕ word v ⊕ close c
tokens (a_tag o w h c) = paren o ⊕ word w ⊕ name h ⊕ close c
tokens (x_constructor w h u) = word w ⊕ name h ⊕ name u
tokens (x_extractor w p h u) = word w ⊕ optional p ⊕ name h ⊕ name u
tokens (x_const w h u) = word w ⊕ name h.named ⊕ name u
tokens (x_template o h ns c p) = paren o ⊕ name h ⊕ tokens ns ⊕ close c ⊕ tokens p
tokens (r_rule x y p ps e h) = rule-name x ⊕ rule-priority y ⊕ tokens p ⊕ tokens ps ⊕ tokens e
tokens (i_let o w p e c) = paren o ⊕ word w ⊕ tokens p ⊕ tokens e ⊕ close c
tokens (i_if o w e c) = paren o ⊕ word w ⊕ tokens e ⊕ close c
tokens (k_convert h u v) = name h ⊕ name u ⊕ name v
tokens (p_integer h) = integer h
tokens (p_constant h) = name h.named
tokens (p_wildcard h) = word h
tokens (p_true h) = word h
tokens (p_false h) = word h
tokens (p_var h) = name h.variable.named
tokens (p_bind h x p) = name h.variable.named ⊕ at_sign x ⊕ tokens p
tokens (p_and o w ps c) = paren o ⊕ word w ⊕ tokens ps ⊕ close c
tokens (p_term o h n ps c) = paren o ⊕ name h ⊕ tokens ps ⊕ close c
tokens (e_integer h) = integer h
tokens (e_constant h) = name h.named
tokens (e_true h) = word h
tokens (e_false h) = word h
tokens (e_var h) = name h.named
tokens (e_let o w v ds c e r) = paren o ⊕ word w ⊕ paren v ⊕ tokens ds ⊕ close c ⊕ tokens e ⊕ close r
tokens (e_term o h n ps c) = paren o ⊕ name h ⊕ tokens ps ⊕ close c
tokens (l_def o h u e c) = paren o ⊕ name h ⊕ name u ⊕ tokens e ⊕ close c
