-- One law for each way through a call. Assumes nothing.
use Prim.Native.Nat.{ℕ, ◌/◌, ◌%◌, ◌<◌, ◌≤◌}
use native.Mathlib.Omega.{arith}
use mathlib.Core.Path.{◌≡◌, refl, sym, ◌∙◌}
use mathlib.Core.List.{List, [], ◌∷◌}
use mathlib.Core.Bool.{Bool, true, false}
use lib.ListN.{length, replicate}
use lib.Dec.{ltb, eqb}
use borrow.Author.Tests.{eqb-true, eqb-false, lt-ltb, le-ltb, eq-eqb, ne_eqb, ltb-false, ltb-true}
use Rattle.trees.specs.declared.Rec.{Rec}
use Rattle.records.specs.Slots.{slots, recs}
use Rattle.records.specs.Result.{refused}
use Rattle.forms.specs.Kinds.{name, pattern}
use Rattle.forms.specs.Forms.{is_one, is_many}
use Rattle.grounds.proofs.Places.{fits-placed, fits-args, fits-names}
use Rattle.trees.specs.Choice.{pick}
use Rattle.records.specs.declared.Ground.{Ground}
use Rattle.records.specs.declared.Ground.TheVariants.{PartOfARecord, BadToken, MalformedList, MacroArg, MacroArgIndex, NoSpace, TooMuch, TooDeep, UnexpectedToken, UnexpectedEnd, UnknownDefinition, EmptyIdentifier, FirstCharacter, LaterCharacter, NotAConstant, UnknownPragma, TypeModifier, TypeDefinition, Attribute, VerificationAttribute, Extern, RuleName, Priority, Pattern, Expression, UncoveredWord, ExtractorName, ArgumentCount, CallOrder, TooManyExtractors, NotAToken, NotAscii}
use Rattle.records.specs.Grounds as grounds
use Rattle.templates.specs.Answers.{Answer, MakeReady, SubstituteReady, Finished, Answered}
use Rattle.templates.proofs.AnswerLaws.{finished_output, finished_number}
use Rattle.templating.specs.Calls.{Call, stopped, comes, number, bytes, Ended, sizes, lent, fault}

pub stops : (code r : ℕ) (l l' : List ℕ) → l' ≡ replicate (length l) 0 → r ≡ refused code 0 → Ended (stopped code) (length l) l' r
unfolding number bytes
stops code r l l' a b = record { returns = b; output = a }

-- ---- sizes

module _ (text first second : ℕ) where
  pub long-text : 65536 < text → 7 ≡ sizes text first second
  unfolding sizes
  long-text h = rw (lt-ltb 65536 text h)

  pub long-first : text ≤ 65536 → 65536 < first / 24 → 7 ≡ sizes text first second
  unfolding sizes
  long-first a h = rw (le-ltb 65536 text a, lt-ltb 65536 (first / 24) h)

  pub long-second : text ≤ 65536 → first / 24 ≤ 65536 → 65536 < second / 24 → 7 ≡ sizes text first second
  unfolding sizes
  long-second a b h = rw (le-ltb 65536 text a, le-ltb 65536 (first / 24) b, lt-ltb 65536 (second / 24) h)

  pub first-cut : text ≤ 65536 → first / 24 ≤ 65536 → second / 24 ≤ 65536 → (first % 24 ≡ 0 → ⊥) → 1 ≡ sizes text first second
  unfolding sizes
  first-cut a b c h = rw (le-ltb 65536 text a, le-ltb 65536 (first / 24) b, le-ltb 65536 (second / 24) c, ne_eqb (first % 24) 0 h)

  pub second-cut : text ≤ 65536 → first / 24 ≤ 65536 → second / 24 ≤ 65536 → first % 24 ≡ 0 → (second % 24 ≡ 0 → ⊥) → 1 ≡ sizes text first second
  unfolding sizes
  second-cut a b c d h = rw (le-ltb 65536 text a, le-ltb 65536 (first / 24) b, le-ltb 65536 (second / 24) c, eq-eqb (first % 24) 0 d, ne_eqb (second % 24) 0 h)

  pub whole : text ≤ 65536 → first / 24 ≤ 65536 → second / 24 ≤ 65536 → first % 24 ≡ 0 → second % 24 ≡ 0 → 0 ≡ sizes text first second
  unfolding sizes
  whole a b c d h = rw (le-ltb 65536 text a, le-ltb 65536 (first / 24) b, le-ltb 65536 (second / 24) c, eq-eqb (first % 24) 0 d, eq-eqb (second % 24) 0 h)

  -- where nothing is wrong with the sizes, both lists are short
  pub short : 0 ≡ sizes text first second → (first / 24 ≤ 65536) × (second / 24 ≤ 65536)
  short e = by (ltb 65536 text) (ltb 65536 (first / 24)) (ltb 65536 (second / 24)) refl refl refl
    where
      by : (a b c : Bool) → ltb 65536 text ≡ a → ltb 65536 (first / 24) ≡ b → ltb 65536 (second / 24) ≡ c → (first / 24 ≤ 65536) × (second / 24 ≤ 65536)
      by true b c p q r = absurd (omega (arith, e, long-text (ltb-true 65536 text p)))
      by false true c p q r = absurd (omega (arith, e, long-first (ltb-false 65536 text p) (ltb-true 65536 (first / 24) q)))
      by false false true p q r = absurd (omega (arith, e, long-second (ltb-false 65536 text p) (ltb-false 65536 (first / 24) q) (ltb-true 65536 (second / 24) r)))
      by false false false p q r = (ltb-false 65536 (first / 24) q, ltb-false 65536 (second / 24) r)

-- ---- the checks

pub positive : (g : Ground) → grounds.number g ≡ 0 → ⊥
positive PartOfARecord e = omega arith
positive BadToken e = omega arith
positive MalformedList e = omega arith
positive MacroArg e = omega arith
positive MacroArgIndex e = omega arith
positive NoSpace e = omega arith
positive TooMuch e = omega arith
positive TooDeep e = omega arith
positive UnexpectedToken e = omega arith
positive UnexpectedEnd e = omega arith
positive UnknownDefinition e = omega arith
positive EmptyIdentifier e = omega arith
positive FirstCharacter e = omega arith
positive LaterCharacter e = omega arith
positive NotAConstant e = omega arith
positive UnknownPragma e = omega arith
positive TypeModifier e = omega arith
positive TypeDefinition e = omega arith
positive Attribute e = omega arith
positive VerificationAttribute e = omega arith
positive Extern e = omega arith
positive RuleName e = omega arith
positive Priority e = omega arith
positive Pattern e = omega arith
positive Expression e = omega arith
positive UncoveredWord e = omega arith
positive ExtractorName e = omega arith
positive ArgumentCount e = omega arith
positive CallOrder e = omega arith
positive TooManyExtractors e = omega arith
positive NotAToken e = omega arith
positive NotAscii e = omega arith

module _ {A : Type 0} (stop : ℕ → A) (n k : ℕ) (c : A) (e : n ≡ k) where
  pub lent-size : (a b : Bool) → (n ≡ 0 → ⊥) → lent stop k a b c ≡ stop n
  unfolding lent
  lent-size a b h = rw (← e, ne_eqb n 0 h)

  pub lent-first : (a b x : Bool) → n ≡ 0 → x ≡ a → x ≡ false → lent stop k a b c ≡ stop 3
  unfolding lent
  lent-first a b x h f g = rw (← e, eq-eqb n 0 h, ← f, g)

  pub lent-second : (a b x z : Bool) → n ≡ 0 → x ≡ a → x ≡ true → z ≡ b → z ≡ false → lent stop k a b c ≡ stop 3
  unfolding lent
  lent-second a b x z h f g i j = rw (← e, eq-eqb n 0 h, ← f, g, ← i, j)

  pub lent_right : (a b x z : Bool) → n ≡ 0 → x ≡ a → x ≡ true → z ≡ b → z ≡ true → lent stop k a b c ≡ c
  unfolding lent
  lent_right a b x z h f g i j = rw (← e, eq-eqb n 0 h, ← f, g, ← i, j)

-- the refusal of two lists, by the sizes' number n and whether they are of their kind
module _ (n k : ℕ) (e : n ≡ k) where
  pub fault-size : (a b : Bool) → (n ≡ 0 → ⊥) → n ≡ fault k a b
  unfolding fault
  fault-size a b h = sym (lent-size (λ i. i) n k 0 e a b h)

  pub fault-first : (a b x : Bool) → n ≡ 0 → x ≡ a → x ≡ false → 3 ≡ fault k a b
  unfolding fault
  fault-first a b x h f g = sym (lent-first (λ i. i) n k 0 e a b x h f g)

  pub fault-second : (a b x z : Bool) → n ≡ 0 → x ≡ a → x ≡ true → z ≡ b → z ≡ false → 3 ≡ fault k a b
  unfolding fault
  fault-second a b x z h f g i j = sym (lent-second (λ i. i) n k 0 e a b x z h f g i j)

  pub faultless : (a b x z : Bool) → n ≡ 0 → x ≡ a → x ≡ true → z ≡ b → z ≡ true → 0 ≡ fault k a b
  unfolding fault
  faultless a b x z h f g i j = sym (lent_right (λ i. i) n k 0 e a b x z h f g i j)

-- the two lists in the other order have the same number
sizes-by : (a b c d e : Bool) → ◌≡◌ {A = ℕ} (pick a 7 (pick b 7 (pick c 7 (pick d (pick e 0 1) 1)))) (pick a 7 (pick c 7 (pick b 7 (pick e (pick d 0 1) 1))))
sizes-by true b c d e = refl
sizes-by false true true d e = refl
sizes-by false true false d e = refl
sizes-by false false true d e = refl
sizes-by false false false true true = refl
sizes-by false false false true false = refl
sizes-by false false false false true = refl
sizes-by false false false false false = refl

lent-by : (n : ℕ) (s a b : Bool) → pick s (pick a (pick b 0 3) 3) n ≡ pick s (pick b (pick a 0 3) 3) n
lent-by n false a b = refl
lent-by n true true true = refl
lent-by n true true false = refl
lent-by n true false true = refl
lent-by n true false false = refl

pub sizes-turned : (text first second : ℕ) → sizes text first second ≡ sizes text second first
unfolding sizes
sizes-turned text first second = sizes-by (ltb 65536 text) (ltb 65536 (first / 24)) (ltb 65536 (second / 24)) (eqb (first % 24) 0) (eqb (second % 24) 0)

pub fault-turned : (text first second : ℕ) (a b : Bool) → fault (sizes text first second) a b ≡ fault (sizes text second first) b a
unfolding fault lent
fault-turned text first second a b = rw (sizes-turned text first second) (lent-by (sizes text second first) (eqb (sizes text second first) 0) a b)

-- two lists with no refusal
record Right (n : ℕ) (a b : Bool) : Type 0 where
  sized : n ≡ 0
  first : a ≡ true
  second : b ≡ true

right : (n : ℕ) (a b : Bool) → 0 ≡ fault n a b → Right n a b
right n a b e = go (eqb n 0) refl a b e
  where
    go : (t : Bool) → eqb n 0 ≡ t → (a b : Bool) → 0 ≡ fault n a b → Right n a b
    go true p true true e = record { sized = eqb-true n 0 p; first = refl; second = refl }
    go true p true false e = absurd (omega (arith, e, fault-second n n refl true false true false (eqb-true n 0 p) refl refl refl refl))
    go true p false b e = absurd (omega (arith, e, fault-first n n refl false b false (eqb-true n 0 p) refl refl))
    go false p a b e = absurd (eqb-false n 0 p (sym (e ∙ sym (fault-size n n refl a b (eqb-false n 0 p)))))

module _ (n r : ℕ) (a b : Bool) (e : r ≡ fault n a b) (c : Call) (l' : List ℕ) (size x : ℕ) where
  pub refused_call : (r ≡ 0 → ⊥) → Ended (stopped r) size l' x → Ended (lent stopped n a b c) size l' x
  unfolding lent fault
  refused_call h y = go (eqb n 0) refl a b e
    where
      go : (t : Bool) → eqb n 0 ≡ t → (a b : Bool) → r ≡ fault n a b → Ended (lent stopped n a b c) size l' x
      go true p true true e = absurd (h (rw p at e))
      go true p true false e = rw p (rw (rw p at e) at y)
      go true p false b e = rw p (rw (rw p at e) at y)
      go false p a b e = rw p (rw (rw p at e) at y)

  pub right_call : r ≡ 0 → Ended c size l' x → Ended (lent stopped n a b c) size l' x
  right_call h y =
      let w = right n a b (sym h ∙ e) in
      rw (lent_right stopped n n c refl a b a b w.sized refl w.first refl w.second) y

pub short-first : (text second n : ℕ) (l : List ℕ) → n ≡ sizes text (length l) second → n ≡ 0 → slots l ≤ 65536
short-first text second n l s z = (short text (length l) second (sym z ∙ s)).0

pub short-second : (text first n : ℕ) (l : List ℕ) → n ≡ sizes text first (length l) → n ≡ 0 → slots l ≤ 65536
short-second text first n l s z = (short text first (length l) (sym z ∙ s)).1

-- ---- the work

pub finished : (wanted : Answer) (complete : List Rec) (a b c : List ℕ) (r : Answer) (x : ℕ) → Answered wanted complete a b r → Finished r b c x → length b ≡ length a → Ended (comes wanted complete) (length a) c x
unfolding number bytes
finished wanted complete a b c r x p q e = record { returns = finished_number wanted complete a b c r x p q; output = finished_output wanted complete a b c r x p q e }

module _ (text : ℕ) (l m : List ℕ) where
  pub ready_to_make : 0 ≡ fault (sizes text (length l) (length m)) (is_one text pattern (recs l)) (is_many text name (recs m)) → MakeReady l m
  ready_to_make e =
      let w = right _ _ _ e in
      record { few = (short text (length l) (length m) (sym w.sized)).0; placed = fits-placed (recs l) text 0 (pattern ∷ []) w.first; idents = record { leaves = fits-names (recs m) text w.second } }

  pub ready_to_substitute : 0 ≡ fault (sizes text (length l) (length m)) (is_one text pattern (recs l)) (is_many text pattern (recs m)) → SubstituteReady l m
  ready_to_substitute e =
      let w = right _ _ _ e in
      let s = short text (length l) (length m) (sym w.sized) in
      record { few = s.0; few_patterns = s.1; placed = fits-placed (recs l) text 0 (pattern ∷ []) w.first; args = fits-args (recs l) text 0 (pattern ∷ []) w.first; patterns_placed = fits-placed (recs m) text pattern [] w.second }
