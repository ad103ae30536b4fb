-- Each number is returned exactly where its ground holds and none before it. Assumes nothing.
use Prim.Native.Nat.{ℕ, zero, suc, ◌+◌, ◌<◌, ◌≤◌}
use native.Mathlib.Decide.{dec_lt}
use native.Mathlib.Omega.{arith}
use mathlib.Core.Path.{◌≡◌, refl, sym, ap, ◌∙◌}
use mathlib.Core.Bool.{Bool, true, false, false≢true}
use mathlib.Core.Option.{Option, none, some}
use mathlib.Core.List.{List, ◌++◌}
use lib.Dec.{eqb}
use lib.ListN.{length}
use Rattle.trees.specs.Choice.{pick}
use Rattle.trees.specs.Tree.{records, records_all}
use Rattle.records.specs.Slots.{recs}
use Rattle.records.specs.Result as result
use Rattle.forms.specs.Kinds.{definition}
use Rattle.forms.specs.Forms.{is_one, is_many}
use Rattle.grounds.specs.declared.Counts.{Counts}
use Rattle.grounds.specs.Stages.{Stage, Refusal, refusal, ◌or_else◌, first_from, Nowhere, here, later, Refused, verdict}
use Rattle.grounds.specs.Order.{order}
use Rattle.grounds.specs.Opening.{counts_of, of_space, after, opening}
use Rattle.grounds.proofs.StageLaws.{NumberAt, Numbered, AllNumbered, numbered_++, same_refusal, refused_exactly, passed_exactly, refused_positive, AllNowhere, all_nowhere, nowhere_++, low_++, refused-low}
use Rattle.grounds.proofs.ShapeLaws.{one_number, single_numbered}
use Rattle.grounds.proofs.Exactly.{order_numbered, space_numbered}
use Rattle.grounds.proofs.Bounds.{order-low, space-low}
use Rattle.grounds.proofs.At.{length-recs}
use Rattle.opening.specs.Answers.{Outputs, number_of, answer_of, space_in, space_of, pattern_sort}
use Rattle.opening.proofs.AnswerLaws.{space-most}
use Rattle.templating.specs.Calls.{sizes, lent}
use Rattle.templating.proofs.CallLaws.{short}
use Rattle.openings.specs.Calls.{stopped, opening_of, number, Left}
use Rattle.openings.specs.Meaning.{definitions, pattern, due, OfKind}
use Rattle.openings.specs.Exactly.{ill_sized_stage, ill_formed_stage, whole_order, Exactly}
use Rattle.openings.proofs.Theorem.{trees-lent}

sized_numbered : (number : ℕ) → Numbered (ill_sized_stage number)
sized_numbered number = record { to = go; back = λ n k f. record { index = 0; place = f.1 ∙ sym (omega arith); number = sym f.0; positive = omega (arith, f.0, f.2) } }
  where
    go : (n k : ℕ) → NumberAt (ill_sized_stage number) n k → (n ≡ number) × (k ≡ 0) × (0 < number)
    go zero k a = absurd (omega (arith, a.positive))
    go (suc m) k a = let q = one_number number a.index m a.number in (sym q.1, omega (arith, a.place, q.0), omega (arith, q.1))

formed_numbered : (kind : Bool) → Numbered (ill_formed_stage kind)
formed_numbered kind = single_numbered 3 0 (kind ≡ true → ⊥) (pick kind false true) (omega arith) (to kind) (back kind)
  where
    to : (b : Bool) → pick b false true ≡ true → b ≡ true → ⊥
    to true e f = false≢true e
    to false e f = false≢true f

    back : (b : Bool) → (b ≡ true → ⊥) → pick b false true ≡ true
    back true f = absurd (f refl)
    back false f = refl

module _ (text defs patt : List ℕ) (b : Outputs) where
  abbrev size : ℕ
  size = sizes (length text) (length defs) (length patt)

  abbrev many : Bool
  many = is_many (length text) definition (recs defs)

  abbrev one : Bool
  one = is_one (length text) pattern_sort (recs patt)

  abbrev room : Counts
  room = space_in b

  abbrev counted : Counts
  counted = counts_of (due text defs patt)

  whole_numbered : AllNumbered (whole_order text defs patt b)
  unfolding whole_order AllNumbered
  whole_numbered = (
    sized_numbered size,
    (
      formed_numbered many,
      (
        formed_numbered one,
        numbered_++ (order text (definitions text defs patt) (pattern text defs patt)) (of_space room counted)
            (order_numbered text (definitions text defs patt) (pattern text defs patt)) (space_numbered room counted),
      ),
    ),
  )

  -- ---- the answer is the verdict on the whole order

  outcome-is : opening_of text defs patt b ≡ after (verdict (whole_order text defs patt b)) (due text defs patt)
  unfolding opening_of opening lent whole_order verdict first_from
  outcome-is = go (eqb size 0) many one
    where
      rest : Option Refusal
      rest = verdict (order text (definitions text defs patt) (pattern text defs patt) ++ of_space room counted)

      go : (x y z : Bool)
          → pick x (pick y (pick z (after (verdict (order text (definitions text defs patt) (pattern text defs patt) ++ of_space room counted)) (due text defs patt)) (stopped 3)) (stopped 3)) (stopped size)
          ≡ after (pick x none (some (refusal size 0))
          or_else pick (eqb (pick (pick y false true) 3 0) 0) none (some (refusal (pick (pick y false true) 3 0) 0))
          or_else pick (eqb (pick (pick z false true) 3 0) 0) none (some (refusal (pick (pick z false true) 3 0) 0))
          or_else verdict (order text (definitions text defs patt) (pattern text defs patt) ++ of_space room counted)) (due text defs patt)
      go false y z = refl
      go true false z = refl
      go true true false = refl
      go true true true = refl

  -- ---- places are within 32 bits

  low : (n k : ℕ) → Refused (whole_order text defs patt b) n k → k < 4294967296
  unfolding whole_order Refused
  low n k (here f x) = omega (arith, f.1)
  low n k (later v (here f x)) = omega (arith, f.1)
  low n k (later v (later w (here f x))) = omega (arith, f.1)
  low n k (later v (later w (later u r))) =
      let m = short (length text) (length defs) (length patt) (sym kind.sized) in
      let t = trees-lent text defs patt room kind in
      let all : length (records_all (definitions text defs patt)) + length (records (pattern text defs patt)) ≤ 4294967296 =
      omega (arith, ap length t.all, ap length t.one, length-recs defs, length-recs patt, m.0, m.1) in
      refused-low 4294967296 (order text (definitions text defs patt) (pattern text defs patt) ++ of_space room counted)
      (low_++ 4294967296 (order text (definitions text defs patt) (pattern text defs patt)) (of_space room counted) (order-low text 4294967296 (definitions text defs patt) (pattern text defs patt) all) (space-low 4294967296 (omega arith) room counted))
      n k r
    where
      none-there : (s : ℕ) → (0 < s → ⊥) → s ≡ 0
      none-there zero f = refl
      none-there (suc s) f = absurd (f (omega arith))

      holds : (x : Bool) → ((x ≡ true → ⊥) → ⊥) → x ≡ true
      holds true f = refl
      holds false f = absurd (f (λ e. false≢true e))

      kind : OfKind text defs patt
      kind = record {
        sized = none-there size (λ l. v size 0 (refl, refl, l));
        many = holds many (λ f. w 3 0 (refl, refl, f));
        one = holds one (λ f. u 3 0 (refl, refl, f));
      }

  -- what is accepted fits, and so has few records
  few : verdict (whole_order text defs patt b) ≡ none → counted.output ≤ 65536
  unfolding whole_order AllNowhere of_space space_in
  few e =
      let a = all_nowhere (whole_order text defs patt b) whole_numbered e in
      let s = (nowhere_++ (order text (definitions text defs patt) (pattern text defs patt)) (of_space room counted) a.1.1.1).1 in
      go (dec_lt room.output counted.output) (λ l. s.1.0 6 1 (refl, refl, l))
    where
      go : Dec (space_of b.output < counted.output) → (space_of b.output < counted.output → ⊥) → counted.output ≤ 65536
      go (yes l) f = absurd (f l)
      go (no l) f = omega (arith, space-most b.output (space_of b.output) refl)

-- ---- numbers

same_number : (n k m j : ℕ) → k < 4294967296 → j < 4294967296 → result.refused n k ≡ result.refused m j → (n ≡ m) × (k ≡ j)
unfolding result.refused
same_number n k m j h l e = (omega arith, omega arith)

refused-high : (n k : ℕ) → k < 4294967296 → result.refusal_of (result.refused n k) ≡ n
unfolding result.refused
refused-high n k h = omega arith

accepted-low : (c : ℕ) → c ≤ 65536 → result.refusal_of (result.accepted c) ≡ 0
unfolding result.accepted
accepted-low c h = omega arith

-- ---- THE THEOREM

module _ (text defs patt : List ℕ) (b : Outputs) where
  abbrev W : List Stage
  W = whole_order text defs patt b

  numbered : AllNumbered W
  numbered = whole_numbered text defs patt b

  abbrev count : ℕ
  count = (counts_of (due text defs patt)).output

  by_verdict : (v : Option Refusal) (r : ℕ) → verdict W ≡ v → r ≡ number (after v (due text defs patt)) → Exactly text defs patt b r
  unfolding number number_of answer_of
  by_verdict (some q) r e h =
      let R : Refused W q.number q.place = (refused_exactly W numbered q.number q.place).0 e in
      let l : q.place < 4294967296 = low text defs patt b q.number q.place R in
      let p : 0 < q.number = refused_positive W numbered q.number q.place R in
      record {
        refused = λ n k m j. (
          (λ c. let s = same_number q.number q.place n k l j (sym h ∙ c) in rw (← s.0, ← s.1) R),
          (λ c. let s = same_refusal q.number n q.place k (sym e ∙ (refused_exactly W numbered n k).1 c) in h ∙ rw (s.0, s.1)),
        );
        accepted = ((λ c. absurd (omega (arith, refused-high q.number q.place l, ap result.refusal_of h))), (λ w. absurd (w q.number q.place R)));
        counted = λ w. absurd (w q.number q.place R);
      }
  by_verdict none r e h =
      let w : Nowhere (Refused W) = (passed_exactly W numbered).0 e in
      let f : count ≤ 65536 = few text defs patt b e in
      let z : result.refusal_of r ≡ 0 = ap result.refusal_of h ∙ accepted-low count f in
      record {
        refused = λ n k m j. ((λ c. absurd (omega (arith, refused-high n k j, ap result.refusal_of c))), (λ c. absurd (w n k c)));
        accepted = ((λ c. w), (λ c. omega (arith, z, h)));
        counted = λ c. h;
      }

  pub exactly : (b' : Outputs) (r : ℕ) → Left (opening_of text defs patt b) b b' r → Exactly text defs patt b r
  exactly b' r e = by_verdict (verdict W) r refl (e.returns ∙ ap number (outcome-is text defs patt b))
