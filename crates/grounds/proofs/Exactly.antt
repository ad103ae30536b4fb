-- Opening is refused before space with n at k exactly if the order of stages refuses with n at k. Assumes nothing.
use mathlib.Core.Path.{◌≡◌, refl}
use mathlib.Core.Logic.{◌↔◌}
use mathlib.Core.Bool.{Bool, true, false}
use mathlib.Core.Option.{Option, none, some}
use mathlib.Core.List.{List, [], ◌++◌}
use Prim.Native.Nat.{ℕ, suc, ◌+◌, ◌<◌, ◌≤◌}
use native.Mathlib.Omega.{arith}
use lib.Dec.{eqb, ltb}
use lib.ListN.{length, get_or}
use borrow.Author.Tests.{eqb-false, ne_eqb, lt-ltb, ltb-true}
use Rattle.trees.specs.Choice.{pick}
use Rattle.trees.specs.declared.Head.{Head}
use Rattle.trees.specs.Tree.{Tree, Trees, ∅, ◌▸◌, count, records_all}
use Rattle.forms.specs.Lists.{kinds_all, macro_arg}
use Rattle.forms.specs.Depth.{depths_all, too_deep}
use Rattle.expansion.specs.Nodes.{rest, name_of}
use Rattle.expansion.specs.Expansion.{find, Extractor, Extractors, extractors, called}
use Rattle.grounds.specs.declared.Counts.{Counts}
use Rattle.grounds.specs.Facts.{CallFlaw, wrong-count, not_earlier, NamedIn}
use Rattle.grounds.specs.Stages.{refusal, Nowhere, Refused, single}
use Rattle.grounds.specs.Order.{by_call, call_flaw, calls, Site, is_some, named_in, named_again, its_calls, stages_of, extractor_places, most_extractors, sites, of_definitions, of_both, of_pattern, order, grounds}
use Rattle.grounds.specs.Opening.{of_space}
use Rattle.grounds.proofs.StageLaws.{Numbered, AllNumbered, refused_exactly, passed_exactly, numbered_++, numbered_turn, AllNowhere, AllLow}
use Rattle.grounds.proofs.ShapeLaws.{node-inside, single_numbered, listed_numbered, within_numbered}

-- ---- calls

module _ (text : List ℕ) (D E : Extractors) where
  call_to : (h : Head) (us : Trees) (n : ℕ) → call_flaw text D E h us ≡ suc n → CallFlaw text D E h us (suc n)
  unfolding call_flaw
  call_to h us n e = go (called text E h us) refl (called text D h us) refl e
    where
      wrong : (x : Extractor) (b : Bool) → called text E h us ≡ some x → eqb (count (rest us)) (count x.params) ≡ b → pick {A = ℕ} b 0 31 ≡ suc n → CallFlaw text D E h us (suc n)
      wrong x true p q e = absurd (omega arith)
      wrong x false p q e = rw (← e) (wrong-count x p (eqb-false (count (rest us)) (count x.params) q))

      go : (a : Option Extractor) → called text E h us ≡ a → (b : Option Extractor) → called text D h us ≡ b → by_call a b (count (rest us)) ≡ suc n → CallFlaw text D E h us (suc n)
      go (some x) p b q e = wrong x (eqb (count (rest us)) (count x.params)) p refl e
      go none p (some x) q e = rw (← e) (not_earlier x p q)
      go none p none q e = absurd (omega arith)

  call_back : (h : Head) (us : Trees) (n : ℕ) → CallFlaw text D E h us n → (call_flaw text D E h us ≡ n) × (0 < n)
  unfolding call_flaw
  call_back h us n (wrong-count x p q) = (rw (p, ne_eqb (count (rest us)) (count x.params) q), omega arith)
  call_back h us n (not_earlier x p q) = (rw (p, q), omega arith)

  pub calls-low : (ts : Trees) (i m : ℕ) → i + length (records_all ts) ≤ m → (n k : ℕ) → (calls text D E ts i).fact n k → k < m
  calls-low ts i m h n k f = omega (arith, f.place, node-inside ts f.index f.head f.children f.node_at)

  pub calls_numbered : (ts : Trees) (i : ℕ) → Numbered (calls text D E ts i)
  calls_numbered ts i = within_numbered (call_flaw text D E) (CallFlaw text D E) call_to call_back ts i

-- ---- the stages of an extractor

named_to : (text : List ℕ) (E : Extractors) (ts : Trees) → named_in text E ts ≡ true → NamedIn text E ts
unfolding named_in
named_to text E ∅ e = absurd (let z : ◌≡◌ {A = ℕ} 0 1 = cc in omega arith)
named_to text E (t ▸ ts) e = go (find (name_of text t) E) refl e
  where
    go : (o : Option Extractor) → find (name_of text t) E ≡ o → is_some o ≡ true → (x : Extractor) × (find (name_of text t) E ≡ some x)
    go (some x) q e = (x, q)
    go none q e = absurd (let z : ◌≡◌ {A = ℕ} 0 1 = cc in omega arith)

named_back : (text : List ℕ) (E : Extractors) (ts : Trees) → NamedIn text E ts → named_in text E ts ≡ true
unfolding named_in
named_back text E ∅ w = absurd w
named_back text E (t ▸ ts) w = rw w.1

module _ (text : List ℕ) (D : Extractors) (x : Site) where
  again_numbered : Numbered (named_again text D x)
  again_numbered =
      single_numbered 30 x.place (NamedIn text x.earlier x.children) (named_in text x.earlier x.children) (omega arith)
      (named_to text x.earlier x.children) (named_back text x.earlier x.children)

  -- what each of them owes: numbers that are those of its fact, and places among the extractor's records
  pub stages_numbered : AllNumbered (stages_of text D x)
  unfolding AllNumbered
  stages_numbered = (again_numbered, (calls_numbered text D x.earlier x.children (suc x.place), tt))

  pub stages_low : (m : ℕ) → suc x.place + length (records_all x.children) ≤ m → AllLow m (stages_of text D x)
  unfolding AllLow
  stages_low m h = (λ n k f. omega (arith, f.1), (calls-low text D x.earlier x.children (suc x.place) m h, tt))

  -- what each of them leaves where it is passed
  module _ (passed : AllNowhere (stages_of text D x)) where
    pub again_passed : Nowhere (named_again text D x).fact
    unfolding AllNowhere
    again_passed = passed.0

    pub its_calls_passed : Nowhere (its_calls text D x).fact
    unfolding AllNowhere
    its_calls_passed = passed.1.0

-- ---- the order, and space

-- a number at a place, if there is room for fewer than n
over_numbered : (number place room n : ℕ) → 0 < number → Numbered (single number place (room < n) (ltb room n))
over_numbered number place room n p = single_numbered number place (room < n) (ltb room n) p (ltb-true room n) (lt-ltb room n)

module _ (text : List ℕ) (ds : Trees) where
  definitions_numbered : AllNumbered (of_definitions text ds)
  unfolding of_definitions AllNumbered
  definitions_numbered = (
    over_numbered 33 (get_or (extractor_places 0 ds) most_extractors 0) most_extractors (length (extractor_places 0 ds)) (omega arith),
    numbered_turn (stages_of text (extractors text ds)) (sites text 0 [] ds) (stages_numbered text (extractors text ds)),
  )

  module _ (p : Tree) where
    both_numbered : AllNumbered (of_both ds p)
    unfolding of_both AllNumbered
    both_numbered = (
      listed_numbered 4 macro_arg (kinds_all ds) 0 (omega arith),
      (
        listed_numbered 4 macro_arg (kinds_all (p ▸ ∅)) (length (records_all ds)) (omega arith),
        (
          listed_numbered 8 too_deep (depths_all 0 ds) 0 (omega arith),
          (listed_numbered 8 too_deep (depths_all 0 (p ▸ ∅)) (length (records_all ds)) (omega arith), tt),
        ),
      ),
    )

    pattern_numbered : AllNumbered (of_pattern text ds p)
    unfolding of_pattern AllNumbered
    pattern_numbered = (calls_numbered text (extractors text ds) (extractors text ds) (p ▸ ∅) (length (records_all ds)), tt)

    pub order_numbered : AllNumbered (order text ds p)
    unfolding order
    order_numbered =
        numbered_++ (of_both ds p) (of_definitions text ds ++ of_pattern text ds p) both_numbered
        (numbered_++ (of_definitions text ds) (of_pattern text ds p) definitions_numbered pattern_numbered)

pub space_numbered : (room n : Counts) → AllNumbered (of_space room n)
unfolding of_space AllNumbered
space_numbered room n = (over_numbered 6 0 room.store n.store (omega arith), (over_numbered 6 1 room.output n.output (omega arith), tt))

-- ---- THE THEOREM: n at k, exactly; or no refusal, exactly

module _ (text : List ℕ) (ds : Trees) (p : Tree) where
  pub exactly : (n k : ℕ) → grounds text ds p ≡ some (refusal n k) ↔ Refused (order text ds p) n k
  exactly = refused_exactly (order text ds p) (order_numbered text ds p)

  pub passes : grounds text ds p ≡ none ↔ Nowhere (Refused (order text ds p))
  passes = passed_exactly (order text ds p) (order_numbered text ds p)
