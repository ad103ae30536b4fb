-- Every refusal has a place below a bound, so that the number which is returned tells refusals apart. Assumes nothing.
use mathlib.Core.Path.{◌≡◌, ap}
use mathlib.Core.Bool.{Bool, true, false}
use mathlib.Core.List.{List, [], ◌∷◌, ◌++◌}
use Prim.Native.Nat.{ℕ, zero, suc, ◌+◌, ◌<◌, ◌≤◌}
use native.Mathlib.Omega.{arith}
use lib.ListN.{length, get_or, length-append}
use Rattle.trees.specs.Choice.{pick}
use Rattle.trees.specs.Tree.{Tree, Trees, node, ∅, ◌▸◌, records, records_all}
use Rattle.trees.proofs.Laws.{size-node, records_all-one}
use Rattle.forms.proofs.FirstLaws.{length-kinds_all, length-depths_all}
use Rattle.expansion.specs.Nodes.{is_extractor}
use Rattle.expansion.specs.Expansion.{Extractors, extractor, extractors}
use Rattle.grounds.specs.declared.Counts.{Counts}
use Rattle.grounds.specs.Stages.{in_turn}
use Rattle.grounds.specs.Order.{macro_args, too_deeps, stages_of, extractor_places, most_extractors, sites, of_definitions, of_both, of_pattern, order}
use Rattle.grounds.specs.Opening.{of_space}
use Rattle.grounds.proofs.StageLaws.{AllLow, low_++}
use Rattle.grounds.proofs.Exactly.{calls-low, stages_low}

-- ---- the stages of opening, where m records are lent

size-more : (t : Tree) (ts : Trees) → length (records_all (t ▸ ts)) ≡ length (records t) + length (records_all ts)
unfolding records_all
size-more t ts = length-append (records t) (records_all ts)

module _ (text : List ℕ) (m : ℕ) where
  args_low : (ts : Trees) (i : ℕ) → i + length (records_all ts) ≤ m → (n k : ℕ) → (macro_args ts i).fact n k → k < m
  args_low ts i h n k f = omega (arith, f.place, f.inside, length-kinds_all ts)

  deep-low : (ts : Trees) (i : ℕ) → i + length (records_all ts) ≤ m → (n k : ℕ) → (too_deeps ts i).fact n k → k < m
  deep-low ts i h n k f = omega (arith, f.place, f.inside, length-depths_all ts 0)

  turns-low : (D : Extractors) (list : Trees) (i : ℕ) (E : Extractors) → i + length (records_all list) ≤ m → AllLow m (in_turn (stages_of text D) (sites text i E list))
  unfolding AllLow sites in_turn
  turns-low D ∅ i E h = tt
  turns-low D (node h ts ▸ list) i E l = go (is_extractor h.kind) (λ E'. turns-low D list (i + length (records (node h ts))) E' (omega (arith, size-more (node h ts) list)))
    where
      go : (b : Bool) → ((E' : Extractors) → AllLow m (in_turn (stages_of text D) (sites text (i + length (records (node h ts))) E' list)))
          → AllLow m (in_turn (stages_of text D) (pick b (record { place = i; children = ts; earlier = E } ∷ []) [] ++ sites text (i + length (records (node h ts))) (E ++ pick b (extractor text ts) []) list))
      go false on = on (E ++ [])
      go true on =
          low_++ m (stages_of text D (record { place = i; children = ts; earlier = E })) (in_turn (stages_of text D) (sites text (i + length (records (node h ts))) (E ++ extractor text ts) list))
          (stages_low text D (record { place = i; children = ts; earlier = E }) m (omega (arith, size-more (node h ts) list, size-node h ts))) (on (E ++ extractor text ts))

  place-low : (ds : Trees) (i k : ℕ) → i + length (records_all ds) ≤ m → k < length (extractor_places i ds) → get_or (extractor_places i ds) k 0 < m
  unfolding extractor_places
  place-low ∅ i k l h = absurd (omega arith)
  place-low (node g ts ▸ list) i k l h = go (is_extractor g.kind) k h (λ j. place-low list (i + length (records (node g ts))) j (omega (arith, size-more (node g ts) list)))
    where
      go : (b : Bool) (k : ℕ) → k < length (pick b (i ∷ []) [] ++ extractor_places (i + length (records (node g ts))) list)
          → ((j : ℕ) → j < length (extractor_places (i + length (records (node g ts))) list) → get_or (extractor_places (i + length (records (node g ts))) list) j 0 < m)
          → get_or (pick b (i ∷ []) [] ++ extractor_places (i + length (records (node g ts))) list) k 0 < m
      go false k h on = on k h
      go true zero h on = omega (arith, size-more (node g ts) list, size-node g ts)
      go true (suc k) h on = on k (omega arith)

  pub order-low : (ds : Trees) (p : Tree) → length (records_all ds) + length (records p) ≤ m → AllLow m (order text ds p)
  unfolding order of_both of_definitions of_pattern AllLow
  order-low ds p h =
      let one : length (records_all (p ▸ ∅)) ≡ length (records p) = ap length (records_all-one p) in
      let all : length (records_all ds) + length (records_all (p ▸ ∅)) ≤ m = omega arith in
      let its : 0 + length (records_all ds) ≤ m = omega arith in
      let D : Extractors = extractors text ds in (
        args_low ds 0 its,
        (
          args_low (p ▸ ∅) (length (records_all ds)) all,
          (
            deep-low ds 0 its,
            (
              deep-low (p ▸ ∅) (length (records_all ds)) all,
              low_++ m (of_definitions text ds) (of_pattern text ds p)
                  (λ n k f. rw f.1 (place-low ds 0 most_extractors its f.2), turns-low D ds 0 [] its)
                  (calls-low text D D (p ▸ ∅) (length (records_all ds)) m all, tt),
            ),
          ),
        ),
      )

pub space-low : (m : ℕ) → 2 ≤ m → (room n : Counts) → AllLow m (of_space room n)
unfolding of_space AllLow
space-low m h room c = (λ n k f. omega (arith, f.1), (λ n k f. omega (arith, f.1), tt))
