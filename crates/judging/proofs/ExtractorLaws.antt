-- The ways through judging an extractor. Assumes nothing.
use mathlib.Core.Path.{◌≡◌, sym, ap, ◌∙◌}
use mathlib.Core.List.{List}
use Prim.Native.Nat.{ℕ, suc, ◌+◌, ◌-◌, ◌<◌, ◌≤◌}
use native.Mathlib.Omega.{arith}
use native.Mathlib.Numerals.{add-one}
use lib.ListN.{drop}
use Rattle.trees.specs.declared.Rec.{Rec}
use Rattle.trees.specs.Tree.{Trees, count, firsts, trees_of}
use Rattle.trees.specs.Names.{spelled}
use Rattle.records.specs.Slots.{rec_at, recs}
use Rattle.expansion.specs.Expansion.{find, Extractors}
use Rattle.expansion.specs.Flat.{span, child_at, Placed}
use Rattle.expansion.proofs.IndexLaws.{child-last, all-at}
use Rattle.grounds.specs.Stages.{first_from, found, verdict, marks_all}
use Rattle.grounds.specs.Order.{is_some, call_flaw, named_in, named_again, its_calls}
use Rattle.grounds.proofs.StageLaws.{or_else_none}
use Rattle.grounds.proofs.At.{here}
use Rattle.std.specs.Prelude.{Option as Maybe, Some, None, Ok, Err}
use Rattle.records.specs.declared.Ground.TheVariants.{ExtractorName}
use Rattle.judging.specs.declared.Flaw.{Flaw}
use Rattle.judging.specs.declared.table.Entry.{Entry}
use Rattle.judging.specs.Table.{looked}
use Rattle.judging.specs.Judging.{flaw, Judged, Low, children_at, Known, known_all, its_flaw, Scanned, ExtractorAt, site_at, StageJudged, ExtractorJudged}
use Rattle.judging.proofs.GivenLaws.{flawed_first, fine-next, flawed_fine}
use Rattle.judging.proofs.CallLaws.{name-is, name_not, name-nowhere}

module _ (defs : List ℕ) (i c : ℕ) (x : ExtractorAt defs i c) where
  pub kids-there : c ≤ count (trees_of (drop (i + 1) (recs defs)))
  kids-there = rw x.size (all-at (recs defs) Placed x.placed i (rec_at defs i) (drop (i + 1) (recs defs)) (here defs i (omega (arith, x.more)))).whole

  children_are : children_at defs i ≡ firsts c (trees_of (drop (i + 1) (recs defs)))
  children_are = rw x.size

  -- ---- 30

  first-name : (text : List ℕ) (E : Extractors) → named_in text E (children_at defs i) ≡ is_some (find (spelled text (rec_at defs (i + 1)).word1) E)
  unfolding named_in firsts trees_of
  first-name text E =
      let e : c ≡ suc (c - 1) = omega (arith, x.two) in
      ap (named_in text E) (children_are ∙ ap (λ (m : ℕ). firsts m (trees_of (drop (i + 1) (recs defs)))) e) ∙ rw (here defs (i + 1) x.more)

  module _ (text : List ℕ) (t : List Entry) (earlier : ℕ) (name : Rec) (is : name ≡ rec_at defs (i + 1)) (o : Maybe ℕ) (at : o ≡ looked text t name.word1) where
    its-row : looked text t (rec_at defs (i + 1)).word1 ≡ o
    its-row = rw (← is) (sym at)

    pub again_flawed : (y : ℕ) → o ≡ Some y → y < earlier → StageJudged (named_again text) text t earlier defs i (Err (flaw ExtractorName i))
    unfolding first_from Low
    again_flawed y e h =
        record { gives = λ k. rw (first-name text k.first, name-is text t (rec_at defs (i + 1)).word1 earlier 0 k y (its-row ∙ e) h); low = omega (arith, x.more) }

    pub again_fine : (y : ℕ) → o ≡ Some y → earlier ≤ y → (m : Unit {0}) → StageJudged (named_again text) text t earlier defs i (Ok m)
    unfolding first_from Low
    again_fine y e h m = record { gives = λ k. rw (first-name text k.first, name_not text t (rec_at defs (i + 1)).word1 earlier 0 k y (its-row ∙ e) h); low = tt }

    pub again-nowhere : o ≡ None → (m : Unit {0}) → StageJudged (named_again text) text t earlier defs i (Ok m)
    unfolding first_from Low
    again-nowhere e m = record { gives = λ k. rw (first-name text k.first, name-nowhere text t (rec_at defs (i + 1)).word1 earlier 0 k (its-row ∙ e)); low = tt }

  -- ---- its stages in their order

  module _ (text : List ℕ) (t : List Entry) (earlier : ℕ) where
    pub by_again : (f : Flaw) → StageJudged (named_again text) text t earlier defs i (Err f) → ExtractorJudged text t earlier defs i (Err f)
    unfolding verdict Low
    by_again f q = record { gives = λ y. flawed_first f _ _ (q.gives y); low = q.low; ends = λ m d. absurd (flawed_fine f m d) }

    module _ (m : Unit {0}) (r : StageJudged (named_again text) text t earlier defs i (Ok m)) where
      calls_at : (y : Known text t earlier) → first_from (i + 1) (marks_all (call_flaw text (known_all y) y.first) (firsts c (trees_of (drop (i + 1) (recs defs))))) ≡ found (its_calls text (known_all y) (site_at defs i y.first))
      calls_at y = ap (λ (ts : Trees). first_from (i + 1) (marks_all (call_flaw text (known_all y) y.first) ts)) (sym children_are) ∙ rw (add-one i)

      pub by_calls : (j : Judged) → Scanned (its_flaw text t earlier) defs (i + 1) c j → ExtractorJudged text t earlier defs i j
      unfolding verdict child_at
      by_calls j q =
          record {
            gives = λ y. fine-next j _ _ (r.gives y) (q.gives y ∙ calls_at y ∙ sym (or_else_none (found (its_calls text (known_all y) (site_at defs i y.first)))));
            low = q.low;
            ends = λ l e. q.ends l e ∙ ap (λ (d : ℕ). i + 1 + span (drop (i + 1) (recs defs)) d) x.size ∙ child-last (recs defs) i (rec_at defs i) (here defs i (omega (arith, x.more)));
          }
