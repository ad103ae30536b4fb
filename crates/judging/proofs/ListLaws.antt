-- The ways through judging the extractors of a list. Assumes nothing.
use mathlib.Core.Path.{◌≡◌, refl, sym, ap, ◌∙◌}
use mathlib.Core.Bool.{Bool, true, false}
use mathlib.Core.Option.{Option}
use mathlib.Core.List.{List, [], ◌∷◌, ◌++◌, append_assoc, append-nil}
use Prim.Native.Nat.{ℕ, ◌+◌, ◌-◌, ◌<◌, ◌≤◌}
use native.Mathlib.Omega.{arith}
use lib.ListN.{length, drop, length-append}
use mir.Syntax.{w64}
use mir.Val.{Fits}
use borrow.Author.Tests.{eq-eqb, ne_eqb}
use Rattle.trees.specs.Choice.{pick}
use Rattle.trees.specs.declared.Rec.{Rec}
use Rattle.trees.specs.Tree.{Trees, ∅, ◌▸◌, count, firsts, trees_of}
use Rattle.records.specs.Slots.{slots, rec_at, recs}
use Rattle.forms.specs.Lists.{left, skip}
use Rattle.expansion.specs.Nodes.{is_extractor}
use Rattle.expansion.specs.Expansion.{Extractors, extractor, extractors}
use Rattle.expansion.specs.Flat.{end_of, Placed, All}
use Rattle.expansion.proofs.SpanLaws.{count-firsts}
use Rattle.expansion.proofs.IndexLaws.{all-at}
use Rattle.grounds.specs.Stages.{Refusal, ◌or_else◌, verdict, in_turn}
use Rattle.grounds.specs.Order.{Site, stages_of, sites}
use Rattle.grounds.proofs.StageLaws.{verdict_++}
use Rattle.grounds.proofs.At.{here, past, length-recs, skip-end, kids_at, trees-at, end_more, end-upto, tree-size, two-children, second-there}
use Rattle.std.specs.Prelude.{Ok, Err}
use Rattle.judging.specs.declared.Flaw.{Flaw}
use Rattle.judging.specs.declared.table.Entry.{Entry}
use Rattle.judging.specs.Table.{Table}
use Rattle.judging.specs.Judging.{Low, Known, known_all, ExtractorAt, site_at, ExtractorJudged, turns, ListJudged}
use Rattle.judging.specs.Whole.{DefinitionsShaped}
use Rattle.judging.proofs.RowLaws.{table_known}

extractor-one : (text : List ℕ) (ts : Trees) → 2 ≤ count ts → length (extractor text ts) ≡ 1
unfolding extractor count
extractor-one text ∅ h = absurd (omega arith)
extractor-one text (t ▸ ∅) h = absurd (omega arith)
extractor-one text (t ▸ u ▸ us) h = refl

pub record Listing (text defs : List ℕ) (t : List Entry) (earlier i : ℕ) : Type 0 where
  pub shape : DefinitionsShaped defs
  pub table : Table text defs t
  pub upto : i ≤ slots defs
  pub first : Extractors
  pub sized : length first ≡ earlier
  pub whole : extractors text (trees_of (recs defs)) ≡ first ++ extractors text (trees_of (drop i (recs defs)))
  pub leads : turns text (extractors text (trees_of (recs defs))) 0 [] (trees_of (recs defs)) ≡ turns text (extractors text (trees_of (recs defs))) i first (trees_of (drop i (recs defs)))

pub listing_start : (text defs : List ℕ) (t : List Entry) → DefinitionsShaped defs → Table text defs t → Listing text defs t 0 0
listing_start text defs t d b = record { shape = d; table = b; upto = omega arith; first = []; sized = refl; whole = refl; leads = refl }

module _ (text defs : List ℕ) (t : List Entry) (earlier i end : ℕ) (g : Listing text defs t earlier i) (all : end ≡ slots defs) where
  abbrev D : Extractors
  D = extractors text (trees_of (recs defs))

  a : All Placed (recs defs)
  a = g.shape.placed

  b : Table text defs t
  b = g.table

  pub listing_few : earlier ≤ length t
  listing_few = omega (arith, g.sized, ap length g.whole, length-append g.first (extractors text (trees_of (drop i (recs defs)))), b.size)

  pub listing_fits : Fits w64 (earlier + 1)
  listing_fits = omega (arith, listing_few, b.few)

  pub listing_end : (m : Unit {0}) → end ≤ i → ListJudged text defs (Ok m)
  unfolding Low trees_of sites in_turn verdict
  listing_end m h = let z : drop i (recs defs) ≡ [] = past defs i (omega arith) in record { gives = sym (g.leads ∙ rw z); low = tt }

  module _ (r : Rec) (is : r ≡ rec_at defs i) (more : i < end) where
    spot : drop i (recs defs) ≡ r ∷ drop (i + 1) (recs defs)
    spot = here defs i (omega arith) ∙ ap (◌∷ drop (i + 1) (recs defs)) (sym is)

    end_in : end_of (recs defs) i ≤ slots defs
    end_in = omega (arith, end-upto (recs defs) i r spot, length-recs defs)

    pub listing_less : (j : ℕ) → j ≡ i + skip 1 (left defs i) → end - j < end - i
    listing_less j e = omega (arith, skip-end defs i j e, end_more (recs defs) i r spot)

    module _ (k : Bool) (kind : is_extractor r.kind ≡ k) where
      -- this one, and those after it
      sites-next : sites text i g.first (trees_of (drop i (recs defs)))
          ≡ pick k (record { place = i; children = kids_at (recs defs) i r spot; earlier = g.first } ∷ []) []
          ++ sites text (end_of (recs defs) i) (g.first ++ pick k (extractor text (kids_at (recs defs) i r spot)) []) (trees_of (drop (end_of (recs defs) i) (recs defs)))
      unfolding sites
      sites-next = rw (trees-at (recs defs) i r spot, kind, tree-size (recs defs) i r spot a)

      whole-next : D ≡ (g.first ++ pick k (extractor text (kids_at (recs defs) i r spot)) []) ++ extractors text (trees_of (drop (end_of (recs defs) i) (recs defs)))
      unfolding extractors
      whole-next = g.whole ∙ rw (trees-at (recs defs) i r spot, kind, append_assoc)

    pub listing_other : (j : ℕ) → (r.kind ≡ 19 → ⊥) → j ≡ i + skip 1 (left defs i) → Listing text defs t earlier j
    unfolding is_extractor
    listing_other j k e =
        let q : is_extractor r.kind ≡ false = ne_eqb r.kind 19 k in
        rw (skip-end defs i j e) (record {
          shape = g.shape;
          table = g.table;
          upto = end_in;
          first = g.first;
          sized = g.sized;
          whole = whole-next false q ∙ rw append-nil;
          leads = g.leads ∙ ap (λ (xs : List Site). verdict (in_turn (stages_of text D) xs)) (sites-next false q) ∙ rw append-nil;
        })

    module _ (k : r.kind ≡ 19) where
      -- what is known of the Extractor at the index i
      pub listing_here : ExtractorAt defs i r.count
      listing_here =
          record {
            few = g.shape.few;
            placed = a;
            more = second-there defs i r is (omega arith) g.shape.extractors-placed k;
            size = rw is;
            two = two-children defs i r is (omega arith) g.shape.extractors-placed k;
          }

      has_kind : is_extractor r.kind ≡ true
      unfolding is_extractor
      has_kind = eq-eqb r.kind 19 k

      abbrev known : Known text t earlier
      known = table_known text defs t earlier g.first (extractors text (trees_of (drop i (recs defs)))) a b g.whole g.sized

      abbrev others-after : Option Refusal
      others-after = turns text D (end_of (recs defs) i) (g.first ++ extractor text (kids_at (recs defs) i r spot)) (trees_of (drop (end_of (recs defs) i) (recs defs)))

      this : turns text D i g.first (trees_of (drop i (recs defs))) ≡ verdict (stages_of text (known_all known) (site_at defs i g.first)) or_else others-after
      unfolding in_turn table_known
      this =
          ap (λ (xs : List Site). verdict (in_turn (stages_of text D) xs)) (sites-next true has_kind)
          ∙ verdict_++ (stages_of text D (record { place = i; children = kids_at (recs defs) i r spot; earlier = g.first })) (in_turn (stages_of text D) (sites text (end_of (recs defs) i) (g.first ++ extractor text (kids_at (recs defs) i r spot)) (trees_of (drop (end_of (recs defs) i) (recs defs)))))
          ∙ ap (λ (F : Extractors). verdict (stages_of text F (record { place = i; children = kids_at (recs defs) i r spot; earlier = g.first })) or_else others-after) g.whole
          ∙ ap (λ (s : Rec). verdict (stages_of text (known_all known) (record { place = i; children = firsts s.count (trees_of (drop (i + 1) (recs defs))); earlier = g.first })) or_else others-after) is

      pub listing_flawed : (f : Flaw) → ExtractorJudged text t earlier defs i (Err f) → ListJudged text defs (Err f)
      unfolding table_known Low
      listing_flawed f q = record { gives = ap (◌or_else others-after) (q.gives known) ∙ sym (g.leads ∙ this); low = q.low }

      pub listing_after : (next : ℕ) → ExtractorJudged text t earlier defs i (Ok next) → end - next < end - i
      listing_after next q = omega (arith, q.ends next refl, end_more (recs defs) i r spot)

      pub listing_next : (next : ℕ) → ExtractorJudged text t earlier defs i (Ok next) → Listing text defs t (earlier + 1) next
      unfolding table_known
      listing_next next q =
          let e : next ≡ end_of (recs defs) i = q.ends next refl in
          let two : 2 ≤ r.count = two-children defs i r is (omega arith) g.shape.extractors-placed k in
          let c : count (kids_at (recs defs) i r spot) ≡ r.count = count-firsts r.count (trees_of (drop (i + 1) (recs defs))) (all-at (recs defs) Placed a i r (drop (i + 1) (recs defs)) spot).whole in
          record {
            shape = g.shape;
            table = g.table;
            upto = rw e end_in;
            first = g.first ++ extractor text (kids_at (recs defs) i r spot);
            sized = length-append g.first (extractor text (kids_at (recs defs) i r spot)) ∙ omega (arith, g.sized, extractor-one text (kids_at (recs defs) i r spot) (omega arith));
            whole = rw e (whole-next true has_kind);
            leads = g.leads ∙ this ∙ ap (◌or_else others-after) (sym (q.gives known)) ∙ rw e;
          }
