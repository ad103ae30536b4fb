-- The ways through filling the store. Assumes nothing.
use mathlib.Core.Path.{◌≡◌, refl, sym, ap, ◌∙◌}
use mathlib.Core.List.{List, [], ◌∷◌, ◌++◌, append_assoc, append-nil}
use Prim.Native.Nat.{ℕ, suc, ◌+◌, ◌-◌, ◌<◌, ◌≤◌}
use native.Mathlib.Nat.{add-zero, zero-add}
use native.Mathlib.Omega.{arith}
use mir.Syntax.{w64}
use mir.Val.{Fits}
use lib.ListN.{length, get_or, set, take, drop, length-append, length-set}
use lib.Seq.{drop-drop, get_or-set_same, get_or-set_other}
use Rattle.trees.specs.declared.Rec.{Rec}
use Rattle.trees.specs.Tree.{Tree, Trees, node, ∅, ◌▸◌, count, others, head_of, records, records_all, trees_of}
use Rattle.trees.specs.Names.{spelled}
use Rattle.records.specs.Slots.{slots, rec_at, recs_from, recs}
use Rattle.records.proofs.Reading.{length-recs_from}
use Rattle.expansion.specs.Nodes.{Every}
use Rattle.expansion.specs.Expansion.{Named, named, Extractor, Extractors, term_name, in_order, open_template, opened_templates}
use Rattle.expansion.specs.Acceptance.{Counted, ExtractorFine, AllFine}
use Rattle.expansion.specs.Flat.{span, after, opened_records, opened_at, store_records, Placed, All}
use Rattle.expansion.proofs.NodeLaws.{every_map}
use Rattle.expansion.proofs.OpenLaws.{lookup_first}
use Rattle.expansion.proofs.SpanLaws.{trees_of-after, after-zero}
use Rattle.expansion.proofs.FlatOpening.{opened-template, store-append}
use Rattle.expansion.proofs.IndexLaws.{all-at}
use Rattle.expansion.proofs.StoreLaws.{templates-next, store-next, fine-first}
use Rattle.grounds.specs.Leaves.{Leaves, ExtractorPlaced}
use Rattle.judging.specs.declared.table.Entry.{Entry}
use Rattle.std.specs.Prelude.{Option as Maybe, Some, None}
use Rattle.std.proofs.lemmas.List.{get_or-take, length-take-le}
use Rattle.judging.specs.Table.{row, name_in, arity_in, place_in, RowsOf, RowOf, Rows}
use Rattle.grounds.proofs.At.{drop_from, here, length-recs, end-upto}
use Rattle.judging.proofs.ScanLaws.{tree-inside}
use Rattle.judging.proofs.RowLaws.{row_is}
use Rattle.opening.specs.declared.Side.TheVariants.{Store}
use Rattle.opening.specs.Wrote.{Wrote}
use Rattle.opening.specs.Made.{params_at}
use Rattle.opening.specs.Walk.{Region, Ready, Readied, Room, Opened}
use Rattle.opening.specs.Store.{extractors_in, Source, Stored}
use Rattle.opening.proofs.WroteLaws.{wrote-store, wrote-out, wrote_up, wrote_none, wrote-both, wrote_stop, wrote_keeps, Fitted, wrote_fitted}
use Rattle.opening.proofs.KeepLaws.{recs-part}
use Rattle.opening.proofs.ReadyLaws.{fits-calls, templates-length, tree-records, leaves-span, others-at}

-- ---- lists

rows_at : (text defs : List ℕ) (t : List Entry) (y : ℕ) (E : Extractors) (e : Named Extractor) (F : Extractors) → Rows text defs t y (E ++ (e ∷ F)) → RowOf text defs t (y + length E) e
rows_at text defs t y [] e F r = rw (add-zero y) r.0
rows_at text defs t y (f ∷ E) e F r = let m : y + suc (length E) ≡ suc y + length E = omega arith in rw m (rows_at text defs t (suc y) E e F r.1)

fine-at : (text : List ℕ) (D F E : Extractors) (e : Named Extractor) (R : Extractors) → AllFine text D F (E ++ (e ∷ R)) → ExtractorFine text D (F ++ E) e
fine-at text D F [] e R a = rw (append-nil F) a.0
fine-at text D F (f ∷ E) e R a = rw (← append_assoc F (f ∷ []) E) (fine-at text D (F ++ (f ∷ [])) E e R a.1)

templates-more : (text : List ℕ) (F E : Extractors) → (M : List (Named Tree)) × (opened_templates text (E ++ F) ≡ opened_templates text E ++ M)
templates-more text [] E = ([], ap (opened_templates text) (append-nil E) ∙ sym (append-nil (opened_templates text E)))
templates-more text (f ∷ F) E =
    let r = templates-more text F (E ++ (f ∷ [])) in
    let new : List (Named Tree) = named f.name (open_template text (opened_templates text E) f.value) ∷ [] in (
      new ++ r.0,
      ap (opened_templates text) (sym (append_assoc E (f ∷ []) F)) ∙ r.1 ∙ ap (◌++ r.0) (templates-next text E f) ∙ append_assoc (opened_templates text E) new r.0,
    )

module _ {A : Type 0} (text : List ℕ) (t : List Entry) where
  rows-map : (Q R : ℕ → A → Type 0) (x m : ℕ) (es : List (Named A)) → length es ≤ m → ((y : ℕ) (v : A) → y < x + m → Q y v → R y v) → RowsOf Q text t x es → RowsOf R text t x es
  rows-map Q R x m [] l f r = tt
  rows-map Q R x m (e ∷ es) l f r = (r.0, f x e.value (omega arith) r.1, rows-map Q R (suc x) (m - 1) es (omega arith) (λ y v h q. f y v (omega arith) q) r.2)

  rows_snoc : (Q : ℕ → A → Type 0) (x : ℕ) (es : List (Named A)) (e : Named A) → e.name ≡ spelled text (name_in t (x + length es)) → Q (x + length es) e.value
      → RowsOf Q text t x es → RowsOf Q text t x (es ++ (e ∷ []))
  rows_snoc Q x [] e p q r = (rw (add-zero x) at p, rw (add-zero x) at q, tt)
  rows_snoc Q x (f ∷ es) e p q r =
      let m : x + suc (length es) ≡ suc x + length es = omega arith in
      (r.0, r.1, rows_snoc Q (suc x) es e (rw m at p) (rw m at q) r.2)

module _ {A : Type 0} (text : List ℕ) (t : List Entry) (n : ℕ) where
  -- the same of the first n rows
  rows-take : (Q : ℕ → A → Type 0) (x : ℕ) (es : List (Named A)) → x + length es ≤ n → RowsOf Q text t x es → RowsOf Q text (take n t) x es
  rows-take Q x [] h r = tt
  rows-take Q x (e ∷ es) h r =
      let q : row (take n t) x ≡ row t x = get_or-take n t x (record { name = 0; arity = 0; place = 0 }) (omega arith) in
      (r.0 ∙ ap (λ (v : Entry). spelled text v.name) (sym q), r.1, rows-take Q (suc x) es (omega arith) r.2)

-- ---- where an extractor's parameters and pattern stand

record Place (t : List Entry) (defs : List ℕ) (x : ℕ) (e : Named Extractor) : Type 0 where
  params : e.value.params ≡ params_at defs (place_in t x + 2) (arity_in t x)
  others-after : Trees
  tree : trees_of (drop (place_in t x + 2 + arity_in t x) (recs defs)) ≡ e.value.pattern ▸ others-after
  leaves : Leaves (arity_in t x) (drop (place_in t x + 2) (recs defs))
  inside : place_in t x + 2 + arity_in t x < slots defs

place_of : (text defs : List ℕ) (t : List Entry) (x : ℕ) (e : Named Extractor) → All Placed (recs defs) → All ExtractorPlaced (recs defs) → RowOf text defs t x e → Place t defs x e
unfolding count
place_of text defs t x e a b r =
    let i : ℕ = place_in t x in
    let two : i + 1 + 1 ≡ i + 2 = omega arith in
    let d : drop (i + 1) (recs defs) ≡ rec_at defs (i + 1) ∷ drop (i + 2) (recs defs) = here defs (i + 1) r.there ∙ rw two in
    let c : (rec_at defs i).count - 1 ≡ suc (arity_in t x) = omega (arith, r.size) in
    let leaf : ((rec_at defs (i + 1)).count ≡ 0) × Leaves (arity_in t x) (drop (i + 2) (recs defs)) =
    rw (d, c) at ((all-at (recs defs) ExtractorPlaced b i (rec_at defs i) (drop (i + 1) (recs defs)) (here defs i (omega (arith, r.there)))).names r.kind) in
    let row = row_is text defs t x e a r in
    let list : after (drop (i + 1 + 1) (recs defs)) (rec_at defs (i + 1)).count ≡ drop (i + 2) (recs defs) = rw (two, leaf.0) (after-zero (drop (i + 2) (recs defs))) in
    let enough : arity_in t x + 1 ≤ count (trees_of (drop (i + 2) (recs defs))) = rw list at row.1 in
    let after-params : trees_of (drop (i + 2 + arity_in t x) (recs defs)) ≡ others (arity_in t x) (trees_of (drop (i + 2) (recs defs))) =
    ap (λ (m : ℕ). trees_of (drop (i + 2 + m) (recs defs))) (sym (leaves-span (arity_in t x) (drop (i + 2) (recs defs)) leaf.1))
    ∙ ap trees_of (sym (drop-drop (span (drop (i + 2) (recs defs)) (arity_in t x)) (i + 2) (recs defs))) ∙ trees_of-after (drop (i + 2) (recs defs)) (arity_in t x) in
    let tree_is : trees_of (drop (i + 2 + arity_in t x) (recs defs)) ≡ e.value.pattern ▸ others (suc (arity_in t x)) (trees_of (drop (i + 2) (recs defs))) =
    after-params ∙ others-at (arity_in t x) (trees_of (drop (i + 2) (recs defs))) (node (head_of (rec_at defs (i + 1))) ∅) (omega arith)
    ∙ ap (◌▸ others (suc (arity_in t x)) (trees_of (drop (i + 2) (recs defs)))) (sym (ap (λ (z : Named Extractor). z.value.pattern) row.0 ∙ rw list)) in
    record {
      params = ap (λ (z : Named Extractor). z.value.params) row.0 ∙ rw list;
      others-after = others (suc (arity_in t x)) (trees_of (drop (i + 2) (recs defs)));
      tree = tree_is;
      leaves = leaf.1;
      inside = tree-inside defs (i + 2 + arity_in t x) 1 (omega arith) (rw tree_is (omega arith));
    }

-- ---- the loop over the extractors

-- the templates of the first x extractors are in the store, `used` records
pub record Filling (space : ℕ) (text : List ℕ) (t : List Entry) (defs ends s₀ o₀ starts₀ starts s o : List ℕ) (x used : ℕ) : Type 0 where
  pub source : Source text t defs ends
  pub first : Extractors
  pub later : Extractors
  pub split : extractors_in text defs ≡ first ++ later
  pub sized : length first ≡ x
  pub wrote : Wrote Store space s₀ o₀ 0 (store_records (opened_templates text first)) s o (Some used)
  pub rows : RowsOf (Region starts s used) text t 0 (opened_templates text first)
  pub last : get_or starts x 0 ≡ used
  pub there : space ≤ slots s
  pub most : space ≤ 65536
  pub long : length t < length starts
  pub starts_same : length starts ≡ length starts₀
  pub store_same : length s ≡ length s₀
  pub out_same : length o ≡ length o₀

pub filling_start : (space : ℕ) (text : List ℕ) (t : List Entry) (defs ends s o starts : List ℕ) → Source text t defs ends → length t < length starts → space ≤ slots s → space ≤ 65536 → get_or starts 0 0 ≡ 0
    → Filling space text t defs ends s o starts starts s o 0 0
unfolding opened_templates in_order store_records
filling_start space text t defs ends s o starts source long there most begun =
    record {
      source = source;
      first = [];
      later = extractors_in text defs;
      split = refl;
      sized = refl;
      wrote = wrote_none Store space s o 0 (omega arith);
      rows = tt;
      last = begun;
      there = there;
      most = most;
      long = long;
      starts_same = refl;
      store_same = refl;
      out_same = refl;
    }

module _ (space : ℕ) (text : List ℕ) (t : List Entry) (defs ends s₀ o₀ starts₀ starts s o : List ℕ) (x used : ℕ) (g : Filling space text t defs ends s₀ o₀ starts₀ starts s o x used) where
  source : Source text t defs ends
  source = g.source

  total : x + length g.later ≡ length t
  total = omega (arith, g.sized, ap length g.split, length-append g.first g.later, source.table.size)

  pub filling_end : length t ≤ x → Stored space text t defs s₀ o₀ starts s o (Some used)
  filling_end h = go g.later refl
    where
      go : (F : Extractors) → g.later ≡ F → Stored space text t defs s₀ o₀ starts s o (Some used)
      go (f ∷ F) e = absurd (omega (arith, total, ap length e))
      go [] e =
          let q : extractors_in text defs ≡ g.first = g.split ∙ ap (g.first ++◌) e ∙ append-nil g.first in
          let m : x ≡ length t = omega (arith, total) in
          record { wrote = rw q g.wrote; rows = λ y l. let u : used ≡ y = cc in rw (← u, q) g.rows; last = λ y l. let u : used ≡ y = cc in rw (← u, ← m) g.last }

  fitted : Fitted Store space s₀ o₀ s o 0 used (store_records (opened_templates text g.first))
  fitted = wrote_fitted Store space s₀ o₀ s o 0 used (store_records (opened_templates text g.first)) g.wrote

  pub filling_room : (m : ℕ) → m ≡ x → Room Store space (get_or starts m 0) s o used
  filling_room m e = record { fits = fitted.fits; there = g.there; low = λ z. omega (arith, ap (λ (i : ℕ). get_or starts i 0) e, g.last); most = g.most }

  module _ (more : x < length t) where
    next_one : (e : Named Extractor) × (F : Extractors) × (g.later ≡ e ∷ F)
    next_one = go g.later refl
      where
        go : (F : Extractors) → g.later ≡ F → (e : Named Extractor) × (F : Extractors) × (g.later ≡ e ∷ F)
        go [] e = absurd (omega (arith, total, ap length e))
        go (f ∷ F) e = (f, F, e)

    abbrev this : Named Extractor
    this = next_one.0

    divided : extractors_in text defs ≡ g.first ++ (this ∷ next_one.1)
    divided = g.split ∙ ap (g.first ++◌) next_one.2

    its-row : RowOf text defs t x this
    its-row =
        let z : 0 + length g.first ≡ x = omega (arith, g.sized) in
        rw z at (rows_at text defs t 0 g.first this next_one.1 (rw divided at source.table.rows))

    place : Place t defs x this
    place = place_of text defs t x this source.placed source.extractors-placed its-row

    -- the indices of its parameters and of its pattern

    pub filling_params : Fits w64 (place_in t x + 2)
    filling_params = record { fits = omega (arith, place.inside, source.small) }

    pub filling_pattern : Fits w64 (place_in t x + 2 + arity_in t x)
    filling_pattern = record { fits = omega (arith, place.inside, source.small) }

    -- the extractors before it
    abbrev before : List Entry
    before = take x t

    before_x : length before ≡ x
    before_x = length-take-le x t (omega arith)

    -- the index of its pattern
    abbrev root : ℕ
    root = place_in t x + 2 + arity_in t x

    abbrev S : List (Named Tree)
    S = opened_templates text g.first

    counts : Every (Counted text g.first) this.value.pattern
    counts =
        let fine : ExtractorFine text (extractors_in text defs) ([] ++ g.first) this =
        fine-at text (extractors_in text defs) [] g.first this next_one.1 (fine_by (g.first ++ (this ∷ next_one.1)) divided) in
        every_map {P = Counted text (extractors_in text defs)} {R = Counted text g.first}
        (λ h ts c v e. c v (rw (sym divided) at (lookup_first g.first (this ∷ next_one.1) v (term_name text h ts) e))) this.value.pattern fine.pattern.counts
      where
        fine_by : (E : Extractors) → extractors_in text defs ≡ E → AllFine text (extractors_in text defs) [] E
        fine_by E e = rw (← e) source.fine

    ready : Ready text before starts defs ends (place_in t x + 2) (arity_in t x) (place_in t x + 2 + arity_in t x) s S
    ready =
        record {
          rows = rw (before_x, g.last) (rows-take text t x (Region starts s used) 0 S (omega (arith, templates-length text g.first, g.sized)) g.rows);
          sized = templates-length text g.first ∙ g.sized ∙ sym before_x;
          starts-long = omega (arith, g.long, before_x);
          base_in = rw (before_x, g.last) (omega (arith, fitted.fits, g.there));
          base_small = rw before_x (omega (arith, g.last, fitted.fits, g.most));
          placed = source.placed;
          small = source.small;
          ended = source.ended;
          ends-long = source.ends-long;
          params = place.leaves;
          params_in = omega (arith, place.inside);
          inside = place.inside;
          fits = λ k h l o c.
              fits-calls text g.first (fine-first text g.first (this ∷ next_one.1) (rw divided at source.fine)) defs source.placed root this.value.pattern
              place.others-after place.tree counts k h l (omega (arith, end-upto (recs defs) root (rec_at defs root) (here defs root place.inside), length-recs defs)) o c;
        }

    pub filling_readied : (u : List ℕ) (rs : List Entry) (v : Entry) → u ≡ text → rs ≡ take x t → v ≡ row t x → Readied u rs starts defs ends (v.place + 2) v.arity (v.place + 2 + v.arity) s
    unfolding Readied
    filling_readied u rs v e f k = rw (e, f, k) (S, ready)

    pub filling_before : (rs : List Entry) → rs ≡ take x t → length rs ≡ x
    filling_before rs e = rw e before_x

    module _ (u : List ℕ) (rs : List Entry) (v : Entry) (a₁ : u ≡ text) (a₂ : rs ≡ take x t) (a₃ : v ≡ row t x) (s₁ o₁ : List ℕ) (z : Maybe ℕ)
        (opened' : Opened Store space u rs starts defs ends (v.place + 2) v.arity (v.place + 2 + v.arity) s o used s₁ o₁ z) where
      opened : Opened Store space text before starts defs ends (place_in t x + 2) (arity_in t x) (place_in t x + 2 + arity_in t x) s o used s₁ o₁ z
      opened = rw (a₁, a₂, a₃) at opened'

      abbrev content : List Rec
      content = opened_at text S (params_at defs (place_in t x + 2) (arity_in t x)) (recs defs) (place_in t x + 2 + arity_in t x) 1

      w : Wrote Store space s o used content s₁ o₁ z
      unfolding Opened
      w = opened S ready

      store_same : length s₁ ≡ length s
      store_same = wrote-store Store space s o s₁ o₁ used z content w

      -- the template that was opened
      listed : drop (place_in t x + 2 + arity_in t x) (recs defs) ≡ records this.value.pattern ++ records_all place.others-after
      listed = tree-records defs (place_in t x + 2 + arity_in t x) this.value.pattern place.others-after source.placed place.tree

      content_is : content ≡ opened_records text S this.value.params (records this.value.pattern ++ records_all place.others-after) 1
      content_is =
          ap (λ (rs : List Rec). opened_records text S (params_at defs (place_in t x + 2) (arity_in t x)) rs 1) listed
          ∙ ap (λ (ps : Trees). opened_records text S ps (records this.value.pattern ++ records_all place.others-after) 1) (sym place.params)

      template-is : content ≡ records (open_template text S this.value)
      template-is = content_is ∙ opened-template text S this.value (records_all place.others-after)

      both : Wrote Store space s₀ o₀ 0 (store_records (opened_templates text g.first) ++ content) s₁ o₁ z
      both = wrote-both Store space s₀ o₀ s o s₁ o₁ 0 used z (store_records (opened_templates text g.first)) content g.wrote w

      store_is : store_records (opened_templates text (g.first ++ (this ∷ []))) ≡ store_records (opened_templates text g.first) ++ content
      store_is = store-next text g.first this (records_all place.others-after) ∙ ap (store_records (opened_templates text g.first) ++◌) (sym content_is)

      pub filling_full : z ≡ None → Stored space text t defs s₀ o₀ starts s₁ o₁ None
      filling_full h =
          let m = templates-more text next_one.1 (g.first ++ (this ∷ [])) in
          let e : opened_templates text (extractors_in text defs) ≡ opened_templates text (g.first ++ (this ∷ [])) ++ m.0 =
          ap (opened_templates text) (divided ∙ sym (append_assoc g.first (this ∷ []) next_one.1)) ∙ m.1 in
          let q : store_records (opened_templates text (extractors_in text defs)) ≡ (store_records (opened_templates text g.first) ++ content) ++ store_records m.0 =
          ap store_records e ∙ store-append (opened_templates text (g.first ++ (this ∷ []))) m.0 ∙ ap (◌++ store_records m.0) store_is in
          record {
            wrote = rw q (wrote_stop Store space s₀ o₀ s₁ o₁ 0 (store_records (opened_templates text g.first) ++ content) (store_records m.0) (rw h at both));
            rows = λ y l. absurd (let c : ◌≡◌ {A = ℕ} 0 1 = cc in omega arith);
            last = λ y l. absurd (let c : ◌≡◌ {A = ℕ} 0 1 = cc in omega arith);
          }

      module _ (y : ℕ) (some_y : z ≡ Some y) where
        w' : Wrote Store space s o used content s₁ o₁ (Some y)
        w' = rw some_y at w

        fitted' : Fitted Store space s o s₁ o₁ used y content
        fitted' = wrote_fitted Store space s o s₁ o₁ used y content w'

        abbrev starts' : List ℕ
        starts' = set starts (x + 1) y

        old_start : (j : ℕ) → j ≤ x → get_or starts' j 0 ≡ get_or starts j 0
        old_start j h = get_or-set_other starts (x + 1) j y 0 (λ e. omega arith)

        new-start : get_or starts' (x + 1) 0 ≡ y
        new-start = get_or-set_same starts (x + 1) y 0 (omega (arith, g.long))

        kept : recs_from s₁ 0 used ≡ recs_from s 0 used
        kept = wrote_keeps Store space used s o s₁ o₁ used y content (λ e. omega arith) w'

        up : used ≤ y
        up = wrote_up Store space s o s₁ o₁ used y content w'

        old_region : (j : ℕ) (c : Tree) → j < 0 + x → Region starts s used j c → Region starts' s₁ y j c
        old_region j c h r =
            let a : get_or starts' j 0 ≡ get_or starts j 0 = old_start j (omega arith) in
            let b : get_or starts' (j + 1) 0 ≡ get_or starts (j + 1) 0 = old_start (j + 1) (omega arith) in
            record {
              holds = rw (a, b) (r.holds ∙ sym (recs-part s s₁ used (get_or starts j 0) (get_or starts (j + 1) 0 - get_or starts j 0) kept (omega (arith, r.forward, r.inside))));
              forward = rw (a, b) r.forward;
              inside = rw b (omega (arith, r.inside, up));
            }

        tail-is : (b : List ℕ) (l : List Rec) → recs_from b 0 y ≡ recs_from s 0 used ++ l → recs_from b used (y - used) ≡ l
        tail-is b l e =
            ap (λ (i : ℕ). recs_from b i (y - used)) (sym (zero-add used)) ∙ sym (drop_from used b 0 y) ∙ ap (drop used) e
            ∙ drop_at_end used (recs_from s 0 used) l (length-recs_from s 0 used)
          where
            drop_at_end : (n : ℕ) (xs ys : List Rec) → length xs ≡ n → drop n (xs ++ ys) ≡ ys
            drop_at_end n [] ys e = rw (← e)
            drop_at_end n (x ∷ xs) ys e = rw (← e) (drop_at_end (length xs) xs ys refl)

        new_region : Region starts' s₁ y x (open_template text S this.value)
        new_region =
            let a : get_or starts' x 0 ≡ used = old_start x (omega arith) ∙ g.last in
            record {
              holds = rw (a, new-start) (sym template-is ∙ sym (tail-is s₁ content fitted'.reads));
              forward = rw (a, new-start) up;
              inside = rw new-start (omega arith);
            }

        pub filling_next : Filling space text t defs ends s₀ o₀ starts₀ (set starts (x + 1) y) s₁ o₁ (x + 1) y
        filling_next =
            record {
              source = source;
              first = g.first ++ (this ∷ []);
              later = next_one.1;
              split = divided ∙ sym (append_assoc g.first (this ∷ []) next_one.1);
              sized = length-append g.first (this ∷ []) ∙ omega (arith, g.sized);
              wrote = rw store_is (rw some_y at both);
              rows =
                  let count-S : length S ≡ x = templates-length text g.first ∙ g.sized in
                  let e : 0 + length S ≡ x = omega arith in
                  rw (templates-next text g.first this) (rows_snoc text t (Region starts' s₁ y) 0 S (named this.name (open_template text S this.value))
                  (rw e (ap (λ (v : Named Extractor). v.name) (row_is text defs t x this source.placed its-row).0)) (rw e new_region)
                  (rows-map text t (Region starts s used) (Region starts' s₁ y) 0 x S (omega arith) old_region g.rows));
              last = new-start;
              there = rw store_same g.there;
              most = g.most;
              long = rw (length-set starts (x + 1) y) g.long;
              starts_same = length-set starts (x + 1) y ∙ g.starts_same;
              store_same = store_same ∙ g.store_same;
              out_same = wrote-out Store space s o s₁ o₁ used z content w ∙ g.out_same;
            }
