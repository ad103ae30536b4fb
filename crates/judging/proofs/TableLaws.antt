-- Names looked up in the table, and the ways through making it. Assumes nothing.
use mathlib.Core.Path.{◌≡◌, refl, sym, ap, ◌∙◌}
use mathlib.Core.Bool.{Bool, true, false}
use mathlib.Core.List.{List, [], ◌∷◌, ◌++◌, append_assoc, append-nil}
use Prim.Native.Nat.{ℕ, suc, ◌+◌, ◌-◌, ◌<◌, ◌≤◌}
use native.Mathlib.Nat.{add-zero}
use native.Mathlib.Omega.{arith}
use lib.ListN.{length, get_or, set, take, drop, length-set, length-append}
use lib.Seq.{get_or-set_same, get_or-set_other}
use Rattle.std.proofs.lemmas.List.{get_or-take, length-take-le}
use borrow.Author.Tests.{eq-eqb, ne_eqb, lt-ltb, le-ltb}
use Rattle.trees.specs.Choice.{pick}
use Rattle.trees.specs.declared.Rec.{Rec}
use Rattle.trees.specs.Tree.{node, ∅, count, firsts, head_of, trees_of}
use Rattle.trees.specs.Names.{spelled}
use Rattle.words.specs.Bytes.{same_bytes}
use Rattle.records.specs.Slots.{slots, rec_at, recs}
use Rattle.forms.specs.Lists.{left, skip}
use Rattle.expansion.specs.Nodes.{tree_at, is_extractor}
use Rattle.expansion.specs.Expansion.{Named, named, Extractor, Extractors, extractor, extractors}
use Rattle.expansion.specs.Flat.{after, end_of, Placed, All}
use Rattle.expansion.proofs.IndexLaws.{all-at}
use Rattle.expansion.proofs.StoreLaws.{extractor-at}
use Rattle.std.specs.Prelude.{Ok, Err}
use Rattle.records.specs.declared.Ground.TheVariants.{TooManyExtractors}
use Rattle.grounds.specs.Stages.{first_from}
use Rattle.grounds.specs.Order.{extractor_places}
use Rattle.judging.specs.declared.table.Entry.{Entry}
use Rattle.judging.specs.Table.{row, name_in, arity_in, place_in, RowOf, Rows, entry_of, RowRoom}
use Rattle.judging.specs.Judging.{flaw, Low}
use Rattle.judging.specs.Whole.{DefinitionsShaped, Tabled}
use Rattle.grounds.proofs.At.{here, past, length-recs, skip-end, kids_at, trees-at, end_more, end-upto, tree-size, two-children, second-there}

-- ---- names

pub names_same : (text x y : List ℕ) (a b : ℕ) (r : Bool) → x ≡ spelled text a → y ≡ spelled text b → r ≡ same_bytes x y → r ≡ same_bytes (spelled text a) (spelled text b)
names_same text x y a b r p q e = e ∙ rw (p, q)

-- ---- rows are kept where the table is, and one more is added

row_keep : (text defs : List ℕ) (t t' : List Entry) (x : ℕ) (e : Named Extractor) → name_in t' x ≡ name_in t x → arity_in t' x ≡ arity_in t x → place_in t' x ≡ place_in t x → RowOf text defs t x e → RowOf text defs t' x e
row_keep text defs t t' x e p q s r =
    record { there = rw s r.there; kind = rw s r.kind; word = p ∙ rw s r.word; size = rw (q, s) r.size; is = rw s r.is }

rows-add : (text defs : List ℕ) (t t' : List Entry) (x : ℕ) (E : Extractors) (e : Named Extractor)
    → ((y : ℕ) → y < x + length E → (name_in t' y ≡ name_in t y) × (arity_in t' y ≡ arity_in t y) × (place_in t' y ≡ place_in t y))
    → RowOf text defs t' (x + length E) e → Rows text defs t x E → Rows text defs t' x (E ++ (e ∷ []))
rows-add text defs t t' x [] e k r o = (rw (add-zero x) at r, tt)
rows-add text defs t t' x (f ∷ E) e k r o =
    let z = k x (omega arith) in
    let m : x + suc (length E) ≡ suc x + length E = omega arith in
    (row_keep text defs t t' x f z.0 z.1 z.2 o.0, rows-add text defs t t' (suc x) E e (λ y h. k y (omega arith)) (rw m at r) o.1)

-- ---- making the table

-- ---- the first rows of a table

row_first : (t : List Entry) (n y : ℕ) → y < n → row (take n t) y ≡ row t y
row_first t n y h = get_or-take n t y (record { name = 0; arity = 0; place = 0 }) h

rows_first : (text defs : List ℕ) (t : List Entry) (n x : ℕ) (E : Extractors) → x + length E ≤ n → Rows text defs t x E → Rows text defs (take n t) x E
rows_first text defs t n x [] h r = tt
rows_first text defs t n x (e ∷ E) h r =
    let q : row (take n t) x ≡ row t x = row_first t n x (omega arith) in
    (row_keep text defs t (take n t) x e (ap (λ (z : Entry). z.name) q) (ap (λ (z : Entry). z.arity) q) (ap (λ (z : Entry). z.place) q) r.0, rows_first text defs t n (suc x) E (omega arith) r.1)

pub record Making (defs : List ℕ) (t₀ t : List Entry) (n i : ℕ) : Type 0 where
  pub shape : DefinitionsShaped defs
  pub same : length t ≡ length t₀
  pub few : n ≤ 256
  pub upto : i ≤ slots defs
  pub long : 256 ≤ length t
  pub places : (ps : List ℕ) × (length ps ≡ n) × (extractor_places 0 (trees_of (recs defs)) ≡ ps ++ extractor_places i (trees_of (drop i (recs defs))))
  pub rows : (text : List ℕ) → (E : Extractors) × (length E ≡ n) × (extractors text (trees_of (recs defs)) ≡ E ++ extractors text (trees_of (drop i (recs defs)))) × Rows text defs t 0 E

pub making-start : (defs : List ℕ) (t : List Entry) → DefinitionsShaped defs → 256 ≤ length t → Making defs t t 0 0
making-start defs t d l =
    record { shape = d; same = refl; few = omega arith; upto = omega arith; long = l; places = ([], refl, refl); rows = λ text. ([], refl, refl, tt) }

module _ (defs : List ℕ) (t₀ t : List Entry) (n i end : ℕ) (g : Making defs t₀ t n i) (all : end ≡ slots defs) where
  a : All Placed (recs defs)
  a = g.shape.placed

  pub making-end : end ≤ i → Tabled defs t (Ok n)
  unfolding Low first_from extractor_places extractors trees_of
  making-end h =
      let z : drop i (recs defs) ≡ [] = past defs i (omega arith) in
      let p = g.places in
      let few : length (extractor_places 0 (trees_of (recs defs))) ≤ 256 = rw (p.2, z, append-nil) (omega (arith, p.1, g.few)) in
      record {
        answers = record { gives = rw (le-ltb 256 (length (extractor_places 0 (trees_of (recs defs)))) few); low = tt };
        within = λ m q. let c : n ≡ m = cc in omega (arith, g.few, g.long);
        table = λ m q text.
            let r = g.rows text in
            let e : extractors text (trees_of (recs defs)) ≡ r.0 = r.2 ∙ rw (z, append-nil) in
            let c : n ≡ m = cc in
            let l : length (take n t) ≡ n = length-take-le n t (omega (arith, g.few, g.long)) in
            rw (← c) (record { rows = rw e (rows_first text defs t n 0 r.0 (omega (arith, r.1)) r.3); size = rw e (r.1 ∙ sym l); few = omega (arith, l, g.few) });
      }

  module _ (r : Rec) (is : r ≡ rec_at defs i) (more : i < end) where
    at : drop i (recs defs) ≡ r ∷ drop (i + 1) (recs defs)
    at = here defs i (omega arith) ∙ ap (◌∷ drop (i + 1) (recs defs)) (sym is)

    module _ (b : Bool) (kind : is_extractor r.kind ≡ b) where
      places-next : extractor_places i (trees_of (drop i (recs defs))) ≡ pick b (i ∷ []) [] ++ extractor_places (end_of (recs defs) i) (trees_of (drop (end_of (recs defs) i) (recs defs)))
      unfolding extractor_places
      places-next = rw (trees-at (recs defs) i r at, kind, tree-size (recs defs) i r at a)

      extractors-next : (text : List ℕ) → extractors text (trees_of (drop i (recs defs))) ≡ pick b (extractor text (kids_at (recs defs) i r at)) [] ++ extractors text (trees_of (drop (end_of (recs defs) i) (recs defs)))
      unfolding extractors
      extractors-next text = rw (trees-at (recs defs) i r at, kind)

    other : (r.kind ≡ 19 → ⊥) → is_extractor r.kind ≡ false
    unfolding is_extractor
    other k = ne_eqb r.kind 19 k

    this : r.kind ≡ 19 → is_extractor r.kind ≡ true
    unfolding is_extractor
    this k = eq-eqb r.kind 19 k

    end_in : end_of (recs defs) i ≤ slots defs
    end_in = omega (arith, end-upto (recs defs) i r at, length-recs defs)

    pub making_less : (j : ℕ) → j ≡ i + skip 1 (left defs i) → end - j < end - i
    making_less j e = omega (arith, skip-end defs i j e, end_more (recs defs) i r at)

    pub making-other : (j : ℕ) → (r.kind ≡ 19 → ⊥) → j ≡ i + skip 1 (left defs i) → Making defs t₀ t n j
    making-other j k e =
        let q : j ≡ end_of (recs defs) i = skip-end defs i j e in
        let p = g.places in
        rw q (record {
          shape = g.shape;
          same = g.same;
          few = g.few;
          upto = end_in;
          long = g.long;
          places = (p.0, p.1, p.2 ∙ ap (p.0 ++◌) (places-next false (other k)));
          rows = λ text. let s = g.rows text in (s.0, s.1, s.2 ∙ ap (s.0 ++◌) (extractors-next false (other k) text), s.3);
        })

    pub making-many : r.kind ≡ 19 → n ≡ 256 → Tabled defs t (Err (flaw TooManyExtractors i))
    unfolding Low first_from
    making-many k m =
        let p = g.places in
        let q : extractor_places 0 (trees_of (recs defs)) ≡ p.0 ++ (i ∷ extractor_places (end_of (recs defs) i) (trees_of (drop (end_of (recs defs) i) (recs defs)))) = p.2 ∙ ap (p.0 ++◌) (places-next true (this k)) in
        let l : 256 < length (extractor_places 0 (trees_of (recs defs))) = rw q (omega (arith, length-append p.0 (i ∷ extractor_places (end_of (recs defs) i) (trees_of (drop (end_of (recs defs) i) (recs defs)))), p.1)) in
        let v : get_or (extractor_places 0 (trees_of (recs defs))) 256 0 ≡ i = rw q (at-end p.0 i (extractor_places (end_of (recs defs) i) (trees_of (drop (end_of (recs defs) i) (recs defs)))) 256 (p.1 ∙ m)) in
        record {
          answers = record { gives = rw (lt-ltb 256 (length (extractor_places 0 (trees_of (recs defs)))) l, v); low = omega arith };
          within = λ m q. absurd (let u : ◌≡◌ {A = ℕ} 0 1 = cc in omega arith);
          table = λ m q. absurd (let u : ◌≡◌ {A = ℕ} 0 1 = cc in omega arith);
        }
      where
        at-end : (xs : List ℕ) (y : ℕ) (ys : List ℕ) (m : ℕ) → length xs ≡ m → get_or (xs ++ (y ∷ ys)) m 0 ≡ y
        at-end [] y ys m e = rw (← e)
        at-end (x ∷ xs) y ys m e = rw (← e) (at-end xs y ys (length xs) refl)

    module _ (k : r.kind ≡ 19) where
      making-two : 2 ≤ r.count
      making-two = two-children defs i r is (omega arith) g.shape.extractors-placed k

      making-second : i + 1 < slots defs
      making-second = second-there defs i r is (omega arith) g.shape.extractors-placed k

      pub making-row : RowRoom defs i
      making-row = record { second = making-second; two = rw (← is) making-two }

      pub making-room : (n ≡ 256 → ⊥) → n < length t
      making-room m = omega (arith, g.few, g.long)

      abbrev second : Rec
      second = rec_at defs (i + 1)

      new-extractor : (text : List ℕ) → (e : Named Extractor) × (extractor text (kids_at (recs defs) i r at) ≡ e ∷ [])
      new-extractor text =
          let c : r.count ≡ r.count - 2 + 2 = omega (arith, making-two) in
          let w : r.count ≤ count (trees_of (drop (i + 1) (recs defs))) = (all-at (recs defs) Placed a i r (drop (i + 1) (recs defs)) at).whole in
          let l : r.count - 2 + 2 ≤ count (trees_of (second ∷ drop (i + 1 + 1) (recs defs))) = rw (← (here defs (i + 1) making-second), ← c) w in (
            named (spelled text second.word1) (record {
              params = firsts (r.count - 2) (trees_of (after (drop (i + 1 + 1) (recs defs)) second.count));
              pattern = tree_at (trees_of (after (drop (i + 1 + 1) (recs defs)) second.count)) (r.count - 2) (node (head_of r) ∅);
            }),
            ap (λ (m : ℕ). extractor text (firsts m (trees_of (drop (i + 1) (recs defs))))) c
                ∙ ap (λ (rs : List Rec). extractor text (firsts (r.count - 2 + 2) (trees_of rs))) (here defs (i + 1) making-second)
                ∙ extractor-at text (r.count - 2) second (drop (i + 1 + 1) (recs defs)) (node (head_of r) ∅) l,
          )

      module _ (v : Entry) (made : v ≡ entry_of defs i) (m : n ≡ 256 → ⊥) where
        abbrev t' : List Entry
        t' = set t n v

        other_row : (y : ℕ) → y < n → row t' y ≡ row t y
        other_row y h = get_or-set_other t n y v (record { name = 0; arity = 0; place = 0 }) (λ z. omega arith)

        this-row : row t' n ≡ record { name = second.word1; arity = r.count - 2; place = i }
        this-row = get_or-set_same t n v (record { name = 0; arity = 0; place = 0 }) (making-room m) ∙ made ∙ rw is

        name_cell : name_in t' n ≡ second.word1
        name_cell = ap (λ (z : Entry). z.name) this-row

        arity_cell : arity_in t' n ≡ r.count - 2
        arity_cell = ap (λ (z : Entry). z.arity) this-row

        place_cell : place_in t' n ≡ i
        place_cell = ap (λ (z : Entry). z.place) this-row

        new_row : (text : List ℕ) (e : Named Extractor) → extractor text (kids_at (recs defs) i r at) ≡ e ∷ [] → RowOf text defs t' n e
        new_row text e q =
            let c : arity_in t' n + 2 ≡ r.count = omega (arith, arity_cell, making-two) in
            record {
              there = rw place_cell making-second;
              kind = rw (place_cell, ← is) (this k);
              word = name_cell ∙ rw place_cell;
              size = rw (place_cell, ← is) c;
              is = rw (place_cell, ← is) q;
            }

        pub making_same : length t' ≡ length t₀
        making_same = length-set t n v ∙ g.same

        pub making-next : (j : ℕ) → j ≡ i + skip 1 (left defs i) → Making defs t₀ (set t n v) (n + 1) j
        making-next j e =
            let q : j ≡ end_of (recs defs) i = skip-end defs i j e in
            let p = g.places in
            rw q (record {
              shape = g.shape;
              same = making_same;
              few = omega (arith, g.few);
              upto = end_in;
              long = rw (length-set t n v) g.long;
              places = (p.0 ++ (i ∷ []), length-append p.0 (i ∷ []) ∙ omega (arith, p.1), p.2 ∙ ap (p.0 ++◌) (places-next true (this k)) ∙ sym (append_assoc p.0 (i ∷ []) _));
              rows = λ text.
                  let s = g.rows text in
                  let w = new-extractor text in
                  let y : extractors text (trees_of (recs defs)) ≡ s.0 ++ ((w.0 ∷ []) ++ extractors text (trees_of (drop (end_of (recs defs) i) (recs defs)))) =
                  s.2 ∙ ap (s.0 ++◌) (extractors-next true (this k) text ∙ ap (◌++ extractors text (trees_of (drop (end_of (recs defs) i) (recs defs)))) w.1) in
                  let len : 0 + length s.0 ≡ n = omega (arith, s.1) in (
                    s.0 ++ (w.0 ∷ []),
                    length-append s.0 (w.0 ∷ []) ∙ omega (arith, s.1),
                    y ∙ sym (append_assoc s.0 (w.0 ∷ []) _),
                    rows-add text defs t t' 0 s.0 w.0 (λ y h. let o : row t' y ≡ row t y = other_row y (omega arith) in (ap (λ (z : Entry). z.name) o, ap (λ (z : Entry). z.arity) o, ap (λ (z : Entry). z.place) o))
                        (rw len (new_row text w.0 w.1)) s.3,
                  );
            })
