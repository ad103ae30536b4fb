-- Substituting, one slot of the template after another: a law for each way through its code. Assumes nothing.
use Prim.Native.Nat.{ℕ, suc, ◌+◌, ◌-◌, ◌<◌, ◌≤◌}
use native.Mathlib.Omega.{arith}
use mathlib.Core.Path.{◌≡◌, refl, sym, ap, ◌∙◌}
use mathlib.Core.Bool.{Bool, true, false}
use mathlib.Core.List.{List, [], ◌∷◌, ◌++◌}
use lib.ListN.{length, get_or, set, take, drop, length-take, length-drop, length-set}
use Rattle.std.proofs.lemmas.List.{get_or-take}
use lib.Seq.{get_or-set_same, get_or-set_other}
use lib.Dec.{eqb, ltb}
use borrow.Author.Tests.{eq-eqb, ne_eqb, lt-ltb, le-ltb, ltb-true, ltb-false, eqb-true, eqb-false, leb-false}
use Rattle.trees.specs.Choice.{pick}
use Rattle.trees.specs.declared.Rec.{Rec}
use Rattle.trees.specs.Tree.{count, others, trees_of}
use Rattle.records.specs.Slots.{slots, rec_at, recs}
use Rattle.records.proofs.RecsLaws.{length-recs, recs-at, recs-end}
use Rattle.expansion.specs.Nodes.{is_macro_arg}
use Rattle.expansion.specs.Flat.{span, after, tree_records, end_of, fill, FitsAt, All}
use Rattle.expansion.proofs.IndexLaws.{all-at}
use Rattle.expansion.proofs.SpanLaws.{span-zero, span_le, span-add, trees_of-after, count-others, count-trees_of}
use Rattle.expansion.proofs.ListLaws.{list-substitute}
use Rattle.std.specs.Prelude.{Result, Ok, Err}
use Rattle.forms.specs.Lists.{left, skip, first_of}
use Rattle.grounds.proofs.At.{skip-end}
use Rattle.templates.specs.declared.Refused.{Refused}
use Rattle.templates.specs.declared.Refused.TheVariants.{NoPattern}
use Rattle.templates.specs.declared.output.Output.{Output}
use Rattle.templates.specs.Answers.{lacks_pattern, space, substituted_records, first_lacking, fitted, substitute_answer, Answered, ArgLeaf, SubstituteReady}
use Rattle.templates.specs.Writing.{Empty, Wrote, Reaches, slice}
use Rattle.templates.specs.Scans.{Starts, start_of, pattern_records, filled_by, fill_from, ArgsBelow}
use Rattle.templates.proofs.WriteLaws.{reaches_more, reaches_stop, reaches_end}
use Rattle.templates.proofs.AnswerLaws.{answered_refusal, answered_full, answered_all}

-- ---- where a tree ends

-- r is where the tree that starts at slot k ends
record EndOf (list : List ℕ) (k r : ℕ) : Type 0 where
  end : r ≡ end_of (recs list) k
  later : k < r
  inside : r ≤ slots list

module _ (l : List ℕ) (k : ℕ) (h : k < slots l) where
  starts : k < end_of (recs l) k
  unfolding end_of span
  starts = rw (recs-at l k h) (omega arith)

  stops : end_of (recs l) k ≤ slots l
  unfolding end_of
  stops = omega (arith, span_le (drop k (recs l)) 1, length-drop k (recs l), length-recs l)

  ends : (y : ℕ) → y ≡ k + skip 1 (left l k) → EndOf l k y
  ends y e =
      let d : y ≡ end_of (recs l) k = skip-end l k y e in
      record { end = d; later = omega (arith, starts); inside = omega (arith, stops) }

-- ---- the table of starts

module _ (l : List Rec) (n : ℕ) where
  more-trees : (r : Rec) (rs : List Rec) → after l n ≡ r ∷ rs → n < count (trees_of l)
  unfolding trees_of count
  more-trees r rs e = let z : count (trees_of (after l n)) ≡ suc (count (others r.count (trees_of rs))) = rw e in omega (arith, z, ap count (trees_of-after l n), count-others n (trees_of l))

  no_trees : after l n ≡ [] → count (trees_of l) ≤ n
  unfolding trees_of count
  no_trees e = let z : count (trees_of (after l n)) ≡ 0 = rw e in omega (arith, z, ap count (trees_of-after l n), count-others n (trees_of l))

-- the starts of the first n patterns are found, and the next one starts at slot i
pub record Finding (p s₀ s : List ℕ) (n i : ℕ) : Type 0 where
  pub start : i ≡ span (recs p) n
  pub low : n ≤ i
  pub at : (j : ℕ) → j < n → get_or s j 0 ≡ span (recs p) j
  pub few : n ≤ count (trees_of (recs p))
  pub inside : i ≤ slots p
  pub size : length s ≡ length s₀

pub find_start : (p s : List ℕ) → Finding p s s 0 0
find_start p s = record { start = sym (span-zero (recs p)); low = omega arith; at = λ j h. absurd (omega arith); few = omega arith; inside = omega arith; size = refl }

module _ (p s₀ s : List ℕ) (n i : ℕ) (v : Finding p s₀ s n i) where
  here : i < slots p → after (recs p) n ≡ rec_at p i ∷ drop (i + 1) (recs p)
  here h = ap (λ (k : ℕ). drop k (recs p)) (sym v.start) ∙ recs-at p i h

  more : i < slots p → n < count (trees_of (recs p))
  more h = more-trees (recs p) n (rec_at p i) (drop (i + 1) (recs p)) (here h)

  pub find_room : i < slots p → slots p ≤ length s₀ → n < length s
  find_room h k = omega (arith, more h, count-trees_of (recs p), length-recs p, v.size)

  pub find_turn : (e : ℕ) → e ≡ i + skip 1 (left p i) → i < slots p → slots p ≤ length s₀ → Finding p s₀ (set s n i) (n + 1) e
  unfolding end_of
  find_turn e x h k =
      let w = ends p i h e x in
      record {
        start = w.end ∙ rw v.start (sym (span-add (recs p) n 1));
        low = omega (arith, v.low, w.later);
        at = λ j b. put j b;
        few = omega (arith, more h);
        inside = w.inside;
        size = length-set s n i ∙ v.size;
      }
    where
      put : (j : ℕ) → j < n + 1 → get_or (set s n i) j 0 ≡ span (recs p) j
      put j b = go (eqb j n) refl
        where
          go : (t : Bool) → eqb j n ≡ t → get_or (set s n i) j 0 ≡ span (recs p) j
          go true q = rw (eqb-true j n q) (get_or-set_same s n i 0 (find_room h k) ∙ v.start)
          go false q = get_or-set_other s n j i 0 (eqb-false j n q) ∙ v.at j (omega (arith, eqb-false j n q))

  pub find_end : slots p ≤ i → slots p ≤ length s₀ → Starts p s n
  find_end h k =
      let e : i ≡ slots p = omega (arith, v.inside) in
      let z : count (trees_of (recs p)) ≤ n = no_trees (recs p) n (ap (λ (j : ℕ). drop j (recs p)) (sym v.start) ∙ recs-end p i h) in
      record {
        counted = omega (arith, v.few);
        room = omega (arith, v.few, count-trees_of (recs p), length-recs p, v.size);
        at = v.at;
        last = sym v.start ∙ e;
      }

pub find_later : (p : List ℕ) (i e : ℕ) → e ≡ i + skip 1 (left p i) → i < slots p → i < e
find_later p i e x h = (ends p i h e x).later

-- the table cut to the starts that were found
pub starts_found : (p s : List ℕ) (n : ℕ) → Starts p s n → Starts p (take n s) (length (take n s))
starts_found p s n v =
    let e : length (take n s) ≡ n = omega (arith, length-take n s, v.room) in
    rw e (record {
      counted = v.counted;
      room = omega (arith, e);
      at = λ j h. get_or-take n s j 0 (omega (arith, h, e)) ∙ v.at j (omega (arith, h, e));
      last = v.last;
    })

pub cut_args : (t s : List ℕ) (n : ℕ) → n ≤ length s → ArgsBelow t n → ArgsBelow t (length (take n s))
cut_args t s n h a = let e : length (take n s) ≡ n = omega (arith, length-take n s) in rw e a

pub cut_few : (s : List ℕ) (n : ℕ) → n ≤ 65536 → length (take n s) ≤ 65536
cut_few s n h = omega (arith, length-take n s)

pub start_in : (s : List ℕ) (m end k : ℕ) → k < m → get_or s k 0 ≡ start_of s m end k
unfolding start_of
start_in s m end k h = rw (lt-ltb k m h)

pub start_last : (s : List ℕ) (m end k : ℕ) → m ≤ k → end ≡ start_of s m end k
unfolding start_of
start_last s m end k h = rw (le-ltb k m h)

-- ---- the records of a pattern

module _ (p s : List ℕ) (m : ℕ) (v : Starts p s m) where
  start_is : (k x : ℕ) → x ≡ start_of s m (slots p) k → k ≤ m → x ≡ span (recs p) k
  start_is k x e h = go (ltb k m) refl
    where
      go : (t : Bool) → ltb k m ≡ t → x ≡ span (recs p) k
      go true q = e ∙ sym (start_in s m (slots p) k (ltb-true k m q)) ∙ v.at k (ltb-true k m q)
      go false q =
          let z : m ≤ k = ltb-false k m q in
          let y : k ≡ m = omega arith in
          e ∙ sym (start_last s m (slots p) k z) ∙ sym v.last ∙ ap (span (recs p)) (sym y)

  module _ (k from upto : ℕ) (a : from ≡ start_of s m (slots p) k) (b : upto ≡ start_of s m (slots p) (k + 1)) (h : k < m) where
    size_is : upto ≡ from + span (after (recs p) k) 1
    size_is = start_is (k + 1) upto b (omega arith) ∙ span-add (recs p) k 1 ∙ ap (λ (j : ℕ). j + span (after (recs p) k) 1) (sym (start_is k from a (omega arith)))

    pub part_ordered : from ≤ upto
    part_ordered = omega (arith, size_is)

    pub part_inside : upto ≤ slots p
    part_inside = omega (arith, start_is (k + 1) upto b (omega arith), span_le (recs p) (k + 1), length-recs p)

    part-is : slice p from upto ≡ pattern_records p k
    unfolding slice pattern_records
    part-is =
        let n : upto - from ≡ span (after (recs p) k) 1 = omega (arith, size_is) in
        rw (n, start_is k from a (omega arith))

    pub part_wrote : (c d : Output) (y : Result (Unit {0}) Refused) → Wrote c (slice p from upto) d y → Wrote c (pattern_records p k) d y
    part_wrote c d y w = rw part-is at w

-- ---- what a record becomes

pub arg_below : (t : List ℕ) (m i : ℕ) (r : Rec) → r ≡ rec_at t i → ArgsBelow t m → i < slots t → r.kind ≡ 38 → r.word1 < m
unfolding is_macro_arg
arg_below t m i r e v h k = rw e (v.below i h (eq-eqb (rec_at t i).kind 38 (rw e at k)))

module _ (a b : Output) (y : Result (Unit {0}) Refused) (p t : List ℕ) (i : ℕ) (r : Rec) where
  pub filled_arg : Wrote a (pattern_records p r.word1) b y → r ≡ rec_at t i → r.kind ≡ 38 → Wrote a (filled_by p (rec_at t i)) b y
  unfolding filled_by is_macro_arg
  filled_arg w e k = rw (← e, eq-eqb r.kind 38 k) w

  pub filled_copy : Wrote a (r ∷ []) b y → r ≡ rec_at t i → (r.kind ≡ 38 → ⊥) → Wrote a (filled_by p (rec_at t i)) b y
  unfolding filled_by is_macro_arg
  filled_copy w e k = rw (← e, ne_eqb r.kind 38 k) w

-- ---- the scan

module _ (a₀ a : Output) (whole : List Rec) (t p : List ℕ) (i : ℕ) where
  fill-at : i < slots t → fill_from t i p ≡ filled_by p (rec_at t i) ++ fill_from t (i + 1) p
  unfolding fill_from filled_by pattern_records fill
  fill-at h = rw (recs-at t i h)

  pub fill_turn : (b : Output) → Wrote a (filled_by p (rec_at t i)) b (Ok tt) → Reaches a₀ whole a (fill_from t i p) → i < slots t → Reaches a₀ whole b (fill_from t (i + 1) p)
  fill_turn b w v h = reaches_more a₀ a whole (fill_from t i p) v b (filled_by p (rec_at t i)) (fill_from t (i + 1) p) (fill-at h) w

  pub fill_stop : (b : Output) (f : Refused) → Wrote a (filled_by p (rec_at t i)) b (Err f) → Reaches a₀ whole a (fill_from t i p) → i < slots t → Wrote a₀ whole b (Err f)
  fill_stop b f w v h = reaches_stop a₀ a whole (fill_from t i p) v b (filled_by p (rec_at t i)) (fill_from t (i + 1) p) f (fill-at h) w

  pub fill_end : Reaches a₀ whole a (fill_from t i p) → slots t ≤ i → a.written ≤ a.room → Wrote a₀ whole a (Ok tt)
  unfolding fill_from fill
  fill_end v h k = reaches_end a₀ a whole (fill (tree_records (recs p)) (drop i (recs t))) v (rw (recs-end t i h)) k

-- ---- no MacroArg lacks its pattern

lacks_not : (m : ℕ) (r : Rec) → lacks_pattern m r ≡ false → is_macro_arg r.kind ≡ true → r.word1 < m
unfolding lacks_pattern
lacks_not m r e k = leb-false m r.word1 (rw k at e)

none_lacks : (m : ℕ) (rs : List Rec) → length rs ≤ first_of (lacks_pattern m) rs → All ArgLeaf rs → All (FitsAt m) rs
unfolding first_of
none_lacks m [] h a = tt
none_lacks m (r ∷ rs) h a = go (lacks_pattern m r) refl h (none_lacks m rs)
  where
    go : (t : Bool) → lacks_pattern m r ≡ t → suc (length rs) ≤ pick t 0 (suc (first_of (lacks_pattern m) rs)) → (length rs ≤ first_of (lacks_pattern m) rs → All ArgLeaf rs → All (FitsAt m) rs) → All (FitsAt m) (r ∷ rs)
    go true q k ih = absurd (omega arith)
    go false q k ih = (λ e. (a.0 e, lacks_not m r q e), ih (omega arith) a.1)

fits_below : (t : List ℕ) (m : ℕ) → All (FitsAt m) (recs t) → ArgsBelow t m
fits_below t m f = record { below = λ i h e. (all-at (recs t) (FitsAt m) f i (rec_at t i) (drop (i + 1) (recs t)) (recs-at t i h) e).1 }

module _ (t p : List ℕ) (ready : SubstituteReady t p) (s : List ℕ) (m : ℕ) (v : Starts p s m) where
  pub few_starts : m ≤ 65536
  few_starts = omega (arith, v.counted, count-trees_of (recs p), length-recs p, ready.few_patterns)

  pub substitute_refused : (bad room : ℕ) (l : List Rec) (a b : List ℕ) → bad ≡ first_of (lacks_pattern m) (recs t) → bad < slots t → Answered (substitute_answer (recs t) (recs p) room) l a b (Err (NoPattern bad))
  unfolding substitute_answer first_lacking
  substitute_refused bad room l a b first h =
      let k : bad < length (recs t) = omega (arith, length-recs t) in
      answered_refusal (substitute_answer (recs t) (recs p) room) l a b (NoPattern bad) (rw (← v.counted, ← first, lt-ltb bad (length (recs t)) k))

  module _ (none_lack : slots t ≡ first_of (lacks_pattern m) (recs t)) where
    fits : All (FitsAt m) (recs t)
    fits = none_lacks m (recs t) (omega (arith, length-recs t)) ready.args

    pub args_below : ArgsBelow t m
    args_below = fits_below t m fits

    filled : substituted_records (recs t) (recs p) ≡ fill_from t 0 p
    unfolding substituted_records fill_from
    filled =
        let f : All (FitsAt (count (trees_of (recs p)))) (recs t) = rw v.counted at fits in
        list-substitute (recs t) (recs p) ready.placed ready.patterns_placed f

    module _ (a : List ℕ) (o q : Output) (made : Empty a o) where
      fitted_is : substitute_answer (recs t) (recs p) (space a) ≡ fitted (fill_from t 0 p) (space a)
      unfolding substitute_answer first_lacking
      fitted_is =
          let k : length (recs t) ≤ slots t = omega (arith, length-recs t) in
          rw (← v.counted, ← none_lack, le-ltb (slots t) (length (recs t)) k, filled)

      pub substitute_full : (b : List ℕ) (f : Refused) → Wrote o (fill_from t 0 p) q (Err f)
          → Answered (substitute_answer (recs t) (recs p) (space a)) (substituted_records (recs t) (recs p)) a b (Err f)
      substitute_full b f w = rw (fitted_is, filled) (answered_full a o made (fill_from t 0 p) q b f w)

      pub substitute_all : (b : List ℕ) (n : ℕ) → Wrote o (fill_from t 0 p) q (Ok tt) → n ≡ q.written → b ≡ q.bytes.now
          → Answered (substitute_answer (recs t) (recs p) (space a)) (substituted_records (recs t) (recs p)) a b (Ok n)
      substitute_all b n w e r = rw (fitted_is, filled) (answered_all a o made (fill_from t 0 p) q b n w e r)
