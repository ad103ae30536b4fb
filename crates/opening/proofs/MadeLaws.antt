-- The ways through making a record, and what a record calls. Assumes nothing.
use mathlib.Core.Path.{◌≡◌, refl, sym, ap, ◌∙◌}
use mathlib.Core.Bool.{Bool, true, false}
use mathlib.Core.Option.{Option, none, some}
use mathlib.Core.List.{List, [], ◌∷◌}
use Prim.Native.Nat.{ℕ, zero, suc, ◌+◌, ◌-◌, ◌<◌, ◌≤◌}
use native.Mathlib.Nat.{zero-add}
use native.Mathlib.Numerals.{add-one}
use native.Mathlib.Decide.{dec_lt}
use native.Mathlib.Omega.{arith}
use lib.ListN.{get_or, drop}
use lib.Seq.{drop-drop}
use borrow.Author.Tests.{eq-eqb, ne_eqb}
use Rattle.trees.specs.Choice.{pick}
use Rattle.trees.specs.declared.Rec.{Rec}
use Rattle.trees.specs.Tree.{Trees, count, firsts, others, record_of, trees_of}
use Rattle.trees.specs.Names.{spelled}
use Rattle.words.specs.Bytes.{same_bytes}
use Rattle.records.specs.Slots.{slots, rec_at, recs}
use Rattle.names.specs.declared.row.Names.{Names}
use Rattle.names.specs.Order.{range_at, NoneBefore, First}
use Rattle.expansion.specs.Nodes.{macro_arg, is_var, is_bind, is_wildcard}
use Rattle.expansion.specs.Templates.{next, position}
use Rattle.expansion.specs.Flat.{span, after, end_of, stands_at, Placed, opened_at, LeafNext}
use Rattle.expansion.proofs.SpanLaws.{span-add}
use Rattle.expansion.proofs.IndexLaws.{all-at, at_parameter, at_plain}
use Rattle.grounds.specs.Leaves.{Leaves}
use Rattle.judging.specs.declared.table.Entry.{Entry}
use Rattle.judging.specs.Table.{looked}
use Rattle.grounds.proofs.At.{here, past, length-recs, trees-at, end_more}
use Rattle.judging.proofs.ScanLaws.{tree-inside, there-next}
use Rattle.judging.proofs.CallLaws.{call_second}
use Rattle.std.specs.Prelude.{Option as Maybe, Some, None}
use Rattle.opening.specs.Ends.{EndsFrom}
use Rattle.opening.specs.Made.{params_at, Params, Located, Makeable, Sought, MadeAt, call_number}

-- ---- a parameter's name

abbrev add_to : ℕ → Option ℕ → Option ℕ
add_to j none = none
add_to j (some i) = some (j + i)

-- the first of the parameters from the number j on that has the name w, counted from j
abbrev sought_from : List ℕ → List ℕ → ℕ → ℕ → ℕ → ℕ → Option ℕ
sought_from text src pa pc w j = position text (spelled text w) (firsts (pc - j) (trees_of (drop (pa + j) (recs src))))

sought-none : (m : ℕ) (o : Option ℕ) → o ≡ none → Sought m o None
sought-none m o e =
    record {
      below = λ j q. absurd (let z : ◌≡◌ {A = ℕ} 0 1 = cc in omega arith);
      found = λ j q. absurd (let z : ◌≡◌ {A = ℕ} 0 1 = cc in omega arith);
      missing = λ q. e;
    }

sought-some : (m i : ℕ) (o : Option ℕ) → i < m → o ≡ some i → Sought m o (Some i)
sought-some m i o h e =
    record {
      below = λ j q. let s : i ≡ j = cc in rw (← s) h;
      found = λ j q. let s : i ≡ j = cc in rw (← s) e;
      missing = λ q. absurd (let z : ◌≡◌ {A = ℕ} 0 1 = cc in omega arith);
    }

-- none of the first j parameters has the name w
pub record Seeking (text src : List ℕ) (pa pc w j : ℕ) : Type 0 where
  pub params_in : pa + pc ≤ slots src
  pub upto : j ≤ pc
  pub leaves : Leaves (pc - j) (drop (pa + j) (recs src))
  pub leads : position text (spelled text w) (params_at src pa pc) ≡ add_to j (sought_from text src pa pc w j)

add_none : (o : Option ℕ) → o ≡ add_to 0 o
add_none none = refl
add_none (some i) = ap some (sym (zero-add i))

add-next : (j : ℕ) (o : Option ℕ) → add_to j (next o) ≡ add_to (j + 1) o
add-next j none = refl
add-next j (some i) = let e : j + suc i ≡ j + 1 + i = omega arith in ap some e

pub seeking_start : (text src : List ℕ) (pa pc w : ℕ) → Params src pa pc → Seeking text src pa pc w 0
seeking_start text src pa pc w p =
    let e : pc - 0 ≡ pc = omega arith in
    let f : pa + 0 ≡ pa = omega arith in
    record { params_in = p.params_in; upto = omega arith; leaves = rw (e, f) p.leaves; leads = rw (e, f) (add_none (position text (spelled text w) (params_at src pa pc))) }

module _ (text src : List ℕ) (pa pc w j : ℕ) (g : Seeking text src pa pc w j) where
  pub seeking_end : pc ≤ j → Sought pc (position text (spelled text w) (params_at src pa pc)) None
  unfolding firsts position
  seeking_end h =
      let z : pc - j ≡ 0 = omega arith in
      sought-none pc (position text (spelled text w) (params_at src pa pc)) (g.leads ∙ rw z)

  module _ (p : Rec) (is : p ≡ rec_at src (pa + j)) (r : Bool) (e : r ≡ same_bytes (spelled text w) (spelled text p.word1)) (more : j < pc) where
    size : pc - j ≡ suc (pc - (j + 1))
    size = omega arith

    spot : drop (pa + j) (recs src) ≡ p ∷ drop (pa + (j + 1)) (recs src)
    spot = let m : pa + j + 1 ≡ pa + (j + 1) = omega arith in here src (pa + j) (omega (arith, g.params_in)) ∙ rw (← is, m)

    leaf : (p.count ≡ 0) × Leaves (pc - (j + 1)) (drop (pa + (j + 1)) (recs src))
    leaf = rw (size, spot) at g.leaves

    turn : sought_from text src pa pc w j ≡ pick r (some 0) (next (sought_from text src pa pc w (j + 1)))
    unfolding position firsts others trees_of
    turn = rw (size, spot, leaf.0, ← e)

    turn_here : r ≡ true → sought_from text src pa pc w j ≡ some 0
    turn_here q = turn ∙ rw q

    turn_next : r ≡ false → sought_from text src pa pc w j ≡ next (sought_from text src pa pc w (j + 1))
    turn_next q = turn ∙ rw q

    pub seeking_here : r ≡ true → Sought pc (position text (spelled text w) (params_at src pa pc)) (Some j)
    seeking_here q =
        let z : j + 0 ≡ j = omega arith in
        sought-some pc j (position text (spelled text w) (params_at src pa pc)) more (g.leads ∙ ap (add_to j) (turn_here q) ∙ ap some z)

    pub seeking_next : r ≡ false → Seeking text src pa pc w (j + 1)
    seeking_next q =
        record {
          params_in = g.params_in;
          upto = omega arith;
          leaves = leaf.1;
          leads = g.leads ∙ ap (add_to j) (turn_next q) ∙ add-next j (sought_from text src pa pc w (j + 1));
        }

-- of a row of the parameters' names
module _ (s : Names) (w : ℕ) (p : Params s.src.now s.from s.n) where
  seeking_to : (j : ℕ) → j ≤ s.n → NoneBefore s (spelled s.text.now w) j → Seeking s.text.now s.src.now s.from s.n w j
  unfolding range_at
  seeking_to zero h v = seeking_start s.text.now s.src.now s.from s.n w p
  seeking_to (suc j) h v =
      let g = seeking_to j (omega arith) (λ i l. v i (omega arith)) in
      rw (← add-one j) (seeking_next s.text.now s.src.now s.from s.n w j g (rec_at s.src.now (s.from + j)) refl false (sym (v j (omega arith))) (omega arith) refl)

  pub sought_named : (r : Maybe ℕ) → First s (spelled s.text.now w) r → Sought s.n (position s.text.now (spelled s.text.now w) (params_at s.src.now s.from s.n)) r
  unfolding range_at
  sought_named None v = seeking_end s.text.now s.src.now s.from s.n w s.n (seeking_to s.n (omega arith) v) (omega arith)
  sought_named (Some k) (h, e, v) = seeking_here s.text.now s.src.now s.from s.n w k (seeking_to k (omega arith) v) (rec_at s.src.now (s.from + k)) refl true (sym e) h refl

-- ---- a record that stands for a parameter

module _ (src : List ℕ) (k : ℕ) (r : Rec) (is : r ≡ rec_at src k) (loc : Located src k) where
  at : drop k (recs src) ≡ r ∷ drop (k + 1) (recs src)
  at = here src k loc.inside ∙ ap (◌∷ drop (k + 1) (recs src)) (sym is)

  placed : Placed r (drop (k + 1) (recs src))
  placed = all-at (recs src) Placed loc.placed k r (drop (k + 1) (recs src)) at

  leaf-second : LeafNext (drop (k + 1) (recs src)) → k + 1 < slots src
  leaf-second l = go (dec_lt (k + 1) (slots src))
    where
      go : Dec (k + 1 < slots src) → k + 1 < slots src
      go (yes h) = h
      go (no h) = let z : drop (k + 1) (recs src) ≡ [] = past src (k + 1) (omega arith) in absurd (rw z at l)

  is-var : r.kind ≡ 30 → is_var r.kind ≡ true
  unfolding is_var
  is-var e = eq-eqb r.kind 30 e

  is-bind : r.kind ≡ 31 → is_bind r.kind ≡ true
  unfolding is_bind
  is-bind e = eq-eqb r.kind 31 e

  pub var-second : r.kind ≡ 30 → k + 1 < slots src
  var-second e = leaf-second (placed.var (is-var e)).1

  module _ (e : r.kind ≡ 31) where
    pub bind-second : k + 1 < slots src
    bind-second = leaf-second (placed.bind (is-bind e)).1

    pub bind_third : k + 2 < slots src
    unfolding trees_of count others
    bind_third =
        let two : k + 1 + 1 ≡ k + 2 = omega arith in
        let d : drop (k + 1) (recs src) ≡ rec_at src (k + 1) ∷ drop (k + 2) (recs src) = here src (k + 1) bind-second ∙ rw two in
        let z : (rec_at src (k + 1)).count ≡ 0 = rw d at (placed.bind (is-bind e)).1 in
        let w : 2 ≤ count (trees_of (drop (k + 1) (recs src))) = omega (arith, placed.whole, (placed.bind (is-bind e)).0) in
        let n : count (trees_of (drop (k + 1) (recs src))) ≡ suc (count (trees_of (drop (k + 2) (recs src)))) = rw (d, z) in
        tree-inside src (k + 2) 1 (omega arith) (omega arith)

  module _ (text : List ℕ) (ps : Trees) where
    abbrev stands : Option ℕ
    stands = stands_at text ps (rec_at src k) (drop (k + 1) (recs src))

    -- what it stands for is looked for by the name i
    pub sought_var : (pc : ℕ) (j : Maybe ℕ) (i : Rec) → r.kind ≡ 30 → i ≡ rec_at src (k + 1) → Sought pc (position text (spelled text i.word1) ps) j → Sought pc stands j
    unfolding stands_at
    sought_var pc j i e q s = rw (here src (k + 1) (var-second e), ← is, is-var e, ← q) s

    not_found : (pc : ℕ) → stands ≡ none → Sought pc stands None
    not_found pc e = sought-none pc stands e

    pub sought_other : (pc : ℕ) → (r.kind ≡ 30 → ⊥) → (r.kind ≡ 31 → ⊥) → Sought pc stands None
    unfolding is_var is_bind stands_at
    sought_other pc e f = not_found pc (go (drop (k + 1) (recs src)))
      where
        go : (rs : List Rec) → stands_at text ps (rec_at src k) rs ≡ none
        go [] = refl
        go (i ∷ rs) = rw (← is, ne_eqb r.kind 30 e, ne_eqb r.kind 31 f)

    module _ (e : r.kind ≡ 31) (v : Rec) (third : v ≡ rec_at src (k + 2)) where
      not_var : is_var r.kind ≡ false
      unfolding is_var
      not_var = ne_eqb r.kind 30 (λ q. omega arith)

      bind_is : stands ≡ pick (is_wildcard (rec_at src (k + 2)).kind) (position text (spelled text (rec_at src (k + 1)).word1) ps) none
      unfolding stands_at
      bind_is =
          let two : k + 1 + 1 ≡ k + 2 = omega arith in
          let d : drop (k + 1) (recs src) ≡ rec_at src (k + 1) ∷ drop (k + 2) (recs src) = here src (k + 1) (bind-second e) ∙ rw two in
          rw (d, here src (k + 2) (bind_third e), ← is, not_var, is-bind e)

      pub sought_bind : (pc : ℕ) (j : Maybe ℕ) (i : Rec) → v.kind ≡ 36 → i ≡ rec_at src (k + 1) → Sought pc (position text (spelled text i.word1) ps) j → Sought pc stands j
      unfolding is_wildcard
      sought_bind pc j i q p s = let b : stands ≡ position text (spelled text i.word1) ps = bind_is ∙ rw (← third, eq-eqb v.kind 36 q, p) in rw b s

      pub sought_bound : (pc : ℕ) → (v.kind ≡ 36 → ⊥) → Sought pc stands None
      unfolding is_wildcard
      sought_bound pc q = not_found pc (bind_is ∙ rw (← third, ne_eqb v.kind 36 q))

-- ---- a record as it is written

-- one tree is passed, and m more
pub passed : (l : List Rec) (k m : ℕ) → end_of l k + span (drop (end_of l k) l) m ≡ k + span (drop k l) (suc m)
unfolding end_of
passed l k m =
    let one : suc m ≡ 1 + m = omega arith in
    let d : span (after (drop k l) 1) m ≡ span (drop (k + span (drop k l) 1) l) m = ap (λ (rs : List Rec). span rs m) (drop-drop (span (drop k l) 1) k l) in
    rw one (omega (arith, span-add (drop k l) 1 m))

abbrev pub argument : ℕ → ℕ → Rec
argument pos i = record_of (macro_arg pos i) 0

module _ (text src ends : List ℕ) (pa pc k : ℕ) (m : Makeable src ends pa pc k) (r : Rec) (is : r ≡ rec_at src k) (o : Maybe ℕ)
    (s : Sought pc (stands_at text (params_at src pa pc) (rec_at src k) (drop (k + 1) (recs src))) o) where
  spot_at : drop k (recs src) ≡ rec_at src k ∷ drop (k + 1) (recs src)
  spot_at = here src k m.located.inside

  placed_at : Placed (rec_at src k) (drop (k + 1) (recs src))
  placed_at = all-at (recs src) Placed m.located.placed k (rec_at src k) (drop (k + 1) (recs src)) spot_at

  pub made_plain : o ≡ None → MadeAt text src pa pc k (record { rec = r; next = k + 1 })
  unfolding span
  made_plain h =
      let none_here = s.missing h in
      rw is (record {
        opens = λ S n c. at_plain text S (params_at src pa pc) (recs src) k n (rec_at src k) spot_at placed_at none_here c;
        forward = omega arith;
        there = λ n l. omega (arith, there-next src k (suc n) (rec_at src k) refl m.located.inside m.located.placed (omega arith) l);
        ends = λ n. rw spot_at (omega arith);
      })

  pub made-argument : (j end : ℕ) → end ≡ get_or ends k 0 → o ≡ Some j → MadeAt text src pa pc k (record { rec = argument r.pos j; next = end })
  unfolding EndsFrom count
  made-argument j end read h =
      let e : end ≡ end_of (recs src) k = read ∙ m.ended k (omega arith) (omega (arith, m.located.inside, length-recs src)) in
      rw (e, is) (record {
        opens = λ S n c.
            at_parameter text S (params_at src pa pc) (recs src) k n (rec_at src k) spot_at placed_at j (s.found j h)
            ∙ ap (λ (i : ℕ). argument (rec_at src k).pos j ∷ opened_at text S (params_at src pa pc) (recs src) (end_of (recs src) k) i) (sym (zero-add n));
        forward = end_more (recs src) k (rec_at src k) spot_at;
        there = λ n l. omega (arith, ap count (trees-at (recs src) k (rec_at src k) spot_at));
        ends = λ n. ap (λ (i : ℕ). end_of (recs src) k + span (drop (end_of (recs src) k) (recs src)) i) (zero-add n) ∙ passed (recs src) k n;
      })

-- ---- what it calls

module _ (text : List ℕ) (t : List Entry) (src : List ℕ) (k : ℕ) (r : Rec) (is : r ≡ rec_at src k) where
  pub call_none : (r.kind ≡ 35 → ⊥) → None ≡ call_number text t src k
  unfolding call_number
  call_none e = rw (← is, ne_eqb r.kind 35 e)

  pub call_some : r.kind ≡ 35 → (i : Rec) (x : Maybe ℕ) → i ≡ rec_at src (k + 1) → x ≡ looked text t i.word1 → x ≡ call_number text t src k
  unfolding call_number
  call_some e i x p q = q ∙ rw (p, ← is, eq-eqb r.kind 35 e)

pub call_name : (src : List ℕ) (k : ℕ) (r : Rec) → r ≡ rec_at src k → Located src k → r.kind ≡ 35 → k + 1 < slots src
call_name src k r is loc term = call_second src k r is loc.inside loc.placed term
