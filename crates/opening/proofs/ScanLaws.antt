-- The loop of filling a template: its invariant, and a law for each way through it. Assumes nothing.
use mathlib.Core.Path.{◌≡◌, refl, sym, ap, ◌∙◌}
use mathlib.Core.Bool.{true}
use mathlib.Core.Option.{some}
use mathlib.Core.List.{List, [], ◌∷◌, ◌++◌}
use Prim.Native.Nat.{ℕ, suc, ◌+◌, ◌-◌, ◌*◌, ◌<◌, ◌≤◌}
use native.Mathlib.Numerals.{add-one}
use native.Mathlib.Omega.{arith}
use mir.Syntax.{w64}
use mir.Val.{Fits}
use lib.ListN.{length, get_or, drop, length-drop}
use borrow.Author.Tests.{eq-eqb, ne_eqb}
use Rattle.trees.specs.declared.Rec.{Rec}
use Rattle.trees.specs.Tree.{Tree, Trees, node, ∅, ◌▸◌, count, records, records_all, trees_of}
use Rattle.records.specs.Slots.{slots, rec_at, recs_from, recs}
use Rattle.expansion.specs.Nodes.{is_macro_arg, Every, EveryIn}
use Rattle.expansion.specs.Expansion.{Named}
use Rattle.expansion.specs.Flat.{span, end_of, child_at, fill, Fits as FitsIn, Placed, called_at, opened_at}
use Rattle.expansion.proofs.NodeLaws.{some_same}
use Rattle.expansion.proofs.SpanLaws.{span-add}
use Rattle.expansion.proofs.IndexLaws.{child-last, all-at}
use Rattle.grounds.proofs.At.{here, length-recs, end_more}
use Rattle.judging.proofs.ScanLaws.{trees-few}
use Rattle.judging.specs.declared.table.Entry.{Entry}
use Rattle.std.specs.Prelude.{Option as Maybe, Some, None}
use Rattle.opening.specs.declared.Side.{Side}
use Rattle.opening.specs.Wrote.{Appendable, Wrote}
use Rattle.opening.specs.Ends.{Childed, Child, behind}
use Rattle.opening.specs.Made.{params_at}
use Rattle.opening.specs.Walk.{Region, Ready, Room, Readied, Fillable, Opened, Filled}
use Rattle.opening.proofs.EndsLaws.{hop-start, ends-later, hop-inside, hop-end}
use Rattle.opening.proofs.WroteLaws.{wrote-store, wrote-out, wrote_none, wrote-both, wrote_stop, wrote_keeps}
use Rattle.opening.proofs.KeepLaws.{recs-part, ready_keep, ready-inside, room_next, room-one}
use Rattle.opening.proofs.CalledLaws.{call_found, call_inside}

-- ---- MacroArgs of a list of records are below a number

unfoldable pub ArgsBelow : ℕ → List Rec → Type 0
ArgsBelow m [] = Unit {0}
ArgsBelow m (r ∷ rs) = (is_macro_arg r.kind ≡ true → r.word1 < m) × ArgsBelow m rs

args-append : (m : ℕ) (rs ss : List Rec) → ArgsBelow m rs → ArgsBelow m ss → ArgsBelow m (rs ++ ss)
unfolding ArgsBelow
args-append m [] ss a b = b
args-append m (r ∷ rs) ss a b = (a.0, args-append m rs ss a.1 b)

mutual
  unfolding ArgsBelow records

  args-tree : (m : ℕ) (t : Tree) → Every (FitsIn m) t → ArgsBelow m (records t)
  args-tree m (node h ts) e = (λ q. (e.0 q).1, args-trees m ts e.1)

  args-trees : (m : ℕ) (ts : Trees) → EveryIn (FitsIn m) ts → ArgsBelow m (records_all ts)
  args-trees m ∅ e = tt
  args-trees m (t ▸ ts) e = args-append m (records t) (records_all ts) (args-tree m t e.0) (args-trees m ts e.1)

-- ---- a child of a record

module _ (text : List ℕ) (t : List Entry) (starts src ends : List ℕ) (pa pc : ℕ) where
  module _ (k : ℕ) (s : List ℕ) (S : List (Named Tree)) (r : Ready text t starts src ends pa pc k s S) where
    whole : (rec_at src k).count ≤ count (trees_of (drop (k + 1) (recs src)))
    whole = (all-at (recs src) Placed r.placed k (rec_at src k) (drop (k + 1) (recs src)) (here src k r.inside)).whole

    module _ (c a : ℕ) (child : Child src k c a) where
      child-inside : a < slots src
      child-inside = hop-inside src (k + 1) c (rec_at src k).count a whole child.at child.below

      child-end : end_of (recs src) a ≤ end_of (recs src) k
      unfolding child_at
      child-end =
          let z : (rec_at src k).count ≡ c + 1 + ((rec_at src k).count - (c + 1)) = omega (arith, child.below) in
          let e : behind src (k + 1) (rec_at src k).count ≡ end_of (recs src) k = child-last (recs src) k (rec_at src k) (here src k r.inside) in
          omega (arith, hop-end src (k + 1) c a child.at, ap (span (drop (k + 1) (recs src))) z, span-add (drop (k + 1) (recs src)) (c + 1) ((rec_at src k).count - (c + 1)))

      child-ready : Ready text t starts src ends pa pc a s S
      child-ready = ready-inside text t starts src ends pa pc S k a s (omega (arith, child.at)) child-inside child-end r

  pub readied-child : (k c a : ℕ) (s : List ℕ) → Child src k c a → Readied text t starts src ends pa pc k s → Readied text t starts src ends pa pc a s
  unfolding Readied
  readied-child k c a s child e = (e.0, child-ready k s e.0 e.1 c a child)

-- ---- filling a template: what is left of it leads to the whole

recs-cons : (s : List ℕ) (j end : ℕ) → j < end → recs_from s j (end - j) ≡ rec_at s j ∷ recs_from s (j + 1) (end - (j + 1))
unfolding recs_from
recs-cons s j end h = let e : end - j ≡ suc (end - (j + 1)) = omega arith in rw (e, add-one j)

module _ (outward : Side) (space : ℕ) (text : List ℕ) (t : List Entry) (starts src ends : List ℕ) (pa pc : ℕ) where
  abbrev ReadyAt : ℕ → List ℕ → List (Named Tree) → Type 0
  ReadyAt i s S = Ready text t starts src ends pa pc i s S

  -- what the record k calls
  abbrev Calls : List (Named Tree) → ℕ → Tree → Type 0
  Calls S k c = called_at text S (rec_at src k) (drop (k + 1) (recs src)) ≡ some c

  -- the argument j of the call at the index k, opened
  abbrev argument : List (Named Tree) → ℕ → ℕ → List Rec
  argument S k j = opened_at text S (params_at src pa pc) (recs src) (child_at (recs src) k (suc j)) 1

  -- of the template that the record k calls, the records from the slot j of the store up to `end` are left; whatever writes these, filled, after y records
  -- has written the whole; `from` is the index after `last` children of the call
  pub record Scanning (s₀ o₀ : List ℕ) (k m : ℕ) (s o : List ℕ) (end j y from last : ℕ) : Type 0 where
    pub readied : Readied text t starts src ends pa pc k s
    pub ready : (S : List (Named Tree)) → ReadyAt k s₀ S → ReadyAt k s S
    pub room : Room outward space (get_or starts (length t) 0) s o y
    pub within : end ≤ get_or starts (length t) 0
    pub begun : from ≡ behind src (k + 1) last
    pub args : ArgsBelow ((rec_at src k).count - 1) (recs_from s j (end - j))
    pub store_same : length s ≡ length s₀
    pub out_same : length o ≡ length o₀
    pub leads : (S : List (Named Tree)) → ReadyAt k s₀ S → (c : Tree) → Calls S k c → (s' o' : List ℕ) (z : Maybe ℕ)
        → Wrote outward space s o y (fill (argument S k) (recs_from s j (end - j))) s' o' z → Wrote outward space s₀ o₀ m (fill (argument S k) (records c)) s' o' z

  module _ (s₀ o₀ : List ℕ) (k x m : ℕ) (e : Fillable outward space text t starts src ends pa pc k x s₀ o₀ m) where
    entry_ready : (S : List (Named Tree)) × ReadyAt k s₀ S
    unfolding Readied
    entry_ready = e.readied

    pub fillable_starts : x + 1 < length starts
    fillable_starts = omega (arith, call_inside text t starts src ends pa pc entry_ready.0 k s₀ entry_ready.1 k entry_ready.1.inside x e.number, entry_ready.1.starts-long)

    pub fillable_inside : k < 65536
    fillable_inside = omega (arith, entry_ready.1.inside, entry_ready.1.small)

    the_call : (S : List (Named Tree)) → ReadyAt k s₀ S → (c : Tree) × Calls S k c × Region starts s₀ (get_or starts (length t) 0) x c
    the_call S r = call_found text t starts src ends pa pc S k s₀ r k r.inside x e.number

    the_region : (S : List (Named Tree)) → ReadyAt k s₀ S → (c : Tree) → Calls S k c → Region starts s₀ (get_or starts (length t) 0) x c
    the_region S r c q =
        let w = the_call S r in
        let same : w.0 ≡ c = some_same (called_at text S (rec_at src k) (drop (k + 1) (recs src))) w.0 c w.1 q in
        rw (← same) w.2

    pub scanning_start : Scanning s₀ o₀ k m s₀ o₀ (get_or starts (x + 1) 0) (get_or starts x 0) m (k + 1) 0
    scanning_start =
        let r = entry_ready.1 in
        let w = the_call entry_ready.0 r in
        record {
          readied = e.readied;
          ready = λ S r. r;
          room = e.room;
          within = w.2.inside;
          begun = hop-start src (k + 1);
          args = rw (← w.2.holds) (args-tree ((rec_at src k).count - 1) w.0 (r.fits k (omega arith) (end_more (recs src) k (rec_at src k) (here src k r.inside)) w.0 w.1));
          store_same = refl;
          out_same = refl;
          leads = λ S r c q s' o' z v. rw (the_region S r c q).holds v;
        }

  module _ (s₀ o₀ : List ℕ) (k m : ℕ) (s o : List ℕ) (end j y from last : ℕ) (g : Scanning s₀ o₀ k m s o end j y from last) where
    held : List (Named Tree)
    unfolding Readied
    held = g.readied.0

    now_ready : ReadyAt k s held
    unfolding Readied held
    now_ready = g.readied.1

    children : (rec_at src k).count ≤ count (trees_of (drop (k + 1) (recs src)))
    children = whole text t starts src ends pa pc k s held now_ready

    pub scanning_inside : end ≤ slots s
    scanning_inside = omega (arith, g.within, now_ready.base_in)

    pub scanning_most : end ≤ 65536
    scanning_most = omega (arith, g.within, now_ready.base_small)

    pub scanning_room : Appendable outward space s o y
    scanning_room = room-one outward space (get_or starts (length t) 0) s o y g.room

    pub scanning_end : end ≤ j → Filled outward space text t starts src ends pa pc k s₀ o₀ m s o (Some y)
    unfolding Filled fill recs_from
    scanning_end h S r c q =
        let z : end - j ≡ 0 = omega arith in
        g.leads S r c q s o (Some y) (rw z (wrote_none outward space s o y g.room.fits))

    -- a child stands after the record
    pub scanning_less : (c a z : ℕ) → Child src k c a → 2 * (slots src - k) ≡ z → 2 * (slots src - a) + 1 < z
    scanning_less c a z child h = omega (arith, child.at, child-inside text t starts src ends pa pc k s held now_ready c a child)

    module _ (more : j < end) (r : Rec) (is : r ≡ rec_at s j) where
      split : recs_from s j (end - j) ≡ r ∷ recs_from s (j + 1) (end - (j + 1))
      split = recs-cons s j end more ∙ ap (◌∷ recs_from s (j + 1) (end - (j + 1))) (sym is)

      -- what is left after the record r
      abbrev later : List (Named Tree) → List Rec
      later S = fill (argument S k) (recs_from s (j + 1) (end - (j + 1)))

      -- a part of what is left is written
      module _ (s₁ o₁ : List ℕ) (l : List (Named Tree) → List Rec)
          (splits : (S : List (Named Tree)) → fill (argument S k) (recs_from s j (end - j)) ≡ l S ++ later S) where
        part-full : ((S : List (Named Tree)) → ReadyAt k s S → Wrote outward space s o y (l S) s₁ o₁ None) → Filled outward space text t starts src ends pa pc k s₀ o₀ m s₁ o₁ None
        unfolding Filled
        part-full w S q c e =
            g.leads S q c e s₁ o₁ None (rw (splits S) (wrote_stop outward space s o s₁ o₁ y (l S) (later S) (w S (g.ready S q))))

        part : (y₁ from₁ last₁ : ℕ) → from₁ ≡ behind src (k + 1) last₁ → ((S : List (Named Tree)) → ReadyAt k s S → Wrote outward space s o y (l S) s₁ o₁ (Some y₁)) → Scanning s₀ o₀ k m s₁ o₁ end (j + 1) y₁ from₁ last₁
        unfolding ArgsBelow Readied
        part y₁ from₁ last₁ begun w =
            let l₁ : List Rec = l held in
            let w₁ : Wrote outward space s o y l₁ s₁ o₁ (Some y₁) = w held now_ready in
            let same : length s₁ ≡ length s = wrote-store outward space s o s₁ o₁ y (Some y₁) l₁ w₁ in
            let kept : recs_from s₁ 0 (get_or starts (length t) 0) ≡ recs_from s 0 (get_or starts (length t) 0) = wrote_keeps outward space (get_or starts (length t) 0) s o s₁ o₁ y y₁ l₁ g.room.low w₁ in
            let keep : (S : List (Named Tree)) → ReadyAt k s S → ReadyAt k s₁ S = λ S q. ready_keep text t starts src ends pa pc S k s s₁ kept same q in
            let tail : recs_from s₁ (j + 1) (end - (j + 1)) ≡ recs_from s (j + 1) (end - (j + 1)) = recs-part s s₁ (get_or starts (length t) 0) (j + 1) (end - (j + 1)) kept (omega (arith, g.within)) in
            let below : ArgsBelow ((rec_at src k).count - 1) (r ∷ recs_from s (j + 1) (end - (j + 1))) = rw split at g.args in
            record {
              readied = (held, keep held now_ready);
              ready = λ S q. keep S (g.ready S q);
              room = room_next outward space (get_or starts (length t) 0) s o s₁ o₁ y y₁ l₁ g.room w₁;
              within = g.within;
              begun = begun;
              args = rw tail below.1;
              store_same = same ∙ g.store_same;
              out_same = wrote-out outward space s o s₁ o₁ y (Some y₁) l₁ w₁ ∙ g.out_same;
              leads = λ S q c e s' o' z v.
                  g.leads S q c e s' o' z (rw (splits S) (wrote-both outward space s o s₁ o₁ s' o' y y₁ z (l S) (later S) (w S (g.ready S q)) (rw tail at v)));
            }

      -- a record is copied
      module _ (kind : r.kind ≡ 38 → ⊥) (s₁ o₁ : List ℕ) where
        copied : (S : List (Named Tree)) → fill (argument S k) (recs_from s j (end - j)) ≡ (r ∷ []) ++ later S
        unfolding fill is_macro_arg
        copied S = rw (split, ne_eqb r.kind 38 kind)

        pub scanning_put_full : Wrote outward space s o y (r ∷ []) s₁ o₁ None → Filled outward space text t starts src ends pa pc k s₀ o₀ m s₁ o₁ None
        scanning_put_full w = part-full s₁ o₁ (λ S. r ∷ []) copied (λ S q. w)

        put : (y₁ : ℕ) → Wrote outward space s o y (r ∷ []) s₁ o₁ (Some y₁) → Scanning s₀ o₀ k m s₁ o₁ end (j + 1) y₁ from last
        put y₁ w = part s₁ o₁ (λ S. r ∷ []) copied y₁ from last g.begun (λ S q. w)

      -- an argument is opened
      module _ (kind : r.kind ≡ 38) where
        few : r.word1 + 1 < (rec_at src k).count
        unfolding ArgsBelow is_macro_arg
        few =
            let below : ArgsBelow ((rec_at src k).count - 1) (r ∷ recs_from s (j + 1) (end - (j + 1))) = rw split at g.args in
            omega (arith, below.0 (eq-eqb r.kind 38 kind))

        pub scanning_fits : Fits w64 (r.word1 + 1)
        scanning_fits = record { fits = omega (arith, few, children, trees-few (drop (k + 1) (recs src)), length-drop (k + 1) (recs src), length-recs src, now_ready.small) }

        pub scanning_childed : Childed src ends k from last (r.word1 + 1)
        scanning_childed =
            record {
              hop = record { ended = ends-later src ends (k + 1) now_ready.ended; long = now_ready.ends-long; there = omega (arith, few, children); begun = g.begun };
              below = few;
              inside = now_ready.inside;
            }

        module _ (a : ℕ) (child : Child src k (r.word1 + 1) a) (s₁ o₁ : List ℕ) (v : Maybe ℕ) (opened : Opened outward space text t starts src ends pa pc a s o y s₁ o₁ v) where
          wrote : (S : List (Named Tree)) → ReadyAt k s S → Wrote outward space s o y (argument S k r.word1) s₁ o₁ v
          unfolding Opened child_at
          wrote S q =
              let e : a ≡ child_at (recs src) k (suc r.word1) = child.at ∙ ap (behind src (k + 1)) (add-one r.word1) in
              rw (← e) (opened S (child-ready text t starts src ends pa pc k s S q (r.word1 + 1) a child))

          filled : (S : List (Named Tree)) → fill (argument S k) (recs_from s j (end - j)) ≡ argument S k r.word1 ++ later S
          unfolding fill is_macro_arg
          filled S = rw (split, eq-eqb r.kind 38 kind)

          pub scanning_arg_full : v ≡ None → Filled outward space text t starts src ends pa pc k s₀ o₀ m s₁ o₁ None
          scanning_arg_full h = part-full s₁ o₁ (λ S. argument S k r.word1) filled (λ S q. rw h at (wrote S q))

          pub scanning_arg : (y₁ : ℕ) → v ≡ Some y₁ → Scanning s₀ o₀ k m s₁ o₁ end (j + 1) y₁ a (r.word1 + 1)
          scanning_arg y₁ h = part s₁ o₁ (λ S. argument S k r.word1) filled y₁ a (r.word1 + 1) child.at (λ S q. rw h at (wrote S q))

  -- a record is copied: what was written comes first, since the rest is found from it
  pub scanning_put : (s₀ o₀ : List ℕ) (k m : ℕ) (s o : List ℕ) (end j y from last : ℕ) (r : Rec) (s₁ o₁ : List ℕ) (y₁ : ℕ) → Wrote outward space s o y (r ∷ []) s₁ o₁ (Some y₁)
      → r ≡ rec_at s j → (r.kind ≡ 38 → ⊥)
      → Scanning s₀ o₀ k m s o end j y from last → j < end → Scanning s₀ o₀ k m s₁ o₁ end (j + 1) y₁ from last
  scanning_put s₀ o₀ k m s o end j y from last r s₁ o₁ y₁ w is kind g more = put s₀ o₀ k m s o end j y from last g more r is kind s₁ o₁ y₁ w
