-- The loop of opening a tree: its invariant, and a law for each way through it. Assumes nothing.
use mathlib.Core.Path.{◌≡◌, refl, sym, ap, ◌∙◌}
use mathlib.Core.Option.{some}
use mathlib.Core.List.{List, [], ◌∷◌, ◌++◌}
use Prim.Native.Nat.{ℕ, suc, ◌+◌, ◌-◌, ◌<◌, ◌≤◌}
use native.Mathlib.Omega.{arith}
use lib.ListN.{length, get_or, drop, length-drop}
use Rattle.trees.specs.declared.Rec.{Rec}
use Rattle.trees.specs.Tree.{Tree, Trees, count, firsts, records, trees_of}
use Rattle.trees.proofs.Laws.{count-size}
use Rattle.records.specs.Slots.{slots, rec_at, recs}
use Rattle.expansion.specs.Templates.{make_templates}
use Rattle.expansion.specs.Expansion.{Named, opens_by}
use Rattle.expansion.specs.Flat.{span, end_of, child_at, fill, Placed, called_at, opened_records, opened_at}
use Rattle.expansion.proofs.TemplateLaws.{count_make}
use Rattle.expansion.proofs.OpenLaws.{count-opens}
use Rattle.expansion.proofs.SpanLaws.{span-add, count-firsts}
use Rattle.expansion.proofs.FlatOpening.{opened-none}
use Rattle.expansion.proofs.IndexLaws.{all-at, at_call}
use Rattle.grounds.proofs.At.{here, length-recs, trees-at, end_more}
use Rattle.judging.proofs.ScanLaws.{tree-inside, trees-few}
use Rattle.judging.specs.declared.table.Entry.{Entry}
use Rattle.std.specs.Prelude.{Option as Maybe, Some, None}
use Rattle.opening.specs.declared.Side.{Side}
use Rattle.opening.specs.Wrote.{Appendable, Wrote}
use Rattle.opening.specs.Ends.{EndsFrom, behind}
use Rattle.opening.specs.declared.made.Made.{Made}
use Rattle.opening.specs.Made.{params_at, Located, Makeable, MadeAt, call_number}
use Rattle.opening.specs.Walk.{Region, Ready, Room, Readied, Fillable, Opened, Filled}
use Rattle.opening.proofs.MadeLaws.{passed}
use Rattle.opening.proofs.WroteLaws.{wrote-store, wrote-out, wrote_none, wrote-both, wrote-longer, wrote_stop, wrote_keeps}
use Rattle.opening.proofs.KeepLaws.{ready_keep, ready-inside, room_next, room-one}
use Rattle.opening.proofs.CalledLaws.{call_missing, call_found}

-- n trees are n records at least, opened too
opened-size : (text : List ℕ) (S : List (Named Tree)) (ps : Trees) (rs : List Rec) (n : ℕ) → n ≤ count (trees_of rs) → n ≤ length (opened_records text S ps rs n)
unfolding opened_records
opened-size text S ps rs n h =
    let ts : Trees = firsts n (trees_of rs) in
    omega (arith, count-size (opens_by text S (make_templates text ps ts)), count-opens text S (make_templates text ps ts), count_make text ps ts, count-firsts n (trees_of rs) h)

module _ (outward : Side) (space : ℕ) (text : List ℕ) (t : List Entry) (starts src ends : List ℕ) (pa pc : ℕ) where
  abbrev ReadyAt : ℕ → List ℕ → List (Named Tree) → Type 0
  ReadyAt i s S = Ready text t starts src ends pa pc i s S

  -- the records of c trees from the index k on, opened
  abbrev opens : List (Named Tree) → ℕ → ℕ → List Rec
  opens S k c = opened_at text S (params_at src pa pc) (recs src) k c

  -- of the tree at the index i, `todo` trees are left to open, from the index k on; whatever writes these after y records has written the whole
  pub record Walking (s₀ o₀ : List ℕ) (i m : ℕ) (s o : List ℕ) (todo k y : ℕ) : Type 0 where
    pub readied : Readied text t starts src ends pa pc i s
    pub ready : (S : List (Named Tree)) → ReadyAt i s₀ S → ReadyAt i s S
    pub room : Room outward space (get_or starts (length t) 0) s o y
    pub there : todo ≤ count (trees_of (drop k (recs src)))
    pub onward : i ≤ k
    pub upto : behind src k todo ≡ end_of (recs src) i
    pub store_same : length s ≡ length s₀
    pub out_same : length o ≡ length o₀
    pub leads : (S : List (Named Tree)) → ReadyAt i s₀ S → (s' o' : List ℕ) (z : Maybe ℕ) → Wrote outward space s o y (opens S k todo) s' o' z → Wrote outward space s₀ o₀ m (opens S i 1) s' o' z

  pub walking_start : (s₀ o₀ : List ℕ) (i m : ℕ) → Readied text t starts src ends pa pc i s₀ → Room outward space (get_or starts (length t) 0) s₀ o₀ m → Walking s₀ o₀ i m s₀ o₀ 1 i m
  unfolding Readied end_of count
  walking_start s₀ o₀ i m e room =
      record {
        readied = e;
        ready = λ S r. r;
        room = room;
        there = omega (arith, ap count (trees-at (recs src) i (rec_at src i) (here src i e.1.inside)));
        onward = omega arith;
        upto = refl;
        store_same = refl;
        out_same = refl;
        leads = λ S r s' o' z w. w;
      }

  module _ (s₀ o₀ : List ℕ) (i m : ℕ) (s o : List ℕ) (todo k y : ℕ) (g : Walking s₀ o₀ i m s o todo k y) where
    held : List (Named Tree)
    unfolding Readied
    held = g.readied.0

    now_ready : ReadyAt i s held
    unfolding Readied held
    now_ready = g.readied.1

    pub walking_few : todo ≤ slots src - k
    walking_few = omega (arith, g.there, trees-few (drop k (recs src)), length-drop k (recs src), length-recs src)

    pub walking_small : todo ≤ 65536
    walking_small = omega (arith, walking_few, now_ready.small)

    pub walking_room : Appendable outward space s o y
    walking_room = room-one outward space (get_or starts (length t) 0) s o y g.room

    pub walking_end : todo ≤ 0 → Opened outward space text t starts src ends pa pc i s₀ o₀ m s o (Some y)
    unfolding Opened
    walking_end h S r =
        let z : todo ≡ 0 = omega arith in
        g.leads S r s o (Some y) (rw (z, opened-none text S (params_at src pa pc) (drop k (recs src))) (wrote_none outward space s o y g.room.fits))

    module _ (more : 0 < todo) where
      inside : k < slots src
      inside = tree-inside src k todo more g.there

      left_is : todo ≡ suc (todo - 1)
      left_is = omega arith

      spot : drop k (recs src) ≡ rec_at src k ∷ drop (k + 1) (recs src)
      spot = here src k inside

      first-end : end_of (recs src) k ≤ end_of (recs src) i
      unfolding end_of
      first-end =
          let e : todo ≡ 1 + (todo - 1) = omega arith in
          omega (arith, g.upto, ap (span (drop k (recs src))) e, span-add (drop k (recs src)) 1 (todo - 1))

      ready-here : (S : List (Named Tree)) → ReadyAt i s S → ReadyAt k s S
      ready-here S r = ready-inside text t starts src ends pa pc S i k s g.onward inside first-end r

      end_is : (k₁ : ℕ) → k₁ ≡ get_or ends k 0 → k₁ ≡ end_of (recs src) k
      unfolding EndsFrom
      end_is k₁ read = read ∙ now_ready.ended k (omega arith) (omega (arith, inside, length-recs src))

      located : Located src k
      located = record { placed = now_ready.placed; inside = inside }

      -- what the calls ask

      pub walking_callable : Located src k
      walking_callable = located

      pub walking_makeable : Makeable src ends pa pc k
      walking_makeable = record { params = record { leaves = now_ready.params; params_in = now_ready.params_in }; located = located; ended = now_ready.ended; ends-long = now_ready.ends-long }

      pub walking_ended : k < length ends
      walking_ended = omega (arith, inside, now_ready.ends-long)

      pub walking_fillable : (o' : Maybe ℕ) (x : ℕ) → o' ≡ call_number text t src k → o' ≡ Some x → Fillable outward space text t starts src ends pa pc k x s o y
      unfolding Readied
      walking_fillable o' x number is = record { readied = (held, ready-here held now_ready); room = g.room; number = sym is ∙ number }

      -- a part of what is left is written
      module _ (s₁ o₁ : List ℕ) (l : (S : List (Named Tree)) → ReadyAt i s S → List Rec)
          (todo₁ k₁ : ℕ) (splits : (S : List (Named Tree)) (r : ReadyAt i s S) → opens S k todo ≡ l S r ++ opens S k₁ todo₁) where
        part-full : ((S : List (Named Tree)) (r : ReadyAt i s S) → Wrote outward space s o y (l S r) s₁ o₁ None) → Opened outward space text t starts src ends pa pc i s₀ o₀ m s₁ o₁ None
        unfolding Opened
        part-full w S q = let r : ReadyAt i s S = g.ready S q in g.leads S q s₁ o₁ None (rw (splits S r) (wrote_stop outward space s o s₁ o₁ y (l S r) (opens S k₁ todo₁) (w S r)))

        part : (y₁ : ℕ) → ((S : List (Named Tree)) (r : ReadyAt i s S) → Wrote outward space s o y (l S r) s₁ o₁ (Some y₁)) → todo₁ ≤ count (trees_of (drop k₁ (recs src))) → k < k₁ → behind src k₁ todo₁ ≡ behind src k todo → Walking s₀ o₀ i m s₁ o₁ todo₁ k₁ y₁
        unfolding Readied
        part y₁ w there on upto =
            let l₁ : List Rec = l held now_ready in
            let w₁ : Wrote outward space s o y l₁ s₁ o₁ (Some y₁) = w held now_ready in
            let same : length s₁ ≡ length s = wrote-store outward space s o s₁ o₁ y (Some y₁) l₁ w₁ in
            let keep : (S : List (Named Tree)) → ReadyAt i s S → ReadyAt i s₁ S =
            λ S r. ready_keep text t starts src ends pa pc S i s s₁ (wrote_keeps outward space (get_or starts (length t) 0) s o s₁ o₁ y y₁ l₁ g.room.low w₁) same r in
            record {
              readied = (held, keep held now_ready);
              ready = λ S r. keep S (g.ready S r);
              room = room_next outward space (get_or starts (length t) 0) s o s₁ o₁ y y₁ l₁ g.room w₁;
              there = there;
              onward = omega (arith, g.onward);
              upto = upto ∙ g.upto;
              store_same = same ∙ g.store_same;
              out_same = wrote-out outward space s o s₁ o₁ y (Some y₁) l₁ w₁ ∙ g.out_same;
              leads = λ S q s' o' z v.
                  let r : ReadyAt i s S = g.ready S q in
                  g.leads S q s' o' z (rw (splits S r) (wrote-both outward space s o s₁ o₁ s' o' y y₁ z (l S r) (opens S k₁ todo₁) (w S r) v));
            }

      -- a record finds no space, whichever it is: there is a tree to open, and that is one record at least
      pub walking_put_full : (r : Rec) (s₁ o₁ : List ℕ) → Wrote outward space s o y (r ∷ []) s₁ o₁ None → Opened outward space text t starts src ends pa pc i s₀ o₀ m s₁ o₁ None
      unfolding Opened
      walking_put_full r s₁ o₁ w S q =
          g.leads S q s₁ o₁ None (wrote-longer outward space s o s₁ o₁ y (r ∷ []) (opens S k todo)
          (omega (arith, opened-size text S (params_at src pa pc) (drop k (recs src)) todo g.there)) w)

      -- a record is written
      pub walking_put : (x : Maybe ℕ) (made : Made) (s₁ o₁ : List ℕ) (y₁ : ℕ) → x ≡ call_number text t src k → x ≡ None → MadeAt text src pa pc k made
          → Wrote outward space s o y (made.rec ∷ []) s₁ o₁ (Some y₁)
          → Walking s₀ o₀ i m s₁ o₁ (todo - 1 + made.rec.count) made.next y₁
      walking_put x made s₁ o₁ y₁ number plain is w =
          let c : made.rec.count + (todo - 1) ≡ todo - 1 + made.rec.count = omega arith in
          part s₁ o₁ (λ S r. made.rec ∷ []) (todo - 1 + made.rec.count) made.next
          (λ S r.
          ap (opens S k) left_is
          ∙ is.opens S (todo - 1) (call_missing text t starts src ends pa pc S i s r k inside (sym plain ∙ number))
          ∙ ap (λ (z : ℕ). made.rec ∷ opens S made.next z) c)
          y₁ (λ S r. w) (omega (arith, is.there (todo - 1) (omega (arith, g.there)))) is.forward
          (ap (behind src made.next) (sym c) ∙ is.ends (todo - 1) ∙ ap (behind src k) (sym left_is))

      -- the template of a call is filled
      module _ (o' : Maybe ℕ) (x : ℕ) (number : o' ≡ call_number text t src k) (found : o' ≡ Some x) where
        the_call : (S : List (Named Tree)) → ReadyAt i s S → (c : Tree) × (called_at text S (rec_at src k) (drop (k + 1) (recs src)) ≡ some c) × Region starts s (get_or starts (length t) 0) x c
        the_call S r = call_found text t starts src ends pa pc S i s r k inside x (sym found ∙ number)

        abbrev content : (S : List (Named Tree)) → ReadyAt i s S → List Rec
        content S r = fill (λ j. opens S (child_at (recs src) k (suc j)) 1) (records (the_call S r).0)

        splits : (S : List (Named Tree)) (r : ReadyAt i s S) → opens S k todo ≡ content S r ++ opens S (end_of (recs src) k) (todo - 1)
        splits S r =
            let v = the_call S r in
            ap (opens S k) left_is
            ∙ at_call text S (params_at src pa pc) (recs src) k (todo - 1) (rec_at src k) spot (all-at (recs src) Placed now_ready.placed k (rec_at src k) (drop (k + 1) (recs src)) spot)
            v.0 v.1 ((ready-here S r).fits k (omega arith) (end_more (recs src) k (rec_at src k) spot) v.0 v.1)

        module _ (s₁ o₁ : List ℕ) (z : Maybe ℕ) (filled : Filled outward space text t starts src ends pa pc k s o y s₁ o₁ z) where
          w : (S : List (Named Tree)) (r : ReadyAt i s S) → Wrote outward space s o y (content S r) s₁ o₁ z
          unfolding Filled
          w S r = filled S (ready-here S r) (the_call S r).0 (the_call S r).1

          pub walking_call_full : z ≡ None → Opened outward space text t starts src ends pa pc i s₀ o₀ m s₁ o₁ None
          walking_call_full h = part-full s₁ o₁ content (todo - 1) (end_of (recs src) k) splits (λ S r. rw h at (w S r))

          pub walking_call : (k₁ y₁ : ℕ) → k₁ ≡ get_or ends k 0 → z ≡ Some y₁ → Walking s₀ o₀ i m s₁ o₁ (todo - 1) k₁ y₁
          unfolding count
          walking_call k₁ y₁ read h =
              rw (end_is k₁ read)
              (part s₁ o₁ content (todo - 1) (end_of (recs src) k) splits y₁ (λ S r. rw h at (w S r))
              (omega (arith, ap count (trees-at (recs src) k (rec_at src k) spot), g.there)) (end_more (recs src) k (rec_at src k) spot)
              (passed (recs src) k (todo - 1) ∙ ap (behind src k) (sym left_is)))

      -- the next tree begins further on
      pub walking_less : (k₁ : ℕ) → k₁ ≡ get_or ends k 0 → slots src - k₁ < slots src - k
      walking_less k₁ read = let e : k₁ ≡ end_of (recs src) k = end_is k₁ read in omega (arith, end_more (recs src) k (rec_at src k) spot, inside)
