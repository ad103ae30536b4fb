-- The ways through the whole of opening. Assumes nothing.
use mathlib.Core.Path.{◌≡◌, refl, sym, ap, ◌∙◌}
use mathlib.Core.Option.{none, some}
use mathlib.Core.List.{List}
use Prim.Native.Nat.{ℕ, ◌<◌, ◌≤◌}
use native.Mathlib.Nat.{zero-add}
use native.Mathlib.Omega.{arith}
use lib.ListN.{length, get_or, take}
use Rattle.trees.specs.declared.Rec.{Rec}
use Rattle.trees.specs.Tree.{∅, firsts, records, records_all, trees_of}
use Rattle.records.specs.Slots.{slots, rec_at, recs, writes}
use Rattle.expansion.specs.Expansion.{opened_templates, opened}
use Rattle.expansion.specs.Flat.{opened_records, opened_at, store_records}
use Rattle.expansion.proofs.FlatOpening.{opened-pattern}
use Rattle.expansion.proofs.ListLaws.{list-named}
use Rattle.grounds.specs.declared.Counts.{Counts}
use Rattle.grounds.specs.Stages.{refusal, here, later, Refused}
use Rattle.grounds.specs.Order.{order, grounds}
use Rattle.grounds.specs.Opening.{tree_of, Written, counts, counts_of, Fits, of_space, Outcome, accept, refuse, all_opened, opening}
use Rattle.grounds.proofs.StageLaws.{refused_exactly, passed_exactly, verdict_++}
use Rattle.grounds.proofs.Exactly.{space_numbered}
use Rattle.grounds.proofs.Accepted.{acceptable}
use Rattle.grounds.proofs.Answers.{fits-space}
use Rattle.grounds.proofs.At.{here as spot, length-recs, end-upto}
use Rattle.std.specs.Prelude.{Option as Maybe, Some, None, Ok, Err}
use Rattle.records.specs.declared.Ground.TheVariants.{NoSpace}
use Rattle.records.specs.Grounds.{number}
use Rattle.judging.specs.declared.Flaw.{Flaw}
use Rattle.judging.specs.Judging.{flaw, Low}
use Rattle.judging.specs.Whole.{DefinitionsShaped, PatternShaped, Grounded}
use Rattle.judging.proofs.ShapeLaws.{pattern-there}
use Rattle.judging.proofs.ScanLaws.{tree-inside}
use Rattle.judging.specs.declared.table.Entry.{Entry}
use Rattle.opening.specs.declared.Side.TheVariants.{Store, Output}
use Rattle.opening.specs.Wrote.{Wrote}
use Rattle.opening.specs.Ends.{EndsFrom}
use Rattle.opening.specs.Made.{params_at}
use Rattle.opening.specs.Walk.{Readied, Room, Opened}
use Rattle.opening.specs.Store.{extractors_in, Source, Stored}
use Rattle.opening.specs.Answers.{Outputs, outputs, space_of, space_in, begun, Answer, Countable, answer_of}
use Rattle.opening.specs.Work.{ReadyFor, PatternOpened, Accepting, TemplatesAsked, PatternAsked, PatternAnswered, LastAsked, Work, WorkAsked, StoreDone, ended_at, Begin, Answers}
use Rattle.opening.proofs.WroteLaws.{wrote-store, wrote-over, Fitted, wrote_fitted}
use Rattle.opening.proofs.ReadyLaws.{fits-calls, templates-length, tree-records}

-- ---- space

space-is : (l : List ℕ) → (space_of l ≤ slots l) × (space_of l ≤ 65536)
unfolding space_of
space-is l = (omega arith, omega arith)

pub space-slots : (l : List ℕ) (s : ℕ) → s ≡ space_of l → s ≤ slots l
space-slots l s e = rw e (space-is l).0

pub space-most : (l : List ℕ) (s : ℕ) → s ≡ space_of l → s ≤ 65536
space-most l s e = rw e (space-is l).1

module _ (s o : List ℕ) (space : Counts) (is : space ≡ space_in (outputs s o)) where
  store_is : space.store ≡ space_of s
  unfolding space_in
  store_is = ap (λ (n : Counts). n.store) is

  output-is : space.output ≡ space_of o
  unfolding space_in
  output-is = ap (λ (n : Counts). n.output) is

  store-slots : space.store ≤ slots s
  store-slots = space-slots s space.store store_is

  store-most : space.store ≤ 65536
  store-most = space-most s space.store store_is

-- ---- the answer by the outcome

module _ (text defs p : List ℕ) (b b' : Outputs) where
  abbrev outcome : Outcome
  outcome = opening text (trees_of (recs defs)) (tree_of (recs p)) (space_in b)

  abbrev due : Written
  due = all_opened text (trees_of (recs defs)) (tree_of (recs p))

  answers-refused : (f : Flaw) → outcome ≡ refuse (refusal (number f.reason) f.place) → f.place < 131072 → Answers text defs p b b' (Err f)
  unfolding answer_of Countable Begin
  answers-refused f e h = record { answer = rw e; countable = h; records = rw e tt }

  -- by a ground
  answers-ground : (f : Flaw) → grounds text (trees_of (recs defs)) (tree_of (recs p)) ≡ some (refusal (number f.reason) f.place) → f.place < 131072 → Answers text defs p b b' (Err f)
  unfolding opening
  answers-ground f e h = answers-refused f (rw (verdict_++ (order text (trees_of (recs defs)) (tree_of (recs p))) (of_space (space_in b) (counts_of due)), e)) h

  module _ (fine : grounds text (trees_of (recs defs)) (tree_of (recs p)) ≡ none) where
    -- by lack of space
    answers-space : (f : Flaw) → Refused (of_space (space_in b) (counts_of due)) (number f.reason) f.place → f.place < 131072 → Answers text defs p b b' (Err f)
    unfolding opening
    answers-space f r h =
        answers-refused f (rw (
          verdict_++ (order text (trees_of (recs defs)) (tree_of (recs p))) (of_space (space_in b) (counts_of due)),
          fine,
          (refused_exactly (of_space (space_in b) (counts_of due)) (space_numbered (space_in b) (counts_of due)) (number f.reason) f.place).1 r,
        )) h

    answers-accepted : (n : Counts) → n ≡ counts_of due → Fits (space_in b) n → b' ≡ begun due b → Answers text defs p b b' (Ok n)
    unfolding opening answer_of Countable Begin space_in
    answers-accepted n e f w =
        let g : Fits (space_in b) (counts_of due) = rw (← e) f in
        let c : outcome ≡ accept due =
        rw (
          verdict_++ (order text (trees_of (recs defs)) (tree_of (recs p))) (of_space (space_in b) (counts_of due)),
          fine,
          (passed_exactly (of_space (space_in b) (counts_of due)) (space_numbered (space_in b) (counts_of due))).1 (fits-space (space_in b) (counts_of due) g),
        ) in
        record {
          answer = rw (c, e);
          countable = record { store = omega (arith, f.store, space-most b.store (space_of b.store) refl); output = omega (arith, f.output, space-most b.output (space_of b.output) refl) };
          records = rw c (w, g);
        }

-- ---- the grounds

pub answer-refused : (text defs p : List ℕ) (t : List Entry) (s o s' o' : List ℕ) (f : Flaw) → Grounded text defs p t (Err f) → DefinitionsShaped defs → PatternShaped p → Answers text defs p (outputs s o) (outputs s' o') (Err f)
unfolding Low
answer-refused text defs p t s o s' o' f g d q = answers-ground text defs p (outputs s o) (outputs s' o') f (sym g.answers.gives) (omega (arith, g.answers.low, d.few, q.small))

pub grounds-fine : (text defs p : List ℕ) (t : List Entry) (n : ℕ) (u : List ℕ) (rs : List Entry) → u ≡ text → rs ≡ take n t → Grounded text defs p t (Ok n) → DefinitionsShaped defs → PatternShaped p → Accepting u rs defs p
grounds-fine text defs p t n u rs i j g d q =
    let f : grounds text (trees_of (recs defs)) (tree_of (recs p)) ≡ none = sym g.answers.gives in
    let named = (rw q.one at (list-named (recs p) q.placed)).0 in
    let a = acceptable text (trees_of (recs defs)) (tree_of (recs p)) (list-named (recs defs) d.placed) named f in
    rw (i, j) (record {
      definitions = record { shape = d; table = g.table n refl; fine = a.definitions };
      pattern = record { shape = q; fine = a.pattern };
      fine = f;
    })

pub work_asked : (text : List ℕ) (t : List Entry) (defs p ends : List ℕ) (b : Outputs) (space : Counts) → space ≡ space_in b → Accepting text t defs p
    → slots defs ≤ length ends → slots p ≤ length ends → WorkAsked text t defs p ends b space
unfolding WorkAsked
work_asked text t defs p ends b space e g x y = record { accepting = g; ends-long = x; ends_enough = y; space-is = e }

-- ---- where no ground holds

module _ (text : List ℕ) (t : List Entry) (defs ends starts s : List ℕ) (space : ℕ) (a : TemplatesAsked text t defs ends starts s space) where
  pub templates-source : (ends' : List ℕ) → EndsFrom (recs defs) ends' 0 → length ends' ≡ length ends → Source text t defs ends'
  templates-source ends' e l =
      record {
        table = a.passed.table;
        fine = a.passed.fine;
        placed = a.passed.shape.placed;
        extractors-placed = a.passed.shape.extractors-placed;
        small = a.passed.shape.few;
        ended = e;
        ends-long = rw l a.ends-long;
      }

  pub starts_enough : length t < length starts
  starts_enough = omega (arith, a.passed.table.few, a.starts-long)

module _ (text : List ℕ) (t : List Entry) (p ends starts s o : List ℕ) (start space : ℕ) (a : PatternAsked text t p ends starts s o start space) where
  pub pattern_able : (ends' : List ℕ) → EndsFrom (recs p) ends' 0 → length ends' ≡ length ends → Readied text t starts p ends' 0 0 0 s
  unfolding ReadyFor Readied
  pattern_able ends' e l = (a.templates, a.ready ends' e (rw l a.ends-long))

  pub pattern-done : (ends' s' o' : List ℕ) (y : Maybe ℕ) → EndsFrom (recs p) ends' 0 → length ends' ≡ length ends → Opened Output space text t starts p ends' 0 0 0 s o start s' o' y → PatternOpened start space text t starts p s o s' o' y
  unfolding ReadyFor Opened PatternOpened
  pattern-done ends' s' o' y e l w = λ S r. w S (r ends' e (rw l a.ends-long))

module _ (text : List ℕ) (t : List Entry) (defs p ends : List ℕ) (s o : List ℕ) (space : Counts) (asked : WorkAsked text t defs p ends (outputs s o) space) where
  work : Work text t defs p ends (outputs s o) space
  unfolding WorkAsked
  work = asked

  pub templates_asked : (starts : List ℕ) → 256 < length starts → TemplatesAsked text t defs ends starts s space.store
  templates_asked starts l =
      record {
        passed = work.accepting.definitions;
        ends-long = work.ends-long;
        starts-long = l;
        there = store-slots s o space work.space-is;
        most = store-most s o space work.space-is;
      }

module _ (text : List ℕ) (t : List Entry) (defs p ends : List ℕ) (s o : List ℕ) (space : Counts) (asked : WorkAsked text t defs p ends (outputs s o) space)
    (starts s₁ o₁ : List ℕ) (r : Maybe ℕ) (stored : Stored space.store text t defs s o starts s₁ o₁ r) where
  working : Work text t defs p ends (outputs s o) space
  unfolding WorkAsked
  working = asked

  abbrev a : Accepting text t defs p
  a = working.accepting

  abbrev is : space ≡ space_in (outputs s o)
  is = working.space-is

  abbrev templates : List Rec
  templates = store_records (opened_templates text (extractors_in text defs))

  abbrev result : List Rec
  result = records (opened text (extractors_in text defs) (tree_of (recs p)))

  store-full : r ≡ None → Answers text defs p (outputs s o) (outputs s₁ o₁) (Err (flaw NoSpace 0))
  unfolding of_space Refused counts_of space_in
  store-full h =
      let l : space_of s < length templates = omega (arith, store_is s o space is, wrote-over Store space.store s o s₁ o₁ 0 templates (rw h at stored.wrote)) in
      answers-space text defs p (outputs s o) (outputs s₁ o₁) a.fine (flaw NoSpace 0) (here (refl, refl, l) (λ m j k f. omega (arith, f.1))) (omega arith)

  module _ (y : ℕ) (got : r ≡ Some y) where
    within : Fitted Store space.store s o s₁ o₁ 0 y templates
    within = wrote_fitted Store space.store s o s₁ o₁ 0 y templates (rw got at stored.wrote)

    pattern-room : (q : ℕ) → q ≡ space.output → Room Output q (get_or starts (length t) 0) s₁ o₁ 0
    pattern-room q e =
        record {
          fits = omega arith;
          there = rw within.kept (space-slots o q (e ∙ output-is s o space is));
          low = λ z. absurd (let u : ◌≡◌ {A = ℕ} 0 1 = cc in omega arith);
          most = space-most o q (e ∙ output-is s o space is);
        }

    pattern-ready : 256 < length starts → ReadyFor text t starts p s₁ (opened_templates text (extractors_in text defs))
    unfolding ReadyFor
    pattern-ready long ends e l =
        let start : 0 < slots p = tree-inside p 0 1 (omega arith) (pattern-there p a.pattern.shape) in
        record {
          rows = rw (stored.last y got) (stored.rows y got);
          sized = templates-length text (extractors_in text defs) ∙ a.definitions.table.size;
          starts-long = omega (arith, a.definitions.table.few);
          base_in = rw (stored.last y got, wrote-store Store space.store s o s₁ o₁ 0 r templates stored.wrote) (omega (arith, within.fits, store-slots s o space is));
          base_small = omega (arith, stored.last y got, within.fits, store-most s o space is);
          placed = a.pattern.shape.placed;
          small = a.pattern.shape.small;
          ended = e;
          ends-long = l;
          params = tt;
          params_in = omega arith;
          inside = start;
          fits = λ k h m v c. fits-calls text (extractors_in text defs) a.definitions.fine p a.pattern.shape.placed 0 (tree_of (recs p)) ∅ a.pattern.shape.one a.pattern.fine.counts k h m
              (omega (arith, end-upto (recs p) 0 (rec_at p 0) (spot p 0 start), length-recs p)) v c;
        }

    pattern_asked : (ends' : List ℕ) (q : ℕ) → q ≡ space.output → slots p ≤ length ends' → 256 < length starts → PatternAsked text t p ends' starts s₁ o₁ 0 q
    pattern_asked ends' q e l m =
        record {
          templates = opened_templates text (extractors_in text defs);
          ready = pattern-ready m;
          shape = a.pattern.shape;
          ends-long = l;
          room = pattern-room q e;
        }

    module _ (q : ℕ) (there-is : q ≡ space.output) (long : 256 < length starts) (s₂ o₂ : List ℕ) (v : Maybe ℕ) (done : PatternOpened 0 q text t starts p s₁ o₁ s₂ o₂ v) where
      content_is : opened_at text (opened_templates text (extractors_in text defs)) (params_at p 0 0) (recs p) 0 1 ≡ result
      unfolding opened firsts
      content_is =
          ap (λ (rs : List Rec). opened_records text (opened_templates text (extractors_in text defs)) ∅ rs 1) (tree-records p 0 (tree_of (recs p)) ∅ a.pattern.shape.placed a.pattern.shape.one)
          ∙ opened-pattern text (opened_templates text (extractors_in text defs)) (tree_of (recs p)) (records_all ∅)

      w : Wrote Output q s₁ o₁ 0 result s₂ o₂ v
      unfolding PatternOpened
      w = rw content_is at (done (opened_templates text (extractors_in text defs)) (pattern-ready long))

      store-fits : length templates ≤ space_of s
      store-fits = omega (arith, within.count, within.fits, store_is s o space is)

      out-full : v ≡ None → Answers text defs p (outputs s o) (outputs s₂ o₂) (Err (flaw NoSpace 1))
      unfolding of_space Refused counts_of space_in
      out-full h =
          let m : space_of o < length result = omega (arith, output-is s o space is, there-is, wrote-over Output q s₁ o₁ s₂ o₂ 0 result (rw h at w)) in
          answers-space text defs p (outputs s o) (outputs s₂ o₂) a.fine (flaw NoSpace 1) (later (λ n k f. omega (arith, f.2, store-fits)) (here (refl, refl, m) (λ n k l f. omega (arith, f.1)))) (omega arith)

      all-written : (z : ℕ) → v ≡ Some z → Answers text defs p (outputs s o) (outputs s₂ o₂) (Ok (counts y z))
      unfolding counts_of space_in begun
      all-written z h =
          let u : Fitted Output q s₁ o₁ s₂ o₂ 0 z result = wrote_fitted Output q s₁ o₁ s₂ o₂ 0 z result (rw h at w) in
          let c : s₂ ≡ writes s 0 templates = u.kept ∙ within.writes in
          let d : o₂ ≡ writes o 0 result = u.writes ∙ ap (λ (b : List ℕ). writes b 0 result) within.kept in
          answers-accepted text defs p (outputs s o) (outputs s₂ o₂) a.fine (counts y z)
          (rw (within.count, u.count, zero-add (length templates), zero-add (length result)))
          (record { store = omega (arith, within.fits, store_is s o space is); output = omega (arith, u.fits, output-is s o space is) })
          (rw (c, d))

    pattern_answered : 256 < length starts → (s₂ o₂ : List ℕ) (c : Answer) → PatternAnswered y space text t starts p s₁ o₁ s₂ o₂ c → Answers text defs p (outputs s o) (outputs s₂ o₂) c
    pattern_answered m s₂ o₂ c d = rw d.answer (go d.end refl)
      where
        go : (e : Maybe ℕ) → d.end ≡ e → Answers text defs p (outputs s o) (outputs s₂ o₂) (ended_at y d.end)
        go None q = rw q (out-full space.output refl m s₂ o₂ d.end d.opened q)
        go (Some z) q = rw q (all-written space.output refl m s₂ o₂ d.end d.opened z q)

  pub store-done : (ends' : List ℕ) → length ends' ≡ length ends → 256 < length starts → StoreDone text t defs p (outputs s o) space ends' starts s₁ o₁ r
  unfolding LastAsked
  store-done ends' e m =
      let l : slots p ≤ length ends' = rw e working.ends_enough in
      record {
        full = λ h. store-full h;
        next = λ y h. pattern_asked y h ends' space.output refl l m;
        after = λ y h. pattern_answered y h m;
      }

-- ---- the last steps

pub last_asked : (text : List ℕ) (t : List Entry) (p ends starts s o : List ℕ) (y : ℕ) (space : Counts) → LastAsked text t p ends starts s o y space → PatternAsked text t p ends starts s o 0 space.output
unfolding LastAsked
last_asked text t p ends starts s o y space a = a

module _ (text : List ℕ) (t : List Entry) (defs p : List ℕ) (b : Outputs) (space : Counts) (ends starts s o : List ℕ) (r : Maybe ℕ) (done : StoreDone text t defs p b space ends starts s o r) where
  pub done_full : (e : Flaw) → e ≡ flaw NoSpace 0 → r ≡ None → Answers text defs p b (outputs s o) (Err e)
  done_full e is h = rw is (done.full h)

  pub done_next : (y : ℕ) → r ≡ Some y → LastAsked text t p ends starts s o y space
  done_next y h = done.next y h

  pub done-after : (y : ℕ) → r ≡ Some y → (s' o' : List ℕ) (a : Answer) → PatternAnswered y space text t starts p s o s' o' a → Answers text defs p b (outputs s' o') a
  done-after y h = done.after y h

module _ (y : ℕ) (space : Counts) (text : List ℕ) (t : List Entry) (starts p s o s' o' : List ℕ) (r : Maybe ℕ) (done : PatternOpened 0 space.output text t starts p s o s' o' r) where
  pub last-full : (e : Flaw) → e ≡ flaw NoSpace 1 → r ≡ None → PatternAnswered y space text t starts p s o s' o' (Err e)
  last-full e is h = rw is (record { end = r; opened = done; answer = rw h })

  pub last_fits : (z : ℕ) → r ≡ Some z → PatternAnswered y space text t starts p s o s' o' (Ok (counts y z))
  last_fits z h = record { end = r; opened = done; answer = rw h }
