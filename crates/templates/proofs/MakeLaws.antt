-- Making a template, one slot of the pattern after another: a law for each way through its code. Assumes nothing.
use Prim.Native.Nat.{ℕ, zero, suc, ◌+◌, ◌<◌, ◌≤◌}
use native.Mathlib.Omega.{arith}
use native.Mathlib.Nat.{zero-add}
use mathlib.Core.Path.{◌≡◌, refl, sym, ap, ◌∙◌}
use mathlib.Core.Bool.{Bool, true, false}
use mathlib.Core.Option.{Option, none, some}
use Rattle.std.specs.Prelude.{Option as Found, Some, None, IfSome, IfNone, MatchOption, Ok, Err}
use mathlib.Core.List.{List, [], ◌∷◌}
use lib.ListN.{length, drop}
use lib.Seq.{drop-drop}
use lib.Dec.{eqb}
use borrow.Author.Tests.{eq-eqb, ne_eqb, lt-ltb, le-ltb}
use Rattle.trees.specs.Choice.{pick}
use Rattle.trees.specs.declared.Rec.{Rec}
use Rattle.trees.specs.Tree.{Trees, node, ∅, ◌▸◌, firsts, others, head_of, trees_of}
use Rattle.trees.specs.Names.{spelled}
use Rattle.words.specs.Bytes.{same_bytes}
use Rattle.records.specs.Slots.{slots, rec_at, recs}
use Rattle.records.proofs.RecsLaws.{length-recs, recs-at, recs-end}
use Rattle.expansion.specs.Nodes.{is_var, is_bind, is_wildcard}
use Rattle.expansion.specs.Templates.{next, position}
use Rattle.expansion.specs.Flat.{wildcard_next, below, stands_at, making}
use Rattle.expansion.proofs.IndexLaws.{all-at}
use Rattle.expansion.proofs.FlatTemplates.{at_other}
use Rattle.expansion.proofs.ListLaws.{list_make}
use Rattle.forms.specs.Lists.{FirstToPass, first_of}
use Rattle.templates.specs.declared.Refused.{Refused}
use Rattle.templates.specs.declared.Refused.TheVariants.{MacroArg}
use Rattle.templates.specs.declared.output.Output.{Output}
use Rattle.templates.specs.Answers.{is_arg, space, template_records, template_answer, fitted, Answered, Leaf, Params, MakeReady}
use Rattle.templates.specs.Writing.{Empty, Wrote, Reaches}
use Rattle.templates.specs.Scans.{option_of, params_of, named_next, named_at, wildcard_at, parameter_at, making_from, argument, after_parameter, MadeAt}
use Rattle.templates.proofs.WriteLaws.{reaches_more, reaches_stop, reaches_end}
use Rattle.templates.proofs.AnswerLaws.{answered_refusal, answered_full, answered_all}

-- ---- the first parameter of a name

-- an index counted from i on
abbrev pub later : ℕ → Option ℕ → Option ℕ
later i none = none
later i (some j) = some (i + j)

later-start : (o : Option ℕ) → o ≡ later 0 o
later-start none = refl
later-start (some j) = ap some (sym (zero-add j))

later-next : (i : ℕ) (o : Option ℕ) → later i (next o) ≡ later (i + 1) o
later-next i none = refl
later-next i (some j) = let e : i + suc j ≡ i + 1 + j = omega arith in ap some e

-- none of the parameters before i has the name
pub record Seeking (text name params : List ℕ) (i : ℕ) : Type 0 where
  pub whole : position text name (params_of params) ≡ later i (position text name (trees_of (drop i (recs params))))

leaf-tree : (r : Rec) (rs : List Rec) → r.count ≡ 0 → trees_of (r ∷ rs) ≡ node (head_of r) ∅ ▸ trees_of rs
unfolding trees_of firsts others
leaf-tree r rs e = rw e

seek_start : (text name params : List ℕ) → Seeking text name params 0
unfolding params_of
seek_start text name params = record { whole = later-start (position text name (trees_of (recs params))) }

-- whether the parameter r has the name
abbrev pub named : List ℕ → List ℕ → Rec → Bool
named text name r = same_bytes name (spelled text r.word1)

module _ (text name params : List ℕ) (v : Params params) where
  at_slot : (i : ℕ) → i < slots params
      → position text name (trees_of (drop i (recs params)))
      ≡ pick (named text name (rec_at params i)) (some 0) (next (position text name (trees_of (drop (i + 1) (recs params)))))
  unfolding position
  at_slot i h =
      rw (recs-at params i h, leaf-tree (rec_at params i) (drop (i + 1) (recs params)) (all-at (recs params) Leaf v.leaves i (rec_at params i) (drop (i + 1) (recs params)) (recs-at params i h)))

  -- none of the first n parameters has it
  seek_to : (n : ℕ) → n ≤ slots params → ((j : ℕ) → j < n → named text name (rec_at params j) ≡ false) → Seeking text name params n
  seek_to zero h f = seek_start text name params
  seek_to (suc n) h f =
      let w = seek_to n (omega arith) (λ j k. f j (omega arith)) in
      let e : suc n ≡ n + 1 = omega arith in
      record { whole = rw e (w.whole ∙ rw (at_slot n (omega arith), f n (omega arith)) (later-next n (position text name (trees_of (drop (n + 1) (recs params)))))) }

  pub position_is : (P : Rec → Bool → Type 0) (o : Found ℕ) → FirstToPass P params o → ((r : Rec) (b : Bool) → P r b → b ≡ named text name r) → option_of o ≡ position text name (params_of params)
  unfolding option_of trees_of position
  position_is P None f k =
      let w = seek_to (slots params) (omega arith) (λ j h. sym (k _ _ (f.nowhere j h))) in
      sym (w.whole ∙ rw (recs-end params (slots params) (omega arith)))
  position_is P (Some i) f k =
      let w = seek_to i (omega (arith, f.inside)) (λ j h. sym (k _ _ (f.before j h))) in
      let n : i + 0 ≡ i = omega arith in
      sym (w.whole ∙ rw (at_slot i f.inside, sym (k _ _ f.here)) (ap some n))

-- ---- names and Wildcards at a slot

module _ (text pattern params : List ℕ) (j : ℕ) where
  pub named_is : (f : Found ℕ) (s : List ℕ) (i : Rec) → option_of f ≡ position text s (params_of params) → s ≡ spelled text i.word1 → (j < slots pattern) × (i ≡ rec_at pattern j)
      → option_of f ≡ named_at text pattern j params
  unfolding named_at named_next
  named_is f s i x y z = let k : j < slots pattern = z.0 in x ∙ rw (recs-at pattern j k, ← z.1, ← y)

  pub named_none : slots pattern ≤ j → option_of None ≡ named_at text pattern j params
  unfolding named_at named_next option_of
  named_none k = rw (recs-end pattern j k)

module _ (pattern : List ℕ) (j : ℕ) where
  pub wildcard_is : (o : Found Rec) (b : Bool) (P : Rec → Type 0) → IfSome o (λ r. (j < slots pattern) × (r ≡ rec_at pattern j)) → IfNone o (slots pattern ≤ j)
      → MatchOption o (b ≡ false) P → ((r : Rec) → P r → b ≡ eqb r.kind 36) → b ≡ wildcard_at pattern j
  unfolding wildcard_at is_wildcard
  wildcard_is None b P there past m f = m ∙ rw (recs-end pattern j past)
  wildcard_is (Some r) b P there past m f = let k : j < slots pattern = there.0 in f r m ∙ rw (recs-at pattern j k, there.1)

-- ---- the parameter that a record stands for

module _ (text : List ℕ) (ps : Trees) (r : Rec) where
  stands-var : (m : List Rec) → is_var r.kind ≡ true → named_next text ps m ≡ stands_at text ps r m
  unfolding named_next stands_at
  stands-var [] v = refl
  stands-var (i ∷ rs) v = rw v

  stands-bind : (m : List Rec) → is_var r.kind ≡ false → is_bind r.kind ≡ true → wildcard_next (drop 1 m) ≡ true → named_next text ps m ≡ stands_at text ps r m
  unfolding named_next stands_at
  stands-bind [] v b w = refl
  stands-bind (i ∷ rs) v b w = rw (v, b, w)

  stands-kept : (m : List Rec) → is_var r.kind ≡ false → is_bind r.kind ≡ true → wildcard_next (drop 1 m) ≡ false → none ≡ stands_at text ps r m
  unfolding stands_at
  stands-kept [] v b w = refl
  stands-kept (i ∷ rs) v b w = rw (v, b, w)

var : (k : ℕ) → k ≡ 30 → is_var k ≡ true
unfolding is_var
var k e = eq-eqb k 30 e

no_var : (k : ℕ) → (k ≡ 30 → ⊥) → is_var k ≡ false
unfolding is_var
no_var k e = ne_eqb k 30 e

bind : (k : ℕ) → k ≡ 31 → is_bind k ≡ true
unfolding is_bind
bind k e = eq-eqb k 31 e

no_bind : (k : ℕ) → (k ≡ 31 → ⊥) → is_bind k ≡ false
unfolding is_bind
no_bind k e = ne_eqb k 31 e

module _ (text pattern params : List ℕ) (i : ℕ) (r : Rec) (is : r ≡ rec_at pattern i) where
  over : (b : Bool) → b ≡ wildcard_at pattern (i + 2) → wildcard_next (drop 1 (drop (i + 1) (recs pattern))) ≡ b
  unfolding wildcard_at
  over b w = let n : i + 1 + 1 ≡ i + 2 = omega arith in ap wildcard_next (drop-drop 1 (i + 1) (recs pattern) ∙ ap (λ (k : ℕ). drop k (recs pattern)) n) ∙ sym w

  pub parameter_var : (f : Found ℕ) → option_of f ≡ named_at text pattern (i + 1) params → r.kind ≡ 30 → option_of f ≡ parameter_at text pattern i params
  unfolding named_at parameter_at
  parameter_var f e v = e ∙ rw (← is) (stands-var text (params_of params) r (drop (i + 1) (recs pattern)) (var r.kind v))

  pub parameter_other : (r.kind ≡ 30 → ⊥) → (r.kind ≡ 31 → ⊥) → option_of None ≡ parameter_at text pattern i params
  unfolding parameter_at option_of
  parameter_other v b = rw (← is) (sym (at_other text (params_of params) r (drop (i + 1) (recs pattern)) (no_var r.kind v) (no_bind r.kind b)))

  pub parameter_bind : (f : Found ℕ) (b : Bool) → option_of f ≡ named_at text pattern (i + 1) params → b ≡ wildcard_at pattern (i + 2) → b ≡ true → (r.kind ≡ 30 → ⊥) → r.kind ≡ 31
      → option_of f ≡ parameter_at text pattern i params
  unfolding named_at parameter_at
  parameter_bind f b e w q v k =
      e ∙ rw (← is) (stands-bind text (params_of params) r (drop (i + 1) (recs pattern)) (no_var r.kind v) (bind r.kind k) (over b w ∙ q))

  pub parameter_kept : (b : Bool) → b ≡ wildcard_at pattern (i + 2) → b ≡ false → (r.kind ≡ 30 → ⊥) → r.kind ≡ 31 → option_of None ≡ parameter_at text pattern i params
  unfolding parameter_at option_of
  parameter_kept b w q v k =
      rw (← is) (stands-kept text (params_of params) r (drop (i + 1) (recs pattern)) (no_var r.kind v) (bind r.kind k) (over b w ∙ q))

pub after_var : (kind i : ℕ) → kind ≡ 30 → i + 2 ≡ after_parameter kind i
unfolding after_parameter
after_var kind i e = rw (var kind e) (omega arith)

pub after_bind : (kind i : ℕ) → (kind ≡ 30 → ⊥) → i + 3 ≡ after_parameter kind i
unfolding after_parameter
after_bind kind i e = rw (no_var kind e) (omega arith)

-- ---- the record made of one

module _ (text : List ℕ) (ps : Trees) where
  making-after : (rs : List Rec) (n : ℕ) → making text ps rs n ≡ making text ps (drop n rs) 0
  unfolding making
  making-after [] zero = refl
  making-after [] (suc n) = refl
  making-after (r ∷ rs) zero = refl
  making-after (r ∷ rs) (suc n) = making-after rs n

below-near : (k i : ℕ) (b : Bool) → is_var k ≡ b → after_parameter k i ≤ i + 3
unfolding after_parameter
below-near k i true e = rw e (omega arith)
below-near k i false e = rw e (omega arith)

below-later : (k i : ℕ) → i < after_parameter k i
unfolding after_parameter
below-later k i = omega arith

module _ (text pattern params : List ℕ) (i : ℕ) (r : Rec) (f : Found ℕ) (is : r ≡ rec_at pattern i) (stands : option_of f ≡ parameter_at text pattern i params) (inside : i < slots pattern) where
  made_copy : f ≡ None → MadeAt text pattern i params r (i + 1)
  unfolding making_from making parameter_at option_of
  made_copy o =
      let z : option_of f ≡ none = ap option_of o in
      record {
        made = rw (recs-at pattern i inside, ← stands, z, is);
        later = omega arith;
        near = omega arith;
      }

  made_arg : (k n : ℕ) → f ≡ Some k → n ≡ after_parameter r.kind i → MadeAt text pattern i params (argument r.pos k) n
  unfolding making_from making parameter_at option_of after_parameter
  made_arg k n e a =
      let z : option_of f ≡ some k = ap option_of e in
      let d : drop (below r) (drop (i + 1) (recs pattern)) ≡ drop n (recs pattern) = drop-drop (below r) (i + 1) (recs pattern) ∙ ap (λ (j : ℕ). drop j (recs pattern)) (sym a) in
      record {
        made = rw (recs-at pattern i inside, ← stands, z, ← is) (ap (argument r.pos k ∷◌) (making-after text (params_of params) (drop (i + 1) (recs pattern)) (below r) ∙ ap (λ (m : List Rec). making text (params_of params) m 0) d));
        later = omega (arith, below-later r.kind i);
        near = omega (arith, below-near r.kind i (is_var r.kind) refl);
      }

  -- ---- the scan

  module _ (a₀ a : Output) (whole : List Rec) (inv : Reaches a₀ whole a (making_from text pattern i params)) (b : Output) where
    pub copy_turn : f ≡ None → Wrote a (r ∷ []) b (Ok tt) → Reaches a₀ whole b (making_from text pattern (i + 1) params)
    copy_turn e w = reaches_more a₀ a whole (making_from text pattern i params) inv b (r ∷ []) (making_from text pattern (i + 1) params) (made_copy e).made w

    pub copy_stop : (g : Refused) → f ≡ None → Wrote a (r ∷ []) b (Err g) → Wrote a₀ whole b (Err g)
    copy_stop g e w = reaches_stop a₀ a whole (making_from text pattern i params) inv b (r ∷ []) (making_from text pattern (i + 1) params) g (made_copy e).made w

    pub arg_turn : (k j : ℕ) (x : Rec) → f ≡ Some k → j ≡ after_parameter r.kind i → x ≡ argument r.pos k → Wrote a (x ∷ []) b (Ok tt) → Reaches a₀ whole b (making_from text pattern j params)
    arg_turn k j x e q d w = reaches_more a₀ a whole (making_from text pattern i params) inv b (argument r.pos k ∷ []) (making_from text pattern j params) (made_arg k j e q).made (rw d at w)

    pub arg_stop : (g : Refused) (k : ℕ) (x : Rec) → f ≡ Some k → x ≡ argument r.pos k → Wrote a (x ∷ []) b (Err g) → Wrote a₀ whole b (Err g)
    arg_stop g k x e d w = reaches_stop a₀ a whole (making_from text pattern i params) inv b (argument r.pos k ∷ []) (making_from text pattern (after_parameter r.kind i) params) g (made_arg k (after_parameter r.kind i) e refl).made (rw d at w)

pub after_later : (k i n : ℕ) → n ≡ after_parameter k i → i < n
after_later k i n e = omega (arith, below-later k i)

pub make_end : (a₀ a : Output) (whole : List Rec) (text pattern params : List ℕ) (i : ℕ) → Reaches a₀ whole a (making_from text pattern i params) → slots pattern ≤ i → a.written ≤ a.room → Wrote a₀ whole a (Ok tt)
unfolding making_from making
make_end a₀ a whole text pattern params i inv h k = reaches_end a₀ a whole (making text (params_of params) (drop i (recs pattern)) 0) inv (rw (recs-end pattern i h)) k

-- ---- the answer

module _ (text pattern params a b : List ℕ) where
  pub make_refused : (bad room : ℕ) (l : List Rec) → bad ≡ first_of is_arg (recs pattern) → bad < slots pattern → Answered (template_answer text (recs pattern) (recs params) room) l a b (Err (MacroArg bad))
  unfolding template_answer
  make_refused bad room l first h =
      let k : bad < length (recs pattern) = omega (arith, length-recs pattern) in
      answered_refusal (template_answer text (recs pattern) (recs params) room) l a b (MacroArg bad) (rw (← first, lt-ltb bad (length (recs pattern)) k))

module _ (text pattern params a : List ℕ) (none_is : slots pattern ≡ first_of is_arg (recs pattern)) (v : MakeReady pattern params) (o p : Output) (made : Empty a o) where
  fitted_is : template_answer text (recs pattern) (recs params) (space a) ≡ fitted (making_from text pattern 0 params) (space a)
  unfolding template_answer template_records making_from params_of
  fitted_is =
      let k : length (recs pattern) ≤ slots pattern = omega (arith, length-recs pattern) in
      rw (← none_is, le-ltb (slots pattern) (length (recs pattern)) k, list_make text (trees_of (recs params)) (recs pattern) v.placed)

  records_are : template_records text (recs pattern) (recs params) ≡ making_from text pattern 0 params
  unfolding template_records making_from params_of
  records_are = list_make text (trees_of (recs params)) (recs pattern) v.placed

  pub make_full : (b : List ℕ) (f : Refused) → Wrote o (making_from text pattern 0 params) p (Err f)
      → Answered (template_answer text (recs pattern) (recs params) (space a)) (template_records text (recs pattern) (recs params)) a b (Err f)
  make_full b f w = rw (fitted_is, records_are) (answered_full a o made (making_from text pattern 0 params) p b f w)

  pub make_all : (b : List ℕ) (n : ℕ) → Wrote o (making_from text pattern 0 params) p (Ok tt) → n ≡ p.written → b ≡ p.bytes.now
      → Answered (template_answer text (recs pattern) (recs params) (space a)) (template_records text (recs pattern) (recs params)) a b (Ok n)
  make_all b n w e q = rw (fitted_is, records_are) (answered_all a o made (making_from text pattern 0 params) p b n w e q)
