-- Where no ground holds, the definitions and the pattern are acceptable, and so demand 3 holds of them. Assumes nothing.
use mathlib.Core.Path.{◌≡◌, refl, sym, ap, ◌∙◌}
use mathlib.Core.Bool.{Bool, true, false}
use mathlib.Core.Option.{Option, none, some}
use mathlib.Core.List.{List, [], ◌∷◌, ◌++◌, append_assoc, append-nil}
use Prim.Native.Nat.{ℕ, suc, ◌+◌, ◌<◌}
use native.Mathlib.Omega.{arith}
use lib.Dec.{eqb}
use lib.ListN.{length, get_or}
use borrow.Author.Tests.{eqb-true, eqb-false, ne_eqb}
use Rattle.trees.specs.Choice.{pick}
use Rattle.trees.specs.declared.Head.{Head}
use Rattle.trees.specs.Tree.{Tree, Trees, node, ∅, ◌▸◌, count, records, records_all}
use Rattle.forms.specs.Lists.{kinds, kinds_all, macro_arg}
use Rattle.expansion.specs.Nodes.{rest, is_extractor, is_macro_arg, name_of, Every, EveryIn}
use Rattle.expansion.specs.Expansion.{Named, named, find, lookup, Extractor, Extractors, last, but_last, extractor, extractors, term_name, called}
use Rattle.expansion.specs.Acceptance.{TermNamed, NoMacroArg, Counted, CallsEarlier, PatternFine, ExtractorFine, AllFine, Acceptable}
use Rattle.expansion.specs.Demand.{Opens, StoreOpens}
use Rattle.expansion.proofs.NodeLaws.{none-some, some_same, every_map}
use Rattle.expansion.proofs.OpenLaws.{lookup_first}
use Rattle.expansion.proofs.Theorem.{opens, store-opens}
use Rattle.grounds.specs.Facts.{NodeAt, first, below, later, CallFlaw, wrong-count, not_earlier}
use Rattle.grounds.specs.Stages.{Nowhere, in_turn}
use Rattle.grounds.specs.Order.{macro_args, calls, Site, stages_of, sites, of_definitions, of_both, of_pattern, order, grounds}
use Rattle.grounds.proofs.StageLaws.{AllNowhere, all_nowhere, nowhere_++}
use Rattle.grounds.proofs.Exactly.{again_passed, its_calls_passed, order_numbered}

-- ---- no MacroArg

Each : (ℕ → Type 0) → List ℕ → Type 0
Each Q [] = Unit {0}
Each Q (n ∷ ns) = Q n × Each Q ns

module _ (Q : ℕ → Type 0) where
  each_at : (ns : List ℕ) → ((k : ℕ) → k < length ns → Q (get_or ns k 0)) → Each Q ns
  unfolding Each
  each_at [] f = tt
  each_at (n ∷ ns) f = (f 0 (omega arith), each_at ns (λ k h. f (suc k) (omega arith)))

  each_append : (xs ys : List ℕ) → Each Q (xs ++ ys) → Each Q xs × Each Q ys
  unfolding Each
  each_append [] ys e = (tt, e)
  each_append (x ∷ xs) ys e = let r = each_append xs ys e.1 in ((e.0, r.0), r.1)

mutual
  unfolding kinds Each is_macro_arg

  no_args : (t : Tree) → Each (λ n. n ≡ macro_arg → ⊥) (kinds t) → Every NoMacroArg t
  no_args (node h ts) e = (ne_eqb h.kind macro_arg e.0, no_args_in ts e.1)

  no_args_in : (ts : Trees) → Each (λ n. n ≡ macro_arg → ⊥) (kinds_all ts) → EveryIn NoMacroArg ts
  no_args_in ∅ e = tt
  no_args_in (t ▸ ts) e = let r = each_append (λ n. n ≡ macro_arg → ⊥) (kinds t) (kinds_all ts) e in (no_args t r.0, no_args_in ts r.1)

args-passed : (ts : Trees) (i : ℕ) → Nowhere (macro_args ts i).fact → EveryIn NoMacroArg ts
args-passed ts i w = no_args_in ts (each_at (λ n. n ≡ macro_arg → ⊥) (kinds_all ts) (λ k h e. w 4 (i + k) (record { is = refl; index = k; inside = h; equal = e; place = refl })))

-- ---- a fact of each node, by the nodes at the records

mutual
  unfolding records

  every_node : (P : Head → Trees → Type 0) (ts : Trees) → ((i : ℕ) (h : Head) (us : Trees) → NodeAt ts i h us → P h us) → EveryIn P ts
  every_node P ∅ f = tt
  every_node P (t ▸ ts) f = (every_tree P t ts f, every_node P ts (λ i h us a. f (length (records t) + i) h us (later refl a)))

  every_tree : (P : Head → Trees → Type 0) (t : Tree) (ts : Trees) → ((i : ℕ) (h : Head) (us : Trees) → NodeAt (t ▸ ts) i h us → P h us) → Every P t
  every_tree P (node g vs) ts f = (f 0 g vs (first refl), every_node P vs (λ i h us a. f (suc i) h us (below refl a)))

last_every : (P : Head → Trees → Type 0) (t : Tree) (ts : Trees) → EveryIn P (t ▸ ts) → Every P (last t ts)
unfolding last
last_every P t ∅ e = e.0
last_every P t (u ▸ us) e = last_every P u us e.1

-- ---- calls

module _ (text : List ℕ) (D : Extractors) where
  -- nothing is wrong with the node as a call
  Sound : Extractors → Head → Trees → Type 0
  Sound E h ts = (n : ℕ) → CallFlaw text D E h ts n → ⊥

  calls-passed : (E : Extractors) (ts : Trees) (i : ℕ) → Nowhere (calls text D E ts i).fact → EveryIn (Sound E) ts
  unfolding Sound
  calls-passed E ts i w = every_node (Sound E) ts (λ j h us a n f. w n (i + j) (record { index = j; head = h; children = us; node_at = a; wrong = f; place = refl }))

  earlier_call : (E : Extractors) (h : Head) (ts : Trees) → Sound E h ts → CallsEarlier text D E h ts
  unfolding Sound
  earlier_call E h ts s n = go (called text D h ts) refl
    where
      go : (o : Option Extractor) → called text D h ts ≡ o → called text D h ts ≡ none
      go none e = e
      go (some x) e = absurd (s 32 (not_earlier x n e))

  counted_call : (E R : Extractors) → D ≡ E ++ R → (h : Head) (ts : Trees) → Sound E h ts → Counted text D h ts
  unfolding Sound
  counted_call E R d h ts s x e = go (called text E h ts) refl
    where
      equal : (y : Extractor) → called text E h ts ≡ some y → (b : Bool) → eqb (count (rest ts)) (count y.params) ≡ b → count (rest ts) ≡ count y.params
      equal y p true q = eqb-true (count (rest ts)) (count y.params) q
      equal y p false q = absurd (s 31 (wrong-count y p (eqb-false (count (rest ts)) (count y.params) q)))

      go : (o : Option Extractor) → called text E h ts ≡ o → count (rest ts) ≡ count x.params
      go none p = none-some (called text D h ts) x (earlier_call E h ts s p) e
      go (some y) p =
          let q : called text D h ts ≡ some y = ap (lookup (term_name text h ts)) d ∙ lookup_first E R y (term_name text h ts) p in
          let same : y ≡ x = some_same (called text D h ts) y x q e in
          rw (← same) (equal y p (eqb (count (rest ts)) (count y.params)) refl)

  fine-pattern : (E R : Extractors) → D ≡ E ++ R → (t : Tree) → Every (Sound E) t → Every TermNamed t → Every NoMacroArg t → PatternFine text D t
  fine-pattern E R d t s n a = record { terms = n; args = a; counts = every_map {P = Sound E} {R = Counted text D} (counted_call E R d) t s }

  -- ---- an extractor whose stages are passed

  abbrev site : ℕ → Extractors → Trees → Site
  site i E us = record { place = i; children = us; earlier = E }

  one-fine : (i : ℕ) (E R : Extractors) → D ≡ E ++ R → (term t : Tree) (ts : Trees) → AllNowhere (stages_of text D (site i E (term ▸ t ▸ ts)))
      → EveryIn TermNamed (term ▸ t ▸ ts) → EveryIn NoMacroArg (term ▸ t ▸ ts)
      → ExtractorFine text D E (named (name_of text term) (record { params = but_last t ts; pattern = last t ts }))
  one-fine i E R d term t ts w n a =
      let s = last_every (Sound E) t ts (calls-passed E (term ▸ t ▸ ts) (suc i) (its_calls_passed text D (site i E (term ▸ t ▸ ts)) w)).1 in
      record {
        new = new-name (find (name_of text term) E) refl;
        calls = every_map {P = Sound E} {R = CallsEarlier text D E} (earlier_call E) (last t ts) s;
        pattern = fine-pattern E R d (last t ts) s (last_every TermNamed t ts n.1) (last_every NoMacroArg t ts a.1);
      }
    where
      new-name : (o : Option Extractor) → find (name_of text term) E ≡ o → find (name_of text term) E ≡ none
      new-name none e = e
      new-name (some x) e = absurd (again_passed text D (site i E (term ▸ t ▸ ts)) w 30 i (refl, refl, (x, e)))

  all-fine : (ds : Trees) (i : ℕ) (E : Extractors) → D ≡ E ++ extractors text ds → AllNowhere (in_turn (stages_of text D) (sites text i E ds)) → EveryIn TermNamed ds → EveryIn NoMacroArg ds → AllFine text D E (extractors text ds)
  unfolding extractor extractors sites in_turn
  all-fine ∅ i E d w n a = tt
  all-fine (node h ts ▸ list) i E d w n a = go (is_extractor h.kind) ts n.0.1 a.0.1 w d (λ E' d' w'. all-fine list (i + length (records (node h ts))) E' d' w' n.1 a.1)
    where
      go : (b : Bool) (us : Trees) → EveryIn TermNamed us → EveryIn NoMacroArg us
          → AllNowhere (in_turn (stages_of text D) (pick b (site i E us ∷ []) [] ++ sites text (i + length (records (node h ts))) (E ++ pick b (extractor text us) []) list))
          → D ≡ E ++ (pick b (extractor text us) [] ++ extractors text list)
          → ((E' : Extractors) → D ≡ E' ++ extractors text list → AllNowhere (in_turn (stages_of text D) (sites text (i + length (records (node h ts))) E' list)) → AllFine text D E' (extractors text list))
          → AllFine text D E (pick b (extractor text us) [] ++ extractors text list)
      go false us n a w d on = on E d (rw (append-nil E) at w)
      go true ∅ n a w d on = on E d (rw (append-nil E) at (nowhere_++ (stages_of text D (site i E ∅)) (in_turn (stages_of text D) (sites text (i + length (records (node h ts))) (E ++ []) list)) w).1)
      go true (t ▸ ∅) n a w d on = on E d (rw (append-nil E) at (nowhere_++ (stages_of text D (site i E (t ▸ ∅))) (in_turn (stages_of text D) (sites text (i + length (records (node h ts))) (E ++ []) list)) w).1)
      go true (term ▸ t ▸ us) n a w d on =
          let x : Named Extractor = named (name_of text term) (record { params = but_last t us; pattern = last t us }) in
          let v = nowhere_++ (stages_of text D (site i E (term ▸ t ▸ us))) (in_turn (stages_of text D) (sites text (i + length (records (node h ts))) (E ++ (x ∷ [])) list)) w in
          (one-fine i E (x ∷ extractors text list) d term t us v.0 n a, on (E ++ (x ∷ [])) (d ∙ sym (append_assoc E (x ∷ []) (extractors text list))) v.1)

-- ---- the definitions, and a pattern after them

module _ (text : List ℕ) (ds : Trees) where
  abbrev D : Extractors
  D = extractors text ds

  definitions-fine : EveryIn TermNamed ds → Nowhere (macro_args ds 0).fact → AllNowhere (of_definitions text ds) → AllFine text D [] D
  unfolding of_definitions AllNowhere
  definitions-fine terms a w = all-fine text D ds 0 [] refl w.1 terms (args-passed ds 0 a)

  pattern-fine : (p : Tree) → Every TermNamed p → Nowhere (macro_args (p ▸ ∅) (length (records_all ds))).fact → AllNowhere (of_pattern text ds p) → PatternFine text D p
  unfolding of_pattern AllNowhere
  pattern-fine p term a w =
      fine-pattern text D D [] (sym (append-nil D)) p (calls-passed text D D (p ▸ ∅) (length (records_all ds)) w.0).0 term (args-passed (p ▸ ∅) (length (records_all ds)) a).0

-- ---- the theorem

module _ (text : List ℕ) (ds : Trees) (p : Tree) (terms : EveryIn TermNamed ds) (term : Every TermNamed p) (e : grounds text ds p ≡ none) where
  pub acceptable : Acceptable text (extractors text ds) p
  unfolding order of_both AllNowhere
  acceptable =
      let w = all_nowhere (order text ds p) (order_numbered text ds p) e in
      let v = nowhere_++ (of_both ds p) (of_definitions text ds ++ of_pattern text ds p) w in
      let u = nowhere_++ (of_definitions text ds) (of_pattern text ds p) v.1 in
      record { definitions = definitions-fine text ds terms v.0.0 u.0; pattern = pattern-fine text ds p term v.0.1.0 u.1 }

  -- demand 3, of the pattern and of the templates in the store
  pub opens-accepted : Opens text (extractors text ds) p
  opens-accepted = opens text (extractors text ds) p acceptable

  pub store-accepted : StoreOpens text (extractors text ds)
  store-accepted = store-opens text (extractors text ds) acceptable.definitions
