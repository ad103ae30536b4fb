-- The whole answer: which case it is, and what then holds. Assumes nothing.
use mathlib.Core.Path.{◌≡◌, refl}
use mathlib.Core.Option.{Option, none, some}
use mathlib.Core.List.{List}
use Prim.Native.Nat.{ℕ, ◌<◌, ◌≤◌}
use native.Mathlib.Decide.{dec_lt}
use native.Mathlib.Omega.{arith}
use Rattle.trees.specs.Tree.{Tree, Trees}
use Rattle.grounds.specs.declared.Counts.{Counts}
use Rattle.grounds.specs.Stages.{refusal, Refusal, ◌or_else◌, Nowhere, here, later, Refused, verdict}
use Rattle.grounds.specs.Order.{order, grounds}
use Rattle.grounds.specs.Opening.{counts_of, of_space, Fits, Outcome, accept, refuse, after, all_opened, opening}
use Rattle.grounds.proofs.StageLaws.{AllNowhere, all_nowhere, refused_exactly, verdict_++}
use Rattle.grounds.proofs.Exactly.{space_numbered, exactly, passes}

-- space alone: where 6 is not given, all of it fits
pub space-fits : (room n : Counts) → verdict (of_space room n) ≡ none → Fits room n
unfolding AllNowhere of_space
space-fits room n e =
    let a = all_nowhere (of_space room n) (space_numbered room n) e in
    record { store = within (dec_lt room.store n.store) (λ l. a.0 6 0 (refl, refl, l)); output = within (dec_lt room.output n.output) (λ l. a.1.0 6 1 (refl, refl, l)) }
  where
    within : {r m : ℕ} → Dec (r < m) → (r < m → ⊥) → m ≤ r
    within (yes l) f = absurd (f l)
    within (no l) f = omega arith

pub fits-space : (room n : Counts) → Fits room n → Nowhere (Refused (of_space room n))
unfolding of_space Refused
fits-space room n f m k (here r b) = omega (arith, r.2, f.store)
fits-space room n f m k (later a (here r b)) = omega (arith, r.2, f.output)
fits-space room n f m k (later a (later b r)) = r

module _ (text : List ℕ) (ds : Trees) (p : Tree) (room : Counts) where
  abbrev due : Counts
  due = counts_of (all_opened text ds p)

  pub data Answered : Outcome → Type 0 where
    -- a ground before space, at its place
    refused : (n k : ℕ) → Refused (order text ds p) n k → Answered (refuse (refusal n k))
    -- 6: all else is accepted, and there is too little room
    no_space : Nowhere (Refused (order text ds p)) → (n k : ℕ) → Refused (of_space room due) n k → Answered (refuse (refusal n k))
    accepted : Nowhere (Refused (order text ds p)) → Fits room due → Answered (accept (all_opened text ds p))

  pub answered : Answered (opening text ds p room)
  unfolding opening
  answered = rw (verdict_++ (order text ds p) (of_space room due)) (go (grounds text ds p) refl (verdict (of_space room due)) refl)
    where
      go : (g : Option Refusal) → grounds text ds p ≡ g → (v : Option Refusal) → verdict (of_space room due) ≡ v → Answered (after (g or_else v) (all_opened text ds p))
      go (some r) e v f = refused r.number r.place ((exactly text ds p r.number r.place).0 e)
      go none e (some r) f = no_space ((passes text ds p).0 e) r.number r.place ((refused_exactly (of_space room due) (space_numbered room due) r.number r.place).0 f)
      go none e none f = accepted ((passes text ds p).0 e) (space-fits room due f)
