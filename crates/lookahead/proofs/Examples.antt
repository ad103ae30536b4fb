-- The theorems at examples. Assumes nothing.
use Prim.Native.Nat.{ℕ, ◌<◌, ◌≤◌}
use native.Mathlib.Omega.{arith}
use mathlib.Core.Path.{◌≡◌, refl}
use Rattle.trees.specs.Names.{spelled}
use Rattle.words.specs.Words.{half_at, word_at, be4, be8}
use Rattle.words.specs.Bytes.{same_bytes}
use Rattle.tokens.specs.Token.{token_at, is_lparen, is_word}
use Rattle.tokens.specs.Input.{peek}
use Rattle.steps.specs.Outcome.{Refusal}
use Rattle.steps.specs.Outcome.{refuse, refusal, before, and_then, ◌⊳◌, refuse_from, if_next, if_second, then_at, items_from, many_at, many, expect_at}
use Rattle.exprs.specs.Examples.{tok, sym}
use Rattle.parser.specs.Defs.{parse_extern, rest_def, parse_def, parse_defs}
use Rattle.lookahead.specs.Agree.{Agree}
use Rattle.lookahead.specs.Examples.{closed, going, ended, stopped}
use Rattle.lookahead.proofs.Bytes.{agree-bytes}
use Rattle.lookahead.proofs.Theorem.{honest, consumed}

-- `(extern foo)` is refused with 22 at the `foo`, when two tokens are consumed
met : parse_defs closed 0 ≡ refuse (refusal 22 8 2)
unfolding closed tok sym be8 be4 word_at half_at same_bytes spelled token_at is_lparen is_word before and_then ◌⊳◌ refuse_from if_next if_second then_at items_from many_at many expect_at parse_extern rest_def parse_def parse_defs
met = refl

-- so whatever comes behind the `foo`, and where nothing does
to_going : Agree 2 closed going
unfolding closed going tok sym be8 be4
to_going = agree-bytes 2 closed going refl refl refl

to_ended : Agree 2 closed ended
unfolding closed ended tok sym be8 be4
to_ended = agree-bytes 2 closed ended refl refl refl

pub going_so : parse_defs going 0 ≡ refuse (refusal 22 8 2)
going_so = honest closed going (refusal 22 8 2) met to_going

pub ended_so : parse_defs ended 0 ≡ refuse (refusal 22 8 2)
ended_so = honest closed ended (refusal 22 8 2) met to_ended

-- where the lexer stops behind `(extern`, its record is refused with 22, when two tokens are consumed, and these are of the kinds of document 01
stopped_met : parse_defs stopped 0 ≡ refuse (refusal 22 8 2)
unfolding stopped tok sym be8 be4 word_at half_at same_bytes spelled token_at is_lparen is_word before and_then ◌⊳◌ refuse_from if_next if_second then_at items_from many_at many expect_at parse_extern rest_def parse_def parse_defs
stopped_met = refl

pub stopped_so : (k : ℕ) → k < 2 → (1 ≤ (peek stopped k).kind) × ((peek stopped k).kind ≤ 5)
stopped_so = consumed stopped (refusal 22 8 2) stopped_met

-- whatever it is refused with, the record where the lexer stops is not consumed
stops : (peek stopped 2).kind ≡ 6
unfolding stopped tok sym be8 be4 word_at half_at token_at
stops = refl

pub not_consumed : (e : Refusal) → parse_defs stopped 0 ≡ refuse e → 2 < e.taken → ⊥
not_consumed e h l = omega (arith, stops, (consumed stopped e h 2 l).1)
