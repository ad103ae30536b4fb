use borrow.Author.Rules.{rules}
use native.Mathlib.Omega.{arith}
use Rattle.opening.proofs.WalkLaws.{walking_start, walking_callable, walking_makeable, walking_put_full}
use Rattle.opening.proofs.WalkLaws.{walking_small, walking_few, walking_put, walking_fillable, walking_call_full, walking_ended}
use Rattle.opening.proofs.WalkLaws.{walking_less, walking_call, walking_end}
use Rattle.opening.proofs.ScanLaws.{fillable_starts, fillable_inside, readied-child, scanning_start, scanning_inside}
use Rattle.opening.proofs.ScanLaws.{scanning_fits, scanning_childed, scanning_less, scanning_arg_full}
use Rattle.opening.proofs.ScanLaws.{scanning_arg, scanning_put_full, scanning_put, scanning_end}
use Rattle.opening.proofs.walk.Opening.+open_one_scan.Goals as goal

pub open_one-loop-todo-init : goal.open_one-loop-todo-init
open_one-loop-todo-init t c = search walking_start

pub open_one-call_at-requires : goal.open_one-call_at-requires
open_one-call_at-requires t c = search (walking_callable, c.loop-todo.invariant)

pub open_one-scan-requires : goal.open_one-scan-requires
open_one-scan-requires t c = (omega arith, search walking_fillable)

pub open_one-returns-in_err-y : goal.open_one-returns-in_err-y
open_one-returns-in_err-y t c = rw c.from_residual.ensures (search (walking_call_full, c.in_err-y.was))

pub open_one-end_at-k-requires : goal.open_one-end_at-k-requires
open_one-end_at-k-requires t c = search walking_ended

pub open_one-loop-todo-smaller-in-Some : goal.open_one-loop-todo-smaller-in-Some
open_one-loop-todo-smaller-in-Some t c = search walking_less

pub open_one-loop-todo-preserved-in-Some : goal.open_one-loop-todo-preserved-in-Some
open_one-loop-todo-preserved-in-Some t c = search (walking_call, c.in_ok-y.was)

pub open_one-made_at-made-requires : goal.open_one-made_at-made-requires
open_one-made_at-made-requires t c = search walking_makeable

pub open_one-returns-in_err-y-2 : goal.open_one-returns-in_err-y-2
open_one-returns-in_err-y-2 t c = rw c.from_residual-in_err-y-2.ensures (search (walking_put_full, c.in_err-y-2.ensures))

pub open_one-overflow_add-todo : goal.open_one-overflow_add-todo
open_one-overflow_add-todo t c = omega (arith, walking_small)

pub open_one-loop-todo-smaller : goal.open_one-loop-todo-smaller
open_one-loop-todo-smaller t c = omega (arith, walking_few)

pub open_one-loop-todo-preserved : goal.open_one-loop-todo-preserved
open_one-loop-todo-preserved t c = search (walking_put, c.in_ok-y-2.ensures)

pub open_one-returns : goal.open_one-returns
open_one-returns t c = search walking_end

pub scan-overflow_add-from : goal.scan-overflow_add-from
scan-overflow_add-from t c = omega (arith, fillable_inside)

pub scan-offset_bounds-self-x : goal.scan-offset_bounds-self-x
scan-offset_bounds-self-x t c = omega (arith, fillable_starts)

pub scan-bounds-self-x : goal.scan-bounds-self-x
scan-bounds-self-x t c = omega (arith, fillable_starts)

pub scan-overflow_add-j-end : goal.scan-overflow_add-j-end
scan-overflow_add-j-end t c = omega (arith, fillable_starts)

pub scan-offset_bounds-self-x-2 : goal.scan-offset_bounds-self-x-2
scan-offset_bounds-self-x-2 t c = omega (arith, fillable_starts)

pub scan-bounds-self-x-2 : goal.scan-bounds-self-x-2
scan-bounds-self-x-2 t c = omega (arith, fillable_starts)

pub scan-loop-j-init : goal.scan-loop-j-init
scan-loop-j-init t c = search scanning_start

pub scan-rec_at-r-requires : goal.scan-rec_at-r-requires
scan-rec_at-r-requires t c = omega (arith, scanning_inside)

pub scan-overflow_add-c : goal.scan-overflow_add-c
scan-overflow_add-c t c = search scanning_fits

pub scan-child_at-from-requires : goal.scan-child_at-from-requires
scan-child_at-from-requires t c = search scanning_childed

pub scan-open_one-requires : goal.scan-open_one-requires
scan-open_one-requires t c = (search scanning_less, (search readied-child, search rules))

pub scan-returns-in_err-y : goal.scan-returns-in_err-y
scan-returns-in_err-y t c = rw c.from_residual.ensures (search (scanning_arg_full, c.in_err-y.was))

pub scan-loop-j-preserved-then-r : goal.scan-loop-j-preserved-then-r
scan-loop-j-preserved-then-r t c = search (scanning_arg, c.in_ok-y.was)

pub scan-returns-in_err-y-2 : goal.scan-returns-in_err-y-2
scan-returns-in_err-y-2 t c = rw c.from_residual-in_err-y-2.ensures (search (scanning_put_full, c.in_err-y-2.ensures))

pub scan-loop-j-preserved : goal.scan-loop-j-preserved
scan-loop-j-preserved t c = search (scanning_put, c.in_ok-y-2.ensures)

pub scan-returns : goal.scan-returns
scan-returns t c = search scanning_end
