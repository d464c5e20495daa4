use Rattle.std.proofs.Common.{◌≡◌, ℕ, ◌≤◌, arith}
use Rattle.cpa_fifo.specs.FifoWork.{queue_work, queue_work-mono}
use Rattle.cpa_fifo.proofs.QueueWalk.{within_busy, pass, finished}
use Rattle.cpa_fifo.proofs.greatest_response.Goals as goal

pub overflow_cast-greatest : goal.overflow_cast-greatest
overflow_cast-greatest c =
    let q = c.args.queue.now in
    omega (arith, c.at-greatest.ensures, c.requires.room, c.requires.busy, queue_work-mono q.own.now q.worst q.rivals.now 1 c.args.busy c.requires.some)

pub overflow_cast-work : goal.overflow_cast-work
overflow_cast-work c =
    let q = c.args.queue.now in
    let l = c.loop-window in
    omega (arith, c.at-work.ensures, c.requires.room, c.requires.busy, queue_work-mono q.own.now q.worst q.rivals.now l.window c.args.busy l.invariant.within)

pub overflow_add-greatest : goal.overflow_add-greatest
overflow_add-greatest c =
    let q = c.args.queue.now in
    let l = c.loop-window in
    let small = within_busy (queue_work q.own.now q.worst q.rivals.now) (queue_work-mono q.own.now q.worst q.rivals.now) c.args.busy l.window l.greatest c.requires.room l.invariant in
    omega (arith, small, l.invariant.within, c.requires.busy)

pub loop-window-preserved : goal.loop-window-preserved
loop-window-preserved c =
    let q = c.args.queue.now in
    let l = c.loop-window in
    let onward = pass (queue_work q.own.now q.worst q.rivals.now) (queue_work-mono q.own.now q.worst q.rivals.now) c.args.busy l.window l.greatest l.invariant (omega (arith, c.at-work.ensures, c.if-work-greatest.false)) in
    rw (c.saturating_sub-window.ensures, c.at-work.ensures) onward

the_zero : (w : ℕ) → w ≤ 0 → w ≡ 0
the_zero w h = omega arith

pub returns : goal.returns
returns c =
    let q = c.args.queue.now in
    let l = c.loop-window in
    let window = c.loop-window-test.false in
    let none = rw (the_zero l.window window) at l.invariant in
    finished q.own.now q.worst q.rivals.now c.requires.bounded c.args.busy l.greatest none
