use Rattle.std.proofs.Common.{◌<◌, ℕ, arith, ap, subst, length, get_or}
use Rattle.cpa_board.specs.Machine.{IsClosing}
use Rattle.cpa_board.specs.Seats.{SeatView, IsBetween}
use Rattle.cpa_board.proofs.Moves.{closes}
use Rattle.cpa_board.proofs.board.Board.close.Goals as goal

pub returns-clause-step : goal.returns-clause-step
returns-clause-step c =
    let seat = c.seat.inside.token in
    let caps = ap (λ (z : SeatView). length z.caps) c.seat.view_is in
    let room = c.requires.room in
    let last = c.loop-i.auto.i-end in
    let end = c.loop-i-test.false in
    subst (λ (z : SeatView). IsClosing z.starts z.caps z.seen c.loop-i.out) c.seat.view_is
    (closes seat.id seat.me.0 _ _ _ c.seat.invariant.life c.close_with-closed.ensures.values.2 c.seat.invariant.seen (omega arith) (λ i l. c.loop-i.invariant i (omega arith))).0

pub returns-clause-words : goal.returns-clause-words
returns-clause-words c =
    let seat = c.seat.inside.token in
    let caps = ap (λ (z : SeatView). length z.caps) c.seat.view_is in
    let room = c.requires.room in
    let last = c.loop-i.auto.i-end in
    let end = c.loop-i-test.false in
    subst (λ (z : SeatView). (i : ℕ) → i < length z.caps → IsBetween z i (get_or c.loop-i.out i 0)) c.seat.view_is
    (closes seat.id seat.me.0 _ _ _ c.seat.invariant.life c.close_with-closed.ensures.values.2 c.seat.invariant.seen (omega arith) (λ i l. c.loop-i.invariant i (omega arith))).1
