use Rattle.std.proofs.Common.{◌≡◌, length, arith}
use Rattle.cpa_local.proofs.SolutionLaws.{least_of-is_least}
use Rattle.cpa_workers.proofs.SeatLaws.{seated-range}
use Rattle.cpa_workers.proofs.SettleLaws.{outcome-closed, take-front}
use Rattle.cpa_workers.proofs.shared.finish.Goals as goal

pub returns : goal.returns
returns c =
    let s = c.args.dirty.now.system.now in
    let least = (least_of-is_least s c.tasks.ensures.rules).vector in
    let range = seated-range s _ _ c.args.handed.seat least c.requires.seated in
    let count = c.tasks.ensures.count in
    let made = c.in_ok-words.ensures.len in
    let room = c.close.auto.out in
    let value = c.as_mut_slice.ensures.len in
    let long : length c.close.new.out ≡ length s.tasks = omega arith in
    rw (take-front c.close.new.out _ c.in_ok-words.words.len (omega arith))
    (outcome-closed s _ c.args.dirty.now.set c.args._starts.now c.args.handed.seat c.close.new.out c.args.handed.found c.args.handed.trail least c.requires long (λ i less. c.in_ok-close.ensures.words i (omega arith)))
