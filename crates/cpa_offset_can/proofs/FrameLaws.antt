-- What code that walks through the frames of a busy window knows, where others ask for `asked w` in a window.
use Rattle.std.proofs.Common.{◌≡◌, ℕ, ◌+◌, ◌-◌, ◌*◌, ◌<◌, ◌≤◌, max, refl, ap, arith}
use Rattle.std.proofs.Math.Nat.{mul-le-mul_left}
use Rattle.cpa_units.specs.declared.bound.Bound.{Bound}
use Rattle.cpa_units.specs.declared.bound.Bound.TheVariants.{Within, Overload}
use Rattle.cpa_units.specs.Numbers.{IsExecution}
use Rattle.cpa_units.specs.Bounds.{greatest_of}
use Rattle.cpa_units.proofs.BoundLaws.{greatest_of-overload, greatest_of-next, capped-within, capped-past}
use Rattle.cpa_window.specs.Windows.{window, IsWindow}
use Rattle.cpa_window.specs.Walk.{IsSteady, IsReady}
use Rattle.cpa_window.proofs.WindowLaws.{window-from}
use Rattle.cpa_window.proofs.WalkLaws.{IsReady-start, IsReady-next}
use Rattle.cpa_can.specs.Can.{greatest_in_busy_window}
use Rattle.cpa_offset_can.specs.CanOffsets.{busy_demand, start_demand, frame_response, frames_bound}
use Rattle.cpa_offset_can.specs.Frames.{busy_work, start_work, start_work-mono, start_work-more}

module _ (worst blocking bit limit : ℕ) (asked earliest : ℕ → ℕ) where
  -- the busy window as the code finds it
  busy_window : (frames : ℕ → ℕ) (found : Bound) → IsWindow (λ v. Within (busy_work worst blocking frames asked v)) 1 limit found → window (busy_demand worst blocking frames (λ w. Within (asked w))) 1 limit ≡ found
  busy_window frames found h =
      window-from (λ v. Within (busy_work worst blocking frames asked v)) (busy_demand worst blocking frames (λ w. Within (asked w))) 1 limit found (λ v. refl) h

  -- without one there is no bound
  pub bound-idle : (frames : ℕ → ℕ) → IsWindow (λ v. Within (busy_work worst blocking frames asked v)) 1 limit Overload → frames_bound worst blocking (λ w. Within (asked w)) frames earliest bit limit ≡ Overload
  bound-idle frames h = ap (greatest_in_busy_window (frame_response worst blocking (λ w. Within (asked w)) earliest bit limit) frames) (busy_window frames Overload h)

  -- with one it is that of its frames
  pub bound-busy : (frames : ℕ → ℕ) (busy : ℕ) → IsWindow (λ v. Within (busy_work worst blocking frames asked v)) 1 limit (Within busy) → frames_bound worst blocking (λ w. Within (asked w)) frames earliest bit limit ≡ greatest_of (frame_response worst blocking (λ w. Within (asked w)) earliest bit limit) (frames busy)
  bound-busy frames busy h = ap (greatest_in_busy_window (frame_response worst blocking (λ w. Within (asked w)) earliest bit limit) frames) (busy_window frames (Within busy) h)

  -- of which there are no more than its ticks
  pub frames-few : (frames : ℕ → ℕ) (busy : ℕ) → 0 < worst → IsWindow (λ v. Within (busy_work worst blocking frames asked v)) 1 limit (Within busy) → frames busy ≤ limit
  frames-few frames busy some h =
      let each : frames busy * 1 ≤ frames busy * worst = mul-le-mul_left (frames busy) some in
      let room : busy_work worst blocking frames asked busy ≤ busy = h.2 in
      omega (arith, h.1, each, room)

  -- the walk has looked at so many frames
  pub record IsUnderWay (earlier from steady greatest : ℕ) : Type 0 where
    pub ready : IsReady (start_work worst blocking asked bit) worst earlier from steady
    pub so_far : greatest_of (frame_response worst blocking (λ w. Within (asked w)) earliest bit limit) earlier ≡ Within greatest

  pub before_the_first : IsUnderWay 0 0 0 0
  before_the_first =
      record { ready = IsReady-start (start_work worst blocking asked bit) worst 0 0 (λ v below. absurd (omega arith)); so_far = refl }

  start-numbers : (earlier v : ℕ) → Within (start_work worst blocking asked bit earlier v) ≡ start_demand worst blocking (λ w. Within (asked w)) bit (earlier + 1) v
  start-numbers earlier v = let e : earlier + 1 - 1 ≡ earlier = omega arith in rw e refl

  -- the start of a frame as the code finds it
  frame_start : (earlier : ℕ) (begin : Bound) → IsWindow (λ v. Within (start_work worst blocking asked bit earlier v)) 0 limit begin → window (start_demand worst blocking (λ w. Within (asked w)) bit (earlier + 1)) 0 limit ≡ begin
  frame_start earlier begin h =
      window-from (λ v. Within (start_work worst blocking asked bit earlier v)) (start_demand worst blocking (λ w. Within (asked w)) bit (earlier + 1)) 0 limit begin (start-numbers earlier) h

  response-past : (earlier begin : ℕ) → window (start_demand worst blocking (λ w. Within (asked w)) bit (earlier + 1)) 0 limit ≡ Within begin → limit < begin + worst → frame_response worst blocking (λ w. Within (asked w)) earliest bit limit (earlier + 1) ≡ Overload
  response-past earlier begin e h = rw (e, capped-past limit (begin + worst) h) refl

  response-within : (earlier begin : ℕ) → window (start_demand worst blocking (λ w. Within (asked w)) bit (earlier + 1)) 0 limit ≡ Within begin → begin + worst ≤ limit → frame_response worst blocking (λ w. Within (asked w)) earliest bit limit (earlier + 1) ≡ Within (begin + worst - earliest (earlier + 1))
  response-within earlier begin e h = rw (e, capped-within limit (begin + worst) h) refl

  response-none : (earlier : ℕ) → window (start_demand worst blocking (λ w. Within (asked w)) bit (earlier + 1)) 0 limit ≡ Overload → frame_response worst blocking (λ w. Within (asked w)) earliest bit limit (earlier + 1) ≡ Overload
  response-none earlier e = rw e refl

  module _ (earlier count : ℕ) (below : earlier < count) where
    -- a frame that ends past the limit leaves no bound
    pub past : (begin : ℕ) → IsWindow (λ v. Within (start_work worst blocking asked bit earlier v)) 0 limit (Within begin) → limit < begin + worst → greatest_of (frame_response worst blocking (λ w. Within (asked w)) earliest bit limit) count ≡ Overload
    past begin h late =
        greatest_of-overload (frame_response worst blocking (λ w. Within (asked w)) earliest bit limit) count (earlier + 1) (omega arith) (omega arith)
        (response-past earlier begin (frame_start earlier (Within begin) h) late)

    -- nor does one without a start
    pub none : IsWindow (λ v. Within (start_work worst blocking asked bit earlier v)) 0 limit Overload → greatest_of (frame_response worst blocking (λ w. Within (asked w)) earliest bit limit) count ≡ Overload
    none h =
        greatest_of-overload (frame_response worst blocking (λ w. Within (asked w)) earliest bit limit) count (earlier + 1) (omega arith) (omega arith)
        (response-none earlier (frame_start earlier Overload h))

  -- the walk goes on
  pub next : (earlier from steady greatest begin steady' : ℕ) → IsExecution worst → ((v w : ℕ) → v ≤ w → asked v ≤ asked w) → IsUnderWay earlier from steady greatest → IsWindow (λ v. Within (start_work worst blocking asked bit earlier v)) 0 limit (Within begin) → IsSteady (start_work worst blocking asked bit) worst earlier begin steady' → begin + worst ≤ limit → IsUnderWay (earlier + 1) (begin + worst) steady' (max greatest (begin + worst - earliest (earlier + 1)))
  next earlier from steady greatest begin steady' execution longer now h s within =
      let same : earlier + 1 - 1 ≡ earlier = omega arith in
      record {
        ready = IsReady-next (start_work worst blocking asked bit) worst earlier limit begin steady' (start_work-mono worst blocking asked bit longer) (start_work-more worst blocking asked bit) execution.some h s;
        so_far =
            greatest_of-next (frame_response worst blocking (λ w. Within (asked w)) earliest bit limit) (earlier + 1) greatest (begin + worst - earliest (earlier + 1)) (omega arith) (rw same now.so_far)
            (response-within earlier begin (frame_start earlier (Within begin) h) within);
      }
