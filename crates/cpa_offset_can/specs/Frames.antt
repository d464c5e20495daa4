-- What frames ask for in numbers, where others ask for `asked w` in a window.
use Rattle.std.proofs.Common.{ℕ, ◌+◌, ◌*◌, ◌≤◌, arith}
use Rattle.std.proofs.Math.Nat.{mul-le-mul_right}

-- what keeps the bus busy
abbrev pub busy_work : ℕ → ℕ → (ℕ → ℕ) → (ℕ → ℕ) → ℕ → ℕ
busy_work worst blocking frames asked w = blocking + frames w * worst + asked w

-- what comes before the start of a frame, where so many of the task's own came earlier
abbrev pub start_work : ℕ → ℕ → (ℕ → ℕ) → ℕ → ℕ → ℕ → ℕ
start_work worst blocking asked bit earlier w = blocking + earlier * worst + asked (w + bit)

-- a longer window asks for no less
pub busy_work-mono : (worst blocking : ℕ) (frames asked : ℕ → ℕ) → ((v w : ℕ) → v ≤ w → frames v ≤ frames w) → ((v w : ℕ) → v ≤ w → asked v ≤ asked w) → (v w : ℕ) → v ≤ w → busy_work worst blocking frames asked v ≤ busy_work worst blocking frames asked w
busy_work-mono worst blocking frames asked more longer v w shorter =
    let own : frames v * worst ≤ frames w * worst = mul-le-mul_right worst (more v w shorter) in
    let others : asked v ≤ asked w = longer v w shorter in
    omega arith

pub start_work-mono : (worst blocking : ℕ) (asked : ℕ → ℕ) (bit : ℕ) → ((v w : ℕ) → v ≤ w → asked v ≤ asked w) → (earlier v w : ℕ) → v ≤ w → start_work worst blocking asked bit earlier v ≤ start_work worst blocking asked bit earlier w
start_work-mono worst blocking asked bit longer earlier v w shorter =
    let others : asked (v + bit) ≤ asked (w + bit) = longer (v + bit) (w + bit) (omega arith) in
    omega arith

-- and a frame more asks for its length
pub start_work-more : (worst blocking : ℕ) (asked : ℕ → ℕ) (bit earlier w : ℕ) → start_work worst blocking asked bit earlier w + worst ≤ start_work worst blocking asked bit (earlier + 1) w
start_work-more worst blocking asked bit earlier w = omega arith
