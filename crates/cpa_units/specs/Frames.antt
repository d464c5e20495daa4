-- The lengths of CAN frames in bits, with the three bits between frames: the greatest is that of the most stuffed bits
-- (Davis, Burns, Bril and Lukkien 2007), the least that of none.
use Rattle.std.specs.Prelude.{ℕ, ◌+◌, ◌*◌, Bool, true, false}

-- the least and the greatest length of a frame with so many bytes of payload; an extended frame has 29 bits of
-- identifier, any other 11
abbrev pub least_frame_bits : ℕ → Bool → ℕ
least_frame_bits payload false = 47 + 8 * payload
least_frame_bits payload true = 67 + 8 * payload

abbrev pub greatest_frame_bits : ℕ → Bool → ℕ
greatest_frame_bits payload false = 55 + 10 * payload
greatest_frame_bits payload true = 80 + 10 * payload
