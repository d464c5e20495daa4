-- The lengths of frames on a queue that serves a port of an Ethernet switch.
use Rattle.std.specs.Prelude.{ℕ, ◌+◌, ◌*◌, ◌/◌, max}
use Rattle.std.specs.Int.{div_ceil}

-- the bits that a frame with so many bytes of payload takes on the wire: 8 bytes before it, 18 of addresses, type and check sum,
-- 12 of gap behind it, and at least 46 of payload (IEEE 802.3)
abbrev pub port_frame_bits : ℕ → ℕ
port_frame_bits payload = 8 * (38 + max payload 46)

-- the least and the greatest ticks of such a frame, at so many bits in a tick
abbrev pub least_port_ticks : ℕ → ℕ → ℕ
least_port_ticks payload rate = port_frame_bits payload / rate

abbrev pub greatest_port_ticks : ℕ → ℕ → ℕ
greatest_port_ticks payload rate = div_ceil (port_frame_bits payload) rate
