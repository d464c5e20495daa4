-- Chains in a list.
use Rattle.std.specs.Prelude.{ℕ, ◌<◌, ◌≤◌, List, slice_index_or}
use Rattle.cpa_units.specs.declared.limits.TheConstants.{MAX_PAYLOAD, MAX_SIZE}
use Rattle.cpa_gen.specs.declared.chains.Chain.{Chain}

-- what stands outside a list
abbrev pub no_chain : Chain
no_chain = record { period = 0; jitter = 0; first = 0; payload = 0; last = 0; processor = 0 }

abbrev pub chain_at : List Chain → ℕ → Chain
chain_at cs k = slice_index_or cs k no_chain

-- a chain whose frame and whose processor are in range
pub record IsChain (c : Chain) : Type 0 where
  pub payload : c.payload ≤ MAX_PAYLOAD
  pub processor : c.processor < MAX_SIZE
