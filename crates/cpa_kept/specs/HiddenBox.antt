-- What a sealed session owns: what a box of it owns, or nothing where there is none.
use Rattle.std.specs.Prelude.{Option, Some, None}
use Rattle.std.specs.Box.Ownership.{box_owns}
use Rattle.std.specs.Coded.{Coded, coded_option}
use Rattle.std.specs.Global.{Global}
use Rattle.std_heap.specs.contracts.GlobalAllocator.TheImpl.{ghosts}
use base.Fml.{Fml, ftrue}
use denote.RawPtr.{Ptr}
use mir.Syntax.{Ty}
use Rattle.cpa_model.specs.SystemLists.{SystemLists}
use Rattle.cpa_session.specs.contracts.session.Session.{the_row}

-- the allocator, of which there is one
abbrev pub heap : Global
heap = record { memory = record { seal = tt } }

-- the right to free what lies at a pointer
abbrev pub frees : Ty → Ptr → Fml
frees = ghosts.dealloc_token heap

abbrev pub sealed_owns : Ptr → Option SystemLists → Fml
sealed_owns at None = ftrue
sealed_owns at (Some s) = box_owns frees the_row at s

abbrev pub kept_coded : Coded (Option SystemLists)
kept_coded = coded_option (the_row.coded)
