-- Loads and puts that don't fail.
use Rattle.std.proofs.Common.{◌≡◌, ℕ, List, Some, true, false, ◌&&◌, not, length, IsTrue, ◌==◌}
use Rattle.cpa_io.specs.Memory.{FilesInMemory, SinkInMemory, held_under, is_failing, load_fails, put_fails}

-- a load doesn't fail whose number isn't listed and whose name is held
pub spared_load : (files : FilesInMemory) (name bytes : List ℕ) →
    is_failing files.failing files.calls ≡ false → held_under name files.entries ≡ Some bytes →
    ¬ IsTrue (load_fails files name)
spared_load files name bytes unlisted held = rw (unlisted, held) (λ fails. cc)

-- a put doesn't fail whose number isn't listed
pub spared_put : (sink : SinkInMemory) (piece : List ℕ) →
    is_failing sink.failing sink.calls ≡ false → ¬ IsTrue (put_fails sink piece)
spared_put sink piece unlisted =
    rw unlisted (elim (length piece == 0) as (λ empty. ¬ IsTrue (not empty && false)) [ true ↦ λ fails. cc | false ↦ λ fails. cc ])
