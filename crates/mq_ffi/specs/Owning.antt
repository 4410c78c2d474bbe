-- What a handle owns.
use Rattle.std.specs.Prelude.{ℕ, ◌==◌, Option, Some, None, if◌then◌else◌}
use base.Fml.{Fml, ftrue}
use denote.RawPtr.{Ptr}
use Rattle.std_alloc.specs.Box.Ownership.{box_owns}
use Rattle.std_heap.specs.contracts.GlobalAllocator.TheImpl.{ghosts}
use Rattle.std_heap.specs.declared.Global.{Global}
use Rattle.mq_ffi.specs.declared.live.Live.{Live}
use Rattle.mq_ffi.specs.contracts.live.Live as live

-- the heap of the C library
abbrev pub here : Global
here = record { memory = record { seal = tt } }

-- what a pointer owns: nothing, or a judge, with the right to free its block
abbrev pub inside : Ptr → Option Live → Fml
inside p None = ftrue
inside p (Some value) = box_owns (ghosts.dealloc_token here) live.the_row p value

-- the judge of a handle: that of its pointer, if the handle's number is 1
abbrev pub held_by : ℕ → Option Live → Option Live
held_by holds live = if holds == 1 then live else None
