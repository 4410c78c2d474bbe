-- The judge that a handle holds.
use Rattle.std.specs.Prelude.{Option}
use Rattle.mq_ffi.specs.Owning.{held_by}
use Rattle.mq_ffi.specs.declared.live.Live.{Live}
use Rattle.mq_ffi.specs.declared.handle.Handle.{Handle}

abbrev pub held : Handle → Option Live
held handle = held_by handle.holds handle.pointer.live
