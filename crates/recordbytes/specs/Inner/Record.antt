-- A wrapper put together from its two stored parts. Assumes nothing: these are definitions.
use Rattle.std.specs.Prelude.{ℕ, List}
use Rattle.wrapper.specs.declared.Head.{Head}
use Rattle.wrapper.specs.declared.Wrapper.{Wrapper}

-- This is the wrapper with the head `h` and the command block `block`.
abbrev pub wrapper_of_head : Head → List ℕ → Wrapper
wrapper_of_head h block = record { tag = h.tag; length = h.length; direction = h.direction; lun = h.lun; blocklength = h.blocklength; block = block }
