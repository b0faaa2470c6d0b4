-- The code reads the head of a wrapper apart from the command block. Assumes nothing: these are definitions.
use Rattle.wrapper.specs.declared.Wrapper.{Wrapper}
use Rattle.wrapper.specs.declared.Head.{Head}

-- This is the head of the wrapper `w`: all its fields but the command block.
abbrev pub head_of : Wrapper → Head
head_of w = record { tag = w.tag; length = w.length; direction = w.direction; lun = w.lun; blocklength = w.blocklength }
