-- A caller of the leaves in C or Rust has to believe these definitions.
--     Buffer    the buffer's calls
--     Codecs    the wrapper and the status, on numbers and bytes; the decoder's is scsi.specs.Numbers, the verdict's wrapper.specs.Verdict
--     Inner     what only inner functions need
pub mod Buffer
pub mod Codecs
pub mod Inner
