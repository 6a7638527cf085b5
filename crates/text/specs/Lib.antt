-- The definitions that the contracts of `text` cite: the switches of an edition, refusals, bytes, UTF-8, buffers.
pub mod Switches
pub mod Refusal
pub mod Bytes
pub mod Utf8
pub mod Buffers
pub mod Internal
