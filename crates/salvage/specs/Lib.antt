-- The definitions that the contracts of `salvage` cite.
pub mod Salvage
pub mod Internal
