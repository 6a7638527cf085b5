-- The definitions that the contracts of `summarize` cite.
pub mod Heights
